-- What lists have at a place after others were put into them.
use Rattle.std.proofs.Common.{◌≡◌, ◌≢◌, ℕ, zero, suc, ◌<◌, List, [], ◌∷◌, length, Some, slice_get, sym, ◌∙◌, ap, refl, arith, ◌⊎◌, inl, inr}
use Rattle.std.specs.Prelude.{slice_set}
use Rattle.std.specs.List.{IsAmong}
use Rattle.std.proofs.lemmas.List.{length-set}
use Rattle.aol_flat.proofs.Agree.{IsAmong-tail}
use Rattle.aol_equiv.specs.declared.leads.Lead.{Lead}
use Rattle.aol_equiv.specs.Leads.{set_each, put_leads}

pub set_here : {X : Type 0} (list : List X) (c : ℕ) (v : X) → c < length list → slice_get (slice_set list c v) c ≡ Some v
set_here [] c v h = absurd (omega (arith, h))
set_here (x ∷ list) zero v h = refl
set_here (x ∷ list) (suc c) v h = set_here list c v (omega (arith, h))

pub set_there : {X : Type 0} (list : List X) (c d : ℕ) (v : X) → d ≢ c → slice_get (slice_set list c v) d ≡ slice_get list d
set_there [] c d v ne = refl
set_there (x ∷ list) zero zero v ne = absurd (ne refl)
set_there (x ∷ list) zero (suc d) v ne = refl
set_there (x ∷ list) (suc c) zero v ne = refl
set_there (x ∷ list) (suc c) (suc d) v ne = set_there list c d v (λ e. ne (ap suc e))

pub either_way : (c d : ℕ) → (d ≡ c) ⊎ (d ≢ c)
either_way zero zero = inl refl
either_way zero (suc d) = inr (λ e. let f : 0 ≡ suc d = sym e in absurd (omega (arith, f)))
either_way (suc c) zero = inr (λ e. absurd (omega (arith, e)))
either_way (suc c) (suc d) = elim (either_way c d) [ inl e ↦ inl (ap suc e) | inr ne ↦ inr (λ e. ne (omega (arith, e))) ]

-- ---- one lead at some cells

pub each_length : (leads : List Lead) (cs : List ℕ) (v : Lead) → length (set_each leads cs v) ≡ length leads
each_length leads [] v = refl
each_length leads (c ∷ cs) v = each_length (slice_set leads c v) cs v ∙ length-set leads c v

each_keeps : (leads : List Lead) (cs : List ℕ) (v : Lead) (d : ℕ) → slice_get leads d ≡ Some v → d < length leads → slice_get (set_each leads cs v) d ≡ Some v
each_keeps leads [] v d h lt = h
each_keeps leads (c ∷ cs) v d h lt = each_keeps (slice_set leads c v) cs v d (go (either_way c d)) (omega (arith, lt, length-set leads c v))
  where
    go : (d ≡ c) ⊎ (d ≢ c) → slice_get (slice_set leads c v) d ≡ Some v
    go (inl e) = ap (slice_get (slice_set leads c v)) e ∙ set_here leads c v (omega (arith, lt, e))
    go (inr ne) = set_there leads c d v ne ∙ h

pub each_here : (leads : List Lead) (cs : List ℕ) (v : Lead) (d : ℕ) → IsAmong cs d → d < length leads → slice_get (set_each leads cs v) d ≡ Some v
each_here leads [] v d a lt = absurd (omega (arith, a.1.0))
each_here leads (c ∷ cs) v d (zero, a) lt =
    each_keeps (slice_set leads c v) cs v d (ap (slice_get (slice_set leads c v)) a.1 ∙ set_here leads c v (omega (arith, lt, a.1))) (omega (arith, lt, length-set leads c v))
each_here leads (c ∷ cs) v d (suc i, a) lt = each_here (slice_set leads c v) cs v d (i, (omega (arith, a.0), a.1)) (omega (arith, lt, length-set leads c v))

pub each_either : (leads : List Lead) (cs : List ℕ) (v : Lead) (d : ℕ) → IsAmong cs d ⊎ (slice_get (set_each leads cs v) d ≡ slice_get leads d)
each_either leads [] v d = inr refl
each_either leads (c ∷ cs) v d = go (either_way c d) (each_either (slice_set leads c v) cs v d)
  where
    go : (d ≡ c) ⊎ (d ≢ c) → IsAmong cs d ⊎ (slice_get (set_each (slice_set leads c v) cs v) d ≡ slice_get (slice_set leads c v) d)
        → IsAmong (c ∷ cs) d ⊎ (slice_get (set_each (slice_set leads c v) cs v) d ≡ slice_get leads d)
    go (inl e) later = inl (0, (omega arith, e))
    go (inr ne) (inl a) = inl (IsAmong-tail c cs d a)
    go (inr ne) (inr k) = inr (k ∙ set_there leads c d v ne)

-- ---- leads at some cells, one for each

pub put_length : (leads : List Lead) (cs : List ℕ) (vs : List Lead) → length (put_leads leads cs vs) ≡ length leads
put_length leads [] vs = refl
put_length leads (c ∷ cs) [] = refl
put_length leads (c ∷ cs) (v ∷ vs) = put_length (slice_set leads c v) cs vs ∙ length-set leads c v

-- a lead that was put at the cell
pub record IsPut (leads : List Lead) (cs : List ℕ) (vs : List Lead) (d : ℕ) : Type 0 where
  pub number : ℕ
  pub lead : Lead
  pub at : slice_get cs number ≡ Some d
  pub has : slice_get vs number ≡ Some lead
  pub there : slice_get (put_leads leads cs vs) d ≡ Some lead

put_later : (leads : List Lead) (c : ℕ) (cs : List ℕ) (v : Lead) (vs : List Lead) (d : ℕ) → IsPut (slice_set leads c v) cs vs d → IsPut leads (c ∷ cs) (v ∷ vs) d
put_later leads c cs v vs d p = record { number = suc p.number; lead = p.lead; at = p.at; has = p.has; there = p.there }

-- each cell has one that was put, or what it had
pub put_either : (leads : List Lead) (cs : List ℕ) (vs : List Lead) (d : ℕ) → d < length leads → IsPut leads cs vs d ⊎ (slice_get (put_leads leads cs vs) d ≡ slice_get leads d)
put_either leads [] vs d lt = inr refl
put_either leads (c ∷ cs) [] d lt = inr refl
put_either leads (c ∷ cs) (v ∷ vs) d lt = go (put_either (slice_set leads c v) cs vs d (omega (arith, lt, length-set leads c v))) (either_way c d)
  where
    go : IsPut (slice_set leads c v) cs vs d ⊎ (slice_get (put_leads (slice_set leads c v) cs vs) d ≡ slice_get (slice_set leads c v) d) → (d ≡ c) ⊎ (d ≢ c)
        → IsPut leads (c ∷ cs) (v ∷ vs) d ⊎ (slice_get (put_leads (slice_set leads c v) cs vs) d ≡ slice_get leads d)
    go (inl p) way = inl (put_later leads c cs v vs d p)
    go (inr k) (inl e) = inl (record { number = 0; lead = v; at = ap Some (sym e); has = refl; there = k ∙ (ap (slice_get (slice_set leads c v)) e ∙ set_here leads c v (omega (arith, lt, e))) })
    go (inr k) (inr ne) = inr (k ∙ set_there leads c d v ne)

-- a cell at which one is put has one
pub put_some : (leads : List Lead) (cs : List ℕ) (vs : List Lead) (d i : ℕ) (v : Lead) → slice_get cs i ≡ Some d → slice_get vs i ≡ Some v → d < length leads → IsPut leads cs vs d
put_some leads [] vs d i v at has lt = cc
put_some leads (c ∷ cs) [] d i v at has lt = cc
put_some leads (c ∷ cs) (w ∷ vs) d (suc i) v at has lt = put_later leads c cs w vs d (put_some (slice_set leads c w) cs vs d i v at has (omega (arith, lt, length-set leads c w)))
put_some leads (c ∷ cs) (w ∷ vs) d zero v at has lt = go (put_either (slice_set leads c w) cs vs d (omega (arith, lt, length-set leads c w)))
  where
    here : c ≡ d
    here = cc

    go : IsPut (slice_set leads c w) cs vs d ⊎ (slice_get (put_leads (slice_set leads c w) cs vs) d ≡ slice_get (slice_set leads c w) d) → IsPut leads (c ∷ cs) (w ∷ vs) d
    go (inl p) = put_later leads c cs w vs d p
    go (inr k) = record { number = 0; lead = w; at = at; has = refl; there = k ∙ (ap (slice_get (slice_set leads c w)) (sym here) ∙ set_here leads c w (omega (arith, lt, here))) }

pub only_here : {X : Type 0} (x y : X) → IsAmong (x ∷ []) y → y ≡ x
only_here x y (zero, a) = a.1
only_here x y (suc i, a) = absurd (omega (arith, a.0))
