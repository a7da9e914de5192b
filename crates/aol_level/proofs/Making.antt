-- Tasks made ready one after another.
use Rattle.std.proofs.Common.{◌≡◌, ℕ, zero, suc, ◌+◌, List, [], ◌∷◌, ◌++◌, length, take, slice_get, Option, Some, None, refl, sym, ◌∙◌, ap, subst, arith, inl, inr}
use Rattle.std.specs.List.{filter}
use Rattle.std.proofs.Math.Seq.{take-append_seam}
use Rattle.std.proofs.lemmas.List.{length-append, take-append-le}
use Rattle.std.proofs.lemmas.List.Elements.{filter-append}
use Rattle.aol_model_types.specs.declared.task.Elementary.{Elementary}
use Rattle.aol_model_types.specs.declared.task.Task.{Task}
use Rattle.aol_model_types.specs.declared.task.Task.TheVariants as tasks
use Rattle.aol_flat.specs.Tasks.{is_elementary}
use Rattle.aol_level.specs.Puts.{IsReady}
use Rattle.aol_level.specs.Made.{AreMade, IsMade, elementary_among}
use Rattle.aol_level.specs.declared.outputs.Ready.{Ready}
use Rattle.aol_level.proofs.Lists.{get_within, get_left, get_right, get_cases, some_injective, none_some}

pub among_both : (ts us : List Task) → elementary_among (ts ++ us) ≡ elementary_among ts + elementary_among us
among_both ts us = ap length (filter-append is_elementary ts us) ∙ length-append (filter is_elementary ts) (filter is_elementary us)

-- an elementary task is made ready
abbrev HasReady : Elementary → ℕ → Option Ready → Type 0
HasReady e n o = (ready : Ready) × (o ≡ Some ready) × IsReady e ready × (ready.number ≡ n)

has_ready : (e : Elementary) (n : ℕ) (o : Option Ready) → IsMade (tasks.Elementary e) n o → HasReady e n o
has_ready e n (Some ready) made = (ready, refl, made.0, made.1)
has_ready e n None made = absurd made

one_at : {X : Type 0} (x y : X) (n : ℕ) → slice_get (x ∷ []) n ≡ Some y → (n ≡ 0) × (x ≡ y)
one_at x y zero h = (refl, some_injective x y h)
one_at x y (suc n) h = absurd (none_some y h)

pub made_next : (ts : List Task) (all : List (Option Ready)) (t : Task) (one : Option Ready) (n : ℕ) → AreMade ts all → n ≡ elementary_among ts → IsMade t n one → AreMade (ts ++ t ∷ []) (all ++ one ∷ [])
made_next ts all t one n are count made = record {
  many = omega (arith, length-append ts (t ∷ []), length-append all (one ∷ []), are.many);
  each = λ k e at.
      elim (get_cases ts (t ∷ []) k (tasks.Elementary e) at) [
        | inl a ↦
            let r = are.each k e a in
            let front : take k (ts ++ t ∷ []) ≡ take k ts = take-append-le k ts (t ∷ []) (omega (arith, get_within ts k (tasks.Elementary e) a)) in
            (r.0, get_left all (one ∷ []) k (Some r.0) r.1, r.2, r.3 ∙ ap elementary_among (sym front))
        | inr b ↦
            let here = one_at t (tasks.Elementary e) b.0 b.2 in
            let r = has_ready e n one (subst (λ u. IsMade u n one) here.1 made) in
            let place : k ≡ length all + 0 = omega (arith, b.1, here.0, are.many) in
            let end : k ≡ length ts = omega (arith, b.1, here.0) in
            let front : take k (ts ++ t ∷ []) ≡ ts = ap (λ i. take i (ts ++ t ∷ [])) end ∙ take-append_seam ts (t ∷ []) in
            (r.0, ap (slice_get (all ++ one ∷ [])) place ∙ (get_right all (one ∷ []) 0 ∙ ap Some r.1), r.2, r.3 ∙ (count ∙ ap elementary_among (sym front)))
      ];
}

pub none_made : AreMade [] []
none_made = record { many = refl; each = λ k e at. absurd (none_some (tasks.Elementary e) at) }
