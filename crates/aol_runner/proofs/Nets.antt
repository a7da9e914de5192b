-- An accepted model that is laid out has a net.
use Rattle.std.proofs.Common.{◌≡◌, ℕ, List, [], ◌∷◌, length, Option, Some, None, slice_get, sym, ◌∙◌, ap, refl, arith, subst}
use Rattle.std.specs.List.{IsAmong, AllZip}
use Rattle.aol_expr_tree.specs.declared.value.Val.{Val}
use Rattle.aol_model_types.specs.Rules.{inputs_of}
use Rattle.aol_flat.specs.Place.{Element, elements_of}
use Rattle.aol_flat.specs.Instance.{Instance, Run, Copy, instances, of_task, read_elements, written_elements}
use Rattle.aol_flat.specs.InstanceNeed.{IsReal}
use Rattle.aol_flat.specs.Laid.{Laid, IsLaid, IsCellOf, IsReadOf}
use Rattle.aol_flat.specs.Net.{Net, IsNetOf, instance_gives}
use Rattle.aol_flat.specs.Reads.{IsRead, by_run, by_copy}
use Rattle.aol_flat.specs.Accept.{IsSound, IsAccepted}
use Rattle.aol_flat.specs.declared.view.Read.{Read}
use Rattle.aol_model_types.specs.declared.document.Model.{Model}
use Rattle.aol_flat.proofs.Agree.{IsAmong-tail}
use Rattle.aol_flat.proofs.Among.{among_get}
use Rattle.aol_flat.proofs.Real.{sound_is_real}
use Rattle.aol_runner.specs.Nets.{NetExists}
use Rattle.aol_runner.proofs.Aligned.{some_injective, among_one, zip_at}
use Rattle.aol_runner.proofs.HomeCells.{written_cell, given_read}

-- ---- one for each

pub chosen : {X Y : Type 0} (R : X → Y → Type 0) (xs : List X) → ((x : X) → IsAmong xs x → (y : Y) × R x y) → (ys : List Y) × AllZip R xs ys
chosen R [] h = ([], tt)
chosen R (x ∷ xs) h =
    let y = h x (0, (omega arith, refl)) in
    let ys = chosen R xs (λ z a. h z (IsAmong-tail x xs z a)) in
    (y.0 ∷ ys.0, (y.1, ys.1))

pub zip_many : {X Y : Type 0} (R : X → Y → Type 0) (xs : List X) (ys : List Y) → AllZip R xs ys → length ys ≡ length xs
zip_many R [] [] z = refl
zip_many R [] (y ∷ ys) z = absurd z
zip_many R (x ∷ xs) [] z = absurd z
zip_many R (x ∷ xs) (y ∷ ys) z = let rest : length ys ≡ length xs = zip_many R xs ys z.1 in omega (arith, rest)

-- what stands at one place is related
pub zip_both : {X Y : Type 0} (R : X → Y → Type 0) (xs : List X) (ys : List Y) (k : ℕ) (x : X) (y : Y) → AllZip R xs ys → slice_get xs k ≡ Some x → slice_get ys k ≡ Some y → R x y
zip_both R xs ys k x y z at at' =
    let d = zip_at R xs ys k x z at in
    let e : d.0 ≡ y = some_injective d.0 y (sym d.1 ∙ at') in
    subst (λ w. R x w) e d.2

-- ---- what an instance reads is read

pub reads_read : (m : Model) (i : Instance) → IsReal m i → (p : Element) → IsAmong (read_elements m i) p → IsRead m p
reads_read m (Run place) real p a =
    let P : List Element → Type 0 = λ es. IsAmong es p in
    let ins : read_elements m (Run place) ≡ elements_of place real.0.ins = ap (of_task (λ t. elements_of place (inputs_of t))) real.1 in
    by_run place real.0 real.1 (subst P ins a)
reads_read m (Copy place k repetition part) real p a =
    let P : List Element → Type 0 = λ es. IsAmong es p in
    let Q : Element → Type 0 = λ x. IsRead m x in
    subst Q (sym (among_one real.1 p (subst P real.4 a))) (by_copy real.0 real.2)

-- ---- the net

module _ (f : Laid) (sound : IsSound f.model) (accepted : IsAccepted f.model) (laid : IsLaid f) where
  real_among : (i : Instance) → IsAmong (instances f.model) i → IsReal f.model i
  real_among i a = sound_is_real f.model sound a.0 i (among_get (instances f.model) a.0 i a.1.0 a.1.1)

  abbrev ReadsOf : Instance → List Read → Type 0
  ReadsOf i rs = AllZip (IsReadOf f) (read_elements f.model i) rs

  abbrev WritesOf : Instance → List ℕ → Type 0
  WritesOf i cs = AllZip (IsCellOf f) (written_elements f.model i) cs

  all_reads : (reads : List (List Read)) × AllZip ReadsOf (instances f.model) reads
  all_reads =
      chosen ReadsOf (instances f.model)
      (λ i a. chosen (IsReadOf f) (read_elements f.model i) (λ p b. given_read f sound accepted.single laid p (accepted.given p (reads_read f.model i (real_among i a) p b))))

  all_writes : (writes : List (List ℕ)) × AllZip WritesOf (instances f.model) writes
  all_writes =
      chosen WritesOf (instances f.model)
      (λ i a. chosen (IsCellOf f) (written_elements f.model i) (λ w b. written_cell f sound accepted.single laid i (real_among i a) w b))

  gives_of : Option Instance → List Val → List Val
  gives_of None taken = []
  gives_of (Some i) taken = instance_gives f.model i taken

  the_net : (net : Net) × IsNetOf f net
  unfolding gives_of
  the_net =
      let reads = all_reads in
      let writes = all_writes in (
        record { reads = reads.0; writes = writes.0; gives = λ j taken. gives_of (slice_get (instances f.model) j) taken },
        record {
          many_reads = zip_many ReadsOf (instances f.model) reads.0 reads.1;
          many_writes = zip_many WritesOf (instances f.model) writes.0 writes.1;
          reads = λ j i rs at at'. zip_both ReadsOf (instances f.model) reads.0 j i rs reads.1 at at';
          writes = λ j i cs at at'. zip_both WritesOf (instances f.model) writes.0 j i cs writes.1 at at';
          gives = λ j i taken at. ap (λ o. gives_of o taken) at;
        },
      )

pub net_exists : NetExists
net_exists f sound accepted laid = the_net f sound accepted laid
