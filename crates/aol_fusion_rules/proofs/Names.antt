-- The four new names of a fusion.
use Rattle.std.proofs.Common.{◌≡◌, ℕ, zero, suc, ◌+◌, ◌<◌, ◌≤◌, ◌^◌, Bool, true, false, ◌||◌, List, [], ◌∷◌, length, map, None, is_some, sym, ◌∙◌, ap, refl, arith}
use Rattle.std.specs.List.{IsAmong}
use Rattle.std.proofs.lemmas.List.{length-append, length-map}
use Rattle.std.proofs.lemmas.List.Folds.{list_any-append}
use Rattle.aol_shape.specs.Lists.{same}
use Rattle.aol_shape.specs.Texts.{is_name}
use Rattle.aol_model_types.specs.declared.document.Model.{Model}
use Rattle.aol_model_types.specs.declared.task.Task.{Task}
use Rattle.aol_model_types.specs.Rules.{task_name, task_named}
use Rattle.aol_flat.specs.Accept.{IsSound}
use Rattle.aol_flat.proofs.Among.{map_among}
use Rattle.aol_flat.proofs.Names.{same-self, same-equal}
use Rattle.aol_change.specs.Change.{is_taken, taken_names, new_name, name_limit}
use Rattle.aol_change.proofs.KeptTasks.{new_is_free}
use Rattle.aol_change.proofs.Room.{neither_limit}
use Rattle.aol_change.proofs.StillThere.{not_among}
use Rattle.aol_fusion_parts.specs.declared.ports.FusedNames.{FusedNames}
use Rattle.aol_fusion_parts.specs.Made.{fused_names, names_limit}
use Rattle.aol_fusion_laws.proofs.Fresh.{neither_of}
use Rattle.aol_paving.proofs.NewNames.{numbered_is_name, free_number_le}

-- a name that isn't taken is no member's
pub not_taken : (names : List (List ℕ)) (new name : List ℕ) → is_taken names new ≡ false → IsAmong names name → same new name ≡ false
not_taken [] new name h a = absurd (omega (arith, a.1.0))
not_taken (n ∷ names) new name h a = go (same n new) refl h a (not_taken names new name)
  where
    go : (b : Bool) → same n new ≡ b → (b || is_taken names new) ≡ false → IsAmong (n ∷ names) name → (is_taken names new ≡ false → IsAmong names name → same new name ≡ false) → same new name ≡ false
    go true e k b rest = cc
    go false e k (zero, b) rest = other (same new name) refl
      where
        other : (c : Bool) → same new name ≡ c → same new name ≡ false
        other false f = f
        other true f =
            let equal : new ≡ n = same-equal new name f ∙ b.1 in
            let clash : true ≡ false = sym (same-self n) ∙ (ap (same n) (sym equal) ∙ e) in
            absurd (cc)
    go false e k (suc i, b) rest = rest k (i, (omega (arith, b.0), b.1))

-- a new name is a name, no task's and none of those before it
pub record IsNewName (m : Model) (others : List (List ℕ)) (name : List ℕ) : Type 0 where
  pub is : is_name name ≡ true
  pub free : is_taken (map task_name m.tasks) name ≡ false
  pub apart : is_taken others name ≡ false

pub new_name_is : (m : Model) (others : List (List ℕ)) (name : List ℕ) → IsSound m → length others ≤ 3 → is_name name ≡ true → name_limit (new_name m others name) ≡ None → IsNewName m others (new_name m others name)
new_name_is m others name sound few is short =
    let new : List ℕ = new_name m others name in
    let free = new_is_free m others name sound (omega (arith, few)) in
    let parts = neither_of (is_taken (map task_name m.tasks) new) (is_taken others new) (sym (list_any-append (λ n. same n new) (map task_name m.tasks) others) ∙ free) in
    let many : length (taken_names m others) ≡ length m.tasks + length others = length-append (map task_name m.tasks) others ∙ ap (λ n. n + length others) (length-map m.tasks task_name) in
    let tasks_few : length m.tasks < 2 ^ 32 = sound.read.model.task_count in
    let number = free_number_le (taken_names m others) name (length (taken_names m others)) 1 in
    record { is = numbered_is_name name _ is (omega (arith, number, many, few, tasks_few)) short; free = parts.0; apart = parts.1 }

-- so it is no task's
pub new_task_apart : (m : Model) (others : List (List ℕ)) (name : List ℕ) → IsNewName m others name → (u : Task) → IsAmong m.tasks u → same name (task_name u) ≡ false
new_task_apart m others name h u a = not_taken (map task_name m.tasks) name (task_name u) h.free (map_among task_name m.tasks u a)

pub not_named : (m : Model) (others : List (List ℕ)) (name : List ℕ) → IsNewName m others name → is_some (task_named m.tasks name) ≡ false
not_named m others name h = not_among m.tasks name h.free

-- all four
pub record AreNewNames (m : Model) (n : FusedNames) : Type 0 where
  pub block : IsNewName m [] n.block
  pub once : IsNewName m (n.block ∷ []) n.once
  pub pair : IsNewName m (n.block ∷ n.once ∷ []) n.pair
  pub whole : IsNewName m (n.block ∷ n.once ∷ n.pair ∷ []) n.whole

pub are_new_names : (m : Model) (name : List ℕ) → IsSound m → is_name name ≡ true → names_limit (fused_names m name) ≡ None → AreNewNames m (fused_names m name)
are_new_names m name sound is short =
    let n = fused_names m name in
    let a = neither_limit (name_limit n.block) _ short in
    let b = neither_limit (name_limit n.once) _ a.1 in
    let c = neither_limit (name_limit n.pair) (name_limit n.whole) b.1 in
    record {
      block = new_name_is m [] name sound (omega arith) is a.0;
      once = new_name_is m (n.block ∷ []) name sound (omega arith) is b.0;
      pair = new_name_is m (n.block ∷ n.once ∷ []) name sound (omega arith) is c.0;
      whole = new_name_is m (n.block ∷ n.once ∷ n.pair ∷ []) name sound (omega arith) is c.1;
    }
