-- A tree that is read shows that the model and the job are readable.
use Rattle.std.proofs.Common.{◌≡◌, ℕ, List, [], ◌∷◌, Bool, true, false, ◌&&◌, Option, Some, None, Result, Ok, Err, if◌then◌else◌, refl, sym, subst}
use Rattle.std.specs.Ordering.{nat_cmp, match_ordering}
use Rattle.std.specs.declared.cmp.Ordering.{Ordering}
use Rattle.std.specs.Cmp.Lexicographic.{slice_cmp}
use Rattle.serde_json.specs.Data.{Data, null, boolean, number, string, array, object, Members, no_members, member}
use Rattle.serde_json.specs.Find.{get, get_member}
use Rattle.aol_model_types.specs.Trees.{is_tree, are_members, is_first}
use Rattle.aol_model_types.specs.Reading.{Fault, ◌>>=◌, ◌>>◌, At, found, member_at, model_at, input_at, list_of, step_at, entry_at, members_in, object_at, has_key, version_at, document_in}
use Rattle.aol_model_types.specs.Readable.{IsReadable}
use Rattle.aol_model_types.specs.declared.document.Document.{Document}
use Rattle.aol_model_types.specs.declared.place.Key.TheVariants.{KModel, KInput, KTransform, KAllocate, KVersion}
use Rattle.aol_model_types.specs.declared.place.Key.{Key}
use Rattle.aol_model_types.specs.Places.{key_text, to_key}

abbrev WasOk : {A : Type 0} → Result A Fault → Type 0
WasOk (Ok a) = Unit {0}
WasOk (Err x) = ⊥

err-absurd : {A : Type 0} (x : Fault) (a : A) → Err x ≡ Ok a → ⊥
err-absurd x a e = subst WasOk (sym e) tt

ok-same : {A : Type 0} (a b : A) (r : Result A Fault) → r ≡ Ok a → r ≡ Ok b → a ≡ b
ok-same a b r d e = search (d, e)

-- a first reading that goes on was Ok
pub bind-ok : {A B : Type 0} (r : Result A Fault) (f : A → Result B Fault) (b : B) → (r >>= f) ≡ Ok b → (a : A) × (r ≡ Ok a) × (f a ≡ Ok b)
bind-ok (Ok a) f b e = (a, refl, e)
bind-ok (Err x) f b e = absurd (err-absurd x b e)

pub then-ok : {A B : Type 0} (r : Result A Fault) (s : Result B Fault) (b : B) → (r >> s) ≡ Ok b → s ≡ Ok b
then-ok (Ok a) s b e = e
then-ok (Err x) s b e = absurd (err-absurd x b e)

-- what is found was there
pub found-ok : {A : Type 0} (at : At) (o : Option A) (a : A) → found at o ≡ Ok a → o ≡ Some a
found-ok at (Some a) b e = search e
found-ok at None b e = absurd (err-absurd _ b e)

pub and-left : (a b : Bool) → (a && b) ≡ true → a ≡ true
and-left true b e = refl
and-left false b e = e

pub and-right : (a b : Bool) → (a && b) ≡ true → b ≡ true
and-right true b e = e
and-right false b e = search e

abbrev WasSome : {A : Type 0} → Option A → Type 0
WasSome None = ⊥
WasSome (Some x) = Unit {0}

none-absurd : {A : Type 0} (a : A) → None ≡ Some a → ⊥
none-absurd a e = subst WasSome (sym e) tt

-- a member of a tree is a tree
by_order : (o : Ordering) (e d : Data) (later : Option Data) → is_tree e ≡ true → (later ≡ Some d → is_tree d ≡ true) → match_ordering o later (Some e) later ≡ Some d → is_tree d ≡ true
by_order Ordering.Less e d later t next f = next f
by_order Ordering.Equal e d later t next f = search (t, f)
by_order Ordering.Greater e d later t next f = next f

member-tree : (k : List ℕ) (ms : Members) (d : Data) → are_members ms ≡ true → get_member k ms ≡ Some d → is_tree d ≡ true
member-tree k no_members d h f = absurd (none-absurd d f)
member-tree k (member l e ms) d h f =
    let front : (is_first l ms && is_tree e) ≡ true = and-left (is_first l ms && is_tree e) (are_members ms) h in
    by_order (slice_cmp nat_cmp k l) e d (get_member k ms) (and-right (is_first l ms) (is_tree e) front) (member-tree k ms d (and-right (is_first l ms && is_tree e) (are_members ms) h)) f

pub get-tree : (k : List ℕ) (t d : Data) → is_tree t ≡ true → get k t ≡ Some d → is_tree d ≡ true
get-tree k null d h f = absurd (none-absurd d f)
get-tree k (boolean b) d h f = absurd (none-absurd d f)
get-tree k (number n) d h f = absurd (none-absurd d f)
get-tree k (string s) d h f = absurd (none-absurd d f)
get-tree k (array ds) d h f = absurd (none-absurd d f)
get-tree k (object ms) d h f = member-tree k ms d h f

-- a member that was read is a tree, and f reads it
pub member_at-ok : {A : Type 0} (at : At) (t : Data) (k : Key) (f : At → Data → Result A Fault) (a : A) → is_tree t ≡ true → member_at at t k f ≡ Ok a → (d : Data) × (is_tree d ≡ true) × (f (to_key at k) d ≡ Ok a)
member_at-ok at t k f a h e =
    let b : (d : Data) × (found at (get (key_text k) t) ≡ Ok d) × (f (to_key at k) d ≡ Ok a) = bind-ok (found at (get (key_text k) t)) (f (to_key at k)) a e in
    (b.0, get-tree (key_text k) t b.0 h (found-ok at (get (key_text k) t) b.0 b.1), b.2)

-- the members of a document that was read
pub members-readable : (later : Bool) (t : Data) (doc : Document) → is_tree t ≡ true → members_in later t ≡ Ok doc → IsReadable doc.model doc.job
members-readable later t doc h e =
    let m = bind-ok (member_at [] t KModel (model_at later)) (λ model. member_at [] t KInput input_at >>= (λ input. member_at [] t KTransform (list_of step_at) >>= (λ transform. member_at [] t KAllocate (list_of entry_at) >>= (λ allocate. Ok (record { model = model; job = record { input = input; transform = transform; allocate = allocate } }))))) doc e in
    let i = bind-ok (member_at [] t KInput input_at) (λ input. member_at [] t KTransform (list_of step_at) >>= (λ transform. member_at [] t KAllocate (list_of entry_at) >>= (λ allocate. Ok (record { model = m.0; job = record { input = input; transform = transform; allocate = allocate } })))) doc m.2 in
    let s = bind-ok (member_at [] t KTransform (list_of step_at)) (λ transform. member_at [] t KAllocate (list_of entry_at) >>= (λ allocate. Ok (record { model = m.0; job = record { input = i.0; transform = transform; allocate = allocate } }))) doc i.2 in
    let a = bind-ok (member_at [] t KAllocate (list_of entry_at)) (λ allocate. Ok (record { model = m.0; job = record { input = i.0; transform = s.0; allocate = allocate } })) doc s.2 in
    let read = member_at-ok [] t KModel (model_at later) m.0 h m.1 in
    subst (λ z. IsReadable z.model z.job) (ok-same (record { model = m.0; job = record { input = i.0; transform = s.0; allocate = a.0 } }) doc _ refl a.2) (record {
      model = (later, read.0, read.1, read.2);
      job = record {
        input = member_at-ok [] t KInput input_at i.0 h i.1;
        transform = member_at-ok [] t KTransform (list_of step_at) s.0 h s.1;
        allocate = member_at-ok [] t KAllocate (list_of entry_at) a.0 h a.1;
      };
    })

-- a document that was read from a tree is readable
pub document_readable : (t : Data) (doc : Document) → is_tree t ≡ true → document_in t ≡ Ok doc → IsReadable doc.model doc.job
document_readable t doc h e =
    by_version (has_key t KVersion) (then-ok (object_at (KModel ∷ KInput ∷ KTransform ∷ KAllocate ∷ []) (KVersion ∷ []) [] t) (if has_key t KVersion then (member_at [] t KVersion version_at >> members_in true t) else members_in false t) doc e)
  where
    by_version : (later : Bool) → (if later then (member_at [] t KVersion version_at >> members_in true t) else members_in false t) ≡ Ok doc → IsReadable doc.model doc.job
    by_version true g = members-readable true t doc h (then-ok (member_at [] t KVersion version_at) (members_in true t) doc g)
    by_version false g = members-readable false t doc h g
