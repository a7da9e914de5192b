-- What a reader that went on had read, and the same steps again.
use Rattle.std.proofs.Common.{◌≡◌, List, Bool, true, false, Result, Ok, refl, subst}
use Rattle.serde_json.specs.Data.{Data}
use Rattle.serde_json.specs.Find.{get}
use Rattle.aol_shape.specs.declared.limit.LimitName.{LimitName}
use Rattle.aol_model_types.specs.declared.place.Key.{Key}
use Rattle.aol_model_types.specs.Places.{key_text, to_key}
use Rattle.aol_model_types.specs.Reading.{At, Fault, ◌>>=◌, ◌>>◌, needs, within, found, object_at, member_at}
use Rattle.aol_model_types.specs.Trees.{is_tree}
use Rattle.aol_document_laws.proofs.Readable.{bind-ok, then-ok, found-ok, get-tree}

-- a reader has read some tree that a value can be as this
abbrev pub Was : {A : Type 0} → (At → Data → Result A Fault) → A → Type 0
Was f a = (at : At) × (d : Data) × (is_tree d ≡ true) × (f at d ≡ Ok a)

-- a reader reads this tree as this, at each place
abbrev pub Reads : {A : Type 0} → (At → Data → Result A Fault) → Data → A → Type 0
Reads f d a = (at : At) → f at d ≡ Ok a

-- the answer of a reader that reads this
abbrev pub answer : {A : Type 0} → A → Result A Fault
answer x = Ok x

-- what holds of an answer holds of an equal one
pub same_answer : {A : Type 0} {x y : A} → answer x ≡ Ok y → (P : A → Type 0) → P x → P y
same_answer {x} {y} e P p = let k : x ≡ y = cc in subst P k p

-- a first reading, and what came of it
pub went : {A B : Type 0} (r : Result A Fault) {next : A → Result B Fault} {b : B} {G : Type 0} → (r >>= next) ≡ Ok b → ((a : A) → r ≡ Ok a → next a ≡ Ok b → G) → G
went r {next} {b} e more = let s = bind-ok r next b e in more s.0 s.1 s.2

-- a form that was right
pub was_right : {A : Type 0} (at : At) (t : Bool) (r : Result A Fault) (a : A) → (needs at t >> r) ≡ Ok a → (t ≡ true) × (r ≡ Ok a)
was_right at true r a e = (refl, e)
was_right at false r a e = cc

-- a limit that was kept
pub was_within : {A : Type 0} (at : At) (passed : LimitName) (t : Bool) (r : Result A Fault) (a : A) → (within at passed t >> r) ≡ Ok a → (t ≡ true) × (r ≡ Ok a)
was_within at passed true r a e = (refl, e)
was_within at passed false r a e = cc

-- what came of an object that had these keys
pub formed : {B : Type 0} (keys others : List Key) (at : At) (d : Data) {r : Result B Fault} {b : B} → (object_at keys others at d >> r) ≡ Ok b → r ≡ Ok b
formed keys others at d {r} {b} e = then-ok (object_at keys others at d) r b e

-- a member that was read, and what came of it
pub took : {A B : Type 0} (at : At) (d : Data) → is_tree d ≡ true → (k : Key) (f : At → Data → Result A Fault) {next : A → Result B Fault} {b : B} {G : Type 0} → (member_at at d k f >>= next) ≡ Ok b → ((a : A) → Was f a → next a ≡ Ok b → G) → G
took at d held k f {next} {b} e more =
    let r = bind-ok (member_at at d k f) next b e in
    let m = bind-ok (found at (get (key_text k) d)) (f (to_key at k)) r.0 r.1 in
    more r.0 (to_key at k, m.0, get-tree (key_text k) d m.0 held (found-ok at (get (key_text k) d) m.0 m.1), m.2) r.2

-- a step that reads this, and goes on to that
pub goes : {A B : Type 0} {r : Result A Fault} {a : A} (f : A → Result B Fault) {b : B} → r ≡ Ok a → f a ≡ Ok b → (r >>= f) ≡ Ok b
goes f e g = rw e g
