-- What a reader of the code answers, beside what reading a tree answers.
use Rattle.std.specs.Prelude.{◌≡◌, List, map, Some, Result, Ok, Err, Vec}
use Rattle.std.specs.Borrow.{Bor}
use Rattle.std.specs.declared.alloc.Global.{Global}
use Rattle.serde_json.specs.Data.{Data}
use Rattle.serde_json.specs.View.{view}
use Rattle.serde_json.specs.declared.value.Value.{Value}
use Rattle.aol_vsl.specs.declared.refused.VslRefused.{VslRefused}
use Rattle.aol_vsl.specs.declared.refused.VslRefused.TheVariants as texts
use Rattle.aol_expr_tree.specs.declared.expr.ExprRefused.{ExprRefused}
use Rattle.aol_expr_tree.specs.declared.expr.ExprRefused.TheVariants as exprs
use Rattle.aol_model_types.specs.declared.document.DocRefused.{DocRefused}
use Rattle.aol_model_types.specs.declared.document.DocRefused.TheVariants.{Grammar, Limit, NoMemory}
use Rattle.aol_model_types.specs.Reading.{At, Fault, grammar, limit}

-- the refusal is this fault, or want of memory
abbrev pub Refuses : {A : Type 0} → DocRefused → Result A Fault → Type 0
Refuses (Grammar place) read = read ≡ Err (grammar place)
Refuses (Limit place passed) read = read ≡ Err (limit place passed)
Refuses NoMemory read = Unit {0}

-- the answer is what reading gives, unless memory ran out
abbrev pub Gives : {A : Type 0} → Result A DocRefused → Result A Fault → Type 0
Gives (Ok x) read = read ≡ Ok x
Gives (Err e) read = Refuses e read

-- a text that is lent
abbrev pub lent : {A : Type 0} → Result (Bor A) DocRefused → Result A DocRefused
lent (Ok b) = Ok b.now
lent (Err e) = Err e

-- a tree that is lent
abbrev pub lent_view : Result (Bor Value) DocRefused → Result Data DocRefused
lent_view (Ok b) = Ok (view b.now)
lent_view (Err e) = Err e

-- trees that are lent
abbrev pub lent_views : Result (Bor (List Value)) DocRefused → Result (List Data) DocRefused
lent_views (Ok b) = Ok (map view b.now)
lent_views (Err e) = Err e

-- a vector as its list
abbrev pub given_items : {A : Type 0} → Result (Vec A Global) DocRefused → Result (List A) DocRefused
given_items (Ok v) = Ok v.items
given_items (Err e) = Err e

-- the refusal of a shape, a vector or a tiler at this place
abbrev pub text_refusal : At → VslRefused → DocRefused
text_refusal at (texts.At byte) = Grammar (record { steps = at; byte = Some byte })
text_refusal at (texts.Limit byte passed) = Limit (record { steps = at; byte = Some byte }) passed
text_refusal at texts.NoMemory = NoMemory

-- the refusal of an expression at this place
abbrev pub expr_refusal : At → ExprRefused → DocRefused
expr_refusal at (exprs.At byte) = Grammar (record { steps = at; byte = Some byte })
expr_refusal at (exprs.Limit byte passed) = Limit (record { steps = at; byte = Some byte }) passed
expr_refusal at exprs.NoMemory = NoMemory
