-- Reading the text of an expression, as a function: byte by byte, where what is read so far is a stack of open brackets.
use Rattle.std.specs.Prelude.{ℕ, ◌+◌, ◌-◌, ◌*◌, min, ℤ, pos, List, [], ◌∷◌, ◌++◌, length, Bool, true, false, ◌==◌, nat_le, nat_lt, Option, Some, None, Result, Ok, Err, if◌then◌else◌}
use Rattle.std.specs.Option.{option_map, is_some, is_none, unwrap_or}
use Rattle.aol_shape.specs.declared.limit.LimitName.{LimitName}
use Rattle.aol_shape.specs.declared.limit.LimitName.TheVariants as limits
use Rattle.aol_shape.specs.Lists.{or_else}
use Rattle.aol_shape.specs.Texts.{max_name}
use Rattle.aol_shape.specs.Grammar.{TextFault, at, limit}
use Rattle.aol_shape.specs.Machine.{Machine, behind, stuck_from}
use Rattle.aol_expr_tree.specs.declared.op.ExprOp.{ExprOp}
use Rattle.aol_expr_tree.specs.declared.op.ExprOp.TheVariants.{Sub, Lt, Le, Eq}
use Rattle.aol_expr_tree.specs.declared.byte.Byte.{Byte}
use Rattle.aol_expr_tree.specs.declared.byte.Byte.TheVariants.{Blank, Digit, Letter, Dollar, Operator, Less, Equals, Comma, Open, Close, OpenBrace, CloseBrace}
use Rattle.aol_expr_tree.specs.declared.letters.Keyword.{Keyword}
use Rattle.aol_expr_tree.specs.declared.letters.Keyword.TheVariants.{Function, If, Sum}
use Rattle.aol_expr_tree.specs.declared.part.Part.{Part}
use Rattle.aol_expr_tree.specs.declared.part.Part.TheVariants.{Kept, Forgotten}
use Rattle.aol_expr_tree.specs.declared.reader.Numeral.{Numeral}
use Rattle.aol_expr_tree.specs.declared.reader.Left.{Left}
use Rattle.aol_expr_tree.specs.declared.reader.Waiting.{Waiting}
use Rattle.aol_expr_tree.specs.declared.reader.Bracket.{Bracket}
use Rattle.aol_expr_tree.specs.declared.reader.Bracket.TheVariants.{Parens, Indices, First, Second, Condition, Chosen, Other, Term}
use Rattle.aol_expr_tree.specs.declared.reader.Level.{Level}
use Rattle.aol_expr_tree.specs.declared.reader.Held.{Held}
use Rattle.aol_expr_tree.specs.declared.reader.Mode.{Mode}
use Rattle.aol_expr_tree.specs.declared.reader.Mode.TheVariants.{Operand, FirstIndex, Digits, Index, InIndex, InWord, AfterWord, Named, Whole, Smaller, Equal, SumName, InSumName, SumNamed, Bound, InBound, Bounded}
use Rattle.aol_expr_tree.specs.declared.reader.Reader.{Reader}
use Rattle.aol_expr_tree.specs.Bytes.{byte_of}
use Rattle.aol_expr_tree.specs.Words.{word_of}
use Rattle.aol_expr_tree.specs.Decimals.{no_digits, with_digit, one_digit, signed, in_64, in_bounds}
use Rattle.aol_expr_tree.specs.Parts.{seen, over_one, over_two, over_three, with_index}
use Rattle.aol_expr_tree.specs.Tree.{Tree, num, index, var, read, bin, if_else, sum, no_trees, max_nodes, max_brackets, max_terms}
use Rattle.aol_expr_tree.specs.Text.{strength}

-- ---- operators

-- no operator waits
abbrev pub nothing_waits : Waiting
nothing_waits = record { comparison = None; sum = None; product = None }

-- an operator that waits takes its right operand
abbrev pub combined : Option Left → Part → Part
combined None p = p
combined (Some l) p = over_two (bin l.op) l.part p

-- all that waits takes its right operand, what binds most tightly first
unfoldable pub grouped : Waiting → Part → Part
grouped w p = combined w.comparison (combined w.sum (combined w.product p))

-- an operator waits after this operand: what binds as tightly or more takes its right operand first
unfoldable pub waits : ExprOp → Waiting → Part → Waiting
waits op w p = if strength op == 2 then record w { product = Some (record { op = op; part = combined w.product p }) }
    else (if strength op == 1 then record { comparison = w.comparison; sum = Some (record { op = op; part = combined w.sum (combined w.product p) }); product = None }
    else record { comparison = Some (record { op = op; part = grouped w p }); sum = None; product = None })

-- ---- steps

-- on with this, in this mode
abbrev pub to : Held → Mode → Option Reader
to h m = Some (record { held = h; mode = m })

-- a token that passes a limit is noted, where none is yet
unfoldable pub noted : Bool → ℕ → LimitName → Held → Held
noted fits start name h = if fits then h else record h { passed = or_else h.passed (Some (start, name)) }

-- there is room for one more bracket
abbrev pub has_room : Held → Bool
has_room h = nat_lt (length h.levels) max_brackets

-- one more bracket is open, inside sums with so many terms
unfoldable pub inside : Held → Bracket → ℕ → Held
inside h k around = record { place = h.place; passed = h.passed; levels = record { bracket = k; waiting = h.waiting; around = h.around } ∷ h.levels; waiting = nothing_waits; around = around }

-- a bracket is opened, where there is room
unfoldable pub opened : Held → Bracket → Mode → Option Reader
opened h k m = if has_room h then to (inside h k h.around) m else None

-- an operand may begin with the byte, or a closing brace may come where it says so
unfoldable pub begun : Held → Bool → Byte → ℕ → Option Reader
begun h first Blank b = to h (if first then FirstIndex else Operand)
begun h first Digit b = to h (Digits (record { start = h.place; negative = false; digits = one_digit b }))
begun h first (Operator Sub) b = to h (Digits (record { start = h.place; negative = true; digits = no_digits }))
begun h first Dollar b = to h Index
begun h first Letter b = to h (InWord (b ∷ []))
begun h first Open b = opened h Parens Operand
begun h first _ b = None

-- a bracket after whose argument a comma stands
unfoldable pub next_argument : Bracket → Part → Option Bracket
next_argument (Indices r) p = Some (Indices (with_index r p))
next_argument (First op) p = Some (Second op p)
next_argument Condition p = Some (Chosen p)
next_argument (Chosen c) p = Some (Other c p)
next_argument _ p = None

-- what a bracket says that `)` closes after its last argument
unfoldable pub closed : Bracket → Part → Option Part
closed Parens p = Some p
closed (Second op l) p = Some (over_two (bin op) l p)
closed (Other c a) p = Some (over_three if_else c a p)
closed (Term x n) p = Some (over_one (sum x n) p)
closed _ p = None

-- what a bracket says that `}` closes after its last argument
unfoldable pub braced : Bracket → Part → Option Part
braced (Indices r) p = Some (with_index r p)
braced _ p = None

-- what a bracket says that `}` closes at once
abbrev pub unindexed : Bracket → Option Part
unindexed (Indices r) = Some r
unindexed _ = None

-- on after the innermost bracket, with the operand that it is
unfoldable pub left : Held → (Bracket → Option Part) → List Level → Option Reader
left h close [] = None
left h close (l ∷ ls) = by_part (close l.bracket)
  where
    by_part : Option Part → Option Reader
    by_part None = None
    by_part (Some p) = to (record { place = h.place; passed = h.passed; levels = ls; waiting = l.waiting; around = l.around }) (Whole p)

-- on to the next argument of the innermost bracket
unfoldable pub continued : Held → Part → List Level → Option Reader
continued h p [] = None
continued h p (l ∷ ls) = by_bracket (next_argument l.bracket p)
  where
    by_bracket : Option Bracket → Option Reader
    by_bracket None = None
    by_bracket (Some k) = to (record h { levels = record l { bracket = k } ∷ ls; waiting = nothing_waits }) Operand

-- what comes after an operand may begin with the byte
unfoldable pub after_operand : Held → Part → Byte → Option Reader
after_operand h p Blank = to h (Whole p)
after_operand h p (Operator op) = to (record h { waiting = waits op h.waiting p }) Operand
after_operand h p Less = if is_none h.waiting.comparison then to h (Smaller p) else None
after_operand h p Equals = if is_none h.waiting.comparison then to h (Equal p) else None
after_operand h p Comma = continued h (grouped h.waiting p) h.levels
after_operand h p Close = left h (λ k. closed k (grouped h.waiting p)) h.levels
after_operand h p CloseBrace = left h (λ k. braced k (grouped h.waiting p)) h.levels
after_operand h p _ = None

-- a comparison waits after an operand
abbrev pub compared : ExprOp → Held → Part → Held
compared op h p = record h { waiting = waits op h.waiting p }

-- `<=`, or the right operand of `<` may begin with the byte
unfoldable pub smaller : Held → Part → Byte → ℕ → Option Reader
smaller h p Equals b = to (compared Le h p) Operand
smaller h p k b = begun (compared Lt h p) false k b

-- `==`
unfoldable pub equal : Held → Part → Byte → Option Reader
equal h p Equals = to (compared Eq h p) Operand
equal h p _ = None

-- on with this, where it is there
abbrev pub onward : {T : Type 0} → Held → (T → Mode) → Option T → Option Reader
onward h mode None = None
onward h mode (Some t) = to h (mode t)

-- a number goes on, or ends before the byte: one that isn't in 64 bits passes its limit, and stands as 0
unfoldable pub in_digits : Held → Numeral → Byte → ℕ → Option Reader
in_digits h n Digit b = onward h (λ d. Digits (record n { digits = d })) (with_digit 19 n.digits b)
in_digits h n k b = if n.digits.count == 0 then None else by_value (in_64 (signed n.negative n.digits))
  where
    by_value : Option ℤ → Option Reader
    by_value value = after_operand (noted (is_some value) n.start limits.Number h) (seen (num (unwrap_or value (pos 0)))) k

-- an index begins
unfoldable pub new_index : Held → Byte → ℕ → Option Reader
new_index h Digit b = to h (InIndex (b - 48))
new_index h _ b = None

-- an index has a second digit, or ends before the byte
unfoldable pub in_index : Held → ℕ → Byte → ℕ → Option Reader
in_index h k Digit b = to h (Whole (seen (index (10 * k + (b - 48)))))
in_index h k byte b = after_operand h (seen (index k)) byte

-- one more letter or digit, where there is room for it
abbrev pub longer : List ℕ → ℕ → Option (List ℕ)
longer x b = if nat_lt (length x) max_name then Some (x ++ b ∷ []) else None

-- the bracket of a word opens
abbrev pub word_opened : Held → Keyword → Option Reader
word_opened h (Function op) = opened h (First op) Operand
word_opened h If = opened h Condition Operand
word_opened h Sum = if has_room h then to h SumName else None

-- what comes after a word, where blanks lead nowhere if no bracket can be opened
unfoldable pub after_word : Held → Keyword → Byte → Option Reader
after_word h w Open = word_opened h w
after_word h w Blank = if has_room h then to h (AfterWord w) else None
after_word h w _ = None

-- indices after a port, or what comes after a variable
unfoldable pub after_name : Held → List ℕ → Byte → Option Reader
after_name h x OpenBrace = opened h (Indices (seen (read x no_trees))) FirstIndex
after_name h x Blank = to h (Named x)
after_name h x k = after_operand h (seen (var x)) k

-- a name or a word goes on, or ends before the byte
unfoldable pub in_word : Held → List ℕ → Byte → ℕ → Option Reader
in_word h x Letter b = onward h InWord (longer x b)
in_word h x Digit b = onward h InWord (longer x b)
in_word h x k b = by_word (word_of x)
  where
    by_word : Option Keyword → Option Reader
    by_word (Some w) = after_word h w k
    by_word None = after_name h x k

-- a first index, or no indices
unfoldable pub first_index : Held → Byte → ℕ → Option Reader
first_index h CloseBrace b = left h unindexed h.levels
first_index h k b = begun h true k b

-- the variable of a sum may begin with the byte
unfoldable pub sum_name : Held → Byte → ℕ → Option Reader
sum_name h Letter b = to h (InSumName (b ∷ []))
sum_name h Blank b = to h SumName
sum_name h _ b = None

-- a comma after the variable
unfoldable pub sum_named : Held → List ℕ → Byte → Option Reader
sum_named h x Comma = to h (Bound x)
sum_named h x Blank = to h (SumNamed x)
sum_named h x _ = None

-- the variable goes on, or ends before the byte
unfoldable pub in_sum_name : Held → List ℕ → Byte → ℕ → Option Reader
in_sum_name h x Letter b = onward h InSumName (longer x b)
in_sum_name h x Digit b = onward h InSumName (longer x b)
in_sum_name h x k b = if is_some (word_of x) then None else sum_named h x k

-- a bound may begin with the byte
unfoldable pub bound : Held → List ℕ → Byte → ℕ → Option Reader
bound h x Digit b = to h (InBound x (record { start = h.place; negative = false; digits = one_digit b }))
bound h x Blank b = to h (Bound x)
bound h x _ b = None

-- a comma after the bound
unfoldable pub bounded : Held → List ℕ → ℕ → Byte → Option Reader
bounded h x n Comma = to (inside h (Term x n) (min (h.around * n) max_terms)) Operand
bounded h x n Blank = to h (Bounded x n)
bounded h x n _ = None

-- a bound goes on, or ends before the byte: one that a sum can't have here passes its limit, and stands as 0
unfoldable pub in_bound : Held → List ℕ → Numeral → Byte → ℕ → Option Reader
in_bound h x n Digit b = onward h (λ d. InBound x (record n { digits = d })) (with_digit 19 n.digits b)
in_bound h x n k b = by_value (in_bounds h.around n.digits.value)
  where
    by_value : Option ℕ → Option Reader
    by_value value = bounded (noted (is_some value) n.start limits.Sums h) x (unwrap_or value 0) k

-- on with the next byte, by what it may go on with
unfoldable pub stepped : Held → Mode → Byte → ℕ → Option Reader
stepped h Operand k b = begun h false k b
stepped h FirstIndex k b = first_index h k b
stepped h (Digits n) k b = in_digits h n k b
stepped h Index k b = new_index h k b
stepped h (InIndex n) k b = in_index h n k b
stepped h (InWord x) k b = in_word h x k b
stepped h (AfterWord w) k b = after_word h w k
stepped h (Named x) k b = after_name h x k
stepped h (Whole p) k b = after_operand h p k
stepped h (Smaller p) k b = smaller h p k b
stepped h (Equal p) k b = equal h p k
stepped h SumName k b = sum_name h k b
stepped h (InSumName x) k b = in_sum_name h x k b
stepped h (SumNamed x) k b = sum_named h x k
stepped h (Bound x) k b = bound h x k b
stepped h (InBound x n) k b = in_bound h x n k b
stepped h (Bounded x n) k b = bounded h x n k

-- at this place
abbrev pub placed : ℕ → Reader → Reader
placed place r = record { held = record r.held { place = place }; mode = r.mode }

-- the next byte, where it fits
unfoldable pub step : Reader → ℕ → Option Reader
step r b = option_map (placed (r.held.place + 1)) (stepped r.held r.mode (byte_of b) b)

-- ---- reading

-- the operand after which a blank leaves the reader
abbrev pub operand_of : Mode → Option Part
operand_of (Whole p) = Some p
operand_of (Named x) = Some (seen (var x))
operand_of _ = None

-- what a text says that ends after this, where no bracket is open: the limit that a token passes, and the whole expression
unfoldable pub whole : Held → List Level → Option Part → Option (Option (ℕ × LimitName) × Part)
whole h [] (Some p) = Some (h.passed, grouped h.waiting p)
whole h [] None = None
whole h (l ∷ ls) p = None

-- what a text answers that says this
unfoldable pub answered : Option (ℕ × LimitName) → Part → Result Tree TextFault
answered (Some first) p = Err (limit first.0 first.1)
answered None (Kept t) = Ok t
answered None (Forgotten n) = Err (limit 0 (if nat_le n max_nodes then limits.Depth else limits.Expression))

-- what a text says that ends here: a blank there would stand after a whole expression
unfoldable pub finished : Reader → Option (Option (ℕ × LimitName) × Part)
finished r = by_blank (stepped r.held r.mode Blank 32)
  where
    by_blank : Option Reader → Option (Option (ℕ × LimitName) × Part)
    by_blank None = None
    by_blank (Some s) = whole s.held s.held.levels (operand_of s.mode)

-- what recognizes the texts of expressions
abbrev pub recognizer : Machine Reader
recognizer = record {
  start = record { held = record { place = 0; passed = None; levels = []; waiting = nothing_waits; around = 1 }; mode = Operand };
  step = step;
  may_end = λ r. is_some (finished r);
}

-- what a text answers that ends at this place, where it says something
abbrev pub ending : ℕ → Option (Option (ℕ × LimitName) × Part) → Result Tree TextFault
ending place None = Err (at place)
ending place (Some said) = answered said.0 said.1

-- what a text answers that is stuck at the byte, or nowhere
abbrev pub by_stuck : Option ℕ → Option Reader → Result Tree TextFault
by_stuck (Some byte) r = Err (at byte)
by_stuck None None = Err (at 0)
by_stuck None (Some r) = ending r.held.place (finished r)

-- what reading the text answers from this place and state on
unfoldable pub reading_from : ℕ → Reader → List ℕ → Result Tree TextFault
reading_from place r text = by_stuck (stuck_from recognizer place (Some r) text) (behind recognizer (Some r) text)

-- what reading a text answers
unfoldable pub expr_reading : List ℕ → Result Tree TextFault
expr_reading text = reading_from 0 recognizer.start text
