-- The text of a tiler is read as that tiler.
use Rattle.std.proofs.Common.{◌≡◌, ℕ, ◌+◌, ◌<◌, ◌≤◌, ℤ, option_map, List, [], ◌∷◌, ◌++◌, length, map, Bool, true, false, cond, ◌&&◌, leb, Option, Some, None, Result, Ok, refl, sym, ◌∙◌, ap, subst, arith, append_assoc, codes}
use Rattle.std.specs.Fmt.{signed_decimal}
use Rattle.std.specs.List.{list_all, join_with_byte, AllByRecursion}
use Rattle.std.proofs.lemmas.Bool.{and_from, lt-leb}
use Rattle.aol_shape.specs.declared.limit.LimitName.{LimitName}
use Rattle.aol_shape.specs.declared.limit.LimitName.TheVariants.{Rank}
use Rattle.aol_shape.specs.Lists.{or_else}
use Rattle.aol_shape.specs.Vectors.{IsVector, IsVectorEntry}
use Rattle.aol_shape.specs.Texts.{is_numeral, numeral_value}
use Rattle.aol_shape.specs.Tokens.{Token, first_passing, first_passing_from, separated, braced, plain, sign}
use Rattle.aol_shape.specs.Machine.{stuck_at}
use Rattle.aol_shape.specs.Grammar.{start_of, limited, reading}
use Rattle.aol_shape.proofs.Stuck.{not_stuck}
use Rattle.aol_tiler.specs.Matrices.{TilerOf}
use Rattle.aol_tiler.specs.Tiler.{IsTiler}
use Rattle.aol_vsl.specs.Text.{Numeral, WrittenTiler, is_written_tiler, written_value, member, vector_limit, vector_members, vector_tokens, column_members, column_tokens, columns_from, tiler_tokens, tiler_grammar, braced_text, vector_text, matrix_text, tiler_text}
use Rattle.aol_vsl.specs.Reading.{recognizer, tiler_goals, tiler_reading, written_tiler}
use Rattle.aol_vsl.proofs.Spaced.{Spaced, more_texts, vector_texts, more_columns, matrix_texts, name_texts, tiler_texts}
use Rattle.aol_vsl.proofs.Lexemes.{lexed, lexed_texts}
use Rattle.aol_vsl.proofs.TilerLexemes.{tiler_apart}
use Rattle.aol_vsl.proofs.TilerWritten.{written_is}
use Rattle.aol_vsl.proofs.CompleteTilers.{tiler_accepted}
use Rattle.aol_vsl.proofs.Limits.{answer, limited_is}
use Rattle.aol_vsl.proofs.Again.{signed_all, signed_values, vector_passes}

-- ---- the canonical text spells its texts

-- texts one after another
abbrev glued : List (List ℕ) → List ℕ
glued [] = []
glued (t ∷ ts) = t ++ glued ts

glued_both : (ts us : List (List ℕ)) → glued (ts ++ us) ≡ glued ts ++ glued us
glued_both [] us = refl
glued_both (t ∷ ts) us = ap (λ bs. t ++ bs) (glued_both ts us) ∙ sym (append_assoc t (glued ts) (glued us))

glued_spaced : (ts : List (List ℕ)) → Spaced (glued ts) ts
glued_spaced [] = refl
glued_spaced (t ∷ ts) = ([], glued ts, refl, refl, glued_spaced ts)

glued_more : (n : Numeral) (ns : List Numeral) → glued (n ∷ more_texts ns) ≡ join_with_byte 44 (n ∷ ns) ++ 125 ∷ []
glued_more n [] = refl
glued_more n (m ∷ ns) = ap (λ bs. n ++ 44 ∷ bs) (glued_more m ns) ∙ sym (append_assoc n (44 ∷ join_with_byte 44 (m ∷ ns)) (125 ∷ []))

glued_vector : (ns : List Numeral) → glued (vector_texts ns) ≡ braced_text ns
glued_vector [] = refl
glued_vector (n ∷ ns) = ap (λ bs. 123 ∷ bs) (glued_more n ns)

-- the numerals of columns
abbrev written_columns : List (List ℤ) → List (List Numeral)
written_columns = map (map signed_decimal)

glued_columns : (c : List ℤ) (cs : List (List ℤ)) → glued (vector_texts (map signed_decimal c) ++ more_columns (written_columns cs)) ≡ join_with_byte 44 (map vector_text (c ∷ cs)) ++ 125 ∷ []
glued_columns c [] = let ns : List Numeral = map signed_decimal c in glued_both (vector_texts ns) (more_columns []) ∙ ap (λ bs. bs ++ 125 ∷ []) (glued_vector ns)
glued_columns c (d ∷ cs) =
    let ns : List Numeral = map signed_decimal c in
    let rest : List (List ℕ) = vector_texts (map signed_decimal d) ++ more_columns (written_columns cs) in
    glued_both (vector_texts ns) ((44 ∷ []) ∷ rest)
    ∙ ap (λ bs. bs ++ 44 ∷ glued rest) (glued_vector ns)
    ∙ ap (λ bs. vector_text c ++ 44 ∷ bs) (glued_columns d cs)
    ∙ sym (append_assoc (vector_text c) (44 ∷ join_with_byte 44 (map vector_text (d ∷ cs))) (125 ∷ []))

glued_matrix : (cs : List (List ℤ)) → glued (matrix_texts (written_columns cs)) ≡ matrix_text cs
glued_matrix [] = refl
glued_matrix (c ∷ cs) = ap (λ bs. 123 ∷ bs) (glued_columns c cs)

-- a tiler as its numerals
abbrev pub written_of : TilerOf → WrittenTiler
written_of t = record { origin = map signed_decimal t.origin; paving = written_columns t.paving; fitting = written_columns t.fitting }

seven : (a b c d e f g : List ℕ) → (((((a ++ b) ++ c) ++ d) ++ e) ++ f) ++ g ≡ a ++ (b ++ (c ++ (d ++ (e ++ (f ++ g)))))
seven a b c d e f g = simp append_assoc

glued_tiler : (t : TilerOf) → glued (tiler_texts (written_of t)) ≡ tiler_text t
glued_tiler t =
    let w : WrittenTiler = written_of t in
    let t5 : List (List ℕ) = matrix_texts w.fitting ++ (41 ∷ []) ∷ [] in
    let t4 : List (List ℕ) = name_texts 44 (codes "fitting") ++ t5 in
    let t3 : List (List ℕ) = matrix_texts w.paving ++ t4 in
    let t2 : List (List ℕ) = name_texts 44 (codes "paving") ++ t3 in
    ap (λ bs. codes "(origin=" ++ bs)
    (glued_both (vector_texts w.origin) t2
    ∙ ap (λ bs. bs ++ glued t2) (glued_vector w.origin)
    ∙ ap (λ bs. vector_text t.origin ++ (codes ",paving=" ++ bs))
    (glued_both (matrix_texts w.paving) t4
    ∙ ap (λ bs. bs ++ glued t4) (glued_matrix t.paving)
    ∙ ap (λ bs. matrix_text t.paving ++ (codes ",fitting=" ++ bs))
    (glued_both (matrix_texts w.fitting) ((41 ∷ []) ∷ []) ∙ ap (λ bs. bs ++ 41 ∷ []) (glued_matrix t.fitting))))
    ∙ sym (seven (codes "(origin=") (vector_text t.origin) (codes ",paving=") (matrix_text t.paving) (codes ",fitting=") (matrix_text t.fitting) (codes ")"))

-- ---- no token passes a limit

-- no token passes a limit
abbrev pub Free : List Token → Type 0
Free [] = Unit {0}
Free (t ∷ ts) = (t.passes ≡ None) × Free ts

free_none : (ts : List Token) (j : ℕ) → Free ts → first_passing_from j ts ≡ None
free_none [] j f = refl
free_none (t ∷ ts) j f = ap (λ o. or_else (option_map (λ name. (j, name)) o) (first_passing_from (j + 1) ts)) f.0 ∙ free_none ts (j + 1) f.1

free_both : (ts us : List Token) → Free ts → Free us → Free (ts ++ us)
free_both [] us f g = g
free_both (t ∷ ts) us f g = (f.0, free_both ts us f.1 g)

separated_free : (ms : List (List Token)) → AllByRecursion Free ms → Free (separated ms)
separated_free [] f = tt
separated_free (m ∷ []) f = f.0
separated_free (m ∷ n ∷ ms) f = free_both m (sign 44 ∷ separated (n ∷ ms)) f.0 (refl, separated_free (n ∷ ms) f.1)

braced_free : (ms : List (List Token)) → AllByRecursion Free ms → Free (braced ms)
braced_free ms f = (refl, free_both (separated ms) (sign 125 ∷ []) (separated_free ms f) (refl, tt))

members_free : (zs : List ℤ) (k : ℕ) → k + length zs ≤ 12 → AllByRecursion IsVectorEntry zs → AllByRecursion Free (vector_members k (map signed_decimal zs))
members_free [] k h e = tt
members_free (z ∷ zs) k h e = ((vector_passes k z (omega (arith, h)) e.0, tt), members_free zs (k + 1) (omega (arith, h)) e.1)

vector_free : (zs : List ℤ) → IsVector zs → Free (vector_tokens (map signed_decimal zs))
vector_free zs v = braced_free (vector_members 0 (map signed_decimal zs)) (members_free zs 0 (omega (arith, v.rank)) v.entry)

column_members_are : (j k : ℕ) (ns : List Numeral) → leb 12 j ≡ false → column_members j k ns ≡ vector_members k ns
column_members_are j k [] e = refl
column_members_are j k (n ∷ ns) e =
    let o : Option LimitName = vector_limit k (numeral_value n) in
    ap (λ t. member n (cond t (Some Rank) o) ∷ column_members j (k + 1) ns) e ∙ ap (λ ms. member n o ∷ ms) (column_members_are j (k + 1) ns e)

-- one of the first columns is a vector
pub column_is : (j : ℕ) (ns : List Numeral) → leb 12 j ≡ false → column_tokens j ns ≡ vector_tokens ns
column_is j [] e = let brace : Bool → Token = λ t. record { text = 123 ∷ []; passes = cond t (Some Rank) None } in ap (λ t. brace t ∷ sign 125 ∷ []) e
column_is j (n ∷ ns) e = ap braced (column_members_are j 0 (n ∷ ns) e)

columns_free : (cs : List (List ℤ)) (j : ℕ) → j + length cs ≤ 12 → AllByRecursion IsVector cs → AllByRecursion Free (columns_from j (written_columns cs))
columns_free [] j h v = tt
columns_free (c ∷ cs) j h v = (subst Free (sym (column_is j (map signed_decimal c) (lt-leb 12 j (omega (arith, h))))) (vector_free c v.0), columns_free cs (j + 1) (omega (arith, h)) v.1)

tiler_free : (t : TilerOf) → IsTiler t → Free (tiler_tokens (written_of t))
tiler_free t i =
    let w : WrittenTiler = written_of t in
    let name : ℕ → List ℕ → List Token → List Token = λ c n ts. sign c ∷ plain n ∷ sign 61 ∷ ts in
    let o : List Token = name 40 (codes "origin") (vector_tokens w.origin) in
    let p : List Token = name 44 (codes "paving") (braced (columns_from 0 w.paving)) in
    let f : List Token = name 44 (codes "fitting") (braced (columns_from 0 w.fitting)) in
    let matrix : (cs : List (List ℤ)) → length cs ≤ 12 → AllByRecursion IsVector cs → Free (braced (columns_from 0 (written_columns cs))) = λ cs h v. braced_free (columns_from 0 (written_columns cs)) (columns_free cs 0 (omega (arith, h)) v) in
    let o_free : Free o = (refl, (refl, (refl, vector_free t.origin i.origin))) in
    let p_free : Free p = (refl, (refl, (refl, matrix t.paving i.paving i.in_paving))) in
    let f_free : Free f = (refl, (refl, (refl, matrix t.fitting i.fitting i.in_fitting))) in
    free_both ((o ++ p) ++ f) (sign 41 ∷ []) (free_both (o ++ p) f (free_both o p o_free p_free) f_free) (refl, tt)

-- ---- the tiler

columns_all : (cs : List (List ℤ)) → AllByRecursion IsVector cs → list_all (list_all is_numeral) (written_columns cs) ≡ true
columns_all [] v = refl
columns_all (c ∷ cs) v = and_from (list_all is_numeral (map signed_decimal c)) (list_all (list_all is_numeral) (written_columns cs)) (signed_all c v.0.entry) (columns_all cs v.1)

columns_values : (cs : List (List ℤ)) → AllByRecursion IsVector cs → map (map numeral_value) (written_columns cs) ≡ cs
columns_values [] v = refl
columns_values (c ∷ cs) v = ap (λ d. d ∷ map (map numeral_value) (written_columns cs)) (signed_values c v.0.entry) ∙ ap (λ ds. c ∷ ds) (columns_values cs v.1)

written_all : (t : TilerOf) → IsTiler t → is_written_tiler (written_of t) ≡ true
written_all t i =
    let o : Bool = list_all is_numeral (map signed_decimal t.origin) in
    let p : Bool = list_all (list_all is_numeral) (written_columns t.paving) in
    and_from (o && p) (list_all (list_all is_numeral) (written_columns t.fitting)) (and_from o p (signed_all t.origin i.origin.entry) (columns_all t.paving i.in_paving)) (columns_all t.fitting i.in_fitting)

written_values : (t : TilerOf) → IsTiler t → written_value (written_of t) ≡ t
written_values t i =
    let build : List ℤ → List (List ℤ) → List (List ℤ) → TilerOf = λ o p f. record { origin = o; paving = p; fitting = f } in
    let p : List (List ℤ) = map (map numeral_value) (written_columns t.paving) in
    let f : List (List ℤ) = map (map numeral_value) (written_columns t.fitting) in
    ap (λ o. build o p f) (signed_values t.origin i.origin.entry) ∙ ap (λ q. build t.origin q f) (columns_values t.paving i.in_paving) ∙ ap (λ g. build t.origin t.paving g) (columns_values t.fitting i.in_fitting)

pub tiler_again : (t : TilerOf) → IsTiler t → tiler_reading (tiler_text t) ≡ Ok t
tiler_again t i =
    let w : WrittenTiler = written_of t in
    let all : is_written_tiler w ≡ true = written_all t i in
    let text : List ℕ = tiler_text t in
    let spaced : Spaced text (tiler_texts w) = subst (λ bs. Spaced bs (tiler_texts w)) (glued_tiler t) (glued_spaced (tiler_texts w)) in
    ap (λ o. reading tiler_grammar o (lexed 0 text) written_tiler) (not_stuck (recognizer tiler_goals) 0 tiler_goals text (tiler_accepted text w all spaced))
    ∙ ap (limited tiler_grammar (lexed 0 text)) (written_is w all (lexed 0 text) (lexed_texts (tiler_texts w) (tiler_apart w all) 0 text spaced))
    ∙ limited_is tiler_grammar (lexed 0 text) w refl
    ∙ ap (λ o. answer (option_map (λ f. (start_of (lexed 0 text) f.0, f.1)) o) (written_value w)) (free_none (tiler_tokens w) 0 (tiler_free t i))
    ∙ ap Ok (written_values t i)
