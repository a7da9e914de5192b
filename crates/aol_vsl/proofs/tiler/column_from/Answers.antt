use Rattle.std.proofs.Common.{◌≡◌, ◌+◌, ◌<◌, w32, rules, to_z, of_z, SFits, ℤ, None, List, [], ◌∷◌, ◌++◌, length, take, sym, ◌∙◌, ap, subst, arith}
use Rattle.std.proofs.Math.ListN.{set}
use Rattle.std.proofs.lemmas.List.{take_more_set, length-set, length-take}
use Rattle.std.proofs.lemmas.Int.{to_z-of_z}
use Rattle.aol_shape.specs.Grammar.{Lexeme}
use Rattle.aol_shape.specs.Vectors.{IsVector}
use Rattle.aol_vsl.specs.Number.{number_value, lexeme_of, lexemes_at}
use Rattle.aol_vsl.specs.Text.{column_limit, vector_limit}
use Rattle.aol_vsl.specs.Walk.{column_walk}
use Rattle.aol_vsl.proofs.Entries.{vector_limit_none, vector_push}
use Rattle.aol_vsl.proofs.WalkSteps.{column_limit_none, column_entry}
use Rattle.aol_vsl.proofs.tiler.column_from.Goals as goal

pub loop-found-preserved-in-Ok : goal.loop-found-preserved-in-Ok
loop-found-preserved-in-Ok c =
    let text = c.args.text.now in
    let k = c.loop-found.count in
    let entries = c.loop-found.entries in
    let found = c.in-Some.found in
    let z = number_value c.in-Some-number_of.number in
    let vs : List ℤ = take k entries in
    let rest : List Lexeme = lexemes_at text found.end in
    let fits : SFits w32 c.in-Ok.entry = search rules in
    let n : length vs ≡ k = omega (arith, length-take k entries, c.loop-found.invariant.few, c.loop-found.invariant.room) in
    let first : (c.args.column < 12) × (vector_limit k z ≡ None) = column_limit_none c.args.column k z c.in-Ok.ensures.0 in
    let few : k < 12 = (vector_limit_none k z first.1).0 in
    let same : take (k + 1) (set entries k (to_z w32 (of_z w32 c.in-Ok.entry))) ≡ vs ++ z ∷ [] =
    take_more_set entries k (to_z w32 (of_z w32 c.in-Ok.entry)) (omega (arith, few, c.loop-found.invariant.room)) ∙ ap (λ e. vs ++ e ∷ []) (to_z-of_z w32 c.in-Ok.entry fits ∙ c.in-Ok.ensures.1) in
    record {
      read = c.loop-found.invariant.read
          ∙ column_entry c.args.column c.args.opened vs (lexeme_of text found) (lexemes_at text c.loop-found.place) rest c.in-Some.ensures.found (search rules) c.in-Some-number_of.ensures.0 z c.in-Some-number_of.ensures.1 (subst (λ m. column_limit c.args.column m z ≡ None) (sym n) c.in-Ok.ensures.0)
          ∙ ap (λ ws. column_walk c.args.column c.args.opened ws rest) (sym same);
      vector = subst IsVector (sym same) (vector_push vs z (subst (λ m. vector_limit m z ≡ None) (sym n) first.1) c.loop-found.invariant.vector);
      column = λ _. first.0;
      few = omega (arith, few);
      room = length-set _ _ _ ∙ c.loop-found.invariant.room;
      from = omega (arith, c.loop-found.invariant.from, c.in-Some.ensures.within.0);
      within = c.in-Some.ensures.within.2;
    }
