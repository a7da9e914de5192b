use Rattle.std.proofs.Common.{◌≡◌, ◌+◌, ◌<◌, w32, rules, to_z, of_z, SFits, ℕ, ℤ, List, [], ◌∷◌, ◌++◌, length, take, refl, sym, ◌∙◌, ap, arith}
use Rattle.std.proofs.lemmas.List.{take_more_set, length-set}
use Rattle.std.proofs.lemmas.Int.{to_z-of_z}
use Rattle.aol_shape.specs.Grammar.{Lexeme}
use Rattle.aol_vsl.specs.Number.{number_value, lexeme_of, lexemes_at}
use Rattle.aol_vsl.specs.Text.{vector_limit}
use Rattle.aol_vsl.proofs.Limits.{walk_entry}
use Rattle.aol_vsl.proofs.Entries.{vector_walk, same_number, vector_limit_none, vector_reading_is, vector_read_within}
use Rattle.aol_vsl.proofs.vector.vector_of.Goals as goal

pub loop-found-init : goal.loop-found-init
loop-found-init c = record { read = vector_reading_is c.args.text.now c.requires.spelled; few = omega arith; room = refl; within = omega arith }

pub loop-found-preserved-in-Ok : goal.loop-found-preserved-in-Ok
loop-found-preserved-in-Ok c =
    let text = c.args.text.now in
    let k = c.loop-found.count in
    let entries = c.loop-found.entries in
    let found = c.in-Some.found in
    let z = number_value c.in-Some-number_of.number in
    let rest : List Lexeme = lexemes_at text found.end in
    let fits : SFits w32 c.in-Ok.entry = search rules in
    let few : k < 12 = (vector_limit_none k z c.in-Ok.ensures.0).0 in
    record {
      read = c.loop-found.invariant.read
          ∙ walk_entry vector_limit (λ k z. k + 1) same_number k (take k entries) (lexeme_of text found) (lexemes_at text c.loop-found.place) rest c.in-Some.ensures.found z c.in-Some-number_of.ensures.1 c.in-Some-number_of.ensures.0 c.in-Ok.ensures.0
          ∙ ap (λ vs. vector_walk (k + 1) vs rest)
          (ap (λ e. take k entries ++ e ∷ []) (sym c.in-Ok.ensures.1 ∙ sym (to_z-of_z w32 c.in-Ok.entry fits)) ∙ sym (take_more_set entries k (to_z w32 (of_z w32 c.in-Ok.entry)) (omega (arith, few))));
      few = omega (arith, few);
      room = length-set _ _ _ ∙ c.loop-found.invariant.room;
      within = c.in-Some.ensures.within.2;
    }

pub unreachable-requires : goal.unreachable-requires
unreachable-requires c =
    let vs = take c.loop-found.count c.loop-found.entries in
    c.in-None.ensures.none (vector_read_within c.args.text.now vs c.requires.spelled (c.loop-found.invariant.read ∙ ap (vector_walk c.loop-found.count vs) c.in_default.ensures.found))
