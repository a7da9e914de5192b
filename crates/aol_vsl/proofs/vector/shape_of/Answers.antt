use Rattle.std.proofs.Common.{◌≡◌, ◌+◌, ◌*◌, ◌<◌, ℕ, ℤ, List, [], ◌∷◌, ◌++◌, length, take, nat_abs, refl, sym, ◌∙◌, ap, arith}
use Rattle.std.proofs.Math.ListN.{set}
use Rattle.std.proofs.lemmas.List.{take_more_set, length-set}
use Rattle.aol_shape.specs.Grammar.{Lexeme}
use Rattle.aol_vsl.specs.Number.{number_value, lexeme_of, lexemes_at}
use Rattle.aol_vsl.specs.Text.{shape_limit}
use Rattle.aol_vsl.proofs.Limits.{walk_entry}
use Rattle.aol_vsl.proofs.Entries.{shape_walk, shape_limit_none, shape_reading_is, shape_read_within}
use Rattle.aol_vsl.proofs.vector.shape_of.Goals as goal

pub loop-found-init : goal.loop-found-init
loop-found-init c = record { read = shape_reading_is c.args.text.now c.requires.spelled; few = omega arith; small = omega arith; room = refl; within = omega arith }

pub loop-found-preserved-in-Ok : goal.loop-found-preserved-in-Ok
loop-found-preserved-in-Ok c =
    let text = c.args.text.now in
    let k = c.loop-found.count in
    let p = c.loop-found.points in
    let entries = c.loop-found.entries in
    let found = c.in-Some.found in
    let z = number_value c.in-Some-number_of.number in
    let rest : List Lexeme = lexemes_at text found.end in
    let few : k < 12 = (shape_limit_none k p z c.in-Ok.ensures.0).0 in
    let same : c.from-points.result ≡ nat_abs z = c.from-points.ensures ∙ c.in-Ok.ensures.1 in
    record {
      read = c.loop-found.invariant.read
          ∙ walk_entry (λ s. shape_limit s.0 s.1) (λ s z. (s.0 + 1, s.1 * nat_abs z)) nat_abs (k, p) (take k entries) (lexeme_of text found) (lexemes_at text c.loop-found.place) rest c.in-Some.ensures.found z c.in-Some-number_of.ensures.1 c.in-Some-number_of.ensures.0 c.in-Ok.ensures.0
          ∙ ap (λ vs. shape_walk (k + 1, p * nat_abs z) vs rest) (ap (λ e. take k entries ++ e ∷ []) (sym c.in-Ok.ensures.1) ∙ sym (take_more_set entries k c.in-Ok.entry (omega (arith, few))))
          ∙ ap (λ q. shape_walk (k + 1, p * q) (take (k + 1) (set entries k c.in-Ok.entry)) rest) (sym same);
      few = omega (arith, few);
      small = omega (arith, ap (λ q. p * q) same, (shape_limit_none k p z c.in-Ok.ensures.0).2);
      room = length-set _ _ _ ∙ c.loop-found.invariant.room;
      within = c.in-Some.ensures.within.2;
    }

pub unreachable-requires : goal.unreachable-requires
unreachable-requires c =
    let vs = take c.loop-found.count c.loop-found.entries in
    c.in-None.ensures.none (shape_read_within c.args.text.now vs c.requires.spelled (c.loop-found.invariant.read ∙ ap (shape_walk (c.loop-found.count, c.loop-found.points) vs) c.in_default.ensures.found))
