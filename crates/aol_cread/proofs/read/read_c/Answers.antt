use Rattle.std.proofs.Common.{◌≡◌, ◌<◌, length, [], arith, sym, ap, subst, ◌∙◌}
use Rattle.std.proofs.lemmas.Bool.Decides.{nat_tests}
use Rattle.aol_cread.specs.Stored.{state_of}
use Rattle.aol_cread.specs.Step.{taken}
use Rattle.aol_cread.specs.Wrong.{IsTextOf}
use Rattle.aol_cread.proofs.Whole.{IsRead, read_more, read_all, refused, refused_at, taken_at, nothing_taken, no_bytes, some_bytes}
use Rattle.aol_cread.proofs.read.read_c.Goals as goal

pub returns-then-not-branch-clause-at : goal.returns-then-not-branch-clause-at
returns-then-not-branch-clause-at c =
    let left = c.loop-reader.reader.left.now in
    let s = state_of c.loop-reader.building in
    let test = sym c.is_empty.ensures ∙ c.loop-reader-test.true in
    let some : 0 < length c.loop-reader.reader.left.now = grind (arith, nat_tests, test) in
    refused c.args.text.now s c.loop-reader.line left c.loop-reader.invariant
    (refused_at c.in_ok-take.field-0 s (state_of c.take.new.self) left c.take.new.reader.left.now c.in_ok-take.ensures c.if-not-branch.true) (λ none _. some_bytes left none some)

pub overflow_add-line : goal.overflow_add-line
overflow_add-line c =
    let inv = c.loop-reader.invariant in let counted = inv.counted in let short = inv.short in let few = c.requires in
    let test = sym c.is_empty.ensures ∙ c.loop-reader-test.true in
    let some : 0 < length c.loop-reader.reader.left.now = grind (arith, nat_tests, test) in
    omega (arith, counted, short, few, some)

pub loop-reader-smaller : goal.loop-reader-smaller
loop-reader-smaller c =
    let left = c.loop-reader.reader.left.now in let s = state_of c.loop-reader.building in let u = state_of c.take.new.self in let r = c.take.new.reader.left.now in
    let more = read_more c.args.text.now s u left r c.loop-reader.line c.loop-reader.invariant (taken_at c.in_ok-take.field-0 s u left r c.in_ok-take.ensures c.if-not-branch.false) in
    more.1

pub loop-reader-preserved : goal.loop-reader-preserved
loop-reader-preserved c =
    let left = c.loop-reader.reader.left.now in let s = state_of c.loop-reader.building in let u = state_of c.take.new.self in let r = c.take.new.reader.left.now in
    let more = read_more c.args.text.now s u left r c.loop-reader.line c.loop-reader.invariant (taken_at c.in_ok-take.field-0 s u left r c.in_ok-take.ensures c.if-not-branch.false) in
    more.0

pub returns-in-Ended-clause-program : goal.returns-in-Ended-clause-program
returns-in-Ended-clause-program c =
    let text = c.args.text.now in let s = state_of c.loop-reader.building in let line = c.loop-reader.line in
    let test = sym c.is_empty.ensures ∙ c.loop-reader-test.false in
    let none : c.loop-reader.reader.left.now ≡ [] = no_bytes c.loop-reader.reader.left.now (grind (arith, nat_tests, test)) in
    subst (λ p. IsTextOf p text) (sym c.into_program.ensures) (read_all text s line (subst (λ t. IsRead text s t line) none c.loop-reader.invariant) c.in-Ended.is)

pub returns-in_default : goal.returns-in_default
returns-in_default c =
    let text = c.args.text.now in let s = state_of c.loop-reader.building in let line = c.loop-reader.line in let left = c.loop-reader.reader.left.now in
    let test = sym c.is_empty.ensures ∙ c.loop-reader-test.false in
    let none : c.loop-reader.reader.left.now ≡ [] = no_bytes c.loop-reader.reader.left.now (grind (arith, nat_tests, test)) in
    record {
      program = tt;
      at = refused text s line left c.loop-reader.invariant (ap (taken s) none ∙ nothing_taken s) (λ _ ph. c.in_default.not-Ended ph);
    }
