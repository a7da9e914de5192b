use Rattle.std.proofs.Common.{◌≡◌}
use Rattle.aol_expr_tree.specs.declared.byte.Byte.TheVariants.{Blank}
use Rattle.aol_expr_tree.specs.declared.reader.Mode.TheVariants.{Digits, InWord}
use Rattle.aol_expr.proofs.InPlace.{blank_stays, digit_stays, letter_stays_ok}
use Rattle.aol_expr.proofs.reading.stays.Goals as goal

pub returns-in-Blank : goal.returns-in-Blank
returns-in-Blank c =
    let is : c.args.byte ≡ Blank = cc in
    blank_stays c.args.mode.now c.args.byte c.args.b c.stays_at_blank.result is c.stays_at_blank.ensures

pub returns-in-Digits : goal.returns-in-Digits
returns-in-Digits c =
    let is : c.args.mode.now ≡ Digits c.in-Digits.numeral = cc in
    digit_stays c.args.mode.now c.in-Digits.numeral c.add_digit.new.numeral c.args.byte c.args.b c.add_digit.result is c.add_digit.ensures

pub returns-in-InWord : goal.returns-in-InWord
returns-in-InWord c =
    let is : c.args.mode.now ≡ InWord c.in-InWord.letters = cc in
    letter_stays_ok c.args.mode.now c.in-InWord.letters c.add_letter.new.letters c.args.byte c.args.b c.add_letter.result is c.add_letter.ensures
