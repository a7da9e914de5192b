use Rattle.std.proofs.Common.{◌≡◌, ◌<◌, ◌^◌, take, drop, true}
use Rattle.std.specs.List.{list_all}
use Rattle.aol_shape.specs.Texts.{is_digit, digits_value, digits_value_from}
use Rattle.aol_vsl.proofs.number.magnitude_of.Given as goal

abbrev pub invariant-loop-byte : goal.invariant-loop-byte
invariant-loop-byte l = record {
  digits : list_all is_digit (take l.byte-index l.digits) ≡ true;
  value : digits_value_from l.value (drop l.byte-index l.digits) ≡ digits_value l.digits;
  bound : l.value < 10 ^ l.byte-index;
}
