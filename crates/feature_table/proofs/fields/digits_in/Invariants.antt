use Rattle.std.proofs.Common.{◌≡◌, ◌<◌, ◌^◌, take, true}
use Rattle.std.specs.Str.{all_ascii_digits}
use Rattle.std.specs.Str.Parse.{digits_value}
use Rattle.feature_table.proofs.fields.digits_in.Given as goal

-- the bytes so far are digits, and write this number
abbrev pub invariant-loop-byte : goal.invariant-loop-byte
invariant-loop-byte l = record {
  digits : all_ascii_digits (take l.byte-index l.text) ≡ true;
  value : l.number ≡ digits_value 10 (take l.byte-index l.text);
  fits : l.number < 2 ^ 63;
}
