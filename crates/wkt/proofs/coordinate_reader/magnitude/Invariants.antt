use Rattle.std.proofs.Common.{◌≡◌, ◌≤◌, drop, true}
use Rattle.std.specs.Char.{is_ascii_digit}
use Rattle.std.specs.List.{list_all}
use Rattle.std.specs.Str.Parse.{digits_value, digits_value_after}
use Rattle.geometry_model.specs.WellKnownText.{coordinate_limit}
use Rattle.wkt.proofs.coordinate_reader.magnitude.Given as goal

abbrev pub invariant-loop-byte : goal.invariant-loop-byte
invariant-loop-byte l = record {
  within : l.value ≤ coordinate_limit;
  digits : list_all is_ascii_digit (drop l.byte-index l.digits) ≡ true;
  same : digits_value_after 10 l.value (drop l.byte-index l.digits) ≡ digits_value 10 l.digits;
}
