use Rattle.std.proofs.Common.{◌≡◌, ◌≤◌, length, drop}
use Rattle.std.specs.Char.{is_ascii_digit}
use Rattle.std.specs.List.{prefix_len}
use Rattle.std.specs.Str.Parse.{digits_value, digits_value_after}
use Rattle.geometry_model.specs.WellKnownText.{coordinate_limit}
use Rattle.wkt.proofs.PlainNumbers.{front_digits}
use Rattle.wkt.proofs.plain_positions.digits.Given as goal

abbrev pub invariant-loop-left : goal.invariant-loop-left
invariant-loop-left l = record {
  within : l.value ≤ coordinate_limit;
  value : digits_value_after 10 l.value (front_digits l.left) ≡ digits_value 10 (front_digits l.text);
  rest : drop (prefix_len is_ascii_digit l.left) l.left ≡ drop (prefix_len is_ascii_digit l.text) l.text;
}

abbrev pub decreases-loop-left : goal.decreases-loop-left
decreases-loop-left l = length l.left
