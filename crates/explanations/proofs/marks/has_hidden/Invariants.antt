-- The characters before this one are seen.
use Rattle.std.proofs.Common.{◌≡◌, IsUtf8, chars}
use Rattle.std.specs.List.{list_any}
use Rattle.std.specs.Str.Iter.{chars_rest}
use Rattle.explanations.specs.Marks.{is_hidden}
use Rattle.explanations.proofs.marks.has_hidden.Given as goal

abbrev pub invariant-loop-character : goal.invariant-loop-character
invariant-loop-character l =
    IsUtf8 (chars_rest l.character-iterator)
    × (list_any is_hidden (chars (chars_rest l.character-iterator)) ≡ list_any is_hidden (chars l.fn.text))
