-- Bytes that stay in a field, so that its length alone changes.
use Rattle.std.specs.Prelude.{ℕ, Bool, false, not, ◌==◌, ◌||◌, List}
use Rattle.std.specs.List.{list_all}
use Rattle.streams.specs.Bounds.{ends_line}
use Rattle.streams.specs.declared.tallies.Place.{Place}
use Rattle.streams.specs.declared.tallies.Place.TheVariants as at

-- whether a byte outside quotes is no comma, no quote and no end of a line
abbrev pub is_plain : ℕ → Bool
is_plain byte = not (byte == 44 || (byte == 34 || ends_line byte))

-- whether a byte stays in the field: in quotes each but a quote, outside quotes each plain one
abbrev pub stays : Place → ℕ → Bool
stays at.RecordStart = is_plain
stays at.FieldStart = is_plain
stays at.Unquoted = is_plain
stays at.Quoted = λ byte. not (byte == 34)
stays _ = λ byte. false

-- the place after bytes that stay
abbrev pub place_in_field : Place → Place
place_in_field at.Quoted = at.Quoted
place_in_field _ = at.Unquoted

-- whether all of these bytes stay
abbrev pub all_stay : Place → List ℕ → Bool
all_stay place bytes = list_all (stays place) bytes
