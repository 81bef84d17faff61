-- The smallest envelope that holds several.
use Rattle.std.specs.Prelude.{List, [], ◌∷◌, Option, Some, None}
use Rattle.geometry_model.specs.Envelopes.{Envelope, joined}

-- the smallest envelope that holds one envelope and the other, if there is another
abbrev pub with_envelope : Envelope → Option Envelope → Envelope
with_envelope e None = e
with_envelope e (Some f) = joined e f

-- the smallest envelope that holds both, each of which may be absent
abbrev pub joined_both : Option Envelope → Option Envelope → Option Envelope
joined_both None other = other
joined_both (Some e) other = Some (with_envelope e other)

-- the smallest envelope that holds all of a list; absent if the list is empty
abbrev pub joined_all : List Envelope → Option Envelope
joined_all [] = None
joined_all (e ∷ rest) = Some (with_envelope e (joined_all rest))
