-- What printing writes: a text that spells the geometry.
use Rattle.std.specs.Prelude.{◌≡◌, ℕ, zero, suc, List, [], Option, Some, codes}
use Rattle.geometry_model.specs.Geometries.{Geometry}
use Rattle.geometry_model.specs.WellKnownText.{Spells}

-- a sink without bytes holds a text of the geometry now, where the geometry has a text (06-103r4, 7.2)
abbrev pub HoldsText : Option (List ℕ) → Option (List ℕ) → Geometry → Type 0
HoldsText old new g = (some_text held : List ℕ) → Spells some_text g → old ≡ Some [] → new ≡ Some held → Spells held g

-- what comes before a list in parentheses of this number: a comma parts it from the one before it (06-103r4, 7.2.2)
abbrev pub opening_text : ℕ → List ℕ
opening_text zero = codes "("
opening_text (suc before) = codes ",("
