-- Laws of well-known text.
use Rattle.std.specs.Prelude.{◌≡◌, ℕ, List, Ok, Err, ◌⊎◌}
use Rattle.geometry_model.specs.Geometries.{Geometry}
use Rattle.geometry_model.specs.WellKnownText.{Spells}
use Rattle.geometry_model.specs.CanonicalText.{canonical_text}
use Rattle.geometry_model.specs.TextReading.{read_text}
use Rattle.geometry_model.specs.TextRefusals.{IsOffGrid, IsOutOfRange, HasTooManyPositions, HasTooManyParts}
use Rattle.geometry_model.specs.declared.text_faults.TextFault.TheVariants.{OffGrid, OutOfRange, TooLong}

-- if a text is read as a geometry, it spells that geometry
abbrev pub ReadIsSpelled : Type 0
ReadIsSpelled = (text : List ℕ) (g : Geometry) → read_text text ≡ Ok g → Spells text g

-- if a text spells a geometry, it is read as that geometry
abbrev pub SpelledIsRead : Type 0
SpelledIsRead = (text : List ℕ) (g : Geometry) → Spells text g → read_text text ≡ Ok g

-- a text spells at most one geometry
abbrev pub SpellsOne : Type 0
SpellsOne = (text : List ℕ) (g h : Geometry) → Spells text g → Spells text h → g ≡ h

-- the canonical text of a geometry that some text spells spells that geometry
abbrev pub CanonicalTextSpells : Type 0
CanonicalTextSpells = (text : List ℕ) (g : Geometry) → Spells text g → Spells (canonical_text g) g

-- the canonical text of a geometry that was read is read as the same geometry
abbrev pub CanonicalTextIsRead : Type 0
CanonicalTextIsRead = (text : List ℕ) (g : Geometry) → read_text text ≡ Ok g → read_text (canonical_text g) ≡ Ok g

-- where reading returns W2, W3 or W4, that refusal applies
abbrev pub RefusalsApply : Type 0
RefusalsApply = (text : List ℕ) (at : ℕ)
    → (read_text text ≡ Err (OffGrid at) → IsOffGrid text at)
    × (read_text text ≡ Err (OutOfRange at) → IsOutOfRange text at)
    × (read_text text ≡ Err TooLong → HasTooManyPositions text ⊎ HasTooManyParts text)
