-- Patterns of the DE-9IM matrix: their text, and which matrices they match.
use Rattle.std.specs.Prelude.{ℕ, Bool, true, false, ◌==◌, ◌&&◌, ◌||◌, List, [], ◌∷◌, Option, Some, None, option_and_then, if◌then◌else◌}
use Rattle.geometry_model.specs.Dimensions.{Matrix}
use Rattle.geometry_model.specs.declared.point_sets.Dimension.{Dimension}
use Rattle.geometry_model.specs.declared.point_sets.Dimension.TheVariants as dimensions
use Rattle.geometry_model.specs.declared.relations.PatternCharacter.{PatternCharacter}
use Rattle.geometry_model.specs.declared.relations.PatternCharacter.TheVariants as characters
use Rattle.geometry_model.specs.declared.relations.Pattern.{Pattern}

-- a character matches a dimension: T 0, 1 and 2, F only the empty set, * all, 0, 1 and 2 themselves (06-103r4, 6.1.15.2)
abbrev pub takes : PatternCharacter → Dimension → Bool
takes characters.Any d = true
takes characters.True dimensions.Empty = false
takes characters.True dimensions.Zero = true
takes characters.True dimensions.One = true
takes characters.True dimensions.Two = true
takes characters.False dimensions.Empty = true
takes characters.False dimensions.Zero = false
takes characters.False dimensions.One = false
takes characters.False dimensions.Two = false
takes characters.Zero dimensions.Empty = false
takes characters.Zero dimensions.Zero = true
takes characters.Zero dimensions.One = false
takes characters.Zero dimensions.Two = false
takes characters.One dimensions.Empty = false
takes characters.One dimensions.Zero = false
takes characters.One dimensions.One = true
takes characters.One dimensions.Two = false
takes characters.Two dimensions.Empty = false
takes characters.Two dimensions.Zero = false
takes characters.Two dimensions.One = false
takes characters.Two dimensions.Two = true

-- a pattern matches a matrix if each character matches its cell (06-103r4, 6.1.15.2)
abbrev pub matches : Pattern → Matrix → Bool
matches p m =
    takes p.interior_interior m.interior_interior
    && takes p.interior_boundary m.interior_boundary
    && takes p.interior_exterior m.interior_exterior
    && takes p.boundary_interior m.boundary_interior
    && takes p.boundary_boundary m.boundary_boundary
    && takes p.boundary_exterior m.boundary_exterior
    && takes p.exterior_interior m.exterior_interior
    && takes p.exterior_boundary m.exterior_boundary
    && takes p.exterior_exterior m.exterior_exterior

-- the pattern character that a byte writes, T and F in either case (06-103r4, 6.1.15.2; small letters: this project's choice)
abbrev pub character_of : ℕ → Option PatternCharacter
character_of c =
    if c == 84 || c == 116 then Some characters.True
    else if c == 70 || c == 102 then Some characters.False
    else if c == 42 then Some characters.Any
    else if c == 48 then Some characters.Zero
    else if c == 49 then Some characters.One
    else if c == 50 then Some characters.Two
    else None

-- the characters that the bytes write, or none if a byte writes no character (06-103r4, 6.1.15.2)
abbrev pub characters_of : List ℕ → Option (List PatternCharacter)
characters_of [] = Some []
characters_of (c ∷ rest) = option_and_then (λ x. option_and_then (λ xs. Some (x ∷ xs)) (characters_of rest)) (character_of c)

-- the pattern of nine characters, by rows: a row for the interior, boundary and exterior of the first geometry (06-103r4, 6.1.15.2)
abbrev pub pattern_of : List PatternCharacter → Option Pattern
pattern_of (ii ∷ ib ∷ ie ∷ bi ∷ bb ∷ be ∷ ei ∷ eb ∷ ee ∷ []) = Some record {
  interior_interior = ii;
  interior_boundary = ib;
  interior_exterior = ie;
  boundary_interior = bi;
  boundary_boundary = bb;
  boundary_exterior = be;
  exterior_interior = ei;
  exterior_boundary = eb;
  exterior_exterior = ee;
}
pattern_of _ = None

-- the pattern that a text of nine characters writes (06-103r4, 6.1.15.2)
abbrev pub pattern_of_text : List ℕ → Option Pattern
pattern_of_text bytes = option_and_then pattern_of (characters_of bytes)

-- a dimension's character: F, 0, 1 or 2 (06-103r4, 6.1.15.2)
abbrev pub dimension_character : Dimension → ℕ
dimension_character dimensions.Empty = 70
dimension_character dimensions.Zero = 48
dimension_character dimensions.One = 49
dimension_character dimensions.Two = 50

-- the nine characters of a matrix, by rows (06-103r4, 6.1.15.2)
abbrev pub matrix_text : Matrix → List ℕ
matrix_text m =
    dimension_character m.interior_interior
    ∷ dimension_character m.interior_boundary
    ∷ dimension_character m.interior_exterior
    ∷ dimension_character m.boundary_interior
    ∷ dimension_character m.boundary_boundary
    ∷ dimension_character m.boundary_exterior
    ∷ dimension_character m.exterior_interior
    ∷ dimension_character m.exterior_boundary
    ∷ dimension_character m.exterior_exterior
    ∷ []
