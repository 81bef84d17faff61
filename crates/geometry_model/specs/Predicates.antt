-- The spatial predicates: for which matrices each holds, by the kinds of the two geometries.
use Rattle.std.specs.Prelude.{Bool, true, false, not, ◌||◌, List, ℕ, codes}
use Rattle.std.specs.Option.{option_map_or}
use Rattle.geometry_model.specs.Dimensions.{Matrix, transposed}
use Rattle.geometry_model.specs.Patterns.{matches, pattern_of_text}
use Rattle.geometry_model.specs.declared.shapes.Kind.{Kind}
use Rattle.geometry_model.specs.declared.shapes.Kind.TheVariants as kinds
use Rattle.geometry_model.specs.declared.relations.PatternCharacter.{PatternCharacter}
use Rattle.geometry_model.specs.declared.relations.PatternCharacter.TheVariants as characters
use Rattle.geometry_model.specs.declared.relations.Pattern.{Pattern}
use Rattle.geometry_model.specs.declared.relations.Predicate.{Predicate}
use Rattle.geometry_model.specs.declared.relations.Predicate.TheVariants as predicates

-- the text is a pattern and the matrix matches it (06-103r4, 6.1.15.2)
abbrev pub like : List ℕ → Matrix → Bool
like text m = option_map_or (λ p. matches p m) (pattern_of_text text) false

-- Crosses, by kinds (06-103r4, 6.1.15.3; with the greater dimension first: this project's choice)
abbrev pub crosses : Kind → Kind → Matrix → Bool
crosses kinds.Point kinds.Point m = false
crosses kinds.Point kinds.Line m = like (codes "T*T******") m
crosses kinds.Point kinds.Area m = like (codes "T*T******") m
crosses kinds.Line kinds.Point m = like (codes "T*****T**") m
crosses kinds.Line kinds.Line m = like (codes "0********") m
crosses kinds.Line kinds.Area m = like (codes "T*T******") m
crosses kinds.Area kinds.Point m = like (codes "T*****T**") m
crosses kinds.Area kinds.Line m = like (codes "T*****T**") m
crosses kinds.Area kinds.Area m = false

-- Overlaps, by kinds (06-103r4, 6.1.15.3)
abbrev pub overlaps : Kind → Kind → Matrix → Bool
overlaps kinds.Point kinds.Point m = like (codes "T*T***T**") m
overlaps kinds.Point kinds.Line m = false
overlaps kinds.Point kinds.Area m = false
overlaps kinds.Line kinds.Point m = false
overlaps kinds.Line kinds.Line m = like (codes "1*T***T**") m
overlaps kinds.Line kinds.Area m = false
overlaps kinds.Area kinds.Point m = false
overlaps kinds.Area kinds.Line m = false
overlaps kinds.Area kinds.Area m = like (codes "T*T***T**") m

-- the predicate holds of two geometries of these kinds with this matrix (06-103r4, 6.1.15.3; the table as a whole: this project's choice)
abbrev pub holds : Predicate → Kind → Kind → Matrix → Bool
holds predicates.Equals k l m = like (codes "**F**FFF*") m
holds predicates.Disjoint k l m = like (codes "FF*FF****") m
holds predicates.Intersects k l m = not (like (codes "FF*FF****") m)
holds predicates.Touches k l m = like (codes "FT*******") m || like (codes "F**T*****") m || like (codes "F***T****") m
holds predicates.Crosses k l m = crosses k l m
holds predicates.Within k l m = like (codes "T*F**F***") m
holds predicates.Contains k l m = like (codes "T*F**F***") (transposed m)
holds predicates.Overlaps k l m = overlaps k l m
holds (predicates.Relate p) k l m = matches p m

-- the character doesn't match an empty cell
abbrev pub wants_point : PatternCharacter → Bool
wants_point characters.True = true
wants_point characters.False = false
wants_point characters.Any = false
wants_point characters.Zero = true
wants_point characters.One = true
wants_point characters.Two = true

-- the pattern matches only where the two geometries share a point
abbrev pub wants_common_point : Pattern → Bool
wants_common_point p =
    wants_point p.interior_interior
    || wants_point p.interior_boundary
    || wants_point p.boundary_interior
    || wants_point p.boundary_boundary

-- the predicate can hold only where the envelopes of the two geometries meet, so an index of envelopes can be searched for it
abbrev pub forces_meeting : Predicate → Bool
forces_meeting predicates.Equals = true
forces_meeting predicates.Disjoint = false
forces_meeting predicates.Intersects = true
forces_meeting predicates.Touches = true
forces_meeting predicates.Crosses = true
forces_meeting predicates.Within = true
forces_meeting predicates.Contains = true
forces_meeting predicates.Overlaps = true
forces_meeting (predicates.Relate p) = wants_common_point p
