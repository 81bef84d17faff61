-- The predicates of two geometries the other way round.
use Rattle.std.proofs.Common.{◌≡◌, Bool, false, not, ◌&&◌, ◌||◌, refl, ap, arith, Option, Some, None, option_map, codes}
use Rattle.std.specs.Option.{option_map_or}
use Rattle.geometry_model.specs.Dimensions.{Matrix, transposed}
use Rattle.geometry_model.specs.Patterns.{takes, matches, pattern_of_text}
use Rattle.geometry_model.specs.Predicates.{crosses, overlaps, holds}
use Rattle.geometry_model.specs.PredicateLaws.{transposed_pattern, converse}
use Rattle.geometry_model.specs.declared.shapes.Kind.{Kind}
use Rattle.geometry_model.specs.declared.shapes.Kind.TheVariants as kinds
use Rattle.geometry_model.specs.declared.relations.Pattern.{Pattern}
use Rattle.geometry_model.specs.declared.relations.Predicate.{Predicate}
use Rattle.geometry_model.specs.declared.relations.Predicate.TheVariants as predicates

-- nine tests by rows are nine tests by columns
nine_by_columns : (a b c d e f g h i : Bool) → (a && b && c && d && e && f && g && h && i) ≡ (a && d && g && b && e && h && c && f && i)
nine_by_columns a b c d e f g h i = grind arith

-- a pattern and a matrix, both the other way round
pub matches-transposed : (p : Pattern) (m : Matrix) → matches p m ≡ matches (transposed_pattern p) (transposed m)
matches-transposed p m = nine_by_columns
    (takes p.interior_interior m.interior_interior) (takes p.interior_boundary m.interior_boundary) (takes p.interior_exterior m.interior_exterior)
    (takes p.boundary_interior m.boundary_interior) (takes p.boundary_boundary m.boundary_boundary) (takes p.boundary_exterior m.boundary_exterior)
    (takes p.exterior_interior m.exterior_interior) (takes p.exterior_boundary m.exterior_boundary) (takes p.exterior_exterior m.exterior_exterior)

-- the same of a pattern that a text may write
like-transposed : (o : Option Pattern) (m : Matrix) → option_map_or (λ p. matches p m) o false ≡ option_map_or (λ p. matches p (transposed m)) (option_map transposed_pattern o) false
like-transposed None m = refl
like-transposed (Some p) m = matches-transposed p m

-- one of three, the first two of which change places
first_two_swapped : (a b c x y z : Bool) → a ≡ y → b ≡ x → c ≡ z → (a || b || c) ≡ (x || y || z)
first_two_swapped a b c x y z e f g = grind arith

-- Crosses is the same the other way round: the pattern for two kinds, transposed, is that for the kinds swapped
crosses-transposed : (k l : Kind) (m : Matrix) → crosses k l m ≡ crosses l k (transposed m)
crosses-transposed kinds.Point kinds.Point m = refl
crosses-transposed kinds.Point kinds.Line m = like-transposed (pattern_of_text (codes "T*T******")) m
crosses-transposed kinds.Point kinds.Area m = like-transposed (pattern_of_text (codes "T*T******")) m
crosses-transposed kinds.Line kinds.Point m = like-transposed (pattern_of_text (codes "T*****T**")) m
crosses-transposed kinds.Line kinds.Line m = like-transposed (pattern_of_text (codes "0********")) m
crosses-transposed kinds.Line kinds.Area m = like-transposed (pattern_of_text (codes "T*T******")) m
crosses-transposed kinds.Area kinds.Point m = like-transposed (pattern_of_text (codes "T*****T**")) m
crosses-transposed kinds.Area kinds.Line m = like-transposed (pattern_of_text (codes "T*****T**")) m
crosses-transposed kinds.Area kinds.Area m = refl

-- Overlaps is the same the other way round, since its patterns are their own transposes
overlaps-transposed : (k l : Kind) (m : Matrix) → overlaps k l m ≡ overlaps l k (transposed m)
overlaps-transposed kinds.Point kinds.Point m = like-transposed (pattern_of_text (codes "T*T***T**")) m
overlaps-transposed kinds.Point kinds.Line m = refl
overlaps-transposed kinds.Point kinds.Area m = refl
overlaps-transposed kinds.Line kinds.Point m = refl
overlaps-transposed kinds.Line kinds.Line m = like-transposed (pattern_of_text (codes "1*T***T**")) m
overlaps-transposed kinds.Line kinds.Area m = refl
overlaps-transposed kinds.Area kinds.Point m = refl
overlaps-transposed kinds.Area kinds.Line m = refl
overlaps-transposed kinds.Area kinds.Area m = like-transposed (pattern_of_text (codes "T*T***T**")) m

-- a predicate of (a, b) is its converse of (b, a)
pub holds-transposed : (p : Predicate) (k l : Kind) (m : Matrix) → holds p k l m ≡ holds (converse p) l k (transposed m)
holds-transposed predicates.Equals k l m = like-transposed (pattern_of_text (codes "**F**FFF*")) m
holds-transposed predicates.Disjoint k l m = like-transposed (pattern_of_text (codes "FF*FF****")) m
holds-transposed predicates.Intersects k l m = ap not (like-transposed (pattern_of_text (codes "FF*FF****")) m)
holds-transposed predicates.Touches k l m = first_two_swapped _ _ _ _ _ _ (like-transposed (pattern_of_text (codes "FT*******")) m)
    (like-transposed (pattern_of_text (codes "F**T*****")) m) (like-transposed (pattern_of_text (codes "F***T****")) m)
holds-transposed predicates.Crosses k l m = crosses-transposed k l m
holds-transposed predicates.Within k l m = refl
holds-transposed predicates.Contains k l m = refl
holds-transposed predicates.Overlaps k l m = overlaps-transposed k l m
holds-transposed (predicates.Relate p) k l m = matches-transposed p m
