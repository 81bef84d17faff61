-- Laws of patterns and predicates, each as one statement.
use Rattle.std.specs.Prelude.{◌≡◌}
use Rattle.geometry_model.specs.Dimensions.{Matrix, transposed}
use Rattle.geometry_model.specs.Predicates.{holds}
use Rattle.geometry_model.specs.declared.shapes.Kind.{Kind}
use Rattle.geometry_model.specs.declared.relations.Pattern.{Pattern}
use Rattle.geometry_model.specs.declared.relations.Predicate.{Predicate}
use Rattle.geometry_model.specs.declared.relations.Predicate.TheVariants as predicates

-- the pattern that says the same of the two geometries in the other order
abbrev pub transposed_pattern : Pattern → Pattern
transposed_pattern p = record {
  interior_interior = p.interior_interior;
  interior_boundary = p.boundary_interior;
  interior_exterior = p.exterior_interior;
  boundary_interior = p.interior_boundary;
  boundary_boundary = p.boundary_boundary;
  boundary_exterior = p.exterior_boundary;
  exterior_interior = p.interior_exterior;
  exterior_boundary = p.boundary_exterior;
  exterior_exterior = p.exterior_exterior;
}

-- the predicate that says the same of the two geometries in the other order
abbrev pub converse : Predicate → Predicate
converse predicates.Equals = predicates.Equals
converse predicates.Disjoint = predicates.Disjoint
converse predicates.Intersects = predicates.Intersects
converse predicates.Touches = predicates.Touches
converse predicates.Crosses = predicates.Crosses
converse predicates.Within = predicates.Contains
converse predicates.Contains = predicates.Within
converse predicates.Overlaps = predicates.Overlaps
converse (predicates.Relate p) = predicates.Relate (transposed_pattern p)

-- a predicate holds of (a, b) exactly if its converse holds of (b, a): the converse of Within is Contains, and each other named predicate is its own
abbrev pub ConverseOfTransposed : Type 0
ConverseOfTransposed = (p : Predicate) (k l : Kind) (m : Matrix) → holds p k l m ≡ holds (converse p) l k (transposed m)
