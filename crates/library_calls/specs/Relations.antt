-- The relations that have a number, and for which matrices each holds.
use Rattle.std.specs.Prelude.{ℕ, ◌==◌, if◌then◌else◌, Bool, ◌||◌, List, [], ◌∷◌, Option, Some, None, codes}
use Rattle.geometry_model.specs.Dimensions.{Matrix}
use Rattle.geometry_model.specs.Predicates.{like}
use Rattle.geometry_model.specs.Predicates as predicates
use Rattle.geometry_model.specs.declared.relations.Predicate.TheVariants as predicate
use Rattle.geometry_model.specs.declared.shapes.Kind.{Kind}
use Rattle.library_calls.specs.declared.relations.Relation.{Relation}
use Rattle.library_calls.specs.declared.relations.Relation.TheVariants as relations

-- covers: they share a point, and no point of the second is in the exterior of the first (this project's choice)
abbrev pub covers : Matrix → Bool
covers m = like (codes "T*****FF*") m || like (codes "*T****FF*") m || like (codes "***T**FF*") m || like (codes "****T*FF*") m

-- is covered by: they share a point, and no point of the first is in the exterior of the second (this project's choice)
abbrev pub covered_by : Matrix → Bool
covered_by m = like (codes "T*F**F***") m || like (codes "*TF**F***") m || like (codes "**FT*F***") m || like (codes "**F*TF***") m

-- contains properly: they share a point, and all points of the second are in the interior of the first (this project's choice)
abbrev pub contains_properly : Matrix → Bool
contains_properly m = like (codes "T**FF*FF*") m

-- the relation of a number
abbrev pub relation_of : ℕ → Option Relation
relation_of n =
    if n == 0 then Some relations.Equals
    else if n == 1 then Some relations.Disjoint
    else if n == 2 then Some relations.Intersects
    else if n == 3 then Some relations.Touches
    else if n == 4 then Some relations.Crosses
    else if n == 5 then Some relations.Within
    else if n == 6 then Some relations.Contains
    else if n == 7 then Some relations.Overlaps
    else if n == 8 then Some relations.Covers
    else if n == 9 then Some relations.CoveredBy
    else if n == 10 then Some relations.ContainsProperly
    else None

-- the relation holds of two geometries of these kinds with this matrix (06-103r4, 6.1.15.3)
abbrev pub relation_holds : Relation → Kind → Kind → Matrix → Bool
relation_holds relations.Equals k l m = predicates.holds predicate.Equals k l m
relation_holds relations.Disjoint k l m = predicates.holds predicate.Disjoint k l m
relation_holds relations.Intersects k l m = predicates.holds predicate.Intersects k l m
relation_holds relations.Touches k l m = predicates.holds predicate.Touches k l m
relation_holds relations.Crosses k l m = predicates.holds predicate.Crosses k l m
relation_holds relations.Within k l m = predicates.holds predicate.Within k l m
relation_holds relations.Contains k l m = predicates.holds predicate.Contains k l m
relation_holds relations.Overlaps k l m = predicates.holds predicate.Overlaps k l m
relation_holds relations.Covers k l m = covers m
relation_holds relations.CoveredBy k l m = covered_by m
relation_holds relations.ContainsProperly k l m = contains_properly m

-- which of the relations hold, by their numbers
abbrev pub all_hold : Kind → Kind → Matrix → List Bool
all_hold k l m =
    relation_holds relations.Equals k l m
    ∷ relation_holds relations.Disjoint k l m
    ∷ relation_holds relations.Intersects k l m
    ∷ relation_holds relations.Touches k l m
    ∷ relation_holds relations.Crosses k l m
    ∷ relation_holds relations.Within k l m
    ∷ relation_holds relations.Contains k l m
    ∷ relation_holds relations.Overlaps k l m
    ∷ relation_holds relations.Covers k l m
    ∷ relation_holds relations.CoveredBy k l m
    ∷ relation_holds relations.ContainsProperly k l m
    ∷ []
