-- A geometry and a point: all of the point is its interior, and the part of the geometry in which it lies decides some relations.
use denote.Enum.Bare.{sameb}
use Rattle.std.proofs.Common.{◌≡◌, ◌≢◌, ◌⊎◌, inl, inr, refl, sym, ap, subst, ◌∙◌, Bool, true, false, not, ◌||◌, if◌then◌else◌}
use Rattle.std.proofs.Common.{ℕ, Option, Some, None, IfSome, arith}
use Rattle.geometry_model.specs.Dimensions.{HasDimension, HasPoint, IsMatrix, Matrix, cell, common}
use Rattle.geometry_model.specs.Geometries.{Geometry, kind}
use Rattle.geometry_model.specs.Labels.{labelled_matrix}
use Rattle.geometry_model.specs.Locations.{locate}
use Rattle.geometry_model.specs.Points.{Point, Position, point_at, same_point}
use Rattle.geometry_model.specs.Validity.{IsValid}
use Rattle.geometry_model.specs.contracts.point_sets.Location.{the_type}
use Rattle.geometry_model.specs.declared.point_sets.Dimension.{Dimension}
use Rattle.geometry_model.specs.declared.point_sets.Dimension.TheVariants.{Empty, Zero, One, Two}
use Rattle.geometry_model.specs.declared.point_sets.Location.{Location}
use Rattle.geometry_model.specs.declared.point_sets.Location.TheVariants.{Interior, Boundary, Exterior}
use Rattle.geometry_model.specs.declared.shapes.Kind.{Kind}
use Rattle.geometry_model.specs.declared.shapes.Kind.TheVariants as kinds
use Rattle.geometry_model.specs.declared.validity_faults.ValidityFault.TheVariants as faults
use Rattle.geometry_model.proofs.DimensionFacts.{point_from_segment, point_from_triangle}
use Rattle.geometry_laws.proofs.Cuts.{same_end}
use Rattle.geometry_laws.proofs.Respect.{locate_respects}
use Rattle.geometry_laws.proofs.RingParity.{position_is_point}
use Rattle.matrix_laws.proofs.Matrices.{labels_give_matrix}
use Rattle.library_calls.specs.Kept.{HasRelation, position}
use Rattle.library_calls.specs.Numbers.{location_number}
use Rattle.library_calls.specs.PointRelations.{HoldsAt, IsHeldAt, one_point}
use Rattle.library_calls.specs.Relations.{relation_holds, relation_of}
use Rattle.library_calls.specs.declared.relations.Relation.{Relation}
use Rattle.library_calls.specs.declared.relations.Relation.TheVariants as relations

-- ---- a point is valid: it has no lines, rings or elements
point_is_valid : (o : Option Position) → IsValid (Geometry.Point o)
point_is_valid o (faults.TooFewPoints i) h = absurd (let no : None ≡ Some h.0 = h.1 in cc)
point_is_valid o (faults.RingNotClosed i) h = absurd (let no : None ≡ Some h.0 = h.1 in cc)
point_is_valid o (faults.RingNotSimple i) h = absurd (let no : None ≡ Some h.0 = h.1 in cc)
point_is_valid o (faults.RingsMeet i j) h = absurd (omega (arith, h.5.1))
point_is_valid o (faults.HoleOutside i) h = absurd (omega (arith, h.4.1))
point_is_valid o (faults.HolesNested i j) h = absurd (omega (arith, h.5.1))
point_is_valid o (faults.ElementsMeet i j) h = absurd (let no : None ≡ Some h.0 = h.3 in cc)
point_is_valid o (faults.ElementInside i j) h = absurd (let no : None ≡ Some h.0 = h.3 in cc)

-- a geometry with the content of a POINT is that point, if there is one
pub is_one_point : (g : Geometry) (o : Option Position) → g ≡ Geometry.Point o → IfSome o (λ p. g ≡ one_point p)
is_one_point g None e = tt
is_one_point g (Some p) e = e

-- ---- cells
-- the cell of two parts that share no point is F
without_point : (S : Point → Type 0) (d : Dimension) → HasDimension S d → (HasPoint S → ⊥) → d ≡ Empty
without_point S Two h none = absurd (none (point_from_triangle S h))
without_point S One h none = absurd (none (point_from_segment S h.0))
without_point S Zero h none = absurd (none h.0)
without_point S Empty h none = refl

-- and that of two parts that share one isn't
with_point : (S : Point → Type 0) (d : Dimension) → HasDimension S d → HasPoint S → d ≢ Empty
with_point S d h p e = subst (HasDimension S) e h p

-- a matrix of whose cells with a point's interior and boundary only that of one part with the interior isn't F
record IsBeside (part : Location) (m : Matrix) : Type 0 where
  boundary : (l : Location) → cell m l Boundary ≡ Empty
  own : cell m part Interior ≢ Empty
  others : (l : Location) → l ≢ part → cell m l Interior ≡ Empty

-- where a point lies in the geometry that is one, by whether it is that one
in_one : (p : Position) (q : Point) (b : Bool) → same_point (point_at p) q ≡ b
    → locate (one_point p) q ≡ (if b then Interior else Exterior)
in_one p q true e = ap (λ (t : Bool). if t || false then Interior else Exterior) e
in_one p q false e = ap (λ (t : Bool). if t || false then Interior else Exterior) e

only_itself : (p : Position) (q : Point) → locate (one_point p) q ≡ Interior → same_point (point_at p) q ≡ true
only_itself p q h = go (same_point (point_at p) q) refl
  where
    go : (b : Bool) → same_point (point_at p) q ≡ b → same_point (point_at p) q ≡ true
    go true e = e
    go false e = absurd (let no : Exterior ≡ Interior = sym (in_one p q false e) ∙ h in cc)

no_boundary : (p : Position) (q : Point) → locate (one_point p) q ≡ Boundary → ⊥
no_boundary p q h = go (same_point (point_at p) q) refl
  where
    go : (b : Bool) → same_point (point_at p) q ≡ b → ⊥
    go true e = absurd (let no : Interior ≡ Boundary = sym (in_one p q true e) ∙ h in cc)
    go false e = absurd (let no : Exterior ≡ Boundary = sym (in_one p q false e) ∙ h in cc)

-- the matrix of a geometry and a point is such a one, of the part in which the point lies
is_beside : (g : Geometry) (p : Position) (m : Matrix) (part : Location) → locate g (point_at p) ≡ part
    → IsMatrix g (one_point p) m → IsBeside part m
is_beside g p m part lies is = record {
  boundary = λ l. without_point (common g l (one_point p) Boundary) (cell m l Boundary) (is l Boundary)
      (λ h. no_boundary p h.p h.within.1);
  own = with_point (common g part (one_point p) Interior) (cell m part Interior) (is part Interior) itself;
  others = λ l other. without_point (common g l (one_point p) Interior) (cell m l Interior) (is l Interior)
      (λ h. other (same_part l h));
}
  where
    itself : HasPoint (common g part (one_point p) Interior)
    itself = record {
      p = point_at p;
      is_point = position_is_point p;
      within = (lies, in_one p (point_at p) true (same_end p));
    }

    same_part : (l : Location) → HasPoint (common g l (one_point p) Interior) → l ≡ part
    same_part l h = sym h.within.0
        ∙ sym (locate_respects g (point_at p) h.p (position_is_point p) h.is_point (only_itself p h.p h.within.1))
        ∙ lies

-- ---- the relations of such a matrix
-- what is so of each dimension but F
each_full : (f : Dimension → Bool) (b : Bool) → b ≡ f Zero → b ≡ f One → b ≡ f Two → (d : Dimension) → d ≢ Empty → b ≡ f d
each_full f b zero one two Empty full = absurd (full refl)
each_full f b zero one two Zero full = zero
each_full f b zero one two One full = one
each_full f b zero one two Two full = two

-- the matrix with these dimensions in the cells of the three parts with the point's interior, and F in those with its boundary
abbrev beside : Dimension → Dimension → Dimension → Matrix → Matrix
beside ii bi ei m = record m {
  interior_interior = ii;
  interior_boundary = Empty;
  boundary_interior = bi;
  boundary_boundary = Empty;
  exterior_interior = ei;
  exterior_boundary = Empty;
}

-- with F in those of two parts
abbrev beside_in : Location → Dimension → Matrix → Matrix
beside_in Interior d m = beside d Empty Empty m
beside_in Boundary d m = beside Empty d Empty m
beside_in Exterior d m = beside Empty Empty d m

is_such : (part : Location) (m : Matrix) → IsBeside part m → m ≡ beside_in part (cell m part Interior) m
is_such Interior m b = λ i. record m {
  interior_boundary = b.boundary Interior i;
  boundary_interior = b.others Boundary (λ e. let no : Boundary ≡ Interior = e in cc) i;
  boundary_boundary = b.boundary Boundary i;
  exterior_interior = b.others Exterior (λ e. let no : Exterior ≡ Interior = e in cc) i;
  exterior_boundary = b.boundary Exterior i;
}
is_such Boundary m b = λ i. record m {
  interior_interior = b.others Interior (λ e. let no : Interior ≡ Boundary = e in cc) i;
  interior_boundary = b.boundary Interior i;
  boundary_boundary = b.boundary Boundary i;
  exterior_interior = b.others Exterior (λ e. let no : Exterior ≡ Boundary = e in cc) i;
  exterior_boundary = b.boundary Exterior i;
}
is_such Exterior m b = λ i. record m {
  interior_interior = b.others Interior (λ e. let no : Interior ≡ Exterior = e in cc) i;
  interior_boundary = b.boundary Interior i;
  boundary_interior = b.others Boundary (λ e. let no : Boundary ≡ Exterior = e in cc) i;
  boundary_boundary = b.boundary Boundary i;
  exterior_boundary = b.boundary Exterior i;
}

-- whether a relation holds of it, of a geometry of a kind and a point
abbrev of_cell : Relation → Location → Matrix → Kind → Dimension → Bool
of_cell r part m k d = relation_holds r k kinds.Point (beside_in part d m)

-- the relation holds by the part alone, whatever the kind
abbrev IsByPart : Relation → (Location → Bool) → Type 0
IsByPart r f = (part : Location) (m : Matrix) (k : Kind) (d : Dimension) → d ≢ Empty → f part ≡ of_cell r part m k d

abbrev not_outside : Location → Bool
not_outside part = not (sameb the_type part Exterior)

intersects : IsByPart relations.Intersects not_outside
intersects Interior m k = each_full (of_cell relations.Intersects Interior m k) true refl refl refl
intersects Boundary m k = each_full (of_cell relations.Intersects Boundary m k) true refl refl refl
intersects Exterior m k = each_full (of_cell relations.Intersects Exterior m k) false refl refl refl

covers : IsByPart relations.Covers not_outside
covers Interior m k = each_full (of_cell relations.Covers Interior m k) true refl refl refl
covers Boundary m k = each_full (of_cell relations.Covers Boundary m k) true refl refl refl
covers Exterior m k = each_full (of_cell relations.Covers Exterior m k) false refl refl refl

touches : IsByPart relations.Touches (λ part. sameb the_type part Boundary)
touches Interior m k = each_full (of_cell relations.Touches Interior m k) false refl refl refl
touches Boundary m k = each_full (of_cell relations.Touches Boundary m k) true refl refl refl
touches Exterior m k = each_full (of_cell relations.Touches Exterior m k) false refl refl refl

contains : IsByPart relations.Contains (λ part. sameb the_type part Interior)
contains Interior m k = each_full (of_cell relations.Contains Interior m k) true refl refl refl
contains Boundary m k = each_full (of_cell relations.Contains Boundary m k) false refl refl refl
contains Exterior m k = each_full (of_cell relations.Contains Exterior m k) false refl refl refl

contains_properly : IsByPart relations.ContainsProperly (λ part. sameb the_type part Interior)
contains_properly Interior m k = each_full (of_cell relations.ContainsProperly Interior m k) true refl refl refl
contains_properly Boundary m k = each_full (of_cell relations.ContainsProperly Boundary m k) false refl refl refl
contains_properly Exterior m k = each_full (of_cell relations.ContainsProperly Exterior m k) false refl refl refl

-- so it holds of each geometry and each point in that part of it, or of none
held : (r s : Relation) (f : Location → Bool) → r ≡ s → IsByPart s f → (part : Location) (b : Bool) → b ≡ f part
    → IsHeldAt r part b
held r s f is by part b e g p m lies matrix = e
    ∙ by part m (kind g) (cell m part Interior) these.own
    ∙ λ i. relation_holds (sym is i) (kind g) kinds.Point (sym (is_such part m these) i)
  where
    these : IsBeside part m
    these = is_beside g p m part lies matrix

pub held_not_outside : (r : Relation) (part : Location) (b : Bool) → (r ≡ relations.Intersects) ⊎ (r ≡ relations.Covers)
    → b ≡ not_outside part → IsHeldAt r part b
held_not_outside r part b (inl is) e = held r relations.Intersects not_outside is intersects part b e
held_not_outside r part b (inr is) e = held r relations.Covers not_outside is covers part b e

pub held_on_boundary : (r : Relation) (part : Location) (b : Bool) → r ≡ relations.Touches → b ≡ sameb the_type part Boundary
    → IsHeldAt r part b
held_on_boundary r part b is e = held r relations.Touches (λ l. sameb the_type l Boundary) is touches part b e

pub held_inside : (r : Relation) (part : Location) (b : Bool) → (r ≡ relations.Contains) ⊎ (r ≡ relations.ContainsProperly)
    → b ≡ sameb the_type part Interior → IsHeldAt r part b
held_inside r part b (inl is) e = held r relations.Contains (λ l. sameb the_type l Interior) is contains part b e
held_inside r part b (inr is) e =
    held r relations.ContainsProperly (λ l. sameb the_type l Interior) is contains_properly part b e

-- ---- by numbers
one_number : (l k : Location) → location_number l ≡ location_number k → l ≡ k
one_number Interior Interior e = refl
one_number Interior Boundary e = absurd cc
one_number Interior Exterior e = absurd cc
one_number Boundary Interior e = absurd cc
one_number Boundary Boundary e = refl
one_number Boundary Exterior e = absurd cc
one_number Exterior Interior e = absurd cc
one_number Exterior Boundary e = absurd cc
one_number Exterior Exterior e = refl

-- two valid geometries have a matrix, so the relation holds of them as of this one
pub held_of_point : (number : ℕ) (r : Relation) (g : Geometry) (p : Position) (part : Location) (answer : Option Bool)
    → relation_of number ≡ Some r → IsValid g → locate g (point_at p) ≡ part → IfSome answer (IsHeldAt r part)
    → IfSome answer (HasRelation number g (one_point p))
held_of_point number r g p part None known valid lies h = tt
held_of_point number r g p part (Some b) known valid lies h =
    let is = labels_give_matrix g (one_point p) valid (point_is_valid (Some p)) in
    record {
      relation = r;
      matrix = labelled_matrix g (one_point p);
      is_relation = known;
      is_matrix = is;
      exact = h g p (labelled_matrix g (one_point p)) lies is;
    }

pub held_by_numbers : (number place : ℕ) (r : Relation) (part : Location) (answer : Option Bool) → relation_of number ≡ Some r
    → location_number part ≡ place → IfSome answer (IsHeldAt r part) → IfSome answer (HoldsAt number place)
held_by_numbers number place r part None known there h = tt
held_by_numbers number place r part (Some b) known there h = λ g valid x y lies.
    held_of_point number r g (position x y) part (Some b) known valid
    (one_number (locate g (point_at (position x y))) part (sym lies ∙ sym there)) h
