-- Points and an area: all edges are the area's, and lie in the points' exterior.
use Rattle.std.proofs.Common.{◌≡◌, ◌≢◌, refl, sym, ap, ◌∙◌, subst, Bool, Option, Some, None, IfSome, List, [], ◌∷◌, arith}
use Rattle.std.specs.List.{All, Contains}
use Rattle.std.proofs.lemmas.List.Elements.{All-nil, All-cons, All-weaker, All-contains_itself}
use Rattle.geometry_model.specs.Points.{Position, point_at}
use Rattle.geometry_model.specs.Geometries.{Edge, Geometry, kind, edges, listed}
use Rattle.geometry_model.specs.Dimensions.{Matrix, transposed}
use Rattle.geometry_model.specs.Labels.{labelled_matrix}
use Rattle.geometry_model.specs.Locations.{locate}
use Rattle.geometry_model.specs.Predicates.{holds}
use Rattle.geometry_model.specs.Validity.{IsValid}
use Rattle.geometry_model.specs.declared.shapes.Kind.{Kind}
use Rattle.geometry_model.specs.declared.shapes.Kind.TheVariants as kinds
use Rattle.geometry_model.specs.declared.point_sets.Location.{Location}
use Rattle.geometry_model.specs.declared.point_sets.Location.TheVariants.{Interior, Boundary, Exterior}
use Rattle.geometry_model.specs.declared.point_sets.Dimension.{Dimension}
use Rattle.geometry_model.specs.declared.point_sets.Dimension.TheVariants.{Zero, One, Two}
use Rattle.geometry_model.specs.declared.relations.Predicate.{Predicate}
use Rattle.matrix_laws.proofs.Closing.{valid_rings_are_closed}
use Rattle.matrix_laws.proofs.Turned.{labelled_is_transposed}
use Rattle.matrix_laws.specs.Cells.{Shows, raised, IsPartOf, IsSound, Covers, CoversPosition}
use Rattle.matrix_laws.proofs.Growing.{still_shown}
use Rattle.matrix_laws.proofs.CellTheorems.{covering_is_whole, covers_turned}
use Rattle.matrix_laws.specs.Gaps.{of_own_edges}
use Rattle.matrix_laws.specs.Covering.{ShowsOff, ShowsEnds}
use Rattle.de9im.specs.Deciding.{IsDecided, LiesInPart}
use Rattle.de9im.specs.Raising.{Grows, HasSides, LiesIn, beside_area, of_area}
use Rattle.de9im.proofs.ApartEdges.{apart_is_there, none_is_apart, lies_outside_none, outside_none_covers}
use Rattle.de9im.proofs.Growth.{raised_one}
use Rattle.de9im.proofs.ListedPositions.{listed_is_interior, position_grows, position_shown}
use Rattle.de9im.proofs.Passes.{is_matrix, turned_shows}

-- points have no edges, and areas list no positions
no_edges : (g : Geometry) → kind g ≡ kinds.Point → edges g ≡ []
no_edges (Geometry.Point o) k = refl
no_edges (Geometry.MultiPoint ps) k = refl
no_edges (Geometry.LineString l) k = absurd (let z : kinds.Line ≡ kinds.Point = k in cc)
no_edges (Geometry.MultiLineString ls) k = absurd (let z : kinds.Line ≡ kinds.Point = k in cc)
no_edges (Geometry.Polygon rs) k = absurd (let z : kinds.Area ≡ kinds.Point = k in cc)
no_edges (Geometry.MultiPolygon es) k = absurd (let z : kinds.Area ≡ kinds.Point = k in cc)

none_listed : (g : Geometry) → kind g ≡ kinds.Area → listed g ≡ []
none_listed (Geometry.Point o) k = absurd (let z : kinds.Point ≡ kinds.Area = k in cc)
none_listed (Geometry.MultiPoint ps) k = absurd (let z : kinds.Point ≡ kinds.Area = k in cc)
none_listed (Geometry.LineString l) k = refl
none_listed (Geometry.MultiLineString ls) k = refl
none_listed (Geometry.Polygon rs) k = refl
none_listed (Geometry.MultiPolygon es) k = refl

-- what the area shows beside the points is there, by an edge that isn't vertical
area_is_there : (a b : Geometry) → kind a ≡ kinds.Point → HasSides b → IsValid a → IsValid b → IsSound a b of_area
area_is_there a b points sides va vb = go
  where
    e : Edge
    e = sides.edge.1

    wide : e.start.x ≢ e.end.x
    wide = sides.edge.4

    shown : ShowsOff b (labelled_matrix b a) e Exterior
    shown = apart_is_there b a e Exterior (none_is_apart a e (no_edges a points)) (sides.edge.0, sides.edge.2, sides.edge.3)
        (λ same. wide (ap (λ (p : Position). p.x) same))
        (lies_outside_none a (no_edges a points) e.end) vb va

    there : (l k : Location) (d : Dimension) → Shows (labelled_matrix b a) l k d → Shows (labelled_matrix a b) k l d
    there l k d s = subst (λ (m : Matrix). Shows m k l d) (sym (labelled_is_transposed b a)) (turned_shows (labelled_matrix b a) l k d s)

    go : IsSound a b of_area
    go Interior Interior = refl
    go Interior Boundary = refl
    go Interior Exterior = refl
    go Boundary Interior = refl
    go Boundary Boundary = refl
    go Boundary Exterior = refl
    go Exterior Interior = there Interior Exterior Two (shown.inner sides.is_area wide)
    go Exterior Boundary = there Boundary Exterior One (subst (λ (k : Kind). Shows (labelled_matrix b a) (of_own_edges k) Exterior One) sides.is_area shown.piece)
    go Exterior Exterior = refl

-- a matrix that shows it, and the listed points, covers each edge of the area
turned_twice : (m : Matrix) → transposed (transposed m) ≡ m
turned_twice m = refl

area_is_covered : (a b : Geometry) (n : Matrix) → kind a ≡ kinds.Point → kind b ≡ kinds.Area → IsPartOf of_area n → All (CoversPosition a b n) (listed a) → All (Covers a b n) (edges b)
area_is_covered a b n points area part positions = All-weaker (Contains (edges b)) (Covers a b n) covered (edges b) (All-contains_itself (edges b))
  where
    t : Matrix
    t = transposed n

    shows : (l : Location) (d : Dimension) → Shows of_area Exterior l d → Shows t l Exterior d
    shows l d s = turned_shows n Exterior l d (still_shown of_area n part Exterior l d s)

    off : (e : Edge) → ShowsOff b t e Exterior
    off e = record {
      piece = subst (λ (k : Kind). Shows t (of_own_edges k) Exterior One) (sym area) (shows Boundary One refl);
      outer = λ _. shows Exterior Two refl;
      inner = λ _ _. shows Interior Two refl;
    }

    ends : ShowsEnds b a t
    ends = record {
      of_first = λ k. absurd (let z : kinds.Area ≡ kinds.Line = sym area ∙ k in cc);
      of_second = λ k. absurd (let z : kinds.Point ≡ kinds.Line = sym points ∙ k in cc);
      positions = All-weaker (CoversPosition a b n) (CoversPosition b a t) (covers_turned a b n).1 (listed a) positions;
    }

    covered : (e : Edge) → Contains (edges b) e → Covers a b n e
    covered e own = subst (λ (m : Matrix). Covers a b m e) (turned_twice n)
        ((covers_turned b a t).0 e (outside_none_covers b a e t (no_edges a points) own ends (off e)))

-- so it is the label matrix
pub points_give : (a b : Geometry) (n : Matrix) → kind a ≡ kinds.Point → HasSides b → IsValid a → IsValid b → Grows a b of_area n
    → All (CoversPosition a b n) (listed a) → n ≡ labelled_matrix a b
points_give a b n points sides va vb grown positions =
    covering_is_whole a b (valid_rings_are_closed a va) (valid_rings_are_closed b vb) n
    (subst (All (Covers a b n)) (sym (no_edges a points)) (All-nil (Covers a b n)))
    (area_is_covered a b n points sides.is_area grown.grown positions)
    positions
    (subst (All (CoversPosition a b n)) (sym (none_listed b sides.is_area)) (All-nil (CoversPosition a b n)))
    (still_shown of_area n grown.grown Exterior Exterior Two refl)
    (grown.sound va vb (area_is_there a b points sides va vb))

-- of one position it follows from where that lies
pub one_gives : (a b : Geometry) (p : Position) (l : Location) (n : Matrix) → kind a ≡ kinds.Point → HasSides b → IsValid a → IsValid b
    → listed a ≡ p ∷ [] → l ≡ locate b (point_at p) → n ≡ raised of_area Interior l Zero → n ≡ labelled_matrix a b
one_gives a b p l n points sides va vb one there e = points_give a b n points sides va vb
    (position_grows a b p Interior l of_area n lies there e)
    (subst (All (CoversPosition a b n)) (sym one) (All-cons (CoversPosition a b n) p [] shown (All-nil (CoversPosition a b n))))
  where
    lies : LiesIn Interior a p
    lies = listed_is_interior a p (subst (λ (ps : List Position). Contains ps p) (sym one) (0, omega arith, refl))

    shown : CoversPosition a b n p
    shown = position_shown a b p Interior n lies
        (subst (λ (k : Location). Shows n Interior k Zero) there ((raised_one of_area n Interior l Zero e).shows))

-- and turned, that of the geometries the other way round
pub turned_gives : (a b : Geometry) (m n : Matrix) → m ≡ labelled_matrix b a → n ≡ transposed m → n ≡ labelled_matrix a b
turned_gives a b m n e t = t ∙ ap transposed e ∙ sym (labelled_is_transposed b a)

-- ---- so a predicate holds of a point and an area, or of these turned, as of the matrix of the part in which the point lies
pub decided_by_part : (p : Predicate) (a b : Geometry) (l : Location) (answer : Option Bool) → LiesInPart a b l
    → IfSome answer (λ t. t ≡ holds p kinds.Point kinds.Area (beside_area l)) → IfSome answer (IsDecided p a b)
decided_by_part p a b l None lies exact = tt
decided_by_part p a b l (Some t) lies exact = record {
  matrix = beside_area l;
  is_matrix = is_matrix a b (beside_area l) lies.point_valid lies.area_valid lies.labelled;
  exact = exact ∙ λ i. holds p (sym lies.is_point i) (sym lies.is_area i) (beside_area l);
}

pub decided_turned : (p : Predicate) (a b : Geometry) (l : Location) (answer : Option Bool) → LiesInPart b a l
    → IfSome answer (λ t. t ≡ holds p kinds.Area kinds.Point (transposed (beside_area l))) → IfSome answer (IsDecided p a b)
decided_turned p a b l None lies exact = tt
decided_turned p a b l (Some t) lies exact = record {
  matrix = transposed (beside_area l);
  is_matrix = is_matrix a b (transposed (beside_area l)) lies.area_valid lies.point_valid
      (turned_gives a b (beside_area l) (transposed (beside_area l)) lies.labelled refl);
  exact = exact ∙ λ i. holds p (sym lies.is_area i) (sym lies.is_point i) (transposed (beside_area l));
}
