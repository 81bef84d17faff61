-- A geometry without fault, with the boxes over its edges and the positions that are searched.
use Rattle.std.proofs.Common.{◌≡◌, ◌≢◌, ◌⊎◌, inl, inr, ◌∙◌, refl, sym, ap, subst, false, ◌||◌, List, [], None, Some, Result, Ok, Err}
use Rattle.std.specs.Prelude.{OnOk}
use Rattle.std.specs.List.Sorted.{IsStrictlySortedBy}
use Rattle.std.proofs.Math.Bool.{or-false}
use Rattle.geometry_model.specs.Geometries as g
use Rattle.geometry_model.specs.declared.shapes.GeometryType.TheVariants as types
use Rattle.geometry_model.specs.declared.shapes.Kind.{Kind}
use Rattle.geometry_model.specs.declared.shapes.Kind.TheVariants as kinds
use Rattle.geometry_model.specs.Points.{Position}
use Rattle.geometry_model.specs.Locations.{is_at}
use Rattle.validity.specs.OddEnds.{AreOddEnds, ended_lines}
use Rattle.geometry_model.specs.Geometries.{Geometry, Edge, edges, listed, kind, type_of}
use Rattle.geometry_model.specs.FirstFaults.{validity_fault}
use Rattle.edge_boxes.specs.BoxLists.{BoxesOf}
use Rattle.edge_boxes.specs.declared.boxes.EdgeBoxes.{EdgeBoxes}
use Rattle.validity.specs.ValidGeometries.{IsValidWith, AreSearched}
use Rattle.validity.specs.Contents.{content_geometry, IsKeptIn}
use Rattle.validity.specs.declared.valid_geometry.Content.{Content}
use Rattle.validity.specs.declared.valid_geometry.Content.TheVariants as content
use Rattle.validity.proofs.Faults.{no_fault_valid}

-- boxes of a geometry's edges are those of an equal one's
pub boxes_of_same : (g h : Geometry) (boxes : EdgeBoxes) → g ≡ h → BoxesOf boxes (edges g) → BoxesOf boxes (edges h)
boxes_of_same g h boxes e are = subst (λ (k : Geometry). BoxesOf boxes (edges k)) e are

-- where no fault is found the geometry is kept with its boxes
pub is_kept : (g : Geometry) (boxes : EdgeBoxes) → BoxesOf boxes (edges g) → validity_fault g ≡ None → IsValidWith g boxes
is_kept g boxes are none = record { valid = no_fault_valid g none; over_edges = are }

-- the boxes that are kept are those of the geometry's edges
pub boxes_of_point : (k : Content) (now g : Geometry) (boxes : EdgeBoxes) → content_geometry k ≡ now → IsKeptIn k → k ≡ content.Point g boxes → BoxesOf boxes (edges now)
boxes_of_point k now g boxes view kept is = boxes_of_same g now boxes (ap content_geometry (sym is) ∙ view) (subst IsKeptIn is kept).1.over_edges

-- a POINT has no edges and no fault
pub point_has_no_edges : (g : Geometry) → type_of g ≡ types.Point → edges g ≡ []
point_has_no_edges (g.Point p) e = refl
point_has_no_edges (g.MultiPoint ps) e = absurd cc
point_has_no_edges (g.LineString ps) e = absurd cc
point_has_no_edges (g.MultiLineString ls) e = absurd cc
point_has_no_edges (g.Polygon rs) e = absurd cc
point_has_no_edges (g.MultiPolygon es) e = absurd cc

-- every fault is one of lines, rings or polygons, so none is tested
pub point_has_no_fault : (g : Geometry) → type_of g ≡ types.Point → validity_fault g ≡ None
point_has_no_fault (g.Point p) e = refl
point_has_no_fault (g.MultiPoint ps) e = absurd cc
point_has_no_fault (g.LineString ps) e = absurd cc
point_has_no_fault (g.MultiLineString ls) e = absurd cc
point_has_no_fault (g.Polygon rs) e = absurd cc
point_has_no_fault (g.MultiPolygon es) e = absurd cc

-- a POINT is kept with boxes of no edges
pub point_is_kept : (g : Geometry) (edges : List Edge) (boxes : EdgeBoxes) → type_of g ≡ types.Point → edges ≡ [] → BoxesOf boxes edges → IsValidWith g boxes
point_is_kept g none boxes point e are = is_kept g boxes (subst (BoxesOf boxes) (e ∙ sym (point_has_no_edges g point)) are) (point_has_no_fault g point)

-- the one position of a POINT ascends
pub point_is_searched : (g : Geometry) → type_of g ≡ types.Point → AreSearched (listed g) g
unfolding IsStrictlySortedBy
point_is_searched (g.Point None) e = record { ascend = tt; exact = λ p is. refl }
point_is_searched (g.Point (Some a)) e = record { ascend = (tt, tt); exact = λ p is. sym (or-false (is_at p a || false)) }
point_is_searched (g.MultiPoint ps) e = absurd cc
point_is_searched (g.LineString ps) e = absurd cc
point_is_searched (g.MultiLineString ls) e = absurd cc
point_is_searched (g.Polygon rs) e = absurd cc
point_is_searched (g.MultiPolygon es) e = absurd cc

-- so what is searched of a POINT that is kept is what it lists
pub searched_of_point : (k : Content) (now g : Geometry) (boxes : EdgeBoxes) (positions : List Position) → content_geometry k ≡ now → IsKeptIn k → k ≡ content.Point g boxes → positions ≡ listed g → AreSearched positions now
searched_of_point k now g boxes positions view kept is e =
    subst (λ l. AreSearched l now) (sym e) (subst (AreSearched (listed g)) (ap content_geometry (sym is) ∙ view) (point_is_searched g (subst IsKeptIn is kept).0))

-- only lines have ends
only_lines_end : (g : Geometry) → kind g ≢ kinds.Line → ended_lines g ≡ []
only_lines_end (g.Point p) n = refl
only_lines_end (g.MultiPoint ps) n = refl
only_lines_end (g.LineString ps) n = absurd (n refl)
only_lines_end (g.MultiLineString ls) n = absurd (n refl)
only_lines_end (g.Polygon rs) n = refl
only_lines_end (g.MultiPolygon es) n = refl

-- so points and areas have none
pub no_lines_end : (g : Geometry) (k : Kind) → k ≡ kind g → (k ≡ kinds.Point) ⊎ (k ≡ kinds.Area) → ended_lines g ≡ []
no_lines_end g k e (inl point) = only_lines_end g (λ line. let n : kinds.Point ≡ kinds.Line = sym point ∙ e ∙ line in cc)
no_lines_end g k e (inr area) = only_lines_end g (λ line. let n : kinds.Area ≡ kinds.Line = sym area ∙ e ∙ line in cc)

-- no odd ends are at no lines
pub none_odd : (ls : List (List Position)) → ls ≡ [] → AreOddEnds [] ls
unfolding IsStrictlySortedBy
none_odd ls e = subst (AreOddEnds []) (sym e) (record { ascend = tt; exact = λ p is. refl })

-- what an answer without fault brings
pub brings : {V E A B : Type 0} (r : Result V E) → OnOk r A → (A → B) → OnOk r B
brings (Ok v) a f = f a
brings (Err e) a f = tt
