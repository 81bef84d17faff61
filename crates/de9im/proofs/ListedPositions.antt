-- Positions that lie in one part of their geometry, as listed ones lie in the interior, and when no more of them can show anything.
use Rattle.std.proofs.Common.{◌≡◌, ℕ, ◌<◌, if◌then◌else◌, refl, ap, sym, subst, List, [], length, get_or, Contains, option_to_list, arith}
use Rattle.std.specs.List.{All}
use Rattle.std.proofs.lemmas.List.Elements.{All-contains, All-weaker, All-contains_itself}
use Rattle.geometry_model.specs.Points.{Position, point_at}
use Rattle.geometry_model.specs.Geometries.{Geometry, Point, MultiPoint, LineString, MultiLineString, Polygon, MultiPolygon, kind, listed}
use Rattle.geometry_model.specs.Locations.{is_at, locate, in_points}
use Rattle.geometry_model.specs.Dimensions.{Matrix}
use Rattle.geometry_model.specs.declared.point_sets.Location.{Location}
use Rattle.geometry_model.specs.declared.point_sets.Location.TheVariants.{Interior, Exterior}
use Rattle.geometry_model.specs.declared.point_sets.Dimension.TheVariants.{Zero}
use Rattle.geometry_laws.proofs.Each.{one_passes}
use Rattle.geometry_laws.proofs.RingParity.{position_is_point}
use Rattle.geometry_laws.proofs.Cuts.{among_from_contains, same_end}
use Rattle.matrix_laws.specs.Cells.{Shows, raised, CoversPosition}
use Rattle.de9im.specs.Raising.{Grows, LiesIn, ShowsRow}
use Rattle.de9im.proofs.Growth.{grows_point}

none_listed : {X : Type 0} (p : Position) → Contains [] p → X
none_listed p h = absurd (omega (arith, h.1))

in_list : (ps : List Position) (p : Position) → Contains ps p → in_points ps (point_at p) ≡ Interior
in_list ps p h = ap (λ t. if t then Interior else Exterior) (one_passes (is_at (point_at p)) ps p (among_from_contains ps p h) (same_end p))

-- a listed position is in the interior (06-103r4, 6.1.4 and 6.1.5)
pub listed_is_interior : (g : Geometry) (p : Position) → Contains (listed g) p → locate g (point_at p) ≡ Interior
listed_is_interior (Point o) p h = in_list (option_to_list o) p h
listed_is_interior (MultiPoint ps) p h = in_list ps p h
listed_is_interior (LineString ps) p h = none_listed p h
listed_is_interior (MultiLineString ls) p h = none_listed p h
listed_is_interior (Polygon rs) p h = none_listed p h
listed_is_interior (MultiPolygon es) p h = none_listed p h

pub listed_lie : (a : Geometry) → All (LiesIn Interior a) (listed a)
listed_lie a = All-weaker (Contains (listed a)) (LiesIn Interior a) (listed_is_interior a) (listed a) (All-contains_itself (listed a))

-- ---- a position shows where it lies
pub position_grows : (a b : Geometry) (p : Position) (l k : Location) (m n : Matrix) → LiesIn l a p → k ≡ locate b (point_at p) → n ≡ raised m l k Zero → Grows a b m n
position_grows a b p l k m n lies ek e = grows_point a b (point_at p) l k m n (position_is_point p) (sym lies) ek e

pub position_shown : (a b : Geometry) (p : Position) (l : Location) (m : Matrix) → LiesIn l a p → Shows m l (locate b (point_at p)) Zero → CoversPosition a b m p
position_shown a b p l m lies s = subst (λ (i : Location). Shows m i (locate b (point_at p)) Zero) (sym lies) s

-- in a full row all positions are covered
pub row_covers : (a b : Geometry) (l : Location) (ps : List Position) (m : Matrix) → ShowsRow l (kind b) m → All (LiesIn l a) ps → All (CoversPosition a b m) ps
row_covers a b l ps m row all = All-weaker (LiesIn l a) (CoversPosition a b m) (λ p lies. position_shown a b p l m lies (row b refl (point_at p))) ps all

-- the position at a place lies there too
pub lies_at : (a : Geometry) (l : Location) (ps : List Position) (i : ℕ) (p : Position) → i < length ps → p ≡ get_or ps i p → All (LiesIn l a) ps → LiesIn l a p
lies_at a l ps i p lt e all = All-contains (LiesIn l a) ps p all (i, lt, sym e)
