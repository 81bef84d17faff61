-- Each geometry that a text spells is kept.
use Rattle.std.proofs.Common.{ℕ, ◌<◌, List, [], ◌∷◌, length, map, sym, subst, arith, zero-lt-suc}
use Rattle.std.specs.List.{All}
use Rattle.std.proofs.lemmas.List.Elements.{All-nil, All-cons, All-append}
use Rattle.geometry_model.specs.Points.{Position}
use Rattle.geometry_model.specs.Geometries.{Geometry, Point, MultiPoint, LineString, MultiLineString, Polygon, MultiPolygon, joined_rings, edges, edges_of_lines}
use Rattle.geometry_model.specs.WellKnownText.{Separated, LineText, PolygonText, Body, TaggedText, written_parts, without_repeats, geometry_of}
use Rattle.text_laws.proofs.TextPrinted.{counts_again, rings_kept}
use Rattle.wkt.specs.KeptGeometries.{IsKept, SpelledIsKept}
use Rattle.wkt.proofs.KeptLines.{Apart, first_kept, lines_apart}

-- edges

-- the ends of each edge of a geometry as it is meant differ, of each type
ends_apart : (w : Geometry) → All Apart (edges (geometry_of w))
ends_apart (Point p) = All-nil Apart
ends_apart (MultiPoint ps) = All-nil Apart
ends_apart (LineString ps) = lines_apart (ps ∷ [])
ends_apart (MultiLineString ls) = lines_apart ls
ends_apart (Polygon rs) = lines_apart rs
ends_apart (MultiPolygon es) = subst (λ rs. All Apart (edges_of_lines rs)) (sym (rings_kept es)) (lines_apart (joined_rings es))

-- rings and elements

abbrev HasPositions : List Position → Type 0
HasPositions part = 0 < length part

-- a line or ring with positions has some without its repeats
still_some : (ps : List Position) → HasPositions ps → HasPositions (without_repeats ps)
still_some [] some = absurd (omega (arith, some))
still_some (p ∷ ps) some = subst HasPositions (sym (first_kept p ps).1) (zero-lt-suc (length (first_kept p ps).0))

-- the grammar takes no line or ring without positions
line_has_positions : (ps : List Position) (text : List ℕ) → LineText ps text → HasPositions ps
line_has_positions [] text t = absurd t.4.3
line_has_positions (p ∷ ps) text t = zero-lt-suc (length ps)

-- so each of a list has positions, without repeats too
separated_have_positions : (ls : List (List Position)) (text : List ℕ) → Separated LineText ls text → All HasPositions (map without_repeats ls)
separated_have_positions [] text t = absurd t
separated_have_positions (l ∷ []) text t =
    All-cons HasPositions (without_repeats l) [] (still_some l (line_has_positions l t.4.0 t.4.3)) (All-nil HasPositions)
separated_have_positions (l ∷ m ∷ more) text t =
    All-cons HasPositions (without_repeats l) (map without_repeats (m ∷ more)) (still_some l (line_has_positions l t.3.4.0 t.3.4.3))
    (separated_have_positions (m ∷ more) t.4.1 t.4.4)

-- and each behind a name
body_has_positions : (ls : List (List Position)) (text : List ℕ) → Body LineText ls text → All HasPositions (map without_repeats ls)
body_has_positions [] text t = All-nil HasPositions
body_has_positions (l ∷ more) text t = separated_have_positions (l ∷ more) t.4.4.0 t.4.4.3

-- each ring of a polygon
polygon_has_positions : (rs : List (List Position)) (text : List ℕ) → PolygonText rs text → All HasPositions (map without_repeats rs)
polygon_has_positions rs text t = separated_have_positions rs t.4.0 t.4.3

-- and of several polygons
polygons_have_positions : (es : List (List (List Position))) (text : List ℕ) → Separated PolygonText es text → All HasPositions (joined_rings (map (map without_repeats) es))
polygons_have_positions [] text t = absurd t
polygons_have_positions (e ∷ []) text t =
    All-append HasPositions (map without_repeats e) [] (polygon_has_positions e t.4.0 t.4.3) (All-nil HasPositions)
polygons_have_positions (e ∷ f ∷ more) text t =
    All-append HasPositions (map without_repeats e) (joined_rings (map (map without_repeats) (f ∷ more))) (polygon_has_positions e t.3.4.0 t.3.4.3)
    (polygons_have_positions (f ∷ more) t.4.1 t.4.4)

-- and of those behind a name
polygon_body_has_positions : (es : List (List (List Position))) (text : List ℕ) → Body PolygonText es text → All HasPositions (joined_rings (map (map without_repeats) es))
polygon_body_has_positions [] text t = All-nil HasPositions
polygon_body_has_positions (e ∷ more) text t = polygons_have_positions (e ∷ more) t.4.4.0 t.4.4.3

-- so each element and ring of a text has positions, of each type
parts_have_positions : (w : Geometry) (text : List ℕ) → TaggedText w text → All HasPositions (written_parts (geometry_of w))
parts_have_positions (Point p) text t = All-nil HasPositions
parts_have_positions (MultiPoint ps) text t = All-nil HasPositions
parts_have_positions (LineString ps) text t = All-nil HasPositions
parts_have_positions (MultiLineString ls) text t = body_has_positions ls t.1 t.4
parts_have_positions (Polygon rs) text t = body_has_positions rs t.1 t.4
parts_have_positions (MultiPolygon es) text t = polygon_body_has_positions es t.1 t.4

-- what is written is within the counts and has no empty part; that stays so without repeats, and then the ends of each edge differ
pub spelled_is_kept : SpelledIsKept
spelled_is_kept text g spelled =
    let w = spelled.written in
    subst IsKept (sym spelled.meant) (record {
      counts = counts_again w spelled.counts;
      ends_differ = ends_apart w;
      parts_have_positions = parts_have_positions w spelled.spelled.4.0 spelled.spelled.4.3;
    })
