-- What one ring, line or polygon more adds to the counts, and why what was read is kept.
use Rattle.std.proofs.Common.{◌≡◌, sym, ap, ◌∙◌, subst, ℕ, ◌+◌, ◌<◌, ◌≤◌, List, [], ◌∷◌, ◌++◌, length, Some, None, length-append, append-nil, arith}
use Rattle.std.specs.List.{flat_map, All}
use Rattle.std.proofs.lemmas.Grind.{flat_map-append}
use Rattle.std.proofs.lemmas.List.Elements.{All-nil, All-cons, All-append, All-head, All-tail, All-weaker}
use Rattle.geometry_model.specs.Points.{Position}
use Rattle.geometry_model.specs.Geometries.{Point, MultiPoint, LineString, MultiLineString, Polygon, MultiPolygon, joined_rings, edges_of_line, edges_of_lines}
use Rattle.wkt.specs.KeptGeometries.{IsKeptLine}
use Rattle.wkt.proofs.KeptLines.{Apart}
use Rattle.wkb.specs.BinaryReading.{State}
use Rattle.wkb.specs.ReadingSteps.{Adds, AddsParts, AreParts, IsPart, IsRead}

-- ---- rings and lines
pub none_added : (i : State) → AddsParts i [] i
none_added i = record { positions = omega arith; parts = omega arith; are_parts = All-nil IsPart }

pub more_added : (old now new : State) (lines more : List (List Position)) → AddsParts old lines now → AddsParts now more new
    → AddsParts old (lines ++ more) new
more_added old now new lines more first then = record {
  positions = counted _ _ _ _ _ _ first.positions then.positions
      (ap length (flat_map-append (λ (line : List Position). line) lines more)
      ∙ length-append (flat_map (λ (line : List Position). line) lines) (flat_map (λ (line : List Position). line) more));
  parts = counted _ _ _ _ _ _ first.parts then.parts (length-append lines more);
  are_parts = All-append IsPart lines more first.are_parts then.are_parts;
}
  where
    counted : (a b c m n s : ℕ) → b ≡ a + m → c ≡ b + n → s ≡ m + n → c ≡ a + s
    counted a b c m n s e f g = omega (arith, e, f, g)

alone : (now new : State) (line : List Position) → Adds now (length line) 1 new → IsPart line → AddsParts now (line ∷ []) new
alone now new line added part = record {
  positions = added.0 ∙ ap (λ (n : ℕ). now.kept + n) (ap length (sym (append-nil line)));
  parts = added.1;
  are_parts = All-cons IsPart line [] part (All-nil IsPart);
}

pub one_added : (old now new : State) (lines : List (List Position)) (line : List Position) → AddsParts old lines now
    → Adds now (length line) 1 new → IsPart line → AddsParts old (lines ++ line ∷ []) new
one_added old now new lines line first added part = more_added old now new lines (line ∷ []) first (alone now new line added part)

pub after_head : (a b c : State) (lines : List (List Position)) → Adds a 0 0 b → AddsParts b lines c → AddsParts a lines c
after_head a b c lines head then = record {
  positions = omega (arith, head.0, then.positions);
  parts = omega
      (arith, head.1, then.parts);
  are_parts = then.are_parts;
}

-- polygons
pub joined_more : (es : List (List (List Position))) (rings : List (List Position))
    → joined_rings (es ++ rings ∷ []) ≡ joined_rings es ++ rings
joined_more es rings = flat_map-append (λ (rs : List (List Position)). rs) es (rings ∷ [])
    ∙ ap (λ l. joined_rings es ++ l) (append-nil rings)

-- ---- geometries
abbrev HasPositions : List Position → Type 0
HasPositions part = 0 < length part

ends_apart : (lines : List (List Position)) → AreParts lines → All Apart (edges_of_lines lines)
ends_apart [] parts = All-nil Apart
ends_apart (line ∷ lines) parts =
    let head : IsPart line = All-head IsPart line lines parts in
    All-append Apart (edges_of_line line) (edges_of_lines lines) head.kept.ends_differ
    (ends_apart lines (All-tail IsPart line lines parts))

some_positions : (lines : List (List Position)) → AreParts lines → All HasPositions lines
some_positions lines parts = All-weaker IsPart HasPositions (λ line part. part.some) lines parts

pub point_read : (old new : State) (p : Position) → Adds old 1 0 new → IsRead old (Point (Some p)) new
point_read old new p added = record {
  positions = added.0;
  parts = added.1;
  ends_differ = All-nil Apart;
  parts_have_positions =
      All-nil HasPositions;
}

pub no_point_read : (old new : State) → Adds old 0 0 new → IsRead old (Point None) new
no_point_read old new added = record {
  positions = added.0;
  parts = added.1;
  ends_differ = All-nil Apart;
  parts_have_positions =
      All-nil HasPositions;
}

pub points_read : (old new : State) (ps : List Position) → Adds old (length ps) 0 new → IsRead old (MultiPoint ps) new
points_read old new ps added = record {
  positions = added.0;
  parts = added.1;
  ends_differ = All-nil Apart;
  parts_have_positions =
      All-nil HasPositions;
}

pub line_read : (old new : State) (line : List Position) → Adds old (length line) 0 new → IsKeptLine line
    → IsRead old (LineString line) new
line_read old new line added kept = record {
  positions = added.0;
  parts = added.1;
  ends_differ = subst (All Apart) (sym (append-nil (edges_of_line line))) kept.ends_differ;
  parts_have_positions = All-nil HasPositions;
}

pub lines_read : (old new : State) (lines : List (List Position)) → AddsParts old lines new
    → IsRead old (MultiLineString lines) new
lines_read old new lines added = record {
  positions = added.positions;
  parts = added.parts;
  ends_differ = ends_apart lines
      added.are_parts;
  parts_have_positions = some_positions lines added.are_parts;
}

pub rings_read : (old new : State) (rings : List (List Position)) → AddsParts old rings new → IsRead old (Polygon rings) new
rings_read old new rings added = record {
  positions = added.positions;
  parts = added.parts;
  ends_differ = ends_apart rings
      added.are_parts;
  parts_have_positions = some_positions rings added.are_parts;
}

pub polygons_read : (old new : State) (es : List (List (List Position))) → AddsParts old (joined_rings es) new
    → IsRead old (MultiPolygon es) new
polygons_read old new es added = record {
  positions = added.positions;
  parts = added.parts;
  ends_differ = ends_apart
      (joined_rings es) added.are_parts;
  parts_have_positions = some_positions (joined_rings es) added.are_parts;
}

-- elements and rings behind their number
pub multi_point_read : (a b c : State) (ps : List Position) → Adds a 0 0 b → Adds b (length ps) 0 c → IsRead a (MultiPoint ps) c
multi_point_read a b c ps head added = points_read a c ps (omega (arith, head.0, added.0), omega (arith, head.1, added.1))

pub multi_line_read : (a b c : State) (lines : List (List Position)) → Adds a 0 0 b → AddsParts b lines c
    → IsRead a (MultiLineString lines) c
multi_line_read a b c lines head added = lines_read a c lines (after_head a b c lines head added)

pub polygon_read : (a b c : State) (rings : List (List Position)) → Adds a 0 0 b → AddsParts b rings c
    → IsRead a (Polygon rings) c
polygon_read a b c rings head added = rings_read a c rings (after_head a b c rings head added)

pub multi_polygon_read : (a b c : State) (es : List (List (List Position))) → Adds a 0 0 b → AddsParts b (joined_rings es) c
    → IsRead a (MultiPolygon es) c
multi_polygon_read a b c es head added = polygons_read a c es (after_head a b c (joined_rings es) head added)
