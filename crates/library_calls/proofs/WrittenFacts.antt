-- What arrays write: its positions and parts are those that were given, and without repeats it is a geometry that can be kept.
use Rattle.std.proofs.Common.{◌≡◌, refl, sym, ap, ◌∙◌, subst, ℕ, ◌<◌, ◌≤◌, ◌==◌, true, false, if◌then◌else◌, ◌&&◌, List, [], ◌∷◌, length, map, nat_le, sum, Option, Some, None, Err, arith}
use Rattle.std.specs.List.{All, flat_map}
use Rattle.std.proofs.lemmas.Bool.{and_parts}
use Rattle.std.proofs.lemmas.List.Elements.{All-nil}
use Rattle.geometry_model.specs.Points.{Position}
use Rattle.geometry_model.specs.Geometries.{Geometry, Point, MultiPoint, LineString, MultiLineString, Polygon, MultiPolygon, joined_rings, edges, edges_of_lines}
use Rattle.geometry_model.specs.WellKnownText.{geometry_of, part_limit, position_limit, without_repeats, written_parts, written_positions}
use Rattle.geometry_model.specs.declared.shapes.GeometryType.{GeometryType}
use Rattle.geometry_model.specs.declared.shapes.GeometryType.TheVariants as types
use Rattle.std.specs.Option.{IfSome}
use Rattle.geometry_model.specs.declared.text_faults.TextFault.{TextFault}
use Rattle.geometry_model.specs.declared.text_faults.TextFault.TheVariants.{OutOfRange, TooLong}
use Rattle.wkt.specs.KeptGeometries.{IsKept}
use Rattle.wkt.proofs.KeptLines.{Apart, lines_apart}
use Rattle.text_laws.proofs.TextPrinted.{counts_again, rings_kept}
use Rattle.library_calls.specs.Written.{first_past_limit, fits, is_within_counts, parts_of, taken, use_up, within_or, written_as}
use Rattle.library_calls.proofs.ArrayParts.{as_many, joined, some_in_each, sum_used}

-- sizes that use up a number, and nothing else
pub lines_fit : (count : ℕ) (lines polygons : List ℕ) → (use_up lines count && length polygons == 0) ≡ true → use_up lines count ≡ true
lines_fit count lines polygons is = (and_parts (use_up lines count) (length polygons == 0) is).0

-- no sizes at all
none_given : (lines polygons : List ℕ) → (length lines == 0 && length polygons == 0) ≡ true → length lines ≡ 0
none_given lines polygons is = let none : (length lines == 0) ≡ true = (and_parts (length lines == 0) (length polygons == 0) is).0 in grind (arith, none)

-- a point has at most one position, and no sizes
point_fits : (count : ℕ) (lines polygons : List ℕ) → (nat_le count 1 && length lines == 0 && length polygons == 0) ≡ true → (nat_le count 1 ≡ true) × (length lines ≡ 0)
point_fits count lines polygons is =
    let both = and_parts (nat_le count 1) (length lines == 0) (and_parts (nat_le count 1 && length lines == 0) (length polygons == 0) is).0 in
    let none : (length lines == 0) ≡ true = both.1 in
    (both.0, grind (arith, none))

-- of polygons: the sizes of rings use up the positions, and the numbers of rings these
pub polygons_fit : (ps : List Position) (lines polygons : List ℕ) → (use_up lines (length ps) && use_up polygons (length lines)) ≡ true
    → (use_up lines (length ps) ≡ true) × (use_up polygons (length (parts_of lines ps)) ≡ true)
polygons_fit ps lines polygons is =
    let both = and_parts (use_up lines (length ps)) (use_up polygons (length lines)) is in
    (both.0, subst (λ n. use_up polygons n ≡ true) (sym (as_many lines ps)) both.1)

-- so their sums are the numbers of positions and of rings
pub polygon_sizes : (count : ℕ) (lines polygons : List ℕ) → (use_up lines count && use_up polygons (length lines)) ≡ true → (sum lines ≡ count) × (sum polygons ≡ length lines)
polygon_sizes count lines polygons is =
    let both = and_parts (use_up lines count) (use_up polygons (length lines)) is in
    (sum_used lines count both.0, sum_used polygons (length lines) both.1)

-- at most one position is the first, or none
at_most_one : (ps : List Position) → nat_le (length ps) 1 ≡ true → written_positions (written_as types.Point ps [] []) ≡ ps
at_most_one [] is = refl
at_most_one (p ∷ []) is = refl
at_most_one (p ∷ q ∷ ps) is = absurd (grind (arith, is))

-- the positions that are written are those that were given
pub positions_written : (t : GeometryType) (ps : List Position) (lines polygons : List ℕ) → fits t (length ps) lines polygons ≡ true → written_positions (written_as t ps lines polygons) ≡ ps
positions_written types.Point ps lines polygons is = at_most_one ps (point_fits (length ps) lines polygons is).0
positions_written types.MultiPoint ps lines polygons is = refl
positions_written types.LineString ps lines polygons is = refl
positions_written types.MultiLineString ps lines polygons is = joined lines ps (lines_fit (length ps) lines polygons is)
positions_written types.Polygon ps lines polygons is = joined lines ps (lines_fit (length ps) lines polygons is)
positions_written types.MultiPolygon ps lines polygons is =
    let both = polygons_fit ps lines polygons is in
    ap (flat_map (λ ring. ring)) (joined polygons (parts_of lines ps) both.1) ∙ joined lines ps both.0

-- there are as many parts as sizes
pub parts_written : (t : GeometryType) (ps : List Position) (lines polygons : List ℕ) → fits t (length ps) lines polygons ≡ true → length (written_parts (written_as t ps lines polygons)) ≡ length lines
parts_written types.Point ps lines polygons is = sym (point_fits (length ps) lines polygons is).1
parts_written types.MultiPoint ps lines polygons is = sym (none_given lines polygons is)
parts_written types.LineString ps lines polygons is = sym (none_given lines polygons is)
parts_written types.MultiLineString ps lines polygons is = as_many lines ps
parts_written types.Polygon ps lines polygons is = as_many lines ps
parts_written types.MultiPolygon ps lines polygons is =
    ap length (joined polygons (parts_of lines ps) (polygons_fit ps lines polygons is).1) ∙ as_many lines ps

-- so its counts are those of the arrays
pub counts_written : (t : GeometryType) (ps : List Position) (lines polygons : List ℕ) → fits t (length ps) lines polygons ≡ true
    → is_within_counts (written_as t ps lines polygons) ≡ (nat_le (length ps) position_limit && nat_le (length lines) part_limit)
counts_written t ps lines polygons is = rw (positions_written t ps lines polygons is, parts_written t ps lines polygons is) refl

-- too many positions are refused
pub too_many : (t : GeometryType) (ps : List Position) (lines polygons : List ℕ) → fits t (length ps) lines polygons ≡ true
    → (nat_le (length ps) position_limit && nat_le (length lines) part_limit) ≡ false → taken (written_as t ps lines polygons) ≡ Err TooLong
too_many t ps lines polygons is many =
    ap (λ test. if test then within_or (written_as t ps lines polygons) (first_past_limit 0 (written_positions (written_as t ps lines polygons))) else Err TooLong)
    (counts_written t ps lines polygons is ∙ many)

-- else the first position with a coordinate past the limit decides
pub few_enough : (t : GeometryType) (ps : List Position) (lines polygons : List ℕ) → fits t (length ps) lines polygons ≡ true
    → (nat_le (length ps) position_limit && nat_le (length lines) part_limit) ≡ true
    → taken (written_as t ps lines polygons) ≡ within_or (written_as t ps lines polygons) (first_past_limit 0 ps)
few_enough t ps lines polygons is few =
    ap (λ test. if test then within_or (written_as t ps lines polygons) (first_past_limit 0 (written_positions (written_as t ps lines polygons))) else Err TooLong)
    (counts_written t ps lines polygons is ∙ few)
    ∙ ap (λ qs. within_or (written_as t ps lines polygons) (first_past_limit 0 qs)) (positions_written t ps lines polygons is)

-- the two tests of the counts
pub are_few : (count parts : ℕ) → count ≤ position_limit → parts ≤ part_limit → (nat_le count position_limit && nat_le parts part_limit) ≡ true
are_few count parts few few_parts = grind (arith, few, few_parts)

pub many_positions : (count parts : ℕ) → position_limit < count → (nat_le count position_limit && nat_le parts part_limit) ≡ false
many_positions count parts many = grind (arith, many)

pub many_parts : (count parts : ℕ) → part_limit < parts → (nat_le count position_limit && nat_le parts part_limit) ≡ false
many_parts count parts many = grind (arith, many)

-- a position past the limit is refused
pub far_refused : (o : Option TextFault) (w : Geometry) (first : Option ℕ) → taken w ≡ within_or w first
    → IfSome o (λ f. (at : ℕ) × (f ≡ OutOfRange at) × (first ≡ Some at)) → IfSome o (λ f. taken w ≡ Err f)
far_refused None w first is found = found
far_refused (Some f) w first is found = is ∙ (ap (within_or w) found.2 ∙ ap Err (sym found.1))

-- ---- what is kept

-- the ends of each edge differ, of each type
ends_apart : (w : Geometry) → All Apart (edges (geometry_of w))
ends_apart (Point p) = All-nil Apart
ends_apart (MultiPoint ps) = All-nil Apart
ends_apart (LineString ps) = lines_apart (ps ∷ [])
ends_apart (MultiLineString ls) = lines_apart ls
ends_apart (Polygon rs) = lines_apart rs
ends_apart (MultiPolygon es) = subst (λ rs. All Apart (edges_of_lines rs)) (sym (rings_kept es)) (lines_apart (joined_rings es))

abbrev HasPositions : List Position → Type 0
HasPositions part = 0 < length part

-- no part is empty
parts_have_positions : (t : GeometryType) (ps : List Position) (lines polygons : List ℕ) → fits t (length ps) lines polygons ≡ true
    → All HasPositions (written_parts (geometry_of (written_as t ps lines polygons)))
parts_have_positions types.Point ps lines polygons is = All-nil HasPositions
parts_have_positions types.MultiPoint ps lines polygons is = All-nil HasPositions
parts_have_positions types.LineString ps lines polygons is = All-nil HasPositions
parts_have_positions types.MultiLineString ps lines polygons is = some_in_each lines ps (lines_fit (length ps) lines polygons is)
parts_have_positions types.Polygon ps lines polygons is = some_in_each lines ps (lines_fit (length ps) lines polygons is)
parts_have_positions types.MultiPolygon ps lines polygons is =
    let both = polygons_fit ps lines polygons is in
    subst (All HasPositions) (sym (rings_kept (parts_of polygons (parts_of lines ps)) ∙ ap (map without_repeats) (joined polygons (parts_of lines ps) both.1)))
    (some_in_each lines ps both.0)

-- so within the counts it is kept
pub written_is_kept : (t : GeometryType) (ps : List Position) (lines polygons : List ℕ) → fits t (length ps) lines polygons ≡ true
    → length ps ≤ position_limit → length lines ≤ part_limit → IsKept (geometry_of (written_as t ps lines polygons))
written_is_kept t ps lines polygons is few few_parts =
    let w = written_as t ps lines polygons in
    record {
      counts = counts_again w (subst (λ n. n ≤ position_limit) (sym (ap length (positions_written t ps lines polygons is))) few, subst (λ n. n ≤ part_limit) (sym (parts_written t ps lines polygons is)) few_parts);
      ends_differ = ends_apart w;
      parts_have_positions = parts_have_positions t ps lines polygons is;
    }
