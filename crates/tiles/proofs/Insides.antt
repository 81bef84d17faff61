-- Boxes within the grid, and samples within boxes.
use Rattle.std.proofs.Common.{◌≡◌, ◌≤◌, true, List, get_or, ℤ, pos, ◌-ℤ◌, ◌≤ℤ◌, ◌<ℤ◌, subst, arith}
use Rattle.std.specs.Prelude.{int_le, unsigned_abs}
use Rattle.std.proofs.lemmas.Int.{ints}
use Rattle.basics.proofs.Orders.{at_most_less, before as is_before}
use Rattle.basics.proofs.Signs.{at_most_yes, at_most_from}
use Rattle.basics.proofs.Bools.{four_parts, four_from}
use Rattle.geometry_model.specs.Points.{Position}
use Rattle.geometry_model.specs.Envelopes.{Envelope}
use Rattle.fraction.specs.Ranges.{IsOnGrid}
use Rattle.table_laws.specs.Cells.{is_within}
use Rattle.tiles.specs.Cuts.{HasBothSides, IsMedian, LiesWithin}
use Rattle.tiles.specs.Lines.{coordinate, IsInGrid, PassesThrough, low_part, high_part}
use Rattle.tiles.specs.declared.lines.Axis.{Axis}
use Rattle.tiles.specs.declared.lines.Axis.TheVariants.{X, Y}
use Rattle.tiles.specs.declared.lines.Line.{Line}

-- ---- the grid

lower : (l at g : ℤ) → unsigned_abs l ≤ 10000000 → unsigned_abs g ≤ 10000000 → l <ℤ at → at ≤ℤ g → unsigned_abs (at -ℤ pos 1) ≤ 10000000
lower l at g a b h k = grind (arith, ints)

between : (l at g : ℤ) → unsigned_abs l ≤ 10000000 → unsigned_abs g ≤ 10000000 → l <ℤ at → at ≤ℤ g → unsigned_abs at ≤ 10000000
between l at g a b h k = grind (arith, ints)

-- the corners of the two parts are on the grid
pub corner_below : (axis : Axis) (at : ℤ) (box : Envelope) → IsInGrid box → PassesThrough axis at box → IsInGrid (low_part axis at box)
corner_below X at box h p = (h.0, record { x = lower box.least_x at box.greatest_x h.0.x h.1.x p.0 p.1; y = h.1.y })
corner_below Y at box h p = (h.0, record { x = h.1.x; y = lower box.least_y at box.greatest_y h.0.y h.1.y p.0 p.1 })

pub corner_above : (axis : Axis) (at : ℤ) (box : Envelope) → IsInGrid box → PassesThrough axis at box → IsInGrid (high_part axis at box)
corner_above X at box h p = (record { x = between box.least_x at box.greatest_x h.0.x h.1.x p.0 p.1; y = h.0.y }, h.1)
corner_above Y at box h p = (record { x = h.0.x; y = between box.least_y at box.greatest_y h.0.y h.1.y p.0 p.1 }, h.1)

-- ---- samples within a box

-- what is within a box, along each axis
bounded : (box : Envelope) (p : Position) → is_within box p ≡ true → (box.least_x ≤ℤ p.x) × (p.x ≤ℤ box.greatest_x) × (box.least_y ≤ℤ p.y) × (p.y ≤ℤ box.greatest_y)
bounded box p h =
    let f = four_parts (int_le box.least_x p.x) (int_le p.x box.greatest_x) (int_le box.least_y p.y) (int_le p.y box.greatest_y) h in
    (at_most_from box.least_x p.x f.0, at_most_from p.x box.greatest_x f.1, at_most_from box.least_y p.y f.2, at_most_from p.y box.greatest_y f.3)

one_through : (axis : Axis) (at : ℤ) (box : Envelope) (p q : Position) → is_within box p ≡ true → coordinate axis p <ℤ at → is_within box q ≡ true → coordinate axis q ≡ at → PassesThrough axis at box
one_through X at box p q h l k e = (at_most_less box.least_x p.x at (bounded box p h).0 l, subst (λ z. z ≤ℤ box.greatest_x) e (bounded box q k).1)
one_through Y at box p q h l k e = (at_most_less box.least_y p.y at (bounded box p h).2 l, subst (λ z. z ≤ℤ box.greatest_y) e (bounded box q k).3)

-- a line that has some of the sample of a box on both sides passes through the box
pub passes_through : (line : Line) (box : Envelope) (sample : List Position) → LiesWithin sample box → HasBothSides line sample → PassesThrough line.axis line.at box
passes_through line box sample all (low, high) =
    let p = low.1 in
    let q = high.1 in
    let p_within : is_within box p ≡ true = subst (λ r. IsOnGrid r → is_within box r ≡ true) low.3 (all low.0 p low.2) low.4.0 in
    let q_within : is_within box q ≡ true = subst (λ r. IsOnGrid r → is_within box r ≡ true) high.3 (all high.0 q high.2) high.4.0 in
    one_through line.axis line.at box p q p_within low.4.1 q_within high.4.1

below_one : (axis : Axis) (at : ℤ) (box : Envelope) (p : Position) → is_within box p ≡ true → coordinate axis p <ℤ at → is_within (low_part axis at box) p ≡ true
below_one X at box p h l =
    let f = four_parts (int_le box.least_x p.x) (int_le p.x box.greatest_x) (int_le box.least_y p.y) (int_le p.y box.greatest_y) h in
    four_from (int_le box.least_x p.x) (int_le p.x (at -ℤ pos 1)) (int_le box.least_y p.y) (int_le p.y box.greatest_y) f.0 (is_before p.x at l) f.2 f.3
below_one Y at box p h l =
    let f = four_parts (int_le box.least_x p.x) (int_le p.x box.greatest_x) (int_le box.least_y p.y) (int_le p.y box.greatest_y) h in
    four_from (int_le box.least_x p.x) (int_le p.x box.greatest_x) (int_le box.least_y p.y) (int_le p.y (at -ℤ pos 1)) f.0 f.1 f.2 (is_before p.y at l)

above_one : (axis : Axis) (at : ℤ) (box : Envelope) (p : Position) → is_within box p ≡ true → at ≤ℤ coordinate axis p → is_within (high_part axis at box) p ≡ true
above_one X at box p h l =
    let f = four_parts (int_le box.least_x p.x) (int_le p.x box.greatest_x) (int_le box.least_y p.y) (int_le p.y box.greatest_y) h in
    four_from (int_le at p.x) (int_le p.x box.greatest_x) (int_le box.least_y p.y) (int_le p.y box.greatest_y) (at_most_yes at p.x l) f.1 f.2 f.3
above_one Y at box p h l =
    let f = four_parts (int_le box.least_x p.x) (int_le p.x box.greatest_x) (int_le box.least_y p.y) (int_le p.y box.greatest_y) h in
    four_from (int_le box.least_x p.x) (int_le p.x box.greatest_x) (int_le at p.y) (int_le p.y box.greatest_y) f.0 f.1 (at_most_yes at p.y l) f.3

-- those before the line are within the part before it, and those behind it within the other
pub within_low : (line : Line) (box : Envelope) (before behind : List Position) → LiesWithin before box → IsMedian line before behind → LiesWithin before (low_part line.axis line.at box)
within_low line box before behind all h k d l on = below_one line.axis line.at box (get_or before k d) (all k d l on) (h.less k d l)

pub within_high : (line : Line) (box : Envelope) (before behind : List Position) → LiesWithin behind box → IsMedian line before behind → LiesWithin behind (high_part line.axis line.at box)
within_high line box before behind all h k d l on = above_one line.axis line.at box (get_or behind k d) (all k d l on) (h.not_less k d l)
