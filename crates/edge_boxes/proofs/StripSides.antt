-- What a strip shows of a point in a cell.
use Rattle.std.proofs.Common.{ℤ, pos, ◌+ℤ◌, ◌-ℤ◌, ◌*ℤ◌, ◌≤ℤ◌, ◌<ℤ◌, int_lt, int_le, ◌≡◌, ◌⊎◌, inl, inr, Bool, true, false, Option, Some, None, IfSome, sym, ap₂, ◌∙◌, subst, List, [], ◌∷◌, arith}
use Rattle.std.proofs.lemmas.Bool.{and_parts}
use lib.Signed.{≤ℤ_refl}
use borrow.Author.Differences.{ints}
use Rattle.geometry_model.specs.Points.{Position, Point}
use Rattle.geometry_model.specs.Geometries.{Edge}
use Rattle.geometry_model.specs.Crossings.{exactly_one as xor}
use Rattle.basics.proofs.Ring.{solve, var, lit, ◌⊕◌, ◌⊖◌, ◌⊗◌}
use Rattle.basics.proofs.Signs.{plus_plus, strict_plus_plus, at_most_or_less, at_most_yes, at_most_from}
use Rattle.basics.proofs.Orders.{negative_turned, weak_positive, gap_weak}
use Rattle.edge_boxes.specs.BoxCells.{IsFloor, IsCeiling, IsCellOf}
use Rattle.edge_boxes.specs.Strips.{rise, IsInStrip, LiesInStrip, IsStripOf, lies_under, lies_over}
use Rattle.edge_boxes.specs.EdgeRuns.{SumsUpEnds}
use Rattle.edge_boxes.specs.EdgeCrossings.{AreCrossings, IsShown, IsShownByStrip}
use Rattle.edge_boxes.specs.declared.point_crossings.Crossings.{Crossings}
use Rattle.edge_boxes.specs.declared.kept_runs.Run.{Run}
use Rattle.edge_boxes.specs.declared.cells.Cell.{Cell}
use Rattle.edge_boxes.specs.declared.kept_runs.Ends.{Ends}
use Rattle.edge_boxes.specs.declared.strips.Strip.{Strip}
use Rattle.edge_boxes.proofs.EdgeSides.{beyond, IsOff, IsOver, off_beyond, over_beyond}
use Rattle.edge_boxes.proofs.Saying.{each_of, none_found, spanning_found}

-- ---- a point lies within its cell
-- the point's coordinate isn't less than its floor
over_floor : (n w f : ℤ) → IsFloor n w f → pos 0 ≤ℤ (n -ℤ f *ℤ w)
over_floor n w f is = gap_weak (f *ℤ w) n (at_most_from (f *ℤ w) n (is f ∙ at_most_yes f f (≤ℤ_refl f)))

-- nor is it more than its ceiling
under_ceiling : (n w f : ℤ) → IsCeiling n w f → pos 0 ≤ℤ (f *ℤ w -ℤ n)
under_ceiling n w f is = gap_weak n (f *ℤ w) (at_most_from n (f *ℤ w) (is f ∙ at_most_yes f f (≤ℤ_refl f)))

-- ---- above all of a strip: by the corner of the cell's lower side that rises least
-- how far a point lies above a position, given by its cell's lower right corner, which serves where the direction rises
by_lower_right : (dx dy x y : ℤ) (a : Position) (p : Point) → beyond dx dy a p ≡ dx *ℤ (p.Y -ℤ y *ℤ p.W) +ℤ dy *ℤ (x *ℤ p.W -ℤ p.X) +ℤ p.W *ℤ ((dx *ℤ y -ℤ dy *ℤ x) -ℤ (dx *ℤ a.y -ℤ dy *ℤ a.x))
by_lower_right dx dy x y a p = solve (dx ∷ dy ∷ x ∷ y ∷ a.x ∷ a.y ∷ p.X ∷ p.Y ∷ p.W ∷ [])
    (var 0 ⊗ (var 7 ⊖ var 5 ⊗ var 8) ⊖ var 1 ⊗ (var 6 ⊖ var 4 ⊗ var 8))
    (var 0 ⊗ (var 7 ⊖ var 3 ⊗ var 8) ⊕ var 1 ⊗ (var 2 ⊗ var 8 ⊖ var 6) ⊕ var 8 ⊗ ((var 0 ⊗ var 3 ⊖ var 1 ⊗ var 2) ⊖ (var 0 ⊗ var 5 ⊖ var 1 ⊗ var 4))) tt

-- and by its lower left corner, which serves where the direction falls
by_lower_left : (dx dy x y : ℤ) (a : Position) (p : Point) → beyond dx dy a p ≡ dx *ℤ (p.Y -ℤ y *ℤ p.W) +ℤ (pos 0 -ℤ dy) *ℤ (p.X -ℤ x *ℤ p.W) +ℤ p.W *ℤ ((dx *ℤ y -ℤ dy *ℤ x) -ℤ (dx *ℤ a.y -ℤ dy *ℤ a.x))
by_lower_left dx dy x y a p = solve (dx ∷ dy ∷ x ∷ y ∷ a.x ∷ a.y ∷ p.X ∷ p.Y ∷ p.W ∷ [])
    (var 0 ⊗ (var 7 ⊖ var 5 ⊗ var 8) ⊖ var 1 ⊗ (var 6 ⊖ var 4 ⊗ var 8))
    (var 0 ⊗ (var 7 ⊖ var 3 ⊗ var 8) ⊕ (lit (pos 0) ⊖ var 1) ⊗ (var 6 ⊖ var 2 ⊗ var 8) ⊕ var 8 ⊗ ((var 0 ⊗ var 3 ⊖ var 1 ⊗ var 2) ⊖ (var 0 ⊗ var 5 ⊖ var 1 ⊗ var 4))) tt

sum_positive : (x y z s : ℤ) → s ≡ x +ℤ y +ℤ z → pos 0 ≤ℤ x → pos 0 ≤ℤ y → pos 0 <ℤ z → pos 0 <ℤ s
sum_positive x y z s e h k l = omega (arith, ints, e, h, k, l)

less_rise : (r g t : ℤ) → r ≤ℤ g → int_lt g t ≡ true → pos 0 <ℤ (t -ℤ r)
less_rise r g t h e = omega (arith, ints, h, e)

more_rise : (r l t : ℤ) → l ≤ℤ r → int_lt t l ≡ true → pos 0 <ℤ (r -ℤ t)
more_rise r l t h e = omega (arith, ints, h, e)

-- a point in a cell that the strip is wholly below lies above each position in the strip
above_all : (s : Strip) (cell : Cell) (p : Point) → IsCellOf cell p → pos 0 <ℤ s.direction.dx → lies_under s cell ≡ true → (a : Position) → IsInStrip s a → pos 0 <ℤ beyond s.direction.dx s.direction.dy a p
above_all s cell p is right far a h = go (at_most_or_less (pos 0) s.direction.dy)
  where
    parts : (int_lt s.greatest (rise s.direction cell.floor_x cell.floor_y) ≡ true) × (int_lt s.greatest (rise s.direction cell.ceiling_x cell.floor_y) ≡ true)
    parts = and_parts (int_lt s.greatest (rise s.direction cell.floor_x cell.floor_y)) (int_lt s.greatest (rise s.direction cell.ceiling_x cell.floor_y)) far

    up : pos 0 ≤ℤ (s.direction.dx *ℤ (p.Y -ℤ cell.floor_y *ℤ p.W))
    up = plus_plus s.direction.dx (p.Y -ℤ cell.floor_y *ℤ p.W) (weak_positive s.direction.dx right) (over_floor p.Y p.W cell.floor_y is.floor_y)

    go : (pos 0 ≤ℤ s.direction.dy) ⊎ (s.direction.dy <ℤ pos 0) → pos 0 <ℤ beyond s.direction.dx s.direction.dy a p
    go (inl d) = sum_positive (s.direction.dx *ℤ (p.Y -ℤ cell.floor_y *ℤ p.W)) (s.direction.dy *ℤ (cell.ceiling_x *ℤ p.W -ℤ p.X)) (p.W *ℤ (rise s.direction cell.ceiling_x cell.floor_y -ℤ rise s.direction a.x a.y))
        (beyond s.direction.dx s.direction.dy a p) (by_lower_right s.direction.dx s.direction.dy cell.ceiling_x cell.floor_y a p) up
        (plus_plus s.direction.dy (cell.ceiling_x *ℤ p.W -ℤ p.X) d (under_ceiling p.X p.W cell.ceiling_x is.ceiling_x))
        (strict_plus_plus p.W (rise s.direction cell.ceiling_x cell.floor_y -ℤ rise s.direction a.x a.y) is.positive (less_rise (rise s.direction a.x a.y) s.greatest (rise s.direction cell.ceiling_x cell.floor_y) h.greatest parts.1))
    go (inr d) = sum_positive (s.direction.dx *ℤ (p.Y -ℤ cell.floor_y *ℤ p.W)) ((pos 0 -ℤ s.direction.dy) *ℤ (p.X -ℤ cell.floor_x *ℤ p.W)) (p.W *ℤ (rise s.direction cell.floor_x cell.floor_y -ℤ rise s.direction a.x a.y))
        (beyond s.direction.dx s.direction.dy a p) (by_lower_left s.direction.dx s.direction.dy cell.floor_x cell.floor_y a p) up
        (plus_plus (pos 0 -ℤ s.direction.dy) (p.X -ℤ cell.floor_x *ℤ p.W) (negative_turned s.direction.dy d) (over_floor p.X p.W cell.floor_x is.floor_x))
        (strict_plus_plus p.W (rise s.direction cell.floor_x cell.floor_y -ℤ rise s.direction a.x a.y) is.positive (less_rise (rise s.direction a.x a.y) s.greatest (rise s.direction cell.floor_x cell.floor_y) h.greatest parts.0))

-- ---- below all of a strip: by the corner of the cell's upper side that rises most
-- how far a point lies below a position, given by its cell's upper left corner, which serves where the direction rises
by_upper_left : (dx dy x y : ℤ) (a : Position) (p : Point) → pos 0 -ℤ beyond dx dy a p ≡ dx *ℤ (y *ℤ p.W -ℤ p.Y) +ℤ dy *ℤ (p.X -ℤ x *ℤ p.W) +ℤ p.W *ℤ ((dx *ℤ a.y -ℤ dy *ℤ a.x) -ℤ (dx *ℤ y -ℤ dy *ℤ x))
by_upper_left dx dy x y a p = solve (dx ∷ dy ∷ x ∷ y ∷ a.x ∷ a.y ∷ p.X ∷ p.Y ∷ p.W ∷ [])
    (lit (pos 0) ⊖ (var 0 ⊗ (var 7 ⊖ var 5 ⊗ var 8) ⊖ var 1 ⊗ (var 6 ⊖ var 4 ⊗ var 8)))
    (var 0 ⊗ (var 3 ⊗ var 8 ⊖ var 7) ⊕ var 1 ⊗ (var 6 ⊖ var 2 ⊗ var 8) ⊕ var 8 ⊗ ((var 0 ⊗ var 5 ⊖ var 1 ⊗ var 4) ⊖ (var 0 ⊗ var 3 ⊖ var 1 ⊗ var 2))) tt

-- and by its upper right corner, which serves where the direction falls
by_upper_right : (dx dy x y : ℤ) (a : Position) (p : Point) → pos 0 -ℤ beyond dx dy a p ≡ dx *ℤ (y *ℤ p.W -ℤ p.Y) +ℤ (pos 0 -ℤ dy) *ℤ (x *ℤ p.W -ℤ p.X) +ℤ p.W *ℤ ((dx *ℤ a.y -ℤ dy *ℤ a.x) -ℤ (dx *ℤ y -ℤ dy *ℤ x))
by_upper_right dx dy x y a p = solve (dx ∷ dy ∷ x ∷ y ∷ a.x ∷ a.y ∷ p.X ∷ p.Y ∷ p.W ∷ [])
    (lit (pos 0) ⊖ (var 0 ⊗ (var 7 ⊖ var 5 ⊗ var 8) ⊖ var 1 ⊗ (var 6 ⊖ var 4 ⊗ var 8)))
    (var 0 ⊗ (var 3 ⊗ var 8 ⊖ var 7) ⊕ (lit (pos 0) ⊖ var 1) ⊗ (var 2 ⊗ var 8 ⊖ var 6) ⊕ var 8 ⊗ ((var 0 ⊗ var 5 ⊖ var 1 ⊗ var 4) ⊖ (var 0 ⊗ var 3 ⊖ var 1 ⊗ var 2))) tt

sum_negative : (x y z s : ℤ) → pos 0 -ℤ s ≡ x +ℤ y +ℤ z → pos 0 ≤ℤ x → pos 0 ≤ℤ y → pos 0 <ℤ z → s <ℤ pos 0
sum_negative x y z s e h k l = omega (arith, ints, e, h, k, l)

-- a point in a cell that the strip is wholly above lies below each position in the strip
below_all : (s : Strip) (cell : Cell) (p : Point) → IsCellOf cell p → pos 0 <ℤ s.direction.dx → lies_over s cell ≡ true → (a : Position) → IsInStrip s a → beyond s.direction.dx s.direction.dy a p <ℤ pos 0
below_all s cell p is right far a h = go (at_most_or_less (pos 0) s.direction.dy)
  where
    parts : (int_lt (rise s.direction cell.floor_x cell.ceiling_y) s.least ≡ true) × (int_lt (rise s.direction cell.ceiling_x cell.ceiling_y) s.least ≡ true)
    parts = and_parts (int_lt (rise s.direction cell.floor_x cell.ceiling_y) s.least) (int_lt (rise s.direction cell.ceiling_x cell.ceiling_y) s.least) far

    down : pos 0 ≤ℤ (s.direction.dx *ℤ (cell.ceiling_y *ℤ p.W -ℤ p.Y))
    down = plus_plus s.direction.dx (cell.ceiling_y *ℤ p.W -ℤ p.Y) (weak_positive s.direction.dx right) (under_ceiling p.Y p.W cell.ceiling_y is.ceiling_y)

    go : (pos 0 ≤ℤ s.direction.dy) ⊎ (s.direction.dy <ℤ pos 0) → beyond s.direction.dx s.direction.dy a p <ℤ pos 0
    go (inl d) = sum_negative (s.direction.dx *ℤ (cell.ceiling_y *ℤ p.W -ℤ p.Y)) (s.direction.dy *ℤ (p.X -ℤ cell.floor_x *ℤ p.W)) (p.W *ℤ (rise s.direction a.x a.y -ℤ rise s.direction cell.floor_x cell.ceiling_y))
        (beyond s.direction.dx s.direction.dy a p) (by_upper_left s.direction.dx s.direction.dy cell.floor_x cell.ceiling_y a p) down
        (plus_plus s.direction.dy (p.X -ℤ cell.floor_x *ℤ p.W) d (over_floor p.X p.W cell.floor_x is.floor_x))
        (strict_plus_plus p.W (rise s.direction a.x a.y -ℤ rise s.direction cell.floor_x cell.ceiling_y) is.positive (more_rise (rise s.direction a.x a.y) s.least (rise s.direction cell.floor_x cell.ceiling_y) h.least parts.0))
    go (inr d) = sum_negative (s.direction.dx *ℤ (cell.ceiling_y *ℤ p.W -ℤ p.Y)) ((pos 0 -ℤ s.direction.dy) *ℤ (cell.ceiling_x *ℤ p.W -ℤ p.X)) (p.W *ℤ (rise s.direction a.x a.y -ℤ rise s.direction cell.ceiling_x cell.ceiling_y))
        (beyond s.direction.dx s.direction.dy a p) (by_upper_right s.direction.dx s.direction.dy cell.ceiling_x cell.ceiling_y a p) down
        (plus_plus (pos 0 -ℤ s.direction.dy) (cell.ceiling_x *ℤ p.W -ℤ p.X) (negative_turned s.direction.dy d) (under_ceiling p.X p.W cell.ceiling_x is.ceiling_x))
        (strict_plus_plus p.W (rise s.direction a.x a.y -ℤ rise s.direction cell.ceiling_x cell.ceiling_y) is.positive (more_rise (rise s.direction a.x a.y) s.least (rise s.direction cell.ceiling_x cell.ceiling_y) h.least parts.1))

-- ---- what a strip shows
-- a strip wholly below the cell shows that no edge holds the point and none is counted above it
pub under_says : (s : Strip) (cell : Cell) (p : Point) (es : List Edge) → IsCellOf cell p → IsStripOf s es → lies_under s cell ≡ true
    → AreCrossings (record { on = false; odd_above = false; odd_at_or_above = false }) es p
under_says s cell p es is of far = none_found es p (each_of (LiesInStrip s) (IsOff p) es off of.lies)
  where
    off : (e : Edge) → LiesInStrip s e → IsOff p e
    off e l = off_beyond s.direction.dx s.direction.dy e p is.positive of.rightward (above_all s cell p is of.rightward far e.start l.start) (above_all s cell p is of.rightward far e.end l.end)

-- a strip wholly above the cell shows that the edges that span the point are those above it,
-- so the ends of a chain give the parity
pub over_says : (s : Strip) (ends : Ends) (cell : Cell) (p : Point) (es : List Edge) → IsCellOf cell p → IsStripOf s es → SumsUpEnds ends es → lies_over s cell ≡ true → ends.is_chain ≡ true
    → (b : Bool) → b ≡ xor (int_le ends.first_x cell.floor_x) (int_le ends.last_x cell.floor_x) → AreCrossings (record { on = false; odd_above = b; odd_at_or_above = b }) es p
over_says s ends cell p es is of sums far chain b e = spanning_found es p ends.first_x ends.last_x b (each_of (LiesInStrip s) (IsOver p) es over of.lies) (sums chain)
    (e ∙ sym (ap₂ xor (is.floor_x ends.first_x) (is.floor_x ends.last_x)))
  where
    over : (f : Edge) → LiesInStrip s f → IsOver p f
    over f l = over_beyond s.direction.dx s.direction.dy f p is.positive of.rightward (below_all s cell p is of.rightward far f.start l.start) (below_all s cell p is of.rightward far f.end l.end)

-- what a run's strip shows, the run shows
pub shown_by_run : (o : Option Crossings) (run : Run) (strip : Strip) (cell : Cell) → run.strip ≡ Some strip → IfSome o (IsShownByStrip strip run.ends cell) → IfSome o (IsShown run cell)
shown_by_run None run strip cell e h = tt
shown_by_run (Some c) run strip cell e h = λ p es is sums. h p es is (subst (λ (s : Option Strip). IfSome s (λ t. IsStripOf t es)) e sums.strip) sums.ends
