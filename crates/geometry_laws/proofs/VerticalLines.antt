-- Two points on one vertical line: which edges span them, and how an edge's side grows from one to the other.
use Rattle.std.proofs.Common.{ℤ, pos, ◌+ℤ◌, ◌-ℤ◌, ◌*ℤ◌, ◌<ℤ◌, int_le, ◌≡◌, Bool, true, false, if◌then◌else◌, sym, ap, ap₂, ◌∙◌, [], ◌∷◌, arith}
use borrow.Author.Differences.{ints}
use Rattle.geometry_model.specs.Points.{Position, Point, IsPoint}
use Rattle.geometry_model.specs.Geometries.{Edge}
use Rattle.geometry_model.specs.Sides.{side, on}
use Rattle.geometry_model.specs.Crossings.{exactly_one, reaches, spans, side_rightward}
use Rattle.basics.proofs.Ring.{solve, var, lit, ◌⊕◌, ◌⊖◌, ◌⊗◌}
use Rattle.basics.proofs.Quotients.{at_most_scaled}
use Rattle.basics.proofs.Signs.{cancel_zero}
use Rattle.basics.proofs.Orders.{no_difference, gap_none, gap_positive}
use Rattle.geometry_laws.specs.CoverLaws.{IsStraightOver, IsLower}
use Rattle.geometry_laws.proofs.LineSides.{side_turned}
use Rattle.geometry_laws.proofs.Hulls.{on_parts}
use Rattle.geometry_laws.proofs.Nudge.{breadth}
use Rattle.geometry_laws.proofs.LineOrder.{up}

-- ---- being on one vertical line is symmetric and transitive

pub straight_through : (p q r : Point) → IsPoint q → IsStraightOver p q → IsStraightOver q r → IsStraightOver p r
straight_through p q r hq e f = no_difference (p.X *ℤ r.W) (r.X *ℤ p.W) (cancel_zero q.W (p.X *ℤ r.W -ℤ r.X *ℤ p.W) hq
    (solve (p.X ∷ p.W ∷ q.W ∷ r.X ∷ r.W ∷ []) (var 2 ⊗ (var 0 ⊗ var 4 ⊖ var 3 ⊗ var 1)) ((var 0 ⊗ var 2) ⊗ var 4 ⊖ (var 3 ⊗ var 2) ⊗ var 1) tt
    ∙ ap₂ (λ (s t : ℤ). s *ℤ r.W -ℤ t *ℤ p.W) e (sym f) ∙ solve (q.X ∷ p.W ∷ r.W ∷ []) ((var 0 ⊗ var 1) ⊗ var 2 ⊖ (var 0 ⊗ var 2) ⊗ var 1) (lit (pos 0)) tt))

-- ---- which edges span a point depends on its vertical line alone
reaches_along : (a : Position) (p q : Point) → IsPoint p → IsPoint q → IsStraightOver p q → reaches a p ≡ reaches a q
reaches_along a p q hp hq e = sym (at_most_scaled q.W (a.x *ℤ p.W) p.X hq)
    ∙ ap₂ int_le (solve (a.x ∷ p.W ∷ q.W ∷ []) (var 2 ⊗ (var 0 ⊗ var 1)) (var 1 ⊗ (var 0 ⊗ var 2)) tt)
    (solve (p.X ∷ q.W ∷ []) (var 1 ⊗ var 0) (var 0 ⊗ var 1) tt ∙ e ∙ solve (q.X ∷ p.W ∷ []) (var 0 ⊗ var 1) (var 1 ⊗ var 0) tt)
    ∙ at_most_scaled p.W (a.x *ℤ q.W) q.X hp

pub spans_along : (e : Edge) (p q : Point) → IsPoint p → IsPoint q → IsStraightOver p q → spans e p ≡ spans e q
spans_along e p q hp hq s = ap₂ exactly_one (reaches_along e.start p q hp hq s) (reaches_along e.end p q hp hq s)

-- ---- the side from left to right grows with the height, by the breadth
straight_side : (a b : Position) (p q : Point) → side a b q *ℤ p.W ≡ side a b p *ℤ q.W +ℤ ((b.x -ℤ a.x) *ℤ up p q -ℤ (b.y -ℤ a.y) *ℤ (q.X *ℤ p.W -ℤ p.X *ℤ q.W))
straight_side a b p q = solve (a.x ∷ a.y ∷ b.x ∷ b.y ∷ p.X ∷ p.Y ∷ p.W ∷ q.X ∷ q.Y ∷ q.W ∷ [])
    (((var 2 ⊖ var 0) ⊗ (var 8 ⊖ var 1 ⊗ var 9) ⊖ (var 3 ⊖ var 1) ⊗ (var 7 ⊖ var 0 ⊗ var 9)) ⊗ var 6)
    (((var 2 ⊖ var 0) ⊗ (var 5 ⊖ var 1 ⊗ var 6) ⊖ (var 3 ⊖ var 1) ⊗ (var 4 ⊖ var 0 ⊗ var 6)) ⊗ var 9
    ⊕ ((var 2 ⊖ var 0) ⊗ (var 8 ⊗ var 6 ⊖ var 5 ⊗ var 9) ⊖ (var 3 ⊖ var 1) ⊗ (var 7 ⊗ var 6 ⊖ var 4 ⊗ var 9))) tt

pub side_along : (a b : Position) (p q : Point) → IsStraightOver p q → side a b q *ℤ p.W ≡ side a b p *ℤ q.W +ℤ (b.x -ℤ a.x) *ℤ up p q
side_along a b p q e = straight_side a b p q ∙ ap (λ (z : ℤ). side a b p *ℤ q.W +ℤ ((b.x -ℤ a.x) *ℤ up p q -ℤ (b.y -ℤ a.y) *ℤ z)) (gap_none (p.X *ℤ q.W) (q.X *ℤ p.W) e)
    ∙ solve ((side a b p *ℤ q.W) ∷ ((b.x -ℤ a.x) *ℤ up p q) ∷ (b.y -ℤ a.y) ∷ []) (var 0 ⊕ (var 1 ⊖ var 2 ⊗ lit (pos 0))) (var 0 ⊕ var 1) tt

pub rightward_along : (g : Edge) (p q : Point) → IsStraightOver p q → side_rightward g q *ℤ p.W ≡ side_rightward g p *ℤ q.W +ℤ breadth g *ℤ up p q
rightward_along g p q e = go (int_le g.start.x g.end.x)
  where
    go : (t : Bool) → (if t then side g.start g.end q else side g.end g.start q) *ℤ p.W ≡ (if t then side g.start g.end p else side g.end g.start p) *ℤ q.W +ℤ (if t then g.end.x -ℤ g.start.x else g.start.x -ℤ g.end.x) *ℤ up p q
    go true = side_along g.start g.end p q e
    go false = side_along g.end g.start p q e

-- at a point of the edge it is 0
pub rightward_on : (g : Edge) (z : Point) → on g z ≡ true → side_rightward g z ≡ pos 0
rightward_on g z k = go (int_le g.start.x g.end.x)
  where
    turned : (s t : ℤ) → t ≡ pos 0 -ℤ s → s ≡ pos 0 → t ≡ pos 0
    turned s t e h = omega (arith, ints)

    go : (t : Bool) → (if t then side g.start g.end z else side g.end g.start z) ≡ pos 0
    go true = (on_parts g z k).on_line
    go false = turned (side g.start g.end z) (side g.end g.start z) (side_turned g.start g.end z) ((on_parts g z k).on_line)

-- ---- lower and higher as a difference
pub up_positive : (p q : Point) → IsLower p q → pos 0 <ℤ up p q
up_positive p q h = gap_positive (p.Y *ℤ q.W) (q.Y *ℤ p.W) h

pub lower_from_up : (p q : Point) → up p q <ℤ pos 0 → IsLower q p
lower_from_up p q h = apart (p.Y *ℤ q.W) (q.Y *ℤ p.W) h
  where
    apart : (x y : ℤ) → (y -ℤ x) <ℤ pos 0 → y <ℤ x
    apart x y h = omega (arith, ints)
