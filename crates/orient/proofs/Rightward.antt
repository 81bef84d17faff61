-- The side of a point, seen from a segment's left end, by the side seen from its start.
use Rattle.std.specs.Prelude.{◌≡◌, ◌&&◌, Bool, if◌then◌else◌, [], ◌∷◌, ℤ, pos, ◌-ℤ◌, int_le, int_lt}
use Rattle.std.proofs.Common.{sym, ap, ap₂, ◌∙◌}
use Rattle.basics.proofs.Ring.{solve, var, lit, ◌⊖◌, ◌⊗◌}
use Rattle.geometry_model.specs.Points.{Position, Point}
use Rattle.geometry_model.specs.Geometries.{Edge}
use Rattle.geometry_model.specs.Sides.{side}
use Rattle.geometry_model.specs.Crossings.{spans, side_rightward, strictly_above, at_or_above}

turned : (a b : Position) (p : Point) → side b a p ≡ pos 0 -ℤ side a b p
turned a b p = solve (a.x ∷ a.y ∷ b.x ∷ b.y ∷ p.X ∷ p.Y ∷ p.W ∷ [])
    ((var 0 ⊖ var 2) ⊗ (var 5 ⊖ var 3 ⊗ var 6) ⊖ (var 1 ⊖ var 3) ⊗ (var 4 ⊖ var 2 ⊗ var 6))
    (lit (pos 0) ⊖ ((var 2 ⊖ var 0) ⊗ (var 5 ⊖ var 1 ⊗ var 6) ⊖ (var 3 ⊖ var 1) ⊗ (var 4 ⊖ var 0 ⊗ var 6))) tt

-- the side as it is, or turned
abbrev rightward : ℤ → Bool → ℤ
rightward n b = if b then n else pos 0 -ℤ n

is_rightward : (e : Edge) (p : Point) (n : ℤ) (b : Bool) → n ≡ side e.start e.end p → b ≡ int_le e.start.x e.end.x → rightward n b ≡ side_rightward e p
is_rightward e p n b f g = ap₂ rightward f g ∙ sym (ap (λ (z : ℤ). if int_le e.start.x e.end.x then side e.start e.end p else z) (turned e.start e.end p))

pub strictly_from : (e : Edge) (p : Point) (n : ℤ) (b s t : Bool) → n ≡ side e.start e.end p → b ≡ int_le e.start.x e.end.x → s ≡ spans e p → t ≡ int_lt (if b then n else pos 0 -ℤ n) (pos 0)
    → (s && t) ≡ strictly_above e p
strictly_from e p n b s t f g h k = ap₂ (λ (x y : Bool). x && y) h (k ∙ ap (λ (z : ℤ). int_lt z (pos 0)) (is_rightward e p n b f g))

pub at_or_from : (e : Edge) (p : Point) (n : ℤ) (b s t : Bool) → n ≡ side e.start e.end p → b ≡ int_le e.start.x e.end.x → s ≡ spans e p → t ≡ int_le (if b then n else pos 0 -ℤ n) (pos 0)
    → (s && t) ≡ at_or_above e p
at_or_from e p n b s t f g h k = ap₂ (λ (x y : Bool). x && y) h (k ∙ ap (λ (z : ℤ). int_le z (pos 0)) (is_rightward e p n b f g))
