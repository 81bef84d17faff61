-- A triple and its multiples stand for one point, so what doesn't change under multiples doesn't depend on the triple.
use Rattle.std.proofs.Common.{ℤ, pos, ◌*ℤ◌, ◌<ℤ◌, ◌≡◌, true, sym, ap, ◌∙◌}
use lib.IntN.{*ℤ_comm}
use Rattle.std.specs.Ordering.{int_eq}
use Rattle.std.proofs.lemmas.Bool.{and_from, and_parts}
use Rattle.geometry_model.specs.Points.{Point, IsPoint, same_point}
use Rattle.basics.proofs.Tests.{equal_from, equal_yes}

-- the triple k times p
abbrev pub scaled : ℤ → Point → Point
scaled k p = record { X = k *ℤ p.X; Y = k *ℤ p.Y; W = k *ℤ p.W }

-- what the test of two triples says
pub same_x : (p q : Point) → same_point p q ≡ true → p.X *ℤ q.W ≡ q.X *ℤ p.W
same_x p q e = equal_from (p.X *ℤ q.W) (q.X *ℤ p.W) ((and_parts (int_eq (p.X *ℤ q.W) (q.X *ℤ p.W)) (int_eq (p.Y *ℤ q.W) (q.Y *ℤ p.W)) e).0)

-- and of y
pub same_y : (p q : Point) → same_point p q ≡ true → p.Y *ℤ q.W ≡ q.Y *ℤ p.W
same_y p q e = equal_from (p.Y *ℤ q.W) (q.Y *ℤ p.W) ((and_parts (int_eq (p.X *ℤ q.W) (q.X *ℤ p.W)) (int_eq (p.Y *ℤ q.W) (q.Y *ℤ p.W)) e).1)

-- triples that agree in both coordinates, multiplied across, stand for one point
pub same_from : (p q : Point) → p.X *ℤ q.W ≡ q.X *ℤ p.W → p.Y *ℤ q.W ≡ q.Y *ℤ p.W → same_point p q ≡ true
same_from p q e f = and_from (int_eq (p.X *ℤ q.W) (q.X *ℤ p.W)) (int_eq (p.Y *ℤ q.W) (q.Y *ℤ p.W)) (equal_yes (p.X *ℤ q.W) (q.X *ℤ p.W) e) (equal_yes (p.Y *ℤ q.W) (q.Y *ℤ p.W) f)

-- two triples of one point have a common multiple
pub common_multiple : (p q : Point) → same_point p q ≡ true → scaled q.W p ≡ scaled p.W q
common_multiple p q e = λ i. record {
  X = (*ℤ_comm q.W p.X ∙ same_x p q e ∙ *ℤ_comm q.X p.W) i;
  Y = (*ℤ_comm q.W p.Y ∙ same_y p q e ∙ *ℤ_comm q.Y p.W) i;
  W = *ℤ_comm q.W p.W i;
}

-- what is the same at a point's multiples is the same at all its triples
pub by_scaling : {A : Type 0} (f : Point → A) → ((k : ℤ) (p : Point) → pos 0 <ℤ k → f (scaled k p) ≡ f p) → (p q : Point) → IsPoint p → IsPoint q → same_point p q ≡ true → f p ≡ f q
by_scaling f h p q hp hq e = sym (h q.W p hq) ∙ ap f (common_multiple p q e) ∙ h p.W q hp
