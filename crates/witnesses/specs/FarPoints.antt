-- What lies left of a number.
use Rattle.std.specs.Prelude.{All, ℤ, ◌≤ℤ◌}
use Rattle.geometry_model.specs.Geometries.{Geometry, edges, listed}

-- no edge and no listed position of the geometry reaches beyond x
pub record Reaches (x : ℤ) (g : Geometry) : Type 0 where
  pub edges : All (λ e. (e.start.x ≤ℤ x) × (e.end.x ≤ℤ x)) (edges g)
  pub positions : All (λ a. a.x ≤ℤ x) (listed g)
