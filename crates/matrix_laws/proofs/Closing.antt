-- A geometry without fault has closed rings.
use Rattle.std.proofs.Common.{◌≡◌, ◌≢◌, ◌⊎◌, inl, inr, ℤ, pos, ◌-ℤ◌, List, [], ◌∷◌, slice_index_or, ap, arith}
use borrow.Author.Differences.{ints}
use Rattle.std.proofs.lemmas.Option.{slice_get-get_or}
use Rattle.geometry_model.specs.Points.{Position}
use Rattle.geometry_model.specs.Geometries.{Geometry, rings}
use Rattle.geometry_model.specs.Locations.{last_after}
use Rattle.geometry_model.specs.Validity.{IsValid, IsNotClosed}
use Rattle.geometry_model.specs.declared.validity_faults.ValidityFault.TheVariants.{RingNotClosed}
use Rattle.basics.proofs.Signs.{is_or_not}
use Rattle.basics.proofs.Orders.{no_difference}
use Rattle.geometry_laws.specs.RingLaws.{IsClosed}
use Rattle.geometry_laws.specs.PieceLaws.{HasClosedRings}

-- positions that can't differ are one: of each coordinate it is decided whether the two are equal
same_position : (p q : Position) → (p ≢ q → ⊥) → p ≡ q
same_position p q f = go (is_or_not (p.x -ℤ q.x)) (is_or_not (p.y -ℤ q.y))
  where
    nothing : (x y : ℤ) → x ≡ y → x -ℤ y ≡ pos 0
    nothing x y e = omega (arith, ints)

    go : ((p.x -ℤ q.x ≡ pos 0) ⊎ (p.x -ℤ q.x ≡ pos 0 → ⊥)) → ((p.y -ℤ q.y ≡ pos 0) ⊎ (p.y -ℤ q.y ≡ pos 0 → ⊥)) → p ≡ q
    go (inl e) (inl g) = λ i. record { x = no_difference p.x q.x e i; y = no_difference p.y q.y g i }
    go (inr n) g = absurd (f (λ e. n (nothing p.x q.x (ap (λ (a : Position). a.x) e))))
    go (inl e) (inr n) = absurd (f (λ e. n (nothing p.y q.y (ap (λ (a : Position). a.y) e))))

-- a ring without the fault of an open ring is closed: its last position is its first one
pub closed : (ring : List Position) → (IsNotClosed ring → ⊥) → IsClosed ring
closed [] f = tt
closed (a ∷ rest) f = same_position (last_after a rest) a f

-- a ring that isn't closed is a fault, and a valid geometry has none
pub valid_rings_are_closed : (g : Geometry) → IsValid g → HasClosedRings g
valid_rings_are_closed g v k d h = closed (slice_index_or (rings g) k d) (λ n. v (RingNotClosed k) (slice_index_or (rings g) k d, slice_get-get_or (rings g) k d h, n))
