-- A straight stretch that misses a geometry lies entirely in its interior or entirely in its exterior.
use Rattle.std.proofs.Common.{ℕ, zero, suc, ◌+◌, ◌*◌, ◌<◌, ◌≡◌, ◌≢◌, Bool, true, false, if◌then◌else◌, ℤ, pos, ◌+ℤ◌, ◌*ℤ◌, sym, subst, ◌∙◌, [], ◌∷◌, arith}
use Rattle.geometry_model.specs.Points.{Point, IsPoint}
use Rattle.geometry_model.specs.Geometries.{Edge, Geometry, edges, listed, rings}
use Rattle.geometry_model.specs.Sides.{on}
use Rattle.geometry_model.specs.Crossings.{odd_above}
use Rattle.geometry_model.specs.Dimensions.{weighted}
use Rattle.geometry_model.specs.Locations.{is_at, locate}
use Rattle.geometry_model.specs.Labels.{above}
use Rattle.geometry_model.specs.declared.point_sets.Location.TheVariants.{Interior, Boundary, Exterior}
use Rattle.basics.proofs.Ring.{solve, var, lit, ◌⊕◌, ◌⊗◌}
use Rattle.geometry_laws.specs.RingLaws.{IsClosed, Misses}
use Rattle.geometry_laws.proofs.Each.{Each, each_map}
use Rattle.geometry_laws.proofs.Lines.{weighted_is_point}
use Rattle.geometry_laws.proofs.Locating.{locate_off}
use Rattle.geometry_laws.proofs.Triangles.{above_kept}
use Rattle.matrix_laws.specs.PolygonLaws.{PassesBy}

-- a point of the stretch from p to a point of the stretch from p to q is one of the latter
weighted_again : (s t m n : ℕ) (p q : Point) → weighted s p t (weighted m p n q) ≡ weighted (s + t * m) p (t * n) q
weighted_again s t m n p q = λ i. record { X = coordinate p.X q.X i; Y = coordinate p.Y q.Y i; W = coordinate p.W q.W i }
  where
    coordinate : (x y : ℤ) → pos s *ℤ x +ℤ pos t *ℤ (pos m *ℤ x +ℤ pos n *ℤ y) ≡ pos (s + t * m) *ℤ x +ℤ pos (t * n) *ℤ y
    coordinate x y = solve (x ∷ y ∷ pos s ∷ pos t ∷ pos m ∷ pos n ∷ []) (var 2 ⊗ var 0 ⊕ var 3 ⊗ (var 4 ⊗ var 0 ⊕ var 5 ⊗ var 1)) ((var 2 ⊕ var 3 ⊗ var 4) ⊗ var 0 ⊕ (var 3 ⊗ var 5) ⊗ var 1) tt

-- the weights of that point aren't both 0
some_weight : (s t m n : ℕ) → 0 < s + t → 0 < m + n → 0 < (s + t * m) + t * n
some_weight s zero m n h k = omega arith
some_weight s (suc t) m n h k = omega arith

-- a stretch that misses an edge misses it up to each of its points, since the front part's points are points of the whole
misses_front : (p q : Point) (m n : ℕ) → 0 < m + n → (e : Edge) → Misses p q e → Misses p (weighted m p n q) e
misses_front p q m n k e f s t h = subst (λ (z : Point). on e z ≡ false) (sym (weighted_again s t m n p q)) (f (s + t * m) (t * n) (some_weight s t m n h k))

-- at the weights 1 and 0 the stretch is at its first end
first_point : (p q : Point) → weighted 1 p 0 q ≡ p
first_point p q = λ i. record { X = one p.X q.X i; Y = one p.Y q.Y i; W = one p.W q.W i }
  where
    one : (x y : ℤ) → pos 1 *ℤ x +ℤ pos 0 *ℤ y ≡ x
    one x y = solve (x ∷ y ∷ []) (lit (pos 1) ⊗ var 0 ⊕ lit (pos 0) ⊗ var 1) (var 0) tt

-- a location that a parity decides is never the boundary
not_boundary : (t : Bool) → (if t then Interior else Exterior) ≢ Boundary
not_boundary true e = absurd (cc)
not_boundary false e = absurd (cc)

-- along a stretch that misses the edges the parity of the rings above stays, and with it the location
pub stretch_stays : (g : Geometry) (p q : Point) → Each IsClosed (rings g) → IsPoint p → IsPoint q → Each (Misses p q) (edges g) → Each (PassesBy p q) (listed g)
    → (m n : ℕ) → 0 < m + n → (locate g (weighted m p n q) ≡ locate g p) × (locate g (weighted m p n q) ≢ Boundary)
stretch_stays g p q c hp hq h k m n l = (there ∙ sym kept ∙ sym here, λ f. not_boundary (odd_above (rings g) (weighted m p n q)) (sym there ∙ f))
  where
    there : locate g (weighted m p n q) ≡ above g (weighted m p n q)
    there = locate_off g (weighted m p n q) (weighted_is_point m p n q hp hq l) (record {
      edges_off = each_map (Misses p q) (λ e. on e (weighted m p n q) ≡ false) (edges g) (λ e f. f m n l) h;
      listed_off = each_map (PassesBy p q) (λ a. is_at (weighted m p n q) a ≡ false) (listed g) (λ a f. f m n l) k;
    })

    here : locate g p ≡ above g p
    here = locate_off g p hp (record {
      edges_off = each_map (Misses p q) (λ e. on e p ≡ false) (edges g) (λ e f. subst (λ (z : Point). on e z ≡ false) (first_point p q) (f 1 0 (omega arith))) h;
      listed_off = each_map (PassesBy p q) (λ a. is_at p a ≡ false) (listed g) (λ a f. subst (λ (z : Point). is_at z a ≡ false) (first_point p q) (f 1 0 (omega arith))) k;
    })

    kept : above g p ≡ above g (weighted m p n q)
    kept = above_kept g p (weighted m p n q) hp (weighted_is_point m p n q hp hq l) c (each_map (Misses p q) (Misses p (weighted m p n q)) (edges g) (misses_front p q m n l) h)
