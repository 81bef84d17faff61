-- At most one dimension fits a set of points, and the matrix of two geometries the other way round.
use Rattle.std.proofs.Common.{◌≡◌, ℕ, Bool, true, false, refl, sym, subst, arith, [], ◌∷◌, ℤ, pos, ◌+ℤ◌, ◌-ℤ◌, ◌*ℤ◌, ◌<ℤ◌}
use Rattle.std.proofs.lemmas.Int.{ints}
use Rattle.std.proofs.lemmas.Bool.{and_parts}
use Rattle.std.specs.Cmp.{signed_Decides}
use Rattle.std.specs.Ordering.{int_eq}
use Rattle.basics.proofs.Ring.{solve, var, ◌⊕◌, ◌⊖◌, ◌⊗◌}
use Rattle.basics.proofs.Signs.{cancel_zero, zero_times}
use Rattle.geometry_model.specs.Points.{Point, IsPoint, same_point}
use Rattle.geometry_model.specs.Geometries.{Geometry}
use Rattle.geometry_model.specs.Dimensions.{weighted, weighted_three, area, HasPoint, HasSegment, HasTriangle, HasDimension, Matrix, cell, matrix_of, common, IsMatrix, transposed}
use Rattle.geometry_model.specs.declared.point_sets.Location.{Location}
use Rattle.geometry_model.specs.declared.point_sets.Location.TheVariants.{Interior, Boundary, Exterior}
use Rattle.geometry_model.specs.declared.point_sets.Dimension.{Dimension}
use Rattle.geometry_model.specs.declared.point_sets.Dimension.TheVariants.{Empty, Zero, One, Two}

-- a test that doesn't pass
pub is_false : (b : Bool) → ¬ (b ≡ true) → b ≡ false
is_false true h = absurd (h refl)
is_false false h = refl

-- the area of a triangle, by how far its first two corners are apart in both coordinates
pub area_by_differences : (p q r : Point) → q.W *ℤ area p q r ≡ (p.X *ℤ q.W -ℤ q.X *ℤ p.W) *ℤ (q.Y *ℤ r.W -ℤ r.Y *ℤ q.W) -ℤ (p.Y *ℤ q.W -ℤ q.Y *ℤ p.W) *ℤ (q.X *ℤ r.W -ℤ r.X *ℤ q.W)
area_by_differences p q r = solve (p.X ∷ p.Y ∷ p.W ∷ q.X ∷ q.Y ∷ q.W ∷ r.X ∷ r.Y ∷ r.W ∷ [])
    (var 5 ⊗ ((var 0 ⊗ (var 4 ⊗ var 8 ⊖ var 7 ⊗ var 5) ⊖ var 1 ⊗ (var 3 ⊗ var 8 ⊖ var 6 ⊗ var 5)) ⊕ var 2 ⊗ (var 3 ⊗ var 7 ⊖ var 6 ⊗ var 4)))
    ((var 0 ⊗ var 5 ⊖ var 3 ⊗ var 2) ⊗ (var 4 ⊗ var 8 ⊖ var 7 ⊗ var 5) ⊖ (var 1 ⊗ var 5 ⊖ var 4 ⊗ var 2) ⊗ (var 3 ⊗ var 8 ⊖ var 6 ⊗ var 5)) tt

-- no difference between equal numbers
pub no_difference : (a b : ℤ) → int_eq a b ≡ true → a -ℤ b ≡ pos 0
no_difference a b h = let e : a ≡ b = (signed_Decides a b).0 h in omega (arith, ints)

pub nothing_less_nothing : (x y z : ℤ) → z ≡ x -ℤ y → x ≡ pos 0 → y ≡ pos 0 → z ≡ pos 0
nothing_less_nothing x y z d e f = omega (arith, ints)

-- three points of which two are one lie on one line
pub flat : (p q r : Point) → IsPoint q → same_point p q ≡ true → area p q r ≡ pos 0
flat p q r h same = cancel_zero q.W (area p q r) h (nothing_less_nothing _ _ _ (area_by_differences p q r)
    (zero_times (p.X *ℤ q.W -ℤ q.X *ℤ p.W) (q.Y *ℤ r.W -ℤ r.Y *ℤ q.W) (no_difference (p.X *ℤ q.W) (q.X *ℤ p.W) both.0))
    (zero_times (p.Y *ℤ q.W -ℤ q.Y *ℤ p.W) (q.X *ℤ r.W -ℤ r.X *ℤ q.W) (no_difference (p.Y *ℤ q.W) (q.Y *ℤ p.W) both.1)))
  where
    both : (int_eq (p.X *ℤ q.W) (q.X *ℤ p.W) ≡ true) × (int_eq (p.Y *ℤ q.W) (q.Y *ℤ p.W) ≡ true)
    both = and_parts _ _ same

-- a corner of no weight
pub without_last : (x z : ℤ) → x +ℤ pos 0 *ℤ z ≡ x
without_last x z = omega (arith, ints)

-- a weighted point of three corners, the last without weight, is one of the first two
pub three_is_two : (m n : ℕ) (p q r : Point) → weighted_three m p n q 0 r ≡ weighted m p n q
three_is_two m n p q r = λ i. record {
  X = without_last (pos m *ℤ p.X +ℤ pos n *ℤ q.X) r.X i;
  Y = without_last (pos m *ℤ p.Y +ℤ pos n *ℤ q.Y) r.Y i;
  W = without_last (pos m *ℤ p.W +ℤ pos n *ℤ q.W) r.W i;
}

-- a triangle has its sides
pub segment_from_triangle : (S : Point → Type 0) → HasTriangle S → HasSegment S
segment_from_triangle S t = record {
  p = t.p;
  q = t.q;
  p_is_point = t.p_is_point;
  q_is_point = t.q_is_point;
  differ = is_false _ (λ same. t.not_on_one_line (flat t.p t.q t.r t.q_is_point same));
  within = λ m n h. subst S (three_is_two m n t.p t.q t.r) (t.within m n 0 (omega arith));
}

-- a segment has its ends
pub point_from_segment : (S : Point → Type 0) → HasSegment S → HasPoint S
point_from_segment S s = record {
  p = weighted 1 s.p 0 s.q;
  is_point = positive s.p.W s.q.W s.p_is_point;
  within = s.within 1 0 (omega arith);
}
  where
    positive : (x z : ℤ) → pos 0 <ℤ x → pos 0 <ℤ (pos 1 *ℤ x +ℤ pos 0 *ℤ z)
    positive x z h = omega (arith, ints)

-- so a set with a triangle has a point
pub point_from_triangle : (S : Point → Type 0) → HasTriangle S → HasPoint S
point_from_triangle S t = point_from_segment S (segment_from_triangle S t)

-- at most one dimension fits a set
pub only_dimension : (S : Point → Type 0) (d e : Dimension) → HasDimension S d → HasDimension S e → d ≡ e
only_dimension S Two Two h k = refl
only_dimension S Two One h k = absurd (k.1 h)
only_dimension S Two Zero h k = absurd (k.1 (segment_from_triangle S h))
only_dimension S Two Empty h k = absurd (k (point_from_triangle S h))
only_dimension S One Two h k = absurd (h.1 k)
only_dimension S One One h k = refl
only_dimension S One Zero h k = absurd (k.1 h.0)
only_dimension S One Empty h k = absurd (k (point_from_segment S h.0))
only_dimension S Zero Two h k = absurd (h.1 (segment_from_triangle S k))
only_dimension S Zero One h k = absurd (h.1 k.0)
only_dimension S Zero Zero h k = refl
only_dimension S Zero Empty h k = absurd (k h.0)
only_dimension S Empty Two h k = absurd (h (point_from_triangle S k))
only_dimension S Empty One h k = absurd (h (point_from_segment S k.0))
only_dimension S Empty Zero h k = absurd (h k.0)
only_dimension S Empty Empty h k = refl

-- matrices with equal cells
pub same_matrix : (m n : Matrix) → ((l k : Location) → cell m l k ≡ cell n l k) → m ≡ n
same_matrix m n h = λ i. record {
  interior_interior = h Interior Interior i;
  interior_boundary = h Interior Boundary i;
  interior_exterior = h Interior Exterior i;
  boundary_interior = h Boundary Interior i;
  boundary_boundary = h Boundary Boundary i;
  boundary_exterior = h Boundary Exterior i;
  exterior_interior = h Exterior Interior i;
  exterior_boundary = h Exterior Boundary i;
  exterior_exterior = h Exterior Exterior i;
}

-- at most one matrix fits two geometries
pub only_matrix : (a b : Geometry) (m n : Matrix) → IsMatrix a b m → IsMatrix a b n → m ≡ n
only_matrix a b m n h k = same_matrix m n (λ l r. only_dimension (common a l b r) (cell m l r) (cell n l r) (h l r) (k l r))

-- what one set has, a set with the same points has
pub point_of : (S R : Point → Type 0) → ((p : Point) → S p → R p) → HasPoint S → HasPoint R
point_of S R f h = record { p = h.p; is_point = h.is_point; within = f h.p h.within }

-- the same of a segment
pub segment_of : (S R : Point → Type 0) → ((p : Point) → S p → R p) → HasSegment S → HasSegment R
segment_of S R f h = record {
  p = h.p;
  q = h.q;
  p_is_point = h.p_is_point;
  q_is_point = h.q_is_point;
  differ = h.differ;
  within = λ m n w. f _ (h.within m n w);
}

-- and of a triangle
pub triangle_of : (S R : Point → Type 0) → ((p : Point) → S p → R p) → HasTriangle S → HasTriangle R
triangle_of S R f h = record {
  p = h.p;
  q = h.q;
  r = h.r;
  p_is_point = h.p_is_point;
  q_is_point = h.q_is_point;
  r_is_point = h.r_is_point;
  not_on_one_line = h.not_on_one_line;
  within = λ k m n w. f _ (h.within k m n w);
}

-- so two sets with the same points have the same dimension
pub dimension_of : (S R : Point → Type 0) → ((p : Point) → S p → R p) → ((p : Point) → R p → S p) → (d : Dimension) → HasDimension S d → HasDimension R d
dimension_of S R f g Two h = triangle_of S R f h
dimension_of S R f g One h = (segment_of S R f h.0, λ t. h.1 (triangle_of R S g t))
dimension_of S R f g Zero h = (point_of S R f h.0, λ t. h.1 (segment_of R S g t))
dimension_of S R f g Empty h = λ t. h (point_of R S g t)

-- the cells of a matrix that is made of cells
pub cell-matrix_of : (d : Location → Location → Dimension) (l k : Location) → cell (matrix_of d) l k ≡ d l k
cell-matrix_of d Interior Interior = refl
cell-matrix_of d Interior Boundary = refl
cell-matrix_of d Interior Exterior = refl
cell-matrix_of d Boundary Interior = refl
cell-matrix_of d Boundary Boundary = refl
cell-matrix_of d Boundary Exterior = refl
cell-matrix_of d Exterior Interior = refl
cell-matrix_of d Exterior Boundary = refl
cell-matrix_of d Exterior Exterior = refl

-- the matrix the other way round
pub matrix-transposed : (a b : Geometry) (m : Matrix) → IsMatrix a b m → IsMatrix b a (transposed m)
matrix-transposed a b m h = λ l k. subst (HasDimension (common b l a k)) (sym (cell-matrix_of (λ x y. cell m y x) l k))
    (dimension_of (common a k b l) (common b l a k) (λ p s. (s.1, s.0)) (λ p s. (s.1, s.0)) (cell m k l) (h k l))
