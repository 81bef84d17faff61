-- The list of cut points: which points it holds, and in what order.
use Rattle.std.proofs.Common.{◌≡◌, ◌≢◌, inl, ℕ, Bool, true, false, if◌then◌else◌, refl, sym, ap, subst, ◌∙◌, arith, [], ◌∷◌, ℤ, pos, ◌-ℤ◌, ◌*ℤ◌, ◌≤ℤ◌, ◌<ℤ◌, int_lt}
use borrow.Author.Differences.{ints}
use native.Mathlib.Nat.{zero-div}
use Rattle.std.specs.Prelude.{int_div, unsigned_abs}
use Rattle.std.proofs.lemmas.Bool.{and_from}
use Rattle.basics.proofs.Ring.{solve, var, lit, ◌⊖◌, ◌⊗◌}
use Rattle.basics.proofs.Signs.{less_yes, less_from, not_less_from}
use Rattle.basics.proofs.Orders.{negative_flipped}
use Rattle.geometry_model.specs.Points.{Point, IsPoint, same_point, gcd, least_form}
use Rattle.geometry_model.specs.Geometries.{Edge}
use Rattle.geometry_model.specs.Sides.{on, on_one_line}
use Rattle.geometry_model.specs.CutPoints.{turned_up, meeting_point, crossings}
use Rattle.geometry_model.proofs.LeastFormFacts.{least_is_same, least_is_point}
use Rattle.geometry_laws.proofs.Scaling.{same_from}
use Rattle.geometry_laws.proofs.PointOrder.{same_transitive}
use Rattle.geometry_laws.proofs.Respect.{on_respects}
use Rattle.geometry_laws.proofs.Each.{Among}
use Rattle.matrix_laws.proofs.MatrixLists.{Some_of}
use Rattle.matrix_laws.proofs.EdgeMeeting.{before_turning, SharesPoint, shares_point}

-- ---- the meeting point of two edges, turned up
-- turning up a triple whose W isn't 0 makes W positive, so it stands for a point
pub turned_is_point : (p : Point) → p.W ≢ pos 0 → IsPoint (turned_up p)
turned_is_point p h = go (int_lt p.W (pos 0)) refl
  where
    there : (w : ℤ) → pos 0 ≤ℤ w → w ≢ pos 0 → pos 0 <ℤ w
    there w k l = omega (arith, ints)

    go : (b : Bool) → int_lt p.W (pos 0) ≡ b → pos 0 <ℤ (if b then record { X = pos 0 -ℤ p.X; Y = pos 0 -ℤ p.Y; W = pos 0 -ℤ p.W } else p).W
    go true e = negative_flipped p.W (less_from p.W (pos 0) e)
    go false e = there p.W (not_less_from p.W (pos 0) e) h

-- and where W is 0 it stays so
pub turned_is_nothing : (p : Point) → p.W ≡ pos 0 → (turned_up p).W ≡ pos 0
turned_is_nothing p h = go (int_lt p.W (pos 0))
  where
    go : (b : Bool) → (if b then record { X = pos 0 -ℤ p.X; Y = pos 0 -ℤ p.Y; W = pos 0 -ℤ p.W } else p).W ≡ pos 0
    go true = ap (λ (z : ℤ). pos 0 -ℤ z) h
    go false = h

-- a triple whose coordinates agree with a point's stands for that point when it is turned up
pub turned_is_same : (p q : Point) → p.X *ℤ q.W ≡ q.X *ℤ p.W → p.Y *ℤ q.W ≡ q.Y *ℤ p.W → same_point (turned_up p) q ≡ true
turned_is_same p q e f = go (int_lt p.W (pos 0))
  where
    both : (x w y v : ℤ) → x *ℤ w ≡ y *ℤ v → (pos 0 -ℤ x) *ℤ w ≡ y *ℤ (pos 0 -ℤ v)
    both x w y v g = solve (x ∷ w ∷ []) ((lit (pos 0) ⊖ var 0) ⊗ var 1) (lit (pos 0) ⊖ var 0 ⊗ var 1) tt ∙ ap (λ (z : ℤ). pos 0 -ℤ z) g
        ∙ solve (y ∷ v ∷ []) (lit (pos 0) ⊖ var 0 ⊗ var 1) (var 0 ⊗ (lit (pos 0) ⊖ var 1)) tt

    go : (b : Bool) → same_point (if b then record { X = pos 0 -ℤ p.X; Y = pos 0 -ℤ p.Y; W = pos 0 -ℤ p.W } else p) q ≡ true
    go true = same_from (record { X = pos 0 -ℤ p.X; Y = pos 0 -ℤ p.Y; W = pos 0 -ℤ p.W }) q (both p.X q.W q.X p.W e) (both p.Y q.W q.Y p.W f)
    go false = same_from p q e f

-- nor does the least form make a point where W is 0
pub least_is_nothing : (p : Point) → p.W ≡ pos 0 → (least_form p).W ≡ pos 0
least_is_nothing p h = ap (λ (z : ℤ). int_div z (pos g)) h ∙ ap pos (zero-div g)
  where
    g : ℕ
    g = gcd (gcd (unsigned_abs p.X) (unsigned_abs p.Y)) (unsigned_abs p.W)

-- ---- a shared point is found, and a found one is shared
-- a point on both edges is where their lines meet, and the test on both edges passes there, so it is found in least form
pub crossing_found : (e f : Edge) (p : Point) → IsPoint p → on_one_line e f ≡ false → on e p ≡ true → on f p ≡ true → Some_of (λ q. same_point q p ≡ true) (crossings e f)
crossing_found e f p hp apart he hf = record { found = least_form (meeting_point e f); among = there; has = same }
  where
    shared : SharesPoint e f p
    shared = shares_point e f p hp apart he hf

    m_is_point : IsPoint (meeting_point e f)
    m_is_point = turned_is_point (before_turning e f) shared.w_is_not

    q_is_point : IsPoint (least_form (meeting_point e f))
    q_is_point = least_is_point (meeting_point e f) m_is_point

    same : same_point (least_form (meeting_point e f)) p ≡ true
    same = same_transitive (least_form (meeting_point e f)) (meeting_point e f) p m_is_point (least_is_same (meeting_point e f)) (turned_is_same (before_turning e f) p shared.x_is shared.y_is)

    there : Among (least_form (meeting_point e f)) (crossings e f)
    there = subst (λ (b : Bool). Among (least_form (meeting_point e f)) (if b then least_form (meeting_point e f) ∷ [] else []))
        (sym (and_from _ _ (and_from _ _ (less_yes _ _ q_is_point) (on_respects e _ p q_is_point hp same ∙ he)) (on_respects f _ p q_is_point hp same ∙ hf)))
        (inl refl)
