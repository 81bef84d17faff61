-- The points that a meeting names are cuts of the two edges.
use Rattle.std.proofs.Common.{◌≡◌, ◌⊎◌, inl, inr, true, false, ◌&&◌, refl, sym, subst, ◌∙◌, [], ◌∷◌, All, pos, arith}
use Rattle.std.specs.Ordering.{int_eq, is_le}
use Rattle.std.proofs.lemmas.Bool.{and_parts, and_from}
use Rattle.basics.proofs.Ring.{solve, var, lit, ◌⊕◌, ◌⊖◌, ◌⊗◌}
use Rattle.basics.proofs.Tests.{equal_yes}
use Rattle.geometry_model.specs.Points.{Point, IsPoint, point_at, compare}
use Rattle.geometry_model.specs.Geometries.{Edge}
use Rattle.geometry_model.specs.Sides.{on, on_one_line}
use Rattle.geometry_model.specs.Dimensions.{area}
use Rattle.geometry_model.specs.CutPoints.{IsCut}
use Rattle.geometry_model.specs.CutPoints.IsCut.{AtCrossing}
use Rattle.geometry_laws.proofs.PointOrder.{same_reflexive}
use Rattle.geometry_laws.proofs.Cuts.{contains_of_among, start_is_cut, end_is_cut}
use Rattle.matrix_laws.proofs.MatrixLists.{all_from_each}
use Rattle.noding.specs.Meetings.{on_both, on_stretch, IsMeeting, named}
use Rattle.noding.specs.declared.answers.Meet.{Meet}
use Rattle.noding.specs.declared.answers.Meet.TheVariants.{Apart, At, Along}
use Rattle.noding.proofs.Order.{NotAfter, not_after_less, not_after_same}
use Rattle.noding.proofs.Ends.{at_low, at_high}
use Rattle.noding.proofs.OneLine.{Lined}

-- a cut of two edges
abbrev pub CutOf : Edge → Edge → Point → Type 0
CutOf e f p = IsCut (e ∷ f ∷ []) [] p

-- ---- edges not on one line
-- a point on two edges that aren't on one line is where they cross, so it is a cut of the two
cut_of_both : (e f : Edge) → on_one_line e f ≡ false → (p : Point) → IsPoint p → on_both e f p ≡ true → CutOf e f p
cut_of_both e f apart p hp k =
    let both : (on e p ≡ true) × (on f p ≡ true) = and_parts (on e p) (on f p) k in
    AtCrossing hp e f (contains_of_among e (e ∷ f ∷ []) (inl refl)) (contains_of_among f (e ∷ f ∷ []) (inr (inl refl))) apart both.0 both.1

-- three points of which two are one lie on one line
pub area_at_first : (p q : Point) → area p q p ≡ pos 0
area_at_first p q = solve (p.X ∷ p.Y ∷ p.W ∷ q.X ∷ q.Y ∷ q.W ∷ [])
    ((var 0 ⊗ (var 4 ⊗ var 2 ⊖ var 1 ⊗ var 5) ⊖ var 1 ⊗ (var 3 ⊗ var 2 ⊖ var 0 ⊗ var 5)) ⊕ var 2 ⊗ (var 3 ⊗ var 1 ⊖ var 0 ⊗ var 4)) (lit (pos 0)) tt

-- the same of the second
pub area_at_second : (p q : Point) → area p q q ≡ pos 0
area_at_second p q = solve (p.X ∷ p.Y ∷ p.W ∷ q.X ∷ q.Y ∷ q.W ∷ [])
    ((var 0 ⊗ (var 4 ⊗ var 5 ⊖ var 4 ⊗ var 5) ⊖ var 1 ⊗ (var 3 ⊗ var 5 ⊖ var 3 ⊗ var 5)) ⊕ var 2 ⊗ (var 3 ⊗ var 4 ⊖ var 3 ⊗ var 4)) (lit (pos 0)) tt

-- a point on the stretch's line that isn't before its lesser end or after its greater is on the stretch
pub stretch_has : (p q r : Point) → area p q r ≡ pos 0 → NotAfter p r → NotAfter r q → on_stretch (record { lesser = p; greater = q }) r ≡ true
stretch_has p q r z f g = and_from (int_eq (area p q r) (pos 0) && is_le (compare p r)) (is_le (compare r q)) (and_from (int_eq (area p q r) (pos 0)) (is_le (compare p r)) (equal_yes (area p q r) (pos 0) z) f) g

-- whatever point edges share that aren't on one line is a cut of them, since they cross there
pub named_at_crossing : (e f : Edge) → on_one_line e f ≡ false → (m : Meet) → IsMeeting e f m → All IsPoint (named m) → All (CutOf e f) (named m)
named_at_crossing e f apart Apart h ps = all_from_each (CutOf e f) [] tt
named_at_crossing e f apart (At p) h ps =
    let hp : IsPoint p = ps 0 p (omega arith) in
    all_from_each (CutOf e f) (p ∷ []) (cut_of_both e f apart p hp (h p hp ∙ same_reflexive p), tt)
named_at_crossing e f apart (Along p q) h ps =
    let hp : IsPoint p = ps 0 p (omega arith) in
    let hq : IsPoint q = ps 1 q (omega arith) in
    let less : NotAfter p q = not_after_less p q h.in_order in
    all_from_each (CutOf e f) (p ∷ q ∷ []) (
      cut_of_both e f apart p hp (h.exact p hp ∙ stretch_has p q p (area_at_first p q) (not_after_same p p (same_reflexive p)) less),
      (cut_of_both e f apart q hq (h.exact q hq ∙ stretch_has p q q (area_at_second p q) less (not_after_same q q (same_reflexive q))), tt),
    )

-- ---- edges on one line

-- the stretch of edges on one line begins at the end of one of them, so it begins at a cut
pub from_is_cut : (e f : Edge) (l : Lined e f) → CutOf e f (point_at l.from)
from_is_cut e f l = go l.greater.is_one
  where
    of_first : CutOf e f (point_at l.e_low)
    of_first = at_low (λ a. CutOf e f (point_at a)) e l.e_low l.e_high l.e_ends (start_is_cut (e ∷ f ∷ []) [] e (inl refl)) (end_is_cut (e ∷ f ∷ []) [] e (inl refl))

    of_second : CutOf e f (point_at l.f_low)
    of_second = at_low (λ a. CutOf e f (point_at a)) f l.f_low l.f_high l.f_ends (start_is_cut (e ∷ f ∷ []) [] f (inr (inl refl))) (end_is_cut (e ∷ f ∷ []) [] f (inr (inl refl)))

    go : (l.from ≡ l.e_low) ⊎ (l.from ≡ l.f_low) → CutOf e f (point_at l.from)
    go (inl k) = subst (λ a. CutOf e f (point_at a)) (sym k) of_first
    go (inr k) = subst (λ a. CutOf e f (point_at a)) (sym k) of_second

-- and it ends at the end of one of them
pub to_is_cut : (e f : Edge) (l : Lined e f) → CutOf e f (point_at l.to)
to_is_cut e f l = go l.lesser.is_one
  where
    of_first : CutOf e f (point_at l.e_high)
    of_first = at_high (λ a. CutOf e f (point_at a)) e l.e_low l.e_high l.e_ends (start_is_cut (e ∷ f ∷ []) [] e (inl refl)) (end_is_cut (e ∷ f ∷ []) [] e (inl refl))

    of_second : CutOf e f (point_at l.f_high)
    of_second = at_high (λ a. CutOf e f (point_at a)) f l.f_low l.f_high l.f_ends (start_is_cut (e ∷ f ∷ []) [] f (inr (inl refl))) (end_is_cut (e ∷ f ∷ []) [] f (inr (inl refl)))

    go : (l.to ≡ l.e_high) ⊎ (l.to ≡ l.f_high) → CutOf e f (point_at l.to)
    go (inl k) = subst (λ a. CutOf e f (point_at a)) (sym k) of_first
    go (inr k) = subst (λ a. CutOf e f (point_at a)) (sym k) of_second

pub one_cut : (e f : Edge) (p : Point) → CutOf e f p → All (CutOf e f) (p ∷ [])
one_cut e f p h = all_from_each (CutOf e f) (p ∷ []) (h, tt)

pub two_cuts : (e f : Edge) (p q : Point) → CutOf e f p → CutOf e f q → All (CutOf e f) (p ∷ q ∷ [])
two_cuts e f p q h k = all_from_each (CutOf e f) (p ∷ q ∷ []) (h, (k, tt))

pub no_cuts : (e f : Edge) → All (CutOf e f) []
no_cuts e f = all_from_each (CutOf e f) [] tt
