-- The list of cut points as a whole: exactly the cuts, in least form, ascending.
use Rattle.std.proofs.Common.{◌≡◌, ◌⊎◌, inl, inr, ◌↔◌, true, ◌||◌, sym, ap, subst, ◌∙◌, List, Any, All, AllPairs}
use Rattle.std.specs.declared.cmp.Ordering.TheVariants.{Less}
use Rattle.std.proofs.lemmas.Bool.{or_left, or_right, or_cases}
use Rattle.geometry_model.specs.Points.{Position, Point, IsPoint, IsLeast, point_at, same_point, compare}
use Rattle.geometry_model.specs.Geometries.{Edge}
use Rattle.geometry_model.specs.CutPoints.{IsCut, cut_points}
use Rattle.geometry_laws.specs.PointLaws.{reversed}
use Rattle.geometry_laws.proofs.PointOrder.{same_symmetric, same_transitive, compare_reversed, equal_is_same, less_transitive}
use Rattle.geometry_laws.proofs.Respect.{on_respects}
use Rattle.geometry_laws.proofs.Each.{Among, each_of}
use Rattle.matrix_laws.proofs.MatrixLists.{Some_of, some_from_any, any_from_some, all_from_each}
use Rattle.matrix_laws.proofs.Sorted.{Sorted, Ties, IsOrder, among_ascending, ascending_among, ascending-sorted, pairs_from_sorted}
use Rattle.matrix_laws.proofs.CutLists.{IsLeastCut, all_cuts, cut_is_cut, cut_found}

-- ---- a cut is one by each of its triples
-- each kind of cut asks only where the point is, and equal triples are at one place
pub cut_of_same : (es : List Edge) (ps : List Position) (p q : Point) → IsPoint p → IsPoint q → same_point p q ≡ true → IsCut es ps p → IsCut es ps q
cut_of_same es ps p q hp hq same (IsCut.AtEnd _ e c h) = IsCut.AtEnd hq e c (go (or_cases (same_point (point_at e.start) p) (same_point (point_at e.end) p) h))
  where
    go : (same_point (point_at e.start) p ≡ true) ⊎ (same_point (point_at e.end) p ≡ true) → (same_point (point_at e.start) q || same_point (point_at e.end) q) ≡ true
    go (inl g) = or_left (same_point (point_at e.start) q) (same_point (point_at e.end) q) (same_transitive (point_at e.start) p q hp g same)
    go (inr g) = or_right (same_point (point_at e.start) q) (same_point (point_at e.end) q) (same_transitive (point_at e.end) p q hp g same)
cut_of_same es ps p q hp hq same (IsCut.Listed _ a c h) = IsCut.Listed hq a c (same_transitive (point_at a) p q hp h same)
cut_of_same es ps p q hp hq same (IsCut.AtCrossing _ e f c d apart he hf) = IsCut.AtCrossing hq e f c d apart
    (sym (on_respects e p q hp hq same) ∙ he) (sym (on_respects f p q hp hq same) ∙ hf)

-- ---- which points are listed
-- each listed point is one of the cuts that were put in order
pub listed_is_cut : (es : List Edge) (ps : List Position) (q : Point) → Among q (cut_points es ps) → IsLeastCut es ps q
listed_is_cut es ps q a = cut_is_cut es ps q (among_ascending compare (all_cuts es ps) q a)

-- each cut is among those, and the order keeps it or one that stands for the same point
pub cut_is_listed : (es : List Edge) (ps : List Position) (p : Point) → IsPoint p → IsCut es ps p → Some_of (λ q. same_point q p ≡ true) (cut_points es ps)
cut_is_listed es ps p hp h = first (cut_found es ps p hp h)
  where
    second : (q : Point) → IsPoint q → same_point q p ≡ true → Some_of (Ties compare q) (cut_points es ps) → Some_of (λ r. same_point r p ≡ true) (cut_points es ps)
    second q hq g s = record { found = s.found; among = s.among; has = tied s.has }
      where
        tied : Ties compare q s.found → same_point s.found p ≡ true
        tied (inl e) = subst (λ r. same_point r p ≡ true) (sym e) g
        tied (inr e) = same_transitive s.found q p hq (sym (same_symmetric q s.found) ∙ (equal_is_same q s.found).0 e) g

    first : Some_of (λ q. same_point q p ≡ true) (all_cuts es ps) → Some_of (λ q. same_point q p ≡ true) (cut_points es ps)
    first s = second s.found (cut_is_cut es ps s.found s.among).is_point s.has (ascending_among compare (all_cuts es ps) s.found s.among)

-- a listed point is a cut, and each cut is listed, by a triple that stands for the same point
pub cut_points_are_cuts : (es : List Edge) (ps : List Position) (p : Point) → IsPoint p → IsCut es ps p ↔ Any (λ q. same_point q p ≡ true) (cut_points es ps)
cut_points_are_cuts es ps p hp = (λ h. any_from_some (λ q. same_point q p ≡ true) (cut_points es ps) (cut_is_listed es ps p hp h), λ h. back (some_from_any (λ q. same_point q p ≡ true) (cut_points es ps) h))
  where
    back : Some_of (λ q. same_point q p ≡ true) (cut_points es ps) → IsCut es ps p
    back s = let c : IsLeastCut es ps s.found = listed_is_cut es ps s.found s.among in cut_of_same es ps s.found p c.is_point hp s.has c.is_cut

-- each listed point is a cut in least form
pub cut_points_are_least : (es : List Edge) (ps : List Position) → All (λ p. IsPoint p × IsLeast p) (cut_points es ps)
cut_points_are_least es ps = all_from_each (λ p. IsPoint p × IsLeast p) (cut_points es ps) (each_of (λ p. IsPoint p × IsLeast p) (cut_points es ps) (λ p a. pair p (listed_is_cut es ps p a)))
  where
    pair : (p : Point) → IsLeastCut es ps p → IsPoint p × IsLeast p
    pair p c = (c.is_point, c.is_least)

-- ---- in what order
-- the comparison of points is an order: Less is transitive, and Greater is Less the other way round
pub points_are_ordered : IsOrder IsPoint compare
points_are_ordered = record {
  through = λ p q r hp hq hr e f. less_transitive p q r hp hq hr e f;
  turned = λ p q e. compare_reversed p q ∙ ap reversed e;
}

-- the comparison of points is an order, so the cuts that are put in it ascend
pub cut_points-sorted : (es : List Edge) (ps : List Position) → Sorted compare (cut_points es ps)
cut_points-sorted es ps = ascending-sorted IsPoint compare points_are_ordered (all_cuts es ps) (each_of IsPoint (all_cuts es ps) (λ p a. (cut_is_cut es ps p a).is_point))

pub cut_points_ascend : (es : List Edge) (ps : List Position) → AllPairs (λ p q. compare p q ≡ Less) (cut_points es ps)
cut_points_ascend es ps = pairs_from_sorted compare (cut_points es ps) (cut_points-sorted es ps)
