-- What the points that two edges share say of shared points.
use Rattle.std.proofs.Common.{pos, ◌≡◌, Bool, true, false, ◌&&◌, refl, sym, ap, ap₂, ◌∙◌, List, [], ◌∷◌, All, arith}
use borrow.Author.Differences.{ints}
use Rattle.std.specs.Ordering.{int_eq, is_le}
use Rattle.std.specs.declared.cmp.Ordering.{Ordering}
use Rattle.std.specs.declared.cmp.Ordering.TheVariants.{Less, Equal}
use Rattle.std.proofs.lemmas.Bool.{and_parts, and_from}
use Rattle.geometry_model.specs.Points.{Position, Point, IsPoint, point_at, same_point, compare}
use Rattle.geometry_model.specs.Envelopes.{Envelope, overlap}
use Rattle.geometry_model.specs.Geometries.{Edge}
use Rattle.geometry_model.specs.Sides.{on}
use Rattle.geometry_model.specs.Dimensions.{area}
use Rattle.geometry_model.specs.Validity.{SharePoint, ShareOther}
use Rattle.basics.proofs.Ring.{solve, var, lit, ◌⊕◌, ◌⊖◌, ◌⊗◌}
use Rattle.basics.proofs.Tests.{equal_yes}
use Rattle.geometry_laws.proofs.PointOrder.{same_reflexive, same_symmetric, same_transitive, equal_is_same}
use Rattle.geometry_laws.proofs.SharedPoints.{shared_point_is_decided}
use Rattle.edge_boxes.specs.RunLaws.{box_of}
use Rattle.edge_boxes.proofs.OverlappingBoxes.{sharing_boxes_overlap}
use Rattle.noding.specs.declared.answers.Meet.TheVariants.{Apart, At, Along}
use Rattle.noding.specs.Meetings.{on_both, IsMeeting}

-- ---- no point, one point, both ends of a stretch
both_on : (e f : Edge) (p : Point) → on_both e f p ≡ true → (on e p ≡ true) × (on f p ≡ true)
both_on e f p h = and_parts (on e p) (on f p) h

pub apart : (e f : Edge) → IsMeeting e f Apart → SharePoint e f → ⊥
apart e f m s = let z : true ≡ false = sym (and_from (on e s.at) (on f s.at) s.on_first s.on_second) ∙ m s.at s.is_point in absurd cc

at_on : (e f : Edge) (p : Point) → IsPoint p → IsMeeting e f (At p) → on_both e f p ≡ true
at_on e f p hp m = m p hp ∙ same_reflexive p

flat_at_first : (p q : Point) → area p q p ≡ pos 0
flat_at_first p q = solve (p.X ∷ p.Y ∷ p.W ∷ q.X ∷ q.Y ∷ q.W ∷ [])
    ((var 0 ⊗ (var 4 ⊗ var 2 ⊖ var 1 ⊗ var 5) ⊖ var 1 ⊗ (var 3 ⊗ var 2 ⊖ var 0 ⊗ var 5)) ⊕ var 2 ⊗ (var 3 ⊗ var 1 ⊖ var 0 ⊗ var 4)) (lit (pos 0)) tt

flat_at_last : (p q : Point) → area p q q ≡ pos 0
flat_at_last p q = solve (p.X ∷ p.Y ∷ p.W ∷ q.X ∷ q.Y ∷ q.W ∷ [])
    ((var 0 ⊗ (var 4 ⊗ var 5 ⊖ var 4 ⊗ var 5) ⊖ var 1 ⊗ (var 3 ⊗ var 5 ⊖ var 3 ⊗ var 5)) ⊕ var 2 ⊗ (var 3 ⊗ var 4 ⊖ var 3 ⊗ var 4)) (lit (pos 0)) tt

not_after_itself : (p : Point) → is_le (compare p p) ≡ true
not_after_itself p = ap is_le ((equal_is_same p p).1 (same_reflexive p))

first_on : (e f : Edge) (p q : Point) → IsPoint p → IsMeeting e f (Along p q) → on_both e f p ≡ true
first_on e f p q hp m = m.exact p hp ∙ and_from (int_eq (area p q p) (pos 0) && is_le (compare p p)) (is_le (compare p q)) (and_from (int_eq (area p q p) (pos 0)) (is_le (compare p p)) (equal_yes (area p q p) (pos 0) (flat_at_first p q)) (not_after_itself p)) (ap is_le m.in_order)

last_on : (e f : Edge) (p q : Point) → IsPoint q → IsMeeting e f (Along p q) → on_both e f q ≡ true
last_on e f p q hq m = m.exact q hq ∙ and_from (int_eq (area p q q) (pos 0) && is_le (compare p q)) (is_le (compare q q)) (and_from (int_eq (area p q q) (pos 0)) (is_le (compare p q)) (equal_yes (area p q q) (pos 0) (flat_at_last p q)) (ap is_le m.in_order)) (not_after_itself q)

point_of : (e f : Edge) (p : Point) → IsPoint p → on_both e f p ≡ true → SharePoint e f
point_of e f p hp h = let b : (on e p ≡ true) × (on f p ≡ true) = both_on e f p h in record { at = p; is_point = hp; on_first = b.0; on_second = b.1 }

other_of : (common : Position) (e f : Edge) (p : Point) → IsPoint p → on_both e f p ≡ true → same_point p (point_at common) ≡ false → ShareOther common e f
other_of common e f p hp h o = let b : (on e p ≡ true) × (on f p ≡ true) = both_on e f p h in record { at = p; is_point = hp; on_first = b.0; on_second = b.1; other = o }

-- edges of which the bounds are apart share nothing
pub far_apart : (e f : Edge) (b c : Envelope) (t : Bool) → b ≡ box_of e → c ≡ box_of f → t ≡ overlap b c → t ≡ false → IsMeeting e f Apart
far_apart e f b c t is_b is_c test far p hp = go (on_both e f p) refl
  where
    bounds_apart : overlap (box_of e) (box_of f) ≡ false
    bounds_apart = ap₂ overlap (sym is_b) (sym is_c) ∙ sym test ∙ far

    go : (held : Bool) → on_both e f p ≡ held → on_both e f p ≡ false
    go true h = let y : true ≡ false = sym (sharing_boxes_overlap e f ((shared_point_is_decided e f).1 (point_of e f p hp h))) ∙ bounds_apart in absurd cc
    go false h = h

-- the first and the second point that are named
head_point : (p : Point) (ps : List Point) → All IsPoint (p ∷ ps) → IsPoint p
head_point p ps h = h 0 p (omega arith)

pub next_point : (p q : Point) (ps : List Point) → All IsPoint (p ∷ q ∷ ps) → IsPoint q
next_point p q ps h = h 1 q (omega arith)

pub at_shares : (e f : Edge) (p : Point) → All IsPoint (p ∷ []) → IsMeeting e f (At p) → SharePoint e f
at_shares e f p h m = point_of e f p (head_point p [] h) (at_on e f p (head_point p [] h) m)

pub along_shares : (e f : Edge) (p q : Point) → All IsPoint (p ∷ q ∷ []) → IsMeeting e f (Along p q) → SharePoint e f
along_shares e f p q h m = point_of e f p (head_point p (q ∷ []) h) (first_on e f p q (head_point p (q ∷ []) h) m)

pub at_shares_other : (common : Position) (e f : Edge) (p : Point) → All IsPoint (p ∷ []) → IsMeeting e f (At p) → same_point p (point_at common) ≡ false → ShareOther common e f
at_shares_other common e f p h m o = other_of common e f p (head_point p [] h) (at_on e f p (head_point p [] h) m) o

pub at_common : (common : Position) (e f : Edge) (p : Point) → All IsPoint (p ∷ []) → IsMeeting e f (At p) → same_point p (point_at common) ≡ true → ShareOther common e f → ⊥
at_common common e f p h m o s = let z : true ≡ false = sym (same_transitive s.at p (point_at common) (head_point p [] h) (same_symmetric s.at p ∙ sym (m s.at s.is_point) ∙ and_from (on e s.at) (on f s.at) s.on_first s.on_second) o) ∙ s.other in absurd cc

-- of two different points one isn't the common position
pub along_shares_other : (common : Position) (e f : Edge) (p q : Point) → All IsPoint (p ∷ q ∷ []) → IsMeeting e f (Along p q) → ShareOther common e f
along_shares_other common e f p q h m = go (same_point p (point_at common)) refl (same_point q (point_at common)) refl
  where
    common_is_point : IsPoint (point_at common)
    common_is_point = omega (arith, ints)

    go : (s : Bool) → same_point p (point_at common) ≡ s → (t : Bool) → same_point q (point_at common) ≡ t → ShareOther common e f
    go false s t u = other_of common e f p (head_point p (q ∷ []) h) (first_on e f p q (head_point p (q ∷ []) h) m) s
    go true s false u = other_of common e f q (next_point p q [] h) (last_on e f p q (next_point p q [] h) m) u
    go true s true u = let z : Equal ≡ Less = sym ((equal_is_same p q).1 (same_transitive p (point_at common) q common_is_point s (same_symmetric (point_at common) q ∙ u))) ∙ m.in_order in absurd cc

-- ---- the same point by the order of points
pub at_equal : (p q r : Point) (o : Ordering) → o ≡ compare p q → q ≡ r → o ≡ Equal → true ≡ same_point p r
at_equal p q r o e f g = sym ((equal_is_same p r).0 (ap (compare p) (sym f) ∙ sym e ∙ g))

pub at_other : (p q r : Point) (o : Ordering) → o ≡ compare p q → q ≡ r → (o ≡ Equal → ⊥) → false ≡ same_point p r
at_other p q r o e f n = go (same_point p r) refl
  where
    go : (t : Bool) → same_point p r ≡ t → false ≡ same_point p r
    go true h = absurd (n (e ∙ ap (compare p) f ∙ (equal_is_same p r).1 h))
    go false h = sym h
