-- The cuts on an edge: the listed positions on it, and what it has in common with each of the edges.
use Rattle.std.proofs.Common.{◌≡◌, ◌⊎◌, inl, inr, Bool, true, false, not, ◌||◌, refl, sym, subst, ◌∙◌, List, [], ◌∷◌, Contains, pos, arith}
use Rattle.std.specs.Ordering.{int_eq}
use Rattle.std.proofs.lemmas.Bool.{and_from, or_left, or_right, or_cases}
use Rattle.basics.proofs.Tests.{equal_yes}
use Rattle.geometry_model.specs.Points.{Position, Point, IsPoint, point_at, same_point}
use Rattle.geometry_model.specs.Geometries.{Edge}
use Rattle.geometry_model.specs.Sides.{side, on, on_one_line}
use Rattle.geometry_model.specs.CutPoints.{IsCut, is_end}
use Rattle.geometry_model.specs.CutPoints.IsCut.{AtEnd, Listed, AtCrossing}
use Rattle.geometry_laws.proofs.Each.{Among}
use Rattle.geometry_laws.proofs.PointOrder.{same_reflexive}
use Rattle.geometry_laws.proofs.Locating.{start_is_on, end_is_on}
use Rattle.geometry_laws.proofs.LineOrder.{area_on_line}
use Rattle.geometry_laws.proofs.RingParity.{side_is_area}
use Rattle.geometry_laws.proofs.Cuts.{OneLine, one_line}
use Rattle.matrix_laws.proofs.MatrixLists.{Some_of, among_from_contains}
use Rattle.noding.specs.Meetings.{on_both, on_stretch, IsMeeting, named, is_common_cut}
use Rattle.noding.specs.declared.answers.Meet.{Meet}
use Rattle.noding.specs.declared.answers.Meet.TheVariants.{Apart, At, Along}
use Rattle.noding.proofs.Order.{NotAfter, not_after_less, not_after_same}
use Rattle.noding.proofs.NamedCuts.{CutOf, stretch_has, area_at_first, area_at_second}

-- each kind of cut says that it is a point
pub cut_is_point : (es : List Edge) (ps : List Position) (p : Point) → IsCut es ps p → IsPoint p
cut_is_point es ps p (AtEnd hp e c h) = hp
cut_is_point es ps p (Listed hp a c h) = hp
cut_is_point es ps p (AtCrossing hp e f c d apart he hf) = hp

-- a cut of some edges and positions is one of more edges and positions
pub cut_moved : (es fs : List Edge) (qs ps : List Position) (p : Point) → ((e : Edge) → Contains es e → Contains fs e) → ((a : Position) → Contains qs a → Contains ps a) → IsCut es qs p → IsCut fs ps p
cut_moved es fs qs ps p more others (AtEnd hp e c h) = AtEnd hp e (more e c) h
cut_moved es fs qs ps p more others (Listed hp a c h) = Listed hp a (others a c) h
cut_moved es fs qs ps p more others (AtCrossing hp e f c d apart he hf) = AtCrossing hp e f (more e c) (more f d) apart he hf

-- a cut of some edges alone is one of more edges, whatever positions are listed
pub cut_of_more : (es fs : List Edge) (ps : List Position) (p : Point) → ((e : Edge) → Contains es e → Contains fs e) → IsCut es [] p → IsCut fs ps p
cut_of_more es fs ps p more = cut_moved es fs [] ps p more (λ a c. absurd (omega (arith, c.1)))

-- a cut of two of the edges is a cut of them all
pub cut_of_both : (es : List Edge) (e f : Edge) (p : Point) → Contains es e → Contains es f → CutOf e f p → IsCut es [] p
cut_of_both es e f p he hf = cut_of_more (e ∷ f ∷ []) es [] p (λ g c. pick g (among_from_contains (e ∷ f ∷ []) g c))
  where
    pick : (g : Edge) → Among g (e ∷ f ∷ []) → Contains es g
    pick g (inl k) = subst (Contains es) (sym k) he
    pick g (inr (inl k)) = subst (Contains es) (sym k) hf
    pick g (inr (inr c)) = absurd c

-- ---- both edges hold what their meeting names
-- the one shared point, or each end of the shared stretch, is held by both edges
pub named_on_both : (e f : Edge) (m : Meet) → IsMeeting e f m → (p : Point) → IsPoint p → Among p (named m) → on_both e f p ≡ true
named_on_both e f Apart h p hp a = absurd a
named_on_both e f (At q) h p hp (inl k) = h p hp ∙ subst (λ r. same_point q r ≡ true) (sym k) (same_reflexive q)
named_on_both e f (At q) h p hp (inr a) = absurd a
named_on_both e f (Along q r) h p hp (inl k) =
    let less : NotAfter q r = not_after_less q r h.in_order in
    h.exact p hp ∙ subst (λ s. on_stretch (record { lesser = q; greater = r }) s ≡ true) (sym k) (stretch_has q r q (area_at_first q r) (not_after_same q q (same_reflexive q)) less)
named_on_both e f (Along q r) h p hp (inr (inl k)) =
    let less : NotAfter q r = not_after_less q r h.in_order in
    h.exact p hp ∙ subst (λ s. on_stretch (record { lesser = q; greater = r }) s ≡ true) (sym k) (stretch_has q r r (area_at_second q r) less (not_after_same r r (same_reflexive r)))
named_on_both e f (Along q r) h p hp (inr (inr c)) = absurd c

-- ---- edges on the line of one edge are on one line
-- two edges on the line of a third, which has two different ends, are on one line
pub lines_are_one : (g e f : Edge) → (g.start ≡ g.end → ⊥) → on_one_line g e ≡ true → on_one_line g f ≡ true → on_one_line e f ≡ true
lines_are_one g e f wide h k =
    let a : OneLine g e = one_line g e h in
    let b : OneLine g f = one_line g f k in
    and_from (int_eq (side e.start e.end (point_at f.start)) (pos 0)) (int_eq (side e.start e.end (point_at f.end)) (pos 0))
    (equal_yes (side e.start e.end (point_at f.start)) (pos 0) (side_is_area e.start e.end (point_at f.start) ∙ area_on_line g.start g.end (point_at e.start) (point_at e.end) (point_at f.start) wide a.start a.end b.start))
    (equal_yes (side e.start e.end (point_at f.end)) (pos 0) (side_is_area e.start e.end (point_at f.end) ∙ area_on_line g.start g.end (point_at e.start) (point_at e.end) (point_at f.end) wide a.start a.end b.end))

-- an edge is on its own line
pub its_own_line : (e : Edge) → on_one_line e e ≡ true
its_own_line e = and_from (int_eq (side e.start e.end (point_at e.start)) (pos 0)) (int_eq (side e.start e.end (point_at e.end)) (pos 0))
    (equal_yes (side e.start e.end (point_at e.start)) (pos 0) (side_is_area e.start e.end (point_at e.start) ∙ area_at_first (point_at e.start) (point_at e.end)))
    (equal_yes (side e.start e.end (point_at e.end)) (pos 0) (side_is_area e.start e.end (point_at e.end) ∙ area_at_second (point_at e.start) (point_at e.end)))

-- whether two edges are on one line is the same whichever comes first
pub one_line_turned : (e f : Edge) → (e.start ≡ e.end → ⊥) → (f.start ≡ f.end → ⊥) → on_one_line e f ≡ on_one_line f e
one_line_turned e f we wf = both_ways (on_one_line e f) (on_one_line f e) (λ h. lines_are_one e f e we h (its_own_line e)) (λ h. lines_are_one f e f wf h (its_own_line f))
  where
    both_ways : (a b : Bool) → (a ≡ true → b ≡ true) → (b ≡ true → a ≡ true) → a ≡ b
    both_ways a b p q = grind arith

-- ---- a cut on an edge
-- an edge holds its ends
pub end_is_on_edge : (e : Edge) (p : Point) → IsPoint p → is_end e p ≡ true → on e p ≡ true
end_is_on_edge e p hp h = go (or_cases (same_point (point_at e.start) p) (same_point (point_at e.end) p) h)
  where
    go : (same_point (point_at e.start) p ≡ true) ⊎ (same_point (point_at e.end) p ≡ true) → on e p ≡ true
    go (inl s) = start_is_on e p hp s
    go (inr s) = end_is_on e p hp s

-- where an edge ends on another, that is a cut the two have in common
pub common_at_end : (g e : Edge) (p : Point) → on g p ≡ true → on e p ≡ true → is_end e p ≡ true → is_common_cut g e p ≡ true
common_at_end g e p kg ke h = and_from (on_both g e p) (is_end g p || is_end e p || not (on_one_line g e)) (and_from (on g p) (on e p) kg ke)
    (or_left (is_end g p || is_end e p) (not (on_one_line g e)) (or_right (is_end g p) (is_end e p) h))

-- where two edges that aren't on one line share a point, that is a cut they have in common
pub common_at_crossing : (g e : Edge) (p : Point) → on g p ≡ true → on e p ≡ true → on_one_line g e ≡ false → is_common_cut g e p ≡ true
common_at_crossing g e p kg ke h = and_from (on_both g e p) (is_end g p || is_end e p || not (on_one_line g e)) (and_from (on g p) (on e p) kg ke)
    (or_right (is_end g p || is_end e p) (not (on_one_line g e)) (subst (λ (b : Bool). not b ≡ true) (sym h) refl))

-- an edge with which this one has the cut in common, or a listed position there
pub cut_on_edge : (es : List Edge) (ps : List Position) (g : Edge) → (g.start ≡ g.end → ⊥) → (p : Point) → on g p ≡ true → IsCut es ps p
    → Some_of (λ f. is_common_cut g f p ≡ true) es ⊎ Some_of (λ a. same_point (point_at a) p ≡ true) ps
cut_on_edge es ps g wide p kg (AtEnd hp e c h) = inl (record { found = e; among = among_from_contains es e c; has = common_at_end g e p kg (end_is_on_edge e p hp h) h })
cut_on_edge es ps g wide p kg (Listed hp a c h) = inr (record { found = a; among = among_from_contains ps a c; has = h })
cut_on_edge es ps g wide p kg (AtCrossing hp e f c d apart he hf) = inl (go (on_one_line g e) refl (on_one_line g f) refl)
  where
    go : (s : Bool) → on_one_line g e ≡ s → (t : Bool) → on_one_line g f ≡ t → Some_of (λ h. is_common_cut g h p ≡ true) es
    go false k t l = record { found = e; among = among_from_contains es e c; has = common_at_crossing g e p kg he k }
    go true k false l = record { found = f; among = among_from_contains es f d; has = common_at_crossing g f p kg hf l }
    go true k true l = absurd (let clash : false ≡ true = sym apart ∙ lines_are_one g e f wide k l in cc)
