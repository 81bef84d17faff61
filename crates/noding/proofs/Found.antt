-- A meeting names each point that both edges hold and at which one of them ends or they cross.
use Rattle.std.proofs.Common.{◌≡◌, ◌⊎◌, inl, inr, true, false, not, ◌&&◌, ◌||◌, refl, sym, subst, ◌∙◌, [], ◌∷◌, All, Any, pos, arith}
use Rattle.std.specs.Ordering.{int_eq, is_le}
use Rattle.std.proofs.lemmas.Bool.{and_parts, or_cases, not-true}
use Rattle.geometry_model.specs.Points.{Position, Point, IsPoint, point_at, same_point, compare}
use Rattle.geometry_model.specs.Geometries.{Edge}
use Rattle.geometry_model.specs.Sides.{on, on_one_line}
use Rattle.geometry_model.specs.Dimensions.{area}
use Rattle.geometry_model.specs.CutPoints.{is_end, turned_up}
use Rattle.geometry_model.specs.CutPoints.IsCut.{AtEnd, Listed, AtCrossing}
use Rattle.geometry_laws.proofs.PointOrder.{same_reflexive, same_symmetric, same_transitive}
use Rattle.geometry_laws.proofs.RingParity.{position_is_point}
use Rattle.geometry_laws.proofs.Cuts.{not_less_self}
use Rattle.matrix_laws.proofs.MatrixLists.{any_from_some}
use Rattle.matrix_laws.proofs.EdgeMeeting.{before_turning, SharesPoint, shares_point}
use Rattle.matrix_laws.proofs.CutFacts.{turned_is_point, turned_is_same}
use Rattle.noding.specs.Meetings.{on_both, IsCommonStretch, IsMeeting, named, is_common_cut, NamesCommonCuts}
use Rattle.noding.specs.declared.answers.Meet.{Meet}
use Rattle.noding.specs.declared.answers.Meet.TheVariants.{Apart, At, Along}
use Rattle.noding.proofs.Order.{NotAfter, not_after_less, not_after_same, not_after_trans, not_after_both}
use Rattle.noding.proofs.Ends.{HasEnds, has_ends, not_before_low, not_after_high}
use Rattle.noding.proofs.NamedCuts.{CutOf, stretch_has, area_at_first, area_at_second}

-- the same point as one of those named
abbrev IsNamed : Meet → Point → Type 0
IsNamed m p = Any (λ q. same_point q p ≡ true) (named m)

first_named : (q r p : Point) → same_point q p ≡ true → IsNamed (Along q r) p
first_named q r p h = any_from_some (λ s. same_point s p ≡ true) (q ∷ r ∷ []) (record { found = q; among = inl refl; has = h })

second_named : (q r p : Point) → same_point r p ≡ true → IsNamed (Along q r) p
second_named q r p h = any_from_some (λ s. same_point s p ≡ true) (q ∷ r ∷ []) (record { found = r; among = inr (inl refl); has = h })

-- two points that two edges not on one line share are one
shared_once : (e f : Edge) (q r : Point) → IsPoint q → IsPoint r → on_one_line e f ≡ false → on_both e f q ≡ true → on_both e f r ≡ true → same_point q r ≡ true
shared_once e f q r hq hr apart kq kr =
    let bq : (on e q ≡ true) × (on f q ≡ true) = and_parts (on e q) (on f q) kq in
    let br : (on e r ≡ true) × (on f r ≡ true) = and_parts (on e r) (on f r) kr in
    let sq : SharesPoint e f q = shares_point e f q hq apart bq.0 bq.1 in
    let sr : SharesPoint e f r = shares_point e f r hr apart br.0 br.1 in
    let m : Point = turned_up (before_turning e f) in
    same_transitive q m r (turned_is_point (before_turning e f) sq.w_is_not) (same_symmetric q m ∙ turned_is_same (before_turning e f) q sq.x_is sq.y_is) (turned_is_same (before_turning e f) r sr.x_is sr.y_is)

-- an end of an edge is its lesser or its greater end
pub end_of : (g : Edge) (low high : Position) → HasEnds g low high → (p : Point) → is_end g p ≡ true → (same_point (point_at low) p ≡ true) ⊎ (same_point (point_at high) p ≡ true)
end_of g low high h p k = go (or_cases (same_point (point_at g.start) p) (same_point (point_at g.end) p) k) h.are_ends
  where
    moved : (a b : Position) → b ≡ a → same_point (point_at a) p ≡ true → same_point (point_at b) p ≡ true
    moved a b e s = subst (λ (c : Position). same_point (point_at c) p ≡ true) (sym e) s

    go : (same_point (point_at g.start) p ≡ true) ⊎ (same_point (point_at g.end) p ≡ true) → ((low ≡ g.start) × (high ≡ g.end)) ⊎ ((low ≡ g.end) × (high ≡ g.start)) → (same_point (point_at low) p ≡ true) ⊎ (same_point (point_at high) p ≡ true)
    go (inl s) (inl t) = inl (moved g.start low t.0 s)
    go (inl s) (inr t) = inr (moved g.start high t.1 s)
    go (inr s) (inl t) = inr (moved g.end high t.1 s)
    go (inr s) (inr t) = inl (moved g.end low t.0 s)

-- an end of an edge that lies on a stretch of it is an end of the stretch
end_named : (g : Edge) → (g.start ≡ g.end → ⊥) → (q r p : Point) → IsPoint q → IsPoint r → IsPoint p → on g q ≡ true → on g r ≡ true → NotAfter q p → NotAfter p r → is_end g p ≡ true → IsNamed (Along q r) p
end_named g wide q r p hq hr hp kq kr past short k = go _ _ (has_ends g wide)
  where
    go : (low high : Position) → HasEnds g low high → IsNamed (Along q r) p
    go low high h = pick (end_of g low high h p k)
      where
        pick : (same_point (point_at low) p ≡ true) ⊎ (same_point (point_at high) p ≡ true) → IsNamed (Along q r) p
        pick (inl s) = first_named q r p (not_after_both q p hq hp past
            (not_after_trans p (point_at low) q hp (position_is_point low) hq (not_after_same p (point_at low) (same_symmetric p (point_at low) ∙ s)) (not_before_low g low high h q hq kq)))
        pick (inr s) = second_named q r p (not_after_both r p hr hp
            (not_after_trans r (point_at high) p hr (position_is_point high) hp (not_after_high g low high h r hr kr) (not_after_same (point_at high) p s)) short)

-- edges that share a stretch are on one line, so a cut of both is an end of one of them, and that is an end of the stretch
along_named : (e f : Edge) → (e.start ≡ e.end → ⊥) → (f.start ≡ f.end → ⊥) → (q r p : Point) → IsCommonStretch e f (record { lesser = q; greater = r }) → IsPoint q → IsPoint r → IsPoint p → on_both e f p ≡ true
    → (is_end e p || is_end f p || not (on_one_line e f)) ≡ true → IsNamed (Along q r) p
along_named e f we wf q r p h hq hr hp k marked = outer (or_cases (is_end e p || is_end f p) (not (on_one_line e f)) marked)
  where
    less : NotAfter q r
    less = not_after_less q r h.in_order

    on_q : on_both e f q ≡ true
    on_q = h.exact q hq ∙ stretch_has q r q (area_at_first q r) (not_after_same q q (same_reflexive q)) less

    on_r : on_both e f r ≡ true
    on_r = h.exact r hr ∙ stretch_has q r r (area_at_second q r) less (not_after_same r r (same_reflexive r))

    within : ((int_eq (area q r p) (pos 0) && is_le (compare q p)) ≡ true) × NotAfter p r
    within = and_parts (int_eq (area q r p) (pos 0) && is_le (compare q p)) (is_le (compare p r)) (sym (h.exact p hp) ∙ k)

    past : NotAfter q p
    past = (and_parts (int_eq (area q r p) (pos 0)) (is_le (compare q p)) within.0).1

    both_q : (on e q ≡ true) × (on f q ≡ true)
    both_q = and_parts (on e q) (on f q) on_q

    both_r : (on e r ≡ true) × (on f r ≡ true)
    both_r = and_parts (on e r) (on f r) on_r

    inner : (is_end e p ≡ true) ⊎ (is_end f p ≡ true) → IsNamed (Along q r) p
    inner (inl s) = end_named e we q r p hq hr hp both_q.0 both_r.0 past within.1 s
    inner (inr s) = end_named f wf q r p hq hr hp both_q.1 both_r.1 past within.1 s

    outer : ((is_end e p || is_end f p) ≡ true) ⊎ (not (on_one_line e f) ≡ true) → IsNamed (Along q r) p
    outer (inl s) = inner (or_cases (is_end e p) (is_end f p) s)
    outer (inr s) = absurd (not_less_self q r (shared_once e f q r hq hr (not-true (on_one_line e f) s) on_q on_r) h.in_order)

-- each kind of cut says that it is a point
cut_is_point : (e f : Edge) (p : Point) → CutOf e f p → IsPoint p
cut_is_point e f p (AtEnd hp g c h) = hp
cut_is_point e f p (Listed hp a c h) = hp
cut_is_point e f p (AtCrossing hp g h c d apart kg kh) = hp

-- each answer names all common cuts: none where nothing is shared, the one point, or the ends of the stretch
pub names_cuts : (e f : Edge) → (e.start ≡ e.end → ⊥) → (f.start ≡ f.end → ⊥) → (m : Meet) → IsMeeting e f m → All (CutOf e f) (named m) → NamesCommonCuts e f m
names_cuts e f we wf Apart h cs = λ p hp k. absurd (none p hp k)
  where
    none : (p : Point) → IsPoint p → is_common_cut e f p ≡ true → ⊥
    none p hp k = let clash : false ≡ true = sym (h p hp) ∙ (and_parts (on_both e f p) (is_end e p || is_end f p || not (on_one_line e f)) k).0 in cc
names_cuts e f we wf (At q) h cs = λ p hp k. any_from_some (λ s. same_point s p ≡ true) (q ∷ [])
    (record { found = q; among = inl refl; has = sym (h p hp) ∙ (and_parts (on_both e f p) (is_end e p || is_end f p || not (on_one_line e f)) k).0 })
names_cuts e f we wf (Along q r) h cs = λ p hp k.
    let both : (on_both e f p ≡ true) × ((is_end e p || is_end f p || not (on_one_line e f)) ≡ true) = and_parts (on_both e f p) (is_end e p || is_end f p || not (on_one_line e f)) k in
    along_named e f we wf q r p h (cut_is_point e f q (cs 0 q (omega arith))) (cut_is_point e f r (cs 1 r (omega arith))) hp both.0 both.1
