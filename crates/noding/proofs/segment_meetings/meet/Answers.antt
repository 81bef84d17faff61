use Rattle.std.proofs.Common.{◌≡◌, ◌&&◌, true, sym, ap, ap₂, subst, ◌∙◌, ℤ, pos, ◌<ℤ◌, int_eq, rules, arith, w64}
use borrow.Author.Differences.{ints}
use Rattle.std.proofs.lemmas.Int.{to_z-of_z}
use mir.Val.{to_z, of_z, SFits}
use Rattle.basics.proofs.Tests.{cmp_less_from, cmp_greater_from, cmp_equal_from}
use Rattle.geometry_model.specs.Points.{Position, point_at}
use Rattle.geometry_model.specs.Geometries.{Edge}
use Rattle.geometry_model.specs.Sides.{side, on_one_line}
use Rattle.noding.specs.Meetings.{IsMeeting}
use Rattle.noding.specs.declared.answers.Meet.TheVariants.{Apart}
use Rattle.noding.proofs.Crossing.{edge}
use Rattle.noding.proofs.Turned.{meeting_turned, unequal_sides, apart_parallel, numbers_within}
use Rattle.noding.proofs.NamedCuts.{named_at_crossing, no_cuts}
use Rattle.noding.proofs.Found.{names_cuts}
use Rattle.noding.proofs.segment_meetings.meet.Goals as goal

-- ---- what the cases need

-- an edge whose ends both have the side 0 is on the line
both_on : (e f : Edge) → side e.start e.end (point_at f.start) ≡ pos 0 → side e.start e.end (point_at f.end) ≡ pos 0 → on_one_line e f ≡ true
both_on e f s t = ap₂ (λ (x y : ℤ). int_eq x (pos 0) && int_eq y (pos 0)) s t

pub crossing-requires-clause-below_is : goal.crossing-requires-clause-below_is
crossing-requires-clause-below_is c = to_z-of_z w64 c.side_number-from.result (record { sfits = c.side_number-from.type_inv }) ∙ c.side_number-from.ensures.value

pub crossing-requires-clause-above_is : goal.crossing-requires-clause-above_is
crossing-requires-clause-above_is c = to_z-of_z w64 c.side_number-to.result (record { sfits = c.side_number-to.type_inv }) ∙ c.side_number-to.ensures.value

pub crossing-requires-clause-differ : goal.crossing-requires-clause-differ
crossing-requires-clause-differ c = cmp_less_from _ _ (sym c.cmp.ensures ∙ c.in-Less.is)

pub crossing-requires-in-Greater-clause-below_is : goal.crossing-requires-in-Greater-clause-below_is
crossing-requires-in-Greater-clause-below_is c = to_z-of_z w64 c.side_number-to.result (record { sfits = c.side_number-to.type_inv }) ∙ c.side_number-to.ensures.value

pub crossing-requires-in-Greater-clause-above_is : goal.crossing-requires-in-Greater-clause-above_is
crossing-requires-in-Greater-clause-above_is c = to_z-of_z w64 c.side_number-from.result (record { sfits = c.side_number-from.type_inv }) ∙ c.side_number-from.ensures.value

pub crossing-requires-in-Greater-clause-differ : goal.crossing-requires-in-Greater-clause-differ
crossing-requires-in-Greater-clause-differ c = cmp_greater_from _ _ (sym c.cmp.ensures ∙ c.in-Greater.is)

pub common_stretch-requires : goal.common_stretch-requires
common_stretch-requires c =
    let e : Edge = c.args.first.now in
    let f : Edge = c.args.second.now in
    let from : SFits w64 c.side_number-from.result = record { sfits = c.side_number-from.type_inv } in
    let to : SFits w64 c.side_number-to.result = record { sfits = c.side_number-to.type_inv } in
    let from_is : c.side_number-from.result ≡ side e.start e.end (point_at f.start) = c.side_number-from.ensures.value ∙ ap (λ (a : Position). side e.start e.end (point_at a)) c.start-start.ensures in
    let to_is : c.side_number-to.result ≡ side e.start e.end (point_at f.end) = c.side_number-to.ensures.value ∙ ap (λ (a : Position). side e.start e.end (point_at a)) c.end-end.ensures.value in
    let same : to_z w64 (of_z w64 c.side_number-from.result) ≡ to_z w64 (of_z w64 c.side_number-to.result) = cmp_equal_from _ _ (sym c.cmp.ensures ∙ c.in-Equal.is) in
    let zero : of_z w64 c.side_number-from.result ≡ 0 = cc in
    let none : to_z w64 (of_z w64 c.side_number-from.result) ≡ pos 0 = ap (to_z w64) zero in
    record { one_line = both_on e f (sym from_is ∙ sym (to_z-of_z w64 c.side_number-from.result from) ∙ none) (sym to_is ∙ sym (to_z-of_z w64 c.side_number-to.result to) ∙ sym same ∙ none) }

pub crossing-requires-clause-limit : goal.crossing-requires-clause-limit
crossing-requires-clause-limit c =
    let from : SFits w64 c.side_number-from.result = record { sfits = c.side_number-from.type_inv } in
    let to : SFits w64 c.side_number-to.result = record { sfits = c.side_number-to.type_inv } in
    numbers_within c.args.first.now.start c.args.first.now.end c.start-start.result c.end-end.result _ _
    (to_z-of_z w64 c.side_number-from.result from ∙ c.side_number-from.ensures.value) (to_z-of_z w64 c.side_number-to.result to ∙ c.side_number-to.ensures.value)
    c.side_number-from.ensures.start c.side_number-from.ensures.end c.side_number-from.ensures.position c.side_number-to.ensures.position

pub crossing-requires-in-Greater-clause-limit : goal.crossing-requires-in-Greater-clause-limit
crossing-requires-in-Greater-clause-limit c =
    let from : SFits w64 c.side_number-from.result = record { sfits = c.side_number-from.type_inv } in
    let to : SFits w64 c.side_number-to.result = record { sfits = c.side_number-to.type_inv } in
    numbers_within c.args.first.now.start c.args.first.now.end c.end-end.result c.start-start.result _ _
    (to_z-of_z w64 c.side_number-to.result to ∙ c.side_number-to.ensures.value) (to_z-of_z w64 c.side_number-from.result from ∙ c.side_number-from.ensures.value)
    c.side_number-from.ensures.start c.side_number-from.ensures.end c.side_number-to.ensures.position c.side_number-from.ensures.position

pub returns-in-Less-clause-exact : goal.returns-in-Less-clause-exact
returns-in-Less-clause-exact c = subst (λ (f : Edge). IsMeeting c.args.first.now f c.crossing.result) (ap₂ edge c.start-start.ensures c.end-end.ensures.value) c.crossing.ensures.exact

pub returns-in-Greater-clause-exact : goal.returns-in-Greater-clause-exact
returns-in-Greater-clause-exact c = subst (λ (f : Edge). IsMeeting c.args.first.now f c.crossing-in-Greater.result) (ap₂ edge c.start-start.ensures c.end-end.ensures.value)
    (meeting_turned c.args.first.now c.start-start.result c.end-end.result c.crossing-in-Greater.result c.crossing-in-Greater.ensures.exact)

pub returns-in-Equal-2-clause-exact : goal.returns-in-Equal-2-clause-exact
returns-in-Equal-2-clause-exact c =
    let e : Edge = c.args.first.now in
    let f : Edge = c.args.second.now in
    let from : SFits w64 c.side_number-from.result = record { sfits = c.side_number-from.type_inv } in
    let to : SFits w64 c.side_number-to.result = record { sfits = c.side_number-to.type_inv } in
    let from_is : c.side_number-from.result ≡ side e.start e.end (point_at f.start) = c.side_number-from.ensures.value ∙ ap (λ (a : Position). side e.start e.end (point_at a)) c.start-start.ensures in
    let to_is : c.side_number-to.result ≡ side e.start e.end (point_at f.end) = c.side_number-to.ensures.value ∙ ap (λ (a : Position). side e.start e.end (point_at a)) c.end-end.ensures.value in
    let same : to_z w64 (of_z w64 c.side_number-from.result) ≡ to_z w64 (of_z w64 c.side_number-to.result) = cmp_equal_from _ _ (sym c.cmp.ensures ∙ c.in-Equal-2.is) in
    apart_parallel e f (sym (to_z-of_z w64 c.side_number-from.result from ∙ from_is) ∙ same ∙ to_z-of_z w64 c.side_number-to.result to ∙ to_is)
    (λ z. c.if-from-eq0.false (ap (of_z w64) (from_is ∙ z)))

-- ---- the points named are cuts

-- ---- the points named keep the limit and are in least form

pub returns-in-Less-clause-limit : goal.returns-in-Less-clause-limit
returns-in-Less-clause-limit c = c.crossing.ensures.limit

pub returns-in-Less-clause-least : goal.returns-in-Less-clause-least
returns-in-Less-clause-least c = c.crossing.ensures.least

pub returns-in-Greater-clause-limit : goal.returns-in-Greater-clause-limit
returns-in-Greater-clause-limit c = c.crossing-in-Greater.ensures.limit

pub returns-in-Greater-clause-least : goal.returns-in-Greater-clause-least
returns-in-Greater-clause-least c = c.crossing-in-Greater.ensures.least

pub returns-in-Equal-clause-limit : goal.returns-in-Equal-clause-limit
returns-in-Equal-clause-limit c = c.common_stretch.ensures.limit

pub returns-in-Equal-clause-least : goal.returns-in-Equal-clause-least
returns-in-Equal-clause-least c = c.common_stretch.ensures.least

-- sides whose numbers differ differ
differ : (s t s' t' : ℤ) → s ≡ s' → t ≡ t' → s <ℤ t → s' ≡ t' → ⊥
differ s t s' t' e f h k = omega (arith, ints)

pub returns-in-Less-clause-cuts : goal.returns-in-Less-clause-cuts
returns-in-Less-clause-cuts c =
    let e : Edge = c.args.first.now in
    let f : Edge = c.args.second.now in
    let from : SFits w64 c.side_number-from.result = record { sfits = c.side_number-from.type_inv } in
    let to : SFits w64 c.side_number-to.result = record { sfits = c.side_number-to.type_inv } in
    let from_is : c.side_number-from.result ≡ side e.start e.end (point_at f.start) = c.side_number-from.ensures.value ∙ ap (λ (a : Position). side e.start e.end (point_at a)) c.start-start.ensures in
    let to_is : c.side_number-to.result ≡ side e.start e.end (point_at f.end) = c.side_number-to.ensures.value ∙ ap (λ (a : Position). side e.start e.end (point_at a)) c.end-end.ensures.value in
    named_at_crossing e f
    (unequal_sides e f (differ _ _ _ _ (to_z-of_z w64 c.side_number-from.result from ∙ from_is) (to_z-of_z w64 c.side_number-to.result to ∙ to_is) (cmp_less_from _ _ (sym c.cmp.ensures ∙ c.in-Less.is))))
    c.crossing.result (returns-in-Less-clause-exact c) c.crossing.ensures.points

pub returns-in-Greater-clause-cuts : goal.returns-in-Greater-clause-cuts
returns-in-Greater-clause-cuts c =
    let e : Edge = c.args.first.now in
    let f : Edge = c.args.second.now in
    let from : SFits w64 c.side_number-from.result = record { sfits = c.side_number-from.type_inv } in
    let to : SFits w64 c.side_number-to.result = record { sfits = c.side_number-to.type_inv } in
    let from_is : c.side_number-from.result ≡ side e.start e.end (point_at f.start) = c.side_number-from.ensures.value ∙ ap (λ (a : Position). side e.start e.end (point_at a)) c.start-start.ensures in
    let to_is : c.side_number-to.result ≡ side e.start e.end (point_at f.end) = c.side_number-to.ensures.value ∙ ap (λ (a : Position). side e.start e.end (point_at a)) c.end-end.ensures.value in
    named_at_crossing e f
    (unequal_sides e f (λ k. differ _ _ _ _ (to_z-of_z w64 c.side_number-to.result to ∙ to_is) (to_z-of_z w64 c.side_number-from.result from ∙ from_is) (cmp_greater_from _ _ (sym c.cmp.ensures ∙ c.in-Greater.is)) (sym k)))
    c.crossing-in-Greater.result (returns-in-Greater-clause-exact c) c.crossing-in-Greater.ensures.points

-- ---- and all common cuts are named

pub returns-in-Less-clause-found : goal.returns-in-Less-clause-found
returns-in-Less-clause-found c = names_cuts c.args.first.now c.args.second.now c.side_number-from.ensures.differ c.end-end.ensures.differ c.crossing.result (returns-in-Less-clause-exact c) (returns-in-Less-clause-cuts c)

pub returns-in-Greater-clause-found : goal.returns-in-Greater-clause-found
returns-in-Greater-clause-found c = names_cuts c.args.first.now c.args.second.now c.side_number-from.ensures.differ c.end-end.ensures.differ c.crossing-in-Greater.result (returns-in-Greater-clause-exact c) (returns-in-Greater-clause-cuts c)

pub returns-in-Equal-clause-found : goal.returns-in-Equal-clause-found
returns-in-Equal-clause-found c = names_cuts c.args.first.now c.args.second.now c.side_number-from.ensures.differ c.end-end.ensures.differ c.common_stretch.result c.common_stretch.ensures.exact c.common_stretch.ensures.cuts

pub returns-in-Equal-2-clause-found : goal.returns-in-Equal-2-clause-found
returns-in-Equal-2-clause-found c = names_cuts c.args.first.now c.args.second.now c.side_number-from.ensures.differ c.end-end.ensures.differ Apart (returns-in-Equal-2-clause-exact c) (no_cuts c.args.first.now c.args.second.now)

pub returns-in-Equal-clause-exact : goal.returns-in-Equal-clause-exact
returns-in-Equal-clause-exact c = c.common_stretch.ensures.exact

pub returns-in-Equal-clause-cuts : goal.returns-in-Equal-clause-cuts
returns-in-Equal-clause-cuts c = c.common_stretch.ensures.cuts

pub returns-in-Equal-2-clause-cuts : goal.returns-in-Equal-2-clause-cuts
returns-in-Equal-2-clause-cuts c = no_cuts c.args.first.now c.args.second.now

pub returns-in-Equal-2-clause-limit : goal.returns-in-Equal-2-clause-limit
returns-in-Equal-2-clause-limit c = search rules

pub returns-in-Equal-2-clause-least : goal.returns-in-Equal-2-clause-least
returns-in-Equal-2-clause-least c = search rules
