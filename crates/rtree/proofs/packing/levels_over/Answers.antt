use Rattle.std.proofs.Common.{◌≡◌, ◌∙◌, ◌<◌, ◌≤◌, ◌++◌, ◌∷◌, [], Some, ap, length, map, subst, sym, arith}
use Rattle.std.specs.Vec.{vec_items}
use Rattle.std.proofs.lemmas.List.{map-append}
use Rattle.rtree.specs.Joins.{joined_all}
use Rattle.rtree.specs.Packing.{eights}
use Rattle.rtree.specs.Trees.{KeepPacking}
use Rattle.rtree.proofs.GroupLemmas.{IsRising, fewer, rising_end, rising_more, rising_start}
use Rattle.rtree.proofs.packing.levels_over.Goals as goal

pub rising-init : goal.rising-init
rising-init c entries h =
    let first = ap (map vec_items) (c.in_ok-push.ensures.items ∙ ap (λ l. l ++ c.args.lowest ∷ []) c.new-levels.ensures.items) in
    let over : map Some c.in_ok-level.level.items ≡ map joined_all (eights c.args.lowest.items) = c.in_ok-level.ensures ∙ ap (λ l. map joined_all (eights l)) c.as_slice.ensures.value in
    subst (λ levels. IsRising entries levels c.in_ok-level.level.items) (sym first) (rising_start entries c.args.lowest.items c.in_ok-level.level.items h over)

pub rising-smaller : goal.rising-smaller
rising-smaller c =
    let several : 1 < length c.rising.level.items = omega arith in
    let over : map Some c.in_ok-next.next.items ≡ map joined_all (eights c.rising.level.items) = c.in_ok-next.ensures ∙ ap (λ l. map joined_all (eights l)) c.as_slice-in-rising.ensures.value in
    fewer c.rising.level.items c.in_ok-next.next.items over several

pub rising-preserved : goal.rising-preserved
rising-preserved c entries h =
    let grew = ap (map vec_items) c.in_ok-push-2.ensures.items ∙ map-append vec_items c.rising.levels.items (c.rising.level ∷ []) in
    let several : 1 < length c.rising.level.items = omega arith in
    let over : map Some c.in_ok-next.next.items ≡ map joined_all (eights c.rising.level.items) = c.in_ok-next.ensures ∙ ap (λ l. map joined_all (eights l)) c.as_slice-in-rising.ensures.value in
    subst (λ levels. IsRising entries levels c.in_ok-next.next.items) (sym grew)
    (rising_more entries (map vec_items c.rising.levels.items) c.rising.level.items c.in_ok-next.next.items (c.rising.invariant entries h) several over)

pub returns : goal.returns
returns c entries h =
    let grew = ap (map vec_items) c.in_ok-push-3.ensures.items ∙ map-append vec_items c.rising.levels.items (c.rising.level ∷ []) in
    let one : length c.rising.level.items ≤ 1 = omega arith in
    subst (KeepPacking entries) (sym grew) (rising_end entries (map vec_items c.rising.levels.items) c.rising.level.items (c.rising.invariant entries h) one)
