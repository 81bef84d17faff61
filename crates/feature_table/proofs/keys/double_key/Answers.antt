use Rattle.std.proofs.Common.{arith, get_or, pos, rules, sym}
use mir.Facts.{to_z-of_z}
use Rattle.std.proofs.lemmas.List.{get_or_default}
use Rattle.std.specs.BTreeSet.{contains}
use Rattle.std.specs.Int.{w64}
use Rattle.std.specs.Ordering.{int_cmp}
use Rattle.std.specs.Prelude.{FitsSigned}
use Rattle.feature_table.proofs.KeyLemmas.{not_false, not_true, searched_end, searched_here, searched_more, searched_start}
use Rattle.feature_table.proofs.keys.double_key.Goals as goal

pub loop-place-init : goal.loop-place-init
loop-place-init c = searched_start _ _ c.new-seen.ensures.empty

pub returns-then-not-is_new : goal.returns-then-not-is_new
returns-then-not-is_new c =
    let keys = c.args.keys.now in
    let k = get_or keys c.loop-place.place (pos 0) in
    let fits : FitsSigned w64 k = search rules in
    let back = to_z-of_z fits in
    let there = not_false (contains int_cmp c.loop-place.seen k) c.in_ok-is_new.is_new (rw back at c.in_ok-is_new.ensures.added) c.if-not-is_new.true in
    sym (searched_here c.loop-place.seen keys c.loop-place.place k c.loop-place-test.true (get_or_default keys c.loop-place.place (pos 0) k c.loop-place-test.true) c.loop-place.invariant there)

pub loop-place-preserved : goal.loop-place-preserved
loop-place-preserved c =
    let keys = c.args.keys.now in
    let k = get_or keys c.loop-place.place (pos 0) in
    let fits : FitsSigned w64 k = search rules in
    let back = to_z-of_z fits in
    let there = not_true (contains int_cmp c.loop-place.seen k) c.in_ok-is_new.is_new (rw back at c.in_ok-is_new.ensures.added) c.if-not-is_new.false in
    searched_more c.loop-place.seen c.insert.new.self keys c.loop-place.place k c.loop-place-test.true (get_or_default keys c.loop-place.place (pos 0) k c.loop-place-test.true) c.loop-place.invariant there (rw back at c.in_ok-is_new.ensures.updates)

pub returns : goal.returns
returns c = sym (searched_end c.loop-place.seen c.args.keys.now c.loop-place.place (omega arith) c.loop-place.invariant)
