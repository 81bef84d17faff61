use Rattle.std.proofs.Common.{rules, ◌≡◌, ◌∙◌, ◌/◌, ◌<◌, ◌≤◌, ◌<ℤ◌, ◌≤ℤ◌, length, subst, sym, arith, MatchOption, take, drop}
use Rattle.std.specs.Prelude.{int_le, int_lt}
use Rattle.std.specs.Int.{w32}
use mir.Val.{SFits, to_z, of_z}
use Rattle.std.proofs.lemmas.Int.{to_z-of_z}
use Rattle.std.proofs.lemmas.Fn.{always_returns_same}
use Rattle.std.proofs.lemmas.List.Sorted.{IsPartitionPoint-from_clause}
use Rattle.geometry_model.specs.Points.{Position}
use Rattle.tiles.specs.Cuts.{HasBothSides, HasOneCoordinate, IsMedian}
use Rattle.tiles.specs.Lines.{coordinate}
use Rattle.tiles.specs.declared.lines.Line.{Line}
use Rattle.tiles.proofs.Medians.{Ascend, ascends, less_first, most_first, median_at, next_at, all_at, none_at, some_less, with_sides}
use Rattle.tiles.proofs.lines.median_line.Goals as goal

pub returns-in_err-first-clause-median : goal.returns-in_err-first-clause-median
returns-in_err-first-clause-median c =
    let ps = c.sort_unstable_by_key.new.self in
    let none : length ps ≤ 0 = omega (arith, c.in_err-first.ensures.item.3) in
    subst (λ r. MatchOption r (HasOneCoordinate c.args.axis ps) (λ cut. IsMedian cut.0 (take cut.1 ps) (drop cut.1 ps) × HasBothSides cut.0 ps)) (sym c.from_residual.ensures) (none_at c.args.axis ps none)

pub returns-in_err-get-clause-median : goal.returns-in_err-get-clause-median
returns-in_err-get-clause-median c =
    let ps = c.sort_unstable_by_key.new.self in
    let none : length ps ≤ 0 = omega (arith, c.in_err-get.ensures.lookup.3) in
    subst (λ r. MatchOption r (HasOneCoordinate c.args.axis ps) (λ cut. IsMedian cut.0 (take cut.1 ps) (drop cut.1 ps) × HasBothSides cut.0 ps)) (sym c.from_residual-in_err-get.ensures) (none_at c.args.axis ps none)

pub returns-then-least-median-clause-median : goal.returns-then-least-median-clause-median
returns-then-least-median-clause-median c =
    let ps = c.sort_unstable_by_key.new.self in
    let axis = c.args.axis in
    let o = c.in_ok-first.field-0.now in
    let p = c.in_ok-get.field-0.now in
    let median = c.of-median.result in
    let up : Ascend axis ps = ascends axis ps (c.sort_unstable_by_key.ensures.sorted (coordinate axis) (always_returns_same _ _ _ (λ a r q k. search rules))) in
    let fits : SFits w32 median = search rules in
    let same : to_z w32 (of_z w32 median) ≡ median = to_z-of_z w32 median fits in
    let line : Line = record { axis = axis; at = to_z w32 (of_z w32 median) } in
    let at : line.at ≡ coordinate axis p = same ∙ c.of-median.ensures.value in
    let low : c.of-least.result <ℤ median = search rules in
    let less : coordinate axis o <ℤ line.at = subst (λ z. z <ℤ line.at) c.of-least.ensures.value (subst (λ z. c.of-least.result <ℤ z) (sym same) low) in
    let part = IsPartitionPoint-from_clause (λ (q : Position). int_lt (coordinate axis q) line.at) _ _ c.partition_point-before.ensures.partitioned (less_first axis ps line.at up) (λ a r q k. search rules) in
    let some : 0 < c.partition_point-before.result = some_less axis ps c.partition_point-before.result o line.at (omega (arith, c.in_ok-get.ensures.lookup.3.0)) (sym c.in_ok-first.ensures.item.1) less part in
    with_sides line ps c.partition_point-before.result (length ps / 2) o p (sym c.in_ok-first.ensures.item.1) c.of-least.ensures.on_grid c.in_ok-get.ensures.lookup.3.0 (sym c.in_ok-get.ensures.lookup.1) c.of-median.ensures.on_grid at
    (median_at line ps (length ps / 2) c.partition_point-before.result p up c.in_ok-get.ensures.lookup.3.0 (omega arith) (omega arith)
    (sym c.in_ok-get.ensures.lookup.1) at c.partition_point-before.ensures.bound part some)

pub returns-in_err-get-2-clause-median : goal.returns-in_err-get-2-clause-median
returns-in_err-get-2-clause-median c =
    let ps = c.sort_unstable_by_key.new.self in
    let axis = c.args.axis in
    let o = c.in_ok-first.field-0.now in
    let p = c.in_ok-get.field-0.now in
    let up : Ascend axis ps = ascends axis ps (c.sort_unstable_by_key.ensures.sorted (coordinate axis) (always_returns_same _ _ _ (λ a r q k. search rules))) in
    let low : c.of-median.result ≤ℤ c.of-least.result = search rules in
    let least : coordinate axis p ≤ℤ coordinate axis o = subst (λ z. coordinate axis p ≤ℤ z) c.of-least.ensures.value (subst (λ z. z ≤ℤ c.of-least.result) c.of-median.ensures.value low) in
    let part = IsPartitionPoint-from_clause (λ (q : Position). int_le (coordinate axis q) (coordinate axis p)) _ _ c.partition_point-before-2.ensures.partitioned (most_first axis ps (coordinate axis p) up) (λ a r q k. search rules) in
    subst (λ r. MatchOption r (HasOneCoordinate axis ps) (λ cut. IsMedian cut.0 (take cut.1 ps) (drop cut.1 ps) × HasBothSides cut.0 ps)) (sym c.from_residual-in_err-get-2.ensures)
    (all_at axis ps c.partition_point-before-2.result o p up (sym c.in_ok-first.ensures.item.1) least c.in_err-get-2.ensures.lookup.3 part)

pub returns-clause-median : goal.returns-clause-median
returns-clause-median c =
    let ps = c.sort_unstable_by_key.new.self in
    let axis = c.args.axis in
    let o = c.in_ok-first.field-0.now in
    let p = c.in_ok-get.field-0.now in
    let q = c.in_ok-get-2.field-0.now in
    let up : Ascend axis ps = ascends axis ps (c.sort_unstable_by_key.ensures.sorted (coordinate axis) (always_returns_same _ _ _ (λ a r q k. search rules))) in
    let low : c.of-median.result ≤ℤ c.of-least.result = search rules in
    let least : coordinate axis p ≤ℤ coordinate axis o = subst (λ z. coordinate axis p ≤ℤ z) c.of-least.ensures.value (subst (λ z. z ≤ℤ c.of-least.result) c.of-median.ensures.value low) in
    let part = IsPartitionPoint-from_clause (λ (q : Position). int_le (coordinate axis q) (coordinate axis p)) _ _ c.partition_point-before-2.ensures.partitioned (most_first axis ps (coordinate axis p) up) (λ a r q k. search rules) in
    let fits : SFits w32 c.of-at.result = search rules in
    let line : Line = record { axis = axis; at = to_z w32 (of_z w32 c.of-at.result) } in
    let at : line.at ≡ coordinate axis q = to_z-of_z w32 c.of-at.result fits ∙ c.of-at.ensures.value in
    with_sides line ps c.partition_point-before-2.result c.partition_point-before-2.result o q (sym c.in_ok-first.ensures.item.1) c.of-least.ensures.on_grid c.in_ok-get-2.ensures.lookup.3.0 (sym c.in_ok-get-2.ensures.lookup.1) c.of-at.ensures.on_grid at
    (next_at line ps (length ps / 2) c.partition_point-before-2.result o p q up c.in_ok-get.ensures.lookup.3.0 (omega arith)
    (sym c.in_ok-first.ensures.item.1) least (sym c.in_ok-get.ensures.lookup.1) c.in_ok-get-2.ensures.lookup.3.0 (sym c.in_ok-get-2.ensures.lookup.1) at part)
