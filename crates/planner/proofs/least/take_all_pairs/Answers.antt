use Rattle.std.proofs.Common.{◌≡◌, ◌∙◌, ◌∷◌, [], ap, arith, length, map, subst, take}
use Rattle.std.proofs.Math.Seq.{take-length}
use Rattle.table_model.specs.declared.plans.AccessMethod.TheVariants as methods
use Rattle.planner.proofs.Taken.{some_taken}
use Rattle.planner.specs.Nestings.{Takes, all_pairs}
use Rattle.planner.proofs.least.take_all_pairs.Goals as goal

pub loop-outer-preserved : goal.loop-outer-preserved
loop-outer-preserved c =
    some_taken c.args.rows.now (λ a. map (λ b. a ∷ b ∷ []) c.args.inners.now) c.args.outers.now c.loop-outer.outer-index
    (record { reference = 0; method = methods.Scan }) c.args.least.now c.loop-outer.least c.take_pairs.new.least
    c.loop-outer-test.true c.loop-outer.invariant c.take_pairs.ensures

pub returns : goal.returns
returns c =
    let all : c.loop-outer.outer-index ≡ length c.args.outers.now = omega (arith, c.loop-outer-test.false, c.loop-outer.auto) in
    subst (λ xs. Takes c.args.rows.now c.args.least.now c.loop-outer.least (all_pairs xs c.args.inners.now)) (ap (λ n. take n
    c.args.outers.now) all ∙ take-length c.args.outers.now) c.loop-outer.invariant
