use Rattle.std.proofs.Common.{◌≡◌, ◌∙◌, ◌∷◌, [], Some, ap, arith, length, map, subst, take}
use Rattle.std.proofs.Math.Seq.{take-length}
use Rattle.table_model.specs.declared.plans.AccessMethod.TheVariants as methods
use Rattle.planner.proofs.Taken.{one_taken}
use Rattle.planner.specs.Nestings.{Takes}
use Rattle.planner.proofs.least.take_pairs.Goals as goal

pub loop-inner-preserved : goal.loop-inner-preserved
loop-inner-preserved c =
    one_taken c.args.rows.now (λ inner. c.args.outer ∷ inner ∷ []) c.args.inners.now c.loop-inner.inner-index (record {
      reference
          = 0;
      method = methods.Scan;
    })
    c.args.least.now c.loop-inner.least (Some c.cheaper.result)
    c.loop-inner-test.true c.loop-inner.invariant c.cheaper.ensures

pub returns : goal.returns
returns c =
    let all : c.loop-inner.inner-index ≡ length c.args.inners.now = omega (arith, c.loop-inner-test.false, c.loop-inner.auto) in
    subst (λ xs. Takes c.args.rows.now c.args.least.now c.loop-inner.least (map (λ inner. c.args.outer ∷ inner ∷ []) xs)) (ap (λ
    n. take n c.args.inners.now) all ∙ take-length c.args.inners.now) c.loop-inner.invariant
