use Rattle.std.proofs.Common.{◌≡◌, ◌∙◌, ◌∷◌, [], Some, ap, arith, length, map, subst, take}
use Rattle.std.proofs.Math.Seq.{take-length}
use Rattle.table_model.specs.declared.plans.AccessMethod.TheVariants as methods
use Rattle.planner.proofs.Taken.{one_taken}
use Rattle.planner.specs.Nestings.{Takes}
use Rattle.planner.proofs.least.take_singles.Goals as goal

pub loop-access-preserved : goal.loop-access-preserved
loop-access-preserved c =
    one_taken c.args.rows.now (λ a. a ∷ []) c.args.accesses.now c.loop-access.access-index (record {
      reference = 0;
      method =
          methods.Scan;
    }) c.args.least.now
    c.loop-access.least (Some c.cheaper.result)
    c.loop-access-test.true c.loop-access.invariant c.cheaper.ensures

pub returns : goal.returns
returns c =
    let all : c.loop-access.access-index ≡ length c.args.accesses.now = omega (
      arith,
      c.loop-access-test.false,
      c.loop-access.auto,
    ) in
    subst (λ xs. Takes c.args.rows.now c.args.least.now c.loop-access.least (map (λ a. a ∷ []) xs)) (ap (λ n. take n
    c.args.accesses.now) all ∙ take-length c.args.accesses.now) c.loop-access.invariant
