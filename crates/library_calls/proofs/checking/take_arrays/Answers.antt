-- The counts are tested first, then the coordinates; what passes is kept.
use Rattle.std.proofs.Common.{◌≡◌, ◌∙◌, ap, sym, subst, Ok, Err, length, arith, rules}
use Rattle.std.proofs.lemmas.Grind.{common_steps}
use Rattle.geometry_model.specs.WellKnownText.{geometry_of}
use Rattle.wkt.specs.KeptGeometries.{IsKept}
use Rattle.wkt.specs.TextFaults.{text_fault}
use Rattle.library_calls.specs.Written.{first_past_limit, within_or, written_as}
use Rattle.library_calls.proofs.WrittenFacts.{are_few, far_refused, few_enough, many_parts, many_positions, too_many, written_is_kept}
use Rattle.library_calls.proofs.checking.take_arrays.Goals.{then-positions-gt-POSITION_LIMIT-via-then-positions-gt-POSITION_LIMIT, then-positions-gt-POSITION_LIMIT-via-else-positions-gt-POSITION_LIMIT+then-lines-gt-PART_LIMIT}
use Rattle.library_calls.proofs.checking.take_arrays.Goals as goal

pub returns-then-positions-gt-POSITION_LIMIT-clause-fault : goal.returns-then-positions-gt-POSITION_LIMIT-clause-fault
returns-then-positions-gt-POSITION_LIMIT-clause-fault c =
    let count = length c.args.positions.now in
    let parts = length c.args.lines.now in
    too_many c.args.geometry_type c.args.positions.now c.args.lines.now c.args.polygons.now c.requires
    (elim c.then-positions-gt-POSITION_LIMIT.branch [
      | then-positions-gt-POSITION_LIMIT-via-then-positions-gt-POSITION_LIMIT w ↦ many_positions count parts (omega (arith, w.if-positions-gt-POSITION_LIMIT.true))
      | then-positions-gt-POSITION_LIMIT-via-else-positions-gt-POSITION_LIMIT+then-lines-gt-PART_LIMIT w ↦ many_parts count parts (omega (arith, w.if-lines-gt-PART_LIMIT.true))
    ])

pub returns-in_err-points-clause-fault : goal.returns-in_err-points-clause-fault
returns-in_err-points-clause-fault c =
    let is : c.from_residual.result ≡ Err c.in_err-points.field-0.0 = first_of (search rules, grind (arith, common_steps)) in
    let ps = c.args.positions.now in
    let few = are_few (length ps) (length c.args.lines.now) (omega (arith, c.if-positions-gt-POSITION_LIMIT.false)) (omega (arith, c.if-lines-gt-PART_LIMIT.false)) in
    rw is
    (far_refused (text_fault c.in_err-points.field-0.0) (written_as c.args.geometry_type ps c.args.lines.now c.args.polygons.now) (first_past_limit 0 ps)
    (few_enough c.args.geometry_type ps c.args.lines.now c.args.polygons.now c.requires few) c.in_err-points.ensures.fault)

pub kept-requires : goal.kept-requires
kept-requires c =
    let lines = c.args.lines.now in
    let polygons = c.args.polygons.now in
    subst IsKept (sym (c.in_ok-shape.ensures.shape ∙ ap (λ ps. geometry_of (written_as c.args.geometry_type ps lines polygons)) c.in_ok-points.ensures.items))
    (written_is_kept c.args.geometry_type c.args.positions.now lines polygons c.requires
    (omega (arith, c.if-positions-gt-POSITION_LIMIT.false)) (omega (arith, c.if-lines-gt-PART_LIMIT.false)))

pub returns-clause-ok : goal.returns-clause-ok
returns-clause-ok c =
    let ps = c.args.positions.now in
    let lines = c.args.lines.now in
    let polygons = c.args.polygons.now in
    let few = are_few (length ps) (length lines) (omega (arith, c.if-positions-gt-POSITION_LIMIT.false)) (omega (arith, c.if-lines-gt-PART_LIMIT.false)) in
    let same : c.kept.result ≡ geometry_of (written_as c.args.geometry_type ps lines polygons) =
    c.kept.ensures ∙ (c.in_ok-shape.ensures.shape ∙ ap (λ qs. geometry_of (written_as c.args.geometry_type qs lines polygons)) c.in_ok-points.ensures.items) in
    few_enough c.args.geometry_type ps lines polygons c.requires few
    ∙ (ap (within_or (written_as c.args.geometry_type ps lines polygons)) c.in_ok-points.ensures.on_grid ∙ ap Ok (sym same))
