use Rattle.std.proofs.Common.{ap, ap₂, ◌∙◌, map}
use Rattle.rtree.specs.Found.{meeting_places}
use Rattle.validity.specs.Rays.{ray}
use Rattle.validity.proofs.Rays.{faced_found}
use Rattle.validity.proofs.first_positions.FirstPositions.may_one_faced_be_inside.Goals as goal

pub returns : goal.returns
returns c none =
    let all = c.as_slice.ensures.value ∙ c.in_ok-search.ensures.exact
    ∙ ap₂ meeting_places (c.self.invariant ∙ ap (λ v. map (ray v.0) v.1) c.self.view_is) c.envelope_of.ensures.value in
    faced_found c.args.self.now.0 c.args.edge.now c.args.edges.now c.args.self.now.1 c.args.own c.as_slice.result.now
    c.envelope_of.ensures.low c.envelope_of.ensures.high all (c.may_one_be_inside.ensures none)
