use Rattle.std.proofs.Common.{sym}
use Rattle.library_calls.proofs.PointFacts.{held_by_numbers}
use Rattle.library_calls.proofs.point_relations.holds_at.Goals as goal

pub returns-clause-held : goal.returns-clause-held
returns-clause-held c = held_by_numbers c.args.relation c.args.place c.in_ok-relation_of.field-0 c.in_ok-location_numbered.field-0
    c.holds_in.result (sym c.in_ok-relation_of.ensures) c.in_ok-location_numbered.ensures.number c.holds_in.ensures.held
