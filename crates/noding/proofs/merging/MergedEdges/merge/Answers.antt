use Rattle.noding.proofs.Held.{all_through}
use Rattle.noding.proofs.merging.MergedEdges.merge.Goals as goal

pub returns-clause-merged : goal.returns-clause-merged
returns-clause-merged c =
    c.join_neighbours.ensures.held c.args.edges.now (c.sort_by_line.ensures.held c.args.edges.now c.in_default.ensures.merged)

pub returns-clause-all : goal.returns-clause-all
returns-clause-all c =
    all_through c.join_neighbours.new.stretches.items c.push_ascending.new.stretches.items c.args.edges.now
    (all_through c.join_neighbours.new.stretches.items c.sort_by_line.new.stretches.items c.push_ascending.new.stretches.items c.join_neighbours.ensures.all c.sort_by_line.ensures.all)
    c.in_default.ensures.all
