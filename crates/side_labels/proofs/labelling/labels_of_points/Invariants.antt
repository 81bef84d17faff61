use Rattle.std.proofs.Common.{◌≡◌, map, take}
use Rattle.geometry_model.specs.Labels.{label}
use Rattle.side_labels.proofs.labelling.labels_of_points.Given as goal

-- the nodes before this one
abbrev pub invariant-loop-node : goal.invariant-loop-node
invariant-loop-node l = l.labels.items ≡ map (label l.first l.second) (take l.node-index l.nodes)
