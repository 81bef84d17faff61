-- None of the edges before this one passes.
use Rattle.std.proofs.Common.{◌≡◌, drop}
use Rattle.std.specs.List.{list_any}
use Rattle.edge_boxes.proofs.edge_tests.is_any.Given as goal

abbrev pub invariant-loop-edge : goal.invariant-loop-edge
invariant-loop-edge g l = list_any (g.T.EdgeTest.test l.test) l.edges ≡ list_any (g.T.EdgeTest.test l.test) (drop l.edge-index l.edges)
