use Rattle.std.proofs.Common.{◌≡◌, ◌≤◌}
use Rattle.geometry_model.specs.Geometries.{elements}
use Rattle.witnesses.proofs.RingNumbers.{count_before, NotBefore}
use Rattle.witnesses.proofs.numbers.numbers_around.Given as goal

-- the number is no ring's of a polygon before this one
abbrev pub invariant-loop-element : goal.invariant-loop-element
invariant-loop-element l = record { starts : l.first ≡ count_before (elements l.geometry) l.element; low : l.first ≤ l.number; before : NotBefore l.geometry l.number l.element }
