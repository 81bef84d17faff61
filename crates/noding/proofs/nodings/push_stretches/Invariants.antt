use Rattle.std.proofs.Common.{◌≡◌, ◌++◌, map, take}
use Rattle.geometry_model.specs.Pieces.{stretches}
use Rattle.noding.specs.Nodings.{piece_of}
use Rattle.noding.proofs.nodings.push_stretches.Given as goal

-- the stretches up to the point before this one
abbrev pub invariant-loop-place : goal.invariant-loop-place
invariant-loop-place l = map piece_of l.pieces.items ≡ map piece_of l.initial.pieces.items ++ stretches (take l.place l.breaks)
