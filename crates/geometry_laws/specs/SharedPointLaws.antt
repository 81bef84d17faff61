-- Laws of the points that two edges share.
use Rattle.std.specs.Prelude.{◌≡◌, ◌↔◌, true, ◌⊎◌}
use Rattle.geometry_model.specs.Points.{Position}
use Rattle.geometry_model.specs.Geometries.{Edge}
use Rattle.geometry_model.specs.Validity.{SharePoint, ShareOther}
use Rattle.geometry_model.specs.FirstFaults.{share_point, share_other}

-- `share_point` says whether some rational point is on both edges
abbrev pub SharedPointIsDecided : Type 0
SharedPointIsDecided = (e f : Edge) → (share_point e f ≡ true) ↔ SharePoint e f

-- the position is an end of the edge (06-103r4, 6.1.6.1)
abbrev pub IsEnd : Position → Edge → Type 0
IsEnd p e = (e.start ≡ p) ⊎ (e.end ≡ p)

-- `share_other` says of two edges with a common end whether some other rational point is on both
abbrev pub OtherPointIsDecided : Type 0
OtherPointIsDecided = (shared_end : Position) (e f : Edge) → IsEnd shared_end e → IsEnd shared_end f → (share_other shared_end e f ≡ true) ↔ ShareOther shared_end e f
