-- The laws of covering, each by its name.
use Rattle.matrix_laws.specs.CoveringLaws.{GapIsThere, GapsCover, FullCovers, FullOffCovers, HeldCovers, HeldByCovered}
use Rattle.matrix_laws.proofs.GapThere as there
use Rattle.matrix_laws.proofs.GapsCovering as covering
use Rattle.matrix_laws.proofs.FullCovering as full
use Rattle.matrix_laws.proofs.HeldCovering as held

-- what a gap shows is there
pub gap_is_there : GapIsThere
gap_is_there = there.gap_is_there

-- what shows an edge's gaps, its shared points and all ends covers the edge
pub gaps_cover : GapsCover
gaps_cover = covering.gaps_cover

-- what shows all that gaps can show covers each edge
pub full_covers : FullCovers
full_covers = full.full_covers

-- and where no stretch is shared, showing what lies off the other's edges is enough
pub full_off_covers : FullOffCovers
full_off_covers = full.full_off_covers

-- an edge that edges of b hold is covered where the matrix shows all that its gaps can show there
pub held_covers : HeldCovers
held_covers = held.held_covers

-- or where it covers the edges of b
pub held_by_covered : HeldByCovered
held_by_covered = held.held_by_covered
