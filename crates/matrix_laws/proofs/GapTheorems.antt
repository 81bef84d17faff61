-- The laws of gaps, each under the name of its statement.
use Rattle.matrix_laws.specs.GapLaws.{GapHasMediant, GapHasNoCut, GapIsAlike, GapEndIsAlike, MostlyIsLocated, NoCutIsMostly, OwnEdgesAreMostly, OffEdgesIsNoBoundary, SidesOffEdges, SidesOfNoArea, SidesOfOwnEdge, SidesWithinOwnEdge, SidesAlongOwnEdge, SharedPointSharesGap, SharedGapHoldsEnds}
use Rattle.matrix_laws.proofs.Shared as shared
use Rattle.matrix_laws.proofs.Mostly as placing
use Rattle.matrix_laws.proofs.Alike as alike
use Rattle.matrix_laws.proofs.OwnSides as own_sides

-- a gap has its mediant strictly between its ends
pub gap_has_mediant : GapHasMediant
gap_has_mediant = shared.gap_has_mediant

-- and a point that is no cut
pub gap_has_no_cut : GapHasNoCut
gap_has_no_cut = shared.gap_has_no_cut

-- its points mostly lie alike
pub gap_is_alike : GapIsAlike
gap_is_alike = alike.gap_is_alike

-- and so does an end that no edge holds
pub gap_end_is_alike : GapEndIsAlike
gap_end_is_alike = alike.gap_end_is_alike

-- only odd ends and listed positions don't lie where almost all points do
pub mostly_is_located : MostlyIsLocated
mostly_is_located = placing.mostly_is_located

-- a point that is no cut is there
pub no_cut_is_mostly : NoCutIsMostly
no_cut_is_mostly = placing.no_cut_is_mostly

-- on its own edges a geometry is mostly interior or boundary, by its kind
pub own_edges_are_mostly : OwnEdgesAreMostly
own_edges_are_mostly = placing.own_edges_are_mostly

-- off its edges it is mostly interior, where it is an area, or exterior
pub off_edges_is_no_boundary : OffEdgesIsNoBoundary
off_edges_is_no_boundary = placing.off_edges_is_no_boundary

-- and so are both sides there
pub sides_off_edges : SidesOffEdges
sides_off_edges = placing.sides_off_edges

-- the sides of what is no area are exterior
pub sides_of_no_area : SidesOfNoArea
sides_of_no_area = placing.sides_of_no_area

-- an area's edge parts interior and exterior at each point that is no cut
pub sides_of_own_edge : SidesOfOwnEdge
sides_of_own_edge = own_sides.sides_of_own_edge

-- and at each point between two others of the edge
pub sides_within_own_edge : SidesWithinOwnEdge
sides_within_own_edge = own_sides.sides_within_own_edge

-- with the same side interior all along
pub sides_along_own_edge : SidesAlongOwnEdge
sides_along_own_edge = own_sides.sides_along_own_edge

-- an edge that holds one point of a gap holds all
pub shared_point_shares_gap : SharedPointSharesGap
shared_point_shares_gap = shared.shared_point_shares_gap

-- and its ends too
pub shared_gap_holds_ends : SharedGapHoldsEnds
shared_gap_holds_ends = shared.shared_gap_holds_ends
