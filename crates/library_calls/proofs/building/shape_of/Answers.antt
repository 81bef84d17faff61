-- The sizes use up the positions, so there are enough of them.
use Rattle.std.proofs.Common.{◌≡◌, subst, true, arith, vec_len}
use Rattle.library_calls.specs.Written.{fits}
use Rattle.library_calls.proofs.ArrayParts.{sum_used}
use Rattle.library_calls.proofs.WrittenFacts.{lines_fit, polygon_sizes}
use Rattle.library_calls.proofs.building.shape_of.Goals as goal

pub lines_of-requires-clause-enough : goal.lines_of-requires-clause-enough
lines_of-requires-clause-enough c =
    let is = subst (λ t. fits t (vec_len c.args.points) c.args.lines.now c.args.polygons.now ≡ true) c.in-MultiLineString.is c.requires.fits in
    omega (arith, sum_used c.args.lines.now (vec_len c.args.points) (lines_fit (vec_len c.args.points) c.args.lines.now c.args.polygons.now is), c.as_slice.ensures.len)

pub lines_of-requires-in-Polygon-clause-enough : goal.lines_of-requires-in-Polygon-clause-enough
lines_of-requires-in-Polygon-clause-enough c =
    let is = subst (λ t. fits t (vec_len c.args.points) c.args.lines.now c.args.polygons.now ≡ true) c.in-Polygon.is c.requires.fits in
    omega (arith, sum_used c.args.lines.now (vec_len c.args.points) (lines_fit (vec_len c.args.points) c.args.lines.now c.args.polygons.now is), c.as_slice-in-Polygon.ensures.len)

pub polygons_of-requires-clause-rings : goal.polygons_of-requires-clause-rings
polygons_of-requires-clause-rings c =
    let is = subst (λ t. fits t (vec_len c.args.points) c.args.lines.now c.args.polygons.now ≡ true) c.in-MultiPolygon.is c.requires.fits in
    omega (arith, (polygon_sizes (vec_len c.args.points) c.args.lines.now c.args.polygons.now is).1)

pub polygons_of-requires-clause-enough : goal.polygons_of-requires-clause-enough
polygons_of-requires-clause-enough c =
    let is = subst (λ t. fits t (vec_len c.args.points) c.args.lines.now c.args.polygons.now ≡ true) c.in-MultiPolygon.is c.requires.fits in
    omega (arith, (polygon_sizes (vec_len c.args.points) c.args.lines.now c.args.polygons.now is).0, c.as_slice-in-MultiPolygon.ensures.len)
