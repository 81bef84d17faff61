use Rattle.std.proofs.lemmas.Int.{to_z-of_z}
use Rattle.noding.proofs.MeetBounds.{sum_fits}
use Rattle.noding.proofs.crossing_products.weighted_sum.Goals as goal

pub overflow_add-result : goal.overflow_add-result
overflow_add-result c =
    let f = sum_fits c.args.m c.args.a c.args.n c.args.b c.requires.first_weight c.requires.second_weight c.requires.limit c.requires.first c.requires.second in
    let m_is = simp (to_z-of_z, c.ranges.m) at c.from.ensures in
    let a_is = simp (to_z-of_z, c.ranges.a) at c.from-2.ensures in
    let n_is = simp (to_z-of_z, c.ranges.n) at c.from-3.ensures in
    let b_is = simp (to_z-of_z, c.ranges.b) at c.from-4.ensures in
    rw (m_is, a_is, n_is, b_is) (simp (to_z-of_z, f.first_weight, f.second_weight, f.one, f.other, f.first, f.second) f.sum)

pub returns-clause-value : goal.returns-clause-value
returns-clause-value c =
    let f = sum_fits c.args.m c.args.a c.args.n c.args.b c.requires.first_weight c.requires.second_weight c.requires.limit c.requires.first c.requires.second in
    let m_is = simp (to_z-of_z, c.ranges.m) at c.from.ensures in
    let a_is = simp (to_z-of_z, c.ranges.a) at c.from-2.ensures in
    let n_is = simp (to_z-of_z, c.ranges.n) at c.from-3.ensures in
    let b_is = simp (to_z-of_z, c.ranges.b) at c.from-4.ensures in
    rw (m_is, a_is, n_is, b_is) (simp (to_z-of_z, f.first_weight, f.second_weight, f.one, f.other, f.first, f.second, f.sum))

pub returns-clause-bound : goal.returns-clause-bound
returns-clause-bound c =
    let f = sum_fits c.args.m c.args.a c.args.n c.args.b c.requires.first_weight c.requires.second_weight c.requires.limit c.requires.first c.requires.second in
    let m_is = simp (to_z-of_z, c.ranges.m) at c.from.ensures in
    let a_is = simp (to_z-of_z, c.ranges.a) at c.from-2.ensures in
    let n_is = simp (to_z-of_z, c.ranges.n) at c.from-3.ensures in
    let b_is = simp (to_z-of_z, c.ranges.b) at c.from-4.ensures in
    rw (m_is, a_is, n_is, b_is) (simp (to_z-of_z, f.first_weight, f.second_weight, f.one, f.other, f.first, f.second, f.sum) f.bound)
