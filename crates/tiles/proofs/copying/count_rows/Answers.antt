use Rattle.std.proofs.Common.{◌<◌, arith, get_or, length, refl, rules}
use Rattle.tiles.proofs.CopyLemmas.{can_count}
use Rattle.tiles.proofs.copying.count_rows.Goals as goal

pub overflow_add-index_mut : goal.overflow_add-index_mut
overflow_add-index_mut c =
    let numbers = c.args.numbers.now in
    let i = c.loop-number.number-index in
    let counts = c.loop-number.counts.items in
    let m = get_or numbers i 0 in
    let there : m < length counts = search rules in
    let fits = can_count counts c.args.counts.now.items numbers i m c.index_mut.result.now c.loop-number-test.true refl there c.index_mut.ensures.value c.loop-number.invariant.counted c.requires.room in
    omega (arith, fits)
