use Rattle.std.proofs.Common.{Ok, ◌≡◌, ◌∙◌, ap, length, map, subst, sym}
use Rattle.std.proofs.lemmas.List.FromFn.{length-map-range_with_len}
use Rattle.std.proofs.lemmas.List.Sorted.{IsPermutation-refl}
use Rattle.std.proofs.lemmas.Result.{err_from_is_err_and}
use Rattle.std.specs.List.{range_with_len}
use Rattle.feature_table.proofs.AscentLemmas.{ascending_alone, ascending_places}
use Rattle.feature_table.proofs.PlaceOrderLemmas.{joined_rows, keyed_fault, keyed_in_order, places_within}
use Rattle.feature_table.specs.FlatRows.{row_at}
use Rattle.table_model.specs.Loading.{keyed_rows}
use Rattle.feature_table.proofs.keys.rows_by_key.Goals as goal

pub returns-then-ascend-clause-ok : goal.returns-then-ascend-clause-ok
returns-then-ascend-clause-ok c =
    let count = c.args.read.count in
    let row = row_at c.args.width c.args.read.values in
    let keys = c.in_ok-keys.keys.items in
    let are = c.in_ok-keys.ensures in
    let size : length keys ≡ count = ap length are ∙ length-map-range_with_len _ 0 count in
    let places = range_with_len 0 (length keys) in
    let up = rw (c.if-ascend.true, c.as_slice.ensures.value) at c.ascend.ensures in
    subst (λ n. keyed_rows c.args.key (map row (range_with_len 0 count)) ≡ Ok (map row (range_with_len 0 n))) size
    (keyed_in_order c.args.key row count keys places are (IsPermutation-refl places) (ascending_places keys up)
    (ascending_alone keys up))
    ∙ ap Ok (sym c.new.ensures)

pub put_in_order-requires : goal.put_in_order-requires
put_in_order-requires c =
    let read = c.args.read in
    let keys = c.in_ok-keys.keys.items in
    let size : length keys ≡ read.count = ap length c.in_ok-keys.ensures ∙ length-map-range_with_len _ 0 read.count in
    let moved = rw c.as_slice-2.ensures.value at c.in_ok-order.ensures.each in
    rw c.as_slice-3.ensures.value
    (places_within c.args.width read.count read.values keys c.in_ok-order.order.items c.requires size moved)

pub new-requires-2 : goal.new-requires-2
new-requires-2 c =
    let read = c.args.read in
    let keys = c.in_ok-keys.keys.items in
    let size : length keys ≡ read.count = ap length c.in_ok-keys.ensures ∙ length-map-range_with_len _ 0 read.count in
    let moved = rw c.as_slice-2.ensures.value at c.in_ok-order.ensures.each in
    let joined = rw c.as_slice-3.ensures.value at c.in_ok-put_in_order.ensures in
    (joined_rows c.args.width read.count read.values _ keys c.in_ok-order.order.items c.requires size moved joined).0

pub returns-clause-ok : goal.returns-clause-ok
returns-clause-ok c =
    let read = c.args.read in
    let width = c.args.width in
    let keys = c.in_ok-keys.keys.items in
    let order = c.in_ok-order.order.items in
    let are = c.in_ok-keys.ensures in
    let size : length keys ≡ read.count = ap length are ∙ length-map-range_with_len _ 0 read.count in
    let moved = rw c.as_slice-2.ensures.value at c.in_ok-order.ensures.each in
    let up = rw c.as_slice-2.ensures.value at c.in_ok-order.ensures.ascend in
    let single = rw c.as_slice-2.ensures.value at c.in_ok-order.ensures.single in
    let joined = rw c.as_slice-3.ensures.value at c.in_ok-put_in_order.ensures in
    let rows = (joined_rows width read.count read.values _ keys order c.requires size moved joined).1 in
    keyed_in_order c.args.key (row_at width read.values) read.count keys order are moved up single
    ∙ ap Ok (sym (c.new-2.ensures ∙ rows))

pub returns-in_err-order-clause-fault : goal.returns-in_err-order-clause-fault
returns-in_err-order-clause-fault c =
    let row = row_at c.args.width c.args.read.values in
    let are = c.in_ok-keys.ensures in
    let p = err_from_is_err_and c.from_residual-in_err-order.result c.from_residual-in_err-order.ensures.1 in
    rw (p.1, p.2) (λ other.
    let some = rw c.as_slice-2.ensures.value at (c.in_err-order.ensures.fault other) in
    keyed_fault c.args.key row c.args.read.count c.in_ok-keys.keys.items c.in_err-order.field-0.0 are some)
