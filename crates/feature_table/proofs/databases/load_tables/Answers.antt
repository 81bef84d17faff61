-- Each turn loads the table of the reader at the place, and a fault names that place.
use Rattle.std.proofs.Common.{inr, refl, ◌∙◌, ◌≡◌, ◌<◌, ap, arith, get_or, length, map, rules, true, vec_len}
use Rattle.std.proofs.lemmas.Iterator.Adapters.{YieldsList-from_vec}
use Rattle.std.proofs.lemmas.Iterator.Consumers.{YieldsList-end, YieldsList-from_enumerate, YieldsList-turn}
use Rattle.std.proofs.lemmas.List.FromFn.{length-enumerate_from}
use Rattle.std.proofs.lemmas.List.{length-map, length_push}
use Rattle.std.proofs.lemmas.Result.{err_from_is_err_and}
use Rattle.std.specs.Iterator.Adapters.{enumerate_source}
use Rattle.std.specs.Result.{is_ok}
use Rattle.std.specs.Vec.Iter.{into_iter_items, into_iter_len}
use Rattle.csv.specs.Records.{fields_of}
use Rattle.feature_table.proofs.DatabaseLemmas.{all_loaded, fault_loaded, known_at, loaded_more, no_definition, reader_at}
use Rattle.feature_table.specs.GeometryFields.{reading}
use Rattle.table_model.specs.declared.faults.LoadFault.TheVariants as fault
use Rattle.feature_table.proofs.databases.load_tables.Goals.{In-Some}
use Rattle.feature_table.proofs.databases.load_tables.Goals as goal

-- the reader of a turn is the next one, and its place is how many came before
turned : (g : _) (c : In-Some g)
    → (length c.loop-place.yielded < length c.args.readers.items) × (c.in-Some.place ≡ length c.loop-place.yielded)
    × (c.in-Some.reader ≡ get_or c.args.readers.items (length c.loop-place.yielded) c.in-Some.reader)
turned g c =
    let readers = c.args.readers.items in
    let start = c.into_iter-place-iterator.ensures.into_iter_gives in
    let size : vec_len c.args.readers ≡ length readers = omega (arith, c.args.readers.ok.0) in
    let items = c.enumerate-place-items.result in
    let from = c.enumerate-place-items.ensures.source in
    let source = YieldsList-from_vec {s = enumerate_source items} readers (ap into_iter_items from ∙ c.into_iter.ensures.rest)
    (ap into_iter_len from ∙ c.into_iter.ensures.len ∙ size) in
    let all = YieldsList-from_enumerate {s = items} source c.enumerate-place-items.ensures.count in
    let t = YieldsList-turn all c.loop-place.yielded _ (rw start at c.loop-place.yielded_by) c.next.result c.next.new.self
    (c.in-Some.place, c.in-Some.reader) c.in-Some.is c.next.ensures.steps in
    reader_at readers (length c.loop-place.yielded) c.in-Some.place c.in-Some.reader t.0 t.1

pub loop-place-preserved : goal.loop-place-preserved
loop-place-preserved g c =
    let n = length c.loop-place.yielded in
    let turn = turned g ((goal.at.loop-place-preserved g c).In-Some) in
    let good : is_ok c.push.result ≡ true = search rules in
    let pushed = rw good at c.push.ensures.items in
    let longer = length_push c.loop-place.yielded (c.in-Some.place, c.in-Some.reader) in
    record {
      count = omega (arith, longer, rw good at c.push.ensures.len, c.loop-place.invariant.count);
      loaded =
          let known = map g.R.Read.remaining c.args.readers.items in
          let many : length known ≡ length c.args.readers.items = simp length-map in
          let some = rw turn.1 at (c.in_ok-table.ensures.records no_definition) in
          let of = rw (known_at g.R.Read.remaining c.args.readers.items n c.in-Some.reader turn.0 turn.2) at some.1 in
          rw (longer, pushed)
          (loaded_more reading c.args.schema.now known n c.loop-place.tables.items no_definition some.0 c.in_ok-table.table
          c.loop-place.invariant.loaded (omega (arith, turn.0, many)) of some.2);
    }

pub returns-in_err-table-clause-records : goal.returns-in_err-table-clause-records
returns-in_err-table-clause-records g c =
    let n = length c.loop-place.yielded in
    let turn = turned g ((goal.at.returns-in_err-table-clause-records g c).In-Some) in
    let known = map g.R.Read.remaining c.args.readers.items in
    let many : length known ≡ length c.args.readers.items = simp length-map in
    let some = rw turn.1 at (c.in_err-table.ensures.records no_definition) in
    let of = rw (known_at g.R.Read.remaining c.args.readers.items n c.in-Some.reader turn.0 turn.2) at some.1 in
    let p = err_from_is_err_and c.from_residual.result c.from_residual.ensures.1 in
    rw (p.1, p.2)
    (fault_loaded reading c.args.schema.now known n c.loop-place.tables.items _ no_definition some.0 c.in_err-table.field-0.0 _
    _ c.loop-place.invariant.loaded
    (omega (arith, turn.0, c.requires)) (omega (arith, many, c.requires)) (c.in_err-table.ensures.place ∙ turn.1) of some.2
    some.3)

pub returns-then-is_err-clause-records : goal.returns-then-is_err-clause-records
returns-then-is_err-clause-records g c =
    let n = length c.loop-place.yielded in
    let turn = turned g ((goal.at.returns-then-is_err-clause-records g c).In-Some) in
    let known = map g.R.Read.remaining c.args.readers.items in
    let many : length known ≡ length c.args.readers.items = simp length-map in
    let some = rw turn.1 at (c.in_ok-table.ensures.records no_definition) in
    let of = rw (known_at g.R.Read.remaining c.args.readers.items n c.in-Some.reader turn.0 turn.2) at some.1 in
    rw turn.1
    (fault_loaded reading c.args.schema.now known n c.loop-place.tables.items _ no_definition some.0
    (record { table = n; fault = fault.OutOfMemory })
    (fields_of c.load_table.new.last.header) (fields_of c.load_table.new.last.«record»)
    c.loop-place.invariant.loaded (omega (arith, turn.0, c.requires)) (omega (arith, many, c.requires)) refl of
    (λ other. absurd (other (inr refl)))
    (λ other. absurd (other (inr refl))))

pub returns-clause-records : goal.returns-clause-records
returns-clause-records g c =
    let readers = c.args.readers.items in
    let start = c.into_iter-place-iterator.ensures.into_iter_gives in
    let size : vec_len c.args.readers ≡ length readers = omega (arith, c.args.readers.ok.0) in
    let items = c.enumerate-place-items.result in
    let from = c.enumerate-place-items.ensures.source in
    let source = YieldsList-from_vec {s = enumerate_source items} readers (ap into_iter_items from ∙ c.into_iter.ensures.rest)
    (ap into_iter_len from ∙ c.into_iter.ensures.len ∙ size) in
    let all = YieldsList-from_enumerate {s = items} source c.enumerate-place-items.ensures.count in
    let t = YieldsList-end all c.loop-place.yielded _ (rw start at c.loop-place.yielded_by) c.next.result c.next.new.self
    c.in-None.is c.next.ensures.steps in
    let numbered = length-enumerate_from 0 readers in
    let known = map g.R.Read.remaining readers in
    let many : length known ≡ length readers = simp length-map in (
      all_loaded reading c.args.schema.now known (length c.loop-place.yielded) c.loop-place.tables.items _ _
          c.loop-place.invariant.loaded
          (omega (arith, numbered, t.1, c.requires)) (omega (arith, many, c.requires)) refl,
      tt,
    )
