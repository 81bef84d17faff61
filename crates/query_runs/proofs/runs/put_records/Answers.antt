-- The records before this row's were put; this one's, or a beginning of it, comes after them.
use Rattle.std.proofs.Common.{◌∙◌, List, refl, subst}
use Rattle.executor.proofs.StreamLemmas.{fewer, row_counted, row_given, row_there}
use Rattle.executor.specs.Pairs.{IsPlace, choice_of}
use Rattle.executor.specs.Streams.{to_come}
use Rattle.geometry_model.specs.Geometries.{Geometry}
use Rattle.geometry_model.specs.Labels.{labelled_matrix}
use Rattle.matrix_laws.proofs.Matrices.{labels_give_matrix}
use Rattle.streams.specs.RecordWriters.{CountsPut}
use Rattle.streams.specs.declared.put_fault.PutFault.TheVariants as put
use Rattle.std.specs.Prelude.{Err}
use Rattle.table_model.specs.Meanings.{Table}
use Rattle.query_runs.specs.Runs.{choice_text}
use Rattle.query_runs.proofs.PutLemmas.{put-begun}
use Rattle.query_runs.proofs.RecordLemmas.{but-all, but-front, but-next, but-none, next-front, none_left}
use Rattle.query_runs.proofs.runs.put_records.Goals as goal

pub loop-row-init : goal.loop-row-init
loop-row-init g c = record {
  put = λ matrix m. but-all _ _;
  counted = λ matrix m. refl;
  tables = refl;
  ready = c.requires.writer;
  same = refl;
}

pub put_pair-requires-clause-place : goal.put_pair-requires-clause-place
put_pair-requires-clause-place g c =
    let P : List (Table Geometry) → Type 0 = λ ts. IsPlace ts c.in_ok-pair.pair in
    subst P (c.loop-row.invariant.tables ∙ c.requires.tables)
    (row_there c.loop-row.rows.tables c.next_observed.result c.in-Some.row c.in_ok-pair.pair c.in-Some.is c.in_ok-pair.was c.next_observed.ensures.places)

pub returns-in_err-pair-clause-text : goal.returns-in_err-pair-clause-text
returns-in_err-pair-clause-text g c = λ matrix m.
    put-begun c.from_residual.result put.Memory _ _ _ _ _ c.from_residual.ensures.1 (but-front _ _ _ _ (c.loop-row.invariant.put matrix m)) c.loop-row.invariant.same

pub returns-in_err-put_pair-clause-text : goal.returns-in_err-put_pair-clause-text
returns-in_err-put_pair-clause-text g c = λ matrix m.
    put-begun c.from_residual-in_err-put_pair.result c.in_err-put_pair.field-0.0 _ _ _ _ _ c.from_residual-in_err-put_pair.ensures.1
    (next-front (choice_text c.args.database.now c.args.query.now) (to_come matrix c.loop-row.rows) (to_come matrix c.next_observed.new.self) (choice_of c.in_ok-pair.pair) _ _ _ (g.S.Sink.taken c.loop-row.sink) _
    (row_given matrix c.loop-row.rows c.next_observed.new.self c.next_observed.result c.in-Some.row c.in_ok-pair.pair c.in-Some.is c.in_ok-pair.was (c.next_observed.ensures.gives matrix m))
    refl (c.loop-row.invariant.put matrix m) c.in_err-put_pair.ensures.puts.front)
    (subst (λ n. CountsPut {A = Unit {0}} n (g.S.Sink.failures c.put_pair.new.sink) (Err c.in_err-put_pair.field-0.0)) c.loop-row.invariant.same c.in_err-put_pair.ensures.puts.failures)

pub loop-row-smaller : goal.loop-row-smaller
loop-row-smaller g c =
    fewer (to_come labelled_matrix c.loop-row.rows) (choice_of c.in_ok-pair.pair) (to_come labelled_matrix c.next_observed.new.self)
    (row_given labelled_matrix c.loop-row.rows c.next_observed.new.self c.next_observed.result c.in-Some.row c.in_ok-pair.pair c.in-Some.is c.in_ok-pair.was (c.next_observed.ensures.gives labelled_matrix labels_give_matrix))

pub loop-row-preserved : goal.loop-row-preserved
loop-row-preserved g c = record {
  put = λ matrix m.
      but-next (choice_text c.args.database.now c.args.query.now) (to_come matrix c.loop-row.rows) (to_come matrix c.next_observed.new.self) (choice_of c.in_ok-pair.pair) _ _ _ (g.S.Sink.taken c.loop-row.sink) _
      (row_given matrix c.loop-row.rows c.next_observed.new.self c.next_observed.result c.in-Some.row c.in_ok-pair.pair c.in-Some.is c.in_ok-pair.was (c.next_observed.ensures.gives matrix m))
      refl (c.loop-row.invariant.put matrix m) c.in_ok-put_pair.ensures.puts.whole;
  counted = λ matrix m.
      row_counted matrix c.loop-row.rows c.next_observed.new.self c.next_observed.result c.in-Some.row c.in_ok-pair.pair c.in-Some.is c.in_ok-pair.was (c.next_observed.ensures.counted matrix m)
      ∙ c.loop-row.invariant.counted matrix m;
  tables = c.next_observed.ensures.tables ∙ c.loop-row.invariant.tables;
  ready = c.in_ok-put_pair.ensures.ready;
  same = c.in_ok-put_pair.ensures.puts.failures ∙ c.loop-row.invariant.same;
}

pub returns-clause-text : goal.returns-clause-text
returns-clause-text g c = λ matrix m. record {
  whole = but-none (choice_text c.args.database.now c.args.query.now) (to_come matrix c.loop-row.rows) _ _ _
      (none_left matrix c.loop-row.rows c.next_observed.new.self c.next_observed.result c.in_default.is (c.next_observed.ensures.gives matrix m)) (c.loop-row.invariant.put matrix m);
  front = tt;
  failures = c.loop-row.invariant.same;
}
