use Rattle.std.proofs.Common.{Err, ◌≡◌, drop, rules}
use mir.Facts.{to_z-of_z}
use Rattle.std.specs.Int.{w64}
use Rattle.std.specs.Prelude.{FitsSigned}
use Rattle.std.proofs.lemmas.Result.{err_from_is_err_and}
use Rattle.feature_table.proofs.FailureLemmas.{of_fault}
use Rattle.feature_table.specs.GeometryFields.{reading}
use Rattle.tiles.proofs.PassLemmas.{answer_end, answer_fault, midway_more, read_end, read_fault, read_more}
use Rattle.tiles.specs.Checks.{record_key, record_keys}
use Rattle.tiles.proofs.checking.keys_after.Goals as goal

pub returns-in_err-key-clause-loads : goal.returns-in_err-key-clause-loads
returns-in_err-key-clause-loads g c header records layout gives =
    let m = c.loop-place.invariant.midway header records layout gives in
    let took = c.in_err-key.ensures.takes header (drop c.loop-place.place records) layout m.gives in
    let p = err_from_is_err_and c.from_residual.result c.from_residual.ensures.1 in
    rw (p.1, p.2) (λ other. let t = took other in
    answer_fault (record_key reading c.args.table.now header) records c.loop-place.place c.loop-place.keys.items t.0 t.1 c.in_err-key.field-0.0 m.passed t.2 t.3)

pub returns-in-None-clause-loads : goal.returns-in-None-clause-loads
returns-in-None-clause-loads g c header records layout gives =
    let m = c.loop-place.invariant.midway header records layout gives in
    let took = rw c.in-None.is at (c.in_ok-key.ensures.takes header (drop c.loop-place.place records) layout m.gives) in
    answer_end (record_key reading c.args.table.now header) records c.loop-place.place c.loop-place.keys.items m.passed took

pub loop-place-preserved : goal.loop-place-preserved
loop-place-preserved g c = record {
  ready = c.in_ok-key.ensures.ready;
  midway = λ header records layout gives.
      let m = c.loop-place.invariant.midway header records layout gives in
      let t = rw c.in-Some.is at (c.in_ok-key.ensures.takes header (drop c.loop-place.place records) layout m.gives) in
      let fits : FitsSigned w64 c.in-Some.key = search rules in
      rw (c.in_ok-push-in-Some.ensures.items, to_z-of_z fits) (midway_more _ _ _ (record_key reading c.args.table.now header) records c.loop-place.place c.loop-place.keys.items t.0 t.1 c.in-Some.key m t.2 t.3 t.4);
  read = λ header layout.
      let a = c.loop-place.invariant.read header layout in
      let t = rw c.in-Some.is at (c.in_ok-key.ensures.of_record header layout) in
      let fits : FitsSigned w64 c.in-Some.key = search rules in
      rw (c.in_ok-push-in-Some.ensures.items, to_z-of_z fits) (read_more (record_key reading c.args.table.now header) c.loop-place.place c.loop-place.keys.items t.0 c.in-Some.key a t.1);
}

pub returns-in_err-key-clause-some : goal.returns-in_err-key-clause-some
returns-in_err-key-clause-some g c header layout =
    let a = c.loop-place.invariant.read header layout in
    let p = err_from_is_err_and c.from_residual.result c.from_residual.ensures.1 in
    rw (p.1, p.2)
    (of_fault c.in_err-key.field-0.0 (λ records. record_keys reading c.args.table.now header records ≡ Err c.in_err-key.field-0.0) (λ other. let t = c.in_err-key.ensures.of_record header layout other in
    read_fault (record_key reading c.args.table.now header) c.loop-place.place c.loop-place.keys.items t.0 c.in_err-key.field-0.0 a t.1))

pub returns-in-None-clause-some : goal.returns-in-None-clause-some
returns-in-None-clause-some g c header layout =
    read_end (record_key reading c.args.table.now header) c.loop-place.place c.loop-place.keys.items (c.loop-place.invariant.read header layout)
