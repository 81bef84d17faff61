use Rattle.std.proofs.Common.{inr}
use Rattle.std.proofs.lemmas.Result.{err_from_is_err_and}
use Rattle.csv.specs.Records.{fields_of}
use Rattle.feature_table.proofs.loading.push_next_row.Goals as goal

pub returns-then-not-found-clause-takes : goal.returns-then-not-found-clause-takes
returns-then-not-found-clause-takes g c header rest layout gives = rw c.if-not-found.true at
    (c.in_ok-found.ensures.takes rest gives)

pub returns-in_err-push_checked_row-clause-takes : goal.returns-in_err-push_checked_row-clause-takes
returns-in_err-push_checked_row-clause-takes g c header rest layout gives =
    let took = rw c.if-not-found.false at (c.in_ok-found.ensures.takes rest gives) in
    let p = err_from_is_err_and c.from_residual-in_err-push_checked_row.result c.from_residual-in_err-push_checked_row.ensures.1
    in
    rw (p.1, p.2) (λ other. (
      fields_of c.next_record.new.record,
      took.0,
      took.2,
      c.in_err-push_checked_row.ensures.row header
          layout (λ e. other (inr e)),
    ))

pub returns-clause-takes : goal.returns-clause-takes
returns-clause-takes g c header rest layout gives =
    let took = rw c.if-not-found.false at (c.in_ok-found.ensures.takes rest gives) in
    let put = c.in_ok-push_checked_row.ensures.row header layout in
    (fields_of c.next_record.new.record, took.0, put.0, took.2, put.1, put.2, took.1)

pub returns-clause-record : goal.returns-clause-record
returns-clause-record g c header layout =
    let put = c.in_ok-push_checked_row.ensures.row header layout in
    (fields_of c.next_record.new.record, put.0, put.1, put.2)

pub returns-in_err-found-clause-refused : goal.returns-in_err-found-clause-refused
returns-in_err-found-clause-refused g c header layout =
    let p = err_from_is_err_and c.from_residual.result c.from_residual.ensures.1 in
    rw (p.1, p.2) (λ other. absurd (other c.in_err-found.ensures.fails))

pub returns-in_err-push_checked_row-clause-refused : goal.returns-in_err-push_checked_row-clause-refused
returns-in_err-push_checked_row-clause-refused g c header layout =
    let p = err_from_is_err_and c.from_residual-in_err-push_checked_row.result c.from_residual-in_err-push_checked_row.ensures.1
    in
    rw (p.1, p.2)
    (λ other. (
      c.in_err-push_checked_row.ensures.row header layout (λ e. other (inr e)),
      λ rest gives.
          let took = rw c.if-not-found.false at (c.in_ok-found.ensures.takes rest gives) in
          (took.0, took.2),
    ))
