use Rattle.std.proofs.Common.{refl}
use Rattle.streams.proofs.RowLemmas.{handed_on}
use Rattle.streams.specs.RowCounts.{after_candidate}
use Rattle.streams.specs.declared.rows.RowCount.{RowCount}
use Rattle.query_tests.specs.declared.observer_tests.ReportCount.{ReportCount}
use Rattle.query_tests.proofs.observer_tests.ReportCountRowObserver.looked.Goals as goal

pub returns : goal.returns
returns c =
    let whole : RowCount → ReportCount = λ count. record { count = count; reports = c.args.self.now.reports } in
    let after : RowCount → RowCount = after_candidate c.args.left in
    record {
      together = handed_on whole after (λ observer. record observer { count = after observer.count }) (λ count. refl)
          c.args.candidates c.args.self.now.count c.looked.new.self c.looked.ensures.together;
    }
