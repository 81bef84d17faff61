use Rattle.std.proofs.Common.{refl}
use Rattle.streams.proofs.RowLemmas.{handed_on}
use Rattle.streams.specs.RowCounts.{after_candidate}
use Rattle.streams.specs.declared.rows.RowCount.{RowCount}
use Rattle.sfq.specs.declared.progress.Search.{Search}
use Rattle.sfq.proofs.progress.SearchRowObserver.looked.Goals as goal

pub returns : goal.returns
returns c =
    let whole : RowCount → Search = λ count. record { count = count; progress = c.args.self.now.progress } in
    let after : RowCount → RowCount = after_candidate c.args.left in
    record {
      together = handed_on whole after (λ observer. record observer { count = after observer.count }) (λ count. refl)
          c.args.candidates c.args.self.now.count c.looked.new.self c.looked.ensures.together;
    }
