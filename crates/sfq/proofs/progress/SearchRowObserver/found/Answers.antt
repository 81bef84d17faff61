use Rattle.std.proofs.Common.{refl}
use Rattle.streams.proofs.RowLemmas.{handed_on}
use Rattle.streams.specs.RowCounts.{after_row}
use Rattle.streams.specs.declared.rows.RowCount.{RowCount}
use Rattle.sfq.specs.declared.progress.Search.{Search}
use Rattle.sfq.proofs.progress.SearchRowObserver.found.Goals as goal

pub returns : goal.returns
returns c =
    let whole : RowCount → Search = λ count. record { count = count; progress = c.args.self.now.progress } in
    record {
      together = handed_on whole after_row (λ observer. record observer { count = after_row observer.count }) (λ count. refl)
          c.args.rows c.args.self.now.count c.found.new.self c.found.ensures.together;
    }
