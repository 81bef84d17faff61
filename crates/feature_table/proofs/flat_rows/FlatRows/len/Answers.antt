use Rattle.std.proofs.Common.{◌∙◌, ap, length, sym}
use Rattle.feature_table.proofs.FlatLemmas.{rows_counted}
use Rattle.feature_table.proofs.flat_rows.FlatRows.len.Goals as goal

pub returns : goal.returns
returns c =
    let inside = c.self.inside in
    sym (rows_counted inside.width inside.values inside.count) ∙ ap length c.self.view_is
