use Rattle.std.proofs.Common.{rules, sym, tests, ◌∙◌}
use Rattle.std.proofs.lemmas.Iterator.{YieldsList-from_slice}
use Rattle.std.proofs.lemmas.Iterator.Search.{any_from_yields_List}
use Rattle.table_model.proofs.ListFacts.{list_any-map}
use Rattle.table_model.specs.Texts.{same_name}
use Rattle.sql_text.proofs.schemas.has_column.Goals as goal

pub returns : goal.returns
returns c =
    let columns = c.args.columns.now in
    any_from_yields_List (λ column. same_name c.args.name.now column.name) _ _ _ c.any.ensures.ran (YieldsList-from_slice columns cc) (λ x b q k. search (rules, tests))
    ∙ sym (list_any-map (same_name c.args.name.now) (λ column. column.name) columns)
