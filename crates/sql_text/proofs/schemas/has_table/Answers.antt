use Rattle.std.proofs.Common.{rules, sym, tests, ◌∙◌}
use Rattle.std.proofs.lemmas.Iterator.{YieldsList-from_slice}
use Rattle.std.proofs.lemmas.Iterator.Search.{any_from_yields_List}
use Rattle.table_model.proofs.ListFacts.{list_any-map}
use Rattle.table_model.specs.Texts.{same_name}
use Rattle.sql_text.proofs.schemas.has_table.Goals as goal

pub returns : goal.returns
returns c =
    let tables = c.args.tables.now in
    any_from_yields_List (λ table. same_name c.args.name.now table.name) _ _ _ c.any.ensures.ran (YieldsList-from_slice tables cc) (λ x b q k. search (rules, tests))
    ∙ sym (list_any-map (same_name c.args.name.now) (λ table. table.name) tables)
