use Rattle.std.proofs.Common.{rules, tests}
use Rattle.std.proofs.lemmas.Iterator.{YieldsList-from_slice}
use Rattle.std.proofs.lemmas.Iterator.Search.{all_from_yields_List}
use Rattle.table_model.specs.Definitions.{lawful_table}
use Rattle.sql_text.proofs.schemas.are_lawful.Goals as goal

pub returns : goal.returns
returns c = all_from_yields_List lawful_table _ _ _ c.all.ensures.ran (YieldsList-from_slice c.args.tables.now cc) (λ x b q k. search (rules, tests))
