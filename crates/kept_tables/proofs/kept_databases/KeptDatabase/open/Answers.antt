use Rattle.std.proofs.Common.{◌∙◌, ap, false, length, replicate, subst, sym}
use Rattle.kept_tables.specs.KeptTables.{IsKept}
use Rattle.kept_tables.proofs.KeptLemmas.{opened_kept, opened_of}
use Rattle.table_model.specs.SpatialTables.{SpatialSchema}
use Rattle.kept_tables.proofs.kept_databases.KeptDatabase.open.Goals as goal

pub invariant_of-result : goal.invariant_of-result
invariant_of-result g c =
    let count = ap (λ (d : SpatialSchema). replicate (length d) false) c.tables-count.ensures.value in
    let loaded = c.in_ok-loaded.ensures ∙ count in
    let made = opened_of c.args.schema c.in_ok-tables.tables.items c.in_ok-loaded.loaded.items c.in_ok-tables.ensures loaded in
    subst IsKept (sym made) (opened_kept c.args.schema c.tables-count.ensures.lawful)
