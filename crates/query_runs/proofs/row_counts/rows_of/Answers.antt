-- The number of one table's rows more is that of the table at the next place.
use Rattle.std.proofs.Common.{◌≡◌, ◌∙◌, ◌+◌, ◌++◌, ◌∷◌, [], ℕ, List, Some, add-one, ap, length, map, suc, sym, take, zero}
use Rattle.std.specs.Prelude.{slice_get}
use Rattle.table_model.specs.SpatialTables.{SpatialTable}
use Rattle.query_runs.proofs.row_counts.rows_of.Goals as goal

-- the numbers of the rows of one table more
one_more : (tables : List SpatialTable) (i : ℕ) (table : SpatialTable) → slice_get tables i ≡ Some table
    → map length (take (suc i) tables) ≡ map length (take i tables) ++ length table ∷ []
one_more [] i table is = cc is
one_more (t ∷ ts) zero table is =
    let same : t ≡ table = cc is in
    ap (λ x. length x ∷ []) same
one_more (t ∷ ts) (suc i) table is = ap (λ l. length t ∷ l) (one_more ts i table is)

counted : (tables : List SpatialTable) (i : ℕ) (table : SpatialTable) (old new : List ℕ) (count : ℕ)
    → old ≡ map length (take i tables) → slice_get tables i ≡ Some table → count ≡ length table → new ≡ old ++ count ∷ []
    → new ≡ map length (take (i + 1) tables)
counted tables i table old new count had there is more =
    rw add-one (more ∙ ap (λ l. l ++ count ∷ []) had ∙ ap (λ n. map length (take i tables) ++ n ∷ []) is
    ∙ sym (one_more tables i table there))

pub loop-place-preserved : goal.loop-place-preserved
loop-place-preserved g c =
    counted c.args.database.now.tables c.loop-place.place c.table.result.now c.loop-place.rows.items c.push.new.self.items
    c.rows.result c.loop-place.invariant c.table.ensures c.rows.ensures.count c.in_ok-push.ensures.items
