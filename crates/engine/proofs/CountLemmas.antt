-- The lines of the tables of a schema, one after another.
use Rattle.std.proofs.Common.{◌≡◌, ◌+◌, ℕ, zero, suc, List, [], ◌∷◌, ◌++◌, length, take, drop, Option, Some, sym, ◌∙◌, ap, subst, append_assoc, append-nil, add-one}
use Rattle.std.specs.Prelude.{codes, decimal, slice_get}
use Rattle.std.specs.Io.KnownBytes.{Appends}
use Rattle.engine.specs.Commands.{check_text, count_line}
use Rattle.streams.specs.Sinks.{AppendsFront}
use Rattle.streams.proofs.SinkLemmas.{Appends-then, AppendsFront-more, AppendsFront-then}
use Rattle.table_model.specs.GeometryColumns.{ColumnShape}
use Rattle.table_model.specs.SpatialTables.{SpatialSchema, SpatialTable}
use Rattle.table_model.specs.declared.definitions.TableDef.{TableDef}

-- one line more
check_more : (definitions : SpatialSchema) (tables : List SpatialTable) (i : ℕ) (definition : TableDef ColumnShape) (rows : SpatialTable)
    → slice_get definitions i ≡ Some definition → slice_get tables i ≡ Some rows
    → check_text (take (suc i) definitions) (take (suc i) tables) ≡ check_text (take i definitions) (take i tables) ++ count_line definition rows
check_more [] tables i definition rows here there = cc here
check_more (d ∷ ds) [] i definition rows here there = cc there
check_more (d ∷ ds) (t ∷ ts) zero definition rows here there =
    let one : d ≡ definition = cc here in
    let other : t ≡ rows = cc there in
    append-nil (count_line d t) ∙ ap (λ x. count_line x t) one ∙ ap (count_line definition) other
check_more (d ∷ ds) (t ∷ ts) (suc i) definition rows here there =
    ap (λ l. count_line d t ++ l) (check_more ds ts i definition rows here there)
    ∙ sym (append_assoc (count_line d t) (check_text (take i ds) (take i ts)) (count_line definition rows))

-- the lines before a place, that at the place, and those after it
check_split : (definitions : SpatialSchema) (tables : List SpatialTable) (i : ℕ) (definition : TableDef ColumnShape) (rows : SpatialTable)
    → slice_get definitions i ≡ Some definition → slice_get tables i ≡ Some rows
    → check_text definitions tables
    ≡ check_text (take i definitions) (take i tables) ++ (count_line definition rows ++ check_text (drop (suc i) definitions) (drop (suc i) tables))
check_split [] tables i definition rows here there = cc here
check_split (d ∷ ds) [] i definition rows here there = cc there
check_split (d ∷ ds) (t ∷ ts) zero definition rows here there =
    let one : d ≡ definition = cc here in
    let other : t ≡ rows = cc there in
    ap (λ x. count_line x t ++ check_text ds ts) one ∙ ap (λ x. count_line definition x ++ check_text ds ts) other
check_split (d ∷ ds) (t ∷ ts) (suc i) definition rows here there =
    ap (λ l. count_line d t ++ l) (check_split ds ts i definition rows here there)
    ∙ sym (append_assoc (count_line d t) (check_text (take i ds) (take i ts)) (count_line definition rows ++ check_text (drop (suc i) ds) (drop (suc i) ts)))

-- the parts of a line, joined
pub line-is : (name digits : List ℕ) (definition : TableDef ColumnShape) (rows : SpatialTable) → name ≡ definition.name → digits ≡ decimal (length rows)
    → name ++ (codes " " ++ (digits ++ (codes "\n" ++ []))) ≡ count_line definition rows
line-is name digits definition rows named counted =
    ap (λ n. n ++ (codes " " ++ (digits ++ (codes "\n" ++ [])))) named
    ∙ ap (λ d. definition.name ++ (codes " " ++ (d ++ (codes "\n" ++ [])))) counted
    ∙ simp (append_assoc, append-nil)

-- the lines up to a place are written, that one among them
pub count-next : (definitions : SpatialSchema) (tables : List SpatialTable) (i : ℕ) (definition : TableDef ColumnShape) (rows : SpatialTable) (line : List ℕ) (a b c : Option (List ℕ))
    → slice_get definitions i ≡ Some definition → slice_get tables i ≡ Some rows → line ≡ count_line definition rows
    → Appends a b (check_text (take i definitions) (take i tables)) → Appends b c line → Appends a c (check_text (take (i + 1) definitions) (take (i + 1) tables))
count-next definitions tables i definition rows line a b c here there is before put =
    rw add-one (subst (λ l. Appends a c l) (sym (check_more definitions tables i definition rows here there))
    (Appends-then a b c (check_text (take i definitions) (take i tables)) (count_line definition rows) before (subst (λ l. Appends b c l) is put)))

-- a beginning of the line at a place comes after those before it
pub count-front : (definitions : SpatialSchema) (tables : List SpatialTable) (i : ℕ) (definition : TableDef ColumnShape) (rows : SpatialTable) (line : List ℕ) (a b c : Option (List ℕ))
    → slice_get definitions i ≡ Some definition → slice_get tables i ≡ Some rows → line ≡ count_line definition rows
    → Appends a b (check_text (take i definitions) (take i tables)) → AppendsFront b c line → AppendsFront a c (check_text definitions tables)
count-front definitions tables i definition rows line a b c here there is before put =
    let others = check_text (drop (suc i) definitions) (drop (suc i) tables) in
    subst (λ l. AppendsFront a c l) (sym (check_split definitions tables i definition rows here there))
    (AppendsFront-then a b c (check_text (take i definitions) (take i tables)) (count_line definition rows ++ others) before
    (AppendsFront-more b c (count_line definition rows) others (subst (λ l. AppendsFront b c l) is put)))
