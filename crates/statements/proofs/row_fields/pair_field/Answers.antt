-- The tables of the references are those of the pair's places.
use Rattle.std.proofs.Common.{◌∷◌, [], ap, subst, sym, ◌∙◌}
use Rattle.std.specs.Prelude.{option_to_list}
use Rattle.table_model.specs.Meanings.{referenced}
use Rattle.table_model.specs.Places.{AreThere, rows_at}
use Rattle.table_model.specs.Truths.{field_at}
use Rattle.executor.specs.Pairs.{IsPlace}
use Rattle.query_runs.proofs.PairLemmas.{first-there, one-row, second-there, two-rows}
use Rattle.statements.proofs.row_fields.pair_field.Goals as goal

pub row-requires : goal.row-requires
row-requires g c =
    let tables = c.args.database.now.tables in
    first-there tables c.as_slice-references.result.now c.index-references-0.result c.table-table.result.now c.args.pair
    (subst (λ rs. IsPlace (referenced tables rs) c.args.pair) (sym c.as_slice-references.ensures) c.requires.place)
    c.table-table.ensures

pub row-requires-in-Some : goal.row-requires-in-Some
row-requires-in-Some g c =
    let tables = c.args.database.now.tables in
    first-there tables c.as_slice-references.result.now c.index-references-0.result c.table-table.result.now c.args.pair
    (subst (λ rs. IsPlace (referenced tables rs) c.args.pair) (sym c.as_slice-references.ensures) c.requires.place)
    c.table-table.ensures

pub row-requires-in-Some-2 : goal.row-requires-in-Some-2
row-requires-in-Some-2 g c =
    let tables = c.args.database.now.tables in
    let there = subst (λ rs. IsPlace (referenced tables rs) c.args.pair) (sym c.as_slice-references.ensures) c.requires.place in
    second-there tables c.as_slice-references.result.now c.index-references-1.result c.table-other.result.now
    c.args.pair.first c.in-Some.second
    (subst (λ o. AreThere (referenced tables c.as_slice-references.result.now) (c.args.pair.first ∷ option_to_list o))
    c.in-Some.is there) c.table-other.ensures

pub returns-in-None : goal.returns-in-None
returns-in-None g c =
    let tables = c.args.database.now.tables in
    let there = subst (λ rs. IsPlace (referenced tables rs) c.args.pair) (sym c.as_slice-references.ensures) c.requires.place in
    c.field_at.ensures ∙ ap (λ rows. field_at rows c.args.place)
    (one-row tables c.as_slice-references.result.now c.index-references-0.result c.table-table.result.now
    c.args.pair.first c.row.result
    (subst (λ o. AreThere (referenced tables c.as_slice-references.result.now) (c.args.pair.first ∷ option_to_list o))
    c.in-None.is there) c.table-table.ensures c.row.ensures
    ∙ ap (λ rs. rows_at (referenced tables rs) (c.args.pair.first ∷ [])) c.as_slice-references.ensures
    ∙ ap (λ o. rows_at (referenced tables c.args.query.now.references) (c.args.pair.first ∷ option_to_list o)) (sym c.in-None.is))

pub returns-in-Some : goal.returns-in-Some
returns-in-Some g c =
    let tables = c.args.database.now.tables in
    let there = subst (λ rs. IsPlace (referenced tables rs) c.args.pair) (sym c.as_slice-references.ensures) c.requires.place in
    c.field_at-in-Some.ensures ∙ ap (λ rows. field_at rows c.args.place)
    (two-rows tables c.as_slice-references.result.now c.index-references-0.result c.index-references-1.result
    c.table-table.result.now c.table-other.result.now
    c.args.pair.first c.in-Some.second c.row-in-Some.result c.row-in-Some-2.result
    (subst (λ o. AreThere (referenced tables c.as_slice-references.result.now) (c.args.pair.first ∷ option_to_list o))
    c.in-Some.is there)
    c.table-table.ensures c.row-in-Some.ensures c.table-other.ensures c.row-in-Some-2.ensures
    ∙ ap (λ rs. rows_at (referenced tables rs) (c.args.pair.first ∷ c.in-Some.second ∷ [])) c.as_slice-references.ensures
    ∙ ap (λ o. rows_at (referenced tables c.args.query.now.references) (c.args.pair.first ∷ option_to_list o)) (sym c.in-Some.is))
