-- The columns that a condition names, at each of its variants.
use Rattle.std.proofs.Common.{◌≡◌, ◌∙◌, List, ap, sym}
use Rattle.std.specs.List.{flat_map}
use Rattle.std.proofs.lemmas.List.Folds.{flat_map-map}
use Rattle.sfq_tables.specs.NamedColumns.{named_by_parts, named_in_condition}
use Rattle.sfq_tables.specs.declared.named_columns.NamedColumn.{NamedColumn}
use Rattle.table_model.proofs.WrittenFolds.{fold-And, fold-Or}
use Rattle.table_model.specs.declared.queries.WrittenCond.{WrittenCond}
use Rattle.table_model.specs.declared.queries.WrittenCond.TheVariants as written
use Rattle.table_model.specs.declared.queries.WrittenGeometry.{WrittenGeometry}

-- OR and AND name the columns of their parts
pub named_of_or : (c : WrittenCond WrittenGeometry) (parts these : List (WrittenCond WrittenGeometry))
    → c ≡ written.Or parts → these ≡ parts → flat_map named_in_condition these ≡ named_in_condition c
named_of_or c parts these is same =
    ap (flat_map named_in_condition) same
    ∙ sym (ap named_in_condition is ∙ fold-Or WrittenGeometry (List NamedColumn) named_by_parts parts
    ∙ flat_map-map (λ part. part) named_in_condition parts)

pub named_of_and : (c : WrittenCond WrittenGeometry) (parts these : List (WrittenCond WrittenGeometry))
    → c ≡ written.And parts → these ≡ parts → flat_map named_in_condition these ≡ named_in_condition c
named_of_and c parts these is same =
    ap (flat_map named_in_condition) same
    ∙ sym (ap named_in_condition is ∙ fold-And WrittenGeometry (List NamedColumn) named_by_parts parts
    ∙ flat_map-map (λ part. part) named_in_condition parts)
