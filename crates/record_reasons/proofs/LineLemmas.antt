-- Records of which no field holds a line end.
use Rattle.std.proofs.Common.{◌≡◌, ◌∙◌, ◌+◌, ◌++◌, ◌<◌, ◌≤◌, ℕ, zero, suc, List, [], ◌∷◌, Option, Some, ap, append-nil, arith, length, subst}
use Rattle.std.specs.Prelude.{slice_get}
use Rattle.std.proofs.lemmas.Option.{same_Some}
use Rattle.feature_table.specs.Records.{records_in}
use Rattle.feature_table.specs.declared.records.Records.{Records}
use Rattle.record_reasons.proofs.KeyLemmas.{back}
use Rattle.record_reasons.proofs.SeenLemmas.{begins, last, read-more}
use Rattle.record_reasons.specs.LineEnds.{HasNoLineEnd, IsFirstField, IsFirstLineEnd, NoFieldHolds}
use Rattle.record_reasons.specs.SeenRecords.{GivesNext, GivesNone, HasRead}
use Rattle.table_model.specs.Loading.{Record, row_limit}

-- no field of these records holds one
abbrev pub NoneHolds : List Record → Type 0
NoneHolds read = (k : ℕ) (fields : Record) → slice_get read k ≡ Some fields → NoFieldHolds fields

-- one record more
pub none-more : (read : List Record) (fields : Record) → NoneHolds read → NoFieldHolds fields → NoneHolds (read ++ fields ∷ [])
none-more [] fields all none zero other is = subst NoFieldHolds (same_Some fields other is) none
none-more [] fields all none (suc k) other is = cc is
none-more (x ∷ xs) fields all none zero other is = all zero other is
none-more (x ∷ xs) fields all none (suc k) other is = none-more xs fields (λ j. all (suc j)) none k other is

-- the record after those is the first that has one
pub first-there : {R : Type 0} (remaining : R → Option (List ℕ)) (known : Option (List ℕ)) (old new : Records R) (read : List Record) (fields : Record)
    (number place : ℕ) → HasRead remaining known old read → GivesNext remaining old new fields → length read ≡ number → NoneHolds read → IsFirstField fields place
    → IsFirstLineEnd known (record { number = number; field = place })
first-there remaining known old new read fields number place has next size none first = record {
  read = read ++ fields ∷ [];
  begins = begins remaining known new (read ++ fields ∷ []) (read-more remaining known old new read fields has next);
  fields = fields;
  there = last read fields number size;
  first = first;
  before = λ k other less is. none k other (back read (fields ∷ []) k other (omega (arith, less, size)) is);
}

-- where no record is left, there is none
pub none-after : {R : Type 0} (remaining : R → Option (List ℕ)) (known : Option (List ℕ)) (records : Records R) (read : List Record)
    → HasRead remaining known records read → GivesNone remaining records → NoneHolds read → HasNoLineEnd known
none-after remaining known records read has none holds text is k fields within there =
    let all = has text is in
    let whole : records_in text ≡ read = all.2 ∙ ap (λ rest. read ++ rest) (none all.0 all.1) ∙ append-nil read in
    holds k fields (subst (λ rs. slice_get rs k ≡ Some fields) whole there)

-- nor where as many were read as are looked at
pub none-within : {R : Type 0} (remaining : R → Option (List ℕ)) (known : Option (List ℕ)) (records : Records R) (read : List Record)
    → HasRead remaining known records read → row_limit + 2 ≤ length read → NoneHolds read → HasNoLineEnd known
none-within remaining known records read has many holds text is k fields within there =
    let all = has text is in
    let less : k < length read = omega (arith, within, many) in
    holds k fields (back read all.0 k fields less (subst (λ rs. slice_get rs k ≡ Some fields) all.2 there))
