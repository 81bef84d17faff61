-- Records that are read one after another.
use Rattle.std.proofs.Common.{◌≡◌, ◌∙◌, ◌++◌, ◌≤◌, Bool, true, false, ℕ, zero, suc, List, [], ◌∷◌, Option, None, Some, Result, Ok, Err, IfOk, true≢false, ap, append-nil, arith, length, append_assoc, refl, sym}
use Rattle.std.specs.Prelude.{slice_get}
use Rattle.std.proofs.lemmas.Option.{slice_get_past}
use Rattle.feature_table.specs.Records.{Gives, GivesFirst, records_in}
use Rattle.feature_table.specs.declared.records.Records.{Records}
use Rattle.table_model.specs.Loading.{Record}
use Rattle.record_reasons.specs.SeenRecords.{AreAllOf, BeginWith, GivesNext, GivesNone, HasRead, IsAbsent, Takes}

-- the last of the elements
pub last : {X : Type 0} (xs : List X) (x : X) (n : ℕ) → length xs ≡ n → slice_get (xs ++ x ∷ []) n ≡ Some x
last [] x zero is = refl
last [] x (suc n) is = cc is
last (y ∷ ys) x zero is = cc is
last (y ∷ ys) x (suc n) is = let more : length ys ≡ n = omega (arith, is) in last ys x n more

-- one record more is read
pub read-more : {R : Type 0} (remaining : R → Option (List ℕ)) (known : Option (List ℕ)) (old new : Records R) (read : List Record) (fields : Record)
    → HasRead remaining known old read → GivesNext remaining old new fields → HasRead remaining known new (read ++ fields ∷ [])
read-more remaining known old new read fields has next text is =
    let before = has text is in
    let taken = next before.0 before.1 in
    (taken.0, taken.1, before.2 ∙ ap (λ rest. read ++ rest) taken.2 ∙ sym (append_assoc read (fields ∷ []) taken.0))

-- the records that were read are a beginning
pub begins : {R : Type 0} (remaining : R → Option (List ℕ)) (known : Option (List ℕ)) (records : Records R) (read : List Record)
    → HasRead remaining known records read → BeginWith known read
begins remaining known records read has text is = let all = has text is in (all.0, all.2)

-- what was read is taken or shows the end
takes-of : {R : Type 0} (remaining : R → Option (List ℕ)) (old new : Records R) (found : Bool) (fields : Record)
    → ((rest : List Record) → Gives remaining old rest → GivesFirst remaining new rest found fields) → Takes remaining old new found fields
takes-of remaining old new true fields takes = takes
takes-of remaining old new false fields takes = takes

pub takes-ok : {R E : Type 0} (remaining : R → Option (List ℕ)) (old new : Records R) (fields : Record) (r : Result Bool E)
    → ((rest : List Record) → Gives remaining old rest → IfOk r (λ found. GivesFirst remaining new rest found fields))
    → IfOk r (λ found. Takes remaining old new found fields)
takes-ok remaining old new fields (Ok found) takes = takes-of remaining old new found fields takes
takes-ok remaining old new fields (Err e) takes = tt

-- a record that was found was taken
pub taken : {R : Type 0} (remaining : R → Option (List ℕ)) (old new : Records R) (found : Bool) (fields : Record) → found ≡ true
    → Takes remaining old new found fields → GivesNext remaining old new fields
taken remaining old new true fields is takes = takes
taken remaining old new false fields is takes = absurd (true≢false (sym is))

-- where none was found, none was left
pub none-left : {R : Type 0} (remaining : R → Option (List ℕ)) (old new : Records R) (found : Bool) (fields : Record) → found ≡ false
    → Takes remaining old new found fields → GivesNone remaining old
none-left remaining old new true fields is takes = absurd (true≢false is)
none-left remaining old new false fields is takes = takes

-- where no record is left, there is none of a greater number than were read
pub absent : {R : Type 0} (remaining : R → Option (List ℕ)) (known : Option (List ℕ)) (records : Records R) (read : List Record) (number : ℕ)
    → HasRead remaining known records read → GivesNone remaining records → length read ≤ number → IsAbsent known number
absent remaining known records read number has none low text is =
    let all = has text is in
    let whole : records_in text ≡ read = all.2 ∙ ap (λ rest. read ++ rest) (none all.0 all.1) ∙ append-nil read in
    ap (λ xs. slice_get xs number) whole ∙ slice_get_past read number low

-- the first record is read
pub first-read : {R : Type 0} (remaining : R → Option (List ℕ)) (known : Option (List ℕ)) (old new : Records R) (fields : Record)
    → HasRead remaining known old [] → GivesNext remaining old new fields → HasRead remaining known new (fields ∷ [])
first-read remaining known old new fields has next = read-more remaining known old new [] fields has next

-- any records are all of bytes that aren't known
pub unknown : {R : Type 0} (remaining : R → Option (List ℕ)) (records : Records R) → AreAllOf remaining None records
unknown remaining records text is = cc is
