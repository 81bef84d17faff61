-- How the line of a record grows, by its fields and by their bytes.
use Rattle.std.proofs.Common.{◌≡◌, ◌∙◌, ◌<◌, ◌+◌, ◌++◌, ◌∷◌, [], ℕ, Bool, List, true, false, Result, Ok, Err, OnOk}
use Rattle.std.proofs.Common.{length, take, get_or, refl, sym, ap, arith, append_assoc, append-nil, length-append}
use Rattle.std.specs.Prelude.{◌==◌, Some, None, not, if◌then◌else◌}
use Rattle.std.specs.List.{list_any}
use Rattle.std.proofs.lemmas.Bool.{ne_eqb}
use Rattle.std.proofs.lemmas.List.{take_more}
use Rattle.csv.specs.Records.{field_at}
use Rattle.csv.specs.Writing.{default_writer, escaped, field_text, fields_text, is_blank, next_sep, row_body, row_text}
use Rattle.streams.specs.RecordWriters.{line_end, separator}
use Rattle.csv.proofs.RecordFacts.{field-get, field-there}
use Rattle.csv.proofs.WriteFacts.{escaped-append, escaped-double, escaped-none, escaped-other, row-step}

-- ---- the bytes of a field in quotes

-- one more byte
escaped-step : (field : List ℕ) (i : ℕ) → i < length field
    → escaped default_writer (take (i + 1) field) ≡ escaped default_writer (take i field) ++ escaped default_writer (get_or field i 0 ∷ [])
escaped-step field i lt = rw (take_more field i 0 lt) (escaped-append default_writer (take i field) (get_or field i 0 ∷ []))

-- a quote is written twice
pub quote-added : (field begun before once twice : List ℕ) (i : ℕ) → i < length field → get_or field i 0 ≡ 34
    → before ≡ begun ++ escaped default_writer (take i field) → once ≡ before ++ 34 ∷ [] → twice ≡ once ++ get_or field i 0 ∷ []
    → twice ≡ begun ++ escaped default_writer (take (i + 1) field)
quote-added field begun before once twice i lt is so_far first second =
    let doubled : escaped default_writer (get_or field i 0 ∷ []) ≡ 34 ∷ get_or field i 0 ∷ [] =
    escaped-double default_writer (get_or field i 0) is refl ∙ ap (λ b. b ∷ get_or field i 0 ∷ []) is in
    second ∙ ap (λ t. t ++ get_or field i 0 ∷ []) (first ∙ ap (λ t. t ++ 34 ∷ []) so_far)
    ∙ append_assoc _ (34 ∷ []) (get_or field i 0 ∷ []) ∙ append_assoc begun _ _
    ∙ ap (λ t. begun ++ t) (ap (λ t. escaped default_writer (take i field) ++ t) (sym doubled) ∙ sym (escaped-step field i lt))

-- another byte is written as it is
pub byte-added : (field begun before once : List ℕ) (i : ℕ) → i < length field → (get_or field i 0 ≡ 34 → ⊥)
    → before ≡ begun ++ escaped default_writer (take i field) → once ≡ before ++ get_or field i 0 ∷ []
    → once ≡ begun ++ escaped default_writer (take (i + 1) field)
byte-added field begun before once i lt other so_far first =
    first ∙ ap (λ t. t ++ get_or field i 0 ∷ []) so_far ∙ append_assoc begun _ _
    ∙ ap (λ t. begun ++ t) (ap (λ t. escaped default_writer (take i field) ++ t) (sym (escaped-other default_writer (get_or field i 0) other)) ∙ sym (escaped-step field i lt))

-- a field without a quote is written as it is
pub unquoted-added : (field : List ℕ) → list_any (λ b. b == 34) field ≡ false → escaped default_writer field ≡ field
unquoted-added field none = escaped-none default_writer field none

-- ---- the fields of a record

-- what comes before a field
pub separated : (i : ℕ) → separator (not (i == 0)) ≡ next_sep default_writer i
separated i = go (i == 0)
  where
    go : (b : Bool) → separator (not b) ≡ (if b then [] else 44 ∷ [])
    go true = refl
    go false = refl

-- one more field
pub field-added : (fields : List (List ℕ)) (i : ℕ) (field before with_comma after : List ℕ)
    → i < length fields → Some field ≡ field_at fields i → before ≡ row_body default_writer (take i fields) → with_comma ≡ before ++ separator (not (i == 0))
    → after ≡ with_comma ++ field_text default_writer field → after ≡ row_body default_writer (take (i + 1) fields)
field-added fields i field before with_comma after lt is so_far comma added =
    let same : get_or fields i [] ≡ field = field-get fields i field (sym is) in
    added ∙ ap (λ t. t ++ field_text default_writer field)
    (comma ∙ ap (λ s. before ++ s) (separated i) ∙ ap (λ t. t ++ next_sep default_writer i) so_far)
    ∙ append_assoc _ (next_sep default_writer i) (field_text default_writer field)
    ∙ ap (λ f. row_body default_writer (take i fields) ++ (next_sep default_writer i ++ field_text default_writer f)) (sym same)
    ∙ sym (row-step default_writer fields i lt)

-- a record has a field at each of its places
pub no-field : {G : Type 0} (fields : List (List ℕ)) (i : ℕ) → i < length fields → None ≡ field_at fields i → G
no-field fields i lt none = absurd (field-there fields i lt (sym none))

-- ---- the end of a line

-- only a record that shows no byte is blank
blank-empty : (fields : List (List ℕ)) → is_blank default_writer fields ≡ (length (row_body default_writer fields) == 0)
unfolding is_blank fields_text
blank-empty [] = refl
blank-empty (field ∷ []) = rw (append-nil (field_text default_writer field)) refl
blank-empty (field ∷ next ∷ rest) =
    let size = length-append (field_text default_writer field) (fields_text default_writer (next ∷ rest)) in
    sym (ne_eqb _ 0 (λ z. omega (arith, z, size)))

-- so what ends a record's text depends on whether its fields show a byte
pub ending : (fields : List (List ℕ)) → row_text default_writer fields
    ≡ row_body default_writer fields ++ line_end (not (length (row_body default_writer fields) == 0))
ending fields =
    ap (λ b. row_body default_writer fields ++ ((if b then 34 ∷ 34 ∷ [] else []) ++ 10 ∷ [])) (blank-empty fields)
    ∙ ap (λ t. row_body default_writer fields ++ t) (go (length (row_body default_writer fields) == 0))
  where
    go : (b : Bool) → ((if b then 34 ∷ 34 ∷ [] else []) ++ 10 ∷ []) ≡ line_end (not b)
    go true = refl
    go false = refl

-- a line that ends after a record's fields
pub line-ended : {A E : Type 0} (r : Result A E) (fields : List (List ℕ)) (body line : List ℕ)
    → body ≡ row_body default_writer fields → OnOk r (line ≡ body ++ line_end (not (length body == 0))) → OnOk r (line ≡ row_text default_writer fields)
line-ended (Ok a) fields body line is ended = ended ∙ ap (λ b. b ++ line_end (not (length b == 0))) is ∙ sym (ending fields)
line-ended (Err e) fields body line is ended = tt
