-- How a writer's record grows by a field, is written, and ends.
use Rattle.std.proofs.Common.{◌≡◌, ◌∙◌, ◌++◌, ◌∷◌, [], ℕ, List, true, false, Option, Result, Ok, Err}
use Rattle.std.proofs.Common.{length, refl, sym, ap, subst, arith, append_assoc, append-nil, length-append}
use Rattle.std.specs.Prelude.{◌==◌, ◌||◌, IsErrAnd, not, if◌then◌else◌}
use Rattle.std.specs.Io.KnownBytes.{Appends}
use Rattle.std.proofs.lemmas.Bool.{ne_eqb}
use Rattle.csv.specs.Writing.{default_writer, field_text, fields_text, is_blank, next_sep, row_body, row_text}
use Rattle.csv.proofs.WriteFacts.{row-more}
use Rattle.streams.specs.RecordWriters.{CountsPut, Holds, IsReady, PutsField, line_end, separator}
use Rattle.streams.specs.Sinks.{AppendsFront}
use Rattle.streams.specs.declared.put_fault.PutFault.{PutFault}
use Rattle.streams.specs.declared.record_writer.RecordWriter.{RecordWriter}
use Rattle.streams.proofs.LineLemmas.{ending, separated}
use Rattle.streams.proofs.SinkLemmas.{Appends-none, Appends-then, AppendsFront-more, AppendsFront-then}

-- the texts of a field, and of fields
abbrev text : List ℕ → List ℕ
text field = field_text default_writer field

abbrev body : List (List ℕ) → List ℕ
body fields = row_body default_writer fields

abbrev more : List (List ℕ) → List ℕ
more fields = fields_text default_writer fields

-- the bytes that end a writer's line
abbrev ends : RecordWriter → List ℕ
ends w = line_end (w.is_begun || not (length w.line.items == 0))

-- ---- the fields of a record

-- a writer that is ready begins a record, which has no field yet
pub holds-none : (w : RecordWriter) (a : Option (List ℕ)) → IsReady w → Holds w [] a a
holds-none w a ready = record {
  front = [];
  split = sym ready.0;
  written = Appends-none a;
  begun = ready.2;
  some = ready.1;
}

-- a beginning of the record's text was written
holds-front : (w : RecordWriter) (fields : List (List ℕ)) (a b : Option (List ℕ)) (rest whole : List ℕ)
    → whole ≡ body fields ++ rest → Holds w fields a b → AppendsFront a b whole
holds-front w fields a b rest whole is held =
    let split = is ∙ ap (λ t. t ++ rest) held.split ∙ append_assoc held.front w.line.items rest in
    (held.front, w.line.items ++ rest, split, held.written)

-- the same, of the text with a field more
pub holds-begun : (w : RecordWriter) (fields : List (List ℕ)) (field : List ℕ) (a b : Option (List ℕ))
    → Holds w fields a b → AppendsFront a b (body (fields ++ field ∷ []))
holds-begun w fields field a b held = holds-front w fields a b _ _ (row-more default_writer fields field) held

-- and of the text with its end
pub holds-open : (w : RecordWriter) (fields : List (List ℕ)) (a b : Option (List ℕ))
    → Holds w fields a b → AppendsFront a b (row_text default_writer fields)
holds-open w fields a b held = holds-front w fields a b _ _ (ending fields) held

-- a field more in the line
pub holds-added : (w v : RecordWriter) (fields : List (List ℕ)) (field : List ℕ) (a b : Option (List ℕ))
    → v.line.items ≡ w.line.items ++ (separator w.has_field ++ text field) → v.has_field ≡ true → v.is_begun ≡ w.is_begun
    → Holds w fields a b → Holds v (fields ++ field ∷ []) a b
holds-added w v fields field a b line some begun held = record {
  front = held.front;
  split =
      let sep : next_sep default_writer (length fields) ≡ separator w.has_field =
      sym (separated (length fields)) ∙ ap separator (sym held.some) in
      row-more default_writer fields field ∙ ap (λ s. body fields ++ (s ++ text field)) sep
      ∙ ap (λ t. t ++ (separator w.has_field ++ text field)) held.split
      ∙ append_assoc held.front w.line.items (separator w.has_field ++ text field)
      ∙ ap (λ t. held.front ++ t) (sym line);
  written = held.written;
  begun = begun ∙ held.begun;
  some =
      let size = length-append fields (field ∷ []) in
      some ∙ ap not (sym (ne_eqb (length (fields ++ field ∷ [])) 0 (λ z. omega (arith, z, size))));
}

-- a field that wasn't added, where a beginning of the record's text was written
pub field-refused : {A : Type 0} (r : Result A PutFault) (e : PutFault) (field : List ℕ) (was is : RecordWriter)
    (old new : Option (List ℕ)) (before after : ℕ) → IsErrAnd r (λ f. f ≡ e)
    → ((fields : List (List ℕ)) (start : Option (List ℕ)) → Holds was fields start old
    → AppendsFront start new (body (fields ++ field ∷ [])))
    → CountsPut {A = A} before after (Err e) → PutsField r field was is old new before after
field-refused (Ok a) e field was is old new before after failed front counts = absurd failed
field-refused {A = A} (Err f) e field was is old new before after failed front counts = record {
  added = λ fields start held. tt;
  front = front;
  failures = subst (λ x. CountsPut {A = A} before after (Err x)) (sym failed) counts;
}

-- ---- the line

-- the line is written, and has a byte
pub holds-written : (w v : RecordWriter) (fields : List (List ℕ)) (a b c : Option (List ℕ)) → (length w.line.items ≡ 0 → ⊥)
    → v.line.items ≡ [] → v.has_field ≡ w.has_field → v.is_begun ≡ true → Appends b c w.line.items → Holds w fields a b
    → Holds v fields a c
holds-written w v fields a b c shown line some begun put held = record {
  front = held.front ++ w.line.items;
  split =
      held.split ∙ sym (append-nil (held.front ++ w.line.items)) ∙ ap (λ t. (held.front ++ w.line.items) ++ t) (sym line);
  written = Appends-then a b c held.front w.line.items held.written put;
  begun =
      let size = length-append held.front w.line.items in
      begun ∙ ap not (sym (ne_eqb (length (held.front ++ w.line.items)) 0 (λ z. shown (omega (arith, z, size)))));
  some = some ∙ held.some;
}

-- a beginning of the line is written
pub holds-line : (w : RecordWriter) (fields : List (List ℕ)) (a b c : Option (List ℕ))
    → AppendsFront b c w.line.items → Holds w fields a b → AppendsFront a c (body fields)
holds-line w fields a b c put held =
    subst (λ t. AppendsFront a c t) (sym held.split) (AppendsFront-then a b c held.front w.line.items held.written put)

-- ---- the end of a record

-- a record has shown a byte where one was written before the line, or the line has one
shown-so-far : (w : RecordWriter) (fields : List (List ℕ)) (a b : Option (List ℕ)) (held : Holds w fields a b)
    → not (length (held.front ++ w.line.items) == 0) ≡ (w.is_begun || not (length w.line.items == 0))
shown-so-far w fields a b held =
    go held.front w.line.items ∙ ap (λ x. x || not (length w.line.items == 0)) (sym held.begun)
  where
    go : (xs ys : List ℕ) → not (length (xs ++ ys) == 0) ≡ (not (length xs == 0) || not (length ys == 0))
    go [] ys = refl
    go (x ∷ xs) ys =
        rw (ne_eqb (length (x ∷ (xs ++ ys))) 0 (λ z. omega (arith, z)), ne_eqb (length (x ∷ xs)) 0 (λ z. omega (arith, z))) refl

-- the line's end is the record's
whole-text : (w : RecordWriter) (fields : List (List ℕ)) (line : List ℕ) (a b : Option (List ℕ)) (held : Holds w fields a b)
    → line ≡ w.line.items ++ ends w → held.front ++ line ≡ row_text default_writer fields
whole-text w fields line a b held is =
    ap (λ t. held.front ++ t) is ∙ sym (append_assoc held.front w.line.items (ends w))
    ∙ ap (λ x. (held.front ++ w.line.items) ++ line_end x) (sym (shown-so-far w fields a b held))
    ∙ ap (λ t. t ++ line_end (not (length t == 0))) (sym held.split) ∙ sym (ending fields)

-- the line is written with its end
pub holds-ended : (w : RecordWriter) (fields : List (List ℕ)) (line : List ℕ) (a b c : Option (List ℕ))
    → line ≡ w.line.items ++ ends w → Appends b c line → Holds w fields a b → Appends a c (row_text default_writer fields)
holds-ended w fields line a b c is put held =
    subst (λ t. Appends a c t) (whole-text w fields line a b held is) (Appends-then a b c held.front line held.written put)

-- a beginning of the line and its end is written
pub holds-ending : (w : RecordWriter) (fields : List (List ℕ)) (line : List ℕ) (a b c : Option (List ℕ))
    → line ≡ w.line.items ++ ends w → AppendsFront b c line → Holds w fields a b
    → AppendsFront a c (row_text default_writer fields)
holds-ending w fields line a b c is put held =
    subst (λ t. AppendsFront a c t) (whole-text w fields line a b held is)
    (AppendsFront-then a b c held.front line held.written put)

-- ---- beginnings of a record's text

-- the fields after the first ones
fields-append : (xs ys : List (List ℕ)) → more (xs ++ ys) ≡ more xs ++ more ys
unfolding fields_text
fields-append [] ys = refl
fields-append (x ∷ xs) ys = rw (fields-append xs ys, append_assoc (text x) (more xs) (more ys)) refl

-- a beginning of the text of the first fields is a beginning of the record's
pub body-front : (xs ys : List (List ℕ)) (a b : Option (List ℕ)) → AppendsFront a b (body xs)
    → AppendsFront a b (row_text default_writer (xs ++ ys))
body-front [] ys a b put = AppendsFront-more a b [] (row_text default_writer ys) put
body-front (x ∷ xs) ys a b put =
    let end : List ℕ = (if is_blank default_writer ((x ∷ xs) ++ ys) then 34 ∷ 34 ∷ [] else []) ++ 10 ∷ [] in
    let whole : body (x ∷ xs) ++ (more ys ++ end) ≡ row_text default_writer ((x ∷ xs) ++ ys) =
    sym (append_assoc (body (x ∷ xs)) (more ys) end)
    ∙ ap (λ t. t ++ end) (append_assoc (text x) (more xs) (more ys) ∙ ap (λ t. text x ++ t) (sym (fields-append xs ys))) in
    subst (λ t. AppendsFront a b t) whole (AppendsFront-more a b (body (x ∷ xs)) (more ys ++ end) put)
