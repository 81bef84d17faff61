-- What is read of a text after one byte more.
use Rattle.std.proofs.Common.{◌≡◌, ◌∙◌, ◌+◌, ◌-◌, ◌<◌, ◌≤◌, ℕ, zero, suc, List, ap, arith, drop, false, length, length-drop, sym, take, subst}
use Rattle.std.specs.Prelude.{◌⊎◌, slice_index}
use Rattle.std.proofs.lemmas.List.{get_or-drop}
use Rattle.std.proofs.lemmas.List.Sums.{fold_more}
use Rattle.csv.specs.declared.parser.State.TheVariants as st
use Rattle.memchr.specs.Find.{is_byte3}
use Rattle.explanations.specs.Fields.{Counted, first_cursor, moved, read}

pub read_on : (text : List ℕ) (at : ℕ) → at < length text
    → read (take (at + 1) text) ≡ moved (read (take at text)) (slice_index text at)
read_on text at less = fold_more moved first_cursor text at 0 less

-- bytes that leave what was read as it is
pub read_past : (text rest : List ℕ) (at count : ℕ) (c : Counted) → rest ≡ drop at text → count ≤ length rest
    → c ≡ read (take at text) → ((k : ℕ) → k < count → moved c (slice_index rest k) ≡ c) → c ≡ read (take (at + count) text)
read_past text rest at zero c is within before stay = before ∙ ap (λ n. read (take n text)) (omega arith)
read_past text rest at (suc n) c is within before stay =
    let size : length rest ≡ length text - at = ap length is ∙ length-drop at text in
    sym (stay n (omega arith))
    ∙ ap (λ d. moved d (slice_index rest n))
    (read_past text rest at n c is (omega (arith, within)) before (λ k less. stay k (omega (arith, less))))
    ∙ ap (moved (read (take (at + n) text))) (ap (λ r. slice_index r n) is ∙ get_or-drop at text n 0)
    ∙ sym (read_on text (at + n) (omega (arith, within, size)))
    ∙ ap (λ m. read (take m text)) (omega arith)

-- ---- a whole line

-- a byte that is neither a quote nor the end of a line
abbrev IsInner : ℕ → Type 0
IsInner byte = is_byte3 34 13 10 byte ≡ false

-- in a record outside quotes, after as many records
abbrev IsWithin : ℕ → Counted → Type 0
IsWithin records c = ((c.0 ≡ st.InField) ⊎ (c.0 ≡ st.StartField)) × (c.1 ≡ records)

begin_line : (records fields byte : ℕ) → IsInner byte → IsWithin records (moved (st.StartRecord, records, fields) byte)
begin_line records fields byte inner = grind arith

go_on : (records byte : ℕ) (c : Counted) → IsWithin records c → IsInner byte → IsWithin records (moved c byte)
go_on records byte c within inner = grind arith

end_line : (records : ℕ) (c : Counted) → IsWithin records c → moved c 10 ≡ (st.StartRecord, records + 1, 0)
end_line records c within = grind arith

module _ (text rest : List ℕ) (at records fields : ℕ) (is : rest ≡ drop at text)
    (begins : (st.StartRecord, records, fields) ≡ read (take at text)) where
  one_more : (n : ℕ) → n < length rest → read (take (at + n + 1) text) ≡ moved (read (take (at + n) text)) (slice_index rest n)
  one_more n less =
      let size : length rest ≡ length text - at = ap length is ∙ length-drop at text in
      read_on text (at + n) (omega (arith, less, size))
      ∙ ap (moved (read (take (at + n) text))) (sym (ap (λ r. slice_index r n) is ∙ get_or-drop at text n 0))

  inside : (count n : ℕ) → count < length rest → ((k : ℕ) → k < count → IsInner (slice_index rest k)) → n < count
      → IsWithin records (read (take (at + n + 1) text))
  inside count zero within inner less =
      subst (IsWithin records) (sym (one_more 0 (omega (arith, within))
      ∙ ap (λ c. moved c (slice_index rest 0)) (ap (λ n. read (take n text)) (omega arith) ∙ sym begins)))
      (begin_line records fields (slice_index rest 0) (inner 0 less))
  inside count (suc n) within inner less =
      subst (IsWithin records) (sym (one_more (suc n) (omega (arith, within, less))
      ∙ ap (λ m. moved (read (take m text)) (slice_index rest (suc n))) (omega arith)))
      (go_on records (slice_index rest (suc n)) (read (take (at + n + 1) text))
      (inside count n within inner (omega (arith, less))) (inner (suc n) less))

  -- after a line of a record without quotes
  pub line_past : (count : ℕ) → 0 < count → count < length rest → ((k : ℕ) → k < count → IsInner (slice_index rest k))
      → slice_index rest count ≡ 10 → (st.StartRecord, records + 1, 0) ≡ read (take (at + count + 1) text)
  line_past zero some within inner ends = absurd (omega (arith, some))
  line_past (suc n) some within inner ends =
      sym (one_more (suc n) within
      ∙ ap (λ b. moved (read (take (at + suc n) text)) b) ends
      ∙ ap (λ m. moved (read (take m text)) 10) (omega arith)
      ∙ end_line records (read (take (at + n + 1) text)) (inside (suc n) n within inner (omega arith)))
