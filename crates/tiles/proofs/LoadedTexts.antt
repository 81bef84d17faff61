-- The text of a part loads as its records do.
use Rattle.std.proofs.Common.{◌≡◌, ◌≢◌, ◌∙◌, ◌&&◌, ◌++◌, ◌==◌, ap, cond, eqb-true, refl, subst, sym, Bool, true, false, ℕ, List}
use Rattle.std.proofs.Common.{[], ◌∷◌}
use Rattle.std.proofs.Common.{if◌then◌else◌, map, option_map, Option, unwrap_or}
use Rattle.std.proofs.lemmas.Bool.{false≢true}
use Rattle.std.proofs.lemmas.List.Elements.{All-cons}
use Rattle.csv.specs.Reading.{strip_bom}
use Rattle.csv.specs.Writing.{default_writer, end_text, fields_text, is_blank, needs_quotes, quoted}
use Rattle.feature_table.specs.GeometryFields.{reading}
use Rattle.table_model.specs.Loading.{Record, load}
use Rattle.table_model.specs.Tokens.{begins_word}
use Rattle.tiles.specs.Copies.{lines_of, table_at}
use Rattle.tiles.specs.LoadedTexts.{BeginsWord, TextsAreLoaded}
use Rattle.tiles.specs.RecordLines.{line_of}
use Rattle.tiles.proofs.ReadBack.{tables_are_read}

-- a text whose first byte isn't that of a byte order mark has none
no_mark : (byte : ℕ) (rest : List ℕ) → (byte == 0xEF) ≡ false → strip_bom (byte ∷ rest) ≡ byte ∷ rest
unfolding strip_bom
no_mark byte [] apart = refl
no_mark byte (x ∷ []) apart = refl
no_mark byte (x ∷ y ∷ rest) apart =
    ap (λ b. if b && (x == 0xBB) && (y == 0xBF) then rest else byte ∷ x ∷ y ∷ rest) apart

-- a byte that begins a word isn't that of the mark
other_byte : (byte : ℕ) → begins_word byte ≡ true → (byte == 0xEF) ≡ false
other_byte byte word = go (byte == 0xEF) refl
  where
    go : (b : Bool) → (byte == 0xEF) ≡ b → b ≡ false
    go false is = refl
    go true is =
        let same : byte ≡ 0xEF = eqb-true byte 0xEF is in
        absurd (false≢true (subst (λ k. begins_word k ≡ true) same word))

-- so a text that begins with a line whose first field begins as a word has no mark
no_mark_before : (byte : ℕ) (bytes : List ℕ) (fields : Record) (more : List ℕ) → begins_word byte ≡ true
    → strip_bom (line_of ((byte ∷ bytes) ∷ fields) ++ more) ≡ line_of ((byte ∷ bytes) ∷ fields) ++ more
unfolding line_of
no_mark_before byte bytes fields more word = go (needs_quotes default_writer (byte ∷ bytes))
  where
    end : List ℕ
    end = (if is_blank default_writer ((byte ∷ bytes) ∷ fields) then default_writer.quote ∷ default_writer.quote ∷ [] else [])
        ++ end_text default_writer.terminator

    text : Bool → List ℕ
    text needs = ((if needs then quoted default_writer
        (byte ∷ bytes) else byte ∷ bytes) ++ fields_text default_writer fields) ++ end

    go : (needs : Bool) → strip_bom (text needs ++ more) ≡ text needs ++ more
    go true = no_mark default_writer.quote _ refl
    go false = no_mark byte _ (other_byte byte word)

pub texts_are_loaded : TextsAreLoaded
texts_are_loaded table header tables number records is begins some =
    ap (load reading table)
    (tables_are_read header tables number records is
    (All-cons (λ (fields : Record). fields ≢ []) header records (λ none. named (sym begins.3 ∙ none)) some)
    (unmarked begins))
  where
    named : (begins.0 ∷ begins.1) ∷ begins.2 ≡ [] → ⊥
    named e = cc e

    here : table_at header tables number ≡ lines_of (header ∷ records)
    here = ap (λ (o : Option (List Record)). unwrap_or (option_map (λ (l : List Record). lines_of (header ∷ l)) o) []) is

    unmarked : BeginsWord header → strip_bom (table_at header tables number) ≡ table_at header tables number
    unmarked (byte, bytes, fields, same, word) =
        subst (λ (t : List ℕ). strip_bom t ≡ t) (sym here)
        (subst (λ (h : Record). strip_bom (line_of h ++ lines_of records) ≡ line_of h ++ lines_of records) (sym same)
        (no_mark_before byte bytes fields (lines_of records) word))
