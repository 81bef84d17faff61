-- The lines of a text.
use Rattle.std.proofs.Common.{◌≡◌, ◌≢◌, ◌==◌, ◌+◌, ℕ, Bool, true, false, cond, List, [], ◌∷◌}
use Rattle.std.proofs.Common.{Some, None, suc, length, ◌≤◌, take, drop, refl, sym, ◌∙◌, ap, arith}
use Rattle.std.specs.Prelude.{nat_lt}
use Rattle.std.specs.List.{position, position_or_len}
use Rattle.std.proofs.lemmas.Grind.{common_steps}
use Rattle.std.proofs.lemmas.List.{drop_all, take_all}
use Rattle.statements.specs.StatementRows.{lines, onto}

-- whether a byte is a line feed
abbrev pub is_feed : ℕ → Bool
is_feed byte = byte == 10

pub lines_by : (byte : ℕ) (more : List ℕ) → lines (byte ∷ more) ≡ cond (is_feed byte) ([] ∷ lines more) (onto byte (lines more))
unfolding lines
lines_by byte more = refl

pub no_lines : lines [] ≡ []
unfolding lines
no_lines = refl

-- a text with this many bytes in its first line
abbrev pub FirstHas : List ℕ → ℕ → Type 0
FirstHas text n = lines text ≡ take n text ∷ lines (drop (n + 1) text)

fed : (byte : ℕ) (more : List ℕ) (n : ℕ) → is_feed byte ≡ true → n ≡ 0 → FirstHas (byte ∷ more) n
fed byte more n is none = rw none (lines_by byte more ∙ rw is refl)

alone : (byte : ℕ) (n : ℕ) → is_feed byte ≡ false → n ≡ 1 → FirstHas (byte ∷ []) n
alone byte n is one = rw one (lines_by byte [] ∙ rw (is, no_lines) refl)

later : (byte : ℕ) (more : List ℕ) (k n m : ℕ) → is_feed byte ≡ false → n ≡ suc k → m ≡ suc (k + 1) → FirstHas more k
    → lines (byte ∷ more) ≡ take n (byte ∷ more) ∷ lines (drop m (byte ∷ more))
later byte more k n m is one two here = rw (one, two) (lines_by byte more ∙ rw (is, here) refl)

begins : (byte : ℕ) (more : List ℕ) (at : Bool) → is_feed byte ≡ at → (more ≢ [] → FirstHas more (position_or_len is_feed more))
    → FirstHas (byte ∷ more) (position_or_len is_feed (byte ∷ more))
begins byte more true is next = fed byte more (position_or_len is_feed (byte ∷ more)) is (rw is refl)
begins byte [] false is next = alone byte (position_or_len is_feed (byte ∷ [])) is (rw is refl)
begins byte (other ∷ more) false is next =
    let k = position_or_len is_feed (other ∷ more) in
    let n : position_or_len is_feed (byte ∷ other ∷ more) ≡ 1 + k = rw is refl in
    later byte (other ∷ more) k (position_or_len is_feed (byte ∷ other ∷ more)) (position_or_len is_feed (byte ∷ other
    ∷ more) + 1) is
    (omega arith) (omega arith) (next (λ e. absurd cc))

pub first_is : (text : List ℕ) → text ≢ [] → lines text ≡ take (position_or_len is_feed text) text ∷ lines (drop
    (position_or_len is_feed text + 1) text)
first_is [] some = absurd (some refl)
first_is (byte ∷ more) some = begins byte more (is_feed byte) refl (first_is more)

-- the same at what `position` finds
pub first_at : (text : List ℕ) (n : ℕ) → n ≡ position_or_len is_feed text → text ≢ [] → lines text ≡ take n text ∷ lines
    (drop (n + 1) text)
first_at text n is some = rw is (first_is text some)

found_is : (text : List ℕ) (b : Bool) (n : ℕ) → cond b (Some (position_or_len is_feed text)) None ≡ Some n
    → n ≡ position_or_len is_feed text
found_is text true n e = cc e
found_is text false n e = cc e

past_all : (text : List ℕ) → position is_feed text ≡ None → length text ≤ position_or_len is_feed text
past_all text e = grind (arith, common_steps, e)

-- where `position` finds a line feed
pub first_found : (text : List ℕ) (n : ℕ) → position is_feed text ≡ Some n → text ≢ [] → lines text ≡ take n text ∷ lines
    (drop (n + 1) text)
first_found text n e some =
    first_at text n (found_is text (nat_lt (position_or_len is_feed text) (length text)) n e) some

-- and where it finds none
pub first_unfound : (text : List ℕ) → position is_feed text ≡ None → text ≢ []
    → lines text ≡ take (length text) text ∷ lines (drop (length text + 1) text)
first_unfound text e some =
    let n = position_or_len is_feed text in
    let past : length text ≤ n = past_all text e in
    let all : length text ≤ length text = omega arith in
    let more : length text ≤ n + 1 = omega (arith, past) in
    let over : length text ≤ length text + 1 = omega arith in
    let t : take n text ≡ take (length text) text = take_all n text past ∙ sym (take_all (length text) text all) in
    let d : drop (n + 1) text ≡ drop (length text + 1) text = drop_all (n + 1) text more ∙ sym (drop_all
    (length text + 1) text over) in
    first_is text some ∙ ap (λ l. l ∷ lines (drop (n + 1) text)) t ∙ ap (λ r. take (length text) text ∷ lines r) d

-- no byte has no line
pub lines_past : (text : List ℕ) (n : ℕ) → length text ≤ n → lines (drop n text) ≡ []
lines_past text n past = ap lines (drop_all n text past) ∙ no_lines
