-- Runs of bytes, and the parts of a text one behind the other.
use Rattle.std.proofs.Common.{◌≡◌, refl, sym, ap, subst, ◌∙◌, ℕ, zero, suc, ◌+◌, ◌<◌, ◌==◌, Bool, true, false, List, [], ◌∷◌, ◌++◌, length, take, drop, cond, append_assoc, take-append-drop, one-add, zero-lt-suc, suc-ne-zero}
use Rattle.std.specs.List.{list_all, prefix_len}
use Rattle.std.specs.Str.{str_eq_ignore_ascii_case, str_to_ascii_lowercase}
use Rattle.std.proofs.lemmas.Bool.{true≢false, and_parts}
use Rattle.std.proofs.Math.Seq.{take-append_seam, drop-append_seam}
use Rattle.std.proofs.lemmas.Slice.Eq.{bytes_eq-Decides}
use Rattle.std.proofs.lemmas.Bool.Decides.{Decides-eqb}
use Rattle.basics.proofs.Lists.{front_passes}
use Rattle.geometry_model.specs.WellKnownText.{Rule, ◌⨾◌, Word}
use Rattle.geometry_model.specs.TextReading.{begins_with}

-- behind a byte that passes the run goes on; one that doesn't is itself what comes behind the run
stopped : (test : ℕ → Bool) (x : ℕ) (xs : List ℕ) (b : Bool) → test x ≡ b → begins_with test (drop (prefix_len test xs) xs) ≡ false
    → begins_with test (drop (cond b (1 + prefix_len test xs) 0) (x ∷ xs)) ≡ false
stopped test x xs true e stops = rw (one-add (prefix_len test xs)) stops
stopped test x xs false e stops = e

-- what comes behind the run doesn't pass it
pub stops : (test : ℕ → Bool) (xs : List ℕ) → begins_with test (drop (prefix_len test xs) xs) ≡ false
stops test [] = refl
stops test (x ∷ xs) = stopped test x xs (test x) refl (stops test xs)

-- a byte that doesn't pass ends the run before it begins
none : (test : ℕ → Bool) (x : ℕ) (xs : List ℕ) (b : Bool) → test x ≡ b → b ≡ false → cond b (1 + prefix_len test xs) 0 ≡ 0
none test x xs true e stop = absurd (true≢false stop)
none test x xs false e stop = refl

-- no run, where the first byte doesn't pass
pub no_run : (test : ℕ → Bool) (xs : List ℕ) → begins_with test xs ≡ false → prefix_len test xs ≡ 0
no_run test [] stop = refl
no_run test (x ∷ xs) stop = none test x xs (test x) refl stop

-- a byte that is the first
pub first_is : (c : ℕ) (xs : List ℕ) → begins_with (λ b. b == c) xs ≡ true → xs ≡ (c ∷ []) ++ drop 1 xs
first_is c [] e = absurd (true≢false (sym e))
first_is c (b ∷ xs) e = ap (λ x. x ∷ xs) ((Decides-eqb b c).0 e)

-- a length that isn't 0
pub some : (n : ℕ) → (n == 0) ≡ false → 0 < n
some zero e = absurd (true≢false e)
some (suc n) e = zero-lt-suc n

-- a text of no bytes is the empty one
pub nothing : (xs : List ℕ) → (length xs == 0) ≡ true → xs ≡ []
nothing [] e = refl
nothing (x ∷ xs) e = absurd (suc-ne-zero (length xs) ((Decides-eqb (length (x ∷ xs)) 0).0 e))

-- a word in any case
pub word_is : (text name : List ℕ) → str_eq_ignore_ascii_case text name ≡ true → Word name text
word_is text name e = (bytes_eq-Decides (str_to_ascii_lowercase text) (str_to_ascii_lowercase name)).0 e

-- the one text is a text of the rule and then the other
abbrev pub Took : List ℕ → Rule → List ℕ → Type 0
Took from A to = (used : List ℕ) × (from ≡ used ++ to) × A used

abbrev pub both : (xs ys zs : List ℕ) (A B : Rule) → Took xs A ys → Took ys B zs → Took xs (A ⨾ B) zs
both xs ys zs A B first rest = (
  first.0 ++ rest.0,
  (first.1 ∙ ap (λ r. first.0 ++ r) rest.1) ∙ sym (append_assoc first.0 rest.0 zs),
  (first.0, rest.0, refl, first.2, rest.2),
)

-- a run of bytes that pass
pub took_run : (test : ℕ → Bool) (xs : List ℕ) → Took xs (λ text. list_all test text ≡ true) (drop (prefix_len test xs) xs)
took_run test xs = (take (prefix_len test xs) xs, sym (take-append-drop (prefix_len test xs) xs), front_passes test xs)

-- the other way: how far a run goes, and the parts of a text taken apart

-- bytes that pass, and then one that doesn't or the end: the run is just as long as those bytes
pub run_is : (test : ℕ → Bool) (used rest : List ℕ) → list_all test used ≡ true → begins_with test rest ≡ false → prefix_len test (used ++ rest) ≡ length used
run_is test [] rest all stop = no_run test rest stop
run_is test (x ∷ xs) rest all stop = let parts = and_parts (test x) (list_all test xs) all in
    rw (parts.0, one-add (prefix_len test (xs ++ rest)), run_is test xs rest parts.1 stop) refl

-- a text cut where its run ends: the run is what passes, and the rest is what is left
pub read_run : (test : ℕ → Bool) (left used rest : List ℕ) → left ≡ used ++ rest → list_all test used ≡ true → begins_with test rest ≡ false
    → (take (prefix_len test left) left ≡ used) × (drop (prefix_len test left) left ≡ rest)
read_run test left used rest is all stop = subst (λ l. (take (prefix_len test l) l ≡ used) × (drop (prefix_len test l) l ≡ rest)) (sym is) (
  ap (λ n. take n (used ++ rest)) (run_is test used rest all stop) ∙ take-append_seam used rest,
  ap (λ n. drop n (used ++ rest)) (run_is test used rest all stop) ∙ drop-append_seam used rest,
)

-- a text of one rule and then another is cut between the two
unfoldable pub apart : (xs zs : List ℕ) (A B : Rule) → Took xs (A ⨾ B) zs → (ys : List ℕ) × Took xs A ys × Took ys B zs
apart xs zs A B t = (t.2.1 ++ zs, (t.2.0, t.1 ∙ (ap (λ u. u ++ zs) t.2.2 ∙ append_assoc t.2.0 t.2.1 zs), t.2.3), (t.2.1, refl, t.2.4))

-- a text of the rule of one byte begins with that byte
pub byte_is : (c : ℕ) (xs ys : List ℕ) → Took xs (λ text. text ≡ c ∷ []) ys → xs ≡ c ∷ ys
byte_is c xs ys t = t.1 ∙ ap (λ u. u ++ ys) t.2
