-- How the tokens of a text go on after what is at its front.
use Rattle.std.proofs.Common.{◌≡◌, ℕ, zero, suc, ◌+◌, ◌-◌, ◌<◌, ◌≤◌, Bool, List, [], ◌∷◌, length, drop, ap, ◌∙◌, sym, arith, Option, Some, None, false, ◌++◌, append_assoc, length-drop}
use Rattle.std.proofs.lemmas.List.{drop-drop}
use Rattle.table_model.specs.Tokens.{front, at_front, tokens_from, text_of, same_kind}
use Rattle.table_model.specs.declared.tokens.Token.{Token}
use Rattle.table_model.specs.declared.tokens.TokenKind.TheVariants as k
use Rattle.table_model.specs.declared.tokens.TokenKind.{TokenKind}

-- bytes that are passed over give no token, and the tokens go on at the place behind them
pub tokens_from-skip : (s : Bool) (n at : ℕ) (z : List ℕ) → n ≤ length z → tokens_from s n at z ≡ tokens_from s 0 (at + n) (drop n z)
tokens_from-skip s zero at z h = let e : at ≡ at + 0 = omega arith in ap (λ k. tokens_from s 0 k z) e
tokens_from-skip s (suc n) at [] h = absurd (omega arith)
tokens_from-skip s (suc n) at (b ∷ z) h =
    let e : at + 1 + n ≡ at + suc n = omega arith in
    tokens_from-skip s n (at + 1) z (omega arith) ∙ ap (λ k. tokens_from s 0 k (drop n z)) e

drop-cons : (n b : ℕ) (z : List ℕ) → 1 ≤ n → drop (n - 1) z ≡ drop n (b ∷ z)
drop-cons zero b z h = absurd (omega arith)
drop-cons (suc n) b z h = let e : suc n - 1 ≡ n = omega arith in ap (λ k. drop k z) e

-- the tokens of a text are what is at its front, and those of what comes behind it
tokens_from-front : (s : Bool) (at : ℕ) (z : List ℕ) → 0 < length z → 1 ≤ (front s z).1 → (front s z).1 ≤ length z
    → tokens_from s 0 at z ≡ at_front (front s z).0 (front s z).1 at z (tokens_from s 0 (at + (front s z).1) (drop (front s z).1 z))
tokens_from-front s at [] some least most = absurd (omega arith)
tokens_from-front s at (b ∷ z) some least most =
    let n : ℕ = (front s (b ∷ z)).1 in
    let e : at + 1 + (n - 1) ≡ at + n = omega arith in
    ap (λ more. at_front (front s (b ∷ z)).0 n at (b ∷ z) more)
    (tokens_from-skip s (n - 1) (at + 1) z (omega arith) ∙ ap (λ k. tokens_from s 0 k (drop (n - 1) z)) e ∙ ap (λ r. tokens_from s 0 (at + n) r) (drop-cons n b z least))

-- what the tokens from a place on are, by what is at the front there
tokens_at : (s : Bool) (at : ℕ) (text rest : List ℕ) (f : Option TokenKind × ℕ) → rest ≡ drop at text → f ≡ front s rest
    → at < length text → 1 ≤ f.1 → f.1 ≤ length rest
    → tokens_from s 0 at (drop at text) ≡ at_front f.0 f.1 at rest (tokens_from s 0 (at + f.1) (drop (at + f.1) text))
tokens_at s at text rest f here e inside least most =
    let some : 0 < length rest = omega (arith, length-drop at text, ap length here) in
    rw (← here, ← drop-drop f.1 at text, ← here) (rw e (tokens_from-front s at rest some (rw (← e) least) (rw (← e) most)))

-- one token more
pub one_more : (s : Bool) (at : ℕ) (text rest : List ℕ) (f : Option TokenKind × ℕ) (kind : TokenKind) (old new all : List Token)
    → rest ≡ drop at text → f ≡ front s rest → at < length text → 1 ≤ f.1 → f.1 ≤ length rest
    → f.0 ≡ Some kind → same_kind kind k.Bad ≡ false → new ≡ old ++ record { kind = kind; text = text_of kind f.1 rest; at = at } ∷ []
    → old ++ tokens_from s 0 at (drop at text) ≡ all → new ++ tokens_from s 0 (at + f.1) (drop (at + f.1) text) ≡ all
one_more s at text rest f kind old new all here e inside least most is good put said =
    let goes = tokens_at s at text rest f here e inside least most in
    rw (put, append_assoc) (sym (ap (λ r. old ++ r) (rw (is, good) at goes)) ∙ said)

-- white space or a comment passed over
pub none_more : (s : Bool) (at : ℕ) (text rest : List ℕ) (f : Option TokenKind × ℕ) (old all : List Token)
    → rest ≡ drop at text → f ≡ front s rest → at < length text → 1 ≤ f.1 → f.1 ≤ length rest
    → f.0 ≡ None
    → old ++ tokens_from s 0 at (drop at text) ≡ all → old ++ tokens_from s 0 (at + f.1) (drop (at + f.1) text) ≡ all
none_more s at text rest f old all here e inside least most is said =
    let goes = tokens_at s at text rest f here e inside least most in
    sym (ap (λ r. old ++ r) (rw is at goes)) ∙ said
