-- What a reader of tokens is, and the steps that its rules are made of. A reader takes the tokens that are left, and
-- returns what it read with those that are left then, or the first fault.
use Rattle.std.specs.Prelude.{◌≡◌, ◌≢◌, ℕ, zero, suc, Bool, if◌then◌else◌, List, [], ◌∷◌, ◌++◌, length, Result, Ok, Err}
use Rattle.table_model.specs.declared.queries.Name.{Name}
use Rattle.table_model.specs.declared.tokens.Token.{Token}
use Rattle.table_model.specs.declared.tokens.TokenKind.{TokenKind}
use Rattle.table_model.specs.declared.tokens.TokenKind.TheVariants as k
use Rattle.table_model.specs.Tokens.{same_kind}

-- ---- the next of the tokens that are left

-- the kind of the next token; Bad if no token is left
unfoldable pub kind : List Token → TokenKind
kind [] = k.Bad
kind (t ∷ ts) = t.kind

-- the place of the next token in the text
unfoldable pub place : List Token → ℕ
place [] = 0
place (t ∷ ts) = t.at

-- the text of the next token
unfoldable pub spelling : List Token → List ℕ
spelling [] = []
spelling (t ∷ ts) = t.text

-- the tokens after the next one
unfoldable pub next : List Token → List Token
next [] = []
next (t ∷ ts) = ts

-- the text and the place of the next token, as a tree has them
abbrev pub written : List Token → Name
written ts = record { text = spelling ts; at = place ts }

-- whether the next token is of this kind
unfoldable pub sees : TokenKind → List Token → Bool
sees wanted ts = same_kind (kind ts) wanted

-- the tokens after the next one if it is of this kind, else all
unfoldable pub after : TokenKind → List Token → List Token
after wanted ts = if sees wanted ts then next ts else ts

-- ---- readers, with faults of a type F

-- what was read and the tokens that are left then, or a fault
abbrev pub Outcome : Type 0 → Type 0 → Type 0
Outcome F A = Result (A × List Token) F

-- a reader of some tokens
abbrev pub Parser : Type 0 → Type 0 → Type 0
Parser F A = List Token → Outcome F A

-- the next reader, which gets what was read; or the fault
abbrev pub and_then : {F A B : Type 0} → Outcome F A → (A → Parser F B) → Outcome F B
and_then (Ok p) f = f p.0 p.1
and_then (Err e) f = Err e

-- one reader, and then another that may depend on what the first read
infixl 10 ◌>>=◌
abbrev pub ◌>>=◌ : {F A B : Type 0} → Parser F A → (A → Parser F B) → Parser F B
p >>= f = λ ts. and_then (p ts) f

-- one reader, and then another
infixl 10 ◌>>◌
abbrev pub ◌>>◌ : {F A B : Type 0} → Parser F A → Parser F B → Parser F B
p >> q = p >>= (λ _. q)

-- reads nothing and returns this
abbrev pub pure : {F A : Type 0} → A → Parser F A
pure a = λ ts. Ok (a, ts)

-- a function of what a reader reads
infixr 11 ◌<$>◌
abbrev pub ◌<$>◌ : {F A B : Type 0} → (A → B) → Parser F A → Parser F B
f <$> p = p >>= (λ x. pure (f x))

-- refuses the next token: the fault at its place
abbrev pub refuse : {F A : Type 0} → (ℕ → F) → Parser F A
refuse syntax = λ ts. Err (syntax (place ts))

-- reads the next token if it is of this kind, and returns whether it is
abbrev pub eat : {F : Type 0} → TokenKind → Parser F Bool
eat wanted = λ ts. Ok (sees wanted ts, after wanted ts)

-- reads a token of this kind, or refuses the next token
unfoldable pub expect : {F : Type 0} → (ℕ → F) → TokenKind → Parser F (Unit {0})
expect syntax wanted = λ ts. if sees wanted ts then Ok (tt, next ts) else Err (syntax (place ts))

-- Further parts with a token of this kind between them, after those that were found; at most this many parts.
unfoldable pub parts_from : {F A : Type 0} → (ℕ → F) → TokenKind → Parser F A → ℕ → List A → Parser F (List A)
parts_from syntax between part zero found = refuse syntax
parts_from syntax between part (suc n) found = do
  x ← part
  more ← eat between
  if more then parts_from syntax between part n (found ++ x ∷ []) else pure (found ++ x ∷ [])

-- Parts with a token of a kind between them. There are no more parts than tokens.
abbrev pub parts : {F A : Type 0} → (ℕ → F) → TokenKind → Parser F A → List A → Parser F (List A)
parts syntax between part found = λ ts. parts_from syntax between part (length ts) found ts

-- what was read, without the tokens that are left
abbrev pub value_of : {F A : Type 0} → Outcome F A → Result A F
value_of (Ok p) = Ok p.0
value_of (Err e) = Err e

-- ---- what a function of the code that reads ensures

-- what the call returns and the tokens left after it are the reader's outcome, unless memory ran out
abbrev pub Reads : {F A : Type 0} → F → Outcome F A → Result A F → List Token → Type 0
Reads memory outcome (Ok a) new = outcome ≡ Ok (a, new)
Reads memory outcome (Err e) new = e ≢ memory → outcome ≡ Err e
