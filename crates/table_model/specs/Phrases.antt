-- Phrases, of which the grammars of schemas and queries are made: a phrase says which lists of tokens a rule takes.
use Rattle.std.specs.Prelude.{◌≡◌, ◌⊎◌, ℕ, true, List, [], ◌∷◌, ◌++◌}
use Rattle.table_model.specs.declared.tokens.Token.{Token}
use Rattle.table_model.specs.declared.tokens.TokenKind.{TokenKind}
use Rattle.table_model.specs.declared.tokens.TokenKind.TheVariants as k
use Rattle.table_model.specs.Texts.{same_name}

-- a rule of a grammar: the lists of tokens that it takes
abbrev pub Phrase : Type 1
Phrase = List Token → Type 0

-- exactly one token, of which the fact holds
abbrev pub IsOne : (Token → Type 0) → Phrase
IsOne P [] = ⊥
IsOne P (t ∷ []) = P t
IsOne P (t ∷ u ∷ ts) = ⊥

-- one token of a kind
abbrev pub IsToken : TokenKind → Phrase
IsToken kind = IsOne (λ t. t.kind ≡ kind)

-- tokens of the first phrase, followed by tokens of the second
infixr 11 ◌▸◌
abbrev pub ◌▸◌ : Phrase → Phrase → Phrase
P ▸ Q = λ ts. (before after : List Token) × (ts ≡ before ++ after) × P before × Q after

-- one token of a kind, or nothing
abbrev pub IsOptional : TokenKind → Phrase
IsOptional kind ts = (ts ≡ []) ⊎ IsToken kind ts

-- one part or more, with a token of this kind between neighbours
abbrev pub IsParts : {A : Type 0} → TokenKind → (A → Phrase) → A → List A → Phrase
IsParts between P x [] = P x
IsParts between P x (y ∷ ys) = P x ▸ IsToken between ▸ IsParts between P y ys

-- parts, perhaps none, each followed by the phrase `end`
abbrev pub AreEnded : {A : Type 0} → Phrase → (A → Phrase) → List A → Phrase
AreEnded end P [] = λ ts. ts ≡ []
AreEnded end P (x ∷ xs) = P x ▸ end ▸ AreEnded end P xs

-- a word that isn't reserved, in any ASCII case
abbrev pub IsWord : List ℕ → Phrase
IsWord word = IsOne (λ t. (t.kind ≡ k.Word) × (same_name t.text word ≡ true))
