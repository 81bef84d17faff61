-- What readers of tokens read: the tokens of a phrase, with others left.
use Rattle.std.proofs.Common.{◌≡◌, ℕ, Bool, true, false, if◌then◌else◌, List, [], ◌∷◌, ◌++◌, Ok, Err, refl, sym, ap, ◌∙◌, append_assoc, append-nil, rules}
use denote.Enum.Bare.{same_true}
use Rattle.table_model.specs.contracts.tokens.TokenKind.{the_type}
use Rattle.table_model.specs.declared.tokens.Token.{Token}
use Rattle.table_model.specs.declared.tokens.TokenKind.{TokenKind}
use Rattle.table_model.specs.declared.tokens.TokenKind.TheVariants as k
use Rattle.table_model.specs.Parsers.{Outcome, Parser, kind, next, sees, after, and_then, expect}
use Rattle.table_model.specs.Tokens.{same_kind}
use Rattle.table_model.specs.Phrases.{Phrase, IsToken, ◌▸◌, AreEnded}

-- ---- what a reader returns

abbrev pub IfRead : {F A : Type 0} → Outcome F A → (A → List Token → Type 0) → Type 0
IfRead (Ok p) Q = Q p.0 p.1
IfRead (Err e) Q = Unit {0}

-- what two readers in a row read, from what is known of the first's answer; a fault, here and below, has nothing to show
pub then_read : {F A B : Type 0} (r : Outcome F A) (f : A → Parser F B) (Q : A → List Token → Type 0) (R : B → List Token → Type 0)
    → ((x : A) (rest : List Token) → Q x rest → IfRead (f x rest) R) → IfRead r Q → IfRead (and_then r f) R
then_read (Ok p) f Q R g q = g p.0 p.1 q
then_read (Err e) f Q R g q = tt

-- what one of two readers reads, by the test that chooses it
pub if_read : {F A : Type 0} (b : Bool) (x y : Outcome F A) (Q : A → List Token → Type 0)
    → (b ≡ true → IfRead x Q) → (b ≡ false → IfRead y Q) → IfRead (if b then x else y) Q
if_read true x y Q f g = f refl
if_read false x y Q f g = g refl

-- what is known of an answer may be weakened
pub map_read : {F A : Type 0} (r : Outcome F A) (Q R : A → List Token → Type 0) → ((x : A) (rest : List Token) → Q x rest → R x rest) → IfRead r Q → IfRead r R
map_read (Ok p) Q R g q = g p.0 p.1 q
map_read (Err e) Q R g q = tt

eaten_by : {F A : Type 0} (b : Bool) (ts : List Token) (p q : Parser F A) (Q : A → List Token → Type 0)
    → (b ≡ true → IfRead (p (next ts)) Q) → (b ≡ false → IfRead (q ts) Q) → IfRead ((if b then p else q) (if b then next ts else ts)) Q
eaten_by true ts p q Q f g = f refl
eaten_by false ts p q Q f g = g refl

-- a reader that goes on in one way where a token of a kind is taken, and in another where none is there
pub eaten : {F A : Type 0} (wanted : TokenKind) (ts : List Token) (p q : Parser F A) (Q : A → List Token → Type 0)
    → (sees wanted ts ≡ true → IfRead (p (next ts)) Q) → (sees wanted ts ≡ false → IfRead (q ts) Q)
    → IfRead ((if sees wanted ts then p else q) (after wanted ts)) Q
unfolding after
eaten wanted ts p q Q f g = eaten_by (sees wanted ts) ts p q Q f g

-- ---- what was taken

-- the tokens of a phrase were read, and others are left
abbrev pub Took : List Token → Phrase → List Token → Type 0
Took ts P rest = (used : List Token) × (ts ≡ used ++ rest) × P used

-- the test of two kinds of token shows that they are equal
pub same : (a b : TokenKind) → same_kind a b ≡ true → a ≡ b
unfolding same_kind
same a b h = same_true the_type (search rules) a b h

-- the next token, where it is of the kind asked for, is a phrase of one; past the last token the kind is Bad, which isn't asked for
pub one : (wanted : TokenKind) (ts : List Token) → (k.Bad ≡ wanted → ⊥) → sees wanted ts ≡ true → Took ts (IsToken wanted) (next ts)
unfolding sees kind next
one wanted [] good h = absurd (good (same k.Bad wanted h))
one wanted (t ∷ ts) good h = (t ∷ [], refl, same t.kind wanted h)

-- two phrases taken one behind the other are the phrase of both
pub seq : (P Q : Phrase) (ts mid rest : List Token) → Took ts P mid → Took mid Q rest → Took ts (P ▸ Q) rest
seq P Q ts mid rest p q =
    (p.0 ++ q.0, p.1 ∙ ap (λ r. p.0 ++ r) q.1 ∙ sym (append_assoc p.0 q.0 rest), (p.0, q.0, refl, p.2, q.2))

-- a phrase that was taken may be replaced by a weaker one
pub but : (P R : Phrase) (ts rest : List Token) → Took ts P rest → ((used : List Token) → P used → R used) → Took ts R rest
but P R ts rest p f = (p.0, p.1, f p.0 p.2)

-- a reader that asks for one token takes one of its kind, or refuses
pub expect_taken : {F : Type 0} (syntax : ℕ → F) (wanted : TokenKind) (ts : List Token) → (k.Bad ≡ wanted → ⊥) → IfRead (expect syntax wanted ts) (λ x rest. Took ts (IsToken wanted) rest)
unfolding expect
expect_taken syntax wanted ts good = if_read (sees wanted ts) _ _ (λ x rest. Took ts (IsToken wanted) rest) (λ h. one wanted ts good h) (λ _. tt)

-- ---- lists

-- one more, with what comes after it
pub ended_more : {A : Type 0} (end : Phrase) (P : A → Phrase) (xs : List A) (x : A) (used more : List Token) → AreEnded end P xs used → (P x ▸ end) more
    → AreEnded end P (xs ++ x ∷ []) (used ++ more)
ended_more end P [] x used more none (a, b, e, p, q) = (a, b, ap (λ l. l ++ more) none ∙ e, p, (b, [], sym (append-nil b), q, refl))
ended_more end P (y ∷ xs) x used more (a, b, e, p, (c, d, e2, q, h)) last =
    (a, b ++ more, ap (λ l. l ++ more) e ∙ append_assoc a b more, p, (c, d ++ more, ap (λ l. l ++ more) e2 ∙ append_assoc c d more, q, ended_more end P xs x d more h last))
