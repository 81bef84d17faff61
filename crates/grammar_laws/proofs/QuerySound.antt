-- What the readers of a query read is in its grammar.
use Rattle.std.proofs.Common.{◌≡◌, ◌⊎◌, ℕ, zero, suc, Bool, true, false, not, ◌&&◌, ◌||◌, if◌then◌else◌, ◌==◌, ℤ, List, [], ◌∷◌, ◌++◌, length, Option, Some, None, Ok, inl, inr, refl, sym, ap, subst, ◌∙◌, append_assoc, append-nil, codes}
use Rattle.std.proofs.lemmas.Bool.{eqb-true}
use Rattle.std.specs.Str.Parse.{digits_value}
use Rattle.basics.proofs.Bools.{and_second, and_first}
use Rattle.geometry_model.specs.declared.relations.Predicate.{Predicate}
use Rattle.geometry_model.specs.declared.relations.Predicate.TheVariants as p
use Rattle.table_model.specs.declared.conditions.Comparison.{Comparison}
use Rattle.table_model.specs.declared.faults.QueryFault.TheVariants as fault
use Rattle.table_model.specs.declared.queries.Explain.{Explain}
use Rattle.table_model.specs.declared.queries.Name.{Name}
use Rattle.table_model.specs.declared.queries.Selection.{Selection}
use Rattle.table_model.specs.declared.queries.Selection.TheVariants as l
use Rattle.table_model.specs.declared.queries.WrittenColumn.{WrittenColumn}
use Rattle.table_model.specs.declared.queries.WrittenCond.{WrittenCond}
use Rattle.table_model.specs.declared.queries.WrittenCond.TheVariants as c
use Rattle.table_model.specs.declared.queries.WrittenGeometry.{WrittenGeometry}
use Rattle.table_model.specs.declared.queries.WrittenGeometry.TheVariants as g
use Rattle.table_model.specs.declared.queries.WrittenItem.TheVariants as i
use Rattle.table_model.specs.declared.queries.WrittenOperand.{WrittenOperand}
use Rattle.table_model.specs.declared.queries.WrittenOperand.TheVariants as o
use Rattle.table_model.specs.declared.queries.WrittenPredicate.TheVariants as w
use Rattle.table_model.specs.declared.queries.WrittenReference.{WrittenReference}
use Rattle.table_model.specs.declared.tokens.Token.{Token}
use Rattle.table_model.specs.declared.tokens.TokenKind.{TokenKind}
use Rattle.table_model.specs.declared.tokens.TokenKind.TheVariants as k
use Rattle.table_model.specs.Parsers.{kind, place, spelling, next, written, sees, after, and_then, expect, parts_from, parts}
use Rattle.table_model.specs.QueryGrammar.{IsName, IsColumn, IsDigits, IsInteger, IsString, IsCall, IsGeometry, IsOperandFunction, IsOperand, IsComparison, function_of, IsPair, IsBool, IsNumber, IsTest, IsPredicate, IsChain, IsConjunction, IsConditionOf, IsNegationOf, IsNegation, IsCondition, IsItem, IsSelection, IsReference, IsReferences, IsSecond, IsWhere, IsRowCount, IsLimit, IsExplain, IsSelect}
use Rattle.table_model.specs.QueryReading.{Reader, Functions, name, column, calls, called_or, enclosed, string, geometry, integer, integer_value, integer_or, operand_functions, operand, comparison_of, compared, compared_by, null_test, comparison, truth_value, truth_test, truth_tested, relates, relates_by, predicate_functions, predicate, chain, conjunction, condition_of, group, negation, condition, item_functions, item, items, counted, count_function, selection, alias, reference, Second, crossed, joined_on, second, where_condition, limit_value, limit_or, limit_number, limited, says, analyzed, explained, query}
use Rattle.table_model.specs.Queries.{Condition, ConditionOperand, SelectItem, SelectQuery}
use Rattle.table_model.specs.Texts.{same_name}
use Rattle.table_model.specs.Tokens.{same_kind}
use Rattle.grammar_laws.proofs.TokenReaders.{IfRead, Took, then_read, if_read, map_read, eaten, same, one, seq, but, expect_taken}
use Rattle.table_model.specs.Phrases.{Phrase, IsOne, IsToken, ◌▸◌, IsOptional, IsParts, IsWord}

-- ---- what a reader returns

-- a reader is sound where the tokens that it takes are written in the grammar for what it returns, whatever tokens it is given
abbrev pub Sound : {A : Type 0} → Reader A → (A → Phrase) → Type 0
Sound {A} p P = (ts : List Token) → IfRead (p ts) (λ x rest. Took ts (P x) rest)

-- a token that is demanded is the one taken; where another is there the reader refuses
pub expect_sound : (wanted : TokenKind) (ts : List Token) → (k.Bad ≡ wanted → ⊥) → IfRead (expect fault.Syntax wanted ts) (λ x rest. Took ts (IsToken wanted) rest)
expect_sound = expect_taken fault.Syntax

-- ---- names and columns

-- a word that is next is a name, of its text and its place
name_taken : (ts : List Token) → sees k.Word ts ≡ true → Took ts (IsName (written ts)) (next ts)
unfolding sees kind next spelling place
name_taken [] h = absurd (let e = same k.Bad k.Word h in cc)
name_taken (t ∷ ts) h = (t ∷ [], refl, (same t.kind k.Word h, refl))

-- a name is read only where a word is next, and takes that word alone
pub name_sound : Sound name IsName
unfolding name
name_sound ts = if_read (sees k.Word ts && not (sees k.LeftParenthesis (next ts))) _ _ (λ x rest. Took ts (IsName x) rest)
    (λ h. name_taken ts (and_first _ _ h)) (λ _. tt)

-- a column is read as one name, and as two exactly where a point is behind the first
pub column_sound : Sound column IsColumn
unfolding column
column_sound ts = then_read (name ts) _ (λ x rest. Took ts (IsName x) rest) (λ x rest. Took ts (IsColumn x) rest)
    (λ first mid took. eaten k.Point mid _ _ (λ x rest. Took ts (IsColumn x) rest)
    (λ h. then_read (name (next mid)) _ (λ x rest. Took (next mid) (IsName x) rest) (λ x rest. Took ts (IsColumn x) rest)
    (λ second rest took2. but _ _ ts rest
    (seq (IsName first) (IsToken k.Point ▸ IsName second) ts mid rest took
    (seq (IsToken k.Point) (IsName second) mid (next mid) rest (one k.Point mid (λ e. cc) h) took2))
    (λ used p. inr (first, second, refl, p)))
    (name_sound (next mid)))
    (λ _. but _ _ ts mid took (λ used p. inl (first, refl, p))))
    (name_sound ts)

-- ---- first tokens

-- there is a first token, of whose kind a fact holds
abbrev pub Begins : (TokenKind → Type 0) → Phrase
Begins F ts = (t : Token) × (more : List Token) × (ts ≡ t ∷ more) × F t.kind

-- a phrase of one token begins with that token
pub one_begins : (F : TokenKind → Type 0) (P : Token → Type 0) → ((t : Token) → P t → F t.kind) → (ts : List Token) → IsOne P ts → Begins F ts
one_begins F P f [] h = absurd h
one_begins F P f (t ∷ []) h = (t, [], refl, f t h)
one_begins F P f (t ∷ u ∷ ts) h = absurd h

-- tokens begin as their front does
seq_from : (F : TokenKind → Type 0) (before after ts : List Token) → ts ≡ before ++ after → Begins F before → Begins F ts
seq_from F before after ts e (t, more, same, f) = (t, more ++ after, e ∙ ap (λ l. l ++ after) same, f)

-- two phrases in a row begin as the first does
pub seq_begins : (F : TokenKind → Type 0) (P Q : Phrase) → ((ts : List Token) → P ts → Begins F ts) → (ts : List Token) → (P ▸ Q) ts → Begins F ts
seq_begins F P Q f ts (before, after, e, p, q) = seq_from F before after ts e (f before p)

-- ---- functions

-- a token of text that is next is a string, of its text and its place
text_taken : (ts : List Token) → sees k.Text ts ≡ true → Took ts (IsString (written ts)) (next ts)
unfolding sees kind next spelling place
text_taken [] h = absurd (let e = same k.Bad k.Text h in cc)
text_taken (t ∷ ts) h = (t ∷ [], refl, (same t.kind k.Text h, refl))

-- the next token is a word, the same in any ASCII case
word_taken : (word : List ℕ) (ts : List Token) → sees k.Word ts ≡ true → same_name (spelling ts) word ≡ true → Took ts (IsWord word) (next ts)
unfolding sees kind next spelling
word_taken word [] h e = absurd (let bad = same k.Bad k.Word h in cc)
word_taken word (t ∷ ts) h e = (t ∷ [], refl, (same t.kind k.Word h, e))

-- where a function is called next, the next token is its name
function_taken : (function : List ℕ) (ts : List Token) → calls function ts ≡ true → Took ts (IsWord function) (next ts)
unfolding calls
function_taken function ts h = word_taken function ts (and_first _ _ (and_first _ _ h)) (and_second _ _ h)

-- each of some functions, where it is called next, is read so
abbrev pub AllRead : {A : Type 0} → Functions A → List Token → (A → List Token → Type 0) → Type 0
AllRead [] ts Q = Unit {0}
AllRead (f ∷ more) ts Q = (calls f.0 ts ≡ true → IfRead (f.1 (next ts)) Q) × AllRead more ts Q

-- a choice by name is sound where the reader of each function is, and the one for no function: it returns as one of them
called_sound : {A : Type 0} (functions : Functions A) (other : Reader A) (ts : List Token) (Q : A → List Token → Type 0)
    → AllRead functions ts Q → IfRead (other ts) Q → IfRead (called_or functions other ts) Q
called_sound [] other ts Q each h = h
called_sound (f ∷ more) other ts Q each h = if_read (calls f.0 ts) _ _ Q each.0 (λ _. called_sound more other ts Q each.1 h)

-- what is read in parentheses has both of them around it, since the reader demands them
enclosed_sound : {A : Type 0} (inside : Reader A) (P : A → Phrase) → Sound inside P
    → Sound (enclosed inside) (λ x. IsToken k.LeftParenthesis ▸ P x ▸ IsToken k.RightParenthesis)
enclosed_sound {A} inside P sound ts =
    let Q : A → List Token → Type 0 = λ x rest. Took ts (IsToken k.LeftParenthesis ▸ P x ▸ IsToken k.RightParenthesis) rest in
    then_read (expect fault.Syntax k.LeftParenthesis ts) _ (λ u rest. Took ts (IsToken k.LeftParenthesis) rest) Q
    (λ u ts1 p1. then_read (inside ts1) _ (λ x rest. Took ts1 (P x) rest) Q
    (λ x ts2 p2. then_read (expect fault.Syntax k.RightParenthesis ts2) _ (λ u rest. Took ts2 (IsToken k.RightParenthesis) rest) Q
    (λ u2 ts3 p3. seq (IsToken k.LeftParenthesis) (P x ▸ IsToken k.RightParenthesis) ts ts1 ts3 p1 (seq (P x) (IsToken k.RightParenthesis) ts1 ts2 ts3 p2 p3))
    (expect_sound k.RightParenthesis ts2 (λ e. cc)))
    (sound ts1))
    (expect_sound k.LeftParenthesis ts (λ e. cc))

-- a function's name and what its parentheses enclose, one behind the other, are its call
call_sound : {A : Type 0} (function : List ℕ) (inside : Reader A) (P : A → Phrase) (ts : List Token) → Sound inside P → calls function ts ≡ true
    → IfRead (enclosed inside (next ts)) (λ x rest. Took ts (IsCall function (P x)) rest)
call_sound {A} function inside P ts sound h =
    map_read (enclosed inside (next ts)) (λ x rest. Took (next ts) (IsToken k.LeftParenthesis ▸ P x ▸ IsToken k.RightParenthesis) rest) (λ x rest. Took ts (IsCall function (P x)) rest)
    (λ x rest q. seq (IsWord function) (IsToken k.LeftParenthesis ▸ P x ▸ IsToken k.RightParenthesis) ts (next ts) rest (function_taken function ts h) q)
    (enclosed_sound inside P sound (next ts))

-- what is read, made of what a phrase says
abbrev pub IsMade : {A B : Type 0} → (B → A) → (B → Phrase) → A → Phrase
IsMade {A} {B} f P x ts = (y : B) × (x ≡ f y) × P y ts

-- a tree that is made of what was read is written with the same tokens
made_sound : {A B : Type 0} (f : B → A) (p : Reader B) (P : B → Phrase) (ts : List Token) → Sound p P → IfRead (and_then (p ts) (λ y rest. Ok (f y, rest))) (λ x rest. Took ts (IsMade f P x) rest)
made_sound f p P ts sound = then_read (p ts) _ (λ y rest. Took ts (P y) rest) (λ x rest. Took ts (IsMade f P x) rest)
    (λ y rest q. but _ _ ts rest q (λ used h. (y, refl, h))) (sound ts)

-- what a call is made of is outside of it as well
call_made : {A B : Type 0} (function : List ℕ) (f : B → A) (P : B → Phrase) (x : A) (ts : List Token) → IsCall function (IsMade f P x) ts
    → (y : B) × (x ≡ f y) × IsCall function (P y) ts
call_made function f P x ts (a, b, e, word, (a1, b1, e1, left, (a2, b2, e2, (y, is, p), right))) =
    (y, is, (a, b, e, word, (a1, b1, e1, left, (a2, b2, e2, p, right))))

-- a string is read only where a token of text is next, and takes that token alone
string_sound : Sound string IsString
unfolding string
string_sound ts = if_read (sees k.Text ts) _ _ (λ x rest. Took ts (IsString x) rest) (λ h. text_taken ts h) (λ _. tt)

-- a geometry is read as a call of ST_GeomFromText where that is called next, and else as a column
geometry_sound : Sound geometry IsGeometry
unfolding geometry
geometry_sound ts =
    let Q : WrittenGeometry → List Token → Type 0 = λ x rest. Took ts (IsGeometry x) rest in
    if_read (calls (codes "ST_GeomFromText") ts) _ _ Q
    (λ h. map_read _ (λ x rest. Took ts (IsCall (codes "ST_GeomFromText") (IsMade g.FromText IsString x)) rest) Q
    (λ x rest q. but _ _ ts rest q (λ used p. inr (call_made (codes "ST_GeomFromText") g.FromText IsString x used p)))
    (call_sound (codes "ST_GeomFromText") _ (IsMade g.FromText IsString) ts (λ l. made_sound g.FromText string IsString l string_sound) h))
    (λ _. map_read _ (λ x rest. Took ts (IsMade g.Column IsColumn x) rest) Q (λ x rest q. but _ _ ts rest q (λ used p. inl p)) (made_sound g.Column column IsColumn ts column_sound))

-- a kind that an operand begins with
abbrev pub BeginsOperand : TokenKind → Type 0
BeginsOperand kind = (same_kind kind k.Not ≡ false) × (same_kind kind k.LeftParenthesis ≡ false)

kind_begins : (kind known : TokenKind) → kind ≡ known → BeginsOperand known → BeginsOperand kind
kind_begins kind known e h = rw e h

-- An operand begins neither with NOT nor with `(`, so it isn't taken for a nested condition; for each form of it. A column begins
-- with a word
pub column_begins : (x : WrittenColumn) (ts : List Token) → IsColumn x ts → Begins BeginsOperand ts
unfolding same_kind
column_begins x ts (inl (only, e, p)) = one_begins BeginsOperand _ (λ t q. kind_begins t.kind k.Word q.0 (refl, refl)) ts p
column_begins x ts (inr (first, second, e, p)) =
    seq_begins BeginsOperand _ _ (one_begins BeginsOperand _ (λ t q. kind_begins t.kind k.Word q.0 (refl, refl))) ts p

-- an integer begins with digits or with a sign
pub integer_begins : (n : ℤ) (ts : List Token) → IsInteger n ts → Begins BeginsOperand ts
unfolding same_kind
integer_begins n ts (inl p) = one_begins BeginsOperand _ (λ t q. kind_begins t.kind k.Integer q.0 (refl, refl)) ts p
integer_begins n ts (inr (inl p)) = seq_begins BeginsOperand _ _ (one_begins BeginsOperand _ (λ t q. kind_begins t.kind k.Plus q (refl, refl))) ts p
integer_begins n ts (inr (inr p)) = seq_begins BeginsOperand _ _ (one_begins BeginsOperand _ (λ t q. kind_begins t.kind k.Minus q (refl, refl))) ts p

-- tokens are at the place of their first one, whatever follows
pub place_is : (used rest : List Token) → Begins BeginsOperand used → place (used ++ rest) ≡ place used
unfolding place
place_is used rest (t, more, e, f) = rw e refl

-- what begins with a word, such as the call of a function
pub word_begins : (word : List ℕ) (Q : Phrase) (ts : List Token) → (IsWord word ▸ Q) ts → Begins BeginsOperand ts
unfolding same_kind
word_begins word Q ts p = seq_begins BeginsOperand (IsWord word) Q (one_begins BeginsOperand _ (λ t q. kind_begins t.kind k.Word q.0 (refl, refl))) ts p

-- ---- operands

-- an integer was read, which the phrase names
abbrev pub TookInteger : (A : Type 0) → List Token → (ℤ → Phrase) → WrittenOperand A → List Token → Type 0
TookInteger A ts P x rest = (n : ℤ) × (x ≡ o.Integer n) × Took ts (P n) rest

-- a token of digits is the integer that was read; where its number isn't within 64 bits nothing was read
digits_taken : (A : Type 0) (negative : Bool) (ts : List Token) (v : Option ℤ) → sees k.Integer ts ≡ true → integer_value negative (spelling ts) ≡ v
    → IfRead {A = WrittenOperand A} (integer_or v (place ts) (next ts)) (TookInteger A ts (IsDigits negative))
unfolding sees kind next spelling
digits_taken A negative ts None h e = tt
digits_taken A negative [] (Some n) h e = absurd (let bad = same k.Bad k.Integer h in cc)
digits_taken A negative (t ∷ ts) (Some n) h e = (n, refl, (t ∷ [], refl, (same t.kind k.Integer h, e)))

-- an integer is read only where digits are next, and takes that token alone
digits_sound : (A : Type 0) (negative : Bool) (ts : List Token)
    → IfRead {A = WrittenOperand A} (integer negative ts) (TookInteger A ts (IsDigits negative))
unfolding integer
digits_sound A negative ts = if_read (sees k.Integer ts) _ _ _ (λ h. digits_taken A negative ts (integer_value negative (spelling ts)) h refl) (λ _. tt)

-- digits after a sign
signed_sound : (A : Type 0) (sign : TokenKind) (negative : Bool) (ts : List Token) → (k.Bad ≡ sign → ⊥) → sees sign ts ≡ true
    → IfRead {A = WrittenOperand A} (integer negative (next ts)) (TookInteger A ts (λ n. IsToken sign ▸ IsDigits negative n))
signed_sound A sign negative ts good h = map_read (integer negative (next ts)) (TookInteger A (next ts) (IsDigits negative)) (TookInteger A ts (λ n. IsToken sign ▸ IsDigits negative n))
    (λ x rest q. (q.0, q.1, seq (IsToken sign) (IsDigits negative q.0) ts (next ts) rest (one sign ts good h) q.2))
    (digits_sound A negative (next ts))

-- what is read for a call has the place of the call
placed : {A B : Type 0} (function : List ℕ) (f : ℕ → B → A) (P : B → Phrase) (R : A → Phrase) (inside : Reader A) (ts : List Token)
    → Sound inside (IsMade (f (place ts)) P) → calls function ts ≡ true
    → ((x : A) (used : List Token) → ((y : B) × (x ≡ f (place used) y) × IsCall function (P y) used) → R x used)
    → IfRead (enclosed inside (next ts)) (λ x rest. Took ts (R x) rest)
placed {A} function f P R inside ts sound h to =
    map_read (enclosed inside (next ts)) (λ x rest. Took ts (IsCall function (IsMade (f (place ts)) P x)) rest) (λ x rest. Took ts (R x) rest)
    (λ x rest q. here x rest q.0 q.1 q.2)
    (call_sound function inside (IsMade (f (place ts)) P) ts sound h)
  where
    here : (x : A) (rest used : List Token) → ts ≡ used ++ rest → IsCall function (IsMade (f (place ts)) P x) used → Took ts (R x) rest
    here x rest used e q =
        let made = call_made function (f (place ts)) P x used q in
        let at : place ts ≡ place used = ap place e ∙ place_is used rest (word_begins function _ used q) in
        (used, e, to x used (made.0, made.1 ∙ ap (λ n. f n made.0) at, made.2))

-- an operand that is read where no function is called is a column
plain_operand_sound : (ts : List Token)
    → IfRead (and_then (column ts) (λ x rest. Ok (o.Column x, rest))) (λ (x : ConditionOperand) rest. Took ts (IsOperand x) rest)
plain_operand_sound ts = then_read (column ts) _ (λ x rest. Took ts (IsColumn x) rest) (λ (x : ConditionOperand) rest. Took ts (IsOperand x) rest)
    (λ x rest q. but _ _ ts rest q (λ used p. inl (x, refl, p))) (column_sound ts)

-- ST_AsText and ST_Dimension are read with a geometry, at the place of the call
operand_called : (ts : List Token) → AllRead (operand_functions (place ts)) ts (λ x rest. Took ts (IsOperand x) rest)
operand_called ts = (
  λ h. placed (codes "ST_AsText") o.AsText IsGeometry IsOperand _ ts (λ l. made_sound (o.AsText (place ts)) geometry IsGeometry l geometry_sound) h
      (λ x used p. inr (inr (inr (inr (inl p))))),
  (
    λ h. placed (codes "ST_Dimension") o.Dimension IsGeometry IsOperand _ ts (λ l. made_sound (o.Dimension (place ts)) geometry IsGeometry l geometry_sound) h
        (λ x used p. inr (inr (inr (inr (inr p))))),
    tt,
  ),
)

-- the kind of the next token chooses how an operand is read, and each choice is one alternative of its rule
pub operand_sound : Sound operand IsOperand
unfolding operand
operand_sound ts =
    let A : Type 0 = WrittenGeometry in
    let Q : ConditionOperand → List Token → Type 0 = λ x rest. Took ts (IsOperand x) rest in
    if_read (sees k.Null ts) _ _ Q (λ h. but _ _ ts (next ts) (one k.Null ts (λ e. cc) h) (λ used p. inr (inr (inr (inl (refl, p))))))
    (λ _. if_read (sees k.Text ts) _ _ Q (λ h. but _ _ ts (next ts) (text_taken ts h) (λ used p. inr (inr (inl (written ts, refl, p)))))
    (λ _. if_read (sees k.Plus ts) _ _ Q (λ h. map_read (integer false (next ts)) (TookInteger A ts (λ n. IsToken k.Plus ▸ IsDigits false n)) Q (λ x rest q. but _ _ ts rest q.2 (λ used p. inr (inl (q.0, q.1, inr (inl p))))) (signed_sound A k.Plus false ts (λ e. cc) h))
    (λ _. if_read (sees k.Minus ts) _ _ Q (λ h. map_read (integer true (next ts)) (TookInteger A ts (λ n. IsToken k.Minus ▸ IsDigits true n)) Q (λ x rest q. but _ _ ts rest q.2 (λ used p. inr (inl (q.0, q.1, inr (inr p))))) (signed_sound A k.Minus true ts (λ e. cc) h))
    (λ _. if_read (sees k.Integer ts) _ _ Q (λ h. map_read (integer false ts) (TookInteger A ts (IsDigits false)) Q (λ x rest q. but _ _ ts rest q.2 (λ used p. inr (inl (q.0, q.1, inl p)))) (digits_sound A false ts))
    (λ _. called_sound (operand_functions (place ts)) (λ us. and_then (column us) (λ x rest. Ok (o.Column x, rest))) ts Q (operand_called ts) (plain_operand_sound ts))))))

-- a function that is an operand begins with its name
operand_function_begins : (x : ConditionOperand) (ts : List Token) → IsOperandFunction x ts → Begins BeginsOperand ts
operand_function_begins x ts (inl (argument, e, p)) = word_begins (codes "ST_AsText") _ ts p
operand_function_begins x ts (inr (argument, e, p)) = word_begins (codes "ST_Dimension") _ ts p

-- each alternative of an operand begins with a word, digits, a sign, a string or NULL
pub operand_begins : (x : ConditionOperand) (ts : List Token) → IsOperand x ts → Begins BeginsOperand ts
unfolding same_kind
operand_begins x ts (inl (column, e, p)) = column_begins column ts p
operand_begins x ts (inr (inl (n, e, p))) = integer_begins n ts p
operand_begins x ts (inr (inr (inl (text, e, p)))) = one_begins BeginsOperand _ (λ t q. kind_begins t.kind k.Text q.0 (refl, refl)) ts p
operand_begins x ts (inr (inr (inr (inl (e, p))))) = one_begins BeginsOperand _ (λ t q. kind_begins t.kind k.Null q (refl, refl)) ts p
operand_begins x ts (inr (inr (inr (inr p)))) = operand_function_begins x ts p

-- ---- predicates

-- a comparison's sign and right side were read
abbrev pub TookCompared : ℕ → ConditionOperand → List Token → Condition → List Token → Type 0
TookCompared at left ts x rest =
    (comparison : Comparison) × (right : ConditionOperand) × (x ≡ c.Compare at comparison left right) × Took ts (IsComparison comparison ▸ IsOperand right) rest

-- NULL or NOT NULL was read
abbrev pub TookNull : {A : Type 0} → WrittenOperand A → List Token → WrittenCond A → List Token → Type 0
TookNull left ts x rest = ((x ≡ c.IsNull left) × Took ts (IsToken k.Null) rest) ⊎ ((x ≡ c.Not (c.IsNull left)) × Took ts (IsToken k.Not ▸ IsToken k.Null) rest)

-- the next token is the sign of a comparison
pub comparison_taken : (ts : List Token) (comparison : Comparison) → comparison_of (kind ts) ≡ Some comparison → Took ts (IsComparison comparison) (next ts)
unfolding kind next
comparison_taken [] comparison h = absurd (cc)
comparison_taken (t ∷ ts) comparison h = (t ∷ [], refl, h)

-- behind the left side of a comparison, a sign and an operand are read; where no sign is there the reader refuses
compared_sound : (at : ℕ) (left : ConditionOperand) (ts : List Token) (v : Option Comparison) → comparison_of (kind ts) ≡ v
    → IfRead (compared_by at left v ts) (TookCompared at left ts)
compared_sound at left ts None e = tt
compared_sound at left ts (Some comparison) e = then_read (operand (next ts)) _ (λ x rest. Took (next ts) (IsOperand x) rest) _
    (λ right rest q. (comparison, right, refl, seq (IsComparison comparison) (IsOperand right) ts (next ts) rest (comparison_taken ts comparison e) q))
    (operand_sound (next ts))

-- behind IS, NULL is read, and the tree is negated exactly where NOT comes before it
null_sound : {A : Type 0} (left : WrittenOperand A) (ts : List Token)
    → IfRead (null_test left ts) (TookNull left ts)
unfolding null_test after
null_sound {A} left ts = go (sees k.Not ts) refl
  where
    go : (b : Bool) → sees k.Not ts ≡ b → IfRead (and_then (expect fault.Syntax k.Null (if b then next ts else ts)) (λ _ rest. Ok (if b then c.Not (c.IsNull left) else c.IsNull left, rest))) (TookNull left ts)
    go true h = then_read (expect fault.Syntax k.Null (next ts)) _ (λ x rest. Took (next ts) (IsToken k.Null) rest) _
        (λ x rest q. inr (refl, seq (IsToken k.Not) (IsToken k.Null) ts (next ts) rest (one k.Not ts (λ e. cc) h) q)) (expect_sound k.Null (next ts) (λ e. cc))
    go false h = then_read (expect fault.Syntax k.Null ts) _ (λ x rest. Took ts (IsToken k.Null) rest) _
        (λ x rest q. inl (refl, q)) (expect_sound k.Null ts (λ e. cc))

-- an operand, a sign and an operand are a predicate, which is at the place of the first
compare_taken : (ts mid rest : List Token) (left : ConditionOperand) (x : Condition)
    → Took ts (IsOperand left) mid → TookCompared (place ts) left mid x rest → Took ts (IsPredicate x) rest
compare_taken ts mid rest left x took (comparison, right, e, q) =
    let all = seq (IsOperand left) (IsComparison comparison ▸ IsOperand right) ts mid rest took q in
    let here : place ts ≡ place all.0 = ap place all.1 ∙ place_is all.0 rest (seq_begins BeginsOperand (IsOperand left) (IsComparison comparison ▸ IsOperand right) (operand_begins left) all.0 all.2) in
    (all.0, all.1, inl (comparison, left, right, e ∙ ap (λ at. c.Compare at comparison left right) here, all.2))

-- an operand with IS NULL or IS NOT NULL is a predicate
null_taken : (ts mid rest : List Token) (left : ConditionOperand) (x : Condition)
    → Took ts (IsOperand left) mid → sees k.Is mid ≡ true → TookNull left (next mid) x rest → Took ts (IsPredicate x) rest
null_taken ts mid rest left x took h (inl (e, q)) =
    but _ _ ts rest (seq (IsOperand left) (IsToken k.Is ▸ IsToken k.Null) ts mid rest took (seq (IsToken k.Is) (IsToken k.Null) mid (next mid) rest (one k.Is mid (λ e. cc) h) q))
    (λ used p. inr (inl (left, e, p)))
null_taken ts mid rest left x took h (inr (e, q)) =
    but _ _ ts rest (seq (IsOperand left) (IsToken k.Is ▸ IsToken k.Not ▸ IsToken k.Null) ts mid rest took (seq (IsToken k.Is) (IsToken k.Not ▸ IsToken k.Null) mid (next mid) rest (one k.Is mid (λ e. cc) h) q))
    (λ used p. inr (inr (inl (left, e, p))))

-- IS behind an operand separates a test for NULL from a comparison, and both are predicates
comparison_sound : Sound comparison IsPredicate
unfolding comparison compared
comparison_sound ts =
    let Q : Condition → List Token → Type 0 = λ x rest. Took ts (IsPredicate x) rest in
    then_read (operand ts) _ (λ x rest. Took ts (IsOperand x) rest) Q
    (λ left mid took. eaten k.Is mid _ _ Q
    (λ h. map_read (null_test left (next mid)) (TookNull left (next mid)) Q
    (λ x rest q. null_taken ts mid rest left x took h q) (null_sound left (next mid)))
    (λ _. map_read (compared_by (place ts) left (comparison_of (kind mid)) mid) (TookCompared (place ts) left mid) Q
    (λ x rest q. compare_taken ts mid rest left x took q) (compared_sound (place ts) left mid (comparison_of (kind mid)) refl)))
    (operand_sound ts)

-- ---- predicates that are functions

-- a token of digits with this value is that number
number_taken : (n : ℕ) (ts : List Token) → sees k.Integer ts ≡ true → (digits_value 10 (spelling ts) == n) ≡ true → Took ts (IsNumber n) (next ts)
unfolding sees kind next spelling
number_taken n [] h e = absurd (let bad = same k.Bad k.Integer h in cc)
number_taken n (t ∷ ts) h e = (t ∷ [], refl, (same t.kind k.Integer h, eqb-true _ _ e))

-- '1' or '0' was read
abbrev pub TookValue : {A : Type 0} → WrittenCond A → List Token → WrittenCond A → List Token → Type 0
TookValue bool ts x rest = ((x ≡ bool) × Took ts (IsNumber 1) rest) ⊎ ((x ≡ c.Not bool) × Took ts (IsNumber 0) rest)

-- a predicate that is a function is compared with 1, which means it, or with 0, which means its NOT
value_sound : {A : Type 0} (bool : WrittenCond A) (ts : List Token) → IfRead (truth_value bool ts) (TookValue bool ts)
unfolding truth_value
value_sound bool ts = if_read (sees k.Integer ts && digits_value 10 (spelling ts) == 1) _ _ (TookValue bool ts)
    (λ h. inl (refl, number_taken 1 ts (and_first _ _ h) (and_second _ _ h)))
    (λ _. if_read (sees k.Integer ts && digits_value 10 (spelling ts) == 0) _ _ (TookValue bool ts)
    (λ h. inr (refl, number_taken 0 ts (and_first _ _ h) (and_second _ _ h))) (λ _. tt))

-- '=' and such a number behind it are the test
value_taken : {A : Type 0} (bool x : WrittenCond A) (ts rest : List Token) → sees k.Equal ts ≡ true → TookValue bool (next ts) x rest → Took ts (IsTest bool x) rest
value_taken bool x ts rest h (inl (e, q)) = but _ _ ts rest (seq (IsToken k.Equal) (IsNumber 1) ts (next ts) rest (one k.Equal ts (λ e. cc) h) q) (λ used p. inr (inl (e, p)))
value_taken bool x ts rest h (inr (e, q)) = but _ _ ts rest (seq (IsToken k.Equal) (IsNumber 0) ts (next ts) rest (one k.Equal ts (λ e. cc) h) q) (λ used p. inr (inr (e, p)))

-- the test is read exactly where '=' is next; else no token is taken
test_sound : {A : Type 0} (bool : WrittenCond A) → Sound (truth_test bool) (IsTest bool)
unfolding truth_test
test_sound {A} bool ts =
    let Q : WrittenCond A → List Token → Type 0 = λ x rest. Took ts (IsTest bool x) rest in
    eaten k.Equal ts _ _ Q
    (λ h. map_read (truth_value bool (next ts)) (TookValue bool (next ts)) Q (λ x rest q. value_taken bool x ts rest h q) (value_sound bool (next ts)))
    (λ _. ([], refl, inl (refl, refl)))

-- a predicate was called and compared with 1 or 0, or with nothing
called_predicate : (inside : Reader Condition) (ts : List Token)
    → IfRead (enclosed inside (next ts)) (λ x rest. Took ts (IsBool x) rest)
    → IfRead (truth_tested inside (next ts)) (λ x rest. Took ts (IsPredicate x) rest)
called_predicate inside ts called = then_read (enclosed inside (next ts)) _ (λ x rest. Took ts (IsBool x) rest) (λ x rest. Took ts (IsPredicate x) rest)
    (λ bool mid took. map_read (truth_test bool mid) (λ x rest. Took mid (IsTest bool x) rest) (λ x rest. Took ts (IsPredicate x) rest)
    (λ x rest q. but _ _ ts rest (seq (IsBool bool) (IsTest bool x) ts mid rest took q) (λ used p. inr (inr (inr (bool, p))))) (test_sound bool mid))
    called

-- two geometries
abbrev pub Two : Type 0
Two = WrittenGeometry × WrittenGeometry

-- two geometries with a comma between them
abbrev pub IsTwo : Two → Phrase
IsTwo two = IsPair two.0 two.1

-- two geometries with a pattern
abbrev pub Three : Type 0
Three = WrittenGeometry × WrittenGeometry × Name

-- two geometries and the text of a pattern, with commas between them
abbrev pub IsThree : Three → Phrase
IsThree three = IsGeometry three.0 ▸ IsToken k.Comma ▸ IsGeometry three.1 ▸ IsToken k.Comma ▸ IsString three.2

-- the trees of predicates of two geometries
abbrev pub named : Predicate → ℕ → Two → Condition
named predicate at two = c.Relates at (w.Named predicate) two.0 two.1

-- the tree of ST_Relate
abbrev pub patterned : ℕ → Three → Condition
patterned at three = c.Relates at (w.Relate three.2) three.0 three.1

-- the arguments that are read for a named predicate are two geometries with a comma between
relates_sound : (at : ℕ) (predicate : Predicate) → Sound (relates at predicate) (IsMade (named predicate at) IsTwo)
unfolding relates
relates_sound at predicate ts =
    let Q : Condition → List Token → Type 0 = λ x rest. Took ts (IsMade (named predicate at) IsTwo x) rest in
    then_read (geometry ts) _ (λ x rest. Took ts (IsGeometry x) rest) Q
    (λ a ts1 p1. then_read (expect fault.Syntax k.Comma ts1) _ (λ u rest. Took ts1 (IsToken k.Comma) rest) Q
    (λ u ts2 p2. then_read (geometry ts2) _ (λ x rest. Took ts2 (IsGeometry x) rest) Q
    (λ b ts3 p3. but _ _ ts ts3 (seq (IsGeometry a) (IsToken k.Comma ▸ IsGeometry b) ts ts1 ts3 p1 (seq (IsToken k.Comma) (IsGeometry b) ts1 ts2 ts3 p2 p3))
    (λ used p. ((a, b), refl, p)))
    (geometry_sound ts2))
    (expect_sound k.Comma ts1 (λ e. cc)))
    (geometry_sound ts)

-- the arguments that are read for ST_Relate are two geometries and a string, with commas between
relates_by_sound : (at : ℕ) → Sound (relates_by at) (IsMade (patterned at) IsThree)
unfolding relates_by
relates_by_sound at ts =
    let Q : Condition → List Token → Type 0 = λ x rest. Took ts (IsMade (patterned at) IsThree x) rest in
    then_read (geometry ts) _ (λ x rest. Took ts (IsGeometry x) rest) Q
    (λ a ts1 p1. then_read (expect fault.Syntax k.Comma ts1) _ (λ u rest. Took ts1 (IsToken k.Comma) rest) Q
    (λ u ts2 p2. then_read (geometry ts2) _ (λ x rest. Took ts2 (IsGeometry x) rest) Q
    (λ b ts3 p3. then_read (expect fault.Syntax k.Comma ts3) _ (λ u rest. Took ts3 (IsToken k.Comma) rest) Q
    (λ u2 ts4 p4. then_read (string ts4) _ (λ x rest. Took ts4 (IsString x) rest) Q
    (λ pattern ts5 p5. but _ _ ts ts5
    (seq (IsGeometry a) (IsToken k.Comma ▸ IsGeometry b ▸ IsToken k.Comma ▸ IsString pattern) ts ts1 ts5 p1
    (seq (IsToken k.Comma) (IsGeometry b ▸ IsToken k.Comma ▸ IsString pattern) ts1 ts2 ts5 p2
    (seq (IsGeometry b) (IsToken k.Comma ▸ IsString pattern) ts2 ts3 ts5 p3 (seq (IsToken k.Comma) (IsString pattern) ts3 ts4 ts5 p4 p5))))
    (λ used p. ((a, b, pattern), refl, p)))
    (string_sound ts4))
    (expect_sound k.Comma ts3 (λ e. cc)))
    (geometry_sound ts2))
    (expect_sound k.Comma ts1 (λ e. cc)))
    (geometry_sound ts)

-- a call of a predicate by its name, with its test, is a predicate of the two geometries
named_sound : (predicate : Predicate) (function : List ℕ) (ts : List Token) → function_of predicate ≡ Some function → calls function ts ≡ true
    → IfRead (truth_tested (relates (place ts) predicate) (next ts)) (λ x rest. Took ts (IsPredicate x) rest)
named_sound predicate function ts names h = called_predicate (relates (place ts) predicate) ts
    (placed function (named predicate) IsTwo IsBool (relates (place ts) predicate) ts (relates_sound (place ts) predicate) h
    (λ x used p. inl (predicate, function, p.0.0, p.0.1, names, p.1, p.2)))

-- a call of ST_Relate, with its test, is a predicate of two geometries by a pattern
patterned_sound : (ts : List Token) → calls (codes "ST_Relate") ts ≡ true → IfRead (truth_tested (relates_by (place ts)) (next ts)) (λ x rest. Took ts (IsPredicate x) rest)
patterned_sound ts h = called_predicate (relates_by (place ts)) ts
    (placed (codes "ST_Relate") patterned IsThree IsBool (relates_by (place ts)) ts (relates_by_sound (place ts)) h
    (λ x used p. inr (inl (p.0.0, p.0.1, p.0.2, p.1, p.2))))

-- what reads the argument of ST_IsEmpty
abbrev pub empties : ℕ → Reader Condition
empties at = λ l. and_then (geometry l) (λ y rest. Ok (c.IsEmpty at y, rest))

-- a call of ST_IsEmpty, with its test, is a predicate of one geometry
empty_sound : (ts : List Token) → calls (codes "ST_IsEmpty") ts ≡ true → IfRead (truth_tested (empties (place ts)) (next ts)) (λ x rest. Took ts (IsPredicate x) rest)
empty_sound ts h = called_predicate (empties (place ts)) ts
    (placed (codes "ST_IsEmpty") c.IsEmpty IsGeometry IsBool (empties (place ts)) ts (λ l. made_sound (c.IsEmpty (place ts)) geometry IsGeometry l geometry_sound) h
    (λ x used p. inr (inr p)))

-- each function that is a predicate is read as the grammar says
predicate_called : (ts : List Token) → AllRead (predicate_functions (place ts)) ts (λ x rest. Took ts (IsPredicate x) rest)
predicate_called ts = (
  named_sound p.Equals _ ts refl,
  (
    named_sound p.Disjoint _ ts refl,
    (
      named_sound p.Intersects _ ts refl,
      (
        named_sound p.Touches _ ts refl,
        (
          named_sound p.Crosses _ ts refl,
          (
            named_sound p.Within _ ts refl,
            (
              named_sound p.Contains _ ts refl,
              (
                named_sound p.Overlaps _ ts refl,
                (
                  patterned_sound ts,
                  (empty_sound ts, tt),
                ),
              ),
            ),
          ),
        ),
      ),
    ),
  ),
)

-- a predicate is read as a function where one of those is called next, and else as a comparison or a test for NULL
pub predicate_sound : Sound predicate IsPredicate
unfolding predicate
predicate_sound ts =
    called_sound (predicate_functions (place ts)) comparison ts (λ x rest. Took ts (IsPredicate x) rest)
    (predicate_called ts) (comparison_sound ts)

-- ---- conditions

-- behind each part, another is read exactly where the token between parts is next; those read are appended to those found before
parts_sound : {A : Type 0} (between : TokenKind) (part : Reader A) (P : A → Phrase) → (k.Bad ≡ between → ⊥) → Sound part P → (n : ℕ) (found : List A) (ts : List Token)
    → IfRead (parts_from fault.Syntax between part n found ts) (λ xs rest. (x : A) × (more : List A) × (xs ≡ found ++ x ∷ more) × Took ts (IsParts between P x more) rest)
unfolding parts_from
parts_sound between part P good sound zero found ts = tt
parts_sound {A} between part P good sound (suc n) found ts = then_read (part ts) _ (λ x rest. Took ts (P x) rest) _
    (λ x mid took. eaten between mid _ _ _
    (λ h. map_read (parts_from fault.Syntax between part n (found ++ x ∷ []) (next mid))
    (λ xs rest. (y : A) × (more : List A) × (xs ≡ (found ++ x ∷ []) ++ y ∷ more) × Took (next mid) (IsParts between P y more) rest)
    (λ xs rest. (y : A) × (more : List A) × (xs ≡ found ++ y ∷ more) × Took ts (IsParts between P y more) rest)
    (λ xs rest q. (
      x,
      q.0 ∷ q.1,
      q.2 ∙ append_assoc found (x ∷ []) (q.0 ∷ q.1),
      seq (P x) (IsToken between ▸ IsParts between P q.0 q.1) ts mid rest took (seq (IsToken between) (IsParts between P q.0 q.1) mid (next mid) rest (one between mid good h) q.3),
    ))
    (parts_sound between part P good sound n (found ++ x ∷ []) (next mid)))
    (λ _. (x, [], refl, took)))
    (sound ts)

-- a part alone is itself, and parts with AND or OR between them are one tree: the token behind the first part says which
pub chain_sound : {A : Type 0} (between : TokenKind) (join : List (WrittenCond A) → WrittenCond A) (part : Reader (WrittenCond A)) (P : WrittenCond A → Phrase)
    → (k.Bad ≡ between → ⊥) → Sound part P → Sound (chain between join part) (IsChain between join P)
chain_sound {A} between join part P good sound ts = then_read (part ts) _ (λ x rest. Took ts (P x) rest) (λ x rest. Took ts (IsChain between join P x) rest)
    (λ first mid took. eaten between mid _ _ (λ x rest. Took ts (IsChain between join P x) rest)
    (λ h. then_read (parts fault.Syntax between part (first ∷ []) (next mid)) _
    (λ xs rest. (x : WrittenCond A) × (more : List (WrittenCond A)) × (xs ≡ (first ∷ []) ++ x ∷ more) × Took (next mid) (IsParts between P x more) rest)
    (λ x rest. Took ts (IsChain between join P x) rest)
    (λ xs rest q. but _ _ ts rest
    (seq (P first) (IsToken between ▸ IsParts between P q.0 q.1) ts mid rest took
    (seq (IsToken between) (IsParts between P q.0 q.1) mid (next mid) rest (one between mid good h) q.3))
    (λ used p. inr (first, q.0, q.1, ap join q.2, p)))
    (parts_sound between part P good sound (length (next mid)) (first ∷ []) (next mid)))
    (λ _. but _ _ ts mid took (λ used p. inl p)))
    (sound ts)

-- a condition is a chain by OR of chains by AND, so its reader is sound where that of its parts is
pub condition_of_sound : {A : Type 0} (part : Reader (WrittenCond A)) (P : WrittenCond A → Phrase) → Sound part P → Sound (condition_of part) (IsConditionOf P)
condition_of_sound part P sound = chain_sound k.Or c.Or (conjunction part) (IsConjunction P) (λ e. cc) (chain_sound k.And c.And part P (λ e. cc) sound)

-- behind `(`, a condition and the `)` that closes it are read
group_sound : {A : Type 0} (part : Reader (WrittenCond A)) (P : WrittenCond A → Phrase) → Sound part P → Sound (group part) (λ x. IsConditionOf P x ▸ IsToken k.RightParenthesis)
group_sound part P sound ts = then_read (condition_of part ts) _ (λ x rest. Took ts (IsConditionOf P x) rest) _
    (λ x mid took. then_read (expect fault.Syntax k.RightParenthesis mid) _ (λ u rest. Took mid (IsToken k.RightParenthesis) rest) _
    (λ u rest q. seq (IsConditionOf P x) (IsToken k.RightParenthesis) ts mid rest took q)
    (expect_sound k.RightParenthesis mid (λ e. cc)))
    (condition_of_sound part P sound ts)

-- by induction on the levels left: NOT and `(` use up one, and with none left they are refused, so no tree nests deeper
pub negation_sound : (levels : ℕ) → Sound (negation levels) (IsNegation levels)
unfolding negation IsNegationOf
negation_sound zero ts =
    if_read (sees k.Not ts || sees k.LeftParenthesis ts) _ _ (λ x rest. Took ts (IsPredicate x) rest) (λ _. tt) (λ _. predicate_sound ts)
negation_sound (suc levels) ts =
    let Q : Condition → List Token → Type 0 = λ x rest. Took ts (IsNegation (suc levels) x) rest in
    if_read (sees k.Not ts) _ _ Q
    (λ h. then_read (negation levels (next ts)) _ (λ x rest. Took (next ts) (IsNegation levels x) rest) Q
    (λ x rest q. but _ _ ts rest (seq (IsToken k.Not) (IsNegation levels x) ts (next ts) rest (one k.Not ts (λ e. cc) h) q) (λ used p. inl (x, refl, p)))
    (negation_sound levels (next ts)))
    (λ _. if_read (sees k.LeftParenthesis ts) _ _ Q
    (λ h. map_read (group (negation levels) (next ts)) (λ x rest. Took (next ts) (IsConditionOf (IsNegation levels) x ▸ IsToken k.RightParenthesis) rest) Q
    (λ x rest q. but _ _ ts rest (seq (IsToken k.LeftParenthesis) (IsConditionOf (IsNegation levels) x ▸ IsToken k.RightParenthesis) ts (next ts) rest (one k.LeftParenthesis ts (λ e. cc) h) q)
    (λ used p. inr (inl p)))
    (group_sound (negation levels) (IsNegation levels) (negation_sound levels) (next ts)))
    (λ _. map_read (predicate ts) (λ x rest. Took ts (IsPredicate x) rest) Q (λ x rest q. but _ _ ts rest q (λ used p. inr (inr p))) (predicate_sound ts)))

-- a condition that is read nests to no more levels than may be
pub condition_sound : Sound condition IsCondition
condition_sound = condition_of_sound (negation 64) (IsNegation 64) (negation_sound 64)

-- ---- queries

-- the functions of the select list are read with a column, at the place of the call
item_called : (ts : List Token) → AllRead (item_functions (place ts)) ts (λ x rest. Took ts (IsItem x) rest)
item_called ts = (
  λ h. placed (codes "ST_AsText") i.AsText IsColumn IsItem _ ts (λ l. made_sound (i.AsText (place ts)) column IsColumn l column_sound) h (λ x used p. inr (inl p)),
  (
    λ h. placed (codes "ST_Dimension") i.Dimension IsColumn IsItem _ ts (λ l. made_sound (i.Dimension (place ts)) column IsColumn l column_sound) h (λ x used p. inr (inr (inl p))),
    (
      λ h. placed (codes "ST_IsEmpty") i.IsEmpty IsColumn IsItem _ ts (λ l. made_sound (i.IsEmpty (place ts)) column IsColumn l column_sound) h (λ x used p. inr (inr (inr p))),
      tt,
    ),
  ),
)

-- an item is read as one of those functions where it is called next, and else as a column
item_sound : Sound item IsItem
unfolding item
item_sound ts = called_sound (item_functions (place ts)) (λ us. and_then (column us) (λ x rest. Ok (i.Column x, rest))) ts (λ x rest. Took ts (IsItem x) rest) (item_called ts)
    (map_read _ (λ x rest. Took ts (IsMade i.Column IsColumn x) rest) (λ x rest. Took ts (IsItem x) rest)
    (λ x rest q. but _ _ ts rest q (λ used p. inl p)) (made_sound i.Column column IsColumn ts column_sound))

-- a star between the parentheses of COUNT
abbrev pub IsCounted : Selection WrittenColumn → Phrase
IsCounted = IsMade {A = Selection WrittenColumn} {B = Unit {0}} (λ _. l.Count) (λ _. IsToken k.Star)

-- COUNT is read with a star in its parentheses
count_called : (ts : List Token) → AllRead count_function ts (λ x rest. Took ts (IsSelection x) rest)
count_called ts = (
  λ h. map_read (enclosed counted (next ts)) (λ x rest. Took ts (IsCall (codes "COUNT") (IsCounted x)) rest) (λ x rest. Took ts (IsSelection x) rest)
      (λ x rest q. but _ _ ts rest q (λ used p. with_call x used (call_made {B = Unit {0}} (codes "COUNT") (λ _. l.Count) (λ _. IsToken k.Star) x used p)))
      (call_sound (codes "COUNT") counted IsCounted ts (λ ts2. made_sound {B = Unit {0}} (λ _. l.Count) (expect fault.Syntax k.Star) (λ _. IsToken k.Star) ts2 (λ ts3. expect_sound k.Star ts3 (λ b. cc))) h),
  tt,
)
  where
    with_call : (x : Selection WrittenColumn) (used : List Token) → ((y : Unit {0}) × (x ≡ l.Count) × IsCall (codes "COUNT") (IsToken k.Star) used) → IsSelection x used
    with_call x used (y, is, p) = inr (inr (is, p))

-- items with commas between them are a selection
listed_sound : (ts : List Token)
    → IfRead (and_then (items ts) (λ xs rest. Ok (l.Items xs, rest))) (λ (x : Selection WrittenColumn) rest. Took ts (IsSelection x) rest)
listed_sound ts =
    then_read (items ts) _
    (λ xs rest. (x : SelectItem) × (more : List SelectItem) × (xs ≡ x ∷ more) × Took ts (IsParts k.Comma IsItem x more) rest) (λ x rest. Took ts (IsSelection x) rest)
    (λ xs rest q. but _ _ ts rest q.3 (λ used p. inr (inl (q.0, q.1, ap l.Items q.2, p))))
    (parts_sound k.Comma item IsItem (λ e. cc) item_sound (length ts) [] ts)

-- a selection is read as the star where that is next, as COUNT(*) where COUNT is called, and else as items
pub selection_sound : Sound selection IsSelection
unfolding selection
selection_sound ts =
    let Q : Selection WrittenColumn → List Token → Type 0 = λ x rest. Took ts (IsSelection x) rest in
    if_read (sees k.Star ts) _ _ Q (λ h. but _ _ ts (next ts) (one k.Star ts (λ e. cc) h) (λ used p. inl (refl, p)))
    (λ _. called_sound count_function (λ us. and_then (items us) (λ xs rest. Ok (l.Items xs, rest))) ts Q (count_called ts) (listed_sound ts))

-- an alias, or none
abbrev pub IsAlias : Option Name → Phrase
IsAlias None ts = ts ≡ []
IsAlias (Some name) ts = IsName name ts ⊎ (IsToken k.As ▸ IsName name) ts

-- an alias is read behind AS or where a word is next; else there is none and no token is taken
alias_sound : Sound alias IsAlias
unfolding alias
alias_sound ts =
    let Q : Option Name → List Token → Type 0 = λ x rest. Took ts (IsAlias x) rest in
    if_read (sees k.As ts) _ _ Q
    (λ h. then_read (name (next ts)) _ (λ x rest. Took (next ts) (IsName x) rest) Q
    (λ x rest q. but _ _ ts rest (seq (IsToken k.As) (IsName x) ts (next ts) rest (one k.As ts (λ e. cc) h) q) (λ used p. inr p))
    (name_sound (next ts)))
    (λ _. if_read (sees k.Word ts) _ _ Q
    (λ h. then_read (name ts) _ (λ x rest. Took ts (IsName x) rest) Q (λ x rest q. but _ _ ts rest q (λ used p. inl p)) (name_sound ts))
    (λ _. ([], refl, refl)))

-- a table's name and what is read as its alias are a reference, in one of its three forms
reference_taken : (table : Name) (given : Option Name) (ts mid rest : List Token) → Took ts (IsName table) mid → Took mid (IsAlias given) rest
    → Took ts (IsReference (record { table = table; alias = given })) rest
reference_taken table None ts mid rest p (used, e, none) =
    (p.0, p.1 ∙ ap (λ r. p.0 ++ r) (e ∙ ap (λ u. u ++ rest) none), inl (table, refl, p.2))
reference_taken table (Some given) ts mid rest p (used, e, inl q) = but _ _ ts rest (seq (IsName table) (IsName given) ts mid rest p (used, e, q)) (λ used h. inr (inl (table, given, refl, h)))
reference_taken table (Some given) ts mid rest p (used, e, inr q) =
    but _ _ ts rest (seq (IsName table) (IsToken k.As ▸ IsName given) ts mid rest p (used, e, q)) (λ used h. inr (inr (table, given, refl, h)))

-- a reference is read as a table's name and then its alias
pub reference_sound : Sound reference IsReference
unfolding reference
reference_sound ts = then_read (name ts) _ (λ x rest. Took ts (IsName x) rest) (λ x rest. Took ts (IsReference x) rest)
    (λ table mid p. then_read (alias mid) _ (λ x rest. Took mid (IsAlias x) rest) (λ x rest. Took ts (IsReference x) rest)
    (λ given rest q. reference_taken table given ts mid rest p q) (alias_sound mid))
    (name_sound ts)

-- a token that may be left out is taken exactly where it is next
pub optional : (wanted : TokenKind) (ts : List Token) → (k.Bad ≡ wanted → ⊥) → Took ts (IsOptional wanted) (after wanted ts)
unfolding after
optional wanted ts good = go (sees wanted ts) refl
  where
    go : (b : Bool) → sees wanted ts ≡ b → Took ts (IsOptional wanted) (if b then next ts else ts)
    go true h = but _ _ ts (next ts) (one wanted ts good h) (λ used p. inr p)
    go false h = ([], refl, inl refl)

-- what a second reference and its condition are written as
abbrev pub IsBoth : Second → Phrase
IsBoth both = IsSecond both.0 both.1

-- behind a comma or CROSS JOIN, a reference is read and no condition
crossed_sound : (ts : List Token)
    → IfRead (crossed ts) (λ both rest. (reference : WrittenReference) × (both.0 ≡ reference ∷ []) × (both.1 ≡ None) × Took ts (IsReference reference) rest)
unfolding crossed
crossed_sound ts = then_read (reference ts) _ (λ x rest. Took ts (IsReference x) rest) _ (λ x rest q. (x, refl, refl, q)) (reference_sound ts)

-- JOIN and ON with their reference and condition
abbrev pub IsJoin : WrittenReference → Condition → Phrase
IsJoin reference on = IsToken k.Join ▸ IsReference reference ▸ IsToken k.On ▸ IsCondition on

-- JOIN, a reference, ON and a condition are read one behind the other, since the reader demands each
joined_sound : (ts : List Token)
    → IfRead (joined_on ts) (λ both rest. (reference : WrittenReference) × (x : Condition) × (both.0 ≡ reference ∷ []) × (both.1 ≡ Some x) × Took ts (IsJoin reference x) rest)
unfolding joined_on
joined_sound ts =
    let Q : Second → List Token → Type 0 = λ both rest. (reference : WrittenReference) × (x : Condition) × (both.0 ≡ reference ∷ []) × (both.1 ≡ Some x) × Took ts (IsJoin reference x) rest in
    then_read (expect fault.Syntax k.Join ts) _ (λ u rest. Took ts (IsToken k.Join) rest) Q
    (λ u ts1 p1. then_read (reference ts1) _ (λ x rest. Took ts1 (IsReference x) rest) Q
    (λ given ts2 p2. then_read (expect fault.Syntax k.On ts2) _ (λ u rest. Took ts2 (IsToken k.On) rest) Q
    (λ u2 ts3 p3. then_read (condition ts3) _ (λ x rest. Took ts3 (IsCondition x) rest) Q
    (λ x ts4 p4. (
      given,
      x,
      refl,
      refl,
      seq (IsToken k.Join) (IsReference given ▸ IsToken k.On ▸ IsCondition x) ts ts1 ts4 p1
          (seq (IsReference given) (IsToken k.On ▸ IsCondition x) ts1 ts2 ts4 p2 (seq (IsToken k.On) (IsCondition x) ts2 ts3 ts4 p3 p4)),
    ))
    (condition_sound ts3))
    (expect_sound k.On ts2 (λ e. cc)))
    (reference_sound ts1))
    (expect_sound k.Join ts (λ e. cc))

-- the next token shows the form of a second reference: a comma, CROSS, or INNER or JOIN; else none is read
pub second_sound : Sound second IsBoth
second_sound ts =
    let Q : Second → List Token → Type 0 = λ both rest. Took ts (IsBoth both) rest in
    if_read (sees k.Comma ts) _ _ Q
    (λ h. map_read (crossed (next ts)) (λ both rest. (reference : WrittenReference) × (both.0 ≡ reference ∷ []) × (both.1 ≡ None) × Took (next ts) (IsReference reference) rest) Q
    (λ both rest q. but _ _ ts rest (seq (IsToken k.Comma) (IsReference q.0) ts (next ts) rest (one k.Comma ts (λ e. cc) h) q.3)
    (λ used p. inr (inl (q.0, q.1, q.2, inl p))))
    (crossed_sound (next ts)))
    (λ _. if_read (sees k.Cross ts) _ _ Q
    (λ h. then_read (expect fault.Syntax k.Join (next ts)) _ (λ u rest. Took (next ts) (IsToken k.Join) rest) Q
    (λ u mid took. map_read (crossed mid) (λ both rest. (reference : WrittenReference) × (both.0 ≡ reference ∷ []) × (both.1 ≡ None) × Took mid (IsReference reference) rest) Q
    (λ both rest q. but _ _ ts rest
    (seq (IsToken k.Cross) (IsToken k.Join ▸ IsReference q.0) ts (next ts) rest (one k.Cross ts (λ e. cc) h) (seq (IsToken k.Join) (IsReference q.0) (next ts) mid rest took q.3))
    (λ used p. inr (inl (q.0, q.1, q.2, inr p))))
    (crossed_sound mid))
    (expect_sound k.Join (next ts) (λ e. cc)))
    (λ _. if_read (sees k.Inner ts || sees k.Join ts) _ _ Q
    (λ h. map_read (joined_on (after k.Inner ts))
    (λ both rest. (reference : WrittenReference) × (x : Condition) × (both.0 ≡ reference ∷ []) × (both.1 ≡ Some x) × Took (after k.Inner ts) (IsJoin reference x) rest) Q
    (λ both rest q. but _ _ ts rest (seq (IsOptional k.Inner) (IsJoin q.0 q.1) ts (after k.Inner ts) rest (optional k.Inner ts (λ e. cc)) q.4)
    (λ used p. inr (inr (q.0, q.1, q.2, q.3, p))))
    (joined_sound (after k.Inner ts)))
    (λ _. ([], refl, inl (refl, refl, refl)))))

-- a first reference and what is read behind it are the references of FROM
references_taken : (first : WrittenReference) (both : Second) (ts mid rest : List Token) → Took ts (IsReference first) mid → Took mid (IsBoth both) rest
    → Took ts (IsReferences (first ∷ both.0) both.1) rest
references_taken first both ts mid rest p q = but _ _ ts rest (seq (IsReference first) (IsBoth both) ts mid rest p q) (λ used h. (first, both.0, refl, h))

-- where the query says a word next, that word is the next token
says_taken : (word : List ℕ) (ts : List Token) → says word ts ≡ true → Took ts (IsWord word) (next ts)
unfolding says
says_taken word ts h = word_taken word ts (and_first _ _ (and_first _ _ h)) (and_second _ _ h)

-- behind EXPLAIN, ANALYZE is read where it is next
analyzed_sound : (ts : List Token) → says (codes "EXPLAIN") ts ≡ true
    → IfRead (analyzed (next ts)) (λ said rest. Took ts (IsExplain said) rest)
analyzed_sound ts h =
    let Q : Explain → List Token → Type 0 = λ said rest. Took ts (IsExplain said) rest in
    if_read (says (codes "ANALYZE") (next ts)) _ _ Q
    (λ h2. but _ _ ts (next (next ts))
    (seq (IsWord (codes "EXPLAIN")) (IsWord (codes "ANALYZE")) ts (next ts) (next (next ts)) (says_taken (codes "EXPLAIN") ts h) (says_taken (codes "ANALYZE") (next ts) h2))
    (λ used p. inr (inr (refl, p))))
    (λ _. but _ _ ts (next ts) (says_taken (codes "EXPLAIN") ts h) (λ used p. inr (inl (refl, p))))

-- EXPLAIN is read where it is next; else no token is taken
pub explained_sound : Sound explained IsExplain
explained_sound ts =
    if_read (says (codes "EXPLAIN") ts) _ _ (λ said rest. Took ts (IsExplain said) rest)
    (λ h. analyzed_sound ts h) (λ _. ([], refl, inl (refl, refl)))

-- a condition is read exactly where WHERE is next
pub where_sound : Sound where_condition IsWhere
unfolding where_condition
where_sound ts =
    let Q : Option Condition → List Token → Type 0 = λ x rest. Took ts (IsWhere x) rest in
    eaten k.Where ts _ _ Q
    (λ h. then_read (condition (next ts)) _ (λ x rest. Took (next ts) (IsCondition x) rest) Q
    (λ x rest q. but _ _ ts rest (seq (IsToken k.Where) (IsCondition x) ts (next ts) rest (one k.Where ts (λ e. cc) h) q) (λ used p. inr (x, refl, p)))
    (condition_sound (next ts)))
    (λ _. ([], refl, inl (refl, refl)))

-- LIMIT's number was read
abbrev pub TookCount : List Token → Option ℕ → List Token → Type 0
TookCount ts x rest = (n : ℕ) × (x ≡ Some n) × Took ts (IsRowCount n) rest

-- a token of digits is LIMIT's number that was read; where it isn't within 64 bits nothing was read
count_taken : (ts : List Token) (v : Option ℕ) → sees k.Integer ts ≡ true → limit_value (spelling ts) ≡ v → IfRead (limit_or v (place ts) (next ts)) (TookCount ts)
unfolding sees kind next spelling
count_taken ts None h e = tt
count_taken [] (Some n) h e = absurd (let bad = same k.Bad k.Integer h in cc)
count_taken (t ∷ ts) (Some n) h e = (n, refl, (t ∷ [], refl, (same t.kind k.Integer h, e)))

-- LIMIT's number is read only where digits are next, and takes that token alone
count_sound : (ts : List Token) → IfRead (limit_number ts) (TookCount ts)
unfolding limit_number
count_sound ts = if_read (sees k.Integer ts) _ _ (TookCount ts) (λ h. count_taken ts (limit_value (spelling ts)) h refl) (λ _. tt)

-- LIMIT's number is read where LIMIT is next; else no token is taken
limit_sound : Sound limited IsLimit
limit_sound ts =
    let Q : Option ℕ → List Token → Type 0 = λ x rest. Took ts (IsLimit x) rest in
    if_read (sees k.Limit ts) _ _ Q
    (λ h. map_read (limit_number (next ts)) (TookCount (next ts)) Q
    (λ x rest q. but _ _ ts rest (seq (IsToken k.Limit) (IsRowCount q.0) ts (next ts) rest (one k.Limit ts (λ e. cc) h) q.2) (λ used p. inr (q.0, q.1, p)))
    (count_sound (next ts)))
    (λ _. ([], refl, inl (refl, refl)))

-- the end of the text is the last token, wherever it is
abbrev pub EndsOnce : List Token → Type 0
EndsOnce [] = Unit {0}
EndsOnce (t ∷ ts) = (t.kind ≡ k.End → ts ≡ []) × EndsOnce ts

-- behind any front of such tokens, the end is still the last
pub ends_after : (a b : List Token) → EndsOnce (a ++ b) → EndsOnce b
ends_after [] b h = h
ends_after (t ∷ a) b h = ends_after a b h.1

-- so it is in the tokens that a reader leaves
pub ends_left : (P : Phrase) (ts rest : List Token) → EndsOnce ts → Took ts P rest → EndsOnce rest
ends_left P ts rest h p = ends_after p.0 rest (subst EndsOnce p.1 h)

-- behind the end no token is left
ended : (ts : List Token) → EndsOnce ts → sees k.End ts ≡ true → next ts ≡ []
unfolding sees kind next
ended [] h e = refl
ended (t ∷ ts) h e = h.0 (same t.kind k.End e)

-- where no token is left, those of the phrase are all there were
pub all_taken : (P : Phrase) (ts rest : List Token) → Took ts P rest → rest ≡ [] → P ts
all_taken P ts rest p e = subst P (sym (p.1 ∙ ap (λ r. p.0 ++ r) e ∙ append-nil p.0)) p.2

-- where the end is demanded and read, no token is left
end_sound : (ts : List Token) → EndsOnce ts → IfRead (expect fault.Syntax k.End ts) (λ u rest. Took ts (IsToken k.End) rest × (rest ≡ []))
unfolding expect
end_sound ts once = if_read (sees k.End ts) _ _ _ (λ h. (one k.End ts (λ e. cc) h, ended ts once h)) (λ _. tt)

-- what each reader takes is the phrase of its rule, and the phrases follow one another
pub query_sound : (ts : List Token) → EndsOnce ts → IfRead (query ts) (λ q rest. IsSelect q ts)
unfolding query
query_sound ts once =
    let R : SelectQuery → List Token → Type 0 = λ q rest. IsSelect q ts in
    then_read (explained ts) _ (λ x rest. Took ts (IsExplain x) rest) R
    (λ said ts0 p0. then_read (expect fault.Syntax k.Select ts0) _ (λ u rest. Took ts0 (IsToken k.Select) rest) R
    (λ u1 ts1 p1. then_read (selection ts1) _ (λ x rest. Took ts1 (IsSelection x) rest) R
    (λ listed ts2 p2. then_read (expect fault.Syntax k.From ts2) _ (λ u rest. Took ts2 (IsToken k.From) rest) R
    (λ u3 ts3 p3. then_read (reference ts3) _ (λ x rest. Took ts3 (IsReference x) rest) R
    (λ first ts4 p4. then_read (second ts4) _ (λ x rest. Took ts4 (IsBoth x) rest) R
    (λ both ts5 p5. then_read (where_condition ts5) _ (λ x rest. Took ts5 (IsWhere x) rest) R
    (λ filter ts6 p6. then_read (limited ts6) _ (λ x rest. Took ts6 (IsLimit x) rest) R
    (λ most ts7 p7.
    let ts8 : List Token = after k.Semicolon ts7 in
    let p8 = optional k.Semicolon ts7 (λ e. cc) in
    then_read (expect fault.Syntax k.End ts8) _ (λ u rest. Took ts8 (IsToken k.End) rest × (rest ≡ [])) R
    (λ u9 ts9 p9.
    all_taken
    (IsExplain said ▸ IsToken k.Select ▸ IsSelection listed ▸ IsToken k.From ▸ IsReferences (first ∷ both.0) both.1 ▸ IsWhere filter ▸ IsLimit most
    ▸ IsOptional k.Semicolon ▸ IsToken k.End) ts ts9
    (seq (IsExplain said) _ ts ts0 ts9 p0 (seq (IsToken k.Select) _ ts0 ts1 ts9 p1 (seq (IsSelection listed) _ ts1 ts2 ts9 p2 (seq (IsToken k.From) _ ts2 ts3 ts9 p3
    (seq (IsReferences (first ∷ both.0) both.1) _ ts3 ts5 ts9 (references_taken first both ts3 ts4 ts5 p4 p5) (seq (IsWhere filter) _ ts5 ts6 ts9 p6 (seq (IsLimit most) _ ts6 ts7 ts9 p7
    (seq (IsOptional k.Semicolon) (IsToken k.End) ts7 ts8 ts9 p8 p9.0)))))))) p9.1)
    (end_sound ts8 (ends_left _ ts7 ts8 (ends_left _ ts6 ts7 (ends_left _ ts5 ts6 (ends_left _ ts4 ts5 (ends_left _ ts3 ts4 (ends_left _ ts2 ts3 (ends_left _ ts1 ts2 (ends_left _ ts0 ts1 (ends_left _ ts ts0 once p0) p1) p2) p3) p4) p5) p6) p7) p8)))
    (limit_sound ts6)) (where_sound ts5)) (second_sound ts4)) (reference_sound ts3)) (expect_sound k.From ts2 (λ e. cc))) (selection_sound ts1)) (expect_sound k.Select ts0 (λ e. cc))) (explained_sound ts)
