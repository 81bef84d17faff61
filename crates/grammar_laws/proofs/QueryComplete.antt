-- What is in the grammar of a query is read, as that tree.
use Rattle.std.proofs.Common.{◌≡◌, ◌⊎◌, ℕ, zero, suc, ◌<◌, Bool, true, false, ◌&&◌, ℤ, List, [], ◌∷◌, ◌++◌, length, map, Option, Some, None, Ok, inl, inr, refl, sym, ap, subst, ◌∙◌, append_assoc, length-append, codes, arith}
use Rattle.std.specs.Char.{to_ascii_lowercase}
use Rattle.std.specs.Str.{bytes_eq}
use Rattle.std.specs.Str.Parse.{digits_value}
use Rattle.std.proofs.lemmas.Slice.Eq.{bytes_eq-Decides}
use Rattle.geometry_model.specs.declared.relations.Predicate.{Predicate}
use Rattle.geometry_model.specs.declared.relations.Predicate.TheVariants as p
use Rattle.table_model.specs.declared.conditions.Comparison.{Comparison}
use Rattle.table_model.specs.declared.faults.QueryFault.TheVariants as fault
use Rattle.table_model.specs.declared.queries.Explain.{Explain}
use Rattle.table_model.specs.declared.queries.Name.{Name}
use Rattle.table_model.specs.declared.queries.Selection.{Selection}
use Rattle.table_model.specs.declared.queries.Selection.TheVariants as l
use Rattle.table_model.specs.declared.queries.WrittenColumn.{WrittenColumn}
use Rattle.table_model.specs.declared.queries.WrittenCond.{WrittenCond}
use Rattle.table_model.specs.declared.queries.WrittenCond.TheVariants as c
use Rattle.table_model.specs.declared.queries.WrittenGeometry.{WrittenGeometry}
use Rattle.table_model.specs.declared.queries.WrittenGeometry.TheVariants as g
use Rattle.table_model.specs.declared.queries.WrittenItem.TheVariants as i
use Rattle.table_model.specs.declared.queries.WrittenOperand.TheVariants as o
use Rattle.table_model.specs.declared.queries.WrittenReference.{WrittenReference}
use Rattle.table_model.specs.declared.tokens.Token.{Token}
use Rattle.table_model.specs.declared.tokens.TokenKind.{TokenKind}
use Rattle.table_model.specs.declared.tokens.TokenKind.TheVariants as k
use Rattle.table_model.specs.Parsers.{kind, place, spelling, next, written, sees, after, and_then, expect, parts_from}
use Rattle.table_model.specs.QueryGrammar.{IsName, IsColumn, IsDigits, IsInteger, IsString, IsCall, IsGeometry, IsOperandFunction, IsOperand, IsComparison, function_of, IsPair, IsBool, IsNumber, IsTest, IsPredicate, IsChain, IsConjunction, IsConditionOf, IsNegationOf, IsNegation, IsCondition, IsItemFunction, IsItem, IsSelection, IsReference, IsReferences, IsCrossed, IsJoined, IsSecond, IsWhere, IsRowCount, IsLimit, IsExplain, IsSelect}
use Rattle.table_model.specs.QueryReading.{Reader, Functions, name, column, calls, called_or, enclosed, string, geometry, integer, operand_functions, operand, comparison_of, compared, null_test, comparison, truth_value, truth_test, truth_tested, relates, relates_by, predicate_functions, predicate, chain, conjunction, condition_of, group, negation, condition, item_functions, item, items, counted, count_function, selection, alias, reference, Second, crossed, joined_on, second, where_condition, limit_value, limit_number, limited, says, explained, query}
use Rattle.table_model.specs.Queries.{Condition, ConditionOperand, SelectItem, SelectQuery}
use Rattle.table_model.specs.Texts.{same_name}
use Rattle.table_model.specs.Tokens.{same_kind}
use Rattle.grammar_laws.proofs.QuerySound.{Begins, one_begins, seq_begins, BeginsOperand, operand_begins, word_begins, place_is, IsMade, IsTwo, IsThree, named, patterned, empties, IsCounted, IsBoth, IsJoin}
use Rattle.table_model.specs.Phrases.{Phrase, IsOne, IsToken, ◌▸◌, IsOptional, IsParts, IsWord}

-- the tokens of a phrase are read, before a token of a kind that may follow
abbrev pub Complete : {A : Type 0} → Reader A → (A → Phrase) → (TokenKind → Type 0) → Type 0
Complete {A} p P Follows = (x : A) (used : List Token) (t : Token) (rest : List Token) → P x used → Follows t.kind → p (used ++ t ∷ rest) ≡ Ok (x, t ∷ rest)

-- ---- kinds and first tokens

pub same_itself : (known : TokenKind) → same_kind known known ≡ true
unfolding same_kind
same_itself k.Word = refl
same_itself _ = refl

pub is_kind : (kind known : TokenKind) → kind ≡ known → same_kind kind known ≡ true
is_kind kind known e = rw e (same_itself known)

-- a phrase that begins with one token: that token, and the tokens of the rest
pub one_first : (P : Token → Type 0) (Q : Phrase) (ts : List Token) → (IsOne P ▸ Q) ts → (m : Token) × (d : List Token) × (ts ≡ m ∷ d) × P m × Q d
one_first P Q ts ([], d, e, p, q) = absurd p
one_first P Q ts (m ∷ [], d, e, p, q) = (m, d, e, p, q)
one_first P Q ts (m ∷ n ∷ more, d, e, p, q) = absurd p

-- a phrase that ends with one token: the tokens of the rest, and that token
pub one_last : (P : Phrase) (Q : Token → Type 0) (ts : List Token) → (P ▸ IsOne Q) ts → (a : List Token) × (m : Token) × (ts ≡ a ++ m ∷ []) × P a × Q m
one_last P Q ts (a, [], e, p, q) = absurd q
one_last P Q ts (a, m ∷ [], e, p, q) = (a, m, e, p, q)
one_last P Q ts (a, m ∷ n ∷ more, e, p, q) = absurd q

-- a phrase of one token is a list of one
pub one_only : (P : Token → Type 0) (ts : List Token) → IsOne P ts → (n : Token) × (ts ≡ n ∷ []) × P n
one_only P [] p = absurd p
one_only P (n ∷ []) p = (n, refl, p)
one_only P (n ∷ v ∷ more) p = absurd p

-- with others behind them, tokens in two parts are the first part, the token that begins the second, and what comes after it
pub split : (used a b d tail : List Token) (m : Token) → used ≡ a ++ b → b ≡ m ∷ d → used ++ tail ≡ a ++ m ∷ (d ++ tail)
split used a b d tail m e f = ap (λ l. l ++ tail) e ∙ append_assoc a b tail ∙ ap (λ l. a ++ (l ++ tail)) f

-- the kind of the next token is that of the phrase's first one, whatever follows
pub kind_after : (known : TokenKind) (used tail : List Token) → Begins (λ kind. kind ≡ known) used → kind (used ++ tail) ≡ known
unfolding kind
kind_after known used tail (t, more, e, f) = rw e f

-- ---- names and columns

-- what may follow a name: no `(`, with which the word would be a function
abbrev pub EndsName : TokenKind → Type 0
EndsName kind = same_kind kind k.LeftParenthesis ≡ false

-- what may follow a column: no `(`, and no point, with which the name would be that of a table reference
abbrev pub EndsColumn : TokenKind → Type 0
EndsColumn kind = (same_kind kind k.LeftParenthesis ≡ false) × (same_kind kind k.Point ≡ false)

-- a word with no `(` behind it is read as that name
name_complete : Complete name IsName EndsName
unfolding name sees kind next spelling place
name_complete x [] t rest p f = absurd p
name_complete x (u ∷ []) t rest (word, is) f = rw (is_kind u.kind k.Word word, f, is) refl
name_complete x (u ∷ v ∷ more) t rest p f = absurd p

pub ends_by : (F : TokenKind → Type 0) (kind known : TokenKind) → kind ≡ known → F known → F kind
ends_by F kind known e h = subst F (sym e) h

-- two names with a point between are read as a column of a table reference, since a point doesn't make the first a function
qualified_complete : (first second : Name) (a d : List Token) (m t : Token) (rest : List Token) → IsName first a → m.kind ≡ k.Point → IsName second d → EndsColumn t.kind
    → column (a ++ m ∷ (d ++ t ∷ rest)) ≡ Ok (record { reference = Some first; name = second }, t ∷ rest)
unfolding column after sees kind next same_kind
qualified_complete first second a d m t rest p e q f =
    rw (name_complete first a m (d ++ t ∷ rest) p (ends_by EndsName m.kind k.Point e refl), is_kind m.kind k.Point e, name_complete second d t rest q f.0) refl

-- a name with neither `(` nor a point behind it is read as a column without a table reference
single_complete : (only : Name) (a : List Token) (t : Token) (rest : List Token) → IsName only a → EndsColumn t.kind
    → column (a ++ t ∷ rest) ≡ Ok (record { reference = None; name = only }, t ∷ rest)
unfolding column after sees kind next
single_complete only a t rest p f = rw (name_complete only a t rest p f.0, f.1) refl

-- both forms of a column are read as that column
column_complete : Complete column IsColumn EndsColumn
column_complete x used t rest (inl (only, ex, p)) f = single_complete only used t rest p f ∙ ap (λ y. Ok (y, t ∷ rest)) (sym ex)
column_complete x used t rest (inr (first, second, ex, (a, b, e, p, q))) f = go (one_first _ (IsName second) b q)
  where
    go : ((m : Token) × (d : List Token) × (b ≡ m ∷ d) × (m.kind ≡ k.Point) × IsName second d) → column (used ++ t ∷ rest) ≡ Ok (x, t ∷ rest)
    go (m, d, g, point, h) =
        ap column (split used a b d (t ∷ rest) m e g) ∙ qualified_complete first second a d m t rest p point h f ∙ ap (λ y. Ok (y, t ∷ rest)) (sym ex)

-- ---- functions

-- bytes that compare as equal are equal
bytes_eq-true : (a b : List ℕ) → bytes_eq a b ≡ true → a ≡ b
bytes_eq-true a b h = (bytes_eq-Decides a b).0 h

-- where a word is the same as a name, in any ASCII case, it is the same as no other: it has that name's lower case
differs : (text word function : List ℕ) → same_name text word ≡ true → same_name word function ≡ false → same_name text function ≡ false
unfolding same_name
differs text word function h e = ap (λ lower. bytes_eq lower (map to_ascii_lowercase function)) (bytes_eq-true _ _ h) ∙ e

-- a word that is a function's name, with `(` behind it, calls that function
hit : (m n : Token) (ts : List Token) (word : List ℕ) → m.kind ≡ k.Word → n.kind ≡ k.LeftParenthesis → same_name m.text word ≡ true → calls word (m ∷ n ∷ ts) ≡ true
unfolding calls sees kind next spelling
hit m n ts word e f h = rw (is_kind m.kind k.Word e, is_kind n.kind k.LeftParenthesis f, h) refl

-- and calls no function of another name
miss : (m n : Token) (ts : List Token) (word function : List ℕ) → m.kind ≡ k.Word → n.kind ≡ k.LeftParenthesis → same_name m.text word ≡ true → same_name word function ≡ false
    → calls function (m ∷ n ∷ ts) ≡ false
unfolding calls sees kind next spelling
miss m n ts word function e f h d = rw (is_kind m.kind k.Word e, is_kind n.kind k.LeftParenthesis f, differs m.text word function h d) refl

and_none : (a b c : Bool) → b ≡ false → ((a && b) && c) ≡ false
and_none true b c e = rw e refl
and_none false b c e = refl

-- with no `(` behind the next token, no function is called
uncalled : (function : List ℕ) (ts : List Token) → sees k.LeftParenthesis (next ts) ≡ false → calls function ts ≡ false
unfolding calls
uncalled function ts e = and_none (sees k.Word ts) (sees k.LeftParenthesis (next ts)) (same_name (spelling ts) function) e

-- where no word is next, no function is called
pub unnamed : (function : List ℕ) (ts : List Token) → sees k.Word ts ≡ false → calls function ts ≡ false
unfolding calls
unnamed function ts e = rw e refl

-- where no function is called next, a choice by name reads what the other reader does
pub none_called : {A : Type 0} (functions : Functions A) (other : Reader A) (ts : List Token) → ((function : List ℕ) → calls function ts ≡ false) → called_or functions other ts ≡ other ts
none_called [] other ts none = refl
none_called (f ∷ more) other ts none = rw (none f.0) (none_called more other ts none)

-- the first of some functions that is called next goes on so
abbrev pub IsFirst : {A : Type 0} → Functions A → List Token → Reader A → Type 0
IsFirst [] ts rest = ⊥
IsFirst (f ∷ more) ts rest = ((calls f.0 ts ≡ true) × (f.1 ≡ rest)) ⊎ ((calls f.0 ts ≡ false) × IsFirst more ts rest)

-- where a function is called next and none before it in the list is, its reader reads what comes after the name
first_called : {A : Type 0} (functions : Functions A) (other : Reader A) (ts : List Token) (rest : Reader A) → IsFirst functions ts rest → called_or functions other ts ≡ rest (next ts)
first_called [] other ts rest first = absurd first
first_called (f ∷ more) other ts rest (inl (here, e)) = rw (here, e) refl
first_called (f ∷ more) other ts rest (inr (none, first)) = rw none (first_called more other ts rest first)

-- what is in a call may be said otherwise
call_but : (function : List ℕ) (P Q : Phrase) (used : List Token) → ((ts : List Token) → P ts → Q ts) → IsCall function P used → IsCall function Q used
call_but function P Q used f (a, b, e, word, (a1, b1, e1, left, (a2, b2, e2, p, right))) = (a, b, e, word, (a1, b1, e1, left, (a2, b2, e2, f a2 p, right)))

-- the tokens of a call: a name, two parentheses and what is between
abbrev pub CallParts : List ℕ → Phrase → List Token → Type 0
CallParts function P used = (m n r : Token) × (a : List Token) × (m.kind ≡ k.Word) × (same_name m.text function ≡ true) × (n.kind ≡ k.LeftParenthesis) × P a
    × (r.kind ≡ k.RightParenthesis) × ((tail : List Token) → used ++ tail ≡ m ∷ n ∷ (a ++ r ∷ tail))

-- a call is taken apart into the tokens that it is written with
call_parts : (function : List ℕ) (P : Phrase) (used : List Token) → IsCall function P used → CallParts function P used
call_parts function P used call = with_name (one_first _ (IsToken k.LeftParenthesis ▸ P ▸ IsToken k.RightParenthesis) used call)
  where
    all : (m n r : Token) (a d d2 : List Token) → used ≡ m ∷ d → d ≡ n ∷ d2 → d2 ≡ a ++ r ∷ [] → (tail : List Token) → used ++ tail ≡ m ∷ n ∷ (a ++ r ∷ tail)
    all m n r a d d2 e f g tail =
        ap (λ l. l ++ tail) e ∙ ap (λ l. m ∷ (l ++ tail)) f ∙ ap (λ l. m ∷ n ∷ (l ++ tail)) g ∙ ap (λ l. m ∷ n ∷ l) (append_assoc a (r ∷ []) tail)

    with_last : (m n : Token) (d d2 : List Token) → used ≡ m ∷ d → m.kind ≡ k.Word → same_name m.text function ≡ true → d ≡ n ∷ d2 → n.kind ≡ k.LeftParenthesis
        → ((a : List Token) × (r : Token) × (d2 ≡ a ++ r ∷ []) × P a × (r.kind ≡ k.RightParenthesis)) → CallParts function P used
    with_last m n d d2 e word same f left (a, r, g, p, right) = (m, n, r, a, word, same, left, p, right, all m n r a d d2 e f g)

    with_left : (m : Token) (d : List Token) → used ≡ m ∷ d → m.kind ≡ k.Word → same_name m.text function ≡ true
        → ((n : Token) × (d2 : List Token) × (d ≡ n ∷ d2) × (n.kind ≡ k.LeftParenthesis) × (P ▸ IsToken k.RightParenthesis) d2) → CallParts function P used
    with_left m d e word same (n, d2, f, left, h) = with_last m n d d2 e word same f left (one_last P _ d2 h)

    with_name : ((m : Token) × (d : List Token) × (used ≡ m ∷ d) × ((m.kind ≡ k.Word) × (same_name m.text function ≡ true)) × (IsToken k.LeftParenthesis ▸ P ▸ IsToken k.RightParenthesis) d)
        → CallParts function P used
    with_name (m, d, e, word, h) = with_left m d e word.0 word.1 (one_first _ (P ▸ IsToken k.RightParenthesis) d h)

-- the tokens of a call call that function, whatever follows
call_hit : (function : List ℕ) (P : Phrase) (used tail : List Token) → IsCall function P used → calls function (used ++ tail) ≡ true
call_hit function P used tail call = go (call_parts function P used call)
  where
    go : CallParts function P used → calls function (used ++ tail) ≡ true
    go (m, n, r, a, word, same, left, p, right, cut) = ap (calls function) (cut tail) ∙ hit m n (a ++ r ∷ tail) function word left same

-- and none of another name
call_miss : (word function : List ℕ) (P : Phrase) (used tail : List Token) → IsCall word P used → same_name word function ≡ false → calls function (used ++ tail) ≡ false
call_miss word function P used tail call d = go (call_parts word P used call)
  where
    go : CallParts word P used → calls function (used ++ tail) ≡ false
    go (m, n, r, a, named, same, left, p, right, cut) = ap (calls function) (cut tail) ∙ miss m n (a ++ r ∷ tail) word function named left same d

-- what comes after the last argument of a function: the parenthesis that closes it
abbrev pub EndsArgument : TokenKind → Type 0
EndsArgument kind = kind ≡ k.RightParenthesis

-- what is read up to `)` is read between parentheses
enclosed_read : {A : Type 0} (inside : Reader A) (x : A) (n r : Token) (a tail : List Token) → n.kind ≡ k.LeftParenthesis → r.kind ≡ k.RightParenthesis
    → inside (a ++ r ∷ tail) ≡ Ok (x, r ∷ tail) → enclosed inside (n ∷ (a ++ r ∷ tail)) ≡ Ok (x, tail)
unfolding expect sees kind next
enclosed_read inside x n r a tail left right e = rw (is_kind n.kind k.LeftParenthesis left, e, is_kind r.kind k.RightParenthesis right) refl

-- behind a function's name, what is in the parentheses is read where its reader reads it before `)`
call_read : {A : Type 0} (function : List ℕ) (inside : Reader A) (P : A → Phrase) → Complete inside P EndsArgument
    → (x : A) (used tail : List Token) → IsCall function (P x) used → enclosed inside (next (used ++ tail)) ≡ Ok (x, tail)
unfolding next
call_read function inside P whole x used tail call = go (call_parts function (P x) used call)
  where
    go : CallParts function (P x) used → enclosed inside (next (used ++ tail)) ≡ Ok (x, tail)
    go (m, n, r, a, word, same, left, p, right, cut) =
        ap (λ l. enclosed inside (next l)) (cut tail) ∙ enclosed_read inside x n r a tail left right (whole x a r tail p right)

-- a token of text is read as that string, whatever follows
string_complete : (F : TokenKind → Type 0) → Complete string IsString F
unfolding string sees kind next spelling place
string_complete F x [] t rest p f = absurd p
string_complete F x (u ∷ []) t rest (text, is) f = rw (is_kind u.kind k.Text text, is) refl
string_complete F x (u ∷ v ∷ more) t rest p f = absurd p

left_after : (u : Token) (tail : List Token) → sees k.LeftParenthesis tail ≡ false → sees k.LeftParenthesis (next (u ∷ tail)) ≡ false
unfolding next
left_after u tail e = e

left_first : (u : Token) (tail : List Token) → same_kind u.kind k.LeftParenthesis ≡ false → sees k.LeftParenthesis (u ∷ tail) ≡ false
unfolding sees kind
left_first u tail e = e

point_left : (u : Token) → u.kind ≡ k.Point → same_kind u.kind k.LeftParenthesis ≡ false
unfolding same_kind
point_left u e = rw e refl

-- a column calls no function: behind its first name is a point or what may follow a column, so no `(`
column_uncalled : (x : WrittenColumn) (used : List Token) (t : Token) (rest : List Token) → IsColumn x used → EndsColumn t.kind → (function : List ℕ) → calls function (used ++ t ∷ rest) ≡ false
column_uncalled x used t rest p f function = uncalled function (used ++ t ∷ rest) (alone p)
  where
    alone : IsColumn x used → sees k.LeftParenthesis (next (used ++ t ∷ rest)) ≡ false
    alone (inl (only, e, q)) =
        let name = one_only _ used q in
        ap (λ l. sees k.LeftParenthesis (next (l ++ t ∷ rest))) name.1 ∙ left_after name.0 (t ∷ rest) (left_first t rest f.0)
    alone (inr (first, second, e, q)) =
        let name = one_first _ (IsToken k.Point ▸ IsName second) used q in
        let dot = one_first _ (IsName second) name.1 name.4 in
        ap (λ l. sees k.LeftParenthesis (next (l ++ t ∷ rest))) (name.2 ∙ ap (λ l. name.0 ∷ l) dot.2)
        ∙ left_after name.0 (dot.0 ∷ (dot.1 ++ t ∷ rest)) (left_first dot.0 (dot.1 ++ t ∷ rest) (point_left dot.0 dot.3))

-- both forms of a geometry are read: a column calls no function, and a call of ST_GeomFromText calls that one
geometry_complete : Complete geometry IsGeometry EndsColumn
unfolding geometry
geometry_complete x used t rest (inl (y, e, p)) f =
    none_called ((codes "ST_GeomFromText", enclosed (λ ts. and_then (string ts) (λ s rest. Ok (g.FromText s, rest)))) ∷ []) (λ ts. and_then (column ts) (λ s rest. Ok (g.Column s, rest)))
    (used ++ t ∷ rest) (column_uncalled y used t rest p f)
    ∙ ap (λ r. and_then r (λ s rest. Ok (g.Column s, rest))) (column_complete y used t rest p f) ∙ ap (λ s. Ok (s, t ∷ rest)) (sym e)
geometry_complete x used t rest (inr (y, e, p)) f =
    let from : Reader WrittenGeometry = λ ts. and_then (string ts) (λ s rest. Ok (g.FromText s, rest)) in
    let From : WrittenGeometry → Phrase = λ s ts. (z : Name) × (s ≡ g.FromText z) × IsString z ts in
    let whole : Complete from From EndsArgument = λ s a r tail q right. ap (λ o. and_then o (λ s rest. Ok (g.FromText s, rest))) (string_complete EndsArgument q.0 a r tail q.2 right) ∙ ap (λ z. Ok (z, r ∷ tail)) (sym q.1) in
    first_called ((codes "ST_GeomFromText", enclosed from) ∷ []) (λ ts. and_then (column ts) (λ s rest. Ok (g.Column s, rest))) (used ++ t ∷ rest) (enclosed from) (inl (call_hit (codes "ST_GeomFromText") (IsString y) used (t ∷ rest) p, refl))
    ∙ call_read (codes "ST_GeomFromText") from From whole x used (t ∷ rest) (call_but (codes "ST_GeomFromText") (IsString y) (From x) used (λ a q. (y, e, q)) p)

-- ---- operands

-- digits with a number within 64 bits are read as that integer, whatever follows
digits_complete : (A : Type 0) (negative : Bool) (n : ℤ) (used tail : List Token) → IsDigits negative n used → integer {A = A} negative (used ++ tail) ≡ Ok (o.Integer n, tail)
unfolding integer sees kind next place spelling
digits_complete A negative n [] tail p = absurd p
digits_complete A negative n (u ∷ []) tail (digits, is) = rw (is_kind u.kind k.Integer digits, is) refl
digits_complete A negative n (u ∷ v ∷ more) tail p = absurd p

-- The kind of the next token alone says how an operand is read; for each kind that one begins with. A word: a function or a column
operand_of_word : (ts : List Token) → kind ts ≡ k.Word
    → operand ts ≡ called_or (operand_functions (place ts)) (λ l. and_then (column l) (λ x rest. Ok (o.Column x, rest))) ts
unfolding operand sees same_kind
operand_of_word ts e = rw e refl

-- digits: an integer without a sign
pub operand_of_digits : (ts : List Token) → kind ts ≡ k.Integer → operand ts ≡ integer false ts
unfolding operand sees same_kind
operand_of_digits ts e = rw e refl

-- a plus: the digits behind it
pub operand_of_plus : (ts : List Token) → kind ts ≡ k.Plus → operand ts ≡ integer false (next ts)
unfolding operand sees same_kind
operand_of_plus ts e = rw e refl

-- a minus: the digits behind it, negated
pub operand_of_minus : (ts : List Token) → kind ts ≡ k.Minus → operand ts ≡ integer true (next ts)
unfolding operand sees same_kind
operand_of_minus ts e = rw e refl

-- a string is the operand itself
operand_of_text : (ts : List Token) → kind ts ≡ k.Text → operand ts ≡ Ok (o.Text (written ts), next ts)
unfolding operand sees same_kind
operand_of_text ts e = rw e refl

-- so is NULL
operand_of_null : (ts : List Token) → kind ts ≡ k.Null → operand ts ≡ Ok (o.Null, next ts)
unfolding operand sees same_kind
operand_of_null ts e = rw e refl

-- a column begins with a word
column_word : (x : WrittenColumn) (ts : List Token) → IsColumn x ts → Begins (λ kind. kind ≡ k.Word) ts
column_word x ts (inl (only, e, p)) = one_begins (λ kind. kind ≡ k.Word) _ (λ t q. q.0) ts p
column_word x ts (inr (first, second, e, p)) = seq_begins (λ kind. kind ≡ k.Word) _ _ (one_begins (λ kind. kind ≡ k.Word) _ (λ t q. q.0)) ts p

-- a call begins with a word, the function's name
call_word : (function : List ℕ) (P : Phrase) (ts : List Token) → IsCall function P ts → Begins (λ kind. kind ≡ k.Word) ts
call_word function P ts p = seq_begins (λ kind. kind ≡ k.Word) (IsWord function) _ (one_begins (λ kind. kind ≡ k.Word) _ (λ t q. q.0)) ts p

-- a column is read as an operand: it begins with a word and calls no function
column_operand : (x : WrittenColumn) (used : List Token) (t : Token) (rest : List Token) → IsColumn x used → EndsColumn t.kind
    → operand (used ++ t ∷ rest) ≡ Ok (o.Column x, t ∷ rest)
column_operand x used t rest p f =
    operand_of_word (used ++ t ∷ rest) (kind_after k.Word used (t ∷ rest) (column_word x used p))
    ∙ none_called (operand_functions (place (used ++ t ∷ rest))) (λ l. and_then (column l) (λ x rest. Ok (o.Column x, rest))) (used ++ t ∷ rest) (column_uncalled x used t rest p f)
    ∙ ap (λ r. and_then r (λ x rest. Ok (o.Column x, rest))) (column_complete x used t rest p f)

pub digits_begin : (negative : Bool) (n : ℤ) (ts : List Token) → IsDigits negative n ts → Begins (λ kind. kind ≡ k.Integer) ts
digits_begin negative n ts p = one_begins (λ kind. kind ≡ k.Integer) _ (λ t q. q.0) ts p

-- digits after a sign
signed_complete : (sign : TokenKind) (negative : Bool) (n : ℤ) (used tail : List Token)
    → ((ts : List Token) → kind ts ≡ sign → operand ts ≡ integer negative (next ts)) → (IsToken sign ▸ IsDigits negative n) used
    → operand (used ++ tail) ≡ Ok (o.Integer n, tail)
unfolding kind next
signed_complete sign negative n used tail begins p = go (one_first _ (IsDigits negative n) used p)
  where
    go : ((m : Token) × (d : List Token) × (used ≡ m ∷ d) × (m.kind ≡ sign) × IsDigits negative n d) → operand (used ++ tail) ≡ Ok (o.Integer n, tail)
    go (m, d, e, signs, q) =
        ap (λ ts. operand (ts ++ tail)) e ∙ begins (m ∷ (d ++ tail)) signs ∙ digits_complete WrittenGeometry negative n d tail q

-- an integer is read as an operand, without a sign or with either
integer_operand : (n : ℤ) (used tail : List Token) → IsInteger n used → operand (used ++ tail) ≡ Ok (o.Integer n, tail)
integer_operand n used tail (inl p) =
    operand_of_digits (used ++ tail) (kind_after k.Integer used tail (digits_begin false n used p)) ∙ digits_complete WrittenGeometry false n used tail p
integer_operand n used tail (inr (inl p)) = signed_complete k.Plus false n used tail operand_of_plus p
integer_operand n used tail (inr (inr p)) = signed_complete k.Minus true n used tail operand_of_minus p

-- a string is read as an operand
text_operand : (x : Name) (used tail : List Token) → IsString x used → operand (used ++ tail) ≡ Ok (o.Text x, tail)
unfolding kind next place spelling
text_operand x [] tail p = absurd p
text_operand x (u ∷ []) tail (text, is) = operand_of_text (u ∷ tail) text ∙ ap (λ y. Ok (o.Text y, tail)) (sym is)
text_operand x (u ∷ v ∷ more) tail p = absurd p

-- NULL is read as an operand
null_operand : (used tail : List Token) → IsToken k.Null used → operand (used ++ tail) ≡ Ok (o.Null, tail)
unfolding kind next
null_operand [] tail p = absurd p
null_operand (u ∷ []) tail p = operand_of_null (u ∷ tail) p
null_operand (u ∷ v ∷ more) tail p = absurd p

-- where a reader reads an argument, the tree that is made of it is read too
made_whole : {A B : Type 0} (f : B → A) (reader : Reader B) (P : B → Phrase) → Complete reader P EndsArgument → Complete (λ l. and_then (reader l) (λ y rest. Ok (f y, rest))) (IsMade f P) EndsArgument
made_whole f reader P whole x used t rest (y, e, p) right = ap (λ r. and_then r (λ y rest. Ok (f y, rest))) (whole y used t rest p right) ∙ ap (λ z. Ok (z, t ∷ rest)) (sym e)

-- a reader that goes up to what may follow a column goes up to `)`, which is such a token
ends_argument : {A : Type 0} (reader : Reader A) (P : A → Phrase) → Complete reader P EndsColumn → Complete reader P EndsArgument
unfolding same_kind
ends_argument reader P whole x used t rest p right = whole x used t rest p (ends_by EndsColumn t.kind k.RightParenthesis right (refl, refl))

-- a call is at the place of its name, whatever follows
call_begins : (function : List ℕ) (P : Phrase) (used tail : List Token) → IsCall function P used → place (used ++ tail) ≡ place used
call_begins function P used tail p = place_is used tail (word_begins function _ used p)

-- a call of a function of one argument, which is in a tree at the place of the call
made_called : {A B : Type 0} (functions : ℕ → Functions A) (other : Reader A) (function : List ℕ) (f : ℕ → B → A) (reader : Reader B) (P : B → Phrase) (y : B) (used tail : List Token)
    → Complete reader P EndsArgument → IsCall function (P y) used
    → ((at : ℕ) (ts : List Token) → ts ≡ used ++ tail → IsFirst (functions at) ts (enclosed (λ l. and_then (reader l) (λ y rest. Ok (f at y, rest)))))
    → called_or (functions (place (used ++ tail))) other (used ++ tail) ≡ Ok (f (place used) y, tail)
made_called functions other function f reader P y used tail whole p first =
    let at = place (used ++ tail) in
    first_called (functions at) other (used ++ tail) _ (first at (used ++ tail) refl)
    ∙ call_read function (λ l. and_then (reader l) (λ y rest. Ok (f at y, rest))) (IsMade (f at) P) (made_whole (f at) reader P whole) (f at y) used tail
    (call_but function (P y) (IsMade (f at) P (f at y)) used (λ a q. (y, refl, q)) p)
    ∙ ap (λ n. Ok (f n y, tail)) (call_begins function (P y) used tail p)

-- a geometry is read as the argument of a function
geometry_whole : Complete geometry IsGeometry EndsArgument
geometry_whole = ends_argument geometry IsGeometry geometry_complete

-- ST_AsText and ST_Dimension are read as operands: each is called by its own name and the other isn't
function_operand : (x : ConditionOperand) (used : List Token) (t : Token) (rest : List Token) → IsOperandFunction x used
    → operand (used ++ t ∷ rest) ≡ Ok (x, t ∷ rest)
unfolding same_name
function_operand x used t rest (inl (y, e, p)) =
    operand_of_word (used ++ t ∷ rest) (kind_after k.Word used (t ∷ rest) (call_word (codes "ST_AsText") (IsGeometry y) used p))
    ∙ made_called operand_functions (λ l. and_then (column l) (λ z rest. Ok (o.Column z, rest))) (codes "ST_AsText") o.AsText geometry IsGeometry y used (t ∷ rest) geometry_whole p
    (λ at ts here. inl (ap (calls (codes "ST_AsText")) here ∙ call_hit (codes "ST_AsText") (IsGeometry y) used (t ∷ rest) p, refl))
    ∙ ap (λ z. Ok (z, t ∷ rest)) (sym e)
function_operand x used t rest (inr (y, e, p)) =
    operand_of_word (used ++ t ∷ rest) (kind_after k.Word used (t ∷ rest) (call_word (codes "ST_Dimension") (IsGeometry y) used p))
    ∙ made_called operand_functions (λ l. and_then (column l) (λ z rest. Ok (o.Column z, rest))) (codes "ST_Dimension") o.Dimension geometry IsGeometry y used (t ∷ rest) geometry_whole p
    (λ at ts here. inr (
      ap (calls (codes "ST_AsText")) here ∙ call_miss (codes "ST_Dimension") (codes "ST_AsText") (IsGeometry y) used (t ∷ rest) p refl,
      inl (ap (calls (codes "ST_Dimension")) here ∙ call_hit (codes "ST_Dimension") (IsGeometry y) used (t ∷ rest) p, refl),
    ))
    ∙ ap (λ z. Ok (z, t ∷ rest)) (sym e)

-- each alternative of an operand is read as that operand: the kind of its first token tells them apart, and for a word, what it calls
pub operand_complete : Complete operand IsOperand EndsColumn
operand_complete x used t rest (inl (column, e, p)) f = column_operand column used t rest p f ∙ ap (λ y. Ok (y, t ∷ rest)) (sym e)
operand_complete x used t rest (inr (inl (n, e, p))) f = integer_operand n used (t ∷ rest) p ∙ ap (λ y. Ok (y, t ∷ rest)) (sym e)
operand_complete x used t rest (inr (inr (inl (text, e, p)))) f = text_operand text used (t ∷ rest) p ∙ ap (λ y. Ok (y, t ∷ rest)) (sym e)
operand_complete x used t rest (inr (inr (inr (inl (e, p))))) f = null_operand used (t ∷ rest) p ∙ ap (λ y. Ok (y, t ∷ rest)) (sym e)
operand_complete x used t rest (inr (inr (inr (inr p)))) f = function_operand x used t rest p

-- ---- comparisons

-- the sign of a comparison is a token that may follow a column, and isn't IS
pub compares_ends : (kind : TokenKind) (comparison : Comparison) → comparison_of kind ≡ Some comparison → EndsColumn kind × (same_kind kind k.Is ≡ false)
unfolding same_kind
compares_ends k.LeftParenthesis comparison e = absurd (cc)
compares_ends k.Point comparison e = absurd (cc)
compares_ends k.Is comparison e = absurd (cc)
compares_ends _ comparison e = ((refl, refl), refl)

-- an operand, a sign and an operand are read as that comparison: the sign ends the left side
compare_complete : (sign : Comparison) (left right : ConditionOperand) (a d : List Token) (m t : Token) (rest : List Token)
    → IsOperand left a → comparison_of m.kind ≡ Some sign → IsOperand right d → EndsColumn t.kind
    → comparison (a ++ m ∷ (d ++ t ∷ rest)) ≡ Ok (c.Compare (place (a ++ m ∷ (d ++ t ∷ rest))) sign left right, t ∷ rest)
unfolding comparison compared after sees kind next
compare_complete sign left right a d m t rest p e q f =
    let ends = compares_ends m.kind sign e in
    rw (operand_complete left a m (d ++ t ∷ rest) p ends.0, ends.1, e, operand_complete right d t rest q f) refl

-- an operand with IS NULL is read as a test for NULL: IS ends the operand
null_complete : (operand : ConditionOperand) (a : List Token) (m n t : Token) (rest : List Token)
    → IsOperand operand a → m.kind ≡ k.Is → n.kind ≡ k.Null → comparison (a ++ m ∷ n ∷ t ∷ rest) ≡ Ok (c.IsNull operand, t ∷ rest)
unfolding comparison null_test expect after sees kind next same_kind
null_complete operand a m n t rest p is null =
    rw (operand_complete operand a m (n ∷ t ∷ rest) p (ends_by EndsColumn m.kind k.Is is (refl, refl)), is, null) refl

-- with IS NOT NULL it is read as the NOT of that test
not_null_complete : (operand : ConditionOperand) (a : List Token) (m v n t : Token) (rest : List Token)
    → IsOperand operand a → m.kind ≡ k.Is → v.kind ≡ k.Not → n.kind ≡ k.Null → comparison (a ++ m ∷ v ∷ n ∷ t ∷ rest) ≡ Ok (c.Not (c.IsNull operand), t ∷ rest)
unfolding comparison null_test expect after sees kind next same_kind
not_null_complete operand a m v n t rest p is isnt null =
    rw (operand_complete operand a m (v ∷ n ∷ t ∷ rest) p (ends_by EndsColumn m.kind k.Is is (refl, refl)), is, isnt, null) refl

-- ---- predicates

-- what may follow a predicate: what may behind a column, and no '=', with which it would be tested
abbrev pub EndsPredicate : TokenKind → Type 0
EndsPredicate kind = EndsColumn kind × (same_kind kind k.Equal ≡ false)

-- tokens that begin with another kind have no word next
pub not_word : (used tail : List Token) (known : TokenKind) → same_kind known k.Word ≡ false → Begins (λ kind. kind ≡ known) used → sees k.Word (used ++ tail) ≡ false
unfolding sees kind
not_word used tail known other (t, more, e, f) = rw (e, f) other

-- a name that no predicate has
abbrev pub IsOtherName : List ℕ → Type 0
IsOtherName word =
    (same_name word (codes "ST_Equals") ≡ false) × (same_name word (codes "ST_Disjoint") ≡ false) × (same_name word (codes "ST_Intersects") ≡ false)
    × (same_name word (codes "ST_Touches") ≡ false) × (same_name word (codes "ST_Crosses") ≡ false) × (same_name word (codes "ST_Within") ≡ false)
    × (same_name word (codes "ST_Contains") ≡ false) × (same_name word (codes "ST_Overlaps") ≡ false) × (same_name word (codes "ST_Relate") ≡ false)
    × (same_name word (codes "ST_IsEmpty") ≡ false)

-- a call of a function that is no predicate is read as the beginning of a comparison or a test for NULL
other_call : (word : List ℕ) (P : Phrase) (a tail : List Token) → IsOtherName word → IsCall word P a → predicate (a ++ tail) ≡ comparison (a ++ tail)
unfolding predicate
other_call word P a tail d p = rw (
  call_miss word (codes "ST_Equals") P a tail p d.0,
  call_miss word (codes "ST_Disjoint") P a tail p d.1,
  call_miss word (codes "ST_Intersects") P a tail p d.2,
  call_miss word (codes "ST_Touches") P a tail p d.3,
  call_miss word (codes "ST_Crosses") P a tail p d.4,
  call_miss word (codes "ST_Within") P a tail p d.5,
  call_miss word (codes "ST_Contains") P a tail p d.6,
  call_miss word (codes "ST_Overlaps") P a tail p d.7,
  call_miss word (codes "ST_Relate") P a tail p d.8,
  call_miss word (codes "ST_IsEmpty") P a tail p d.9,
) refl

-- before an operand is no predicate that is a function
pub no_predicate : (x : ConditionOperand) (a : List Token) (m : Token) (tail : List Token) → IsOperand x a → EndsColumn m.kind
    → predicate (a ++ m ∷ tail) ≡ comparison (a ++ m ∷ tail)
unfolding predicate same_kind same_name
no_predicate x a m tail (inl (column, e, p)) f = none_called (predicate_functions (place (a ++ m ∷ tail))) comparison (a ++ m ∷ tail) (column_uncalled column a m tail p f)
no_predicate x a m tail (inr (inl (n, e, inl p))) f = none_called (predicate_functions (place (a ++ m ∷ tail))) comparison (a ++ m ∷ tail)
    (λ function. unnamed function _ (not_word a (m ∷ tail) k.Integer refl (digits_begin false n a p)))
no_predicate x a m tail (inr (inl (n, e, inr (inl p)))) f = none_called (predicate_functions (place (a ++ m ∷ tail))) comparison (a ++ m ∷ tail)
    (λ function. unnamed function _ (not_word a (m ∷ tail) k.Plus refl (seq_begins (λ kind. kind ≡ k.Plus) _ _ (one_begins (λ kind. kind ≡ k.Plus) _ (λ t q. q)) a p)))
no_predicate x a m tail (inr (inl (n, e, inr (inr p)))) f = none_called (predicate_functions (place (a ++ m ∷ tail))) comparison (a ++ m ∷ tail)
    (λ function. unnamed function _ (not_word a (m ∷ tail) k.Minus refl (seq_begins (λ kind. kind ≡ k.Minus) _ _ (one_begins (λ kind. kind ≡ k.Minus) _ (λ t q. q)) a p)))
no_predicate x a m tail (inr (inr (inl (text, e, p)))) f = none_called (predicate_functions (place (a ++ m ∷ tail))) comparison (a ++ m ∷ tail)
    (λ function. unnamed function _ (not_word a (m ∷ tail) k.Text refl (one_begins (λ kind. kind ≡ k.Text) _ (λ t q. q.0) a p)))
no_predicate x a m tail (inr (inr (inr (inl (e, p))))) f = none_called (predicate_functions (place (a ++ m ∷ tail))) comparison (a ++ m ∷ tail)
    (λ function. unnamed function _ (not_word a (m ∷ tail) k.Null refl (one_begins (λ kind. kind ≡ k.Null) _ (λ t q. q) a p)))
no_predicate x a m tail (inr (inr (inr (inr (inl (y, e, p)))))) f = other_call (codes "ST_AsText") (IsGeometry y) a (m ∷ tail) (refl, refl, refl, refl, refl, refl, refl, refl, refl, refl) p
no_predicate x a m tail (inr (inr (inr (inr (inr (y, e, p)))))) f = other_call (codes "ST_Dimension") (IsGeometry y) a (m ∷ tail) (refl, refl, refl, refl, refl, refl, refl, refl, refl, refl) p

-- ---- predicates that are functions

-- 1 behind '=' means the predicate
value_one : {A : Type 0} (x : WrittenCond A) (u : Token) (ts : List Token) → u.kind ≡ k.Integer → digits_value 10 u.text ≡ 1 → truth_value x (u ∷ ts) ≡ Ok (x, ts)
unfolding truth_value sees kind next spelling
value_one x u ts e n = rw (is_kind u.kind k.Integer e, n) refl

-- 0 behind '=' means its NOT
value_zero : {A : Type 0} (x : WrittenCond A) (u : Token) (ts : List Token) → u.kind ≡ k.Integer → digits_value 10 u.text ≡ 0 → truth_value x (u ∷ ts) ≡ Ok (c.Not x, ts)
unfolding truth_value sees kind next spelling
value_zero x u ts e n = rw (is_kind u.kind k.Integer e, n) refl

-- without '=' behind a predicate nothing is tested
test_of_none : {A : Type 0} (bool : WrittenCond A) (t : Token) (rest : List Token) → same_kind t.kind k.Equal ≡ false → truth_test bool (t ∷ rest) ≡ Ok (bool, t ∷ rest)
unfolding truth_test after sees kind next
test_of_none bool t rest f = rw f refl

-- with it, the number is read
test_of_value : {A : Type 0} (bool : WrittenCond A) (m : Token) (ts : List Token) → m.kind ≡ k.Equal → truth_test bool (m ∷ ts) ≡ truth_value bool ts
unfolding truth_test after sees kind next
test_of_value bool m ts e = rw (is_kind m.kind k.Equal e) refl

-- each form of the test is read: none, with 1 and with 0
test_complete : {A : Type 0} (bool : WrittenCond A) → Complete (truth_test bool) (IsTest bool) EndsPredicate
test_complete bool x used t rest (inl (e, none)) f =
    ap (λ l. truth_test bool (l ++ t ∷ rest)) none ∙ test_of_none bool t rest f.1 ∙ ap (λ z. Ok (z, t ∷ rest)) (sym e)
test_complete bool x used t rest (inr (inl (e, p))) f =
    let equal = one_first _ (IsNumber 1) used p in
    let number = one_only _ equal.1 equal.4 in
    ap (λ l. truth_test bool (l ++ t ∷ rest)) (equal.2 ∙ ap (λ l. equal.0 ∷ l) number.1) ∙ test_of_value bool equal.0 (number.0 ∷ t ∷ rest) equal.3
    ∙ value_one bool number.0 (t ∷ rest) number.2.0 number.2.1 ∙ ap (λ z. Ok (z, t ∷ rest)) (sym e)
test_complete bool x used t rest (inr (inr (e, p))) f =
    let equal = one_first _ (IsNumber 0) used p in
    let number = one_only _ equal.1 equal.4 in
    ap (λ l. truth_test bool (l ++ t ∷ rest)) (equal.2 ∙ ap (λ l. equal.0 ∷ l) number.1) ∙ test_of_value bool equal.0 (number.0 ∷ t ∷ rest) equal.3
    ∙ value_zero bool number.0 (t ∷ rest) number.2.0 number.2.1 ∙ ap (λ z. Ok (z, t ∷ rest)) (sym e)

-- `)` may follow a column
ends_column : (kind : TokenKind) → kind ≡ k.RightParenthesis → EndsColumn kind
unfolding same_kind
ends_column kind e = ends_by EndsColumn kind k.RightParenthesis e (refl, refl)

-- a comma may follow a column
comma_ends : (kind : TokenKind) → kind ≡ k.Comma → EndsColumn kind
unfolding same_kind
comma_ends kind e = ends_by EndsColumn kind k.Comma e (refl, refl)

-- a token that is demanded and is next is taken
pub expect_read : (wanted : TokenKind) (m : Token) (ts : List Token) → m.kind ≡ wanted → expect fault.Syntax wanted (m ∷ ts) ≡ Ok (tt, ts)
unfolding expect sees kind next
expect_read wanted m ts e = rw (is_kind m.kind wanted e) refl

-- the arguments of a named predicate, where each step of their reader reads its part
relates_by_steps : (at : ℕ) (predicate : Predicate) (x y : WrittenGeometry) (ts ts1 ts2 ts3 : List Token) → geometry ts ≡ Ok (x, ts1) → expect fault.Syntax k.Comma ts1 ≡ Ok (tt, ts2)
    → geometry ts2 ≡ Ok (y, ts3) → relates at predicate ts ≡ Ok (named predicate at (x, y), ts3)
unfolding relates
relates_by_steps at predicate x y ts ts1 ts2 ts3 e1 e2 e3 = rw (e1, e2, e3) refl

-- two geometries are read as the arguments of a named predicate: the comma ends the first, `)` the second
relates_complete : (at : ℕ) (predicate : Predicate) → Complete (relates at predicate) (IsMade (named predicate at) IsTwo) EndsArgument
relates_complete at predicate x used t rest (two, ex, (a, b, e, p, q)) right = go (one_first _ (IsGeometry two.1) b q)
  where
    go : ((m : Token) × (d : List Token) × (b ≡ m ∷ d) × (m.kind ≡ k.Comma) × IsGeometry two.1 d) → relates at predicate (used ++ t ∷ rest) ≡ Ok (x, t ∷ rest)
    go (m, d, h, comma, r) =
        ap (relates at predicate) (split used a b d (t ∷ rest) m e h)
        ∙ relates_by_steps at predicate two.0 two.1 (a ++ m ∷ (d ++ t ∷ rest)) (m ∷ (d ++ t ∷ rest)) (d ++ t ∷ rest) (t ∷ rest)
        (geometry_complete two.0 a m (d ++ t ∷ rest) p (comma_ends m.kind comma)) (expect_read k.Comma m (d ++ t ∷ rest) comma)
        (geometry_complete two.1 d t rest r (ends_column t.kind right))
        ∙ ap (λ z. Ok (z, t ∷ rest)) (sym ex)

-- the arguments of ST_Relate, where each step of their reader reads its part
patterned_by_steps : (at : ℕ) (x y : WrittenGeometry) (pattern : Name) (ts ts1 ts2 ts3 ts4 ts5 : List Token) → geometry ts ≡ Ok (x, ts1) → expect fault.Syntax k.Comma ts1 ≡ Ok (tt, ts2)
    → geometry ts2 ≡ Ok (y, ts3) → expect fault.Syntax k.Comma ts3 ≡ Ok (tt, ts4) → string ts4 ≡ Ok (pattern, ts5) → relates_by at ts ≡ Ok (patterned at (x, y, pattern), ts5)
unfolding relates_by
patterned_by_steps at x y pattern ts ts1 ts2 ts3 ts4 ts5 e1 e2 e3 e4 e5 = rw (e1, e2, e3, e4, e5) refl

-- two geometries and a string are read as the arguments of ST_Relate: a comma ends each geometry
relates_by_complete : (at : ℕ) → Complete (relates_by at) (IsMade (patterned at) IsThree) EndsArgument
relates_by_complete at x used t rest (three, ex, (a, b, e, p, q)) right = with_second (one_first _ (IsGeometry three.1 ▸ IsToken k.Comma ▸ IsString three.2) b q)
  where
    with_pattern : (m : Token) (d a2 b2 : List Token) → b ≡ m ∷ d → m.kind ≡ k.Comma → d ≡ a2 ++ b2 → IsGeometry three.1 a2
        → ((n : Token) × (d2 : List Token) × (b2 ≡ n ∷ d2) × (n.kind ≡ k.Comma) × IsString three.2 d2) → relates_by at (used ++ t ∷ rest) ≡ Ok (x, t ∷ rest)
    with_pattern m d a2 b2 h comma e2 r (n, d2, h2, comma2, s) =
        let cut : d ++ t ∷ rest ≡ a2 ++ n ∷ (d2 ++ t ∷ rest) = split d a2 b2 d2 (t ∷ rest) n e2 h2 in
        ap (relates_by at) (split used a b d (t ∷ rest) m e h)
        ∙ patterned_by_steps at three.0 three.1 three.2 (a ++ m ∷ (d ++ t ∷ rest)) (m ∷ (d ++ t ∷ rest)) (d ++ t ∷ rest) (n ∷ (d2 ++ t ∷ rest)) (d2 ++ t ∷ rest) (t ∷ rest)
        (geometry_complete three.0 a m (d ++ t ∷ rest) p (comma_ends m.kind comma)) (expect_read k.Comma m (d ++ t ∷ rest) comma)
        (ap geometry cut ∙ geometry_complete three.1 a2 n (d2 ++ t ∷ rest) r (comma_ends n.kind comma2)) (expect_read k.Comma n (d2 ++ t ∷ rest) comma2)
        (string_complete EndsArgument three.2 d2 t rest s right)
        ∙ ap (λ z. Ok (z, t ∷ rest)) (sym ex)

    with_second : ((m : Token) × (d : List Token) × (b ≡ m ∷ d) × (m.kind ≡ k.Comma) × (IsGeometry three.1 ▸ IsToken k.Comma ▸ IsString three.2) d) → relates_by at (used ++ t ∷ rest) ≡ Ok (x, t ∷ rest)
    with_second (m, d, h, comma, (a2, b2, e2, r, r2)) = with_pattern m d a2 b2 h comma e2 r (one_first _ (IsString three.2) b2 r2)

-- the readers of predicates at a place
abbrev pub predicates_at : ℕ → Functions Condition
predicates_at = predicate_functions

-- a predicate that is called is read, and compared with 1 or 0, or with nothing
called_complete : (function : List ℕ) (inside : ℕ → Reader Condition) (P : Condition → Phrase) (bool bool2 x : Condition) (a b : List Token) (t : Token) (rest : List Token)
    → Complete (inside (place (a ++ (b ++ t ∷ rest)))) P EndsArgument → IsCall function (P bool2) a → bool2 ≡ bool → IsTest bool x b → EndsPredicate t.kind
    → IsFirst (predicates_at (place (a ++ (b ++ t ∷ rest)))) (a ++ (b ++ t ∷ rest)) (truth_tested (inside (place (a ++ (b ++ t ∷ rest)))))
    → predicate (a ++ (b ++ t ∷ rest)) ≡ Ok (x, t ∷ rest)
unfolding predicate
called_complete function inside P bool bool2 x a b t rest whole call same test f first =
    let ts : List Token = a ++ (b ++ t ∷ rest) in
    let at : ℕ = place ts in
    first_called (predicates_at at) comparison ts (truth_tested (inside at)) first
    ∙ ap (λ r. and_then r (λ y l. truth_test y l)) (call_read function (inside at) P whole bool2 a (b ++ t ∷ rest) call)
    ∙ ap (λ y. truth_test y (b ++ t ∷ rest)) same
    ∙ test_complete bool x b t rest test f

-- which predicate's name comes next
first_of_names : (at : ℕ) (predicate : Predicate) (word : List ℕ) (P : Phrase) (a tail : List Token) → function_of predicate ≡ Some word → IsCall word P a
    → IsFirst (predicates_at at) (a ++ tail) (truth_tested (relates at predicate))
unfolding same_name
first_of_names at p.Equals word P a tail e call =
    let here : word ≡ codes "ST_Equals" = cc in
    let c2 : IsCall (codes "ST_Equals") P a = subst (λ v. IsCall v P a) here call in
    let m : (v : List ℕ) → same_name (codes "ST_Equals") v ≡ false → calls v (a ++ tail) ≡ false = λ v d. call_miss (codes "ST_Equals") v P a tail c2 d in
    let hit : calls (codes "ST_Equals") (a ++ tail) ≡ true = call_hit (codes "ST_Equals") P a tail c2 in
    inl (hit, refl)
first_of_names at p.Disjoint word P a tail e call =
    let here : word ≡ codes "ST_Disjoint" = cc in
    let c2 : IsCall (codes "ST_Disjoint") P a = subst (λ v. IsCall v P a) here call in
    let m : (v : List ℕ) → same_name (codes "ST_Disjoint") v ≡ false → calls v (a ++ tail) ≡ false = λ v d. call_miss (codes "ST_Disjoint") v P a tail c2 d in
    let hit : calls (codes "ST_Disjoint") (a ++ tail) ≡ true = call_hit (codes "ST_Disjoint") P a tail c2 in
    inr (m _ refl, inl (hit, refl))
first_of_names at p.Intersects word P a tail e call =
    let here : word ≡ codes "ST_Intersects" = cc in
    let c2 : IsCall (codes "ST_Intersects") P a = subst (λ v. IsCall v P a) here call in
    let m : (v : List ℕ) → same_name (codes "ST_Intersects") v ≡ false → calls v (a ++ tail) ≡ false = λ v d. call_miss (codes "ST_Intersects") v P a tail c2 d in
    let hit : calls (codes "ST_Intersects") (a ++ tail) ≡ true = call_hit (codes "ST_Intersects") P a tail c2 in
    inr (m _ refl, inr (m _ refl, inl (hit, refl)))
first_of_names at p.Touches word P a tail e call =
    let here : word ≡ codes "ST_Touches" = cc in
    let c2 : IsCall (codes "ST_Touches") P a = subst (λ v. IsCall v P a) here call in
    let m : (v : List ℕ) → same_name (codes "ST_Touches") v ≡ false → calls v (a ++ tail) ≡ false = λ v d. call_miss (codes "ST_Touches") v P a tail c2 d in
    let hit : calls (codes "ST_Touches") (a ++ tail) ≡ true = call_hit (codes "ST_Touches") P a tail c2 in
    inr (m _ refl, inr (m _ refl, inr (m _ refl, inl (hit, refl))))
first_of_names at p.Crosses word P a tail e call =
    let here : word ≡ codes "ST_Crosses" = cc in
    let c2 : IsCall (codes "ST_Crosses") P a = subst (λ v. IsCall v P a) here call in
    let m : (v : List ℕ) → same_name (codes "ST_Crosses") v ≡ false → calls v (a ++ tail) ≡ false = λ v d. call_miss (codes "ST_Crosses") v P a tail c2 d in
    let hit : calls (codes "ST_Crosses") (a ++ tail) ≡ true = call_hit (codes "ST_Crosses") P a tail c2 in
    inr (m _ refl, inr (m _ refl, inr (m _ refl, inr (m _ refl, inl (hit, refl)))))
first_of_names at p.Within word P a tail e call =
    let here : word ≡ codes "ST_Within" = cc in
    let c2 : IsCall (codes "ST_Within") P a = subst (λ v. IsCall v P a) here call in
    let m : (v : List ℕ) → same_name (codes "ST_Within") v ≡ false → calls v (a ++ tail) ≡ false = λ v d. call_miss (codes "ST_Within") v P a tail c2 d in
    let hit : calls (codes "ST_Within") (a ++ tail) ≡ true = call_hit (codes "ST_Within") P a tail c2 in
    inr (m _ refl, inr (m _ refl, inr (m _ refl, inr (m _ refl, inr (m _ refl, inl (hit, refl))))))
first_of_names at p.Contains word P a tail e call =
    let here : word ≡ codes "ST_Contains" = cc in
    let c2 : IsCall (codes "ST_Contains") P a = subst (λ v. IsCall v P a) here call in
    let m : (v : List ℕ) → same_name (codes "ST_Contains") v ≡ false → calls v (a ++ tail) ≡ false = λ v d. call_miss (codes "ST_Contains") v P a tail c2 d in
    let hit : calls (codes "ST_Contains") (a ++ tail) ≡ true = call_hit (codes "ST_Contains") P a tail c2 in
    inr (m _ refl, inr (m _ refl, inr (m _ refl, inr (m _ refl, inr (m _ refl, inr (m _ refl, inl (hit, refl)))))))
first_of_names at p.Overlaps word P a tail e call =
    let here : word ≡ codes "ST_Overlaps" = cc in
    let c2 : IsCall (codes "ST_Overlaps") P a = subst (λ v. IsCall v P a) here call in
    let m : (v : List ℕ) → same_name (codes "ST_Overlaps") v ≡ false → calls v (a ++ tail) ≡ false = λ v d. call_miss (codes "ST_Overlaps") v P a tail c2 d in
    let hit : calls (codes "ST_Overlaps") (a ++ tail) ≡ true = call_hit (codes "ST_Overlaps") P a tail c2 in
    inr (m _ refl, inr (m _ refl, inr (m _ refl, inr (m _ refl, inr (m _ refl, inr (m _ refl, inr (m _ refl, inl (hit, refl))))))))
first_of_names at (p.Relate pattern) word P a tail e call = absurd (cc)

-- a call of ST_Relate calls it, and none of the named predicates that come before it in the list
first_relate : (at : ℕ) (P : Phrase) (a tail : List Token) → IsCall (codes "ST_Relate") P a → IsFirst (predicates_at at) (a ++ tail) (truth_tested (relates_by at))
unfolding same_name
first_relate at P a tail call =
    let m : (v : List ℕ) → same_name (codes "ST_Relate") v ≡ false → calls v (a ++ tail) ≡ false = λ v d. call_miss (codes "ST_Relate") v P a tail call d in
    let hit : calls (codes "ST_Relate") (a ++ tail) ≡ true = call_hit (codes "ST_Relate") P a tail call in
    inr (m _ refl, inr (m _ refl, inr (m _ refl, inr (m _ refl, inr (m _ refl, inr (m _ refl, inr (m _ refl, inr (m _ refl, inl (hit, refl)))))))))

-- a call of ST_IsEmpty calls it, and none of the functions that come before it in the list
first_empty : (at : ℕ) (P : Phrase) (a tail : List Token) → IsCall (codes "ST_IsEmpty") P a → IsFirst (predicates_at at) (a ++ tail) (truth_tested (empties at))
unfolding same_name
first_empty at P a tail call =
    let m : (v : List ℕ) → same_name (codes "ST_IsEmpty") v ≡ false → calls v (a ++ tail) ≡ false = λ v d. call_miss (codes "ST_IsEmpty") v P a tail call d in
    let hit : calls (codes "ST_IsEmpty") (a ++ tail) ≡ true = call_hit (codes "ST_IsEmpty") P a tail call in
    inr (m _ refl, inr (m _ refl, inr (m _ refl, inr (m _ refl, inr (m _ refl, inr (m _ refl, inr (m _ refl, inr (m _ refl, inr (m _ refl, inl (hit, refl))))))))))

-- each function that is a predicate is read with its test: its name chooses its reader, and its tree is at the place of the name
bool_complete : (bool x : Condition) (a b : List Token) (t : Token) (rest : List Token) → IsBool bool a → IsTest bool x b → EndsPredicate t.kind
    → predicate (a ++ (b ++ t ∷ rest)) ≡ Ok (x, t ∷ rest)
bool_complete bool x a b t rest (inl (predicate, function, y, z, names, ex, call)) test f =
    let at = place (a ++ (b ++ t ∷ rest)) in
    called_complete function (λ n. relates n predicate) (IsMade (named predicate at) IsTwo) bool (named predicate at (y, z)) x a b t rest (relates_complete at predicate)
    (call_but function (IsPair y z) (IsMade (named predicate at) IsTwo (named predicate at (y, z))) a (λ l q. ((y, z), refl, q)) call)
    (ap (λ n. named predicate n (y, z)) (call_begins function (IsPair y z) a (b ++ t ∷ rest) call) ∙ sym ex) test f
    (first_of_names at predicate function (IsPair y z) a (b ++ t ∷ rest) names call)
bool_complete bool x a b t rest (inr (inl (y, z, pattern, ex, call))) test f =
    let at = place (a ++ (b ++ t ∷ rest)) in
    called_complete (codes "ST_Relate") relates_by (IsMade (patterned at) IsThree) bool (patterned at (y, z, pattern)) x a b t rest (relates_by_complete at)
    (call_but (codes "ST_Relate") (IsThree (y, z, pattern)) (IsMade (patterned at) IsThree (patterned at (y, z, pattern))) a (λ l q. ((y, z, pattern), refl, q)) call)
    (ap (λ n. patterned n (y, z, pattern)) (call_begins (codes "ST_Relate") (IsThree (y, z, pattern)) a (b ++ t ∷ rest) call) ∙ sym ex) test f
    (first_relate at (IsThree (y, z, pattern)) a (b ++ t ∷ rest) call)
bool_complete bool x a b t rest (inr (inr (y, ex, call))) test f =
    let at = place (a ++ (b ++ t ∷ rest)) in
    called_complete (codes "ST_IsEmpty") empties (IsMade (c.IsEmpty at) IsGeometry) bool (c.IsEmpty at y) x a b t rest (made_whole (c.IsEmpty at) geometry IsGeometry geometry_whole)
    (call_but (codes "ST_IsEmpty") (IsGeometry y) (IsMade (c.IsEmpty at) IsGeometry (c.IsEmpty at y)) a (λ l q. (y, refl, q)) call)
    (ap (λ n. c.IsEmpty n y) (call_begins (codes "ST_IsEmpty") (IsGeometry y) a (b ++ t ∷ rest) call) ∙ sym ex) test f
    (first_empty at (IsGeometry y) a (b ++ t ∷ rest) call)

-- a predicate that is a function begins with its name
pub bool_begins : (x : Condition) (ts : List Token) → IsBool x ts → Begins BeginsOperand ts
bool_begins x ts (inl (predicate, function, y, z, names, ex, call)) = word_begins function _ ts call
bool_begins x ts (inr (inl (y, z, pattern, ex, call))) = word_begins (codes "ST_Relate") _ ts call
bool_begins x ts (inr (inr (y, ex, call))) = word_begins (codes "ST_IsEmpty") _ ts call

-- a predicate begins with an operand or a name, so neither with NOT nor with `(`
predicate_begins : (x : Condition) (ts : List Token) → IsPredicate x ts → Begins BeginsOperand ts
predicate_begins x ts (inl (comparison, left, right, e, p)) = seq_begins BeginsOperand (IsOperand left) _ (operand_begins left) ts p
predicate_begins x ts (inr (inl (operand, e, p))) = seq_begins BeginsOperand (IsOperand operand) _ (operand_begins operand) ts p
predicate_begins x ts (inr (inr (inl (operand, e, p)))) = seq_begins BeginsOperand (IsOperand operand) _ (operand_begins operand) ts p
predicate_begins x ts (inr (inr (inr (bool, p)))) = seq_begins BeginsOperand (IsBool bool) _ (bool_begins bool) ts p

-- IS may follow a column
pub is_ends : (kind : TokenKind) → kind ≡ k.Is → EndsColumn kind
unfolding same_kind
is_ends kind e = ends_by EndsColumn kind k.Is e (refl, refl)

-- Each form of a predicate is read: an operand in front calls none that is a function, and the token behind it is IS or the sign
-- of a comparison
predicate_complete : Complete predicate IsPredicate EndsPredicate
predicate_complete x used t rest (inl (sign, left, right, ex, (a, b, e, p, q))) f = go (one_first _ (IsOperand right) b q)
  where
    go : ((m : Token) × (d : List Token) × (b ≡ m ∷ d) × (comparison_of m.kind ≡ Some sign) × IsOperand right d) → predicate (used ++ t ∷ rest) ≡ Ok (x, t ∷ rest)
    go (m, d, g, compares, h) =
        let cut : used ++ t ∷ rest ≡ a ++ m ∷ (d ++ t ∷ rest) = split used a b d (t ∷ rest) m e g in
        let here : place (a ++ m ∷ (d ++ t ∷ rest)) ≡ place used =
        sym (ap place cut) ∙ place_is used (t ∷ rest) (seq_begins BeginsOperand (IsOperand left) (IsComparison sign ▸ IsOperand right) (operand_begins left) used (a, b, e, p, q)) in
        ap predicate cut ∙ no_predicate left a m (d ++ t ∷ rest) p (compares_ends m.kind sign compares).0
        ∙ compare_complete sign left right a d m t rest p compares h f.0
        ∙ ap (λ at. Ok (c.Compare at sign left right, t ∷ rest)) here ∙ ap (λ y. Ok (y, t ∷ rest)) (sym ex)
predicate_complete x used t rest (inr (inl (operand, ex, (a, b, e, p, q)))) f = go (one_first _ (IsToken k.Null) b q)
  where
    go : ((m : Token) × (d : List Token) × (b ≡ m ∷ d) × (m.kind ≡ k.Is) × IsToken k.Null d) → predicate (used ++ t ∷ rest) ≡ Ok (x, t ∷ rest)
    go (m, d, g, is, h) =
        let null = one_only _ d h in
        ap predicate (split used a b d (t ∷ rest) m e g) ∙ ap (λ l. predicate (a ++ m ∷ (l ++ t ∷ rest))) null.1
        ∙ no_predicate operand a m (null.0 ∷ t ∷ rest) p (is_ends m.kind is)
        ∙ null_complete operand a m null.0 t rest p is null.2 ∙ ap (λ y. Ok (y, t ∷ rest)) (sym ex)
predicate_complete x used t rest (inr (inr (inl (operand, ex, (a, b, e, p, q))))) f = go (one_first _ (IsToken k.Not ▸ IsToken k.Null) b q)
  where
    further : (m : Token) (d : List Token) → b ≡ m ∷ d → m.kind ≡ k.Is
        → ((v : Token) × (n : List Token) × (d ≡ v ∷ n) × (v.kind ≡ k.Not) × IsToken k.Null n) → predicate (used ++ t ∷ rest) ≡ Ok (x, t ∷ rest)
    further m d g is (v, n, g2, isnt, h) =
        let null = one_only _ n h in
        ap predicate (split used a b d (t ∷ rest) m e g) ∙ ap (λ l. predicate (a ++ m ∷ (l ++ t ∷ rest))) g2
        ∙ ap (λ l. predicate (a ++ m ∷ v ∷ (l ++ t ∷ rest))) null.1
        ∙ no_predicate operand a m (v ∷ null.0 ∷ t ∷ rest) p (is_ends m.kind is)
        ∙ not_null_complete operand a m v null.0 t rest p is isnt null.2 ∙ ap (λ y. Ok (y, t ∷ rest)) (sym ex)

    go : ((m : Token) × (d : List Token) × (b ≡ m ∷ d) × (m.kind ≡ k.Is) × (IsToken k.Not ▸ IsToken k.Null) d) → predicate (used ++ t ∷ rest) ≡ Ok (x, t ∷ rest)
    go (m, d, g, is, h) = further m d g is (one_first _ (IsToken k.Null) d h)
predicate_complete x used t rest (inr (inr (inr (bool, (a, b, e, p, q))))) f =
    ap predicate (ap (λ l. l ++ t ∷ rest) e ∙ append_assoc a b (t ∷ rest)) ∙ bool_complete bool x a b t rest p q f

-- ---- conditions

-- where the token between parts comes after a part, the next part is read
pub part_then : {A : Type 0} (between : TokenKind) (part : Reader A) (n : ℕ) (found : List A) (x : A) (ts : List Token) (m : Token) (rest : List Token)
    → part ts ≡ Ok (x, m ∷ rest) → m.kind ≡ between
    → parts_from fault.Syntax between part (suc n) found ts ≡ parts_from fault.Syntax between part n (found ++ x ∷ []) rest
unfolding parts_from after sees kind next
part_then between part n found x ts m rest e g = rw (e, is_kind m.kind between g) refl

-- where it doesn't, that part is the last
part_last : {A : Type 0} (between : TokenKind) (part : Reader A) (n : ℕ) (found : List A) (x : A) (ts : List Token) (t : Token) (rest : List Token)
    → part ts ≡ Ok (x, t ∷ rest) → same_kind t.kind between ≡ false
    → parts_from fault.Syntax between part (suc n) found ts ≡ Ok (found ++ x ∷ [], t ∷ rest)
unfolding parts_from after sees kind next
part_last between part n found x ts t rest e g = rw (e, g) refl

-- parts are read one behind the other, since the token between them ends each, if more turns are left than parts follow the first
pub parts_complete : {A : Type 0} (between : TokenKind) (part : Reader A) (P : A → Phrase) (F : TokenKind → Type 0) → F between → Complete part P F
    → (more : List A) (x : A) (n : ℕ) (found : List A) (used : List Token) (t : Token) (rest : List Token)
    → IsParts between P x more used → F t.kind → same_kind t.kind between ≡ false → length more < n
    → parts_from fault.Syntax between part n found (used ++ t ∷ rest) ≡ Ok (found ++ x ∷ more, t ∷ rest)
parts_complete between part P F mid whole more x zero found used t rest p f other turns = absurd (omega arith)
parts_complete between part P F mid whole [] x (suc n) found used t rest p f other turns =
    part_last between part n found x (used ++ t ∷ rest) t rest (whole x used t rest p f) other
parts_complete {A} between part P F mid whole (y ∷ more) x (suc n) found used t rest (a, b, e, p, q) f other turns =
    go (λ d h. parts_complete between part P F mid whole more y n (found ++ x ∷ []) d t rest h f other (omega arith)) (one_first _ (IsParts between P y more) b q)
  where
    go : ((d : List Token) → IsParts between P y more d → parts_from fault.Syntax between part n (found ++ x ∷ []) (d ++ t ∷ rest) ≡ Ok ((found ++ x ∷ []) ++ y ∷ more, t ∷ rest))
        → ((m : Token) × (d : List Token) × (b ≡ m ∷ d) × (m.kind ≡ between) × IsParts between P y more d)
        → parts_from fault.Syntax between part (suc n) found (used ++ t ∷ rest) ≡ Ok (found ++ x ∷ y ∷ more, t ∷ rest)
    go others (m, d, g, is, h) =
        ap (parts_from fault.Syntax between part (suc n) found) (split used a b d (t ∷ rest) m e g)
        ∙ part_then between part n found x (a ++ m ∷ (d ++ t ∷ rest)) m (d ++ t ∷ rest) (whole x a m (d ++ t ∷ rest) p (ends_by F m.kind between is mid)) is
        ∙ others d h
        ∙ ap (λ l. Ok (l, t ∷ rest)) (append_assoc found (x ∷ []) (y ∷ more))

-- there are no more parts than tokens, and one token follows
pub turns_suffice : {A : Type 0} (between : TokenKind) (P : A → Phrase) (more : List A) (x : A) (used : List Token) (t : Token) (rest : List Token)
    → IsParts between P x more used → length more < length (used ++ t ∷ rest)
turns_suffice between P [] x used t rest p = omega (arith, length-append used (t ∷ rest))
turns_suffice {A} between P (y ∷ more) x used t rest (a, b, e, p, q) = go (λ d h. turns_suffice between P more y d t rest h) (one_first _ (IsParts between P y more) b q)
  where
    go : ((d : List Token) → IsParts between P y more d → length more < length (d ++ t ∷ rest)) → ((m : Token) × (d : List Token) × (b ≡ m ∷ d) × (m.kind ≡ between) × IsParts between P y more d) → length (y ∷ more) < length (used ++ t ∷ rest)
    go others (m, d, g, is, h) =
        omega (arith, others d h, ap length (split used a b d (t ∷ rest) m e g), length-append a (m ∷ (d ++ t ∷ rest)))

-- a chain is read: the token behind its first part separates a part alone from several, and what may follow it isn't that token
pub chain_complete : {A : Type 0} (between : TokenKind) (join : List (WrittenCond A) → WrittenCond A) (part : Reader (WrittenCond A)) (P : WrittenCond A → Phrase) (F : TokenKind → Type 0)
    → F between → Complete part P F → Complete (chain between join part) (IsChain between join P) (λ kind. F kind × (same_kind kind between ≡ false))
unfolding after sees kind next
chain_complete between join part P F mid whole x used t rest (inl p) f = rw (whole x used t rest p f.0, f.1) refl
chain_complete {A} between join part P F mid whole x used t rest (inr (first, second, more, ex, (a, b, e, p, q))) f = go (one_first _ (IsParts between P second more) b q)
  where
    go : ((m : Token) × (d : List Token) × (b ≡ m ∷ d) × (m.kind ≡ between) × IsParts between P second more d) → chain between join part (used ++ t ∷ rest) ≡ Ok (x, t ∷ rest)
    go (m, d, g, is, h) =
        rw (
          ex,
          split used a b d (t ∷ rest) m e g,
          whole first a m (d ++ t ∷ rest) p (ends_by F m.kind between is mid),
          is_kind m.kind between is,
          parts_complete between part P F mid whole more second (length (d ++ t ∷ rest)) (first ∷ []) d t rest h f.0 f.1 (turns_suffice between P more second d t rest h),
        ) refl

-- what may follow parts with AND between them: what may behind a predicate, and no AND
abbrev pub EndsConjunction : TokenKind → Type 0
EndsConjunction kind = EndsPredicate kind × (same_kind kind k.And ≡ false)

-- what may follow a condition: what may behind parts with AND between them, and no OR
abbrev pub EndsCondition : TokenKind → Type 0
EndsCondition kind = EndsConjunction kind × (same_kind kind k.Or ≡ false)

-- a condition is a chain by OR of chains by AND, and OR ends a chain by AND, so it is read where its parts are
pub condition_of_complete : {A : Type 0} (part : Reader (WrittenCond A)) (P : WrittenCond A → Phrase) → Complete part P EndsPredicate
    → Complete (condition_of part) (IsConditionOf P) EndsCondition
unfolding same_kind
condition_of_complete part P whole =
    chain_complete k.Or c.Or (conjunction part) (IsConjunction P) EndsConjunction (((refl, refl), refl), refl) (chain_complete k.And c.And part P EndsPredicate ((refl, refl), refl) whole)

-- a condition in parentheses is read, since `)` may follow a condition
group_complete : {A : Type 0} (part : Reader (WrittenCond A)) (P : WrittenCond A → Phrase) → Complete part P EndsPredicate
    → (x : WrittenCond A) (a : List Token) (n t : Token) (rest : List Token) → IsConditionOf P x a → n.kind ≡ k.RightParenthesis → group part (a ++ n ∷ t ∷ rest) ≡ Ok (x, t ∷ rest)
unfolding expect sees kind next same_kind
group_complete part P whole x a n t rest p right =
    rw (condition_of_complete part P whole x a n (t ∷ rest) p (ends_by EndsCondition n.kind k.RightParenthesis right ((((refl, refl), refl), refl), refl)), right) refl

-- what begins like an operand has neither NOT nor `(` next
pub not_seen : (used tail : List Token) → Begins BeginsOperand used → (sees k.Not (used ++ tail) ≡ false) × (sees k.LeftParenthesis (used ++ tail) ≡ false)
unfolding sees kind
not_seen used tail (t, more, e, f) = rw e f

-- where neither NOT nor `(` is next, a predicate is read, whatever levels are left
pub negation_predicate : (levels : ℕ) (ts : List Token) → sees k.Not ts ≡ false → sees k.LeftParenthesis ts ≡ false → negation levels ts ≡ predicate ts
unfolding negation
negation_predicate zero ts g h = rw (g, h) refl
negation_predicate (suc levels) ts g h = rw (g, h) refl

-- NOT uses up one level
pub negation_not : (levels : ℕ) (m : Token) (ts : List Token) → m.kind ≡ k.Not
    → negation (suc levels) (m ∷ ts) ≡ and_then (negation levels ts) (λ y rest. Ok (c.Not y, rest))
unfolding negation sees kind next
negation_not levels m ts e = rw (is_kind m.kind k.Not e) refl

-- so does `(`
pub negation_group : (levels : ℕ) (m : Token) (ts : List Token) → m.kind ≡ k.LeftParenthesis
    → negation (suc levels) (m ∷ ts) ≡ group (negation levels) ts
unfolding negation sees kind next same_kind
negation_group levels m ts e = rw e refl

-- NOT is read with what comes after it, where that is read with one level less
nested_not : (levels : ℕ) (x y : Condition) (used : List Token) (t : Token) (rest : List Token) → x ≡ c.Not y
    → Complete (negation levels) (IsNegation levels) EndsPredicate → EndsPredicate t.kind
    → ((m : Token) × (d : List Token) × (used ≡ m ∷ d) × (m.kind ≡ k.Not) × IsNegation levels y d) → negation (suc levels) (used ++ t ∷ rest) ≡ Ok (x, t ∷ rest)
nested_not levels x y used t rest ex whole f (m, d, e, isnt, h) =
    ap (λ l. negation (suc levels) (l ++ t ∷ rest)) e ∙ negation_not levels m (d ++ t ∷ rest) isnt
    ∙ ap (λ r. and_then r (λ y rest. Ok (c.Not y, rest))) (whole y d t rest h f) ∙ ap (λ z. Ok (z, t ∷ rest)) (sym ex)

-- parentheses are read with the condition in them, where its parts are read with one level less
nested_group : (levels : ℕ) (x : Condition) (used : List Token) (t : Token) (rest : List Token)
    → Complete (negation levels) (IsNegation levels) EndsPredicate
    → ((m : Token) × (d : List Token) × (used ≡ m ∷ d) × (m.kind ≡ k.LeftParenthesis) × (IsConditionOf (IsNegation levels) x ▸ IsToken k.RightParenthesis) d)
    → negation (suc levels) (used ++ t ∷ rest) ≡ Ok (x, t ∷ rest)
nested_group levels x used t rest whole (m, d, e, left, h) =
    let inner = one_last (IsConditionOf (IsNegation levels) x) _ d h in
    ap (λ l. negation (suc levels) (l ++ t ∷ rest)) e ∙ negation_group levels m (d ++ t ∷ rest) left
    ∙ ap (λ l. group (negation levels) (l ++ t ∷ rest)) inner.2 ∙ ap (group (negation levels)) (append_assoc inner.0 (inner.1 ∷ []) (t ∷ rest))
    ∙ group_complete (negation levels) (IsNegation levels) whole x inner.0 inner.1 t rest inner.3 inner.4

-- a predicate is read whatever levels are left, since it begins neither with NOT nor with `(`
predicate_alone : (levels : ℕ) (x : Condition) (used : List Token) (t : Token) (rest : List Token) → IsPredicate x used → EndsPredicate t.kind
    → negation levels (used ++ t ∷ rest) ≡ Ok (x, t ∷ rest)
predicate_alone levels x used t rest p f =
    let unseen = not_seen used (t ∷ rest) (predicate_begins x used p) in
    negation_predicate levels (used ++ t ∷ rest) unseen.0 unseen.1 ∙ predicate_complete x used t rest p f

-- by induction on the levels: NOT and `(` use up one both in the grammar and in the reader, and a predicate uses none
pub negation_complete : (levels : ℕ) → Complete (negation levels) (IsNegation levels) EndsPredicate
unfolding IsNegationOf
negation_complete zero x used t rest p f = predicate_alone 0 x used t rest p f
negation_complete (suc levels) x used t rest (inl (y, ex, p)) f = nested_not levels x y used t rest ex (negation_complete levels) f (one_first _ (IsNegation levels y) used p)
negation_complete (suc levels) x used t rest (inr (inl p)) f =
    nested_group levels x used t rest (negation_complete levels) (one_first _ (IsConditionOf (IsNegation levels) x ▸ IsToken k.RightParenthesis) used p)
negation_complete (suc levels) x used t rest (inr (inr p)) f = predicate_alone (suc levels) x used t rest p f

-- a condition that nests to no more levels than may be is read
pub condition_complete : Complete condition IsCondition EndsCondition
condition_complete = condition_of_complete (negation 64) (IsNegation 64) (negation_complete 64)

-- ---- queries

-- a phrase is read where the tokens that follow begin with one that may
pub complete_at : {A : Type 0} (p : Reader A) (P : A → Phrase) (F : TokenKind → Type 0) → Complete p P F → (x : A) (used tail : List Token) → P x used → Begins F tail → p (used ++ tail) ≡ Ok (x, tail)
complete_at p P F whole x used tail h (t, r, e, f) = ap (λ l. p (used ++ l)) e ∙ whole x used t r h f ∙ ap (λ l. Ok (x, l)) (sym e)

-- a column is read as the argument of a function
column_whole : Complete column IsColumn EndsArgument
column_whole = ends_argument column IsColumn column_complete

-- each function of the select list is read: it is called by its own name, and those before it in the list aren't
function_item : (x : SelectItem) (used : List Token) (t : Token) (rest : List Token) → IsItemFunction x used
    → item (used ++ t ∷ rest) ≡ Ok (x, t ∷ rest)
unfolding item same_name
function_item x used t rest (inl (y, e, p)) =
    made_called item_functions (λ l. and_then (column l) (λ z rest. Ok (i.Column z, rest))) (codes "ST_AsText") i.AsText column IsColumn y used (t ∷ rest) column_whole p
    (λ at ts here. inl (ap (calls (codes "ST_AsText")) here ∙ call_hit (codes "ST_AsText") (IsColumn y) used (t ∷ rest) p, refl))
    ∙ ap (λ z. Ok (z, t ∷ rest)) (sym e)
function_item x used t rest (inr (inl (y, e, p))) =
    made_called item_functions (λ l. and_then (column l) (λ z rest. Ok (i.Column z, rest))) (codes "ST_Dimension") i.Dimension column IsColumn y used (t ∷ rest) column_whole p
    (λ at ts here. inr (
      ap (calls (codes "ST_AsText")) here ∙ call_miss (codes "ST_Dimension") (codes "ST_AsText") (IsColumn y) used (t ∷ rest) p refl,
      inl (ap (calls (codes "ST_Dimension")) here ∙ call_hit (codes "ST_Dimension") (IsColumn y) used (t ∷ rest) p, refl),
    ))
    ∙ ap (λ z. Ok (z, t ∷ rest)) (sym e)
function_item x used t rest (inr (inr (y, e, p))) =
    made_called item_functions (λ l. and_then (column l) (λ z rest. Ok (i.Column z, rest))) (codes "ST_IsEmpty") i.IsEmpty column IsColumn y used (t ∷ rest) column_whole p
    (λ at ts here. inr (
      ap (calls (codes "ST_AsText")) here ∙ call_miss (codes "ST_IsEmpty") (codes "ST_AsText") (IsColumn y) used (t ∷ rest) p refl,
      inr (
        ap (calls (codes "ST_Dimension")) here ∙ call_miss (codes "ST_IsEmpty") (codes "ST_Dimension") (IsColumn y) used (t ∷ rest) p refl,
        inl (ap (calls (codes "ST_IsEmpty")) here ∙ call_hit (codes "ST_IsEmpty") (IsColumn y) used (t ∷ rest) p, refl),
      ),
    ))
    ∙ ap (λ z. Ok (z, t ∷ rest)) (sym e)

-- each form of an item is read: a column calls no function
item_complete : Complete item IsItem EndsColumn
unfolding item
item_complete x used t rest (inl (y, e, p)) f =
    none_called (item_functions (place (used ++ t ∷ rest))) (λ l. and_then (column l) (λ z rest. Ok (i.Column z, rest))) (used ++ t ∷ rest) (column_uncalled y used t rest p f)
    ∙ ap (λ r. and_then r (λ z rest. Ok (i.Column z, rest))) (column_complete y used t rest p f) ∙ ap (λ z. Ok (z, t ∷ rest)) (sym e)
item_complete x used t rest (inr p) f = function_item x used t rest p

-- an item begins with a word
item_word : (x : SelectItem) (ts : List Token) → IsItem x ts → Begins (λ kind. kind ≡ k.Word) ts
item_word x ts (inl (column, e, p)) = column_word column ts p
item_word x ts (inr (inl (y, e, p))) = call_word (codes "ST_AsText") (IsColumn y) ts p
item_word x ts (inr (inr (inl (y, e, p)))) = call_word (codes "ST_Dimension") (IsColumn y) ts p
item_word x ts (inr (inr (inr (y, e, p)))) = call_word (codes "ST_IsEmpty") (IsColumn y) ts p

-- so do items, with their first
items_word : (more : List SelectItem) (x : SelectItem) (ts : List Token) → IsParts k.Comma IsItem x more ts → Begins (λ kind. kind ≡ k.Word) ts
items_word [] x ts p = item_word x ts p
items_word (y ∷ more) x ts p = seq_begins (λ kind. kind ≡ k.Word) (IsItem x) _ (λ used q. item_word x used q) ts p

-- what a selection that begins with a word is read as
abbrev pub worded : Reader (Selection WrittenColumn)
worded = called_or count_function (λ ts. and_then (items ts) (λ xs rest. Ok (l.Items xs, rest)))

-- a selection that begins with a word isn't the star
selection_of_word : (ts : List Token) → kind ts ≡ k.Word → selection ts ≡ worded ts
unfolding selection sees same_kind
selection_of_word ts e = rw e refl

-- where COUNT isn't called, items are read
worded_uncounted : (ts : List Token) → calls (codes "COUNT") ts ≡ false → worded ts ≡ and_then (items ts) (λ xs rest. Ok (l.Items xs, rest))
worded_uncounted ts e = rw e refl

-- a star is read as the selection of all columns
selection_of_star : (u : Token) (ts : List Token) → u.kind ≡ k.Star → selection (u ∷ ts) ≡ Ok (l.All, ts)
unfolding selection sees kind next
selection_of_star u ts e = rw (is_kind u.kind k.Star e) refl

-- no item is a call of COUNT
item_uncounted : (x : SelectItem) (used : List Token) (t : Token) (rest : List Token) → IsItem x used → EndsColumn t.kind
    → calls (codes "COUNT") (used ++ t ∷ rest) ≡ false
unfolding same_name
item_uncounted x used t rest (inl (y, e, p)) f = column_uncalled y used t rest p f (codes "COUNT")
item_uncounted x used t rest (inr (inl (y, e, p))) f = call_miss (codes "ST_AsText") (codes "COUNT") (IsColumn y) used (t ∷ rest) p refl
item_uncounted x used t rest (inr (inr (inl (y, e, p)))) f = call_miss (codes "ST_Dimension") (codes "COUNT") (IsColumn y) used (t ∷ rest) p refl
item_uncounted x used t rest (inr (inr (inr (y, e, p)))) f = call_miss (codes "ST_IsEmpty") (codes "COUNT") (IsColumn y) used (t ∷ rest) p refl

-- items don't begin with a call of COUNT, since their first one isn't such a call
items_uncounted : (more : List SelectItem) (x : SelectItem) (used : List Token) (t : Token) (rest : List Token)
    → IsParts k.Comma IsItem x more used → EndsColumn t.kind → calls (codes "COUNT") (used ++ t ∷ rest) ≡ false
unfolding same_kind
items_uncounted [] x used t rest p f = item_uncounted x used t rest p f
items_uncounted (y ∷ more) x used t rest (a, b, e, p, q) f =
    let m = one_first _ (IsParts k.Comma IsItem y more) b q in
    ap (calls (codes "COUNT")) (split used a b m.1 (t ∷ rest) m.0 e m.2)
    ∙ item_uncounted x a m.0 (m.1 ++ t ∷ rest) p (ends_by EndsColumn m.0.kind k.Comma m.3 (refl, refl))

-- behind COUNT, the star in parentheses is read
star_read : (used tail : List Token) → IsCall (codes "COUNT") (IsToken k.Star) used → enclosed counted (next (used ++ tail)) ≡ Ok (l.Count, tail)
star_read used tail p =
    call_read (codes "COUNT") counted IsCounted whole l.Count used tail (call_but (codes "COUNT") (IsToken k.Star) (IsCounted l.Count) used (λ a q. (tt, refl, q)) p)
  where
    whole : Complete counted IsCounted EndsArgument
    whole x a r tail (u, e, q) right =
        let star = one_only _ a q in
        ap (λ l. counted (l ++ r ∷ tail)) star.1 ∙ ap (λ o. and_then o (λ _ rest. Ok (l.Count, rest))) (expect_read k.Star star.0 (r ∷ tail) star.2) ∙ ap (λ y. Ok (y, r ∷ tail)) (sym e)

-- COUNT(*) is read
counted_complete : (used : List Token) (t : Token) (rest : List Token) → IsCall (codes "COUNT") (IsToken k.Star) used → worded (used ++ t ∷ rest) ≡ Ok (l.Count, t ∷ rest)
counted_complete used t rest p =
    first_called count_function (λ ts. and_then (items ts) (λ xs rest. Ok (l.Items xs, rest))) (used ++ t ∷ rest) (enclosed counted)
    (inl (call_hit (codes "COUNT") (IsToken k.Star) used (t ∷ rest) p, refl)) ∙ star_read used (t ∷ rest) p

-- what may follow a selection: what may behind a column, and no comma
abbrev pub EndsItems : TokenKind → Type 0
EndsItems kind = EndsColumn kind × (same_kind kind k.Comma ≡ false)

-- items are read: there are turns enough, since there are no more items than tokens
items_complete : (first : SelectItem) (more : List SelectItem) (used : List Token) (t : Token) (rest : List Token)
    → IsParts k.Comma IsItem first more used → EndsItems t.kind → items (used ++ t ∷ rest) ≡ Ok (first ∷ more, t ∷ rest)
unfolding same_kind
items_complete first more used t rest p f =
    parts_complete k.Comma item IsItem EndsColumn (refl, refl) item_complete more first (length (used ++ t ∷ rest)) [] used t rest p f.0 f.1
    (turns_suffice k.Comma IsItem more first used t rest p)

-- each form of a selection is read: the star by its kind, COUNT(*) by its name, and items since they don't begin with COUNT
pub selection_complete : Complete selection IsSelection EndsItems
selection_complete x used t rest (inl (e, p)) f =
    let star = one_only _ used p in
    ap (λ l. selection (l ++ t ∷ rest)) star.1 ∙ selection_of_star star.0 (t ∷ rest) star.2 ∙ ap (λ y. Ok (y, t ∷ rest)) (sym e)
selection_complete x used t rest (inr (inl (first, more, e, p))) f =
    selection_of_word (used ++ t ∷ rest) (kind_after k.Word used (t ∷ rest) (items_word more first used p))
    ∙ worded_uncounted (used ++ t ∷ rest) (items_uncounted more first used t rest p f.0)
    ∙ ap (λ r. and_then r (λ xs rest. Ok (l.Items xs, rest))) (items_complete first more used t rest p f) ∙ ap (λ y. Ok (y, t ∷ rest)) (sym e)
selection_complete x used t rest (inr (inr (e, p))) f =
    selection_of_word (used ++ t ∷ rest) (kind_after k.Word used (t ∷ rest) (call_word (codes "COUNT") (IsToken k.Star) used p))
    ∙ counted_complete used t rest p ∙ ap (λ y. Ok (y, t ∷ rest)) (sym e)

-- what may follow a table reference: no `(`, and neither AS nor a word, which would be its alias
abbrev pub EndsReference : TokenKind → Type 0
EndsReference kind = (same_kind kind k.LeftParenthesis ≡ false) × (same_kind kind k.As ≡ false) × (same_kind kind k.Word ≡ false)

-- where neither AS nor a word is next, there is no alias
alias_of_none : (t : Token) (rest : List Token) → EndsReference t.kind → alias (t ∷ rest) ≡ Ok (None, t ∷ rest)
unfolding alias sees kind
alias_of_none t rest f = rw (f.1, f.2) refl

-- where a word is next, it is read as the alias
alias_of_word : (ts : List Token) → kind ts ≡ k.Word → alias ts ≡ and_then (name ts) (λ x rest. Ok (Some x, rest))
unfolding alias sees same_kind
alias_of_word ts e = rw e refl

-- behind AS, a name is read as the alias
alias_of_as : (m : Token) (ts : List Token) → m.kind ≡ k.As → alias (m ∷ ts) ≡ and_then (name ts) (λ x rest. Ok (Some x, rest))
unfolding alias sees kind next
alias_of_as m ts e = rw (is_kind m.kind k.As e) refl

-- a name is a word
name_word : (x : Name) (ts : List Token) → IsName x ts → Begins (λ kind. kind ≡ k.Word) ts
name_word x ts p = one_begins (λ kind. kind ≡ k.Word) _ (λ t q. q.0) ts p

-- an alias without AS is read
named_alias : (given : Name) (used : List Token) (t : Token) (rest : List Token) → IsName given used → EndsReference t.kind → alias (used ++ t ∷ rest) ≡ Ok (Some given, t ∷ rest)
named_alias given used t rest p f =
    alias_of_word (used ++ t ∷ rest) (kind_after k.Word used (t ∷ rest) (name_word given used p))
    ∙ ap (λ r. and_then r (λ x rest. Ok (Some x, rest))) (name_complete given used t rest p f.0)

-- an alias behind AS is read
as_alias : (given : Name) (m : Token) (d : List Token) (t : Token) (rest : List Token) → m.kind ≡ k.As → IsName given d → EndsReference t.kind
    → alias (m ∷ (d ++ t ∷ rest)) ≡ Ok (Some given, t ∷ rest)
as_alias given m d t rest e p f = alias_of_as m (d ++ t ∷ rest) e ∙ ap (λ r. and_then r (λ x rest. Ok (Some x, rest))) (name_complete given d t rest p f.0)

-- a reference, where its table's name and its alias are read
reference_by : (table : Name) (given : Option Name) (ts mid rest : List Token) → name ts ≡ Ok (table, mid) → alias mid ≡ Ok (given, rest)
    → reference ts ≡ Ok (record { table = table; alias = given }, rest)
unfolding reference
reference_by table given ts mid rest e g = rw (e, g) refl

-- each form of a reference is read: behind the table's name is AS, a word, or what ends the reference
pub reference_complete : Complete reference IsReference EndsReference
unfolding same_kind
reference_complete x used t rest (inl (table, ex, p)) f =
    reference_by table None (used ++ t ∷ rest) (t ∷ rest) (t ∷ rest) (name_complete table used t rest p f.0) (alias_of_none t rest f) ∙ ap (λ y. Ok (y, t ∷ rest)) (sym ex)
reference_complete x used t rest (inr (inl (table, given, ex, (a, b, e, p, q)))) f =
    let word = one_only _ b q in
    let cut : used ++ t ∷ rest ≡ a ++ word.0 ∷ (t ∷ rest) = split used a b [] (t ∷ rest) word.0 e word.1 in
    let second : IsName given (word.0 ∷ []) = word.2 in
    ap reference cut
    ∙ reference_by table (Some given) (a ++ word.0 ∷ (t ∷ rest)) (word.0 ∷ (t ∷ rest)) (t ∷ rest)
    (name_complete table a word.0 (t ∷ rest) p (ends_by EndsName word.0.kind k.Word word.2.0 refl)) (named_alias given (word.0 ∷ []) t rest second f)
    ∙ ap (λ y. Ok (y, t ∷ rest)) (sym ex)
reference_complete x used t rest (inr (inr (table, given, ex, (a, b, e, p, q)))) f = go (one_first _ (IsName given) b q)
  where
    go : ((m : Token) × (d : List Token) × (b ≡ m ∷ d) × (m.kind ≡ k.As) × IsName given d) → reference (used ++ t ∷ rest) ≡ Ok (x, t ∷ rest)
    go (m, d, g, is, h) =
        ap reference (split used a b d (t ∷ rest) m e g)
        ∙ reference_by table (Some given) (a ++ m ∷ (d ++ t ∷ rest)) (m ∷ (d ++ t ∷ rest)) (t ∷ rest)
        (name_complete table a m (d ++ t ∷ rest) p (ends_by EndsName m.kind k.As is refl)) (as_alias given m d t rest is h f)
        ∙ ap (λ y. Ok (y, t ∷ rest)) (sym ex)

-- ---- the second reference

-- what comes after a second reference, or in its place
abbrev pub EndsSecond : TokenKind → Type 0
EndsSecond kind = EndsCondition kind × EndsReference kind × (same_kind kind k.Comma ≡ false) × (same_kind kind k.Cross ≡ false) × (same_kind kind k.Inner ≡ false) × (same_kind kind k.Join ≡ false)

-- The next token shows the form of a second reference; for each form. None of its tokens: there is none
pub second_of_none : (t : Token) (rest : List Token) → EndsSecond t.kind → second (t ∷ rest) ≡ Ok (([], None), t ∷ rest)
unfolding sees kind
second_of_none t rest f = rw (f.2, f.3, f.4, f.5) refl

-- a comma: a reference without a condition
pub second_of_comma : (m : Token) (ts : List Token) → m.kind ≡ k.Comma → second (m ∷ ts) ≡ crossed ts
unfolding sees kind next
second_of_comma m ts e = rw (is_kind m.kind k.Comma e) refl

-- CROSS: the same behind JOIN
pub second_of_cross : (m : Token) (ts : List Token) → m.kind ≡ k.Cross
    → second (m ∷ ts) ≡ and_then (expect fault.Syntax k.Join ts) (λ _ l. crossed l)
unfolding sees kind next same_kind
second_of_cross m ts e = rw e refl

-- INNER: from JOIN on, with a reference and a condition
pub second_of_inner : (m : Token) (ts : List Token) → m.kind ≡ k.Inner → second (m ∷ ts) ≡ joined_on ts
unfolding after sees kind next same_kind
second_of_inner m ts e = rw e refl

-- JOIN: the same without INNER
pub second_of_join : (m : Token) (ts : List Token) → m.kind ≡ k.Join → second (m ∷ ts) ≡ joined_on (m ∷ ts)
unfolding after sees kind next same_kind
second_of_join m ts e = rw e refl

-- a second reference without a condition is read
crossed_complete : (given : WrittenReference) (used : List Token) (t : Token) (rest : List Token) → IsReference given used → EndsReference t.kind
    → crossed (used ++ t ∷ rest) ≡ Ok ((given ∷ [], None), t ∷ rest)
unfolding crossed
crossed_complete given used t rest p f = rw (reference_complete given used t rest p f) refl

-- JOIN with its reference and condition, where each step of the reader reads its part
joined_by_steps : (given : WrittenReference) (x : Condition) (ts ts1 ts2 ts3 ts4 : List Token)
    → expect fault.Syntax k.Join ts ≡ Ok (tt, ts1) → reference ts1 ≡ Ok (given, ts2) → expect fault.Syntax k.On ts2 ≡ Ok (tt, ts3) → condition ts3 ≡ Ok (x, ts4)
    → joined_on ts ≡ Ok ((given ∷ [], Some x), ts4)
unfolding joined_on
joined_by_steps given x ts ts1 ts2 ts3 ts4 e1 e2 e3 e4 = rw (e1, e2, e3, e4) refl

-- ON may follow a reference
pub on_ends : (kind : TokenKind) → kind ≡ k.On → EndsReference kind
unfolding same_kind
on_ends kind e = ends_by EndsReference kind k.On e (refl, refl, refl)

-- JOIN with its reference and condition is read: ON ends the reference
joined_complete : (given : WrittenReference) (x : Condition) (used : List Token) (t : Token) (rest : List Token) → IsJoin given x used → EndsCondition t.kind
    → joined_on (used ++ t ∷ rest) ≡ Ok ((given ∷ [], Some x), t ∷ rest)
joined_complete given x used t rest p f = with_join (one_first _ (IsReference given ▸ IsToken k.On ▸ IsCondition x) used p)
  where
    with_on : (m : Token) (d a b : List Token) → used ≡ m ∷ d → m.kind ≡ k.Join → d ≡ a ++ b → IsReference given a
        → ((n : Token) × (d2 : List Token) × (b ≡ n ∷ d2) × (n.kind ≡ k.On) × IsCondition x d2) → joined_on (used ++ t ∷ rest) ≡ Ok ((given ∷ [], Some x), t ∷ rest)
    with_on m d a b e join e2 r (n, d2, g, on, h) =
        let cut : d ++ t ∷ rest ≡ a ++ n ∷ (d2 ++ t ∷ rest) = split d a b d2 (t ∷ rest) n e2 g in
        ap (λ l. joined_on (l ++ t ∷ rest)) e
        ∙ joined_by_steps given x (m ∷ (d ++ t ∷ rest)) (d ++ t ∷ rest) (n ∷ (d2 ++ t ∷ rest)) (d2 ++ t ∷ rest) (t ∷ rest)
        (expect_read k.Join m (d ++ t ∷ rest) join) (ap reference cut ∙ reference_complete given a n (d2 ++ t ∷ rest) r (on_ends n.kind on))
        (expect_read k.On n (d2 ++ t ∷ rest) on) (condition_complete x d2 t rest h f)

    with_join : ((m : Token) × (d : List Token) × (used ≡ m ∷ d) × (m.kind ≡ k.Join) × (IsReference given ▸ IsToken k.On ▸ IsCondition x) d)
        → joined_on (used ++ t ∷ rest) ≡ Ok ((given ∷ [], Some x), t ∷ rest)
    with_join (m, d, e, join, (a, b, e2, r, q)) = with_on m d a b e join e2 r (one_first _ (IsCondition x) b q)

-- two tables without a condition between them
crossed_second : (given : WrittenReference) (used : List Token) (t : Token) (rest : List Token) → IsCrossed given used → EndsReference t.kind
    → second (used ++ t ∷ rest) ≡ Ok ((given ∷ [], None), t ∷ rest)
crossed_second given used t rest (inl p) f =
    let comma = one_first _ (IsReference given) used p in
    ap (λ l. second (l ++ t ∷ rest)) comma.2 ∙ second_of_comma comma.0 (comma.1 ++ t ∷ rest) comma.3 ∙ crossed_complete given comma.1 t rest comma.4 f
crossed_second given used t rest (inr p) f =
    let cross = one_first _ (IsToken k.Join ▸ IsReference given) used p in
    let join = one_first _ (IsReference given) cross.1 cross.4 in
    ap (λ l. second (l ++ t ∷ rest)) cross.2 ∙ second_of_cross cross.0 (cross.1 ++ t ∷ rest) cross.3
    ∙ ap (λ l. and_then (expect fault.Syntax k.Join (l ++ t ∷ rest)) (λ _ l. crossed l)) join.2
    ∙ ap (λ r. and_then r (λ _ l. crossed l)) (expect_read k.Join join.0 (join.1 ++ t ∷ rest) join.3)
    ∙ crossed_complete given join.1 t rest join.4 f

-- two tables with a condition between them, with INNER or without
joined_second : (given : WrittenReference) (x : Condition) (used : List Token) (t : Token) (rest : List Token)
    → IsJoined given x used → EndsCondition t.kind → second (used ++ t ∷ rest) ≡ Ok ((given ∷ [], Some x), t ∷ rest)
joined_second given x used t rest (a, b, e, inl none, q) f =
    let join = one_first _ (IsReference given ▸ IsToken k.On ▸ IsCondition x) b q in
    let same : used ≡ b = e ∙ ap (λ l. l ++ b) none in
    ap (λ l. second (l ++ t ∷ rest)) (same ∙ join.2) ∙ second_of_join join.0 (join.1 ++ t ∷ rest) join.3
    ∙ ap (λ l. joined_on (l ++ t ∷ rest)) (sym join.2) ∙ joined_complete given x b t rest q f
joined_second given x used t rest (a, b, e, inr p, q) f =
    let inner = one_only _ a p in
    let same : used ≡ inner.0 ∷ b = e ∙ ap (λ l. l ++ b) inner.1 in
    ap (λ l. second (l ++ t ∷ rest)) same ∙ second_of_inner inner.0 (b ++ t ∷ rest) inner.2 ∙ joined_complete given x b t rest q f

-- each form of a second reference is read, and none where none is written
pub second_complete : Complete second IsBoth EndsSecond
second_complete (x, y) used t rest (inl (ex, ey, none)) f =
    ap (λ l. second (l ++ t ∷ rest)) none ∙ second_of_none t rest f ∙ ap (λ z. Ok ((z, None), t ∷ rest)) (sym ex) ∙ ap (λ z. Ok ((x, z), t ∷ rest)) (sym ey)
second_complete (x, y) used t rest (inr (inl (given, ex, ey, p))) f =
    crossed_second given used t rest p f.1 ∙ ap (λ z. Ok ((z, None), t ∷ rest)) (sym ex) ∙ ap (λ z. Ok ((x, z), t ∷ rest)) (sym ey)
second_complete (x, y) used t rest (inr (inr (given, z, ex, ey, p))) f =
    joined_second given z used t rest p f.0 ∙ ap (λ v. Ok ((v, Some z), t ∷ rest)) (sym ex) ∙ ap (λ v. Ok ((x, v), t ∷ rest)) (sym ey)

-- ---- EXPLAIN

-- SELECT is reserved, so it isn't such a word as EXPLAIN or ANALYZE
says_select : (word : List ℕ) (t : Token) (rest : List Token) → t.kind ≡ k.Select → says word (t ∷ rest) ≡ false
unfolding says sees kind same_kind
says_select word t rest e = rw e refl

-- a word with no `(` behind it says what it spells, in any ASCII case
says_word : (word : List ℕ) (m n : Token) (ts : List Token) → m.kind ≡ k.Word → same_name m.text word ≡ true → same_kind n.kind k.LeftParenthesis ≡ false → says word (m ∷ n ∷ ts) ≡ true
unfolding says sees kind next spelling
says_word word m n ts e same other = rw (is_kind m.kind k.Word e, other, same) refl

no_left : (kind known : TokenKind) → kind ≡ known → same_kind known k.LeftParenthesis ≡ false → same_kind kind k.LeftParenthesis ≡ false
no_left kind known e h = rw e h

-- EXPLAIN and ANALYZE are read as they are written: SELECT, which follows, is neither
pub explained_complete : (said : Explain) (used : List Token) (t : Token) (rest : List Token) → IsExplain said used → t.kind ≡ k.Select
    → explained (used ++ t ∷ rest) ≡ Ok (said, t ∷ rest)
unfolding same_kind next
explained_complete said used t rest (inl (e, none)) select =
    rw (none, says_select (codes "EXPLAIN") t rest select, e) refl
explained_complete said used t rest (inr (inl (e, p))) select =
    let word = one_only _ used p in
    rw (
      word.1,
      says_word (codes "EXPLAIN") word.0 t rest word.2.0 word.2.1 (no_left t.kind k.Select select refl),
      says_select (codes "ANALYZE") t rest select,
      e,
    ) refl
explained_complete said used t rest (inr (inr (e, p))) select =
    let first = one_first _ (IsWord (codes "ANALYZE")) used p in
    let last = one_only _ first.1 first.4 in
    rw (
      first.2,
      last.1,
      says_word (codes "EXPLAIN") first.0 last.0 (t ∷ rest) first.3.0 first.3.1 (no_left last.0.kind k.Word last.2.0 refl),
      says_word (codes "ANALYZE") last.0 t rest last.2.0 last.2.1 (no_left t.kind k.Select select refl),
      e,
    ) refl

-- ---- WHERE

-- what may follow the condition of WHERE, or in its place: what may behind a condition, and no WHERE
abbrev pub EndsWhere : TokenKind → Type 0
EndsWhere kind = EndsCondition kind × (same_kind kind k.Where ≡ false)

-- where WHERE isn't next there is no condition
pub where_of_none : (t : Token) (rest : List Token) → same_kind t.kind k.Where ≡ false → where_condition (t ∷ rest) ≡ Ok (None, t ∷ rest)
unfolding where_condition after sees kind next
where_of_none t rest f = rw f refl

-- behind WHERE a condition is read
pub where_of_word : (m : Token) (ts : List Token) → m.kind ≡ k.Where → where_condition (m ∷ ts) ≡ and_then (condition ts) (λ x rest. Ok (Some x, rest))
unfolding where_condition after sees kind next
where_of_word m ts e = rw (is_kind m.kind k.Where e) refl

-- WHERE with its condition is read, and none where none is written
where_complete : Complete where_condition IsWhere EndsWhere
where_complete x used t rest (inl (ex, none)) f =
    ap (λ l. where_condition (l ++ t ∷ rest)) none ∙ where_of_none t rest f.1 ∙ ap (λ y. Ok (y, t ∷ rest)) (sym ex)
where_complete x used t rest (inr (y, ex, p)) f = go (one_first _ (IsCondition y) used p)
  where
    go : ((m : Token) × (d : List Token) × (used ≡ m ∷ d) × (m.kind ≡ k.Where) × IsCondition y d) → where_condition (used ++ t ∷ rest) ≡ Ok (x, t ∷ rest)
    go (m, d, e, word, h) =
        ap (λ l. where_condition (l ++ t ∷ rest)) e ∙ where_of_word m (d ++ t ∷ rest) word
        ∙ ap (λ r. and_then r (λ x rest. Ok (Some x, rest))) (condition_complete y d t rest h f.0) ∙ ap (λ z. Ok (z, t ∷ rest)) (sym ex)

-- ---- LIMIT

-- where LIMIT isn't next there is no limit
limit_of_none : (t : Token) (rest : List Token) → same_kind t.kind k.Limit ≡ false → limited (t ∷ rest) ≡ Ok (None, t ∷ rest)
unfolding sees kind
limit_of_none t rest f = rw f refl

-- behind LIMIT its number is read
pub limit_of_word : (m : Token) (ts : List Token) → m.kind ≡ k.Limit → limited (m ∷ ts) ≡ limit_number ts
unfolding sees kind next
limit_of_word m ts e = rw (is_kind m.kind k.Limit e) refl

-- digits with a number within 64 bits are read as LIMIT's number
count_complete : (n : ℕ) (u : Token) (rest : List Token) → u.kind ≡ k.Integer → limit_value u.text ≡ Some n → limit_number (u ∷ rest) ≡ Ok (Some n, rest)
unfolding limit_number sees kind next place spelling
count_complete n u rest e g = rw (is_kind u.kind k.Integer e, g) refl

-- what may follow LIMIT's number, or in its place: anything but LIMIT
abbrev pub EndsLimit : TokenKind → Type 0
EndsLimit kind = same_kind kind k.Limit ≡ false

-- LIMIT with its number is read, and none where none is written
limit_complete : Complete limited IsLimit EndsLimit
limit_complete x used t rest (inl (e, none)) f = ap (λ l. limited (l ++ t ∷ rest)) none ∙ limit_of_none t rest f ∙ ap (λ y. Ok (y, t ∷ rest)) (sym e)
limit_complete x used t rest (inr (n, e, p)) f =
    let m = one_first _ (IsRowCount n) used p in
    let u = one_only _ m.1 m.4 in
    ap (λ l. limited (l ++ t ∷ rest)) (m.2 ∙ ap (λ l. m.0 ∷ l) u.1) ∙ limit_of_word m.0 (u.0 ∷ t ∷ rest) m.3
    ∙ count_complete n u.0 (t ∷ rest) u.2.0 u.2.1 ∙ ap (λ y. Ok (y, t ∷ rest)) (sym e)

-- ---- the end of a query

-- what is at the end
abbrev pub IsTail : Phrase
IsTail = IsOptional k.Semicolon ▸ IsToken k.End

-- the end is read without a semicolon before it
end_read : (n : Token) → n.kind ≡ k.End → expect fault.Syntax k.End (after k.Semicolon (n ∷ [])) ≡ Ok (tt, [])
unfolding expect after sees kind next same_kind
end_read n e = rw e refl

-- and with one
semicolon_read : (m n : Token) → m.kind ≡ k.Semicolon → n.kind ≡ k.End → expect fault.Syntax k.End (after k.Semicolon (m ∷ n ∷ [])) ≡ Ok (tt, [])
unfolding expect after sees kind next same_kind
semicolon_read m n e g = rw (e, g) refl

-- what is at the end of a query is read in both forms
tail_read : (ts : List Token) → IsTail ts → expect fault.Syntax k.End (after k.Semicolon ts) ≡ Ok (tt, [])
tail_read ts (semi, last, e, inl none, p) =
    let end = one_only _ last p in
    ap (λ l. expect fault.Syntax k.End (after k.Semicolon l)) (e ∙ ap (λ l. l ++ last) none ∙ end.1) ∙ end_read end.0 end.2
tail_read ts (semi, last, e, inr s, p) =
    let end = one_only _ last p in
    let first = one_only _ semi s in
    ap (λ l. expect fault.Syntax k.End (after k.Semicolon l)) (e ∙ ap (λ l. l ++ last) first.1 ∙ ap (λ l. first.0 ∷ l) end.1) ∙ semicolon_read first.0 end.0 first.2 end.2

-- what comes after the condition of WHERE, or in its place
abbrev pub EndsBoth : TokenKind → Type 0
EndsBoth kind = EndsWhere kind × EndsSecond kind

-- what comes after LIMIT's number, or in its place
abbrev pub EndsAll : TokenKind → Type 0
EndsAll kind = EndsBoth kind × EndsLimit kind

-- the end may follow a second reference, the condition of WHERE and LIMIT's number, and in the place of each
end_ends : (kind : TokenKind) → kind ≡ k.End → EndsAll kind
unfolding same_kind
end_ends kind e = ends_by EndsAll kind k.End e (((((((refl, refl), refl), refl), refl), refl), (((((refl, refl), refl), refl), refl), (refl, refl, refl), refl, refl, refl, refl)), refl)

-- so may a semicolon
semicolon_ends : (kind : TokenKind) → kind ≡ k.Semicolon → EndsAll kind
unfolding same_kind
semicolon_ends kind e = ends_by EndsAll kind k.Semicolon e (((((((refl, refl), refl), refl), refl), refl), (((((refl, refl), refl), refl), refl), (refl, refl, refl), refl, refl, refl, refl)), refl)

-- LIMIT may follow the condition of WHERE and in its place, and behind a second reference and in its place
pub limit_ends : (kind : TokenKind) → kind ≡ k.Limit → EndsBoth kind
unfolding same_kind
limit_ends kind e = ends_by EndsBoth kind k.Limit e ((((((refl, refl), refl), refl), refl), refl), (((((refl, refl), refl), refl), refl), (refl, refl, refl), refl, refl, refl, refl))

-- what is at the end begins with a semicolon or the end, which both may be there
tail_begins : (ts : List Token) → IsTail ts → Begins EndsAll ts
tail_begins ts (semi, last, e, inl none, p) =
    let end = one_only _ last p in
    (end.0, [], e ∙ ap (λ l. l ++ last) none ∙ end.1, end_ends end.0.kind end.2)
tail_begins ts (semi, last, e, inr s, p) =
    let first = one_only _ semi s in
    (first.0, last, e ∙ ap (λ l. l ++ last) first.1, semicolon_ends first.0.kind first.2)

pub begins_but : (F G : TokenKind → Type 0) (ts : List Token) → ((kind : TokenKind) → F kind → G kind) → Begins F ts → Begins G ts
begins_but F G ts h (t, more, e, f) = (t, more, e, h t.kind f)

-- WHERE may follow a second reference, or in its place
pub where_ends : (kind : TokenKind) → kind ≡ k.Where → EndsSecond kind
unfolding same_kind
where_ends kind e = ends_by EndsSecond kind k.Where e (((((refl, refl), refl), refl), refl), (refl, refl, refl), refl, refl, refl, refl)

-- from LIMIT on, the next token may follow the condition of WHERE: it is LIMIT, or what is at the end
limit_begins : (most : Option ℕ) (a b ts : List Token) → ts ≡ a ++ b → IsLimit most a → IsTail b → Begins EndsBoth ts
limit_begins most a b ts e (inl (ex, none)) q =
    let tail : Begins EndsBoth b = begins_but EndsAll EndsBoth b (λ kind f. f.0) (tail_begins b q) in
    (tail.0, tail.1, e ∙ ap (λ l. l ++ b) none ∙ tail.2, tail.3)
limit_begins most a b ts e (inr (n, ex, p)) q =
    let m = one_first _ (IsRowCount n) a p in
    (m.0, m.1 ++ b, e ∙ ap (λ l. l ++ b) m.2, limit_ends m.0.kind m.3)

-- from WHERE on, the next token may follow a second reference: it is WHERE, or what may be in its place
where_begins : (filter : Option Condition) (a b ts : List Token) → ts ≡ a ++ b → IsWhere filter a → Begins EndsBoth b → Begins EndsSecond ts
where_begins filter a b ts e (inl (ex, none)) tail = (tail.0, tail.1, e ∙ ap (λ l. l ++ b) none ∙ tail.2, tail.3.1)
where_begins filter a b ts e (inr (y, ex, p)) tail = go (one_first _ (IsCondition y) a p)
  where
    go : ((m : Token) × (d : List Token) × (a ≡ m ∷ d) × (m.kind ≡ k.Where) × IsCondition y d) → Begins EndsSecond ts
    go (m, d, g, word, h) = (m, d ++ b, e ∙ ap (λ l. l ++ b) g, where_ends m.kind word)

pub ends_reference : (kind known : TokenKind) → kind ≡ known → EndsReference known → EndsReference kind
ends_reference kind known e h = ends_by EndsReference kind known e h

-- from the second reference on, the next token may follow the first: a comma, CROSS, INNER, JOIN, or what may in their place
second_begins : (both : Second) (a b ts : List Token) → ts ≡ a ++ b → IsBoth both a → Begins EndsSecond b → Begins EndsReference ts
unfolding same_kind
second_begins both a b ts e (inl (ex, ey, none)) (t, more, g, f) = (t, more, e ∙ ap (λ l. l ++ b) none ∙ g, f.1)
second_begins both a b ts e (inr (inl (given, ex, ey, inl p))) h =
    let m = one_first _ (IsReference given) a p in
    (m.0, m.1 ++ b, e ∙ ap (λ l. l ++ b) m.2, ends_reference m.0.kind k.Comma m.3 (refl, refl, refl))
second_begins both a b ts e (inr (inl (given, ex, ey, inr p))) h =
    let m = one_first _ (IsToken k.Join ▸ IsReference given) a p in
    (m.0, m.1 ++ b, e ∙ ap (λ l. l ++ b) m.2, ends_reference m.0.kind k.Cross m.3 (refl, refl, refl))
second_begins both a b ts e (inr (inr (given, x, ex, ey, (a1, b1, e1, inl none, q)))) h =
    let m = one_first _ (IsReference given ▸ IsToken k.On ▸ IsCondition x) b1 q in
    (m.0, m.1 ++ b, e ∙ ap (λ l. l ++ b) (e1 ∙ ap (λ l. l ++ b1) none ∙ m.2), ends_reference m.0.kind k.Join m.3 (refl, refl, refl))
second_begins both a b ts e (inr (inr (given, x, ex, ey, (a1, b1, e1, inr p, q)))) h =
    let m = one_only _ a1 p in
    (m.0, b1 ++ b, e ∙ ap (λ l. l ++ b) (e1 ∙ ap (λ l. l ++ b1) m.1), ends_reference m.0.kind k.Inner m.2 (refl, refl, refl))

-- ---- queries as a whole

-- a query, where each step of its reader reads its part
query_by_steps : (said : Explain) (listed : Selection WrittenColumn) (first : WrittenReference) (both : Second)
    (filter : Option Condition) (most : Option ℕ) (ts ts0 ts1 ts2 ts3 ts4 ts5 ts6 tail : List Token)
    → explained ts ≡ Ok (said, ts0) → expect fault.Syntax k.Select ts0 ≡ Ok (tt, ts1) → selection ts1 ≡ Ok (listed, ts2) → expect fault.Syntax k.From ts2 ≡ Ok (tt, ts3)
    → reference ts3 ≡ Ok (first, ts4) → second ts4 ≡ Ok (both, ts5) → where_condition ts5 ≡ Ok (filter, ts6) → limited ts6 ≡ Ok (most, tail)
    → expect fault.Syntax k.End (after k.Semicolon tail) ≡ Ok (tt, [])
    → query ts ≡ Ok (record { explain = said; selection = listed; references = first ∷ both.0; on = both.1; condition = filter; limit = most }, [])
unfolding query
query_by_steps said listed first both filter most ts ts0 ts1 ts2 ts3 ts4 ts5 ts6 tail e0 e1 e2 e3 e4 e5 e6 e7 e8 = rw (e0, e1, e2, e3, e4, e5, e6, e7, e8) refl

-- from LIMIT on
abbrev pub Rest6 : Option ℕ → List Token → Type 0
Rest6 most ts = (tail : List Token) × (limited ts ≡ Ok (most, tail)) × (expect fault.Syntax k.End (after k.Semicolon tail) ≡ Ok (tt, [])) × Begins EndsBoth ts

-- The rest of a query is read part by part from its end, since each part is read by the token that comes after it. From LIMIT on
rest6 : (most : Option ℕ) (ts : List Token) → (IsLimit most ▸ IsTail) ts → Rest6 most ts
rest6 most ts (a, b, e, p, q) = (
  b,
  ap limited e ∙ complete_at limited IsLimit EndsLimit limit_complete most a b p (begins_but EndsAll EndsLimit b (λ kind f. f.1) (tail_begins b q)),
  tail_read b q,
  limit_begins most a b ts e p q,
)

-- from the condition on
abbrev pub Rest5 : Option Condition → Option ℕ → List Token → Type 0
Rest5 filter most ts = (mid : List Token) × (where_condition ts ≡ Ok (filter, mid)) × Rest6 most mid × Begins EndsSecond ts

-- from WHERE on: what follows begins with a token that may follow its condition
rest5 : (filter : Option Condition) (most : Option ℕ) (ts : List Token) → (IsWhere filter ▸ IsLimit most ▸ IsTail) ts
    → Rest5 filter most ts
rest5 filter most ts (a, b, e, p, q) =
    let more = rest6 most b q in (
      b,
      ap where_condition e ∙ complete_at where_condition IsWhere EndsWhere where_complete filter a b p (begins_but EndsBoth EndsWhere b (λ kind f. f.0) more.3),
      more,
      where_begins filter a b ts e p more.3,
    )

-- from the second reference on
abbrev pub Rest4 : Second → Option Condition → Option ℕ → List Token → Type 0
Rest4 both filter most ts = (mid : List Token) × (second ts ≡ Ok (both, mid)) × Rest5 filter most mid × Begins EndsReference ts

-- from the second reference on: what follows begins with a token that may follow it
rest4 : (both : Second) (filter : Option Condition) (most : Option ℕ) (ts : List Token)
    → (IsBoth both ▸ IsWhere filter ▸ IsLimit most ▸ IsTail) ts → Rest4 both filter most ts
rest4 both filter most ts (a, b, e, p, q) =
    let more = rest5 filter most b q in (
      b,
      ap second e ∙ complete_at second IsBoth EndsSecond second_complete both a b p more.3,
      more,
      second_begins both a b ts e p more.3,
    )

-- FROM may follow a selection
pub from_ends : (kind : TokenKind) → kind ≡ k.From → EndsItems kind
unfolding same_kind
from_ends kind e = ends_by EndsItems kind k.From e ((refl, refl), refl)

-- what is written from the condition of WHERE on
abbrev pub IsRest : SelectQuery → Phrase
IsRest q = IsWhere q.condition ▸ IsLimit q.limit ▸ IsTail

-- the references of FROM begin with one, and what is written behind it is that of the second and the rest
from_first : (references : List WrittenReference) (on : Option Condition) (R : Phrase) (ts : List Token) → (IsReferences references on ▸ R) ts
    → (first : WrittenReference) × (more : List WrittenReference) × (references ≡ first ∷ more) × (IsReference first ▸ IsSecond more on ▸ R) ts
from_first references on R ts (a, b, e, (first, more, is, (c, d, e2, p, q)), r) =
    (first, more, is, (c, d ++ b, e ∙ ap (λ l. l ++ b) e2 ∙ append_assoc c d b, p, (d, b, refl, q, r)))

-- what is read with these references is the query that has them
with_references : (ts : List Token) (q : SelectQuery) (references : List WrittenReference) → q.references ≡ references
    → query ts ≡ Ok (record { explain = q.explain; selection = q.selection; references = references; on = q.on; condition = q.condition; limit = q.limit }, []) → query ts ≡ Ok (q, [])
with_references ts q references is =
    subst (λ rs. query ts ≡ Ok (record { explain = q.explain; selection = q.selection; references = rs; on = q.on; condition = q.condition; limit = q.limit }, [])) (sym is)

-- each rule is read as far as its phrase goes, by the token that comes after it
pub select_complete : (q : SelectQuery) (ts : List Token) → IsSelect q ts → query ts ≡ Ok (q, [])
select_complete q ts (a0, b0, e0, said, p) = at_select (one_first _ _ b0 p)
  where
    at_reference : (m : Token) (ts1 a1 : List Token) (n : Token) (ts3 : List Token) → b0 ≡ m ∷ ts1 → m.kind ≡ k.Select → ts1 ≡ a1 ++ n ∷ ts3 → n.kind ≡ k.From → IsSelection q.selection a1
        → ((first : WrittenReference) × (later : List WrittenReference) × (q.references ≡ first ∷ later) × (IsReference first ▸ IsSecond later q.on ▸ IsRest q) ts3) → query ts ≡ Ok (q, [])
    at_reference m ts1 a1 n ts3 e1 s cut f l1 (first, later, is, (a, b, e, r, w)) =
        let more = rest4 (later, q.on) q.condition q.limit b w in
        with_references ts q (first ∷ later) is (query_by_steps q.explain q.selection first (later, q.on) q.condition q.limit ts (m ∷ ts1) ts1 (n ∷ ts3) ts3 b more.0 more.2.0 more.2.2.0
        (ap explained (e0 ∙ ap (λ l. a0 ++ l) e1) ∙ explained_complete q.explain a0 m ts1 said s)
        (expect_read k.Select m ts1 s)
        (ap selection cut ∙ selection_complete q.selection a1 n ts3 l1 (from_ends n.kind f))
        (expect_read k.From n ts3 f)
        (ap reference e ∙ complete_at reference IsReference EndsReference reference_complete first a b r more.3)
        more.1 more.2.1 more.2.2.1 more.2.2.2)

    at_from : (m : Token) (ts1 a1 b1 : List Token) → b0 ≡ m ∷ ts1 → m.kind ≡ k.Select → ts1 ≡ a1 ++ b1 → IsSelection q.selection a1
        → ((n : Token) × (ts3 : List Token) × (b1 ≡ n ∷ ts3) × (n.kind ≡ k.From) × (IsReferences q.references q.on ▸ IsRest q) ts3) → query ts ≡ Ok (q, [])
    at_from m ts1 a1 b1 e1 s cut l1 (n, ts3, e2, f, r) =
        at_reference m ts1 a1 n ts3 e1 s (cut ∙ ap (λ l. a1 ++ l) e2) f l1 (from_first q.references q.on (IsRest q) ts3 r)

    at_select : ((m : Token) × (ts1 : List Token) × (b0 ≡ m ∷ ts1) × (m.kind ≡ k.Select) × (IsSelection q.selection ▸ IsToken k.From ▸ IsReferences q.references q.on ▸ IsRest q) ts1)
        → query ts ≡ Ok (q, [])
    at_select (m, ts1, e1, s, (a1, b1, cut, l1, more)) = at_from m ts1 a1 b1 e1 s cut l1 (one_first _ (IsReferences q.references q.on ▸ IsRest q) b1 more)
