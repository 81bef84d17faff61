-- A fault at a token that the readers of a query return applies there.
use Rattle.std.proofs.Common.{◌≡◌, ◌⊎◌, ◌≤◌, ◌+◌, ℕ, zero, suc, Bool, true, false, not, ◌&&◌, ◌||◌, if◌then◌else◌, ◌==◌, ℤ, List, [], ◌∷◌, ◌++◌, length, Option, Some, None, Result, Ok, Err, inl, inr, refl, sym, ap, subst, ◌∙◌, append_assoc, append-nil, codes, arith}
use Rattle.std.specs.Prelude.{IfErr, nat_lt}
use Rattle.std.specs.Str.Parse.{digits_value}
use Rattle.std.proofs.lemmas.Bool.{false≢true, ltb-false}
use Rattle.geometry_model.specs.declared.relations.Predicate.{Predicate}
use Rattle.geometry_model.specs.declared.relations.Predicate.TheVariants as p
use Rattle.table_model.specs.declared.conditions.Comparison.{Comparison}
use Rattle.table_model.specs.declared.faults.QueryFault.{QueryFault}
use Rattle.table_model.specs.declared.faults.QueryFault.TheVariants as fault
use Rattle.table_model.specs.declared.queries.WrittenCond.{WrittenCond}
use Rattle.table_model.specs.declared.queries.WrittenGeometry.{WrittenGeometry}
use Rattle.table_model.specs.declared.queries.WrittenCond.TheVariants as c
use Rattle.table_model.specs.declared.queries.Selection.TheVariants as l
use Rattle.table_model.specs.declared.queries.WrittenItem.TheVariants as i
use Rattle.table_model.specs.declared.queries.WrittenOperand.{WrittenOperand}
use Rattle.table_model.specs.declared.queries.WrittenOperand.TheVariants as o
use Rattle.table_model.specs.declared.queries.WrittenReference.{WrittenReference}
use Rattle.table_model.specs.declared.tokens.Token.{Token}
use Rattle.table_model.specs.declared.tokens.TokenKind.{TokenKind}
use Rattle.table_model.specs.declared.tokens.TokenKind.TheVariants as k
use Rattle.table_model.specs.Outcomes.{Gives}
use Rattle.table_model.specs.Parsers.{Outcome, kind, place, spelling, next, sees, after, and_then, expect, parts_from, value_of}
use Rattle.table_model.specs.QueryGrammar.{IsOperand, IsComparison, IsPredicateOf, IsPredicate, IsChain, IsConjunction, IsConditionOf, IsNegationOf, IsNegation, IsCondition, IsSelection, IsReference, IsWhere, IsExplain}
use Rattle.table_model.specs.QueryReading.{Reader, Functions, name, column, calls, called_or, enclosed, string, geometry, integer, integer_value, integer_or, operand_functions, operand, comparison_of, compared, compared_by, null_test, comparison, truth_value, truth_test, truth_tested, relates, relates_by, predicate_functions, predicate, chain, conjunction, condition_of, group, negation, most_levels, condition, item_functions, item, items, counted, count_function, selection, alias, reference, Second, crossed, joined_on, second, where_condition, limit_value, limit_or, limit_number, limited, says, explained, query, bad_place, query_by, query_of}
use Rattle.table_model.specs.QueryRefusals.{IsAnyOperand, IsAnyNegation, IsAnyCondition, BeforeSecond, BeforeOn, ThroughFrom, BeforeWhere, IsAnyWhere, BeforeLimit, AreParts, BeforeNegation, BeforeOperand, IsTooBig, AppliesIn, is_at_token, AppliesInQuery}
use Rattle.table_model.specs.Queries.{Condition, ConditionOperand, SelectQuery}
use Rattle.table_model.specs.Tokens.{same_kind, tokens, most_bytes}
use Rattle.grammar_laws.proofs.QuerySound.{Sound, operand_sound, comparison_taken, chain_sound, negation_sound, explained_sound, selection_sound, reference_sound, expect_sound, second_sound, where_sound, optional, IsBoth}
use Rattle.grammar_laws.proofs.TokenReaders.{IfRead, Took, map_read, same, one, seq, but, ended_more}
use Rattle.table_model.specs.Phrases.{Phrase, IsToken, ◌▸◌, IsOptional, IsParts, AreEnded}

-- ---- the faults of a reader

-- a fact of the fault that is returned, where it is one at a token
abbrev pub Faults : {A : Type 0} → Outcome QueryFault A → (QueryFault → Type 0) → Type 0
Faults (Ok p) E = Unit {0}
Faults (Err f) E = is_at_token f ≡ true → E f

-- a reader that returns no fault at a token
abbrev pub Faultless : {A : Type 0} → Reader A → Type 1
Faultless p = (E : QueryFault → Type 0) (ts : List Token) → Faults (p ts) E

-- a fault of two readers in a row is the first's, or the second's behind what the first took
then_faults : {A B : Type 0} (r : Outcome QueryFault A) (f : A → Reader B) (Q : A → List Token → Type 0) (E : QueryFault → Type 0)
    → IfRead r Q → Faults r E → ((x : A) (rest : List Token) → Q x rest → Faults (f x rest) E) → Faults (and_then r f) E
then_faults (Ok p) f Q E read first more = more p.0 p.1 read
then_faults (Err e) f Q E read first more = first

-- the same where it doesn't matter what the first took
then_none : {A B : Type 0} (r : Outcome QueryFault A) (f : A → Reader B) (E : QueryFault → Type 0) → Faults r E → ((x : A) (rest : List Token) → Faults (f x rest) E) → Faults (and_then r f) E
then_none (Ok p) f E first more = more p.0 p.1
then_none (Err e) f E first more = first

-- a fault of one of two readers, by the test that chooses it
if_faults : {A : Type 0} (b : Bool) (x y : Outcome QueryFault A) (E : QueryFault → Type 0) → (b ≡ true → Faults x E) → (b ≡ false → Faults y E) → Faults (if b then x else y) E
if_faults true x y E f g = f refl
if_faults false x y E f g = g refl

eaten_faults_by : {A : Type 0} (b : Bool) (ts : List Token) (p q : Reader A) (E : QueryFault → Type 0)
    → (b ≡ true → Faults (p (next ts)) E) → (b ≡ false → Faults (q ts) E) → Faults ((if b then p else q) (if b then next ts else ts)) E
eaten_faults_by true ts p q E f g = f refl
eaten_faults_by false ts p q E f g = g refl

-- a fault of a reader that goes on in one way where a token of a kind is taken, and in another where none is there
eaten_faults : {A : Type 0} (wanted : TokenKind) (ts : List Token) (p q : Reader A) (E : QueryFault → Type 0)
    → (sees wanted ts ≡ true → Faults (p (next ts)) E) → (sees wanted ts ≡ false → Faults (q ts) E) → Faults ((if sees wanted ts then p else q) (after wanted ts)) E
unfolding after
eaten_faults wanted ts p q E f g = eaten_faults_by (sees wanted ts) ts p q E f g

-- a token that isn't of the kind asked for is a fault of syntax, which isn't one at a token
expect_faults : (wanted : TokenKind) → Faultless (expect fault.Syntax wanted)
unfolding expect
expect_faults wanted E ts = if_faults (sees wanted ts) _ _ E (λ _. tt) (λ _. λ e. absurd (false≢true e))

-- what is made of an answer adds no fault
mapped_faults : {A B : Type 0} (f : B → A) (p : Reader B) → Faultless p → Faultless {A = A} (λ ts. and_then (p ts) (λ y rest. Ok (f y, rest)))
mapped_faults f p none E ts = then_none (p ts) _ E (none E ts) (λ y rest. tt)

-- ---- readers that answer no such fault

-- names, columns and strings are refused for syntax alone: a fault at a token needs an operand's integer, LIMIT's or a level
name_faults : Faultless name
unfolding name
name_faults E ts = if_faults (sees k.Word ts && not (sees k.LeftParenthesis (next ts))) _ _ E (λ _. tt) (λ _. λ e. absurd (false≢true e))

column_faults : Faultless column
unfolding column
column_faults E ts = then_none (name ts) _ E (name_faults E ts)
    (λ first mid. eaten_faults k.Point mid _ _ E (λ _. then_none (name (next mid)) _ E (name_faults E (next mid)) (λ x rest. tt)) (λ _. tt))

string_faults : Faultless string
unfolding string
string_faults E ts = if_faults (sees k.Text ts) _ _ E (λ _. tt) (λ _. λ e. absurd (false≢true e))

-- parentheses add none to what is inside
enclosed_faults : {A : Type 0} (inside : Reader A) → Faultless inside → Faultless (enclosed inside)
enclosed_faults inside none E ts = then_none (expect fault.Syntax k.LeftParenthesis ts) _ E (expect_faults k.LeftParenthesis E ts)
    (λ _ ts1. then_none (inside ts1) _ E (none E ts1) (λ x ts2. then_none (expect fault.Syntax k.RightParenthesis ts2) _ E (expect_faults k.RightParenthesis E ts2) (λ _ rest. tt)))

-- none of some functions returns such a fault
abbrev pub AllFaultless : {A : Type 0} → Functions A → Type 1
AllFaultless [] = Unit {1}
AllFaultless (f ∷ more) = Faultless f.1 × AllFaultless more

-- one of some functions is read, or what is where none of them is called
called_faults : {A : Type 0} (functions : Functions A) (other : Reader A) (ts : List Token) (E : QueryFault → Type 0) → AllFaultless functions → Faults (other ts) E
    → Faults (called_or functions other ts) E
called_faults [] other ts E each none = none
called_faults (f ∷ more) other ts E each none = if_faults (calls f.0 ts) _ _ E (λ _. each.0 E (next ts)) (λ _. called_faults more other ts E each.1 none)

-- a geometry is ST_GeomFromText of a string, or a column
geometry_faults : Faultless geometry
unfolding geometry
geometry_faults E ts = if_faults (calls (codes "ST_GeomFromText") ts) _ _ E
    (λ _. enclosed_faults _ (mapped_faults _ string string_faults) E (next ts)) (λ _. mapped_faults _ column column_faults E ts)

-- ST_AsText and ST_Dimension of a geometry; so for the predicates and the functions of the select list below
operand_functions_faults : (at : ℕ) → AllFaultless (operand_functions at)
operand_functions_faults at = (enclosed_faults _ (mapped_faults _ geometry geometry_faults), (enclosed_faults _ (mapped_faults _ geometry geometry_faults), tt))

-- IS NULL and IS NOT NULL have no integer
null_faults : {A : Type 0} (left : WrittenOperand A) → Faultless (null_test left)
unfolding null_test
null_faults left E ts = then_none (expect fault.Syntax k.Null (after k.Not ts)) _ E (expect_faults k.Null E (after k.Not ts)) (λ _ rest. tt)

-- the integer behind a predicate is 1 or 0, and any other is a fault of syntax, however big
value_faults : {A : Type 0} (x : WrittenCond A) → Faultless (truth_value x)
unfolding truth_value
value_faults x E ts = if_faults (sees k.Integer ts && digits_value 10 (spelling ts) == 1) _ _ E (λ _. tt)
    (λ _. if_faults (sees k.Integer ts && digits_value 10 (spelling ts) == 0) _ _ E (λ _. tt) (λ _. λ e. absurd (false≢true e)))

test_faults : {A : Type 0} (x : WrittenCond A) → Faultless (truth_test x)
unfolding truth_test
test_faults x E ts = eaten_faults k.Equal ts _ _ E (λ _. value_faults x E (next ts)) (λ _. tt)

-- a predicate is its arguments in parentheses, and a test of 1 or 0 or none
tested_faults : {A : Type 0} (arguments : Reader (WrittenCond A)) → Faultless arguments → Faultless (truth_tested arguments)
tested_faults arguments none E ts = then_none (enclosed arguments ts) _ E (enclosed_faults arguments none E ts) (λ x rest. test_faults x E rest)

-- two geometries with a comma between them, and for ST_Relate a pattern behind them
relates_faults : (at : ℕ) (predicate : Predicate) → Faultless (relates at predicate)
unfolding relates
relates_faults at predicate E ts = then_none (geometry ts) _ E (geometry_faults E ts)
    (λ a ts1. then_none (expect fault.Syntax k.Comma ts1) _ E (expect_faults k.Comma E ts1) (λ _ ts2. then_none (geometry ts2) _ E (geometry_faults E ts2) (λ b rest. tt)))

relates_by_faults : (at : ℕ) → Faultless (relates_by at)
unfolding relates_by
relates_by_faults at E ts = then_none (geometry ts) _ E (geometry_faults E ts)
    (λ a ts1. then_none (expect fault.Syntax k.Comma ts1) _ E (expect_faults k.Comma E ts1) (λ _ ts2. then_none (geometry ts2) _ E (geometry_faults E ts2)
    (λ b ts3. then_none (expect fault.Syntax k.Comma ts3) _ E (expect_faults k.Comma E ts3) (λ _ ts4. then_none (string ts4) _ E (string_faults E ts4) (λ pattern rest. tt)))))

predicate_functions_faults : (at : ℕ) → AllFaultless (predicate_functions at)
predicate_functions_faults at =
    let named : (predicate : Predicate) → Faultless (truth_tested (relates at predicate)) = λ predicate. tested_faults (relates at predicate) (relates_faults at predicate) in (
      named p.Equals,
      (
        named p.Disjoint,
        (
          named p.Intersects,
          (
            named p.Touches,
            (
              named p.Crosses,
              (
                named p.Within,
                (
                  named p.Contains,
                  (
                    named p.Overlaps,
                    (tested_faults (relates_by at) (relates_by_faults at), (tested_faults _ (mapped_faults (c.IsEmpty at) geometry geometry_faults), tt)),
                  ),
                ),
              ),
            ),
          ),
        ),
      ),
    )

item_functions_faults : (at : ℕ) → AllFaultless (item_functions at)
item_functions_faults at =
    (enclosed_faults _ (mapped_faults _ column column_faults), (enclosed_faults _ (mapped_faults _ column column_faults), (enclosed_faults _ (mapped_faults _ column column_faults), tt)))

-- an item is a function of a column, or a column
item_faults : Faultless item
unfolding item
item_faults E ts =
    called_faults (item_functions (place ts)) (λ us. and_then (column us) (λ x rest. Ok (i.Column x, rest))) ts E (item_functions_faults (place ts)) (mapped_faults i.Column column column_faults E ts)

-- parts with tokens between them aren't refused at a token where no part is
parts_faultless : {A : Type 0} (between : TokenKind) (part : Reader A) → Faultless part → (n : ℕ) (found : List A) → Faultless (parts_from fault.Syntax between part n found)
unfolding parts_from
parts_faultless between part none zero found E ts = λ e. absurd (false≢true e)
parts_faultless between part none (suc n) found E ts = then_none (part ts) _ E (none E ts)
    (λ x mid. eaten_faults between mid _ _ E (λ _. parts_faultless between part none n (found ++ x ∷ []) E (next mid)) (λ _. tt))

count_function_faults : AllFaultless count_function
count_function_faults = (enclosed_faults counted (λ E ts. then_none (expect fault.Syntax k.Star ts) _ E (expect_faults k.Star E ts) (λ _ rest. tt)), tt)

-- a select list is the asterisk, COUNT(*) or items: none has an operand or a level
selection_faults : Faultless selection
unfolding selection
selection_faults E ts =
    if_faults (sees k.Star ts) _ _ E (λ _. tt)
    (λ _. called_faults count_function (λ us. and_then (items us) (λ xs rest. Ok (l.Items xs, rest))) ts E count_function_faults
    (then_none (items ts) _ E (parts_faultless k.Comma item item_faults (length ts) [] E ts) (λ xs rest. tt)))

-- an alias, a table reference and one that is joined without a condition have no operand and no level
alias_faults : Faultless alias
unfolding alias
alias_faults E ts = if_faults (sees k.As ts) _ _ E (λ _. then_none (name (next ts)) _ E (name_faults E (next ts)) (λ x rest. tt))
    (λ _. if_faults (sees k.Word ts) _ _ E (λ _. then_none (name ts) _ E (name_faults E ts) (λ x rest. tt)) (λ _. tt))

reference_faults : Faultless reference
unfolding reference
reference_faults E ts = then_none (name ts) _ E (name_faults E ts) (λ table mid. then_none (alias mid) _ E (alias_faults E mid) (λ given rest. tt))

crossed_faults : Faultless crossed
unfolding crossed
crossed_faults E ts = then_none (reference ts) _ E (reference_faults E ts) (λ x rest. tt)

-- EXPLAIN and ANALYZE are words, and are never refused
explained_faults : Faultless explained
explained_faults E ts = if_faults (says (codes "EXPLAIN") ts) _ _ E
    (λ _. if_faults (says (codes "ANALYZE") (next ts)) _ _ E (λ _. tt) (λ _. tt)) (λ _. tt)

-- ---- what was taken

-- three phrases in a row, grouped the other way
regroup : (P Q R : Phrase) (all ts : List Token) → Took all ((P ▸ Q) ▸ R) ts → Took all (P ▸ Q ▸ R) ts
regroup P Q R all ts took = but ((P ▸ Q) ▸ R) (P ▸ Q ▸ R) all ts took (λ used p. turned used p)
  where
    turned : (used : List Token) → ((P ▸ Q) ▸ R) used → (P ▸ Q ▸ R) used
    turned used (x, r, e, (a, b, e2, p, q), h) = (a, b ++ r, e ∙ ap (λ l. l ++ r) e2 ∙ append_assoc a b r, p, (b, r, refl, q, h))

-- nothing more was taken
none_more : (P Q : Phrase) (all ts : List Token) → ((used : List Token) → used ≡ [] → Q used) → Took all P ts → Took all (P ▸ Q) ts
none_more P Q all ts nothing took = seq P Q all ts ts took ([], refl, nothing [] refl)

-- one more part was taken, with the token behind it, after parts that come after a phrase
part_more : {A : Type 0} (C end : Phrase) (P : A → Phrase) (xs : List A) (x : A) (all ts mid rest : List Token) → Took all (C ▸ AreEnded end P xs) ts → Took ts (P x) mid → Took mid end rest
    → Took all (C ▸ AreEnded end P (xs ++ x ∷ [])) rest
part_more C end P xs x all ts mid rest before read last =
    but ((C ▸ AreEnded end P xs) ▸ (P x ▸ end)) (C ▸ AreEnded end P (xs ++ x ∷ [])) all rest
    (seq (C ▸ AreEnded end P xs) (P x ▸ end) all ts rest before (seq (P x) end ts mid rest read last)) (λ used p. joined used p)
  where
    joined : (used : List Token) → ((C ▸ AreEnded end P xs) ▸ (P x ▸ end)) used → (C ▸ AreEnded end P (xs ++ x ∷ [])) used
    joined used (y, r, e, (a, b, e2, h, ended), last) =
        (a, b ++ r, e ∙ ap (λ l. l ++ r) e2 ∙ append_assoc a b r, h, ended_more end P xs x b r ended last)

-- ---- the rules set aside take what the rules take

-- where one rule takes all that another takes, so do lists of such parts, chains, conditions, negations and predicates of them
parts_but : {A : Type 0} (between : TokenKind) (P Q : A → Phrase) → ((x : A) (ts : List Token) → P x ts → Q x ts) → (more : List A) (x : A) (ts : List Token)
    → IsParts between P x more ts → IsParts between Q x more ts
parts_but between P Q f [] x ts p = f x ts p
parts_but between P Q f (y ∷ more) x ts (a, b, e, p, (u, d, e2, q, h)) = (a, b, e, f x a p, (u, d, e2, q, parts_but between P Q f more y d h))

-- a chain is one part, or two and more with AND or OR between them
chain_but : {A : Type 0} (between : TokenKind) (join : List (WrittenCond A) → WrittenCond A) (P Q : WrittenCond A → Phrase) → ((x : WrittenCond A) (ts : List Token) → P x ts → Q x ts)
    → (x : WrittenCond A) (ts : List Token) → IsChain between join P x ts → IsChain between join Q x ts
chain_but between join P Q f x ts (inl p) = inl (f x ts p)
chain_but between join P Q f x ts (inr (first, second, more, e, p)) = inr (first, second, more, e, parts_but between P Q f (second ∷ more) first ts p)

-- a condition is a chain of chains
condition_but : {A : Type 0} (P Q : WrittenCond A → Phrase) → ((x : WrittenCond A) (ts : List Token) → P x ts → Q x ts) → (x : WrittenCond A) (ts : List Token) → IsConditionOf P x ts → IsConditionOf Q x ts
condition_but P Q f = chain_but k.Or c.Or (IsConjunction P) (IsConjunction Q) (chain_but k.And c.And P Q f)

-- level by level: behind NOT, between parentheses, and at the predicate
negation_but : {A : Type 0} (P Q : WrittenCond A → Phrase) → ((x : WrittenCond A) (ts : List Token) → P x ts → Q x ts) → (levels : ℕ) (x : WrittenCond A) (ts : List Token)
    → IsNegationOf P levels x ts → IsNegationOf Q levels x ts
unfolding IsNegationOf
negation_but P Q f zero x ts p = f x ts p
negation_but P Q f (suc levels) x ts (inl (y, e, (a, b, e2, isnt, p))) = inl (y, e, (a, b, e2, isnt, negation_but P Q f levels y b p))
negation_but P Q f (suc levels) x ts (inr (inl (a, b, e, left, (d, r, e2, p, right)))) =
    inr (inl (a, b, e, left, (d, r, e2, condition_but (IsNegationOf P levels) (IsNegationOf Q levels) (negation_but P Q f levels) x d p, right)))
negation_but P Q f (suc levels) x ts (inr (inr p)) = inr (inr (f x ts p))

-- comparisons and IS NULL take operands; functions don't, and stay as they are
predicate_but : (P Q : ConditionOperand → Phrase) → ((x : ConditionOperand) (ts : List Token) → P x ts → Q x ts) → (x : Condition) (ts : List Token)
    → IsPredicateOf P x ts → IsPredicateOf Q x ts
predicate_but P Q f x ts (inl (comparison, left, right, e, (a, b, e2, p, (m, d, e3, q, h)))) = inl (comparison, left, right, e, (a, b, e2, f left a p, (m, d, e3, q, f right d h)))
predicate_but P Q f x ts (inr (inl (operand, e, (a, b, e2, p, q)))) = inr (inl (operand, e, (a, b, e2, f operand a p, q)))
predicate_but P Q f x ts (inr (inr (inl (operand, e, (a, b, e2, p, q))))) = inr (inr (inl (operand, e, (a, b, e2, f operand a p, q))))
predicate_but P Q f x ts (inr (inr (inr p))) = inr (inr (inr p))

-- a negation of the grammar is one where integers have any size and levels any number
any_negation : (levels : ℕ) (x : Condition) (ts : List Token) → IsNegation levels x ts → IsAnyNegation x ts
any_negation levels x ts p =
    (levels, negation_but IsPredicate (IsPredicateOf IsAnyOperand) (predicate_but IsOperand IsAnyOperand (λ y us q. inl q)) levels x ts p)

-- and so is a condition
any_condition : (x : Condition) (ts : List Token) → IsCondition x ts → IsAnyCondition x ts
any_condition = condition_but (IsNegation most_levels) IsAnyNegation (any_negation most_levels)

-- what is read as a negation is one where integers have any size and levels any number
negation_read : (levels : ℕ) → Sound (negation levels) IsAnyNegation
negation_read levels ts =
    map_read (negation levels ts) (λ x rest. Took ts (IsNegation levels x) rest) (λ x rest. Took ts (IsAnyNegation x) rest)
    (λ x rest q. but (IsNegation levels x) (IsAnyNegation x) ts rest q (any_negation levels x)) (negation_sound levels ts)

-- ---- operands

-- digits without a value of 64 bits are refused as too big
digits_faults : (A : Type 0) (E : QueryFault → Type 0) (at : ℕ) (rest : List Token) (v : Option ℤ) → (v ≡ None → E (fault.NumberTooBig at)) → Faults {A = WrittenOperand A} (integer_or v at rest) E
digits_faults A E at rest None h = λ _. h refl
digits_faults A E at rest (Some n) h = tt

-- so an integer is refused at its digits, for what they spell with the sign
integer_faults : (A : Type 0) (negative : Bool) (E : QueryFault → Type 0) (ts : List Token) → (sees k.Integer ts ≡ true → integer_value negative (spelling ts) ≡ None → E (fault.NumberTooBig (place ts)))
    → Faults {A = WrittenOperand A} (integer negative ts) E
unfolding integer
integer_faults A negative E ts h =
    if_faults (sees k.Integer ts) _ _ E (λ is. digits_faults A E (place ts) (next ts) (integer_value negative (spelling ts)) (h is)) (λ _. λ e. absurd (false≢true e))

-- digits that are too big are refused at the token where the reader is, behind the tokens that it took
big_here : (all : List Token) (P : Phrase) {V : Type 0} (value : List ℕ → Option V) (ts : List Token) → Took all P ts → sees k.Integer ts ≡ true → value (spelling ts) ≡ None
    → ((before : List Token) (t : Token) → P before → t.kind ≡ k.Integer → value t.text ≡ None → IsTooBig before t)
    → AppliesIn all (fault.NumberTooBig (place ts))
unfolding sees kind place spelling
big_here all P value [] took is none f = absurd (let e = same k.Bad k.Integer is in cc)
big_here all P value (t ∷ rest) took is none f = (took.0, rest, t, took.1, (refl, f took.0 t took.2 (same t.kind k.Integer is) none))

-- an operand is refused at a token only as an integer: behind +, behind -, or without a sign
operand_faults : (all ts : List Token) → Took all BeforeOperand ts → Faults (operand ts) (AppliesIn all)
unfolding operand
operand_faults all ts took =
    let A : Type 0 = WrittenGeometry in
    let E : QueryFault → Type 0 = AppliesIn all in
    let B : Phrase = BeforeOperand in
    if_faults (sees k.Null ts) _ _ E (λ _. tt)
    (λ _. if_faults (sees k.Text ts) _ _ E (λ _. tt)
    (λ _. if_faults (sees k.Plus ts) _ _ E
    (λ h. integer_faults A false E (next ts) (λ is none. big_here all (B ▸ IsToken k.Plus) (integer_value false) (next ts) (seq B (IsToken k.Plus) all ts (next ts) took (one k.Plus ts (λ e. cc) h)) is none
    (λ before t p digits big. (digits, inr (inl (big, p))))))
    (λ _. if_faults (sees k.Minus ts) _ _ E
    (λ h. integer_faults A true E (next ts) (λ is none. big_here all (B ▸ IsToken k.Minus) (integer_value true) (next ts) (seq B (IsToken k.Minus) all ts (next ts) took (one k.Minus ts (λ e. cc) h)) is none
    (λ before t p digits big. (digits, inr (inr (inl (big, p)))))))
    (λ _. if_faults (sees k.Integer ts) _ _ E
    (λ _. integer_faults A false E ts (λ is none. big_here all B (integer_value false) ts took is none (λ before t p digits big. (digits, inl (big, p)))))
    (λ _. called_faults (operand_functions (place ts)) (λ us. and_then (column us) (λ x rest. Ok (o.Column x, rest))) ts E (operand_functions_faults (place ts)) (mapped_faults o.Column column column_faults E ts))))))

-- ---- predicates

-- the right side comes after the left one and the sign of comparison, where an operand may be there
compared_faults : (all : List Token) (opened : ℕ) (at : ℕ) (left : ConditionOperand) (start ts : List Token) (v : Option Comparison)
    → Took all (BeforeNegation opened) start → Took start (IsOperand left) ts → comparison_of (kind ts) ≡ v
    → Faults (compared_by at left v ts) (AppliesIn all)
compared_faults all opened at left start ts None stood read e = λ e. absurd (false≢true e)
compared_faults all opened at left start ts (Some comparison) stood read e =
    let O : Phrase = IsAnyOperand left in
    let both : Took all (BeforeNegation opened ▸ O ▸ IsComparison comparison) (next ts) =
    seq (BeforeNegation opened) (O ▸ IsComparison comparison) all start (next ts) stood
    (seq O (IsComparison comparison) start ts (next ts) (but (IsOperand left) O start ts read (λ used p. inl p)) (comparison_taken ts comparison e)) in
    then_none (operand (next ts)) _ (AppliesIn all)
    (operand_faults all (next ts) (but (BeforeNegation opened ▸ O ▸ IsComparison comparison) BeforeOperand all (next ts) both (λ used p. (opened, inr (left, comparison, p)))))
    (λ right rest. tt)

-- the left side is where the predicate is; IS NULL behind it has no further operand
comparison_faults : (all : List Token) (opened : ℕ) (ts : List Token) → Took all (BeforeNegation opened) ts → Faults (comparison ts) (AppliesIn all)
unfolding comparison compared
comparison_faults all opened ts took =
    let E : QueryFault → Type 0 = AppliesIn all in
    then_faults (operand ts) _ (λ x rest. Took ts (IsOperand x) rest) E (operand_sound ts)
    (operand_faults all ts (but (BeforeNegation opened) BeforeOperand all ts took (λ used p. (opened, inl p))))
    (λ left mid read. eaten_faults k.Is mid _ _ E (λ _. null_faults left E (next mid))
    (λ _. compared_faults all opened (place ts) left ts mid (comparison_of (kind mid)) took read refl))

-- functions aren't refused at a token, so a predicate is refused as a comparison is
predicate_faults : (all : List Token) (opened : ℕ) (ts : List Token) → Took all (BeforeNegation opened) ts → Faults (predicate ts) (AppliesIn all)
unfolding predicate
predicate_faults all opened ts took =
    called_faults (predicate_functions (place ts)) comparison ts (AppliesIn all)
    (predicate_functions_faults (place ts)) (comparison_faults all opened ts took)

-- ---- conditions

-- parts with tokens between them are refused where one of them is, which comes after those that were read before
parts_faults : {A : Type 0} (between : TokenKind) (part : Reader A) (P : A → Phrase) (C : Phrase) (all : List Token) (E : QueryFault → Type 0) → (k.Bad ≡ between → ⊥) → Sound part P
    → ((xs : List A) (ts : List Token) → Took all (C ▸ AreEnded (IsToken between) P xs) ts → Faults (part ts) E)
    → (n : ℕ) (found xs : List A) (ts : List Token) → Took all (C ▸ AreEnded (IsToken between) P xs) ts → Faults (parts_from fault.Syntax between part n found ts) E
unfolding parts_from
parts_faults between part P C all E good sound each zero found xs ts took = λ e. absurd (false≢true e)
parts_faults between part P C all E good sound each (suc n) found xs ts took =
    then_faults (part ts) _ (λ x rest. Took ts (P x) rest) E (sound ts) (each xs ts took)
    (λ x mid read. eaten_faults between mid _ _ E
    (λ h. parts_faults between part P C all E good sound each n (found ++ x ∷ []) (xs ++ x ∷ []) (next mid)
    (part_more C (IsToken between) P xs x all ts mid (next mid) took read (one between mid good h)))
    (λ _. tt))

-- a chain is refused where its first part is, or one of those behind AND or OR
chain_faults : {A : Type 0} (between : TokenKind) (join : List (WrittenCond A) → WrittenCond A) (part : Reader (WrittenCond A)) (P : WrittenCond A → Phrase) (C : Phrase) (all : List Token) (E : QueryFault → Type 0)
    → (k.Bad ≡ between → ⊥) → Sound part P → ((xs : List (WrittenCond A)) (ts : List Token) → Took all (C ▸ AreEnded (IsToken between) P xs) ts → Faults (part ts) E)
    → (ts : List Token) → Took all C ts → Faults (chain between join part ts) E
chain_faults {A} between join part P C all E good sound each ts took =
    let none : List (WrittenCond A) = [] in
    let stood : Took all (C ▸ AreEnded (IsToken between) P none) ts = none_more C (AreEnded (IsToken between) P none) all ts (λ used e. e) took in
    then_faults (part ts) _ (λ x rest. Took ts (P x) rest) E (sound ts) (each none ts stood)
    (λ first mid read. eaten_faults between mid _ _ E
    (λ h. then_none (parts_from fault.Syntax between part (length (next mid)) (first ∷ []) (next mid)) _ E
    (parts_faults between part P C all E good sound each (length (next mid)) (first ∷ []) (first ∷ []) (next mid)
    (part_more C (IsToken between) P none first all ts mid (next mid) stood read (one between mid good h)))
    (λ xs rest. tt))
    (λ _. tt))

-- what is read as parts with AND between them is a conjunction of the grammar
conjunction_sound : {A : Type 0} (part : Reader (WrittenCond A)) (P : WrittenCond A → Phrase) → Sound part P → Sound (conjunction part) (IsConjunction P)
conjunction_sound part P sound = chain_sound k.And c.And part P (λ e. cc) sound

-- a condition is refused where one of its parts is, behind the conjunctions before it and the parts of its own
condition_of_faults : {A : Type 0} (part : Reader (WrittenCond A)) (P : WrittenCond A → Phrase) (C : Phrase) (all : List Token) (E : QueryFault → Type 0) → Sound part P
    → ((ors ands : List (WrittenCond A)) (ts : List Token) → Took all (C ▸ AreEnded (IsToken k.Or) (IsConjunction P) ors ▸ AreEnded (IsToken k.And) P ands) ts → Faults (part ts) E)
    → (ts : List Token) → Took all C ts → Faults (condition_of part ts) E
condition_of_faults part P C all E sound each =
    chain_faults k.Or c.Or (conjunction part) (IsConjunction P) C all E (λ e. cc) (conjunction_sound part P sound)
    (λ ors ts took. chain_faults k.And c.And part P (C ▸ AreEnded (IsToken k.Or) (IsConjunction P) ors) all E (λ e. cc) sound
    (λ ands ts2 took2. each ors ands ts2 (regroup C (AreEnded (IsToken k.Or) (IsConjunction P) ors) (AreEnded (IsToken k.And) P ands) all ts2 took2)) ts took)

-- what came before the parts of a condition, and those
with_parts : (C : Phrase) (ors ands : List Condition) (all ts : List Token)
    → Took all (C ▸ AreEnded (IsToken k.Or) (IsConjunction IsAnyNegation) ors ▸ AreEnded (IsToken k.And) IsAnyNegation ands) ts → Took all (C ▸ AreParts) ts
with_parts C ors ands all ts took = but _ (C ▸ AreParts) all ts took (λ used p. (p.0, p.1, p.2, p.3, (ors, ands, p.4)))

-- parentheses are refused where a part of the condition inside is
group_faults : (part : Reader Condition) (C : Phrase) (all : List Token) (E : QueryFault → Type 0) → Sound part IsAnyNegation
    → ((ts : List Token) → Took all (C ▸ AreParts) ts → Faults (part ts) E) → (ts : List Token) → Took all C ts → Faults (group part ts) E
group_faults part C all E sound each ts took =
    then_none (condition_of part ts) _ E
    (condition_of_faults part IsAnyNegation C all E sound (λ ors ands us stood. each us (with_parts C ors ands all us stood)) ts took)
    (λ x mid. then_none (expect fault.Syntax k.RightParenthesis mid) _ E (expect_faults k.RightParenthesis E mid) (λ _ rest. tt))

either_true : (X : Type 0) (a b : Bool) → (a || b) ≡ true → (a ≡ true → X) → (b ≡ true → X) → X
either_true X true b h f g = f refl
either_true X false b h f g = g h

-- a NOT or a parenthesis where all levels are open is refused as too deep, at itself
deep_here : (all ts : List Token) → Took all (BeforeNegation most_levels) ts → (sees k.Not ts || sees k.LeftParenthesis ts) ≡ true
    → AppliesIn all (fault.TooDeep (place ts))
unfolding sees kind place same_kind
deep_here all [] took h = absurd (false≢true h)
deep_here all (t ∷ rest) took h = (
  took.0,
  rest,
  t,
  took.1,
  (
    refl,
    (
      either_true ((t.kind ≡ k.Not) ⊎ (t.kind ≡ k.LeftParenthesis)) (same_kind t.kind k.Not) (same_kind t.kind k.LeftParenthesis) h
          (λ is. inl (same t.kind k.Not is)) (λ is. inr (same t.kind k.LeftParenthesis is)),
      took.2,
    ),
  ),
)

-- each NOT and each parenthesis opens a level, and the open levels and those that are left stay the same in sum,
-- so where none is left all are open
negation_faults : (all : List Token) (levels opened : ℕ) → opened + levels ≡ most_levels → (ts : List Token) → Took all (BeforeNegation opened) ts
    → Faults (negation levels ts) (AppliesIn all)
unfolding negation BeforeNegation
negation_faults all zero opened count ts took =
    if_faults (sees k.Not ts || sees k.LeftParenthesis ts) _ _ (AppliesIn all)
    (λ h. λ _. let full : opened ≡ most_levels = omega (arith, count) in deep_here all ts (subst (λ n. Took all (BeforeNegation n) ts) full took) h)
    (λ _. predicate_faults all opened ts took)
negation_faults all (suc levels) opened count ts took =
    let E : QueryFault → Type 0 = AppliesIn all in
    let B : Phrase = BeforeNegation opened in
    let more : suc opened + levels ≡ most_levels = omega (arith, count) in
    if_faults (sees k.Not ts) _ _ E
    (λ h. then_none (negation levels (next ts)) _ E
    (negation_faults all levels (suc opened) more (next ts)
    (but (B ▸ IsToken k.Not) (BeforeNegation (suc opened)) all (next ts) (seq B (IsToken k.Not) all ts (next ts) took (one k.Not ts (λ e. cc) h)) (λ used p. inl p)))
    (λ y rest. tt))
    (λ _. if_faults (sees k.LeftParenthesis ts) _ _ E
    (λ h. group_faults (negation levels) (B ▸ IsToken k.LeftParenthesis) all E (negation_read levels)
    (λ us stood. negation_faults all levels (suc opened) more us
    (but (B ▸ IsToken k.LeftParenthesis ▸ AreParts) (BeforeNegation (suc opened)) all us (regroup B (IsToken k.LeftParenthesis) AreParts all us stood) (λ used p. inr p)))
    (next ts) (seq B (IsToken k.LeftParenthesis) all ts (next ts) took (one k.LeftParenthesis ts (λ e. cc) h)))
    (λ _. predicate_faults all opened ts took))

-- the parts of a whole condition, of ON or of WHERE, are where no level is open yet
condition_faults : (C : Phrase) (all : List Token) → ((ts : List Token) → Took all (C ▸ AreParts) ts → Took all (BeforeNegation 0) ts)
    → (ts : List Token) → Took all C ts → Faults (condition ts) (AppliesIn all)
condition_faults C all begins ts took =
    condition_of_faults (negation most_levels) IsAnyNegation C all (AppliesIn all) (negation_read most_levels)
    (λ ors ands us stood. negation_faults all most_levels 0 refl us (begins us (with_parts C ors ands all us stood))) ts took

-- ---- queries

-- the condition of ON comes after JOIN, the second reference and ON
joined_on_faults : (all start ts : List Token) → Took all BeforeSecond start → Took start (IsOptional k.Inner) ts
    → Faults (joined_on ts) (AppliesIn all)
unfolding joined_on BeforeNegation
joined_on_faults all start ts took inner =
    let E : QueryFault → Type 0 = AppliesIn all in
    then_faults (expect fault.Syntax k.Join ts) _ (λ _ rest. Took ts (IsToken k.Join) rest) E (expect_sound k.Join ts (λ e. cc)) (expect_faults k.Join E ts)
    (λ _ ts1 p1. then_faults (reference ts1) _ (λ x rest. Took ts1 (IsReference x) rest) E (reference_sound ts1) (reference_faults E ts1)
    (λ given ts2 p2. then_faults (expect fault.Syntax k.On ts2) _ (λ _ rest. Took ts2 (IsToken k.On) rest) E (expect_sound k.On ts2 (λ e. cc)) (expect_faults k.On E ts2)
    (λ _ ts3 p3.
    let stood : Took all BeforeOn ts3 = but (BeforeSecond ▸ IsOptional k.Inner ▸ IsToken k.Join ▸ IsReference given ▸ IsToken k.On) BeforeOn all ts3
    (seq BeforeSecond (IsOptional k.Inner ▸ IsToken k.Join ▸ IsReference given ▸ IsToken k.On) all start ts3 took
    (seq (IsOptional k.Inner) (IsToken k.Join ▸ IsReference given ▸ IsToken k.On) start ts ts3 inner
    (seq (IsToken k.Join) (IsReference given ▸ IsToken k.On) ts ts1 ts3 p1 (seq (IsReference given) (IsToken k.On) ts1 ts2 ts3 p2 p3))))
    (λ used p. (given, p)) in
    then_none (condition ts3) _ E
    (condition_faults BeforeOn all (λ us h. but (BeforeOn ▸ AreParts) (BeforeNegation 0) all us h (λ used p. inl p)) ts3 stood)
    (λ x rest. tt))))

-- of the ways to write a second reference the one with JOIN and ON alone has a condition
second_faults : (all ts : List Token) → Took all BeforeSecond ts → Faults (second ts) (AppliesIn all)
second_faults all ts took =
    let E : QueryFault → Type 0 = AppliesIn all in
    if_faults (sees k.Comma ts) _ _ E (λ _. crossed_faults E (next ts))
    (λ _. if_faults (sees k.Cross ts) _ _ E
    (λ _. then_none (expect fault.Syntax k.Join (next ts)) _ E (expect_faults k.Join E (next ts)) (λ _ mid. crossed_faults E mid))
    (λ _. if_faults (sees k.Inner ts || sees k.Join ts) _ _ E
    (λ _. joined_on_faults all ts (after k.Inner ts) took (optional k.Inner ts (λ e. cc))) (λ _. tt)))

-- JOIN and ON with what is between them, apart from the condition
on_alone : (given : WrittenReference) (x : Condition) (used : List Token)
    → (IsOptional k.Inner ▸ IsToken k.Join ▸ IsReference given ▸ IsToken k.On ▸ IsCondition x) used
    → ((IsOptional k.Inner ▸ IsToken k.Join ▸ IsReference given ▸ IsToken k.On) ▸ IsCondition x) used
on_alone given x used (i, v1, e1, inner, (j, v2, e2, join, (r, v3, e3, reference, (o, v4, e4, on, cond)))) = (
  i ++ (j ++ (r ++ o)),
  v4,
  e1 ∙ ap (λ l. i ++ l) (e2 ∙ ap (λ l. j ++ l) (e3 ∙ ap (λ l. r ++ l) e4 ∙ sym (append_assoc r o v4)) ∙ sym (append_assoc j (r ++ o) v4)) ∙ sym (append_assoc i (j ++ (r ++ o)) v4),
  (i, j ++ (r ++ o), refl, inner, (j, r ++ o, refl, join, (r, o, refl, reference, on))),
  cond,
)

-- what comes up to the last table reference and its condition
through_from : (both : Second) (used : List Token) → (BeforeSecond ▸ IsBoth both) used → ThroughFrom used
through_from both used (a, b, e, p, inl (x, y, none)) = inl (subst BeforeSecond (sym (e ∙ ap (λ l. a ++ l) none ∙ append-nil a)) p)
through_from both used (a, b, e, p, inr (inl (given, x, y, second))) = inr (inl (given, (a, b, e, p, second)))
through_from both used (a, b, e, p, inr (inr (given, on, x, y, joined))) = go (on_alone given on b joined)
  where
    go : ((IsOptional k.Inner ▸ IsToken k.Join ▸ IsReference given ▸ IsToken k.On) ▸ IsCondition on) b → ThroughFrom used
    go (f, d, e3, front, cond) = inr (inr (
      on,
      (a ++ f, d, e ∙ ap (λ l. a ++ l) e3 ∙ sym (append_assoc a f d), (given, (a, f, refl, p, front)), any_condition on d cond),
    ))

-- the condition of WHERE comes after the last reference and its condition
where_faults : (all ts : List Token) → Took all ThroughFrom ts → Faults (where_condition ts) (AppliesIn all)
unfolding where_condition BeforeNegation
where_faults all ts took =
    let E : QueryFault → Type 0 = AppliesIn all in
    eaten_faults k.Where ts _ _ E
    (λ h. then_none (condition (next ts)) _ E
    (condition_faults BeforeWhere all (λ us h. but (BeforeWhere ▸ AreParts) (BeforeNegation 0) all us h (λ used p. inr p)) (next ts)
    (seq ThroughFrom (IsToken k.Where) all ts (next ts) took (one k.Where ts (λ e. cc) h)))
    (λ x rest. tt))
    (λ _. tt)

-- a condition of WHERE is one where integers have any size and levels any number
any_where : (filter : Option Condition) (used : List Token) → IsWhere filter used → IsAnyWhere used
any_where filter used (inl (e, none)) = inl none
any_where filter used (inr (x, e, (a, b, cut, word, p))) = inr (x, (a, b, cut, word, any_condition x b p))

-- digits of LIMIT without a value are refused as too big
count_faults : (E : QueryFault → Type 0) (at : ℕ) (rest : List Token) (v : Option ℕ) → (v ≡ None → E (fault.NumberTooBig at)) → Faults (limit_or v at rest) E
count_faults E at rest None h = λ _. h refl
count_faults E at rest (Some n) h = tt

-- the integer of LIMIT comes after FROM, WHERE and LIMIT, and is refused where it is too big
limit_faults : (filter : Option Condition) (all mid ts : List Token) → Took all ThroughFrom mid → Took mid (IsWhere filter) ts
    → Faults (limited ts) (AppliesIn all)
unfolding limit_number
limit_faults filter all mid ts took read =
    let E : QueryFault → Type 0 = AppliesIn all in
    if_faults (sees k.Limit ts) _ _ E
    (λ h. if_faults (sees k.Integer (next ts)) _ _ E
    (λ is. count_faults E (place (next ts)) (next (next ts)) (limit_value (spelling (next ts)))
    (λ none. big_here all BeforeLimit limit_value (next ts)
    (seq ThroughFrom (IsAnyWhere ▸ IsToken k.Limit) all mid (next ts) took
    (seq IsAnyWhere (IsToken k.Limit) mid ts (next ts) (but (IsWhere filter) IsAnyWhere mid ts read (any_where filter)) (one k.Limit ts (λ e. cc) h)))
    is none (λ before t p digits big. (digits, inr (inr (inr (big, p)))))))
    (λ _. λ e. absurd (false≢true e)))
    (λ _. tt)

-- each reader comes after what those before it took, which is the front of the grammar that its fault asks for
pub query_faults : (ts : List Token) → Faults (query ts) (AppliesIn ts)
unfolding query
query_faults ts =
    let E : QueryFault → Type 0 = AppliesIn ts in
    then_faults (explained ts) _ (λ x rest. Took ts (IsExplain x) rest) E (explained_sound ts) (explained_faults E ts)
    (λ said ts0 p0. then_faults (expect fault.Syntax k.Select ts0) _ (λ _ rest. Took ts0 (IsToken k.Select) rest) E (expect_sound k.Select ts0 (λ e. cc)) (expect_faults k.Select E ts0)
    (λ _ ts1 p1. then_faults (selection ts1) _ (λ x rest. Took ts1 (IsSelection x) rest) E (selection_sound ts1) (selection_faults E ts1)
    (λ listed ts2 p2. then_faults (expect fault.Syntax k.From ts2) _ (λ _ rest. Took ts2 (IsToken k.From) rest) E (expect_sound k.From ts2 (λ e. cc)) (expect_faults k.From E ts2)
    (λ _ ts3 p3. then_faults (reference ts3) _ (λ x rest. Took ts3 (IsReference x) rest) E (reference_sound ts3) (reference_faults E ts3)
    (λ first ts4 p4.
    let stood : Took ts BeforeSecond ts4 = but (IsExplain said ▸ IsToken k.Select ▸ IsSelection listed ▸ IsToken k.From ▸ IsReference first) BeforeSecond ts ts4
    (seq (IsExplain said) _ ts ts0 ts4 p0 (seq (IsToken k.Select) _ ts0 ts1 ts4 p1 (seq (IsSelection listed) _ ts1 ts2 ts4 p2 (seq (IsToken k.From) (IsReference first) ts2 ts3 ts4 p3 p4))))
    (λ used p. (said, listed, first, p)) in
    then_faults (second ts4) _ (λ x rest. Took ts4 (IsBoth x) rest) E (second_sound ts4) (second_faults ts ts4 stood)
    (λ both ts5 p5.
    let through : Took ts ThroughFrom ts5 = but (BeforeSecond ▸ IsBoth both) ThroughFrom ts ts5 (seq BeforeSecond (IsBoth both) ts ts4 ts5 stood p5) (through_from both) in
    then_faults (where_condition ts5) _ (λ x rest. Took ts5 (IsWhere x) rest) E (where_sound ts5) (where_faults ts ts5 through)
    (λ filter ts6 p6. then_none (limited ts6) _ E (limit_faults filter ts ts5 ts6 through p6)
    (λ most ts7. then_none (expect fault.Syntax k.End (after k.Semicolon ts7)) _ E (expect_faults k.End E (after k.Semicolon ts7)) (λ _ rest. tt)))))))))

-- ---- texts

by_value : {A : Type 0} (text : List ℕ) (E : QueryFault → Type 0) (r : Outcome QueryFault A) → Faults r E → IfErr (value_of r) (λ f. is_at_token f ≡ true → E f)
by_value text E (Ok p) h = tt
by_value text E (Err f) h = h

-- a fault at one of the tokens applies in the text, which isn't too long and is made of tokens
in_text : (text : List ℕ) (r : Result SelectQuery QueryFault) → length text ≤ most_bytes → bad_place (tokens true text) ≡ None
    → IfErr r (λ f. is_at_token f ≡ true → AppliesIn (tokens true text) f) → IfErr r (AppliesInQuery text)
in_text text (Ok q) short good h = tt
in_text text (Err f) short good h = λ is. (short, good, h is)

-- a byte that begins no token is a fault of its own; without one the tokens are read
by_place : (text : List ℕ) (v : Option ℕ) → length text ≤ most_bytes → bad_place (tokens true text) ≡ v → IfErr (query_by v (tokens true text)) (AppliesInQuery text)
by_place text None short good =
    in_text text (value_of (query (tokens true text))) short good
    (by_value text (AppliesIn (tokens true text)) (query (tokens true text)) (query_faults (tokens true text)))
by_place text (Some at) short bad = λ e. absurd (false≢true e)

-- a fault at a token that is read applies there
pub query_of_applies : (text : List ℕ) → IfErr (query_of text) (AppliesInQuery text)
unfolding query_of
query_of_applies text = go (nat_lt most_bytes (length text)) refl
  where
    go : (long : Bool) → nat_lt most_bytes (length text) ≡ long → IfErr (if long then Err fault.TooLong else query_by (bad_place (tokens true text)) (tokens true text)) (AppliesInQuery text)
    go true e = λ is. absurd (false≢true is)
    go false e = by_place text (bad_place (tokens true text)) (ltb-false most_bytes (length text) e) refl

-- a fault at a token that is given applies there
pub given_applies : (text : List ℕ) (r : Result SelectQuery QueryFault) → Gives fault.OutOfMemory (λ q. q) r (query_of text) → IfErr r (AppliesInQuery text)
given_applies text (Ok q) given = tt
given_applies text (Err f) given = λ is. subst (λ r. IfErr r (AppliesInQuery text)) (given (λ e. memory f is e)) (query_of_applies text) is
  where
    memory : (f : QueryFault) → is_at_token f ≡ true → f ≡ fault.OutOfMemory → ⊥
    memory f is e = false≢true (sym (ap is_at_token e) ∙ is)
