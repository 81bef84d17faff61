-- A text is read exactly where it is a query, and as that query.
use Rattle.std.proofs.Common.{◌≡◌, inl, inr, ℕ, suc, ◌≤◌, Bool, true, false, if◌then◌else◌, List, ◌∷◌, length, Option, Some, None, Result, Ok, Err, IfOk, nat_lt, refl, sym, ap, subst}
use Rattle.std.proofs.lemmas.Bool.{ltb-false, le-ltb}
use Rattle.table_model.specs.declared.faults.QueryFault.{QueryFault}
use Rattle.table_model.specs.declared.faults.QueryFault.TheVariants as fault
use Rattle.table_model.specs.Outcomes.{Gives}
use Rattle.table_model.specs.Parsers.{Outcome, value_of}
use Rattle.table_model.specs.QueryGrammar.{IsReferences, IsSecond, IsSelect, IsQuery, ReturnsQuery}
use Rattle.table_model.specs.QueryReading.{bad_place, query, query_by, query_of}
use Rattle.table_model.specs.Queries.{Condition, SelectQuery}
use Rattle.table_model.specs.References.{AreOneOrTwo}
use Rattle.table_model.specs.Tokens.{tokens, most_bytes}
use Rattle.table_model.specs.declared.queries.WrittenReference.{WrittenReference}
use Rattle.table_model.specs.declared.tokens.Token.{Token}
use Rattle.grammar_laws.proofs.QueryComplete.{select_complete}
use Rattle.grammar_laws.proofs.QuerySound.{query_sound}
use Rattle.grammar_laws.proofs.TokenReaders.{IfRead, map_read}
use Rattle.grammar_laws.proofs.TokensEnd.{tokens_once}

value_read : {A : Type 0} (r : Outcome QueryFault A) (P : A → Type 0) → IfRead r (λ x rest. P x) → IfOk (value_of r) P
value_read (Ok p) P h = h
value_read (Err e) P h = tt

-- a text that is made of tokens is read as the tokens' query; one that isn't is refused, which leaves nothing to show
by_place : (text : List ℕ) (v : Option ℕ) → length text ≤ most_bytes → bad_place (tokens true text) ≡ v
    → IfOk (query_by v (tokens true text)) (λ q. IsQuery text q)
unfolding IsQuery
by_place text None short e =
    value_read (query (tokens true text)) (λ q. IsQuery text q)
    (map_read (query (tokens true text)) (λ q rest. IsSelect q (tokens true text)) (λ q rest. IsQuery text q) (λ q rest p. (short, e, p))
    (query_sound (tokens true text) (tokens_once true text)))
by_place text (Some at) short e = tt

-- so for a text that isn't too long; a longer one is refused
by_length : (text : List ℕ) (long : Bool) → nat_lt most_bytes (length text) ≡ long
    → IfOk (if long then Err fault.TooLong else query_by (bad_place (tokens true text)) (tokens true text)) (λ q. IsQuery text q)
by_length text true e = tt
by_length text false e = by_place text (bad_place (tokens true text)) (ltb-false most_bytes (length text) e) refl

-- whatever a text is read as, it is by the grammar, as the readers of its tokens keep to their rules
query_of_sound : (text : List ℕ) → IfOk (query_of text) (λ q. IsQuery text q)
unfolding query_of
query_of_sound text = by_length text (nat_lt most_bytes (length text)) refl

-- what is read as a query is one
pub read_is_query : (text : List ℕ) (q : SelectQuery) → query_of text ≡ Ok q → IsQuery text q
read_is_query text q e = subst (λ r. IfOk r (λ q. IsQuery text q)) e (query_of_sound text)

-- a query is read, as that one
pub query_is_read : (text : List ℕ) (q : SelectQuery) → IsQuery text q → query_of text ≡ Ok q
unfolding query_of IsQuery
query_is_read text q (short, good, select) =
    rw (le-ltb most_bytes (length text) short, good, select_complete q (tokens true text) select) refl

-- one answer has one value
same_answer : {A : Type 0} (r : Result A QueryFault) (a b : A) → r ≡ Ok a → r ≡ Ok b → a ≡ b
same_answer r a b p q = cc

-- a text is one query at most
pub one_tree : (text : List ℕ) (a b : SelectQuery) → IsQuery text a → IsQuery text b → a ≡ b
one_tree text a b p q = same_answer (query_of text) a b (query_is_read text a p) (query_is_read text b q)

-- behind the first reference there is one more or none
few_more : (first : WrittenReference) (more : List WrittenReference) (on : Option Condition) (ts : List Token) → IsSecond more on ts → AreOneOrTwo (first ∷ more)
few_more first more on ts (inl (none, x, y)) = inl (ap (λ l. suc (length l)) none)
few_more first more on ts (inr (inl (given, one, x, p))) = inr (ap (λ l. suc (length l)) one)
few_more first more on ts (inr (inr (given, y, one, x, p))) = inr (ap (λ l. suc (length l)) one)

-- so the references of FROM are one or two
few_in : (references : List WrittenReference) (on : Option Condition) (ts : List Token) → IsReferences references on ts → AreOneOrTwo references
few_in references on ts (first, more, is, (a, b, e, p, second)) = subst (λ l. AreOneOrTwo l) (sym is) (few_more first more on b second)

-- and so are those of a query
few_of : (q : SelectQuery) (ts : List Token) → IsSelect q ts → AreOneOrTwo q.references
few_of q ts (a0, b0, e0, said, (a1, b1, e1, select, (a2, b2, e2, listed, (a3, b3, e3, from, (a4, b4, e4, references, rest))))) = few_in q.references q.on a4 references

-- a query has one reference or two
pub references_are_few : (text : List ℕ) (q : SelectQuery) → IsQuery text q → AreOneOrTwo q.references
unfolding IsQuery
references_are_few text q (short, good, select) = few_of q (tokens true text) select

-- what is given as the text's query is one
pub given_is_query : (text : List ℕ) (r : Result SelectQuery QueryFault) → Gives fault.OutOfMemory (λ q. q) r (query_of text) → IfOk r (λ q. IsQuery text q)
given_is_query text (Ok q) e = read_is_query text q e
given_is_query text (Err e) h = tt

-- whatever query a text is, that one is given
pub query_is_given : (text : List ℕ) (r : Result SelectQuery QueryFault) → Gives fault.OutOfMemory (λ q. q) r (query_of text) → ReturnsQuery text r
query_is_given text r given q is = subst (λ answer. Gives fault.OutOfMemory (λ q. q) r answer) (query_is_read text q is) given
