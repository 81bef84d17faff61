-- Where a fault applies at a token of a query, one that applies there or before it is returned.
use Rattle.std.proofs.Common.{◌≡◌, ◌⊎◌, ◌≤◌, ◌<◌, ◌+◌, ℕ, zero, suc, Bool, true, false, ℤ, List, [], ◌∷◌, ◌++◌, length, Option, Some, None, Result, Ok, Err, inl, inr, refl, sym, ap, subst, ◌∙◌, append_assoc, append-nil, length-append, arith}
use Rattle.std.proofs.lemmas.Bool.{le-ltb}
use Rattle.table_model.specs.declared.conditions.Comparison.{Comparison}
use Rattle.table_model.specs.declared.faults.QueryFault.{QueryFault}
use Rattle.table_model.specs.declared.faults.QueryFault.TheVariants as fault
use Rattle.table_model.specs.declared.queries.Explain.{Explain}
use Rattle.table_model.specs.declared.queries.Selection.{Selection}
use Rattle.table_model.specs.declared.queries.WrittenColumn.{WrittenColumn}
use Rattle.table_model.specs.declared.queries.WrittenCond.{WrittenCond}
use Rattle.table_model.specs.declared.queries.WrittenCond.TheVariants as c
use Rattle.table_model.specs.declared.queries.WrittenGeometry.{WrittenGeometry}
use Rattle.table_model.specs.declared.queries.WrittenOperand.TheVariants as o
use Rattle.table_model.specs.declared.queries.WrittenReference.{WrittenReference}
use Rattle.table_model.specs.declared.tokens.Token.{Token}
use Rattle.table_model.specs.declared.tokens.TokenKind.{TokenKind}
use Rattle.table_model.specs.declared.tokens.TokenKind.TheVariants as k
use Rattle.table_model.specs.Outcomes.{Gives}
use Rattle.table_model.specs.Parsers.{kind, place, spelling, next, sees, after, and_then, expect, parts_from}
use Rattle.table_model.specs.QueryGrammar.{IsDigits, IsOperand, IsBool, IsPredicateOf, IsPredicate, IsChain, IsConjunction, IsConditionOf, IsNegationOf, IsNegation, IsCondition, IsSelection, IsReference, IsCrossed}
use Rattle.table_model.specs.QueryReading.{Reader, integer, integer_value, operand, explained, selection, reference, comparison_of, compared, comparison, predicate_functions, predicate, chain, conjunction, condition_of, group, negation, most_levels, condition, Second, joined_on, second, where_condition, limit_value, limit_number, limited, query, bad_place, query_of}
use Rattle.table_model.specs.QueryRefusals.{IsAnyInteger, IsAnyOperand, IsAnyNegation, IsAnyCondition, BeforeSecond, BeforeOn, ThroughFrom, BeforeWhere, IsAnyWhere, BeforeLimit, AreParts, BeforeNegation, BeforeOperand, AppliesAt, AppliesIn, is_at_token, ReturnsFirst}
use Rattle.table_model.specs.Queries.{Condition, ConditionOperand, SelectQuery}
use Rattle.table_model.specs.Tokens.{same_kind, tokens, most_bytes}
use Rattle.grammar_laws.proofs.QuerySound.{Begins, one_begins, seq_begins, BeginsOperand, operand_begins}
use Rattle.grammar_laws.proofs.QueryComplete.{Complete, is_kind, one_first, one_last, one_only, split, kind_after, ends_by, unnamed, none_called, operand_of_digits, operand_of_plus, operand_of_minus, EndsPredicate, EndsConjunction, EndsReference, compares_ends, operand_complete, no_predicate, not_word, part_then, turns_suffice, not_seen, negation_predicate, negation_not, negation_group, negation_complete, bool_begins, chain_complete, expect_read, explained_complete, selection_complete, from_ends, reference_complete, second_complete, second_of_none, second_of_inner, second_of_join, EndsSecond, where_of_none, where_of_word, limit_of_word, limit_ends, condition_complete, where_ends, on_ends, ends_reference}
use Rattle.grammar_laws.proofs.QueryRefused.{Faults, query_faults}
use Rattle.table_model.specs.Phrases.{Phrase, IsToken, ◌▸◌, IsOptional, IsParts, AreEnded}

-- ---- what a reader returns whatever follows

-- a fault at a token is returned within some tokens, of which others come after
abbrev pub Stops : {A : Type 0} → Reader A → List Token → Type 0
Stops p used = (f : QueryFault) × (is_at_token f ≡ true) × ((t : Token) (rest : List Token) → p (used ++ t ∷ rest) ≡ Err f)

-- the tokens of a phrase are there, or a fault at one of them is returned
abbrev pub Meets : {A : Type 0} → Reader A → (A → Phrase) → List Token → Type 0
Meets {A} p P used = ((x : A) × P x used) ⊎ Stops p used

-- a fault at a token is returned up to a token, whatever follows it
abbrev pub Hits : {A : Type 0} → Reader A → List Token → Token → Type 0
Hits p used u = (f : QueryFault) × (is_at_token f ≡ true) × ((rest : List Token) → p (used ++ u ∷ rest) ≡ Err f)

-- ---- operands

-- digits whose number, with its sign, isn't within 64 bits are refused as too big
integer_big : (A : Type 0) (negative : Bool) (u : Token) (rest : List Token) → u.kind ≡ k.Integer → integer_value negative u.text ≡ None
    → integer {A = A} negative (u ∷ rest) ≡ Err (fault.NumberTooBig u.at)
unfolding integer sees kind next place spelling
integer_big A negative u rest e none = rw (is_kind u.kind k.Integer e, none) refl

-- digits are an integer, or are refused as too big: with their sign they are within 64 bits or not
digits_meet : (A : Type 0) (negative : Bool) (used : List Token) → IsToken k.Integer used → ((n : ℤ) × IsDigits negative n used) ⊎ Stops (integer {A = A} negative) used
digits_meet A negative [] p = absurd p
digits_meet A negative (u ∷ []) p = go (integer_value negative u.text) refl
  where
    go : (v : Option ℤ) → integer_value negative u.text ≡ v → ((n : ℤ) × IsDigits negative n (u ∷ [])) ⊎ Stops (integer {A = A} negative) (u ∷ [])
    go (Some n) e = inl (n, (p, e))
    go None e = inr (fault.NumberTooBig u.at, refl, λ t rest. integer_big A negative u (t ∷ rest) p e)
digits_meet A negative (u ∷ v ∷ more) p = absurd p

-- digits after a sign
signed_meet : (sign : TokenKind) (negative : Bool) (used : List Token) → ((ts : List Token) → kind ts ≡ sign → operand ts ≡ integer negative (next ts))
    → (IsToken sign ▸ IsToken k.Integer) used → ((n : ℤ) × (IsToken sign ▸ IsDigits negative n) used) ⊎ Stops operand used
unfolding kind next
signed_meet sign negative used begins p = go (one_first _ (IsToken k.Integer) used p)
  where
    go : ((m : Token) × (d : List Token) × (used ≡ m ∷ d) × (m.kind ≡ sign) × IsToken k.Integer d) → ((n : ℤ) × (IsToken sign ▸ IsDigits negative n) used) ⊎ Stops operand used
    go (m, d, e, signs, q) = with_digits (digits_meet WrittenGeometry negative d q)
      where
        with_digits : ((n : ℤ) × IsDigits negative n d) ⊎ Stops (integer {A = WrittenGeometry} negative) d → ((n : ℤ) × (IsToken sign ▸ IsDigits negative n) used) ⊎ Stops operand used
        with_digits (inl (n, digits)) = inl (n, (m ∷ [], d, e, signs, digits))
        with_digits (inr (f, is, h)) = inr (f, is, λ t rest. ap (λ l. operand (l ++ t ∷ rest)) e ∙ begins (m ∷ (d ++ t ∷ rest)) signs ∙ h t rest)

-- an integer of any size, without a sign or with either, is an operand of the grammar or is refused as too big
integer_meets : (used : List Token) → IsAnyInteger used → Meets operand IsOperand used
integer_meets used (inl p) = go (digits_meet WrittenGeometry false used p)
  where
    go : ((n : ℤ) × IsDigits false n used) ⊎ Stops (integer {A = WrittenGeometry} false) used → Meets operand IsOperand used
    go (inl (n, digits)) = inl (o.Integer n, inr (inl (n, refl, inl digits)))
    go (inr (f, is, h)) = inr (f, is, λ t rest. operand_of_digits (used ++ t ∷ rest) (kind_after k.Integer used (t ∷ rest) (one_begins (λ kind. kind ≡ k.Integer) _ (λ u q. q) used p)) ∙ h t rest)
integer_meets used (inr (inl p)) = go (signed_meet k.Plus false used operand_of_plus p)
  where
    go : ((n : ℤ) × (IsToken k.Plus ▸ IsDigits false n) used) ⊎ Stops operand used → Meets operand IsOperand used
    go (inl (n, q)) = inl (o.Integer n, inr (inl (n, refl, inr (inl q))))
    go (inr h) = inr h
integer_meets used (inr (inr p)) = go (signed_meet k.Minus true used operand_of_minus p)
  where
    go : ((n : ℤ) × (IsToken k.Minus ▸ IsDigits true n) used) ⊎ Stops operand used → Meets operand IsOperand used
    go (inl (n, q)) = inl (o.Integer n, inr (inl (n, refl, inr (inr q))))
    go (inr h) = inr h

-- so is what is an operand, or an integer of any size in its place
operand_meets : (x : ConditionOperand) (used : List Token) → IsAnyOperand x used → Meets operand IsOperand used
operand_meets x used (inl p) = inl (x, p)
operand_meets x used (inr p) = integer_meets used p

-- ---- predicates

-- an integer of any size begins with digits or a sign, so neither with NOT nor with `(`
any_integer_begins : (ts : List Token) → IsAnyInteger ts → Begins BeginsOperand ts
unfolding same_kind
any_integer_begins ts (inl p) = one_begins BeginsOperand _ (λ t q. ends_by BeginsOperand t.kind k.Integer q (refl, refl)) ts p
any_integer_begins ts (inr (inl p)) = seq_begins BeginsOperand _ _ (one_begins BeginsOperand _ (λ t q. ends_by BeginsOperand t.kind k.Plus q (refl, refl))) ts p
any_integer_begins ts (inr (inr p)) = seq_begins BeginsOperand _ _ (one_begins BeginsOperand _ (λ t q. ends_by BeginsOperand t.kind k.Minus q (refl, refl))) ts p

-- nor does what is an operand, or an integer of any size in its place, begin with NOT or `(`
any_operand_begins : (x : ConditionOperand) (ts : List Token) → IsAnyOperand x ts → Begins BeginsOperand ts
any_operand_begins x ts (inl p) = operand_begins x ts p
any_operand_begins x ts (inr p) = any_integer_begins ts p

-- an integer of any size doesn't begin with a word
unworded : (used tail : List Token) → IsAnyInteger used → sees k.Word (used ++ tail) ≡ false
unfolding same_kind
unworded used tail (inl p) = not_word used tail k.Integer refl (one_begins (λ kind. kind ≡ k.Integer) _ (λ t q. q) used p)
unworded used tail (inr (inl p)) = not_word used tail k.Plus refl (seq_begins (λ kind. kind ≡ k.Plus) _ _ (one_begins (λ kind. kind ≡ k.Plus) _ (λ t q. q)) used p)
unworded used tail (inr (inr p)) = not_word used tail k.Minus refl (seq_begins (λ kind. kind ≡ k.Minus) _ _ (one_begins (λ kind. kind ≡ k.Minus) _ (λ t q. q)) used p)

-- where no word is next, no predicate that is a function is called
predicate_uncalled : (ts : List Token) → sees k.Word ts ≡ false → predicate ts ≡ comparison ts
unfolding predicate
predicate_uncalled ts e = none_called (predicate_functions (place ts)) comparison ts (λ function. unnamed function ts e)

-- a fault in the left side is what a comparison is refused for
left_refused : (ts : List Token) (f : QueryFault) → operand ts ≡ Err f → comparison ts ≡ Err f
unfolding comparison
left_refused ts f e = rw e refl

-- so is one in the right side, once the left side and the sign are read
right_refused : (sign : Comparison) (left : ConditionOperand) (a : List Token) (m : Token) (tail : List Token) (f : QueryFault)
    → IsOperand left a → comparison_of m.kind ≡ Some sign → operand tail ≡ Err f → comparison (a ++ m ∷ tail) ≡ Err f
unfolding comparison compared after sees kind next
right_refused sign left a m tail f p e h =
    let ends = compares_ends m.kind sign e in
    rw (operand_complete left a m tail p ends.0, ends.1, e, h) refl

-- tokens, of which the first some are known
cut_off : (used a b : List Token) (t : Token) (rest : List Token) → used ≡ a ++ b → (tail : List Token) → b ++ t ∷ rest ≡ tail → used ++ t ∷ rest ≡ a ++ tail
cut_off used a b t rest e tail g = ap (λ l. l ++ t ∷ rest) e ∙ append_assoc a b (t ∷ rest) ∙ ap (λ l. a ++ l) g

-- a left side that is too big, whatever comes after it
left_stops : (used a : List Token) (m : Token) (d : List Token) → used ≡ a ++ m ∷ d → IsAnyInteger a → Stops operand a → Stops predicate used
left_stops used a m d e p (f, is, h) = (
  f,
  is,
  λ t rest.
      ap predicate (cut_off used a (m ∷ d) t rest e (m ∷ (d ++ t ∷ rest)) refl) ∙ predicate_uncalled (a ++ m ∷ (d ++ t ∷ rest)) (unworded a (m ∷ (d ++ t ∷ rest)) p)
      ∙ left_refused (a ++ m ∷ (d ++ t ∷ rest)) f (h m (d ++ t ∷ rest)),
)

-- a right side that is too big, behind a left side and a sign that are read
right_stops : (sign : Comparison) (left : ConditionOperand) (used a : List Token) (m : Token) (d : List Token) → used ≡ a ++ m ∷ d → IsOperand left a
    → comparison_of m.kind ≡ Some sign → Stops operand d → Stops predicate used
right_stops sign left used a m d e p g (f, is, h) = (
  f,
  is,
  λ t rest.
      ap predicate (cut_off used a (m ∷ d) t rest e (m ∷ (d ++ t ∷ rest)) refl) ∙ no_predicate left a m (d ++ t ∷ rest) p (compares_ends m.kind sign g).0
      ∙ right_refused sign left a m (d ++ t ∷ rest) f p g (h t rest),
)

-- a left side, strictly or with the fault that it is too big
abbrev pub LeftMeets : List Token → List Token → Token → List Token → Type 0
LeftMeets used a m d = ((left : ConditionOperand) × IsOperand left a) ⊎ Stops predicate used

-- a left side is an operand, or too big, and then the predicate is refused for it whatever comes after
left_meets : (x : ConditionOperand) (used a : List Token) (m : Token) (d : List Token) → used ≡ a ++ m ∷ d → IsAnyOperand x a → LeftMeets used a m d
left_meets x used a m d e (inl p) = inl (x, p)
left_meets x used a m d e (inr p) = go (integer_meets a p)
  where
    go : Meets operand IsOperand a → LeftMeets used a m d
    go (inl h) = inl h
    go (inr h) = inr (left_stops used a m d e p h)

-- a predicate with integers of any size is one of the grammar, or is refused for its first integer that is too big
predicate_meets : (x : Condition) (used : List Token) → IsPredicateOf IsAnyOperand x used → Meets predicate IsPredicate used
predicate_meets x used (inl (sign, left, right, ex, (a, b, e, p, q))) = with_sign (one_first _ (IsAnyOperand right) b q)
  where
    M : Type 0
    M = Meets predicate IsPredicate used

    with_right : (m : Token) (d : List Token) → b ≡ m ∷ d → comparison_of m.kind ≡ Some sign → (l : ConditionOperand) → IsOperand l a → Meets operand IsOperand d → M
    with_right m d g compares l s (inl (r, h)) = inl (c.Compare (place used) sign l r, inl (sign, l, r, refl, (a, b, e, s, (m ∷ [], d, g, compares, h))))
    with_right m d g compares l s (inr h) = inr (right_stops sign l used a m d (e ∙ ap (λ l. a ++ l) g) s compares h)

    with_left : (m : Token) (d : List Token) → b ≡ m ∷ d → comparison_of m.kind ≡ Some sign → IsAnyOperand right d → LeftMeets used a m d → M
    with_left m d g compares h (inl (l, s)) = with_right m d g compares l s (operand_meets right d h)
    with_left m d g compares h (inr stop) = inr stop

    with_sign : ((m : Token) × (d : List Token) × (b ≡ m ∷ d) × (comparison_of m.kind ≡ Some sign) × IsAnyOperand right d) → M
    with_sign (m, d, g, compares, h) = with_left m d g compares h (left_meets left used a m d (e ∙ ap (λ l. a ++ l) g) p)
predicate_meets x used (inr (inl (operand, ex, (a, b, e, p, q)))) = with_is (one_first _ (IsToken k.Null) b q)
  where
    go : (m : Token) (d : List Token) → LeftMeets used a m d → Meets predicate IsPredicate used
    go m d (inl (l, s)) = inl (c.IsNull l, inr (inl (l, refl, (a, b, e, s, q))))
    go m d (inr stop) = inr stop

    with_is : ((m : Token) × (d : List Token) × (b ≡ m ∷ d) × (m.kind ≡ k.Is) × IsToken k.Null d) → Meets predicate IsPredicate used
    with_is (m, d, g, is, h) = go m d (left_meets operand used a m d (e ∙ ap (λ l. a ++ l) g) p)
predicate_meets x used (inr (inr (inl (operand, ex, (a, b, e, p, q))))) = with_is (one_first _ (IsToken k.Not ▸ IsToken k.Null) b q)
  where
    go : (m : Token) (d : List Token) → LeftMeets used a m d → Meets predicate IsPredicate used
    go m d (inl (l, s)) = inl (c.Not (c.IsNull l), inr (inr (inl (l, refl, (a, b, e, s, q)))))
    go m d (inr stop) = inr stop

    with_is : ((m : Token) × (d : List Token) × (b ≡ m ∷ d) × (m.kind ≡ k.Is) × (IsToken k.Not ▸ IsToken k.Null) d) → Meets predicate IsPredicate used
    with_is (m, d, g, is, h) = go m d (left_meets operand used a m d (e ∙ ap (λ l. a ++ l) g) p)
predicate_meets x used (inr (inr (inr p))) = inl (x, inr (inr (inr p)))

-- ---- parts

-- a fault in the next part is what parts are refused for, while a turn is left
part_refused : {A : Type 0} (between : TokenKind) (part : Reader A) (n : ℕ) (found : List A) (ts : List Token) (f : QueryFault) → part ts ≡ Err f → parts_from fault.Syntax between part (suc n) found ts ≡ Err f
unfolding parts_from
part_refused between part n found ts f e = rw e refl

-- a fault at a token is returned by a reader of parts, whatever was found before, in turns enough for these
abbrev pub PartsRefused : {A : Type 0} → TokenKind → Reader A → ℕ → List Token → QueryFault → Type 0
PartsRefused {A} between part turns ts f = (n : ℕ) (found : List A) → turns < n → parts_from fault.Syntax between part n found ts ≡ Err f

-- parts are refused so within some tokens, of which others come after
abbrev pub PartsStop : {A : Type 0} → TokenKind → Reader A → ℕ → List Token → Type 0
PartsStop between part turns used = (f : QueryFault) × (is_at_token f ≡ true) × ((t : Token) (rest : List Token) → PartsRefused between part turns (used ++ t ∷ rest) f)

-- a fault in the first part is returned
first_refused : {A : Type 0} (between : TokenKind) (part : Reader A) (turns : ℕ) (ts : List Token) (f : QueryFault) → part ts ≡ Err f → PartsRefused between part turns ts f
first_refused between part turns ts f e zero found enough = absurd (omega (arith, enough))
first_refused between part turns ts f e (suc n) found enough = part_refused between part n found ts f e

-- a fault behind a part and the token between is returned, with one turn more
later_refused : {A : Type 0} (between : TokenKind) (part : Reader A) (turns : ℕ) (x : A) (ts : List Token) (m : Token) (rest : List Token) (f : QueryFault)
    → part ts ≡ Ok (x, m ∷ rest) → m.kind ≡ between → PartsRefused between part turns rest f → PartsRefused between part (suc turns) ts f
later_refused between part turns x ts m rest f e g h zero found enough = absurd (omega (arith, enough))
later_refused between part turns x ts m rest f e g h (suc n) found enough = part_then between part n found x ts m rest e g ∙ h n (found ++ x ∷ []) (omega (arith, enough))

-- some parts, strictly or with a fault at one of their tokens
abbrev pub PartsMeet : {A : Type 0} → TokenKind → Reader A → (A → Phrase) → ℕ → List Token → Type 0
PartsMeet {A} between part S turns used = ((x : A) × (more : List A) × IsParts between S x more used) ⊎ PartsStop between part turns used

-- Where each part is one of the grammar or is refused, so are they all: the parts before the first that is refused are read,
-- and its fault is what they are refused for
parts_meet : {A : Type 0} (between : TokenKind) (part : Reader A) (P S : A → Phrase) (F : TokenKind → Type 0) → F between → Complete part S F → ((x : A) (used : List Token) → P x used → Meets part S used)
    → (more : List A) (x : A) (used : List Token) → IsParts between P x more used → PartsMeet between part S (length more) used
parts_meet {A} between part P S F mid whole meets [] x used p = go (meets x used p)
  where
    go : Meets part S used → PartsMeet between part S 0 used
    go (inl (y, s)) = inl (y, [], s)
    go (inr (f, is, h)) = inr (f, is, λ t rest. first_refused between part 0 (used ++ t ∷ rest) f (h t rest))
parts_meet {A} between part P S F mid whole meets (y ∷ more) x used (a, b, e, p, q) =
    with_token (λ d h. parts_meet between part P S F mid whole meets more y d h) (one_first _ (IsParts between P y more) b q)
  where
    M : Type 0
    M = PartsMeet between part S (suc (length more)) used

    later : (m : Token) (d : List Token) → b ≡ m ∷ d → m.kind ≡ between → (z : A) → S z a → PartsMeet between part S (length more) d → M
    later m d g is z s (inl (v, others, h)) = inl (z, v ∷ others, (a, b, e, s, (m ∷ [], d, g, is, h)))
    later m d g is z s (inr (f, at, h)) = inr (
      f,
      at,
      λ t rest.
          subst (λ l. PartsRefused between part (suc (length more)) l f) (sym (cut_off used a b t rest e (m ∷ (d ++ t ∷ rest)) (ap (λ l. l ++ t ∷ rest) g)))
          (later_refused between part (length more) z (a ++ m ∷ (d ++ t ∷ rest)) m (d ++ t ∷ rest) f (whole z a m (d ++ t ∷ rest) s (ends_by F m.kind between is mid)) is (h t rest)),
    )

    first : (m : Token) (d : List Token) → b ≡ m ∷ d → m.kind ≡ between → PartsMeet between part S (length more) d → Meets part S a → M
    first m d g is others (inl (z, s)) = later m d g is z s others
    first m d g is others (inr (f, at, h)) = inr (
      f,
      at,
      λ t rest.
          subst (λ l. PartsRefused between part (suc (length more)) l f) (sym (cut_off used a b t rest e (m ∷ (d ++ t ∷ rest)) (ap (λ l. l ++ t ∷ rest) g)))
          (first_refused between part (suc (length more)) (a ++ m ∷ (d ++ t ∷ rest)) f (h m (d ++ t ∷ rest))),
    )

    with_token : ((d : List Token) → IsParts between P y more d → PartsMeet between part S (length more) d) → ((m : Token) × (d : List Token) × (b ≡ m ∷ d) × (m.kind ≡ between) × IsParts between P y more d) → M
    with_token others (m, d, g, is, h) = first m d g is (others d h) (meets x a p)

-- ---- chains

-- a fault in the first part is what a chain is refused for
chain_refused : {A : Type 0} (between : TokenKind) (join : List (WrittenCond A) → WrittenCond A) (part : Reader (WrittenCond A)) (ts : List Token) (f : QueryFault)
    → part ts ≡ Err f → chain between join part ts ≡ Err f
chain_refused between join part ts f e = rw e refl

-- so is one in a later part, since there are turns enough
chain_later_refused : {A : Type 0} (between : TokenKind) (join : List (WrittenCond A) → WrittenCond A) (part : Reader (WrittenCond A)) (turns : ℕ) (x : WrittenCond A) (ts : List Token) (m : Token) (rest : List Token)
    (f : QueryFault) → part ts ≡ Ok (x, m ∷ rest) → m.kind ≡ between → turns < length rest → PartsRefused between part turns rest f → chain between join part ts ≡ Err f
unfolding after sees kind next
chain_later_refused between join part turns x ts m rest f e g enough h = rw (e, is_kind m.kind between g, h (length rest) (x ∷ []) enough) refl

-- where each part is one of the grammar or is refused, so is a chain of them
chain_meets : {A : Type 0} (between : TokenKind) (join : List (WrittenCond A) → WrittenCond A) (part : Reader (WrittenCond A)) (P S : WrittenCond A → Phrase) (F : TokenKind → Type 0)
    → F between → Complete part S F → ((x : WrittenCond A) (used : List Token) → P x used → Meets part S used)
    → (x : WrittenCond A) (used : List Token) → IsChain between join P x used → Meets (chain between join part) (IsChain between join S) used
chain_meets {A} between join part P S F mid whole meets x used (inl p) = go (meets x used p)
  where
    go : Meets part S used → Meets (chain between join part) (IsChain between join S) used
    go (inl (y, s)) = inl (y, inl s)
    go (inr (f, is, h)) = inr (f, is, λ t rest. chain_refused between join part (used ++ t ∷ rest) f (h t rest))
chain_meets {A} between join part P S F mid whole meets x used (inr (one, two, more, ex, (a, b, e, p, q))) = with_token (one_first _ (IsParts between P two more) b q)
  where
    M : Type 0
    M = Meets (chain between join part) (IsChain between join S) used

    later : (m : Token) (d : List Token) → b ≡ m ∷ d → m.kind ≡ between → IsParts between P two more d → (z : WrittenCond A) → S z a → PartsMeet between part S (length more) d → M
    later m d g is q z s (inl (v, others, h)) = inl (join (z ∷ v ∷ others), inr (z, v, others, refl, (a, b, e, s, (m ∷ [], d, g, is, h))))
    later m d g is q z s (inr (f, at, h)) = inr (
      f,
      at,
      λ t rest.
          ap (chain between join part) (cut_off used a b t rest e (m ∷ (d ++ t ∷ rest)) (ap (λ l. l ++ t ∷ rest) g))
          ∙ chain_later_refused between join part (length more) z (a ++ m ∷ (d ++ t ∷ rest)) m (d ++ t ∷ rest) f (whole z a m (d ++ t ∷ rest) s (ends_by F m.kind between is mid)) is
          (turns_suffice between P more two d t rest q) (h t rest),
    )

    first : (m : Token) (d : List Token) → b ≡ m ∷ d → m.kind ≡ between → IsParts between P two more d → Meets part S a → M
    first m d g is q (inl (z, s)) = later m d g is q z s (parts_meet between part P S F mid whole meets more two d q)
    first m d g is q (inr (f, at, h)) = inr (
      f,
      at,
      λ t rest.
          ap (chain between join part) (cut_off used a b t rest e (m ∷ (d ++ t ∷ rest)) (ap (λ l. l ++ t ∷ rest) g)) ∙ chain_refused between join part (a ++ m ∷ (d ++ t ∷ rest)) f (h m (d ++ t ∷ rest)),
    )

    with_token : ((m : Token) × (d : List Token) × (b ≡ m ∷ d) × (m.kind ≡ between) × IsParts between P two more d) → M
    with_token (m, d, g, is, h) = first m d g is h (meets one a p)

-- parts with AND between them are read where each is
conjunction_complete : {A : Type 0} (part : Reader (WrittenCond A)) (S : WrittenCond A → Phrase) → Complete part S EndsPredicate → Complete (conjunction part) (IsConjunction S) EndsConjunction
unfolding same_kind
conjunction_complete part S whole = chain_complete k.And c.And part S EndsPredicate ((refl, refl), refl) whole

-- parts with AND between them are of the grammar or refused, where each is
conjunction_meets : {A : Type 0} (part : Reader (WrittenCond A)) (P S : WrittenCond A → Phrase) → Complete part S EndsPredicate → ((x : WrittenCond A) (used : List Token) → P x used → Meets part S used)
    → (x : WrittenCond A) (used : List Token) → IsConjunction P x used → Meets (conjunction part) (IsConjunction S) used
unfolding same_kind
conjunction_meets part P S whole meets = chain_meets k.And c.And part P S EndsPredicate ((refl, refl), refl) whole meets

-- so are those with AND and OR between them
condition_of_meets : {A : Type 0} (part : Reader (WrittenCond A)) (P S : WrittenCond A → Phrase) → Complete part S EndsPredicate → ((x : WrittenCond A) (used : List Token) → P x used → Meets part S used)
    → (x : WrittenCond A) (used : List Token) → IsConditionOf P x used → Meets (condition_of part) (IsConditionOf S) used
unfolding same_kind
condition_of_meets part P S whole meets =
    chain_meets k.Or c.Or (conjunction part) (IsConjunction P) (IsConjunction S) EndsConjunction (((refl, refl), refl), refl) (conjunction_complete part S whole) (conjunction_meets part P S whole meets)

-- ---- NOT and parentheses

-- with no level left, NOT is refused as too deep
too_deep_not : (m : Token) (ts : List Token) → m.kind ≡ k.Not → negation 0 (m ∷ ts) ≡ Err (fault.TooDeep m.at)
unfolding negation sees kind place same_kind
too_deep_not m ts e = rw e refl

-- so is `(`
too_deep_left : (m : Token) (ts : List Token) → m.kind ≡ k.LeftParenthesis → negation 0 (m ∷ ts) ≡ Err (fault.TooDeep m.at)
unfolding negation sees kind place same_kind
too_deep_left m ts e = rw e refl

-- a fault in a condition is what its parentheses are refused for
group_refused : {A : Type 0} (part : Reader (WrittenCond A)) (ts : List Token) (f : QueryFault) → condition_of part ts ≡ Err f → group part ts ≡ Err f
group_refused part ts f e = rw e refl

-- a predicate with integers of any size begins neither with NOT nor with `(`
any_predicate_begins : (x : Condition) (ts : List Token) → IsPredicateOf IsAnyOperand x ts → Begins BeginsOperand ts
any_predicate_begins x ts (inl (sign, left, right, e, p)) = seq_begins BeginsOperand (IsAnyOperand left) _ (any_operand_begins left) ts p
any_predicate_begins x ts (inr (inl (operand, e, p))) = seq_begins BeginsOperand (IsAnyOperand operand) _ (any_operand_begins operand) ts p
any_predicate_begins x ts (inr (inr (inl (operand, e, p)))) = seq_begins BeginsOperand (IsAnyOperand operand) _ (any_operand_begins operand) ts p
any_predicate_begins x ts (inr (inr (inr (bool, p)))) = seq_begins BeginsOperand (IsBool bool) _ (bool_begins bool) ts p

-- a predicate nests nothing
nested_none : (n : ℕ) (x : Condition) (used : List Token) → IsPredicate x used → IsNegation n x used
unfolding IsNegationOf
nested_none zero x used p = p
nested_none (suc n) x used p = inr (inr p)

-- such a predicate is one of the grammar or is refused, whatever levels are left, since it uses none
bare_meets : (n : ℕ) (x : Condition) (used : List Token) → IsPredicateOf IsAnyOperand x used → Meets (negation n) (IsNegation n) used
bare_meets n x used p = go (predicate_meets x used p)
  where
    go : Meets predicate IsPredicate used → Meets (negation n) (IsNegation n) used
    go (inl (y, s)) = inl (y, nested_none n y used s)
    go (inr (f, is, h)) = inr (
      f,
      is,
      λ t rest. let unseen = not_seen used (t ∷ rest) (any_predicate_begins x used p) in negation_predicate n (used ++ t ∷ rest) unseen.0 unseen.1 ∙ h t rest,
    )

-- NOT nests one level more than what comes after it
negated : (n : ℕ) (y : Condition) (used : List Token) → (IsToken k.Not ▸ IsNegation n y) used → IsNegation (suc n) (c.Not y) used
unfolding IsNegationOf
negated n y used p = inl (y, refl, p)

-- so do parentheses
grouped : (n : ℕ) (x : Condition) (used : List Token) → (IsToken k.LeftParenthesis ▸ IsConditionOf (IsNegation n) x ▸ IsToken k.RightParenthesis) used
    → IsNegation (suc n) x used
unfolding IsNegationOf
grouped n x used p = inr (inl p)

-- Whatever its depth, a nested condition is one of the grammar within the levels left, or is refused for an integer that is too big or
-- for the NOT or `(` at which no level is left
negation_meets : (levels n : ℕ) (x : Condition) (used : List Token) → IsNegationOf (IsPredicateOf IsAnyOperand) levels x used
    → Meets (negation n) (IsNegation n) used
unfolding IsNegationOf
negation_meets zero n x used p = bare_meets n x used p
negation_meets (suc levels) n x used (inr (inr p)) = bare_meets n x used p
negation_meets (suc levels) zero x used (inl (y, ex, p)) = go (one_first _ (IsNegationOf (IsPredicateOf IsAnyOperand) levels y) used p)
  where
    go : ((m : Token) × (d : List Token) × (used ≡ m ∷ d) × (m.kind ≡ k.Not) × IsNegationOf (IsPredicateOf IsAnyOperand) levels y d)
        → Meets (negation 0) (IsNegation 0) used
    go (m, d, e, is, h) = inr (fault.TooDeep m.at, refl, λ t rest. ap (λ l. negation 0 (l ++ t ∷ rest)) e ∙ too_deep_not m (d ++ t ∷ rest) is)
negation_meets (suc levels) zero x used (inr (inl p)) =
    go (one_first _ (IsConditionOf (IsNegationOf (IsPredicateOf IsAnyOperand) levels) x ▸ IsToken k.RightParenthesis) used p)
  where
    go : ((m : Token) × (d : List Token) × (used ≡ m ∷ d) × (m.kind ≡ k.LeftParenthesis) × (IsConditionOf (IsNegationOf (IsPredicateOf IsAnyOperand) levels) x ▸ IsToken k.RightParenthesis) d)
        → Meets (negation 0) (IsNegation 0) used
    go (m, d, e, is, h) = inr (fault.TooDeep m.at, refl, λ t rest. ap (λ l. negation 0 (l ++ t ∷ rest)) e ∙ too_deep_left m (d ++ t ∷ rest) is)
negation_meets (suc levels) (suc n) x used (inl (y, ex, p)) =
    go (λ d h. negation_meets levels n y d h) (one_first _ (IsNegationOf (IsPredicateOf IsAnyOperand) levels y) used p)
  where
    L : Phrase
    L = IsNegationOf (IsPredicateOf IsAnyOperand) levels y

    inner : (m : Token) (d : List Token) → used ≡ m ∷ d → m.kind ≡ k.Not → Meets (negation n) (IsNegation n) d → Meets (negation (suc n)) (IsNegation (suc n)) used
    inner m d e is (inl (z, s)) = inl (c.Not z, negated n z used (m ∷ [], d, e, is, s))
    inner m d e is (inr (f, at, h)) = inr (
      f,
      at,
      λ t rest. ap (λ l. negation (suc n) (l ++ t ∷ rest)) e ∙ negation_not n m (d ++ t ∷ rest) is ∙ ap (λ r. and_then r (λ y rest. Ok (c.Not y, rest))) (h t rest),
    )

    go : ((d : List Token) → L d → Meets (negation n) (IsNegation n) d) → ((m : Token) × (d : List Token) × (used ≡ m ∷ d) × (m.kind ≡ k.Not) × L d)
        → Meets (negation (suc n)) (IsNegation (suc n)) used
    go meets (m, d, e, is, h) = inner m d e is (meets d h)
negation_meets (suc levels) (suc n) x used (inr (inl p)) =
    go (λ y d h. negation_meets levels n y d h) (one_first _ (IsConditionOf (IsNegationOf (IsPredicateOf IsAnyOperand) levels) x ▸ IsToken k.RightParenthesis) used p)
  where
    L : Condition → Phrase
    L = IsNegationOf (IsPredicateOf IsAnyOperand) levels

    N : Condition → Phrase
    N = IsNegation n

    inner : (m : Token) (d a : List Token) (r : Token) → used ≡ m ∷ d → m.kind ≡ k.LeftParenthesis → d ≡ a ++ r ∷ [] → r.kind ≡ k.RightParenthesis → Meets (condition_of (negation n)) (IsConditionOf N) a
        → Meets (negation (suc n)) (IsNegation (suc n)) used
    inner m d a r e left g right (inl (z, s)) = inl (z, grouped n z used (m ∷ [], d, e, left, (a, r ∷ [], g, s, right)))
    inner m d a r e left g right (inr (f, at, h)) = inr (
      f,
      at,
      λ t rest.
          ap (λ l. negation (suc n) (l ++ t ∷ rest)) e ∙ negation_group n m (d ++ t ∷ rest) left
          ∙ group_refused (negation n) (d ++ t ∷ rest) f (ap (λ l. condition_of (negation n) (l ++ t ∷ rest)) g ∙ ap (condition_of (negation n)) (append_assoc a (r ∷ []) (t ∷ rest)) ∙ h r (t ∷ rest)),
    )

    go : ((y : Condition) (d : List Token) → L y d → Meets (negation n) N d)
        → ((m : Token) × (d : List Token) × (used ≡ m ∷ d) × (m.kind ≡ k.LeftParenthesis) × (IsConditionOf L x ▸ IsToken k.RightParenthesis) d)
        → Meets (negation (suc n)) (IsNegation (suc n)) used
    go meets (m, d, e, left, h) =
        let last = one_last (IsConditionOf L x) _ d h in
        inner m d last.0 last.1 e left last.2 last.4 (condition_of_meets (negation n) L N (negation_complete n) meets x last.0 last.3)

-- the same where the depth isn't given
any_negation_meets : (n : ℕ) (x : Condition) (used : List Token) → IsAnyNegation x used → Meets (negation n) (IsNegation n) used
any_negation_meets n x used (levels, p) = negation_meets levels n x used p

-- ---- parts that come before one more

-- Behind parts with their token, a fault in the next part is returned, or one before it: each part in front is read or is refused
-- itself
ended_hits : {A : Type 0} (between : TokenKind) (part : Reader A) (P S : A → Phrase) (F : TokenKind → Type 0) → F between → Complete part S F → ((x : A) (used : List Token) → P x used → Meets part S used)
    → (xs : List A) (used v : List Token) (u : Token) → AreEnded (IsToken between) P xs used → Hits part v u
    → (f : QueryFault) × (is_at_token f ≡ true) × ((rest : List Token) → PartsRefused between part (length xs) (used ++ (v ++ u ∷ rest)) f)
ended_hits between part P S F mid whole meets [] used v u none (f, at, h) =
    (f, at, λ rest. first_refused between part 0 (used ++ (v ++ u ∷ rest)) f (ap (λ l. part (l ++ (v ++ u ∷ rest))) none ∙ h rest))
ended_hits {A} between part P S F mid whole meets (x ∷ xs) used v u (a, b, e, p, q) hit =
    with_token (λ d h. ended_hits between part P S F mid whole meets xs d v u h hit) (one_first _ (AreEnded (IsToken between) P xs) b q)
  where
    H : (turns : ℕ) → List Token → Type 0
    H turns used = (f : QueryFault) × (is_at_token f ≡ true) × ((rest : List Token) → PartsRefused between part turns (used ++ (v ++ u ∷ rest)) f)

    cut : (m : Token) (d : List Token) → b ≡ m ∷ d → (tail : List Token) → used ++ tail ≡ a ++ m ∷ (d ++ tail)
    cut m d g tail = split used a b d tail m e g

    first : (m : Token) (d : List Token) → b ≡ m ∷ d → m.kind ≡ between → H (length xs) d → Meets part S a → H (suc (length xs)) used
    first m d g is (f, at, h) (inl (z, s)) = (
      f,
      at,
      λ rest.
          subst (λ l. PartsRefused between part (suc (length xs)) l f) (sym (cut m d g (v ++ u ∷ rest)))
          (later_refused between part (length xs) z (a ++ m ∷ (d ++ (v ++ u ∷ rest))) m (d ++ (v ++ u ∷ rest)) f
          (whole z a m (d ++ (v ++ u ∷ rest)) s (ends_by F m.kind between is mid)) is (h rest)),
    )
    first m d g is others (inr (f, at, h)) = (
      f,
      at,
      λ rest.
          subst (λ l. PartsRefused between part (suc (length xs)) l f) (sym (cut m d g (v ++ u ∷ rest)))
          (first_refused between part (suc (length xs)) (a ++ m ∷ (d ++ (v ++ u ∷ rest))) f (h m (d ++ (v ++ u ∷ rest)))),
    )

    with_token : ((d : List Token) → AreEnded (IsToken between) P xs d → H (length xs) d) → ((m : Token) × (d : List Token) × (b ≡ m ∷ d) × (m.kind ≡ between) × AreEnded (IsToken between) P xs d)
        → H (suc (length xs)) used
    with_token others (m, d, g, is, h) = first m d g is (others d h) (meets x a p)

-- there are no more ended parts than tokens, and one token follows
ended_turns : {A : Type 0} (between : TokenKind) (P : A → Phrase) (xs : List A) (used v : List Token) (u : Token) (rest : List Token) → AreEnded (IsToken between) P xs used
    → length xs < length (used ++ (v ++ u ∷ rest))
ended_turns between P [] used v u rest none = omega (arith, length-append used (v ++ u ∷ rest), length-append v (u ∷ rest))
ended_turns {A} between P (x ∷ xs) used v u rest (a, b, e, p, q) = go (λ d h. ended_turns between P xs d v u rest h) (one_first _ (AreEnded (IsToken between) P xs) b q)
  where
    go : ((d : List Token) → AreEnded (IsToken between) P xs d → length xs < length (d ++ (v ++ u ∷ rest)))
        → ((m : Token) × (d : List Token) × (b ≡ m ∷ d) × (m.kind ≡ between) × AreEnded (IsToken between) P xs d) → length (x ∷ xs) < length (used ++ (v ++ u ∷ rest))
    go others (m, d, g, is, h) = omega (arith, others d h, ap length (split used a b d (v ++ u ∷ rest) m e g), length-append a (m ∷ (d ++ (v ++ u ∷ rest))))

-- so is it by a chain of them: the parts in front leave turns enough
chain_hits : {A : Type 0} (between : TokenKind) (join : List (WrittenCond A) → WrittenCond A) (part : Reader (WrittenCond A)) (P S : WrittenCond A → Phrase) (F : TokenKind → Type 0)
    → F between → Complete part S F → ((x : WrittenCond A) (used : List Token) → P x used → Meets part S used)
    → (xs : List (WrittenCond A)) (used v : List Token) (u : Token) → AreEnded (IsToken between) P xs used → Hits part v u → Hits (chain between join part) (used ++ v) u
chain_hits between join part P S F mid whole meets [] used v u none (f, at, h) =
    (f, at, λ rest. ap (λ l. chain between join part ((l ++ v) ++ u ∷ rest)) none ∙ chain_refused between join part (v ++ u ∷ rest) f (h rest))
chain_hits {A} between join part P S F mid whole meets (x ∷ xs) used v u (a, b, e, p, q) hit = with_token (one_first _ (AreEnded (IsToken between) P xs) b q)
  where
    H : Type 0
    H = Hits (chain between join part) (used ++ v) u

    cut : (m : Token) (d : List Token) → b ≡ m ∷ d → (rest : List Token) → (used ++ v) ++ u ∷ rest ≡ a ++ m ∷ (d ++ (v ++ u ∷ rest))
    cut m d g rest = append_assoc used v (u ∷ rest) ∙ split used a b d (v ++ u ∷ rest) m e g

    first : (m : Token) (d : List Token) → b ≡ m ∷ d → m.kind ≡ between → AreEnded (IsToken between) P xs d → Meets part S a → H
    first m d g is ended (inl (z, s)) =
        let others = ended_hits between part P S F mid whole meets xs d v u ended hit in (
          others.0,
          others.1,
          λ rest.
              ap (chain between join part) (cut m d g rest)
              ∙ chain_later_refused between join part (length xs) z (a ++ m ∷ (d ++ (v ++ u ∷ rest))) m (d ++ (v ++ u ∷ rest)) others.0
              (whole z a m (d ++ (v ++ u ∷ rest)) s (ends_by F m.kind between is mid)) is (ended_turns between P xs d v u rest ended) (others.2 rest),
        )
    first m d g is ended (inr (f, at, h)) = (
      f,
      at,
      λ rest. ap (chain between join part) (cut m d g rest) ∙ chain_refused between join part (a ++ m ∷ (d ++ (v ++ u ∷ rest))) f (h m (d ++ (v ++ u ∷ rest))),
    )

    with_token : ((m : Token) × (d : List Token) × (b ≡ m ∷ d) × (m.kind ≡ between) × AreEnded (IsToken between) P xs d) → H
    with_token (m, d, g, is, h) = first m d g is h (meets x a p)

-- a fault behind parts of a condition
condition_hits : (n : ℕ) (used v : List Token) (u : Token) → AreParts used → Hits (negation n) v u → Hits (condition_of (negation n)) (used ++ v) u
unfolding same_kind
condition_hits n used v u (ors, ands, (a, b, e, p, q)) hit =
    let P : Condition → Phrase = IsAnyNegation in
    let S : Condition → Phrase = IsNegation n in
    let part : Reader Condition = negation n in
    let whole = negation_complete n in
    let meets = any_negation_meets n in
    let inner : Hits (conjunction part) (b ++ v) u = chain_hits k.And c.And part P S EndsPredicate ((refl, refl), refl) whole meets ands b v u q hit in
    let outer : Hits (condition_of part) (a ++ (b ++ v)) u =
    chain_hits k.Or c.Or (conjunction part) (IsConjunction P) (IsConjunction S) EndsConjunction (((refl, refl), refl), refl) (conjunction_complete part S whole) (conjunction_meets part P S whole meets) ors a (b ++ v) u p
    inner in
    subst (λ l. Hits (condition_of part) l u) (sym (ap (λ l. l ++ v) e ∙ append_assoc a b v)) outer

-- ---- fronts of a query

-- what is read from the second reference on
abbrev pub finish : Explain → Selection WrittenColumn → WrittenReference → Second → Reader SelectQuery
finish said listed first both = λ ts. and_then (where_condition ts) (λ condition rest. and_then (limited rest) (λ most tail.
    and_then (expect fault.Syntax k.End (after k.Semicolon tail))
    (λ _ last. Ok (record { explain = said; selection = listed; references = first ∷ both.0; on = both.1; condition = condition; limit = most }, last))))

-- a query up to its first reference, where each step of the reader reads its part: what is left is the second reference and the rest
query_steps : (said : Explain) (listed : Selection WrittenColumn) (first : WrittenReference) (ts ts0 ts1 ts2 ts3 ts4 : List Token)
    → explained ts ≡ Ok (said, ts0) → expect fault.Syntax k.Select ts0 ≡ Ok (tt, ts1) → selection ts1 ≡ Ok (listed, ts2) → expect fault.Syntax k.From ts2 ≡ Ok (tt, ts3)
    → reference ts3 ≡ Ok (first, ts4) → query ts ≡ and_then (second ts4) (finish said listed first)
unfolding query
query_steps said listed first ts ts0 ts1 ts2 ts3 ts4 e0 e1 e2 e3 e4 = rw (e0, e1, e2, e3, e4) refl

-- tokens up to the first table reference are read, before one that may follow it
abbrev pub Prefix : List Token → Type 0
Prefix a = (said : Explain) × (listed : Selection WrittenColumn) × (first : WrittenReference)
    × ((t : Token) (rest : List Token) → EndsReference t.kind → query (a ++ t ∷ rest) ≡ and_then (second (t ∷ rest)) (finish said listed first))

-- a front up to the first reference is read, since each part is read by the token that comes after it
prefix_read : (a : List Token) → BeforeSecond a → Prefix a
prefix_read a (said, listed, first, (x, b, e, p, q)) = (said, listed, first, with_select (one_first _ (IsSelection listed ▸ IsToken k.From ▸ IsReference first) b q))
  where
    R : Type 0
    R = (t : Token) (rest : List Token) → EndsReference t.kind → query (a ++ t ∷ rest) ≡ and_then (second (t ∷ rest)) (finish said listed first)

    with_from : (m : Token) (d y z : List Token) → b ≡ m ∷ d → m.kind ≡ k.Select → d ≡ y ++ z → IsSelection listed y
        → ((n : Token) × (w : List Token) × (z ≡ n ∷ w) × (n.kind ≡ k.From) × IsReference first w) → R
    with_from m d y z g select h l (n, w, i, from, r) = λ t rest f.
        let ts1 : d ++ t ∷ rest ≡ y ++ n ∷ (w ++ t ∷ rest) = split d y z w (t ∷ rest) n h i in
        let ts : a ++ t ∷ rest ≡ x ++ m ∷ (d ++ t ∷ rest) = split a x b d (t ∷ rest) m e g in
        query_steps said listed first (a ++ t ∷ rest) (m ∷ (d ++ t ∷ rest)) (d ++ t ∷ rest) (n ∷ (w ++ t ∷ rest)) (w ++ t ∷ rest) (t ∷ rest)
        (ap explained ts ∙ explained_complete said x m (d ++ t ∷ rest) p select)
        (expect_read k.Select m (d ++ t ∷ rest) select)
        (ap selection ts1 ∙ selection_complete listed y n (w ++ t ∷ rest) l (from_ends n.kind from))
        (expect_read k.From n (w ++ t ∷ rest) from)
        (reference_complete first w t rest r f)

    with_select : ((m : Token) × (d : List Token) × (b ≡ m ∷ d) × (m.kind ≡ k.Select) × (IsSelection listed ▸ IsToken k.From ▸ IsReference first) d) → R
    with_select (m, d, g, select, (y, z, h, l, r)) = with_from m d y z g select h l (one_first _ (IsReference first) z r)

-- the next token may follow the first table reference
prefix_at : (a ts : List Token) (p : Prefix a) → Begins EndsReference ts → query (a ++ ts) ≡ and_then (second ts) (finish p.0 p.1 p.2)
prefix_at a ts (said, listed, first, read) (t, more, e, f) =
    ap (λ l. query (a ++ l)) e ∙ read t more f ∙ ap (λ l. and_then (second l) (finish said listed first)) (sym e)

-- behind such a front, a fault in the second reference is what a query is refused for
second_refused : (a ts : List Token) (f : QueryFault) → Prefix a → Begins EndsReference ts → second ts ≡ Err f → query (a ++ ts) ≡ Err f
second_refused a ts f p begins h = prefix_at a ts p begins ∙ ap (λ r. and_then r (finish p.0 p.1 p.2)) h

-- what WHERE is refused for, the rest of the query is
finish_refused : (said : Explain) (listed : Selection WrittenColumn) (first : WrittenReference) (both : Second) (ts : List Token) (f : QueryFault)
    → where_condition ts ≡ Err f → finish said listed first both ts ≡ Err f
finish_refused said listed first both ts f e = rw e refl

-- so is one of LIMIT, once the condition of WHERE is read
limit_refused : (said : Explain) (listed : Selection WrittenColumn) (first : WrittenReference) (both : Second) (ts rest : List Token)
    (filter : Option Condition) (f : QueryFault) → where_condition ts ≡ Ok (filter, rest) → limited rest ≡ Err f → finish said listed first both ts ≡ Err f
limit_refused said listed first both ts rest filter f e g = rw (e, g) refl

-- a fault in the condition behind WHERE is what the rest of the query is refused for
filter_refused : (said : Explain) (listed : Selection WrittenColumn) (first : WrittenReference) (both : Second) (m : Token) (tail : List Token) (f : QueryFault)
    → m.kind ≡ k.Where → condition tail ≡ Err f → finish said listed first both (m ∷ tail) ≡ Err f
filter_refused said listed first both m tail f word h =
    finish_refused said listed first both (m ∷ tail) f (where_of_word m tail word ∙ ap (λ r. and_then r (λ x rest. Ok (Some x, rest))) h)

-- JOIN, a reference and ON, with INNER or not
abbrev pub IsOn : WrittenReference → Phrase
IsOn given = IsOptional k.Inner ▸ IsToken k.Join ▸ IsReference given ▸ IsToken k.On

-- a fault in the condition of ON is what JOIN is refused for, once what comes before the condition is read
on_steps : (given : WrittenReference) (ts ts1 ts2 ts3 : List Token) (f : QueryFault) → expect fault.Syntax k.Join ts ≡ Ok (tt, ts1) → reference ts1 ≡ Ok (given, ts2)
    → expect fault.Syntax k.On ts2 ≡ Ok (tt, ts3) → condition ts3 ≡ Err f → joined_on ts ≡ Err f
unfolding joined_on
on_steps given ts ts1 ts2 ts3 f e1 e2 e3 e4 = rw (e1, e2, e3, e4) refl

-- JOIN, a reference and ON are read, so a fault behind them is returned
on_refused : (given : WrittenReference) (used tail : List Token) (f : QueryFault) → (IsToken k.Join ▸ IsReference given ▸ IsToken k.On) used → condition tail ≡ Err f
    → joined_on (used ++ tail) ≡ Err f
on_refused given used tail f p h =
    let join = one_first _ (IsReference given ▸ IsToken k.On) used p in
    let on = one_last (IsReference given) _ join.1 join.4 in
    let cut : join.1 ++ tail ≡ on.0 ++ on.1 ∷ tail = ap (λ l. l ++ tail) on.2 ∙ append_assoc on.0 (on.1 ∷ []) tail in
    ap (λ l. joined_on (l ++ tail)) join.2
    ∙ on_steps given (join.0 ∷ (join.1 ++ tail)) (join.1 ++ tail) (on.1 ∷ tail) tail f (expect_read k.Join join.0 (join.1 ++ tail) join.3)
    (ap reference cut ∙ reference_complete given on.0 on.1 tail on.3 (on_ends on.1.kind on.4)) (expect_read k.On on.1 tail on.4) h

-- so is it by the second reference, with INNER or without
join_refused : (given : WrittenReference) (used tail : List Token) (f : QueryFault) → IsOn given used → condition tail ≡ Err f
    → second (used ++ tail) ≡ Err f
join_refused given used tail f (a, b, e, inl none, q) h =
    let join = one_first _ (IsReference given ▸ IsToken k.On) b q in
    ap (λ l. second (l ++ tail)) (e ∙ ap (λ l. l ++ b) none ∙ join.2) ∙ second_of_join join.0 (join.1 ++ tail) join.3
    ∙ ap (λ l. joined_on (l ++ tail)) (sym join.2) ∙ on_refused given b tail f q h
join_refused given used tail f (a, b, e, inr p, q) h =
    let inner = one_only _ a p in
    ap (λ l. second (l ++ tail)) (e ∙ ap (λ l. l ++ b) inner.1) ∙ second_of_inner inner.0 (b ++ tail) inner.2 ∙ on_refused given b tail f q h

begins_more : (F : TokenKind → Type 0) (a tail : List Token) → Begins F a → Begins F (a ++ tail)
begins_more F a tail (t, more, e, f) = (t, more ++ tail, ap (λ l. l ++ tail) e, f)

-- a second reference with a condition begins with INNER or JOIN, which may follow the first
on_begins : (given : WrittenReference) (used : List Token) → IsOn given used → Begins EndsReference used
unfolding same_kind
on_begins given used (a, b, e, inl none, q) =
    let join = one_first _ (IsReference given ▸ IsToken k.On) b q in
    (join.0, join.1, e ∙ ap (λ l. l ++ b) none ∙ join.2, ends_reference join.0.kind k.Join join.3 (refl, refl, refl))
on_begins given used (a, b, e, inr p, q) =
    let inner = one_only _ a p in
    (inner.0, b, e ∙ ap (λ l. l ++ b) inner.1, ends_reference inner.0.kind k.Inner inner.2 (refl, refl, refl))

-- one without begins with a comma or CROSS, which may too
crossed_begins : (given : WrittenReference) (used : List Token) → IsCrossed given used → Begins EndsReference used
unfolding same_kind
crossed_begins given used (inl p) =
    let comma = one_first _ (IsReference given) used p in
    (comma.0, comma.1, comma.2, ends_reference comma.0.kind k.Comma comma.3 (refl, refl, refl))
crossed_begins given used (inr p) =
    let cross = one_first _ (IsToken k.Join ▸ IsReference given) used p in
    (cross.0, cross.1, cross.2, ends_reference cross.0.kind k.Cross cross.3 (refl, refl, refl))

-- three lists of tokens in a row, and others
in_a_row : (before a b v tail : List Token) → before ≡ a ++ b → (before ++ v) ++ tail ≡ a ++ (b ++ (v ++ tail))
in_a_row before a b v tail e = append_assoc before v tail ∙ ap (λ l. l ++ (v ++ tail)) e ∙ append_assoc a b (v ++ tail)

-- a fault in the condition of ON is what the query is refused for, since all that comes before it is read
on_hits : (before v : List Token) (u : Token) → BeforeOn before → Hits condition v u → Hits query (before ++ v) u
on_hits before v u (given, (a, b, e, p, q)) (f, at, h) = (
  f,
  at,
  λ rest.
      ap query (in_a_row before a b v (u ∷ rest) e)
      ∙ second_refused a (b ++ (v ++ u ∷ rest)) f (prefix_read a p) (begins_more EndsReference b (v ++ u ∷ rest) (on_begins given b q))
      (join_refused given b (v ++ u ∷ rest) f q (h rest)),
)

-- ON with its condition
with_condition : (given : WrittenReference) (x : Condition) (used more : List Token) → IsOn given used → IsCondition x more
    → (IsOptional k.Inner ▸ IsToken k.Join ▸ IsReference given ▸ IsToken k.On ▸ IsCondition x) (used ++ more)
with_condition given x used more (i, v1, e1, inner, (j, v2, e2, join, (r, o, e3, reference, on))) cond = (
  i,
  v1 ++ more,
  ap (λ l. l ++ more) e1 ∙ append_assoc i v1 more,
  inner,
  (j, v2 ++ more, ap (λ l. l ++ more) e2 ∙ append_assoc j v2 more, join, (r, o ++ more, ap (λ l. l ++ more) e3 ∙ append_assoc r o more, reference, (o, more, refl, on, cond))),
)

-- the references are read, and what follows them is read next, or a fault in the condition of ON is returned
abbrev pub Through : List Token → Type 0
Through before =
    ((said : Explain) × (listed : Selection WrittenColumn) × (first : WrittenReference) × (both : Second)
    × ((m : Token) (tail : List Token) → EndsSecond m.kind → query (before ++ m ∷ tail) ≡ finish said listed first both (m ∷ tail)))
    ⊎ Stops query before

-- behind such a front, a second reference that is read leaves the condition of WHERE and the rest
through_second : (a ts : List Token) (both : Second) (rest : List Token) (p : Prefix a) → Begins EndsReference ts → second ts ≡ Ok (both, rest)
    → query (a ++ ts) ≡ finish p.0 p.1 p.2 both rest
through_second a ts both rest p begins e = prefix_at a ts p begins ∙ ap (λ r. and_then r (finish p.0 p.1 p.2)) e

-- a front up to the last reference is read, or refused for a fault at a token in the condition of ON
through_meets : (before : List Token) → ThroughFrom before → Through before
through_meets before (inl p) =
    let prefix = prefix_read before p in
    inl (prefix.0, prefix.1, prefix.2, ([], None), λ m tail ends. through_second before (m ∷ tail) ([], None) (m ∷ tail) prefix (m, tail, refl, ends.1) (second_of_none m tail ends))
through_meets before (inr (inl (given, (a, x, e, p, other)))) =
    let prefix = prefix_read a p in
    inl (
      prefix.0,
      prefix.1,
      prefix.2,
      (given ∷ [], None),
      λ m tail ends.
          ap query (ap (λ l. l ++ m ∷ tail) e ∙ append_assoc a x (m ∷ tail))
          ∙ through_second a (x ++ m ∷ tail) (given ∷ [], None) (m ∷ tail) prefix (begins_more EndsReference x (m ∷ tail) (crossed_begins given x other))
          (second_complete (given ∷ [], None) x m tail (inr (inl (given, refl, refl, other))) ends),
    )
through_meets before (inr (inr (on, (a, d, e, (given, (x, y, e2, p, j)), cond)))) =
    go (condition_of_meets (negation most_levels) IsAnyNegation (IsNegation most_levels) (negation_complete most_levels) (any_negation_meets most_levels) on d cond)
  where
    cut : (tail : List Token) → before ++ tail ≡ x ++ (y ++ (d ++ tail))
    cut tail = ap (λ l. l ++ tail) e ∙ append_assoc a d tail ∙ ap (λ l. l ++ (d ++ tail)) e2 ∙ append_assoc x y (d ++ tail)

    go : Meets condition IsCondition d → Through before
    go (inl (z, s)) =
        let prefix = prefix_read x p in
        inl (
          prefix.0,
          prefix.1,
          prefix.2,
          (given ∷ [], Some z),
          λ m tail ends.
              ap query (cut (m ∷ tail) ∙ ap (λ l. x ++ l) (sym (append_assoc y d (m ∷ tail))))
              ∙ through_second x ((y ++ d) ++ m ∷ tail) (given ∷ [], Some z) (m ∷ tail) prefix
              (begins_more EndsReference (y ++ d) (m ∷ tail) (begins_more EndsReference y d (on_begins given y j)))
              (second_complete (given ∷ [], Some z) (y ++ d) m tail (inr (inr (given, z, refl, refl, with_condition given z y d j s))) ends),
        )
    go (inr (f, at, h)) = inr (
      f,
      at,
      λ t rest.
          ap query (cut (t ∷ rest))
          ∙ second_refused x (y ++ (d ++ t ∷ rest)) f (prefix_read x p) (begins_more EndsReference y (d ++ t ∷ rest) (on_begins given y j))
          (join_refused given y (d ++ t ∷ rest) f j (h t rest)),
    )

-- a fault in the condition of WHERE is what the query is refused for, or one before it in the condition of ON
where_hits : (before v : List Token) (u : Token) → BeforeWhere before → Hits condition v u → Hits query (before ++ v) u
where_hits before v u (a, w, e, p, q) (f, at, h) = go (one_only _ w q) (through_meets a p)
  where
    go : ((m : Token) × (w ≡ m ∷ []) × (m.kind ≡ k.Where)) → Through a → Hits query (before ++ v) u
    go (m, is, word) (inl (said, listed, first, both, read)) = (
      f,
      at,
      λ rest.
          ap query (in_a_row before a w v (u ∷ rest) e ∙ ap (λ l. a ++ (l ++ (v ++ u ∷ rest))) is) ∙ read m (v ++ u ∷ rest) (where_ends m.kind word)
          ∙ filter_refused said listed first both m (v ++ u ∷ rest) f word (h rest),
    )
    go (m, is, word) (inr (g, at2, stops)) =
        (g, at2, λ rest. ap query (in_a_row before a w v (u ∷ rest) e ∙ ap (λ l. a ++ (l ++ (v ++ u ∷ rest))) is) ∙ stops m (v ++ u ∷ rest))

-- LIMIT's integer, where it is too big
count_big : (u : Token) (rest : List Token) → u.kind ≡ k.Integer → limit_value u.text ≡ None → limit_number (u ∷ rest) ≡ Err (fault.NumberTooBig u.at)
unfolding limit_number sees kind next place spelling
count_big u rest e none = rw (is_kind u.kind k.Integer e, none) refl

-- LIMIT with such an integer is refused as too big
limit_big : (m u : Token) (rest : List Token) → m.kind ≡ k.Limit → u.kind ≡ k.Integer → limit_value u.text ≡ None
    → limited (m ∷ u ∷ rest) ≡ Err (fault.NumberTooBig u.at)
limit_big m u rest word digits none = limit_of_word m (u ∷ rest) word ∙ count_big u rest digits none

-- LIMIT's integer that is too big is what the query is refused for, or a fault before it in the condition of ON or of WHERE
limit_hits : (before : List Token) (u : Token) → BeforeLimit before → u.kind ≡ k.Integer → limit_value u.text ≡ None → Hits query before u
limit_hits before u (a, b, e, p, (w, c, e2, filter, q)) digits none = go (one_only _ c q) filter (through_meets a p)
  where
    cut : (m : Token) → c ≡ m ∷ [] → (rest : List Token) → before ++ u ∷ rest ≡ a ++ (w ++ m ∷ u ∷ rest)
    cut m is rest = ap (λ l. l ++ u ∷ rest) (e ∙ ap (λ l. a ++ l) (e2 ∙ ap (λ l. w ++ l) is)) ∙ append_assoc a (w ++ m ∷ []) (u ∷ rest) ∙ ap (λ l. a ++ l) (append_assoc w (m ∷ []) (u ∷ rest))

    big : (m : Token) → m.kind ≡ k.Limit → (rest : List Token) → limited (m ∷ u ∷ rest) ≡ Err (fault.NumberTooBig u.at)
    big m word rest = limit_big m u rest word digits none

    -- behind WHERE and its condition
    filtered : (m n : Token) (d : List Token) → c ≡ m ∷ [] → m.kind ≡ k.Limit → w ≡ n ∷ d → n.kind ≡ k.Where
        → ((said : Explain) × (listed : Selection WrittenColumn) × (first : WrittenReference) × (both : Second)
        × ((t : Token) (tail : List Token) → EndsSecond t.kind → query (a ++ t ∷ tail) ≡ finish said listed first both (t ∷ tail)))
        → Meets condition IsCondition d → Hits query before u
    filtered m n d is word cut_where where_word (said, listed, first, both, read) (inl (z, s)) = (
      fault.NumberTooBig u.at,
      refl,
      λ rest.
          ap query (cut m is rest ∙ ap (λ l. a ++ (l ++ m ∷ u ∷ rest)) cut_where) ∙ read n (d ++ m ∷ u ∷ rest) (where_ends n.kind where_word)
          ∙ limit_refused said listed first both (n ∷ (d ++ m ∷ u ∷ rest)) (m ∷ u ∷ rest) (Some z) (fault.NumberTooBig u.at)
          (where_of_word n (d ++ m ∷ u ∷ rest) where_word ∙ ap (λ r. and_then r (λ x rest. Ok (Some x, rest))) (condition_complete z d m (u ∷ rest) s (limit_ends m.kind word).0.0))
          (big m word rest),
    )
    filtered m n d is word cut_where where_word (said, listed, first, both, read) (inr (f, at, h)) = (
      f,
      at,
      λ rest.
          ap query (cut m is rest ∙ ap (λ l. a ++ (l ++ m ∷ u ∷ rest)) cut_where) ∙ read n (d ++ m ∷ u ∷ rest) (where_ends n.kind where_word)
          ∙ filter_refused said listed first both n (d ++ m ∷ u ∷ rest) f where_word (h m (u ∷ rest)),
    )

    with_where : (m : Token) → c ≡ m ∷ [] → m.kind ≡ k.Limit → (x : Condition) → ((n : Token) × (d : List Token) × (w ≡ n ∷ d) × (n.kind ≡ k.Where) × IsAnyCondition x d)
        → Through a → Hits query before u
    with_where m is word x (n, d, cut_where, where_word, cond) (inl found) =
        filtered m n d is word cut_where where_word found
        (condition_of_meets (negation most_levels) IsAnyNegation (IsNegation most_levels) (negation_complete most_levels) (any_negation_meets most_levels) x d cond)
    with_where m is word x (n, d, cut_where, where_word, cond) (inr (f, at, stops)) =
        (f, at, λ rest. ap query (cut m is rest ∙ ap (λ l. a ++ (l ++ m ∷ u ∷ rest)) cut_where) ∙ stops n (d ++ m ∷ u ∷ rest))

    go : ((m : Token) × (c ≡ m ∷ []) × (m.kind ≡ k.Limit)) → IsAnyWhere w → Through a → Hits query before u
    go (m, is, word) (inl absent) (inl (said, listed, first, both, read)) = (
      fault.NumberTooBig u.at,
      refl,
      λ rest.
          ap query (cut m is rest ∙ ap (λ l. a ++ (l ++ m ∷ u ∷ rest)) absent) ∙ read m (u ∷ rest) (limit_ends m.kind word).1
          ∙ limit_refused said listed first both (m ∷ u ∷ rest) (m ∷ u ∷ rest) None (fault.NumberTooBig u.at) (where_of_none m (u ∷ rest) (limit_ends m.kind word).0.1) (big m word rest),
    )
    go (m, is, word) (inl absent) (inr (f, at, stops)) = (f, at, λ rest. ap query (cut m is rest ∙ ap (λ l. a ++ (l ++ m ∷ u ∷ rest)) absent) ∙ stops m (u ∷ rest))
    go (m, is, word) (inr (x, p)) through = with_where m is word x (one_first _ (IsAnyCondition x) w p) through

-- ---- fronts of a condition

-- a fault behind NOT is returned with one level less; with none left NOT itself is too deep
not_step : (opened : ℕ) (m : Token) (v : List Token) (u : Token) → m.kind ≡ k.Not → ((levels : ℕ) → suc opened + levels ≡ most_levels → Hits (negation levels) v u)
    → (levels : ℕ) → opened + levels ≡ most_levels → Hits (negation levels) (m ∷ v) u
not_step opened m v u is hit zero count = (fault.TooDeep m.at, refl, λ rest. too_deep_not m (v ++ u ∷ rest) is)
not_step opened m v u is hit (suc levels) count =
    let inner = hit levels (omega (arith, count)) in
    (inner.0, inner.1, λ rest. negation_not levels m (v ++ u ∷ rest) is ∙ ap (λ r. and_then r (λ y rest. Ok (c.Not y, rest))) (inner.2 rest))

-- a fault behind `(` and parts of its condition is returned with one level less; with none left `(` itself is too deep
group_step : (opened : ℕ) (m : Token) (d v : List Token) (u : Token) → m.kind ≡ k.LeftParenthesis → AreParts d
    → ((levels : ℕ) → suc opened + levels ≡ most_levels → Hits (negation levels) v u) → (levels : ℕ) → opened + levels ≡ most_levels → Hits (negation levels) (m ∷ (d ++ v)) u
group_step opened m d v u is parts hit zero count = (fault.TooDeep m.at, refl, λ rest. too_deep_left m ((d ++ v) ++ u ∷ rest) is)
group_step opened m d v u is parts hit (suc levels) count =
    let inner = condition_hits levels d v u parts (hit levels (omega (arith, count))) in
    (inner.0, inner.1, λ rest. negation_group levels m ((d ++ v) ++ u ∷ rest) is ∙ group_refused (negation levels) ((d ++ v) ++ u ∷ rest) inner.0 (inner.2 rest))

hits_at : {A : Type 0} (p : Reader A) (used more : List Token) (u : Token) → used ≡ more → Hits p used u → Hits p more u
hits_at p used more u e h = subst (λ l. Hits p l u) e h

-- By induction on the NOT and parentheses that are open before a fault: each hands on what is returned behind it, up to ON or WHERE,
-- and with these the whole query is refused
nested_hits : (opened : ℕ) (before v : List Token) (u : Token) → BeforeNegation opened before
    → ((levels : ℕ) → opened + levels ≡ most_levels → Hits (negation levels) v u) → Hits query (before ++ v) u
unfolding BeforeNegation
nested_hits zero before v u (inl (a, b, e, p, q)) hit =
    hits_at query (a ++ (b ++ v)) (before ++ v) u (sym (ap (λ l. l ++ v) e ∙ append_assoc a b v)) (on_hits a (b ++ v) u p (condition_hits most_levels b v u q (hit most_levels refl)))
nested_hits zero before v u (inr (a, b, e, p, q)) hit =
    hits_at query (a ++ (b ++ v)) (before ++ v) u (sym (ap (λ l. l ++ v) e ∙ append_assoc a b v)) (where_hits a (b ++ v) u p (condition_hits most_levels b v u q (hit most_levels refl)))
nested_hits (suc opened) before v u (inl (a, b, e, p, q)) hit =
    let word = one_only _ b q in
    hits_at query (a ++ word.0 ∷ v) (before ++ v) u (sym (ap (λ l. l ++ v) (e ∙ ap (λ l. a ++ l) word.1) ∙ append_assoc a (word.0 ∷ []) v))
    (nested_hits opened a (word.0 ∷ v) u p (not_step opened word.0 v u word.2 hit))
nested_hits (suc opened) before v u (inr (a, b, e, p, q)) hit =
    let left = one_first _ AreParts b q in
    hits_at query (a ++ left.0 ∷ (left.1 ++ v)) (before ++ v) u (sym (ap (λ l. l ++ v) (e ∙ ap (λ l. a ++ l) left.2) ∙ append_assoc a (left.0 ∷ left.1) v))
    (nested_hits opened a (left.0 ∷ (left.1 ++ v)) u p (group_step opened left.0 left.1 v u left.3 left.4 hit))

-- ---- operands that are too big

-- what comes next is no word, no NOT and no parenthesis
abbrev pub Unseen : List Token → Token → Type 0
Unseen v u = (rest : List Token) → (sees k.Word (v ++ u ∷ rest) ≡ false) × (sees k.Not (v ++ u ∷ rest) ≡ false) × (sees k.LeftParenthesis (v ++ u ∷ rest) ≡ false)

-- a fault of an operand is what a predicate that begins with it is refused for, whatever levels are left
left_hits : (levels : ℕ) (v : List Token) (u : Token) → Unseen v u → Hits operand v u → Hits (negation levels) v u
left_hits levels v u unseen (f, at, h) = (
  f,
  at,
  λ rest.
      negation_predicate levels (v ++ u ∷ rest) (unseen rest).1 (unseen rest).2 ∙ predicate_uncalled (v ++ u ∷ rest) (unseen rest).0
      ∙ left_refused (v ++ u ∷ rest) f (h rest),
)

-- a fault of a right side is what its comparison is refused for, or that the left side is too big
right_hits : (levels : ℕ) (left : ConditionOperand) (sign : Comparison) (x : List Token) (m : Token) (v : List Token) (u : Token) → IsAnyOperand left x
    → comparison_of m.kind ≡ Some sign → Hits operand v u → Hits (negation levels) (x ++ m ∷ v) u
right_hits levels left sign x m v u p compares hit = go p
  where
    N : Type 0
    N = Hits (negation levels) (x ++ m ∷ v) u

    bare : (rest : List Token) → negation levels ((x ++ m ∷ v) ++ u ∷ rest) ≡ predicate (x ++ m ∷ (v ++ u ∷ rest))
    bare rest =
        let unseen = not_seen x (m ∷ (v ++ u ∷ rest)) (any_operand_begins left x p) in
        ap (negation levels) (append_assoc x (m ∷ v) (u ∷ rest)) ∙ negation_predicate levels (x ++ m ∷ (v ++ u ∷ rest)) unseen.0 unseen.1

    strict : (l : ConditionOperand) → IsOperand l x → Hits operand v u → N
    strict l s (f, at, h) = (
      f,
      at,
      λ rest. bare rest ∙ no_predicate l x m (v ++ u ∷ rest) s (compares_ends m.kind sign compares).0 ∙ right_refused sign l x m (v ++ u ∷ rest) f s compares (h rest),
    )

    big : IsAnyInteger x → Meets operand IsOperand x → N
    big q (inl (l, s)) = strict l s hit
    big q (inr (f, at, h)) = (
      f,
      at,
      λ rest. bare rest ∙ predicate_uncalled (x ++ m ∷ (v ++ u ∷ rest)) (unworded x (m ∷ (v ++ u ∷ rest)) q) ∙ left_refused (x ++ m ∷ (v ++ u ∷ rest)) f (h m (v ++ u ∷ rest)),
    )

    go : IsAnyOperand left x → N
    go (inl s) = strict left s hit
    go (inr q) = big q (integer_meets x q)

-- so a fault of an operand, on either side and at any depth, has the query refused for it or for one before it
operand_hits : (before v : List Token) (u : Token) → BeforeOperand before → Unseen v u → Hits operand v u → Hits query (before ++ v) u
operand_hits before v u (opened, inl p) unseen hit = nested_hits opened before v u p (λ levels count. left_hits levels v u unseen hit)
operand_hits before v u (opened, inr (left, sign, (a, b, e, p, (x, y, e2, l, s)))) unseen hit =
    let m = one_only _ y s in
    hits_at query (a ++ (x ++ m.0 ∷ v)) (before ++ v) u
    (sym (ap (λ l. l ++ v) (e ∙ ap (λ l. a ++ l) (e2 ∙ ap (λ l. x ++ l) m.1)) ∙ append_assoc a (x ++ m.0 ∷ []) v ∙ ap (λ l. a ++ l) (append_assoc x (m.0 ∷ []) v)))
    (nested_hits opened a (x ++ m.0 ∷ v) u p (λ levels count. right_hits levels left sign x m.0 v u l m.2 hit))

-- before an integer of an operand the next token is no word, NOT or `(`, so neither a call nor nesting is read: digits alone
digits_unseen : (u : Token) → u.kind ≡ k.Integer → Unseen [] u
unfolding sees kind same_kind
digits_unseen u e rest = rw e (refl, refl, refl)

-- digits behind a plus
plus_unseen : (m u : Token) → m.kind ≡ k.Plus → Unseen (m ∷ []) u
unfolding sees kind same_kind
plus_unseen m u e rest = rw e (refl, refl, refl)

-- digits behind a minus
minus_unseen : (m u : Token) → m.kind ≡ k.Minus → Unseen (m ∷ []) u
unfolding sees kind same_kind
minus_unseen m u e rest = rw e (refl, refl, refl)

-- an operand's digits that are too big are refused: without a sign
digits_hit : (u : Token) → u.kind ≡ k.Integer → integer_value false u.text ≡ None → Hits operand [] u
unfolding kind
digits_hit u e none = (fault.NumberTooBig u.at, refl, λ rest. operand_of_digits (u ∷ rest) e ∙ integer_big WrittenGeometry false u rest e none)

-- behind a plus
plus_hit : (m u : Token) → m.kind ≡ k.Plus → u.kind ≡ k.Integer → integer_value false u.text ≡ None → Hits operand (m ∷ []) u
unfolding kind next
plus_hit m u plus e none = (fault.NumberTooBig u.at, refl, λ rest. operand_of_plus (m ∷ u ∷ rest) plus ∙ integer_big WrittenGeometry false u rest e none)

-- behind a minus, with which one number more is within 64 bits
minus_hit : (m u : Token) → m.kind ≡ k.Minus → u.kind ≡ k.Integer → integer_value true u.text ≡ None → Hits operand (m ∷ []) u
unfolding kind next
minus_hit m u minus e none = (fault.NumberTooBig u.at, refl, λ rest. operand_of_minus (m ∷ u ∷ rest) minus ∙ integer_big WrittenGeometry true u rest e none)

-- ---- each refusal

-- where as many NOT and parentheses are open as may be, no level is left, and one more is too deep
deep_hit : (u : Token) → (u.kind ≡ k.Not) ⊎ (u.kind ≡ k.LeftParenthesis) → (levels : ℕ) → most_levels + levels ≡ most_levels → Hits (negation levels) [] u
deep_hit u (inl e) zero count = (fault.TooDeep u.at, refl, λ rest. too_deep_not u rest e)
deep_hit u (inr e) zero count = (fault.TooDeep u.at, refl, λ rest. too_deep_left u rest e)
deep_hit u which (suc levels) count = absurd (omega (arith, count))

-- where a fault applies at a token, one is returned, whatever follows the token
applies_hits : (before : List Token) (u : Token) (g : QueryFault) → AppliesAt before u g → Hits query before u
applies_hits before u (fault.TooDeep at) (is, (which, p)) =
    hits_at query (before ++ []) before u (append-nil before) (nested_hits most_levels before [] u p (deep_hit u which))
applies_hits before u (fault.NumberTooBig at) (is, (digits, inl (big, p))) =
    hits_at query (before ++ []) before u (append-nil before) (operand_hits before [] u p (digits_unseen u digits) (digits_hit u digits big))
applies_hits before u (fault.NumberTooBig at) (is, (digits, inr (inl (big, (a, b, e, p, q))))) =
    let m = one_only _ b q in
    hits_at query (a ++ m.0 ∷ []) before u (sym (e ∙ ap (λ l. a ++ l) m.1)) (operand_hits a (m.0 ∷ []) u p (plus_unseen m.0 u m.2) (plus_hit m.0 u m.2 digits big))
applies_hits before u (fault.NumberTooBig at) (is, (digits, inr (inr (inr (big, p))))) = limit_hits before u p digits big
applies_hits before u (fault.NumberTooBig at) (is, (digits, inr (inr (inl (big, (a, b, e, p, q)))))) =
    let m = one_only _ b q in
    hits_at query (a ++ m.0 ∷ []) before u (sym (e ∙ ap (λ l. a ++ l) m.1)) (operand_hits a (m.0 ∷ []) u p (minus_unseen m.0 u m.2) (minus_hit m.0 u m.2 digits big))
applies_hits before u (fault.Lex at) h = absurd h
applies_hits before u (fault.Syntax at) h = absurd h
applies_hits before u (fault.UnknownTable at) h = absurd h
applies_hits before u (fault.SameName at) h = absurd h
applies_hits before u (fault.UnknownColumn at) h = absurd h
applies_hits before u (fault.AmbiguousColumn at) h = absurd h
applies_hits before u (fault.TypeMismatch at) h = absurd h
applies_hits before u (fault.BadGeometry at g) h = absurd h
applies_hits before u (fault.BadPattern at) h = absurd h
applies_hits before u fault.TooLong h = absurd h
applies_hits before u fault.OutOfMemory h = absurd h

-- ---- texts

-- a text that isn't too long and has no bad token is refused for what its tokens are refused for
fault_given : (text : List ℕ) (ts : List Token) (f : QueryFault) → length text ≤ most_bytes → bad_place (tokens true text) ≡ None → tokens true text ≡ ts → query ts ≡ Err f
    → query_of text ≡ Err f
unfolding query_of
fault_given text ts f short good e h = rw (le-ltb most_bytes (length text) short, good, e, h) refl

-- any answer is given as itself
given_itself : {A : Type 0} (r : Result A QueryFault) → Gives fault.OutOfMemory (λ x. x) r r
given_itself (Ok x) = refl
given_itself (Err f) = λ _. refl

-- where a fault applies at a token of a text, one that applies there or before is given
pub first_is_given : (text : List ℕ) (r : Result SelectQuery QueryFault) → Gives fault.OutOfMemory (λ q. q) r (query_of text) → ReturnsFirst text r
first_is_given text r given before after t g short good cut applies =
    let h = applies_hits before t g applies in (
      h.0,
      h.1,
      subst (λ answer. Faults answer (AppliesIn (before ++ t ∷ []))) (h.2 []) (query_faults (before ++ t ∷ [])) h.1,
      subst (λ answer. Gives fault.OutOfMemory (λ q. q) r answer) (fault_given text (before ++ t ∷ after) h.0 short good cut (h.2 after)) given,
    )

-- where a fault applies at a token of a text, one that applies there or before is read
pub first_is_read : (text : List ℕ) → ReturnsFirst text (query_of text)
first_is_read text = first_is_given text (query_of text) (given_itself (query_of text))
