-- At which tokens a query is refused, said without a reader. Two rules are left out of the grammar: those on the size of
-- integers and on how deep conditions nest. A token is refused if the tokens up to it begin a text of this grammar and the
-- token breaks one of the two rules.
use Rattle.std.specs.Prelude.{◌≡◌, ◌≤◌, ◌⊎◌, ℕ, zero, suc, Bool, true, false, List, [], ◌∷◌, ◌++◌, length, None, Result, Err}
use Rattle.table_model.specs.Outcomes.{Gives}
use Rattle.table_model.specs.QueryGrammar.{IsOperand, IsComparison, IsPredicateOf, IsConjunction, IsConditionOf, IsNegationOf, IsSelection, IsReference, IsCrossed, IsExplain}
use Rattle.table_model.specs.QueryReading.{bad_place, integer_value, limit_value, most_levels}
use Rattle.table_model.specs.Queries.{Condition, ConditionOperand, SelectQuery}
use Rattle.table_model.specs.Tokens.{tokens, most_bytes}
use Rattle.table_model.specs.declared.conditions.Comparison.{Comparison}
use Rattle.table_model.specs.declared.faults.QueryFault.{QueryFault}
use Rattle.table_model.specs.declared.faults.QueryFault.TheVariants as fault
use Rattle.table_model.specs.declared.queries.Explain.{Explain}
use Rattle.table_model.specs.declared.queries.Selection.{Selection}
use Rattle.table_model.specs.declared.queries.WrittenColumn.{WrittenColumn}
use Rattle.table_model.specs.declared.queries.WrittenReference.{WrittenReference}
use Rattle.table_model.specs.declared.tokens.Token.{Token}
use Rattle.table_model.specs.declared.tokens.TokenKind.TheVariants as k
use Rattle.table_model.specs.Phrases.{Phrase, IsToken, ◌▸◌, IsOptional, AreEnded}

-- ---- the grammar without those rules

-- ('+' | '-')? integer, of any size
abbrev pub IsAnyInteger : Phrase
IsAnyInteger ts = IsToken k.Integer ts ⊎ (IsToken k.Plus ▸ IsToken k.Integer) ts ⊎ (IsToken k.Minus ▸ IsToken k.Integer) ts

-- an operand, or an integer of any size in its place
abbrev pub IsAnyOperand : ConditionOperand → Phrase
IsAnyOperand operand ts = IsOperand operand ts ⊎ IsAnyInteger ts

-- neg, of such operands, where NOT and parentheses nest to any number of levels
abbrev pub IsAnyNegation : Condition → Phrase
IsAnyNegation x ts = (levels : ℕ) × IsNegationOf (IsPredicateOf IsAnyOperand) levels x ts

-- cond, of such parts
abbrev pub IsAnyCondition : Condition → Phrase
IsAnyCondition = IsConditionOf IsAnyNegation

-- ---- what can come before a token

-- what comes up to the first table reference
abbrev pub BeforeSecond : Phrase
BeforeSecond ts =
    (said : Explain) × (selection : Selection WrittenColumn) × (first : WrittenReference)
    × (IsExplain said ▸ IsToken k.Select ▸ IsSelection selection ▸ IsToken k.From ▸ IsReference first) ts

-- what comes before the condition of ON
abbrev pub BeforeOn : Phrase
BeforeOn ts = (second : WrittenReference) × (BeforeSecond ▸ IsOptional k.Inner ▸ IsToken k.Join ▸ IsReference second ▸ IsToken k.On) ts

-- what comes up to the last table reference and its condition
abbrev pub ThroughFrom : Phrase
ThroughFrom ts =
    BeforeSecond ts
    ⊎ ((second : WrittenReference) × (BeforeSecond ▸ IsCrossed second) ts)
    ⊎ ((on : Condition) × (BeforeOn ▸ IsAnyCondition on) ts)

-- what comes before the condition of WHERE
abbrev pub BeforeWhere : Phrase
BeforeWhere = ThroughFrom ▸ IsToken k.Where

-- ('WHERE' cond)?, of such parts
abbrev pub IsAnyWhere : Phrase
IsAnyWhere ts = (ts ≡ []) ⊎ ((condition : Condition) × (IsToken k.Where ▸ IsAnyCondition condition) ts)

-- what comes before the integer of LIMIT
abbrev pub BeforeLimit : Phrase
BeforeLimit = ThroughFrom ▸ IsAnyWhere ▸ IsToken k.Limit

-- the parts of a condition that come before one more: (conj 'OR')* (neg 'AND')*
abbrev pub AreParts : Phrase
AreParts ts =
    (ors ands : List Condition)
    × (AreEnded (IsToken k.Or) (IsConjunction IsAnyNegation) ors ▸ AreEnded (IsToken k.And) IsAnyNegation ands) ts

-- what comes before a neg inside this many NOT and parentheses
unfoldable pub BeforeNegation : ℕ → Phrase
BeforeNegation zero ts = ((BeforeOn ▸ AreParts) ts) ⊎ ((BeforeWhere ▸ AreParts) ts)
BeforeNegation (suc opened) ts =
    (BeforeNegation opened ▸ IsToken k.Not) ts ⊎ (BeforeNegation opened ▸ IsToken k.LeftParenthesis ▸ AreParts) ts

-- what comes before an operand: before a predicate, or between a comparison's left side and its right
abbrev pub BeforeOperand : Phrase
BeforeOperand ts =
    (opened : ℕ)
    × (BeforeNegation opened ts
    ⊎ ((left : ConditionOperand) × (comparison : Comparison) × (BeforeNegation opened ▸ IsAnyOperand left ▸ IsComparison comparison) ts))

-- ---- the refusals

-- too deep: the NOT or the parenthesis that opens the 65th level
abbrev pub IsTooDeep : List Token → Token → Type 0
IsTooDeep before t = ((t.kind ≡ k.Not) ⊎ (t.kind ≡ k.LeftParenthesis)) × BeforeNegation most_levels before

-- too big: the digits of an integer, of an operand or of LIMIT, that doesn't fit in 64 bits with its sign
abbrev pub IsTooBig : List Token → Token → Type 0
IsTooBig before t =
    (t.kind ≡ k.Integer)
    × (((integer_value false t.text ≡ None) × BeforeOperand before)
    ⊎ ((integer_value false t.text ≡ None) × (BeforeOperand ▸ IsToken k.Plus) before)
    ⊎ ((integer_value true t.text ≡ None) × (BeforeOperand ▸ IsToken k.Minus) before)
    ⊎ ((limit_value t.text ≡ None) × BeforeLimit before))

-- a fault applies at a token, which comes after these tokens; all other faults aren't of this sort
abbrev pub AppliesAt : List Token → Token → QueryFault → Type 0
AppliesAt before t (fault.TooDeep at) = (at ≡ t.at) × IsTooDeep before t
AppliesAt before t (fault.NumberTooBig at) = (at ≡ t.at) × IsTooBig before t
AppliesAt before t _ = ⊥

-- a fault applies at one of these tokens
abbrev pub AppliesIn : List Token → QueryFault → Type 0
AppliesIn ts f = (before after : List Token) × (t : Token) × (ts ≡ before ++ t ∷ after) × AppliesAt before t f

-- whether a fault is one of those at a token: too deep, too big
abbrev pub is_at_token : QueryFault → Bool
is_at_token (fault.TooDeep at) = true
is_at_token (fault.NumberTooBig at) = true
is_at_token _ = false

-- if the fault is of the sort that applies at a token, it does so in the text, which isn't too long and is made of tokens
abbrev pub AppliesInQuery : List ℕ → QueryFault → Type 0
AppliesInQuery text f =
    is_at_token f ≡ true → (length text ≤ most_bytes) × (bad_place (tokens true text) ≡ None) × AppliesIn (tokens true text) f

-- Where such faults apply at tokens of a text that isn't too long and is made of tokens, a reader returns one at the first
-- of these tokens, or memory ran out.
abbrev pub ReturnsFirst : List ℕ → Result SelectQuery QueryFault → Type 0
ReturnsFirst text result = (before after : List Token) (t : Token) (g : QueryFault)
    → length text ≤ most_bytes → bad_place (tokens true text) ≡ None → tokens true text ≡ before ++ t ∷ after → AppliesAt before t g
    → (f : QueryFault) × (is_at_token f ≡ true) × AppliesIn (before ++ t ∷ []) f × Gives fault.OutOfMemory (λ q. q) result (Err f)
