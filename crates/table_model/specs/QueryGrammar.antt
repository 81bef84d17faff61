-- The grammar of queries: a relation for each rule, between a tree and the tokens that are written for it. SELECT over
-- one table or two, after the query expressions of 06-104r4, with its functions.
use Rattle.std.specs.Prelude.{◌≡◌, ◌≤◌, ◌⊎◌, ℕ, zero, suc, Bool, true, false, ℤ, List, [], ◌∷◌, length, Option, Some, None, Result, Ok, codes}
use Rattle.std.specs.Str.Parse.{digits_value}
use Rattle.geometry_model.specs.declared.relations.Predicate.{Predicate}
use Rattle.geometry_model.specs.declared.relations.Predicate.TheVariants as p
use Rattle.table_model.specs.declared.conditions.Comparison.{Comparison}
use Rattle.table_model.specs.declared.faults.QueryFault.{QueryFault}
use Rattle.table_model.specs.declared.faults.QueryFault.TheVariants as fault
use Rattle.table_model.specs.declared.queries.Explain.{Explain}
use Rattle.table_model.specs.declared.queries.Explain.TheVariants as explain
use Rattle.table_model.specs.declared.queries.Name.{Name}
use Rattle.table_model.specs.declared.queries.Selection.{Selection}
use Rattle.table_model.specs.declared.queries.Selection.TheVariants as l
use Rattle.table_model.specs.declared.queries.WrittenColumn.{WrittenColumn}
use Rattle.table_model.specs.declared.queries.WrittenCond.{WrittenCond}
use Rattle.table_model.specs.declared.queries.WrittenCond.TheVariants as c
use Rattle.table_model.specs.declared.queries.WrittenGeometry.{WrittenGeometry}
use Rattle.table_model.specs.declared.queries.WrittenGeometry.TheVariants as g
use Rattle.table_model.specs.declared.queries.WrittenItem.TheVariants as i
use Rattle.table_model.specs.declared.queries.WrittenOperand.TheVariants as o
use Rattle.table_model.specs.declared.queries.WrittenPredicate.TheVariants as w
use Rattle.table_model.specs.declared.queries.WrittenReference.{WrittenReference}
use Rattle.table_model.specs.declared.tokens.TokenKind.{TokenKind}
use Rattle.table_model.specs.declared.tokens.TokenKind.TheVariants as k
use Rattle.table_model.specs.Outcomes.{Gives}
use Rattle.table_model.specs.Parsers.{place}
use Rattle.table_model.specs.Phrases.{Phrase, IsOne, IsToken, ◌▸◌, IsOptional, IsParts, IsWord}
use Rattle.table_model.specs.QueryReading.{integer_value, limit_value, comparison_of, most_levels, bad_place}
use Rattle.table_model.specs.Queries.{Condition, ConditionOperand, SelectItem, SelectQuery}
use Rattle.table_model.specs.Tokens.{tokens, most_bytes}

-- ---- names, columns and operands

-- a name is a word that isn't reserved
abbrev pub IsName : Name → Phrase
IsName name = IsOne (λ t. (t.kind ≡ k.Word) × (name ≡ record { text = t.text; at = t.at }))

-- col = name ('.' name)?
abbrev pub IsColumn : WrittenColumn → Phrase
IsColumn column ts =
    ((name : Name) × (column ≡ record { reference = None; name = name }) × IsName name ts)
    ⊎ ((reference name : Name) × (column ≡ record { reference = Some reference; name = name }) × (IsName reference ▸ IsToken k.Point ▸ IsName name) ts)

-- digits whose number, negated or not, has 64 bits with its sign
abbrev pub IsDigits : Bool → ℤ → Phrase
IsDigits negative n = IsOne (λ t. (t.kind ≡ k.Integer) × (integer_value negative t.text ≡ Some n))

-- ('+' | '-')? integer
abbrev pub IsInteger : ℤ → Phrase
IsInteger n ts = IsDigits false n ts ⊎ (IsToken k.Plus ▸ IsDigits false n) ts ⊎ (IsToken k.Minus ▸ IsDigits true n) ts

-- a string's text is what is between its quotes
abbrev pub IsString : Name → Phrase
IsString text = IsOne (λ t. (t.kind ≡ k.Text) × (text ≡ record { text = t.text; at = t.at }))

-- ---- functions

-- a call of a function: its name, and the phrase in parentheses
abbrev pub IsCall : List ℕ → Phrase → Phrase
IsCall function P = IsWord function ▸ IsToken k.LeftParenthesis ▸ P ▸ IsToken k.RightParenthesis

-- geom = col | 'ST_GeomFromText' '(' string ')'
abbrev pub IsGeometry : WrittenGeometry → Phrase
IsGeometry geometry ts =
    ((column : WrittenColumn) × (geometry ≡ g.Column column) × IsColumn column ts)
    ⊎ ((text : Name) × (geometry ≡ g.FromText text) × IsCall (codes "ST_GeomFromText") (IsString text) ts)

-- 'ST_AsText' '(' geom ')' | 'ST_Dimension' '(' geom ')'
abbrev pub IsOperandFunction : ConditionOperand → Phrase
IsOperandFunction operand ts =
    ((geometry : WrittenGeometry) × (operand ≡ o.AsText (place ts) geometry) × IsCall (codes "ST_AsText") (IsGeometry geometry) ts)
    ⊎ ((geometry : WrittenGeometry) × (operand ≡ o.Dimension (place ts) geometry) × IsCall (codes "ST_Dimension") (IsGeometry geometry) ts)

-- operand = col | ('+' | '-')? integer | string | 'NULL' | 'ST_AsText' '(' geom ')' | 'ST_Dimension' '(' geom ')'
abbrev pub IsOperand : ConditionOperand → Phrase
IsOperand operand ts =
    ((column : WrittenColumn) × (operand ≡ o.Column column) × IsColumn column ts)
    ⊎ ((n : ℤ) × (operand ≡ o.Integer n) × IsInteger n ts)
    ⊎ ((text : Name) × (operand ≡ o.Text text) × IsString text ts)
    ⊎ ((operand ≡ o.Null) × IsToken k.Null ts)
    ⊎ IsOperandFunction operand ts

-- ---- predicates

-- cmp = '=' | '<>' | '!=' | '<' | '<=' | '>' | '>='
abbrev pub IsComparison : Comparison → Phrase
IsComparison comparison = IsOne (λ t. comparison_of t.kind ≡ Some comparison)

-- the name of a predicate of two geometries as a function (06-103r4, 6.1.15.3; the names: this project's choice)
abbrev pub function_of : Predicate → Option (List ℕ)
function_of p.Equals = Some (codes "ST_Equals")
function_of p.Disjoint = Some (codes "ST_Disjoint")
function_of p.Intersects = Some (codes "ST_Intersects")
function_of p.Touches = Some (codes "ST_Touches")
function_of p.Crosses = Some (codes "ST_Crosses")
function_of p.Within = Some (codes "ST_Within")
function_of p.Contains = Some (codes "ST_Contains")
function_of p.Overlaps = Some (codes "ST_Overlaps")
function_of (p.Relate pattern) = None

-- geom ',' geom
abbrev pub IsPair : WrittenGeometry → WrittenGeometry → Phrase
IsPair a b = IsGeometry a ▸ IsToken k.Comma ▸ IsGeometry b

-- bool = rel '(' geom ',' geom ')' | 'ST_Relate' '(' geom ',' geom ',' string ')' | 'ST_IsEmpty' '(' geom ')'
-- (06-103r4, 6.1.15.3, 6.1.15.2 and 6.1.2.2)
abbrev pub IsBool : Condition → Phrase
IsBool x ts =
    ((predicate : Predicate) × (function : List ℕ) × (a b : WrittenGeometry) × (function_of predicate ≡ Some function)
    × (x ≡ c.Relates (place ts) (w.Named predicate) a b) × IsCall function (IsPair a b) ts)
    ⊎ ((a b : WrittenGeometry) × (pattern : Name) × (x ≡ c.Relates (place ts) (w.Relate pattern) a b)
    × IsCall (codes "ST_Relate") (IsGeometry a ▸ IsToken k.Comma ▸ IsGeometry b ▸ IsToken k.Comma ▸ IsString pattern) ts)
    ⊎ ((a : WrittenGeometry) × (x ≡ c.IsEmpty (place ts) a) × IsCall (codes "ST_IsEmpty") (IsGeometry a) ts)

-- an integer without a sign, whose value is n
abbrev pub IsNumber : ℕ → Phrase
IsNumber n = IsOne (λ t. (t.kind ≡ k.Integer) × (digits_value 10 t.text ≡ n))

-- ('=' ('1' | '0'))? after a bool: `= 1` means it, `= 0` its NOT
abbrev pub IsTest : {A : Type 0} → WrittenCond A → WrittenCond A → Phrase
IsTest bool x ts =
    ((x ≡ bool) × (ts ≡ []))
    ⊎ ((x ≡ bool) × (IsToken k.Equal ▸ IsNumber 1) ts)
    ⊎ ((x ≡ c.Not bool) × (IsToken k.Equal ▸ IsNumber 0) ts)

-- pred = operand cmp operand | operand 'IS' 'NOT'? 'NULL' | bool ('=' ('1' | '0'))?, for a rule of operands
abbrev pub IsPredicateOf : (ConditionOperand → Phrase) → Condition → Phrase
IsPredicateOf P x ts =
    ((comparison : Comparison) × (left right : ConditionOperand) × (x ≡ c.Compare (place ts) comparison left right)
    × (P left ▸ IsComparison comparison ▸ P right) ts)
    ⊎ ((operand : ConditionOperand) × (x ≡ c.IsNull operand) × (P operand ▸ IsToken k.Is ▸ IsToken k.Null) ts)
    ⊎ ((operand : ConditionOperand) × (x ≡ c.Not (c.IsNull operand)) × (P operand ▸ IsToken k.Is ▸ IsToken k.Not ▸ IsToken k.Null) ts)
    ⊎ ((bool : Condition) × (IsBool bool ▸ IsTest bool x) ts)

-- pred, for the rule of operands above
abbrev pub IsPredicate : Condition → Phrase
IsPredicate = IsPredicateOf IsOperand

-- ---- conditions

-- one part alone, or two and more with a word between them
abbrev pub IsChain : {A : Type 0} → TokenKind → (List (WrittenCond A) → WrittenCond A) → (WrittenCond A → Phrase) → WrittenCond A → Phrase
IsChain {A} between join P x ts =
    P x ts ⊎ ((first second : WrittenCond A) × (more : List (WrittenCond A)) × (x ≡ join (first ∷ second ∷ more)) × IsParts between P first (second ∷ more) ts)

-- conj = neg ('AND' neg)*
abbrev pub IsConjunction : {A : Type 0} → (WrittenCond A → Phrase) → WrittenCond A → Phrase
IsConjunction = IsChain k.And c.And

-- cond = conj ('OR' conj)*
abbrev pub IsConditionOf : {A : Type 0} → (WrittenCond A → Phrase) → WrittenCond A → Phrase
IsConditionOf P = IsChain k.Or c.Or (IsConjunction P)

-- neg = 'NOT' neg | '(' cond ')' | pred, with this many levels of NOT and parentheses at most, for a rule of predicates
unfoldable pub IsNegationOf : {A : Type 0} → (WrittenCond A → Phrase) → ℕ → WrittenCond A → Phrase
IsNegationOf P zero x ts = P x ts
IsNegationOf {A} P (suc levels) x ts =
    ((y : WrittenCond A) × (x ≡ c.Not y) × (IsToken k.Not ▸ IsNegationOf P levels y) ts)
    ⊎ (IsToken k.LeftParenthesis ▸ IsConditionOf (IsNegationOf P levels) x ▸ IsToken k.RightParenthesis) ts
    ⊎ P x ts

-- neg, for the rule of predicates above
abbrev pub IsNegation : ℕ → Condition → Phrase
IsNegation = IsNegationOf IsPredicate

-- a condition in which NOT and parentheses nest to 64 levels at most
abbrev pub IsCondition : Condition → Phrase
IsCondition = IsConditionOf (IsNegation most_levels)

-- ---- the select list

-- 'ST_AsText' '(' col ')' | 'ST_Dimension' '(' col ')' | 'ST_IsEmpty' '(' col ')'
abbrev pub IsItemFunction : SelectItem → Phrase
IsItemFunction item ts =
    ((column : WrittenColumn) × (item ≡ i.AsText (place ts) column) × IsCall (codes "ST_AsText") (IsColumn column) ts)
    ⊎ ((column : WrittenColumn) × (item ≡ i.Dimension (place ts) column) × IsCall (codes "ST_Dimension") (IsColumn column) ts)
    ⊎ ((column : WrittenColumn) × (item ≡ i.IsEmpty (place ts) column) × IsCall (codes "ST_IsEmpty") (IsColumn column) ts)

-- item = col | 'ST_AsText' '(' col ')' | 'ST_Dimension' '(' col ')' | 'ST_IsEmpty' '(' col ')'
abbrev pub IsItem : SelectItem → Phrase
IsItem item ts =
    ((column : WrittenColumn) × (item ≡ i.Column column) × IsColumn column ts)
    ⊎ IsItemFunction item ts

-- items = '*' | item (',' item)* | 'COUNT' '(' '*' ')', which is alone (SQL, the select list)
abbrev pub IsSelection : Selection WrittenColumn → Phrase
IsSelection selection ts =
    ((selection ≡ l.All) × IsToken k.Star ts)
    ⊎ ((first : SelectItem) × (more : List SelectItem) × (selection ≡ l.Items (first ∷ more)) × IsParts k.Comma IsItem first more ts)
    ⊎ ((selection ≡ l.Count) × IsCall (codes "COUNT") (IsToken k.Star) ts)

-- ---- table references

-- ref = name ('AS'? name)?
abbrev pub IsReference : WrittenReference → Phrase
IsReference reference ts =
    ((table : Name) × (reference ≡ record { table = table; alias = None }) × IsName table ts)
    ⊎ ((table alias : Name) × (reference ≡ record { table = table; alias = Some alias }) × (IsName table ▸ IsName alias) ts)
    ⊎ ((table alias : Name) × (reference ≡ record { table = table; alias = Some alias }) × (IsName table ▸ IsToken k.As ▸ IsName alias) ts)

-- ',' ref | 'CROSS' 'JOIN' ref, a second reference without a condition
abbrev pub IsCrossed : WrittenReference → Phrase
IsCrossed reference ts = (IsToken k.Comma ▸ IsReference reference) ts ⊎ (IsToken k.Cross ▸ IsToken k.Join ▸ IsReference reference) ts

-- 'INNER'? 'JOIN' ref 'ON' cond
abbrev pub IsJoined : WrittenReference → Condition → Phrase
IsJoined reference on = IsOptional k.Inner ▸ IsToken k.Join ▸ IsReference reference ▸ IsToken k.On ▸ IsCondition on

-- second? where second = ',' ref | 'CROSS' 'JOIN' ref | 'INNER'? 'JOIN' ref 'ON' cond: the references after the first
abbrev pub IsSecond : List WrittenReference → Option Condition → Phrase
IsSecond more on ts =
    ((more ≡ []) × (on ≡ None) × (ts ≡ []))
    ⊎ ((reference : WrittenReference) × (more ≡ reference ∷ []) × (on ≡ None) × IsCrossed reference ts)
    ⊎ ((reference : WrittenReference) × (x : Condition) × (more ≡ reference ∷ []) × (on ≡ Some x) × IsJoined reference x ts)

-- ref second?: one reference or two, and the condition of ON
abbrev pub IsReferences : List WrittenReference → Option Condition → Phrase
IsReferences references on ts =
    (first : WrittenReference) × (more : List WrittenReference) × (references ≡ first ∷ more) × (IsReference first ▸ IsSecond more on) ts

-- ---- queries

-- ('WHERE' cond)?
abbrev pub IsWhere : Option Condition → Phrase
IsWhere condition ts =
    ((condition ≡ None) × (ts ≡ []))
    ⊎ ((x : Condition) × (condition ≡ Some x) × (IsToken k.Where ▸ IsCondition x) ts)

-- an integer without a sign, at most the greatest number of 64 bits with a sign
abbrev pub IsRowCount : ℕ → Phrase
IsRowCount n = IsOne (λ t. (t.kind ≡ k.Integer) × (limit_value t.text ≡ Some n))

-- ('LIMIT' integer)?
abbrev pub IsLimit : Option ℕ → Phrase
IsLimit limit ts =
    ((limit ≡ None) × (ts ≡ []))
    ⊎ ((n : ℕ) × (limit ≡ Some n) × (IsToken k.Limit ▸ IsRowCount n) ts)

-- ('EXPLAIN' 'ANALYZE'?)?; neither word is reserved
abbrev pub IsExplain : Explain → Phrase
IsExplain said ts =
    ((said ≡ explain.No) × (ts ≡ []))
    ⊎ ((said ≡ explain.Plan) × IsWord (codes "EXPLAIN") ts)
    ⊎ ((said ≡ explain.Analyze) × (IsWord (codes "EXPLAIN") ▸ IsWord (codes "ANALYZE")) ts)

-- query = ('EXPLAIN' 'ANALYZE'?)? 'SELECT' items 'FROM' ref second? ('WHERE' cond)? ('LIMIT' integer)? ';'?, and then
-- the text ends (SQL, the query)
abbrev pub IsSelect : SelectQuery → Phrase
IsSelect query =
    IsExplain query.explain ▸ IsToken k.Select ▸ IsSelection query.selection ▸ IsToken k.From
    ▸ IsReferences query.references query.on ▸ IsWhere query.condition
    ▸ IsLimit query.limit ▸ IsOptional k.Semicolon ▸ IsToken k.End

-- A text is a query: it isn't too long, it is made of tokens, and these are written for the tree.
unfoldable pub IsQuery : List ℕ → SelectQuery → Type 0
IsQuery text query = (length text ≤ most_bytes) × (bad_place (tokens true text) ≡ None) × IsSelect query (tokens true text)

-- if the text is a query, a reader returns its tree, or memory ran out
abbrev pub ReturnsQuery : List ℕ → Result SelectQuery QueryFault → Type 0
ReturnsQuery text result = (query : SelectQuery) → IsQuery text query → Gives fault.OutOfMemory (λ q. q) result (Ok query)
