-- Reading of a query: the tree of a text, or the first fault from left to right. SELECT over one table or two, after
-- the query expressions of 06-104r4, with its functions.
use Rattle.std.specs.Prelude.{ℕ, zero, suc, ◌^◌, Bool, true, false, not, ◌&&◌, ◌||◌, if◌then◌else◌, ◌==◌, nat_le, nat_lt, ℤ, pos, neg_ℤ, List, [], ◌∷◌, length, Option, Some, None, Result, Ok, Err, codes}
use Rattle.std.specs.Str.Parse.{digits_value}
use Rattle.geometry_model.specs.declared.relations.Predicate.{Predicate}
use Rattle.geometry_model.specs.declared.relations.Predicate.TheVariants as p
use Rattle.table_model.specs.declared.conditions.Comparison.{Comparison}
use Rattle.table_model.specs.declared.conditions.Comparison.TheVariants as m
use Rattle.table_model.specs.declared.faults.QueryFault.{QueryFault}
use Rattle.table_model.specs.declared.faults.QueryFault.TheVariants as fault
use Rattle.table_model.specs.declared.queries.Explain.{Explain}
use Rattle.table_model.specs.declared.queries.Explain.TheVariants as explain
use Rattle.table_model.specs.declared.queries.Name.{Name}
use Rattle.table_model.specs.declared.queries.Selection.{Selection}
use Rattle.table_model.specs.declared.queries.Selection.TheVariants as l
use Rattle.table_model.specs.declared.queries.WrittenColumn.{WrittenColumn}
use Rattle.table_model.specs.declared.queries.WrittenCond.{WrittenCond}
use Rattle.table_model.specs.declared.queries.WrittenCond.TheVariants as c
use Rattle.table_model.specs.declared.queries.WrittenGeometry.{WrittenGeometry}
use Rattle.table_model.specs.declared.queries.WrittenGeometry.TheVariants as g
use Rattle.table_model.specs.declared.queries.WrittenItem.TheVariants as i
use Rattle.table_model.specs.declared.queries.WrittenOperand.{WrittenOperand}
use Rattle.table_model.specs.declared.queries.WrittenOperand.TheVariants as o
use Rattle.table_model.specs.declared.queries.WrittenPredicate.TheVariants as w
use Rattle.table_model.specs.declared.queries.WrittenReference.{WrittenReference}
use Rattle.table_model.specs.declared.tokens.Token.{Token}
use Rattle.table_model.specs.declared.tokens.TokenKind.{TokenKind}
use Rattle.table_model.specs.declared.tokens.TokenKind.TheVariants as k
use Rattle.table_model.specs.Parsers.{Outcome, Parser, kind, place, spelling, next, written, sees, after, ◌>>=◌, ◌>>◌, ◌<$>◌, pure, refuse, eat, expect, parts, value_of}
use Rattle.table_model.specs.Queries.{Condition, ConditionOperand, SelectItem, SelectQuery}
use Rattle.table_model.specs.Texts.{same_name}
use Rattle.table_model.specs.Tokens.{same_kind, tokens, most_bytes}

-- a reader of a part of a query
abbrev pub Reader : Type 0 → Type 0
Reader = Parser QueryFault

-- ---- names and columns

-- A name: a word that isn't reserved. With `(` after it, it is a function.
unfoldable pub name : Reader Name
name ts = if sees k.Word ts && not (sees k.LeftParenthesis (next ts)) then Ok (written ts, next ts) else Err (fault.Syntax (place ts))

-- col = name ('.' name)?
unfoldable pub column : Reader WrittenColumn
column = do
  first ← name
  qualified ← eat k.Point
  if qualified then (λ second. record { reference = Some first; name = second }) <$> name else pure (record { reference = None; name = first })

-- ---- functions

-- whether a function of this name, in any ASCII case, is called next: a word that isn't reserved, and `(`
unfoldable pub calls : List ℕ → List Token → Bool
calls function ts = sees k.Word ts && sees k.LeftParenthesis (next ts) && same_name (spelling ts) function

-- functions by their names, each with the reader of what comes after its name
abbrev pub Functions : Type 0 → Type 0
Functions A = List (List ℕ × Reader A)

-- the rest of a call of the first of these functions that is called next; if none is, what the other reader reads
abbrev pub called_or : {A : Type 0} → Functions A → Reader A → Reader A
called_or [] other ts = other ts
called_or (f ∷ more) other ts = if calls f.0 ts then f.1 (next ts) else called_or more other ts

-- what is between parentheses
abbrev pub enclosed : {A : Type 0} → Reader A → Reader A
enclosed reader = do
  expect fault.Syntax k.LeftParenthesis
  x ← reader
  expect fault.Syntax k.RightParenthesis
  pure x

-- a string
unfoldable pub string : Reader Name
string ts = if sees k.Text ts then Ok (written ts, next ts) else Err (fault.Syntax (place ts))

-- geom = col | 'ST_GeomFromText' '(' string ')'
unfoldable pub geometry : Reader WrittenGeometry
geometry = called_or ((codes "ST_GeomFromText", enclosed (g.FromText <$> string)) ∷ []) (g.Column <$> column)

-- ---- operands

-- the number of digits with a sign, within 64 bits
abbrev pub integer_value : Bool → List ℕ → Option ℤ
integer_value true digits = if nat_le (digits_value 10 digits) (2 ^ 63) then Some (neg_ℤ (pos (digits_value 10 digits))) else None
integer_value false digits = if nat_lt (digits_value 10 digits) (2 ^ 63) then Some (pos (digits_value 10 digits)) else None

-- the integer, or Q12 at its first digit
abbrev pub integer_or : {A : Type 0} → Option ℤ → ℕ → List Token → Outcome QueryFault (WrittenOperand A)
integer_or None at rest = Err (fault.NumberTooBig at)
integer_or (Some n) at rest = Ok (o.Integer n, rest)

-- digits, after a minus or not
unfoldable pub integer : {A : Type 0} → Bool → Reader (WrittenOperand A)
integer negative ts =
    if sees k.Integer ts then integer_or (integer_value negative (spelling ts)) (place ts) (next ts) else Err (fault.Syntax (place ts))

-- the functions that are operands; the number is the byte of the name
abbrev pub operand_functions : ℕ → Functions ConditionOperand
operand_functions at =
    (codes "ST_AsText", enclosed (o.AsText at <$> geometry))
    ∷ (codes "ST_Dimension", enclosed (o.Dimension at <$> geometry))
    ∷ []

-- operand = col | ('+' | '-')? integer | string | 'NULL' | 'ST_AsText' '(' geom ')' | 'ST_Dimension' '(' geom ')'
unfoldable pub operand : Reader ConditionOperand
operand ts =
    if sees k.Null ts then Ok (o.Null, next ts)
    else (if sees k.Text ts then Ok (o.Text (written ts), next ts)
    else (if sees k.Plus ts then integer false (next ts)
    else (if sees k.Minus ts then integer true (next ts)
    else (if sees k.Integer ts then integer false ts
    else called_or (operand_functions (place ts)) (o.Column <$> column) ts))))

-- ---- predicates

-- cmp = '=' | '<>' | '!=' | '<' | '<=' | '>' | '>='
abbrev pub comparison_of : TokenKind → Option Comparison
comparison_of k.Equal = Some m.Equal
comparison_of k.NotEqual = Some m.NotEqual
comparison_of k.Less = Some m.Less
comparison_of k.LessOrEqual = Some m.LessOrEqual
comparison_of k.Greater = Some m.Greater
comparison_of k.GreaterOrEqual = Some m.GreaterOrEqual
comparison_of _ = None

-- the rest of a comparison, from its sign on; refuses a token that is no sign
abbrev pub compared_by : ℕ → ConditionOperand → Option Comparison → Reader Condition
compared_by at left None = refuse fault.Syntax
compared_by at left (Some comparison) = λ ts. (c.Compare at comparison left <$> operand) (next ts)

-- the rest of a comparison, after its left side
unfoldable pub compared : ℕ → ConditionOperand → Reader Condition
compared at left ts = compared_by at left (comparison_of (kind ts)) ts

-- the rest of IS NULL or IS NOT NULL, after IS
unfoldable pub null_test : {A : Type 0} → WrittenOperand A → Reader (WrittenCond A)
null_test left = do
  negated ← eat k.Not
  expect fault.Syntax k.Null
  pure (if negated then c.Not (c.IsNull left) else c.IsNull left)

-- operand cmp operand | operand 'IS' 'NOT'? 'NULL'
unfoldable pub comparison : Reader Condition
comparison = λ ts. (do
  left ← operand
  tests ← eat k.Is
  if tests then null_test left else compared (place ts) left) ts

-- '1' or '0' after a predicate and '=', an integer token of that value: the predicate, or its NOT
unfoldable pub truth_value : {A : Type 0} → WrittenCond A → Reader (WrittenCond A)
truth_value x ts =
    if sees k.Integer ts && digits_value 10 (spelling ts) == 1 then Ok (x, next ts)
    else (if sees k.Integer ts && digits_value 10 (spelling ts) == 0 then Ok (c.Not x, next ts)
    else Err (fault.Syntax (place ts)))

-- ('=' ('1' | '0'))? after a predicate
unfoldable pub truth_test : {A : Type 0} → WrittenCond A → Reader (WrittenCond A)
truth_test x = do
  compared ← eat k.Equal
  if compared then truth_value x else pure x

-- the arguments of a predicate in parentheses, and what it is compared with
abbrev pub truth_tested : {A : Type 0} → Reader (WrittenCond A) → Reader (WrittenCond A)
truth_tested arguments = enclosed arguments >>= truth_test

-- geom ',' geom, the arguments of a predicate that is named (06-103r4, 6.1.15.3)
unfoldable pub relates : ℕ → Predicate → Reader (WrittenCond WrittenGeometry)
relates at predicate = do
  a ← geometry
  expect fault.Syntax k.Comma
  b ← geometry
  pure (c.Relates at (w.Named predicate) a b)

-- geom ',' geom ',' string, the arguments of ST_Relate (06-103r4, 6.1.15.2)
unfoldable pub relates_by : ℕ → Reader (WrittenCond WrittenGeometry)
relates_by at = do
  a ← geometry
  expect fault.Syntax k.Comma
  b ← geometry
  expect fault.Syntax k.Comma
  pattern ← string
  pure (c.Relates at (w.Relate pattern) a b)

-- The functions that are predicates; the number is the byte of the name (06-103r4, 6.1.15.3 and 6.1.2.2; their names:
-- this project's choice).
abbrev pub predicate_functions : ℕ → Functions Condition
predicate_functions at =
    (codes "ST_Equals", truth_tested (relates at p.Equals))
    ∷ (codes "ST_Disjoint", truth_tested (relates at p.Disjoint))
    ∷ (codes "ST_Intersects", truth_tested (relates at p.Intersects))
    ∷ (codes "ST_Touches", truth_tested (relates at p.Touches))
    ∷ (codes "ST_Crosses", truth_tested (relates at p.Crosses))
    ∷ (codes "ST_Within", truth_tested (relates at p.Within))
    ∷ (codes "ST_Contains", truth_tested (relates at p.Contains))
    ∷ (codes "ST_Overlaps", truth_tested (relates at p.Overlaps))
    ∷ (codes "ST_Relate", truth_tested (relates_by at))
    ∷ (codes "ST_IsEmpty", truth_tested (c.IsEmpty at <$> geometry))
    ∷ []

-- pred = operand cmp operand | operand 'IS' 'NOT'? 'NULL' | bool ('=' ('1' | '0'))?
unfoldable pub predicate : Reader Condition
predicate ts = called_or (predicate_functions (place ts)) comparison ts

-- ---- conditions

-- the tree of the first part, which is read with the word after it, and of the parts that follow
abbrev pub joined : {A : Type 0} → TokenKind → (List (WrittenCond A) → WrittenCond A) → Reader (WrittenCond A) → WrittenCond A → Reader (WrittenCond A)
joined between join part first = join <$> parts fault.Syntax between part (first ∷ [])

-- parts with a word between them make one tree; a part alone is itself
abbrev pub chain : {A : Type 0} → TokenKind → (List (WrittenCond A) → WrittenCond A) → Reader (WrittenCond A) → Reader (WrittenCond A)
chain between join part = do
  first ← part
  more ← eat between
  if more then joined between join part first else pure first

-- conj = neg ('AND' neg)*, for a reader of neg
abbrev pub conjunction : {A : Type 0} → Reader (WrittenCond A) → Reader (WrittenCond A)
conjunction part = chain k.And c.And part

-- cond = conj ('OR' conj)*
abbrev pub condition_of : {A : Type 0} → Reader (WrittenCond A) → Reader (WrittenCond A)
condition_of part = chain k.Or c.Or (conjunction part)

-- the rest of '(' cond ')'
abbrev pub group : {A : Type 0} → Reader (WrittenCond A) → Reader (WrittenCond A)
group part = do
  inner ← condition_of part
  expect fault.Syntax k.RightParenthesis
  pure inner

-- neg = 'NOT' neg | '(' cond ')' | pred, where NOT and parentheses may nest to this many further levels
unfoldable pub negation : ℕ → Reader Condition
negation zero ts = if sees k.Not ts || sees k.LeftParenthesis ts then Err (fault.TooDeep (place ts)) else predicate ts
negation (suc levels) ts =
    if sees k.Not ts then (c.Not <$> negation levels) (next ts)
    else (if sees k.LeftParenthesis ts then group (negation levels) (next ts) else predicate ts)

-- the most levels to which NOT and parentheses may nest in a condition: 64 (this project's choice)
abbrev pub most_levels : ℕ
most_levels = 64

-- cond, of 64 levels at most
abbrev pub condition : Reader Condition
condition = condition_of (negation most_levels)

-- ---- the select list

-- the functions of the select list; the number is the byte of the name (06-103r4, 6.1.2.2)
abbrev pub item_functions : ℕ → Functions SelectItem
item_functions at =
    (codes "ST_AsText", enclosed (i.AsText at <$> column))
    ∷ (codes "ST_Dimension", enclosed (i.Dimension at <$> column))
    ∷ (codes "ST_IsEmpty", enclosed (i.IsEmpty at <$> column))
    ∷ []

-- item = col | 'ST_AsText' '(' col ')' | 'ST_Dimension' '(' col ')' | 'ST_IsEmpty' '(' col ')'
unfoldable pub item : Reader SelectItem
item ts = called_or (item_functions (place ts)) (i.Column <$> column) ts

-- item (',' item)*
abbrev pub items : Reader (List SelectItem)
items = parts fault.Syntax k.Comma item []

-- '*' within 'COUNT' '(' '*' ')' (SQL, COUNT(*))
abbrev pub counted : Reader (Selection WrittenColumn)
counted = expect fault.Syntax k.Star >> pure l.Count

-- the function that is alone in the select list, COUNT (SQL, COUNT(*))
abbrev pub count_function : Functions (Selection WrittenColumn)
count_function = (codes "COUNT", enclosed counted) ∷ []

-- items = '*' | item (',' item)* | 'COUNT' '(' '*' ')' (SQL, the select list)
unfoldable pub selection : Reader (Selection WrittenColumn)
selection ts =
    if sees k.Star ts then Ok (l.All, next ts)
    else called_or count_function (l.Items <$> items) ts

-- ---- table references

-- ('AS'? name)?
unfoldable pub alias : Reader (Option Name)
alias ts =
    if sees k.As ts then (Some <$> name) (next ts)
    else (if sees k.Word ts then (Some <$> name) ts else Ok (None, ts))

-- ref = name ('AS'? name)?
unfoldable pub reference : Reader WrittenReference
reference = do
  table ← name
  alias ← alias
  pure (record { table = table; alias = alias })

-- the references after the first, one or none, and the condition of ON
abbrev pub Second : Type 0
Second = List WrittenReference × Option Condition

-- ref, as a second reference without a condition
unfoldable pub crossed : Reader Second
crossed = (λ reference. (reference ∷ [], None)) <$> reference

-- 'JOIN' ref 'ON' cond
unfoldable pub joined_on : Reader Second
joined_on = do
  expect fault.Syntax k.Join
  reference ← reference
  expect fault.Syntax k.On
  x ← condition
  pure (reference ∷ [], Some x)

-- second? where second = ',' ref | 'CROSS' 'JOIN' ref | 'INNER'? 'JOIN' ref 'ON' cond
abbrev pub second : Reader Second
second ts =
    if sees k.Comma ts then crossed (next ts)
    else (if sees k.Cross ts then (expect fault.Syntax k.Join >> crossed) (next ts)
    else (if sees k.Inner ts || sees k.Join ts then joined_on (after k.Inner ts)
    else Ok (([], None), ts)))

-- ---- queries

-- ('WHERE' cond)?
unfoldable pub where_condition : Reader (Option Condition)
where_condition = do
  filters ← eat k.Where
  if filters then Some <$> condition else pure None

-- the number that digits give, at most the greatest number of 64 bits with a sign
abbrev pub limit_value : List ℕ → Option ℕ
limit_value digits = if nat_lt (digits_value 10 digits) (2 ^ 63) then Some (digits_value 10 digits) else None

-- the number of rows, or Q12 at its first digit
abbrev pub limit_or : Option ℕ → ℕ → List Token → Outcome QueryFault (Option ℕ)
limit_or None at rest = Err (fault.NumberTooBig at)
limit_or (Some n) at rest = Ok (Some n, rest)

-- the integer of LIMIT, which has no sign
unfoldable pub limit_number : Reader (Option ℕ)
limit_number ts = if sees k.Integer ts then limit_or (limit_value (spelling ts)) (place ts) (next ts) else Err (fault.Syntax (place ts))

-- ('LIMIT' integer)?
abbrev pub limited : Reader (Option ℕ)
limited ts = if sees k.Limit ts then limit_number (next ts) else Ok (None, ts)

-- Whether this word comes next, in any ASCII case. It isn't reserved; with `(` after it, it is a function.
unfoldable pub says : List ℕ → List Token → Bool
says word ts = sees k.Word ts && not (sees k.LeftParenthesis (next ts)) && same_name (spelling ts) word

-- 'ANALYZE'? after EXPLAIN
abbrev pub analyzed : Reader Explain
analyzed ts = if says (codes "ANALYZE") ts then Ok (explain.Analyze, next ts) else Ok (explain.Plan, ts)

-- ('EXPLAIN' 'ANALYZE'?)?
abbrev pub explained : Reader Explain
explained ts = if says (codes "EXPLAIN") ts then analyzed (next ts) else Ok (explain.No, ts)

-- query = ('EXPLAIN' 'ANALYZE'?)? 'SELECT' items 'FROM' ref second? ('WHERE' cond)? ('LIMIT' integer)? ';'?, and then
-- the text ends (SQL, the query)
unfoldable pub query : Reader SelectQuery
query = do
  said ← explained
  expect fault.Syntax k.Select
  selection ← selection
  expect fault.Syntax k.From
  first ← reference
  second ← second
  condition ← where_condition
  limit ← limited
  eat k.Semicolon
  expect fault.Syntax k.End
  pure (record { explain = said; selection = selection; references = first ∷ second.0; on = second.1; condition = condition; limit = limit })

-- the place of the bad token, if there is one
abbrev pub bad_place : List Token → Option ℕ
bad_place [] = None
bad_place (t ∷ ts) = if same_kind t.kind k.Bad then Some t.at else bad_place ts

-- Q1 at a bad token, else the query of the tokens
abbrev pub query_by : Option ℕ → List Token → Result SelectQuery QueryFault
query_by (Some at) ts = Err (fault.Lex at)
query_by None ts = value_of (query ts)

-- The query that a text is, or its fault: its length first, then its tokens, then its grammar.
unfoldable pub query_of : List ℕ → Result SelectQuery QueryFault
query_of text = if nat_lt most_bytes (length text) then Err fault.TooLong else query_by (bad_place (tokens true text)) (tokens true text)
