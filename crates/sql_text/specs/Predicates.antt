-- Predicates and operands by the names of their functions, in the parts in which the reader reads them. Each has the meaning of
-- the reading in `table_model`.
use Rattle.std.specs.Prelude.{ℕ, Bool, true, false, if◌then◌else◌, List, [], ◌∷◌, Option, Some, None, codes}
use Rattle.geometry_model.specs.declared.relations.Predicate.{Predicate}
use Rattle.geometry_model.specs.declared.relations.Predicate.TheVariants as p
use Rattle.table_model.specs.Parsers.{place, next, ◌<$>◌, ◌>>=◌, pure}
use Rattle.table_model.specs.QueryReading.{Reader, Functions, calls, called_or, name, column, geometry, operand_functions, relates, relates_by, truth_tested, comparison}
use Rattle.table_model.specs.Queries.{Condition, ConditionOperand, SelectItem}
use Rattle.table_model.specs.declared.queries.WrittenCond.{WrittenCond}
use Rattle.table_model.specs.declared.queries.WrittenCond.TheVariants as c
use Rattle.table_model.specs.declared.queries.WrittenItem.TheVariants as i
use Rattle.table_model.specs.declared.queries.WrittenOperand.TheVariants as o
use Rattle.table_model.specs.declared.queries.Name.{Name}
use Rattle.table_model.specs.declared.tokens.Token.{Token}
use Rattle.sql_text.specs.Comparands.{comparand}
use Rattle.sql_text.specs.Steps.{closed}
use Rattle.sql_text.specs.declared.predicates.Function.{Function}
use Rattle.sql_text.specs.declared.predicates.Function.TheVariants as f

-- the predicates of two geometries with the names of their functions (06-103r4, 6.1.15.3)
abbrev pub named_predicates : List (List ℕ × Predicate)
named_predicates =
    (codes "ST_Equals", p.Equals) ∷ (codes "ST_Disjoint", p.Disjoint) ∷ (codes "ST_Intersects", p.Intersects) ∷ (codes "ST_Touches", p.Touches)
    ∷ (codes "ST_Crosses", p.Crosses) ∷ (codes "ST_Within", p.Within) ∷ (codes "ST_Contains", p.Contains) ∷ (codes "ST_Overlaps", p.Overlaps) ∷ []

-- the first of some named predicates that is called next
abbrev pub named_in : List (List ℕ × Predicate) → List Token → Option Predicate
named_in [] ts = None
named_in (n ∷ more) ts = if calls n.0 ts then Some n.1 else named_in more ts

-- the condition if the Bool says that it is to hold, else its NOT
abbrev pub given : {A : Type 0} → Bool → WrittenCond A → WrittenCond A
given true x = x
given false x = c.Not x

-- what the arguments of a call were read as, and whether the call is to hold
abbrev pub tested : {A : Type 0} → A → Reader (A × Bool)
tested x = do
  call ← closed x
  is_to_hold ← comparand
  pure (call, is_to_hold)

-- what is between the parentheses of ST_IsEmpty in a condition
abbrev pub empty_argument : ℕ → Reader Condition
empty_argument at = c.IsEmpty at <$> geometry

-- the other functions that are predicates: ST_Relate and ST_IsEmpty (06-103r4, 6.1.15.2 and 6.1.2.2)
abbrev pub other_functions : ℕ → Functions Condition
other_functions at = (codes "ST_Relate", truth_tested (relates_by at)) ∷ (codes "ST_IsEmpty", truth_tested (empty_argument at)) ∷ []

-- which of them is called next
abbrev pub other_function : List Token → Option Function
other_function ts = if calls (codes "ST_Relate") ts then Some f.Relate else (if calls (codes "ST_IsEmpty") ts then Some f.IsEmpty else None)

-- the function that is called next, where the predicate of two geometries that is called next is known
abbrev pub function_by : Option Predicate → List Token → Option Function
function_by (Some predicate) ts = Some (f.Named predicate)
function_by None ts = other_function ts

-- the arguments of a function whose name starts at a place
abbrev pub arguments : Function → ℕ → Reader Condition
arguments (f.Named predicate) at = relates at predicate
arguments f.Relate at = relates_by at
arguments f.IsEmpty at = empty_argument at

-- a call of a function, from its name on
abbrev pub call : Function → Reader Condition
call function ts = truth_tested (arguments function (place ts)) (next ts)

-- a predicate, where the function that is called next is known
abbrev pub predicate_by : Option Function → Reader Condition
predicate_by (Some function) ts = call function ts
predicate_by None ts = comparison ts

-- an operand that is a call of a function or a column
abbrev pub other_operand : Reader ConditionOperand
other_operand ts = called_or (operand_functions (place ts)) (o.Column <$> column) ts

-- what is between the parentheses of ST_AsText, as an operand
abbrev pub text_argument : ℕ → Reader ConditionOperand
text_argument at = o.AsText at <$> geometry

-- what is between the parentheses of ST_Dimension, as an operand
abbrev pub dimension_argument : ℕ → Reader ConditionOperand
dimension_argument at = o.Dimension at <$> geometry

-- a column, as an operand
abbrev pub column_operand : Reader ConditionOperand
column_operand = o.Column <$> column

-- what is between the parentheses of ST_AsText, as an item
abbrev pub text_item : ℕ → Reader SelectItem
text_item at = i.AsText at <$> column

-- what is between the parentheses of ST_Dimension, as an item
abbrev pub dimension_item : ℕ → Reader SelectItem
dimension_item at = i.Dimension at <$> column

-- what is between the parentheses of ST_IsEmpty, as an item
abbrev pub empty_item : ℕ → Reader SelectItem
empty_item at = i.IsEmpty at <$> column

-- a column, as an item
abbrev pub column_item : Reader SelectItem
column_item = i.Column <$> column

-- the name of an alias, if one comes next
abbrev pub some_name : Reader (Option Name)
some_name = Some <$> name
