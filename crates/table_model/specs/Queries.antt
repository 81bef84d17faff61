-- The parts of a query as they are written: a condition with its operands, an item of the select list, the whole query.
use Rattle.table_model.specs.declared.queries.Query.{Query}
use Rattle.table_model.specs.declared.queries.WrittenColumn.{WrittenColumn}
use Rattle.table_model.specs.declared.queries.WrittenCond.{WrittenCond}
use Rattle.table_model.specs.declared.queries.WrittenGeometry.{WrittenGeometry}
use Rattle.table_model.specs.declared.queries.WrittenItem.{WrittenItem}
use Rattle.table_model.specs.declared.queries.WrittenOperand.{WrittenOperand}

-- an operand of a condition
abbrev pub ConditionOperand : Type 0
ConditionOperand = WrittenOperand WrittenGeometry

-- a condition, of ON or of WHERE
abbrev pub Condition : Type 0
Condition = WrittenCond WrittenGeometry

-- an item of the select list
abbrev pub SelectItem : Type 0
SelectItem = WrittenItem WrittenColumn

-- a query
abbrev pub SelectQuery : Type 0
SelectQuery = Query WrittenGeometry WrittenColumn
