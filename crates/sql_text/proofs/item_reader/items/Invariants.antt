use Rattle.std.proofs.Common.{◌≡◌, ◌-◌}
use Rattle.table_model.specs.declared.faults.QueryFault.TheVariants as fault
use Rattle.table_model.specs.declared.tokens.TokenKind.TheVariants as k
use Rattle.table_model.specs.Parsers.{parts_from}
use Rattle.table_model.specs.QueryReading.{item, items}
use Rattle.sql_text.proofs.item_reader.items.Given as goal

abbrev pub invariant-loop-turn : goal.invariant-loop-turn
invariant-loop-turn l = items l.fn.tokens ≡ parts_from fault.Syntax k.Comma item (l._turn-end - l._turn) l.items l.tokens
