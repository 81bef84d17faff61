-- The part has what its word names.
use Rattle.std.proofs.Common.{◌≡◌, subst, true}
use Rattle.std.specs.Prelude.{IfSome}
use Rattle.std.specs.Option.{option_map}
use Rattle.table_model.specs.Texts.{same_name}
use Rattle.sfq_tiles.proofs.parts.read_part.Goals as goal

pub returns : goal.returns
returns c = record {
  table = c.in-Some.names.table.now;
  column = option_map (λ column. column.now) c.in-Some.names.column;
  list = option_map (λ list. list.now) c.in-Some.names.list;
  names = c.in-Some.ensures;
  there = c.table-definition.ensures.value;
  called =
      subst (λ o. IfSome o (λ table. same_name table.name c.in-Some.names.table.now ≡ true)) c.table-definition.ensures.value
      c.in_ok-place.ensures.called;
  by_column = c.in_ok-column.ensures;
  copied = c.in_ok-columns.ensures;
}
