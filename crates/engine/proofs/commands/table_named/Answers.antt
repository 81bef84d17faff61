-- The name of the table at the place is the one that is asked for.
use Rattle.std.proofs.Common.{◌∙◌, ap₂, sym}
use Rattle.table_model.specs.Texts.{same_name}
use Rattle.engine.proofs.commands.table_named.Goals as goal

pub returns-then-same_name-clause-named : goal.returns-then-same_name-clause-named
returns-then-same_name-clause-named c = (
  c.table.result.now,
  c.table.ensures.value,
  ap₂ same_name (sym c.bytes.ensures) (sym c.as_bytes.ensures.value) ∙ sym c.same_name.ensures ∙ c.if-same_name.true,
)
