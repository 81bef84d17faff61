-- The names are the header's fields.
use Rattle.std.proofs.Common.{◌∙◌, Some, ap, sym}
use Rattle.std.specs.Option.{option_map}
use Rattle.statements.proofs.NameLemmas.{name_at}
use Rattle.statements.proofs.prepared.Statement.column_name.Goals as goal

pub returns-in-Some : goal.returns-in-Some
returns-in-Some g c =
    name_at _ _ c.args.column _ _ c.get.ensures.value c.in_ok-names.ensures
    (ap Some c.in_ok-from_slice-in-Some.ensures.items ∙ sym (ap (option_map (λ s. s.now)) c.in-Some.is))

pub returns : goal.returns
returns g c =
    name_at _ _ c.args.column _ _ c.get.ensures.value c.in_ok-names.ensures (sym (ap (option_map (λ s. s.now)) c.in-None.is))
