use Rattle.std.proofs.Common.{◌≡◌, ◌++◌, OnOk, subst}
use Rattle.sfq_tables.proofs.NamedColumnLemmas.{named_of_and, named_of_or}
use Rattle.sfq_tables.proofs.named_columns.+named.Goals as goal

pub push_condition-returns-in-Or : goal.push_condition-returns-in-Or
push_condition-returns-in-Or t c =
    subst (λ xs. OnOk c.push_conditions.result (c.push_conditions.new.found.items ≡ c.args.found.now.items ++ xs))
    (named_of_or c.args.condition.now c.in-Or.parts c.as_slice.result.now c.in-Or.is c.as_slice.ensures) c.push_conditions.ensures

pub push_condition-returns-in-And : goal.push_condition-returns-in-And
push_condition-returns-in-And t c =
    subst (λ xs. OnOk c.push_conditions-in-And.result (c.push_conditions-in-And.new.found.items ≡ c.args.found.now.items ++ xs))
    (named_of_and c.args.condition.now c.in-And.parts c.as_slice-in-And.result.now c.in-And.is c.as_slice-in-And.ensures)
    c.push_conditions-in-And.ensures
