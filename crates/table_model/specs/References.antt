-- How many references a query has.
use Rattle.std.specs.Prelude.{◌≡◌, ◌⊎◌, List, length}

-- one or two: a query is over one table or two (SQL, FROM; the number: this project's choice)
abbrev pub AreOneOrTwo : {R : Type 0} → List R → Type 0
AreOneOrTwo references = (length references ≡ 1) ⊎ (length references ≡ 2)
