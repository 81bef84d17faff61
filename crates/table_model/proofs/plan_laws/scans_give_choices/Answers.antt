use Rattle.std.specs.Prelude.{◌≡◌, Option, List, [], ◌∷◌, length, slice_index_or}
use Rattle.std.proofs.Common.{arith}
use Rattle.geometry_model.specs.Geometries.{Geometry}
use Rattle.table_model.specs.Candidates.{candidates_among}
use Rattle.table_model.specs.Meanings.{Table, referenced}
use Rattle.table_model.specs.Places.{choices}
use Rattle.table_model.specs.Truths.{Rows}
use Rattle.table_model.specs.declared.conditions.Cond.{Cond}
use Rattle.table_model.specs.declared.conditions.GeometryArgument.{GeometryArgument}
use Rattle.table_model.specs.declared.conditions.Reference.{Reference}
use Rattle.table_model.specs.declared.plans.AccessMethod.TheVariants as methods
use Rattle.table_model.proofs.ScanFacts.{scans_of_two}
use Rattle.table_model.proofs.plan_laws.scans_give_choices.Goals as goal

by_references : (denotes : Rows Geometry → GeometryArgument Geometry → Option Geometry) (tables : List (Table Geometry)) (conjuncts : List (Cond (GeometryArgument Geometry))) (references : List Reference) → length references ≡ 2
    → candidates_among denotes conjuncts (referenced tables references) (record { reference = 0; method = methods.Scan } ∷ record { reference = 1; method = methods.Scan } ∷ []) ≡ choices (referenced tables references)
by_references denotes tables conjuncts [] e = absurd (omega (arith, e))
by_references denotes tables conjuncts (only ∷ []) e = absurd (omega (arith, e))
by_references denotes tables conjuncts (first ∷ second ∷ []) e = scans_of_two denotes conjuncts (slice_index_or tables first.table []) (slice_index_or tables second.table [])
by_references denotes tables conjuncts (first ∷ second ∷ third ∷ more) e = absurd (omega (arith, e))

pub returns : goal.returns
returns c = λ denotes tables query e. by_references denotes tables query.conjuncts query.references e
