use Rattle.std.specs.Prelude.{◌≡◌, Option, List, [], ◌∷◌, length}
use Rattle.std.proofs.Common.{arith}
use Rattle.geometry_model.specs.Geometries.{Geometry}
use Rattle.table_model.specs.Candidates.{candidates_among}
use Rattle.table_model.specs.Meanings.{Table, referenced}
use Rattle.table_model.specs.Places.{choices}
use Rattle.table_model.specs.Truths.{Rows}
use Rattle.table_model.specs.declared.conditions.Cond.{Cond}
use Rattle.table_model.specs.declared.conditions.GeometryArgument.{GeometryArgument}
use Rattle.table_model.specs.declared.conditions.Reference.{Reference}
use Rattle.table_model.specs.declared.plans.AccessMethod.TheVariants as methods
use Rattle.table_model.proofs.ScanFacts.{scan_of_one}
use Rattle.table_model.proofs.plan_laws.scan_gives_places.Goals as goal

by_references : (denotes : Rows Geometry → GeometryArgument Geometry → Option Geometry) (tables : List (Table Geometry)) (conjuncts : List (Cond (GeometryArgument Geometry))) (references : List Reference) → length references ≡ 1
    → candidates_among denotes conjuncts (referenced tables references) (record { reference = 0; method = methods.Scan } ∷ []) ≡ choices (referenced tables references)
by_references denotes tables conjuncts [] e = absurd (omega (arith, e))
by_references denotes tables conjuncts (only ∷ []) e = scan_of_one denotes conjuncts _
by_references denotes tables conjuncts (first ∷ second ∷ more) e = absurd (omega (arith, e))

pub returns : goal.returns
returns c = λ denotes tables query e. by_references denotes tables query.conjuncts query.references e
