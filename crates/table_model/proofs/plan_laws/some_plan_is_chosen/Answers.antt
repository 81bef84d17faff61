use Rattle.std.specs.Prelude.{ℕ, ◌≤◌, suc, List, [], ◌∷◌, map, length, IsSome}
use Rattle.std.proofs.Common.{arith}
use Rattle.geometry_model.specs.Geometries.{Geometry}
use Rattle.table_model.specs.Meanings.{Table}
use Rattle.table_model.specs.Plans.{first_of_least, plan_of, row_counts, lawful_accesses}
use Rattle.table_model.specs.declared.conditions.Cond.{Cond}
use Rattle.table_model.specs.declared.conditions.GeometryArgument.{GeometryArgument}
use Rattle.table_model.specs.declared.conditions.Reference.{Reference}
use Rattle.table_model.proofs.LeastFacts.{some_least}
use Rattle.table_model.proofs.plan_laws.some_plan_is_chosen.Goals as goal

positive : (n : ℕ) → 1 ≤ suc n
positive n = omega arith

by_references : (tables : List (Table Geometry)) (references : List Reference) (conjuncts : List (Cond (GeometryArgument Geometry))) → 1 ≤ length references → length references ≤ 2
    → IsSome (first_of_least (λ p. p.cost) (map (plan_of (row_counts tables references) conjuncts) (lawful_accesses references conjuncts)))
by_references tables [] conjuncts l m = absurd (omega (arith, l))
by_references tables (only ∷ []) conjuncts l m = some_least (λ p. p.cost) (map (plan_of (row_counts tables (only ∷ [])) conjuncts) (lawful_accesses (only ∷ []) conjuncts)) (positive _)
by_references tables (first ∷ second ∷ []) conjuncts l m = some_least (λ p. p.cost) (map (plan_of (row_counts tables (first ∷ second ∷ [])) conjuncts) (lawful_accesses (first ∷ second ∷ []) conjuncts)) (positive _)
by_references tables (first ∷ second ∷ third ∷ more) conjuncts l m = absurd (omega (arith, m))

pub returns : goal.returns
returns c = λ tables query l m. by_references tables query.references query.conjuncts l m
