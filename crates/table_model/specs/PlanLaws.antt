-- Laws of the chosen plan, each as one statement.
use Rattle.std.specs.Prelude.{◌≡◌, ℕ, ◌<◌, ◌≤◌, ◌==◌, if◌then◌else◌, nat_lt, List, [], ◌∷◌, ◌++◌, length, count_by, All, Option, Some, IsSome}
use Rattle.geometry_model.specs.Geometries.{Geometry}
use Rattle.table_model.specs.Candidates.{candidates}
use Rattle.table_model.specs.Meanings.{Table, referenced}
use Rattle.table_model.specs.Places.{choices}
use Rattle.table_model.specs.Plans.{filters, lawful_plans, IsLawful, chosen}
use Rattle.table_model.specs.Truths.{Rows}
use Rattle.table_model.specs.declared.conditions.Cond.{Cond}
use Rattle.table_model.specs.declared.conditions.ColumnPlace.{ColumnPlace}
use Rattle.table_model.specs.declared.conditions.GeometryArgument.{GeometryArgument}
use Rattle.table_model.specs.declared.conditions.Bound.{Bound}
use Rattle.table_model.specs.declared.plans.AccessMethod.TheVariants as methods
use Rattle.table_model.specs.declared.plans.Plan.{Plan}

-- x is the first element of the list whose number is least
pub record IsFirstOfLeast {X : Type 0} (number : X → ℕ) (xs : List X) (x : X) : Type 0 where
  pub before : List X
  pub after : List X
  pub parted : xs ≡ before ++ x ∷ after
  pub earlier_are_more : All (λ y. number x < number y) before
  pub none_is_less : All (λ y. number x ≤ number y) xs

-- a bound query with geometries
abbrev pub GeometryQuery : Type 0
GeometryQuery = Bound (GeometryArgument Geometry) ColumnPlace

-- the chosen plan is lawful
abbrev pub ChosenIsLawful : Type 0
ChosenIsLawful = (tables : List (Table Geometry)) (query : GeometryQuery) (plan : Plan) → chosen tables query ≡ Some plan → IsLawful tables query plan

-- no lawful plan costs less
abbrev pub ChosenCostsLeast : Type 0
ChosenCostsLeast = (tables : List (Table Geometry)) (query : GeometryQuery) (plan other : Plan) → chosen tables query ≡ Some plan → IsLawful tables query other → plan.cost ≤ other.cost

-- every lawful plan before the chosen one costs more
abbrev pub ChosenIsFirst : Type 0
ChosenIsFirst = (tables : List (Table Geometry)) (query : GeometryQuery) (plan : Plan) → chosen tables query ≡ Some plan → IsFirstOfLeast (λ p. p.cost) (lawful_plans tables query) plan

-- a lawful plan that is the first of least cost is the chosen one, so there is one alone
abbrev pub FirstIsChosen : Type 0
FirstIsChosen = (tables : List (Table Geometry)) (query : GeometryQuery) (plan : Plan) → IsFirstOfLeast (λ p. p.cost) (lawful_plans tables query) plan → chosen tables query ≡ Some plan

-- over one reference or two a plan is chosen
abbrev pub SomePlanIsChosen : Type 0
SomePlanIsChosen = (tables : List (Table Geometry)) (query : GeometryQuery) → 1 ≤ length query.references → length query.references ≤ 2 → IsSome (chosen tables query)

-- the candidates of two scans, the first reference being the outer one, are the choices of places in their order
abbrev pub ScansGiveChoices : Type 0
ScansGiveChoices = (denotes : Rows Geometry → GeometryArgument Geometry → Option Geometry) (tables : List (Table Geometry)) (query : GeometryQuery) → length query.references ≡ 2
    → candidates denotes tables query (record { reference = 0; method = methods.Scan } ∷ record { reference = 1; method = methods.Scan } ∷ []) ≡ choices (referenced tables query.references)

-- the candidates of a scan of the only reference are its places
abbrev pub ScanGivesPlaces : Type 0
ScanGivesPlaces = (denotes : Rows Geometry → GeometryArgument Geometry → Option Geometry) (tables : List (Table Geometry)) (query : GeometryQuery) → length query.references ≡ 1
    → candidates denotes tables query (record { reference = 0; method = methods.Scan } ∷ []) ≡ choices (referenced tables query.references)

-- the filters of every plan are all conjuncts, each once: the place of each conjunct is among them once, and no other
-- number is
abbrev pub FiltersAreConjuncts : Type 0
FiltersAreConjuncts = (conjuncts : List (Cond (GeometryArgument Geometry))) (place : ℕ)
    → count_by (λ k. k == place) (filters conjuncts) ≡ (if nat_lt place (length conjuncts) then 1 else 0)
