-- The truth of a condition from that of its parts, which are evaluated one after another.
use Rattle.std.specs.Prelude.{ℕ, ◌&&◌, if◌then◌else◌, is_some, Option}
use Rattle.geometry_model.specs.Geometries.{Geometry}
use Rattle.table_model.specs.Truths.{and_of, or_of}
use Rattle.table_model.specs.declared.values.Truth.{Truth}
use Rattle.table_model.specs.declared.values.Truth.TheVariants.{True, False}
use Rattle.spatial_sql.specs.declared.logic.Junction.{Junction}
use Rattle.spatial_sql.specs.declared.logic.Junction.TheVariants as junctions

-- how many matrices a predicate of two arguments needs: one, and none with a null
abbrev pub computed_of : Option Geometry → Option Geometry → ℕ
computed_of a b = if is_some a && is_some b then 1 else 0

-- the truth of two parts joined by AND or OR (SQL's three-valued logic)
abbrev pub joined_by : Junction → Truth → Truth → Truth
joined_by junctions.All = and_of
joined_by junctions.Any = or_of

-- the truth of an AND or OR without parts (SQL's three-valued logic)
abbrev pub of_none : Junction → Truth
of_none junctions.All = True
of_none junctions.Any = False
