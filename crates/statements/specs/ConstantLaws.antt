-- Laws of the constants of bound queries, each as one statement.
use Rattle.std.specs.Prelude.{◌≡◌, ℕ, true, Some, slice_get, slice_set}
use Rattle.statements.specs.Constants.{Constant, constants_of, constant_type, IsSound, may_replace, with_constant}
use Rattle.table_model.specs.BoundQueries.{IsBound, geometry_fits}
use Rattle.table_model.specs.SpatialTables.{SpatialQuery, SpatialSchema}

-- a query with the constant that is there is the query itself
abbrev pub SameConstantChangesNothing : Type 0
SameConstantChangesNothing = (k : ℕ) (value : Constant) (query : SpatialQuery) → slice_get (constants_of query) k ≡ Some value
    → with_constant k value query ≡ query

-- a value that a constant takes replaces it, and no other
abbrev pub OneConstantIsReplaced : Type 0
OneConstantIsReplaced = (k : ℕ) (value : Constant) (query : SpatialQuery) → may_replace (constant_type k query) value ≡ true
    → constants_of (with_constant k value query) ≡ slice_set (constants_of query) k value

-- a bound query stays bound when a constant is replaced by a value that it takes; a geometry is to be valid (06-103r4, 6.1)
abbrev pub ReplacedStaysBound : Type 0
ReplacedStaysBound = (k : ℕ) (value : Constant) (query : SpatialQuery) (definitions : SpatialSchema)
    → may_replace (constant_type k query) value ≡ true → IsSound value
    → IsBound geometry_fits definitions query → IsBound geometry_fits definitions (with_constant k value query)
