-- What shows each cell of the matrix of two geometries that are given as texts.
use Rattle.std.specs.Prelude.{ℕ, List}
use Rattle.geometry_model.specs.Dimensions.{IsMatrix}
use Rattle.geometry_model.specs.Geometries.{Geometry}
use Rattle.geometry_model.specs.Validity.{IsValid}
use Rattle.geometry_model.specs.WellKnownText.{Spells}
use Rattle.witnesses.specs.Shown.{ShowsAll, shown_matrix, witness_at}
use Rattle.witnesses.specs.declared.witness.Witnesses.{Witnesses}

-- the texts spell two valid geometries; the dimensions that the witnesses show are their DE-9IM matrix, and each witness shows
-- what its two parts have in common (06-103r4, 6.1.15.2 and 7.2)
pub record ShowsTexts (first second : List ℕ) (w : Witnesses) : Type 0 where
  pub a : Geometry
  pub b : Geometry
  pub first_spelled : Spells first a
  pub second_spelled : Spells second b
  pub first_valid : IsValid a
  pub second_valid : IsValid b
  pub matrix : IsMatrix a b (shown_matrix (witness_at w))
  pub shows : ShowsAll a b (witness_at w)
