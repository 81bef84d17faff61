-- Laws of predicates and envelopes: a probe by envelopes loses no pair of geometries.
use Rattle.std.specs.Prelude.{◌≡◌, true}
use Rattle.geometry_model.specs.Geometries.{Geometry, kind}
use Rattle.geometry_model.specs.Dimensions.{Matrix, IsMatrix}
use Rattle.geometry_model.specs.Predicates.{holds, forces_meeting}
use Rattle.geometry_model.specs.Labels.{labelled_matrix}
use Rattle.geometry_model.specs.Envelopes.{envelope, meets}
use Rattle.geometry_model.specs.Validity.{IsValid}
use Rattle.geometry_model.specs.declared.relations.Predicate.{Predicate}

-- where a predicate that forces meeting holds of two valid geometries by their matrix, their envelopes meet (06-103r4, 6.1.2.2 and 6.1.15.3)
abbrev pub PredicateForcesMeeting : Type 0
PredicateForcesMeeting = (p : Predicate) (a b : Geometry) (m : Matrix) → forces_meeting p ≡ true → IsValid a → IsValid b → IsMatrix a b m
    → holds p (kind a) (kind b) m ≡ true → meets (envelope a) (envelope b) ≡ true

-- the same by their label matrix (06-103r4, 6.1.2.2 and 6.1.15.3)
abbrev pub LabelsForceMeeting : Type 0
LabelsForceMeeting = (p : Predicate) (a b : Geometry) → forces_meeting p ≡ true → IsValid a → IsValid b
    → holds p (kind a) (kind b) (labelled_matrix a b) ≡ true → meets (envelope a) (envelope b) ≡ true
