-- Where one geometry has a point in the other's exterior, relations of covering don't hold.
use Rattle.std.proofs.Common.{◌≡◌, refl, sym, ap, Bool, true, false, ◌&&◌, ◌||◌, ℕ, Some, codes}
use Rattle.geometry_model.specs.Dimensions.{IsMatrix, Matrix}
use Rattle.geometry_model.specs.Geometries.{Geometry, kind}
use Rattle.geometry_model.specs.Labels.{labelled_matrix}
use Rattle.geometry_model.specs.Patterns.{takes}
use Rattle.geometry_model.specs.Predicates.{like}
use Rattle.geometry_model.specs.Validity.{IsValid}
use Rattle.geometry_model.specs.declared.relations.PatternCharacter.TheVariants as characters
use Rattle.de9im.specs.Deciding.{HasPointOutside}
use Rattle.de9im.proofs.CommonPoints.{is_empty, leaves, leaves_turned}
use Rattle.de9im.proofs.Passes.{is_matrix}
use Rattle.library_calls.specs.Kept.{HasRelation}
use Rattle.library_calls.specs.Relations.{contains_properly, covered_by, covers, relation_holds, relation_of}
use Rattle.library_calls.specs.declared.relations.Relation.{Relation}
use Rattle.library_calls.specs.declared.relations.Relation.TheVariants as relations

-- ---- a pattern whose third and sixth cells, or whose seventh and eighth, have to be F doesn't match where one of the two isn't
seventh_eighth : (m : Matrix) (a b c d e f k : Bool) → (is_empty m.exterior_interior && is_empty m.exterior_boundary) ≡ false
    → (a && b && c && d && e && f && is_empty m.exterior_interior && is_empty m.exterior_boundary && k) ≡ false
seventh_eighth m a b c d e f k clash = ap (λ (x : Bool). x && k)
    (two (a && b && c && d && e && f) (is_empty m.exterior_interior) (is_empty m.exterior_boundary) clash)
  where
    two : (x g h : Bool) → (g && h) ≡ false → (x && g && h) ≡ false
    two false g h clash = refl
    two true false h clash = refl
    two true true false clash = refl
    two true true true clash = absurd cc

third_sixth : (m : Matrix) (a b d e g h k : Bool) → (is_empty m.interior_exterior && is_empty m.boundary_exterior) ≡ false
    → (a && b && is_empty m.interior_exterior && d && e && is_empty m.boundary_exterior && g && h && k) ≡ false
third_sixth m a b d e g h k clash = ap (λ (x : Bool). x && g && h && k)
    (two (a && b) (is_empty m.interior_exterior) d e (is_empty m.boundary_exterior) clash)
  where
    two : (x c d e f : Bool) → (c && f) ≡ false → (x && c && d && e && f) ≡ false
    two false c d e f clash = refl
    two true false d e f clash = refl
    two true true false e f clash = refl
    two true true true false f clash = refl
    two true true true true false clash = refl
    two true true true true true clash = absurd cc

not_covering : (m : Matrix) → (is_empty m.exterior_interior && is_empty m.exterior_boundary) ≡ false → covers m ≡ false
not_covering m clash = λ i. first i || second i || third i || fourth i
  where
    first : like (codes "T*****FF*") m ≡ false
    first = seventh_eighth m (takes characters.True m.interior_interior) true true true true true true clash

    second : like (codes "*T****FF*") m ≡ false
    second = seventh_eighth m true (takes characters.True m.interior_boundary) true true true true true clash

    third : like (codes "***T**FF*") m ≡ false
    third = seventh_eighth m true true true (takes characters.True m.boundary_interior) true true true clash

    fourth : like (codes "****T*FF*") m ≡ false
    fourth = seventh_eighth m true true true true (takes characters.True m.boundary_boundary) true true clash

not_covered : (m : Matrix) → (is_empty m.interior_exterior && is_empty m.boundary_exterior) ≡ false → covered_by m ≡ false
not_covered m clash = λ i. first i || second i || third i || fourth i
  where
    first : like (codes "T*F**F***") m ≡ false
    first = third_sixth m (takes characters.True m.interior_interior) true true true true true true clash

    second : like (codes "*TF**F***") m ≡ false
    second = third_sixth m true (takes characters.True m.interior_boundary) true true true true true clash

    third : like (codes "**FT*F***") m ≡ false
    third = third_sixth m true true (takes characters.True m.boundary_interior) true true true true clash

    fourth : like (codes "**F*TF***") m ≡ false
    fourth = third_sixth m true true true (takes characters.True m.boundary_boundary) true true true clash

not_containing : (m : Matrix) → (is_empty m.exterior_interior && is_empty m.exterior_boundary) ≡ false → contains_properly m ≡ false
not_containing m = seventh_eighth m (takes characters.True m.interior_interior) true true (is_empty m.boundary_interior)
    (is_empty m.boundary_boundary) true true

-- ---- so the relations don't hold of the label matrix, which is that of the two
fails : (r : Relation) (n : ℕ) (a b : Geometry) → relation_of n ≡ Some r → IsMatrix a b (labelled_matrix a b)
    → relation_holds r (kind a) (kind b) (labelled_matrix a b) ≡ false → HasRelation n a b false
fails r n a b known is e = record {
  relation = r;
  matrix = labelled_matrix a b;
  is_relation = known;
  is_matrix = is;
  exact = sym
      e;
}

pub covers_none_outside : (n : ℕ) (a b : Geometry) → relation_of n ≡ Some relations.Covers → IsValid a → IsValid b
    → HasPointOutside b a → HasRelation n a b false
covers_none_outside n a b known va vb out = let is = is_matrix a b (labelled_matrix a b) va vb refl in
    fails relations.Covers n a b known is (not_covering (labelled_matrix a b) (leaves_turned a b (labelled_matrix a b) is out))

pub contains_none_outside : (n : ℕ) (a b : Geometry) → relation_of n ≡ Some relations.ContainsProperly → IsValid a → IsValid b
    → HasPointOutside b a → HasRelation n a b false
contains_none_outside n a b known va vb out = let is = is_matrix a b (labelled_matrix a b) va vb refl in
    fails relations.ContainsProperly n a b known is
    (not_containing (labelled_matrix a b) (leaves_turned a b (labelled_matrix a b) is out))

pub covered_where_inside : (n : ℕ) (a b : Geometry) → relation_of n ≡ Some relations.CoveredBy → IsValid a → IsValid b
    → HasPointOutside a b → HasRelation n a b false
covered_where_inside n a b known va vb out = let is = is_matrix a b (labelled_matrix a b) va vb refl in
    fails relations.CoveredBy n a b known is (not_covered (labelled_matrix a b) (leaves a b (labelled_matrix a b) is out))
