-- How the matrix grows, step by step, and what stays shown.
use Rattle.std.proofs.Common.{◌≡◌, ◌<◌, ◌≤◌, ◌+◌, ℕ, subst, sym, List, length, get_or, take}
use Rattle.std.specs.List.{All}
use Rattle.std.proofs.lemmas.List.{take_all}
use Rattle.std.proofs.lemmas.List.Elements.{All-weaker, All-more, All-same}
use Rattle.geometry_model.specs.Points.{Position, Point, IsPoint}
use Rattle.geometry_model.specs.Geometries.{Geometry}
use Rattle.geometry_model.specs.Locations.{locate}
use Rattle.geometry_model.specs.Dimensions.{Matrix}
use Rattle.geometry_model.specs.Labels.{labelled_matrix}
use Rattle.geometry_model.specs.Validity.{IsValid}
use Rattle.geometry_model.specs.declared.point_sets.Location.{Location}
use Rattle.geometry_model.specs.declared.point_sets.Dimension.{Dimension}
use Rattle.geometry_model.specs.declared.point_sets.Dimension.TheVariants.{Zero}
use Rattle.matrix_laws.proofs.Closing.{valid_rings_are_closed}
use Rattle.matrix_laws.specs.Cells.{Shows, raised, IsPartOf, CoversPosition}
use Rattle.matrix_laws.proofs.CellTheorems.{point_is_there, raised_grows, parts_are_ordered}
use Rattle.matrix_laws.proofs.Growing.{still_shown}
use Rattle.de9im.specs.Raising.{IsRaisedTo, Grows}

-- ---- the order of matrices
pub part_of_itself : (m : Matrix) → IsPartOf m m
part_of_itself = parts_are_ordered.0

pub part_through : (m n o : Matrix) → IsPartOf m n → IsPartOf n o → IsPartOf m o
part_through = parts_are_ordered.1

-- ---- raised so far and no further
pub raised_one : (m n : Matrix) (l k : Location) (d : Dimension) → n ≡ raised m l k d → IsRaisedTo (λ o. Shows o l k d) m n
raised_one m n l k d e = subst (IsRaisedTo (λ o. Shows o l k d) m) (sym e) (record { grown = r.0; shows = r.1; least = r.2 })
  where
    r : IsPartOf m (raised m l k d) × Shows (raised m l k d) l k d × ((o : Matrix) → IsPartOf m o → Shows o l k d → IsPartOf (raised m l k d) o)
    r = raised_grows m l k d

-- two steps, the first of which shows what stays shown
pub raised_two : (P Q : Matrix → Type 0) → ((m n : Matrix) → IsPartOf m n → P m → P n) → (m n o : Matrix) → IsRaisedTo P m n → IsRaisedTo Q n o → IsRaisedTo (λ x. P x × Q x) m o
raised_two P Q kept m n o first second = record {
  grown = part_through m n o first.grown second.grown;
  shows = (kept n o second.grown first.shows, second.shows);
  least = λ x part both. second.least x (first.least x part both.0) both.1;
}

-- the same fact in other words
pub raised_so : (P Q : Matrix → Type 0) → ((m : Matrix) → P m → Q m) → ((m : Matrix) → Q m → P m) → (m n : Matrix) → IsRaisedTo P m n → IsRaisedTo Q m n
raised_so P Q to from m n r = record {
  grown = r.grown;
  shows = to n r.shows;
  least = λ o part shown. r.least o part (from o shown);
}

pub shown_kept : (l k : Location) (d : Dimension) (m n : Matrix) → IsPartOf m n → Shows m l k d → Shows n l k d
shown_kept l k d m n part shown = still_shown m n part l k d shown

-- ---- sound growth
pub grows_itself : (a b : Geometry) (m : Matrix) → Grows a b m m
grows_itself a b m = record { grown = part_of_itself m; sound = λ va vb s. s }

pub grows_through : (a b : Geometry) (m n o : Matrix) → Grows a b m n → Grows a b n o → Grows a b m o
grows_through a b m n o first second = record {
  grown = part_through m n o first.grown second.grown;
  sound = λ va vb s. second.sound va vb (first.sound va vb s);
}

-- a matrix that is raised to what is there
pub grows_raised : (a b : Geometry) (P : Matrix → Type 0) (m n : Matrix) → IsRaisedTo P m n → (IsValid a → IsValid b → P (labelled_matrix a b)) → Grows a b m n
grows_raised a b P m n r there = record {
  grown = r.grown;
  sound = λ va vb s. r.least (labelled_matrix a b) s (there va vb);
}

-- what a point shows is there
pub grows_point : (a b : Geometry) (p : Point) (l k : Location) (m n : Matrix) → IsPoint p → l ≡ locate a p → k ≡ locate b p → n ≡ raised m l k Zero → Grows a b m n
grows_point a b p l k m n h el ek e = grows_raised a b (λ o. Shows o l k Zero) m n (raised_one m n l k Zero e)
    (λ va vb. subst (λ (i : Location). Shows (labelled_matrix a b) i k Zero) (sym el) (subst (λ (j : Location). Shows (labelled_matrix a b) (locate a p) j Zero) (sym ek)
    (point_is_there a b (valid_rings_are_closed a va) (valid_rings_are_closed b vb) p h)))

-- ---- positions stay covered
pub covered_kept : (a b : Geometry) (ps : List Position) (m n : Matrix) → IsPartOf m n → All (CoversPosition a b m) ps → All (CoversPosition a b n) ps
covered_kept a b ps m n part all = All-weaker (CoversPosition a b m) (CoversPosition a b n) (λ p s. still_shown m n part _ _ Zero s) ps all

-- one position more
pub covers_more : (a b : Geometry) (ps : List Position) (i : ℕ) (p : Position) (m n : Matrix) → i < length ps → p ≡ get_or ps i p → IsPartOf m n → All (CoversPosition a b m) (take i ps) → CoversPosition a b n p
    → All (CoversPosition a b n) (take (i + 1) ps)
covers_more a b ps i p m n l e part all one = All-more (CoversPosition a b n) ps i p l (covered_kept a b (take i ps) m n part all) (subst (CoversPosition a b n) e one)

-- at the end of a list all of it has been taken
pub all_taken : {X : Type 0} (P : X → Type 0) (xs ys : List X) (i : ℕ) → length xs ≤ i → xs ≡ ys → All P (take i xs) → All P ys
all_taken P xs ys i l e all = subst (All P) e (All-same P xs (take i xs) (sym (take_all i xs l)) all)
