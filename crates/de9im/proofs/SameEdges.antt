-- Edges with the same two ends: one holds all points of the other.
use Rattle.std.proofs.Common.{◌≡◌, refl, sym, ap₂, ◌∙◌, subst, Bool, true, ℕ, ◌<◌, List, [], ◌∷◌, length, get_or, arith}
use Rattle.std.proofs.lemmas.List.Elements.{All-nil, All-cons, All-contains}
use Rattle.geometry_model.specs.Points.{Position}
use Rattle.geometry_model.specs.Geometries.{Edge}
use Rattle.geometry_model.specs.WellKnownText.{same_position}
use Rattle.geometry_laws.proofs.OtherPoints.{same_from}
use Rattle.matrix_laws.specs.Covering.{IsHeld}
use Rattle.noding.proofs.Held.{turned_from, held_through, all_themselves}

-- of a test whether two positions are the same
same_ends : (p q a b : Position) (r : Bool) → p ≡ a → q ≡ b → r ≡ same_position p q → r ≡ true → a ≡ b
same_ends p q a b r f g h k = sym f ∙ same_from p q (sym h ∙ k) ∙ g

-- an edge of a list is held by the list
in_list : (es : List Edge) (i : ℕ) (e : Edge) → i < length es → e ≡ get_or es i e → IsHeld es e
in_list es i e l g = All-contains (IsHeld es) es e (all_themselves es) (i, l, sym g)

abbrev edge_from : Position → Position → Edge
edge_from a b = record { start = a; end = b }

pub same_holds : (e f : Edge) → e.start ≡ f.start → e.end ≡ f.end → IsHeld (e ∷ []) f
same_holds e f s t = subst (IsHeld (e ∷ [])) (ap₂ edge_from s t) (in_list (e ∷ []) 0 e (omega arith) refl)

pub opposite_holds : (e f : Edge) → e.start ≡ f.end → e.end ≡ f.start → IsHeld (e ∷ []) f
opposite_holds e f s t = turned_from e f f.start f.end (sym t) (sym s) refl

pub at_place : (es : List Edge) (i : ℕ) (f e : Edge) → i < length es → f ≡ get_or es i f → IsHeld (f ∷ []) e → IsHeld es e
at_place es i f e l g h = held_through es (f ∷ []) e (All-cons (IsHeld es) f [] (in_list es i f l g) (All-nil (IsHeld es))) h

-- as the code finds them
pub same_found : (e f : Edge) (p q x y : Position) (r s : Bool) → p ≡ e.start → q ≡ f.start → r ≡ same_position p q → r ≡ true
    → x ≡ e.end → y ≡ f.end → s ≡ same_position x y → s ≡ true → IsHeld (e ∷ []) f
same_found e f p q x y r s a b c d a' b' c' d' = same_holds e f (same_ends p q e.start f.start r a b c d) (same_ends x y
    e.end f.end s a' b' c' d')

pub opposite_found : (e f : Edge) (p q x y : Position) (r s : Bool) → p ≡ e.start → q ≡ f.end → r ≡ same_position p q → r ≡ true
    → x ≡ e.end → y ≡ f.start → s ≡ same_position x y → s ≡ true → IsHeld (e ∷ []) f
opposite_found e f p q x y r s a b c d a' b' c' d' = opposite_holds e f (same_ends p q e.start f.end r a b c d) (same_ends
    x y e.end f.start s a' b' c' d')
