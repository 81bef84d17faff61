-- The first of some edges, where a walk asks some of them, from the first one on.
use Rattle.std.proofs.Common.{◌≡◌, ◌⊎◌, inl, inr, subst, ap, ◌∙◌, List, [], ◌∷◌, ℕ, ◌<◌, ◌≤◌, length, take, get_or, arith}
use Rattle.std.specs.List.{All}
use Rattle.std.proofs.lemmas.List.Elements.{All-nil, All-cons}
use Rattle.geometry_model.specs.Geometries.{Edge}

-- after the first edge passed, the first one has
pub first_asked : (P : Edge → Type 0) (es : List Edge) (at : ℕ) (e : Edge) → (at ≡ 0) ⊎ All P (take 1 es)
    → at < length es → e ≡ get_or es at e → P e → All P (take 1 es)
first_asked P [] at e known within is passes = absurd (omega (arith, within))
first_asked P (x ∷ es) at e (inr all) within is passes = all
first_asked P (x ∷ es) at e (inl start) within is passes =
    All-cons P x [] (subst P (is ∙ ap (λ n. get_or (x ∷ es) n e) start) passes) (All-nil P)

-- and where no edge is left, it has, or there is none
pub first_of_all : (P : Edge → Type 0) (es : List Edge) (at : ℕ) → (at ≡ 0) ⊎ All P (take 1 es) → length es ≤ at
    → All P (take 1 es)
first_of_all P [] at known past = All-nil P
first_of_all P (x ∷ es) at (inr all) past = all
first_of_all P (x ∷ es) at (inl start) past = absurd (omega (arith, start, past))
