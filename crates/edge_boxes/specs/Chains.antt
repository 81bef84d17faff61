-- Chains of edges.
use Rattle.std.specs.Prelude.{◌≡◌, ℕ, suc, ◌-◌, ◌<◌, ◌≤◌, List, length, get_or}
use Rattle.std.specs.List.{All, Contains}
use Rattle.std.specs.List.Sorted.{IsNonDecreasing}
use Rattle.geometry_model.specs.Geometries.{Edge}

-- the edge at this place, if it isn't the last one, ends where the next one starts
abbrev pub IsLinked : List Edge → ℕ → Type 0
IsLinked edges i = suc i < length edges → (e f : Edge) → e ≡ get_or edges i e → f ≡ get_or edges (suc i) f → e.end ≡ f.start

-- each edge from one place to before another ends where the next one starts
abbrev pub IsChain : List Edge → ℕ → ℕ → Type 0
IsChain edges first last = (i : ℕ) → first ≤ i → i < last → IsLinked edges i

-- the edge at this place has one before it, which doesn't end where it starts
pub record IsBreak (edges : List Edge) (place : ℕ) : Type 0 where
  pub later : 0 < place
  pub within : place < length edges
  pub parted : (e f : Edge) → e ≡ get_or edges (place - 1) e → f ≡ get_or edges place f → e.end ≡ f.start → ⊥

-- the places of all breaks, ascending: at every other place an edge ends where the next one starts
pub record AreBreaks (breaks : List ℕ) (edges : List Edge) : Type 0 where
  pub ascend : IsNonDecreasing breaks
  pub parted : All (IsBreak edges) breaks
  pub linked : (i : ℕ) → (Contains breaks (suc i) → ⊥) → IsLinked edges i

-- the places of all breaks before a place, ascending
pub record AreBreaksTo (breaks : List ℕ) (edges : List Edge) (place : ℕ) : Type 0 where
  pub ascend : IsNonDecreasing breaks
  pub parted : All (IsBreak edges) breaks
  pub below : All (λ b. b < place) breaks
  pub linked : (i : ℕ) → suc i < place → (Contains breaks (suc i) → ⊥) → IsLinked edges i
