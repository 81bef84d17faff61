-- Results taken in turn, up to the first fault.
use Rattle.std.proofs.Common.{◌≡◌, ◌∙◌, ◌+◌, ◌++◌, ◌<◌, ◌≤◌, ℕ, zero, suc, List, [], ◌∷◌, append-nil, Result, Ok, Err, ap, arith, get_or, length, map, refl, sym, take}
use Rattle.std.specs.Prelude.{IsOk}
use Rattle.std.proofs.lemmas.List.{append_assoc, map-append, take_all, take_more}
use Rattle.table_model.specs.Loading.{each}

-- the first answers, this many, are no faults
abbrev pub Passed : {A F : Type 0} → List (Result A F) → ℕ → List A → Type 0
Passed answers i front = take i answers ≡ map Ok front

-- values to which those of the first answers, this many, were appended
pub record Grown {A F : Type 0} (answers : List (Result A F)) (i : ℕ) (old new : List A) : Type 0 where
  pub front : List A
  pub passed : Passed answers i front
  pub grown : new ≡ old ++ front

-- one more of them
pub passed_more : {A F : Type 0} (answers : List (Result A F)) (i : ℕ) (front : List A) (x : A) (d : Result A F) → i < length answers
    → Passed answers i front → get_or answers i d ≡ Ok x → Passed answers (i + 1) (front ++ x ∷ [])
passed_more {A = A} {F = F} answers i front x d within so_far here = rw (take_more answers i d within, so_far, here, map-append {B = Result A F} Ok front (x ∷ [])) refl

-- the first fault
pub passed_fault : {A F : Type 0} (answers : List (Result A F)) (i : ℕ) (front : List A) (f : F) (d : Result A F) → i < length answers
    → Passed answers i front → get_or answers i d ≡ Err f → each answers ≡ Err f
passed_fault [] i front f d within so_far here = absurd (omega arith)
passed_fault (a ∷ answers) zero front f d within so_far here = rw here refl
passed_fault (a ∷ answers) (suc i) [] f d within so_far here = cc so_far
passed_fault (a ∷ answers) (suc i) (x ∷ front) f d within so_far here =
    let first : a ≡ Ok x = cc so_far in
    let rest : take i answers ≡ map Ok front = cc so_far in
    let fault = passed_fault answers i front f d (omega arith) rest here in
    rw (first, fault) refl

-- answers without a fault, taken in turn, are their values
all-ok : {A F : Type 0} (front : List A) → ◌≡◌ {A = Result (List A) F} (each (map Ok front)) (Ok front)
all-ok [] = refl
all-ok {F = F} (x ∷ front) = rw (all-ok {F = F} front) refl

-- no fault
pub passed_all : {A F : Type 0} (answers : List (Result A F)) (i : ℕ) (front : List A) → length answers ≤ i → Passed answers i front
    → each answers ≡ Ok front
passed_all answers i front past so_far = ap each (sym (take_all i answers past) ∙ so_far) ∙ all-ok front

-- those before a place are no faults
pub passed_front : {A F : Type 0} (answers : List (Result A F)) (i : ℕ) (front : List A) → Passed answers i front → IsOk (each (take i answers))
passed_front {F = F} answers i front so_far = rw (so_far, all-ok {F = F} front) refl

-- at first none is appended
pub grown_none : {A F : Type 0} (answers : List (Result A F)) (old : List A) → Grown answers 0 old old
grown_none answers old = record { front = []; passed = refl; grown = sym (append-nil old) }

-- one more is appended
pub grown_more : {A F : Type 0} (answers : List (Result A F)) (i : ℕ) (old new : List A) (x : A) (d : Result A F) → i < length answers → Grown answers i old new
    → get_or answers i d ≡ Ok x → Grown answers (i + 1) old (new ++ x ∷ [])
grown_more {A = A} answers i old new x d within g here = record {
  front = g.front ++ x ∷ [];
  passed = passed_more answers i g.front x d within g.passed here;
  grown = ap (λ (l : List A). l ++ x ∷ []) g.grown ∙ append_assoc old g.front (x ∷ []);
}
