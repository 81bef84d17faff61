-- Of the places of what passes a test, those that are a given number: that one, if what is there passes, and else none.
use Rattle.std.proofs.Common.{◌≡◌, ◌==◌, ◌+◌, ◌<◌, ℕ, zero, suc, Bool, true, false, cond, if◌then◌else◌, List, [], ◌∷◌, filter, map, option_map, unwrap_or, slice_get, arith, length, refl, ap, ◌∙◌, eq-eqb}
use Rattle.std.proofs.lemmas.Bool.Decides.{nat_tests}
use Rattle.std.proofs.lemmas.List.Elements.{All-cons, All-nil}
use Rattle.std.specs.List.{All, enumerate_from}

-- the places, counted from a number, of what passes a test
abbrev pub places : {A : Type 0} → (A → Bool) → ℕ → List A → List ℕ
places p n xs = map (λ placed. placed.0) (filter (λ placed. p placed.1) (enumerate_from n xs))

-- whether what is at a place passes a test
abbrev pub passes_at : {A : Type 0} → (A → Bool) → List A → ℕ → Bool
passes_at p xs k = unwrap_or (option_map p (slice_get xs k)) false

-- a front that isn't the number is left out
skip : (j n : ℕ) (rest : List ℕ) → (n == j) ≡ false → filter (λ m. m == j) (n ∷ rest) ≡ filter (λ m. m == j) rest
skip j n rest h = ap (λ (b : Bool). cond b (n ∷ filter (λ m. m == j) rest) (filter (λ m. m == j) rest)) h

-- a front that is the number is kept
keep : (j n : ℕ) (rest : List ℕ) → (n == j) ≡ true → filter (λ m. m == j) (n ∷ rest) ≡ n ∷ filter (λ m. m == j) rest
keep j n rest h = ap (λ (b : Bool). cond b (n ∷ filter (λ m. m == j) rest) (filter (λ m. m == j) rest)) h

apart : (n j : ℕ) → j < n → (n == j) ≡ false
apart n j h = grind (arith, nat_tests)

-- a number below all places is none of them
below : {A : Type 0} (p : A → Bool) (n j : ℕ) (xs : List A) → j < n → filter (λ m. m == j) (places p n xs) ≡ []
below p n j [] h = refl
below p n j (x ∷ xs) h = elim (p x) as (λ b. filter (λ m. m == j) (map (λ placed. placed.0) (cond b ((n, x) ∷ filter (λ placed. p placed.1) (enumerate_from (n + 1) xs)) (filter (λ placed. p placed.1) (enumerate_from (n + 1) xs)))) ≡ []) [
  | true ↦ skip j n (places p (n + 1) xs) (apart n j h) ∙ below p (n + 1) j xs (omega (arith, h))
  | false ↦ below p (n + 1) j xs (omega (arith, h))
]

-- the places that are a number are that one, where what is there passes
pub found_once : {A : Type 0} (p : A → Bool) (n k j : ℕ) (xs : List A) → n + k ≡ j → filter (λ m. m == j) (places p n xs) ≡ (if passes_at p xs k then j ∷ [] else [])
found_once p n k j [] h = refl
found_once p n zero j (x ∷ xs) h = elim (p x) as (λ b. filter (λ m. m == j) (map (λ placed. placed.0) (cond b ((n, x) ∷ filter (λ placed. p placed.1) (enumerate_from (n + 1) xs)) (filter (λ placed. p placed.1) (enumerate_from (n + 1) xs)))) ≡ cond b (j ∷ []) []) [
  | true ↦ (let e : n ≡ j = omega (arith, h) in keep j n (places p (n + 1) xs) (eq-eqb n j e) ∙ ap (λ l. n ∷ l) (below p (n + 1) j xs (omega (arith, h))) ∙ ap (λ m. m ∷ []) e)
  | false ↦ below p (n + 1) j xs (omega (arith, h))
]
found_once p n (suc k) j (x ∷ xs) h = elim (p x) as (λ b. filter (λ m. m == j) (map (λ placed. placed.0) (cond b ((n, x) ∷ filter (λ placed. p placed.1) (enumerate_from (n + 1) xs)) (filter (λ placed. p placed.1) (enumerate_from (n + 1) xs)))) ≡ cond (passes_at p xs k) (j ∷ []) []) [
  | true ↦ (let e : n == j ≡ false = grind (arith, nat_tests) in skip j n (places p (n + 1) xs) e ∙ found_once p (n + 1) k j xs (omega (arith, h)))
  | false ↦ found_once p (n + 1) k j xs (omega (arith, h))
]

-- all places are below the number behind the last
pub within : {A : Type 0} (p : A → Bool) (n top : ℕ) (xs : List A) → n + length xs ≡ top → All (λ m. m < top) (places p n xs)
within p n top [] h = All-nil (λ m. m < top)
within p n top (x ∷ xs) h = elim (p x) as (λ b. All (λ m. m < top) (map (λ placed. placed.0) (cond b ((n, x) ∷ filter (λ placed. p placed.1) (enumerate_from (n + 1) xs)) (filter (λ placed. p placed.1) (enumerate_from (n + 1) xs))))) [
  | true ↦ All-cons (λ m. m < top) n (places p (n + 1) xs) (omega (arith, h)) (within p (n + 1) top xs (omega (arith, h)))
  | false ↦ within p (n + 1) top xs (omega (arith, h))
]
