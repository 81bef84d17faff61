-- Lists that are read one item after another.
use Rattle.std.proofs.Common.{◌≡◌, refl, sym, ap, ◌∙◌, ℕ, suc, Bool, true, false, cond, List, [], ◌∷◌, ◌++◌, Option, Some, Result, Ok, Err, append_assoc, append-nil, length, ◌<◌, zero-lt-suc}
use Rattle.geometry_model.specs.Points.{Position}
use Rattle.wkt.specs.ReadingSteps.{repeats, last_of}
use Rattle.wkb.specs.ReadingSteps.{FailsAs}
use Rattle.wkb.specs.declared.binary_fault.BinaryFault.{BinaryFault}
use Rattle.wkb.specs.declared.binary_fault.BinaryFault.TheVariants as faults
use Rattle.wkb.specs.BinaryReading.{State, Reader, ◌>>=◌, and_then, pure, several, positions, position, settle}
use Rattle.wkb.specs.declared.binary_fault.Refusal.{Refusal}
use Rattle.wkb.specs.declared.grids.Grid.{Grid}

-- what was read before, and then what an outcome read
abbrev pub behind : {A : Type 0} → List A → Result (List A × State) Refusal → Result (List A × State) Refusal
behind before (Ok found) = Ok (before ++ found.0, found.1)
behind before (Err refusal) = Err refusal

-- nothing was read before
pub behind_nothing : {A : Type 0} (r : Result (List A × State) Refusal) → r ≡ behind [] r
behind_nothing (Ok found) = refl
behind_nothing (Err refusal) = refl

-- ---- items of one kind
pub several_done : {A : Type 0} (step : Reader A) (before : List A) (n : ℕ) (i : State) → n ≡ 0
    → behind before (several step n i) ≡ Ok (before, i)
unfolding several
several_done step before n i is = ap (λ (m : ℕ). behind before (several step m i)) is ∙ ap (λ l. Ok (l, i)) (append-nil before)

pub several_fails : {A : Type 0} (step : Reader A) (before : List A) (n left : ℕ) (i : State) (refusal : Refusal) → n ≡ suc left
    → step i ≡ Err refusal
    → behind before (several step n i) ≡ Err refusal
unfolding several
several_fails step before n left i refusal is failed =
    ap (λ (m : ℕ). behind before (several step m i)) is
    ∙ ap (λ r. behind before (and_then r (λ x. (several step left >>= λ more. pure (x ∷ more))))) failed

behind_more : {A : Type 0} (before : List A) (x : A) (r : Result (List A × State) Refusal)
    → behind before (and_then r (λ xs. pure (x ∷ xs))) ≡ behind (before ++ x ∷ []) r
behind_more before x (Ok found) = ap (λ l. Ok (l, found.1)) (sym (append_assoc before (x ∷ []) found.0))
behind_more before x (Err refusal) = refl

pub several_more : {A : Type 0} (step : Reader A) (before : List A) (n left : ℕ) (i j : State) (x : A) → n ≡ suc left
    → step i ≡ Ok (x, j)
    → behind before (several step n i) ≡ behind (before ++ x ∷ []) (several step left j)
unfolding several
several_more step before n left i j x is read =
    ap (λ (m : ℕ). behind before (several step m i)) is
    ∙ (ap (λ r. behind before (and_then r (λ x. (several step left >>= λ more. pure (x ∷ more))))) read
    ∙ behind_more before x (several step left j))

-- ---- positions of a line or ring
pub positions_done : (grid : Grid) (is_little : Bool) (last : Option Position) (before : List Position) (n : ℕ) (i : State)
    → n ≡ 0
    → behind before (positions grid is_little n last i) ≡ Ok (before, i)
unfolding positions
positions_done grid is_little last before n i is =
    ap (λ (m : ℕ). behind before (positions grid is_little m last i)) is ∙ ap (λ l. Ok (l, i)) (append-nil before)

abbrev goes_on : Grid → Bool → ℕ → Option Position → Position → Reader (List Position)
goes_on grid is_little left last p = settle last p >>= λ _.
    (positions grid is_little left (Some p) >>= λ more. pure (cond (repeats last p) more (p ∷ more)))

one_position : (grid : Grid) (is_little : Bool) (last : Option Position) (left : ℕ) (i : State)
    → positions grid is_little (suc left) last i ≡ and_then (position grid is_little i) (goes_on grid is_little left last)
unfolding positions
one_position grid is_little last left i = refl

pub positions_fail : (grid : Grid) (is_little : Bool) (last : Option Position) (before : List Position) (n left : ℕ) (i : State)
    (refusal : Refusal) → n ≡ suc left
    → position grid is_little i ≡ Err refusal → behind before (positions grid is_little n last i) ≡ Err refusal
positions_fail grid is_little last before n left i refusal is failed =
    ap (λ (m : ℕ). behind before (positions grid is_little m last i)) is
    ∙ (ap (behind before) (one_position grid is_little last left i)
    ∙ ap (λ r. behind before (and_then r (goes_on grid is_little left last))) failed)

pub settling_fails : (grid : Grid) (is_little : Bool) (last : Option Position) (before : List Position) (n left : ℕ)
    (i j : State) (p : Position) (refusal : Refusal) → n ≡ suc left
    → position grid is_little i ≡ Ok (p, j) → settle last p j ≡ Err refusal
    → behind before (positions grid is_little n last i) ≡ Err refusal
settling_fails grid is_little last before n left i j p refusal is read failed =
    ap (λ (m : ℕ). behind before (positions grid is_little m last i)) is
    ∙ (ap (behind before) (one_position grid is_little last left i)
    ∙ (ap (λ r. behind before (and_then r (goes_on grid is_little left last))) read
    ∙ ap (λ r. behind before (and_then r (λ _.
    (positions grid is_little left (Some p) >>= λ more. pure (cond (repeats last p) more (p ∷ more)))))) failed))

behind_kept : (before : List Position) (same : Bool) (p : Position) (r : Result (List Position × State) Refusal)
    → behind before (and_then r (λ more. pure (cond same more (p ∷ more)))) ≡ behind (before ++ cond same [] (p ∷ [])) r
behind_kept before true p (Ok found) = ap (λ l. Ok (l ++ found.0, found.1)) (sym (append-nil before))
behind_kept before false p (Ok found) = ap (λ l. Ok (l, found.1)) (sym (append_assoc before (p ∷ []) found.0))
behind_kept before same p (Err refusal) = refl

pub positions_more : (grid : Grid) (is_little : Bool) (last : Option Position) (before : List Position) (n left : ℕ)
    (i j k : State) (p : Position) → n ≡ suc left
    → position grid is_little i ≡ Ok (p, j) → settle last p j ≡ Ok (true, k)
    → behind before (positions grid is_little n last i)
    ≡ behind (before ++ cond (repeats last p) [] (p ∷ [])) (positions grid is_little left (Some p) k)
positions_more grid is_little last before n left i j k p is read settled =
    ap (λ (m : ℕ). behind before (positions grid is_little m last i)) is
    ∙ (ap (behind before) (one_position grid is_little last left i)
    ∙ (ap (λ r. behind before (and_then r (goes_on grid is_little left last))) read
    ∙ (ap (λ r. behind before (and_then r (λ _.
    (positions grid is_little left (Some p) >>= λ more. pure (cond (repeats last p) more (p ∷ more)))))) settled
    ∙ behind_kept before (repeats last p) p (positions grid is_little left (Some p) k))))

-- ---- faults
-- a step whose refusals are those of another fails as that one does
pub fails_alike : {A B : Type 0} (r : Result (A × State) Refusal) (s : Result (B × State) Refusal) (fault : BinaryFault)
    → ((refusal : Refusal) → r ≡ Err refusal → s ≡ Err refusal) → FailsAs r fault → FailsAs s fault
fails_alike r s (faults.Refused refusal) alike failed = alike refusal failed
fails_alike r s faults.OutOfMemory alike failed = tt

-- positions of which one is the last are some
pub some_by_last : (p : Position) (ps : List Position) → Some p ≡ last_of ps → 0 < length ps
some_by_last p [] is = absurd (cc is)
some_by_last p (q ∷ ps) is = zero-lt-suc (length ps)
