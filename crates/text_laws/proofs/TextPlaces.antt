-- Reading loses no byte.
use Rattle.std.proofs.Common.{◌≡◌, refl, sym, ◌∙◌, ℕ, zero, suc, ◌+◌, ◌-◌, ◌≤◌, ◌==◌, Bool, true, false, List, [], ◌∷◌, length, Result, Ok, Err, nat_lt, if◌then◌else◌, length-drop, suc-le-suc, zero-le, arith}
use Rattle.std.specs.List.{prefix_len}
use Rattle.std.specs.Char.{is_ascii_digit}
use Rattle.std.specs.Str.Parse.{digits_value}
use Rattle.std.proofs.lemmas.Bool.{true≢false}
use Rattle.std.proofs.lemmas.List.Sums.{prefix_len-le-length}
use Rattle.geometry_model.specs.WellKnownText.{begins_with, coordinate_limit, is_white, is_whole}
use Rattle.geometry_model.specs.TextReading.{Input, Reader, FoundNumber, pure, after, refuse, too_long, run, eat, ◌>>◌, ◌>>=◌, expect, padded, enclosed, sign, fraction, numeral, coordinate, space, position, point, separated, line, parts, polygon}
use Rattle.geometry_model.specs.declared.text_faults.TextFault.{TextFault}
use Rattle.text_laws.proofs.TextSound.{IfRead, then_read}

-- no byte is lost: the place and what is left keep their sum

abbrev pub total : Input → ℕ
total i = i.at + length i.left

abbrev pub Keeps : {A : Type 0} → Reader A → Type 0
Keeps step = (i : Input) → IfRead (step i) (λ _ j. total j ≡ total i)

-- a sum that is kept may be named by any number that is equal to it
pub carried : {A : Type 0} (r : Result (A × Input) TextFault) (m n : ℕ) → m ≡ n → IfRead r (λ _ j. total j ≡ m) → IfRead r (λ _ j. total j ≡ n)
carried (Ok found) m n e read = read ∙ e
carried (Err fault) m n e read = tt

-- one step and then another lose no byte where neither does
pub keeps_then : {A B : Type 0} (step : Reader A) (next : A → Reader B) → Keeps step → ((x : A) → Keeps (next x)) → Keeps (step >>= next)
keeps_then step next keeps others i = then_read (λ _ j. total j ≡ total i) (step i) _ _ (keeps i)
    (λ x j e. carried (next x j) (total j) (total i) e (others x j))

-- whichever of two steps is taken, it loses no byte where neither does
pub keeps_if : {A : Type 0} (b : Bool) (s t : Reader A) → Keeps s → Keeps t → Keeps (if b then s else t)
keeps_if true s t k l = k
keeps_if false s t k l = l

-- bytes that are passed over are taken off what is left, and the place moves on by as many
pub after_keeps : (n : ℕ) (i : Input) → n ≤ length i.left → total (after n i) ≡ total i
after_keeps n i fits = omega (arith, length-drop n i.left, fits)

-- a run is no longer than what is left, so it loses no byte
pub run_keeps : (test : ℕ → Bool) → Keeps (run test)
run_keeps test i = after_keeps (prefix_len test i.left) i (prefix_len-le-length test i.left)

-- a text that begins with a byte has one
pub one_byte : (test : ℕ → Bool) (xs : List ℕ) → begins_with test xs ≡ true → 1 ≤ length xs
one_byte test [] e = absurd (true≢false (sym e))
one_byte test (x ∷ xs) e = suc-le-suc zero-le

-- a byte is passed over only where it comes next
pub ate : (c : ℕ) (i : Input) (met : Bool) → begins_with (λ b. b == c) i.left ≡ met → total (if met then after 1 i else i) ≡ total i
ate c i true e = after_keeps 1 i (one_byte (λ b. b == c) i.left e)
ate c i false e = refl

-- a byte that comes next is passed over, and otherwise nothing is
pub eat_keeps : (c : ℕ) → Keeps (eat c)
eat_keeps c i = ate c i _ refl

pub pure_keeps : {A : Type 0} (x : A) → Keeps (pure x)
pure_keeps x i = refl

-- a byte that has to come is passed over, or the step is refused
pub expect_keeps : (c : ℕ) → Keeps (expect c)
expect_keeps c i = keeps_then (eat c) (λ found. if found then pure true else refuse i.at) (eat_keeps c)
    (λ found. keeps_if found (pure true) (refuse i.at) (pure_keeps true) (λ _. tt)) i

-- white space, a step that loses no byte, and white space
pub padded_keeps : {A : Type 0} (step : Reader A) → Keeps step → Keeps (padded step)
padded_keeps step keeps = keeps_then (run is_white) (λ _. step >>= λ x. (run is_white >>= λ _. pure x)) (run_keeps is_white)
    (λ _. keeps_then step (λ x. (run is_white >>= λ _. pure x)) keeps (λ x. keeps_then (run is_white) (λ _. pure x) (run_keeps is_white) (λ _. pure_keeps x)))

-- a parenthesis, a step that loses no byte, and a parenthesis
pub enclosed_keeps : {A : Type 0} (step : Reader A) → Keeps step → Keeps (enclosed step)
enclosed_keeps step keeps = keeps_then (expect 40) (λ _. step >>= λ x. (expect 41 >>= λ _. pure x)) (expect_keeps 40)
    (λ _. keeps_then step (λ x. (expect 41 >>= λ _. pure x)) keeps (λ x. keeps_then (expect 41) (λ _. pure x) (expect_keeps 41) (λ _. pure_keeps x)))

-- from here on each step of the grammar is made of steps that lose no byte, so it loses none: first a sign
pub sign_keeps : Keeps sign
unfolding sign
sign_keeps = keeps_then (eat 45) (λ minus. if minus then pure true else (eat 43 >> pure false)) (eat_keeps 45)
    (λ minus. keeps_if minus (pure true) (eat 43 >> pure false) (pure_keeps true) (keeps_then (eat 43) (λ _. pure false) (eat_keeps 43) (λ _. pure_keeps false)))

-- a point with digits behind it, or nothing
pub fraction_keeps : Keeps fraction
unfolding fraction
fraction_keeps = keeps_then (eat 46) (λ met. if met then run is_ascii_digit else pure []) (eat_keeps 46)
    (λ met. keeps_if {A = List ℕ} met (run is_ascii_digit) (pure []) (run_keeps is_ascii_digit) (pure_keeps {A = List ℕ} []))

-- the number found
abbrev found_number : ℕ → Bool → List ℕ → List ℕ → FoundNumber
found_number at minus integer digits = record { at = at; minus = minus; whole = integer; fraction = digits }

-- a number: a sign, digits and a fraction
pub numeral_keeps : Keeps numeral
unfolding numeral
numeral_keeps i = keeps_then sign (λ minus. run is_ascii_digit >>= λ integer. fraction >>= λ digits.
    (if length integer + length digits == 0 then refuse i.at else pure (found_number i.at minus integer digits))) sign_keeps
    (λ minus. keeps_then (run is_ascii_digit) _ (run_keeps is_ascii_digit) (λ integer. keeps_then fraction _ fraction_keeps
    (λ digits. keeps_if (length integer + length digits == 0) (refuse i.at) (pure (found_number i.at minus integer digits))
    (λ _. tt) (pure_keeps (found_number i.at minus integer digits))))) i

-- what a number stands for is known without reading on, whether the number is refused or not
coordinate_cases : (n : FoundNumber) (i : Input) (integral past : Bool) → is_whole n.fraction ≡ integral → nat_lt coordinate_limit (digits_value 10 n.whole) ≡ past
    → IfRead (coordinate n i) (λ _ j. total j ≡ total i)
unfolding coordinate
coordinate_cases n i false past e f = rw e tt
coordinate_cases n i true true e f = rw (e, f) tt
coordinate_cases n i true false e f = rw (e, f) refl

pub coordinate_keeps : (n : FoundNumber) → Keeps (coordinate n)
coordinate_keeps n i = coordinate_cases n i _ _ refl refl

-- white space that has to come
pub space_keeps : Keeps space
unfolding space
space_keeps i = keeps_then (run is_white) (λ white. if length white == 0 then refuse i.at else pure white) (run_keeps is_white)
    (λ white. keeps_if (length white == 0) (refuse i.at) (pure white) (λ _. tt) (pure_keeps white)) i

-- a position: a number, white space and a number
pub position_keeps : (room : ℕ) → Keeps (position room)
unfolding position
position_keeps room = keeps_then numeral _ numeral_keeps (λ n. keeps_then (if room == 0 then too_long else coordinate n) _
    (keeps_if (room == 0) too_long (coordinate n) (λ _. tt) (coordinate_keeps n))
    (λ x. keeps_then space _ space_keeps (λ _. keeps_then numeral _ numeral_keeps (λ m. keeps_then (coordinate m) _ (coordinate_keeps m) (λ y i. refl)))))

-- a point of a MULTIPOINT, with parentheses or without
pub point_keeps : (room : ℕ) → Keeps (point room)
unfolding point
point_keeps room i = keeps_if (begins_with (λ c. c == 40) i.left) (enclosed (padded (position room))) (position room)
    (enclosed_keeps (padded (position room)) (padded_keeps (position room) (position_keeps room))) (position_keeps room) i

-- items with commas between, by how many may still come
pub separated_keeps : {A : Type 0} (item : ℕ → Reader A) → ((room : ℕ) → Keeps (item room)) → (room : ℕ) → Keeps (separated item room)
unfolding separated
separated_keeps item keeps zero = keeps_then (padded (item zero)) _ (padded_keeps (item zero) (keeps zero)) (λ x. pure_keeps (x ∷ []))
separated_keeps item keeps (suc room) = keeps_then (padded (item (suc room))) _ (padded_keeps (item (suc room)) (keeps (suc room)))
    (λ x. keeps_then (eat 44) _ (eat_keeps 44) (λ met. keeps_if met (separated item room >>= λ more. pure (x ∷ more)) (pure (x ∷ []))
    (keeps_then (separated item room) _ (separated_keeps item keeps room) (λ more. pure_keeps (x ∷ more))) (pure_keeps (x ∷ []))))

-- a line or ring: positions in parentheses
pub line_keeps : (room : ℕ) → Keeps (line room)
unfolding line
line_keeps room = enclosed_keeps (separated position room) (separated_keeps position position_keeps room)

-- elements or rings; where none may come the step ends with a fault
pub parts_keeps : (count room : ℕ) → Keeps (parts count room)
unfolding parts
parts_keeps zero room = padded_keeps (expect 40 >> too_long) (keeps_then (expect 40) _ (expect_keeps 40) (λ _ i. tt))
parts_keeps (suc count) room = keeps_then (padded (line room)) _ (padded_keeps (line room) (line_keeps room))
    (λ x. keeps_then (eat 44) _ (eat_keeps 44) (λ met. keeps_if met (parts count (room - length x) >>= λ more. pure (x ∷ more)) (pure (x ∷ []))
    (keeps_then (parts count (room - length x)) _ (parts_keeps count (room - length x)) (λ more. pure_keeps (x ∷ more))) (pure_keeps (x ∷ []))))

-- a polygon: rings in parentheses
pub polygon_keeps : (count room : ℕ) → Keeps (polygon count room)
unfolding polygon
polygon_keeps count room = enclosed_keeps (parts count room) (parts_keeps count room)
