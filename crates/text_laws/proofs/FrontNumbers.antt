-- Numbers of two texts that share a front.
use Rattle.std.proofs.Common.{◌≡◌, refl, sym, ap, ◌∙◌, subst, ℕ, ◌+◌, ◌<◌, ◌==◌, ◌⊎◌, inl, inr, ℤ, Bool, true, false, List, [], ◌∷◌, ◌++◌, length, take, Result, Ok, Err, cond, nat_lt, if◌then◌else◌, arith}
use Rattle.std.specs.List.{list_all, prefix_len}
use Rattle.std.specs.Char.{is_ascii_digit}
use Rattle.std.specs.Str.Parse.{digits_value}
use Rattle.geometry_model.specs.Points.{Position}
use Rattle.geometry_model.specs.WellKnownText.{begins_with, is_white, is_whole, coordinate_limit}
use Rattle.geometry_model.specs.TextReading.{Input, Reader, FoundNumber, and_then, pure, refuse, too_long, run, eat, place, ◌>>◌, ◌>>=◌, sign, fraction, numeral, coordinate, space, position}
use Rattle.geometry_model.specs.declared.text_faults.TextFault.{TextFault}
use Rattle.text_laws.proofs.TextSteps.{no_run, read_run}
use Rattle.text_laws.proofs.TextSound.{IfRead}
use Rattle.text_laws.proofs.Fronts.{Fork, plus, Shares, Alike, Follows, Stays, refused_alike, stuck_alike, then_alike, then_follows, then_on, then_stays, if_follows, if_stays, pure_follows, pure_stays, refuse_follows, place_follows, moved, run_same, run_follows, run_stays, same_first, eaten, eat_stays}

-- ---- digits
-- a front is all digits, or its run of digits ends within it, whatever comes after
digits_end : (front : List ℕ) → (list_all is_ascii_digit front ≡ true) ⊎ ((rest : List ℕ) → prefix_len is_ascii_digit (front ++ rest) ≡ prefix_len is_ascii_digit front)
digits_end [] = inl refl
digits_end (x ∷ xs) = go (is_ascii_digit x) refl (digits_end xs)
  where
    go : (b : Bool) → is_ascii_digit x ≡ b → (list_all is_ascii_digit xs ≡ true) ⊎ ((rest : List ℕ) → prefix_len is_ascii_digit (xs ++ rest) ≡ prefix_len is_ascii_digit xs)
        → (list_all is_ascii_digit (x ∷ xs) ≡ true) ⊎ ((rest : List ℕ) → prefix_len is_ascii_digit (x ∷ (xs ++ rest)) ≡ prefix_len is_ascii_digit (x ∷ xs))
    go true e (inl all) = inl (rw e all)
    go b e (inr same) = inr (λ rest. ap (λ n. cond (is_ascii_digit x) (1 + n) 0) (same rest))
    go false e (inl all) = inr (λ rest. rw e refl)

-- a run of digits ends within the front and is the same in both texts, or the first reading is at the plus
pub digits_follow : (f : Fork) → Follows f (Unit {0}) (run is_ascii_digit)
digits_follow f i j h = go (digits_end h.front)
  where
    go : (list_all is_ascii_digit h.front ≡ true) ⊎ ((rest : List ℕ) → prefix_len is_ascii_digit (h.front ++ rest) ≡ prefix_len is_ascii_digit h.front)
        → Alike f (Unit {0}) (run is_ascii_digit i) (run is_ascii_digit j)
    go (inl all) = inr (tt, (read_run is_ascii_digit i.left h.front (plus f) h.first all refl).1)
    go (inr same) = inl (run_same f is_ascii_digit i j h (same (plus f)) (same f.tail))

-- ---- within a front that has a byte left
-- while the front has a byte left, both texts begin with it
both_begin : (f : Fork) (test : ℕ → Bool) (i j : Input) (h : Shares f i j) → 0 < length h.front → begins_with test j.left ≡ begins_with test i.left
both_begin f test i j h long = ap (begins_with test) h.second ∙ (same_first test h.front f.tail (plus f) long ∙ sym (ap (begins_with test) h.first))

-- so a byte is passed over by both readings or by neither
eat_inside : (f : Fork) (c : ℕ) (i j : Input) (h : Shares f i j) → 0 < length h.front → Alike f ⊥ (eat c i) (eat c j)
eat_inside f c i j h long = inl (both_begin f (λ b. b == c) i j h long, eaten f c i j h _ refl (both_begin f (λ b. b == c) i j h long) (λ _. long))

-- and both find the same sign
sign_inside : (f : Fork) (i j : Input) (h : Shares f i j) → 0 < length h.front → Alike f ⊥ (sign i) (sign j)
unfolding sign
sign_inside f i j h long = go _ refl (both_begin f (λ b. b == 45) i j h long)
  where
    go : (b : Bool) → begins_with (λ c. c == 45) i.left ≡ b → begins_with (λ c. c == 45) j.left ≡ begins_with (λ c. c == 45) i.left → Alike f ⊥ (sign i) (sign j)
    go true e k = rw (e, k ∙ e) (inl (refl, moved f i j h 1 1 refl long))
    go false e k = rw (e, k ∙ e) (inl (refl, eaten f 43 i j h _ refl (both_begin f (λ b. b == 43) i j h long) (λ _. long)))

-- at the plus no point is there, so no digits behind one are read
fraction_stays : (f : Fork) → Stays f (Unit {0}) fraction
unfolding fraction
fraction_stays f = then_stays f (Unit {0}) (Unit {0}) (eat 46) (λ met. if met then run is_ascii_digit else pure []) (eat_stays f 46 refl)
    (λ _ met. if_stays f (Unit {0}) met (run is_ascii_digit) (pure []) (run_stays f is_ascii_digit refl) (pure_stays {A = List ℕ} f (Unit {0}) [] tt))

-- a front is used up, or has a byte left
either_front : (front : List ℕ) → (front ≡ []) ⊎ (0 < length front)
either_front [] = inl refl
either_front (x ∷ xs) = inr (omega arith)

-- where it is used up the first text begins with the plus
at_plus : (f : Fork) (i j : Input) (h : Shares f i j) → h.front ≡ [] → i.left ≡ plus f
at_plus f i j h e = h.first ∙ ap (λ front. front ++ plus f) e

-- the digits behind a point are read alike, or the first reading is at the plus
fraction_follows : (f : Fork) → Follows f (Unit {0}) fraction
unfolding fraction
fraction_follows f i j h = go (either_front h.front)
  where
    go : (h.front ≡ []) ⊎ (0 < length h.front) → Alike f (Unit {0}) (fraction i) (fraction j)
    go (inl e) = stuck_alike f (Unit {0}) (fraction i) (fraction j) (fraction_stays f i (at_plus f i j h e))
    go (inr long) = then_alike f ⊥ (Unit {0}) (eat 46 i) (eat 46 j) (λ met. if met then run is_ascii_digit else pure []) (eat_inside f 46 i j h long)
        (λ met. if_follows f (Unit {0}) met (run is_ascii_digit) (pure []) (digits_follow f) (pure_follows f (Unit {0}) [])) (λ s. absurd s)

-- a number from this byte on
abbrev found : ℕ → Bool → List ℕ → List ℕ → FoundNumber
found at minus integer digits = record { at = at; minus = minus; whole = integer; fraction = digits }

abbrev behind_digits : ℕ → Bool → List ℕ → List ℕ → Reader FoundNumber
behind_digits at minus integer digits = if length integer + length digits == 0 then refuse at else pure (found at minus integer digits)

abbrev behind_sign : ℕ → Bool → Reader FoundNumber
behind_sign at minus = run is_ascii_digit >>= λ integer. (fraction >>= λ digits. behind_digits at minus integer digits)

-- the number is made of its digits without reading on
digits_stay : (f : Fork) (at : ℕ) (minus : Bool) (integer digits : List ℕ) → Stays f (Unit {0}) (behind_digits at minus integer digits)
digits_stay f at minus integer digits = if_stays f (Unit {0}) (length integer + length digits == 0) (refuse at) (pure (found at minus integer digits)) (λ _ _. tt) (pure_stays f (Unit {0}) (found at minus integer digits) tt)

-- behind a sign the digits and the fraction are read alike
sign_follows : (f : Fork) (at : ℕ) (minus : Bool) → Follows f (Unit {0}) (behind_sign at minus)
sign_follows f at minus = then_follows f (Unit {0}) (Unit {0}) (run is_ascii_digit) (λ integer. (fraction >>= λ digits. behind_digits at minus integer digits)) (digits_follow f)
    (λ integer. then_follows f (Unit {0}) (Unit {0}) fraction (λ digits. behind_digits at minus integer digits) (fraction_follows f)
    (λ digits. if_follows f (Unit {0}) (length integer + length digits == 0) (refuse at) (pure (found at minus integer digits)) (refuse_follows FoundNumber f (Unit {0}) at) (pure_follows f (Unit {0}) (found at minus integer digits)))
    (λ _ digits. digits_stay f at minus integer digits))
    (λ _ integer. then_stays f (Unit {0}) (Unit {0}) fraction (λ digits. behind_digits at minus integer digits) (fraction_stays f) (λ _ digits. digits_stay f at minus integer digits))

-- a number that begins within the front is read alike; the first reading may end it at the plus
numeral_inside : (f : Fork) (i j : Input) (h : Shares f i j) → 0 < length h.front → Alike f (Unit {0}) (numeral i) (numeral j)
unfolding numeral
numeral_inside f i j h long = subst (λ at. Alike f (Unit {0}) (numeral i) ((sign >>= λ minus. behind_sign at minus) j)) (sym h.same)
    (then_alike f ⊥ (Unit {0}) (sign i) (sign j) (λ minus. behind_sign i.at minus) (sign_inside f i j h long) (sign_follows f i.at) (λ s. absurd s))

-- ---- a number and what follows it
-- a number that begins within the front is read alike; where the front ends, the second text has the number that is refused
pub number_follows : {B : Type 0} (f : Fork) (T : Type 0) (next : FoundNumber → Reader B) → ((n : FoundNumber) → Follows f T (next n)) → ((n : FoundNumber) → Stays f T (next n))
    → ((n : FoundNumber) → ((l : Input) → coordinate n l ≡ Err f.fault) → (k : Input) → next n k ≡ Err f.fault) → Follows f T (numeral >>= next)
number_follows f T next follows stays refused i j h = go (either_front h.front)
  where
    here : (front : List ℕ) → front ≡ [] → i.at + length front ≡ f.at → i.at ≡ f.at
    here front e p = omega (arith, (ap length e), p)

    ended : (r : Result (FoundNumber × Input) TextFault) (n : FoundNumber) (k : Input) → r ≡ Ok (n, k) → ((l : Input) → coordinate n l ≡ Err f.fault) → and_then r next ≡ Err f.fault
    ended r n k e bad = ap (λ q. and_then q next) e ∙ refused n bad k

    met : h.front ≡ [] → and_then (numeral j) next ≡ Err f.fault
    met e = let known = f.refused j (h.second ∙ ap (λ front. front ++ f.tail) e) (h.same ∙ here h.front e h.place) in ended (numeral j) known.0 known.1 known.2 known.3

    go : (h.front ≡ []) ⊎ (0 < length h.front) → Alike f T (and_then (numeral i) next) (and_then (numeral j) next)
    go (inl e) = subst (λ q. Alike f T (and_then (numeral i) next) q) (sym (met e)) (refused_alike f T (and_then (numeral i) next) f.fault refl)
    go (inr long) = then_alike f (Unit {0}) T (numeral i) (numeral j) next (numeral_inside f i j h long) follows (λ _. stays)

-- one number has one value or one fault, in both readings
coordinate_cases : (f : Fork) (n : FoundNumber) (i j : Input) → Shares f i j → (integral past : Bool) → is_whole n.fraction ≡ integral → nat_lt coordinate_limit (digits_value 10 n.whole) ≡ past
    → Alike f ⊥ (coordinate n i) (coordinate n j)
unfolding coordinate
coordinate_cases f n i j h false past e g = rw e tt
coordinate_cases f n i j h true true e g = rw (e, g) tt
coordinate_cases f n i j h true false e g = rw (e, g) (inl (refl, h))

coordinate_follows : (f : Fork) (n : FoundNumber) → Follows f ⊥ (coordinate n)
coordinate_follows f n i j h = coordinate_cases f n i j h _ _ refl refl

-- what a number stands for is known without reading on, so a reading at the plus stays there
coordinate_left : (f : Fork) (n : FoundNumber) (i : Input) → i.left ≡ plus f → (integral past : Bool) → is_whole n.fraction ≡ integral → nat_lt coordinate_limit (digits_value 10 n.whole) ≡ past
    → IfRead (coordinate n i) (λ _ k. Unit {0} × (k.left ≡ plus f))
unfolding coordinate
coordinate_left f n i h false past e g = rw e tt
coordinate_left f n i h true true e g = rw (e, g) tt
coordinate_left f n i h true false e g = rw (e, g) (tt, h)

coordinate_stays : (f : Fork) (n : FoundNumber) → Stays f (Unit {0}) (coordinate n)
coordinate_stays f n i h = coordinate_left f n i h _ _ refl refl

-- neither text has white space behind the front, so both readings find the same white space
space_follows : (f : Fork) → Follows f ⊥ space
unfolding space
space_follows f = then_on f ⊥ place (λ at. run is_white >>= λ white. if length white == 0 then refuse at else pure white) (place_follows f)
    (λ at. then_on f ⊥ (run is_white) (λ white. if length white == 0 then refuse at else pure white) (run_follows f is_white refl f.not_white)
    (λ white. if_follows f ⊥ (length white == 0) (refuse at) (pure white) (refuse_follows (List ℕ) f ⊥ at) (pure_follows f ⊥ white)))

-- white space isn't where the plus is
space_stays : (f : Fork) (T : Type 0) → Stays f T space
unfolding space
space_stays f T i e = rw (ap (λ n. length (take n i.left) == 0) (ap (prefix_len is_white) e ∙ no_run is_white (plus f) refl)) tt

-- ---- positions
abbrev second_number : ℤ → Reader Position
second_number x = numeral >>= λ m. (coordinate m >>= λ y. pure (record { x = x; y = y }))

abbrev behind_first : ℤ → Reader Position
behind_first x = space >> second_number x

-- the second number of a position is read alike
second_follows : (f : Fork) (x : ℤ) → Follows f (Unit {0}) (second_number x)
second_follows f x = number_follows f (Unit {0}) (λ m. (coordinate m >>= λ y. pure (record { x = x; y = y })))
    (λ m. then_on f (Unit {0}) (coordinate m) (λ y. pure (record { x = x; y = y })) (coordinate_follows f m) (λ y. pure_follows {A = Position} f (Unit {0}) (record { x = x; y = y })))
    (λ m. then_stays f (Unit {0}) (Unit {0}) (coordinate m) (λ y. pure (record { x = x; y = y })) (coordinate_stays f m) (λ _ y. pure_stays {A = Position} f (Unit {0}) (record { x = x; y = y }) tt))
    (λ m bad k. ap (λ r. and_then {B = Position} r (λ y. pure (record { x = x; y = y }))) (bad k))

-- so is a position from its first number on: behind that number white space has to come, which isn't at the plus
first_follows : (f : Fork) → Follows f (Unit {0}) (numeral >>= λ n. (coordinate n >>= behind_first))
first_follows f = number_follows f (Unit {0}) (λ n. (coordinate n >>= behind_first))
    (λ n. then_on f (Unit {0}) (coordinate n) behind_first (coordinate_follows f n) (λ x. then_on f (Unit {0}) space (λ _. second_number x) (space_follows f) (λ _. second_follows f x)))
    (λ n. then_stays f (Unit {0}) (Unit {0}) (coordinate n) behind_first (coordinate_stays f n) (λ _ x. then_stays f ⊥ (Unit {0}) space (λ _. second_number x) (space_stays f ⊥) (λ no _. absurd no)))
    (λ n bad k. ap (λ r. and_then r behind_first) (bad k))

-- where no position may come the first reading fails
full_alike : (f : Fork) (r q : Result (FoundNumber × Input) TextFault) → Alike f (Unit {0}) (and_then r (λ n. (too_long >>= behind_first))) (and_then q (λ n. (too_long >>= behind_first)))
full_alike f (Ok a) q = tt
full_alike f (Err fault) q = tt

-- a position is read alike, whether one may come or not
pub position_follows : (f : Fork) (room : ℕ) → Follows f (Unit {0}) (position room)
unfolding position
position_follows f room i j h = go (room == 0) refl
  where
    go : (b : Bool) → (room == 0) ≡ b → Alike f (Unit {0}) (position room i) (position room j)
    go true e = rw e (full_alike f (numeral i) (numeral j))
    go false e = rw e (first_follows f i j h)
