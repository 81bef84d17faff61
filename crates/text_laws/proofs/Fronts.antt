-- Reading two texts that share a front: after it, one has a plus sign, and the other a number that is refused.
use Rattle.std.proofs.Common.{◌≡◌, refl, sym, ap, ap₂, ◌∙◌, subst, ℕ, ◌+◌, ◌-◌, ◌≤◌, ◌<◌, ◌==◌, ◌⊎◌, inl, inr, Bool, true, false, List, [], ◌∷◌, ◌++◌, length, take, drop, Result, Ok, Err, cond, if◌then◌else◌, length-drop, arith}
use Rattle.std.specs.List.{prefix_len}
use Rattle.std.specs.Char.{is_ascii_alphabetic}
use Rattle.std.proofs.lemmas.List.{take-append-le, drop-append-le}
use Rattle.std.proofs.lemmas.List.Sums.{prefix_len-le-length}
use Rattle.geometry_model.specs.WellKnownText.{begins_with, is_white}
use Rattle.geometry_model.specs.TextReading.{Input, Reader, FoundNumber, and_then, pure, after, refuse, run, eat, place, sees, ◌>>=◌, expect, padded, enclosed, numeral, coordinate}
use Rattle.geometry_model.specs.declared.text_faults.TextFault.{TextFault}
use Rattle.text_laws.proofs.TextSteps.{no_run}
use Rattle.text_laws.proofs.TextSound.{IfRead, then_read}

-- what comes after the front: a plus and more; a number that is refused with this fault, at this byte
pub record Fork : Type 0 where
  pub more : List ℕ
  pub tail : List ℕ
  pub fault : TextFault
  pub at : ℕ
  pub not_white : begins_with is_white tail ≡ false
  pub not_letter : begins_with is_ascii_alphabetic tail ≡ false
  pub not_comma : begins_with (λ b. b == 44) tail ≡ false
  pub not_open : begins_with (λ b. b == 40) tail ≡ false
  pub not_close : begins_with (λ b. b == 41) tail ≡ false
  pub refused : (j : Input) → j.left ≡ tail → j.at ≡ at → (n : FoundNumber) × (k : Input) × (numeral j ≡ Ok (n, k)) × ((l : Input) → coordinate n l ≡ Err fault)

abbrev pub plus : Fork → List ℕ
plus f = 43 ∷ f.more

-- both readings are within the front, at the same byte
pub record Shares (f : Fork) (i j : Input) : Type 0 where
  pub front : List ℕ
  pub first : i.left ≡ front ++ plus f
  pub second : j.left ≡ front ++ f.tail
  pub same : j.at ≡ i.at
  pub place : i.at + length front ≡ f.at

-- the first reading fails; or the second ends with the fault; or both found the same; or the first is at the plus, where that may be
abbrev pub Alike : {A : Type 0} → Fork → Type 0 → Result (A × Input) TextFault → Result (A × Input) TextFault → Type 0
Alike f S (Err fault) r = Unit {0}
Alike f S (Ok a) (Ok b) = ((b.0 ≡ a.0) × Shares f a.1 b.1) ⊎ (S × (a.1.left ≡ plus f))
Alike f S (Ok a) (Err fault) = (fault ≡ f.fault) ⊎ (S × (a.1.left ≡ plus f))

-- a step whose readings are alike
abbrev pub Follows : {A : Type 0} → Fork → Type 0 → Reader A → Type 0
Follows f S step = (i j : Input) → Shares f i j → Alike f S (step i) (step j)

-- a step that reads nothing of what begins with the plus
abbrev pub Stays : {A : Type 0} → Fork → Type 0 → Reader A → Type 0
Stays f S step = (i : Input) → i.left ≡ plus f → IfRead (step i) (λ _ k. S × (k.left ≡ plus f))

-- a second reading that ends with the fault is all that is asked for, whatever the first found
pub refused_alike : {A : Type 0} (f : Fork) (S : Type 0) (r : Result (A × Input) TextFault) (fault : TextFault) → fault ≡ f.fault → Alike f S r (Err fault)
refused_alike f S (Ok a) fault e = inl e
refused_alike f S (Err other) fault e = tt

-- so is a first reading that fails, or is at the plus where that may be
pub stuck_alike : {A : Type 0} (f : Fork) (S : Type 0) (r q : Result (A × Input) TextFault) → IfRead r (λ _ k. S × (k.left ≡ plus f)) → Alike f S r q
stuck_alike f S (Ok a) (Ok b) read = inr read
stuck_alike f S (Ok a) (Err fault) read = inr read
stuck_alike f S (Err fault) q read = tt

-- one step and then another
pub then_alike : {A B : Type 0} (f : Fork) (S T : Type 0) (r q : Result (A × Input) TextFault) (next : A → Reader B)
    → Alike f S r q → ((x : A) → Follows f T (next x)) → (S → (x : A) → Stays f T (next x)) → Alike f T (and_then r next) (and_then q next)
then_alike f S T (Err fault) q next h step stays = tt
then_alike f S T (Ok a) (Err fault) next (inl e) step stays = refused_alike f T (next a.0 a.1) fault e
then_alike f S T (Ok a) (Err fault) next (inr h) step stays = stuck_alike f T (next a.0 a.1) (Err fault) (stays h.0 a.0 a.1 h.1)
then_alike f S T (Ok a) (Ok b) next (inl h) step stays = subst (λ y. Alike f T (next a.0 a.1) (next y b.1)) (sym h.0) (step a.0 a.1 b.1 h.1)
then_alike f S T (Ok a) (Ok b) next (inr h) step stays = stuck_alike f T (next a.0 a.1) (next b.0 b.1) (stays h.0 a.0 a.1 h.1)

-- so a step and then another read the two texts alike where each does
pub then_follows : {A B : Type 0} (f : Fork) (S T : Type 0) (step : Reader A) (next : A → Reader B)
    → Follows f S step → ((x : A) → Follows f T (next x)) → (S → (x : A) → Stays f T (next x)) → Follows f T (step >>= next)
then_follows f S T step next h k stays i j shared = then_alike f S T (step i) (step j) next (h i j shared) k stays

-- the same where the first step never is at the plus
pub then_on : {A B : Type 0} (f : Fork) (T : Type 0) (step : Reader A) (next : A → Reader B)
    → Follows f ⊥ step → ((x : A) → Follows f T (next x)) → Follows f T (step >>= next)
then_on f T step next h k = then_follows f ⊥ T step next h k (λ s. absurd s)

-- two steps that read nothing at the plus read nothing there together
pub then_stays : {A B : Type 0} (f : Fork) (S T : Type 0) (step : Reader A) (next : A → Reader B) → Stays f S step → (S → (x : A) → Stays f T (next x)) → Stays f T (step >>= next)
then_stays f S T step next h k i e = then_read (λ _ j. S × (j.left ≡ plus f)) (step i) next _ (h i e) (λ x j read. k read.0 x j read.1)

-- whichever of two steps is taken, the texts are read alike where each of the two does so
pub if_follows : {A : Type 0} (f : Fork) (S : Type 0) (b : Bool) (s t : Reader A) → Follows f S s → Follows f S t → Follows f S (if b then s else t)
if_follows f S true s t h k = h
if_follows f S false s t h k = k

-- and nothing is read at the plus, where neither reads anything there
pub if_stays : {A : Type 0} (f : Fork) (S : Type 0) (b : Bool) (s t : Reader A) → Stays f S s → Stays f S t → Stays f S (if b then s else t)
if_stays f S true s t h k = h
if_stays f S false s t h k = k

-- what never is at the plus may
pub weaker_alike : {A : Type 0} (f : Fork) (S : Type 0) (r q : Result (A × Input) TextFault) → Alike f ⊥ r q → Alike f S r q
weaker_alike f S (Err fault) q h = tt
weaker_alike f S (Ok a) (Ok b) (inl h) = inl h
weaker_alike f S (Ok a) (Ok b) (inr h) = absurd h.0
weaker_alike f S (Ok a) (Err fault) (inl h) = inl h
weaker_alike f S (Ok a) (Err fault) (inr h) = absurd h.0

-- the same of a step
pub weaker_follows : {A : Type 0} (f : Fork) (S : Type 0) (step : Reader A) → Follows f ⊥ step → Follows f S step
weaker_follows f S step h i j shared = weaker_alike f S (step i) (step j) (h i j shared)

-- a step that reads nothing leaves both readings where they are
pub pure_follows : {A : Type 0} (f : Fork) (S : Type 0) (x : A) → Follows f S (pure x)
pure_follows f S x i j h = inl (refl, h)

pub pure_stays : {A : Type 0} (f : Fork) (S : Type 0) (x : A) → S → Stays f S (pure x)
pure_stays f S x s i e = (s, e)

-- a step that refuses the first text asks nothing of the second
pub refuse_follows : (A : Type 0) (f : Fork) (S : Type 0) (at : ℕ) → Follows {A = A} f S (refuse at)
refuse_follows A f S at i j h = tt

-- both readings are at the same byte, so they give the same place
pub place_follows : (f : Fork) → Follows f ⊥ place
place_follows f i j h = inl (h.same, h)

-- ---- runs of bytes
-- a run over the front and more ends within the front, where the byte behind it doesn't pass
pub prefix_front : (test : ℕ → Bool) (front rest : List ℕ) → begins_with test rest ≡ false → prefix_len test (front ++ rest) ≡ prefix_len test front
prefix_front test [] rest stop = no_run test rest stop
prefix_front test (x ∷ xs) rest stop = ap (λ n. cond (test x) (1 + n) 0) (prefix_front test xs rest stop)

-- behind the first n bytes of the front both are alike
pub moved : (f : Fork) (i j : Input) (h : Shares f i j) (m n : ℕ) → m ≡ n → n ≤ length h.front → Shares f (after n i) (after m j)
moved f i j h m n e fits = record {
  front = drop n h.front;
  first = ap (drop n) h.first ∙ drop-append-le n h.front (plus f) fits;
  second = (ap (λ k. drop k j.left) e ∙ ap (drop n) h.second) ∙ drop-append-le n h.front f.tail fits;
  same = ap₂ (λ a b. a + b) h.same e;
  place = go (length-drop n h.front) fits h.place;
}
  where
    go : length (drop n h.front) ≡ length h.front - n → n ≤ length h.front → i.at + length h.front ≡ f.at → (i.at + n) + length (drop n h.front) ≡ f.at
    go e fits p = omega (arith, e, fits, p)

-- a run that ends within the front
pub run_same : (f : Fork) (test : ℕ → Bool) (i j : Input) (h : Shares f i j) → prefix_len test (h.front ++ plus f) ≡ prefix_len test h.front → prefix_len test (h.front ++ f.tail) ≡ prefix_len test h.front
    → (take (prefix_len test j.left) j.left ≡ take (prefix_len test i.left) i.left) × Shares f (after (prefix_len test i.left) i) (after (prefix_len test j.left) j)
run_same f test i j h one other = (words, subst (λ n. Shares f (after n i) (after (prefix_len test j.left) j)) (sym here) (moved f i j h (prefix_len test j.left) n there (prefix_len-le-length test h.front)))
  where
    n : ℕ
    n = prefix_len test h.front

    here : prefix_len test i.left ≡ n
    here = ap (prefix_len test) h.first ∙ one

    there : prefix_len test j.left ≡ n
    there = ap (prefix_len test) h.second ∙ other

    words : take (prefix_len test j.left) j.left ≡ take (prefix_len test i.left) i.left
    words = (ap₂ take there h.second ∙ take-append-le n h.front f.tail (prefix_len-le-length test h.front))
        ∙ sym (ap₂ take here h.first ∙ take-append-le n h.front (plus f) (prefix_len-le-length test h.front))

-- where neither the plus nor the other text's next byte passes, both runs end within the front and are the same
pub run_follows : (f : Fork) (test : ℕ → Bool) → test 43 ≡ false → begins_with test f.tail ≡ false → Follows f ⊥ (run test)
run_follows f test no_plus quiet i j h = inl (run_same f test i j h (prefix_front test h.front (plus f) no_plus) (prefix_front test h.front f.tail quiet))

-- a run that a plus doesn't pass reads nothing at the plus
pub run_stays : (f : Fork) (test : ℕ → Bool) → test 43 ≡ false → Stays f (Unit {0}) (run test)
run_stays f test no_plus i e = (tt, ap (λ n. drop n i.left) (ap (prefix_len test) e ∙ no_run test (plus f) no_plus) ∙ e)

-- ---- single bytes
-- the first byte of a front that has one
pub same_first : (test : ℕ → Bool) (front one other : List ℕ) → 0 < length front → begins_with test (front ++ one) ≡ begins_with test (front ++ other)
same_first test [] one other long = absurd (omega (arith, long))
same_first test (x ∷ xs) one other long = refl

-- both see the same
pub sees_same : (f : Fork) (test : ℕ → Bool) → test 43 ≡ false → begins_with test f.tail ≡ false → (i j : Input) → Shares f i j → begins_with test j.left ≡ begins_with test i.left
sees_same f test no_plus quiet i j h = ap (begins_with test) h.second ∙ (go h.front ∙ sym (ap (begins_with test) h.first))
  where
    go : (front : List ℕ) → begins_with test (front ++ f.tail) ≡ begins_with test (front ++ plus f)
    go [] = quiet ∙ sym no_plus
    go (x ∷ xs) = refl

-- so a test of the next byte gives the same
pub sees_follows : (f : Fork) (test : ℕ → Bool) → test 43 ≡ false → begins_with test f.tail ≡ false → Follows f ⊥ (sees test)
sees_follows f test no_plus quiet i j h = inl (sees_same f test no_plus quiet i j h, h)

-- a byte that the plus isn't, where it comes next, is still in the front
one_fits : (f : Fork) (test : ℕ → Bool) → test 43 ≡ false → (i j : Input) (h : Shares f i j) → begins_with test i.left ≡ true → 1 ≤ length h.front
one_fits f test no_plus i j h e = go h.front (sym (ap (begins_with test) h.first) ∙ e)
  where
    go : (front : List ℕ) → begins_with test (front ++ plus f) ≡ true → 1 ≤ length front
    go [] g = absurd (let k : true ≡ false = sym g ∙ no_plus in cc)
    go (x ∷ xs) g = omega arith

-- both readings pass over the byte, which is in the front, or neither does
pub eaten : (f : Fork) (c : ℕ) (i j : Input) (h : Shares f i j) (b : Bool) → begins_with (λ x. x == c) i.left ≡ b → begins_with (λ x. x == c) j.left ≡ b → (b ≡ true → 1 ≤ length h.front)
    → Shares f (if begins_with (λ x. x == c) i.left then after 1 i else i) (if begins_with (λ x. x == c) j.left then after 1 j else j)
eaten f c i j h true e k fits = rw (e, k) (moved f i j h 1 1 refl (fits refl))
eaten f c i j h false e k fits = rw (e, k) h

-- a byte that neither text has behind its front is passed over by both readings or by neither
pub eat_follows : (f : Fork) (c : ℕ) → (43 == c) ≡ false → begins_with (λ x. x == c) f.tail ≡ false → Follows f ⊥ (eat c)
eat_follows f c no_plus quiet i j h = inl (same, eaten f c i j h _ refl same (one_fits f (λ x. x == c) no_plus i j h))
  where
    same : begins_with (λ x. x == c) j.left ≡ begins_with (λ x. x == c) i.left
    same = sees_same f (λ x. x == c) no_plus quiet i j h

-- a byte other than a plus isn't the next one at the plus
pub not_eaten : (f : Fork) (c : ℕ) → (43 == c) ≡ false → (i : Input) → i.left ≡ plus f → begins_with (λ x. x == c) i.left ≡ false
not_eaten f c no_plus i e = ap (begins_with (λ x. x == c)) e ∙ no_plus

-- so it isn't passed over there
pub eat_stays : (f : Fork) (c : ℕ) → (43 == c) ≡ false → Stays f (Unit {0}) (eat c)
eat_stays f c no_plus i e = rw (not_eaten f c no_plus i e) (tt, e)

-- a byte that has to come: both readings find it, or the first is refused
pub expect_follows : (f : Fork) (c : ℕ) → (43 == c) ≡ false → begins_with (λ x. x == c) f.tail ≡ false → Follows f ⊥ (expect c)
expect_follows f c no_plus quiet = then_on f ⊥ place (λ at. eat c >>= λ found. if found then pure true else refuse at) (place_follows f)
    (λ at. then_on f ⊥ (eat c) (λ found. if found then pure true else refuse at) (eat_follows f c no_plus quiet)
    (λ found. if_follows f ⊥ found (pure true) (refuse at) (pure_follows f ⊥ true) (refuse_follows Bool f ⊥ at)))

-- a parenthesis isn't where the plus is
pub expect_stays : (f : Fork) (c : ℕ) → (43 == c) ≡ false → Stays f ⊥ (expect c)
expect_stays f c no_plus i e = rw (not_eaten f c no_plus i e) tt

-- with white space around it a step reads the texts alike, since neither has white space behind the front
pub padded_follows : {A : Type 0} (f : Fork) (S : Type 0) (step : Reader A) → Follows f S step → Follows f S (padded step)
padded_follows f S step h = then_on f S (run is_white) (λ _. step >>= λ x. (run is_white >>= λ _. pure x)) (run_follows f is_white refl f.not_white)
    (λ _. then_follows f S S step (λ x. (run is_white >>= λ _. pure x)) h
    (λ x. then_on f S (run is_white) (λ _. pure x) (run_follows f is_white refl f.not_white) (λ _. pure_follows f S x))
    (λ applies x. then_stays f (Unit {0}) S (run is_white) (λ _. pure x) (run_stays f is_white refl) (λ _ _. pure_stays f S x applies)))

-- a step in parentheses may come to the plus, but the closing parenthesis that has to follow isn't there
pub enclosed_follows : {A : Type 0} (f : Fork) (S : Type 0) (step : Reader A) → Follows f S step → Follows f ⊥ (enclosed step)
enclosed_follows f S step h = then_on f ⊥ (expect 40) (λ _. step >>= λ x. (expect 41 >>= λ _. pure x)) (expect_follows f 40 refl f.not_open)
    (λ _. then_follows f S ⊥ step (λ x. (expect 41 >>= λ _. pure x)) h
    (λ x. then_on f ⊥ (expect 41) (λ _. pure x) (expect_follows f 41 refl f.not_close) (λ _. pure_follows f ⊥ x))
    (λ applies x. then_stays f ⊥ ⊥ (expect 41) (λ _. pure x) (expect_stays f 41 refl) (λ no _. absurd no)))
