-- The last number pair of a text: where "+0 0" and no further digit come after a front, a position begins there.
use Rattle.std.proofs.Common.{◌≡◌, refl, sym, ap, ◌∙◌, subst, ℕ, ◌+◌, ◌<◌, ◌==◌, ◌||◌, ◌⊎◌, inl, inr, Bool, true, false, List, [], ◌∷◌, ◌++◌, length, append_assoc, arith}
use Rattle.std.specs.List.{list_all, list_any}
use Rattle.std.specs.Char.{is_ascii_digit}
use Rattle.std.proofs.lemmas.Bool.{true≢false, and_parts, or_parts, or_cases, or_left, or_right}
use Rattle.basics.proofs.Lists.{any_behind}
use Rattle.geometry_model.specs.Points.{Position}
use Rattle.geometry_model.specs.WellKnownText.{◌⨾◌, Blank, Padded, Sign, Fraction, Numeral, PositionText, is_white}
use Rattle.text_laws.proofs.TextSteps.{Took, apart}
use Rattle.text_laws.proofs.OpenParts.{any_within, head_of, tail_of}

-- what is in the place of a number pair
abbrev pub pair : List ℕ → List ℕ
pair closing = 43 ∷ 48 ∷ 32 ∷ 48 ∷ closing

abbrev pub HasDigit : List ℕ → Type 0
HasDigit text = list_any is_ascii_digit text ≡ true

abbrev pub NoDigit : List ℕ → Type 0
NoDigit text = list_any is_ascii_digit text ≡ false

pub clash : {A : Type 0} (text : List ℕ) → HasDigit text → NoDigit text → A
clash text has none = absurd (true≢false (sym has ∙ none))

-- ---- lists put together in two ways
-- the first front is the shorter one; or it is the second and more
data Overlap (xs ys us vs : List ℕ) : Type 0 where
  Shorter : (c : ℕ) (w : List ℕ) → us ≡ xs ++ (c ∷ w) → ys ≡ c ∷ (w ++ vs) → Overlap xs ys us vs
  Longer : (w : List ℕ) → xs ≡ us ++ w → w ++ ys ≡ vs → Overlap xs ys us vs

-- where one text is cut in two ways, the one front goes on where the other ends
overlap : (xs ys us vs : List ℕ) → xs ++ ys ≡ us ++ vs → Overlap xs ys us vs
overlap xs ys [] vs e = Overlap.Longer xs refl e
overlap [] ys (u ∷ us) vs e = Overlap.Shorter u us refl e
overlap (x ∷ xs) ys (u ∷ us) vs e = go (overlap xs ys us vs (tail_of x u (xs ++ ys) (us ++ vs) e))
  where
    same : x ≡ u
    same = head_of x u (xs ++ ys) (us ++ vs) e

    go : Overlap xs ys us vs → Overlap (x ∷ xs) ys (u ∷ us) vs
    go (Overlap.Shorter c w f g) = Overlap.Shorter c w (ap (λ l. u ∷ l) f ∙ ap (λ z. z ∷ (xs ++ (c ∷ w))) (sym same)) g
    go (Overlap.Longer w f g) = Overlap.Longer w (ap (λ z. z ∷ xs) same ∙ ap (λ l. u ∷ l) f) g

-- ---- behind a byte that the pair doesn't have, more digits come: the pair is among what is there
pub record Within (front P : List ℕ) (c : ℕ) (V closing : List ℕ) : Type 0 where
  pub rest : List ℕ
  pub front_is : front ≡ P ++ (c ∷ rest)
  pub left_is : V ≡ rest ++ pair closing

-- no parenthesis or comma with digits behind it is from the pair on: the pair has neither, and no digits come behind it
not_in_pair : (P : List ℕ) (c : ℕ) (V closing : List ℕ) → (c ≡ 40) ⊎ (c ≡ 44) → pair closing ≡ P ++ (c ∷ V) → HasDigit V → NoDigit closing → ⊥
not_in_pair [] c V closing k e has none = other k (head_of 43 c (48 ∷ 32 ∷ 48 ∷ closing) V e)
  where
    other : (c ≡ 40) ⊎ (c ≡ 44) → 43 ≡ c → ⊥
    other k e = grind (arith, k, e)
not_in_pair (p ∷ []) c V closing k e has none = other k (head_of 48 c (32 ∷ 48 ∷ closing) V (tail_of 43 p _ _ e))
  where
    other : (c ≡ 40) ⊎ (c ≡ 44) → 48 ≡ c → ⊥
    other k e = grind (arith, k, e)
not_in_pair (p ∷ q ∷ []) c V closing k e has none = other k (head_of 32 c (48 ∷ closing) V (tail_of 48 q _ _ (tail_of 43 p _ _ e)))
  where
    other : (c ≡ 40) ⊎ (c ≡ 44) → 32 ≡ c → ⊥
    other k e = grind (arith, k, e)
not_in_pair (p ∷ q ∷ r ∷ []) c V closing k e has none = other k (head_of 48 c closing V (tail_of 32 r _ _ (tail_of 48 q _ _ (tail_of 43 p _ _ e))))
  where
    other : (c ≡ 40) ⊎ (c ≡ 44) → 48 ≡ c → ⊥
    other k e = grind (arith, k, e)
not_in_pair (p ∷ q ∷ r ∷ s ∷ P) c V closing k e has none =
    clash closing (ap (list_any is_ascii_digit) (tail_of 48 s _ _ (tail_of 32 r _ _ (tail_of 48 q _ _ (tail_of 43 p _ _ e)))) ∙ any_within is_ascii_digit P c V has) none

-- a parenthesis or comma with digits behind it comes before the pair, as it isn't in the pair and no digits come behind that
pub within : (front P : List ℕ) (c : ℕ) (V closing : List ℕ) → (c ≡ 40) ⊎ (c ≡ 44) → front ++ pair closing ≡ P ++ (c ∷ V) → HasDigit V → NoDigit closing → Within front P c V closing
within [] P c V closing k e has none = absurd (not_in_pair P c V closing k e has none)
within (x ∷ xs) [] c V closing k e has none = record { rest = xs; front_is = ap (λ z. z ∷ xs) (head_of x c (xs ++ pair closing) V e); left_is = sym (tail_of x c (xs ++ pair closing) V e) }
within (x ∷ xs) (p ∷ P) c V closing k e has none = go (within xs P c V closing k (tail_of x p (xs ++ pair closing) (P ++ (c ∷ V)) e) has none)
  where
    go : Within xs P c V closing → Within (x ∷ xs) (p ∷ P) c V closing
    go b = record { rest = b.rest; front_is = ap (λ z. z ∷ xs) (head_of x p (xs ++ pair closing) (P ++ (c ∷ V)) e) ∙ ap (λ l. p ∷ l) b.front_is; left_is = b.left_is }

-- ---- digits of texts put together
pub any_left : (test : ℕ → Bool) (xs ys : List ℕ) → list_any test xs ≡ true → list_any test (xs ++ ys) ≡ true
any_left test [] ys e = absurd (true≢false (sym e))
any_left test (x ∷ xs) ys e = go (or_cases (test x) (list_any test xs) e) (any_left test xs ys)
  where
    go : (test x ≡ true) ⊎ (list_any test xs ≡ true) → (list_any test xs ≡ true → list_any test (xs ++ ys) ≡ true) → (test x || list_any test (xs ++ ys)) ≡ true
    go (inl h) again = or_left (test x) (list_any test (xs ++ ys)) h
    go (inr h) again = or_right (test x) (list_any test (xs ++ ys)) (again h)

pub none_of_both : (test : ℕ → Bool) (xs ys : List ℕ) → list_any test xs ≡ false → list_any test ys ≡ false → list_any test (xs ++ ys) ≡ false
none_of_both test [] ys e f = f
none_of_both test (x ∷ xs) ys e f = let parts = or_parts (test x) (list_any test xs) e in rw parts.0 (none_of_both test xs ys parts.1 f)

white_no_digit : (c : ℕ) → is_white c ≡ true → is_ascii_digit c ≡ false
white_no_digit c is = grind (arith, is)

-- white space has no digit
pub blank_no_digit : (white : List ℕ) → list_all is_white white ≡ true → NoDigit white
blank_no_digit [] all = refl
blank_no_digit (w ∷ ws) all = let parts = and_parts (is_white w) (list_all is_white ws) all in rw (white_no_digit w parts.0) (blank_no_digit ws parts.1)

-- ---- numbers
-- digits, where there are any, have a digit
some_digit : (digits : List ℕ) → 0 < length digits → list_all is_ascii_digit digits ≡ true → HasDigit digits
some_digit [] long all = absurd (omega (arith, long))
some_digit (d ∷ ds) long all = or_left (is_ascii_digit d) (list_any is_ascii_digit ds) (and_parts (is_ascii_digit d) (list_all is_ascii_digit ds) all).0

-- so has a fraction that isn't empty
fraction_digit : (fraction text : List ℕ) → Fraction fraction text → 0 < length fraction → HasDigit text
fraction_digit fraction text (inl e) long = absurd (omega (arith, ap length e.1, long))
fraction_digit fraction text (inr e) long = subst HasDigit (sym (e.2 ∙ ap (λ u. u ++ e.1) e.3)) (subst (λ u. HasDigit (46 ∷ u)) (sym e.4.0) (some_digit fraction long e.4.1))

-- a number has a digit, before its point or behind it
number_digit : (minus : Bool) (integer digits text : List ℕ) → Numeral minus integer digits text → HasDigit text
number_digit minus [] digits text t = subst HasDigit (sym (t.0.2 ∙ ap (λ u. t.0.0 ++ u) t.0.4.2)) (any_behind is_ascii_digit t.0.0 (t.0.4.0 ++ t.0.4.1) (any_behind is_ascii_digit t.0.4.0 t.0.4.1 (fraction_digit digits t.0.4.1 t.0.4.4 (positive (length digits) t.1))))
  where
    positive : (n : ℕ) → 0 < 0 + n → 0 < n
    positive n e = omega (arith, e)
number_digit minus (d ∷ ds) digits text t = subst HasDigit (sym (t.0.2 ∙ ap (λ u. t.0.0 ++ u) t.0.4.2)) (any_behind is_ascii_digit t.0.0 (t.0.4.0 ++ t.0.4.1) (any_left is_ascii_digit t.0.4.0 t.0.4.1
    (subst HasDigit (sym t.0.4.3.0) (or_left (is_ascii_digit d) (list_any is_ascii_digit ds) (and_parts (is_ascii_digit d) (list_all is_ascii_digit ds) t.0.4.3.1).0))))

-- so a position has one
pub position_digit : (p : Position) (text : List ℕ) → PositionText p text → HasDigit text
position_digit p text t = subst HasDigit (sym t.2) (any_left is_ascii_digit t.0 t.1 (number_digit t.3.0 t.3.1 t.3.2 t.0 t.3.3))

-- a byte of a number behind its sign
inner : ℕ → Bool
inner c = is_ascii_digit c || c == 46

-- behind its sign a number has digits and a point, and no other byte
inner_digits : (digits : List ℕ) → list_all is_ascii_digit digits ≡ true → list_all inner digits ≡ true
unfolding inner
inner_digits [] all = refl
inner_digits (d ∷ ds) all = let parts = and_parts (is_ascii_digit d) (list_all is_ascii_digit ds) all in rw (or_left (is_ascii_digit d) (d == 46) parts.0) (inner_digits ds parts.1)

-- its fraction too
inner_fraction : (fraction text : List ℕ) → Fraction fraction text → list_all inner text ≡ true
unfolding inner
inner_fraction fraction text (inl e) = ap (list_all inner) e.0
inner_fraction fraction text (inr e) = ap (list_all inner) (e.2 ∙ ap (λ u. u ++ e.1) e.3) ∙ (ap (λ u. list_all inner (46 ∷ u)) e.4.0 ∙ inner_digits fraction e.4.1)

all_both : (test : ℕ → Bool) (xs ys : List ℕ) → list_all test xs ≡ true → list_all test ys ≡ true → list_all test (xs ++ ys) ≡ true
all_both test [] ys e f = f
all_both test (x ∷ xs) ys e f = let parts = and_parts (test x) (list_all test xs) e in rw parts.0 (all_both test xs ys parts.1 f)

-- what a list of bytes that pass holds passes
all_within : (test : ℕ → Bool) (xs : List ℕ) (c : ℕ) (w : List ℕ) → list_all test (xs ++ (c ∷ w)) ≡ true → test c ≡ true
all_within test [] c w e = (and_parts (test c) (list_all test w) e).0
all_within test (x ∷ xs) c w e = all_within test xs c w (and_parts (test x) (list_all test (xs ++ (c ∷ w))) e).1

-- the bytes of a number behind its first
record Tailed (text : List ℕ) : Type 0 where
  sign : List ℕ
  body : List ℕ
  is : text ≡ sign ++ body
  signs : (sign ≡ []) ⊎ ((c : ℕ) × (sign ≡ c ∷ []))
  inside : list_all inner body ≡ true

-- a number is a sign of one byte or none, and then digits and a point
tailed : (minus : Bool) (integer digits text : List ℕ) → Numeral minus integer digits text → Tailed text
tailed minus integer digits text t = record {
  sign = t.0.0;
  body = t.0.1;
  is = t.0.2;
  signs = signs_of minus t.0.3;
  inside = ap (list_all inner) t.0.4.2 ∙ all_both inner t.0.4.0 t.0.4.1 (ap (list_all inner) t.0.4.3.0 ∙ inner_digits integer t.0.4.3.1) (inner_fraction digits t.0.4.1 t.0.4.4);
}
  where
    signs_of : (m : Bool) → Sign m t.0.0 → (t.0.0 ≡ []) ⊎ ((c : ℕ) × (t.0.0 ≡ c ∷ []))
    signs_of true s = inr (45, s)
    signs_of false (inl e) = inl e
    signs_of false (inr e) = inr (43, e)

-- a plus is a number's first byte
plus_first : (text xs w : List ℕ) → Tailed text → text ≡ xs ++ (43 ∷ w) → xs ≡ []
unfolding inner
plus_first text [] w t e = refl
plus_first text (x ∷ xs) w t e = go t.signs
  where
    go : (t.sign ≡ []) ⊎ ((c : ℕ) × (t.sign ≡ c ∷ [])) → (x ∷ xs) ≡ []
    go (inl s) = absurd (true≢false (sym (all_within inner (x ∷ xs) 43 w (ap (list_all inner) (sym e ∙ (t.is ∙ ap (λ u. u ++ t.body) s)) ∙ t.inside))))
    go (inr s) = absurd (true≢false (sym (all_within inner xs 43 w (ap (list_all inner) (tail_of x s.0 (xs ++ (43 ∷ w)) t.body (sym e ∙ (t.is ∙ ap (λ u. u ++ t.body) s.1))) ∙ t.inside))))

-- no number begins with the pair's first bytes and leaves no digit
no_second : (w more closing : List ℕ) → Tailed (43 ∷ w) → 48 ∷ 32 ∷ 48 ∷ closing ≡ w ++ more → NoDigit more → ⊥
unfolding inner
no_second [] more closing t e none = clash more (ap (list_any is_ascii_digit) (sym e)) none
no_second (a ∷ []) more closing t e none = clash more (ap (list_any is_ascii_digit) (sym (tail_of 48 a (32 ∷ 48 ∷ closing) more e))) none
no_second (a ∷ b ∷ w) more closing t e none = go t.signs
  where
    is_space : 32 ≡ b
    is_space = head_of 32 b (48 ∷ closing) (w ++ more) (tail_of 48 a (32 ∷ 48 ∷ closing) (b ∷ (w ++ more)) e)

    go : (t.sign ≡ []) ⊎ ((c : ℕ) × (t.sign ≡ c ∷ [])) → ⊥
    go (inl s) = true≢false (sym (all_within inner [] 43 (a ∷ b ∷ w) (ap (list_all inner) (t.is ∙ ap (λ u. u ++ t.body) s) ∙ t.inside)))
    go (inr s) = true≢false (sym (ap inner is_space ∙ all_within inner (a ∷ []) b w (ap (list_all inner) (tail_of 43 s.0 (a ∷ b ∷ w) t.body (t.is ∙ ap (λ u. u ++ t.body) s.1)) ∙ t.inside)))

-- ---- a position's text begins where the pair does
-- the pair has a digit, whatever comes before it
pair_digit : (h closing : List ℕ) → HasDigit (h ++ pair closing)
pair_digit h closing = any_within is_ascii_digit h 43 (48 ∷ 32 ∷ 48 ∷ closing) refl

-- the pair's plus begins the position's first number, since behind the second a digit would be left: so nothing comes before it
pub begins_here : (front closing more : List ℕ) (p : Position) (text : List ℕ) → PositionText p text → front ++ pair closing ≡ text ++ more → NoDigit more → front ≡ []
begins_here front closing more p text t e none = first (overlap front (pair closing) t.0 (t.1 ++ more) (e ∙ (ap (λ u. u ++ more) t.2 ∙ append_assoc t.0 t.1 more)))
  where
    second : (g : List ℕ) → Overlap g (pair closing) t.4.1 more → ⊥
    second g (Overlap.Longer h a b) = clash more (ap (list_any is_ascii_digit) (sym b) ∙ pair_digit h closing) none
    second g (Overlap.Shorter c w a b) =
        let c_is : 43 ≡ c = head_of 43 c (48 ∷ 32 ∷ 48 ∷ closing) (w ++ more) b in
        let n : Tailed t.4.1 = tailed t.4.4.0 t.4.4.1 t.4.4.2 t.4.1 t.4.4.3 in
        let a_is : t.4.1 ≡ g ++ (43 ∷ w) = a ∙ ap (λ z. g ++ (z ∷ w)) (sym c_is) in
        no_second w more closing (subst Tailed (a_is ∙ ap (λ u. u ++ (43 ∷ w)) (plus_first t.4.1 g w n a_is)) n) (tail_of 43 c (48 ∷ 32 ∷ 48 ∷ closing) (w ++ more) b) none

    spaced : (f : List ℕ) → Overlap f (pair closing) t.4.0 (t.4.1 ++ more) → ⊥
    spaced f (Overlap.Longer g a b) = second g (overlap g (pair closing) t.4.1 more b)
    spaced f (Overlap.Shorter c w a b) = true≢false (sym (ap is_white (head_of 43 c (48 ∷ 32 ∷ 48 ∷ closing) (w ++ (t.4.1 ++ more)) b) ∙ all_within is_white f c w (ap (list_all is_white) (sym a) ∙ t.4.3.1)))

    first : Overlap front (pair closing) t.0 (t.1 ++ more) → front ≡ []
    first (Overlap.Longer f a b) = absurd (spaced f (overlap f (pair closing) t.4.0 (t.4.1 ++ more) (b ∙ (ap (λ u. u ++ more) t.4.2 ∙ append_assoc t.4.0 t.4.1 more))))
    first (Overlap.Shorter c w a b) = plus_first t.0 front w (tailed t.3.0 t.3.1 t.3.2 t.0 t.3.3) (a ∙ ap (λ z. front ++ (z ∷ w)) (sym (head_of 43 c (48 ∷ 32 ∷ 48 ∷ closing) (w ++ (t.1 ++ more)) b)))

-- with white space around it
pub blank_before : (front closing from rest : List ℕ) (p : Position) → Took from (Padded (PositionText p)) rest → from ≡ front ++ pair closing → NoDigit rest → list_all is_white front ≡ true
blank_before front closing from rest p t split none = go (overlap front (pair closing) a.1.0 a.0 (sym split ∙ a.1.1))
  where
    a : (ys : List ℕ) × Took from Blank ys × Took ys (PositionText p ⨾ Blank) rest
    a = apart from rest Blank (PositionText p ⨾ Blank) t

    b : (ys : List ℕ) × Took a.0 (PositionText p) ys × Took ys Blank rest
    b = apart a.0 rest (PositionText p) Blank a.2

    quiet : NoDigit b.0
    quiet = ap (list_any is_ascii_digit) b.2.1 ∙ none_of_both is_ascii_digit b.2.0 rest (blank_no_digit b.2.0 b.2.2) none

    go : Overlap front (pair closing) a.1.0 a.0 → list_all is_white front ≡ true
    go (Overlap.Shorter c w e f) = absurd (true≢false (sym (ap is_white (head_of 43 c (48 ∷ 32 ∷ 48 ∷ closing) (w ++ a.0) f) ∙ all_within is_white front c w (ap (list_all is_white) (sym e) ∙ a.1.2))))
    go (Overlap.Longer f e g) = ap (list_all is_white) (e ∙ ap (λ u. a.1.0 ++ u) (begins_here f closing b.0 p b.1.0 b.1.2 (g ∙ b.1.1) quiet)) ∙ all_both is_white a.1.0 [] a.1.2 refl
