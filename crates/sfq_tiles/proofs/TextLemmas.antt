-- A text that grows by one part after another.
use Rattle.std.proofs.Common.{◌≡◌, ◌<◌, ◌+◌, ℕ, List, ◌++◌, length, map, take, get_or, cond, Result, Ok, Err, OnOk, is_ok, subst, sym, ◌∙◌, ap, append_assoc, add-one}
use Rattle.std.specs.List.{concat, flat_map, range_with_len}
use Rattle.streams.proofs.PartLemmas.{parts-more}
use Rattle.sfq_tiles.proofs.ListLemmas.{one_more}

-- the texts before a number, and then that of the number
pub number_pushed : (f : ℕ → List ℕ) (n : ℕ) (start was now : List ℕ) → was ≡ start ++ flat_map f (range_with_len 0 n) → now ≡ was ++ f n
    → now ≡ start ++ flat_map f (range_with_len 0 (n + 1))
number_pushed f n start was now before more =
    more ∙ ap (λ t. t ++ f n) before ∙ append_assoc start (flat_map f (range_with_len 0 n)) (f n) ∙ ap (λ t. start ++ t) (sym (one_more f n))

-- the texts of the parts before a place, and then that of the part there
pub part_pushed : {X : Type 0} (v : X → List ℕ) (xs : List X) (i : ℕ) (x : X) (was now : List ℕ) → i < length xs → x ≡ get_or xs i x
    → was ≡ concat (map v (take i xs)) → now ≡ was ++ v x → now ≡ concat (map v (take (i + 1) xs))
part_pushed v xs i x was now within is before more =
    more ∙ ap (λ t. t ++ v x) before ∙ ap (λ y. concat (map v (take i xs)) ++ v y) is ∙ sym (parts-more v xs i x within)
    ∙ ap (λ k. concat (map v (take k xs))) (sym (add-one i))

-- three texts, one after another
pub three_more : (start first second third x y z : List ℕ) → first ≡ start ++ x → second ≡ first ++ y → third ≡ second ++ z → third ≡ start ++ (x ++ (y ++ z))
three_more start first second third x y z a b c =
    c ∙ ap (λ t. t ++ z) b ∙ ap (λ t. (t ++ y) ++ z) a ∙ append_assoc (start ++ x) y z ∙ append_assoc start x (y ++ z)

-- three texts, where the last may not be pushed
pub three_pushed : {T E : Type 0} (r : Result T E) (start first second now x y z : List ℕ) → first ≡ start ++ x → second ≡ first ++ y
    → now ≡ cond (is_ok r) (second ++ z) second → OnOk r (now ≡ start ++ (x ++ (y ++ z)))
three_pushed (Ok v) start first second now x y z a b c = three_more start first second now x y z a b c
three_pushed (Err e) start first second now x y z a b c = tt

-- three texts, and then what comes after them
rest_pushed : {T E : Type 0} (r : Result T E) (start third now x y z rest : List ℕ) → third ≡ start ++ (x ++ (y ++ z)) → OnOk r (now ≡ third ++ rest)
    → OnOk r (now ≡ start ++ (x ++ (y ++ (z ++ rest))))
rest_pushed (Ok v) start third now x y z rest a b =
    b ∙ ap (λ t. t ++ rest) a ∙ append_assoc start (x ++ (y ++ z)) rest
    ∙ ap (λ t. start ++ t) (append_assoc x (y ++ z) rest ∙ ap (λ t. x ++ t) (append_assoc y z rest))
rest_pushed (Err e) start third now x y z rest a b = tt

-- how six texts are joined doesn't matter
regrouped : (a b c d e f : List ℕ) → ((((a ++ b) ++ c) ++ d) ++ e) ++ f ≡ a ++ (b ++ (c ++ (d ++ (e ++ f))))
regrouped a b c d e f = simp append_assoc

-- three texts and three more
pub six_pushed : {T E : Type 0} (r : Result T E) (start third now a b c d e f : List ℕ) → third ≡ start ++ (a ++ (b ++ c))
    → OnOk r (now ≡ third ++ (d ++ (e ++ f))) → OnOk r (now ≡ start ++ (((((a ++ b) ++ c) ++ d) ++ e) ++ f))
six_pushed r start third now a b c d e f first last =
    subst (λ t. OnOk r (now ≡ start ++ t)) (sym (regrouped a b c d e f)) (rest_pushed r start third now a b c (d ++ (e ++ f)) first last)
