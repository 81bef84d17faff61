-- The first of some faults that applies, number by number.
use Rattle.std.proofs.Common.{◌≡◌, refl, sym, ap, ◌∙◌, append_assoc, ℕ, suc, ◌+◌, ◌-◌, ◌<◌, ◌≤◌, Bool, true, false, cond, List, [], ◌∷◌, ◌++◌, map, drop, length, Option, Some, None, slice_get, arith}
use Rattle.std.specs.List.{find, flat_map, range_with_len}
use Rattle.std.specs.Option.{option_or, is_some, MatchOption}
use Rattle.std.proofs.lemmas.List.Folds.{find-append}
use Rattle.std.proofs.lemmas.List.{drop_all}
use Rattle.basics.proofs.Lists.{drop_here}
use Rattle.geometry_model.specs.FirstFaults.{numbers}
use Rattle.geometry_model.specs.declared.validity_faults.ValidityFault.{ValidityFault}

-- ---- the numbers that are left
-- before the end the numbers from here are this one and the numbers from the next
numbers_go_on : (i n : ℕ) → i < n → numbers i n ≡ i ∷ numbers (i + 1) n
numbers_go_on i n h = go (n - i) (n - (i + 1)) (omega arith)
  where
    go : (k l : ℕ) → k ≡ suc l → range_with_len i k ≡ i ∷ range_with_len (i + 1) l
    go k l e = ap (range_with_len i) e

-- from the end on no numbers are left
pub numbers_end : (i n : ℕ) → n ≤ i → numbers i n ≡ []
numbers_end i n h = let e : n - i ≡ 0 = omega arith in ap (range_with_len i) e

-- ---- one fault a number
-- one step of a search over numbers: the first fault is this number's where it lies ..
pub found_here : (applies : ValidityFault → Bool) (fault : ℕ → ValidityFault) (i n : ℕ) → i < n → applies (fault i) ≡ true → find applies (map fault (numbers i n)) ≡ Some (fault i)
found_here applies fault i n h e = rw (numbers_go_on i n h, e) refl

-- .. and where it doesn't, the search goes on with the next number ..
pub passed_here : (applies : ValidityFault → Bool) (fault : ℕ → ValidityFault) (i n : ℕ) → i < n → applies (fault i) ≡ false
    → find applies (map fault (numbers i n)) ≡ find applies (map fault (numbers (i + 1) n))
passed_here applies fault i n h e = ap (λ ns. find applies (map fault ns)) (numbers_go_on i n h) ∙ ap (λ b. cond b (Some (fault i)) (find applies (map fault (numbers (i + 1) n)))) e

-- .. until none is left
pub none_left : (applies : ValidityFault → Bool) (fault : ℕ → ValidityFault) (i n : ℕ) → n ≤ i → find applies (map fault (numbers i n)) ≡ None
none_left applies fault i n h = ap (λ ns. find applies (map fault ns)) (numbers_end i n h)

-- ---- some faults a number
-- a search through two lists finds what lies first in the front one, or else what it finds in the other
pub in_front : (applies : ValidityFault → Bool) (xs ys : List ValidityFault) (o : Option ValidityFault) → find applies xs ≡ o → find applies (xs ++ ys) ≡ option_or o (find applies ys)
in_front applies xs ys o e = find-append applies xs ys ∙ ap (λ f. option_or f (find applies ys)) e

-- the same where each number has several faults: what applies first among this number's is the first of all ..
pub found_among : (applies : ValidityFault → Bool) (faults : ℕ → List ValidityFault) (i n : ℕ) (fault : ValidityFault) → i < n → find applies (faults i) ≡ Some fault
    → find applies (flat_map faults (numbers i n)) ≡ Some fault
found_among applies faults i n fault h e = ap (λ ns. find applies (flat_map faults ns)) (numbers_go_on i n h) ∙ in_front applies (faults i) (flat_map faults (numbers (i + 1) n)) (Some fault) e

-- .. where none of them applies the next number's are looked at ..
pub passed_among : (applies : ValidityFault → Bool) (faults : ℕ → List ValidityFault) (i n : ℕ) → i < n → find applies (faults i) ≡ None
    → find applies (flat_map faults (numbers i n)) ≡ find applies (flat_map faults (numbers (i + 1) n))
passed_among applies faults i n h e = ap (λ ns. find applies (flat_map faults ns)) (numbers_go_on i n h) ∙ in_front applies (faults i) (flat_map faults (numbers (i + 1) n)) None e

-- .. until none is left
pub none_among : (applies : ValidityFault → Bool) (faults : ℕ → List ValidityFault) (i n : ℕ) → n ≤ i → find applies (flat_map faults (numbers i n)) ≡ None
none_among applies faults i n h = ap (λ ns. find applies (flat_map faults ns)) (numbers_end i n h)

-- ---- some faults a part
-- what applies first among this part's faults is the first of all ..
pub found_in_part : {A : Type 0} (applies : ValidityFault → Bool) (faults : A → List ValidityFault) (parts : List A) (m : ℕ) (part : A) (fault : ValidityFault) → slice_get parts m ≡ Some part
    → find applies (faults part) ≡ Some fault → find applies (flat_map faults (drop m parts)) ≡ Some fault
found_in_part applies faults parts m part fault is e = ap (λ xs. find applies (flat_map faults xs)) (drop_here parts m part is)
    ∙ in_front applies (faults part) (flat_map faults (drop (m + 1) parts)) (Some fault) e

-- .. where none of them applies the next part's are looked at ..
pub passed_in_part : {A : Type 0} (applies : ValidityFault → Bool) (faults : A → List ValidityFault) (parts : List A) (m : ℕ) (part : A) → slice_get parts m ≡ Some part
    → find applies (faults part) ≡ None → find applies (flat_map faults (drop m parts)) ≡ find applies (flat_map faults (drop (m + 1) parts))
passed_in_part applies faults parts m part is e = ap (λ xs. find applies (flat_map faults xs)) (drop_here parts m part is)
    ∙ in_front applies (faults part) (flat_map faults (drop (m + 1) parts)) None e

-- .. until none is left
pub none_in_parts : {A : Type 0} (applies : ValidityFault → Bool) (faults : A → List ValidityFault) (parts : List A) (m : ℕ) → length parts ≤ m
    → find applies (flat_map faults (drop m parts)) ≡ None
none_in_parts applies faults parts m h = ap (λ xs. find applies (flat_map faults xs)) (drop_all m parts h)

-- ---- what was found there, or nothing
pub some_is : (o : Option ValidityFault) → is_some o ≡ true → (fault : ValidityFault) × (o ≡ Some fault)
some_is None h = absurd cc
some_is (Some fault) h = (fault, refl)

pub none_is : (o : Option ValidityFault) → is_some o ≡ false → o ≡ None
none_is None h = refl
none_is (Some fault) h = absurd cc

-- the steps again, said of the answer of a search among this number's faults: what it found is the first of all ..
pub first_among : (applies : ValidityFault → Bool) (faults : ℕ → List ValidityFault) (i n : ℕ) (o : Option ValidityFault) → i < n → o ≡ find applies (faults i) → is_some o ≡ true
    → find applies (flat_map faults (numbers i n)) ≡ o
first_among applies faults i n o h e some = let k = some_is o some in found_among applies faults i n k.0 h (sym e ∙ k.1) ∙ sym k.1

-- .. and where it found nothing the search goes on with the next number
pub further_among : (applies : ValidityFault → Bool) (faults : ℕ → List ValidityFault) (i n : ℕ) (o : Option ValidityFault) → i < n → o ≡ find applies (faults i) → is_some o ≡ false
    → find applies (flat_map faults (numbers i n)) ≡ find applies (flat_map faults (numbers (i + 1) n))
further_among applies faults i n o h e none = passed_among applies faults i n h (sym e ∙ none_is o none)

-- what a search of this part found is the first of all that are left ..
pub first_in_part : {A : Type 0} (applies : ValidityFault → Bool) (faults : A → List ValidityFault) (parts : List A) (m : ℕ) (part : A) (o : Option ValidityFault) → slice_get parts m ≡ Some part
    → o ≡ find applies (faults part) → is_some o ≡ true → find applies (flat_map faults (drop m parts)) ≡ o
first_in_part applies faults parts m part o is e some = let k = some_is o some in found_in_part applies faults parts m part k.0 is (sym e ∙ k.1) ∙ sym k.1

-- .. and where it found nothing the search goes on with the next part
pub further_in_parts : {A : Type 0} (applies : ValidityFault → Bool) (faults : A → List ValidityFault) (parts : List A) (m : ℕ) (part : A) (o : Option ValidityFault) → slice_get parts m ≡ Some part
    → o ≡ find applies (faults part) → is_some o ≡ false → find applies (flat_map faults (drop m parts)) ≡ find applies (flat_map faults (drop (m + 1) parts))
further_in_parts applies faults parts m part o is e none = passed_in_part applies faults parts m part is (sym e ∙ none_is o none)

-- what is found in the one list, or else in the other
pub found_or_else : (applies : ValidityFault → Bool) (xs ys : List ValidityFault) (o r : Option ValidityFault) → o ≡ find applies xs → MatchOption o (r ≡ find applies ys) (λ fault. r ≡ Some fault)
    → r ≡ find applies (xs ++ ys)
found_or_else applies xs ys None r e h = h ∙ sym (in_front applies xs ys None (sym e))
found_or_else applies xs ys (Some fault) r e h = h ∙ sym (in_front applies xs ys (Some fault) (sym e))

-- ---- one list of faults before another
-- what is found in the earlier list of tests is found in both together
pub first_stays : (applies : ValidityFault → Bool) (xs ys : List ValidityFault) (o : Option ValidityFault) → o ≡ find applies xs → is_some o ≡ true → find applies (xs ++ ys) ≡ o
first_stays applies xs ys o e some = let k = some_is o some in in_front applies xs ys o (sym e) ∙ (ap (λ f. option_or f (find applies ys)) k.1 ∙ sym k.1)

-- where the earlier list finds nothing both find what the later one does
pub second_follows : (applies : ValidityFault → Bool) (xs ys : List ValidityFault) (o p : Option ValidityFault) → o ≡ find applies xs → is_some o ≡ false → p ≡ find applies ys → find applies (xs ++ ys) ≡ p
second_follows applies xs ys o p e none f = in_front applies xs ys None (sym e ∙ none_is o none) ∙ sym f

-- where both lists find nothing the later one finds nothing
pub none_behind : (applies : ValidityFault → Bool) (xs ys : List ValidityFault) → find applies (xs ++ ys) ≡ None → find applies ys ≡ None
none_behind applies xs ys h = go (find applies xs) refl
  where
    go : (o : Option ValidityFault) → find applies xs ≡ o → find applies ys ≡ None
    go None e = sym (in_front applies xs ys None e) ∙ h
    go (Some fault) e = let k : Some fault ≡ None = sym (in_front applies xs ys (Some fault) e) ∙ h in absurd cc

-- the lists of the order of tests, the rings' and the polygons' together
pub grouped : (a b c d e f g h : List ValidityFault) → a ++ b ++ c ++ d ++ e ++ f ++ g ++ h ≡ (a ++ b ++ c ++ (d ++ e ++ f)) ++ (g ++ h)
grouped a b c d e f g h = simp append_assoc
