-- Texts of nine characters and others, against the definition of what they write.
use Rattle.std.proofs.Common.{◌≡◌, ◌≢◌, ◌<◌, ℕ, suc, List, [], ◌∷◌, length, get_or, drop, Some, None, Option, refl, sym, ◌∙◌, ap, arith}
use Rattle.std.specs.Prelude.{option_and_then}
use Rattle.std.proofs.Math.Seq.{drop-cons}
use Rattle.std.proofs.lemmas.List.{drop_all}
use Rattle.std.proofs.lemmas.Option.{option_and_then_some}
use Rattle.geometry_model.specs.Patterns.{character_of, characters_of, pattern_of, pattern_of_text}
use Rattle.geometry_model.specs.declared.relations.PatternCharacter.{PatternCharacter}

-- one character more
characters-cons : (c : ℕ) (cs : List ℕ) (x : PatternCharacter) (xs : List PatternCharacter) → character_of c ≡ Some x → characters_of cs ≡ Some xs → characters_of (c ∷ cs) ≡ Some (x ∷ xs)
characters-cons c cs x xs first rest = rw (first, rest) refl

-- the same at a place of a text
characters-drop : (bs : List ℕ) (i : ℕ) (x : PatternCharacter) (xs : List PatternCharacter) → i < length bs → character_of (get_or bs i 0) ≡ Some x → characters_of (drop (suc i) bs) ≡ Some xs → characters_of (drop i bs) ≡ Some (x ∷ xs)
characters-drop bs i x xs within first rest =
    ap characters_of (drop-cons bs i 0 within) ∙ characters-cons (get_or bs i 0) (drop (suc i) bs) x xs first rest

-- what nine bytes write, each of which writes a character
pub pattern_of_text-nine : (bs : List ℕ) (ii ib ie bi bb be ei eb ee : PatternCharacter) → length bs ≡ 9
    → character_of (get_or bs 0 0) ≡ Some ii → character_of (get_or bs 1 0) ≡ Some ib → character_of (get_or bs 2 0) ≡ Some ie
    → character_of (get_or bs 3 0) ≡ Some bi → character_of (get_or bs 4 0) ≡ Some bb → character_of (get_or bs 5 0) ≡ Some be
    → character_of (get_or bs 6 0) ≡ Some ei → character_of (get_or bs 7 0) ≡ Some eb → character_of (get_or bs 8 0) ≡ Some ee
    → pattern_of_text bs ≡ pattern_of (ii ∷ ib ∷ ie ∷ bi ∷ bb ∷ be ∷ ei ∷ eb ∷ ee ∷ [])
pattern_of_text-nine bs ii ib ie bi bb be ei eb ee nine a0 a1 a2 a3 a4 a5 a6 a7 a8 =
    let r9 : characters_of (drop 9 bs) ≡ Some [] = ap characters_of (drop_all 9 bs (omega (arith, nine))) in
    let r8 = characters-drop bs 8 ee [] (omega (arith, nine)) a8 r9 in
    let r7 = characters-drop bs 7 eb (ee ∷ []) (omega (arith, nine)) a7 r8 in
    let r6 = characters-drop bs 6 ei (eb ∷ ee ∷ []) (omega (arith, nine)) a6 r7 in
    let r5 = characters-drop bs 5 be (ei ∷ eb ∷ ee ∷ []) (omega (arith, nine)) a5 r6 in
    let r4 = characters-drop bs 4 bb (be ∷ ei ∷ eb ∷ ee ∷ []) (omega (arith, nine)) a4 r5 in
    let r3 = characters-drop bs 3 bi (bb ∷ be ∷ ei ∷ eb ∷ ee ∷ []) (omega (arith, nine)) a3 r4 in
    let r2 = characters-drop bs 2 ie (bi ∷ bb ∷ be ∷ ei ∷ eb ∷ ee ∷ []) (omega (arith, nine)) a2 r3 in
    let r1 = characters-drop bs 1 ib (ie ∷ bi ∷ bb ∷ be ∷ ei ∷ eb ∷ ee ∷ []) (omega (arith, nine)) a1 r2 in
    let r0 = characters-drop bs 0 ii (ib ∷ ie ∷ bi ∷ bb ∷ be ∷ ei ∷ eb ∷ ee ∷ []) (omega (arith, nine)) a0 r1 in
    ap (option_and_then pattern_of) r0

-- as many characters as bytes
characters_count : (bs : List ℕ) (xs : List PatternCharacter) → characters_of bs ≡ Some xs → length xs ≡ length bs
characters_count [] xs e = let same : [] ≡ xs = cc in sym (ap length same)
characters_count (b ∷ bs) xs e =
    option_and_then_some (λ x. option_and_then (λ ys. Some (x ∷ ys)) (characters_of bs)) (character_of b) xs e
    (λ x _ after. option_and_then_some (λ ys. Some (x ∷ ys)) (characters_of bs) xs after
    (λ ys read last. let same : x ∷ ys ≡ xs = cc in sym (ap length same) ∙ ap suc (characters_count bs ys read)))

-- other than nine characters are no pattern
pattern_of-none : (xs : List PatternCharacter) → length xs ≢ 9 → pattern_of xs ≡ None
pattern_of-none (a ∷ b ∷ c ∷ d ∷ e ∷ f ∷ g ∷ h ∷ i ∷ []) other = absurd (other refl)
pattern_of-none _ other = refl

-- other than nine bytes write no pattern
pub pattern_of_text-none : (bs : List ℕ) → length bs ≢ 9 → pattern_of_text bs ≡ None
pattern_of_text-none bs other = by_characters (characters_of bs) refl
  where
    by_characters : (o : Option (List PatternCharacter)) → characters_of bs ≡ o → option_and_then pattern_of o ≡ None
    by_characters None e = refl
    by_characters (Some xs) e = pattern_of-none xs (λ nine. other (sym (characters_count bs xs e) ∙ nine))
