-- A text is cut piece by piece.
use Rattle.std.proofs.Common.{◌≡◌, ◌∙◌, ◌+◌, ◌++◌, ◌<◌, ◌≤◌, [], ◌∷◌, Bor, IsUtf8, List, ℕ, ap, append_assoc, append-nil, arith, drop, get_or, length, length-append, map, min, subst, sym, take}
use Rattle.std.proofs.lemmas.List.{at_drop_all, at_drop_more, drop_min, map_push, take_min}
use Rattle.std.proofs.Math.Seq.{get_or-append_seam}
use Rattle.sfq_web.specs.Pieces.{pieces}
use Rattle.sfq_web.specs.Servings.{HasNoString}

-- at first nothing is cut
pub none_cut : (done : List (Bor (List ℕ))) (text lengths : List ℕ) → done ≡ [] → map (λ one. one.now) done ++ pieces text (drop 0 lengths) ≡ pieces text lengths
none_cut done text lengths none = ap (λ all. map (λ (one : Bor (List ℕ)). one.now) all ++ pieces text (drop 0 lengths)) none

-- the next length cuts one more piece from the rest
one_more : (done : List (List ℕ)) (rest lengths : List ℕ) (at n : ℕ) → at < length lengths → n ≡ min (get_or lengths at 0) (length rest)
    → (done ++ take n rest ∷ []) ++ pieces (drop n rest) (drop (at + 1) lengths) ≡ done ++ pieces rest (drop at lengths)
one_more done rest lengths at n some is =
    let next = get_or lengths at 0 in
    rw (is, take_min next rest, drop_min next rest)
    (append_assoc done (take next rest ∷ []) (pieces (drop next rest) (drop (at + 1) lengths))
    ∙ ap (λ more. done ++ more) (sym (at_drop_more (pieces rest) lengths at 0 some)))

-- the same of pieces that are lent
pub next_cut : (all done : List (Bor (List ℕ))) (piece : Bor (List ℕ)) (rest more lengths : List ℕ) (at n : ℕ) → all ≡ done ++ piece ∷ []
    → at < length lengths → n ≡ min (get_or lengths at 0) (length rest) → piece.now ≡ take n rest → more ≡ drop n rest
    → map (λ one. one.now) all ++ pieces more (drop (at + 1) lengths) ≡ map (λ one. one.now) done ++ pieces rest (drop at lengths)
next_cut all done piece rest more lengths at n grown some is front back =
    rw (grown, map_push (λ (one : Bor (List ℕ)). one.now) done piece, front, back) (one_more (map (λ one. one.now) done) rest lengths at n some is)

-- with no length left all is cut
pub all_cut : (done : List (List ℕ)) (rest lengths : List ℕ) (at : ℕ) → length lengths ≤ at → done ++ pieces rest (drop at lengths) ≡ done
all_cut done rest lengths at end = ap (λ more. done ++ more) (at_drop_all (pieces rest) lengths at end) ∙ append-nil done

-- the next piece isn't UTF-8, so not all are
pub no_string : (done : List (Bor (List ℕ))) (piece : List ℕ) (rest text lengths : List ℕ) (at n : ℕ)
    → map (λ one. one.now) done ++ pieces rest (drop at lengths) ≡ pieces text lengths
    → at < length lengths → n ≡ min (get_or lengths at 0) (length rest) → piece ≡ take n rest → ¬ IsUtf8 piece
    → HasNoString (pieces text lengths)
no_string done piece rest text lengths at n whole some is front unfit =
    let next = get_or lengths at 0 in
    let before : List (List ℕ) = map (λ (one : Bor (List ℕ)). one.now) done in
    let after : List (List ℕ) = pieces (drop next rest) (drop (at + 1) lengths) in
    let one : List ℕ = take next rest in
    let split : before ++ one ∷ after ≡ pieces text lengths =
    sym (ap (λ more. before ++ more) (at_drop_more (pieces rest) lengths at 0 some)) ∙ whole in
    let same : piece ≡ one = front ∙ ap (λ m. take m rest) is ∙ take_min next rest in
    let within : length before < length (before ++ one ∷ after) = omega (arith, length-append before (one ∷ after)) in
    subst HasNoString split
    (length before, one, within, get_or-append_seam before one after one, subst (λ text. ¬ IsUtf8 text) same unfit)
