-- Texts in one list of bytes: more bytes behind the others leave them as they were.
use Rattle.std.proofs.Common.{◌≡◌, ◌∙◌, ◌-◌, ◌++◌, ◌∷◌, ◌≤◌, ℕ, [], List, ap, ap₂, arith, drop, length, length-append, length-drop, map, refl, subst, sym, take}
use Rattle.std.proofs.Math.Seq.{drop-append_seam}
use Rattle.std.proofs.lemmas.List.{drop-append-le, map-append, take-append-le, take_all}
use Rattle.std.proofs.lemmas.List.Elements.{All-head, All-tail, All-weaker}
use Rattle.std.proofs.lemmas.Str.{IsCharBoundary-from_drop, IsUtf8-append, IsUtf8-drop}
use Rattle.std.specs.List.{All}
use Rattle.std.specs.Str.{IsCharBoundary, IsUtf8}
use Rattle.feature_table.specs.Texts.{IsCut, text_at}
use Rattle.feature_table.specs.declared.texts.Cut.{Cut}

-- a cut stays one, and its text the same
pub cut_kept : (all more : List ℕ) (cut : Cut) → IsUtf8 all → IsUtf8 more → IsCut all cut → IsCut (all ++ more) cut
cut_kept all more cut a m is = (is.0, kept cut.start is.1, kept cut.end is.2)
  where
    kept : (i : ℕ) → IsCharBoundary all i → IsCharBoundary (all ++ more) i
    kept i b =
        let rest = IsUtf8-append (drop i all) more (IsUtf8-drop all i a b) m in
        let size = length-append all more in
        IsCharBoundary-from_drop (all ++ more) i (omega (arith, b.0, size))
        (subst IsUtf8 (sym (drop-append-le i all more b.0)) rest)

text_kept : (all more : List ℕ) (cut : Cut) → IsCut all cut → text_at (all ++ more) cut ≡ text_at all cut
text_kept all more cut is =
    let rest = length-drop cut.start all in
    let within : cut.end - cut.start ≤ length (drop cut.start all) = omega (arith, is.0, is.2.0, rest) in
    ap (take (cut.end - cut.start)) (drop-append-le cut.start all more is.1.0)
    ∙ take-append-le (cut.end - cut.start) (drop cut.start all) more within

-- so it is for each of several
pub cuts_kept : (all more : List ℕ) (cuts : List Cut) → IsUtf8 all → IsUtf8 more → All (IsCut all) cuts
    → All (IsCut (all ++ more)) cuts
cuts_kept all more cuts a m h = All-weaker (IsCut all) (IsCut (all ++ more)) (λ cut is. cut_kept all more cut a m is) cuts h

pub texts_kept : (all more : List ℕ) (cuts : List Cut) → All (IsCut all) cuts
    → map (text_at (all ++ more)) cuts ≡ map (text_at all) cuts
texts_kept all more [] h = refl
texts_kept all more (cut ∷ cuts) h =
    ap₂ (λ (t : List ℕ) (ts : List (List ℕ)). t ∷ ts) (text_kept all more cut (All-head (IsCut all) cut cuts h))
    (texts_kept all more cuts (All-tail (IsCut all) cut cuts h))

-- what came behind is cut from the end of the others to its own
pub last_cut : (all more : List ℕ) (cut : Cut) → IsUtf8 all → IsUtf8 more → cut.start ≡ length all
    → cut.end ≡ length (all ++ more) → IsCut (all ++ more) cut
last_cut all more cut a m start end =
    let size = length-append all more in
    let front : IsCharBoundary (all ++ more) (length all) =
    IsCharBoundary-from_drop (all ++ more) (length all) (omega (arith, size))
    (subst IsUtf8 (sym (drop-append_seam all more)) m) in
    let last : IsCharBoundary (all ++ more) cut.end = (omega (arith, end), λ below. omega (arith, end, below)) in
    (omega (arith, start, end, size), subst (IsCharBoundary (all ++ more)) (sym start) front, last)

pub last_text : (all more : List ℕ) (cut : Cut) → cut.start ≡ length all → cut.end ≡ length (all ++ more)
    → text_at (all ++ more) cut ≡ more
last_text all more cut start end =
    let size = length-append all more in
    let count : length more ≤ cut.end - cut.start = omega (arith, start, end, size) in
    ap (λ n. take (cut.end - cut.start) (drop n (all ++ more))) start
    ∙ ap (take (cut.end - cut.start)) (drop-append_seam all more) ∙ take_all (cut.end - cut.start) more count

-- with that text behind them there is one more
pub text_pushed : (all more : List ℕ) (cuts : List Cut) (cut : Cut) → All (IsCut all) cuts → cut.start ≡ length all
    → cut.end ≡ length (all ++ more)
    → map (text_at (all ++ more)) (cuts ++ cut ∷ []) ≡ map (text_at all) cuts ++ more ∷ []
text_pushed all more cuts cut h start end =
    map-append (text_at (all ++ more)) cuts (cut ∷ [])
    ∙ ap₂ (λ (ts : List (List ℕ)) (t : List ℕ). ts ++ t ∷ []) (texts_kept all more cuts h) (last_text all more cut start end)
