-- Lines by number, one after another.
use Rattle.std.proofs.Common.{◌≡◌, ◌<◌, ◌-◌, ℕ, ℤ, zero, suc, List, [], ◌∷◌, ◌++◌, ◌+◌, Option, Some, Result, Ok, Err, OnErr, sym, ◌∙◌, ap, append_assoc, append-nil, arith, codes, decimal, subst}
use Rattle.std.specs.Fmt.{signed_decimal}
use Rattle.std.specs.List.{concat, flat_map, range_with_len}
use Rattle.std.specs.Io.KnownBytes.{Appends}
use Rattle.std.proofs.lemmas.List.Concat.{flat_map-append}
use Rattle.streams.specs.Sinks.{AppendsFront}
use Rattle.streams.proofs.SinkLemmas.{Appends-then, AppendsFront-more, AppendsFront-then}
use Rattle.geometry_model.specs.Envelopes.{Envelope}
use Rattle.table_laws.specs.Cells.{Cell}
use Rattle.sfq_tiles.proofs.WordLemmas.{one_more_number}
use Rattle.sfq_tiles.specs.Lists.{sides_text, span_text, stretch_line}

-- the text of one number more
pub one_more : (f : ℕ → List ℕ) (n : ℕ) → flat_map f (range_with_len 0 (n + 1)) ≡ flat_map f (range_with_len 0 n) ++ f n
one_more f n =
    ap (flat_map f) (one_more_number n) ∙ flat_map-append f (range_with_len 0 n) (n ∷ [])
    ∙ ap (λ t. flat_map f (range_with_len 0 n) ++ t) (append-nil (f n))

-- the texts up to a number, that one among them
pub number_put : (f : ℕ → List ℕ) (n : ℕ) (a b c : Option (List ℕ)) → Appends a b (flat_map f (range_with_len 0 n)) → Appends b c (f n)
    → Appends a c (flat_map f (range_with_len 0 (n + 1)))
number_put f n a b c before piece = subst (λ l. Appends a c l) (sym (one_more f n)) (Appends-then a b c (flat_map f (range_with_len 0 n)) (f n) before piece)

-- the texts up to a number begin with those up to a lesser one
begins : (f : ℕ → List ℕ) (n k : ℕ) → (rest : List ℕ) × (flat_map f (range_with_len 0 (n + k)) ≡ flat_map f (range_with_len 0 n) ++ rest)
begins f n zero =
    let same : n + 0 ≡ n = omega arith in
    ([], ap (λ m. flat_map f (range_with_len 0 m)) same ∙ sym (append-nil (flat_map f (range_with_len 0 n))))
begins f n (suc k) =
    let before = begins f n k in
    let next : n + suc k ≡ (n + k) + 1 = omega arith in (
      before.0 ++ f (n + k),
      ap (λ m. flat_map f (range_with_len 0 m)) next ∙ one_more f (n + k) ∙ ap (λ t. t ++ f (n + k)) before.1
          ∙ append_assoc (flat_map f (range_with_len 0 n)) before.0 (f (n + k)),
    )

-- the texts before a number, and a front of its own, are a front of the texts up to a greater number
pub number_front : (f : ℕ → List ℕ) (n m : ℕ) (a b c : Option (List ℕ)) → n < m → Appends a b (flat_map f (range_with_len 0 n)) → AppendsFront b c (f n)
    → AppendsFront a c (flat_map f (range_with_len 0 m))
number_front f n m a b c less before front =
    let all : (n + 1) + (m - (n + 1)) ≡ m = omega arith in
    let whole = begins f (n + 1) (m - (n + 1)) in
    let text = sym (ap (λ t. t ++ whole.0) (one_more f n)) ∙ sym whole.1 ∙ ap (λ k. flat_map f (range_with_len 0 k)) all in
    subst (λ t. AppendsFront a c t) text
    (AppendsFront-more a c (flat_map f (range_with_len 0 n) ++ f n) whole.0 (AppendsFront-then a b c (flat_map f (range_with_len 0 n)) (f n) before front))

-- after a first text, a front of the last one
pub last_front : {A E : Type 0} (r : Result A E) (a b c : Option (List ℕ)) (x y : List ℕ) → Appends a b x → OnErr r (AppendsFront b c y) → OnErr r (AppendsFront a c (x ++ y))
last_front (Ok v) a b c x y first front = tt
last_front (Err e) a b c x y first front = AppendsFront-then a b c x y first front

-- the parts of a stretch's line, joined
pub stretch_parts : (x y z name : List ℕ) (number rows : ℕ) → x ≡ name → y ≡ decimal number → z ≡ decimal rows
    → concat (x ∷ codes "," ∷ y ∷ codes "," ∷ z ∷ codes "\n" ∷ []) ≡ stretch_line name number rows
stretch_parts x y z name number rows e f h =
    let joined : concat (x ∷ codes "," ∷ y ∷ codes "," ∷ z ∷ codes "\n" ∷ []) ≡ x ++ codes "," ++ y ++ codes "," ++ z ++ codes "\n" = simp (append_assoc, append-nil) in
    let same : x ++ codes "," ++ y ++ codes "," ++ z ++ codes "\n" ≡ stretch_line name number rows = λ t. e t ++ codes "," ++ f t ++ codes "," ++ h t ++ codes "\n" in
    joined ∙ same

-- the parts of a span, joined
pub span_parts : (x y : List ℕ) (least greatest : ℤ) → x ≡ signed_decimal least → y ≡ signed_decimal greatest
    → concat (codes "," ∷ x ∷ codes "," ∷ y ∷ []) ≡ span_text least greatest
span_parts x y least greatest e f =
    let joined : concat (codes "," ∷ x ∷ codes "," ∷ y ∷ []) ≡ codes "," ++ x ++ codes "," ++ y = simp (append_assoc, append-nil) in
    let same : codes "," ++ x ++ codes "," ++ y ≡ span_text least greatest = λ t. codes "," ++ e t ++ codes "," ++ f t in
    joined ∙ same

-- the two spans of a cell that has sides
pub spans : (cell : Cell) (box : Envelope) (x xx y yy : ℤ) → cell ≡ Some box → x ≡ box.least_x → xx ≡ box.greatest_x → y ≡ box.least_y → yy ≡ box.greatest_y
    → span_text x xx ++ span_text y yy ≡ sides_text cell
spans cell box x xx y yy is e f h i =
    let same : span_text x xx ++ span_text y yy ≡ sides_text (Some box) = λ t. span_text (e t) (f t) ++ span_text (h t) (i t) in
    same ∙ ap sides_text (sym is)
