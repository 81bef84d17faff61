-- The stretches between neighbours of a list, as they are found one point after the other.
use Rattle.std.proofs.Common.{◌≡◌, ℕ, suc, ◌+◌, ◌<◌, refl, sym, ap, ◌∙◌, List, [], ◌∷◌, ◌++◌, length, get_or, map, take, append_assoc, arith}
use Rattle.std.proofs.Math.Seq.{take-suc}
use Rattle.std.proofs.lemmas.List.{map-append}
use Rattle.geometry_model.specs.Points.{Point}
use Rattle.geometry_model.specs.Pieces.{Piece, stretches}
use Rattle.noding.specs.Nodings.{piece_of}

-- a point after the last
stretches_to_next : (xs : List Point) (p q : Point) → stretches ((xs ++ p ∷ []) ++ q ∷ []) ≡ stretches (xs ++ p ∷ []) ++ record { lesser = p; greater = q } ∷ []
stretches_to_next [] p q = refl
stretches_to_next (x ∷ []) p q = refl
stretches_to_next (x ∷ y ∷ xs) p q = ap (λ (cs : List Piece). record { lesser = x; greater = y } ∷ cs) (stretches_to_next (y ∷ xs) p q)

-- one break point more adds the stretch from the one before it
stretches_of_more : (xs : List Point) (j i n : ℕ) (p q : Point) → i ≡ suc j → n ≡ suc i → i < length xs → p ≡ get_or xs j p → q ≡ get_or xs i q
    → stretches (take n xs) ≡ stretches (take i xs) ++ record { lesser = p; greater = q } ∷ []
stretches_of_more xs j i n p q ei en l ep eq =
    ap stretches (until_next ∙ ap (λ ys. ys ++ q ∷ []) until_this) ∙ stretches_to_next (take j xs) p q ∙ ap (λ ys. stretches ys ++ record { lesser = p; greater = q } ∷ []) (sym until_this)
  where
    until_this : take i xs ≡ take j xs ++ p ∷ []
    until_this = ap (λ k. take k xs) ei ∙ take-suc xs j p (omega (arith, l, ei)) ∙ ap (λ (x : Point). take j xs ++ x ∷ []) (sym ep)

    until_next : take n xs ≡ take i xs ++ q ∷ []
    until_next = ap (λ k. take k xs) en ∙ take-suc xs i q l ∙ ap (λ (x : Point). take i xs ++ x ∷ []) (sym eq)

-- the same of pieces that are kept as pairs of points
pub pieces_of_more : (xs : List Point) (j i : ℕ) (p q : Point) (cs ds : List (Point × Point)) (before : List Piece) → i ≡ j + 1 → i < length xs → p ≡ get_or xs j p → q ≡ get_or xs i q
    → ds ≡ cs ++ (p, q) ∷ [] → map piece_of cs ≡ before ++ stretches (take i xs) → map piece_of ds ≡ before ++ stretches (take (i + 1) xs)
pieces_of_more xs j i p q cs ds before ei l ep eq grown h = ap (map piece_of) grown ∙ map-append piece_of cs ((p, q) ∷ []) ∙ ap (λ us. us ++ last) h
    ∙ append_assoc before (stretches (take i xs)) last ∙ ap (λ us. before ++ us) (sym (stretches_of_more xs j i (i + 1) p q (omega (arith, ei)) (omega arith) l ep eq))
  where
    last : List Piece
    last = record { lesser = p; greater = q } ∷ []
