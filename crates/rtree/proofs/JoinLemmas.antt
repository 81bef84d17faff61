-- Envelopes joined in one order or another.
use Rattle.std.proofs.Common.{◌≡◌, ◌∙◌, ℤ, List, [], ◌∷◌, ◌++◌, map, Option, Some, None, ap, refl, sym, arith, ◌<◌, ◌+◌, ℕ, take, length, get_or, append-nil}
use Rattle.std.specs.Prelude.{flat_map}
use Rattle.std.specs.Int.{int_min, int_max}
use Rattle.std.proofs.lemmas.Int.{ints}
use Rattle.std.proofs.lemmas.List.{map-append}
use Rattle.std.proofs.lemmas.Grind.{flat_map-append}
use Rattle.geometry_model.specs.Points.{Position}
use Rattle.geometry_model.specs.Envelopes.{Envelope, envelope_at, envelope_of_positions, joined, with_position}
use Rattle.rtree.proofs.FoundLemmas.{taken}
use Rattle.rtree.specs.Joins.{joined_all, joined_both, with_envelope}
use Rattle.rtree.specs.Packing.{Entry, around}

-- the least of three numbers is the same in any grouping, and so is the greatest
min_assoc : (a b c : ℤ) → int_min (int_min a b) c ≡ int_min a (int_min b c)
min_assoc a b c = grind (arith, ints)

max_assoc : (a b c : ℤ) → int_max (int_max a b) c ≡ int_max a (int_max b c)
max_assoc a b c = grind (arith, ints)

-- envelopes join in any grouping
pub joined_assoc : (e f g : Envelope) → joined (joined e f) g ≡ joined e (joined f g)
joined_assoc e f g =
    let first = min_assoc e.least_x f.least_x g.least_x in
    let second = max_assoc e.greatest_x f.greatest_x g.greatest_x in
    let third = min_assoc e.least_y f.least_y g.least_y in
    let fourth = max_assoc e.greatest_y f.greatest_y g.greatest_y in
    rw (first, second, third, fourth) refl

-- an envelope taken in before others may as well be joined to the first of them
both_later : (e : Envelope) (a b : Option Envelope) → Some (with_envelope e (joined_both a b)) ≡ joined_both (Some (with_envelope e a)) b
both_later e None b = refl
both_later e (Some f) None = refl
both_later e (Some f) (Some g) = ap Some (sym (joined_assoc e f g))

-- the envelope of two lists together joins theirs
pub joined-append : (es fs : List Envelope) → joined_all (es ++ fs) ≡ joined_both (joined_all es) (joined_all fs)
joined-append [] fs = refl
joined-append (e ∷ es) fs = ap (λ r. Some (with_envelope e r)) (joined-append es fs) ∙ both_later e (joined_all es) (joined_all fs)

-- so does that of two groups of entries
pub around-append : (es fs : List Entry) → around (es ++ fs) ≡ joined_both (around es) (around fs)
around-append es fs = ap joined_all (map-append (λ e. e.1) es fs) ∙ joined-append (map (λ e. e.1) es) (map (λ e. e.1) fs)

-- one envelope more
pub joined_more : (es : List Envelope) (all e : Envelope) → Some all ≡ joined_all es → Some (joined all e) ≡ joined_all (es ++ e ∷ [])
joined_more es all e h = ap (λ r. joined_both r (Some e)) h ∙ sym (joined-append es (e ∷ []))

-- the envelopes of some nodes joined are that of all below them
pub joined_nodes : (es : List Envelope) (nodes : List (List Entry)) → map Some es ≡ map around nodes → joined_all es ≡ around (flat_map (λ node. node) nodes)
joined_nodes [] [] h = refl
joined_nodes [] (node ∷ nodes) h = cc
joined_nodes (e ∷ es) [] h = cc
joined_nodes (e ∷ es) (node ∷ nodes) h =
    let here : Some e ≡ around node = cc in
    let rest : map Some es ≡ map around nodes = cc in
    ap (λ r. Some (with_envelope e r)) (joined_nodes es nodes rest) ∙ ap (λ r. joined_both r (around (flat_map (λ n. n) nodes))) here ∙ sym (around-append node (flat_map (λ n. n) nodes))

-- the envelope of positions is that of their own envelopes
joined_positions : (ps : List Position) → envelope_of_positions ps ≡ joined_all (map envelope_at ps)
joined_positions [] = refl
joined_positions (a ∷ ps) = go (envelope_of_positions ps) refl (joined_positions ps)
  where
    go : (r : Option Envelope) → envelope_of_positions ps ≡ r → r ≡ joined_all (map envelope_at ps) → Some (with_position a r) ≡ joined_all (map envelope_at (a ∷ ps))
    go None h more = ap (λ r. Some (with_envelope (envelope_at a) r)) more
    go (Some e) h more = ap (λ r. Some (with_envelope (envelope_at a) r)) more

-- and that of two lists of positions
pub positions-append : (ps qs : List Position) → envelope_of_positions (ps ++ qs) ≡ joined_both (envelope_of_positions ps) (envelope_of_positions qs)
positions-append ps qs =
    joined_positions (ps ++ qs) ∙ ap joined_all (map-append envelope_at ps qs) ∙ joined-append (map envelope_at ps) (map envelope_at qs)
    ∙ ap (λ r. joined_both r (joined_all (map envelope_at qs))) (sym (joined_positions ps)) ∙ ap (joined_both (envelope_of_positions ps)) (sym (joined_positions qs))

-- one line more
pub lines_more : (lines : List (List Position)) (i : ℕ) (line : List Position) (before own all : Option Envelope) → i < length lines → line ≡ get_or lines i line
    → before ≡ envelope_of_positions (flat_map (λ l. l) (take i lines)) → own ≡ envelope_of_positions line → all ≡ joined_both before own
    → all ≡ envelope_of_positions (flat_map (λ l. l) (take (i + 1) lines))
lines_more lines i line before own all within is first second both =
    both ∙ ap (λ r. joined_both r own) first ∙ ap (joined_both (envelope_of_positions (flat_map (λ l. l) (take i lines)))) second
    ∙ sym (positions-append (flat_map (λ l. l) (take i lines)) line)
    ∙ ap envelope_of_positions
    (sym
    (ap (flat_map (λ l. l)) (taken lines i line within is) ∙ flat_map-append (λ l. l) (take i lines) (line ∷ [])
    ∙ ap (λ l. flat_map (λ g. g) (take i lines) ++ l) (append-nil line)))
