-- What is found along the lines of a tree.
use Rattle.std.proofs.Common.{◌≡◌, ◌∙◌, ◌+◌, ℕ, Bool, true, false, cond, List, [], ◌∷◌, ◌++◌, length, map, append_assoc, append-nil, ℤ, pos, ◌-ℤ◌, ◌≤ℤ◌, ◌<ℤ◌, Option, Some, None, refl, sym, ap, subst, arith}
use Rattle.std.specs.Prelude.{◌&&◌, int_le, int_lt, filter}
use Rattle.std.specs.List.{enumerate_from}
use Rattle.std.proofs.lemmas.Int.{ints}
use Rattle.std.proofs.lemmas.Bool.{and_parts, and_from, and_left, and_right}
use Rattle.std.proofs.lemmas.List.{map-append}
use Rattle.std.proofs.lemmas.List.Elements.{filter-append}
use Rattle.basics.proofs.Bools.{by_contraries, four_from, four_parts}
use Rattle.basics.proofs.Signs.{at_most_no, at_most_yes, less_yes}
use Rattle.basics.proofs.Orders.{before}
use Rattle.geometry_model.specs.Envelopes.{Envelope, overlap}
use Rattle.rtree.specs.Found.{meeting_places, placed_meets}
use Rattle.rtree.specs.Trees.{places_found}
use Rattle.table_laws.specs.Cells.{cells_of}
use Rattle.tiles.specs.Lines.{Parts, PassesThrough, low_part, high_part, least_along, greatest_along}
use Rattle.tiles.specs.Trees.{numbered_boxes, passes, is_parted}
use Rattle.tiles.specs.declared.lines.Axis.{Axis}
use Rattle.tiles.specs.declared.lines.Axis.TheVariants.{X, Y}
use Rattle.tiles.specs.declared.lines.Line.{Line}
use Rattle.tiles.specs.declared.trees.Tree.{Tree, Whole, Parted'}

-- ---- overlaps, by their four comparisons

not_before : (z at : ℤ) → at ≤ℤ z → int_le z (at -ℤ pos 1) ≡ false
not_before z at h = grind (arith, ints)

-- an envelope that meets a box and reaches before a line meets the box's part there
low_met : (axis : Axis) (at : ℤ) (box e : Envelope) → overlap box e ≡ true → least_along axis e <ℤ at → overlap (low_part axis at box) e ≡ true
low_met X at box e h l =
    let f = four_parts (int_le box.least_x e.greatest_x) (int_le e.least_x box.greatest_x) (int_le box.least_y e.greatest_y) (int_le e.least_y box.greatest_y) h in
    four_from (int_le box.least_x e.greatest_x) (int_le e.least_x (at -ℤ pos 1)) (int_le box.least_y e.greatest_y) (int_le e.least_y box.greatest_y) f.0 (before e.least_x at l) f.2 f.3
low_met Y at box e h l =
    let f = four_parts (int_le box.least_x e.greatest_x) (int_le e.least_x box.greatest_x) (int_le box.least_y e.greatest_y) (int_le e.least_y box.greatest_y) h in
    four_from (int_le box.least_x e.greatest_x) (int_le e.least_x box.greatest_x) (int_le box.least_y e.greatest_y) (int_le e.least_y (at -ℤ pos 1)) f.0 f.1 f.2 (before e.least_y at l)

low_missed : (axis : Axis) (at : ℤ) (box e : Envelope) → at ≤ℤ least_along axis e → overlap (low_part axis at box) e ≡ false
low_missed X at box e l =
    and_left (int_le box.least_x e.greatest_x && int_le e.least_x (at -ℤ pos 1) && int_le box.least_y e.greatest_y) (int_le e.least_y box.greatest_y)
    (and_left (int_le box.least_x e.greatest_x && int_le e.least_x (at -ℤ pos 1)) (int_le box.least_y e.greatest_y)
    (and_right (int_le box.least_x e.greatest_x) (int_le e.least_x (at -ℤ pos 1)) (not_before e.least_x at l)))
low_missed Y at box e l =
    and_right (int_le box.least_x e.greatest_x && int_le e.least_x box.greatest_x && int_le box.least_y e.greatest_y) (int_le e.least_y (at -ℤ pos 1)) (not_before e.least_y at l)

-- one that meets a box and reaches behind a line meets the box's part there
high_met : (axis : Axis) (at : ℤ) (box e : Envelope) → overlap box e ≡ true → at ≤ℤ greatest_along axis e → overlap (high_part axis at box) e ≡ true
high_met X at box e h l =
    let f = four_parts (int_le box.least_x e.greatest_x) (int_le e.least_x box.greatest_x) (int_le box.least_y e.greatest_y) (int_le e.least_y box.greatest_y) h in
    four_from (int_le at e.greatest_x) (int_le e.least_x box.greatest_x) (int_le box.least_y e.greatest_y) (int_le e.least_y box.greatest_y) (at_most_yes at e.greatest_x l) f.1 f.2 f.3
high_met Y at box e h l =
    let f = four_parts (int_le box.least_x e.greatest_x) (int_le e.least_x box.greatest_x) (int_le box.least_y e.greatest_y) (int_le e.least_y box.greatest_y) h in
    four_from (int_le box.least_x e.greatest_x) (int_le e.least_x box.greatest_x) (int_le at e.greatest_y) (int_le e.least_y box.greatest_y) f.0 f.1 (at_most_yes at e.greatest_y l) f.3

high_missed : (axis : Axis) (at : ℤ) (box e : Envelope) → greatest_along axis e <ℤ at → overlap (high_part axis at box) e ≡ false
high_missed X at box e l =
    and_left (int_le at e.greatest_x && int_le e.least_x box.greatest_x && int_le box.least_y e.greatest_y) (int_le e.least_y box.greatest_y)
    (and_left (int_le at e.greatest_x && int_le e.least_x box.greatest_x) (int_le box.least_y e.greatest_y)
    (and_left (int_le at e.greatest_x) (int_le e.least_x box.greatest_x) (at_most_no at e.greatest_x l)))
high_missed Y at box e l =
    and_left (int_le box.least_x e.greatest_x && int_le e.least_x box.greatest_x && int_le at e.greatest_y) (int_le e.least_y box.greatest_y)
    (and_right (int_le box.least_x e.greatest_x && int_le e.least_x box.greatest_x) (int_le at e.greatest_y) (at_most_no at e.greatest_y l))

-- ---- what meets a part meets the box

under_end : (at g z : ℤ) → int_le at g ≡ true → int_le z (at -ℤ pos 1) ≡ true → int_le z g ≡ true
under_end at g z h h2 = grind (arith, ints)

over_start : (l at z : ℤ) → int_lt l at ≡ true → int_le at z ≡ true → int_le l z ≡ true
over_start l at z h h2 = grind (arith, ints)

low_within : (axis : Axis) (at : ℤ) (box e : Envelope) → passes axis at box ≡ true → overlap (low_part axis at box) e ≡ true → overlap box e ≡ true
low_within X at box e p h =
    let f = four_parts (int_le box.least_x e.greatest_x) (int_le e.least_x (at -ℤ pos 1)) (int_le box.least_y e.greatest_y) (int_le e.least_y box.greatest_y) h in
    let q = and_parts (int_lt box.least_x at) (int_le at box.greatest_x) p in
    four_from (int_le box.least_x e.greatest_x) (int_le e.least_x box.greatest_x) (int_le box.least_y e.greatest_y) (int_le e.least_y box.greatest_y) f.0 (under_end at box.greatest_x e.least_x q.1 f.1) f.2 f.3
low_within Y at box e p h =
    let f = four_parts (int_le box.least_x e.greatest_x) (int_le e.least_x box.greatest_x) (int_le box.least_y e.greatest_y) (int_le e.least_y (at -ℤ pos 1)) h in
    let q = and_parts (int_lt box.least_y at) (int_le at box.greatest_y) p in
    four_from (int_le box.least_x e.greatest_x) (int_le e.least_x box.greatest_x) (int_le box.least_y e.greatest_y) (int_le e.least_y box.greatest_y) f.0 f.1 f.2 (under_end at box.greatest_y e.least_y q.1 f.3)

high_within : (axis : Axis) (at : ℤ) (box e : Envelope) → passes axis at box ≡ true → overlap (high_part axis at box) e ≡ true → overlap box e ≡ true
high_within X at box e p h =
    let f = four_parts (int_le at e.greatest_x) (int_le e.least_x box.greatest_x) (int_le box.least_y e.greatest_y) (int_le e.least_y box.greatest_y) h in
    let q = and_parts (int_lt box.least_x at) (int_le at box.greatest_x) p in
    four_from (int_le box.least_x e.greatest_x) (int_le e.least_x box.greatest_x) (int_le box.least_y e.greatest_y) (int_le e.least_y box.greatest_y) (over_start box.least_x at e.greatest_x q.0 f.0) f.1 f.2 f.3
high_within Y at box e p h =
    let f = four_parts (int_le box.least_x e.greatest_x) (int_le e.least_x box.greatest_x) (int_le at e.greatest_y) (int_le e.least_y box.greatest_y) h in
    let q = and_parts (int_lt box.least_y at) (int_le at box.greatest_y) p in
    four_from (int_le box.least_x e.greatest_x) (int_le e.least_x box.greatest_x) (int_le box.least_y e.greatest_y) (int_le e.least_y box.greatest_y) f.0 f.1 (over_start box.least_y at e.greatest_y q.0 f.2) f.3

-- ---- what is found

found-append : (e : Envelope) (xs ys : List (ℕ × Envelope)) → places_found e (xs ++ ys) ≡ places_found e xs ++ places_found e ys
found-append e xs ys =
    ap (λ l. map (λ n. n.0) l) (filter-append (λ n. overlap n.1 e) xs ys)
    ∙ map-append (λ n. n.0) (filter (λ n. overlap n.1 e) xs) (filter (λ n. overlap n.1 e) ys)

found_none : (n : ℕ) (box e : Envelope) → overlap box e ≡ false → places_found e ((n, box) ∷ []) ≡ []
found_none n box e h = ap (λ b. map (λ (m : ℕ × Envelope). m.0) (cond b ((n, box) ∷ []) [])) h

-- in a box that an envelope doesn't meet nothing is found
none_within : (t : Tree) (box e : Envelope) → is_parted t box ≡ true → overlap box e ≡ false → places_found e (numbered_boxes t box) ≡ []
none_within (Whole n) box e parted h = found_none n box e h
none_within (Parted' line p low q high) box e parted h =
    let last = and_parts (passes line.axis line.at box && is_parted low (low_part line.axis line.at box)) (is_parted high (high_part line.axis line.at box)) parted in
    let first = and_parts (passes line.axis line.at box) (is_parted low (low_part line.axis line.at box)) last.0 in
    let l = none_within low (low_part line.axis line.at box) e first.1 (by_contraries (overlap (low_part line.axis line.at box) e) (overlap box e) (low_within line.axis line.at box e first.0) h) in
    let r = none_within high (high_part line.axis line.at box) e last.1 (by_contraries (overlap (high_part line.axis line.at box) e) (overlap box e) (high_within line.axis line.at box e first.0) h) in
    found-append e (numbered_boxes low (low_part line.axis line.at box)) (numbered_boxes high (high_part line.axis line.at box))
    ∙ ap (λ xs. xs ++ places_found e (numbered_boxes high (high_part line.axis line.at box))) l
    ∙ r

-- what a call adds, at each box that its tree may be of
abbrev pub Adds : Tree → Envelope → List ℕ → List ℕ → Type 0
Adds t e old new = (box : Envelope) → is_parted t box ≡ true → overlap box e ≡ true → new ≡ old ++ places_found e (numbered_boxes t box)

-- what a call adds for the part before a line
abbrev pub AddsLow : Line → Tree → Envelope → List ℕ → List ℕ → Type 0
AddsLow line low e old new = (box : Envelope) → is_parted low (low_part line.axis line.at box) ≡ true → overlap box e ≡ true
    → new ≡ old ++ places_found e (numbered_boxes low (low_part line.axis line.at box))

-- what a call adds for the part behind a line
abbrev pub AddsHigh : Line → Tree → Envelope → List ℕ → List ℕ → Type 0
AddsHigh line high e old new = (box : Envelope) → is_parted high (high_part line.axis line.at box) ≡ true → overlap box e ≡ true
    → new ≡ old ++ places_found e (numbered_boxes high (high_part line.axis line.at box))

pub low_walked : (line : Line) (low : Tree) (e : Envelope) (old new : List ℕ) → least_along line.axis e <ℤ line.at → Adds low e old new → AddsLow line low e old new
low_walked line low e old new l h box parted met = h (low_part line.axis line.at box) parted (low_met line.axis line.at box e met l)

pub low_skipped : (line : Line) (low : Tree) (e : Envelope) (old new : List ℕ) → line.at ≤ℤ least_along line.axis e → new ≡ old → AddsLow line low e old new
low_skipped line low e old new l same box parted met =
    same ∙ sym (append-nil old) ∙ ap (λ xs. old ++ xs) (sym (none_within low (low_part line.axis line.at box) e parted (low_missed line.axis line.at box e l)))

pub high_walked : (line : Line) (high : Tree) (e : Envelope) (old new : List ℕ) → line.at ≤ℤ greatest_along line.axis e → Adds high e old new → AddsHigh line high e old new
high_walked line high e old new l h box parted met = h (high_part line.axis line.at box) parted (high_met line.axis line.at box e met l)

pub high_skipped : (line : Line) (high : Tree) (e : Envelope) (old new : List ℕ) → greatest_along line.axis e <ℤ line.at → new ≡ old → AddsHigh line high e old new
high_skipped line high e old new l same box parted met =
    same ∙ sym (append-nil old) ∙ ap (λ xs. old ++ xs) (sym (none_within high (high_part line.axis line.at box) e parted (high_missed line.axis line.at box e l)))

-- both sides of a line, one after the other
pub both_walked : (t : Tree) (line : Line) (low high : Tree) (e : Envelope) (old mid new : List ℕ)
    → ((box : Envelope) → numbered_boxes t box ≡ numbered_boxes low (low_part line.axis line.at box) ++ numbered_boxes high (high_part line.axis line.at box))
    → ((box : Envelope) → is_parted t box ≡ (passes line.axis line.at box && is_parted low (low_part line.axis line.at box) && is_parted high (high_part line.axis line.at box)))
    → AddsLow line low e old mid → AddsHigh line high e mid new → Adds t e old new
both_walked t line low high e old mid new boxes parts l h box parted met =
    let last = and_parts (passes line.axis line.at box && is_parted low (low_part line.axis line.at box)) (is_parted high (high_part line.axis line.at box)) (sym (parts box) ∙ parted) in
    let first = and_parts (passes line.axis line.at box) (is_parted low (low_part line.axis line.at box)) last.0 in
    let a = numbered_boxes low (low_part line.axis line.at box) in
    let b = numbered_boxes high (high_part line.axis line.at box) in
    h box last.1 met ∙ ap (λ xs. xs ++ places_found e b) (l box first.1 met)
    ∙ append_assoc old (places_found e a) (places_found e b)
    ∙ ap (λ xs. old ++ xs) (sym (found-append e a b))
    ∙ ap (λ xs. old ++ places_found e xs) (sym (boxes box))

-- ---- the numbers of cells

numbers_found : (n : ℕ) (boxes : List Envelope) (e : Envelope)
    → map (λ m. m.0) (filter (placed_meets (Some e)) (enumerate_from n (map Some boxes))) ≡ places_found e (enumerate_from n boxes)
numbers_found n [] e = refl
numbers_found n (box ∷ rest) e = go (overlap box e) (numbers_found (n + 1) rest e)
  where
    go : (b : Bool)
        → map (λ m. m.0) (filter (placed_meets (Some e)) (enumerate_from (n + 1) (map Some rest))) ≡ places_found e (enumerate_from (n + 1) rest)
        → map (λ m. m.0) (cond b ((n, Some box) ∷ filter (placed_meets (Some e)) (enumerate_from (n + 1) (map Some rest))) (filter (placed_meets (Some e)) (enumerate_from (n + 1) (map Some rest))))
        ≡ map (λ m. m.0) (cond b ((n, box) ∷ filter (λ m. overlap m.1 e) (enumerate_from (n + 1) rest)) (filter (λ m. overlap m.1 e) (enumerate_from (n + 1) rest)))
    go true h = ap (λ l. n ∷ l) h
    go false h = h

none_absent : (n : ℕ) (boxes : List Envelope) → filter (placed_meets None) (enumerate_from n (map Some boxes)) ≡ []
none_absent n [] = refl
none_absent n (box ∷ rest) = none_absent (n + 1) rest

-- the numbers of the boxes that an envelope meets are those of the cells that it meets
pub cells_met : (boxes : List Envelope) (e : Envelope) → places_found e (enumerate_from 1 boxes) ≡ meeting_places (cells_of boxes) (Some e)
cells_met boxes e = sym (numbers_found 1 boxes e)

-- no envelope meets the cell of the empty geometries alone
pub absent_met : (boxes : List Envelope) → 0 ∷ [] ≡ meeting_places (cells_of boxes) None
absent_met boxes = ap (λ l. 0 ∷ map (λ (m : ℕ × Option Envelope). m.0) l) (sym (none_absent 1 boxes))

-- what a whole tree finds
pub tree_met : (t : Tree) (whole : Envelope) (boxes : List Envelope) (e : Envelope) (old new : List ℕ) → numbered_boxes t whole ≡ enumerate_from 1 boxes
    → is_parted t whole ≡ true → old ≡ [] → overlap whole e ≡ true → Adds t e old new → new ≡ meeting_places (cells_of boxes) (Some e)
tree_met t whole boxes e old new numbered parted none met adds =
    adds whole parted met ∙ ap (λ l. l ++ places_found e (numbered_boxes t whole)) none ∙ ap (places_found e) numbered ∙ cells_met boxes e

pub tree_missed : (t : Tree) (whole : Envelope) (boxes : List Envelope) (e : Envelope) (old : List ℕ) → numbered_boxes t whole ≡ enumerate_from 1 boxes
    → is_parted t whole ≡ true → old ≡ [] → overlap whole e ≡ false → old ≡ meeting_places (cells_of boxes) (Some e)
tree_missed t whole boxes e old numbered parted none missed =
    none ∙ sym (none_within t whole e parted missed) ∙ ap (places_found e) numbered ∙ cells_met boxes e

-- ---- numbers given out

pub numbered_push : (n : ℕ) (boxes : List Envelope) (box : Envelope) (number : ℕ) → number ≡ n + length boxes
    → enumerate_from n (boxes ++ box ∷ []) ≡ enumerate_from n boxes ++ (number, box) ∷ []
numbered_push n [] box number is = ap (λ m. (m, box) ∷ []) (sym (is ∙ omega arith))
numbered_push n (b ∷ rest) box number is = ap (λ l. (n, b) ∷ l) (numbered_push (n + 1) rest box number (omega (arith, is)))

-- the numbers of both parts, one after the other
pub numbered_parts : (old mid new : List (ℕ × Envelope)) (line : Line) (low high : Tree) (box low_box high_box : Envelope)
    → low_box ≡ low_part line.axis line.at box → high_box ≡ high_part line.axis line.at box
    → mid ≡ old ++ numbered_boxes low low_box → new ≡ mid ++ numbered_boxes high high_box
    → new ≡ old ++ (numbered_boxes low (low_part line.axis line.at box) ++ numbered_boxes high (high_part line.axis line.at box))
numbered_parts old mid new line low high box low_box high_box is_low is_high l h =
    h ∙ ap (λ xs. xs ++ numbered_boxes high high_box) l ∙ append_assoc old (numbered_boxes low low_box) (numbered_boxes high high_box)
    ∙ ap (λ b. old ++ (numbered_boxes low b ++ numbered_boxes high high_box)) is_low
    ∙ ap (λ b. old ++ (numbered_boxes low (low_part line.axis line.at box) ++ numbered_boxes high b)) is_high

-- a line that passes through a box parts it
pub passes_through : (axis : Axis) (at : ℤ) (box : Envelope) → PassesThrough axis at box → passes axis at box ≡ true
passes_through X at box h = and_from (int_lt box.least_x at) (int_le at box.greatest_x) (less_yes box.least_x at h.0) (at_most_yes at box.greatest_x h.1)
passes_through Y at box h = and_from (int_lt box.least_y at) (int_le at box.greatest_y) (less_yes box.least_y at h.0) (at_most_yes at box.greatest_y h.1)

pub both_parted : (line : Line) (low high : Tree) (box low_box high_box : Envelope) → Parts line box low_box high_box
    → is_parted low low_box ≡ true → is_parted high high_box ≡ true
    → (passes line.axis line.at box && is_parted low (low_part line.axis line.at box) && is_parted high (high_part line.axis line.at box)) ≡ true
both_parted line low high box low_box high_box parts l h =
    and_from (passes line.axis line.at box && is_parted low (low_part line.axis line.at box)) (is_parted high (high_part line.axis line.at box))
    (and_from (passes line.axis line.at box) (is_parted low (low_part line.axis line.at box)) (passes_through line.axis line.at box parts.passes)
    (subst (λ b. is_parted low b ≡ true) parts.low_is l)) (subst (λ b. is_parted high b ≡ true) parts.high_is h)
