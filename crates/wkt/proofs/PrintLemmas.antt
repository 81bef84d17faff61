-- The parts of a canonical text.
use Rattle.std.proofs.Common.{◌≡◌, ℕ, zero, suc, ◌+◌, ◌<◌, ◌==◌, true, false, List, [], ◌∷◌, ◌++◌, length, map, take, drop, get_or, codes, Option, Some, Result, Ok, Err, OnOk, OnErr, arith, refl, sym, ◌∙◌, ap, ap₂, subst, add-one, append_assoc, append-nil, suc-ne-zero}
use Rattle.std.proofs.lemmas.Bool.{true≢false}
use Rattle.std.proofs.lemmas.Bool.Decides.{Decides-eqb}
use Rattle.streams.specs.Sinks.{AppendsFront}
use Rattle.streams.proofs.PartLemmas.{parts-more, parts-split}
use Rattle.streams.proofs.SinkLemmas.{Appends-then, AppendsFront-then, AppendsFront-more}
use Rattle.std.specs.List.{concat, join_with_byte}
use Rattle.std.specs.Io.KnownBytes.{Appends}
use Rattle.geometry_model.specs.Points.{Position}
use Rattle.geometry_model.specs.Geometries.{Geometry}
use Rattle.geometry_model.specs.WellKnownText.{Spells}
use Rattle.geometry_model.specs.CanonicalText.{canonical_text, position_text, point_text, line_text, polygon_text, tagged_text}
use Rattle.text_laws.proofs.TextPrinted.{canonical_text_spells}
use Rattle.wkt.specs.Printing.{HoldsText, opening_text}

-- the parts of a position, joined
pub number_parts : (before x y behind : List ℕ) → concat (before ∷ x ∷ codes " " ∷ y ∷ behind ∷ []) ≡ before ++ (x ++ codes " " ++ y) ++ behind
number_parts before x y behind = simp (append_assoc, append-nil)

-- joining is putting a byte before each but the first
pub join-first : (c : ℕ) {X : Type 0} (text : X → List ℕ) (first : List ℕ) (more : List X)
    → first ++ concat (map (λ x. c ∷ text x) more) ≡ join_with_byte c (first ∷ map text more)
join-first c text first [] = append-nil first
join-first c text first (x ∷ more) = ap (λ l. first ++ (c ∷ l)) (join-first c text (text x) more)

-- what comes before the numbers of the first point, these, and what comes after them
abbrev pub first_text : Position → List ℕ
first_text p = codes "MULTIPOINT((" ++ position_text p ++ codes ")"

-- the other points, each with a comma before it
abbrev pub more_text : List Position → List ℕ
more_text more = concat (map (λ p. codes "," ++ point_text p) more)

-- the parts of a MULTIPOINT, joined
multi_point_parts : (p : Position) (more : List Position)
    → first_text p ++ (more_text more ++ codes ")") ≡ tagged_text (codes "MULTIPOINT") (map point_text (p ∷ more))
multi_point_parts p more =
    ap (λ l. codes "MULTIPOINT(" ++ l)
    (sym (append_assoc (point_text p) (more_text more) (codes ")"))
    ∙ ap (λ l. l ++ codes ")") (join-first 44 point_text (point_text p) more))

-- the same, where the points are split into the first and the others
pub multi_point_split : (points : List Position) (p : Position) (more : List Position) → points ≡ p ∷ more
    → first_text p ++ (more_text more ++ codes ")") ≡ tagged_text (codes "MULTIPOINT") (map point_text points)
multi_point_split points p more split =
    multi_point_parts p more ∙ ap (λ ps. tagged_text (codes "MULTIPOINT") (map point_text ps)) (sym split)

-- the text of a MULTIPOINT without points
pub multi_point_empty : (ps : List Position) → length ps ≡ 0 → codes "MULTIPOINT EMPTY" ≡ tagged_text (codes "MULTIPOINT") (map point_text ps)
multi_point_empty [] none = refl
multi_point_empty (p ∷ ps) none = absurd (omega arith)

-- the other positions of a line, each with a comma before it
abbrev pub line_more : List Position → List ℕ
line_more more = concat (map (λ p. codes "," ++ position_text p ++ codes "") more)

-- an empty text behind each position changes nothing
bare_more : (more : List Position) → line_more more ≡ concat (map (λ p. 44 ∷ position_text p) more)
bare_more [] = refl
bare_more (p ∷ more) = ap₂ (λ a b. 44 ∷ (a ++ b)) (append-nil (position_text p)) (bare_more more)

-- the positions of a line, joined, where they are split into the first and the others
pub line_split : (ps : List Position) (p : Position) (more : List Position) → ps ≡ p ∷ more → (position_text p ++ codes "") ++ line_more more ≡ join_with_byte 44 (map position_text ps)
line_split ps p more split = ap₂ (λ a b. a ++ b) (append-nil (position_text p)) (bare_more more)
    ∙ (join-first 44 position_text (position_text p) more ∙ ap (λ qs. join_with_byte 44 (map position_text qs)) (sym split))

-- a text of a list, with a comma before it unless it is the first
abbrev pub parted : ℕ → List ℕ → List ℕ
parted zero text = text
parted (suc before) text = 44 ∷ text

-- the comma that parts a list from the one before it comes before its parenthesis
pub opened : (index : ℕ) (text : List ℕ) → opening_text index ++ text ≡ parted index (codes "(" ++ text)
opened zero text = refl
opened (suc before) text = refl

-- one text more, joined
joined_more : {X : Type 0} (v : X → List ℕ) (xs : List X) (i : ℕ) (d : X) → i < length xs
    → join_with_byte 44 (map v (take (suc i) xs)) ≡ join_with_byte 44 (map v (take i xs)) ++ parted i (v (get_or xs i d))
joined_more v [] i d within = absurd (omega (arith, within))
joined_more v (x ∷ xs) zero d within = refl
joined_more v (x ∷ xs) (suc i) d within =
    sym (join-first 44 v (v x) (take (suc i) xs))
    ∙ (ap (λ l. v x ++ l) (parts-more (λ y. 44 ∷ v y) xs i d (omega (arith, within)))
    ∙ (sym (append_assoc (v x) (concat (map (λ y. 44 ∷ v y) (take i xs))) (44 ∷ v (get_or xs i d)))
    ∙ ap (λ l. l ++ (44 ∷ v (get_or xs i d))) (join-first 44 v (v x) (take i xs))))

-- the texts before a place, the one at that place, and those after it
joined_split : {X : Type 0} (v : X → List ℕ) (xs : List X) (i : ℕ) (d : X) → i < length xs
    → join_with_byte 44 (map v xs) ≡ join_with_byte 44 (map v (take i xs)) ++ (parted i (v (get_or xs i d)) ++ concat (map (λ y. 44 ∷ v y) (drop (suc i) xs)))
joined_split v [] i d within = absurd (omega (arith, within))
joined_split v (x ∷ xs) zero d within = sym (join-first 44 v (v x) xs)
joined_split v (x ∷ xs) (suc i) d within =
    sym (join-first 44 v (v x) xs)
    ∙ (ap (λ l. v x ++ l) (parts-split (λ y. 44 ∷ v y) xs i d (omega (arith, within)))
    ∙ (sym (append_assoc (v x) (concat (map (λ y. 44 ∷ v y) (take i xs))) ((44 ∷ v (get_or xs i d)) ++ concat (map (λ y. 44 ∷ v y) (drop (suc i) xs))))
    ∙ ap (λ l. l ++ ((44 ∷ v (get_or xs i d)) ++ concat (map (λ y. 44 ∷ v y) (drop (suc i) xs)))) (join-first 44 v (v x) (take i xs))))

-- the texts up to a place, that one among them, were put
pub joined-put : {X : Type 0} (v : X → List ℕ) (xs : List X) (i : ℕ) (d : X) (text : List ℕ) (a b c : Option (List ℕ)) → i < length xs → text ≡ parted i (v (get_or xs i d))
    → Appends a b (join_with_byte 44 (map v (take i xs))) → Appends b c text → Appends a c (join_with_byte 44 (map v (take (i + 1) xs)))
joined-put v xs i d text a b c within is before piece =
    rw add-one (subst (λ l. Appends a c l) (sym (joined_more v xs i d within))
    (Appends-then a b c (join_with_byte 44 (map v (take i xs))) (parted i (v (get_or xs i d))) before (subst (λ l. Appends b c l) is piece)))

-- a front of the text at a place is a front of the whole
pub joined-front : {X : Type 0} (v : X → List ℕ) (xs : List X) (i : ℕ) (d : X) (text : List ℕ) (a b c : Option (List ℕ)) → i < length xs → text ≡ parted i (v (get_or xs i d))
    → Appends a b (join_with_byte 44 (map v (take i xs))) → AppendsFront b c text → AppendsFront a c (join_with_byte 44 (map v xs))
joined-front v xs i d text a b c within is before front =
    let part = parted i (v (get_or xs i d)) in
    let rest = concat (map (λ y. 44 ∷ v y) (drop (suc i) xs)) in
    subst (λ l. AppendsFront a c l) (sym (joined_split v xs i d within))
    (AppendsFront-then a b c (join_with_byte 44 (map v (take i xs))) (part ++ rest) before (AppendsFront-more b c part rest (subst (λ l. AppendsFront b c l) is front)))

-- a line, and a polygon, behind what comes before it
pub line_at : (index : ℕ) (before : List ℕ) (ps line : List Position) → before ≡ opening_text index → ps ≡ line
    → before ++ (join_with_byte 44 (map position_text ps) ++ codes ")") ≡ parted index (line_text line)
line_at index before ps line is same = ap₂ (λ o (l : List Position). o ++ (join_with_byte 44 (map position_text l) ++ codes ")")) is same
    ∙ opened index (join_with_byte 44 (map position_text line) ++ codes ")")

pub polygon_at : (index : ℕ) (before : List ℕ) (rings polygon : List (List Position)) → before ≡ opening_text index → rings ≡ polygon
    → before ++ (join_with_byte 44 (map line_text rings) ++ codes ")") ≡ parted index (polygon_text polygon)
polygon_at index before rings polygon is same = ap₂ (λ o (l : List (List Position)). o ++ (join_with_byte 44 (map line_text l) ++ codes ")")) is same
    ∙ opened index (join_with_byte 44 (map line_text polygon) ++ codes ")")

-- a front of the last part is a front of both, behind the first
pub then-front : {A E : Type 0} (r : Result A E) (a b c : Option (List ℕ)) (x y text : List ℕ) → x ++ y ≡ text → Appends a b x → OnErr r (AppendsFront b c y) → OnErr r (AppendsFront a c text)
then-front (Ok v) a b c x y text e first last = tt
then-front (Err v) a b c x y text e first last = subst (λ l. AppendsFront a c l) e (AppendsFront-then a b c x y first last)

-- the text of a list that isn't empty
pub named_list : {X : Type 0} (name : List ℕ) (v : X → List ℕ) (xs : List X) → (length xs == 0) ≡ false → name ++ (codes "(" ++ (join_with_byte 44 (map v xs) ++ codes ")")) ≡ tagged_text name (map v xs)
named_list name v [] some = absurd (true≢false some)
named_list name v (x ∷ xs) some = refl

-- and of an empty one
pub named_none : {X : Type 0} (name : List ℕ) (v : X → List ℕ) (xs : List X) → (length xs == 0) ≡ true → name ++ codes " EMPTY" ≡ tagged_text name (map v xs)
named_none name v [] none = refl
named_none name v (x ∷ xs) none = absurd (suc-ne-zero (length xs) ((Decides-eqb (length (x ∷ xs)) 0).0 none))

-- what was put into a sink without bytes is what it holds
held-text : (old new : Option (List ℕ)) (held text : List ℕ) → old ≡ Some [] → new ≡ Some held → Appends old new text → held ≡ text
held-text old new held text no_bytes holds put =
    subst (λ o. Appends o (Some held) text → held ≡ text) (sym no_bytes) (λ now. now) (subst (λ n. Appends old n text) holds put)

-- a sink that took the canonical text holds a text of the geometry
pub put-holds : {A E : Type 0} (r : Result A E) (old new : Option (List ℕ)) (g : Geometry) → OnOk r (Appends old new (canonical_text g)) → OnOk r (HoldsText old new g)
put-holds (Ok a) old new g put =
    λ some_text held spelled no_bytes holds.
    subst (λ l. Spells l g) (sym (held-text old new held (canonical_text g) no_bytes holds put)) (canonical_text_spells some_text g spelled)
put-holds (Err e) old new g put = tt
