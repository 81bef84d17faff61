-- Edges near an edge: those that aren't share no point with it.
use Rattle.std.proofs.Common.{◌≡◌, inl, inr, ℕ, zero, suc, ◌+◌, ◌<◌, nat_le, Bool, true, false, cond, refl, sym, ap, subst, ◌∙◌, List, [], ◌∷◌, length, get_or, Contains, arith}
use Rattle.std.proofs.lemmas.List.{get_or_default}
use Rattle.std.proofs.lemmas.Bool.{and_from}
use Rattle.geometry_model.specs.Points.{Point, IsPoint}
use Rattle.geometry_model.specs.Geometries.{Edge}
use Rattle.geometry_model.specs.Sides.{on}
use Rattle.geometry_model.specs.FirstFaults.{share_point}
use Rattle.geometry_laws.proofs.Each.{Among}
use Rattle.matrix_laws.proofs.MatrixLists.{contains_from_among}
use Rattle.geometry_laws.proofs.SharedPoints.{shared_point_is_decided}
use Rattle.edge_boxes.specs.RunLaws.{box_of}
use Rattle.edge_boxes.specs.Sharings.{is_asked, places_asked, places_sharing}

-- ---- the places asked for
abbrev asked_from : Edge → ℕ → List Edge → List ℕ
asked_from asked n es = places_asked (record { edge = asked; bounds = box_of asked; from = 0 }) n es

abbrev passes : Edge → ℕ → Edge → Bool
passes asked n e = is_asked (record { edge = asked; bounds = box_of asked; from = 0 }) n e

places_within : (asked : Edge) (n : ℕ) (es : List Edge) (j : ℕ) → Among j (asked_from asked n es) → j < n + length es
places_within asked n [] j a = absurd a
places_within asked n (e ∷ es) j a = go (passes asked n e) a (λ b. places_within asked (suc n) es j b)
  where
    go : (t : Bool) → Among j (cond t (n ∷ asked_from asked (suc n) es) (asked_from asked (suc n) es)) → (Among j (asked_from asked (suc n) es) → j < suc n + length es) → j < n + suc (length es)
    go true (inl h) rest = omega (arith, h)
    go true (inr b) rest = let l = rest b in omega (arith, l)
    go false b rest = let l = rest b in omega (arith, l)

kept_behind : (t : Bool) (n m : ℕ) (places : List ℕ) → Among m places → Among m (cond t (n ∷ places) places)
kept_behind true n m places a = inr a
kept_behind false n m places a = a

place_of_asked : (asked : Edge) (n : ℕ) (es : List Edge) (i : ℕ) (f : Edge) → i < length es → get_or es i f ≡ f → passes asked (n + i) f ≡ true → Among (n + i) (asked_from asked n es)
place_of_asked asked n [] i f h is test = absurd (omega (arith, h))
place_of_asked asked n (e ∷ es) zero f h is test =
    let none : n + 0 ≡ n = omega arith in
    let here : passes asked n e ≡ true = subst (λ (d : Edge). passes asked n d ≡ true) (sym is) (subst (λ m. passes asked m f ≡ true) none test) in
    subst (λ m. Among m (asked_from asked n (e ∷ es))) (sym none)
    (subst (λ (t : Bool). Among n (cond t (n ∷ asked_from asked (suc n) es) (asked_from asked (suc n) es))) (sym here) (inl refl))
place_of_asked asked n (e ∷ es) (suc i) f h is test =
    let next : suc n + i ≡ n + suc i = omega arith in
    kept_behind (passes asked n e) n (n + suc i) (asked_from asked (suc n) es)
    (subst (λ m. Among m (asked_from asked (suc n) es)) next (place_of_asked asked (suc n) es i f (omega (arith, h)) is (subst (λ m. passes asked m f ≡ true) (sym next) test)))

-- ---- the places of the edges near
pub near_within : (asked : Edge) (edges : List Edge) (near : List ℕ) (k n : ℕ) → near ≡ places_sharing asked 0 edges → k < length near → get_or near k n < length edges
near_within asked edges near k n is within =
    let l : get_or near k n < 0 + length edges = places_within asked 0 edges (get_or near k n)
    (subst (λ places. Among (get_or near k n) places) is (applies near k n within)) in
    omega (arith, l)
  where
    applies : (places : List ℕ) (k n : ℕ) → k < length places → Among (get_or places k n) places
    applies [] k n h = absurd (omega (arith, h))
    applies (p ∷ places) zero n h = inl refl
    applies (p ∷ places) (suc k) n h = inr (applies places k n (omega (arith, h)))

least : (n : ℕ) → nat_le 0 n ≡ true
least n = grind arith

pub near_found : (asked : Edge) (edges : List Edge) (near : List ℕ) (j : ℕ) (f : Edge) → near ≡ places_sharing asked 0 edges → j < length edges → get_or edges j f ≡ f → share_point asked f ≡ true → Contains near j
near_found asked edges near j f is within applies meets =
    let none : 0 + j ≡ j = omega arith in
    let found : Among (0 + j) (asked_from asked 0 edges) = place_of_asked asked 0 edges j f within applies (subst (λ m. passes asked m f ≡ true) (sym none) (and_from (nat_le 0 j) (share_point asked f) (least j) meets)) in
    contains_from_among near j (subst (λ places. Among j places) (sym is) (subst (λ m. Among m (asked_from asked 0 edges)) none found))

-- ---- edges that share a point are near each other
pub sharing : (e f : Edge) (p : Point) → IsPoint p → on e p ≡ true → on f p ≡ true → share_point e f ≡ true
sharing e f p hp ke kf = (shared_point_is_decided e f).1 (record { at = p; is_point = hp; on_first = ke; on_second = kf })

-- an edge that shares a point is at one of the places
pub record IsNearAt (near : List ℕ) (others : List Edge) (f : Edge) : Type 0 where
  pub index : ℕ
  pub within : index < length near
  pub place : ℕ
  pub applies : get_or others (get_or near index place) f ≡ f

pub sharing_is_near : (e : Edge) (others : List Edge) (near : List ℕ) (f : Edge) (p : Point) → near ≡ places_sharing e 0 others → Contains others f → IsPoint p → on e p ≡ true → on f p ≡ true → IsNearAt near others f
sharing_is_near e others near f p is c hp ke kf = found (near_found e others near c.0 f is c.1 c.2 (sharing e f p hp ke kf))
  where
    found : Contains near c.0 → IsNearAt near others f
    found d = record { index = d.0; within = d.1; place = c.0; applies = ap (λ j. get_or others j f) d.2 ∙ c.2 }

-- the place that is read is there, whatever stands for one past the end
pub place_is_there : (near : List ℕ) (k n : ℕ) → k < length near → get_or near k n ≡ get_or near k (get_or near k n)
place_is_there near k n h = sym (get_or_default near k (get_or near k n) n h)
