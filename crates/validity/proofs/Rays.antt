-- Which first positions edges surround: one of the edges that surround a position faces it, and meets the ray from it.
use Rattle.std.proofs.Common.{◌≡◌, ◌≢◌, refl, sym, ap, ap₂, ◌∙◌, subst, ℕ, zero, suc, ◌+◌, ◌<◌, ◌≤◌, ℤ, pos, ◌-ℤ◌, ◌*ℤ◌, ◌≤ℤ◌, int_le, int_lt, Bool, true, false, not, ◌&&◌, ◌||◌, ◌==◌, nat_lt, List, [], ◌∷◌, map, length, Option, Some, None, slice_get, get_or, arith, below_more, ltb-true, ltb-false, append-nil}
use Rattle.std.specs.Int.{int_min, int_max}
use Rattle.std.specs.List.{find, flat_map}
use Rattle.std.proofs.lemmas.Bool.{eqb-false, or_from, and_parts}
use Rattle.std.proofs.lemmas.Int.{ints, clamps}
use Rattle.std.proofs.lemmas.Option.{slice_get_within, slice_get-map, get_or_from_slice_get}
use Rattle.std.specs.Option.{option_map}
use Rattle.basics.proofs.Bools.{four_from}
use Rattle.basics.proofs.Signs.{at_most_yes, at_most_from, not_at_most_from}
use Rattle.basics.proofs.Lists.{unmapped}
use Rattle.geometry_model.specs.Points.{Position, IsPoint, point_at}
use Rattle.geometry_model.specs.Geometries.{Geometry, Edge, lines, rings, elements, edges_of_line, edges_of_lines}
use Rattle.geometry_model.specs.Crossings.{exactly_one as xor, reaches, spans, side_rightward, strictly_above}
use Rattle.geometry_model.specs.Envelopes.{envelope_at, joined, overlap}
use Rattle.geometry_model.specs.WellKnownText.{coordinate_limit}
use Rattle.geometry_model.specs.Validity.{inside, inside_element}
use Rattle.geometry_model.specs.FirstFaults.{has_fault, numbers, of_pairs, test_of_both}
use Rattle.geometry_model.specs.declared.validity_faults.ValidityFault.{ValidityFault}
use Rattle.geometry_model.specs.declared.validity_faults.ValidityFault.TheVariants.{HolesNested, ElementInside}
use Rattle.geometry_laws.proofs.Each.{Each, parity, parity_xor, odd_count}
use Rattle.geometry_laws.proofs.RingParity.{each_from_all, rings_cancel}
use Rattle.geometry_laws.specs.RingLaws.{IsClosed}
use Rattle.geometry_laws.specs.PieceLaws.{HasClosedRings}
use Rattle.rtree.specs.Found.{meeting_places}
use Rattle.edge_boxes.specs.RunLaws.{box_of}
use Rattle.edge_boxes.specs.RingEdges.{is_odd_above}
use Rattle.edge_boxes.proofs.EdgeSides.{off_below, is_over}
use Rattle.edge_boxes.proofs.Runs.{inside_by_edges}
use Rattle.validity.specs.FaultOrder.{of_other_elements}
use Rattle.validity.specs.Rays.{last_y, far_end, ray, faces, SpanEvenly, line_firsts, element_firsts, first_of_ring, first_of_element, SurroundNone, SurroundNoneFaced, SurroundNoneAt}
use Rattle.validity.specs.declared.first_positions.Way.{Way}
use Rattle.validity.specs.declared.first_positions.Way.TheVariants.{Up, Down}
use Rattle.validity.proofs.NearNumbers.{closed_at, element_closed, rings_of_elements}
use Rattle.validity.specs.Outlines.{AreRings}
use Rattle.validity.proofs.Finding.{none_left, passed_here, none_among, passed_among}
use Rattle.validity.proofs.RingNumbers.{holes_nested_at}
use Rattle.validity.proofs.ApartRings.{met_from, none_of_numbers, none_of_parts}

-- ---- an edge that faces a position meets the ray from it
abbrev is_up : Way → Bool
is_up Up = true
is_up Down = false

-- an edge spans the position that it faces, and is above it exactly where the ray leads upwards
record IsFaced (way : Way) (e : Edge) (p : Position) : Type 0 where
  pub spanned : spans e (point_at p) ≡ true
  pub above : strictly_above e (point_at p) ≡ is_up way

faced : (way : Way) (e : Edge) (p : Position) → faces way e p ≡ true → IsFaced way e p
faced Up e p h = record {
  spanned = (and_parts (spans e (point_at p)) (int_lt (side_rightward e (point_at p)) (pos 0)) h).0;
  above = h;
}
faced Down e p h = let w = go (spans e (point_at p)) (int_lt (side_rightward e (point_at p)) (pos 0)) h in
    record { spanned = w.0; above = w.1 }
  where
    go : (s t : Bool) → xor s (s && t) ≡ true → (s ≡ true) × (s && t ≡ false)
    go true true h = absurd (let z : false ≡ true = h in cc)
    go true false h = (refl, refl)
    go false t h = absurd (let z : false ≡ true = h in cc)

-- the position is between the ends of an edge that spans it
record IsBetween (e : Edge) (p : Position) : Type 0 where
  pub left : int_min e.start.x e.end.x ≤ℤ p.x
  pub right : p.x ≤ℤ int_max e.start.x e.end.x

between : (e : Edge) (p : Position) → spans e (point_at p) ≡ true → IsBetween e p
between e p h = go (int_le (e.start.x *ℤ pos 1) p.x) refl (int_le (e.end.x *ℤ pos 1) p.x) refl h
  where
    go : (a : Bool) → int_le (e.start.x *ℤ pos 1) p.x ≡ a → (b : Bool) → int_le (e.end.x *ℤ pos 1) p.x ≡ b → xor a b ≡ true
        → IsBetween e p
    go true f true g h = absurd (let z : false ≡ true = h in cc)
    go true f false g h =
        let low = at_most_from (e.start.x *ℤ pos 1) p.x f in
        let high = not_at_most_from (e.end.x *ℤ pos 1) p.x g in
        record { left = omega (arith, ints, clamps, low, high); right = omega (arith, ints, clamps, low, high) }
    go false f true g h =
        let low = at_most_from (e.end.x *ℤ pos 1) p.x g in
        let high = not_at_most_from (e.start.x *ℤ pos 1) p.x f in
        record { left = omega (arith, ints, clamps, low, high); right = omega (arith, ints, clamps, low, high) }
    go false f false g h = absurd (let z : false ≡ true = h in cc)

positive : (p : Position) → IsPoint (point_at p)
positive p = omega (arith, ints)

-- the position isn't over both ends of an edge above it
not_over : (e : Edge) (p : Position) → strictly_above e (point_at p) ≡ true → p.y ≤ℤ int_max e.start.y e.end.y
not_over e p h = go (int_le p.y (e.start.y *ℤ pos 1)) refl (int_le p.y (e.end.y *ℤ pos 1)) refl
  where
    go : (a : Bool) → int_le p.y (e.start.y *ℤ pos 1) ≡ a → (b : Bool) → int_le p.y (e.end.y *ℤ pos 1) ≡ b
        → p.y ≤ℤ int_max e.start.y e.end.y
    go true f b g = omega (arith, ints, clamps, at_most_from p.y (e.start.y *ℤ pos 1) f)
    go false f true g = omega (arith, ints, clamps, at_most_from p.y (e.end.y *ℤ pos 1) g)
    go false f false g = absurd (let z : false ≡ true = sym (off_below e (point_at p) (positive p) f g).above ∙ h in cc)

-- it isn't under both ends of an edge that spans it and isn't above it
not_under : (e : Edge) (p : Position) → spans e (point_at p) ≡ true → strictly_above e (point_at p) ≡ false
    → int_min e.start.y e.end.y ≤ℤ p.y
not_under e p h k = go (int_le (e.start.y *ℤ pos 1) p.y) refl (int_le (e.end.y *ℤ pos 1) p.y) refl
  where
    go : (a : Bool) → int_le (e.start.y *ℤ pos 1) p.y ≡ a → (b : Bool) → int_le (e.end.y *ℤ pos 1) p.y ≡ b
        → int_min e.start.y e.end.y ≤ℤ p.y
    go true f b g = omega (arith, ints, clamps, at_most_from (e.start.y *ℤ pos 1) p.y f)
    go false f true g = omega (arith, ints, clamps, at_most_from (e.end.y *ℤ pos 1) p.y g)
    go false f false g = absurd
        (let z : false ≡ true = sym k ∙ (is_over e (point_at p) (positive p) f g).above ∙ h in cc)

-- so the edge's envelope overlaps the ray's, which goes to the limit
ray_meets : (way : Way) (e : Edge) (p : Position) → e.start.y ≤ℤ pos coordinate_limit
    → (pos 0 -ℤ pos coordinate_limit) ≤ℤ e.start.y → faces way e p ≡ true
    → overlap (joined (envelope_at p) (envelope_at (far_end way p))) (box_of e) ≡ true
ray_meets way e p low high h =
    let f = faced way e p h in
    let x = between e p f.spanned in
    let y = in_height way f in
    four_from _ _ _ _
    (at_most_yes (int_min p.x p.x) (int_max e.start.x e.end.x) (from_left p.x (int_max e.start.x e.end.x) x.right))
    (at_most_yes (int_min e.start.x e.end.x) (int_max p.x p.x) (to_right (int_min e.start.x e.end.x) p.x x.left))
    (at_most_yes (int_min p.y (last_y way)) (int_max e.start.y e.end.y) y.0)
    (at_most_yes (int_min e.start.y e.end.y) (int_max p.y (last_y way)) y.1)
  where
    from_left : (x far : ℤ) → x ≤ℤ far → int_min x x ≤ℤ far
    from_left x far k = omega (arith, ints, clamps, k)

    to_right : (near x : ℤ) → near ≤ℤ x → near ≤ℤ int_max x x
    to_right near x k = omega (arith, ints, clamps, k)

    first_least : (y top far : ℤ) → y ≤ℤ far → int_min y top ≤ℤ far
    first_least y top far k = omega (arith, ints, clamps, k)

    last_least : (y s t bottom : ℤ) → bottom ≤ℤ s → int_min y bottom ≤ℤ int_max s t
    last_least y s t bottom k = omega (arith, ints, clamps, k)

    first_greatest : (y bottom near : ℤ) → near ≤ℤ y → near ≤ℤ int_max y bottom
    first_greatest y bottom near k = omega (arith, ints, clamps, k)

    last_greatest : (s t y top : ℤ) → s ≤ℤ top → int_min s t ≤ℤ int_max y top
    last_greatest s t y top k = omega (arith, ints, clamps, k)

    in_height : (way : Way) → IsFaced way e p
        → (int_min p.y (last_y way) ≤ℤ int_max e.start.y e.end.y) × (int_min e.start.y e.end.y ≤ℤ int_max p.y (last_y way))
    in_height Up f = (
      first_least p.y (last_y Up) (int_max e.start.y e.end.y) (not_over e p f.above),
      last_greatest e.start.y e.end.y p.y (last_y Up) low,
    )
    in_height Down f = (
      last_least p.y e.start.y e.end.y (last_y Down) high,
      first_greatest p.y (last_y Down) (int_min e.start.y e.end.y) (not_under e p f.spanned f.above),
    )

-- ---- the rays that are found
-- of the positions that an edge faces none is inside if none of those is whose rays meet the edge
pub faced_found : (way : Way) (e : Edge) (edges : List Edge) (firsts : List (Option Position)) (own : ℕ) (found : List ℕ)
    → e.start.y ≤ℤ pos coordinate_limit → (pos 0 -ℤ pos coordinate_limit) ≤ℤ e.start.y
    → found ≡ meeting_places (map (ray way) firsts) (Some (box_of e))
    → SurroundNoneAt edges firsts own found → SurroundNoneFaced way e edges firsts own
faced_found way e edges firsts own found low high all none number p other first faces_it =
    let met = met_from (Some (box_of e)) 0 (map (ray way) firsts) number (ray way (Some p))
    (slice_get-map (ray way) firsts number ∙ ap (option_map (ray way)) first) (ray_meets way e p low high faces_it) in
    let from_zero : 0 + number ≡ number = omega arith in
    none met.0 number p (ap (λ l. slice_get l met.0) all ∙ met.1 ∙ ap Some from_zero) other first

-- ---- number after number, edge after edge
-- none of the positions with the numbers before a place is inside
abbrev pub AreTried : List Edge → List (Option Position) → ℕ → List ℕ → ℕ → Type 0
AreTried edges firsts own numbers count = (place : ℕ) → place < count → (p : Position) → get_or numbers place 0 ≢ own
    → slice_get firsts (get_or numbers place 0) ≡ Some (Some p) → is_odd_above edges p ≡ false

pub all_tried : (edges : List Edge) (firsts : List (Option Position)) (own : ℕ) (numbers : List ℕ) (count : ℕ)
    → length numbers ≤ count → AreTried edges firsts own numbers count → SurroundNoneAt edges firsts own numbers
all_tried edges firsts own numbers count all tried place number p is other first =
    let at : get_or numbers place 0 ≡ number = get_or_from_slice_get numbers place number 0 is in
    tried place (omega (arith, all, slice_get_within numbers place number is)) p (λ e. other (sym at ∙ e))
    (ap (λ (n : ℕ). slice_get firsts n) at ∙ first)

-- none of the positions that an edge before a place faces is inside
abbrev pub ArePassed : Way → List Edge → List (Option Position) → ℕ → ℕ → Type 0
ArePassed way edges firsts own count = (place : ℕ) → place < count → (e : Edge) → slice_get edges place ≡ Some e
    → SurroundNoneFaced way e edges firsts own

-- one edge more
pub next_passed : (way : Way) (edges : List Edge) (firsts : List (Option Position)) (own count : ℕ) (e : Edge)
    → e ≡ get_or edges count e → ArePassed way edges firsts own count → SurroundNoneFaced way e edges firsts own
    → ArePassed way edges firsts own (count + 1)
next_passed way edges firsts own count e item before none = below_more _ _ before
    (λ f is. subst (λ (d : Edge). SurroundNoneFaced way d edges firsts own)
    (item ∙ get_or_from_slice_get edges count f e is) none)

-- an edge of a list passes a test
record OnePassing (test : Edge → Bool) (edges : List Edge) : Type 0 where
  pub place : ℕ
  pub edge : Edge
  pub is : slice_get edges place ≡ Some edge
  pub passes : test edge ≡ true

-- where an odd number of edges pass a test, one does
one_passing : (test : Edge → Bool) (edges : List Edge) → parity test edges ≡ true → OnePassing test edges
one_passing test [] h = absurd cc
one_passing test (e ∷ es) h = go (test e) refl (one_passing test es)
  where
    go : (b : Bool) → test e ≡ b → (parity test es ≡ true → OnePassing test es) → OnePassing test (e ∷ es)
    go true f rest = record { place = 0; edge = e; is = refl; passes = f }
    go false f rest = let w = rest (sym (ap (λ (b : Bool). xor b (parity test es)) f) ∙ h) in
        record { place = suc w.place; edge = w.edge; is = w.is; passes = w.passes }

-- an odd number of edges face a position that they surround: of an even number that span it the others are at it or below it
odd_face : (way : Way) (edges : List Edge) (p : Position) → SpanEvenly edges → is_odd_above edges p ≡ true
    → parity (λ e. faces way e p) edges ≡ true
odd_face Up edges p even h = sym (odd_count (λ e. strictly_above e (point_at p)) edges) ∙ h
odd_face Down edges p even h =
    parity_xor (λ e. spans e (point_at p)) (λ e. strictly_above e (point_at p)) edges
    ∙ ap₂ xor (sym (odd_count (λ e. spans e (point_at p)) edges) ∙ even (point_at p))
    (sym (odd_count (λ e. strictly_above e (point_at p)) edges) ∙ h)

pub all_passed : (way : Way) (edges : List Edge) (firsts : List (Option Position)) (own count : ℕ) → SpanEvenly edges
    → length edges ≤ count → ArePassed way edges firsts own count → SurroundNone edges firsts own
all_passed way edges firsts own count even all passed number p other first = go (is_odd_above edges p) refl
  where
    go : (b : Bool) → is_odd_above edges p ≡ b → is_odd_above edges p ≡ false
    go false e = e
    go true e = let w = one_passing (λ d. faces way d p) edges (odd_face way edges p even e) in
        passed w.place (omega (arith, all, slice_get_within edges w.place w.edge w.is)) w.edge w.is number p other first w.passes

-- ---- the edges of closed rings span each point evenly
even_spans : (rings : List (List Position)) → Each IsClosed rings → SpanEvenly (edges_of_lines rings)
even_spans rings h p = odd_count (λ e. spans e p) (edges_of_lines rings) ∙ rings_cancel (λ a. reaches a p) rings h

pub element_spans_evenly : (g : Geometry) (element : ℕ) (run : List Edge) → HasClosedRings g
    → slice_get (map edges_of_lines (elements g)) element ≡ Some run → SpanEvenly run
element_spans_evenly g element run closed is = let k = unmapped edges_of_lines (elements g) element run is in
    subst SpanEvenly k.2 (even_spans k.0 (each_from_all IsClosed k.0 (element_closed g element k.0 closed k.1)))

pub ring_spans_evenly : (g : Geometry) (first end ring : ℕ) (run : List Edge) → HasClosedRings g → AreRings g first end
    → slice_get (map edges_of_line (lines g)) ring ≡ Some run → SpanEvenly run
ring_spans_evenly g first end ring run closed are is =
    let k = unmapped edges_of_line (lines g) ring run is in
    let same = rings_of_elements g are.place are.element are.numbered in
    let ends = closed_at (rings g) ring k.0 closed (ap (λ l. slice_get l ring) same ∙ k.1) in
    subst SpanEvenly k.2 (subst SpanEvenly (append-nil (edges_of_line k.0)) (even_spans (k.0 ∷ []) (ends.1, tt)))

-- ---- polygon after polygon
-- the edges of no polygon before a number surround another one's first position
abbrev pub AreAround : Geometry → ℕ → Type 0
AreAround g count = (other : ℕ) → other < count → (edges : List Edge)
    → slice_get (map edges_of_lines (elements g)) other ≡ Some edges → SurroundNone edges (element_firsts g) other

-- one polygon more
pub next_around : (g : Geometry) (other : ℕ) (run : List Edge) (firsts : List (Option Position))
    → slice_get (map edges_of_lines (elements g)) other ≡ Some run → firsts ≡ element_firsts g → AreAround g other
    → SurroundNone run firsts other → AreAround g (other + 1)
next_around g other run firsts is all before none = below_more _ _ before
    (λ edges also. subst (λ (es : List Edge). SurroundNone es (element_firsts g) other)
    (same_edges run edges (sym is ∙ also))
    (subst (λ (fs : List (Option Position)). SurroundNone run fs other) all none))
  where
    same_edges : (r s : List Edge) → Some r ≡ Some s → r ≡ s
    same_edges r s h = cc

-- where the edges of no polygon surround another one's first position, no polygon is inside another
pub no_element_inside : (g : Geometry) (count : ℕ) → length (elements g) ≤ count → AreAround g count
    → find (has_fault g) (of_other_elements ElementInside g) ≡ None
no_element_inside g count all none =
    none_of_parts (has_fault g) (λ i. map (ElementInside i) (numbers 0 (length (elements g)))) (numbers 0 (length (elements g)))
    (λ i. none_of_numbers (has_fault g) (ElementInside i) (numbers 0 (length (elements g))) (λ j. not_inside i j (i == j) refl))
  where
    two : (i j : ℕ) → i ≢ j → (o q : Option (List (List Position))) → slice_get (elements g) i ≡ o → slice_get (elements g) j ≡ q
        → test_of_both (λ d e. inside_element e d) o q ≡ false
    two i j differ None q e f = refl
    two i j differ (Some d) None e f = refl
    two i j differ (Some []) (Some r) e f = refl
    two i j differ (Some ([] ∷ holes)) (Some r) e f = refl
    two i j differ (Some ((p ∷ ps) ∷ holes)) (Some r) e f = (inside_by_edges p ps [] holes r).1
        ∙ none j (omega (arith, all, slice_get_within (elements g) j r f)) (edges_of_lines r)
        (slice_get-map edges_of_lines (elements g) j ∙ ap (option_map edges_of_lines) f) i p differ
        (slice_get-map first_of_element (elements g) i ∙ ap (option_map first_of_element) e)

    not_inside : (i j : ℕ) (b : Bool) → i == j ≡ b
        → not b && test_of_both (λ d e. inside_element e d) (slice_get (elements g) i) (slice_get (elements g) j) ≡ false
    not_inside i j true f = refl
    not_inside i j false f = two i j (eqb-false i j f) (slice_get (elements g) i) (slice_get (elements g) j) refl refl

-- ---- hole after hole
-- the edges of no hole before a number surround another ring's first position
abbrev pub AreAroundNone : Geometry → ℕ → ℕ → Type 0
AreAroundNone g first count = (hole : ℕ) → first < hole → hole < count → (edges : List Edge)
    → slice_get (map edges_of_line (lines g)) hole ≡ Some edges → SurroundNone edges (line_firsts g) hole

-- one hole more
pub next_hole : (g : Geometry) (first hole : ℕ) (run : List Edge) (firsts : List (Option Position))
    → slice_get (map edges_of_line (lines g)) hole ≡ Some run → firsts ≡ line_firsts g → AreAroundNone g first hole
    → SurroundNone run firsts hole → AreAroundNone g first (hole + 1)
next_hole g first hole run firsts is all before none number low within = go (nat_lt number hole) refl
  where
    same_edges : (r s : List Edge) → Some r ≡ Some s → r ≡ s
    same_edges r s h = cc

    own : (edges : List Edge) → slice_get (map edges_of_line (lines g)) hole ≡ Some edges
        → SurroundNone edges (line_firsts g) hole
    own edges also = subst (λ (es : List Edge). SurroundNone es (line_firsts g) hole) (same_edges run edges (sym is ∙ also))
        (subst (λ (fs : List (Option Position)). SurroundNone run fs hole) all none)

    go : (b : Bool) → nat_lt number hole ≡ b → (edges : List Edge) → slice_get (map edges_of_line (lines g)) number ≡ Some edges
        → SurroundNone edges (line_firsts g) number
    go true f = before number low (ltb-true number hole f)
    go false f =
        let same : hole ≡ number = omega (arith, within, ltb-false number hole f) in
        subst (λ (i : ℕ). (edges : List Edge) → slice_get (map edges_of_line (lines g)) i ≡ Some edges
        → SurroundNone edges (line_firsts g) i) same own

-- no fault of some numbers applies where none does of each number ..
none_in_range : (applies : ValidityFault → Bool) (fault : ℕ → ValidityFault) (end k i : ℕ) → end ≤ i + k
    → ((j : ℕ) → i ≤ j → j < end → applies (fault j) ≡ false) → find applies (map fault (numbers i end)) ≡ None
none_in_range applies fault end zero i h fails = none_left applies fault i end (omega (arith, h))
none_in_range applies fault end (suc k) i h fails = go (nat_lt i end) refl
    (none_in_range applies fault end k (i + 1) (omega (arith, h)) (λ j low high. fails j (omega (arith, low)) high))
  where
    go : (b : Bool) → nat_lt i end ≡ b → find applies (map fault (numbers (i + 1) end)) ≡ None
        → find applies (map fault (numbers i end)) ≡ None
    go true f rest = let within = ltb-true i end f in
        passed_here applies fault i end within (fails i (omega arith) within) ∙ rest
    go false f rest = none_left applies fault i end (ltb-false i end f)

-- .. also where each number has several faults
none_of_range : (applies : ValidityFault → Bool) (faults : ℕ → List ValidityFault) (end k i : ℕ) → end ≤ i + k
    → ((j : ℕ) → i ≤ j → j < end → find applies (faults j) ≡ None) → find applies (flat_map faults (numbers i end)) ≡ None
none_of_range applies faults end zero i h fails = none_among applies faults i end (omega (arith, h))
none_of_range applies faults end (suc k) i h fails = go (nat_lt i end) refl
    (none_of_range applies faults end k (i + 1) (omega (arith, h)) (λ j low high. fails j (omega (arith, low)) high))
  where
    go : (b : Bool) → nat_lt i end ≡ b → find applies (flat_map faults (numbers (i + 1) end)) ≡ None
        → find applies (flat_map faults (numbers i end)) ≡ None
    go true f rest = let within = ltb-true i end f in
        passed_among applies faults i end within (fails i (omega arith) within) ∙ rest
    go false f rest = none_among applies faults i end (ltb-false i end f)

-- where the edges of no hole surround another ring's first position, no hole of the polygon is inside another
pub no_hole_nested : (g : Geometry) (first end count : ℕ) → AreRings g first end → end ≤ count → AreAroundNone g first count
    → find (has_fault g) (of_pairs HolesNested (first + 1) end) ≡ None
no_hole_nested g first end count are all none =
    none_of_range (has_fault g) (λ i. map (HolesNested i) (numbers (i + 1) end)) end end (first + 1) (omega arith)
    (λ i low high. none_in_range (has_fault g) (HolesNested i) end end (i + 1) (omega arith)
    (λ j later before. holes_nested_at g first end i j are (omega (arith, low)) (omega (arith, later)) before
    ∙ two i j (slice_get (lines g) i) (slice_get (lines g) j) (omega (arith, low)) (omega (arith, later)) before refl refl))
  where
    one : (i j : ℕ) (r s : List Position) → first < i → i < end → j ≢ i → slice_get (lines g) i ≡ Some r
        → slice_get (lines g) j ≡ Some s → inside r s ≡ false
    one i j r [] low high differ e f = refl
    one i j r (p ∷ ps) low high differ e f = (inside_by_edges p ps r [] []).0
        ∙ none i low (omega (arith, all, high)) (edges_of_line r)
        (slice_get-map edges_of_line (lines g) i ∙ ap (option_map edges_of_line) e) j p differ
        (slice_get-map first_of_ring (lines g) j ∙ ap (option_map first_of_ring) f)

    two : (i j : ℕ) (o q : Option (List Position)) → first < i → i < j → j < end → slice_get (lines g) i ≡ o
        → slice_get (lines g) j ≡ q → test_of_both (λ r s. inside r s || inside s r) o q ≡ false
    two i j None q low later high e f = refl
    two i j (Some r) None low later high e f = refl
    two i j (Some r) (Some s) low later high e f = or_from (inside r s) (inside s r)
        (one i j r s low (omega (arith, later, high)) (λ same. omega (arith, later, same)) e f)
        (one j i s r (omega (arith, low, later)) high (λ same. omega (arith, later, same)) f e)
