-- Rings that share no point: how that is found by an index of their edges, and which faults it rules out.
use Rattle.std.proofs.Common.{◌≡◌, refl, sym, ap, ◌∙◌, subst, ℕ, zero, suc, ◌+◌, ◌-◌, ◌<◌, ◌≤◌, Bool, true, false, ◌&&◌, ◌||◌, cond, nat_le, nat_lt, List, [], ◌∷◌, ◌++◌, map, drop, length, Option, Some, None, slice_get, get_or, append-nil, length-append, ltb-true, ltb-false, leb-true, arith}
use Rattle.std.specs.List.{find, flat_map, list_any}
use Rattle.std.proofs.lemmas.List.Folds.{list_any-append}
use Rattle.std.proofs.lemmas.Bool.{or_parts, or_from}
use Rattle.std.proofs.lemmas.Option.{slice_get_within, get_or_from_slice_get}
use Rattle.std.proofs.Math.Seq.{drop-append_seam}
use Rattle.basics.proofs.Lists.{drop_here, unmapped}
use Rattle.geometry_model.specs.Points.{Position}
use Rattle.geometry_model.specs.Geometries.{Geometry, Edge, lines, elements, joined_rings, edges_of_line, edges_of_lines}
use Rattle.geometry_model.specs.Envelopes.{Envelope, meets}
use Rattle.geometry_model.specs.Validity.{Element, elements_from, numbered_elements}
use Rattle.geometry_model.specs.FirstFaults.{has_fault, numbers, of_pairs, rings_end, ring_of, rings_share, elements_share, share_point, test_of_both}
use Rattle.geometry_model.specs.declared.validity_faults.ValidityFault.{ValidityFault}
use Rattle.geometry_model.specs.declared.validity_faults.ValidityFault.TheVariants.{RingsMeet, ElementsMeet}
use Rattle.edge_boxes.specs.RunLaws.{box_of}
use Rattle.edge_boxes.specs.RingEdges.{edges_share}
use Rattle.edge_boxes.proofs.Runs.{polygons_by_their_edges}
use Rattle.edge_boxes.proofs.OverlappingBoxes.{sharing_boxes_overlap}
use Rattle.rtree.specs.Found.{meeting_places}
use Rattle.validity.specs.ApartRings.{AreApart, edge_envelopes}
use Rattle.validity.specs.FaultOrder.{rings_meeting, of_two_elements}
use Rattle.validity.proofs.Finding.{in_front}
use Rattle.validity.proofs.NearNumbers.{places, one_place, overlap_turned}
use Rattle.validity.proofs.RingNumbers.{second_none}

-- ---- parts of rings that are apart
any_parts : (test : List Position → Bool) (xs ys : List (List Position)) → list_any test (xs ++ ys) ≡ false
    → (list_any test xs ≡ false) × (list_any test ys ≡ false)
any_parts test xs ys h = or_parts (list_any test xs) (list_any test ys) (sym (list_any-append test xs ys) ∙ h)

-- rings in front of others
apart_front : (xs ys : List (List Position)) → AreApart (xs ++ ys) → AreApart xs
apart_front [] ys h = tt
apart_front (x ∷ xs) ys h = ((any_parts (rings_share x) xs ys h.0).0, apart_front xs ys h.1)

-- rings behind others
apart_behind : (xs ys : List (List Position)) → AreApart (xs ++ ys) → AreApart ys
apart_behind [] ys h = h
apart_behind (x ∷ xs) ys h = apart_behind xs ys h.1

-- a test that no element passes isn't passed by the one with a number
one_of : {A : Type 0} (test : A → A → Bool) (x : A) (xs : List A) (l : ℕ) → list_any (test x) xs ≡ false
    → test_of_both test (Some x) (slice_get xs l) ≡ false
one_of test x [] l h = refl
one_of test x (s ∷ ss) zero h = (or_parts (test x s) (list_any (test x) ss) h).0
one_of test x (s ∷ ss) (suc l) h = one_of test x ss l (or_parts (test x s) (list_any (test x) ss) h).1

-- a ring and a later one
two_apart : (xs : List (List Position)) (k l : ℕ) → AreApart xs → k < l
    → test_of_both rings_share (slice_get xs k) (slice_get xs l) ≡ false
two_apart [] k l h later = refl
two_apart (x ∷ xs) zero zero h later = absurd (omega (arith, later))
two_apart (x ∷ xs) zero (suc l) h later = one_of rings_share x xs l h.0
two_apart (x ∷ xs) (suc k) zero h later = absurd (omega (arith, later))
two_apart (x ∷ xs) (suc k) (suc l) h later = two_apart xs k l h.1 (omega (arith, later))

-- the rings of a polygon, and those behind them
apart_from : (d ys : List (List Position)) → AreApart (d ++ ys) → elements_share d ys ≡ false
apart_from [] ys h = refl
apart_from (r ∷ d) ys h = or_from (list_any (rings_share r) ys) (elements_share d ys) (any_parts (rings_share r) d ys h.0).1
    (apart_from d ys h.1)

-- a polygon that shares no point with some rings shares none with a part of them
share_parts : (d xs ys : List (List Position)) → elements_share d (xs ++ ys) ≡ false
    → (elements_share d xs ≡ false) × (elements_share d ys ≡ false)
share_parts [] xs ys h = (refl, refl)
share_parts (r ∷ d) xs ys h =
    let both = or_parts (list_any (rings_share r) (xs ++ ys)) (elements_share d (xs ++ ys)) h in
    let one = any_parts (rings_share r) xs ys both.0 in
    let more = share_parts d xs ys both.1 in (
      or_from (list_any (rings_share r) xs) (elements_share d xs) one.0 more.0,
      or_from (list_any (rings_share r) ys)
          (elements_share d ys) one.1 more.1,
    )

-- a polygon and one of those behind it
apart_of : (d : List (List Position)) (es : List (List (List Position))) (j : ℕ) → elements_share d (joined_rings es) ≡ false
    → test_of_both elements_share (Some d) (slice_get es j) ≡ false
apart_of d [] j h = refl
apart_of d (e ∷ es) zero h = (share_parts d e (joined_rings es) h).0
apart_of d (e ∷ es) (suc j) h = apart_of d es j (share_parts d e (joined_rings es) h).1

-- two polygons
elements_apart : (es : List (List (List Position))) (i j : ℕ) → AreApart (joined_rings es) → i < j
    → test_of_both elements_share (slice_get es i) (slice_get es j) ≡ false
elements_apart [] i j h later = refl
elements_apart (d ∷ es) zero zero h later = absurd (omega (arith, later))
elements_apart (d ∷ es) zero (suc j) h later = apart_of d es j (apart_from d (joined_rings es) h)
elements_apart (d ∷ es) (suc i) zero h later = absurd (omega (arith, later))
elements_apart (d ∷ es) (suc i) (suc j) h later = elements_apart es i j (apart_behind d (joined_rings es) h)
    (omega (arith, later))

-- ---- no fault of two rings or two polygons
-- no fault applies of numbers of which none has one
pub none_of_numbers : (applies : ValidityFault → Bool) (fault : ℕ → ValidityFault) (ns : List ℕ)
    → ((n : ℕ) → applies (fault n) ≡ false) → find applies (map fault ns) ≡ None
none_of_numbers applies fault [] h = refl
none_of_numbers applies fault (n ∷ ns) h = ap (λ (b : Bool). cond b (Some (fault n)) (find applies (map fault ns))) (h n)
    ∙ none_of_numbers applies fault ns h

-- nor of parts of which none has one
pub none_of_parts : {A : Type 0} (applies : ValidityFault → Bool) (faults : A → List ValidityFault) (xs : List A)
    → ((x : A) → find applies (faults x) ≡ None) → find applies (flat_map faults xs) ≡ None
none_of_parts applies faults [] h = refl
none_of_parts applies faults (x ∷ xs) h = in_front applies (faults x) (flat_map faults xs) None (h x)
    ∙ none_of_parts applies faults xs h

-- where no two of these numbers have a fault, it isn't found
none_of_pairs : (applies : ValidityFault → Bool) (fault : ℕ → ℕ → ValidityFault) (first end : ℕ)
    → ((i j : ℕ) → applies (fault i j) ≡ false) → find applies (of_pairs fault first end) ≡ None
none_of_pairs applies fault first end h = none_of_parts applies (λ i. map (fault i) (numbers (i + 1) end)) (numbers first end)
    (λ i. none_of_numbers applies (fault i) (numbers (i + 1) end) (h i))

-- the rings of one polygon, by their numbers
rings_of_one : (start : ℕ) (x : List (List Position)) (i j : ℕ) → AreApart x → i < j
    → test_of_both rings_share (ring_of (record { first = start; rings = x }) i)
    (ring_of (record { first = start; rings = x }) j) ≡ false
rings_of_one start x i j h later = go (nat_le start i) refl (nat_le start j) refl
  where
    go : (a : Bool) → nat_le start i ≡ a → (b : Bool) → nat_le start j ≡ b
        → test_of_both rings_share (cond a (slice_get x (i - start)) None) (cond b (slice_get x (j - start)) None) ≡ false
    go false e b f = refl
    go true e false f = second_none rings_share (slice_get x (i - start))
    go true e true f = two_apart x (i - start) (j - start) h (omega (arith, later, leb-true start i e))

-- the rings of each polygon
rings_of_each : (start : ℕ) (es : List (List (List Position))) (i j : ℕ) → AreApart (joined_rings es) → i < j
    → list_any (λ (e : Element). test_of_both rings_share (ring_of e i) (ring_of e j)) (elements_from start es) ≡ false
rings_of_each start [] i j h later = refl
rings_of_each start (x ∷ es) i j h later = or_from _ _ (rings_of_one start x i j (apart_front x (joined_rings es) h) later)
    (rings_of_each (start + length x) es i j (apart_behind x (joined_rings es) h) later)

-- a test behind a condition
any_behind : (b : Bool) (test : Element → Bool) (xs : List Element) → (b ≡ true → list_any test xs ≡ false)
    → list_any (λ x. b && test x) xs ≡ false
any_behind true test xs h = h refl
any_behind false test xs h = never test xs
  where
    never : (test : Element → Bool) (xs : List Element) → list_any (λ x. false && test x) xs ≡ false
    never test [] = refl
    never test (x ∷ xs) = never test xs

-- the lines of a geometry with polygons are the rings of these
joined_apart : (g : Geometry) → AreApart (lines g) → AreApart (joined_rings (elements g))
joined_apart (Geometry.Point p) h = tt
joined_apart (Geometry.MultiPoint ps) h = tt
joined_apart (Geometry.LineString ps) h = tt
joined_apart (Geometry.MultiLineString ls) h = tt
joined_apart (Geometry.Polygon rs) h = subst AreApart (sym (append-nil rs)) h
joined_apart (Geometry.MultiPolygon es) h = h

-- where all rings are apart, no two of one polygon meet
pub no_rings_meet : (g : Geometry) → AreApart (lines g) → find (has_fault g) (rings_meeting g) ≡ None
no_rings_meet g h = none_of_parts (has_fault g) (λ (e : Element). of_pairs RingsMeet e.first (rings_end e)) (numbered_elements g)
    (λ e. none_of_pairs (has_fault g) RingsMeet e.first (rings_end e)
    (λ i j. any_behind (nat_lt i j) (λ (e : Element). test_of_both rings_share (ring_of e i) (ring_of e j)) (numbered_elements g)
    (λ later. rings_of_each 0 (elements g) i j (joined_apart g h) (ltb-true i j later))))

-- and no two polygons
pub no_elements_meet : (g : Geometry) → AreApart (lines g) → find (has_fault g) (of_two_elements ElementsMeet g) ≡ None
no_elements_meet g h = none_of_pairs (has_fault g) ElementsMeet 0 (length (elements g)) (λ i j. go i j (nat_lt i j) refl)
  where
    go : (i j : ℕ) (b : Bool) → nat_lt i j ≡ b
        → b && test_of_both elements_share (slice_get (elements g) i) (slice_get (elements g) j) ≡ false
    go i j true later = elements_apart (elements g) i j (joined_apart g h) (ltb-true i j later)
    go i j false later = refl

-- ---- the edges that are found
-- an envelope that meets the one asked for is found
pub met_from : (asked : Option Envelope) (n : ℕ) (es : List (Option Envelope)) (k : ℕ) (o : Option Envelope)
    → slice_get es k ≡ Some o → meets o asked ≡ true → (m : ℕ) × (slice_get (places asked n es) m ≡ Some (n + k))
met_from asked n [] k o is h = absurd cc
met_from asked n (p ∷ es) zero o is h =
    let same : p ≡ o = cc in
    let here : n ≡ n + zero = omega arith in (
      0,
      ap (λ l. slice_get l 0)
          (one_place asked n p es
          ∙ ap (λ b. cond b (n ∷ places asked (n + 1) es) (places asked (n + 1) es)) (ap (λ q. meets q asked) same ∙ h))
          ∙ ap Some here,
    )
met_from asked n (p ∷ es) (suc k) o is h =
    let later : n + 1 + k ≡ n + suc k = omega arith in
    let rest = met_from asked (n + 1) es k o is h in
    go (meets p asked) rest.0 (rest.1 ∙ ap Some later) (one_place asked n p es)
  where
    go : (b : Bool) (m : ℕ) → slice_get (places asked (n + 1) es) m ≡ Some (n + suc k)
        → places asked n (p ∷ es) ≡ cond b (n ∷ places asked (n + 1) es) (places asked (n + 1) es)
        → (m : ℕ) × (slice_get (places asked n (p ∷ es)) m ≡ Some (n + suc k))
    go true m e f = (suc m, ap (λ l. slice_get l (suc m)) f ∙ e)
    go false m e f = (m, ap (λ l. slice_get l m) f ∙ e)

-- what was tested of the edges at the places before this one
abbrev pub ArePassed : List Edge → Edge → ℕ → List ℕ → ℕ → Type 0
ArePassed edges e from found count = (m : ℕ) → m < count → (f : Edge) → from ≤ get_or found m 0
    → slice_get edges (get_or found m 0) ≡ Some f → share_point e f ≡ false

mapped_at : (edges : List Edge) (k : ℕ) (f : Edge) → slice_get edges k ≡ Some f
    → slice_get (edge_envelopes edges) k ≡ Some (Some (box_of f))
mapped_at [] k f is = absurd cc
mapped_at (e ∷ es) zero f is = let same : e ≡ f = cc in ap (λ (d : Edge). Some (Some (box_of d))) same
mapped_at (e ∷ es) (suc k) f is = mapped_at es k f is

-- no edge from a place on passes a test that none of them passes, each by its place
none_from : (test : Edge → Bool) (edges : List Edge) (from : ℕ)
    → ((k : ℕ) (f : Edge) → from ≤ k → slice_get edges k ≡ Some f → test f ≡ false) → list_any test (drop from edges) ≡ false
none_from test [] zero h = refl
none_from test [] (suc from) h = refl
none_from test (e ∷ es) zero h = or_from (test e) (list_any test es) (h 0 e (omega arith) refl)
    (none_from test es zero (λ k f low is. h (suc k) f (omega arith) is))
none_from test (e ∷ es) (suc from) h = none_from test es from (λ k f low is. h (suc k) f (omega (arith, low)) is)

-- where no edge that is found shares a point with an edge, none from the place on does
pub none_shares : (edges : List Edge) (e : Edge) (from : ℕ) (found : List ℕ)
    → found ≡ meeting_places (edge_envelopes edges) (Some (box_of e)) → ArePassed edges e from found (length found)
    → list_any (share_point e) (drop from edges) ≡ false
none_shares edges e from found all passed = none_from (share_point e) edges from
    (λ k f low is. go k f low is (share_point e f) refl)
  where
    go : (k : ℕ) (f : Edge) → from ≤ k → slice_get edges k ≡ Some f → (b : Bool) → share_point e f ≡ b → b ≡ false
    go k f low is false share = refl
    go k f low is true share =
        let met = met_from (Some (box_of e)) 0 (edge_envelopes edges) k (Some (box_of f)) (mapped_at edges k f is)
        (overlap_turned (box_of e) (box_of f) (sharing_boxes_overlap e f share)) in
        let from_zero : 0 + k ≡ k = omega arith in
        let there : slice_get found met.0 ≡ Some k = ap (λ l. slice_get l met.0) all ∙ met.1 ∙ ap Some from_zero in
        let at : get_or found met.0 0 ≡ k = get_or_from_slice_get found met.0 k 0 there in
        sym share ∙ passed met.0 (slice_get_within found met.0 k there) f (subst (λ i. from ≤ i) (sym at) low)
        (ap (slice_get edges) at ∙ is)

-- ---- ring after ring
-- the rings from this one on are what is left: their edges begin at a place, and if they are apart then all are
pub record AreApartBefore (ls : List (List Position)) (line start : ℕ) : Type 0 where
  pub rest : drop start (edges_of_lines ls) ≡ edges_of_lines (drop line ls)
  pub within : start + length (edges_of_lines (drop line ls)) ≡ length (edges_of_lines ls)
  pub all : AreApart (drop line ls) → AreApart ls

-- a ring of which no edge shares a point with one of some rings shares no point with these
ring_apart : (r : List Position) (rs : List (List Position)) → edges_share (edges_of_line r) (edges_of_lines rs) ≡ false
    → list_any (rings_share r) rs ≡ false
ring_apart r rs h = (or_parts (list_any (rings_share r) rs) false
    (polygons_by_their_edges (r ∷ []) rs ∙ (ap (λ l. edges_share l (edges_of_lines rs)) (append-nil (edges_of_line r)) ∙ h))).0

-- the edges of the rings from this one on are its own and those of the later ones
counted : (ls : List (List Position)) (line : ℕ) (r : List Position) → slice_get ls line ≡ Some r
    → length (edges_of_lines (drop line ls)) ≡ length (edges_of_line r) + length (edges_of_lines (drop (line + 1) ls))
counted ls line r is = ap (λ l. length (edges_of_lines l)) (drop_here ls line r is)
    ∙ length-append (edges_of_line r) (edges_of_lines (drop (line + 1) ls))

-- one ring more
next_apart : (ls : List (List Position)) (line start : ℕ) (r : List Position) → slice_get ls line ≡ Some r
    → AreApartBefore ls line start
    → edges_share (edges_of_line r) (drop (start + length (edges_of_line r)) (edges_of_lines ls)) ≡ false
    → AreApartBefore ls (line + 1) (start + length (edges_of_line r))
next_apart ls line start r is before none =
    let left : drop line ls ≡ r ∷ drop (line + 1) ls = drop_here ls line r is in
    let behind : drop (start + length (edges_of_line r)) (edges_of_lines ls) ≡ edges_of_lines (drop (line + 1) ls) =
    drop_twice start (length (edges_of_line r)) (edges_of_lines ls)
    ∙ ap (drop (length (edges_of_line r))) (before.rest ∙ ap edges_of_lines left)
    ∙ drop-append_seam (edges_of_line r) (edges_of_lines (drop (line + 1) ls)) in
    record {
      rest = behind;
      within = omega (arith, before.within, counted ls line r is);
      all = λ apart. before.all
          (subst AreApart (sym left)
          (ring_apart r (drop (line + 1) ls) (ap (edges_share (edges_of_line r)) (sym behind) ∙ none), apart));
    }
  where
    nothing : (n : ℕ) → drop {A = Edge} n [] ≡ []
    nothing zero = refl
    nothing (suc n) = refl

    drop_twice : (m n : ℕ) (es : List Edge) → drop (m + n) es ≡ drop n (drop m es)
    drop_twice zero n es = let less : 0 + n ≡ n = omega arith in ap (λ (i : ℕ). drop i es) less
    drop_twice (suc m) n [] = nothing (suc m + n) ∙ sym (nothing n)
    drop_twice (suc m) n (e ∷ es) = let more : suc m + n ≡ suc (m + n) = omega arith in ap (λ (i : ℕ). drop i (e ∷ es)) more
        ∙ drop_twice m n es

-- at the start all rings are left ..
pub none_before : (ls : List (List Position)) → AreApartBefore ls 0 0
none_before ls = record { rest = refl; within = from_zero (length (edges_of_lines ls)); all = λ apart. apart }
  where
    from_zero : (n : ℕ) → 0 + n ≡ n
    from_zero n = omega arith

-- one run more
pub next_before : (ls : List (List Position)) (line start : ℕ) (run : List Edge)
    → slice_get (map edges_of_line ls) line ≡ Some run → AreApartBefore ls line start
    → edges_share run (drop (start + length run) (edges_of_lines ls)) ≡ false → AreApartBefore ls (line + 1) (start + length run)
next_before ls line start run is before = let k = unmapped edges_of_line ls line run is in
    subst (λ (es : List Edge). edges_share es (drop (start + length es) (edges_of_lines ls)) ≡ false → AreApartBefore ls
    (line + 1) (start + length es)) k.2 (next_apart ls line start k.0 k.1 before)

-- its edges end within all
pub ends_before : (ls : List (List Position)) (line start : ℕ) (run : List Edge)
    → slice_get (map edges_of_line ls) line ≡ Some run → AreApartBefore ls line start
    → start + length run ≤ length (edges_of_lines ls)
ends_before ls line start run is before = let k = unmapped edges_of_line ls line run is in
    omega (arith, before.within, counted ls line k.0 k.1, ap (length {A = Edge}) k.2)

-- a run of which the first edge shares no point with later edges
pub next_run : (later rest more : List Edge) (e : Edge) → rest ≡ e ∷ more → list_any (share_point e) later ≡ false
    → edges_share rest later ≡ edges_share more later
next_run later rest more e is none = ap (λ l. edges_share l later) is ∙ ap (λ (b : Bool). b || edges_share more later) none

-- the next place is passed
pub one_passed : (edges : List Edge) (e : Edge) (from : ℕ) (found : List ℕ) (count : ℕ) → ArePassed edges e from found count
    → ((f : Edge) → from ≤ get_or found count 0 → slice_get edges (get_or found count 0) ≡ Some f → share_point e f ≡ false)
    → ArePassed edges e from found (count + 1)
one_passed edges e from found count before this m within f = go (nat_lt m count) refl
  where
    go : (b : Bool) → nat_lt m count ≡ b → from ≤ get_or found m 0 → slice_get edges (get_or found m 0) ≡ Some f
        → share_point e f ≡ false
    go true earlier = before m (ltb-true m count earlier) f
    go false last = let same : m ≡ count = omega (arith, within, ltb-false m count last) in
        subst (λ (i : ℕ). from ≤ get_or found i 0 → slice_get edges (get_or found i 0) ≡ Some f → share_point e f ≡ false)
        (sym same) (this f)
