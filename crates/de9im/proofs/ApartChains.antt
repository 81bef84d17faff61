-- Runs and chains of edges that share no point with an edge of the other geometry: all of a chain lies in one part of the other.
use Rattle.std.proofs.Common.{◌≡◌, sym, ap, ◌∙◌, subst, false, pos, ℕ, zero, suc, ◌+◌, ◌-◌, ◌<◌, ◌≤◌, List, [], ◌++◌, length, drop, take, get_or, arith}
use Rattle.std.specs.Prelude.{slice_range}
use Rattle.std.specs.List.{All, Contains, list_any}
use Rattle.std.proofs.lemmas.List.{get_or_default, get_or-take, get_or-drop, length-take-le, length-drop}
use Rattle.std.proofs.lemmas.List.Elements.{All-nil, All-append, All-same, All-weaker, All-contains, All-contains_itself}
use Rattle.geometry_model.specs.Geometries.{Edge, Geometry, edges}
use Rattle.geometry_model.specs.Dimensions.{Matrix}
use Rattle.geometry_model.specs.FirstFaults.{share_point}
use Rattle.geometry_model.specs.Validity.{IsValid}
use Rattle.geometry_model.specs.declared.point_sets.Location.{Location}
use Rattle.geometry_laws.proofs.Each.{Among, each_at, each_of, none_passed, among_right}
use Rattle.geometry_laws.proofs.Cuts.{contains_of_among}
use Rattle.geometry_laws.proofs.CoverTheorems.{all_from_each}
use Rattle.geometry_laws.proofs.RingParity.{each_from_all}
use Rattle.edge_boxes.specs.Chains.{IsLinked, IsChain}
use Rattle.edge_boxes.specs.RingEdges.{edges_share}
use Rattle.edge_boxes.proofs.BoxFacts.{rest_is}
use Rattle.edge_boxes.proofs.Near.{parts_joined}
use Rattle.validity.specs.ValidGeometries.{HasLength}
use Rattle.matrix_laws.specs.Cells.{Covers}
use Rattle.matrix_laws.specs.Covering.{ShowsOff, ShowsEnds}
use Rattle.matrix_laws.specs.CoveringLaws.{IsFullOff}
use Rattle.matrix_laws.proofs.FullCovering.{full_off_at}
use Rattle.matrix_laws.proofs.Located.{off_is_shown}
use Rattle.matrix_laws.proofs.MatrixLists.{among_from_contains}
use Rattle.de9im.specs.Raising.{IsApart, LiesOff, StartsOff}
use Rattle.de9im.proofs.ApartEdges.{apart_is_off, apart_covers, start_like_end}
use Rattle.de9im.proofs.OutsideEdges.{from_part, one_more}

-- ---- parts of a list
none_there : (P : Edge → Type 0) (xs : List Edge) (n : ℕ) → All P (slice_range xs n n)
none_there P xs n =
    let e : n - n ≡ 0 = omega arith in
    All-same P (slice_range xs n n) [] (ap (λ m. take m (drop n xs)) e) (All-nil P)

pub none_between : (P : Edge → Type 0) (xs : List Edge) (first end : ℕ) → first ≡ end → All P (slice_range xs first end)
none_between P xs first end e = subst (λ n. All P (slice_range xs n end)) (sym e) (none_there P xs end)

-- what holds of a part and of the next one holds of both
pub both_parts : (P : Edge → Type 0) (xs : List Edge) (first middle end : ℕ) → first ≤ middle → middle ≤ end
    → All P (slice_range xs first middle) → All P (slice_range xs middle end) → All P (slice_range xs first end)
both_parts P xs first middle end h k one other = All-same P (slice_range xs first end)
    (slice_range xs first middle ++ slice_range xs middle end) (parts_joined xs first middle end h k)
    (All-append P (slice_range xs first middle) (slice_range xs middle end) one other)

-- what holds of a part holds of its end
pub later_part : (P : Edge → Type 0) (xs : List Edge) (first middle end : ℕ) → first ≤ middle → middle ≤ end
    → All P (slice_range xs first end) → All P (slice_range xs middle end)
later_part P xs first middle end h k all = all_from_each P part (each_of P part (λ x own.
    each_at P whole x (each_from_all P whole all) (subst (Among x) (sym (parts_joined xs first middle end h k))
    (among_right x (slice_range xs first middle) part own))))
  where
    part : List Edge
    part = slice_range xs middle end

    whole : List Edge
    whole = slice_range xs first end

pub whole_part : (xs : List Edge) (n : ℕ) → n ≡ length xs → slice_range xs 0 n ≡ xs
whole_part xs n e = ap (slice_range xs 0) e ∙ rest_is xs 0 (omega arith)

-- one element more at the front
one_front : (P : Edge → Type 0) (xs : List Edge) (i end : ℕ) (x : Edge) → i < end → end ≤ length xs → x ≡ get_or xs i x → P x
    → All P (slice_range xs (suc i) end) → All P (slice_range xs i end)
one_front P xs i end x h k is px rest =
    let less : suc i - 1 ≡ i = omega arith in
    subst (λ n. All P (slice_range xs n end)) less
    (one_more P xs (suc i) end x (omega arith) (omega (arith, h)) k (is ∙ ap (λ n. get_or xs n x) (sym less)) px rest)

-- an element between two places is one of the part
pub between_places : (xs : List Edge) (first end i : ℕ) (x : Edge) → first ≤ i → i < end → end ≤ length xs → x ≡ get_or xs i x
    → Contains (slice_range xs first end) x
between_places xs first end i x h k l is =
    let e : first + (i - first) ≡ i = omega (arith, h) in
    let within : i - first < end - first = omega (arith, h, k) in
    let count : length (slice_range xs first end) ≡ end - first =
    length-take-le (end - first) (drop first xs) (omega (arith, length-drop first xs, l)) in (
      i - first,
      omega (arith, within, count),
      get_or-take (end - first) (drop first xs) (i - first) x within ∙ get_or-drop first xs (i - first) x
          ∙ ap (λ n. get_or xs n x) e ∙ sym is,
    )

-- ---- edges of a run none of which shares a point
pub among_apart : (b : Geometry) (es : List Edge) (e : Edge) → edges_share es (edges b) ≡ false → Contains es e → IsApart e b
among_apart b es e apart own = each_at (λ d. list_any (share_point d) (edges b) ≡ false) es e
    (none_passed (λ d. list_any (share_point d) (edges b)) es apart) (among_from_contains es e own)

-- a matrix that shows all that gaps off the other's edges can show covers each of them
pub full_run_covers : (a b : Geometry) (m : Matrix) (first end : ℕ) → edges_share (slice_range (edges a) first end) (edges
    b) ≡ false
    → ShowsEnds a b m → ((e : Edge) → IsFullOff a b m e) → All (Covers a b m) (slice_range (edges a) first end)
full_run_covers a b m first end apart t full = All-weaker (Contains part) (Covers a b m)
    (λ e own x hx k.
    let off = apart_is_off b e (among_apart b part e apart own) x hx k in
    off_is_shown a b m t e (contains_of_among e (edges a) (from_part (edges a) first end e (among_from_contains part e
    own))) x hx k
    off (full_off_at a b m e (full e) x off))
    part (All-contains_itself part)
  where
    part : List Edge
    part = slice_range (edges a) first end

-- ---- a chain
-- an edge that is read at a place
pub starts_at : (b : Geometry) (l : Location) (es : List Edge) (place : ℕ) (d : Edge) → place < length es → d ≡ get_or es place d
    → LiesOff b l d.start → StartsOff b l es place
starts_at b l es place d within is lies e also =
    subst (λ (f : Edge). LiesOff b l f.start) (is ∙ get_or_default es place d e within ∙ sym also) lies

nowhere : Edge
nowhere = record { start = record { x = pos 0; y = pos 0 }; end = record { x = pos 0; y = pos 0 } }

-- from a place on, its edges are covered, and the first of them starts in this part
record Follows (a b : Geometry) (l : Location) (m : Matrix) (i last : ℕ) : Type 0 where
  pub starts : StartsOff b l (edges a) i
  pub covers : All (Covers a b m) (slice_range (edges a) i last)

-- one edge more at the front of the chain
one_link : (a b : Geometry) (l : Location) (m : Matrix) → IsValid b → All HasLength (edges a) → ShowsEnds a b m
    → ((e : Edge) → ShowsOff a m e l) → (from last i : ℕ) → last < length (edges a) → from ≤ i → i < last
    → edges_share (slice_range (edges a) from last) (edges b) ≡ false → IsLinked (edges a) i → Follows a b l m (suc i) last
    → Follows a b l m i last
one_link a b l m vb long t full from last i inside upto before apart linked rest = record {
  starts = λ e is. start_like_end e b l vb (long_at e is) (apart_at e is) (end_at e is);
  covers = one_front (Covers a b m) (edges a) i last own before (omega (arith, inside)) own_is (covered own own_is) rest.covers;
}
  where
    own : Edge
    own = get_or (edges a) i nowhere

    own_is : own ≡ get_or (edges a) i own
    own_is = get_or_default (edges a) i nowhere own (omega (arith, before, inside))

    own_at : (e : Edge) → e ≡ get_or (edges a) i e → Contains (edges a) e
    own_at e is = (i, omega (arith, before, inside), sym is)

    long_at : (e : Edge) → e ≡ get_or (edges a) i e → HasLength e
    long_at e is = All-contains HasLength (edges a) e long (own_at e is)

    apart_at : (e : Edge) → e ≡ get_or (edges a) i e → IsApart e b
    apart_at e is = among_apart b (slice_range (edges a) from last) e apart
        (between_places (edges a) from last i e upto before (omega (arith, inside)) is)

    end_at : (e : Edge) → e ≡ get_or (edges a) i e → LiesOff b l e.end
    end_at e is = go (get_or (edges a) (suc i) e) (get_or_default (edges a) (suc i) e (get_or (edges a) (suc i) e) (omega
        (arith, before, inside)))
      where
        go : (f : Edge) → f ≡ get_or (edges a) (suc i) f → LiesOff b l e.end
        go f f_is = subst (LiesOff b l) (sym (linked (omega (arith, before, inside)) e f is f_is)) (rest.starts f f_is)

    covered : (e : Edge) → e ≡ get_or (edges a) i e → Covers a b m e
    covered e is = apart_covers a b e l m vb (apart_at e is) (own_at e is) (long_at e is) (end_at e is) t (full e)

chain_back : (a b : Geometry) (l : Location) (m : Matrix) → IsValid b → All HasLength (edges a) → ShowsEnds a b m
    → ((e : Edge) → ShowsOff a m e l) → (from last : ℕ) → last < length (edges a)
    → edges_share (slice_range (edges a) from last) (edges b) ≡ false → StartsOff b l (edges a) last
    → (n i : ℕ) → i + n ≡ last → from ≤ i → IsChain (edges a) i last → Follows a b l m i last
chain_back a b l m vb long t full from last inside apart starts zero i same upto chain =
    let e : last ≡ i = omega (arith, same) in
    subst (λ k. Follows a b l m k last) e (record { starts = starts; covers = none_there (Covers a b m) (edges a) last })
chain_back a b l m vb long t full from last inside apart starts (suc n) i same upto chain =
    let before : i < last = omega (arith, same) in
    one_link a b l m vb long t full from last i inside upto before apart (chain i (omega arith) before)
    (chain_back a b l m vb long t full from last inside apart starts n (suc i) (omega (arith, same)) (omega (arith, upto))
    (λ j h k. chain j (omega (arith, h)) k))

pub chain_follows : (a b : Geometry) (l : Location) (m : Matrix) → IsValid b → All HasLength (edges a) → ShowsEnds a b m
    → ((e : Edge) → ShowsOff a m e l) → (from first last : ℕ) → last < length (edges a) → from ≤ first → first ≤ last
    → edges_share (slice_range (edges a) from last) (edges b) ≡ false → StartsOff b l (edges a) last
    → IsChain (edges a) first last
    → StartsOff b l (edges a) first × All (Covers a b m) (slice_range (edges a) first last)
chain_follows a b l m vb long t full from first last inside h k apart starts chain =
    let f = chain_back a b l m vb long t full from last inside apart starts (last - first) first (omega (arith, k)) h chain in
    (f.starts, f.covers)
