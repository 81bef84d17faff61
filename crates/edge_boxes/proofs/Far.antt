-- An edge far from a run, by the run's bounds or its strip, shares no point with the run's edges.
use Rattle.std.proofs.Common.{ℤ, pos, int_le, ◌+ℤ◌, ◌-ℤ◌, ◌*ℤ◌, ◌≤ℤ◌, ◌<ℤ◌, int_lt, ◌≡◌, ◌⊎◌, inl, inr, Bool, true, false, ◌&&◌, ◌||◌, refl, sym, ap, ◌∙◌, subst, List, [], ◌∷◌, Option, Some, IfSome, arith}
use borrow.Author.Differences.{ints}
use Rattle.std.specs.Int.{int_min, int_max}
use Rattle.std.proofs.lemmas.Int.{clamps}
use Rattle.std.specs.List.{AllByRecursion, list_any}
use Rattle.std.proofs.lemmas.Bool.{and_parts, or_cases, both_ways}
use Rattle.geometry_model.specs.Points.{Position, Point, IsPoint}
use Rattle.geometry_model.specs.Geometries.{Edge}
use Rattle.geometry_model.specs.Sides.{on}
use Rattle.geometry_model.specs.Validity.{SharePoint}
use Rattle.geometry_model.specs.FirstFaults.{share_point}
use Rattle.geometry_model.specs.Envelopes.{Envelope, overlap}
use Rattle.basics.proofs.Ring.{solve, var, ◌⊖◌, ◌⊗◌}
use Rattle.basics.proofs.Signs.{plus_minus, strict_plus_plus, at_most_or_less, less_from, at_most_yes, at_most_from}
use Rattle.basics.proofs.Bools.{four_from}
use Rattle.geometry_laws.proofs.SharedPoints.{shared_point_is_decided}
use Rattle.edge_boxes.specs.RunLaws.{box_of}
use Rattle.edge_boxes.proofs.OverlappingBoxes.{sharing_boxes_overlap}
use Rattle.edge_boxes.specs.EdgeRuns.{LiesIn}
use Rattle.edge_boxes.specs.Strips.{rise, LiesInStrip, IsStripOf, lies_beside}
use Rattle.edge_boxes.specs.OneLine.{SharesNone}
use Rattle.edge_boxes.specs.declared.kept_runs.Run.{Run}
use Rattle.edge_boxes.specs.declared.strips.Direction.{Direction}
use Rattle.edge_boxes.specs.declared.strips.Strip.{Strip}
use Rattle.edge_boxes.proofs.EdgeSides.{beyond, on_off_beyond, on_off_short}

-- ---- a level between the rises of two edges' ends parts the edges
-- how far a point lies above a position in a direction is the difference of their rises
beyond_is : (d : Direction) (a : Position) (p : Point) → beyond d.dx d.dy a p ≡ (d.dx *ℤ p.Y -ℤ d.dy *ℤ p.X) -ℤ p.W *ℤ rise d a.x a.y
beyond_is d a p = solve (d.dx ∷ d.dy ∷ a.x ∷ a.y ∷ p.X ∷ p.Y ∷ p.W ∷ [])
    (var 0 ⊗ (var 5 ⊖ var 3 ⊗ var 6) ⊖ var 1 ⊗ (var 4 ⊖ var 2 ⊗ var 6))
    ((var 0 ⊗ var 5 ⊖ var 1 ⊗ var 4) ⊖ var 6 ⊗ (var 0 ⊗ var 3 ⊖ var 1 ⊗ var 2)) tt

spread : (w c v : ℤ) → w *ℤ (c -ℤ v) ≡ c *ℤ w -ℤ w *ℤ v
spread w c v = solve (w ∷ c ∷ v ∷ []) (var 0 ⊗ (var 1 ⊖ var 2)) (var 1 ⊗ var 0 ⊖ var 0 ⊗ var 2) tt

-- a point whose rise is at least a level lies above each position whose rise is less than it
over_level : (r w c v s : ℤ) → s ≡ r -ℤ w *ℤ v → pos 0 <ℤ w → (c *ℤ w) ≤ℤ r → v <ℤ c → pos 0 <ℤ s
over_level r w c v s e hw h k = sum s r (w *ℤ v) (w *ℤ (c -ℤ v)) (c *ℤ w) e (spread w c v) (strict_plus_plus w (c -ℤ v) hw (difference k)) h
  where
    difference : v <ℤ c → pos 0 <ℤ (c -ℤ v)
    difference l = omega (arith, ints, l)

    sum : (s r t u q : ℤ) → s ≡ r -ℤ t → u ≡ q -ℤ t → pos 0 <ℤ u → q ≤ℤ r → pos 0 <ℤ s
    sum s r t u q e f l h = omega (arith, ints, e, f, l, h)

-- a point whose rise is less than a level lies below each position whose rise is at least it
under_level : (r w c v s : ℤ) → s ≡ r -ℤ w *ℤ v → pos 0 <ℤ w → r <ℤ (c *ℤ w) → c ≤ℤ v → s <ℤ pos 0
under_level r w c v s e hw h k = sum s r (w *ℤ v) (w *ℤ (c -ℤ v)) (c *ℤ w) e (spread w c v) (plus_minus w (c -ℤ v) (weak hw) (difference k)) h
  where
    weak : pos 0 <ℤ w → pos 0 ≤ℤ w
    weak l = omega (arith, ints, l)

    difference : c ≤ℤ v → (c -ℤ v) ≤ℤ pos 0
    difference l = omega (arith, ints, l)

    sum : (s r t u q : ℤ) → s ≡ r -ℤ t → u ≡ q -ℤ t → u ≤ℤ pos 0 → r <ℤ q → s <ℤ pos 0
    sum s r t u q e f l h = omega (arith, ints, e, f, l, h)

-- edges with a level between them share no point: at or above the level it isn't on the lower edge, below it not on the upper one
parted : (d : Direction) (c : ℤ) (e f : Edge) (p : Point) → IsPoint p → pos 0 <ℤ d.dx → rise d e.start.x e.start.y <ℤ c → rise d e.end.x e.end.y <ℤ c → c ≤ℤ rise d f.start.x f.start.y → c ≤ℤ rise d f.end.x f.end.y
    → on e p ≡ true → on f p ≡ true → ⊥
parted d c e f p hp hx a b g h ke kf = go (at_most_or_less (c *ℤ p.W) (d.dx *ℤ p.Y -ℤ d.dy *ℤ p.X))
  where
    level : ℤ
    level = d.dx *ℤ p.Y -ℤ d.dy *ℤ p.X

    over : (c *ℤ p.W) ≤ℤ level → (q : Position) → rise d q.x q.y <ℤ c → pos 0 <ℤ beyond d.dx d.dy q p
    over l q k = over_level level p.W c (rise d q.x q.y) (beyond d.dx d.dy q p) (beyond_is d q p) hp l k

    under : level <ℤ (c *ℤ p.W) → (q : Position) → c ≤ℤ rise d q.x q.y → beyond d.dx d.dy q p <ℤ pos 0
    under l q k = under_level level p.W c (rise d q.x q.y) (beyond d.dx d.dy q p) (beyond_is d q p) hp l k

    go : ((c *ℤ p.W) ≤ℤ level) ⊎ (level <ℤ (c *ℤ p.W)) → ⊥
    go (inl l) = both_ways (on e p) (on_off_beyond d.dx d.dy e p hx (over l e.start a) (over l e.end b)) ke
    go (inr l) = both_ways (on f p) (on_off_short d.dx d.dy f p hx (under l f.start g) (under l f.end h)) kf

-- ---- by a strip
-- an edge wholly below or above a strip shares no point with an edge that lies in it, since a level parts them
beside_parts : (s : Strip) (e f : Edge) → pos 0 <ℤ s.direction.dx → LiesInStrip s f → lies_beside s e ≡ true → SharePoint e f → ⊥
beside_parts s e f right l beside w =
    go (or_cases (int_lt (rise s.direction e.start.x e.start.y) s.least && int_lt (rise s.direction e.end.x e.end.y) s.least)
    (int_lt s.greatest (rise s.direction e.start.x e.start.y) && int_lt s.greatest (rise s.direction e.end.x e.end.y)) beside)
  where
    at_most : (v g : ℤ) → v ≤ℤ g → v <ℤ (g +ℤ pos 1)
    at_most v g h = omega (arith, ints, h)

    more : (v g : ℤ) → int_lt g v ≡ true → (g +ℤ pos 1) ≤ℤ v
    more v g h = let k = less_from g v h in omega (arith, ints, k)

    go : ((int_lt (rise s.direction e.start.x e.start.y) s.least && int_lt (rise s.direction e.end.x e.end.y) s.least) ≡ true)
        ⊎ ((int_lt s.greatest (rise s.direction e.start.x e.start.y) && int_lt s.greatest (rise s.direction e.end.x e.end.y)) ≡ true) → ⊥
    go (inl h) =
        let below = and_parts (int_lt (rise s.direction e.start.x e.start.y) s.least) (int_lt (rise s.direction e.end.x e.end.y) s.least) h in
        parted s.direction s.least e f w.at w.is_point right (less_from (rise s.direction e.start.x e.start.y) s.least below.0) (less_from (rise s.direction e.end.x e.end.y) s.least below.1)
        l.start.least l.end.least w.on_first w.on_second
    go (inr h) =
        let above = and_parts (int_lt s.greatest (rise s.direction e.start.x e.start.y)) (int_lt s.greatest (rise s.direction e.end.x e.end.y)) h in
        parted s.direction (s.greatest +ℤ pos 1) f e w.at w.is_point right (at_most (rise s.direction f.start.x f.start.y) s.greatest l.start.greatest) (at_most (rise s.direction f.end.x f.end.y) s.greatest l.end.greatest)
        (more (rise s.direction e.start.x e.start.y) s.greatest above.0) (more (rise s.direction e.end.x e.end.y) s.greatest above.1) w.on_second w.on_first

-- an edge within bounds that don't meet the others has a rectangle that doesn't meet them either
pub edge_apart : (b c : Envelope) (e : Edge) → LiesIn b e → overlap b c ≡ false → overlap (box_of e) c ≡ false
edge_apart b c e l far = go (overlap (box_of e) c) refl
  where
    least : (m s t g : ℤ) → m ≤ℤ s → m ≤ℤ t → int_le (int_min s t) g ≡ true → int_le m g ≡ true
    least m s t g h k f = let r = at_most_from (int_min s t) g f in at_most_yes m g (omega (arith, ints, clamps, h, k, r))

    greatest : (m s t g : ℤ) → s ≤ℤ m → t ≤ℤ m → int_le g (int_max s t) ≡ true → int_le g m ≡ true
    greatest m s t g h k f = let r = at_most_from g (int_max s t) f in at_most_yes g m (omega (arith, ints, clamps, h, k, r))

    meet : overlap (box_of e) c ≡ true → overlap b c ≡ true
    meet h =
        let x = box_of e in
        let last = and_parts (int_le x.least_x c.greatest_x && int_le c.least_x x.greatest_x && int_le x.least_y c.greatest_y) (int_le c.least_y x.greatest_y) h in
        let third = and_parts (int_le x.least_x c.greatest_x && int_le c.least_x x.greatest_x) (int_le x.least_y c.greatest_y) last.0 in
        let first = and_parts (int_le x.least_x c.greatest_x) (int_le c.least_x x.greatest_x) third.0 in
        four_from _ _ _ _ (least b.least_x e.start.x e.end.x c.greatest_x l.start.left l.end.left first.0) (greatest b.greatest_x e.start.x e.end.x c.least_x l.start.right l.end.right first.1)
        (least b.least_y e.start.y e.end.y c.greatest_y l.start.low l.end.low third.1) (greatest b.greatest_y e.start.y e.end.y c.least_y l.start.high l.end.high last.1)

    go : (t : Bool) → overlap (box_of e) c ≡ t → overlap (box_of e) c ≡ false
    go true h = absurd (let y : true ≡ false = sym (meet h) ∙ far in cc)
    go false h = h

-- ---- by bounds
-- an edge whose rectangle doesn't meet the bounds shares no point with an edge within them,
-- since edges that share a point have rectangles that overlap
apart_parts : (b : Envelope) (e f : Edge) → LiesIn b f → overlap b (box_of e) ≡ false → SharePoint e f → ⊥
apart_parts b e f l far w =
    let turned = (shared_point_is_decided f e).1 (record { at = w.at; is_point = w.is_point; on_first = w.on_second; on_second = w.on_first }) in
    let y : true ≡ false = sym (sharing_boxes_overlap f e turned) ∙ edge_apart b (box_of e) f l far in
    cc

-- ---- of a run
-- edges that can't share a point fail the test for one
unshared : (e f : Edge) → (SharePoint e f → ⊥) → share_point e f ≡ false
unshared e f h = go (share_point e f) refl
  where
    go : (b : Bool) → share_point e f ≡ b → share_point e f ≡ false
    go true k = absurd (h ((shared_point_is_decided e f).0 k))
    go false k = k

-- where no edge with a property shares a point with the edge, none in a list of such edges does
none_shared : (P : Edge → Type 0) (e : Edge) (es : List Edge) → ((f : Edge) → P f → SharePoint e f → ⊥) → AllByRecursion P es → list_any (share_point e) es ≡ false
none_shared P e [] h all = refl
none_shared P e (f ∷ fs) h all = ap (λ (b : Bool). b || list_any (share_point e) fs) (unshared e f (h f all.0)) ∙ none_shared P e fs h all.1

-- a run whose bounds don't meet the edge's rectangle shares no point with the edge
pub far_by_bounds : (run : Run) (e : Edge) → overlap run.bounds (box_of e) ≡ false → SharesNone run e
far_by_bounds run e far es sums = none_shared (LiesIn run.bounds) e es (λ f l. apart_parts run.bounds e f l far) sums.lies

-- nor does a run whose strip the edge is wholly below or above
pub far_by_strip : (run : Run) (strip : Strip) (e : Edge) → run.strip ≡ Some strip → lies_beside strip e ≡ true → SharesNone run e
far_by_strip run strip e is beside es sums =
    let of : IsStripOf strip es = subst (λ (s : Option Strip). IfSome s (λ t. IsStripOf t es)) is sums.strip in
    none_shared (LiesInStrip strip) e es (λ f l. beside_parts strip e f of.rightward l beside) of.lies
