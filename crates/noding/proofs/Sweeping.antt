-- A sweep: edges in the order of their least x, each tried with those that begin before it ends.
use Rattle.std.proofs.Common.{◌≡◌, ◌⊎◌, inl, inr, ℕ, ◌<◌, ◌≤◌, true, false, not, ◌||◌, sym, subst, ◌∙◌, List, length, get_or, ℤ, pos, ◌≤ℤ◌, ◌<ℤ◌, ◌*ℤ◌, ◌-ℤ◌, int_le, arith}
use Rattle.std.proofs.lemmas.Int.{ints}
use Rattle.std.proofs.lemmas.List.{get_or_default}
use Rattle.std.proofs.lemmas.Bool.{and_right, false_from_ne_true, and_parts, and_from}
use Rattle.basics.proofs.Signs.{at_most_yes, at_most_no}
use Rattle.basics.proofs.Orders.{at_most_at_most, less_at_most, between_cases}
use Rattle.geometry_model.specs.Points.{Point, IsPoint}
use Rattle.geometry_model.specs.Geometries.{Edge}
use Rattle.geometry_model.specs.Sides.{on, between, on_one_line}
use Rattle.geometry_model.specs.CutPoints.{is_end}
use Rattle.geometry_laws.proofs.Hulls.{on_parts, ordered}
use Rattle.noding.specs.Meetings.{on_both, is_common_cut}
use Rattle.noding.specs.Sweeps.{Ascends}
use Rattle.noding.specs.NodeRanges.{lesser, greater, least_x, greatest_x, overlap, x_ranges_overlap, y_ranges_overlap}

-- ---- edges with a point in common have overlapping ranges
pub lesser_first : (a b : ℤ) → lesser a b ≤ℤ a
unfolding lesser
lesser_first a b = grind (arith, ints)

pub lesser_second : (a b : ℤ) → lesser a b ≤ℤ b
unfolding lesser
lesser_second a b = grind (arith, ints)

pub greater_first : (a b : ℤ) → a ≤ℤ greater a b
unfolding greater
greater_first a b = grind (arith, ints)

pub greater_second : (a b : ℤ) → b ≤ℤ greater a b
unfolding greater
greater_second a b = grind (arith, ints)

-- a number between two others, both times w: one that isn't past it, and one that isn't before it
record Reached (a b n w : ℤ) : Type 0 where
  low : ℤ
  high : ℤ
  low_within : lesser a b ≤ℤ low
  high_within : high ≤ℤ greater a b
  from_low : (low *ℤ w) ≤ℤ n
  to_high : n ≤ℤ (high *ℤ w)

-- a number between two others is so from the lesser to the greater
reached : (a b n w : ℤ) → between a b n w ≡ true → Reached a b n w
reached a b n w e = go (between_cases (a *ℤ w) (b *ℤ w) n e)
  where
    go : (((a *ℤ w) ≤ℤ n) × (n ≤ℤ (b *ℤ w))) ⊎ (((b *ℤ w) ≤ℤ n) × (n ≤ℤ (a *ℤ w))) → Reached a b n w
    go (inl h) = record { low = a; high = b; low_within = lesser_first a b; high_within = greater_second a b; from_low = h.0; to_high = h.1 }
    go (inr h) = record { low = b; high = a; low_within = lesser_second a b; high_within = greater_first a b; from_low = h.0; to_high = h.1 }

-- a range that begins before a common number, and one that ends after it, overlap on that side
in_time : (s l h t n w : ℤ) → pos 0 <ℤ w → s ≤ℤ l → (l *ℤ w) ≤ℤ n → n ≤ℤ (h *ℤ w) → h ≤ℤ t → int_le s t ≡ true
in_time s l h t n w hw a b c d = at_most_yes s t (joined s l h t a d (ordered l h w hw (at_most_at_most (l *ℤ w) n (h *ℤ w) b c)))
  where
    joined : (x y z u : ℤ) → x ≤ℤ y → z ≤ℤ u → pos 0 ≤ℤ (z -ℤ y) → x ≤ℤ u
    joined x y z u p q r = omega (arith, ints)

-- two ranges with a number in common overlap
pub overlap_from : (a b c d n w : ℤ) → pos 0 <ℤ w → between a b n w ≡ true → between c d n w ≡ true → overlap a b c d ≡ true
overlap_from a b c d n w hw e f = go (reached a b n w e) (reached c d n w f)
  where
    go : Reached a b n w → Reached c d n w → overlap a b c d ≡ true
    go r s = and_from (int_le (lesser a b) (greater c d)) (int_le (lesser c d) (greater a b))
        (in_time (lesser a b) r.low s.high (greater c d) n w hw r.low_within r.from_low s.to_high s.high_within)
        (in_time (lesser c d) s.low r.high (greater a b) n w hw s.low_within s.from_low r.to_high r.high_within)

-- edges without overlapping ranges of x have no common point, since it would have its x in both
pub x_apart : (e f : Edge) → x_ranges_overlap e f ≡ false → (p : Point) → IsPoint p → on_both e f p ≡ false
x_apart e f apart p hp = false_from_ne_true (on_both e f p) (λ k.
    let both : (on e p ≡ true) × (on f p ≡ true) = and_parts (on e p) (on f p) k in
    let clash : false ≡ true = sym apart ∙ overlap_from e.start.x e.end.x f.start.x f.end.x p.X p.W hp (on_parts e p both.0).in_x (on_parts f p both.1).in_x in
    cc)

-- the same of y
pub y_apart : (e f : Edge) → y_ranges_overlap e f ≡ false → (p : Point) → IsPoint p → on_both e f p ≡ false
y_apart e f apart p hp = false_from_ne_true (on_both e f p) (λ k.
    let both : (on e p ≡ true) × (on f p ≡ true) = and_parts (on e p) (on f p) k in
    let clash : false ≡ true = sym apart ∙ overlap_from e.start.y e.end.y f.start.y f.end.y p.Y p.W hp (on_parts e p both.0).in_y (on_parts f p both.1).in_y in
    cc)

-- edges without a common point have no common cut
pub no_common_cut : (e f : Edge) → ((p : Point) → IsPoint p → on_both e f p ≡ false) → (p : Point) → IsPoint p → is_common_cut e f p ≡ true → ⊥
no_common_cut e f apart p hp k =
    let clash : false ≡ true = sym (apart p hp) ∙ (and_parts (on_both e f p) (is_end e p || is_end f p || not (on_one_line e f)) k).0 in
    cc

-- ---- edges in the order of the sweep
same_at : (es : List Edge) (n : ℕ) (f d : Edge) → n < length es → f ≡ get_or es n f → f ≡ get_or es n d
same_at es n f d l h = h ∙ get_or_default es n f d l

-- an edge that ends before another begins ends before each that follows
pub later_apart : (es : List Edge) (e f : Edge) (n : ℕ) → Ascends es → f ≡ get_or es n f → greatest_x e <ℤ least_x f → (k : ℕ) (d : Edge) → n ≤ k → k < length es → x_ranges_overlap e (get_or es k d) ≡ false
later_apart es e f n up hf past k d nk l = and_right (int_le (least_x e) (greatest_x (get_or es k d))) (int_le (least_x (get_or es k d)) (greatest_x e))
    (at_most_no (least_x (get_or es k d)) (greatest_x e) (less_at_most (greatest_x e) (least_x f) (least_x (get_or es k d)) past
    (subst (λ (g : Edge). least_x g ≤ℤ least_x (get_or es k d)) (sym (same_at es n f d (omega (arith, nk, l)) hf)) (up n k d nk l))))

-- so the later edges have no cut in common with this one, and the sweep may stop
pub none_common : (es : List Edge) (i n : ℕ) (e f : Edge) → i < length es → e ≡ get_or es i e → Ascends es → f ≡ get_or es n f → greatest_x e <ℤ least_x f
    → (b : ℕ) (d : Edge) → n ≤ b → b < length es → (p : Point) → IsPoint p → is_common_cut (get_or es i d) (get_or es b d) p ≡ true → ⊥
none_common es i n e f l he up hf past b d nb lb p hp k =
    no_common_cut e (get_or es b d) (x_apart e (get_or es b d) (later_apart es e f n up hf past b d nb lb)) p hp (subst (λ (g : Edge). is_common_cut g (get_or es b d) p ≡ true) (sym (same_at es i e d l he)) k)

-- one that doesn't end before a following one begins overlaps it
pub overlaps_next : (es : List Edge) (i n : ℕ) (e f : Edge) → Ascends es → i ≤ n → n < length es → e ≡ get_or es i e → f ≡ get_or es n f → least_x f ≤ℤ greatest_x e → x_ranges_overlap e f ≡ true
overlaps_next es i n e f up less l he hf h = and_from (int_le (least_x e) (greatest_x f)) (int_le (least_x f) (greatest_x e))
    (at_most_yes (least_x e) (greatest_x f) (at_most_at_most (least_x e) (least_x f) (greatest_x f) rises (at_most_at_most (least_x f) f.start.x (greatest_x f) (lesser_first f.start.x f.end.x) (greater_first f.start.x f.end.x))))
    (at_most_yes (least_x f) (greatest_x e) h)
  where
    rises : least_x e ≤ℤ least_x f
    rises = subst (λ (g : Edge). least_x g ≤ℤ least_x f) (sym (same_at es i e f (omega (arith, less, l)) he)) (subst (λ (g : Edge). least_x (get_or es i f) ≤ℤ least_x g) (sym hf) (up i n f less l))
