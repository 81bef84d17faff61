-- Edges of two lists, of which one is far from a run of the other.
use Rattle.std.proofs.Common.{◌≡◌, Bool, true, false, ◌&&◌, ◌||◌, int_le, ℕ, List, [], ◌∷◌, length, refl, sym, ap, ap₂, ◌∙◌, arith}
use Rattle.std.specs.Prelude.{slice_range}
use Rattle.std.specs.List.{AllByRecursion, list_any}
use Rattle.std.proofs.Math.Bool.{and_comm}
use Rattle.std.proofs.lemmas.Bool.{or_parts}
use Rattle.geometry_model.specs.Geometries.{Edge}
use Rattle.geometry_model.specs.Envelopes.{Envelope, overlap}
use Rattle.geometry_model.specs.FirstFaults.{share_point}
use Rattle.edge_boxes.specs.RunLaws.{box_of}
use Rattle.edge_boxes.specs.EdgeRuns.{LiesIn}
use Rattle.edge_boxes.specs.NearEdges.{is_near}
use Rattle.edge_boxes.specs.RingEdges.{edges_share}
use Rattle.edge_boxes.proofs.BoxFacts.{rest_is}
use Rattle.edge_boxes.proofs.Far.{edge_apart}
use Rattle.edge_boxes.proofs.Sharing.{apart}

-- which of two rectangles is named first doesn't matter
pub overlap_turned : (b c : Envelope) → overlap b c ≡ overlap c b
overlap_turned b c =
    four (int_le b.least_x c.greatest_x) (int_le c.least_x b.greatest_x) (int_le b.least_y c.greatest_y) (int_le c.least_y b.greatest_y)
  where
    three : (p q r : Bool) → p && q && r ≡ p && r && q
    three true q r = and_comm q r
    three false q r = refl

    four : (p q r s : Bool) → p && q && r && s ≡ q && p && s && r
    four p q r s = ap (λ t. t && r && s) (and_comm p q) ∙ three (q && p) r s

-- an edge within bounds near which none of the others is shares no point with one of them
one_shares_none : (b : Envelope) (e : Edge) (others : List Edge) → LiesIn b e
    → list_any (is_near b) others ≡ false → list_any (share_point e) others ≡ false
one_shares_none b e [] l far = refl
one_shares_none b e (f ∷ fs) l far =
    let parts = or_parts (is_near b f) (list_any (is_near b) fs) far in
    ap₂ (λ (s t : Bool). s || t) (apart e f (edge_apart b (box_of f) e l (overlap_turned b (box_of f) ∙ parts.0)))
    (one_shares_none b e fs l parts.1)

-- nor do several such edges
pub shares_none : (b : Envelope) (edges others : List Edge) → AllByRecursion (LiesIn b) edges
    → list_any (is_near b) others ≡ false → edges_share edges others ≡ false
shares_none b [] others all far = refl
shares_none b (e ∷ es) others all far =
    ap₂ (λ (s t : Bool). s || t) (one_shares_none b e others all.0 far) (shares_none b es others all.1 far)

-- the search for the last near edge that leads to the first place found none
pub none_near : (b : Envelope) (others : List Edge) (left : ℕ) → left ≡ 0
    → list_any (is_near b) (slice_range others left (length others)) ≡ false → list_any (is_near b) others ≡ false
none_near b others left first none =
    ap (list_any (is_near b)) (sym (rest_is others 0 (omega arith)))
    ∙ ap (λ n. list_any (is_near b) (slice_range others n (length others))) (sym first) ∙ none
