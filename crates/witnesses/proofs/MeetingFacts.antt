-- A ring and some rings, and the rings of two polygons, one by one.
use Rattle.std.proofs.Common.{◌≡◌, ◌⊎◌, inl, inr, sym, ap, subst, ◌∙◌, ℕ, ◌+◌, ◌<◌, List, Contains, Some, slice_get}
use Rattle.std.proofs.lemmas.Option.{get_or_from_slice_get, slice_get-get_or, slice_get_within, same_Some}
use Rattle.basics.proofs.Numbers.{earlier_or_last}
use Rattle.geometry_model.specs.Points.{Position}
use Rattle.geometry_model.specs.Validity.{RingsShare, ElementsShare}
use Rattle.witnesses.specs.FaultPlaces.{MeetsOne}

-- what is contained at this place
at_place : (rings : List (List Position)) (s t : List Position) (n : ℕ) (c : Contains rings s) → c.0 ≡ n → slice_get rings n ≡ Some t → s ≡ t
at_place rings s t n c same at = same_Some s t (sym (slice_get-get_or rings c.0 s c.1 ∙ ap Some c.2) ∙ (ap (slice_get rings) same ∙ at))

pub next_one : (r : List Position) (others : List (List Position)) (n : ℕ) (s : List Position) → slice_get others n ≡ Some s → (RingsShare r s → ⊥) → ((w : MeetsOne r others) → w.second.0 < n → ⊥) → (w : MeetsOne r others) → w.second.0 < n + 1 → ⊥
next_one r others n s at none before w h = go (earlier_or_last w.second.0 n h)
  where
    go : (w.second.0 < n) ⊎ (w.second.0 ≡ n) → ⊥
    go (inl less) = before w less
    go (inr same) = none (subst (λ (q : List Position). RingsShare r q) (at_place others w.s s n w.second same at) w.share)

pub next_of_polygon : (d e : List (List Position)) (n : ℕ) (r : List Position) → slice_get d n ≡ Some r → (MeetsOne r e → ⊥) → ((w : ElementsShare d e) → w.first.0 < n → ⊥) → (w : ElementsShare d e) → w.first.0 < n + 1 → ⊥
next_of_polygon d e n r at none before w h = go (earlier_or_last w.first.0 n h)
  where
    go : (w.first.0 < n) ⊎ (w.first.0 ≡ n) → ⊥
    go (inl less) = before w less
    go (inr same) = none (record { s = w.s; second = w.second; share = subst (λ (q : List Position). RingsShare q w.s) (at_place d w.r r n w.first same at) w.share })

-- so none of those before meets it
pub none_one_before : (r : List Position) (others : List (List Position)) (n : ℕ) → ((w : MeetsOne r others) → w.second.0 < n → ⊥)
    → (k : ℕ) (q : List Position) → k < n → slice_get others k ≡ Some q → RingsShare r q → ⊥
none_one_before r others n before k q less at share =
    before (record {
      s = q;
      second = (k, slice_get_within others k q at, get_or_from_slice_get others k q q at);
      share = share;
    }) less

pub none_of_polygon_before : (d e : List (List Position)) (n : ℕ) → ((w : ElementsShare d e) → w.first.0 < n → ⊥)
    → (k : ℕ) (q : List Position) → k < n → slice_get d k ≡ Some q → MeetsOne q e → ⊥
none_of_polygon_before d e n before k q less at meets =
    before (record {
      r = q;
      s = meets.s;
      first = (k, slice_get_within d k q at, get_or_from_slice_get d k q q at);
      second = meets.second;
      share = meets.share;
    }) less
