-- What a sampler has kept: once each second corner is left out, and with one corner more.
use Rattle.std.proofs.Common.{◌≡◌, ◌⊎◌, inl, inr, ℕ, suc, ◌+◌, ◌-◌, ◌*◌, ◌^◌, ◌<◌, ◌≤◌, List, [], ◌∷◌, ◌++◌, length, arith, ◌∙◌, ap, sym, subst, length-append}
use Rattle.std.proofs.Math.Nat.{two-pow-succ}
use Rattle.std.proofs.Math.Pow.{pow_mono, pow_pos}
use Rattle.geometry_model.specs.Points.{Position}
use Rattle.fraction.specs.Ranges.{IsOnGrid}
use Rattle.geometry_model.specs.Envelopes.{Envelope, envelope}
use Rattle.geometry_model.specs.Geometries.{Geometry}
use Rattle.std.proofs.lemmas.List.Elements.{All-head}
use Rattle.std.specs.List.{All}
use Rattle.std.specs.Prelude.{Some, slice_get}
use Rattle.table_model.specs.declared.values.Value.{Value}
use Rattle.table_model.specs.declared.values.Value.TheVariants as value
use Rattle.tiles.specs.declared.sampling.Sampler.{Sampler}
use Rattle.tiles.specs.Samples.{IsFirstOfEach, IsPowerOfTwo, IsSampleOf, Samples, corner_in_field, corner_in_row, corner_of}
use Rattle.tiles.proofs.SampleLemmas.{halved, kept_too}

doubled_power : (n : ℕ) → IsPowerOfTwo n → IsPowerOfTwo (2 * n)
doubled_power n p = (suc p.0, (let e = p.1 in let t = two-pow-succ p.0 in omega (arith, e, t)))

pub some : (n : ℕ) → IsPowerOfTwo n → 1 ≤ n
some n p = subst (λ z. 1 ≤ z) (sym p.1) (pow_pos p.0)

-- each second corner is left out, unless the stride can't be doubled
pub thinned : (all : List Position) (old new : Sampler) → (2 ^ 63 ≤ old.stride) ⊎ (new.stride ≡ 2 * old.stride)
    → (2 ^ 63 ≤ old.stride) ⊎ IsFirstOfEach 2 old.corners.items new.corners.items → (2 ^ 63 ≤ old.stride → new ≡ old)
    → Samples all old → Samples all new
thinned all old new (inl big) half same sampled = subst (Samples all) (sym (same big)) sampled
thinned all old new (inr double) (inl big) same sampled = subst (Samples all) (sym (same big)) sampled
thinned all old new (inr double) (inr half) same sampled = record {
  power = subst IsPowerOfTwo (sym double) (doubled_power old.stride sampled.power);
  kept = subst (λ z. IsFirstOfEach z all new.corners.items) (sym double)
      (halved old.stride all old.corners.items new.corners.items sampled.kept half);
}

-- the stride after one doubling more
pub more_doubled : (turn : ℕ) (old new : Sampler) → turn < 63 → (2 ^ 63 ≤ old.stride) ⊎ (new.stride ≡ 2 * old.stride)
    → (2 ^ 63 ≤ old.stride → new ≡ old) → 2 ^ turn ≤ old.stride → 2 ^ (turn + 1) ≤ new.stride
more_doubled turn old new few (inl big) same h =
    let e = ap (λ s. s.stride) (same big) in
    let p = pow_mono {i = turn + 1} {j = 63} (omega (arith, few)) in
    omega (arith, e, p, big)
more_doubled turn old new few (inr double) same h =
    let t = two-pow-succ turn in
    let next : suc turn ≡ turn + 1 = omega arith in
    subst (λ z. 2 ^ z ≤ new.stride) next (omega (arith, double, t, h))

-- a stride that was below the one asked for is below twice that
pub least_doubled : (asked first : ℕ) (old new : Sampler) → old.stride < asked
    → (2 ^ 63 ≤ old.stride) ⊎ (new.stride ≡ 2 * old.stride) → (2 ^ 63 ≤ old.stride → new ≡ old)
    → (old.stride ≡ first) ⊎ (old.stride < 2 * asked) → (new.stride ≡ first) ⊎ (new.stride < 2 * asked)
least_doubled asked first old new below (inl big) same least =
    subst (λ s. (s.stride ≡ first) ⊎ (s.stride < 2 * asked)) (sym (same big)) least
least_doubled asked first old new below (inr double) same least = inr (omega (arith, below, double))

-- a sampler has sampled all of these corners, is to keep the next one, and has room for it
pub record HasRoom (all : List Position) (sampler : Sampler) : Type 0 where
  pub sampled : Samples all sampler
  pub full : length all ≡ length sampler.corners.items * sampler.stride
  pub room : (length sampler.corners.items < 16384) ⊎ (2 ^ 63 ≤ sampler.stride)

-- with one corner more, which is kept
pub kept_more : (all : List Position) (c : Position) (old new : Sampler) → HasRoom all old
    → new.stride ≡ old.stride → new.since ≡ old.stride - 1 → new.corners.items ≡ old.corners.items ++ c ∷ []
    → IsSampleOf (all ++ c ∷ []) new
kept_more all c old new h stride since corners =
    let one = some old.stride h.sampled.power in
    let s : new.since + 1 ≡ old.stride = omega (arith, since, one) in
    let k : length new.corners.items ≡ length old.corners.items + 1 =
    ap length corners ∙ length-append old.corners.items (c ∷ []) in
    let l : length (all ++ c ∷ []) ≡ length all + 1 = length-append all (c ∷ []) in
    record {
      sampled = record {
        power = subst IsPowerOfTwo (sym stride) h.sampled.power;
        kept = rw (stride, corners) (kept_too old.stride all old.corners.items c h.sampled.kept h.full one);
      };
      left_out = rw (stride, k, l) (one_more_stride (length all) (length old.corners.items) h.full s);
      few = rw stride (one_more_room h.room k);
    }
  where
    one_more_stride : (a m : ℕ) → a ≡ m * old.stride → new.since + 1 ≡ old.stride → a + 1 + new.since ≡ (m + 1) * old.stride
    one_more_stride a m e s = let t = next m old.stride in omega (arith, e, s, t)
      where
        next : (m n : ℕ) → (m + 1) * n ≡ m * n + n
        next m n = grind arith

    one_more_room : (length old.corners.items < 16384) ⊎ (2 ^ 63 ≤ old.stride)
        → length new.corners.items ≡ length old.corners.items + 1
        → (length new.corners.items ≤ 16384) ⊎ (2 ^ 63 ≤ old.stride)
    one_more_room (inl h) e = inl (omega (arith, h, e))
    one_more_room (inr h) e = inr h

-- a sampler that isn't full has room
pub room_left : (all : List Position) (old : Sampler) → IsSampleOf all old → old.since ≤ 0
    → length old.corners.items < 16384 → HasRoom all old
room_left all old s none few = record {
  sampled = s.sampled;
  full = (let e = s.left_out in omega (arith, e, none));
  room = inl few;
}

-- a full sampler has room once each second corner is left out
pub room_made : (all : List Position) (old new : Sampler) → (2 ^ 63 ≤ old.stride) ⊎ (new.stride ≡ 2 * old.stride)
    → (2 ^ 63 ≤ old.stride) ⊎ IsFirstOfEach 2 old.corners.items new.corners.items → (2 ^ 63 ≤ old.stride → new ≡ old)
    → IsSampleOf all old → old.since ≤ 0 → 16384 ≤ length old.corners.items → HasRoom all new
room_made all old new double half same s none full =
    let left_out = s.left_out in
    by double half s.few (omega (arith, left_out, none))
  where
    big : 2 ^ 63 ≤ old.stride → length all ≡ length old.corners.items * old.stride → HasRoom all new
    big b e = subst (HasRoom all) (sym (same b)) (record { sampled = s.sampled; full = e; room = inr b })

    twice : (h n : ℕ) → (h * 2) * n ≡ h * (2 * n)
    twice h n = grind arith

    by : (2 ^ 63 ≤ old.stride) ⊎ (new.stride ≡ 2 * old.stride)
        → (2 ^ 63 ≤ old.stride) ⊎ IsFirstOfEach 2 old.corners.items new.corners.items
        → (length old.corners.items ≤ 16384) ⊎ (2 ^ 63 ≤ old.stride)
        → length all ≡ length old.corners.items * old.stride → HasRoom all new
    by (inl b) g f e = big b e
    by (inr d) (inl b) f e = big b e
    by (inr d) (inr g) (inr b) e = big b e
    by (inr d) (inr g) (inl f) e =
        let reach = g.reach in
        let none_more = g.none_more in
        let even : length old.corners.items ≡ length new.corners.items * 2 = omega (arith, f, full, reach, none_more) in
        record {
          sampled = thinned all old new (inr d) (inr g) same s.sampled;
          full = rw d (e ∙ ap (λ z. z * old.stride) even ∙ twice (length new.corners.items) old.stride);
          room = inl (omega (arith, f, full, reach, none_more));
        }

-- ---- rows

-- the corner of a row with an envelope in the column
pub row_corner : (column : ℕ) (row : List (Value Geometry)) (g : Geometry) (e : Envelope)
    → slice_get row column ≡ Some (value.Geometry g) → envelope g ≡ Some e
    → corner_in_row column row ≡ record { x = e.least_x; y = e.least_y } ∷ []
row_corner column row g e field found = ap corner_in_field field ∙ ap corner_of found

-- that corner is on the grid, if all corners of the row are
pub corner_on_grid : (column : ℕ) (row : List (Value Geometry)) (g : Geometry) (e : Envelope)
    → slice_get row column ≡ Some (value.Geometry g) → envelope g ≡ Some e
    → All IsOnGrid (corner_in_row column row) → IsOnGrid (record { x = e.least_x; y = e.least_y })
corner_on_grid column row g e field found on =
    All-head IsOnGrid (record { x = e.least_x; y = e.least_y }) []
    (subst (All IsOnGrid) (row_corner column row g e field found) on)
