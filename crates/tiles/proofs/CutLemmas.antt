-- That boxes cut the grid.
use Rattle.std.proofs.Common.{◌≡◌, ◌∙◌, ◌+◌, ◌-◌, ◌<◌, ◌≤◌, ℕ, zero, suc, true, cond, List, [], ◌∷◌, length, get_or, ℤ, pos, negsuc, Some, refl, sym, ap, arith}
use Rattle.std.specs.Prelude.{int_le, unsigned_abs, slice_get, option_map}
use Rattle.std.proofs.lemmas.Option.{slice_get-map, slice_get-get_or}
use Rattle.std.proofs.lemmas.Int.{ints}
use Rattle.std.proofs.lemmas.Bool.{and_from}
use Rattle.geometry_model.specs.Points.{Position}
use Rattle.geometry_model.specs.Envelopes.{Envelope}
use Rattle.fraction.specs.Ranges.{IsOnGrid}
use Rattle.table_laws.specs.Cells.{CutsGrid, is_within, cells_of}
use Rattle.tiles.specs.Cuts.{LiesWithin}
use Rattle.tiles.specs.Lines.{IsInGrid, times_within, whole}

above : (z : ℤ) → unsigned_abs z ≤ 10000000 → int_le (negsuc 9999999) z ≡ true
above (pos n) h = grind (arith, ints)
above (negsuc n) h = grind (arith, ints)

under : (z : ℤ) → unsigned_abs z ≤ 10000000 → int_le z (pos 10000000) ≡ true
under (pos n) h = grind (arith, ints)
under (negsuc n) h = grind (arith, ints)

-- the box of the whole grid holds each of its positions
within : (p : Position) → IsOnGrid p → is_within whole p ≡ true
within p h = and_from _ _ (and_from _ _ (and_from _ _ (above p.x h.x) (under p.x h.x)) (above p.y h.y)) (under p.y h.y)

-- what holds positions as often as the whole grid does cuts it
pub cuts_grid : (boxes : List Envelope) → ((p : Position) → times_within p boxes ≡ times_within p [] + times_within p (whole ∷ [])) → CutsGrid boxes
cuts_grid boxes h p on = h p ∙ ap (λ b. 0 + (0 + cond b 1 0)) (within p on) ∙ refl

-- the cell of a number is the box at the place before it
pub box_numbered : (boxes : List Envelope) (number : ℕ) (box : Envelope) → 0 < number → number ≤ length boxes
    → box ≡ get_or boxes (number - 1) box → slice_get (cells_of boxes) number ≡ Some (Some box)
box_numbered boxes zero box some in_range is = absurd (omega arith)
box_numbered boxes (suc n) box some in_range is =
    let back : suc n - 1 ≡ n = omega arith in
    let at : box ≡ get_or boxes n box = is ∙ ap (λ k. get_or boxes k box) back in
    slice_get-map Some boxes n ∙ ap (option_map Some) (slice_get-get_or boxes n box (omega arith)) ∙ ap (λ b. Some (Some b)) (sym at)

-- the box of the whole grid is within it, and holds what a sample has of it
pub whole_in_grid : IsInGrid whole
whole_in_grid = (record { x = omega arith; y = omega arith }, record { x = omega arith; y = omega arith })

pub all_within : (sample : List Position) → LiesWithin sample whole
all_within sample k d l on = within (get_or sample k d) on
