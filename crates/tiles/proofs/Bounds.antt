-- The bounds of boxes, and of the two parts of one.
use Rattle.std.proofs.Common.{◌≡◌, ◌∙◌, ◌+◌, ◌⊎◌, inl, inr, ℕ, Bool, true, false, cond, [], ◌∷◌, ℤ, pos, ◌-ℤ◌, ◌≤ℤ◌, ◌<ℤ◌, Option, Some, refl, sym, ap, arith}
use Rattle.std.specs.Prelude.{◌&&◌, int_le, int_lt}
use Rattle.std.specs.Int.{int_min, int_max}
use Rattle.std.proofs.lemmas.Int.{ints}
use Rattle.std.proofs.lemmas.Bool.{cases_Bool, cond-false}
use Rattle.basics.proofs.Signs.{less_no}
use Rattle.geometry_model.specs.Points.{Position}
use Rattle.geometry_model.specs.Envelopes.{Envelope, envelope_of_positions}
use Rattle.tiles.specs.Lines.{PassesThrough, Parts, low_part, high_part, times_within}
use Rattle.tiles.specs.declared.lines.Line.{Line}
use Rattle.tiles.specs.declared.lines.Axis.{Axis}
use Rattle.tiles.specs.declared.lines.Axis.TheVariants.{X, Y}

lesser : (x y : ℤ) → x ≤ℤ y → int_min x y ≡ x
lesser x y h = cond-false (int_lt y x) y x (less_no y x h)

greater : (x y : ℤ) → x ≤ℤ y → int_max x y ≡ y
greater x y h = cond-false (int_lt y x) x y (less_no y x h)

-- the envelope of two corners in order is the box between them
pub as_spanned : (o : Option Envelope) (e : Envelope) (a b : Position) (lx gx ly gy : ℤ)
    → o ≡ envelope_of_positions (a ∷ b ∷ []) → o ≡ Some e → a ≡ record { x = lx; y = ly } → b ≡ record { x = gx; y = gy } → lx ≤ℤ gx → ly ≤ℤ gy
    → e ≡ record { least_x = lx; greatest_x = gx; least_y = ly; greatest_y = gy }
as_spanned o e a b lx gx ly gy is is_e is_a is_b across up = one_of e (record { least_x = lx; greatest_x = gx; least_y = ly; greatest_y = gy }) (sym is_e ∙ whole)
  where
    one_of : (e f : Envelope) → Some e ≡ Some f → e ≡ f
    one_of e f h = cc

    whole : o ≡ Some (record { least_x = lx; greatest_x = gx; least_y = ly; greatest_y = gy })
    whole = is ∙ ap (λ p. envelope_of_positions (p ∷ b ∷ [])) is_a
        ∙ ap (λ q. envelope_of_positions (record { x = lx; y = ly } ∷ q ∷ [])) is_b
        ∙ ap (λ z. Some (record { least_x = z; greatest_x = int_max lx gx; least_y = int_min ly gy; greatest_y = int_max ly gy })) (lesser lx gx across)
        ∙ ap (λ z. Some (record { least_x = lx; greatest_x = z; least_y = int_min ly gy; greatest_y = int_max ly gy })) (greater lx gx across)
        ∙ ap (λ z. Some (record { least_x = lx; greatest_x = gx; least_y = z; greatest_y = int_max ly gy })) (lesser ly gy up)
        ∙ ap (λ z. Some (record { least_x = lx; greatest_x = gx; least_y = ly; greatest_y = z })) (greater ly gy up)

-- how often a test is passed
abbrev once : Bool → ℕ
once b = cond b 1 0

-- a position is on exactly one side of a line
sides : (l at g p : ℤ) → l <ℤ at → at ≤ℤ g
    → ((int_le p (at -ℤ pos 1) ≡ true) × (int_le at p ≡ false) × (int_le p g ≡ true))
    ⊎ ((int_le p (at -ℤ pos 1) ≡ false) × (int_le at p ≡ true) × (int_le l p ≡ true))
sides l at g p low high = elim (cases_Bool (int_le at p)) [
  | inl h ↦ inr (grind (arith, ints), h, grind (arith, ints))
  | inr h ↦ inl (grind (arith, ints), h, grind (arith, ints))
]

cut_once : (l g lowest upmost c d : Bool)
    → ((lowest ≡ true) × (upmost ≡ false) × (g ≡ true)) ⊎ ((lowest ≡ false) × (upmost ≡ true) × (l ≡ true))
    → once (l && lowest && c && d) + once (upmost && g && c && d) ≡ once (l && g && c && d)
cut_once l g lowest upmost c d (inl (a, b, e)) = rw (a, b, e) (one (l && true && c && d))
  where
    one : (t : Bool) → once t + 0 ≡ once t
    one t = omega arith
cut_once l g lowest upmost c d (inr (a, b, e)) = rw (a, b, e) (omega arith)

cut_once_up : (a b l g lowest upmost : Bool)
    → ((lowest ≡ true) × (upmost ≡ false) × (g ≡ true)) ⊎ ((lowest ≡ false) × (upmost ≡ true) × (l ≡ true))
    → once (a && b && l && lowest) + once (a && b && upmost && g) ≡ once (a && b && l && g)
cut_once_up false b l g lowest upmost h = refl
cut_once_up true false l g lowest upmost h = refl
cut_once_up true true l g lowest upmost (inl (a, b, e)) = rw (a, b, e) (omega arith)
cut_once_up true true l g lowest upmost (inr (a, b, e)) = rw (a, b, e) (omega arith)

-- the two parts of a box hold a position as often as it does
both_sides : (axis : Axis) (at : ℤ) (box : Envelope) (p : Position) → PassesThrough axis at box
    → times_within p (low_part axis at box ∷ high_part axis at box ∷ []) ≡ times_within p (box ∷ [])
both_sides X at box p h =
    let one = cut_once (int_le box.least_x p.x) (int_le p.x box.greatest_x) (int_le p.x (at -ℤ pos 1)) (int_le at p.x) (int_le box.least_y p.y) (int_le p.y box.greatest_y) (sides box.least_x at box.greatest_x p.x h.0 h.1) in
    omega (arith, one)
both_sides Y at box p h =
    let one = cut_once_up (int_le box.least_x p.x) (int_le p.x box.greatest_x) (int_le box.least_y p.y) (int_le p.y box.greatest_y) (int_le p.y (at -ℤ pos 1)) (int_le at p.y) (sides box.least_y at box.greatest_y p.y h.0 h.1) in
    omega (arith, one)

pub parts_once : (line : Line) (box low high : Envelope) → Parts line box low high → (p : Position)
    → times_within p (low ∷ high ∷ []) ≡ times_within p (box ∷ [])
parts_once line box low high h p = ap (λ b. times_within p (b ∷ high ∷ [])) h.low_is
    ∙ ap (λ b. times_within p (low_part line.axis line.at box ∷ b ∷ [])) h.high_is
    ∙ both_sides line.axis line.at box p h.passes

-- a line across the x axis makes two parts
pub parts_x : (line : Line) (box low high : Envelope) (lx gx ly gy : ℤ)
    → line.axis ≡ X → lx ≡ box.least_x → gx ≡ box.greatest_x → ly ≡ box.least_y → gy ≡ box.greatest_y
    → PassesThrough line.axis line.at box
    → low ≡ record { least_x = lx; greatest_x = line.at -ℤ pos 1; least_y = ly; greatest_y = gy }
    → high ≡ record { least_x = line.at; greatest_x = gx; least_y = ly; greatest_y = gy }
    → Parts line box low high
parts_x line box low high lx gx ly gy axis is_lx is_gx is_ly is_gy passes is_low is_high = record {
  passes = passes;
  low_is = is_low ∙ ap (λ z. record { least_x = z; greatest_x = line.at -ℤ pos 1; least_y = ly; greatest_y = gy }) is_lx
      ∙ ap (λ z. record { least_x = box.least_x; greatest_x = line.at -ℤ pos 1; least_y = z; greatest_y = gy }) is_ly
      ∙ ap (λ z. record { least_x = box.least_x; greatest_x = line.at -ℤ pos 1; least_y = box.least_y; greatest_y = z }) is_gy
      ∙ ap (λ a. low_part a line.at box) (sym axis);
  high_is = is_high ∙ ap (λ z. record { least_x = line.at; greatest_x = z; least_y = ly; greatest_y = gy }) is_gx
      ∙ ap (λ z. record { least_x = line.at; greatest_x = box.greatest_x; least_y = z; greatest_y = gy }) is_ly
      ∙ ap (λ z. record { least_x = line.at; greatest_x = box.greatest_x; least_y = box.least_y; greatest_y = z }) is_gy
      ∙ ap (λ a. high_part a line.at box) (sym axis);
}

-- a line across the y axis makes two parts
pub parts_y : (line : Line) (box low high : Envelope) (lx gx ly gy : ℤ)
    → line.axis ≡ Y → lx ≡ box.least_x → gx ≡ box.greatest_x → ly ≡ box.least_y → gy ≡ box.greatest_y
    → PassesThrough line.axis line.at box
    → low ≡ record { least_x = lx; greatest_x = gx; least_y = ly; greatest_y = line.at -ℤ pos 1 }
    → high ≡ record { least_x = lx; greatest_x = gx; least_y = line.at; greatest_y = gy }
    → Parts line box low high
parts_y line box low high lx gx ly gy axis is_lx is_gx is_ly is_gy passes is_low is_high = record {
  passes = passes;
  low_is = is_low ∙ ap (λ z. record { least_x = z; greatest_x = gx; least_y = ly; greatest_y = line.at -ℤ pos 1 }) is_lx
      ∙ ap (λ z. record { least_x = box.least_x; greatest_x = z; least_y = ly; greatest_y = line.at -ℤ pos 1 }) is_gx
      ∙ ap (λ z. record { least_x = box.least_x; greatest_x = box.greatest_x; least_y = z; greatest_y = line.at -ℤ pos 1 }) is_ly
      ∙ ap (λ a. low_part a line.at box) (sym axis);
  high_is = is_high ∙ ap (λ z. record { least_x = z; greatest_x = gx; least_y = line.at; greatest_y = gy }) is_lx
      ∙ ap (λ z. record { least_x = box.least_x; greatest_x = z; least_y = line.at; greatest_y = gy }) is_gx
      ∙ ap (λ z. record { least_x = box.least_x; greatest_x = box.greatest_x; least_y = line.at; greatest_y = z }) is_gy
      ∙ ap (λ a. high_part a line.at box) (sym axis);
}
