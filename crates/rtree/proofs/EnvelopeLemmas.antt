-- The parts of an envelope, put together.
use Rattle.std.proofs.Common.{◌≡◌, Bool, ℤ, ◌∙◌, ap}
use Rattle.std.specs.Prelude.{◌&&◌, int_le}
use Rattle.std.specs.Int.{int_min, int_max}
use Rattle.geometry_model.specs.Envelopes.{Envelope, joined, overlap}

-- the bounds of both
pub as_joined : (r e f : Envelope) (lx lx2 gx gx2 ly ly2 gy gy2 a b c d : ℤ)
    → lx ≡ e.least_x → lx2 ≡ f.least_x → gx ≡ e.greatest_x → gx2 ≡ f.greatest_x → ly ≡ e.least_y → ly2 ≡ f.least_y → gy ≡ e.greatest_y → gy2 ≡ f.greatest_y
    → a ≡ int_min lx lx2 → b ≡ int_max gx gx2 → c ≡ int_min ly ly2 → d ≡ int_max gy gy2
    → r ≡ record { least_x = a; greatest_x = b; least_y = c; greatest_y = d } → r ≡ joined e f
as_joined r e f lx lx2 gx gx2 ly ly2 gy gy2 a b c d h h2 h3 h4 h5 h6 h7 h8 is_a is_b is_c is_d is =
    let first : a ≡ int_min e.least_x f.least_x = cc in
    let second : b ≡ int_max e.greatest_x f.greatest_x = cc in
    let third : c ≡ int_min e.least_y f.least_y = cc in
    let fourth : d ≡ int_max e.greatest_y f.greatest_y = cc in
    is ∙ ap (λ z. record { least_x = z; greatest_x = b; least_y = c; greatest_y = d }) first
    ∙ ap (λ z. record { least_x = int_min e.least_x f.least_x; greatest_x = z; least_y = c; greatest_y = d }) second
    ∙ ap (λ z. record { least_x = int_min e.least_x f.least_x; greatest_x = int_max e.greatest_x f.greatest_x; least_y = z; greatest_y = d }) third
    ∙ ap (λ z. record { least_x = int_min e.least_x f.least_x; greatest_x = int_max e.greatest_x f.greatest_x; least_y = int_min e.least_y f.least_y; greatest_y = z }) fourth

-- the four comparisons of an overlap
pub as_overlap : (e f : Envelope) (lx gx lx2 gx2 ly gy ly2 gy2 : ℤ) (p q r : Bool)
    → lx ≡ e.least_x → gx ≡ f.greatest_x → lx2 ≡ f.least_x → gx2 ≡ e.greatest_x → ly ≡ e.least_y → gy ≡ f.greatest_y → ly2 ≡ f.least_y → gy2 ≡ e.greatest_y
    → p ≡ (int_le lx gx && int_le lx2 gx2) → q ≡ (p && int_le ly gy) → r ≡ (q && int_le ly2 gy2) → r ≡ overlap e f
as_overlap e f lx gx lx2 gx2 ly gy ly2 gy2 p q r h h2 h3 h4 h5 h6 h7 h8 is_p is_q is_r =
    is_r ∙ ap (λ z. z && int_le ly2 gy2) (is_q ∙ ap (λ z. z && int_le ly gy) is_p)
    ∙ ap (λ z. int_le z gx && int_le lx2 gx2 && int_le ly gy && int_le ly2 gy2) h
    ∙ ap (λ z. int_le e.least_x z && int_le lx2 gx2 && int_le ly gy && int_le ly2 gy2) h2
    ∙ ap (λ z. int_le e.least_x f.greatest_x && int_le z gx2 && int_le ly gy && int_le ly2 gy2) h3
    ∙ ap (λ z. int_le e.least_x f.greatest_x && int_le f.least_x z && int_le ly gy && int_le ly2 gy2) h4
    ∙ ap (λ z. int_le e.least_x f.greatest_x && int_le f.least_x e.greatest_x && int_le z gy && int_le ly2 gy2) h5
    ∙ ap (λ z. int_le e.least_x f.greatest_x && int_le f.least_x e.greatest_x && int_le e.least_y z && int_le ly2 gy2) h6
    ∙ ap (λ z. int_le e.least_x f.greatest_x && int_le f.least_x e.greatest_x && int_le e.least_y f.greatest_y && int_le z gy2) h7
    ∙ ap (λ z. int_le e.least_x f.greatest_x && int_le f.least_x e.greatest_x && int_le e.least_y f.greatest_y && int_le f.least_y z) h8
