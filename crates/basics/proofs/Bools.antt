-- Tests joined by 'and' and 'or', beyond what std has.
use Rattle.std.proofs.Common.{◌≡◌, refl, sym, ◌∙◌, Bool, true, false, ◌&&◌, ◌||◌}
use Rattle.std.proofs.lemmas.Bool.{and_from, and_left, and_parts, and_right}

-- anything follows from false being true
pub never : {X : Type 0} → false ≡ true → X
never e = cc

-- a test isn't both true and false
pub not_both : (b : Bool) → b ≡ true → b ≡ false → ⊥
not_both b e f = never (sym f ∙ e)

-- a test that would make a false one true is false
pub by_contraries : (a b : Bool) → (a ≡ true → b ≡ true) → b ≡ false → a ≡ false
by_contraries true b f e = sym (f refl) ∙ e
by_contraries false b f e = refl

-- where two tests pass, the first does
pub and_first : (a b : Bool) → (a && b) ≡ true → a ≡ true
and_first a b h = (and_parts a b h).0

-- and so does the second
pub and_second : (a b : Bool) → (a && b) ≡ true → b ≡ true
and_second a b h = (and_parts a b h).1

-- of three tests the second fails
pub and_middle : (a b c : Bool) → b ≡ false → (a && b && c) ≡ false
and_middle a b c e = and_left (a && b) c (and_right a b e)

-- where four tests pass, each does
pub four_parts : (a b c d : Bool) → (a && b && c && d) ≡ true → (a ≡ true) × (b ≡ true) × (c ≡ true) × (d ≡ true)
four_parts a b c d h =
    let last = and_parts (a && b && c) d h in
    let third = and_parts (a && b) c last.0 in
    let first = and_parts a b third.0 in
    (first.0, first.1, third.1, last.1)

-- four tests pass where each does
pub four_from : (a b c d : Bool) → a ≡ true → b ≡ true → c ≡ true → d ≡ true → (a && b && c && d) ≡ true
four_from a b c d h k l m = and_from (a && b && c) d (and_from (a && b) c (and_from a b h k) l) m

-- a weaker second test of two
pub or_weaker : (a b c : Bool) → (b ≡ true → c ≡ true) → (a || b) ≡ true → (a || c) ≡ true
or_weaker true b c f h = refl
or_weaker false b c f h = f h
