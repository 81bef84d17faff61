-- What a run's bounds and ends show of a point.
use Rattle.std.proofs.Common.{ℕ, ◌+◌, ◌<◌, length, take, get_or, ℤ, ◌*ℤ◌, ◌≤ℤ◌, ◌<ℤ◌, int_lt, int_le, ◌≡◌, ◌⊎◌, inl, inr, Bool, true, false, ◌||◌, sym, ap₂, ◌∙◌, List, [], ◌∷◌, ◌++◌, arith}
use borrow.Author.Differences.{ints}
use Rattle.std.specs.List.{AllByRecursion}
use Rattle.std.proofs.lemmas.List.{take_more}
use Rattle.std.proofs.lemmas.Bool.{or_cases}
use Rattle.geometry_model.specs.Points.{Point}
use Rattle.geometry_model.specs.Geometries.{Edge}
use Rattle.geometry_model.specs.Sides.{on}
use Rattle.geometry_model.specs.Crossings.{exactly_one as xor, spans, strictly_above, at_or_above}
use Rattle.geometry_laws.proofs.Each.{Each, each_map, none_passes, parity, parity_none, same_parity, odd_count}
use Rattle.basics.proofs.Signs.{less_from, at_most_no}
use Rattle.edge_boxes.specs.EdgeRuns.{LiesIn, Telescopes, SumsUp}
use Rattle.edge_boxes.specs.BoxCells.{IsFloor, IsCeiling, IsCellOf}
use Rattle.edge_boxes.specs.EdgeCrossings.{AreCrossings}
use Rattle.edge_boxes.specs.declared.point_crossings.Crossings.{Crossings}
use Rattle.edge_boxes.specs.declared.cells.Cell.{Cell}
use Rattle.edge_boxes.specs.declared.kept_runs.Run.{Run}
use Rattle.edge_boxes.proofs.EdgeSides.{IsOff, IsOver, off_left, off_right, off_below, is_over}

pub each_of : (P Q : Edge → Type 0) (es : List Edge) → ((e : Edge) → P e → Q e) → AllByRecursion P es → Each Q es
each_of P Q [] f h = tt
each_of P Q (e ∷ es) f h = (f e h.0, each_of P Q es f h.1)

-- ---- a number beyond a floor or a ceiling
-- a number at most one that is below the ceiling is less than the coordinate
past_ceiling : (n w c g a : ℤ) → IsCeiling n w c → int_lt g c ≡ true → a ≤ℤ g → int_le n (a *ℤ w) ≡ false
past_ceiling n w c g a is far h = is a ∙ at_most_no c a (beyond (less_from g c far))
  where
    beyond : g <ℤ c → a <ℤ c
    beyond l = omega (arith, ints)

-- a number at least one that is above the floor is more than the coordinate
past_floor : (n w f l a : ℤ) → IsFloor n w f → int_lt f l ≡ true → l ≤ℤ a → int_le (a *ℤ w) n ≡ false
past_floor n w f l a is far h = is a ∙ at_most_no a f (beyond (less_from f l far))
  where
    beyond : f <ℤ l → f <ℤ a
    beyond k = omega (arith, ints)

-- ---- edges that add nothing, edges that are over the point
-- edges that neither hold the point nor are counted above it show nothing of it
pub none_found : (es : List Edge) (p : Point) → Each (IsOff p) es → AreCrossings (record { on = false; odd_above = false; odd_at_or_above = false }) es p
none_found es p h = record {
  on = sym (none_passes (λ e. on e p) es (each_map (IsOff p) (λ e. on e p ≡ false) es (λ e o. o.on) h));
  above = sym (odd_count (λ e. strictly_above e p) es ∙ parity_none (λ e. strictly_above e p) es (each_map (IsOff p) (λ e. strictly_above e p ≡ false) es (λ e o. o.above) h));
  at_or_above = sym (odd_count (λ e. at_or_above e p) es ∙ parity_none (λ e. at_or_above e p) es (each_map (IsOff p) (λ e. at_or_above e p ≡ false) es (λ e o. o.at_or_above) h));
}

-- of edges all over the point those counted above it are those that span it, so their parity is decided by the first and the last x
pub spanning_found : (es : List Edge) (p : Point) (first last : ℤ) (b : Bool) → Each (IsOver p) es → Telescopes es first last → b ≡ xor (int_le (first *ℤ p.W) p.X) (int_le (last *ℤ p.W) p.X)
    → AreCrossings (record { on = false; odd_above = b; odd_at_or_above = b }) es p
spanning_found es p first last b h t e =
    let all : b ≡ parity (λ f. spans f p) es = e ∙ sym (t p) ∙ odd_count (λ f. spans f p) es in
    record {
      on = sym (none_passes (λ f. on f p) es (each_map (IsOver p) (λ f. on f p ≡ false) es (λ f o. o.on) h));
      above = all ∙ sym (odd_count (λ f. strictly_above f p) es ∙ same_parity (λ f. strictly_above f p) (λ f. spans f p) es (each_map (IsOver p) (λ f. strictly_above f p ≡ spans f p) es (λ f o. o.above) h));
      at_or_above = all ∙ sym (odd_count (λ f. at_or_above f p) es ∙ same_parity (λ f. at_or_above f p) (λ f. spans f p) es (each_map (IsOver p) (λ f. at_or_above f p ≡ spans f p) es (λ f o. o.at_or_above) h));
    }

-- a run wholly left or right of the point, or below it
pub apart_says : (run : Run) (cell : Cell) (p : Point) (es : List Edge) → IsCellOf cell p → SumsUp run es
    → (int_lt run.bounds.greatest_x cell.ceiling_x || int_lt cell.floor_x run.bounds.least_x || int_lt run.bounds.greatest_y cell.ceiling_y) ≡ true
    → AreCrossings (record { on = false; odd_above = false; odd_at_or_above = false }) es p
apart_says run cell p es is sums far = none_found es p (each_of (LiesIn run.bounds) (IsOff p) es off sums.lies)
  where
    left : int_lt run.bounds.greatest_x cell.ceiling_x ≡ true → (e : Edge) → LiesIn run.bounds e → IsOff p e
    left h e l = off_left e p (past_ceiling p.X p.W cell.ceiling_x run.bounds.greatest_x e.start.x is.ceiling_x h l.start.right) (past_ceiling p.X p.W cell.ceiling_x run.bounds.greatest_x e.end.x is.ceiling_x h l.end.right)

    right : int_lt cell.floor_x run.bounds.least_x ≡ true → (e : Edge) → LiesIn run.bounds e → IsOff p e
    right h e l = off_right e p (past_floor p.X p.W cell.floor_x run.bounds.least_x e.start.x is.floor_x h l.start.left) (past_floor p.X p.W cell.floor_x run.bounds.least_x e.end.x is.floor_x h l.end.left)

    below : int_lt run.bounds.greatest_y cell.ceiling_y ≡ true → (e : Edge) → LiesIn run.bounds e → IsOff p e
    below h e l = off_below e p is.positive (past_ceiling p.Y p.W cell.ceiling_y run.bounds.greatest_y e.start.y is.ceiling_y h l.start.high) (past_ceiling p.Y p.W cell.ceiling_y run.bounds.greatest_y e.end.y is.ceiling_y h l.end.high)

    sideways : (int_lt run.bounds.greatest_x cell.ceiling_x ≡ true) ⊎ (int_lt cell.floor_x run.bounds.least_x ≡ true) → (e : Edge) → LiesIn run.bounds e → IsOff p e
    sideways (inl h) = left h
    sideways (inr h) = right h

    any : ((int_lt run.bounds.greatest_x cell.ceiling_x || int_lt cell.floor_x run.bounds.least_x) ≡ true) ⊎ (int_lt run.bounds.greatest_y cell.ceiling_y ≡ true) → (e : Edge) → LiesIn run.bounds e → IsOff p e
    any (inl h) = sideways (or_cases (int_lt run.bounds.greatest_x cell.ceiling_x) (int_lt cell.floor_x run.bounds.least_x) h)
    any (inr h) = below h

    off : (e : Edge) → LiesIn run.bounds e → IsOff p e
    off = any (or_cases (int_lt run.bounds.greatest_x cell.ceiling_x || int_lt cell.floor_x run.bounds.least_x) (int_lt run.bounds.greatest_y cell.ceiling_y) far)

-- a chain wholly above the point
pub over_says : (run : Run) (cell : Cell) (p : Point) (es : List Edge) → IsCellOf cell p → SumsUp run es
    → int_lt cell.floor_y run.bounds.least_y ≡ true → run.ends.is_chain ≡ true → (b : Bool) → b ≡ xor (int_le run.ends.first_x cell.floor_x) (int_le run.ends.last_x cell.floor_x)
    → AreCrossings (record { on = false; odd_above = b; odd_at_or_above = b }) es p
over_says run cell p es is sums far chain b e = spanning_found es p run.ends.first_x run.ends.last_x b (each_of (LiesIn run.bounds) (IsOver p) es over sums.lies) (sums.ends chain)
    (e ∙ sym (ap₂ xor (is.floor_x run.ends.first_x) (is.floor_x run.ends.last_x)))
  where
    over : (f : Edge) → LiesIn run.bounds f → IsOver p f
    over f l = is_over f p is.positive (past_floor p.Y p.W cell.floor_y run.bounds.least_y f.start.y is.floor_y far l.start.low) (past_floor p.Y p.W cell.floor_y run.bounds.least_y f.end.y is.floor_y far l.end.low)

-- ---- two lists, one behind the other

-- one edge more
pub one_more : (c : Crossings) (es : List Edge) (i : ℕ) (e : Edge) (p : Point) → i < length es → e ≡ get_or es i e → AreCrossings c (take i es ++ e ∷ []) p → AreCrossings c (take (i + 1) es) p
one_more c es i e p within is h = rw (take_more es i e within, ← is) h
