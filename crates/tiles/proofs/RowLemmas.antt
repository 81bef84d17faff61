-- What the cells of a cut get of a record.
use Rattle.std.proofs.Common.{◌≡◌, ◌==◌, ◌+◌, ◌++◌, ◌<◌, ◌≤◌, ℕ, Bool, true, false, if◌then◌else◌, List, [], ◌∷◌, length, map, option_map, unwrap_or, slice_get, Option, Some, None, append-nil, arith, refl, ap, subst, sym, ◌∙◌}
use Rattle.std.specs.List.{All, count_by, flat_map}
use Rattle.std.proofs.lemmas.List.Sums.{length-filter}
use Rattle.geometry_model.specs.Envelopes.{Envelope, meets}
use Rattle.rtree.specs.Found.{meeting_places}
use Rattle.table_model.specs.Loading.{Record}
use Rattle.table_laws.specs.Cells.{Cell, cells_of}
use Rattle.tiles.specs.Copies.{meets_cell}
use Rattle.tiles.specs.RecordLines.{envelope_row, line_of, mark_fields, marked_line}
use Rattle.tiles.specs.Texts.{gets_of}
use Rattle.tiles.proofs.PlaceLemmas.{found_once, passes_at, within}

-- the lines of one number, or of none
line_if : (line : ℕ → List ℕ) (k : ℕ) (b : Bool) → flat_map line (if b then k ∷ [] else []) ≡ (if b then line k else [])
line_if line k true = append-nil (line k)
line_if line k false = refl

-- the cells that meet an envelope get its row, and the others nothing
pub met_get_row : (boxes : List Envelope) (e : Option Envelope) (copied : Record) (k : ℕ)
    → gets_of (marked_line boxes e copied) (meeting_places (cells_of boxes) e) k ≡ envelope_row boxes e copied k
met_get_row boxes e copied k =
    ap (flat_map (marked_line boxes e copied)) (found_once (λ (c : Cell). meets c e) 0 k k (cells_of boxes) refl_sum)
    ∙ line_if (marked_line boxes e copied) k (passes_at (λ (c : Cell). meets c e) (cells_of boxes) k)
    ∙ at (slice_get (cells_of boxes) k)
  where
    refl_sum : 0 + k ≡ k
    refl_sum = omega arith

    at : (o : Option Cell) → (if unwrap_or (option_map (λ (c : Cell). meets c e) o) false then line_of (copied ++ mark_fields (unwrap_or o None) e) else [])
        ≡ unwrap_or (option_map (λ (cell : Cell). if meets cell e then line_of (copied ++ mark_fields cell e) else []) o) []
    at None = refl
    at (Some c) = refl

-- there are as many cells of boxes as boxes
boxes_stay : (boxes : List Envelope) → length (map Some boxes) ≡ length boxes
boxes_stay [] = refl
boxes_stay (box ∷ boxes) = let more = boxes_stay boxes in omega (arith, more)

-- the numbers of the cells that meet an envelope are those of cells
pub met_are_cells : (boxes : List Envelope) (e : Option Envelope) → All (λ number. number < length boxes + 1) (meeting_places (cells_of boxes) e)
met_are_cells boxes e = within (λ (c : Cell). meets c e) 0 (length boxes + 1) (cells_of boxes) size
  where
    size : 0 + length (cells_of boxes) ≡ length boxes + 1
    size = let l = boxes_stay boxes in omega (arith, l)

-- nothing, whatever the cell is
nothing : (none : List ℕ) (o : Option Cell) → none ≡ unwrap_or (option_map (λ (cell : Cell). none) o) none
nothing none None = refl
nothing none (Some c) = refl

-- how often the number of a cell is among those that meet an envelope
pub met_count : (boxes : List Envelope) (e : Option Envelope) (k : ℕ) → count_by (λ n. n == k) (meeting_places (cells_of boxes) e) ≡ (if meets_cell boxes e k then 1 else 0)
met_count boxes e k =
    sym (length-filter (λ n. n == k) (meeting_places (cells_of boxes) e))
    ∙ ap length (found_once (λ (c : Cell). meets c e) 0 k k (cells_of boxes) refl_sum)
    ∙ one (meets_cell boxes e k)
  where
    refl_sum : 0 + k ≡ k
    refl_sum = omega arith

    one : (b : Bool) → length (if b then k ∷ [] else []) ≡ (if b then 1 else 0)
    one true = refl
    one false = refl

-- at most once
pub met_few : (boxes : List Envelope) (e : Option Envelope) (k : ℕ) → count_by (λ n. n == k) (meeting_places (cells_of boxes) e) ≤ 1
met_few boxes e k = subst (λ (n : ℕ). n ≤ 1) (sym (met_count boxes e k)) (one (meets_cell boxes e k))
  where
    one : (b : Bool) → (if b then 1 else 0) ≤ 1
    one true = omega arith
    one false = omega arith
