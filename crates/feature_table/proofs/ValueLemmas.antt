-- The values that cells name: more texts and geometries behind the others leave them as they were.
use Rattle.std.proofs.Common.{◌≡◌, ◌∙◌, ◌*◌, ◌++◌, ◌∷◌, ◌<◌, ℕ, [], List, ap, ap₂, arith, drop, flat_map, length, length-append, map, refl, sym, take}
use Rattle.std.proofs.lemmas.List.{drop-map, map-append, take-map}
use Rattle.std.proofs.lemmas.List.Elements.{All-append, All-drop, All-head, All-nil, All-tail, All-take, All-weaker}
use Rattle.std.specs.List.{All}
use Rattle.basics.proofs.Lists.{in_front}
use Rattle.feature_table.specs.FlatRows.{row_at}
use Rattle.feature_table.specs.GeometryFields.{GeometryValue}
use Rattle.feature_table.specs.Values.{IsBehind, IsBacked, value_in, values_in}
use Rattle.feature_table.specs.declared.values.Cell.{Cell}
use Rattle.feature_table.specs.declared.values.Cell.TheVariants as cell
use Rattle.table_model.specs.declared.values.Value.{Value}

below_behind : {X : Type 0} (old new : List X) (k : ℕ) → IsBehind old new → k < length old → k < length new
below_behind old new k b h = let size = ap length b.1 ∙ length-append old b.0 in omega (arith, h, size)

-- a kept cell is kept, and names the value that it named
kept_more : (texts texts-2 : List (List ℕ)) (geometries geometries-2 : List GeometryValue) (c : Cell) → IsBehind texts texts-2 → IsBehind geometries geometries-2
    → IsBacked texts geometries c → IsBacked texts-2 geometries-2 c
kept_more texts texts-2 geometries geometries-2 cell.Null t g h = tt
kept_more texts texts-2 geometries geometries-2 (cell.Int n) t g h = tt
kept_more texts texts-2 geometries geometries-2 (cell.Text k) t g h = below_behind texts texts-2 k t h
kept_more texts texts-2 geometries geometries-2 (cell.Geom k) t g h = below_behind geometries geometries-2 k g h

value_more : (texts texts-2 : List (List ℕ)) (geometries geometries-2 : List GeometryValue) (c : Cell) → IsBehind texts texts-2 → IsBehind geometries geometries-2
    → IsBacked texts geometries c → value_in texts-2 geometries-2 c ≡ value_in texts geometries c
value_more texts texts-2 geometries geometries-2 cell.Null t g h = refl
value_more texts texts-2 geometries geometries-2 (cell.Int n) t g h = refl
value_more texts texts-2 geometries geometries-2 (cell.Text k) t g h = rw (t.1, in_front texts t.0 k h) refl
value_more texts texts-2 geometries geometries-2 (cell.Geom k) t g h = rw (g.1, in_front geometries g.0 k h) refl

-- so it is for each of several
pub all_kept : (texts texts-2 : List (List ℕ)) (geometries geometries-2 : List GeometryValue) (cells : List Cell) → IsBehind texts texts-2 → IsBehind geometries geometries-2
    → All (IsBacked texts geometries) cells → All (IsBacked texts-2 geometries-2) cells
all_kept texts texts-2 geometries geometries-2 cells t g h =
    All-weaker (IsBacked texts geometries) (IsBacked texts-2 geometries-2) (λ c kept. kept_more texts texts-2 geometries geometries-2 c t g kept) cells h

pub values_more : (texts texts-2 : List (List ℕ)) (geometries geometries-2 : List GeometryValue) (cells : List Cell) → IsBehind texts texts-2
    → IsBehind geometries geometries-2 → All (IsBacked texts geometries) cells → values_in texts-2 geometries-2 cells ≡ values_in texts geometries cells
values_more texts texts-2 geometries geometries-2 [] t g h = refl
values_more texts texts-2 geometries geometries-2 (c ∷ cells) t g h =
    ap₂ (λ (v : Value GeometryValue) (vs : List (Value GeometryValue)). v ∷ vs)
    (value_more texts texts-2 geometries geometries-2 c t g (All-head (IsBacked texts geometries) c cells h))
    (values_more texts texts-2 geometries geometries-2 cells t g (All-tail (IsBacked texts geometries) c cells h))

-- a cell that names a value, behind the others, is this value behind theirs
pub values_pushed : (texts texts-2 : List (List ℕ)) (geometries geometries-2 : List GeometryValue) (cells : List Cell) (c : Cell) (v : Value GeometryValue)
    → IsBehind texts texts-2 → IsBehind geometries geometries-2 → All (IsBacked texts geometries) cells → value_in texts-2 geometries-2 c ≡ v
    → values_in texts-2 geometries-2 (cells ++ c ∷ []) ≡ values_in texts geometries cells ++ v ∷ []
values_pushed texts texts-2 geometries geometries-2 cells c v t g h is =
    map-append (value_in texts-2 geometries-2) cells (c ∷ [])
    ∙ ap₂ (λ (vs : List (Value GeometryValue)) (x : Value GeometryValue). vs ++ x ∷ []) (values_more texts texts-2 geometries geometries-2 cells t g h) is

-- the values of the cells of a row are the row of the values
pub row_in_cells : {X Y : Type 0} (f : X → Y) (width place : ℕ) (cells : List X) → map f (row_at width cells place) ≡ row_at width (map f cells) place
row_in_cells f width place cells =
    sym (take-map f width (drop (place * width) cells)) ∙ ap (take width) (sym (drop-map f (place * width) cells))

-- so it is of the cells of several rows, joined
pub joined_in_cells : {X Y : Type 0} (f : X → Y) (width : ℕ) (cells : List X) (order : List ℕ)
    → map f (flat_map (row_at width cells) order) ≡ flat_map (row_at width (map f cells)) order
joined_in_cells f width cells [] = refl
joined_in_cells {Y = Y} f width cells (p ∷ ps) =
    map-append f (row_at width cells p) (flat_map (row_at width cells) ps)
    ∙ ap₂ (λ (r : List Y) (rs : List Y). r ++ rs) (row_in_cells f width p cells) (joined_in_cells f width cells ps)

-- and what is so of each cell is so of each of theirs
pub all_joined : {X : Type 0} (P : X → Type 0) (width : ℕ) (cells : List X) (order : List ℕ) → All P cells
    → All P (flat_map (row_at width cells) order)
all_joined P width cells [] h = All-nil P
all_joined P width cells (p ∷ ps) h =
    All-append P (row_at width cells p) (flat_map (row_at width cells) ps)
    (All-take P width (drop (p * width) cells) (All-drop P (p * width) cells h)) (all_joined P width cells ps h)
