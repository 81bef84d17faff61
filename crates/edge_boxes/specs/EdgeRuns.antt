-- What is kept of a run of consecutive edges, and when it holds of them.
use Rattle.std.specs.Prelude.{◌≡◌, true, List, ℤ, ◌*ℤ◌, ◌≤ℤ◌, int_le, count_by, IfSome}
use Rattle.std.specs.List.{AllByRecursion}
use Rattle.geometry_model.specs.Points.{Position, Point}
use Rattle.geometry_model.specs.Geometries.{Edge}
use Rattle.geometry_model.specs.Crossings.{exactly_one, spans, odd}
use Rattle.geometry_model.specs.Envelopes.{Envelope}
use Rattle.edge_boxes.specs.Strips.{IsStripOf}
use Rattle.edge_boxes.specs.declared.kept_runs.Ends.{Ends}
use Rattle.edge_boxes.specs.declared.kept_runs.Run.{Run}

-- the position lies within the bounds, their sides counted (06-103r4, 6.1.2.2: Envelope)
pub record IsWithin (b : Envelope) (a : Position) : Type 0 where
  pub left : b.least_x ≤ℤ a.x
  pub right : a.x ≤ℤ b.greatest_x
  pub low : b.least_y ≤ℤ a.y
  pub high : a.y ≤ℤ b.greatest_y

-- the edge lies within the bounds
pub record LiesIn (b : Envelope) (e : Edge) : Type 0 where
  pub start : IsWithin b e.start
  pub end : IsWithin b e.end

-- an odd number of the edges span a point exactly if just one of the first x and the last x is at most the point's
abbrev pub Telescopes : List Edge → ℤ → ℤ → Type 0
Telescopes es first last = (p : Point) → odd (count_by (λ e. spans e p) es) ≡ exactly_one (int_le (first *ℤ p.W) p.X) (int_le (last *ℤ p.W) p.X)

-- the ends are those of the edges, where they are a chain
abbrev pub SumsUpEnds : Ends → List Edge → Type 0
SumsUpEnds ends es = ends.is_chain ≡ true → Telescopes es ends.first_x ends.last_x

-- what is kept of a run holds of the edges
pub record SumsUp (r : Run) (es : List Edge) : Type 0 where
  pub lies : AllByRecursion (LiesIn r.bounds) es
  pub ends : SumsUpEnds r.ends es
  pub strip : IfSome r.strip (λ s. IsStripOf s es)
