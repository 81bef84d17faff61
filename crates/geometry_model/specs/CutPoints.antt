-- The points at which the edges of two geometries are cut: their ends, listed positions and crossings.
use Rattle.std.specs.Prelude.{◌≡◌, Bool, true, false, ◌&&◌, ◌||◌, List, [], ◌∷◌, ◌++◌, map, flat_map, Contains, if◌then◌else◌, pos, ◌-ℤ◌, ◌*ℤ◌, int_lt}
use Rattle.std.specs.declared.cmp.Ordering.{Ordering}
use Rattle.std.specs.declared.cmp.Ordering.TheVariants.{Less, Equal, Greater}
use Rattle.geometry_model.specs.Points.{Position, Point, IsPoint, point_at, same_point, compare, least_form}
use Rattle.geometry_model.specs.Geometries.{Edge}
use Rattle.geometry_model.specs.Sides.{side, on, on_one_line}

-- the point is an end of the edge (06-103r4, 6.1.6.1)
abbrev pub is_end : Edge → Point → Bool
is_end e p = same_point (point_at e.start) p || same_point (point_at e.end) p

-- a cut of edges and listed positions: a point that is an end of an edge, a listed position, or shared by two edges not on one line; the ends of a stretch that two edges share are ends of edges
pub data IsCut (es : List Edge) (ps : List Position) (p : Point) : Type 0 where
  AtEnd : IsPoint p → (e : Edge) → Contains es e → is_end e p ≡ true → IsCut es ps p
  Listed : IsPoint p → (a : Position) → Contains ps a → same_point (point_at a) p ≡ true → IsCut es ps p
  AtCrossing : IsPoint p → (e f : Edge) → Contains es e → Contains es f → on_one_line e f ≡ false → on e p ≡ true → on f p ≡ true → IsCut es ps p

-- the same point, as a triple whose W is at least 0
abbrev pub turned_up : Point → Point
turned_up p =
    if int_lt p.W (pos 0) then record { X = pos 0 -ℤ p.X; Y = pos 0 -ℤ p.Y; W = pos 0 -ℤ p.W }
    else p

-- the point at which the line of f meets that of e, by the sides of f's ends of e; W is 0 where they are parallel
abbrev pub meeting_point : Edge → Edge → Point
meeting_point e f =
    let s = side e.start e.end (point_at f.start) in
    let t = side e.start e.end (point_at f.end) in
    turned_up record {
      X = s *ℤ f.end.x -ℤ t *ℤ f.start.x;
      Y = s *ℤ f.end.y -ℤ t *ℤ f.start.y;
      W = s -ℤ t;
    }

-- the point, if its W is at least 1 and both edges go through it
abbrev pub if_on_both : Edge → Edge → Point → List Point
if_on_both e f p =
    if int_lt (pos 0) p.W && on e p && on f p then p ∷ []
    else []

-- the point that two edges not on one line share, in least form
abbrev pub crossings : Edge → Edge → List Point
crossings e f = if_on_both e f (least_form (meeting_point e f))

-- x before y, left out because it equals y, or after y: `behind` is the rest with x in its place
abbrev pub placed : {A : Type 0} → Ordering → A → A → List A → List A → List A
placed Less x y rest behind = x ∷ y ∷ rest
placed Equal x y rest behind = y ∷ rest
placed Greater x y rest behind = y ∷ behind

-- an ascending list with x in its place
abbrev pub with_value : {A : Type 0} → (A → A → Ordering) → A → List A → List A
with_value order x [] = x ∷ []
with_value order x (y ∷ rest) = placed (order x y) x y rest (with_value order x rest)

-- the values in ascending order, each once
abbrev pub ascending : {A : Type 0} → (A → A → Ordering) → List A → List A
ascending order [] = []
ascending order (x ∷ rest) = with_value order x (ascending order rest)

-- the ends of an edge, as points (06-103r4, 6.1.6.1)
abbrev pub end_points : Edge → List Point
end_points e = point_at e.start ∷ point_at e.end ∷ []

-- all cuts of edges and listed positions, ascending, each once, in least form
abbrev pub cut_points : List Edge → List Position → List Point
cut_points es ps =
    ascending compare (flat_map end_points es ++ map point_at ps ++ flat_map (λ e. flat_map (crossings e) es) es)
