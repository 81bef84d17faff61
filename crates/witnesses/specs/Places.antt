-- Where a ring clashes with itself, and where two rings meet.
use Rattle.std.specs.Prelude.{◌≡◌, ℕ, ◌<◌, Bool, not, ◌&&◌, ◌||◌, List, length, Some, slice_get}
use Rattle.geometry_model.specs.Points.{Position}
use Rattle.geometry_model.specs.Geometries.{Edge, edges_of_line}
use Rattle.geometry_model.specs.Validity.{SharePoint, Clash}
use Rattle.noding.specs.Meetings.{IsMeeting}
use Rattle.witnesses.specs.declared.shared.SharedPlace.{SharedPlace}

-- the place: two edges i < j of the ring that clash, and exactly what they share (06-103r4, 6.1.6.1: simple; 6.1.15.2: intersection)
pub record IsClashOf (ring : List Position) (place : SharedPlace) : Type 0 where
  pub i : ℕ
  pub j : ℕ
  pub later : i < j
  pub first : slice_get (edges_of_line ring) i ≡ Some place.first
  pub second : slice_get (edges_of_line ring) j ≡ Some place.second
  pub clash : Clash (length (edges_of_line ring)) i j place.first place.second
  pub exact : IsMeeting place.first place.second place.meet

-- the place: an edge of the one ring and one of the other that share a point, and exactly what they share (06-103r4, 6.1.11.1 and 6.1.15.2: intersection)
pub record IsMeetingOf (r s : List Position) (place : SharedPlace) : Type 0 where
  pub i : ℕ
  pub j : ℕ
  pub first : slice_get (edges_of_line r) i ≡ Some place.first
  pub second : slice_get (edges_of_line s) j ≡ Some place.second
  pub share : SharePoint place.first place.second
  pub exact : IsMeeting place.first place.second place.meet

-- a later edge clashes with the edge of this number
pub record ClashesWith (ring : List Position) (i : ℕ) : Type 0 where
  pub j : ℕ
  pub e : Edge
  pub f : Edge
  pub later : i < j
  pub first : slice_get (edges_of_line ring) i ≡ Some e
  pub second : slice_get (edges_of_line ring) j ≡ Some f
  pub clash : Clash (length (edges_of_line ring)) i j e f

-- the place: the edge of this number and the first later edge that clashes with it
pub record IsFirstClashWith (ring : List Position) (i : ℕ) (place : SharedPlace) : Type 0 where
  pub j : ℕ
  pub later : i < j
  pub first : slice_get (edges_of_line ring) i ≡ Some place.first
  pub second : slice_get (edges_of_line ring) j ≡ Some place.second
  pub clash : Clash (length (edges_of_line ring)) i j place.first place.second
  pub none_before : (other : ClashesWith ring i) → other.j < j → ⊥

-- the place: the first edge that clashes with a later one, and the first later edge that it clashes with
pub record IsFirstClash (ring : List Position) (place : SharedPlace) : Type 0 where
  pub i : ℕ
  pub with : IsFirstClashWith ring i place
  pub none_before : (k : ℕ) → k < i → ClashesWith ring k → ⊥

-- an edge of the second ring shares a point with the edge of this number of the first
pub record MeetsWith (r s : List Position) (i : ℕ) : Type 0 where
  pub j : ℕ
  pub e : Edge
  pub f : Edge
  pub first : slice_get (edges_of_line r) i ≡ Some e
  pub second : slice_get (edges_of_line s) j ≡ Some f
  pub share : SharePoint e f

-- the place: the edge of this number of the first ring and the first edge of the second that shares a point with it
pub record IsFirstMeetingWith (r s : List Position) (i : ℕ) (place : SharedPlace) : Type 0 where
  pub j : ℕ
  pub first : slice_get (edges_of_line r) i ≡ Some place.first
  pub second : slice_get (edges_of_line s) j ≡ Some place.second
  pub share : SharePoint place.first place.second
  pub none_before : (other : MeetsWith r s i) → other.j < j → ⊥

-- the place: the first edge of the first ring that shares a point with the second ring, and the first edge of that with which it does
pub record IsFirstMeeting (r s : List Position) (place : SharedPlace) : Type 0 where
  pub i : ℕ
  pub with : IsFirstMeetingWith r s i place
  pub none_before : (k : ℕ) → k < i → MeetsWith r s k → ⊥

-- edges of a ring clash: neighbours, if they share a point other than their common position, others, if they share any
abbrev pub clash_by : Bool → Bool → Bool → Bool → Bool → Bool
clash_by follows closes not_end not_start any = (follows && not_end) || (closes && not_start) || (not follows && not closes && any)
