-- The name of a list that is nearest to a word (how near is this project's choice).
use Rattle.std.specs.Prelude.{◌≡◌, ◌≤◌, ◌<◌, ◌+◌, ℕ, List, Option, None, Some, length, nat_eq, slice_get}
use Rattle.std.specs.Str.{str_to_ascii_lowercase}
use Rattle.strsim.specs.Edits.{levenshtein_row}
use denote.Ref.{Bor}

-- how many edits lead from a word to a name, in any ASCII case (Levenshtein's distance)
abbrev pub distance : List ℕ → List ℕ → ℕ
distance word name =
    levenshtein_row nat_eq (str_to_ascii_lowercase word) (str_to_ascii_lowercase name) (length (str_to_ascii_lowercase name))

-- the most bytes of a word that is compared
abbrev pub word_limit : ℕ
word_limit = 64

-- a name is near a word: at most two edits away, and no more than half of the word's bytes
pub record IsNear (word name : List ℕ) : Type 0 where
  pub most : distance word name ≤ 2
  pub half : distance word name + distance word name ≤ length word

-- the name at this place of a list is near the word, none of the list is nearer, and all before it are farther
pub record IsNearest (word : List ℕ) (names : List (Bor (List ℕ))) (place : ℕ) : Type 0 where
  pub name : Bor (List ℕ)
  pub there : slice_get names place ≡ Some name
  pub near : IsNear word name.now
  pub least : (k : ℕ) (other : Bor (List ℕ)) → slice_get names k ≡ Some other → distance word name.now ≤ distance word other.now
  pub first : (k : ℕ) (other : Bor (List ℕ)) → k < place → slice_get names k ≡ Some other → distance word name.now < distance word other.now

-- no name of a list is near the word
abbrev pub AreFar : List ℕ → List (Bor (List ℕ)) → Type 0
AreFar word names = (k : ℕ) (other : Bor (List ℕ)) → slice_get names k ≡ Some other → IsNear word other.now → ⊥

-- what is found: the place of the nearest name, where the word doesn't have too many bytes; or none, where it has, or no name is near
abbrev pub IsFound : List ℕ → List (Bor (List ℕ)) → Option ℕ → Type 0
IsFound word names (Some place) = (length word ≤ word_limit) × IsNearest word names place
IsFound word names None = length word ≤ word_limit → AreFar word names
