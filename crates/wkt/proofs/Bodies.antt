-- What comes after a type's name, after its word EMPTY was looked for; and lists, one item after another.
use Rattle.std.proofs.Common.{◌≡◌, refl, sym, ap, subst, ◌∙◌, ℕ, zero, suc, ◌==◌, Bool, true, false, if◌then◌else◌, List, [], ◌∷◌, ◌++◌, length, take, codes, Result, Ok, Err, append_assoc}
use Rattle.std.specs.Char.{is_ascii_alphabetic}
use Rattle.std.specs.List.{prefix_len}
use Rattle.std.specs.Str.{str_eq_ignore_ascii_case}
use Rattle.geometry_model.specs.TextReading.{Input, Reader, ◌>>=◌, and_then, pure, refuse, after, eat, enclosed, padded, body, separated}
use Rattle.geometry_model.specs.WellKnownText.{is_white}
use Rattle.geometry_model.specs.declared.text_faults.TextFault.{TextFault}
use Rattle.wkt.specs.ReadingSteps as steps
use Rattle.wkt.specs.ReadingSteps.{empty_word}

-- whether EMPTY, a list in parentheses or a refusal comes can be said in two steps: the word first, then the list
choices : {A : Type 0} (inner : Reader (List A)) (at : ℕ) (k : Input) (none empty : Bool)
    → (if none then enclosed inner else (if empty then pure [] else refuse at)) k
    ≡ and_then ((if none then pure false else (if empty then pure true else refuse at)) k) (λ empty. if empty then pure [] else enclosed inner)
choices inner at k true empty = refl
choices inner at k false true = refl
choices inner at k false false = refl

-- a body by its word EMPTY
pub body_by_empty_word : {A : Type 0} (inner : Reader (List A)) (i : Input) → body inner i ≡ steps.body inner i
unfolding body empty_word
body_by_empty_word inner i =
    let j = after (prefix_len is_white i.left) i in
    let n = prefix_len is_ascii_alphabetic j.left in
    let word = take n j.left in
    choices inner j.at (after n j) (length word == 0) (str_eq_ignore_ascii_case word (codes "EMPTY"))

-- what was read before, and then what an outcome read
abbrev pub behind : {A : Type 0} → List A → Result (List A × Input) TextFault → Result (List A × Input) TextFault
behind before (Ok found) = Ok (before ++ found.0, found.1)
behind before (Err fault) = Err fault

abbrev pub goes_on : {A : Type 0} → (ℕ → Reader A) → ℕ → A → Reader (List A)
goes_on item room x = do
  more ← eat 44
  if more then (separated item room >>= λ xs. pure (x ∷ xs)) else pure (x ∷ [])

-- one item of a list
one_item : {A : Type 0} (item : ℕ → Reader A) (room : ℕ) (i : Input)
    → separated item (suc room) i ≡ and_then (padded (item (suc room)) i) (goes_on item room)
unfolding separated
one_item item room i = refl

-- the fault of an item is the list's
pub item_fails : {A : Type 0} (item : ℕ → Reader A) (room : ℕ) (i : Input) (fault : TextFault)
    → padded (item room) i ≡ Err fault → separated item room i ≡ Err fault
unfolding separated
item_fails item zero i fault failed = ap (λ r. and_then r (λ x. pure (x ∷ []))) failed
item_fails item (suc room) i fault failed = ap (λ r. and_then r (goes_on item room)) failed

-- an item ahead of others goes to what was read before
behind_more : {A : Type 0} (before : List A) (x : A) (r : Result (List A × Input) TextFault)
    → behind before (and_then r (λ xs. pure (x ∷ xs))) ≡ behind (before ++ x ∷ []) r
behind_more before x (Ok found) = ap (λ l. Ok (l, found.1)) (sym (append_assoc before (x ∷ []) found.0))
behind_more before x (Err fault) = refl

-- an item, with a comma behind it or not
next_item : {A : Type 0} (item : ℕ → Reader A) (before : List A) (room : ℕ) (i j k : Input) (x : A) (more : Bool)
    → padded (item (suc room)) i ≡ Ok (x, j) → eat 44 j ≡ Ok (more, k)
    → behind before (separated item (suc room) i) ≡ behind before ((if more then (separated item room >>= λ xs. pure (x ∷ xs)) else pure (x ∷ [])) k)
next_item item before room i j k x more read comma =
    ap (behind before) (one_item item room i)
    ∙ ap (λ r. behind before (and_then r (goes_on item room))) read
    ∙ ap (λ r. behind before (and_then r (λ more. if more then (separated item room >>= λ xs. pure (x ∷ xs)) else pure (x ∷ [])))) comma

-- one item further
pub item_and_more : {A : Type 0} (item : ℕ → Reader A) (before : List A) (room left : ℕ) (i j k : Input) (x : A) → room ≡ suc left
    → padded (item room) i ≡ Ok (x, j) → eat 44 j ≡ Ok (true, k)
    → behind before (separated item room i) ≡ behind (before ++ x ∷ []) (separated item left k)
item_and_more item before room left i j k x is read comma =
    ap (λ n. behind before (separated item n i)) is
    ∙ next_item item before left i j k x true (subst (λ n. padded (item n) i ≡ Ok (x, j)) is read) comma
    ∙ behind_more before x (separated item left k)

-- the last item
pub last_item : {A : Type 0} (item : ℕ → Reader A) (before : List A) (room left : ℕ) (i j k : Input) (x : A) → room ≡ suc left
    → padded (item room) i ≡ Ok (x, j) → eat 44 j ≡ Ok (false, k)
    → behind before (separated item room i) ≡ Ok (before ++ x ∷ [], k)
last_item item before room left i j k x is read comma =
    ap (λ n. behind before (separated item n i)) is
    ∙ next_item item before left i j k x false (subst (λ n. padded (item n) i ≡ Ok (x, j)) is read) comma
