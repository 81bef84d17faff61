-- Where no step of `clap` refuses the words, they have an order: a subcommand is there, it isn't `help`, and each of
-- its words has a value.
use Rattle.std.proofs.Common.{◌≡◌, Bool, true, false, not, ◌&&◌, ◌||◌, cond, codes, List, [], ◌∷◌, Option, Some, None, is_some, IsSome, refl, sym, subst, inl, inr, true≢false}
use Rattle.std.specs.Prelude.{⊤, find, fold}
use Rattle.std.specs.Option.{option_map_or}
use Rattle.std.specs.Str.{bytes_eq}
use Rattle.clap.specs.Facts.{explicit_source}
use Rattle.clap.specs.Faults.{check_fault, entered_fault, fault_of, level_fault, other_fault, step_fault, turn_fault, walk_fault, word_fault}
use Rattle.clap.specs.Kinds.{Kinds, check_kinds, or_else}
use Rattle.clap.specs.Lexer.{long_of, short_of}
use Rattle.std.specs.List.{list_all}
use Rattle.std.specs.Prelude.{option_map}
use Rattle.std.proofs.lemmas.Slice.Eq.{bytes_eq-Decides}
use Rattle.clap.specs.Simple.{Shape, argument_words, built, built_leaf, entered, help_shape, inherited, label_of, marked_built, names_of, rows_at, subcommand_of, with_leaf_noted}
use Rattle.clap.specs.Takes.{is_given}
use Rattle.clap.specs.Walk.{Held, Names, Outcome, done, waits, plain, refused, Row, Rule, Step, next, trailing, subcommand, value, Text, Waiting, idle, option, positional, Walk}
use Rattle.clap.specs.Walk.{after_flag, after_step, answers_to, arg_by_index, finished, first_of, long_or_other, nothing_held, plain_word, rows_after, short_or_plain, subcommand_met, subcommand_or_other, to_positional, walk, walk_from, walked, walked_from, word_met}
use Rattle.clap.specs.declared.error.kind.ErrorKind.TheVariants.{DisplayHelp, InvalidSubcommand}
use Rattle.command_line.specs.CommandWords.{check, fault, pairs, relate, run, sfq, why}
use Rattle.command_line.specs.Orders.{HasCheckWords, HasFaultWords, HasPairsWords, HasRelateWords, HasRunWords, HasWhyWords, HasWords}
use Rattle.command_line.proofs.FilledRows.{first-filled, is_placed_or_worded, rows-filled}

-- no kind comes of either step
halves : (a b : Kinds) → or_else a b ≡ [] → (a ≡ []) × (b ≡ [])
halves [] b e = (refl, e)
halves (k ∷ ks) b e = cc

-- ---- the walk over the words of `sfq` doesn't stop at `help`

abbrev NoHelp : Option (Text × List Text) → Type 0
NoHelp None = ⊤
NoHelp (Some p) = bytes_eq p.0 (codes "help") ≡ false

abbrev StepNoHelp : Step → Type 0
StepNoHelp (subcommand name) = bytes_eq name (codes "help") ≡ false
StepNoHelp _ = ⊤

module _ (c : List Rule) where
  plain-step : (waiting : Waiting) (word : Text) (h : Held) → StepNoHelp (plain_word c waiting word h).1
  plain-step idle word h = tt
  plain-step (option id) word h = tt
  plain-step positional word h = tt

  flag-step : (waiting : Waiting) (word : Text) (h : Held) (outcome : Outcome) → StepNoHelp (after_flag c waiting word h outcome).1
  flag-step waiting word h done = tt
  flag-step waiting word h (waits id) = tt
  flag-step waiting word h plain = plain-step waiting word h
  flag-step waiting word h refused = plain-step waiting word h

  short-step : (waiting : Waiting) (word : Text) (o : Option Text) (h : Held) → StepNoHelp (short_or_plain c waiting word o h).1
  short-step waiting word None h = plain-step waiting word h
  short-step waiting word (Some text) h = flag-step waiting word _ _

  long-step : (waiting : Waiting) (word : Text) (o : Option (Text × Option Text)) (h : Held) → StepNoHelp (long_or_other c waiting word o h).1
  long-step waiting word None h = short-step waiting word (short_of word) h
  long-step waiting word (Some p) h = flag-step waiting word _ _

  placed-stop : (found : Option Rule) (word : Text) (w : Walk) (h : Held) → NoHelp w.stopped → NoHelp (to_positional c found word w h).stopped
  placed-stop None word w h none = none
  placed-stop (Some a) word w h none = tt

  step-stop : (word : Text) (w : Walk) (h : Held) (step : Step) → StepNoHelp step → NoHelp w.stopped → NoHelp (after_step c word w h step).stopped
  step-stop word w h (next waiting) fine none = none
  step-stop word w h (trailing position) fine none = none
  step-stop word w h (subcommand name) fine none = fine
  step-stop word w h value fine none = placed-stop (arg_by_index c w.position) word w h none

module _ (s : Shape) (names : Names) (helps : s.disable_help_subcommand ≡ false) where
  named-step : (o : Option Text) (waiting : Waiting) (position : _) (word : Text) (h : Held) → other_fault s o word h ≡ []
      → StepNoHelp (subcommand_or_other s.rules o waiting position word h).1
  named-step (Some name) waiting position word h passed = go (bytes_eq name (codes "help")) s.disable_help_subcommand helps passed
    where
      go : (help disabled : Bool) → disabled ≡ false → cond (help && not disabled) (DisplayHelp ∷ InvalidSubcommand ∷ []) [] ≡ [] → help ≡ false
      go false disabled isnt passed = refl
      go true true isnt passed = absurd (true≢false isnt)
      go true false isnt passed = cc
  named-step None waiting position word h passed = go (bytes_eq word (45 ∷ 45 ∷ []))
    where
      go : (b : Bool) → StepNoHelp (cond b (h, trailing position) (long_or_other s.rules waiting word (long_of word) h)).1
      go true = tt
      go false = long-step s.rules waiting word (long_of word) h

  word-step : (is_trailing : Bool) (waiting : Waiting) (position : _) (word : Text) (h : Held) → word_fault s names is_trailing waiting word h ≡ []
      → StepNoHelp (word_met s.rules names is_trailing waiting position word h).1
  word-step true waiting position word h passed = tt
  word-step false waiting position word h passed = named-step (subcommand_met names waiting word) waiting position word h passed

  turn-stop : (stopped : Option (Text × List Text)) (w : Walk) (word : Text) → stopped ≡ w.stopped → turn_fault s names w word ≡ [] → NoHelp w.stopped
      → NoHelp (walked_from s.rules names stopped w word).stopped
  turn-stop (Some p) w word is passed none = subst NoHelp (sym is) none
  turn-stop None w word is passed none =
      let met = word_met s.rules names w.is_trailing w.waiting w.position word w.held in
      let open_fault : or_else (word_fault s names w.is_trailing w.waiting word w.held) (step_fault s w.position met.0 met.1) ≡ [] =
      rw (← is) at passed in
      step-stop s.rules word w met.0 met.1 (word-step w.is_trailing w.waiting w.position word w.held (halves _ _ open_fault).0) none

  walk-stop : (words : List Text) (w : Walk) → walk_fault s names w words ≡ [] → NoHelp w.stopped → NoHelp (fold (walked s.rules names) w words).stopped
  unfolding walked walk_fault
  walk-stop [] w passed none = none
  walk-stop (word ∷ rest) w passed none =
      let parts = halves (turn_fault s names w word) _ passed in
      walk-stop rest (walked s.rules names w word) parts.1 (turn-stop w.stopped w word refl parts.0 none)

-- ---- what a level that passes has

-- the steps of a level
level-parts : (s : Shape) (names : Names) (h : Held) (words : List Text) (has : Bool) (below : Kinds) → level_fault s names h words has below ≡ []
    → (walk_fault s names (walk_from h) words ≡ []) × (below ≡ []) × (check_fault s (finished s.rules (walk s.rules names h words).held) has ≡ [])
level-parts s names h words has below passed =
    let first = halves _ _ passed in
    let second = halves _ _ first.1 in
    let third = halves _ _ second.1 in
    let fourth = halves _ _ third.1 in
    (first.0, second.0, fourth.1)

-- an id that is given has a row
given-found : (id : Text) (rows : List Row) → is_given id rows ≡ true → is_some (find (λ r. bytes_eq r.id id) rows) ≡ true
given-found id rows e = go (find (λ r. bytes_eq r.id id) rows) e
  where
    go : (o : Option Row) → option_map_or (λ (r : Row). explicit_source r.source) o false ≡ true → is_some o ≡ true
    go None e = absurd (true≢false (sym e))
    go (Some r) e = refl

-- ---- the subcommands of `sfq`

abbrev above : Shape
above = with_leaf_noted (marked_built sfq.top)

abbrev run_shape : Shape
run_shape = built_leaf (inherited above run.top)

abbrev check_shape : Shape
check_shape = built_leaf (inherited above check.top)

abbrev relate_shape : Shape
relate_shape = built_leaf (inherited above relate.top)

abbrev why_shape : Shape
why_shape = built_leaf (inherited above why.top)

abbrev pairs_shape : Shape
pairs_shape = built_leaf (inherited above pairs.top)

abbrev fault_shape : Shape
fault_shape = built_leaf (inherited above fault.top)

abbrev help_leaf : Shape
help_leaf = built_leaf (inherited above help_shape)

-- a word that is required has a value in the rows of a level that passes
word-there : (c : List Rule) (words : List Text) (id : Text) → list_all is_placed_or_worded c ≡ true → is_given id (rows_after c [] words) ≡ true
    → IsSome (first_of id (rows_after c [] words))
word-there c words id flags given = first-filled id (rows_after c [] words) (rows-filled c flags [] words) (given-found id (rows_after c [] words) given)

-- the check of required words passes only where each of them is given: for each subcommand
run-checked : (rows : List Row) → check_fault run_shape rows false ≡ []
    → (is_given (codes "schema") rows ≡ true) × (is_given (codes "directory") rows ≡ true) × (is_given (codes "query") rows ≡ true)
run-checked rows passed = go (is_given (codes "schema") rows) (is_given (codes "directory") rows) (is_given (codes "query") rows) passed
  where
    go : (a b c : Bool) → check_kinds false false (not a || (not b || (not c || false))) ≡ [] → (a ≡ true) × (b ≡ true) × (c ≡ true)
    go true true true e = (refl, refl, refl)
    go true true false e = cc
    go true false c e = cc
    go false b c e = cc

check-checked : (rows : List Row) → check_fault check_shape rows false ≡ [] → (is_given (codes "schema") rows ≡ true) × (is_given (codes "directory") rows ≡ true)
check-checked rows passed = go (is_given (codes "schema") rows) (is_given (codes "directory") rows) passed
  where
    go : (a b : Bool) → check_kinds false false (not a || (not b || false)) ≡ [] → (a ≡ true) × (b ≡ true)
    go true true e = (refl, refl)
    go true false e = cc
    go false b e = cc

relate-checked : (rows : List Row) → check_fault relate_shape rows false ≡ [] → (is_given (codes "first") rows ≡ true) × (is_given (codes "second") rows ≡ true)
relate-checked rows passed = go (is_given (codes "first") rows) (is_given (codes "second") rows) passed
  where
    go : (a b : Bool) → check_kinds false false (not a || (not b || false)) ≡ [] → (a ≡ true) × (b ≡ true)
    go true true e = (refl, refl)
    go true false e = cc
    go false b e = cc

-- of which `why` and `pairs` have one
one-checked : (id : Text) (rows : List Row) → check_kinds false false (not (is_given id rows) || false) ≡ [] → is_given id rows ≡ true
one-checked id rows passed = go (is_given id rows) passed
  where
    go : (a : Bool) → check_kinds false false (not a || false) ≡ [] → a ≡ true
    go true e = refl
    go false e = cc

-- so where the level of a subcommand passes, its words are there
run-words : (words : List Text) → level_fault run_shape [] nothing_held words false [] ≡ [] → HasRunWords (rows_after run_shape.rules [] words)
run-words words passed =
    let given = run-checked (rows_after run_shape.rules [] words) (level-parts run_shape [] nothing_held words false [] passed).2 in (
      word-there run_shape.rules words (codes "schema") refl given.0,
      word-there run_shape.rules words (codes "directory") refl given.1,
      word-there run_shape.rules words (codes "query") refl given.2,
    )

check-words : (words : List Text) → level_fault check_shape [] nothing_held words false [] ≡ [] → HasCheckWords (rows_after check_shape.rules [] words)
check-words words passed =
    let given = check-checked (rows_after check_shape.rules [] words) (level-parts check_shape [] nothing_held words false [] passed).2 in (
      word-there check_shape.rules words (codes "schema") refl given.0,
      word-there check_shape.rules words (codes "directory") refl given.1,
    )

relate-words : (words : List Text) → level_fault relate_shape [] nothing_held words false [] ≡ [] → HasRelateWords (rows_after relate_shape.rules [] words)
relate-words words passed =
    let given = relate-checked (rows_after relate_shape.rules [] words) (level-parts relate_shape [] nothing_held words false [] passed).2 in (
      word-there relate_shape.rules words (codes "first") refl given.0,
      word-there relate_shape.rules words (codes "second") refl given.1,
    )

why-words : (words : List Text) → level_fault why_shape [] nothing_held words false [] ≡ [] → HasWhyWords (rows_after why_shape.rules [] words)
why-words words passed =
    word-there why_shape.rules words (codes "first") refl
    (one-checked (codes "first") (rows_after why_shape.rules [] words) (level-parts why_shape [] nothing_held words false [] passed).2)

pairs-words : (words : List Text) → level_fault pairs_shape [] nothing_held words false [] ≡ [] → HasPairsWords (rows_after pairs_shape.rules [] words)
pairs-words words passed =
    word-there pairs_shape.rules words (codes "file") refl
    (one-checked (codes "file") (rows_after pairs_shape.rules [] words) (level-parts pairs_shape [] nothing_held words false [] passed).2)

fault-words : (words : List Text) → level_fault fault_shape [] nothing_held words false [] ≡ [] → HasFaultWords (rows_after fault_shape.rules [] words)
fault-words words passed = tt

-- the subcommand, where the word is `run`, `check`, `relate`, `why`, `pairs`, `fault` or `help`
abbrev found : Bool → Bool → Bool → Bool → Bool → Bool → Bool → Option Shape
found r k l w p f h = cond r (Some run_shape) (cond k (Some check_shape) (cond l (Some relate_shape) (cond w (Some why_shape)
    (cond p (Some pairs_shape) (cond f (Some fault_shape) (cond h (Some help_leaf) None))))))

-- a word that `help` answers to is `help`
help-named : (word : Text) → bytes_eq word (codes "help") ≡ false → answers_to word (label_of help_leaf) ≡ false
help-named word other = go (bytes_eq (codes "help") word) refl
  where
    go : (b : Bool) → bytes_eq (codes "help") word ≡ b → (b || false) ≡ false
    go false is = refl
    go true is =
        let same : codes "help" ≡ word = (bytes_eq-Decides (codes "help") word).0 is in
        let here : bytes_eq (codes "help") (codes "help") ≡ false = subst (λ (w : Text). bytes_eq w (codes "help") ≡ false) (sym same) other in
        absurd (true≢false here)

-- a level below that was entered and passes isn't `help` and has its words,
-- since the walk doesn't stop at `help`
entered-words : (stop : Option (Text × List Text)) → NoHelp stop → entered_fault (built sfq) stop ≡ [] → is_some (entered (built sfq) stop) ≡ true
    → HasWords (entered (built sfq) stop)
entered-words None no_help passed has = absurd (true≢false (sym has))
entered-words (Some p) no_help passed has =
    go (answers_to p.0 (label_of run_shape)) (answers_to p.0 (label_of check_shape)) (answers_to p.0 (label_of relate_shape)) (answers_to p.0 (label_of why_shape))
    (answers_to p.0 (label_of pairs_shape)) (answers_to p.0 (label_of fault_shape)) (answers_to p.0 (label_of help_leaf)) (help-named p.0 no_help) passed has
  where
    go : (r k l w q f h : Bool) → h ≡ false → option_map_or (λ (s : Shape). level_fault s [] nothing_held p.1 false []) (found r k l w q f h) [] ≡ []
        → is_some (option_map (λ (s : Shape). rows_at s p.1) (found r k l w q f h)) ≡ true → HasWords (option_map (λ (s : Shape). rows_at s p.1) (found r k l w q f h))
    go true k l w q f h isnt passed has = inl (rows_after run_shape.rules [] p.1, refl, run-words p.1 passed)
    go false true l w q f h isnt passed has = inr (inl (rows_after check_shape.rules [] p.1, refl, check-words p.1 passed))
    go false false true w q f h isnt passed has = inr (inr (inl (rows_after relate_shape.rules [] p.1, refl, relate-words p.1 passed)))
    go false false false true q f h isnt passed has = inr (inr (inr (inl (rows_after why_shape.rules [] p.1, refl, why-words p.1 passed))))
    go false false false false true f h isnt passed has = inr (inr (inr (inr (inl (rows_after pairs_shape.rules [] p.1, refl, pairs-words p.1 passed)))))
    go false false false false false true h isnt passed has = inr (inr (inr (inr (inr (rows_after fault_shape.rules [] p.1, refl, fault-words p.1 passed)))))
    go false false false false false false true isnt passed has = absurd (true≢false isnt)
    go false false false false false false false isnt passed has = absurd (true≢false (sym has))

-- where a subcommand is wanted, one of the last checks refuses, and none asks for arguments
wanted-refused : (wants_help : Bool) → check_kinds wants_help true true ≡ [] → false ≡ true
wanted-refused true passed = cc
wanted-refused false passed = cc

-- a subcommand has to be there
top-checked : (rows : List Row) (has : Bool) → check_fault (built sfq).top rows has ≡ [] → has ≡ true
top-checked rows true passed = refl
top-checked rows false passed = wanted-refused _ passed

-- the words have an order where no step refuses them
pub has-order : (words : List Text) → fault_of sfq words ≡ [] → HasWords (subcommand_of sfq words)
has-order words passed =
    let a = built sfq in
    let given = argument_words sfq words in
    let end = walk a.top.rules (names_of a) nothing_held given in
    let parts = level-parts a.top (names_of a) nothing_held given (is_some (entered a end.stopped)) (entered_fault a end.stopped) passed in
    entered-words end.stopped (walk-stop a.top (names_of a) refl given (walk_from nothing_held) parts.0 tt) parts.1
    (top-checked (finished a.top.rules end.held) (is_some (entered a end.stopped)) parts.2)
