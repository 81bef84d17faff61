-- Where each flag of a command asks for help or has a word that stands for it, each row of its matches has a value.
use Rattle.std.proofs.Common.{◌≡◌, ℕ, zero, suc, Bool, true, false, not, ◌&&◌, ◌||◌, cond, List, [], ◌∷◌, ◌++◌, length, drop, Option, Some, None, is_some, IsSome, refl, sym, true≢false}
use Rattle.std.specs.Prelude.{⊤, encode_utf8, find, fold, slice_get}
use Rattle.std.specs.List.{list_all}
use Rattle.std.specs.Option.{option_and_then}
use Rattle.std.specs.Str.{bytes_eq, chars}
use Rattle.clap.specs.Lexer.{long_of, short_of}
use Rattle.clap.specs.Walk.{Held, Names, Outcome, done, waits, plain, refused, Row, Rule, Step, next, trailing, subcommand, value, Text, Waiting, idle, option, positional, Walk}
use Rattle.clap.specs.Walk.{action_of, after_flag, after_step, arg_by_id, arg_by_index, arg_by_long, arg_by_short, at_row, attached_value, bundle_met, bundle_step, default_rows, first_of, has_long, has_row, has_short}
use Rattle.clap.specs.Walk.{flag_met, is_pending, long_met, long_or_other, more_values, nothing_held, option_met, option_word, plain_word, pushed, reacted, reading_by, rows_after, settled, settled_rows, short_met, short_or_plain, started, subcommand_met, subcommand_or_other, takes_several, takes_values, to_positional, used, used_as, used_by_id, walk, walk_from, walked, walked_from, with_default, with_values, without, word_met}
use Rattle.clap.specs.declared.builder.action.ArgAction.{ArgAction}
use Rattle.clap.specs.declared.builder.action.ArgAction.TheVariants as action
use Rattle.clap.specs.declared.builder.value_parser.Reading.{Reading}
use Rattle.clap.specs.declared.parser.matches.ValueSource.{ValueSource}
use Rattle.clap.specs.declared.parser.matches.ValueSource.TheVariants.{CommandLine, DefaultValue}

-- a list of texts that isn't empty
abbrev HasText : List Text → Type 0
HasText texts = is_some (slice_get texts 0) ≡ true

-- each row has a value
abbrev pub Filled : List Row → Type 0
Filled [] = ⊤
Filled (r ∷ rs) = HasText r.values × Filled rs

abbrev PendingFilled : Option (Text × List Text) → Type 0
PendingFilled None = ⊤
PendingFilled (Some p) = HasText p.1

-- each row has a value, and what is pending has one too
abbrev pub HeldFilled : Held → Type 0
HeldFilled h = Filled h.rows × PendingFilled h.pending

-- ---- rows

-- values with more behind them
more-text : (xs ys : List Text) → HasText xs → HasText (xs ++ ys)
more-text [] ys h = absurd (true≢false (sym h))
more-text (x ∷ xs) ys h = refl

last-text : (xs : List Text) (y : Text) → HasText (xs ++ y ∷ [])
last-text [] y = refl
last-text (x ∷ xs) y = refl

-- rows with values, and more of them behind
joined : (xs ys : List Row) → Filled xs → Filled ys → Filled (xs ++ ys)
joined [] ys hx hy = hy
joined (x ∷ xs) ys hx hy = (hx.0, joined xs ys hx.1 hy)

-- each row has a value where the row of an id is changed into rows with values, or such rows are put where it has none
changed : (id : Text) (change : Row → List Row) (missing rows : List Row) → Filled missing → ((r : Row) → HasText r.values → Filled (change r))
    → Filled rows → Filled (at_row id change missing rows)
changed id change missing [] none each h = none
changed id change missing (r ∷ rs) none each h = go (bytes_eq r.id id) (changed id change missing rs none each h.1)
  where
    go : (b : Bool) → Filled (at_row id change missing rs) → Filled (cond b (change r ++ rs) (r ∷ at_row id change missing rs))
    go true rest = joined (change r) rs (each r h.0) h.1
    go false rest = (h.0, rest)

-- and where the row of an id is taken away
removed : (id : Text) (rows : List Row) → Filled rows → Filled (without id rows)
removed id rows h = changed id (λ _. []) [] rows tt (λ r _. tt) h

-- and where an id is given a value
valued : (id : Text) (how : Reading) (s : ValueSource) (v : Text) (vs : List Text) (rows : List Row) → Filled rows → Filled (with_values id how s (v ∷ vs) rows)
valued id how s v vs rows h = changed id (more_values s (v ∷ vs)) _ rows (refl, tt) (λ r has. (more-text r.values (v ∷ vs) has, tt)) h

-- a use with a value
used-filled : (act : ArgAction) (id : Text) (how : Reading) (v : Text) (vs : List Text) (rows : List Row) → Filled rows → Filled (used_as act id how (v ∷ vs) rows)
used-filled action.Set id how v vs rows h = valued id how CommandLine v vs (without id rows) (removed id rows h)
used-filled action.SetTrue id how v vs rows h = valued id how CommandLine v vs (without id rows) (removed id rows h)
used-filled action.SetFalse id how v vs rows h = valued id how CommandLine v vs (without id rows) (removed id rows h)
used-filled action.Append id how v vs rows h = valued id how CommandLine v vs rows h
used-filled action.Count id how v vs rows h = valued id how CommandLine v vs (without id rows) (removed id rows h)
used-filled action.Help id how v vs rows h = h
used-filled action.HelpShort id how v vs rows h = h
used-filled action.HelpLong id how v vs rows h = h
used-filled action.Version id how v vs rows h = h

-- so an argument used with a value leaves each row with one
use-filled : (a : Rule) (values : List Text) (rows : List Row) → HasText values → Filled rows → Filled (used a values rows)
use-filled a [] rows has h = absurd (true≢false (sym has))
use-filled a (v ∷ vs) rows has h = used-filled (action_of a) a.id (reading_by a) v vs rows h

-- what is pending has a value, so settling it leaves each row with one
settled-filled : (c : List Rule) (h : Held) → HeldFilled h → Filled (settled c h).rows
settled-filled c h fine = go h.pending fine.1
  where
    by : (found : Option Rule) (p : Text × List Text) → HasText p.1 → Filled (used_by_id found p.1 h.rows)
    by None p has = fine.0
    by (Some a) p has = use-filled a p.1 h.rows has fine.0

    go : (pending : Option (Text × List Text)) → PendingFilled pending → Filled (settled_rows c pending h.rows)
    go None has = fine.0
    go (Some p) has = by (arg_by_id c p.0) p has

-- ---- flags

-- the argument asks for help
abbrev asks_help : ArgAction → Bool
asks_help action.Help = true
asks_help _ = false

-- the argument asks for help, or has a word that stands for it
abbrev has_word : Rule → Bool
has_word a = asks_help (action_of a) || is_some (slice_get a.missing 0)

-- the argument takes a place, asks for help, or has a word that stands for it
abbrev pub is_placed_or_worded : Rule → Bool
is_placed_or_worded a = is_some a.index || (not (takes_values a) && has_word a)

-- the argument, where there is one, asks for help or has such a word
abbrev HasWord : Option Rule → Type 0
HasWord None = ⊤
HasWord (Some a) = (not (takes_values a) && has_word a) ≡ true

-- where each argument is one of these, one that is found by a flag takes no place, so it asks for help or has a word
flag-asks : (test : Rule → Bool) (c : List Rule) → list_all is_placed_or_worded c ≡ true → HasWord (find (λ a. not (is_some a.index) && test a) c)
flag-asks test [] h = tt
flag-asks test (a ∷ rest) h = go (is_some a.index) (test a) (not (takes_values a) && has_word a) refl (flag-asks test rest) h
  where
    go : (placed named help : Bool) → (not (takes_values a) && has_word a) ≡ help
        → (list_all is_placed_or_worded rest ≡ true → HasWord (find (λ b. not (is_some b.index) && test b) rest))
        → ((placed || help) && list_all is_placed_or_worded rest) ≡ true
        → HasWord (cond (not placed && named) (Some a) (find (λ b. not (is_some b.index) && test b) rest))
    go true named help is later h = later h
    go false named false is later h = absurd (true≢false (sym h))
    go false true true is later h = is
    go false false true is later h = later h

-- asking for help changes no row
unused : (act : ArgAction) (id : Text) (how : Reading) (values : List Text) (rows : List Row) → asks_help act ≡ true → Filled rows → Filled (used_as act id how values rows)
unused action.Help id how values rows asks h = h
unused action.Set id how values rows asks h = absurd (true≢false (sym asks))
unused action.SetTrue id how values rows asks h = absurd (true≢false (sym asks))
unused action.SetFalse id how values rows asks h = absurd (true≢false (sym asks))
unused action.Append id how values rows asks h = absurd (true≢false (sym asks))
unused action.Count id how values rows asks h = absurd (true≢false (sym asks))
unused action.HelpShort id how values rows asks h = absurd (true≢false (sym asks))
unused action.HelpLong id how values rows asks h = absurd (true≢false (sym asks))
unused action.Version id how values rows asks h = absurd (true≢false (sym asks))

-- the two halves of a test
both : (a b : Bool) → (not a && b) ≡ true → (a ≡ false) × (b ≡ true)
both true b h = absurd (true≢false (sym h))
both false b h = (refl, h)

-- a use without values of an argument that asks for help or has a word
worded : (act : ArgAction) (id : Text) (how : Reading) (missing : List Text) (rows : List Row) → (asks_help act || is_some (slice_get missing 0)) ≡ true
    → Filled rows → Filled (used_as act id how missing rows)
worded act id how [] rows has h = go (asks_help act) refl has
  where
    go : (asks : Bool) → asks_help act ≡ asks → (asks || false) ≡ true → Filled (used_as act id how [] rows)
    go true is has = unused act id how [] rows is h
    go false is has = absurd (true≢false (sym has))
worded act id how (v ∷ vs) rows has h = used-filled act id how v vs rows h

-- so such a flag leaves each row with a value
reacted-filled : (c : List Rule) (a : Rule) (h : Held) → has_word a ≡ true → HeldFilled h → HeldFilled (reacted c a [] h)
reacted-filled c a h has fine = (worded (action_of a) a.id (reading_by a) a.missing (settled c h).rows has (settled-filled c h fine), tt)

-- a long flag leaves each row with a value, since what it names asks for help or has a word
long-filled : (c : List Rule) (found : Option Rule) (v : Option Text) (h : Held) → HasWord found → HeldFilled h → HeldFilled (long_met c found v h).0
long-filled c None v h asks fine = fine
long-filled c (Some a) v h asks fine = go (takes_values a) v (both _ _ asks).0
  where
    go : (takes : Bool) (v : Option Text) → takes ≡ false → HeldFilled (cond takes (option_met c a v h) (flag_met c a v h)).0
    go true v isnt = absurd (true≢false isnt)
    go false (Some t) isnt = fine
    go false None isnt = reacted-filled c a h (both _ _ asks).1 fine

-- and so does a short flag, with what comes after it in its word
short-filled : (c : List Rule) (found : Option Rule) (rest : Text) (h : Held) (then : Held → Held × Outcome) → HasWord found → HeldFilled h
    → ((k : Held) → HeldFilled k → HeldFilled (then k).0) → HeldFilled (short_met c found rest h then).0
short-filled c None rest h then asks fine more = fine
short-filled c (Some a) rest h then asks fine more = go (takes_values a) (both _ _ asks).0
  where
    go : (takes : Bool) → takes ≡ false → HeldFilled (cond takes (option_met c a (attached_value rest) h) (then (reacted c a [] h))).0
    go true isnt = absurd (true≢false isnt)
    go false isnt = more (reacted c a [] h) (reacted-filled c a h (both _ _ asks).1 fine)

-- ---- the walk

module _ (c : List Rule) (flags : list_all is_placed_or_worded c ≡ true) where
  bundle-filled : (k : ℕ) (text : Text) (skip : ℕ) (so_far : Outcome) (h : Held) → HeldFilled h → HeldFilled (bundle_met c k text skip so_far h).0
  unfolding bundle_met
  bundle-filled zero text skip so_far h fine = fine
  bundle-filled (suc k) text skip so_far h fine = go (slice_get (chars text) 0) skip (bundle-filled k)
    where
      go : (o : Option ℕ) (skip : ℕ)
          → ((text : Text) (skip : ℕ) (so_far : Outcome) (h : Held) → HeldFilled h → HeldFilled (bundle_met c k text skip so_far h).0)
          → HeldFilled (bundle_step c o text skip so_far h (bundle_met c k)).0
      go None skip later = fine
      go (Some x) zero later = short-filled c (arg_by_short c x) (drop (length (encode_utf8 x)) text) h (bundle_met c k (drop (length (encode_utf8 x)) text) 0 done)
          (flag-asks (λ a. has_short a x) c flags) fine
          (λ held full. later (drop (length (encode_utf8 x)) text) 0 done held full)
      go (Some x) (suc less) later = later (drop (length (encode_utf8 x)) text) less so_far h fine

  pushed-filled : (id word : Text) (h : Held) → HeldFilled h → HeldFilled (pushed id word h)
  pushed-filled id word h fine = (fine.0, last-text (started id h.pending).1 word)

  plain-filled : (waiting : Waiting) (word : Text) (h : Held) → HeldFilled h → HeldFilled (plain_word c waiting word h).0
  plain-filled (option id) word h fine = go (arg_by_id c id)
    where
      go : (found : Option Rule) → HeldFilled (option_word found id word h).0
      go None = fine
      go (Some a) = pushed-filled id word h fine
  plain-filled idle word h fine = fine
  plain-filled positional word h fine = fine

  flag-filled : (waiting : Waiting) (word : Text) (h : Held) (outcome : Outcome) → HeldFilled h → HeldFilled (after_flag c waiting word h outcome).0
  flag-filled waiting word h done fine = fine
  flag-filled waiting word h (waits id) fine = fine
  flag-filled waiting word h plain fine = plain-filled waiting word h fine
  flag-filled waiting word h refused fine = plain-filled waiting word h fine

  short-or-plain : (waiting : Waiting) (word : Text) (o : Option Text) (h : Held) → HeldFilled h → HeldFilled (short_or_plain c waiting word o h).0
  short-or-plain waiting word None h fine = plain-filled waiting word h fine
  short-or-plain waiting word (Some text) h fine =
      let met = bundle_met c (length text) text h.skip plain (record h { skip = 0 }) in
      flag-filled waiting word met.0 met.1 (bundle-filled (length text) text h.skip plain (record h { skip = 0 }) fine)

  long-or-other : (waiting : Waiting) (word : Text) (o : Option (Text × Option Text)) (h : Held) → HeldFilled h → HeldFilled (long_or_other c waiting word o h).0
  long-or-other waiting word None h fine = short-or-plain waiting word (short_of word) h fine
  long-or-other waiting word (Some p) h fine =
      let met = long_met c (arg_by_long c p.0) p.1 h in
      flag-filled waiting word met.0 met.1 (long-filled c (arg_by_long c p.0) p.1 h (flag-asks (λ a. has_long a p.0) c flags) fine)

  word-filled : (names : Names) (is_trailing : Bool) (waiting : Waiting) (position : ℕ) (word : Text) (h : Held) → HeldFilled h
      → HeldFilled (word_met c names is_trailing waiting position word h).0
  word-filled names true waiting position word h fine = fine
  word-filled names false waiting position word h fine = go (subcommand_met names waiting word)
    where
      other : (b : Bool) → HeldFilled (cond b (h, trailing position) (long_or_other c waiting word (long_of word) h)).0
      other true = fine
      other false = long-or-other waiting word (long_of word) h fine

      go : (o : Option Text) → HeldFilled (subcommand_or_other c o waiting position word h).0
      go (Some name) = fine
      go None = other (bytes_eq word (45 ∷ 45 ∷ []))

  placed-filled : (found : Option Rule) (word : Text) (w : Walk) (h : Held) → HeldFilled h → HeldFilled (to_positional c found word w h).held
  placed-filled None word w h fine = fine
  placed-filled (Some a) word w h fine = go (is_pending a h.pending && takes_several a)
    where
      go : (b : Bool) → HeldFilled (pushed a.id word (cond b h (settled c h)))
      go true = pushed-filled a.id word h fine
      go false = pushed-filled a.id word (settled c h) (settled-filled c h fine, tt)

  step-filled : (word : Text) (w : Walk) (h : Held) (step : Step) → HeldFilled h → HeldFilled (after_step c word w h step).held
  step-filled word w h (next waiting) fine = fine
  step-filled word w h (trailing position) fine = fine
  step-filled word w h (subcommand name) fine = fine
  step-filled word w h value fine = placed-filled (arg_by_index c w.position) word w h fine

  turn-filled : (names : Names) (stopped : Option (Text × List Text)) (w : Walk) (word : Text) → HeldFilled w.held → HeldFilled (walked_from c names stopped w word).held
  turn-filled names (Some p) w word fine = fine
  turn-filled names None w word fine =
      let met = word_met c names w.is_trailing w.waiting w.position word w.held in
      step-filled word w met.0 met.1 (word-filled names w.is_trailing w.waiting w.position word w.held fine)

  walk-filled : (names : Names) (words : List Text) (w : Walk) → HeldFilled w.held → HeldFilled (fold (walked c names) w words).held
  unfolding walked
  walk-filled names [] w fine = fine
  walk-filled names (word ∷ rest) w fine = walk-filled names rest (walked c names w word) (turn-filled names w.stopped w word fine)

  defaults-filled : (some : List Rule) (rows : List Row) → Filled rows → Filled (fold with_default rows some)
  defaults-filled [] rows fine = fine
  defaults-filled (a ∷ rest) rows fine = defaults-filled rest (with_default rows a) (go (has_row a.id rows) a.defaults)
    where
      go : (b : Bool) (values : List Text) → Filled (cond b rows (default_rows a.id (reading_by a) values rows))
      go true values = fine
      go false [] = fine
      go false (v ∷ vs) = valued a.id (reading_by a) DefaultValue v vs rows fine

  pub rows-filled : (names : Names) (words : List Text) → Filled (rows_after c names words)
  rows-filled names words =
      defaults-filled c (settled c (walk c names nothing_held words).held).rows (settled-filled c (walk c names nothing_held words).held
      (walk-filled names words (walk_from nothing_held) (tt, tt)))

-- where each row has a value, the first row of an id has one
pub first-filled : (id : Text) (rows : List Row) → Filled rows → is_some (find (λ r. bytes_eq r.id id) rows) ≡ true → IsSome (first_of id rows)
first-filled id [] fine has = absurd (true≢false (sym has))
first-filled id (r ∷ rs) fine has = go (bytes_eq r.id id) (first-filled id rs fine.1) has
  where
    go : (b : Bool) → (is_some (find (λ r. bytes_eq r.id id) rs) ≡ true → IsSome (first_of id rs)) → is_some (cond b (Some r) (find (λ r. bytes_eq r.id id) rs)) ≡ true
        → IsSome (option_and_then (λ (r : Row). slice_get r.values 0) (cond b (Some r) (find (λ r. bytes_eq r.id id) rs)))
    go true later has = fine.0
    go false later has = later has
