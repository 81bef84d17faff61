-- What was read, written and noted of the pairs of a text so far, and how a run over them ends.
use Rattle.std.proofs.Common.{◌≡◌, ◌≢◌, ◌∙◌, ◌==◌, ◌+◌, ◌++◌, ◌⊎◌, ◌||◌, inl, inr, ℕ, Bool, true, false}
use Rattle.std.proofs.Common.{List, [], ◌∷◌, Option, None, Some, Result, Ok, Err, ap, arith, ap₂, cond, length, map, take, IfOk, IfErr}
use Rattle.std.proofs.Common.{refl, sym, subst, append_assoc, append-nil, length-append}
use Rattle.std.specs.Prelude.{slice_get}
use Rattle.std.specs.List.{concat, list_any}
use Rattle.std.specs.Io.KnownBytes.{Appends}
use Rattle.std.proofs.Math.Seq.{take-append-add, take-length}
use Rattle.std.proofs.lemmas.List.{map-append}
use Rattle.std.proofs.lemmas.List.Folds.{concat-append, list_any-append, prefix_len-append}
use Rattle.std.proofs.lemmas.Option.{same_Some}
use Rattle.std.proofs.lemmas.Bool.{eq-eqb, false≢true}
use Rattle.std.proofs.lemmas.Bool.Decides.{nat_tests}
use Rattle.std.specs.Result.{is_err}
use Rattle.std.proofs.Math.Bool.{or-false}
use Rattle.basics.proofs.Lists.{behind}
use Rattle.csv.specs.declared.reader.Reader.{Reader}
use Rattle.explanations.specs.Marks.{said}
use Rattle.failures.specs.Ends.{Writes}
use Rattle.failures.specs.declared.failure.Failure.{Failure}
use Rattle.failures.specs.declared.failure.Failure.TheVariants as f
use Rattle.text_commands.specs.PairNotes.{IsFirst, NotesPair, NotesPairs, unequal_text}
use Rattle.text_commands.specs.Pairs.{AreRead, Begins, Ends, IsReadFailure, IsUnequal, PutsLine, PutsRefusal, StopsAtLine, field}
use Rattle.text_commands.specs.Pairs.{is_memory, is_pair, is_refused, pair_line, pair_lines, pair_relation, pairs_before}
use Rattle.text_commands.specs.Pairs.{pairs_end, pairs_text, relation_line}
use Rattle.text_commands.specs.declared.pair_notes.Notes.{Notes}
use Rattle.text_commands.specs.declared.pair_notes.Notes.TheVariants as n
use Rattle.text_commands.specs.declared.runs.Pairs.{Pairs}
use Rattle.streams.specs.Sinks.{AppendsFront}
use Rattle.streams.proofs.SinkLemmas.{Appends-none, Appends-then, AppendsFront-more, AppendsFront-then, AppendsFront-whole}
use Rattle.table_model.specs.Loading.{Record}
use Rattle.table_model.specs.RunOutcomes.{ByEveryMatrix, MatrixOf}
use Rattle.feature_table.specs.Reading.{StillGives, TakesFirst}
use Rattle.feature_table.specs.Records.{records_in}
use Rattle.text_commands.specs.Relations.{IsFailureOf, relation}
use Rattle.geometry_model.specs.Dimensions.{Matrix}
use Rattle.text_commands.proofs.PairNoteLemmas.{Noted, ended, last_written, next_note, none_noted, notes_longer}

-- ---- records of which a front is known

-- all records of a list are pairs
abbrev pub ArePairs : List Record → Type 0
ArePairs records = pairs_before records ≡ length records

-- a record of two fields is a pair, and any other isn't
pub has_two : (n : ℕ) (fields : Record) → n ≡ length fields → n ≡ 2 → is_pair fields ≡ true
has_two n fields is two = ap (λ k. k == 2) (sym is ∙ two)

pub has_other : (n : ℕ) (fields : Record) → n ≡ length fields → n ≢ 2 → is_pair fields ≡ false
has_other n fields is other = ap (λ k. k == 2) (sym is) ∙ go n other
  where
    go : (k : ℕ) → k ≢ 2 → (k == 2) ≡ false
    go k h = grind (arith, nat_tests)

-- a record that isn't a pair ends the front
front_ends : (r : Record) (rest : List Record) → is_pair r ≡ false → pairs_before (r ∷ rest) ≡ 0
front_ends r rest is = ap (λ b. cond b (1 + pairs_before rest) 0) is

-- how many pairs are at the front of some pairs and further records
front_length : (read rest : List Record) → ArePairs read → pairs_before (read ++ rest) ≡ length read + pairs_before rest
front_length read rest are =
    prefix_len-append is_pair read rest
    ∙ ap (λ b. cond b (length read + pairs_before rest) (pairs_before read)) (eq-eqb (pairs_before read) (length read) are)

-- one pair more
pairs_more : (read : List Record) (fields : Record) → ArePairs read → is_pair fields ≡ true → ArePairs (read ++ fields ∷ [])
pairs_more read fields are is =
    let front = front_length read (fields ∷ []) are in
    let last : pairs_before (fields ∷ []) ≡ 1 = ap (λ b. cond b 1 0) is in
    let size = length-append read (fields ∷ []) in
    omega (arith, front, last, size)

-- ---- lines

-- the lines of some pairs and of others
lines_append : (matrix : MatrixOf) (read more : List Record)
    → pair_lines matrix (read ++ more) ≡ pair_lines matrix read ++ pair_lines matrix more
lines_append matrix read more =
    ap concat (map-append (pair_line matrix) read more)
    ∙ concat-append (map (pair_line matrix) read) (map (pair_line matrix) more)

-- the text of some pairs and further records
text_append : (matrix : MatrixOf) (read rest : List Record) → ArePairs read
    → pairs_text matrix (read ++ rest) ≡ pair_lines matrix read ++ pairs_text matrix rest
text_append matrix read rest are =
    ap (λ n. pair_lines matrix (take n (read ++ rest))) (front_length read rest are)
    ∙ ap (pair_lines matrix) (take-append-add read rest (pairs_before rest))
    ∙ lines_append matrix read (take (pairs_before rest) rest)

-- the text of a pair and further records
text_first : (matrix : MatrixOf) (fields : Record) (rest : List Record) → is_pair fields ≡ true
    → pairs_text matrix (fields ∷ rest) ≡ pair_line matrix fields ++ pairs_text matrix rest
text_first matrix fields rest is =
    ap (λ b. pair_lines matrix (take (cond b (1 + pairs_before rest) 0) (fields ∷ rest))) is
    ∙ ap (pair_lines matrix) (take-append-add (fields ∷ []) rest (pairs_before rest))

-- the lines of one pair more
lines_more : (matrix : MatrixOf) (read : List Record) (fields : Record)
    → pair_lines matrix (read ++ fields ∷ []) ≡ pair_lines matrix read ++ pair_line matrix fields
lines_more matrix read fields =
    lines_append matrix read (fields ∷ []) ∙ ap (λ t. pair_lines matrix read ++ t) (append-nil (pair_line matrix fields))

-- whether one of some pairs and one more is refused
any_more : (matrix : MatrixOf) (read : List Record) (fields : Record)
    → list_any (is_refused matrix) (read ++ fields ∷ []) ≡ (list_any (is_refused matrix) read || is_refused matrix fields)
any_more matrix read fields =
    list_any-append (is_refused matrix) read (fields ∷ [])
    ∙ ap (λ b. list_any (is_refused matrix) read || b) (or-false (is_refused matrix fields))

-- ---- a run midway

-- a reader whose records begin with these gives further ones
begun : {R : Type 0} (remaining : R → Option (List ℕ)) (known : Option (List ℕ)) (reader : Reader R) (read : List Record)
    → Begins remaining known reader read → (rest : List Record) × AreRead known (read ++ rest)
begun remaining None reader read begins = ([], λ text e. cc e)
begun remaining (Some bytes) reader read begins =
    let b = begins bytes refl in
    (b.0, λ text e. sym b.2 ∙ ap records_in (same_Some _ _ e))

-- the reader took this record
abbrev pub Takes : {R : Type 0} → (R → Option (List ℕ)) → Reader R → Reader R → Bool → Record → Type 0
Takes remaining reader after found fields =
    (rest : List Record) → StillGives remaining reader rest → TakesFirst remaining after rest found fields

-- so many records were read, all of them pairs, their lines were written, and those that note some of them
pub record Midway {R M : Type 0} (remaining : R → Option (List ℕ)) (known : Option (List ℕ)) (reader : Reader R) (place : ℕ)
    (some_refused : Bool) (old new : Option (List ℕ)) (notes : Notes) (taken : M → Option (List ℕ)) (failures : M → ℕ)
    (first last : M) : Type 0 where
  pub read : List Record
  pub count : length read ≡ place
  pub pairs : ArePairs read
  pub begins : Begins remaining known reader read
  pub written : ByEveryMatrix (λ matrix. Appends old new (pair_lines matrix read) × (some_refused ≡ list_any (is_refused matrix) read))
  pub noted : Noted read notes (taken first) (taken last) (failures first) (failures last)

-- why a line wasn't written, as a reason why a run ends
line_failure : (failure : Failure) → (failure ≡ f.WriteFailed) ⊎ (failure ≡ f.OutOfMemory) → IsReadFailure failure ⊎ (failure ≡ f.WriteFailed)
line_failure failure (inl written) = inr written
line_failure failure (inr memory) = inl (inl memory)

-- before the first record nothing was read, written or noted
pub at_first : {R M : Type 0} (remaining : R → Option (List ℕ)) (known : Option (List ℕ)) (reader : Reader R) (notes : Notes)
    (old : Option (List ℕ)) (taken : M → Option (List ℕ)) (failures : M → ℕ) (first : M) → IsFirst notes
    → Begins remaining known reader [] → Midway remaining known reader 0 false old old notes taken failures first first
at_first remaining known reader notes old taken failures first none begins = record {
  read = [];
  count = refl;
  pairs = refl;
  begins = begins;
  written = λ matrix gives. (Appends-none old, refl);
  noted = none_noted notes (taken first) (failures first) none;
}

module _ {R M : Type 0} {remaining : R → Option (List ℕ)} {known : Option (List ℕ)} {reader : Reader R} {place : ℕ}
    {some_refused : Bool} {old new : Option (List ℕ)} {notes : Notes} {taken : M → Option (List ℕ)} {failures : M → ℕ}
    {first last : M} (m : Midway remaining known reader place some_refused old new notes taken failures first last) where
  -- reading failed, or memory ran out
  pub ended_reading : (failure : Failure) → IsReadFailure failure → Ends known (Err failure) old new
  ended_reading failure why =
      let b = begun remaining known reader m.read m.begins in (
        m.read ++ b.0,
        b.1,
        λ matrix gives.
            inr (
              inl why,
              subst (λ t. AppendsFront old new t) (sym (text_append matrix m.read b.0 m.pairs))
                  (AppendsFront-whole old new (pair_lines matrix m.read) (pairs_text matrix b.0) (m.written matrix gives).0),
            ),
      )

  -- a run may end after any record
  pub ended_notes : {A : Type 0} (result : Result A Failure)
      → NotesPairs known result (taken first) (taken last) (failures first) (failures last)
  ended_notes result =
      let b = begun remaining known reader m.read m.begins in
      let e = ended notes m.noted in record {
        records = m.read ++ b.0;
        read = b.1;
        lines = m.noted.lines;
        note = notes_longer m.read b.0 m.noted.lines m.noted.note;
        few = e.0;
        last = [];
        explains = inl refl;
        written = rw append-nil e.1;
      }

  module _ (next : Reader R) (fields : Record) where
    -- no record is left: all are pairs, and their lines were written
    pub ended_all : (pairs : Pairs) → Takes remaining reader next false fields → pairs ≡ pairs_end some_refused
        → Ends known (Ok pairs) old new
    ended_all pairs takes is = (
      m.read,
      λ text e. let b = m.begins text e in sym (b.2 ∙ ap (λ l. m.read ++ l) (takes b.0 b.1) ∙ append-nil m.read),
      λ matrix gives.
          let whole = ap (λ n. pair_lines matrix (take n m.read)) m.pairs ∙ ap (pair_lines matrix) (take-length m.read) in
          let w = m.written matrix gives in
          (m.pairs, subst (λ t. Appends old new t) (sym whole) w.0, is ∙ ap pairs_end w.1),
    )

    module _ (takes : Takes remaining reader next true fields) where
      -- the records begin with those read and the next
      begins_more : Begins remaining known next (m.read ++ fields ∷ [])
      begins_more text e =
          let b = m.begins text e in
          let t = takes b.0 b.1 in
          (t.0, t.1, b.2 ∙ ap (λ l. m.read ++ l) t.2 ∙ sym (append_assoc m.read (fields ∷ []) t.0))

      begun_more : (rest : List Record) × AreRead known (m.read ++ fields ∷ rest)
      begun_more =
          let b = begun remaining known next (m.read ++ fields ∷ []) begins_more in
          (b.0, subst (λ l. AreRead known l) (append_assoc m.read (fields ∷ []) b.0) b.1)

      module _ (failure : Failure) (is : is_pair fields ≡ false) (unequal : IsUnequal (place + 1) failure) where
        -- the next record isn't a pair
        pub ended_unequal : Ends known (Err failure) old new
        ended_unequal =
            let b = begun_more in
            let records = m.read ++ fields ∷ b.0 in
            let front = front_length m.read (fields ∷ b.0) m.pairs in
            let none = front_ends fields b.0 is in
            let size = length-append m.read (fields ∷ b.0) in
            let count = m.count in (
              records,
              b.1,
              λ matrix gives.
                  let text : pairs_text matrix records ≡ pair_lines matrix m.read =
                  text_append matrix m.read (fields ∷ b.0) m.pairs
                  ∙ ap (λ n. pair_lines matrix m.read ++ pair_lines matrix (take n (fields ∷ b.0))) none
                  ∙ append-nil (pair_lines matrix m.read) in
                  inl (
                    place + 1,
                    unequal,
                    omega (arith, front, none, size),
                    omega (arith, front, none, count),
                    subst (λ t. Appends old new t) (sym text) (m.written matrix gives).0,
                  ),
            )

        -- and its line is written while pairs are noted
        pub ended_other : {A : Type 0} (count : ℕ) (more : M) → count ≡ length fields → (notes ≡ n.Closed → more ≡ last)
            → (more ≡ last) ⊎ Writes (taken last) (taken more) (failures last) (failures more) (said (unequal_text (place + 1) count))
            → NotesPairs {A = A} known (Err failure) (taken first) (taken more) (failures first) (failures more)
        ended_other {A = A} count more counts closed written =
            go (last_written taken failures first last more (said (unequal_text (place + 1) count)) notes m.noted closed written)
          where
            go : (more ≡ last) ⊎ Writes (taken first) (taken more) (failures first) (failures more)
                (concat m.noted.lines ++ said (unequal_text (place + 1) count))
                → NotesPairs {A = A} known (Err failure) (taken first) (taken more) (failures first) (failures more)
            go (inl same) = rw same (ended_notes (Err failure))
            go (inr w) =
                let b = begun_more in
                let records = m.read ++ fields ∷ b.0 in
                let front = front_length m.read (fields ∷ b.0) m.pairs in
                let none = front_ends fields b.0 is in
                let size = m.count in
                let at : pairs_before records ≡ length m.read + 0 = omega (arith, front, none) in
                record {
                  records = records;
                  read = b.1;
                  lines = m.noted.lines;
                  note = notes_longer m.read (fields ∷ b.0) m.noted.lines m.noted.note;
                  few = (ended notes m.noted).0;
                  last = said (unequal_text (place + 1) count);
                  explains = inr (
                    place + 1,
                    count,
                    (failure, refl, unequal),
                    (
                      records,
                      fields,
                      b.1,
                      ap (slice_get records) at ∙ behind m.read (fields ∷ b.0) 0,
                      omega (arith, at, size),
                      counts,
                    ),
                    refl,
                  );
                  written = w;
                }

      -- the line of the next pair wasn't written
      pub ended_writing : (newer : Option (List ℕ)) (failure : Failure) → is_pair fields ≡ true
          → ByEveryMatrix (λ matrix. StopsAtLine matrix fields failure new newer) → Ends known (Err failure) old newer
      ended_writing newer failure is stops =
          let b = begun_more in (
            m.read ++ fields ∷ b.0,
            b.1,
            λ matrix gives.
                let text = text_append matrix m.read (fields ∷ b.0) m.pairs
                ∙ ap (λ t. pair_lines matrix m.read ++ t) (text_first matrix fields b.0 is) in
                let s = stops matrix gives in
                inr (
                  line_failure failure s.0,
                  subst (λ t. AppendsFront old newer t) (sym text)
                      (AppendsFront-then old new newer (pair_lines matrix m.read) (pair_line matrix fields ++ pairs_text matrix b.0)
                      (m.written matrix gives).0 (AppendsFront-more new newer (pair_line matrix fields) (pairs_text matrix b.0) s.1)),
                ),
          )

      -- the line of the next pair was written, and it was noted if it is refused
      pub one_more_pair : (refused both : Bool) (newer : Option (List ℕ)) (notes' : Notes) (more : M) → is_pair fields ≡ true
          → ByEveryMatrix (λ matrix. PutsLine matrix fields refused new newer) → both ≡ (some_refused || refused)
          → NotesPair notes (place + 1) fields notes' (taken last) (taken more) (failures last) (failures more)
          → Midway remaining known next (place + 1) both old newer notes' taken failures first more
      one_more_pair refused both newer notes' more is puts are noted =
          let size = length-append m.read (fields ∷ []) in
          let count = m.count in record {
            read = m.read ++ fields ∷ [];
            count = omega (arith, size, count);
            pairs = pairs_more m.read fields m.pairs is;
            begins = begins_more;
            written = λ matrix gives.
                let w = m.written matrix gives in
                let p = puts matrix gives in (
                  subst (λ t. Appends old newer t) (sym (lines_more matrix m.read fields))
                      (Appends-then old new newer (pair_lines matrix m.read) (pair_line matrix fields) w.0 p.0),
                  are ∙ ap₂ (λ a b. a || b) w.1 p.1 ∙ sym (any_more matrix m.read fields),
                );
            noted = next_note m.read fields place notes notes' (taken first) (taken last) (taken more) (failures first)
                (failures last) (failures more) m.count m.noted noted;
          }

-- ---- one line

-- a failure that isn't running out of memory is that of the outcome
refusal_is : (r : Result Matrix Failure) (failure : Failure) → IsFailureOf r failure → is_memory failure ≡ false → r ≡ Err failure
refusal_is r failure (inl memory) is = absurd (false≢true (sym is ∙ ap is_memory memory))
refusal_is r failure (inr refused) is = refused

-- the fields of a pair
module _ (matrix : MatrixOf) (fields : Record) (first second : List ℕ) (is_first : first ≡ field fields 0)
    (is_second : second ≡ field fields 1) where
  -- the relation of a pair, by its fields
  relation_is : (r : Result Matrix Failure) → relation matrix first second ≡ r → pair_relation matrix fields ≡ r
  relation_is r is = sym (ap₂ (relation matrix) is_first is_second) ∙ is

  -- the line of the relation of a pair was written
  pub line_put : (r : Result Matrix Failure) (refused : Bool) (old new : Option (List ℕ)) → relation matrix first second ≡ r
      → refused ≡ is_err r → Appends old new (relation_line r) → PutsLine matrix fields refused old new
  line_put r refused old new is are put =
      let e = relation_is r is in
      (subst (λ x. Appends old new (relation_line x)) (sym e) put, are ∙ sym (ap is_err e))

  module _ (failure : Failure) (of : IsFailureOf (relation matrix first second) failure) (old new : Option (List ℕ))
      (before after : ℕ) where
    -- the line of a refused pair was written
    pub refusal_put : (result : Result Bool Failure) → PutsRefusal failure result old new before after
        → IfOk result (λ refused. PutsLine matrix fields refused old new)
    refusal_put (Ok refused) put = line_put (Err failure) refused old new (refusal_is _ failure of put.0) put.1 put.2
    refusal_put (Err why) put = tt

    -- the line of a refused pair wasn't written
    pub refusal_front : (result : Result Bool Failure) → PutsRefusal failure result old new before after
        → IfErr result (λ why. StopsAtLine matrix fields why old new)
    refusal_front (Ok refused) put = tt
    refusal_front (Err f.WriteFailed) put =
        let e = relation_is (Err failure) (refusal_is _ failure of put.0) in
        (inl refl, subst (λ x. AppendsFront old new (relation_line x)) (sym e) put.1)
    refusal_front (Err f.OutOfMemory) put = (inr refl, AppendsFront-whole old new [] (pair_line matrix fields) put.0)
    refusal_front (Err _) put = absurd put
