-- What one read of a record leaves of the records of a text.
use Rattle.std.proofs.Common.{◌≡◌, ◌∙◌, ◌+◌, ◌<◌, ◌≤◌, ◌==◌, ◌++◌, ℕ, zero, suc, Bool, true, false, List, [], ◌∷◌, Option, Some, None, add-one, ap, arith, cond, length, refl, sym}
use Rattle.std.proofs.lemmas.Bool.{false≢true}
use Rattle.std.proofs.lemmas.Option.{same_Some}
use Rattle.csv.specs.Machine.{Read, ends_at_end, ends_with, field_after, fields_after, in_field, is_end, next_record, start_field, start_record, step}
use Rattle.csv.specs.Reading.{NextIs, ReadRecord, ReadsNext, default_config, reader_state, records, records_from, records_next, source_of}
use Rattle.csv.specs.declared.parser.Action.{Action}
use Rattle.csv.specs.declared.parser.State.{State}
use Rattle.csv.specs.declared.parser.State.TheVariants as st
use Rattle.csv.specs.declared.parser.Terminator.TheVariants as term
use Rattle.csv.specs.declared.reader.Reader.{Reader}
use Rattle.table_model.specs.Loading.{Record}
use Rattle.feature_table.specs.Reading.{IsSteady, StillGives, TakesFirst, records_left}

-- the byte that ends a record leaves the machine between two records
abbrev EndsBetween : State × Action → Type 0
EndsBetween r = is_end r.1 ≡ true → ends_at_end r.0 ≡ false

-- a choice between two steps ends between records where both do
either : (b : Bool) (x y : State × Action) → EndsBetween x → EndsBetween y → EndsBetween (cond b x y)
either true x y p q = p
either false x y p q = q

after-between : (b : Bool) → ends_at_end (cond b st.AfterCr st.StartRecord) ≡ false
after-between true = refl
after-between false = refl

-- state by state: within a field only a terminator ends the record
field-between : (c : ℕ) → EndsBetween (in_field default_config c)
field-between c =
    either (c == 44) _ _ (λ e. absurd (false≢true e)) (either (ends_with term.CRLF c) _ _ (λ e. after-between (c == 13)) (λ e. absurd (false≢true e)))

-- at the start of a field a quote opens it, and any other byte is as within one
start-between : (c : ℕ) → EndsBetween (start_field default_config c)
start-between c = either (c == 34) _ _ (λ e. absurd (false≢true e)) (field-between c)

-- at the start of a record a terminator is passed over, and any other byte starts a field
record-between : (c : ℕ) → EndsBetween (start_record default_config c)
record-between c = either (ends_with term.CRLF c) _ _ (λ e. absurd (false≢true e)) (start-between c)

step-between : (s : State) (c : ℕ) → EndsBetween (step default_config s c)
step-between st.StartRecord c = record-between c
step-between st.StartField c = start-between c
step-between st.InField c = field-between c
step-between st.InQuoted c = either (c == 34) _ _ (λ e. absurd (false≢true e)) (λ e. absurd (false≢true e))
step-between st.InEscape c = λ e. absurd (false≢true e)
step-between st.AfterQuote c = either (c == 34) _ _ (λ e. absurd (false≢true e)) (field-between c)
step-between st.InComment c = either (c == 10) _ _ (λ e. absurd (false≢true e)) (λ e. absurd (false≢true e))
step-between st.AfterCr c = either (c == 10) _ _ (λ e. absurd (false≢true e)) (record-between c)

-- a record leaves the machine between two records, and no more bytes than there were
next-leaves : (s : State) (fields : List (List ℕ)) (field xs : List ℕ) (r : Read) → next_record default_config s fields field xs ≡ Some r
    → (ends_at_end r.1 ≡ false) × (length r.2 ≤ length xs)
unfolding next_record
next-leaves s fields field [] r e = go (ends_at_end s) e
  where
    go : (b : Bool) → ◌≡◌ {A = Option Read} (cond b (Some (fields ++ (field ∷ []), st.StartRecord, [])) None) (Some r) → (ends_at_end r.1 ≡ false) × (length r.2 ≤ 0)
    go true h =
        let same = same_Some _ _ h in
        let none = ap (λ (q : Read). length q.2) same in
        (sym (ap (λ (q : Read). ends_at_end q.1) same), omega (arith, none))
    go false h = cc h
next-leaves s fields field (c ∷ rest) r e =
    go (is_end (step default_config s c).1) refl e (next-leaves (step default_config s c).0 _ _ rest r)
  where
    go : (b : Bool) → is_end (step default_config s c).1 ≡ b
        → ◌≡◌ {A = Option Read} (cond b (Some (fields_after (step default_config s c).1 fields field, (step default_config s c).0, rest))
        (next_record default_config (step default_config s c).0 (fields_after (step default_config s c).1 fields field) (field_after (step default_config s c).1 c field) rest)) (Some r)
        → (next_record default_config (step default_config s c).0 (fields_after (step default_config s c).1 fields field) (field_after (step default_config s c).1 c field) rest ≡ Some r
        → (ends_at_end r.1 ≡ false) × (length r.2 ≤ length rest))
        → (ends_at_end r.1 ≡ false) × (length r.2 ≤ length (c ∷ rest))
    go true is h more =
        let same = same_Some _ _ h in
        let left = ap (λ (q : Read). length q.2) same in
        (sym (ap (λ (q : Read). ends_at_end q.1) same) ∙ step-between s c is, omega (arith, left))
    go false is h more = let m = more h in (m.0, omega (arith, m.1))

-- from between two records it takes a byte
next-shorter : (s : State) (fields : List (List ℕ)) (field xs : List ℕ) (r : Read) → ends_at_end s ≡ false
    → next_record default_config s fields field xs ≡ Some r → length r.2 < length xs
unfolding next_record
next-shorter s fields field [] r between e = go (ends_at_end s) between e
  where
    go : (b : Bool) → b ≡ false → ◌≡◌ {A = Option Read} (cond b (Some (fields ++ (field ∷ []), st.StartRecord, [])) None) (Some r) → length r.2 < 0
    go true is h = absurd (false≢true (sym is))
    go false is h = cc h
next-shorter s fields field (c ∷ rest) r between e =
    go (is_end (step default_config s c).1) e (next-leaves (step default_config s c).0 _ _ rest r)
  where
    go : (b : Bool)
        → ◌≡◌ {A = Option Read} (cond b (Some (fields_after (step default_config s c).1 fields field, (step default_config s c).0, rest))
        (next_record default_config (step default_config s c).0 (fields_after (step default_config s c).1 fields field) (field_after (step default_config s c).1 c field) rest)) (Some r)
        → (next_record default_config (step default_config s c).0 (fields_after (step default_config s c).1 fields field) (field_after (step default_config s c).1 c field) rest ≡ Some r
        → (ends_at_end r.1 ≡ false) × (length r.2 ≤ length rest))
        → length r.2 < length (c ∷ rest)
    go true h more = let left = ap (λ (q : Read). length q.2) (same_Some _ _ h) in omega (arith, left)
    go false h more = let m = more h in omega (arith, m.1)

-- more turns than bytes make no difference
enough : (n m : ℕ) (s : State) (xs : List ℕ) → ends_at_end s ≡ false → length xs < n → length xs < m
    → records_from default_config n s xs ≡ records_from default_config m s xs
unfolding records_from
enough zero m s xs between ln lm = absurd (omega arith)
enough (suc n) zero s xs between ln lm = absurd (omega arith)
enough (suc n) (suc m) s xs between ln lm = go (next_record default_config s [] [] xs) refl (λ t ys. enough n m t ys)
  where
    go : (o : Option Read) → next_record default_config s [] [] xs ≡ o
        → ((t : State) (ys : List ℕ) → ends_at_end t ≡ false → length ys < n → length ys < m → records_from default_config n t ys ≡ records_from default_config m t ys)
        → records_next (records_from default_config n) o ≡ records_next (records_from default_config m) o
    go None e more = refl
    go (Some p) e more =
        let leaves = next-leaves s [] [] xs p e in
        let shorter = next-shorter s [] [] xs p between e in
        ap (λ (rest : List Record). p.0 ∷ rest) (more p.1 p.2 leaves.0 (omega arith) (omega arith))

-- the records left, where there is one more, and where there is none
left_some : (s : State) (xs : List ℕ) (p : Read) → ends_at_end s ≡ false → next_record default_config s [] [] xs ≡ Some p
    → records_left s xs ≡ p.0 ∷ records_left p.1 p.2
unfolding records_left records_from
left_some s xs p between e =
    let leaves = next-leaves s [] [] xs p e in
    let shorter = next-shorter s [] [] xs p between e in
    rw (add-one (length xs), e) (ap (λ (rest : List Record). p.0 ∷ rest) (enough (length xs) (length p.2 + 1) p.1 p.2 leaves.0 shorter (omega arith)))

-- where there is no record more none is left
left_none : (s : State) (xs : List ℕ) → next_record default_config s [] [] xs ≡ None → records_left s xs ≡ []
unfolding records_left records_from
left_none s xs e = rw (add-one (length xs), e) refl

-- what a read of known bytes found
found_record : (s : State) (bytes : List ℕ) (k : Option (List ℕ)) (fields : Record) (s2 : State) → ReadsNext default_config s (Some bytes) k true fields s2
    → (p : Read) × (k ≡ Some p.2) × (next_record default_config s [] [] bytes ≡ Some p) × (fields ≡ p.0) × (s2 ≡ p.1)
found_record s bytes None fields s2 h = absurd h
found_record s bytes (Some ys) fields s2 h = go (next_record default_config s [] [] bytes) refl h
  where
    go : (o : Option Read) → next_record default_config s [] [] bytes ≡ o → NextIs o true fields s2 ys
        → (p : Read) × (Some ys ≡ Some p.2) × (next_record default_config s [] [] bytes ≡ Some p) × (fields ≡ p.0) × (s2 ≡ p.1)
    go None e n = absurd (false≢true (sym n))
    go (Some p) e n = (p, ap Some n.3, e, n.1, n.2)

-- a read that found nothing says that there is no record more
found_nothing : (s : State) (bytes : List ℕ) (k : Option (List ℕ)) (fields : Record) (s2 : State) → ReadsNext default_config s (Some bytes) k false fields s2
    → next_record default_config s [] [] bytes ≡ None
found_nothing s bytes None fields s2 h = absurd h
found_nothing s bytes (Some ys) fields s2 h = go (next_record default_config s [] [] bytes) refl h
  where
    go : (o : Option Read) → next_record default_config s [] [] bytes ≡ o → NextIs o false fields s2 ys → next_record default_config s [] [] bytes ≡ None
    go None e n = e
    go (Some p) e n = absurd (false≢true n.0)

-- a read takes the first of the records that a reader still gives
pub taken : {R : Type 0} (remaining : R → Option (List ℕ)) (old new : Reader R) (rest : List Record) (found : Bool) (fields : Record)
    → IsSteady old → StillGives remaining old rest → ReadRecord remaining old new found fields → TakesFirst remaining new rest found fields
taken remaining old new rest true fields steady gives read =
    let r = rw (steady.config, gives.source) at read.0 in
    let f = found_record old.state gives.bytes _ fields new.state r in
    let leaves = next-leaves old.state [] [] gives.bytes f.0 f.2 in
    let more = left_some old.state gives.bytes f.0 gives.between f.2 in (
      records_left f.0.1 f.0.2,
      record {
        bytes = f.0.2;
        source = rw read.1 f.1;
        between = ap ends_at_end f.4 ∙ leaves.0;
        records = ap (λ (s : State). records_left s f.0.2) f.4;
      },
      sym gives.records ∙ more ∙ ap (λ (first : Record). first ∷ records_left f.0.1 f.0.2) (sym f.3),
    )
taken remaining old new rest false fields steady gives read =
    let r = rw (steady.config, gives.source) at read.0 in
    sym gives.records ∙ left_none old.state gives.bytes (found_nothing old.state gives.bytes _ fields new.state r)

-- the records that a reader gives at the start of a text
pub at_start : {R : Type 0} (remaining : R → Option (List ℕ)) (reader : Reader R) (bytes : List ℕ) → source_of remaining reader ≡ Some bytes
    → reader_state reader ≡ st.StartRecord → StillGives remaining reader (records default_config bytes)
unfolding records_left
at_start remaining reader bytes source state = record { bytes = bytes; source = source; between = rw state refl; records = rw state refl }
