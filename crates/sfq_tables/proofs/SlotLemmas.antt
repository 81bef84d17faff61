-- Slots of statements: that each open statement is over the database, before and after a slot is written.
use Rattle.std.proofs.Common.{refl, ◌≡◌, ◌≢◌, ◌∙◌, ◌<◌, ◌≤◌, ◌⊎◌, ◌++◌, ap, arith, inl, inr, subst, sym, ℕ}
use Rattle.std.proofs.Common.{Bool, true, false, List, [], ◌∷◌, Option, Some, None, get_or, length, length-append, set}
use Rattle.std.specs.Prelude.{if◌then◌else◌, IfSome, is_none, is_some, nat_lt}
use Rattle.std.specs.List.{position, position_or_len}
use Rattle.std.proofs.lemmas.Bool.{cases_eq, cases_lt}
use Rattle.std.proofs.lemmas.Grind.{common_steps}
use Rattle.std.proofs.lemmas.List.{get_or-set_other, get_or-set_same, get_or_append_left, get_or_default}
use Rattle.std.proofs.lemmas.List.{get_or_past, set-get_or, set-set, set_past}
use Rattle.std.proofs.lemmas.List.Sums.{fails_before_first}
use Rattle.std.proofs.Math.Seq.{get_or-append_seam}
use Rattle.basics.proofs.Options.{is_nothing}
use Rattle.kept_tables.specs.KeptTables.{lent}
use Rattle.sfq_tables.specs.Connections.{AreOver, Connected}
use Rattle.sfq_tables.specs.OpenStatements.{slots_with, statement_at, with_slot}
use Rattle.statements.specs.Statements.{IsOver}
use Rattle.statements.specs.declared.prepared.Statement.{Statement}
use Rattle.table_model.specs.SpatialTables.{SpatialDatabase}

-- where no slot has a statement, no number has one
pub none_open : (slots : List (Option Statement)) (number : ℕ) → is_none (position is_some slots) ≡ true
    → get_or slots number None ≡ None
none_open slots number idle = go (cases_lt number (length slots))
  where
    empty : (o : Option Statement) → is_some o ≡ false → o ≡ None
    empty None is = refl
    empty (Some s) is = absurd (cc)

    go : (number < length slots) ⊎ (length slots ≤ number) → get_or slots number None ≡ None
    go (inl there) =
        let none = is_nothing (position is_some slots) idle in
        let all : length slots ≤ position_or_len is_some slots = grind (arith, common_steps) in
        empty (get_or slots number None) (fails_before_first is_some slots number None (omega (arith, there, all)))
    go (inr past) = get_or_past slots number None past

-- so each open statement is over any database
pub over_idle : (database : SpatialDatabase) (slots : List (Option Statement)) → is_none (position is_some slots) ≡ true
    → AreOver database slots
over_idle database slots idle number s at = let e = sym (none_open slots number idle) ∙ at in absurd (cc)

-- a slot is written with a statement over the database, or with none
pub over_set : (database : SpatialDatabase) (slots : List (Option Statement)) (number : ℕ) (slot : Option Statement)
    → AreOver database slots → IfSome slot (IsOver database) → AreOver database (set slots number slot)
over_set database slots number slot are is k s at = go (cases_eq k number) (cases_lt number (length slots))
  where
    go : (k ≡ number) ⊎ (k ≢ number) → (number < length slots) ⊎ (length slots ≤ number) → IsOver database s
    go (inl same) (inl there) =
        let here = subst (λ n. get_or (set slots number slot) n None ≡ Some s) same at in
        subst (λ o. IfSome o (IsOver database)) (sym (get_or-set_same slots number slot None there) ∙ here) is
    go (inl same) (inr past) = are k s (sym (ap (λ l. get_or l k None) (set_past slots number slot past)) ∙ at)
    go (inr other) size = are k s (sym (get_or-set_other slots number k slot None other) ∙ at)

-- a slot is added for a statement over the database
pub over_append : (database : SpatialDatabase) (slots : List (Option Statement)) (statement : Statement)
    → AreOver database slots → IsOver database statement → AreOver database (slots ++ Some statement ∷ [])
over_append database slots statement are is k s at = go (cases_lt k (length slots)) (cases_eq k (length slots))
  where
    go : (k < length slots) ⊎ (length slots ≤ k) → (k ≡ length slots) ⊎ (k ≢ length slots) → IsOver database s
    go (inl there) same = are k s (sym (get_or_append_left slots (Some statement ∷ []) None k there) ∙ at)
    go (inr past) (inl same) =
        let here = subst (λ n. get_or (slots ++ Some statement ∷ []) n None ≡ Some s) same at in
        subst (λ o. IfSome o (IsOver database)) (sym (get_or-append_seam slots (Some statement) [] None) ∙ here) is
    go (inr past) (inr other) =
        let many = length-append slots (Some statement ∷ []) in
        let nothing = get_or_past (slots ++ Some statement ∷ []) k None (omega (arith, past, other, many)) in
        let e = sym nothing ∙ at in absurd (cc)

-- the statement of a slot is over the database, if there is one
pub over_at : (database : SpatialDatabase) (slots : List (Option Statement)) (number : ℕ) (d : Option Statement)
    → AreOver database slots → number < length slots → IfSome (get_or slots number d) (IsOver database)
over_at database slots number d are there = go (get_or slots number None) refl
  where
    go : (o : Option Statement) → get_or slots number None ≡ o → IfSome (get_or slots number d) (IsOver database)
    go None e = subst (λ o. IfSome o (IsOver database)) (sym (get_or_default slots number d None there ∙ e)) tt
    go (Some s) e = subst (λ o. IfSome o (IsOver database)) (sym (get_or_default slots number d None there ∙ e)) (are number s e)

-- what is open under a number is over the database
pub over_open : (database : SpatialDatabase) (slots : List (Option Statement)) (number : ℕ)
    → AreOver database slots → IfSome (get_or slots number None) (IsOver database)
over_open database slots number are = go (get_or slots number None) refl
  where
    go : (o : Option Statement) → get_or slots number None ≡ o → IfSome o (IsOver database)
    go None e = tt
    go (Some s) e = are number s e

-- slots with a statement over the database in one more are over it
pub over_with : (database : SpatialDatabase) (slots : List (Option Statement)) (number : ℕ) (statement : Statement)
    → AreOver database slots → IsOver database statement → AreOver database (slots_with number statement slots)
over_with database slots number statement are is = go (nat_lt number (length slots)) refl
  where
    go : (b : Bool) → nat_lt number (length slots) ≡ b
        → AreOver database (if b then set slots number (Some statement) else slots ++ Some statement ∷ [])
    go true e = over_set database slots number (Some statement) are is
    go false e = over_append database slots statement are is

-- so they are after a statement is kept, or isn't
pub over_kept : (database : SpatialDatabase) (old new : List (Option Statement)) (statement : Statement) (result : Option ℕ)
    → AreOver database old → IsOver database statement → IfSome result (λ number. new ≡ slots_with number statement old)
    → (result ≡ None → new ≡ old) → AreOver database new
over_kept database old new statement (Some number) are is kept refused =
    subst (AreOver database) (sym kept) (over_with database old number statement are is)
over_kept database old new statement None are is kept refused = subst (AreOver database) (sym (refused refl)) are

-- the statement that a slot lends is over the database, if there is one
pub over_lent : (database lent : SpatialDatabase) (slots : List (Option Statement)) (number : ℕ) (slot : Option Statement)
    → AreOver database slots → number < length slots → slot ≡ get_or slots number slot → lent ≡ database
    → IfSome slot (IsOver lent)
over_lent database lent slots number slot are there at is_lent =
    subst (λ o. IfSome o (IsOver lent)) (sym at)
    (subst (λ d. IfSome (get_or slots number slot) (IsOver d)) (sym is_lent) (over_at database slots number slot are there))

-- what holds of a slot before and after it is written holds of the statement of its number
pub at_number : (holds : Statement → Option Statement → Type 0) (old new : Connected) (number : ℕ)
    (before after : Option Statement) → number < length old.statements → before ≡ get_or old.statements number before
    → new ≡ with_slot number after old
    → IfSome before (λ s. holds s after) → IfSome (statement_at old number) (λ s. holds s (statement_at new number))
at_number holds old new number before after there at changed is =
    let was : before ≡ statement_at old number = at ∙ get_or_default old.statements number before None there in
    let now : statement_at new number ≡ after =
    ap (λ c. statement_at c number) changed ∙ get_or-set_same old.statements number after None there in
    subst (λ o. IfSome o (λ s. holds s (statement_at new number))) was
    (subst (λ o. IfSome before (λ s. holds s o)) (sym now) is)

-- a statement is taken out of its slot, and one is put back: it is there, and nothing else changes
pub put_back : (old between new : Connected) (number : ℕ) (before after : Statement) → statement_at old number ≡ Some before
    → between ≡ with_slot number None old → new ≡ with_slot number (Some after) between
    → (statement_at new number ≡ Some after) × (new ≡ with_slot number (statement_at new number) old)
put_back old between new number before after is taken put =
    let changed : new ≡ with_slot number (Some after) old =
    put ∙ ap (with_slot number (Some after)) taken
    ∙ ap (λ l. record { database = old.database; statements = l }) (set-set old.statements number None (Some after)) in
    let there : statement_at new number ≡ Some after =
    ap (λ c. statement_at c number) changed
    ∙ get_or-set_same old.statements number (Some after) None (within (cases_lt number (length old.statements))) in
    (there, changed ∙ ap (λ slot. with_slot number slot old) (sym there))
  where
    within : (number < length old.statements) ⊎ (length old.statements ≤ number) → number < length old.statements
    within (inl there) = there
    within (inr past) = let e = sym (get_or_past old.statements number None past) ∙ is in absurd (cc)

-- what is there is written into a slot
slot_again : (c : Connected) (number : ℕ) → with_slot number (statement_at c number) c ≡ c
slot_again c number =
    ap (λ l. record { database = c.database; statements = l }) (set-get_or c.statements number None)

-- where no statement is open under a number, and none is written into its slot, all is as it was
pub still_none : (old new : Connected) (number : ℕ) (before after : Option Statement) → number < length old.statements
    → before ≡ get_or old.statements number before → new ≡ with_slot number after old
    → (before ≡ None → after ≡ None) → statement_at old number ≡ None → new ≡ old
still_none old new number before after there at changed none is =
    let was : before ≡ statement_at old number = at ∙ get_or_default old.statements number before None there in
    changed ∙ ap (λ slot. with_slot number slot old) (none (was ∙ is) ∙ sym is) ∙ slot_again old number

pub slot_now : (c : Connected) (number : ℕ) → c ≡ with_slot number (statement_at c number) c
slot_now c number = sym (slot_again c number)

-- so a database that is as it was has what is there in the slot of a number
pub same_slot : (old new : Connected) (number : ℕ) → new ≡ old → new ≡ with_slot number (statement_at new number) old
same_slot old new number same =
    same ∙ slot_now old number ∙ ap (λ (c : Connected). with_slot number (statement_at c number) old) (sym same)

-- no statement is taken out where none is open
pub none_taken : (old new : Connected) (number : ℕ) → None ≡ statement_at old number → new ≡ with_slot number None old
    → new ≡ old
none_taken old new number none taken = taken ∙ ap (λ slot. with_slot number slot old) none ∙ slot_again old number

-- a statement is put back as it was
pub same_back : (old between new : Connected) (number : ℕ) (before after : Statement) → Some before ≡ statement_at old number
    → between ≡ with_slot number None old → new ≡ with_slot number (Some after) between → after ≡ before → new ≡ old
same_back old between new number before after is taken put same =
    let back = put_back old between new number before after (sym is) taken put in
    back.1 ∙ ap (λ slot. with_slot number slot old) (back.0 ∙ ap Some same ∙ is) ∙ slot_again old number

-- what holds of a statement that is taken out, and of what is put back for it, holds of what the number names before and after
pub put_for : (holds : SpatialDatabase → Option Statement → Option Statement → Type 0) (old between new : Connected)
    (number : ℕ) (before after : Statement) → Some before ≡ statement_at old number
    → between ≡ with_slot number None old → new ≡ with_slot number (Some after) between
    → holds (lent between.database) (Some before) (Some after)
    → holds (lent old.database) (statement_at old number) (statement_at new number)
put_for holds old between new number before after is taken put it =
    let back = put_back old between new number before after (sym is) taken put in
    subst (λ (c : Connected). holds (lent c.database) (statement_at old number) (statement_at new number)) taken
    (subst (λ o. holds (lent between.database) o (statement_at new number)) is
    (subst (λ o. holds (lent between.database) (Some before) o) (sym back.0) it))
