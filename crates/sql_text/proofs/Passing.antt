-- What the answers of calls say of the readers that the calls follow, where an answer is passed on with its fault.
use Rattle.std.proofs.Common.{◌≡◌, ◌≢◌, ℕ, suc, Bool, true, false, if◌then◌else◌, ◌&&◌, ◌==◌, List, [], ◌∷◌, ◌++◌, Result, Ok, Err, IfOk, IfErr, refl, ap, ◌∙◌}
use Rattle.table_model.specs.Outcomes.{Gives}
use Rattle.std.specs.Str.Parse.{digits_value}
use Rattle.table_model.specs.Parsers.{Outcome, Reads, and_then, pure, place, spelling, next, sees, after, expect, parts_from, ◌<$>◌}
use Rattle.table_model.specs.QueryReading.{Reader, truth_value, truth_test, negation, group, predicate}
use Rattle.table_model.specs.declared.faults.QueryFault.{QueryFault}
use Rattle.table_model.specs.declared.faults.QueryFault.TheVariants as fault
use Rattle.table_model.specs.declared.queries.WrittenCond.{WrittenCond}
use Rattle.table_model.specs.declared.queries.WrittenCond.TheVariants as tree
use Rattle.table_model.specs.declared.queries.WrittenGeometry.{WrittenGeometry}
use Rattle.table_model.specs.declared.tokens.Token.{Token}
use Rattle.table_model.specs.declared.tokens.TokenKind.{TokenKind}
use Rattle.table_model.specs.declared.tokens.TokenKind.TheVariants as k
use Rattle.sql_text.specs.Predicates.{tested, given, arguments, call}
use Rattle.sql_text.specs.Comparands.{truth, comparand}
use Rattle.sql_text.specs.declared.predicates.Function.{Function}
use Rattle.sql_text.specs.Steps.{closed}

-- ---- a turn of a list of parts: a part is read and kept, and the word between parts is looked for

-- the fault of a part, or of keeping it, ends the list
pub part_fails : {A K : Type 0} (between : TokenKind) (part : Reader A) (n : ℕ) (found kept : List A) (ts mid : List Token) (read : Result A QueryFault) (keeps : Result K QueryFault) (e : QueryFault)
    → Reads fault.OutOfMemory (part ts) read mid
    → IfOk read (λ x. Gives fault.OutOfMemory (λ _. kept) keeps (Ok (found ++ x ∷ [])))
    → IfErr read (λ f. keeps ≡ Err f)
    → keeps ≡ Err e
    → e ≢ fault.OutOfMemory
    → parts_from fault.Syntax between part (suc n) found ts ≡ Err e
unfolding parts_from
part_fails {K = K} between part n found kept ts mid (Ok x) keeps e r f g is some =
    let h : Gives {X = K} {F = QueryFault} fault.OutOfMemory (λ _. kept) (Err e) (Ok (found ++ x ∷ [])) = rw is at f in
    let never : Ok (found ++ x ∷ []) ≡ Err e = h some in
    cc
part_fails between part n found kept ts mid (Err e') keeps e r f g is some =
    let same : e' ≡ e = cc in
    rw (r (rw (← same) at some)) (ap Err same)

-- after a part with the word, the rest of the list
pub part_follows : {A K : Type 0} (between : TokenKind) (part : Reader A) (n : ℕ) (found kept : List A) (ts mid later : List Token) (read : Result A QueryFault) (keeps : Result K QueryFault) (done : K)
    → Reads fault.OutOfMemory (part ts) read mid
    → IfOk read (λ x. Gives fault.OutOfMemory (λ _. kept) keeps (Ok (found ++ x ∷ [])))
    → IfErr read (λ f. keeps ≡ Err f)
    → keeps ≡ Ok done
    → sees between mid ≡ true
    → later ≡ after between mid
    → parts_from fault.Syntax between part (suc n) found ts ≡ parts_from fault.Syntax between part n kept later
unfolding parts_from
part_follows between part n found kept ts mid later (Ok x) keeps done r f g is more at =
    let h : Gives {F = QueryFault} fault.OutOfMemory (λ _. kept) (Ok done) (Ok (found ++ x ∷ [])) = rw is at f in
    let e : found ++ x ∷ [] ≡ kept = cc in
    rw (r, more, e, ← at) refl
part_follows between part n found kept ts mid later (Err e) keeps done r f g is more at = cc

-- ---- what is at a level: NOT, parentheses or a predicate

pub opposite_below : (n : ℕ) (ts later new : List Token) (result : Result (WrittenCond WrittenGeometry) QueryFault)
    → sees k.Not ts ≡ true
    → later ≡ after k.Not ts
    → Reads fault.OutOfMemory ((tree.Not <$> negation n) later) result new
    → Reads fault.OutOfMemory (negation (suc n) ts) result new
unfolding negation after
opposite_below n ts later new result is at r = rw is (rw (rw is at at) at r)

pub group_below : (n : ℕ) (ts mid later new : List Token) (result : Result (WrittenCond WrittenGeometry) QueryFault)
    → sees k.Not ts ≡ false
    → mid ≡ after k.Not ts
    → sees k.LeftParenthesis mid ≡ true
    → later ≡ after k.LeftParenthesis mid
    → Reads fault.OutOfMemory (group (negation n) later) result new
    → Reads fault.OutOfMemory (negation (suc n) ts) result new
unfolding negation after
group_below n ts mid later new result isnt same is at r =
    let here = rw isnt at same in
    let e = rw is at at in
    rw (isnt, ← here, is) (rw e at r)

pub predicate_below : (n : ℕ) (ts mid later new : List Token) (result : Result (WrittenCond WrittenGeometry) QueryFault)
    → sees k.Not ts ≡ false
    → mid ≡ after k.Not ts
    → sees k.LeftParenthesis mid ≡ false
    → later ≡ after k.LeftParenthesis mid
    → Reads fault.OutOfMemory (predicate later) result new
    → Reads fault.OutOfMemory (negation (suc n) ts) result new
unfolding negation after
predicate_below n ts mid later new result isnt same is at r =
    let here = rw isnt at same in
    let e = rw is at at in
    rw (isnt, ← here, is) (rw e at r)

-- ---- what a predicate is compared with

-- the digit says whether the predicate or its NOT is read
pub truth_gives : {A : Type 0} (x : WrittenCond A) (ts : List Token) → truth_value x ts ≡ and_then (truth ts) (λ holds. pure (given holds x))
unfolding truth_value
truth_gives {A = A} x ts = go (sees k.Integer ts && digits_value 10 (spelling ts) == 1) (sees k.Integer ts && digits_value 10 (spelling ts) == 0)
  where
    go : (one zero : Bool)
        → ◌≡◌ {A = Outcome QueryFault (WrittenCond A)} (if one then Ok (x, next ts) else (if zero then Ok (tree.Not x, next ts) else Err (fault.Syntax (place ts))))
        (and_then (if one then Ok (true, next ts) else (if zero then Ok (false, next ts) else Err (fault.Syntax (place ts)))) (λ holds. pure (given holds x)))
    go true zero = refl
    go false true = refl
    go false false = refl

-- a call that may want memory returns what the reader gives
pub given_reads : {A : Type 0} (outcome : Outcome QueryFault A) (y : A) (result : Result A QueryFault) (new : List Token)
    → Gives fault.OutOfMemory (λ it. it) result (Ok y)
    → outcome ≡ Ok (y, new)
    → Reads fault.OutOfMemory outcome result new
given_reads outcome y (Ok x) new g e =
    let same : y ≡ x = cc in
    rw (e, same) refl
given_reads outcome y (Err f) new g e = λ some. let never : Ok y ≡ Err f = g some in cc

-- a predicate with what it is compared with is itself or its NOT
pub test_gives : {A : Type 0} (x : WrittenCond A) (ts : List Token) → truth_test x ts ≡ and_then (comparand ts) (λ holds. pure (given holds x))
unfolding truth_test
test_gives {A = A} x ts = go (sees k.Equal ts) (after k.Equal ts)
  where
    go : (compared : Bool) (later : List Token)
        → ◌≡◌ {A = Outcome QueryFault (WrittenCond A)} ((if compared then truth_value x else pure x) later) (and_then ((if compared then truth else pure true) later) (λ holds. pure (given holds x)))
    go true later = truth_gives x later
    go false later = refl

-- the same after the arguments of the predicate
test_after : {A : Type 0} (o : Outcome QueryFault (WrittenCond A))
    → and_then o truth_test ≡ and_then {A = WrittenCond A × Bool} (and_then o (λ call ts. and_then (comparand ts) (λ holds. pure (call, holds)))) (λ test. pure (given test.1 test.0))
test_after (Ok p) = test_gives p.0 p.1 ∙ split p.0 (comparand p.1)
  where
    split : {A : Type 0} (call : WrittenCond A) (o : Outcome QueryFault Bool)
        → ◌≡◌ {A = Outcome QueryFault (WrittenCond A)} (and_then o (λ holds. pure (given holds call))) (and_then {A = WrittenCond A × Bool} (and_then o (λ holds. pure (call, holds))) (λ test. pure (given test.1 test.0)))
    split call (Ok p) = refl
    split call (Err e) = refl
test_after (Err e) = refl

-- a call that may want memory returns what is made of what was read before
made_reads : {A B : Type 0} (made : A → B) (outcome : Outcome QueryFault A) (read : Result A QueryFault) (result : Result B QueryFault) (new : List Token)
    → Reads fault.OutOfMemory outcome read new
    → IfOk read (λ x. Gives fault.OutOfMemory (λ it. it) result (Ok (made x)))
    → IfErr read (λ e. result ≡ Err e)
    → Reads fault.OutOfMemory (and_then outcome (λ x. pure (made x))) result new
made_reads made outcome (Ok x) result new r f g = given_reads (and_then outcome (λ y. pure (made y))) (made x) result new f (rw r refl)
made_reads made outcome (Err e) result new r f g = rw g (λ some. rw (r some) refl)

-- a call of a predicate, from its arguments on
call_reads : {A : Type 0} (outcome : Outcome QueryFault (WrittenCond A)) (read : Result (WrittenCond A) QueryFault) (test : Result (WrittenCond A × Bool) QueryFault) (result : Result (WrittenCond A) QueryFault) (mid new : List Token)
    → Reads fault.OutOfMemory outcome read mid
    → IfOk read (λ x. Reads fault.OutOfMemory (tested x mid) test new)
    → IfErr read (λ e. test ≡ Err e)
    → IfOk test (λ it. Gives fault.OutOfMemory (λ it. it) result (Ok (given it.1 it.0)))
    → IfErr test (λ e. result ≡ Err e)
    → Reads fault.OutOfMemory (and_then (and_then outcome closed) truth_test) result new
call_reads outcome (Ok x) test result mid new r f g h i =
    rw (r, test_after (closed x mid)) (made_reads (λ it. given it.1 it.0) (tested x mid) test result new f h i)
call_reads outcome (Err e) test result mid new r f g h i =
    let failed : result ≡ Err e = rw g at i in
    rw failed (λ some. rw (r some) refl)

-- after a step that reads no value the rest is read
opened_reads : {A : Type 0} (o : Outcome QueryFault (Unit {0})) (reader : Reader (WrittenCond A)) (result : Result (WrittenCond A) QueryFault) (u : Unit {0}) (later new : List Token)
    → o ≡ Ok (u, later)
    → Reads fault.OutOfMemory (and_then (and_then (reader later) closed) truth_test) result new
    → Reads fault.OutOfMemory (and_then (and_then o (λ _ ts. and_then (reader ts) closed)) truth_test) result new
opened_reads o reader result u later new e r = rw e r

-- a call of a predicate, from its name on
pub call_gives : (function : Function) (at : ℕ) (ts begun later mid new : List Token) (u : Unit {0}) (read : Result (WrittenCond WrittenGeometry) QueryFault) (test : Result (WrittenCond WrittenGeometry × Bool) QueryFault) (result : Result (WrittenCond WrittenGeometry) QueryFault)
    → at ≡ place ts
    → begun ≡ next ts
    → expect fault.Syntax k.LeftParenthesis begun ≡ Ok (u, later)
    → Reads fault.OutOfMemory (arguments function at later) read mid
    → IfOk read (λ x. Reads fault.OutOfMemory (tested x mid) test new)
    → IfErr read (λ e. test ≡ Err e)
    → IfOk test (λ it. Gives fault.OutOfMemory (λ it. it) result (Ok (given it.1 it.0)))
    → IfErr test (λ e. result ≡ Err e)
    → Reads fault.OutOfMemory (call function ts) result new
call_gives function at ts begun later mid new u read test result there follows opens r f g h i =
    opened_reads (expect fault.Syntax k.LeftParenthesis (next ts)) (arguments function (place ts)) result u later new
    (rw follows at opens)
    (call_reads (arguments function (place ts) later) read test result mid new (rw there at r) f g h i)
