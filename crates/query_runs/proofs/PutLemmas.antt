-- How a text of two parts is written by calls that make texts in memory.
use Rattle.std.proofs.Common.{◌≡◌, ℕ, List, ◌++◌, Option, Result, Ok, Err, refl, sym, ◌∙◌, subst}
use Rattle.std.specs.Prelude.{IsErrAnd}
use Rattle.std.specs.Io.KnownBytes.{Appends}
use Rattle.std.proofs.KnownBytes.{Keeps-refl}
use Rattle.query_runs.specs.Puts.{PutsText}
use Rattle.streams.specs.RecordWriters.{CountsPut}
use Rattle.streams.specs.declared.put_fault.PutFault.{PutFault}
use Rattle.streams.specs.declared.put_fault.PutFault.TheVariants as put
use Rattle.streams.specs.Sinks.{AppendsFront}
use Rattle.streams.proofs.SinkLemmas.{Appends-then, AppendsFront-kept, AppendsFront-more, AppendsFront-then}

-- memory ran out before anything was put
pub put-none : {A : Type 0} (r : Result A PutFault) (text : List ℕ) (old : Option (List ℕ)) (before : ℕ) → IsErrAnd r (λ f. f ≡ put.Memory) → PutsText r text old old before before
put-none (Ok a) text old before is = absurd is
put-none {A = A} (Err e) text old before is = record {
  whole = tt;
  front = AppendsFront-kept old old text (Keeps-refl old);
  failures = subst (λ f. CountsPut {A = A} before before (Err f)) (sym is) refl;
}

-- what a failure counts is the same, whatever would have been returned
pub counts-as : (A B : Type 0) (e : PutFault) (before after : ℕ) → CountsPut {A = A} before after (Err e) → CountsPut {A = B} before after (Err e)
counts-as A B put.Sink before after is = is
counts-as A B put.Memory before after is = is

-- a beginning was put where the sink failed or memory ran out
pub put-begun : {A : Type 0} (r : Result A PutFault) (e : PutFault) (text : List ℕ) (old new : Option (List ℕ)) (before after : ℕ) → IsErrAnd r (λ f. f ≡ e)
    → AppendsFront old new text → CountsPut {A = A} before after (Err e) → PutsText r text old new before after
put-begun (Ok a) e text old new before after is front counts = absurd is
put-begun {A = A} (Err f) e text old new before after is front counts = record {
  whole = tt;
  front = front;
  failures = subst (λ x. CountsPut {A = A} before after (Err x)) (sym is) counts;
}

-- a first part was put whole, and then what was put after it
pub put-then : {A : Type 0} (r : Result A PutFault) (first rest : List ℕ) (a b c : Option (List ℕ)) (n m k : ℕ) → Appends a b first → m ≡ n
    → PutsText r rest b c m k → PutsText r (first ++ rest) a c n k
put-then (Ok v) first rest a b c n m k before same after = record {
  whole = Appends-then a b c first rest before after.whole;
  front = tt;
  failures = after.failures ∙ same;
}
put-then {A = A} (Err e) first rest a b c n m k before same after = record {
  whole = tt;
  front = AppendsFront-then a b c first rest before after.front;
  failures = subst (λ x. CountsPut {A = A} x k (Err e)) same after.failures;
}

-- a first part that failed is a beginning of both
pub first-begun : {B : Type 0} (r : Result B PutFault) (e : PutFault) (first rest : List ℕ) (old new : Option (List ℕ)) (before after : ℕ) → IsErrAnd r (λ f. f ≡ e)
    → AppendsFront old new first → CountsPut {A = B} before after (Err e) → PutsText r (first ++ rest) old new before after
first-begun r e first rest old new before after is front counts =
    put-begun r e (first ++ rest) old new before after is (AppendsFront-more old new first rest front) counts

-- the same text
pub put-same : {A : Type 0} (r : Result A PutFault) (text these : List ℕ) (old new : Option (List ℕ)) (before after : ℕ) → text ≡ these → PutsText r text old new before after → PutsText r these old new before after
put-same r text these old new before after is fact = subst (λ t. PutsText r t old new before after) is fact
