-- A query is read by its parts.
use Rattle.std.proofs.Common.{◌≡◌, Some, List, [], ◌∷◌, Result, Ok, Err, IfOk, IfErr, refl}
use Rattle.table_model.specs.Parsers.{Outcome, Parser, Reads, and_then, pure, expect}
use Rattle.table_model.specs.QueryReading.{Reader, condition, reference, joined_on, query}
use Rattle.table_model.specs.declared.faults.QueryFault.{QueryFault}
use Rattle.table_model.specs.declared.faults.QueryFault.TheVariants as fault
use Rattle.table_model.specs.declared.tokens.Token.{Token}
use Rattle.table_model.specs.declared.tokens.TokenKind.TheVariants as k
use Rattle.sql_text.specs.Queries.{joined_reference, by_parts}
use Rattle.sql_text.specs.Steps.{mapped}

-- steps may be grouped as one likes
pub grouped : {F A B C : Type 0} (o : Outcome F A) (f : A → Parser F B) (g : B → Parser F C) → and_then (and_then o f) g ≡ and_then o (λ a ts. and_then (f a ts) g)
grouped (Ok p) f g = refl
grouped (Err e) f g = refl

-- a query is read part by part
pub query_is : (ts : List Token) → query ts ≡ by_parts ts
unfolding query
query_is ts = simp grouped

-- what comes before ON is a step of its own
pub stepped : {F U V A B : Type 0} (o : Outcome F U) (p : Parser F A) (q : Parser F V) (g : A → Parser F B)
    → and_then o (λ _ ts. and_then (p ts) (λ a later. and_then (q later) (λ _. g a))) ≡ and_then (and_then o (λ _ ts. and_then (p ts) (λ a later. and_then (q later) (λ _. pure a)))) g
stepped o p q g = simp grouped

-- a second table reference and then its condition
pub joined_on_is : (ts : List Token) → joined_on ts ≡ and_then (joined_reference ts) (λ reference later. and_then (condition later) (λ x. pure (reference ∷ [], Some x)))
unfolding joined_on
joined_on_is ts = stepped (expect fault.Syntax k.Join ts) reference (expect fault.Syntax k.On) (λ reference later. and_then (condition later) (λ x. pure (reference ∷ [], Some x)))

-- a call's answer with what is made of it is what the reader and then that gives
pub mapped_reads : {A B : Type 0} (f : A → B) (outcome : Outcome QueryFault A) (read : Result A QueryFault) (new : List Token)
    → Reads fault.OutOfMemory outcome read new
    → Reads fault.OutOfMemory (and_then outcome (λ x. pure (f x))) (mapped f read) new
mapped_reads f outcome (Ok x) new r = rw r refl
mapped_reads f outcome (Err e) new r = λ some. rw (r some) refl

-- a call that goes on from what another read gives what the two readers give
pub goes_on : {A B : Type 0} (outcome : Outcome QueryFault A) (on : A → Reader B) (read : Result A QueryFault) (result : Result B QueryFault) (mid new : List Token)
    → Reads fault.OutOfMemory outcome read mid
    → IfOk read (λ x. Reads fault.OutOfMemory (on x mid) result new)
    → IfErr read (λ e. result ≡ Err e)
    → Reads fault.OutOfMemory (and_then outcome on) result new
goes_on outcome on (Ok x) result mid new r f g = rw r f
goes_on outcome on (Err e) result mid new r f g = rw g (λ some. rw (r some) refl)
