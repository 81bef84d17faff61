-- Lists that are returned one after another, and the faults that end a step.
use Rattle.std.proofs.Common.{◌≡◌, ◌≢◌, List, ◌++◌, Ok, Err, sym, ap, ◌∙◌}
use Rattle.std.specs.Prelude.{IsErrAnd}
use Rattle.table_model.specs.Binding.{Checked, ◌>>=◌}
use Rattle.table_model.specs.declared.faults.QueryFault.{QueryFault}
use Rattle.table_model.specs.declared.faults.QueryFault.TheVariants as faults
use Rattle.spatial_sql.specs.Scopes.{Binds}

-- an answer behind what comes before it
abbrev pub behind : {X : Type 0} → List X → Checked (List X) → Checked (List X)
behind front (Ok xs) = Ok (front ++ xs)
behind front (Err e) = Err e

-- a fault of a step is the answer, whatever would have come next
pub fault-stays : {X Y : Type 0} (r : Checked Y) (e : QueryFault) (answer : Checked X) (next : X → Checked Y) → IsErrAnd r (λ f. f ≡ e)
    → (e ≢ faults.OutOfMemory → answer ≡ Err e) → Binds r (answer >>= next)
fault-stays (Ok y) e answer next is given = absurd is
fault-stays (Err f) e answer next is given = λ other. ap (λ a. a >>= next) (given (λ wants. other (is ∙ wants))) ∙ ap Err (sym is)
