-- A text that was looked for is handed out, if it is the one that is wanted.
use Rattle.std.proofs.Common.{◌≡◌, ℕ, List, Result, Ok, Err, inl, inr, subst, sym}
use Rattle.sfq_tables.specs.OpenColumns.{HandsOutText, IsHandedOut}
use Rattle.sfq_tables.specs.declared.missing.Missing.{Missing}
use Rattle.sfq_tables.specs.declared.missing.Missing.TheVariants as missing
use Rattle.table_model.specs.Outcomes.{Gives}

-- what is handed out is what is wanted
same : (found wanted : Result (List ℕ) Missing) (room now : List ℕ) (size written status : ℕ) → wanted ≡ found
    → IsHandedOut (λ (t : List ℕ). t) found room now size written status → HandsOutText wanted room now size written status
same found wanted room now size written status e is =
    inr (subst (λ w. IsHandedOut (λ (t : List ℕ). t) w room now size written status) (sym e) is)

pub hands_out : {V : Type 0} (bytes : V → List ℕ) (found : Result V Missing) (wanted : Result (List ℕ) Missing)
    (room now : List ℕ) (size written status : ℕ)
    → Gives missing.OutOfMemory bytes found wanted
    → IsHandedOut bytes found room now size written status → HandsOutText wanted room now size written status
hands_out bytes (Ok v) wanted room now size written status gives is =
    same (Ok (bytes v)) wanted room now size written status gives is
hands_out bytes (Err missing.OutOfMemory) wanted room now size written status gives is = inl is
hands_out bytes (Err missing.Unknown) wanted room now size written status gives is =
    same (Err missing.Unknown) wanted room now size written status (gives (λ e. cc)) is
hands_out bytes (Err missing.NoRow) wanted room now size written status gives is =
    same (Err missing.NoRow) wanted room now size written status (gives (λ e. cc)) is
hands_out bytes (Err missing.Null) wanted room now size written status gives is =
    same (Err missing.Null) wanted room now size written status (gives (λ e. cc)) is
