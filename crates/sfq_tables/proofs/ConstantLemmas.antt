-- What the status of binding a value says.
use Rattle.std.proofs.Common.{◌≡◌, ◌≢◌, ◌⊎◌, ◌∙◌, ap, if◌then◌else◌, inl, inr, refl, sym}
use Rattle.std.proofs.Common.{ℕ, Bool, true, false, Option, Some, None}
use Rattle.library_calls.specs.Refusals.{first_refused, ok, out_of_memory, unknown}
use Rattle.sfq_tables.specs.OpenConstants.{status_of_value}
use Rattle.statements.specs.Constants.{Constant, constant_type, may_replace}
use Rattle.statements.specs.declared.prepared.Statement.{Statement}

-- a value is no text that is refused
pub never_refused : (status k : ℕ) (value : Constant) (slot : Option Statement)
    → (status ≡ out_of_memory) ⊎ (status ≡ status_of_value k value slot) → status ≢ first_refused
never_refused status k value slot (inl e) one = let n : out_of_memory ≡ first_refused = sym e ∙ one in absurd (cc)
never_refused status k value None (inr e) one = let n : unknown ≡ first_refused = sym e ∙ one in absurd (cc)
never_refused status k value (Some s) (inr e) one = go (may_replace (constant_type k s.bound) value) refl
  where
    go : (b : Bool) → may_replace (constant_type k s.bound) value ≡ b → ⊥
    go true is =
        let n : ok ≡ first_refused = sym (e ∙ ap (λ b. if b then ok else unknown) is) ∙ one in absurd (cc)
    go false is =
        let n : unknown ≡ first_refused = sym (e ∙ ap (λ b. if b then ok else unknown) is) ∙ one in absurd (cc)

-- so one of the two statuses that leave all as it was is left
pub unknown_alone : (status : ℕ) → status ≢ first_refused → (status ≡ unknown) ⊎ (status ≡ first_refused) → status ≡ unknown
unknown_alone status other (inl e) = e
unknown_alone status other (inr e) = absurd (other e)
