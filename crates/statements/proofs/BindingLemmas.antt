-- What binding a constant comes to: a value was put in its place or not; and queries without conditions or rows stay bound.
use Rattle.std.proofs.Common.{◌≡◌, ◌≢◌, ◌∙◌, ℕ, Bool, true, false, if◌then◌else◌, ap, refl, sym}
use Rattle.statements.specs.BoundConstants.{ended, without_conditions}
use Rattle.statements.specs.Constants.{Constant, constant_type, may_replace, with_constant, with_fitting}
use Rattle.statements.specs.declared.constants.Put.{Put}
use Rattle.statements.specs.declared.constants.Put.TheVariants as puts
use Rattle.table_model.specs.BoundQueries.{IsBound, geometry_fits}
use Rattle.table_model.specs.SpatialTables.{SpatialQuery, SpatialSchema}

pub without_bound : (query : SpatialQuery) (definitions : SpatialSchema) → IsBound geometry_fits definitions query
    → IsBound geometry_fits definitions (without_conditions query)
without_bound query definitions is =
    record { references = is.references; items = is.items; conjuncts = refl; counted = is.counted }

pub ended_bound : (query : SpatialQuery) (definitions : SpatialSchema) → IsBound geometry_fits definitions query
    → IsBound geometry_fits definitions (ended query)
ended_bound query definitions is =
    record { references = is.references; items = is.items; conjuncts = is.conjuncts; counted = λ e. cc }

-- a value that is put replaces the constant, which takes it
pub is_put : (k : ℕ) (value : Constant) (old new : SpatialQuery) (put : Put) → put ≡ puts.Done
    → put ≡ (if may_replace (constant_type k old) value then puts.Done else puts.Refused value) → new ≡ with_fitting k value old
    → (may_replace (constant_type k old) value ≡ true) × (new ≡ with_constant k value old)
is_put k value old new put done given is = go (may_replace (constant_type k old) value) refl
  where
    go : (b : Bool) → may_replace (constant_type k old) value ≡ b
        → (may_replace (constant_type k old) value ≡ true) × (new ≡ with_constant k value old)
    go true e = (e, is ∙ ap (λ b. if b then with_constant k value old else old) e)
    go false e =
        let n : puts.Done ≡ puts.Refused value = sym done ∙ given ∙ ap (λ b. if b then puts.Done else puts.Refused value) e in
        absurd (cc)

-- a value that isn't put changes nothing: no constant takes it
pub not_put : (k : ℕ) (value back : Constant) (old new : SpatialQuery) (put : Put) → put ≡ puts.Refused back
    → put ≡ (if may_replace (constant_type k old) value then puts.Done else puts.Refused value) → new ≡ with_fitting k value old
    → (may_replace (constant_type k old) value ≡ false) × (new ≡ old)
not_put k value back old new put refused given is = go (may_replace (constant_type k old) value) refl
  where
    go : (b : Bool) → may_replace (constant_type k old) value ≡ b
        → (may_replace (constant_type k old) value ≡ false) × (new ≡ old)
    go true e =
        let n : puts.Refused back ≡ puts.Done =
        sym refused ∙ given ∙ ap (λ b. if b then puts.Done else puts.Refused value) e in absurd (cc)
    go false e = (e, is ∙ ap (λ b. if b then with_constant k value old else old) e)

-- so it isn't as if it were put
pub never_put : (back : Constant) (put : Put) → put ≡ puts.Refused back → put ≢ puts.Done
never_put back put refused done = let n : puts.Refused back ≡ puts.Done = sym refused ∙ done in absurd (cc)
