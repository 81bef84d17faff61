-- What is bound, and where a query is refused, agrees with the rules: steps, names and types.
use Rattle.std.proofs.Common.{◌≡◌, inl, inr, ℕ, Bool, true, false, if◌then◌else◌, Ok, Err, IfOk, IfErr, refl, sym, ap, subst, ◌∙◌}
use Rattle.std.proofs.lemmas.Bool.{false≢true}
use Rattle.table_model.specs.Binding.{Checked, ◌>>=◌, geometry_of_type, geometry_only, checked_types}
use Rattle.table_model.specs.BindingRules.{Then, FirstFault, IsGeometryPart, IsNoGeometry}
use Rattle.table_model.specs.declared.faults.QueryFault.{QueryFault}
use Rattle.table_model.specs.declared.faults.QueryFault.TheVariants as faults
use Rattle.table_model.specs.declared.typing.OperandType.{OperandType}
use Rattle.table_model.specs.declared.typing.OperandType.TheVariants as types
use Rattle.table_model.specs.declared.typing.Typed.{Typed}
use Rattle.grammar_laws.specs.RuleLaws.{Agrees}

pub if_ok : {X : Type 0} (r : Checked X) (P Q : X → Type 0) → ((x : X) → P x → Q x) → IfOk r P → IfOk r Q
if_ok (Ok x) P Q to is = to x is
if_ok (Err e) P Q to is = tt

pub if_err : {X : Type 0} (r : Checked X) (P Q : QueryFault → Type 0) → ((e : QueryFault) → P e → Q e) → IfErr r P → IfErr r Q
if_err (Ok x) P Q to is = tt
if_err (Err e) P Q to is = to e is

abbrev IsNot : Bool → Type 0
IsNot true = ⊥
IsNot false = Unit {0}

-- ---- steps

-- what a step returns
pub pure : {X : Type 0} (v : X) → Agrees (λ x. x ≡ v) (λ fault. ⊥) (Ok v)
pure v = record { applies = refl; refused = tt; answers = λ x is. ap Ok (sym is); refuses = λ fault is. absurd is }

-- what a second step returns behind what the first one returned, the rules of both say
returns_then : {X Y : Type 0} (First : X → Type 0) (Refused : QueryFault → Type 0) (Second : X → Y → Type 0) (then_refused : X → QueryFault → Type 0) (r : Checked X) (f : X → Checked Y)
    → Agrees First Refused r → ((x : X) → First x → Agrees (Second x) (then_refused x) (f x)) → IfOk (r >>= f) (Then First Second)
returns_then First Refused Second then_refused (Ok x) f a next = if_ok (f x) (Second x) (Then First Second) (λ y is. (x, a.applies, is)) (next x a.applies).applies
returns_then First Refused Second then_refused (Err e) f a next = tt

-- a fault is the first step's, or the second's behind what the first one returned
faults_then : {X Y : Type 0} (First : X → Type 0) (Refused : QueryFault → Type 0) (Second : X → Y → Type 0) (then_refused : X → QueryFault → Type 0) (r : Checked X) (f : X → Checked Y)
    → Agrees First Refused r → ((x : X) → First x → Agrees (Second x) (then_refused x) (f x)) → IfErr (r >>= f) (FirstFault First Refused then_refused)
faults_then First Refused Second then_refused (Ok x) f a next = if_err (f x) (then_refused x) (FirstFault First Refused then_refused) (λ e is. inr (x, a.applies, is)) (next x a.applies).refused
faults_then First Refused Second then_refused (Err e) f a next = inl a.refused

-- one step after another
pub sequence : {X Y : Type 0} (First : X → Type 0) (Refused : QueryFault → Type 0) (Second : X → Y → Type 0) (then_refused : X → QueryFault → Type 0) (r : Checked X) (f : X → Checked Y)
    → Agrees First Refused r → ((x : X) → First x → Agrees (Second x) (then_refused x) (f x)) → Agrees (Then First Second) (FirstFault First Refused then_refused) (r >>= f)
sequence First Refused Second then_refused r f a next = record {
  applies = returns_then First Refused Second then_refused r f a next;
  refused = faults_then First Refused Second then_refused r f a next;
  answers = λ y is. ap (λ t. t >>= f) (a.answers is.0 is.1) ∙ (next is.0 is.1).answers y is.2;
  refuses = λ e is. elim is [
    | inl first ↦ ap (λ t. t >>= f) (a.refuses e first)
    | inr later ↦ ap (λ t. t >>= f) (a.answers later.0 later.1) ∙ (next later.0 later.1).refuses e later.2
  ];
}

-- a step that may be refused, and then an answer
pub returned : {X Y : Type 0} (First : X → Type 0) (Refused : QueryFault → Type 0) (r : Checked X) (v : X → Y) → Agrees First Refused r
    → Agrees (Then First (λ x y. y ≡ v x)) (FirstFault First Refused (λ x fault. ⊥)) (r >>= (λ x. Ok (v x)))
returned First Refused r v a = sequence First Refused (λ x y. y ≡ v x) (λ x fault. ⊥) r (λ x. Ok (v x)) a (λ x is. pure (v x))

-- a test of a fact between a fault and an answer
pub tested : {X : Type 0} (P : Type 0) (b : Bool) (e : QueryFault) (v : X) → (b ≡ true → P) → (P → b ≡ true)
    → Agrees (λ x. (P → ⊥) × (x ≡ v)) (λ fault. P × (fault ≡ e)) (if b then Err e else Ok v)
tested P true e v is_so is_found = record { applies = tt; refused = (is_so refl, refl); answers = λ x is. absurd (is.0 (is_so refl)); refuses = λ fault is. ap Err (sym is.1) }
tested P false e v is_so is_found = record { applies = (λ p. false≢true (is_found p), refl); refused = tt; answers = λ x is. ap Ok (sym is.1); refuses = λ fault is. absurd (false≢true (is_found is.0)) }

-- a test of types
pub types_tested : {X : Type 0} (b : Bool) (at : ℕ) (v : X) → Agrees (λ x. (b ≡ true) × (x ≡ v)) (λ fault. (b ≡ false) × (fault ≡ faults.TypeMismatch at)) (checked_types b at v)
types_tested true at v = record { applies = (refl, refl); refused = tt; answers = λ x is. ap Ok (sym is.1); refuses = λ fault is. absurd (false≢true (sym is.0)) }
types_tested false at v = record { applies = tt; refused = (refl, refl); answers = λ x is. absurd (false≢true is.0); refuses = λ fault is. ap Err (sym is.1) }

-- ---- geometry arguments

abbrev IsOther : OperandType → Type 0
IsOther types.Geometry = ⊥
IsOther types.Integer = Unit {0}
IsOther types.Text = Unit {0}
IsOther types.Null = Unit {0}

-- any type but geometry is refused
of_other : {X : Type 0} (at : ℕ) (part : X) (type : OperandType) → (type ≡ types.Geometry → ⊥) → geometry_of_type at part type ≡ Err (faults.TypeMismatch at)
    → Agrees (λ x. (type ≡ types.Geometry) × (x ≡ part)) (λ fault. (type ≡ types.Geometry → ⊥) × (fault ≡ faults.TypeMismatch at)) (geometry_of_type at part type)
of_other at part type other is = record {
  applies = subst (λ r. IfOk r (λ x. (type ≡ types.Geometry) × (x ≡ part))) (sym is) tt;
  refused = subst (λ r. IfErr r (λ fault. (type ≡ types.Geometry → ⊥) × (fault ≡ faults.TypeMismatch at))) (sym is) (other, refl);
  answers = λ x has. absurd (other has.0);
  refuses = λ fault has. is ∙ ap Err (sym has.1);
}

-- so the test for a geometry agrees with its rule at each of the four types
of_type : {X : Type 0} (at : ℕ) (part : X) (type : OperandType)
    → Agrees (λ x. (type ≡ types.Geometry) × (x ≡ part)) (λ fault. (type ≡ types.Geometry → ⊥) × (fault ≡ faults.TypeMismatch at)) (geometry_of_type at part type)
of_type at part types.Geometry = record { applies = (refl, refl); refused = tt; answers = λ x is. ap Ok (sym is.1); refuses = λ fault is. absurd (is.0 refl) }
of_type at part types.Integer = of_other at part types.Integer (λ h. subst IsOther h tt) refl
of_type at part types.Text = of_other at part types.Text (λ h. subst IsOther h tt) refl
of_type at part types.Null = of_other at part types.Null (λ h. subst IsOther h tt) refl

-- an argument is taken where its type is geometry, and any other is a mismatch of types
pub geometry_agrees : {X : Type 0} (at : ℕ) (typed : Typed X) → Agrees (IsGeometryPart typed) (IsNoGeometry at typed) (geometry_only at typed)
geometry_agrees at typed = of_type at typed.part typed.part_type
