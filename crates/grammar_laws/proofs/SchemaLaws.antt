-- A text is read exactly where it is a schema, and as those tables.
use Rattle.std.proofs.Common.{◌≡◌, ℕ, ◌≤◌, Bool, true, false, if◌then◌else◌, List, length, Option, Result, Ok, Err, IfOk, nat_lt, refl, subst}
use Rattle.std.proofs.lemmas.Bool.{ltb-false, le-ltb}
use Rattle.grammar_laws.proofs.AsciiWords.{tokens_ascii}
use Rattle.grammar_laws.proofs.LawfulSchemas.{lawful-from_schema}
use Rattle.grammar_laws.proofs.SchemaComplete.{schema_complete}
use Rattle.grammar_laws.proofs.SchemaSound.{schema_sound}
use Rattle.grammar_laws.proofs.TokenReaders.{IfRead}
use Rattle.grammar_laws.proofs.TokensEnd.{tokens_once}
use Rattle.table_model.specs.declared.definitions.TableDef.{TableDef}
use Rattle.table_model.specs.declared.faults.SchemaFault.{SchemaFault}
use Rattle.table_model.specs.declared.faults.SchemaFault.TheVariants as fault
use Rattle.table_model.specs.Outcomes.{Gives}
use Rattle.table_model.specs.Parsers.{Outcome, value_of}
use Rattle.table_model.specs.SchemaGrammar.{AreTables, IsSchema, ReturnsSchema}
use Rattle.table_model.specs.SchemaReading.{schema, schema_of}
use Rattle.table_model.specs.Tokens.{tokens, most_bytes}

-- tables that were read are lawful and are in the grammar; a fault has nothing to show
by_value : {T : Type 0} (geometry : List ℕ → Option T) (text : List ℕ) (r : Outcome SchemaFault (List (TableDef T))) → schema geometry (tokens false text) ≡ r → length text ≤ most_bytes
    → IfRead r (λ tables rest. AreTables geometry tables (tokens false text)) → IfOk (value_of r) (IsSchema geometry text)
unfolding IsSchema
by_value geometry text (Ok p) e short h = (short, lawful-from_schema geometry (tokens false text) p.0 p.1 e, h)
by_value geometry text (Err f) e short h = tt

-- so for a text that isn't too long; a longer one is refused
by_length : {T : Type 0} (geometry : List ℕ → Option T) (text : List ℕ) (long : Bool) → nat_lt most_bytes (length text) ≡ long
    → IfOk (if long then Err fault.TooLong else value_of (schema geometry (tokens false text))) (IsSchema geometry text)
by_length geometry text true e = tt
by_length geometry text false e =
    by_value geometry text (schema geometry (tokens false text)) refl (ltb-false most_bytes (length text) e) (schema_sound geometry (tokens false text) (tokens_once false text))

-- whatever tables a text is read as, it is their schema, as the readers of its tokens keep to their rules
schema_of_sound : {T : Type 0} (geometry : List ℕ → Option T) (text : List ℕ) → IfOk (schema_of geometry text) (IsSchema geometry text)
unfolding schema_of
schema_of_sound geometry text = by_length geometry text (nat_lt most_bytes (length text)) refl

-- what is given as the text's schema is one
pub given_is_schema : {T : Type 0} (geometry : List ℕ → Option T) (text : List ℕ) (tables : List (TableDef T)) → schema_of geometry text ≡ Ok tables → IsSchema geometry text tables
given_is_schema geometry text tables e = subst (λ r. IfOk r (IsSchema geometry text)) e (schema_of_sound geometry text)

-- a schema is read, as those tables
pub schema_of_complete : {T : Type 0} (geometry : List ℕ → Option T) (text : List ℕ) (tables : List (TableDef T)) → IsSchema geometry text tables → schema_of geometry text ≡ Ok tables
unfolding schema_of IsSchema
schema_of_complete geometry text tables (short, are, grammar) =
    rw (le-ltb most_bytes (length text) short, schema_complete geometry tables (tokens false text) grammar (tokens_ascii false text) are) refl

-- whatever schema a text is, that one is given
pub schema_is_given : {T : Type 0} (geometry : List ℕ → Option T) (text : List ℕ) (r : Result (List (TableDef T)) SchemaFault) → Gives fault.OutOfMemory (λ t. t) r (schema_of geometry text)
    → ReturnsSchema geometry text r
schema_is_given geometry text r given tables is = subst (λ answer. Gives fault.OutOfMemory (λ t. t) r answer) (schema_of_complete geometry text tables is) given

-- one answer has one value
same_answer : {A : Type 0} (r : Result A SchemaFault) (a b : A) → r ≡ Ok a → r ≡ Ok b → a ≡ b
same_answer r a b p q = cc

-- a text is one schema at most
pub one_schema : {T : Type 0} (geometry : List ℕ → Option T) (text : List ℕ) (a b : List (TableDef T)) → IsSchema geometry text a → IsSchema geometry text b → a ≡ b
one_schema geometry text a b p q = same_answer (schema_of geometry text) a b (schema_of_complete geometry text a p) (schema_of_complete geometry text b q)
