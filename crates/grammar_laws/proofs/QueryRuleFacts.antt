-- What a whole query is bound to, and where it is refused, agrees with the rules.
use Rattle.std.proofs.Common.{◌≡◌, inl, inr, List, Option, Some, None, Ok, refl, sym, subst}
use Rattle.table_model.specs.Binding.{Checked, GeometryBinding, ◌>>=◌, bound_cond, bound_items, bound_references, bound_whole, counts, statement}
use Rattle.table_model.specs.BindingRules.{FirstFault, GeometryRules, IsCond, IsRefusedCond, Then, geometry_rules}
use Rattle.table_model.specs.GeometryColumns.{geometry_binding}
use Rattle.table_model.specs.QueryRules.{AreItems, AreRefusedItems, IsBinding, IsFrom, IsRefusedFrom, IsRefusedQuery, IsRefusedWhole, IsStatement, IsWhole}
use Rattle.table_model.specs.Statements.{Statement, by_conjuncts}
use Rattle.table_model.specs.declared.conditions.Cond.{Cond}
use Rattle.table_model.specs.declared.conditions.Item.{Item}
use Rattle.table_model.specs.declared.conditions.Reference.{Reference}
use Rattle.table_model.specs.declared.definitions.TableDef.{TableDef}
use Rattle.table_model.specs.declared.faults.QueryFault.{QueryFault}
use Rattle.table_model.specs.declared.queries.Query.{Query}
use Rattle.table_model.specs.declared.queries.WrittenCond.{WrittenCond}
use Rattle.grammar_laws.specs.RuleLaws.{Agrees, BindingsAgree, GeometryAgrees, StatementsAgree}
use Rattle.grammar_laws.proofs.CondRules.{cond_agrees}
use Rattle.grammar_laws.proofs.Filtering.{bound_of_statement}
use Rattle.grammar_laws.proofs.FromFacts.{from_agrees}
use Rattle.grammar_laws.proofs.GeometryRuleFacts.{geometry_agrees}
use Rattle.grammar_laws.proofs.ItemRules.{items_agree}
use Rattle.grammar_laws.proofs.RuleFacts.{returned, if_err, if_ok, pure, sequence}

-- ---- rules that say the same

-- what is bound may be said in another way
restated : {X : Type 0} (P Q : X → Type 0) (Refused : QueryFault → Type 0) (r : Checked X) → ((x : X) → P x → Q x) → ((x : X) → Q x → P x) → Agrees P Refused r → Agrees Q Refused r
restated P Q Refused r to from a = record { applies = if_ok r P Q to a.applies; refused = a.refused; answers = λ x is. a.answers x (from x is); refuses = a.refuses }

-- ---- the whole query

-- an ON or WHERE that is absent binds to none, any other to its condition
whole_agrees : {T A B C D : Type 0} (rules : GeometryRules T A B C D) (how : GeometryBinding T A B C D) → GeometryAgrees rules how → (schema : List (TableDef T)) (references : List Reference) (w : Option (WrittenCond A))
    → Agrees (IsWhole rules schema references w) (IsRefusedWhole rules schema references w) (bound_whole how schema references w)
whole_agrees rules how agrees schema references None = pure None
whole_agrees rules how agrees schema references (Some w) =
    returned (IsCond rules schema references w) (IsRefusedCond rules schema references w) (bound_cond how schema references w) Some (cond_agrees rules how agrees schema references w)

stated : {A B C D : Type 0} → Query A C → List Reference → List (Item D) → Option (Cond B) → Option (Cond B) → Statement B D
stated query references listed on condition =
    record { explain = query.explain; references = references; items = listed; on = on; condition = condition; counts = counts query.selection; limit = query.limit }

-- what a query is bound to, step after step
InSteps : {T A B C D : Type 0} → GeometryRules T A B C D → List (TableDef T) → Query A C → Statement B D → Type 0
InSteps rules schema query =
    Then (IsFrom schema query.references) (λ references. Then (AreItems rules schema references query.selection)
    (λ listed. Then (IsWhole rules schema references query.on) (λ on. Then (IsWhole rules schema references query.condition)
    (λ condition s. s ≡ stated query references listed on condition))))

-- FROM, the select list, ON and WHERE are bound one after another, and the first fault is the query's
steps_agree : {T A B C D : Type 0} (rules : GeometryRules T A B C D) (how : GeometryBinding T A B C D) → GeometryAgrees rules how → (schema : List (TableDef T)) (query : Query A C)
    → Agrees (InSteps rules schema query) (IsRefusedQuery rules schema query) (statement how schema query)
unfolding InSteps stated
steps_agree rules how agrees schema query =
    sequence (IsFrom schema query.references) (IsRefusedFrom schema query.references) _ _ (bound_references schema query.references) _ (from_agrees schema query.references)
    (λ references are. sequence (AreItems rules schema references query.selection) (AreRefusedItems rules schema references query.selection) _ _ (bound_items how schema references query.selection) _
    (items_agree rules how agrees schema references query.selection)
    (λ listed listed_are. sequence (IsWhole rules schema references query.on) (IsRefusedWhole rules schema references query.on) _ _ (bound_whole how schema references query.on) _
    (whole_agrees rules how agrees schema references query.on)
    (λ on on_is. returned (IsWhole rules schema references query.condition) (IsRefusedWhole rules schema references query.condition) (bound_whole how schema references query.condition)
    (λ condition. stated query references listed on condition) (whole_agrees rules how agrees schema references query.condition))))

-- what the steps return is what the rules say of a query, part by part
of_steps : {T A B C D : Type 0} (rules : GeometryRules T A B C D) (schema : List (TableDef T)) (query : Query A C) (s : Statement B D) → InSteps rules schema query s → IsStatement rules schema query s
unfolding InSteps stated
of_steps rules schema query s is =
    subst (IsStatement rules schema query) (sym is.2.2.2.2) (record { references = is.1; items = is.2.1; on = is.2.2.1; condition = is.2.2.2.1; explain = refl; counts = refl; limit = refl })

-- and what the rules say, the steps return
to_steps : {T A B C D : Type 0} (rules : GeometryRules T A B C D) (schema : List (TableDef T)) (query : Query A C) (s : Statement B D) → IsStatement rules schema query s → InSteps rules schema query s
unfolding InSteps stated
to_steps rules schema query s is = (
  s.references,
  is.references,
  (
    s.items,
    is.items,
    (
      s.on,
      is.on,
      (
        s.condition,
        is.condition,
        λ i. record { explain = is.explain i; references = s.references; items = s.items; on = s.on; condition = s.condition; counts = is.counts i; limit = is.limit i },
      ),
    ),
  ),
)

-- so a query as it is written agrees with the rules
statement_agrees : {T A B C D : Type 0} (rules : GeometryRules T A B C D) (how : GeometryBinding T A B C D) → GeometryAgrees rules how → (schema : List (TableDef T)) (query : Query A C)
    → Agrees (IsStatement rules schema query) (IsRefusedQuery rules schema query) (statement how schema query)
statement_agrees rules how agrees schema query =
    restated (InSteps rules schema query) (IsStatement rules schema query) (IsRefusedQuery rules schema query) (statement how schema query) (of_steps rules schema query) (to_steps rules schema query)
    (steps_agree rules how agrees schema query)

-- with its conjuncts it is refused where it is refused as it is written
with_conjuncts : {A C : Type 0} (Is : Statement A C → Type 0) (Refused : QueryFault → Type 0) (r : Checked (Statement A C)) → Agrees Is Refused r
    → Agrees (Then Is (λ s bound. bound ≡ by_conjuncts s)) Refused (r >>= (λ s. Ok (by_conjuncts s)))
with_conjuncts Is Refused r a = record {
  applies = (returned Is Refused r by_conjuncts a).applies;
  refused = if_err (r >>= (λ s. Ok (by_conjuncts s))) (FirstFault Is Refused (λ s fault. ⊥)) Refused none_later (returned Is Refused r by_conjuncts a).refused;
  answers = (returned Is Refused r by_conjuncts a).answers;
  refuses = λ fault is. (returned Is Refused r by_conjuncts a).refuses fault (inl is);
}
  where
    none_later : (e : QueryFault) → FirstFault Is Refused (λ s fault. ⊥) e → Refused e
    none_later e (inl is) = is
    none_later e (inr is) = absurd is.2

-- geometries and patterns agree, so queries with them do
pub statements_agree : StatementsAgree
statements_agree schema query = statement_agrees geometry_rules geometry_binding geometry_agrees schema query

-- binding to conjuncts is binding as it is written with the conjuncts taken last, which refuses nothing
pub bindings_agree : BindingsAgree
bindings_agree schema query =
    subst (Agrees (IsBinding geometry_rules schema query) (IsRefusedQuery geometry_rules schema query)) (sym (bound_of_statement _ _ _ _ _ geometry_binding schema query))
    (with_conjuncts (IsStatement geometry_rules schema query) (IsRefusedQuery geometry_rules schema query) (statement geometry_binding schema query) (statements_agree schema query))
