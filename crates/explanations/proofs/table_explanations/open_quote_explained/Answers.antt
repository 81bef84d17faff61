-- The place is that of the field, and the sentence is the one that is handed in.
use Rattle.std.proofs.Common.{◌≡◌, ◌-◌, IfOk, List, Ok, Err, Result, Some, inr, subst, ℕ}
use Rattle.explanations.specs.Fields.{IsFieldPlace, without_mark}
use Rattle.explanations.specs.Marks.{IsExplanationBy}
use Rattle.explanations.specs.Tables.{IsFieldNote, in_text, open_quote_sentence}
use Rattle.explanations.proofs.table_explanations.open_quote_explained.Goals as goal

note : {A E : Type 0} (items : A → List ℕ) (text : List ℕ) (number field place at : ℕ) (result : Result A E)
    → IsFieldPlace (without_mark text) number (field - 1) place → at ≡ in_text text place
    → IfOk result (λ e. IsExplanationBy open_quote_sentence text (Some at) (items e))
    → IfOk result (λ e. IsFieldNote text number field (items e))
note items text number field place at (Ok e) is same says =
    inr (place, is, subst (λ p. IsExplanationBy open_quote_sentence text (Some p) (items e)) same says)
note items text number field place at (Err e) is same says = says

pub returns-in-Some-field_place-clause-of_field : goal.returns-in-Some-field_place-clause-of_field
returns-in-Some-field_place-clause-of_field c =
    note (λ e. e.items) c.args.text.now c.args.number c.args.field c.in-Some-field_place.place c.in_text.result c.explained.result
    (rw (c.after_mark-body.ensures.value, c.saturating_sub.ensures) at c.in-Some-field_place.ensures.place) c.in_text.ensures
    c.explained.ensures.says
