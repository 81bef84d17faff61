-- The first hidden character, or none.
use Rattle.std.proofs.Common.{◌∙◌, ap, chars, sym}
use Rattle.std.proofs.lemmas.List.{nil_from_length}
use Rattle.std.proofs.lemmas.Str.{IsUtf8-past_char, chars-nil, chars_past_char}
use Rattle.explanations.proofs.marks.has_hidden.Goals as goal

pub returns-then-is_hidden : goal.returns-then-is_hidden
returns-then-is_hidden c =
    let held = c.loop-character.invariant in
    let step = chars_past_char _ _ c.in-Some.character held.0 c.in-Some.ensures.steps.0 in
    let hidden = sym c.is_hidden.ensures ∙ c.if-is_hidden.true in
    rw (step, hidden) at held.1

pub loop-character-preserved : goal.loop-character-preserved
loop-character-preserved c =
    let held = c.loop-character.invariant in
    let parts = c.in-Some.ensures.steps.0 in
    let seen = sym c.is_hidden.ensures ∙ c.if-is_hidden.false in
    let step = chars_past_char _ _ c.in-Some.character held.0 parts in
    (IsUtf8-past_char _ _ c.in-Some.character held.0 parts, rw (step, seen) at held.1)

pub returns : goal.returns
returns c =
    let none = ap chars (nil_from_length _ c.in-None.ensures.steps.0.0) ∙ chars-nil in
    rw none at c.loop-character.invariant.1
