-- What was read up to the limit is the beginning of what the reader gives.
use Rattle.std.proofs.Common.{◌≡◌, ◌++◌, ◌∙◌, ℕ, List, IfSome, None, Option, Some, ap, subst, take}
use Rattle.std.specs.Io.Take.{take_inner, take_remaining}
use Rattle.std.specs.Option.{option_map}
use Rattle.sfq_tiles.specs.Checks.{IsRead}
use Rattle.sfq_tiles.specs.declared.inputs.TheConstants.{SCHEMA_BYTES}
use Rattle.sfq_tiles.proofs.inputs.schema_text.Goals as goal

pub returns-in-Ok-clause-text : goal.returns-in-Ok-clause-text
returns-in-Ok-clause-text g c =
    let text = c.read_to_end.new.buf.items in
    let remaining = g.R.Read.remaining in
    let P : List ℕ → Type 0 = λ old. IfSome (take_remaining remaining c.take.result) (λ bytes. text ≡ old ++ bytes) in
    let limited = ap (λ n. option_map (take n) (remaining (take_inner c.take.result))) c.take.ensures.limit in
    let inner = ap (λ r. option_map (take SCHEMA_BYTES) (remaining r)) c.take.ensures.inner in
    by (remaining c.args.file) text
    (subst (λ (known : Option (List ℕ)). IfSome known (λ bytes. text ≡ bytes)) (limited ∙ inner)
    (subst P c.new-text.ensures.items c.in-Ok.ensures.bytes))
  where
    by : (known : Option (List ℕ)) (text : List ℕ) → IfSome (option_map (take SCHEMA_BYTES) known) (λ bytes. text ≡ bytes)
        → IsRead known text
    by None text is = tt
    by (Some bytes) text is = is
