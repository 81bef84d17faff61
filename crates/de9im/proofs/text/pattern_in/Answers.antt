-- Nine bytes that write characters are a pattern, and other bytes aren't.
use Rattle.std.proofs.Common.{sym, ◌∙◌, arith}
use Rattle.de9im.proofs.PatternFacts.{pattern_of_text-none, pattern_of_text-nine}
use Rattle.de9im.proofs.text.pattern_in.Goals as goal

pub returns-in_ok-character-in-len9-9 : goal.returns-in_ok-character-in-len9-9
returns-in_ok-character-in-len9-9 c =
    sym (pattern_of_text-nine c.args.bytes.now _ _ _ _ _ _ _ _ _ (omega (arith, c.in-len9.len_at_least, c.in-len9.len_below))
    (sym c.character.ensures ∙ c.in_ok-character-in-len9.was)
    (sym c.character-in-len9.ensures ∙ c.in_ok-character-in-len9-2.was)
    (sym c.character-in-len9-2.ensures ∙ c.in_ok-character-in-len9-3.was)
    (sym c.character-in-len9-3.ensures ∙ c.in_ok-character-in-len9-4.was)
    (sym c.character-in-len9-4.ensures ∙ c.in_ok-character-in-len9-5.was)
    (sym c.character-in-len9-5.ensures ∙ c.in_ok-character-in-len9-6.was)
    (sym c.character-in-len9-6.ensures ∙ c.in_ok-character-in-len9-7.was)
    (sym c.character-in-len9-7.ensures ∙ c.in_ok-character-in-len9-8.was)
    (sym c.character-in-len9-8.ensures ∙ c.in_ok-character-in-len9-9.was))

pub returns-in_default : goal.returns-in_default
returns-in_default c = sym (pattern_of_text-none c.args.bytes.now (λ nine. absurd (omega (arith, c.in_default.len_below, nine))))

pub returns-in_default-2 : goal.returns-in_default-2
returns-in_default-2 c = sym (pattern_of_text-none c.args.bytes.now (λ nine. absurd (omega (arith, c.in_default.len_at_least, nine))))
