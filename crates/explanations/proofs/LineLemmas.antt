-- The line feeds of two parts of a text are those of both together.
use Rattle.std.proofs.Common.{◌≡◌, ◌∙◌, ◌+◌, ◌≤◌, ℕ, List, ap, cond, drop, sym, take}
use Rattle.std.specs.List.{count_by}
use Rattle.std.proofs.lemmas.List.{take-take}
use Rattle.std.proofs.lemmas.List.Sums.{sum_by-take-drop}
use Rattle.explanations.specs.Lines.{ends_line}

pub both_parts : (text : List ℕ) (at to : ℕ) → at ≤ to
    → count_by ends_line (take at text) + count_by ends_line (drop at (take to text)) ≡ count_by ends_line (take to text)
both_parts text at to before =
    ap (λ front. count_by ends_line front + count_by ends_line (drop at (take to text))) (sym (take-take at to text before))
    ∙ sum_by-take-drop (λ byte. cond (ends_line byte) 1 0) (take to text) at
