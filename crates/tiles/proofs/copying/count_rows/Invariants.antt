use Rattle.std.proofs.Common.{◌≡◌, ◌+◌, ◌==◌, ℕ, get_or, take, vec_len}
use Rattle.std.specs.List.{count_by}
use Rattle.tiles.proofs.copying.count_rows.Given as goal

-- each cell has one more for each time that its number came
abbrev pub invariant-loop-number : goal.invariant-loop-number
invariant-loop-number l = record {
  counts : vec_len l.counts ≡ vec_len l.initial.counts;
  counted : (k : ℕ) → get_or l.counts.items k 0 ≡ get_or l.initial.counts.items k 0 + count_by (λ n. n == k) (take l.number-index l.numbers);
}
