-- What an observer counts of the search for rows.
use Rattle.std.specs.Prelude.{ℕ, ◌==◌, if◌then◌else◌}
use Rattle.basics.specs.Counts.{one_more}
use Rattle.streams.specs.declared.rows.RowCount.{RowCount}

-- the counts after one candidate, where this many rows are still to come after its row; the first candidate's number is kept
abbrev pub after_candidate : ℕ → RowCount → RowCount
after_candidate left count = record count {
  candidates = one_more count.candidates;
  first_left = if count.candidates == 0 then left else count.first_left;
  last_left = left;
}

-- the counts after one row of the query
abbrev pub after_row : RowCount → RowCount
after_row count = record count { rows = one_more count.rows }
