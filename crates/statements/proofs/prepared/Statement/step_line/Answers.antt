-- The line is the first of those that are left.
use Rattle.std.proofs.Common.{◌≡◌, ◌∙◌, ◌≤◌, ◌<◌, ◌+◌, ◌-◌, ◌≢◌, ◌∷◌, []}
use Rattle.std.proofs.Common.{List, ℕ, arith, drop, length, length-drop, refl, subst, sym, take}
use Rattle.std.proofs.lemmas.List.{take_all}
use Rattle.executor.specs.Streams.{Stream, to_come, work_after, work_at_end}
use Rattle.statements.proofs.StepLemmas.{lines_first, lines_none, lines_to_row, lines_work, some_left}
use Rattle.statements.specs.StatementRows.{lines}
use Rattle.statements.specs.Statements.{IsPhaseOf, stream, work_in_all}
use Rattle.streams.specs.MemorySinks.{memory_bytes}
use Rattle.statements.proofs.prepared.Statement.step_line.Goals as goal

pub returns-then-begin-text : goal.returns-then-begin-text
returns-then-begin-text g c =
    let database = c.args.database.now in
    let old = c.args.self.now in
    let before : Stream = stream database old in
    let past : length (memory_bytes old.text) ≤ old.given =
    subst (λ (t : List ℕ). length t ≤ old.given) c.bytes-text.ensures c.if-begin-text.true in
    record {
      gives = λ matrix m.
          let none = lines_none old.phase database old.bound old.plan (to_come matrix before) (work_at_end matrix before)
          (memory_bytes old.text) old.given c.requires.phase past in
          (none, (refl, none));
      counted = λ matrix m. (
        sym (lines_work old.phase old.rows.progress.work
            (work_at_end matrix before) c.requires.phase),
        refl,
      );
      to_row = λ matrix m. tt;
      kept = omega arith;
      bound = refl;
      plan = refl;
      over = record {
        bound = c.requires.over.bound;
        lawful = c.requires.over.lawful;
        rows = c.requires.over.rows;
        phase = c.requires.over.phase;
        row = tt;
      };
    }

pub returns : goal.returns
returns g c =
    let database = c.args.database.now in
    let old = c.args.self.now in
    let before : Stream = stream database old in
    let text : List ℕ = memory_bytes old.text in
    let k : ℕ = c.first_line.result in
    let within : old.given < length text =
    subst (λ (t : List ℕ). old.given < length t) c.bytes-text.ensures (omega arith) in
    let some : drop old.given text ≢ [] = some_left old.text old.given within in
    let bytes : List ℕ = c.bytes-text.result.now in
    let short : length (drop old.given bytes) ≤ length bytes - old.given = omega (arith, length-drop old.given bytes) in
    let whole : take (length bytes - old.given) (drop old.given bytes) ≡ drop old.given bytes =
    take_all (length bytes - old.given) (drop old.given bytes) short in
    let here : drop old.given bytes ≢ []
    → lines (drop old.given bytes) ≡ take k (drop old.given bytes) ∷ lines (drop (k + 1) (drop old.given bytes)) =
    subst (λ (t : List ℕ). t ≢ [] → lines t ≡ take k t ∷ lines (drop (k + 1) t)) whole c.first_line.ensures.first in
    let first : drop old.given text ≢ []
    → lines (drop old.given text) ≡ take k (drop old.given text) ∷ lines (drop (k + 1) (drop old.given text)) =
    subst (λ (b : List ℕ). drop old.given b ≢ [] → lines (drop old.given b)
    ≡ take k (drop old.given b) ∷ lines (drop (k + 1) (drop old.given b))) c.bytes-text.ensures here in
    record {
      gives = λ matrix m. (
        take (old.given + k - old.given) (drop old.given text) ∷ [],
        refl,
        lines_first old.phase database old.bound old.plan (to_come matrix before) (work_at_end matrix before)
            (work_at_end matrix before)
            text old.given k c.requires.phase (first some),
      );
      counted = λ matrix m. refl;
      to_row = λ matrix m.
          sym (lines_work old.phase old.rows.progress.work (work_at_end matrix before) c.requires.phase)
          ∙ lines_to_row old.phase (work_after matrix before 1) (work_in_all matrix database old) c.requires.phase;
      kept = omega arith;
      bound = refl;
      plan = refl;
      over = record {
        bound = c.requires.over.bound;
        lawful = c.requires.over.lawful;
        rows = c.requires.over.rows;
        phase = c.requires.over.phase;
        row = subst (λ p. IsPhaseOf old.bound.explain old.bound.counts p) c.requires.phase c.requires.over.phase;
      };
    }
