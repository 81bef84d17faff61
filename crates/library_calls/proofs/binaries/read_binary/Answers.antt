-- What was read is tested.
use Rattle.std.proofs.Common.{◌≡◌, ◌∙◌, ap, Err, Some, sym, subst}
use Rattle.std.specs.Prelude.{MatchOption}
use Rattle.geometry_model.specs.FirstFaults.{validity_fault}
use Rattle.library_calls.specs.Binaries.{IsUnread, valid_binary}
use Rattle.library_calls.specs.declared.binaries.Unread.TheVariants as unread
use Rattle.library_calls.proofs.BinaryFacts.{bytes_unread, read_valid, read_invalid}
use Rattle.library_calls.proofs.binaries.read_binary.Goals as goal

pub returns-in-Err-clause-refused : goal.returns-in-Err-clause-refused
returns-in-Err-clause-refused c =
    subst (IsUnread (valid_binary c.args.grid.now c.args.bytes.now)) (sym c.of.ensures)
    (bytes_unread c.args.grid.now c.args.bytes.now c.in-Err.fault c.in-Err.ensures.refused)

pub returns-in-Ok-check-clause-read : goal.returns-in-Ok-check-clause-read
returns-in-Ok-check-clause-read c = record {
  found = c.in-Ok.found;
  is_read = record {
    read = c.in-Ok.ensures.ok;
    checked = read_valid c.args.grid.now c.args.bytes.now c.in-Ok.found c.in-Ok.ensures.ok c.in-Ok-check.ensures.faultless;
    valid = c.in-Ok-check.ensures.valid;
  };
  geometry = c.in-Ok-check.ensures.same;
  notes_are = c.of-notes.ensures;
}

pub returns-in-Some-clause-refused : goal.returns-in-Some-clause-refused
returns-in-Some-clause-refused c =
    read_invalid c.args.grid.now c.args.bytes.now c.in-Ok.found c.in-Some.fault c.in-Ok.ensures.ok
    (subst (λ o. MatchOption o (Unit {0}) (λ found. validity_fault c.in-Ok.found.geometry ≡ Some found))
    (sym c.validity_fault.ensures ∙ c.in-Some.is)
    c.in-Err-check.ensures.fault)
    ∙ ap (λ n. Err (unread.Refused n)) (sym c.of-in-Some.ensures)
