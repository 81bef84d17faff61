-- The text is read as the same geometry again, so it has the fault.
use Rattle.witnesses.proofs.VerdictLemmas.{first_fault_of}
use Rattle.witnesses.proofs.verdict.faulty.Goals as goal

pub unreachable-requires : goal.unreachable-requires
unreachable-requires c =
    c.in-None.ensures.none (first_fault_of c.args.text.now c.args.fault c.in_ok-geometry.geometry c.requires c.in_ok-geometry.ensures.ok).applies
