-- The name and the method make the line.
use Rattle.explain.proofs.PutLemmas.{puts-same}
use Rattle.explain.proofs.TextLemmas.{scan_line, probe_line}
use Rattle.explain.proofs.access_lines.put_access.Goals as goal

pub returns-in-Scan : goal.returns-in-Scan
returns-in-Scan g c =
    puts-same (scan_line c.args.references.now c.args.role.now c.name_at-name.result.now c.args.access c.in-Scan.is
    c.name_at-name.ensures) c.put_line.ensures

pub returns-in-Probe : goal.returns-in-Probe
returns-in-Probe g c =
    puts-same (probe_line c.args.references.now c.args.role.now c.name_at-name.result.now c.digits.result.now c.args.access
    c.in-Probe.place c.in-Probe.is c.name_at-name.ensures c.digits.ensures) c.put_line-in-Probe.ensures
