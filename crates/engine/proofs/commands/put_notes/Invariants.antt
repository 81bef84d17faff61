use Rattle.std.proofs.Common.{take}
use denote.Param.Always.{always_mut}
use Rattle.engine.specs.Commands.{NotesTables, table_names}
use Rattle.text_commands.specs.Files.{OpensFile}
use Rattle.engine.proofs.commands.put_notes.Given as goal

-- what there is to say of the tables before this one is written
abbrev pub invariant-loop-table : goal.invariant-loop-table
invariant-loop-table g l = record {
  callable : always_mut g.F.FnMut l.initial.opener → always_mut g.F.FnMut l.opener;
  notes : NotesTables (OpensFile g.F.FnMut) g.R.Read.remaining g.M.Sink.taken g.M.Sink.failures l.directory
      (take l.table-index (table_names l.schema)) l.fn.opener l.opener
      l.fn.more l.more;
}
