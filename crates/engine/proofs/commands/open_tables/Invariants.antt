use Rattle.std.proofs.Common.{◌≡◌, length, take}
use denote.Param.Always.{always_mut}
use Rattle.engine.specs.Commands.{Opens, table_paths}
use Rattle.text_commands.specs.Files.{OpensFile}
use Rattle.engine.proofs.commands.open_tables.Given as goal

-- a reader for each table before this one, whose files are opened
abbrev pub invariant-loop-table : goal.invariant-loop-table
invariant-loop-table g l = record {
  callable : always_mut g.F.FnMut l.initial.opener → always_mut g.F.FnMut l.opener;
  count : length l.readers.items ≡ l.table-index;
  opens : Opens (OpensFile g.F.FnMut) l.fn.opener (take l.table-index (table_paths l.directory l.schema)) l.readers.items
      l.opener;
}
