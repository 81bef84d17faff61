-- The file's pairs are related, and the command ends so.
use Rattle.std.proofs.Common.{refl}
use Rattle.text_commands.proofs.served.serve_pairs.Goals as goal

pub returns : goal.returns
returns g c = record {
  serves = record {
    end = c.relate_file-end.result;
    ends = (
      c.opener-file.result,
      c.opener-file.new.self,
      record { shown = c.args.path; shows = refl; called = c.opener-file.ensures },
      c.relate_file-end.ensures.relates,
    );
    returned = c.ended.ensures.status;
    reported = c.ended.ensures.line;
  };
  unasked = λ is. c.relate_file-end.ensures.closed (c.new-notes.ensures.unasked is);
}
