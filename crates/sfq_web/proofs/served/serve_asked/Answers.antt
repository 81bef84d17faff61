-- The sinks were empty before, and those of the answer and of the line of a failure have failed no more than before.
use Rattle.std.proofs.Common.{◌∙◌, ap, refl, subst, sym}
use Rattle.streams.specs.MemorySinks.{memory_bytes}
use Rattle.sfq_web.specs.Servings.{EndsOrder, ServesHanded, handed, unread_status}
use Rattle.sfq_web.proofs.ServingFacts.{same_bytes}
use Rattle.sfq_web.proofs.served.serve_asked.Goals as goal

pub returns : goal.returns
returns c =
    let served = c.serve_handed-status in
    let files = handed c.args.handing.now in
    let ends : EndsOrder c.args.order files unread_status served.new.out served.new.err served.new.more = record {
      old_out = c.new-out.result;
      old_err = c.new-err.result;
      old_said = c.new-more.result;
      no_out = c.new-out.ensures.empty;
      no_err = c.new-err.ensures.empty;
      no_said = c.new-more.ensures.empty;
      serves = subst (λ n. ServesHanded c.new-out.result served.new.out c.new-more.result served.new.more files c.args.order n
          c.new-err.result served.new.err)
          c.if-status-eq-UNREAD.true served.ensures.serves;
    } in
    ((served.new.out, served.new.err, served.new.more, ends), c.in-Some.ensures.missed)

pub returns-2 : goal.returns-2
returns-2 c = record {
  new_out = c.serve_handed-status.new.out;
  new_err = c.serve_handed-status.new.err;
  new_said = c.serve_handed-status.new.more;
  ends = record {
    old_out = c.new-out.result;
    old_err = c.new-err.result;
    old_said = c.new-more.result;
    no_out = c.new-out.ensures.empty;
    no_err = c.new-err.ensures.empty;
    no_said = c.new-more.ensures.empty;
    serves = c.serve_handed-status.ensures.serves;
  };
  out_is = refl;
  err_is = refl;
  whole_out = sym c.failures.ensures ∙ c.if-failures-ne0.false;
  whole_err = sym c.failures-else-failures-ne0.ensures ∙ c.if-failures-ne0-2.false;
  explained = same_bytes c.in_ok-more.ensures.kept;
  unasked = λ no. ap memory_bytes (c.in_ok-more.ensures.unasked no ∙ c.serve_handed-status.ensures.unasked no)
      ∙ c.new-more.ensures.empty;
}
