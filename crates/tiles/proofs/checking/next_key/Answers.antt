use Rattle.std.proofs.Common.{Ok, ◌∙◌, ap, inr, rules, sym}
use mir.Facts.{to_z-of_z}
use Rattle.std.specs.Int.{w64}
use Rattle.std.specs.Prelude.{FitsSigned}
use Rattle.std.proofs.lemmas.Result.{err_from_is_err_and}
use Rattle.csv.specs.Records.{fields_of}
use Rattle.tiles.proofs.checking.next_key.Goals as goal

pub returns-then-not-found-clause-takes : goal.returns-then-not-found-clause-takes
returns-then-not-found-clause-takes g c header rest layout gives = rw c.if-not-found.true at (c.in_ok-found.ensures.takes rest gives)

pub returns-in_err-key-clause-takes : goal.returns-in_err-key-clause-takes
returns-in_err-key-clause-takes g c header rest layout gives =
    let took = rw c.if-not-found.false at (c.in_ok-found.ensures.takes rest gives) in
    let p = err_from_is_err_and c.from_residual-in_err-key.result c.from_residual-in_err-key.ensures.1 in
    rw (p.1, p.2) (λ other. (fields_of c.read.new.fields, took.0, took.2, c.in_err-key.ensures.gives header layout (λ e. other (inr e))))

pub returns-clause-takes : goal.returns-clause-takes
returns-clause-takes g c header rest layout gives =
    let took = rw c.if-not-found.false at (c.in_ok-found.ensures.takes rest gives) in
    let fits : FitsSigned w64 c.in_ok-key.key = search rules in
    (fields_of c.read.new.fields, took.0, took.2, c.in_ok-key.ensures.gives header layout ∙ ap Ok (sym (to_z-of_z fits)), took.1)
