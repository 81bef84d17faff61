use Rattle.std.proofs.Common.{◌∙◌, ◌++◌, ◌∷◌, [], ap, length, string_bytes}
use Rattle.std.proofs.lemmas.List.Elements.{All-push}
use Rattle.std.proofs.lemmas.Result.{err_from_is_err_and}
use Rattle.std.proofs.lemmas.Str.{IsUtf8-string_bytes}
use Rattle.feature_table.proofs.TextLemmas.{cuts_kept, last_cut, text_pushed, texts_kept}
use Rattle.feature_table.specs.Texts.{IsCut}
use Rattle.feature_table.specs.declared.texts.Cut.{Cut}
use Rattle.feature_table.proofs.texts.Texts.push.Goals as goal

pub invariant_of-self-in_err-push : goal.invariant_of-self-in_err-push
invariant_of-self-in_err-push c =
    let all = string_bytes c.self.inside.all in
    rw (c.in_ok-push_str.ensures.bytes, c.in_err-push.ensures.items)
    (cuts_kept all c.args.text.now c.self.inside.cuts.items (IsUtf8-string_bytes c.self.inside.all) c.utf8.text c.self.invariant)

pub returns-in_err-push : goal.returns-in_err-push
returns-in_err-push c =
    let all = string_bytes c.self.inside.all in
    let p = err_from_is_err_and c.from_residual-in_err-push.result c.from_residual-in_err-push.ensures.1 in
    rw (c.in_ok-push_str.ensures.bytes, c.in_err-push.ensures.items, p.1)
    (texts_kept all c.args.text.now c.self.inside.cuts.items c.self.invariant ∙ c.self.view_is)

pub invariant_of-self-2 : goal.invariant_of-self-2
invariant_of-self-2 c =
    let all = string_bytes c.self.inside.all in
    let more = c.args.text.now in
    let cuts = c.self.inside.cuts.items in
    let utf8 = IsUtf8-string_bytes c.self.inside.all in
    let cut : Cut = record { start = c.len-start.result; end = c.len-end.result } in
    let start = c.len-start.ensures ∙ c.self.inside.all.bytes.ok.0 in
    let end = c.len-end.ensures ∙ c.push_str.new.self.bytes.ok.0 ∙ ap length c.in_ok-push_str.ensures.bytes in
    rw (c.in_ok-push_str.ensures.bytes, c.in_ok-push.ensures.items)
    (All-push (IsCut (all ++ more)) cuts cut (cuts_kept all more cuts utf8 c.utf8.text c.self.invariant)
    (last_cut all more cut utf8 c.utf8.text start end))

pub returns : goal.returns
returns c =
    let all = string_bytes c.self.inside.all in
    let more = c.args.text.now in
    let cuts = c.self.inside.cuts.items in
    let cut : Cut = record { start = c.len-start.result; end = c.len-end.result } in
    let start = c.len-start.ensures ∙ c.self.inside.all.bytes.ok.0 in
    let end = c.len-end.ensures ∙ c.push_str.new.self.bytes.ok.0 ∙ ap length c.in_ok-push_str.ensures.bytes in
    rw (c.in_ok-push_str.ensures.bytes, c.in_ok-push.ensures.items)
    (text_pushed all more cuts cut c.self.invariant start end ∙ ap (λ texts. texts ++ more ∷ []) c.self.view_is)
