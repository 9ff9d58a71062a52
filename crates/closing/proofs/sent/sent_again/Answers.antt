use Rattle.std.proofs.Common.{◌∙◌, arith}
use Rattle.closing.proofs.Cores.{on_ok}
use Rattle.closing.proofs.LastLine.{last_line, none_sent}
use Rattle.closing.proofs.sent.sent_again.Goals as goal

pub returns-then-is_empty : goal.returns-then-is_empty
returns-then-is_empty c session commands h =
    c.none.ensures ∙ none_sent session commands c.lines-lines.result.now h.begins (c.lines-lines.ensures.right session commands h) c.if-is_empty.ensures

pub returns : goal.returns
returns c =
    let some = c.if-is_empty.ensures in
    on_ok _ _ c.again.result (λ copy same session commands h.
    same ∙ last_line session commands c.lines-lines.result.now _ (grind (arith, some)) (c.lines-lines.ensures.right session commands h)) c.again.ensures
