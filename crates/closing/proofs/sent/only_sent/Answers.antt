use Rattle.std.proofs.Common.{◌∙◌, ap}
use Rattle.closing.specs.Steps.{only_of}
use Rattle.closing.proofs.sent.only_sent.Goals as goal

pub returns : goal.returns
returns c session commands h = c.only.ensures ∙ ap only_of (c.sent_last.ensures session commands h)
