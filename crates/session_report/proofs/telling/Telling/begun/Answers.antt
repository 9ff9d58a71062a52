use Rattle.std.proofs.Common.{ap, ◌∙◌}
use Rattle.session_report.specs.Told.{Told, tids_told}
use Rattle.session_report.proofs.Lookups.{keys_tids}
use Rattle.session_report.proofs.telling.Telling.begun.Goals as goal

pub returns : goal.returns
returns c = c.in_ok-tids.ensures ∙ (keys_tids c.self.inside.globals.entries ∙ ap (λ (told : Told). tids_told told) c.self.view_is)
