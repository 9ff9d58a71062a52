use Rattle.std.proofs.Common.{◌∙◌}
use Rattle.site_core.proofs.site.SiteCore.begun.Goals as goal

pub returns : goal.returns
returns g c home past h = c.begun.ensures ∙ h.memory.begun c.args.tx
