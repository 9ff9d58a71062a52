use Rattle.std.proofs.Common.{is_some, sym, ap, ◌∙◌}
use Rattle.site_core.proofs.LineLaws.{down_dead}
use Rattle.site_core.proofs.RememberLaws.{stopped_at}
use Rattle.site_core.proofs.site.SiteCore.is_live.Goals as goal

pub returns-else-is_up : goal.returns-else-is_up
returns-else-is_up g c = λ home past h.
    let core = c.args.self.now in
    let s = stopped_at g.E.LocalEngine.stands core home past h.memory (sym c.is_up.ensures ∙ c.if-is_up.false) in
    c.if-is_up.false ∙ sym (ap is_some (down_dead home past c.args.tid s.start s.lines))
