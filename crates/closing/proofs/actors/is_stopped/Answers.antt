use Rattle.std.proofs.Common.{sym, ap}
use Rattle.fed_rules.specs.Happenings.{is_down}
use Rattle.fed_rules.specs.SitePast.{SitePast}
use Rattle.closing.proofs.World.{silent}
use Rattle.closing.proofs.actors.is_stopped.Goals as goal

pub returns-in-None : goal.returns-in-None
returns-in-None c session commands r = ap (λ (past : SitePast). is_down past) (sym (silent session r.has.begins c.args.site commands (c.in-None.ensures session commands r)))

pub returns-in-Some : goal.returns-in-Some
returns-in-Some c session commands r =
    let l = c.in-Some.ensures session commands r in
    c.is_down.ensures l.home _ (c.core.ensures.held l.home _ _ l.recalls)
