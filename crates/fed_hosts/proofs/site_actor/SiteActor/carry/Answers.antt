use Rattle.scripted_link.proofs.ForCallers.{moves_on}
use Rattle.fed_hosts.proofs.Carried.{carried}
use Rattle.fed_hosts.proofs.site_actor.SiteActor.carry.Goals as goal

pub returns-clause-carried : goal.returns-clause-carried
returns-clause-carried g c tells seen plan turns took kept less is untripped stops site stood =
    carried g.E.LocalEngine.stands tells seen plan turns c.args.told took c.args.self.now c.keep.new.self c.arm_next.new.self c.flush.new.self kept less is untripped stops site stood
    c.keep.ensures.added c.keep.ensures.beside (λ more logged some site' stood'. c.arm_next.ensures.armed tells seen plan more logged some stops site' stood') c.flush.ensures.offered

pub returns-clause-moved_on : goal.returns-clause-moved_on
returns-clause-moved_on g c = moves_on c.arm_next.new.self.ends.outlet c.flush.new.self c.flush.ensures.moves
