use Rattle.std.proofs.Common.{List, ap, ◌∙◌, subst}
use Rattle.fed_hosts.specs.declared.ports.Port.{Port}
use Rattle.fed_hosts.specs.Ports.{AreBesidePorts}
use Rattle.fed_hosts.proofs.CoordAdding.{posted_beside}
use Rattle.fed_hosts.proofs.CoordCarried.{coord_carried}
use Rattle.fed_hosts.proofs.CoordSame.{beside_through, same_beside}
use Rattle.fed_hosts.proofs.coord_actor.CoordActor.carry.Goals as goal

pub returns-clause-carried : goal.returns-clause-carried
returns-clause-carried g c tells seen rings plan turns took kept less is untripped planned stood =
    coord_carried g.P.TakePolicy.policy tells seen rings plan turns c.args.told took c.args.self.now c.keep.new.self c.arm_next.new.self c.flush_all.new.ports kept less is untripped planned stood
    c.keep.ensures.added c.keep.ensures.beside (λ more logged some planned' stood'. c.arm_next.ensures.armed tells seen rings plan more logged some planned' stood') c.flush_all.ensures.same

pub returns-clause-beside : goal.returns-clause-beside
returns-clause-beside g c =
    let old = c.args.self.now.ports.items in
    let mid = c.keep.new.self.ports.items in
    let new = c.flush_all.new.ports.items in
    let flushed = same_beside c.arm_next.new.self.ports.items new c.flush_all.ensures.same in
    let flushed' = subst (λ (ports : List Port). AreBesidePorts ports new) (ap (λ v. v.items) c.arm_next.ensures.ports) flushed in
    record {
      disk = c.arm_next.ensures.disk ∙ c.keep.ensures.beside.disk;
      first = c.arm_next.ensures.first ∙ c.keep.ensures.beside.first;
      ports = beside_through old mid new (posted_beside c.args.told.sends _ old mid c.keep.ensures.added.ports) flushed';
    }
