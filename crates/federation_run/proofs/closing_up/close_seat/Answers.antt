use Rattle.std.proofs.Common.{length, refl, ◌∙◌}
use Rattle.federation_run.proofs.Closed.{host_out, seen_behind}
use Rattle.federation_run.proofs.Rooms.{at_most_one_more, one_more_or_none}
use Rattle.federation_run.proofs.Seated.{length_out}
use Rattle.federation_run.proofs.closing_up.close_seat.Goals as goal

pub push_reserved-requires : goal.push_reserved-requires
push_reserved-requires g c = c.requires.disks

pub returns-in-Idle-clause-out : goal.returns-in-Idle-clause-out
returns-in-Idle-clause-out g c = rw c.in-Idle.is (seen_behind g.D.Disk.seen c.args.disks.now.items c.push_reserved.new.self.items c.in-Idle.disk c.push_reserved.ensures.items, refl)

pub returns-in-Idle-clause-count : goal.returns-in-Idle-clause-count
returns-in-Idle-clause-count g c = length_out c.push_reserved.new.self.items c.args.disks.now.items c.in-Idle.disk c.push_reserved.ensures.items

pub returns-in-Idle-clause-grown : goal.returns-in-Idle-clause-grown
returns-in-Idle-clause-grown g c = one_more_or_none (length c.args.lefts.now.items)

pub returns-in-Idle-clause-disks : goal.returns-in-Idle-clause-disks
returns-in-Idle-clause-disks g c = c.push_reserved.ensures.capacity

pub returns-in-Idle-clause-lefts : goal.returns-in-Idle-clause-lefts
returns-in-Idle-clause-lefts g c = refl

pub push_reserved-requires-in-Hosted : goal.push_reserved-requires-in-Hosted
push_reserved-requires-in-Hosted g c = c.requires.lefts

pub push_reserved-requires-in-Hosted-2 : goal.push_reserved-requires-in-Hosted-2
push_reserved-requires-in-Hosted-2 g c = c.requires.disks

pub returns-in-Hosted-clause-out : goal.returns-in-Hosted-clause-out
returns-in-Hosted-clause-out g c =
    rw c.in-Hosted.is (host_out g.D.Disk.tells g.D.Disk.seen g.N.Plan.sites g.N.Wires.rings c.finish-dbms.result c.len.result c.args.disks.now.items c.push_reserved-in-Hosted-2.new.self.items c.args.lefts.now.items c.push_reserved-in-Hosted.new.self.items
    (c.len.ensures ∙ c.args.disks.now.ok.0) c.push_reserved-in-Hosted-2.ensures.items c.push_reserved-in-Hosted.ensures.items c.finish-dbms.ensures.held)

pub returns-in-Hosted-clause-count : goal.returns-in-Hosted-clause-count
returns-in-Hosted-clause-count g c = length_out c.push_reserved-in-Hosted-2.new.self.items c.args.disks.now.items c.finish-dbms.result.disk c.push_reserved-in-Hosted-2.ensures.items

pub returns-in-Hosted-clause-grown : goal.returns-in-Hosted-clause-grown
returns-in-Hosted-clause-grown g c = at_most_one_more _ _ (length_out c.push_reserved-in-Hosted.new.self.items c.args.lefts.now.items _ c.push_reserved-in-Hosted.ensures.items)

pub returns-in-Hosted-clause-disks : goal.returns-in-Hosted-clause-disks
returns-in-Hosted-clause-disks g c = c.push_reserved-in-Hosted-2.ensures.capacity

pub returns-in-Hosted-clause-lefts : goal.returns-in-Hosted-clause-lefts
returns-in-Hosted-clause-lefts g c = c.push_reserved-in-Hosted.ensures.capacity
