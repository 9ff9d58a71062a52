use Rattle.std.proofs.Common.{[], ◌∷◌, refl, sym}
use Rattle.std.proofs.lemmas.List.{append-nil}
use Rattle.federation_run.proofs.Seated.{hosted, may_begin}
use Rattle.federation_run.proofs.seats.seat_of.Goals as goal

pub returns-then-not-is_next-clause-seat : goal.returns-then-not-is_next-clause-seat
returns-then-not-is_next-clause-seat g c = refl

pub returns-then-not-is_next-clause-left : goal.returns-then-not-is_next-clause-left
returns-then-not-is_next-clause-left g c = ([], append-nil c.args.wired_sites.now.items)

pub new-requires-clause-told : goal.new-requires-clause-told
new-requires-clause-told g c = c.requires.told

pub new-requires-clause-opens : goal.new-requires-clause-opens
new-requires-clause-opens g c =
    may_begin g.D.Disk.tells g.N.Plan.sites g.N.Wires.rings c.args.actor (g.D.Disk.seen c.args.disk) c.args.wired_sites.now.items c.take_last-dbms.new.self.items c.take_last-dbms.result c.take_last-dbms.ensures.items
    (c.is_next.ensures c.if-not-is_next.false) c.requires.opens

pub returns-clause-seat : goal.returns-clause-seat
returns-clause-seat g c = hosted c.args.actor c.args.wired_sites.now.items (c.is_next.ensures c.if-not-is_next.false)

pub returns-clause-left : goal.returns-clause-left
returns-clause-left g c = (c.take_last-dbms.result ∷ [], sym c.take_last-dbms.ensures.items)
