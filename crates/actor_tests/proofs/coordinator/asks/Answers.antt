use Rattle.std.proofs.Common.{true}
use Rattle.fed_rules.specs.CoordPast.{CoordPast}
use Rattle.coord_tables.specs.Terms.{Terms}
use Rattle.site_core.specs.Sessions.{mem_seen}
use Rattle.global_manager.specs.Stands.{OwnPrograms, Stands}
use Rattle.actor_tests.specs.OfThree.{IsOfThree}
use Rattle.actor_tests.proofs.OfThree.{goes_on, may_ask}
use Rattle.actor_tests.proofs.coordinator.asks.Goals as goal

pub ask-requires-clause-stood : goal.ask-requires-clause-stood
unfolding IsOfThree
ask-requires-clause-stood g c =
    let K : Terms → OwnPrograms → CoordPast → Type 0 = Stands g.P.TakePolicy.policy true c.args.manager.now (mem_seen c.args.disk.now) in
    may_ask K K c.requires c.ask_of.result c.ask_of.ensures

pub returns : goal.returns
unfolding IsOfThree
returns g c =
    let K : Terms → OwnPrograms → CoordPast → Type 0 = Stands g.P.TakePolicy.policy true c.args.manager.now (mem_seen c.args.disk.now) in
    let L : Terms → OwnPrograms → CoordPast → Type 0 = Stands g.P.TakePolicy.policy true c.ask.new.self (mem_seen c.ask.new.disk) in
    goes_on K L c.requires c.ask_of.result c.ask_of.ensures c.ask.result c.ask.ensures.served c.ask.ensures.failed
