use Rattle.std.proofs.Common.{true}
use Rattle.fed_rules.specs.SitePast.{SitePast}
use Rattle.fed_rules.specs.SiteRecords.{Home}
use Rattle.any_engine.specs.Stands as Engines
use Rattle.site_core.specs.Sessions.{mem_seen}
use Rattle.local_dbms.specs.Stands.{OwnPrograms, Stands}
use Rattle.actor_tests.specs.OfLines.{IsOfLines}
use Rattle.actor_tests.proofs.OfLines.{asked_on, can_ask}
use Rattle.actor_tests.proofs.site.asks.Goals as goal

pub ask-requires-clause-stood : goal.ask-requires-clause-stood
unfolding IsOfLines
ask-requires-clause-stood c =
    let K : Home → OwnPrograms → SitePast → Type 0 = Stands Engines.Stands true c.args.dbms.now (mem_seen c.args.disk.now) in
    can_ask K K c.args.lines c.requires.few c.requires.stood c.ask_of.result c.ask_of.ensures

pub returns : goal.returns
unfolding IsOfLines
returns c =
    let K : Home → OwnPrograms → SitePast → Type 0 = Stands Engines.Stands true c.args.dbms.now (mem_seen c.args.disk.now) in
    let L : Home → OwnPrograms → SitePast → Type 0 = Stands Engines.Stands true c.ask.new.self (mem_seen c.ask.new.disk) in
    asked_on K L c.args.lines c.requires.few c.requires.stood c.ask.result c.ask_of.result c.ask_of.ensures c.ask.ensures.served c.ask.ensures.failed
