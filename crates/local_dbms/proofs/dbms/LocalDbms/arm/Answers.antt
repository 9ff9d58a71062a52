use Rattle.fed_rules.specs.declared.events.SiteEvent.TheVariants as Ev
use Rattle.local_dbms.proofs.Owned.{owned_more}
use Rattle.local_dbms.proofs.dbms.LocalDbms.arm.Goals as goal

pub returns : goal.returns
returns g c tells disk home programs past k = record {
  said = c.arm.ensures.said home past;
  next = record {
    core = c.arm.ensures.stood tells disk home past k.core;
    owns = record { held = k.owns.held; named = k.owns.named; owned = owned_more home programs past (Ev.Trip c.args.calls c.args.cut) k.owns.owned tt };
  };
}
