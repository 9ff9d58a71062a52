use Rattle.std.proofs.Common.{refl}
use Rattle.journal_sums.specs.declared.reading.Reading.{Reading}
use Rattle.journal_sums.proofs.ReadingLaws.{adds_local}
use Rattle.journal_sums.proofs.reading.Reading.hold.Goals as goal

pub returns-in-Ended-clause-held : goal.returns-in-Ended-clause-held
returns-in-Ended-clause-held c = rw c.in-Ended.is c.end.ensures.ended

pub returns-in_ok-push-in-Local-clause-held : goal.returns-in_ok-push-in-Local-clause-held
returns-in_ok-push-in-Local-clause-held c =
    let old = c.args.self.now in
    let new : Reading = record {
      site = old.site;
      engine = old.engine;
      protocol = old.protocol;
      counters = old.counters;
      versions = c.install.new.versions;
      first_locals = old.first_locals;
      locals = c.push.new.self;
      doubtful = old.doubtful;
    } in
    rw c.in-Local.is
    (adds_local old new c.in-Local.tid c.in-Local.number c.in-Local.writes refl refl refl c.in_ok-install-in-Local.ensures.versions refl c.in_ok-push-in-Local.ensures.items refl)
