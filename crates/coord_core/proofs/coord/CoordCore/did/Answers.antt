use Rattle.std.proofs.Common.{refl, ◌∙◌}
use Rattle.mdb_base.proofs.ForCallers.{map_err, map_ok}
use Rattle.coord_core.proofs.Made.{made_cause, made_err, made_ok}
use Rattle.coord_core.proofs.Taking.{counted_as, ignored_steps}
use Rattle.coord_core.proofs.coord.CoordCore.did.Goals as goal

pub returns-else-counts-clause-answered : goal.returns-else-counts-clause-answered
returns-else-counts-clause-answered g c = made_ok _ _ c.ignored.result c.ignored.ensures (λ step said terms past k among.
    ignored_steps g.P.TakePolicy.policy g.D.Disk.tells step c.args.self.now (g.D.Disk.seen c.args.disk.now) terms past c.args.tid c.args.taken k c.requires.up among
    (counted_as g.P.TakePolicy.policy g.D.Disk.tells c.args.self.now (g.D.Disk.seen c.args.disk.now) terms past c.args.tid c.args.taken c.counts.result k c.requires.up among c.counts.ensures ∙ c.if-counts.false)
    said.0 said.1)

pub returns-else-counts-clause-failed : goal.returns-else-counts-clause-failed
returns-else-counts-clause-failed g c = made_err _ _ c.ignored.result c.ignored.ensures

pub returns-else-counts-clause-cause : goal.returns-else-counts-clause-cause
returns-else-counts-clause-cause g c = made_cause _ _ _ c.ignored.result refl c.ignored.ensures

pub go_on-requires-clause-may : goal.go_on-requires-clause-may
go_on-requires-clause-may g c =
    let m = c.requires.may in
    record {
      terms = m.terms;
      past = m.past;
      stood = m.stood;
      holds = record {
        among = m.holds;
        counts = counted_as g.P.TakePolicy.policy g.D.Disk.tells c.args.self.now (g.D.Disk.seen c.args.disk.now) m.terms m.past c.args.tid c.args.taken c.counts.result m.stood c.requires.up m.holds c.counts.ensures ∙ c.if-counts.true;
      };
    }

pub returns-in-Done-clause-answered : goal.returns-in-Done-clause-answered
returns-in-Done-clause-answered g c = map_ok _ _ c.go_on.result c.go_on.ensures.answered (λ step each terms past k among. each terms past k (record {
  among = among;
  counts = counted_as g.P.TakePolicy.policy g.D.Disk.tells c.args.self.now (g.D.Disk.seen c.args.disk.now) terms past c.args.tid c.args.taken c.counts.result k c.requires.up among c.counts.ensures ∙ c.if-counts.true;
}))

pub returns-in-Done-clause-failed : goal.returns-in-Done-clause-failed
returns-in-Done-clause-failed g c = map_err _ _ c.go_on.result c.go_on.ensures.failed (λ why each terms past k among. each terms past k (record {
  among = among;
  counts = counted_as g.P.TakePolicy.policy g.D.Disk.tells c.args.self.now (g.D.Disk.seen c.args.disk.now) terms past c.args.tid c.args.taken c.counts.result k c.requires.up among c.counts.ensures ∙ c.if-counts.true;
}))

pub returns-in-Wait-clause-answered : goal.returns-in-Wait-clause-answered
returns-in-Wait-clause-answered g c = made_ok _ _ c.take_wait.result c.take_wait.ensures.answered (λ step each terms past k among.
    each g.D.Disk.tells (g.D.Disk.seen c.args.disk.now) terms past c.in-Wait.by c.in-Wait.is k (record {
      among = among;
      counts = counted_as g.P.TakePolicy.policy g.D.Disk.tells c.args.self.now (g.D.Disk.seen c.args.disk.now) terms past c.args.tid c.args.taken c.counts.result k c.requires.up among c.counts.ensures ∙ c.if-counts.true;
    }))

pub returns-in-Wait-clause-failed : goal.returns-in-Wait-clause-failed
returns-in-Wait-clause-failed g c = made_err _ _ c.take_wait.result c.take_wait.ensures.answered

pub returns-in-Wait-clause-cause : goal.returns-in-Wait-clause-cause
returns-in-Wait-clause-cause g c = made_cause _ _ _ c.take_wait.result refl c.take_wait.ensures.answered

pub refuse-requires-clause-may : goal.refuse-requires-clause-may
refuse-requires-clause-may g c =
    let m = c.requires.may in
    record {
      terms = m.terms;
      past = m.past;
      stood = m.stood;
      holds = record {
        among = m.holds;
        counts = counted_as g.P.TakePolicy.policy g.D.Disk.tells c.args.self.now (g.D.Disk.seen c.args.disk.now) m.terms m.past c.args.tid c.args.taken c.counts.result m.stood c.requires.up m.holds c.counts.ensures ∙ c.if-counts.true;
      };
    }

pub returns-in-Refused-clause-answered : goal.returns-in-Refused-clause-answered
returns-in-Refused-clause-answered g c = map_ok _ _ c.refuse.result c.refuse.ensures.answered (λ step each terms past k among. each terms past k (record {
  among = among;
  counts = counted_as g.P.TakePolicy.policy g.D.Disk.tells c.args.self.now (g.D.Disk.seen c.args.disk.now) terms past c.args.tid c.args.taken c.counts.result k c.requires.up among c.counts.ensures ∙ c.if-counts.true;
}))

pub returns-in-Refused-clause-failed : goal.returns-in-Refused-clause-failed
returns-in-Refused-clause-failed g c = map_err _ _ c.refuse.result c.refuse.ensures.failed (λ why each terms past k among. each terms past k (record {
  among = among;
  counts = counted_as g.P.TakePolicy.policy g.D.Disk.tells c.args.self.now (g.D.Disk.seen c.args.disk.now) terms past c.args.tid c.args.taken c.counts.result k c.requires.up among c.counts.ensures ∙ c.if-counts.true;
}))
