use Rattle.std.proofs.Common.{ℕ, ◌+◌, Option, refl, sym, subst, ◌∙◌}
use Rattle.mdb_base.proofs.ForCallers.{map_err, map_ok}
use Rattle.coord_core.specs.Stands.{Fails, Steps, calls_for}
use Rattle.coord_tables.specs.Terms.{line_of}
use Rattle.coord_tables.specs.Voting.{vote_event}
use Rattle.coord_tables.proofs.ForCallers.{no_aborting, vote_open}
use Rattle.coord_core.proofs.Made.{made_cause, made_err, made_ok}
use Rattle.coord_core.proofs.Voting.{ignored_vote_steps, vote_counted_as}
use Rattle.coord_core.proofs.coord.CoordCore.vote.Goals as goal

pub returns-else-awaits_vote-clause-answered : goal.returns-else-awaits_vote-clause-answered
returns-else-awaits_vote-clause-answered g c = made_ok _ _ c.ignored.result c.ignored.ensures (λ step said terms past k among.
    ignored_vote_steps g.P.TakePolicy.policy g.D.Disk.tells step c.args.self.now (g.D.Disk.seen c.args.disk.now) terms past c.args.site c.args.tid c.args.yes k c.requires.up among
    (vote_counted_as g.P.TakePolicy.policy g.D.Disk.tells c.args.self.now (g.D.Disk.seen c.args.disk.now) terms past c.args.site c.args.tid c.awaits_vote.result k c.requires.up among c.awaits_vote.ensures ∙ c.if-awaits_vote.false)
    said.0 said.1)

pub returns-else-awaits_vote-clause-failed : goal.returns-else-awaits_vote-clause-failed
returns-else-awaits_vote-clause-failed g c = made_err _ _ c.ignored.result c.ignored.ensures

pub returns-else-awaits_vote-clause-cause : goal.returns-else-awaits_vote-clause-cause
returns-else-awaits_vote-clause-cause g c = made_cause _ _ _ c.ignored.result refl c.ignored.ensures

pub abort-requires-clause-may : goal.abort-requires-clause-may
abort-requires-clause-may g c =
    let m = c.requires.may in
    record {
      terms = m.terms;
      past = m.past;
      stood = m.stood;
      holds = vote_open m.past c.args.site c.args.tid
          (vote_counted_as g.P.TakePolicy.policy g.D.Disk.tells c.args.self.now (g.D.Disk.seen c.args.disk.now) m.terms m.past c.args.site c.args.tid c.awaits_vote.result m.stood c.requires.up m.holds c.awaits_vote.ensures ∙ c.if-awaits_vote.true);
    }

pub returns-in-None-clause-answered : goal.returns-in-None-clause-answered
returns-in-None-clause-answered g c = map_ok _ _ c.abort.result c.abort.ensures.answered (λ step each terms past k among.
    each terms past (vote_event c.args.site c.args.tid c.args.yes) k (no_aborting terms past c.args.site c.args.tid c.args.yes c.in-None.is
    (vote_counted_as g.P.TakePolicy.policy g.D.Disk.tells c.args.self.now (g.D.Disk.seen c.args.disk.now) terms past c.args.site c.args.tid c.awaits_vote.result k c.requires.up among c.awaits_vote.ensures ∙ c.if-awaits_vote.true)))

pub returns-in-None-clause-failed : goal.returns-in-None-clause-failed
returns-in-None-clause-failed g c = map_err _ _ c.abort.result c.abort.ensures.failed (λ why each terms past k among.
    each terms past (vote_event c.args.site c.args.tid c.args.yes) k (no_aborting terms past c.args.site c.args.tid c.args.yes c.in-None.is
    (vote_counted_as g.P.TakePolicy.policy g.D.Disk.tells c.args.self.now (g.D.Disk.seen c.args.disk.now) terms past c.args.site c.args.tid c.awaits_vote.result k c.requires.up among c.awaits_vote.ensures ∙ c.if-awaits_vote.true)))

pub yes_vote-requires-clause-may : goal.yes_vote-requires-clause-may
yes_vote-requires-clause-may g c =
    let m = c.requires.may in
    record {
      terms = m.terms;
      past = m.past;
      stood = m.stood;
      holds = record {
        among = m.holds;
        counts = vote_counted_as g.P.TakePolicy.policy g.D.Disk.tells c.args.self.now (g.D.Disk.seen c.args.disk.now) m.terms m.past c.args.site c.args.tid c.awaits_vote.result m.stood c.requires.up m.holds c.awaits_vote.ensures ∙ c.if-awaits_vote.true;
      };
    }

pub returns-in-Some-clause-answered : goal.returns-in-Some-clause-answered
returns-in-Some-clause-answered g c = map_ok _ _ c.yes_vote.result c.yes_vote.ensures.answered (λ step each terms past k among.
    subst (λ (y : Option ℕ). Steps g.P.TakePolicy.policy g.D.Disk.tells 0 (g.D.Disk.seen c.args.disk.now) step c.yes_vote.new.self (g.D.Disk.seen c.yes_vote.new.disk) terms past (line_of terms past (vote_event c.args.site c.args.tid y))) (sym c.in-Some.is)
    (each terms past k (record {
      among = among;
      counts = vote_counted_as g.P.TakePolicy.policy g.D.Disk.tells c.args.self.now (g.D.Disk.seen c.args.disk.now) terms past c.args.site c.args.tid c.awaits_vote.result k c.requires.up among c.awaits_vote.ensures ∙ c.if-awaits_vote.true;
    })))

pub returns-in-Some-clause-failed : goal.returns-in-Some-clause-failed
returns-in-Some-clause-failed g c = map_err _ _ c.yes_vote.result c.yes_vote.ensures.failed (λ why each terms past k among.
    subst (λ (y : Option ℕ). Fails g.P.TakePolicy.policy g.D.Disk.tells (0 + calls_for terms past (vote_event c.args.site c.args.tid y)) (g.D.Disk.seen c.args.disk.now) why c.yes_vote.new.self (g.D.Disk.seen c.yes_vote.new.disk) terms past (vote_event c.args.site c.args.tid y)) (sym c.in-Some.is)
    (each terms past k (record {
      among = among;
      counts = vote_counted_as g.P.TakePolicy.policy g.D.Disk.tells c.args.self.now (g.D.Disk.seen c.args.disk.now) terms past c.args.site c.args.tid c.awaits_vote.result k c.requires.up among c.awaits_vote.ensures ∙ c.if-awaits_vote.true;
    })))
