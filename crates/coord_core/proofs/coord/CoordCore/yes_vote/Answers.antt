use Rattle.std.proofs.Common.{refl, sym, ◌∙◌}
use Rattle.mdb_base.proofs.ForCallers.{map_err, map_ok}
use Rattle.coord_core.proofs.Made.{made_cause, made_err, made_ok}
use Rattle.coord_core.proofs.Still.{serves}
use Rattle.coord_tables.proofs.ForCallers.{vote_open}
use Rattle.coord_core.proofs.coord.CoordCore.yes_vote.Goals as goal

pub last_tickets-requires : goal.last_tickets-requires
last_tickets-requires g c =
    let m = c.requires.may in
    record {
      terms = m.terms;
      past = m.past;
      sound = m.stood.holds.sound;
      serving = serves g.P.TakePolicy.policy g.D.Disk.tells c.args.self.now m.terms m.past m.stood.holds c.requires.up;
      holds = vote_open m.past c.args.site c.args.tid m.holds.counts;
    }

pub last_vote-requires-clause-may : goal.last_vote-requires-clause-may
last_vote-requires-clause-may g c =
    let m = c.requires.may in
    let s = serves g.P.TakePolicy.policy g.D.Disk.tells c.args.self.now m.terms m.past m.stood.holds c.requires.up in
    record { terms = m.terms; past = m.past; stood = m.stood; holds = record { counted = m.holds; last = sym (c.in-Ok.ensures m.terms m.past m.stood.holds.sound s m.holds) ∙ c.in-Some.is } }

pub returns-in-None-clause-answered : goal.returns-in-None-clause-answered
returns-in-None-clause-answered g c = made_ok _ _ c.note_vote.result c.note_vote.ensures.answered (λ step each terms past k n.
    let s = serves g.P.TakePolicy.policy g.D.Disk.tells c.args.self.now terms past k.holds c.requires.up in
    each g.D.Disk.tells (g.D.Disk.seen c.args.disk.now) terms past k n (sym (c.in-Ok.ensures terms past k.holds.sound s n) ∙ c.in-None.is))

pub returns-in-None-clause-failed : goal.returns-in-None-clause-failed
returns-in-None-clause-failed g c = made_err _ _ c.note_vote.result c.note_vote.ensures.answered

pub returns-in-None-clause-cause : goal.returns-in-None-clause-cause
returns-in-None-clause-cause g c = made_cause _ _ _ c.note_vote.result refl c.note_vote.ensures.answered

pub returns-in-Some-clause-answered : goal.returns-in-Some-clause-answered
returns-in-Some-clause-answered g c = map_ok _ _ c.last_vote.result c.last_vote.ensures.answered (λ step each terms past k n.
    let s = serves g.P.TakePolicy.policy g.D.Disk.tells c.args.self.now terms past k.holds c.requires.up in
    each terms past k (record { counted = n; last = sym (c.in-Ok.ensures terms past k.holds.sound s n) ∙ c.in-Some.is }))

pub returns-in-Some-clause-failed : goal.returns-in-Some-clause-failed
returns-in-Some-clause-failed g c = map_err _ _ c.last_vote.result c.last_vote.ensures.failed (λ why each terms past k n.
    let s = serves g.P.TakePolicy.policy g.D.Disk.tells c.args.self.now terms past k.holds c.requires.up in
    each terms past k (record { counted = n; last = sym (c.in-Ok.ensures terms past k.holds.sound s n) ∙ c.in-Some.is }))
