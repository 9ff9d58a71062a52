use Rattle.std.proofs.Common.{◌+◌, refl, sym, subst}
use Rattle.mdb_base.proofs.ForCallers.{map_err, map_ok}
use Rattle.fed_rules.specs.declared.events.CoordEvent.TheVariants as Ev
use Rattle.fed_rules.specs.declared.messages.FromSite.{FromSite}
use Rattle.coord_core.specs.Stands.{Fails, Steps, calls_for}
use Rattle.coord_tables.specs.Terms.{line_of}
use Rattle.journal_disk.proofs.ForCallers.{none_at_most}
use Rattle.coord_core.proofs.Made.{want_anyway, want_cause}
use Rattle.coord_core.proofs.Taking.{inquiry_steps}
use Rattle.coord_core.proofs.coord.CoordCore.take.Goals as goal

pub did-requires-clause-may : goal.did-requires-clause-may
did-requires-clause-may g c =
    let m = c.requires.may in
    record { terms = m.terms; past = m.past; stood = m.stood; holds = m.holds }

pub returns-in-Did-clause-answered : goal.returns-in-Did-clause-answered
returns-in-Did-clause-answered g c = map_ok _ _ c.did.result c.did.ensures.answered (λ step each terms past k can.
    subst (λ (f : FromSite). Steps g.P.TakePolicy.policy g.D.Disk.tells 0 (g.D.Disk.seen c.args.disk.now) step c.did.new.self (g.D.Disk.seen c.did.new.disk) terms past (line_of terms past (Ev.Take c.args.site f))) (sym c.in-Did.is)
    (each terms past k can))

pub returns-in-Did-clause-failed : goal.returns-in-Did-clause-failed
returns-in-Did-clause-failed g c = map_err _ _ c.did.result c.did.ensures.failed (λ why each terms past k can.
    subst (λ (f : FromSite). Fails g.P.TakePolicy.policy g.D.Disk.tells (0 + calls_for terms past (Ev.Take c.args.site f)) (g.D.Disk.seen c.args.disk.now) why c.did.new.self (g.D.Disk.seen c.did.new.disk) terms past (Ev.Take c.args.site f)) (sym c.in-Did.is)
    (each terms past k can))

pub vote-requires-clause-may : goal.vote-requires-clause-may
vote-requires-clause-may g c =
    let m = c.requires.may in
    record { terms = m.terms; past = m.past; stood = m.stood; holds = m.holds }

pub returns-in-Vote-clause-answered : goal.returns-in-Vote-clause-answered
returns-in-Vote-clause-answered g c = map_ok _ _ c.vote.result c.vote.ensures.answered (λ step each terms past k can.
    subst (λ (f : FromSite). Steps g.P.TakePolicy.policy g.D.Disk.tells 0 (g.D.Disk.seen c.args.disk.now) step c.vote.new.self (g.D.Disk.seen c.vote.new.disk) terms past (line_of terms past (Ev.Take c.args.site f))) (sym c.in-Vote.is)
    (each terms past k can))

pub returns-in-Vote-clause-failed : goal.returns-in-Vote-clause-failed
returns-in-Vote-clause-failed g c = map_err _ _ c.vote.result c.vote.ensures.failed (λ why each terms past k can.
    subst (λ (f : FromSite). Fails g.P.TakePolicy.policy g.D.Disk.tells (0 + calls_for terms past (Ev.Take c.args.site f)) (g.D.Disk.seen c.args.disk.now) why c.vote.new.self (g.D.Disk.seen c.vote.new.disk) terms past (Ev.Take c.args.site f)) (sym c.in-Vote.is)
    (each terms past k can))

pub ack-requires-clause-may : goal.ack-requires-clause-may
ack-requires-clause-may g c =
    let m = c.requires.may in
    record { terms = m.terms; past = m.past; stood = m.stood; holds = m.holds }

pub returns-in-Ack-clause-answered : goal.returns-in-Ack-clause-answered
returns-in-Ack-clause-answered g c = map_ok _ _ c.ack.result c.ack.ensures.answered (λ step each terms past k can.
    subst (λ (f : FromSite). Steps g.P.TakePolicy.policy g.D.Disk.tells 0 (g.D.Disk.seen c.args.disk.now) step c.ack.new.self (g.D.Disk.seen c.ack.new.disk) terms past (line_of terms past (Ev.Take c.args.site f))) (sym c.in-Ack.is)
    (each terms past k can))

pub returns-in-Ack-clause-failed : goal.returns-in-Ack-clause-failed
returns-in-Ack-clause-failed g c = map_err _ _ c.ack.result c.ack.ensures.failed (λ why each terms past k can.
    subst (λ (f : FromSite). Fails g.P.TakePolicy.policy g.D.Disk.tells (0 + calls_for terms past (Ev.Take c.args.site f)) (g.D.Disk.seen c.args.disk.now) why c.ack.new.self (g.D.Disk.seen c.ack.new.disk) terms past (Ev.Take c.args.site f)) (sym c.in-Ack.is)
    (each terms past k can))

pub returns-in-Inquiry-clause-answered : goal.returns-in-Inquiry-clause-answered
returns-in-Inquiry-clause-answered g c = map_ok _ _ c.inquire.result c.inquire.ensures.says (λ step says terms past k can.
    subst (λ (f : FromSite). Steps g.P.TakePolicy.policy g.D.Disk.tells 0 (g.D.Disk.seen c.args.disk.now) step c.args.self.now (g.D.Disk.seen c.args.disk.now) terms past (line_of terms past (Ev.Take c.args.site f))) (sym c.in-Inquiry.is)
    (inquiry_steps g.P.TakePolicy.policy g.D.Disk.tells step c.args.self.now (g.D.Disk.seen c.args.disk.now) terms past c.args.site c.in-Inquiry.tid k c.requires.up
    can (says terms past k.holds)))

pub returns-in-Inquiry-clause-failed : goal.returns-in-Inquiry-clause-failed
returns-in-Inquiry-clause-failed g c = want_anyway _ c.inquire.result c.inquire.ensures.why (λ terms past k can.
    (k, none_at_most (0 + calls_for terms past (Ev.Take c.args.site c.args.message)) (g.D.Disk.seen c.args.disk.now) (g.D.Disk.seen c.args.disk.now) refl))

pub returns-in-Inquiry-clause-cause : goal.returns-in-Inquiry-clause-cause
returns-in-Inquiry-clause-cause g c = want_cause _ c.inquire.result c.inquire.ensures.why
