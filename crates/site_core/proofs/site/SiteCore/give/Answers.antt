use Rattle.std.proofs.Common.{refl, ap, ◌∙◌}
use Rattle.mdb_base.proofs.ForCallers.{map_ok}
use Rattle.fed_rules.specs.declared.events.SiteEvent.TheVariants as Ev
use Rattle.fed_rules.specs.declared.events.SiteStep.{SiteStep}
use Rattle.fed_rules.specs.Site.{of_decide, of_give, of_prepare, of_take, of_work, unless_tripped}
use Rattle.fed_rules.specs.SitePast.{SiteHappening, SitePast}
use Rattle.fed_rules.specs.SiteRecords.{Home}
use Rattle.site_core.specs.Stands.{Answers, Stands}
use Rattle.site_core.specs.Steps.{CanDecide, CanPrepare, CanTakeMessage, CanTakeTicket, CanWork, EachPast}
use Rattle.site_core.proofs.OperationLaws.{give_decide, give_prepare, give_take, give_work, take_quiet, work_quiet}
use Rattle.site_core.proofs.Outcomes.{other_cause}
use Rattle.site_core.proofs.QuietSteps.{all_answered, all_wanting}
use Rattle.site_core.proofs.RememberLaws.{answers_as}
use Rattle.site_core.proofs.site.SiteCore.give.Goals as goal

pub returns-in-Prepare-clause-answered : goal.returns-in-Prepare-clause-answered
returns-in-Prepare-clause-answered g c =
    let tid = c.in-Prepare.tid in
    let e = c.in-Prepare.epoch in
    let n = c.in-Prepare.n in
    let K : Home → SitePast → Type 0 = Stands g.E.LocalEngine.stands g.D.Disk.tells c.args.self.now (g.D.Disk.seen c.args.disk.now) in
    let P : SiteStep → Type 0 = λ step. EachPast K (λ home past. CanPrepare tid home past → Answers g.E.LocalEngine.stands g.D.Disk.tells 0 (g.D.Disk.seen c.args.disk.now) step c.prepare.new.self (g.D.Disk.seen c.prepare.new.disk) home past (unless_tripped home past (of_prepare home past tid e n))) in
    let Q : SiteStep → Type 0 = λ step. EachPast K (λ home past. CanTakeMessage c.args.message home past → Answers g.E.LocalEngine.stands g.D.Disk.tells 0 (g.D.Disk.seen c.args.disk.now) step c.prepare.new.self (g.D.Disk.seen c.prepare.new.disk) home past (unless_tripped home past (of_give home past c.args.message))) in
    map_ok P Q c.prepare.result c.prepare.ensures.answered
    (λ step p home past k may. answers_as g.E.LocalEngine.stands g.D.Disk.tells 0 (g.D.Disk.seen c.args.disk.now) step c.prepare.new.self (g.D.Disk.seen c.prepare.new.disk) home past _ _
    (ap (λ (x : SiteHappening). unless_tripped home past x) (ap (of_give home past) c.in-Prepare.is ∙ give_prepare home past tid e n)) (p home past k (rw c.in-Prepare.is at may)))

pub returns-in-Decide-clause-answered : goal.returns-in-Decide-clause-answered
returns-in-Decide-clause-answered g c =
    let tid = c.in-Decide.tid in
    let decision = c.in-Decide.decision in
    let K : Home → SitePast → Type 0 = Stands g.E.LocalEngine.stands g.D.Disk.tells c.args.self.now (g.D.Disk.seen c.args.disk.now) in
    let P : SiteStep → Type 0 = λ step. EachPast K (λ home past. CanDecide tid home past → Answers g.E.LocalEngine.stands g.D.Disk.tells 0 (g.D.Disk.seen c.args.disk.now) step c.decide.new.self (g.D.Disk.seen c.decide.new.disk) home past (unless_tripped home past (of_decide home past tid decision))) in
    let Q : SiteStep → Type 0 = λ step. EachPast K (λ home past. CanTakeMessage c.args.message home past → Answers g.E.LocalEngine.stands g.D.Disk.tells 0 (g.D.Disk.seen c.args.disk.now) step c.decide.new.self (g.D.Disk.seen c.decide.new.disk) home past (unless_tripped home past (of_give home past c.args.message))) in
    map_ok P Q c.decide.result c.decide.ensures.answered
    (λ step p home past k may. answers_as g.E.LocalEngine.stands g.D.Disk.tells 0 (g.D.Disk.seen c.args.disk.now) step c.decide.new.self (g.D.Disk.seen c.decide.new.disk) home past _ _
    (ap (λ (x : SiteHappening). unless_tripped home past x) (ap (of_give home past) c.in-Decide.is ∙ give_decide home past tid decision)) (p home past k (rw c.in-Decide.is at may)))

pub returns-in-Work-clause-answered : goal.returns-in-Work-clause-answered
returns-in-Work-clause-answered g c =
    all_answered g.E.LocalEngine.stands g.D.Disk.tells c.args.self.now c.work.new.self (g.D.Disk.seen c.args.disk.now) c.work.ensures.store (CanWork c.in-Work.tid) (CanTakeMessage c.args.message) (λ home past. of_work home past c.in-Work.tid c.in-Work.epoch c.in-Work.n c.in-Work.act) (λ home past. unless_tripped home past (of_give home past c.args.message)) c.work.result (λ home past. work_quiet home past c.in-Work.tid c.in-Work.epoch c.in-Work.n c.in-Work.act)
    (λ home past k. ap (λ (x : SiteHappening). unless_tripped home past x) (ap (of_give home past) c.in-Work.is ∙ give_work home past c.in-Work.tid c.in-Work.epoch c.in-Work.n c.in-Work.act)) (λ home past may. rw c.in-Work.is at may) c.work.ensures.answered

pub returns-in-Work-clause-failed : goal.returns-in-Work-clause-failed
returns-in-Work-clause-failed g c =
    all_wanting g.E.LocalEngine.stands g.D.Disk.tells c.args.self.now c.work.new.self (g.D.Disk.seen c.args.disk.now) c.work.ensures.store (CanTakeMessage c.args.message) (Ev.Give c.args.message) c.work.result c.work.ensures.want c.work.ensures.memory

pub returns-in-Work-clause-cause : goal.returns-in-Work-clause-cause
returns-in-Work-clause-cause g c =
    other_cause _ _ _ _ c.work.result (λ e. cc) refl c.work.ensures.want

pub returns-in-Take-clause-answered : goal.returns-in-Take-clause-answered
returns-in-Take-clause-answered g c =
    all_answered g.E.LocalEngine.stands g.D.Disk.tells c.args.self.now c.take.new.self (g.D.Disk.seen c.args.disk.now) c.take.ensures.store (CanTakeTicket c.in-Take.tid) (CanTakeMessage c.args.message) (λ home past. of_take home past c.in-Take.tid c.in-Take.epoch c.in-Take.n) (λ home past. unless_tripped home past (of_give home past c.args.message)) c.take.result (λ home past. take_quiet home past c.in-Take.tid c.in-Take.epoch c.in-Take.n)
    (λ home past k. ap (λ (x : SiteHappening). unless_tripped home past x) (ap (of_give home past) c.in-Take.is ∙ give_take home past c.in-Take.tid c.in-Take.epoch c.in-Take.n)) (λ home past may. rw c.in-Take.is at may) c.take.ensures.answered

pub returns-in-Take-clause-failed : goal.returns-in-Take-clause-failed
returns-in-Take-clause-failed g c =
    all_wanting g.E.LocalEngine.stands g.D.Disk.tells c.args.self.now c.take.new.self (g.D.Disk.seen c.args.disk.now) c.take.ensures.store (CanTakeMessage c.args.message) (Ev.Give c.args.message) c.take.result c.take.ensures.want c.take.ensures.memory

pub returns-in-Take-clause-cause : goal.returns-in-Take-clause-cause
returns-in-Take-clause-cause g c =
    other_cause _ _ _ _ c.take.result (λ e. cc) refl c.take.ensures.want
