use Rattle.std.proofs.Common.{refl, ap, ◌∙◌}
use Rattle.mdb_base.proofs.ForCallers.{map_ok}
use Rattle.fed_rules.specs.declared.answers.Answer.TheVariants as Say
use Rattle.fed_rules.specs.declared.events.SiteEvent.TheVariants as Ev
use Rattle.fed_rules.specs.declared.events.SiteStep.{SiteStep}
use Rattle.fed_rules.specs.Site.{of_abort, of_act, of_ask, of_begin, of_check, of_commit, of_drop, of_fate, of_give, site_line, unless_tripped}
use Rattle.fed_rules.specs.SitePast.{SitePast}
use Rattle.fed_rules.specs.SiteRecords.{Home}
use Rattle.site_core.specs.Stands.{Answers, Stands}
use Rattle.site_core.specs.Steps.{AnyPast, CanCommit, CanStep, CanTakeMessage, EachPast}
use Rattle.site_core.proofs.InquiryLaws.{ask_quiet, ask_up, drop_quiet, drop_up}
use Rattle.site_core.proofs.OperationLaws.{give_up_line}
use Rattle.site_core.proofs.LineLaws.{abort_quiet, abort_up, act_quiet, act_up, back_up, begin_quiet, begin_up, check_up, commit_up, fate_quiet, fate_up}
use Rattle.site_core.proofs.Outcomes.{ok_with, other_cause, well_cause, well_err, well_ok}
use Rattle.site_core.proofs.QuietSteps.{all_answered, all_wanting}
use Rattle.site_core.proofs.RememberLaws.{answers_as, up_is}
use Rattle.site_core.proofs.StopLaws.{says_only, trip_sets}
use Rattle.site_core.proofs.site.SiteCore.serve.Goals as goal

pub returns-in-Abort-clause-answered : goal.returns-in-Abort-clause-answered
returns-in-Abort-clause-answered g c =
    all_answered g.E.LocalEngine.stands g.D.Disk.tells c.args.self.now c.abort.new.self (g.D.Disk.seen c.args.disk.now) c.abort.ensures.store AnyPast (CanStep c.args.event) (λ home past. of_abort home past c.in-Abort.tid) (λ home past. site_line home past c.args.event) c.abort.result (λ home past. (abort_quiet home past c.in-Abort.tid).0)
    (λ home past k. ap (site_line home past) c.in-Abort.is ∙ abort_up home past c.in-Abort.tid (up_is g.E.LocalEngine.stands c.args.self.now home past k.holds.memory c.requires.up)) (λ home past may. tt) (well_ok _ c.abort.result c.abort.ensures.answered)

pub returns-in-Fate-clause-answered : goal.returns-in-Fate-clause-answered
returns-in-Fate-clause-answered g c =
    all_answered g.E.LocalEngine.stands g.D.Disk.tells c.args.self.now c.args.self.now (g.D.Disk.seen c.args.disk.now) refl (CanStep (Ev.Fate c.in-Fate.tx)) (CanStep c.args.event) (λ home past. of_fate home past c.in-Fate.tx) (λ home past. site_line home past c.args.event) c.fate.result (λ home past. (fate_quiet home past c.in-Fate.tx).0)
    (λ home past k. ap (site_line home past) c.in-Fate.is ∙ fate_up home past c.in-Fate.tx (up_is g.E.LocalEngine.stands c.args.self.now home past k.holds.memory c.requires.up)) (λ home past may. rw c.in-Fate.is at may) (well_ok _ c.fate.result c.fate.ensures)

pub returns-in-Trip-clause-answered : goal.returns-in-Trip-clause-answered
returns-in-Trip-clause-answered g c =
    ok_with _ c.trips.result _ c.trips.ensures.said
    (λ home past k may. answers_as g.E.LocalEngine.stands g.D.Disk.tells 0 (g.D.Disk.seen c.args.disk.now) _ _ (g.D.Disk.seen c.args.disk.now) home past _ _ (ap (site_line home past) c.in-Trip.is)
    (trip_sets g.E.LocalEngine.stands g.D.Disk.tells c.args.self.now c.trips.new.self _ (g.D.Disk.seen c.args.disk.now) home past c.in-Trip.calls c.in-Trip.cut k c.trips.ensures.trip refl))

pub returns-in-Back-clause-answered : goal.returns-in-Back-clause-answered
returns-in-Back-clause-answered g c =
    ok_with _ c.said.result _ c.said.ensures
    (λ home past k may.
    let core = c.args.self.now in
    let up = up_is g.E.LocalEngine.stands core home past k.holds.memory c.requires.up in
    says_only g.E.LocalEngine.stands g.D.Disk.tells core _ (g.D.Disk.seen c.args.disk.now) home past Ev.Back Say.Awake _ k (ap (site_line home past) c.in-Back.is ∙ back_up home past up) refl refl (λ tx. refl) refl (λ t. refl) refl)

pub returns-in-Commit-clause-answered : goal.returns-in-Commit-clause-answered
returns-in-Commit-clause-answered g c =
    let K : Home → SitePast → Type 0 = Stands g.E.LocalEngine.stands g.D.Disk.tells c.args.self.now (g.D.Disk.seen c.args.disk.now) in
    let P : SiteStep → Type 0 = λ step. EachPast K (λ home past. CanCommit c.in-Commit.tid home past → Answers g.E.LocalEngine.stands g.D.Disk.tells 0 (g.D.Disk.seen c.args.disk.now) step c.commit.new.self (g.D.Disk.seen c.commit.new.disk) home past (unless_tripped home past (of_commit home past c.in-Commit.tid))) in
    let Q : SiteStep → Type 0 = λ step. EachPast K (λ home past. CanStep c.args.event home past → Answers g.E.LocalEngine.stands g.D.Disk.tells 0 (g.D.Disk.seen c.args.disk.now) step c.commit.new.self (g.D.Disk.seen c.commit.new.disk) home past (site_line home past c.args.event)) in
    map_ok P Q c.commit.result c.commit.ensures.answered
    (λ step p home past k may. answers_as g.E.LocalEngine.stands g.D.Disk.tells 0 (g.D.Disk.seen c.args.disk.now) step c.commit.new.self (g.D.Disk.seen c.commit.new.disk) home past _ _
    (ap (site_line home past) c.in-Commit.is ∙ commit_up home past c.in-Commit.tid (up_is g.E.LocalEngine.stands c.args.self.now home past k.holds.memory c.requires.up)) (p home past k (rw c.in-Commit.is at may)))

pub returns-in-Check-clause-answered : goal.returns-in-Check-clause-answered
returns-in-Check-clause-answered g c =
    let K : Home → SitePast → Type 0 = Stands g.E.LocalEngine.stands g.D.Disk.tells c.args.self.now (g.D.Disk.seen c.args.disk.now) in
    let P : SiteStep → Type 0 = λ step. EachPast K (λ home past. Answers g.E.LocalEngine.stands g.D.Disk.tells 0 (g.D.Disk.seen c.args.disk.now) step c.check.new.self (g.D.Disk.seen c.check.new.disk) home past (unless_tripped home past (of_check home past))) in
    let Q : SiteStep → Type 0 = λ step. EachPast K (λ home past. CanStep c.args.event home past → Answers g.E.LocalEngine.stands g.D.Disk.tells 0 (g.D.Disk.seen c.args.disk.now) step c.check.new.self (g.D.Disk.seen c.check.new.disk) home past (site_line home past c.args.event)) in
    map_ok P Q c.check.result c.check.ensures.answered
    (λ step p home past k may. answers_as g.E.LocalEngine.stands g.D.Disk.tells 0 (g.D.Disk.seen c.args.disk.now) step c.check.new.self (g.D.Disk.seen c.check.new.disk) home past _ _
    (ap (site_line home past) c.in-Check.is ∙ check_up home past (up_is g.E.LocalEngine.stands c.args.self.now home past k.holds.memory c.requires.up)) (p home past k))

pub returns-in-Ask-clause-answered : goal.returns-in-Ask-clause-answered
returns-in-Ask-clause-answered g c =
    all_answered g.E.LocalEngine.stands g.D.Disk.tells c.args.self.now c.args.self.now (g.D.Disk.seen c.args.disk.now) refl AnyPast (CanStep c.args.event) (λ home past. of_ask home past c.in-Ask.tid) (λ home past. site_line home past c.args.event) c.ask.result (λ home past. ask_quiet home past c.in-Ask.tid)
    (λ home past k. ap (site_line home past) c.in-Ask.is ∙ ask_up home past c.in-Ask.tid (up_is g.E.LocalEngine.stands c.args.self.now home past k.holds.memory c.requires.up)) (λ home past may. tt) (well_ok _ c.ask.result c.ask.ensures)

pub returns-in-Drop-clause-answered : goal.returns-in-Drop-clause-answered
returns-in-Drop-clause-answered g c =
    all_answered g.E.LocalEngine.stands g.D.Disk.tells c.args.self.now c.give_up.new.self (g.D.Disk.seen c.args.disk.now) c.give_up.ensures.store AnyPast (CanStep c.args.event) (λ home past. of_drop home past c.in-Drop.tid) (λ home past. site_line home past c.args.event) c.give_up.result (λ home past. drop_quiet home past c.in-Drop.tid)
    (λ home past k. ap (site_line home past) c.in-Drop.is ∙ drop_up home past c.in-Drop.tid (up_is g.E.LocalEngine.stands c.args.self.now home past k.holds.memory c.requires.up)) (λ home past may. tt) (well_ok _ c.give_up.result c.give_up.ensures.answered)

pub returns-in-Give-clause-answered : goal.returns-in-Give-clause-answered
returns-in-Give-clause-answered g c =
    let K : Home → SitePast → Type 0 = Stands g.E.LocalEngine.stands g.D.Disk.tells c.args.self.now (g.D.Disk.seen c.args.disk.now) in
    let P : SiteStep → Type 0 = λ step. EachPast K (λ home past. CanTakeMessage c.in-Give.message home past → Answers g.E.LocalEngine.stands g.D.Disk.tells 0 (g.D.Disk.seen c.args.disk.now) step c.give.new.self (g.D.Disk.seen c.give.new.disk) home past (unless_tripped home past (of_give home past c.in-Give.message))) in
    let Q : SiteStep → Type 0 = λ step. EachPast K (λ home past. CanStep c.args.event home past → Answers g.E.LocalEngine.stands g.D.Disk.tells 0 (g.D.Disk.seen c.args.disk.now) step c.give.new.self (g.D.Disk.seen c.give.new.disk) home past (site_line home past c.args.event)) in
    map_ok P Q c.give.result c.give.ensures.answered
    (λ step p home past k may. answers_as g.E.LocalEngine.stands g.D.Disk.tells 0 (g.D.Disk.seen c.args.disk.now) step c.give.new.self (g.D.Disk.seen c.give.new.disk) home past _ _
    (ap (site_line home past) c.in-Give.is ∙ give_up_line home past c.in-Give.message (up_is g.E.LocalEngine.stands c.args.self.now home past k.holds.memory c.requires.up)) (p home past k (rw c.in-Give.is at may)))

pub returns-in-Begin-clause-answered : goal.returns-in-Begin-clause-answered
returns-in-Begin-clause-answered g c =
    all_answered g.E.LocalEngine.stands g.D.Disk.tells c.args.self.now c.begin.new.self (g.D.Disk.seen c.args.disk.now) c.begin.ensures.store (CanStep (Ev.Begin c.in-Begin.tid)) (CanStep c.args.event) (λ home past. of_begin home past c.in-Begin.tid) (λ home past. site_line home past c.args.event) c.begin.result (λ home past. (begin_quiet home past c.in-Begin.tid).0)
    (λ home past k. ap (site_line home past) c.in-Begin.is ∙ begin_up home past c.in-Begin.tid (up_is g.E.LocalEngine.stands c.args.self.now home past k.holds.memory c.requires.up)) (λ home past may. rw c.in-Begin.is at may) c.begin.ensures.answered

pub returns-in-Act-clause-answered : goal.returns-in-Act-clause-answered
returns-in-Act-clause-answered g c =
    all_answered g.E.LocalEngine.stands g.D.Disk.tells c.args.self.now c.act.new.self (g.D.Disk.seen c.args.disk.now) c.act.ensures.store AnyPast (CanStep c.args.event) (λ home past. of_act home past c.in-Act.tid c.in-Act.act) (λ home past. site_line home past c.args.event) c.act.result (λ home past. (act_quiet home past c.in-Act.tid c.in-Act.act).0)
    (λ home past k. ap (site_line home past) c.in-Act.is ∙ act_up home past c.in-Act.tid c.in-Act.act (up_is g.E.LocalEngine.stands c.args.self.now home past k.holds.memory c.requires.up)) (λ home past may. tt) c.act.ensures.answered

pub returns-in-Begin-clause-failed : goal.returns-in-Begin-clause-failed
returns-in-Begin-clause-failed g c =
    all_wanting g.E.LocalEngine.stands g.D.Disk.tells c.args.self.now c.begin.new.self (g.D.Disk.seen c.args.disk.now) c.begin.ensures.store (CanStep c.args.event) c.args.event c.begin.result c.begin.ensures.want c.begin.ensures.memory

pub returns-in-Begin-clause-cause : goal.returns-in-Begin-clause-cause
returns-in-Begin-clause-cause g c =
    other_cause _ _ _ _ c.begin.result (λ e. cc) refl c.begin.ensures.want

pub returns-in-Act-clause-failed : goal.returns-in-Act-clause-failed
returns-in-Act-clause-failed g c =
    all_wanting g.E.LocalEngine.stands g.D.Disk.tells c.args.self.now c.act.new.self (g.D.Disk.seen c.args.disk.now) c.act.ensures.store (CanStep c.args.event) c.args.event c.act.result c.act.ensures.want c.act.ensures.memory

pub returns-in-Act-clause-cause : goal.returns-in-Act-clause-cause
returns-in-Act-clause-cause g c =
    other_cause _ _ _ _ c.act.result (λ e. cc) refl c.act.ensures.want

pub returns-in-Abort-clause-failed : goal.returns-in-Abort-clause-failed
returns-in-Abort-clause-failed g c =
    well_err _ _ c.abort.result c.abort.ensures.answered

pub returns-in-Abort-clause-cause : goal.returns-in-Abort-clause-cause
returns-in-Abort-clause-cause g c =
    well_cause _ _ _ _ c.abort.result refl c.abort.ensures.answered

pub returns-in-Fate-clause-failed : goal.returns-in-Fate-clause-failed
returns-in-Fate-clause-failed g c =
    well_err _ _ c.fate.result c.fate.ensures

pub returns-in-Fate-clause-cause : goal.returns-in-Fate-clause-cause
returns-in-Fate-clause-cause g c =
    well_cause _ _ _ _ c.fate.result refl c.fate.ensures

pub returns-in-Ask-clause-failed : goal.returns-in-Ask-clause-failed
returns-in-Ask-clause-failed g c =
    well_err _ _ c.ask.result c.ask.ensures

pub returns-in-Ask-clause-cause : goal.returns-in-Ask-clause-cause
returns-in-Ask-clause-cause g c =
    well_cause _ _ _ _ c.ask.result refl c.ask.ensures

pub returns-in-Drop-clause-failed : goal.returns-in-Drop-clause-failed
returns-in-Drop-clause-failed g c =
    well_err _ _ c.give_up.result c.give_up.ensures.answered

pub returns-in-Drop-clause-cause : goal.returns-in-Drop-clause-cause
returns-in-Drop-clause-cause g c =
    well_cause _ _ _ _ c.give_up.result refl c.give_up.ensures.answered

pub returns-in-Halt-clause-failed : goal.returns-in-Halt-clause-failed
returns-in-Halt-clause-failed g c =
    well_err _ _ c.halt.result c.halt.ensures.answered

pub returns-in-Halt-clause-cause : goal.returns-in-Halt-clause-cause
returns-in-Halt-clause-cause g c =
    well_cause _ _ _ _ c.halt.result c.halt.ensures.faults c.halt.ensures.answered

pub returns-in-Halt-clause-answered : goal.returns-in-Halt-clause-answered
returns-in-Halt-clause-answered g c =
    let K : Home → SitePast → Type 0 = Stands g.E.LocalEngine.stands g.D.Disk.tells c.args.self.now (g.D.Disk.seen c.args.disk.now) in
    let before = (g.D.Disk.seen c.args.disk.now) in
    let P : SiteStep → Type 0 = λ step. EachPast K (λ home past. Answers g.E.LocalEngine.stands g.D.Disk.tells 0 before step c.halt.new.self (g.D.Disk.seen c.halt.new.disk) home past (site_line home past (Ev.Halt c.in-Halt.cut))) in
    let Q : SiteStep → Type 0 = λ step. EachPast K (λ home past. CanStep c.args.event home past → Answers g.E.LocalEngine.stands g.D.Disk.tells 0 before step c.halt.new.self (g.D.Disk.seen c.halt.new.disk) home past (site_line home past c.args.event)) in
    map_ok P Q c.halt.result (well_ok P c.halt.result c.halt.ensures.answered)
    (λ step p home past k may. answers_as g.E.LocalEngine.stands g.D.Disk.tells 0 before step c.halt.new.self (g.D.Disk.seen c.halt.new.disk) home past _ _ (ap (site_line home past) c.in-Halt.is) (p home past k))
