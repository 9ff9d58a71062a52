use Rattle.std.proofs.Common.{◌≡◌, refl, ap, sym}
use Rattle.mdb_base.proofs.ForCallers.{map_ok}
use Rattle.fed_rules.specs.declared.events.SiteEvent.{SiteEvent}
use Rattle.fed_rules.specs.declared.events.SiteEvent.TheVariants as Ev
use Rattle.fed_rules.specs.declared.events.SiteStep.{SiteStep}
use Rattle.fed_rules.specs.Site.{site_line}
use Rattle.fed_rules.specs.SitePast.{SitePast}
use Rattle.fed_rules.specs.SiteRecords.{Home}
use Rattle.site_core.specs.Stands.{Answers, Stands, beside_rules}
use Rattle.site_core.specs.Steps.{CanStep, EachPast}
use Rattle.site_core.proofs.CalledLaws.{answers_beside, none_waiting}
use Rattle.site_core.proofs.Outcomes.{ok_with}
use Rattle.site_core.proofs.RememberLaws.{answers_as}
use Rattle.site_core.proofs.StopLaws.{says_down, trip_sets}
use Rattle.site_core.proofs.site.SiteCore.wait.Goals as goal

pub returns-in-Trip-clause-answered : goal.returns-in-Trip-clause-answered
returns-in-Trip-clause-answered g c = ok_with _ c.trips.result _ c.trips.ensures.said
    (λ home past k may.
    answers_beside g.E.LocalEngine.stands g.D.Disk.tells (g.D.Disk.seen c.args.disk.now) 0 (beside_rules c.args.event c.args.self.now (g.D.Disk.seen c.args.disk.now)) _ _ (g.D.Disk.seen c.args.disk.now) home past _
    (sym (ap (λ (event : SiteEvent). beside_rules event c.args.self.now (g.D.Disk.seen c.args.disk.now)) c.in-Trip.is))
    (answers_as g.E.LocalEngine.stands g.D.Disk.tells 0 (g.D.Disk.seen c.args.disk.now) _ _ (g.D.Disk.seen c.args.disk.now) home past _ _ (ap (site_line home past) c.in-Trip.is)
    (trip_sets g.E.LocalEngine.stands g.D.Disk.tells c.args.self.now c.trips.new.self _ (g.D.Disk.seen c.args.disk.now) home past c.in-Trip.calls c.in-Trip.cut k c.trips.ensures.trip refl)))

pub returns-in_default-clause-answered : goal.returns-in_default-clause-answered
returns-in_default-clause-answered g c = ok_with _ c.said.result _ c.said.ensures
    (λ home past k may.
    answers_beside g.E.LocalEngine.stands g.D.Disk.tells (g.D.Disk.seen c.args.disk.now) 0 (beside_rules c.args.event c.args.self.now (g.D.Disk.seen c.args.disk.now)) _ c.args.self.now (g.D.Disk.seen c.args.disk.now) home past _
    (sym (none_waiting c.args.event c.args.self.now (g.D.Disk.seen c.args.disk.now) c.in_default.not-Back))
    (says_down g.E.LocalEngine.stands g.D.Disk.tells c.args.self.now _ (g.D.Disk.seen c.args.disk.now) home past c.args.event k c.requires.down c.in_default.not-Trip c.in_default.not-Back refl))

pub returns-in-Back-clause-answered : goal.returns-in-Back-clause-answered
returns-in-Back-clause-answered g c =
    let K : Home → SitePast → Type 0 = Stands g.E.LocalEngine.stands g.D.Disk.tells c.args.self.now (g.D.Disk.seen c.args.disk.now) in
    let before = g.D.Disk.seen c.args.disk.now in
    let is : beside_rules c.args.event c.args.self.now before ≡ beside_rules Ev.Back c.args.self.now before = ap (λ (event : SiteEvent). beside_rules event c.args.self.now before) c.in-Back.is in
    let P : SiteStep → Type 0 = λ step. EachPast K (λ home past. Answers g.E.LocalEngine.stands g.D.Disk.tells (beside_rules Ev.Back c.args.self.now before) before step c.back.new.self (g.D.Disk.seen c.back.new.disk) home past (site_line home past Ev.Back)) in
    let Q : SiteStep → Type 0 = λ step. EachPast K (λ home past. CanStep c.args.event home past → Answers g.E.LocalEngine.stands g.D.Disk.tells (beside_rules c.args.event c.args.self.now before) before step c.back.new.self (g.D.Disk.seen c.back.new.disk) home past (site_line home past c.args.event)) in
    map_ok P Q c.back.result c.back.ensures.answered
    (λ step p home past k may. answers_as g.E.LocalEngine.stands g.D.Disk.tells (beside_rules c.args.event c.args.self.now before) before step c.back.new.self (g.D.Disk.seen c.back.new.disk) home past _ _ (ap (site_line home past) c.in-Back.is)
    (answers_beside g.E.LocalEngine.stands g.D.Disk.tells before (beside_rules Ev.Back c.args.self.now before) (beside_rules c.args.event c.args.self.now before) step c.back.new.self (g.D.Disk.seen c.back.new.disk) home past _ (sym is) (p home past k)))
