use Rattle.std.proofs.Common.{◌≡◌, None, Option, Some, sym, ◌∙◌, ap, subst}
use Rattle.std.proofs.lemmas.Result.{IfOk-weaker}
use Rattle.fed_rules.specs.declared.records.CoordRecord.{CoordRecord}
use Rattle.fed_rules.specs.Found.{Journal}
use Rattle.fed_rules.specs.Sessions.{Session, fresh}
use Rattle.fed_rules.specs.Story.{story_in}
use Rattle.fed_world.specs.Reporting.{report_by, report_for}
use Rattle.fed_world.specs.Worlds.{Recalls, Rests}
use Rattle.fed_world.proofs.Reports.{began_found, began_fresh}
use Rattle.fed_world.proofs.world.World.report.Goals as goal

pub fresh_report-requires : goal.fresh_report-requires
fresh_report-requires c =
    let r = c.requires in
    let is = began_fresh c.args.self.now r.session r.commands r.stood.has c.in-None.is in
    record {
      session = r.session.plan;
      commands = r.commands;
      stood = subst (λ (s : Session). Recalls c.args.self.now s r.commands) is r.stood;
      holds = subst (λ (s : Session). Rests s r.commands) is r.holds;
    }

pub found_report-requires : goal.found_report-requires
found_report-requires c = let r = c.requires in record { session = r.session; commands = r.commands; stood = r.stood; holds = tt }

pub returns-in-None-clause-reported : goal.returns-in-None-clause-reported
returns-in-None-clause-reported c =
    IfOk-weaker c.fresh_report.result _ _
    (λ report told session commands k rests.
    let is = began_fresh c.args.self.now session commands k.has c.in-None.is in
    subst (λ (s : Session). report ≡ report_for s (story_in s commands)) (sym is) (told session.plan commands (subst (λ (s : Session). Recalls c.args.self.now s commands) is k)))
    c.fresh_report.ensures

pub returns-in-Some-clause-reported : goal.returns-in-Some-clause-reported
returns-in-Some-clause-reported c =
    IfOk-weaker c.found_report.result _ _
    (λ report told session commands k rests.
    let began = began_found c.args.self.now session commands c.in-Some.begun k.has c.in-Some.is in
    told session commands k rests (c.as_slice.ensures.value ∙ began.same) began.goes ∙ ap (λ (o : Option (Journal CoordRecord)). report_by o session (story_in session commands)) (sym began.is))
    c.found_report.ensures

pub returns-in-None-clause-fresh : goal.returns-in-None-clause-fresh
returns-in-None-clause-fresh c = c.fresh_report.ensures

-- one that goes on from disks isn't of a session that began with empty ones
pub returns-in-Some-clause-fresh : goal.returns-in-Some-clause-fresh
returns-in-Some-clause-fresh c =
    IfOk-weaker c.found_report.result _ _
    (λ report told scenario commands k.
    let began = began_found c.args.self.now (fresh scenario) commands c.in-Some.begun k.has c.in-Some.is in
    let clash : None ≡ Some began.journal = began.is in
    cc)
    c.found_report.ensures
