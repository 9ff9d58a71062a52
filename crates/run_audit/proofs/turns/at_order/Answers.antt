use Rattle.std.proofs.Common.{Option, subst, sym, ◌∙◌}
use Rattle.fed_rules.specs.declared.report.Report.{Report}
use Rattle.fed_rules.specs.Story.{story_of}
use Rattle.session_report.specs.InOrder.{IsReportIn}
use Rattle.scenario_text.specs.Pieces.{lines}
use Rattle.closing.proofs.ForCallers.{on_ok}
use Rattle.run_audit.proofs.Ordered.{open_differs, order_differs, report_decides}
use Rattle.run_audit.proofs.turns.at_order.Goals as goal

pub returns-then-not-branch : goal.returns-then-not-branch
returns-then-not-branch c = λ scenario commands r.
    open_differs scenario c.args.number c.args.order.now (lines c.args.behind.now) (story_of scenario commands) (sym (sym c.if-not-branch.true ∙ c.in_ok-is_at_rest.ensures scenario commands r))

pub report_in-requires : goal.report_in-requires
report_in-requires c =
    let r = c.requires.stood in
    record {
      session = r.session;
      commands = r.commands;
      stood = r.stood;
      holds = (c.quiet_runs_rest.ensures r.session r.commands).0 (sym (c.in_ok-is_at_rest.ensures r.session r.commands r.stood) ∙ c.if-not-branch.false);
    }

pub returns-in-None : goal.returns-in-None
returns-in-None c = λ scenario commands r.
    order_differs scenario c.args.number c.args.order.now (lines c.args.behind.now) (story_of scenario commands) (sym (c.in_ok-is_at_rest.ensures scenario commands r) ∙ c.if-not-branch.false)
    (subst (λ (o : Option Report). IsReportIn scenario (story_of scenario commands) c.args.order.now o) c.in-None.is (c.in_ok-report_in.ensures scenario commands r))

pub returns-in-Some : goal.returns-in-Some
returns-in-Some c =
    on_ok _ _ c.report_verdict.result
    (λ verdict so scenario commands r.
    so
    ∙ report_decides scenario c.args.number c.args.order.now (lines c.args.behind.now) (story_of scenario commands) (sym (c.in_ok-is_at_rest.ensures scenario commands r) ∙ c.if-not-branch.false) c.in-Some.report
    (subst (λ (o : Option Report). IsReportIn scenario (story_of scenario commands) c.args.order.now o) c.in-Some.is (c.in_ok-report_in.ensures scenario commands r)))
    c.report_verdict.ensures
