use Rattle.std.proofs.Common.{[], sym, ◌∙◌}
use Rattle.std.proofs.lemmas.List.{length-map}
use Rattle.fed_world.proofs.ForCallers.{told_later}
use Rattle.closing.proofs.ForCallers.{on_ok}
use Rattle.run_audit.proofs.Whole.{run_audited, verdict_there, will_fit}
use Rattle.run_audit.proofs.Whys.{as_many_disks}
use Rattle.run_audit.proofs.submitted.Submitted.audit.Goals as goal

pub returns-clause-exact : goal.returns-clause-exact
returns-clause-exact g c =
    on_ok _ _ c.check_lines.result
    (λ verdict so.
    so c.args.self.scenario [] c.in_ok-world.ensures.stands (will_fit c.args.self.printed c.in-Some.text c.in-Some.is c.args.self.lines c.args.self.scenario c.requires.short)
    ∙ verdict_there c.args.self.printed c.in-Some.text c.in-Some.is c.args.self.lines c.args.self.scenario)
    c.check_lines.ensures.verdict

pub returns-clause-headline : goal.returns-clause-headline
returns-clause-headline g c =
    on_ok _ _ c.check_lines.result
    (λ verdict so agrees.
    run_audited c.args.self.printed c.in-Some.text c.in-Some.is c.args.self.lines c.args.self.scenario c.every_scenario_is_one.ensures c.federation_is_serializable.ensures.headline c.federation_is_serializable.ensures.one_order verdict
    (so c.args.self.scenario [] c.in_ok-world.ensures.stands (will_fit c.args.self.printed c.in-Some.text c.in-Some.is c.args.self.lines c.args.self.scenario c.requires.short)) agrees)
    c.check_lines.ensures.verdict

pub returns-clause-cause : goal.returns-clause-cause
returns-clause-cause g c = told_later c.check_lines.result _ _ _ c.in_ok-world.ensures.cause c.check_lines.ensures.cause

pub returns-clause-count : goal.returns-clause-count
returns-clause-count g c =
    sym (length-map c.check_lines.new.disks.items g.D.Disk.seen)
    ∙ (as_many_disks c.check_lines.result _ _ c.check_lines.ensures.cause ∙ (length-map c.new.new.disks.items g.D.Disk.seen ∙ c.in_ok-world.ensures.count))
