use Rattle.std.proofs.Common.{Err, map, subst, sym}
use Rattle.audit_rules.specs.declared.verdict.Verdict.{Verdict}
use Rattle.run_audit.specs.declared.errors.AuditErr.{AuditErr}
use Rattle.run_audit.specs.Audits.{Answers, IsRefused}
use Rattle.run_audit.specs.Causes.{CauseTells}
use Rattle.run_audit.proofs.Whys.{text_answers, text_tells, world_answers, world_refuses, world_tells}
use Rattle.run_audit.proofs.auditing.audit.Goals as goal

pub returns-in-Err-audit-clause-exact : goal.returns-in-Err-audit-clause-exact
returns-in-Err-audit-clause-exact g c =
    subst (λ (why : AuditErr). Answers (Err why) c.args.text.now) (sym c.of_world.ensures) (world_answers c.in-Err-audit.why c.args.text.now)

pub returns-in-Err-audit-clause-untouched : goal.returns-in-Err-audit-clause-untouched
returns-in-Err-audit-clause-untouched g c refused =
    absurd (world_refuses c.in-Err-audit.why (subst (λ (why : AuditErr). IsRefused (Err why)) c.of_world.ensures refused))

pub returns-in-Err-audit-clause-cause : goal.returns-in-Err-audit-clause-cause
returns-in-Err-audit-clause-cause g c =
    subst (λ (why : AuditErr). CauseTells {T = Verdict} (Err why) (map g.D.Disk.seen c.args.disks.now.items) (map g.D.Disk.seen c.audit.new.disks.items)) (sym c.of_world.ensures)
    (world_tells c.in-Err-audit.why _ _ c.in-Err-audit.ensures.cause)

pub returns-in-Err-clause-exact : goal.returns-in-Err-clause-exact
returns-in-Err-clause-exact g c =
    subst (λ (why : AuditErr). Answers (Err why) c.args.text.now) (sym c.of_text.ensures) (text_answers c.in-Err.why c.args.text.now c.in-Err.ensures.exact)

pub returns-in-Err-clause-cause : goal.returns-in-Err-clause-cause
returns-in-Err-clause-cause g c =
    subst (λ (why : AuditErr). CauseTells {T = Verdict} (Err why) (map g.D.Disk.seen c.args.disks.now.items) (map g.D.Disk.seen c.args.disks.now.items)) (sym c.of_text.ensures)
    (text_tells c.in-Err.why (map g.D.Disk.seen c.args.disks.now.items))
