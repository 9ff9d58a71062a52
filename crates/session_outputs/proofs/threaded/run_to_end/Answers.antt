use Rattle.std.proofs.Common.{map, sym, ◌∙◌, subst}
use Rattle.std.proofs.lemmas.List.{length-map}
use Rattle.fed_rules.specs.Sessions.{fresh}
use Rattle.closing.specs.FreshTowards.{FailsToward}
use Rattle.federation_run.specs.declared.errors.RunErr.{RunErr}
use Rattle.federation_run.specs.Running.{EndsBadly}
use Rattle.fed_world.specs.declared.errors.WorldErr.{WorldErr}
use Rattle.closing.proofs.ForCallers.{breaks_since, nine}
use Rattle.session_outputs.specs.Runs.{host_commands, run_commands}
use Rattle.session_outputs.proofs.Ending.{has_ended, of_hosts}
use Rattle.session_outputs.proofs.threaded.run_to_end.Goals as goal

pub end-requires-clause-stood : goal.end-requires-clause-stood
end-requires-clause-stood g c =
    let r = c.in-Ok.ensures.ran in
    record { session = c.args.scenario; commands = host_commands r.merged; stood = r.stands; holds = r.run.few_lines }

pub returns-in-Err-Disk-clause-ended : goal.returns-in-Err-Disk-clause-ended
returns-in-Err-Disk-clause-ended g c =
    let disk = g.D.Disk in
    let old = map disk.seen c.args.disks.now.items in
    let new = map disk.seen c.run_threads.new.disks.items in
    rw c.in-Err-Disk.field-0-is (subst (λ (why : RunErr). EndsBadly disk.tells old new c.args.scenario why) c.in-Err-Disk.field-0-is c.in-Err-Disk.ensures.failed)

pub returns-in-Ok-end-clause-ended : goal.returns-in-Ok-end-clause-ended
returns-in-Ok-end-clause-ended g c =
    let disk = g.D.Disk in
    let old = map disk.seen c.args.disks.now.items in
    let new = map disk.seen c.end.new.disks.items in
    let r = c.in-Ok.ensures.ran in
    has_ended c.ends_add_their_own.ensures.closing c.closed_sessions_rest.ensures c.finished_sessions_commit.ensures disk.tells old new c.args.scenario c.end.new.world r.merged
    (of_hosts disk.tells _ (map disk.seen c.run_threads.new.disks.items) c.args.scenario _ r)
    (c.in-Ok-end.ensures.ended c.args.scenario (host_commands r.merged) r.stands r.run.few_lines) (c.in-Ok-end.ensures.cause ∙ r.calm)

pub returns-in-Err-Disk-end-clause-ended : goal.returns-in-Err-Disk-end-clause-ended
returns-in-Err-Disk-end-clause-ended g c =
    let disk = g.D.Disk in
    let old = map disk.seen c.args.disks.now.items in
    let mid = map disk.seen c.run_threads.new.disks.items in
    let new = map disk.seen c.end.new.disks.items in
    let scenario = c.args.scenario in
    let r = c.in-Ok.ensures.ran in
    record {
      merged = r.merged;
      hosts = of_hosts disk.tells _ mid scenario _ r;
      breaks = breaks_since disk.seen disk.tells c.end.new.world new (fresh scenario) c.in-Err-Disk-end.number (run_commands scenario (host_commands r.merged)) (host_commands r.merged) old mid r.calm
          (subst (λ (why : WorldErr). FailsToward disk.seen disk.tells why mid c.end.new.world new (run_commands scenario (host_commands r.merged)) scenario (host_commands r.merged)) c.in-Err-Disk-end.field-0-is
          (c.in-Err-Disk-end.ensures.failed scenario (host_commands r.merged) r.stands r.run.few_lines));
    }

pub returns-in-Ok-end-clause-nine : goal.returns-in-Ok-end-clause-nine
returns-in-Ok-end-clause-nine g c =
    let r = c.in-Ok.ensures.ran in
    sym (length-map c.end.new.disks.items g.D.Disk.seen) ∙ nine _ _ _ _ _ (c.in-Ok-end.ensures.ended c.args.scenario (host_commands r.merged) r.stands r.run.few_lines)

pub returns-in-Err-Disk-end-clause-nine : goal.returns-in-Err-Disk-end-clause-nine
returns-in-Err-Disk-end-clause-nine g c =
    let disk = g.D.Disk in
    let new = map disk.seen c.end.new.disks.items in
    let scenario = c.args.scenario in
    let r = c.in-Ok.ensures.ran in
    let mid = map disk.seen c.run_threads.new.disks.items in
    let b = subst (λ (why : WorldErr). FailsToward disk.seen disk.tells why mid c.end.new.world new (run_commands scenario (host_commands r.merged)) scenario (host_commands r.merged)) c.in-Err-Disk-end.field-0-is
    (c.in-Err-Disk-end.ensures.failed scenario (host_commands r.merged) r.stands r.run.few_lines) in
    sym (length-map c.end.new.disks.items disk.seen) ∙ b.broken.others.nine

pub returns-in-Err-Memory-end-clause-nine : goal.returns-in-Err-Memory-end-clause-nine
returns-in-Err-Memory-end-clause-nine g c =
    let disk = g.D.Disk in
    let new = map disk.seen c.end.new.disks.items in
    let scenario = c.args.scenario in
    let r = c.in-Ok.ensures.ran in
    let mid = map disk.seen c.run_threads.new.disks.items in
    let s = subst (λ (why : WorldErr). FailsToward disk.seen disk.tells why mid c.end.new.world new (run_commands scenario (host_commands r.merged)) scenario (host_commands r.merged)) c.in-Err-Memory-end.field-0-is
    (c.in-Err-Memory-end.ensures.failed scenario (host_commands r.merged) r.stands r.run.few_lines) in
    sym (length-map c.end.new.disks.items disk.seen) ∙ nine _ _ _ _ _ s.stood
