-- What the counts of faults of the disks tell of an audit.
use Rattle.std.specs.Prelude.{◌≡◌, List, Result, Err}
use Rattle.journal_disk.specs.Disk.{Seen}
use Rattle.fed_world.specs.Faults.{RisesAt, faults_of}
use Rattle.fed_world.specs.declared.errors.WorldErr.{WorldErr}
use Rattle.fed_world.specs.declared.errors.WorldErr.TheVariants as World_err
use Rattle.scenario_text.specs.declared.bad.TextErr.{TextErr}
use Rattle.scenario_text.specs.declared.bad.TextErr.TheVariants as Text_err
use Rattle.run_audit.specs.declared.errors.AuditErr.{AuditErr}
use Rattle.run_audit.specs.declared.errors.AuditErr.TheVariants as Audit_err

-- where a disk failed, its own count rose and no other; else none moved
abbrev pub CauseTells : {T : Type 0} → Result T AuditErr → List Seen → List Seen → Type 0
CauseTells (Err (Audit_err.Disk number)) old new = RisesAt number old new
CauseTells result old new = faults_of new ≡ faults_of old

-- why a text gives no verdict, in the words of the audit
abbrev pub of_text : TextErr → AuditErr
of_text (Text_err.Bad bad) = Audit_err.Bad bad
of_text Text_err.Memory = Audit_err.Memory

-- why a world gives none
abbrev pub of_world : WorldErr → AuditErr
of_world (World_err.Disk number) = Audit_err.Disk number
of_world World_err.Memory = Audit_err.Memory
