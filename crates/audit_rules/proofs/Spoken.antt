-- Printed lines as they are read, for worked examples: a line before the report, or a line of the report.
use Rattle.std.proofs.Common.{ℕ, Bool, false, List, [], ◌∷◌, map}
use Rattle.mdb_base.specs.Words.{when, given}
use Rattle.fed_rules.specs.declared.commands.Line.{Line}
use Rattle.fed_rules.specs.declared.report.Report.{Report}
use Rattle.fed_rules.specs.declared.scenario.Scenario.{Scenario}
use Rattle.audit_rules.specs.declared.verdict.Verdict.{Verdict}
use Rattle.audit_rules.specs.Entries.{same_entry}
use Rattle.audit_rules.specs.Agreement.{Printed, Says, Orders, Neither, Entry, entries, verdict_on_report, verdict_at_order, unless_fault, verdict_at, verdict_from}
use Rattle.audit_rules.specs.Ends.{rests, merges}
use Rattle.audit_rules.specs.Faults.{fault_in, fault_of}

-- a printed line, as it is read
pub data Text : Type 0 where
  Spoken : Printed → Text
  Reported : Entry → Text

abbrev pub read : Text → Printed
read (Spoken printed) = printed
read (Reported entry) = Neither

abbrev pub is : Text → Entry → Bool
is (Spoken printed) entry = false
is (Reported there) entry = same_entry there entry

-- printed lines: those of commands, the order, and the others of the report
abbrev pub spoken : List Line → List Text
spoken lines = map (λ line. Spoken (Says line)) lines

abbrev pub reported : Report → List Text
reported report = Spoken (Orders report.order) ∷ map Reported (entries report)

-- the verdict on printed lines, of which the first has this number
abbrev pub verdict_of : Scenario → ℕ → List Text → Verdict
verdict_of scenario first texts = verdict_from read is scenario first texts []

-- one name that opens every rule of the audit, so that examples compute
unfoldable pub audited : Unit {0}
unfolding when given fault_in fault_of rests merges verdict_on_report verdict_at_order unless_fault verdict_at verdict_from
audited = tt
