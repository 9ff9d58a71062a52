-- The verdict on a printed run: lines of commands, the order, and the report that is due behind it. Printed lines may be of any type, as
-- bytes; what is read of one is a line of a command, the order, or neither, and it is a given line of the report or isn't.
use Rattle.std.specs.Prelude.{ℕ, suc, Bool, Option, Some, None, List, [], ◌∷◌, ◌++◌, map}
use Rattle.mdb_base.specs.declared.names.Tid.{Tid}
use Rattle.mdb_base.specs.declared.rows.SiteRows.{SiteRows}
use Rattle.mdb_base.specs.Words.{when}
use Rattle.fed_rules.specs.declared.commands.Line.{Line}
use Rattle.fed_rules.specs.declared.report.Outcome.{Outcome}
use Rattle.fed_rules.specs.declared.report.Report.{Report}
use Rattle.fed_rules.specs.declared.report.TxReads.{TxReads}
use Rattle.fed_rules.specs.declared.scenario.Scenario.{Scenario}
use Rattle.fed_rules.specs.Orders.{orders}
use Rattle.fed_rules.specs.Reports.{report_in}
use Rattle.fed_rules.specs.Story.{Story, tell}
use Rattle.audit_rules.specs.declared.verdict.Verdict.{Verdict}
use Rattle.audit_rules.specs.declared.verdict.Verdict.TheVariants.{Agrees, Differs}
use Rattle.audit_rules.specs.declared.verdict.What.{What}
use Rattle.audit_rules.specs.declared.verdict.What.TheVariants as Fails
use Rattle.audit_rules.specs.Ends.{rests, merges}
use Rattle.audit_rules.specs.Faults.{fault_of}

-- what is read of a printed line before the report: the line of a command, the order, or neither
pub data Printed : Type 0 where
  Says : Line → Printed
  Orders : List Tid → Printed
  Neither : Printed

-- a line of the report behind the order
pub data Entry : Type 0 where
  Reads : TxReads → Entry
  Ends : Outcome → Entry
  Forgets : List Tid → Entry
  Shows : SiteRows → Entry
  Last : Entry

-- why another line in its place differs
abbrev pub what_of : Entry → What
what_of (Reads reads) = Fails.Reads
what_of (Ends outcome) = Fails.Outcome
what_of (Forgets tids) = Fails.Forgotten
what_of (Shows rows) = Fails.Table
what_of Last = Fails.Form

-- the lines of a report behind its order
abbrev pub entries : Report → List Entry
entries report = map Reads report.reads ++ map Ends report.outcomes ++ Forgets report.forgotten ∷ map Shows report.tables ++ Last ∷ []

-- those that are due behind this order
abbrev pub due : Scenario → Story → List Tid → List Entry
due scenario story order = entries (report_in scenario story order)

-- the verdict on what stands behind the order, from the line with this number on: each entry that is due, and nothing more
unfoldable pub verdict_on_report : {A : Type 0} → (A → Entry → Bool) → ℕ → List Entry → List A → Verdict
verdict_on_report is n [] [] = Agrees
verdict_on_report is n [] (line ∷ lines) = Differs n Fails.Form
verdict_on_report is n (entry ∷ entries) [] = Differs n Fails.Form
verdict_on_report is n (entry ∷ entries) (line ∷ lines) =
    when (is line entry) (verdict_on_report is (suc n) entries lines) (Differs n (what_of entry))

-- the verdict at the line of the order, which has this number
unfoldable pub verdict_at_order : {A : Type 0} → (A → Entry → Bool) → Scenario → ℕ → List Tid → List A → Story → Verdict
verdict_at_order is scenario n order lines story =
    when (rests scenario story)
    (when (merges (orders scenario story) order) (verdict_on_report is (suc n) (due scenario story order) lines) (Differs n Fails.Order))
    (Differs n Fails.Open)

-- a line with this number differs for the reason, or the verdict is that on the lines behind it
unfoldable pub unless_fault : ℕ → Option What → (Story → Verdict) → Story → Verdict
unless_fault n None next story = next story
unless_fault n (Some what) next story = Differs n what

-- the verdict on a line with this number and those behind it, by what is read of it
unfoldable pub verdict_at : {A : Type 0} → (A → Entry → Bool) → Scenario → ℕ → Printed → List A → (Story → Verdict) → Story → Verdict
verdict_at is scenario n (Says line) lines next story = unless_fault n (fault_of scenario story line) next (tell scenario story line.command ∷ story)
verdict_at is scenario n (Orders order) lines next story = verdict_at_order is scenario n order lines story
verdict_at is scenario n Neither lines next story = Differs n Fails.Form

-- the verdict on printed lines, of which the first has this number, behind this story
unfoldable pub verdict_from : {A : Type 0} → (A → Printed) → (A → Entry → Bool) → Scenario → ℕ → List A → Story → Verdict
verdict_from read is scenario n [] story = Differs n Fails.Form
verdict_from read is scenario n (line ∷ lines) story =
    verdict_at is scenario n (read line) lines (verdict_from read is scenario (suc n) lines) story
