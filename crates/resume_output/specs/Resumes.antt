-- What becomes of a session that goes on from nine disks.
use Rattle.std.specs.Prelude.{ℕ, ◌≡◌, ◌⊎◌, Some, List, ◌∷◌, ◌++◌, Result, Ok, Err, slice_get}
use Rattle.mdb_base.specs.declared.names.Memory.{Memory}
use Rattle.fed_rules.specs.declared.commands.Command.{Command}
use Rattle.fed_rules.specs.declared.commands.Line.{Line}
use Rattle.fed_rules.specs.declared.scenario.Scenario.{Scenario}
use Rattle.fed_rules.specs.Found.{Found}
use Rattle.fed_rules.specs.Resumed.{going_on, plan_of, resumed, resuming}
use Rattle.fed_rules.specs.Sessions.{Session}
use Rattle.fed_rules.specs.Story.{Story, story_in, story_of}
use Rattle.closing_laws.specs.AtRest.{IsAtRest}
use Rattle.found_laws.specs.FoundSessions.{AreUsable}
use Rattle.journal_disk.specs.Disk.{Seen}
use Rattle.line_text.specs.Spelling.{lines_bytes}
use Rattle.report_text.specs.Spelling.{rest_bytes}
use Rattle.found_disks.specs.declared.errors.ReopenErr.{ReopenErr}
use Rattle.found_disks.specs.declared.errors.ReopenErr.TheVariants as Err_is
use Rattle.found_disks.specs.declared.reading.Journals.{Journals}
use Rattle.found_disks.specs.Faults.{RisesAt, faults_of}
use Rattle.found_disks.specs.Finding.{FindsAs, found_in}
use Rattle.found_disks.specs.Reading.{AreRead, images_of}
use Rattle.left_disks.specs.Left.{GoesOnFrom, IsLeft}
use Rattle.fed_world.specs.Beginnings.{GoesOn}
use Rattle.fed_world.specs.Lines.{AreLinesIn}
use Rattle.fed_world.specs.Reporting.{found_report}
use Rattle.fed_world.specs.Worlds.{Rests}
use Rattle.closing.specs.Between.{WereCalm}
use Rattle.outputs.specs.Stops.{ActorStops}
use Rattle.outputs.specs.Kept.{CoordKeeps, KeepAll, KeepOthers, SiteKeeps}
use Rattle.outputs.specs.declared.output.Output.{Output}
use Rattle.outputs.specs.declared.output.Output.TheVariants.{Whole, Broken}
use Rattle.outputs.specs.Texts.{disk_failed_text}

-- ---- what is found

-- this is found on the disks, and a session may go on from it
pub record IsFoundOn (disks : List Seen) (found : Found) : Type 0 where
  pub journals : Journals
  pub read : AreRead (images_of disks) journals
  pub is : found ≡ found_in (images_of disks) journals
  pub usable : AreUsable found

-- ---- what is printed

-- the session goes on from disks, and is at rest
pub record IsResumed (session : Session) (commands : List Command) : Type 0 where
  pub goes_on : GoesOn session
  pub rests : Rests session commands

-- the text is that of the right lines of these commands, and of what is reported behind the reads
pub record IsPrintedBehind (text : List ℕ) (session : Session) (commands : List Command) : Type 0 where
  pub lines : List Line
  pub lines_are : AreLinesIn lines session commands
  pub text_is : text ≡ lines_bytes lines ++ rest_bytes (found_report session.found (story_in session commands))

-- ---- what is on the disks on the way to rest

-- some of the commands that bring it to rest were carried out, no disk failed, and each has the records that its actor keeps behind them
pub record StandsBehind (found : Found) (old new : List Seen) : Type 0 where
  pub done : List Command
  pub left : List Command
  pub of_all : resuming found ≡ left ++ done
  pub kept : KeepAll new (plan_of found) (story_in (going_on found) done)
  pub calm : faults_of new ≡ faults_of old

-- a call of this disk failed within the command behind some of these. Before that the disks had the records that their actors keep behind these, and no
-- count of faults had risen; from then on the count of this disk rose and no other. It has the records that some stop within the command's event leaves,
-- and each other disk those that its actor keeps
pub record BreaksBehind {D : Type 0} (seen : D → Seen) (number : ℕ) (found : Found) (old new : List Seen) : Type 0 where
  pub done : List Command
  pub command : Command
  pub left : List Command
  pub of_all : resuming found ≡ left ++ command ∷ done
  pub before : List Seen
  pub were : WereCalm seen old before
  pub kept : KeepAll before (plan_of found) (story_in (going_on found) done)
  pub rose : RisesAt number before new
  pub disk : Seen
  pub own : slice_get new number ≡ Some disk
  pub stop : ActorStops (CoordKeeps disk.image) (SiteKeeps disk.image) number command (plan_of found) (story_in (going_on found) done)
  pub others : KeepOthers number new (plan_of found) (story_in (going_on found) done)

-- ---- what is answered

-- every actor came back and the session was closed, and no disk failed: every actor is up, no trip is armed, and nothing is live, in doubt or known. Each
-- disk has the records that its actor keeps. The output is the lines of these commands, and what is reported behind the reads
pub record ResumesWhole (output : List ℕ) (old new : List Seen) : Type 0 where
  pub found : Found
  pub is_found : IsFoundOn old found
  pub printed : IsPrintedBehind output (going_on found) (resuming found)
  pub rests : IsAtRest (plan_of found) (resumed found)
  pub kept : KeepAll new (plan_of found) (resumed found)
  pub calm : faults_of new ≡ faults_of old

-- a call of a disk failed on the way to rest. The output is the lines of the commands before, which are right, and behind them which disk
pub record ResumesBroken {D : Type 0} (seen : D → Seen) (output : List ℕ) (old new : List Seen) : Type 0 where
  pub found : Found
  pub is_found : IsFoundOn old found
  pub number : ℕ
  pub broke : BreaksBehind seen number found old new
  pub lines : List Line
  pub lines_are : AreLinesIn lines (going_on found) broke.done
  pub output_is : output ≡ lines_bytes lines ++ disk_failed_text number

-- memory was wanting on the way to rest, or for what is to be put behind it
pub record StopsShort {D : Type 0} (seen : D → Seen) (old new : List Seen) : Type 0 where
  pub found : Found
  pub is_found : IsFoundOn old found
  pub came_to : StandsBehind found old new ⊎ (number : ℕ) × BreaksBehind seen number found old new

-- or before it: the bytes on the disks stay, and none failed
abbrev pub ResumesShort : {D : Type 0} → (D → Seen) → List Seen → List Seen → Type 0
ResumesShort seen old new = ((images_of new ≡ images_of old) × (faults_of new ≡ faults_of old)) ⊎ StopsShort seen old new

-- no session goes on: the first damaged disk is named exactly where one is, and else the first one that isn't usable; a disk is said to have failed only
-- where its count of faults rose while the journals were read. The bytes on the disks stay
pub record StopsAtOnce (why : ReopenErr) (old new : List Seen) : Type 0 where
  pub finds : FindsAs (Err why) (images_of old)
  pub images : images_of new ≡ images_of old

-- and the counts of faults say whose call failed
abbrev pub IsRefusedAs : {D : Type 0} → (D → Seen) → ReopenErr → List Seen → List Seen → Type 0
IsRefusedAs seen (Err_is.Damaged number at) old new = StopsAtOnce (Err_is.Damaged number at) old new × (faults_of new ≡ faults_of old)
IsRefusedAs seen (Err_is.Foreign number) old new = StopsAtOnce (Err_is.Foreign number) old new × (faults_of new ≡ faults_of old)
IsRefusedAs seen (Err_is.Disk number) old new = StopsAtOnce (Err_is.Disk number) old new × RisesAt number old new
IsRefusedAs seen Err_is.Memory old new = ResumesShort seen old new

-- what was made, or why nothing was
abbrev pub answered : Result Output Memory → Result Output ReopenErr
answered (Ok output) = Ok output
answered (Err why) = Err Err_is.Memory

-- what `resume` makes of disks of which this is seen
abbrev pub ResumesAs : {D : Type 0} → (D → Seen) → Result Output ReopenErr → List Seen → List Seen → Type 0
ResumesAs seen (Ok (Whole output)) old new = ResumesWhole output.items old new
ResumesAs seen (Ok (Broken output)) old new = ResumesBroken seen output.items old new
ResumesAs seen (Err why) old new = IsRefusedAs seen why old new

-- ---- the disks that a session left

-- no disk is damaged and none is foreign
abbrev pub NoneIsBad : {T : Type 0} → Result T ReopenErr → Type 0
NoneIsBad (Ok done) = Unit {0}
NoneIsBad (Err (Err_is.Damaged number at)) = ⊥
NoneIsBad (Err (Err_is.Foreign number)) = ⊥
NoneIsBad (Err (Err_is.Disk number)) = Unit {0}
NoneIsBad (Err Err_is.Memory) = Unit {0}

-- whatever is found on the disks, the session goes on rightly from it
abbrev pub AllGoesOn : List Seen → Scenario → Story → Type 0
AllGoesOn disks scenario left = (found : Found) → IsFoundOn disks found → GoesOnFrom found scenario left

-- so it is of the disks of each session that was stopped, whatever happened in it
abbrev pub GoesOnFromLeft : {T : Type 0} → Result T ReopenErr → List Seen → Type 0
GoesOnFromLeft result disks =
    (scenario : Scenario) (commands : List Command) → IsLeft disks scenario commands → NoneIsBad result × AllGoesOn disks scenario (story_of scenario commands)
