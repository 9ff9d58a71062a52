-- What becomes of a session that is replayed.
use Rattle.std.specs.Prelude.{ℕ, ◌≡◌, ◌⊎◌, List, [], ◌++◌}
use Rattle.fed_rules.specs.declared.commands.Command.{Command}
use Rattle.fed_rules.specs.declared.commands.Line.{Line}
use Rattle.journal_disk.specs.Disk.{Seen}
use Rattle.fed_world.specs.Faults.{faults_of}
use Rattle.fed_rules.specs.Right.{AreLines}
use Rattle.scenario_text.specs.declared.session.Session.{Session}
use Rattle.line_laws.specs.Printed.{printed}
use Rattle.line_text.specs.Spelling.{lines_bytes}
use Rattle.session_outputs.specs.Breaks.{BreaksSetUp}
use Rattle.session_outputs.specs.Outcomes.{AreUnrefused, BreaksBehind, IsDone, StartsShort, StopsShort}
use Rattle.outputs.specs.Outputs.{Account}
use Rattle.session_outputs.specs.Sessions.{commands_of, story}
use Rattle.outputs.specs.Texts.{disk_failed_text}

-- all commands of the session were carried out without a failed disk: the output is their lines, and then the report
pub record PlaysWhole (output : List ℕ) (old new : List Seen) (session : Session) : Type 0 where
  pub lines : List Line
  pub done : IsDone lines new session.scenario (commands_of session)
  pub calm : faults_of new ≡ faults_of old
  pub output_is : output ≡ printed lines session.scenario (story session)

-- a call of this disk failed within the event of the command behind these, or no command was carried out and it failed while its site was set up
abbrev pub Breaks : {D : Type 0} → (D → Seen) → ℕ → List Seen → List Seen → Session → List Command → Type 0
Breaks seen number old new session done =
    BreaksBehind seen number old new session.scenario (commands_of session) done ⊎ ((done ≡ []) × BreaksSetUp number old new session.scenario)

-- a call of a disk failed: the output is the lines of the commands before, which are right, and behind them which disk
pub record PlaysBroken {D : Type 0} (seen : D → Seen) (output : List ℕ) (old new : List Seen) (session : Session) : Type 0 where
  pub number : ℕ
  pub done : List Command
  pub lines : List Line
  pub lines_are : AreLines lines session.scenario done
  pub unrefused : AreUnrefused session.scenario lines
  pub output_is : output ≡ lines_bytes lines ++ disk_failed_text number
  pub breaks : Breaks seen number old new session done

-- memory was wanting for the text of the lines made until a call of a disk failed
pub record BreaksShort {D : Type 0} (seen : D → Seen) (old new : List Seen) (session : Session) : Type 0 where
  pub number : ℕ
  pub done : List Command
  pub breaks : Breaks seen number old new session done

-- memory was wanting in a session that was begun
abbrev pub IsShort : {D : Type 0} → (D → Seen) → List Seen → List Seen → Session → Type 0
IsShort seen old new session =
    StartsShort old new session.scenario ⊎ (StopsShort old new session.scenario (commands_of session) ⊎ BreaksShort seen old new session)

-- what `replay` says of its output, with disks of which this is seen
abbrev pub replaying : {D : Type 0} → (D → Seen) → Account Session
replaying seen = record { whole = PlaysWhole; broken = PlaysBroken seen; short = IsShort seen }
