-- Lines of sessions that go on from disks: which of them can be printed, and that the commands that close them are heard.
use Rattle.std.specs.Prelude.{◌≡◌, IsTrue, List, [], ◌∷◌, ◌++◌, map}
use Rattle.mdb_base.specs.Words.{Each}
use Rattle.fed_rules.specs.declared.commands.Command.{Command}
use Rattle.fed_rules.specs.declared.commands.Line.{Line}
use Rattle.fed_rules.specs.Closing.{closed_in}
use Rattle.fed_rules.specs.Found.{Found}
use Rattle.fed_rules.specs.Resumed.{going_on, plan_of, resuming}
use Rattle.fed_rules.specs.Right.{IsNext}
use Rattle.fed_rules.specs.Sessions.{Session}
use Rattle.fed_rules.specs.Story.{Story, story_in}
use Rattle.found_laws.specs.FoundSessions.{AreUsable}
use Rattle.line_text.specs.Fits.{line_fits}
use Rattle.line_laws.specs.Lines.{IsHeard}

-- the story that lines of this session tell, the last one first
abbrev pub told_in : Session → List Line → Story
told_in session lines = story_in session (map (λ line. line.command) lines)

-- each line is the next one on the lines before it; the last one stands first
abbrev pub IsRightIn : Session → List Line → Type 0
IsRightIn session [] = Unit {0}
IsRightIn session (line ∷ lines) = IsRightIn session lines × IsNext session.plan (told_in session lines) line

-- in a session that goes on from usable disks, whoever left them, the next line at a command to declared sites is one that the command can have,
-- behind whatever commands
abbrev pub ResumedNextLinesFit : Type 0
ResumedNextLinesFit =
    (found : Found) → AreUsable found → (commands : List Command) (line : Line) → IsHeard (plan_of found).sites line.command
    → IsNext (plan_of found) (story_in (going_on found) commands) line → IsTrue (line_fits line)

-- and so is each right line
abbrev pub ResumedLinesFit : Type 0
ResumedLinesFit =
    (found : Found) → AreUsable found → (lines : List Line) → Each (IsHeard (plan_of found).sites) (map (λ line. line.command) lines)
    → IsRightIn (going_on found) lines → Each (λ line. IsTrue (line_fits line)) lines

-- the commands that close a session are heard where those before are, whatever was found on its disks
abbrev pub SessionsCloseHeard : Type 0
SessionsCloseHeard =
    (session : Session) (commands : List Command) → Each (IsHeard session.plan.sites) commands → Each (IsHeard session.plan.sites) (closed_in session commands)

-- so those of a session that goes on are, and the first of them, whichever come behind
abbrev pub ResumingIsHeard : Type 0
ResumingIsHeard =
    (found : Found) (behind commands : List Command) → behind ++ commands ≡ resuming found → Each (IsHeard (plan_of found).sites) commands
