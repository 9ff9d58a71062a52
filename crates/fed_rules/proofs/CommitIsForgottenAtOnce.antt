-- Where all participants presume commit a commit is forgotten at once, without an End. Its two records are kept, and the coordinator still doesn't
-- know the attempt when it is up again: the site asks and is answered commit by its presumption.
use Rattle.std.proofs.Common.{◌≡◌, None, true, List, [], ◌∷◌, ◌++◌, map, reverse, refl}
use Rattle.mdb_base.specs.declared.names.Engine.TheVariants.{Locking}
use Rattle.mdb_base.specs.declared.replies.Reply.TheVariants as Reply_is
use Rattle.presumptions.specs.declared.Decision.TheVariants as Decided
use Rattle.presumptions.specs.declared.Protocol.TheVariants as By
use Rattle.fed_rules.specs.declared.answers.Answer.TheVariants as Say
use Rattle.fed_rules.specs.declared.commands.Line.{Line}
use Rattle.fed_rules.specs.declared.report.Report.{Report}
use Rattle.fed_rules.specs.declared.scenario.Scenario.{Scenario}
use Rattle.fed_rules.specs.Closing.{closed}
use Rattle.fed_rules.specs.Reports.{report_of}
use Rattle.fed_rules.specs.Right.{story_told}
use Rattle.fed_rules.specs.Story.{Story, lines_of}
use Rattle.fed_rules.proofs.Opened.{opened}
use Rattle.fed_rules.proofs.Spelled.{tid, set, site, step_at, global, scenario_of, go, give, take, ask, halt, back, place, line, entry, read_by, ended, table}

abbrev scenario : Scenario
scenario = scenario_of (site 1 Locking By.Commit ∷ []) [] (global 1 (step_at 1 (set 1 1) ∷ []) ∷ [])

-- the lines of the commands, the first one first
abbrev printed : List Line
printed =
    line (go 1) (Say.Begun (tid 1 0)) (place 1 0 ∷ [])
    ∷ line (give 1 0) (Say.Did (tid 1 0) Reply_is.Done) (place 1 0 ∷ [])
    ∷ line (take 1 0) Say.Only (place 1 1 ∷ [])
    ∷ line (give 1 1) (Say.Did (tid 1 0) (Reply_is.Ticket 1)) (place 1 1 ∷ [])
    ∷ line (take 1 1) Say.Initiates (place 1 2 ∷ [])
    ∷ line (give 1 2) (Say.VotesYes (tid 1 0) 1) (place 1 2 ∷ [])
    ∷ line (take 1 2) (Say.Decides Decided.Commit None true) (place 1 3 ∷ [])
    ∷ line (halt 0 65535) (Say.Stopped 2) []
    ∷ line (back 0) (Say.UpCoord 0) []
    ∷ []

-- the lines that closing adds
abbrev closing : List Line
closing =
    line (ask 1 (tid 1 0)) (Say.Asks (tid 1 0)) (place 1 3 ∷ [])
    ∷ line (take 1 3) (Say.Presumes Decided.Commit) (place 1 4 ∷ [])
    ∷ line (give 1 4) (Say.Settles (tid 1 0) Decided.Commit) []
    ∷ []

-- the last line first
abbrev lines : List Line
lines = reverse (printed ++ closing)

abbrev story : Story
story = story_told scenario lines

lines_are_right : lines_of story ≡ lines
unfolding opened
lines_are_right = refl

-- closing makes those lines and no others
closing_is_right : closed scenario (map (λ line. line.command) (reverse printed)) ≡ map (λ line. line.command) lines
unfolding opened
closing_is_right = refl

abbrev report : Report
report =
    record {
      order = tid 1 0 ∷ [];
      reads = read_by (tid 1 0) [] ∷ [];
      outcomes = ended (tid 1 0) Decided.Commit ∷ [];
      forgotten = tid 1 0 ∷ [];
      tables = table 1 (entry 1 1 ∷ []) ∷ [];
    }

report_is_right : report_of scenario story ≡ report
unfolding opened
report_is_right = refl
