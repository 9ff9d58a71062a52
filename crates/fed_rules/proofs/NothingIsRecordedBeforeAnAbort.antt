-- Where all participants presume abort nothing is recorded before the decision. A stop of the coordinator forgets the prepared attempt, and its
-- site asks and is answered abort by its presumption.
use Rattle.std.proofs.Common.{◌≡◌, List, [], ◌∷◌, map, reverse, refl}
use Rattle.mdb_base.specs.declared.names.Engine.TheVariants.{Locking}
use Rattle.mdb_base.specs.declared.replies.Reply.TheVariants as Reply_is
use Rattle.presumptions.specs.declared.Decision.TheVariants as Decided
use Rattle.presumptions.specs.declared.Protocol.TheVariants as By
use Rattle.fed_rules.specs.declared.answers.Answer.TheVariants as Say
use Rattle.fed_rules.specs.declared.commands.Line.{Line}
use Rattle.fed_rules.specs.declared.report.Report.{Report}
use Rattle.fed_rules.specs.declared.scenario.Scenario.{Scenario}
use Rattle.fed_rules.specs.Closing.{closed}
use Rattle.fed_rules.specs.Reports.{report_of}
use Rattle.fed_rules.specs.Right.{story_told}
use Rattle.fed_rules.specs.Story.{Story, lines_of}
use Rattle.fed_rules.proofs.Opened.{opened}
use Rattle.fed_rules.proofs.Spelled.{tid, set, site, step_at, global, scenario_of, go, give, take, ask, halt, back, place, line, ended, table}

abbrev scenario : Scenario
scenario = scenario_of (site 1 Locking By.Abort ∷ []) [] (global 1 (step_at 1 (set 1 1) ∷ []) ∷ [])

-- the lines of the commands, the first one first
abbrev printed : List Line
printed =
    line (go 1) (Say.Begun (tid 1 0)) (place 1 0 ∷ [])
    ∷ line (give 1 0) (Say.Did (tid 1 0) Reply_is.Done) (place 1 0 ∷ [])
    ∷ line (take 1 0) Say.Only (place 1 1 ∷ [])
    ∷ line (give 1 1) (Say.Did (tid 1 0) (Reply_is.Ticket 1)) (place 1 1 ∷ [])
    ∷ line (take 1 1) Say.Only (place 1 2 ∷ [])
    ∷ line (give 1 2) (Say.VotesYes (tid 1 0) 1) (place 1 2 ∷ [])
    ∷ line (halt 0 0) (Say.Stopped 0) []
    ∷ line (back 0) (Say.UpCoord 0) []
    ∷ line (ask 1 (tid 1 0)) (Say.Asks (tid 1 0)) (place 1 3 ∷ [])
    ∷ line (take 1 3) (Say.Presumes Decided.Abort) (place 1 3 ∷ [])
    ∷ line (give 1 3) (Say.Settles (tid 1 0) Decided.Abort) []
    ∷ []

-- the last line first
abbrev lines : List Line
lines = reverse printed

abbrev story : Story
story = story_told scenario lines

lines_are_right : lines_of story ≡ lines
unfolding opened
lines_are_right = refl

nothing_is_left_to_close : closed scenario (map (λ line. line.command) lines) ≡ map (λ line. line.command) lines
unfolding opened
nothing_is_left_to_close = refl

abbrev report : Report
report =
    record {
      order = [];
      reads = [];
      outcomes = ended (tid 1 0) Decided.Abort ∷ [];
      forgotten = tid 1 0 ∷ [];
      tables = table 1 [] ∷ [];
    }

report_is_right : report_of scenario story ≡ report
unfolding opened
report_is_right = refl
