-- The coordinator writes a Checkpoint behind a commit. Where all participants presume abort there is no Initiation: the attempt is open, with the
-- sites of its Commit, and is known after a stop. Where all presume commit it was forgotten at once, and isn't open.
use Rattle.std.proofs.Common.{◌≡◌, true, false, None, List, [], ◌∷◌, ◌++◌, map, reverse, refl}
use Rattle.std.specs.Prelude.{length}
use Rattle.mdb_base.specs.declared.names.Engine.TheVariants.{Locking}
use Rattle.mdb_base.specs.declared.names.SiteTicket.{SiteTicket}
use Rattle.mdb_base.specs.declared.replies.Reply.TheVariants as Reply_is
use Rattle.presumptions.specs.declared.Decision.TheVariants as Decided
use Rattle.presumptions.specs.declared.Participant.{Participant}
use Rattle.presumptions.specs.declared.Protocol.TheVariants as By
use Rattle.fed_rules.specs.declared.answers.Answer.TheVariants as Say
use Rattle.fed_rules.specs.declared.commands.Line.{Line}
use Rattle.fed_rules.specs.declared.scenario.Scenario.{Scenario}
use Rattle.fed_rules.specs.declared.sums.CoordSum.{CoordSum}
use Rattle.fed_rules.specs.Closing.{closed}
use Rattle.fed_rules.specs.CoordPast.{journal}
use Rattle.fed_rules.specs.CoordSums.{coord_journal_sum}
use Rattle.fed_rules.specs.Right.{story_told}
use Rattle.fed_rules.specs.Scenarios.{protocols}
use Rattle.fed_rules.specs.Story.{Story, coord_past, lines_of}
use Rattle.fed_rules.proofs.Opened.{opened}
use Rattle.fed_rules.proofs.Spelled.{at, tid, set, site, step_at, global, scenario_of, go, again, give, take, halt, back, check, place, line}

abbrev member : Participant
member = record { site = at 1; protocol = By.Abort }

abbrev ticket : SiteTicket
ticket = record { site = at 1; ticket = 1 }

abbrev scenario : Scenario
scenario = scenario_of (site 1 Locking By.Abort ∷ []) [] (global 1 (step_at 1 (set 1 1) ∷ []) ∷ [])

-- the lines of the commands, the first one first
abbrev printed : List Line
printed =
    line (go 1) (Say.Begun (tid 1 0)) (place 1 0 ∷ [])
    ∷ line (give 1 0) (Say.Did (tid 1 0) Reply_is.Done) (place 1 0 ∷ [])
    ∷ line (take 1 0) Say.Only (place 1 1 ∷ [])
    ∷ line (give 1 1) (Say.Did (tid 1 0) (Reply_is.Ticket 1)) (place 1 1 ∷ [])
    ∷ line (take 1 1) Say.Only (place 1 2 ∷ [])
    ∷ line (give 1 2) (Say.VotesYes (tid 1 0) 1) (place 1 2 ∷ [])
    ∷ line (take 1 2) (Say.Decides Decided.Commit None false) (place 1 3 ∷ [])
    ∷ line (check 0) Say.Checked []
    ∷ line (halt 0 0) (Say.Stopped 1) []
    ∷ line (back 0) (Say.UpCoord 1) []
    ∷ []

-- the lines that closing adds
abbrev closing : List Line
closing =
    line (again (tid 1 0)) Say.Only (place 1 4 ∷ [])
    ∷ line (give 1 4) (Say.Settles (tid 1 0) Decided.Commit) (place 1 3 ∷ [])
    ∷ line (take 1 3) Say.Forgets []
    ∷ []

-- the last line first
abbrev lines : List Line
lines = reverse (printed ++ closing)

abbrev story : Story
story = story_told scenario lines

lines_are_right : lines_of story ≡ lines
unfolding opened
lines_are_right = refl

-- closing makes those lines and no others
closing_is_right : closed scenario (map (λ line. line.command) (reverse printed)) ≡ map (λ line. line.command) lines
unfolding opened
closing_is_right = refl

-- before it is closed the journal is the Checkpoint alone, and says that the attempt is open
abbrev stopped : Story
stopped = story_told scenario (reverse printed)

standing : length (journal (coord_past stopped)) ≡ 1
unfolding opened
standing = refl

abbrev sum : CoordSum
sum =
    record {
      open_attempts = record { tid = tid 1 0; participants = member ∷ [] } ∷ [];
      committed = record { tid = tid 1 0; tickets = ticket ∷ [] } ∷ [];
    }

sum_is_right : coord_journal_sum (protocols scenario) (journal (coord_past stopped)) ≡ sum
unfolding opened
sum_is_right = refl

-- with all presuming commit
abbrev other_scenario : Scenario
other_scenario = scenario_of (site 1 Locking By.Commit ∷ []) [] (global 1 (step_at 1 (set 1 1) ∷ []) ∷ [])

abbrev other_lines : List Line
other_lines =
    reverse
    (line (go 1) (Say.Begun (tid 1 0)) (place 1 0 ∷ [])
    ∷ line (give 1 0) (Say.Did (tid 1 0) Reply_is.Done) (place 1 0 ∷ [])
    ∷ line (take 1 0) Say.Only (place 1 1 ∷ [])
    ∷ line (give 1 1) (Say.Did (tid 1 0) (Reply_is.Ticket 1)) (place 1 1 ∷ [])
    ∷ line (take 1 1) Say.Initiates (place 1 2 ∷ [])
    ∷ line (give 1 2) (Say.VotesYes (tid 1 0) 1) (place 1 2 ∷ [])
    ∷ line (take 1 2) (Say.Decides Decided.Commit None true) (place 1 3 ∷ [])
    ∷ line (check 0) Say.Checked []
    ∷ [])

abbrev other_story : Story
other_story = story_told other_scenario other_lines

other_lines_are_right : lines_of other_story ≡ other_lines
unfolding opened
other_lines_are_right = refl

abbrev other_sum : CoordSum
other_sum = record { open_attempts = []; committed = record { tid = tid 1 0; tickets = ticket ∷ [] } ∷ [] }

other_sum_is_right : coord_journal_sum (protocols other_scenario) (journal (coord_past other_story)) ≡ other_sum
unfolding opened
other_sum_is_right = refl
