-- A local attempt is left live. Closing aborts it, and then each transaction is finished alone: the local one by its own commands, and the
-- global one by the delivery of each message in the order of sending.
use Rattle.std.proofs.Common.{◌≡◌, true, None, false, List, [], ◌∷◌, ◌++◌, map, reverse, refl}
use Rattle.mdb_base.specs.declared.names.Engine.TheVariants.{Locking, Validation}
use Rattle.mdb_base.specs.declared.replies.Reply.TheVariants as Reply_is
use Rattle.presumptions.specs.declared.Decision.TheVariants as Decided
use Rattle.presumptions.specs.declared.Protocol.TheVariants as By
use Rattle.fed_rules.specs.declared.answers.Answer.TheVariants as Say
use Rattle.fed_rules.specs.declared.commands.Command.{Command}
use Rattle.fed_rules.specs.declared.commands.Line.{Line}
use Rattle.fed_rules.specs.declared.scenario.Scenario.{Scenario}
use Rattle.fed_rules.specs.Closing.{closed, finished_alone, global_alone, is_done, local_alone}
use Rattle.fed_rules.specs.Orders.{orders, table_of}
use Rattle.fed_rules.specs.Right.{story_told}
use Rattle.fed_rules.specs.Scenarios.{program_of, sites}
use Rattle.fed_rules.specs.Story.{Story, lines_of}
use Rattle.fed_rules.proofs.Opened.{opened}
use Rattle.fed_rules.proofs.Spelled.{tx, key, tid, get, add, site, item, step_at, local, global, scenario_of, begin, step, commit, abort, go, give, take, place, line, entry}

abbrev scenario : Scenario
scenario =
    scenario_of
    (site 1 Locking By.Abort ∷ site 2 Validation By.Commit ∷ [])
    (item 1 10 5 ∷ [])
    (global 2 (step_at 1 (get 10) ∷ step_at 2 (add 20 0 1) ∷ [])
    ∷ local 1 1 (get 10 ∷ add 10 0 7 ∷ []) ∷ [])

-- the lines of the commands, the first one first
abbrev printed : List Line
printed =
    line (begin 1) (Say.Begun (tid 1 0)) []
    ∷ line (step 1) (Say.Read (key 10) 5) []
    ∷ []

-- the line that closing adds
abbrev closing : List Line
closing =
    line (abort 1) (Say.Aborted (tid 1 0)) []
    ∷ []

-- the local transaction alone
abbrev local_lines : List Line
local_lines =
    line (begin 1) (Say.Begun (tid 1 1)) []
    ∷ line (step 1) (Say.Read (key 10) 5) []
    ∷ line (step 1) (Say.Wrote (key 10) 12) []
    ∷ line (commit 1) (Say.Sealed (tid 1 1) 3) []
    ∷ []

-- the global transaction alone
abbrev global_lines : List Line
global_lines =
    line (go 2) (Say.Begun (tid 2 0)) (place 1 0 ∷ [])
    ∷ line (give 1 0) (Say.Did (tid 2 0) (Reply_is.Value 12)) (place 1 0 ∷ [])
    ∷ line (take 1 0) Say.Only (place 1 1 ∷ place 2 0 ∷ [])
    ∷ line (give 1 1) (Say.Did (tid 2 0) (Reply_is.Ticket 1)) (place 1 1 ∷ [])
    ∷ line (take 1 1) Say.Initiates (place 1 2 ∷ [])
    ∷ line (give 2 0) (Say.Did (tid 2 0) Reply_is.Done) (place 2 0 ∷ [])
    ∷ line (take 2 0) Say.Only (place 2 1 ∷ [])
    ∷ line (give 1 2) (Say.VotesYes (tid 2 0) 1) (place 1 2 ∷ [])
    ∷ line (take 1 2) Say.Voted []
    ∷ line (give 2 1) (Say.Did (tid 2 0) (Reply_is.Ticket 1)) (place 2 1 ∷ [])
    ∷ line (take 2 1) Say.Only (place 2 2 ∷ [])
    ∷ line (give 2 2) (Say.VotesYes (tid 2 0) 1) (place 2 2 ∷ [])
    ∷ line (take 2 2) (Say.Decides Decided.Commit None false) (place 1 3 ∷ place 2 3 ∷ [])
    ∷ line (give 1 3) (Say.Settles (tid 2 0) Decided.Commit) (place 1 3 ∷ [])
    ∷ line (take 1 3) Say.Forgets []
    ∷ line (give 2 3) (Say.Settles (tid 2 0) Decided.Commit) []
    ∷ []

-- the last line first
abbrev lines : List Line
lines = reverse (printed ++ closing ++ local_lines ++ global_lines)

abbrev commands_of : List Line → List Command
commands_of some = map (λ l. l.command) (reverse some)

abbrev story : Story
story = story_told scenario lines

lines_are_right : lines_of story ≡ lines
unfolding opened
lines_are_right = refl

closing_is_right : closed scenario (commands_of printed) ≡ commands_of (printed ++ closing)
unfolding opened
closing_is_right = refl

-- each of them alone makes those lines
local_is_right : local_alone (tx 1) (program_of scenario (tx 1)) (commands_of (printed ++ closing)) ≡ commands_of (printed ++ closing ++ local_lines)
unfolding opened
local_is_right = refl

global_is_right : global_alone scenario (tx 2) (program_of scenario (tx 2)) (commands_of (printed ++ closing ++ local_lines)) ≡ map (λ l. l.command) lines
unfolding opened
global_is_right = refl

-- and both are finished by rising number
alone_is_right : finished_alone scenario (closed scenario (commands_of printed)) ≡ map (λ l. l.command) lines
unfolding opened
alone_is_right = refl

both_are_done : map (is_done scenario story) (tx 1 ∷ tx 2 ∷ []) ≡ true ∷ true ∷ []
unfolding opened
both_are_done = refl

-- nothing is left to finish
nothing_is_left : finished_alone scenario (map (λ l. l.command) lines) ≡ map (λ l. l.command) lines
unfolding opened
nothing_is_left = refl

site_orders : orders scenario story ≡ (tid 1 1 ∷ tid 2 0 ∷ []) ∷ (tid 2 0 ∷ []) ∷ []
unfolding opened
site_orders = refl

tables_are_right : map (table_of scenario story) (sites scenario) ≡ (entry 10 12 ∷ []) ∷ (entry 20 13 ∷ []) ∷ []
unfolding opened
tables_are_right = refl
