-- The commands that close a session, so that every actor is up, no trip is armed, and nothing is live, in doubt or known; and those that
-- finish a transaction alone. Attempts and sites go in rising order, and the last command stands first. This project's profile.
use Rattle.std.specs.Prelude.{ℕ, zero, suc, ◌*◌, nat_lt, Bool, true, false, not, is_some, Option, Some, None, List, [], ◌∷◌, ◌++◌, length, map}
use Rattle.mdb_base.specs.declared.acts.Step.{Step}
use Rattle.mdb_base.specs.declared.names.SiteId.{SiteId}
use Rattle.mdb_base.specs.declared.names.Tid.{Tid}
use Rattle.mdb_base.specs.declared.names.Tx.{Tx}
use Rattle.mdb_base.specs.Names.{tid_before}
use Rattle.mdb_base.specs.Words.{those, inserted}
use Rattle.fed_rules.specs.declared.commands.Command.{Command}
use Rattle.fed_rules.specs.declared.commands.Command.TheVariants as Cmd
use Rattle.fed_rules.specs.declared.commands.Line.{Line}
use Rattle.fed_rules.specs.declared.commands.Place.{Place}
use Rattle.fed_rules.specs.declared.scenario.Scenario.{Scenario}
use Rattle.fed_rules.specs.declared.scenario.TxLine.{TxLine}
use Rattle.fed_rules.specs.CoordPast as Coordinator
use Rattle.fed_rules.specs.CoordPast.{CoordPast, is_open, is_known, standing, begun_tids}
use Rattle.fed_rules.specs.CoordRecords.{committed_of}
use Rattle.fed_rules.specs.Happenings.{is_down}
use Rattle.fed_rules.specs.Runs.{unended, is_sealed}
use Rattle.fed_rules.specs.Scenarios.{home_of, local_home, protocols, sites}
use Rattle.fed_rules.specs.SitePast.{SitePast, epoch_start, engine_lines, is_local, trip, records}
use Rattle.fed_rules.specs.SiteRecords.{Home, doubts, local_of}
use Rattle.fed_rules.specs.Sessions.{Session, fresh}
use Rattle.fed_rules.specs.Story.{Story, coord_past, lines_of, past_of, story_in, story_of}

-- the commands with those that each item adds in its turn
abbrev pub for_each : {A : Type 0} → (A → List Command → List Command) → List A → List Command → List Command
for_each add [] commands = commands
for_each add (x ∷ xs) commands = for_each add xs (add x commands)

-- attempts by rising transaction and attempt
abbrev pub rising : List Tid → List Tid
rising [] = []
rising (tid ∷ tids) = inserted tid_before tid (rising tids)

abbrev pub one : {A : Type 0} → Bool → A → List A → List A
one true x xs = x ∷ xs
one false x xs = xs

-- the actors of which the tests hold, the coordinator first
abbrev pub actors : (CoordPast → Bool) → (SitePast → Bool) → Scenario → Story → List ℕ
actors of_coordinator of_site scenario story =
    one (of_coordinator (coord_past story)) 0
    (map (λ site. site.0) (those (λ site. of_site (past_of site story)) (sites scenario)))

-- each armed trip is disarmed
abbrev pub disarm : Session → List Command → List Command
disarm session commands =
    for_each (λ actor more. Cmd.Trip actor 0 0 ∷ more)
    (actors (λ past. is_some (Coordinator.trip past)) (λ past. is_some (trip past)) session.plan (story_in session commands)) commands

-- each actor that is down comes back
abbrev pub bring_up : Session → List Command → List Command
bring_up session commands =
    for_each (λ actor more. Cmd.Back actor ∷ more)
    (actors (λ past. is_down past) (λ past. is_down past) session.plan (story_in session commands)) commands

-- the attempts that are known without a decision
abbrev pub undecided : Story → List Tid
undecided story = rising (those (is_open (coord_past story)) (begun_tids (coord_past story)))

-- each of them is given up
abbrev pub give_up : Session → List Command → List Command
give_up session commands = for_each (λ tid more. Cmd.Late tid ∷ more) (undecided (story_in session commands)) commands

abbrev pub live_at : Option Home → Story → List Tid
live_at None story = []
live_at (Some home) story =
    rising (map (λ run. run.tid) (those (λ run. not (is_sealed run))
    (unended (epoch_start home (past_of home.site story)) (engine_lines (past_of home.site story)))))

-- the attempts that are live at a site
abbrev pub live : Scenario → Story → SiteId → List Tid
live scenario story site = live_at (home_of scenario site) story

-- at a site each live local transaction is aborted, and then each live subtransaction dropped
abbrev pub clear_site : Scenario → Story → SiteId → List Command → List Command
clear_site scenario story site commands =
    for_each (λ tid more. Cmd.Drop site tid ∷ more) (those (λ tid. not (is_local (past_of site story) tid)) (live scenario story site))
    (for_each (λ tid more. Cmd.Abort tid.tx ∷ more) (those (is_local (past_of site story)) (live scenario story site)) commands)

abbrev pub clear : Session → List Command → List Command
clear session commands = for_each (clear_site session.plan (story_in session commands)) (sites session.plan) commands

abbrev pub sends_of_last : List Line → List Place
sends_of_last [] = []
sends_of_last (line ∷ lines) = line.sends

-- the places of what the last command sent
abbrev pub last_sends : Session → List Command → List Place
last_sends session commands = sends_of_last (lines_of (story_in session commands))

-- what a site just sent is taken
abbrev pub take_answers : List Place → List Command → List Command
take_answers [] commands = commands
take_answers (place ∷ places) commands = take_answers places (Cmd.Take place.site place.place ∷ commands)

abbrev pub taken : Session → List Command → List Command
taken session commands = take_answers (last_sends session commands) commands

-- a message is given, and what the site sends is taken
abbrev pub deliver : Session → Place → List Command → List Command
deliver session place commands = taken session (Cmd.Give place.site place.place ∷ commands)

-- a decision is sent again, and each of its messages delivered
abbrev pub send_again : Session → Tid → List Command → List Command
send_again session tid commands =
    let again = Cmd.Again tid ∷ commands in for_each (deliver session) (last_sends session again) again

-- the attempts that are known
abbrev pub known : Scenario → Story → List Tid
known scenario story =
    rising (those (λ tid. is_known (standing (protocols scenario) (coord_past story) tid)) (begun_tids (coord_past story)))

-- each known attempt is ended
abbrev pub end_known : Session → List Command → List Command
end_known session commands = for_each (send_again session) (known session.plan (story_in session commands)) commands

abbrev pub in_doubt_at : Option Home → Story → List Tid
in_doubt_at None story = []
in_doubt_at (Some home) story = rising (map (λ held. held.tid) (doubts (records home (past_of home.site story))))

-- a site asks about an attempt, and is given the answer
abbrev pub inquire : Session → SiteId → Tid → List Command → List Command
inquire session site tid commands =
    let asked = taken session (Cmd.Ask site tid ∷ commands) in
    for_each (λ place more. Cmd.Give place.site place.place ∷ more) (last_sends session asked) asked

-- each doubt of a site is cleared
abbrev pub ask_site : Session → Story → SiteId → List Command → List Command
ask_site session story site commands = for_each (inquire session site) (in_doubt_at (home_of session.plan site) story) commands

abbrev pub ask_all : Session → List Command → List Command
ask_all session commands = for_each (ask_site session (story_in session commands)) (sites session.plan) commands

-- a session with the commands that close it
abbrev pub closed_in : Session → List Command → List Command
closed_in session commands =
    ask_all session (end_known session (clear session (give_up session (bring_up session (disarm session commands)))))

-- so it is for one that begins with empty disks
abbrev pub closed : Scenario → List Command → List Command
closed scenario commands = closed_in (fresh scenario) commands

-- ---- what finishes a transaction alone, in a session that begins with empty disks

-- a local transaction alone: begin, each step, commit
abbrev pub steps_alone : Tx → List Step → List Command → List Command
steps_alone tx [] commands = commands
steps_alone tx (step ∷ steps) commands = steps_alone tx steps (Cmd.Step tx ∷ commands)

abbrev pub local_alone : Tx → List Step → List Command → List Command
local_alone tx steps commands = Cmd.Commit tx ∷ steps_alone tx steps (Cmd.Begin tx ∷ commands)

-- what a site just sent is taken; the places of what the coordinator sends at that
abbrev pub sent_next : Scenario → List Command → List Place → List Place
sent_next scenario commands [] = []
sent_next scenario commands (place ∷ places) = last_sends (fresh scenario) commands

-- the earliest message that wasn't given is delivered, at most so many times, until nothing is left; what is sent at that stands behind
abbrev pub deliver_all : Scenario → ℕ → List Place → List Command → List Command
deliver_all scenario zero places commands = commands
deliver_all scenario (suc n) [] commands = commands
deliver_all scenario (suc n) (place ∷ places) commands =
    let given = Cmd.Give place.site place.place ∷ commands in
    let answered = taken (fresh scenario) given in
    deliver_all scenario n (places ++ sent_next scenario answered (last_sends (fresh scenario) given)) answered

-- a global transaction alone: each of its messages is delivered in the order of sending
abbrev pub global_alone : Scenario → Tx → List Step → List Command → List Command
global_alone scenario tx steps commands =
    let begun = Cmd.Go tx ∷ commands in deliver_all scenario (4 * length steps) (last_sends (fresh scenario) begun) begun

-- the site at which a transaction committed as a local one
abbrev pub is_done_at : Option Home → Story → Tx → Bool
is_done_at None story tx = is_some (committed_of (Coordinator.records (coord_past story)) tx)
is_done_at (Some home) story tx = is_some (local_of (records home (past_of home.site story)) tx)

-- whether an attempt of the transaction committed
abbrev pub is_done : Scenario → Story → Tx → Bool
is_done scenario story tx = is_done_at (local_home scenario tx) story tx

abbrev pub one_alone : Scenario → TxLine → Option SiteId → List Command → List Command
one_alone scenario line None commands = global_alone scenario line.tx line.program commands
one_alone scenario line (Some site) commands = local_alone line.tx line.program commands

-- the transactions by rising number
abbrev pub by_number : List TxLine → List TxLine
by_number [] = []
by_number (line ∷ lines) = inserted (λ a b. nat_lt a.tx.0 b.tx.0) line (by_number lines)

-- a session with each transaction that has no commit finished alone, by rising number
abbrev pub finished_alone : Scenario → List Command → List Command
finished_alone scenario commands =
    for_each (λ line. one_alone scenario line line.home)
    (those (λ line. not (is_done scenario (story_of scenario commands) line.tx)) (by_number scenario.transactions)) commands
