-- The coordinator stops between the append and the sync of its commit record, and the whole frame is kept: the outcome is commit.
use Rattle.std.proofs.Common.{◌≡◌, List, [], ◌∷◌, ◌++◌, map, reverse, refl}
use Rattle.mdb_base.specs.declared.names.Engine.TheVariants.{Locking, Timestamp, Validation}
use Rattle.mdb_base.specs.declared.names.Tid.{Tid}
use Rattle.mdb_base.specs.declared.replies.Reply.TheVariants as Reply_is
use Rattle.presumptions.specs.declared.Decision.TheVariants as Decided
use Rattle.presumptions.specs.declared.Protocol.TheVariants as By
use Rattle.fed_rules.specs.declared.answers.Answer.TheVariants as Say
use Rattle.fed_rules.specs.declared.commands.Line.{Line}
use Rattle.fed_rules.specs.declared.scenario.Scenario.{Scenario}
use Rattle.fed_rules.specs.Closing.{closed}
use Rattle.fed_rules.specs.Orders.{orders, IsMerge}
use Rattle.fed_rules.specs.Reports.{printed_order}
use Rattle.fed_rules.specs.Right.{story_told}
use Rattle.fed_rules.specs.Story.{Story, lines_of}
use Rattle.fed_rules.proofs.Opened.{opened}
use Rattle.fed_rules.proofs.Spelled.{tid, set, site, step_at, global, scenario_of, go, again, give, take, ask, trip, back, place, line}

abbrev scenario : Scenario
scenario =
    scenario_of
    (site 1 Locking By.Nothing ∷ site 2 Timestamp By.Abort ∷ site 3 Validation By.Commit ∷ [])
    []
    (global 1 (step_at 1 (set 1 11) ∷ step_at 2 (set 2 22) ∷ step_at 3 (set 3 33) ∷ []) ∷ [])

-- the lines of the commands, the first one first
abbrev printed : List Line
printed =
    line (go 1) (Say.Begun (tid 1 0)) (place 1 0 ∷ [])
    ∷ line (give 1 0) (Say.Did (tid 1 0) Reply_is.Done) (place 1 0 ∷ [])
    ∷ line (take 1 0) Say.Only (place 1 1 ∷ place 2 0 ∷ [])
    ∷ line (give 1 1) (Say.Did (tid 1 0) (Reply_is.Ticket 1)) (place 1 1 ∷ [])
    ∷ line (take 1 1) Say.Initiates (place 1 2 ∷ [])
    ∷ line (give 1 2) (Say.VotesYes (tid 1 0) 1) (place 1 2 ∷ [])
    ∷ line (take 1 2) Say.Voted []
    ∷ line (give 2 0) (Say.Did (tid 1 0) Reply_is.Done) (place 2 0 ∷ [])
    ∷ line (take 2 0) Say.Only (place 2 1 ∷ place 3 0 ∷ [])
    ∷ line (give 2 1) (Say.Did (tid 1 0) (Reply_is.Ticket 1)) (place 2 1 ∷ [])
    ∷ line (take 2 1) Say.Only (place 2 2 ∷ [])
    ∷ line (give 2 2) (Say.VotesYes (tid 1 0) 1) (place 2 2 ∷ [])
    ∷ line (take 2 2) Say.Voted []
    ∷ line (give 3 0) (Say.Did (tid 1 0) Reply_is.Done) (place 3 0 ∷ [])
    ∷ line (take 3 0) Say.Only (place 3 1 ∷ [])
    ∷ line (give 3 1) (Say.Did (tid 1 0) (Reply_is.Ticket 1)) (place 3 1 ∷ [])
    ∷ line (take 3 1) Say.Only (place 3 2 ∷ [])
    ∷ line (give 3 2) (Say.VotesYes (tid 1 0) 1) (place 3 2 ∷ [])
    ∷ line (trip 0 1 65535) Say.Set []
    ∷ line (take 3 2) (Say.Stopped 2) []
    ∷ line (back 0) (Say.UpCoord 1) []
    ∷ []

-- the lines that closing adds
abbrev closing : List Line
closing =
    line (again (tid 1 0)) Say.Only (place 1 3 ∷ place 2 3 ∷ [])
    ∷ line (give 1 3) (Say.Settles (tid 1 0) Decided.Commit) (place 1 3 ∷ [])
    ∷ line (take 1 3) Say.Acked []
    ∷ line (give 2 3) (Say.Settles (tid 1 0) Decided.Commit) (place 2 3 ∷ [])
    ∷ line (take 2 3) Say.Forgets []
    ∷ line (ask 3 (tid 1 0)) (Say.Asks (tid 1 0)) (place 3 3 ∷ [])
    ∷ line (take 3 3) (Say.Presumes Decided.Commit) (place 3 3 ∷ [])
    ∷ line (give 3 3) (Say.Settles (tid 1 0) Decided.Commit) []
    ∷ []

-- the last line first
abbrev lines : List Line
lines = reverse (printed ++ closing)

abbrev story : Story
story = story_told scenario lines

lines_are_right : lines_of story ≡ lines
unfolding opened
lines_are_right = refl

-- closing makes those lines and no others
closing_is_right : closed scenario (map (λ line. line.command) (reverse printed)) ≡ map (λ line. line.command) lines
unfolding opened
closing_is_right = refl

abbrev order : List Tid
order = tid 1 0 ∷ []

order_is_right : printed_order scenario story ≡ order
unfolding opened
order_is_right = refl

site_orders : orders scenario story ≡ (tid 1 0 ∷ []) ∷ (tid 1 0 ∷ []) ∷ (tid 1 0 ∷ []) ∷ []
unfolding opened
site_orders = refl

order_is_a_merge : IsMerge scenario story order
order_is_a_merge = rw site_orders (record { kept = (refl, (refl, (refl, tt))); named = refl })
