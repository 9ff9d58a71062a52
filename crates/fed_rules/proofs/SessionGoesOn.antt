-- A global transaction is prepared at three sites when every actor stops. From the disks that this leaves a session goes on: the coordinator, which
-- has the Initiation, aborts it at the sites that must acknowledge, and the third site asks and is told so by its presumption.
use Rattle.std.proofs.Common.{◌≡◌, List, [], ◌∷◌, map, reverse, refl}
use Rattle.std.specs.Prelude.{take as first}
use Rattle.presumptions.specs.declared.Decision.TheVariants as Decided
use Rattle.fed_rules.specs.declared.answers.Answer.TheVariants as Say
use Rattle.fed_rules.specs.declared.commands.Command.{Command}
use Rattle.fed_rules.specs.declared.commands.Line.{Line}
use Rattle.fed_rules.specs.Found.{Found}
use Rattle.fed_rules.specs.Resumed.{Rest, left_by, rest_of, resumed, resumed_lines}
use Rattle.fed_rules.specs.Story.{Story, story_of}
use Rattle.fed_rules.proofs.Opened.{opened}
use Rattle.fed_rules.proofs.Spelled.{tid, give, take, again, ask, halt, back, place, line, ended, table}
use Rattle.fed_rules.proofs.ThreeProtocolsCommit.{scenario, printed as whole_session}

-- the session up to the last vote, and a stop of each actor, the last command first
abbrev left : Story
left = story_of scenario (halt 3 0 ∷ halt 2 0 ∷ halt 1 0 ∷ halt 0 0 ∷ reverse (map (λ l. l.command) (first 18 whole_session)))

abbrev disks : Found
disks = left_by scenario left

-- the lines of the session that goes on, the first one first
abbrev printed : List Line
printed =
    line (back 0) (Say.UpCoord 1) []
    ∷ line (back 1) (Say.UpSite 2 1) []
    ∷ line (back 2) (Say.UpSite 2 1) []
    ∷ line (back 3) (Say.UpSite 2 1) []
    ∷ line (again (tid 1 0)) Say.Only (place 1 0 ∷ place 3 0 ∷ [])
    ∷ line (give 1 0) (Say.Settles (tid 1 0) Decided.Abort) (place 1 0 ∷ [])
    ∷ line (take 1 0) Say.Acked []
    ∷ line (give 3 0) (Say.Settles (tid 1 0) Decided.Abort) (place 3 0 ∷ [])
    ∷ line (take 3 0) Say.Forgets []
    ∷ line (ask 2 (tid 1 0)) (Say.Asks (tid 1 0)) (place 2 0 ∷ [])
    ∷ line (take 2 0) (Say.Presumes Decided.Abort) (place 2 0 ∷ [])
    ∷ line (give 2 0) (Say.Settles (tid 1 0) Decided.Abort) []
    ∷ []

lines_are_right : resumed_lines disks ≡ reverse printed
unfolding opened
lines_are_right = refl

rest_is_right : rest_of disks (resumed disks) ≡ record {
  outcomes = ended (tid 1 0) Decided.Abort ∷ [];
  forgotten = tid 1 0 ∷ [];
  tables = table 1 [] ∷ table 2 [] ∷ table 3 [] ∷ [];
}
unfolding opened
rest_is_right = refl
