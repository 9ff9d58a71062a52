-- A transaction has 32 attempts; all of them are begun and aborted here, and the next begin answers that they are spent.
use Rattle.std.proofs.Common.{◌≡◌, List, [], ◌∷◌, map, reverse, refl}
use Rattle.mdb_base.specs.declared.names.Engine.TheVariants.{Timestamp}
use Rattle.presumptions.specs.declared.Protocol.TheVariants as By
use Rattle.fed_rules.specs.declared.answers.Answer.TheVariants as Say
use Rattle.fed_rules.specs.declared.commands.Line.{Line}
use Rattle.fed_rules.specs.declared.scenario.Scenario.{Scenario}
use Rattle.fed_rules.specs.Closing.{closed}
use Rattle.fed_rules.specs.Right.{story_told}
use Rattle.fed_rules.specs.Story.{Story, lines_of}
use Rattle.fed_rules.proofs.Opened.{opened}
use Rattle.fed_rules.proofs.Spelled.{tid, get, add, site, item, local, scenario_of, begin, abort, line}

abbrev scenario : Scenario
scenario =
    scenario_of
    (site 8 Timestamp By.Nothing ∷ [])
    (item 8 65535 18446744073709551615 ∷ [])
    (local 1024 8 (get 65535 ∷ add 65535 0 1 ∷ []) ∷ [])

-- the lines of the commands, the first one first
abbrev printed : List Line
printed =
    line (begin 1024) (Say.Begun (tid 1024 0)) []
    ∷ line (abort 1024) (Say.Aborted (tid 1024 0)) []
    ∷ line (begin 1024) (Say.Begun (tid 1024 1)) []
    ∷ line (abort 1024) (Say.Aborted (tid 1024 1)) []
    ∷ line (begin 1024) (Say.Begun (tid 1024 2)) []
    ∷ line (abort 1024) (Say.Aborted (tid 1024 2)) []
    ∷ line (begin 1024) (Say.Begun (tid 1024 3)) []
    ∷ line (abort 1024) (Say.Aborted (tid 1024 3)) []
    ∷ line (begin 1024) (Say.Begun (tid 1024 4)) []
    ∷ line (abort 1024) (Say.Aborted (tid 1024 4)) []
    ∷ line (begin 1024) (Say.Begun (tid 1024 5)) []
    ∷ line (abort 1024) (Say.Aborted (tid 1024 5)) []
    ∷ line (begin 1024) (Say.Begun (tid 1024 6)) []
    ∷ line (abort 1024) (Say.Aborted (tid 1024 6)) []
    ∷ line (begin 1024) (Say.Begun (tid 1024 7)) []
    ∷ line (abort 1024) (Say.Aborted (tid 1024 7)) []
    ∷ line (begin 1024) (Say.Begun (tid 1024 8)) []
    ∷ line (abort 1024) (Say.Aborted (tid 1024 8)) []
    ∷ line (begin 1024) (Say.Begun (tid 1024 9)) []
    ∷ line (abort 1024) (Say.Aborted (tid 1024 9)) []
    ∷ line (begin 1024) (Say.Begun (tid 1024 10)) []
    ∷ line (abort 1024) (Say.Aborted (tid 1024 10)) []
    ∷ line (begin 1024) (Say.Begun (tid 1024 11)) []
    ∷ line (abort 1024) (Say.Aborted (tid 1024 11)) []
    ∷ line (begin 1024) (Say.Begun (tid 1024 12)) []
    ∷ line (abort 1024) (Say.Aborted (tid 1024 12)) []
    ∷ line (begin 1024) (Say.Begun (tid 1024 13)) []
    ∷ line (abort 1024) (Say.Aborted (tid 1024 13)) []
    ∷ line (begin 1024) (Say.Begun (tid 1024 14)) []
    ∷ line (abort 1024) (Say.Aborted (tid 1024 14)) []
    ∷ line (begin 1024) (Say.Begun (tid 1024 15)) []
    ∷ line (abort 1024) (Say.Aborted (tid 1024 15)) []
    ∷ line (begin 1024) (Say.Begun (tid 1024 16)) []
    ∷ line (abort 1024) (Say.Aborted (tid 1024 16)) []
    ∷ line (begin 1024) (Say.Begun (tid 1024 17)) []
    ∷ line (abort 1024) (Say.Aborted (tid 1024 17)) []
    ∷ line (begin 1024) (Say.Begun (tid 1024 18)) []
    ∷ line (abort 1024) (Say.Aborted (tid 1024 18)) []
    ∷ line (begin 1024) (Say.Begun (tid 1024 19)) []
    ∷ line (abort 1024) (Say.Aborted (tid 1024 19)) []
    ∷ line (begin 1024) (Say.Begun (tid 1024 20)) []
    ∷ line (abort 1024) (Say.Aborted (tid 1024 20)) []
    ∷ line (begin 1024) (Say.Begun (tid 1024 21)) []
    ∷ line (abort 1024) (Say.Aborted (tid 1024 21)) []
    ∷ line (begin 1024) (Say.Begun (tid 1024 22)) []
    ∷ line (abort 1024) (Say.Aborted (tid 1024 22)) []
    ∷ line (begin 1024) (Say.Begun (tid 1024 23)) []
    ∷ line (abort 1024) (Say.Aborted (tid 1024 23)) []
    ∷ line (begin 1024) (Say.Begun (tid 1024 24)) []
    ∷ line (abort 1024) (Say.Aborted (tid 1024 24)) []
    ∷ line (begin 1024) (Say.Begun (tid 1024 25)) []
    ∷ line (abort 1024) (Say.Aborted (tid 1024 25)) []
    ∷ line (begin 1024) (Say.Begun (tid 1024 26)) []
    ∷ line (abort 1024) (Say.Aborted (tid 1024 26)) []
    ∷ line (begin 1024) (Say.Begun (tid 1024 27)) []
    ∷ line (abort 1024) (Say.Aborted (tid 1024 27)) []
    ∷ line (begin 1024) (Say.Begun (tid 1024 28)) []
    ∷ line (abort 1024) (Say.Aborted (tid 1024 28)) []
    ∷ line (begin 1024) (Say.Begun (tid 1024 29)) []
    ∷ line (abort 1024) (Say.Aborted (tid 1024 29)) []
    ∷ line (begin 1024) (Say.Begun (tid 1024 30)) []
    ∷ line (abort 1024) (Say.Aborted (tid 1024 30)) []
    ∷ line (begin 1024) (Say.Begun (tid 1024 31)) []
    ∷ line (abort 1024) (Say.Aborted (tid 1024 31)) []
    ∷ line (begin 1024) Say.Spent []
    ∷ []

-- the last line first
abbrev lines : List Line
lines = reverse printed

abbrev story : Story
story = story_told scenario lines

lines_are_right : lines_of story ≡ lines
unfolding opened
lines_are_right = refl

nothing_is_left_to_close : closed scenario (map (λ line. line.command) lines) ≡ map (λ line. line.command) lines
unfolding opened
nothing_is_left_to_close = refl
