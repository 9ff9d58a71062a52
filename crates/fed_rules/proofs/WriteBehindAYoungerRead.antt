-- Multiversion: a write comes too late behind a granted younger read.
use Rattle.std.proofs.Common.{◌≡◌, List, [], ◌∷◌, reverse, refl}
use Rattle.mdb_base.specs.declared.names.Engine.TheVariants.{Multiversion}
use Rattle.presumptions.specs.declared.Protocol.TheVariants as By
use Rattle.fed_rules.specs.declared.answers.Answer.TheVariants as Say
use Rattle.fed_rules.specs.declared.commands.Line.{Line}
use Rattle.fed_rules.specs.declared.scenario.Scenario.{Scenario}
use Rattle.fed_rules.specs.Right.{story_told}
use Rattle.fed_rules.specs.Story.{Story, lines_of}
use Rattle.fed_rules.proofs.Opened.{opened}
use Rattle.fed_rules.proofs.Spelled.{key, tid, get, set, site, local, scenario_of, begin, step, line}

abbrev scenario : Scenario
scenario =
    scenario_of
    (site 1 Multiversion By.Nothing ∷ [])
    []
    (local 1 1 (set 5 1 ∷ []) ∷ local 2 1 (get 5 ∷ []) ∷ [])

-- the lines of the commands, the first one first
abbrev printed : List Line
printed =
    line (begin 1) (Say.Begun (tid 1 0)) []
    ∷ line (begin 2) (Say.Begun (tid 2 0)) []
    ∷ line (step 2) (Say.Read (key 5) 0) []
    ∷ line (step 1) (Say.Late (tid 2 0)) []
    ∷ []

-- the last line first
abbrev lines : List Line
lines = reverse printed

abbrev story : Story
story = story_told scenario lines

lines_are_right : lines_of story ≡ lines
unfolding opened
lines_are_right = refl
