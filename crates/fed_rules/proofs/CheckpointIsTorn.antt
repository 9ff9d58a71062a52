-- A site stops right after the append of a Checkpoint, which is torn: the records before it stand.
use Rattle.std.proofs.Common.{◌≡◌, Some, List, [], ◌∷◌, reverse, refl}
use Rattle.std.specs.Prelude.{length}
use Rattle.mdb_base.specs.declared.names.Engine.TheVariants.{Locking}
use Rattle.presumptions.specs.declared.Protocol.TheVariants as By
use Rattle.fed_rules.specs.declared.answers.Answer.TheVariants as Say
use Rattle.fed_rules.specs.declared.commands.Line.{Line}
use Rattle.fed_rules.specs.declared.scenario.Scenario.{Scenario}
use Rattle.fed_rules.specs.Disk.{held_bytes}
use Rattle.fed_rules.specs.Orders.{orders}
use Rattle.fed_rules.specs.Right.{story_told}
use Rattle.fed_rules.specs.Site.{checkpoint}
use Rattle.fed_rules.specs.SitePast.{disk, journal}
use Rattle.fed_rules.specs.SiteRecords.{Home}
use Rattle.fed_rules.specs.Story.{Story, lines_of, past_of}
use Rattle.fed_rules.proofs.Opened.{opened}
use Rattle.fed_rules.proofs.Spelled.{at, key, tid, set, site, local, scenario_of, begin, step, commit, trip, check, line}

abbrev scenario : Scenario
scenario =
    scenario_of
    (site 1 Locking By.Nothing ∷ [])
    []
    (local 1 1 (set 5 7 ∷ []) ∷ [])

abbrev home : Home
home = record { site = at 1; engine = Locking; protocol = By.Nothing; items = [] }

-- the lines of the commands, the first one first
abbrev printed : List Line
printed =
    line (begin 1) (Say.Begun (tid 1 0)) []
    ∷ line (step 1) (Say.Wrote (key 5) 7) []
    ∷ line (commit 1) (Say.Sealed (tid 1 0) 2) []
    ∷ line (trip 1 1 10) Say.Set []
    ∷ line (check 1) (Say.Stopped 3) []
    ∷ []

-- the last line first
abbrev lines : List Line
lines = reverse printed

abbrev story : Story
story = story_told scenario lines

lines_are_right : lines_of story ≡ lines
unfolding opened
lines_are_right = refl

site_orders : orders scenario story ≡ (tid 1 0 ∷ []) ∷ []
unfolding opened
site_orders = refl

-- the disk holds so many bytes
bytes : held_bytes (disk home (past_of (at 1) story)) ≡ 155
unfolding opened
bytes = refl

standing : length (journal home (past_of (at 1) story)) ≡ 3
unfolding opened
standing = refl

-- what stands behind them are the first bytes of the Checkpoint
lost : (disk home (past_of (at 1) story)).lost ≡ Some (checkpoint home (past_of (at 1) story))
unfolding opened
lost = refl
