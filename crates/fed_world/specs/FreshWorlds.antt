-- What a world stands for whose session began with empty disks: the session is told by its scenario.
use Rattle.std.specs.Prelude.{ℕ, Bool, List}
use Rattle.mdb_base.specs.declared.names.SiteId.{SiteId}
use Rattle.fed_rules.specs.declared.commands.Command.{Command}
use Rattle.fed_rules.specs.declared.scenario.Scenario.{Scenario}
use Rattle.fed_rules.specs.Sessions.{fresh}
use Rattle.fed_rules.specs.Story.{Story}
use Rattle.any_engine.specs.declared.engine.AnyEngine.{AnyEngine}
use Rattle.journal_disk.specs.Disk.{Seen}
use Rattle.local_dbms.specs.declared.dbms.LocalDbms.{LocalDbms}
use Rattle.fed_world.specs.declared.cores.Cores.{Cores}
use Rattle.fed_world.specs.declared.errors.WorldErr.{WorldErr}
use Rattle.fed_world.specs.declared.world.World.{World}
use Rattle.fed_world.specs.Worlds as Worlds

-- the world with these disks stands for the scenario and these commands
abbrev pub Stands : Bool → World → List Seen → Scenario → List Command → Type 0
Stands tells world disks scenario commands = Worlds.Stands tells world disks (fresh scenario) commands

-- the world, whatever is on its disks
abbrev pub Recalls : World → Scenario → List Command → Type 0
Recalls world scenario commands = Worlds.Recalls world (fresh scenario) commands

-- it is of this scenario, and its lines are right and of these commands
abbrev pub HasLines : World → Scenario → List Command → Type 0
HasLines world scenario commands = Worlds.HasLines world (fresh scenario) commands

-- the session is at rest
abbrev pub Rests : Scenario → List Command → Type 0
Rests scenario commands = Worlds.Rests (fresh scenario) commands

-- there is room for one more
abbrev pub HasRoom : Scenario → List Command → Type 0
HasRoom scenario commands = Worlds.HasRoom (fresh scenario) commands

-- there are nine disks, and nothing is on the disk of a site that isn't declared
abbrev pub AreDisks : List Seen → Scenario → Type 0
AreDisks disks scenario = Worlds.AreDisks disks (fresh scenario)

-- the local database system is that of the site, and has its past in memory
abbrev pub IsLocalAt : LocalDbms AnyEngine → Scenario → SiteId → Story → Type 0
IsLocalAt dbms scenario site story = Worlds.IsLocalAt dbms (fresh scenario) site story

-- the actors have their pasts in memory
abbrev pub ActorsRecall : Cores → Scenario → Story → Type 0
ActorsRecall cores scenario story = Worlds.ActorsRecall cores (fresh scenario) story

-- ---- a failed disk call

-- at the coordinator
abbrev pub CoordinatorBroke : Bool → World → List Seen → Command → Scenario → Story → Type 0
CoordinatorBroke tells world disks command scenario story = Worlds.CoordinatorBroke tells world disks command (fresh scenario) story

-- at the site of this number
abbrev pub SiteBroke : ℕ → Bool → World → List Seen → Command → Scenario → Story → Type 0
SiteBroke number tells world disks command scenario story = Worlds.SiteBroke number tells world disks command (fresh scenario) story

-- the world of which this actor's disk failed at this command has the lines of the commands before
abbrev pub IsBroken : ℕ → Bool → World → List Seen → Command → Scenario → List Command → Type 0
IsBroken number tells world disks command scenario commands = Worlds.IsBroken number tells world disks command (fresh scenario) commands

-- a command without a line
abbrev pub FailsAt : Bool → WorldErr → World → List Seen → Command → Scenario → List Command → Type 0
FailsAt tells why world disks command scenario commands = Worlds.FailsAt tells why world disks command (fresh scenario) commands
