-- A world on disks in memory, and for how many commands it stands.
use Rattle.std.specs.Prelude.{ℕ, ◌≡◌, ◌≤◌, true, List, length, map}
use Rattle.mdb_base.specs.Words.{Each}
use Rattle.fed_rules.specs.declared.commands.Command.{Command}
use Rattle.fed_rules.specs.declared.scenario.Scenario.{Scenario}
use Rattle.fed_rules.specs.Sessions.{fresh}
use Rattle.journal_disk.specs.declared.mem_disk.MemDisk.{MemDisk}
use Rattle.journal_disk.specs.MemDisk.{mem_size}
use Rattle.site_core.specs.Sessions.{mem_seen}
use Rattle.fed_world.specs.declared.world.World.{World}
use Rattle.fed_world.specs.Worlds.{SomeStory, Stands}

-- there are at most so many commands
abbrev pub IsWithin : ℕ → Scenario → List Command → Type 0
IsWithin n scenario commands = length commands ≤ n

-- a world on disks in memory stands for at most so many commands of a session that began with empty disks
abbrev pub IsOfCommands : ℕ → World → List MemDisk → Type 0
IsOfCommands n world disks = SomeStory (λ scenario. Stands true world (map mem_seen disks) (fresh scenario)) (IsWithin n)

-- nine disks with nothing on them
pub record AreNew (disks : List MemDisk) : Type 0 where
  pub nine : length disks ≡ 9
  pub empty : Each (λ disk. mem_size disk ≡ 0) disks
