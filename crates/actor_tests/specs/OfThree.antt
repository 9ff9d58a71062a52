-- The coordinator of the tests: three sites, on a disk in memory.
use Rattle.std.specs.Prelude.{◌≤◌, ◌&&◌, nat_le, Bool, true, [], ◌∷◌, List}
use Rattle.mdb_base.specs.declared.names.SiteId.{SiteId}
use Rattle.presumptions.specs.declared.Participant.{Participant}
use Rattle.presumptions.specs.declared.Protocol.TheVariants as By
use Rattle.fed_rules.specs.CoordPast.{CoordPast}
use Rattle.fed_rules.specs.Policies.{Policy}
use Rattle.global_exec.specs.Pasts.{IsAmong}
use Rattle.journal_disk.specs.declared.mem_disk.MemDisk.{MemDisk}
use Rattle.site_core.specs.Sessions.{mem_seen}
use Rattle.coord_tables.specs.Terms.{Terms}
use Rattle.global_manager.specs.declared.asks.CoordAsk.{CoordAsk}
use Rattle.global_manager.specs.declared.asks.CoordAsk.TheVariants as Coord
use Rattle.global_manager.specs.declared.manager.GlobalManager.{GlobalManager}
use Rattle.global_manager.specs.Stands.{OwnPrograms, SomeManaged, Stands}

abbrev pub is_of_three : SiteId → Bool
is_of_three site = nat_le 1 site.0 && nat_le site.0 3

-- the sites, each of another protocol
abbrev pub three : List Participant
three =
    record { site = record { 0 = 1 }; protocol = By.Nothing } ∷ record { site = record { 0 = 2 }; protocol = By.Abort }
    ∷ record { site = record { 0 = 3 }; protocol = By.Commit } ∷ []

-- the coordinator has these sites
abbrev pub HasThree : Terms → OwnPrograms → CoordPast → Type 0
HasThree terms programs past = (site : SiteId) → 1 ≤ site.0 → site.0 ≤ 3 → IsAmong site terms.protocols

-- a message comes from one of them
abbrev pub ComesFromThree : CoordAsk → Type 0
ComesFromThree (Coord.Take site message) = (1 ≤ site.0) × (site.0 ≤ 3)
ComesFromThree ask = Unit {0}

-- a manager of such a coordinator on a disk in memory stands for something
unfoldable pub IsOfThree : {P : Type 0} → (P → Policy) → GlobalManager P → MemDisk → Type 0
IsOfThree test manager disk = SomeManaged (Stands test true manager (mem_seen disk)) HasThree
