-- What the coordinator's store stands for: the words of an actor's store at the coordinator's records.
use Rattle.std.specs.Prelude.{Bool, Option}
use Rattle.fed_rules.specs.declared.records.CoordRecord.{CoordRecord}
use Rattle.fed_rules.specs.CoordRecords.{coord_frame}
use Rattle.fed_rules.specs.Disk.{Disk}
use Rattle.fed_rules.specs.Happenings.{Trip}
use Rattle.journal_disk.specs.Disk.{Seen}
use Rattle.coord_journal.specs.declared.format.CoordFormat.{CoordFormat}
use Rattle.coord_journal.specs.Spelling.{spelling, IsRecord}
use Rattle.actor_store.specs.declared.store.Store.{Store as ActorStore}
use Rattle.actor_store.specs.Store as actor

abbrev pub Store : Type 0
Store = ActorStore CoordRecord CoordFormat

-- on this disk the store stands for the disk of the rules with this trip in force, behind these entries that were found
abbrev pub KeepsBehind : Bool → Seen → Store → actor.Old CoordRecord → Disk CoordRecord → Option Trip → Type 0
KeepsBehind tells seen store old rules in_force = actor.KeepsBehind spelling IsRecord coord_frame tells seen (actor.stored store) old rules in_force

-- behind some that were found, or behind none where the coordinator began with an empty disk
abbrev pub Keeps : Bool → Bool → Seen → Store → Disk CoordRecord → Option Trip → Type 0
Keeps found tells seen store rules in_force = actor.KeepsFrom spelling IsRecord coord_frame found tells seen (actor.stored store) rules in_force
