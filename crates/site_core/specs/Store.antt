-- What a site's store stands for: the words of an actor's store at a site's records.
use Rattle.std.specs.Prelude.{ℕ, Bool, Result, List, Option}
use Rattle.fed_rules.specs.declared.records.SiteRecord.{SiteRecord}
use Rattle.fed_rules.specs.Disk.{Call, Disk}
use Rattle.fed_rules.specs.Happenings.{Trip}
use Rattle.fed_rules.specs.SiteRecords.{site_frame}
use Rattle.journal_disk.specs.Disk.{Image, Seen}
use Rattle.site_journal.specs.declared.format.SiteFormat.{SiteFormat}
use Rattle.site_journal.specs.Spelling.{spelling, IsRecord}
use Rattle.actor_store.specs.declared.store.Break.{Break}
use Rattle.actor_store.specs.declared.store.Store.{Store as ActorStore}
use Rattle.actor_store.specs.Store as actor

abbrev pub Store : Type 0
Store = ActorStore SiteRecord SiteFormat

-- on this disk the store stands for the disk of the rules with this trip in force, behind these entries that were found
abbrev pub KeepsBehind : Bool → Seen → Store → actor.Old SiteRecord → Disk SiteRecord → Option Trip → Type 0
KeepsBehind tells seen store old rules in_force = actor.KeepsBehind spelling IsRecord site_frame tells seen (actor.stored store) old rules in_force

-- behind some that were found, or behind none where the site began with an empty disk
abbrev pub Keeps : Bool → Bool → Seen → Store → Disk SiteRecord → Option Trip → Type 0
Keeps found tells seen store rules in_force = actor.KeepsFrom spelling IsRecord site_frame found tells seen (actor.stored store) rules in_force

abbrev pub stopped_disk : ℕ → ℕ → Disk SiteRecord → List (Call SiteRecord) → Disk SiteRecord
stopped_disk n cut rules calls = actor.stopped_disk site_frame n cut rules calls

abbrev pub SomeStop : Image → Disk SiteRecord → List (Call SiteRecord) → Type 0
SomeStop image rules calls = actor.SomeStop spelling IsRecord site_frame image rules calls

abbrev pub Ends : {A : Type 0} → (Disk SiteRecord → Option Trip → Type 0) → Disk SiteRecord → Option Trip → List (Call SiteRecord) → Result A Break → Type 0
Ends K rules trip calls r = actor.Ends site_frame K rules trip calls r

abbrev pub cut_calls : Disk SiteRecord → List (Call SiteRecord)
cut_calls rules = actor.cut_calls site_frame rules
