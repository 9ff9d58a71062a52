-- How a session ends that goes on from its disks.
use Rattle.std.specs.Prelude.{ℕ, ◌≡◌, ◌⊎◌, List, [], ◌∷◌}
use Rattle.order_laws.specs.Chains.{In}
use Rattle.fed_rules.specs.declared.commands.Command.{Command}
use Rattle.fed_rules.specs.declared.scenario.Scenario.{Scenario}
use Rattle.fed_rules.specs.Story.{story_of}
use Rattle.journal_disk.specs.Disk.{Seen}
use Rattle.found_disks.specs.declared.errors.ReopenErr.{ReopenErr}
use Rattle.found_disks.specs.declared.errors.ReopenErr.TheVariants.{Damaged, Disk, Foreign, Memory}
use Rattle.found_disks.specs.Faults.{faults_of}
use Rattle.left_disks.specs.Left.{IsLeft}
use Rattle.resume_output.specs.Resumes.{AllGoesOn, IsRefusedAs, ResumesBroken, ResumesShort, ResumesWhole}
use Rattle.outputs.specs.Texts.{disk_failed_text}
use Rattle.mdb_top.specs.Audits.{IsSaid}
use Rattle.mdb_top.specs.Endings.{GetsAll, GetsFront, GetsSome}
use Rattle.mdb_top.specs.Streams.{Gets, IsCalm, Rose, Stream}
use Rattle.mdb_top.specs.Texts.{disk_damaged_text, disk_foreign_text, no_memory_text}

-- this disk is the first damaged one, at this place, and the sink has got that
pub record SomeDamaged {D : Type 0} (seen : D → Seen) (sink : Stream) (old new : List Seen) : Type 0 where
  pub number : ℕ
  pub at : ℕ
  pub refused : IsRefusedAs seen (Damaged number at) old new
  pub put : Gets sink (disk_damaged_text number at)

-- none is damaged, this one is the first that isn't usable, and the sink has got that
pub record SomeForeign {D : Type 0} (seen : D → Seen) (sink : Stream) (old new : List Seen) : Type 0 where
  pub number : ℕ
  pub refused : IsRefusedAs seen (Foreign number) old new
  pub put : Gets sink (disk_foreign_text number)

-- a call of this disk failed while the journals were read, and the sink has got that
pub record SomeFailed {D : Type 0} (seen : D → Seen) (sink : Stream) (old new : List Seen) : Type 0 where
  pub number : ℕ
  pub refused : IsRefusedAs seen (Disk number) old new
  pub put : Gets sink (disk_failed_text number)

-- a call of a disk failed while the journals were read, and memory was wanting to say so
abbrev pub SomeUntold : {D : Type 0} → (D → Seen) → List Seen → List Seen → Type 0
SomeUntold seen old new = (number : ℕ) × IsRefusedAs seen (Disk number) old new

-- how it ends on disks of which this is seen: each status with its cause, what the sink has got then, and what is said of the disks
pub record ResumeEnds {D : Type 0} (seen : D → Seen) (status : ℕ) (sink : Stream) (old new : List Seen) : Type 0 where
  -- which status comes when; want of memory alone is free
  pub led : In status (0 ∷ 4 ∷ 5 ∷ 6 ∷ 10 ∷ 11 ∷ [])
  pub done : status ≡ 0 → GetsAll sink (λ output. ResumesWhole output old new)
  pub no_write_failed : status ≡ 0 → IsCalm sink
  pub no_disk_failed : In status (0 ∷ 4 ∷ 10 ∷ 11 ∷ []) → faults_of new ≡ faults_of old
  pub cut_off : status ≡ 4 → GetsFront sink (λ output. ResumesWhole output old new)
  pub write_failed : status ≡ 4 → Rose sink
  pub broken : status ≡ 5 → GetsSome sink (λ output. ResumesBroken seen output old new) ⊎ SomeFailed seen sink old new
  pub no_memory : status ≡ 6 → Gets sink no_memory_text
  pub short : status ≡ 6 → ResumesShort seen old new ⊎ SomeUntold seen old new
  pub damaged : status ≡ 10 → SomeDamaged seen sink old new
  pub foreign : status ≡ 11 → SomeForeign seen sink old new
  -- the disks that a session left are neither damaged nor foreign, and the session goes on rightly from what is found on them: each attempt keeps its
  -- outcome, each site that settles one says that outcome, and the tables are those of a serial run
  pub left : (scenario : Scenario) (commands : List Command) → IsLeft old scenario commands
      → (In status (10 ∷ 11 ∷ []) → ⊥) × AllGoesOn old scenario (story_of scenario commands)

-- why no session goes on is put
abbrev pub IsRefusalPut : ℕ → Stream → ReopenErr → Type 0
IsRefusalPut status sink (Damaged number at) = IsSaid 10 (disk_damaged_text number at) status sink
IsRefusalPut status sink (Foreign number) = IsSaid 11 (disk_foreign_text number) status sink
IsRefusalPut status sink (Disk number) = IsSaid 5 (disk_failed_text number) status sink
IsRefusalPut status sink Memory = (status ≡ 6) × Gets sink no_memory_text
