-- What is on the nine disks of a session: disk 0 is the coordinator's, and disk s that of site s.
use Rattle.std.specs.Prelude.{ℕ, zero, suc, nat_lt, ◌≡◌, Bool, cond, is_some, Option, Some, None, List, [], ◌∷◌, map, reverse, slice_get}
use Rattle.mdb_base.specs.declared.names.SiteId.{SiteId}
use Rattle.mdb_base.specs.Words.{map_some}
use Rattle.order_laws.specs.Chains.{In}
use Rattle.fed_rules.specs.declared.scenario.Scenario.{Scenario}
use Rattle.fed_rules.specs.CoordPast as Coordinator
use Rattle.fed_rules.specs.CoordPast.{CoordPast}
use Rattle.fed_rules.specs.Scenarios.{home_of}
use Rattle.fed_rules.specs.SitePast as Site
use Rattle.fed_rules.specs.SiteRecords.{Home}
use Rattle.fed_rules.specs.Story.{Story, coord_past, past_of}
use Rattle.journal_disk.specs.Disk.{Seen}
use Rattle.frame_journal.specs.Records.{spelled}
use Rattle.journal_rules.specs.Stands.{record_frame}
use Rattle.coord_journal.specs.Spelling as of_coordinator
use Rattle.site_journal.specs.Spelling as of_site
use Rattle.held_disks.specs.Holding.{HoldsAt}

-- how many bytes each disk has
abbrev pub sizes_of : List Seen → List ℕ
sizes_of disks = map (λ disk. disk.size) disks

-- the first disk with bytes on it, by their lengths
abbrev pub first_used : List ℕ → Option ℕ
first_used [] = None
first_used (size ∷ sizes) = cond (nat_lt 0 size) (Some 0) (map_some suc (first_used sizes))

-- whether some disk has bytes on it
abbrev pub is_used : List ℕ → Bool
is_used sizes = is_some (first_used sizes)

-- ---- the frames of an actor's records, the oldest first

-- of the records that the coordinator keeps
abbrev pub coord_frames : CoordPast → List ℕ
coord_frames past = spelled (record_frame of_coordinator.spelling) (reverse (Coordinator.journal past))

-- of those that a site keeps; an undeclared one has none
abbrev pub site_frames : Option Home → Story → List ℕ
site_frames None story = []
site_frames (Some home) story = spelled (record_frame of_site.spelling) (reverse (Site.journal home (past_of home.site story)))

-- of the actor of this number
abbrev pub frames_at : Scenario → Story → ℕ → List ℕ
frames_at scenario story zero = coord_frames (coord_past story)
frames_at scenario story (suc n) = site_frames (home_of scenario (record { 0 = suc n })) story

-- each disk holds the frames of its actor's records, and nothing else
abbrev pub HoldFrames : List Seen → Scenario → Story → Type 0
HoldFrames disks scenario story =
    (number : ℕ) (disk : Seen) → slice_get disks number ≡ Some disk → disk.image.bytes ≡ frames_at scenario story number

-- ---- while the sites are set up

-- these sites are set up: each has the first records on its disk
abbrev pub AreSetUp : List SiteId → List Seen → Scenario → Type 0
AreSetUp sites disks scenario =
    (site : SiteId) (disk : Seen) → In site sites → slice_get disks site.0 ≡ Some disk → HoldsAt disk.image (home_of scenario site) []

-- nothing is on any other disk
abbrev pub NothingBut : List SiteId → List Seen → Type 0
NothingBut sites disks =
    (number : ℕ) (disk : Seen) → slice_get disks number ≡ Some disk → (In (record { 0 = number }) sites → ⊥) → disk.image.bytes ≡ []
