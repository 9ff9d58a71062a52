-- The sites of disks, by the numbers of the disks.
use Rattle.std.specs.Prelude.{ℕ, zero, ◌≤◌, ◌+◌, ◌-◌, ◌++◌, Option, Some, None, List, [], ◌∷◌, reverse, slice_get, take}
use Rattle.mdb_base.specs.Words.{Each, map_some}
use Rattle.presumptions.specs.declared.Participant.{Participant}
use Rattle.fed_rules.specs.declared.records.CoordRecord.{CoordRecord}
use Rattle.fed_rules.specs.declared.records.SiteRecord.{SiteRecord}
use Rattle.fed_rules.specs.Reopened.{home_by}
use Rattle.fed_rules.specs.Usable.{AreUnnamed, IsUsableCoordinator, IsUsableSite}
use Rattle.usable_journals.specs.SiteTests.{member_of}

abbrev pub on_disk : ℕ → Participant → Participant
on_disk number member = record { site = record { 0 = number }; protocol = member.protocol }

-- the site of a disk of this number with the protocol of its first record, where it has one that says so
abbrev pub member_at : ℕ → List SiteRecord → Option Participant
member_at number [] = None
member_at number (first ∷ newer) = map_some (on_disk number) (map_some member_of (home_by first))

abbrev pub listed : Option Participant → List Participant
listed None = []
listed (Some member) = member ∷ []

-- those of disks from this number on, their records the oldest first
abbrev pub members_from : ℕ → List (List SiteRecord) → List Participant
members_from number [] = []
members_from number (records ∷ more) = listed (member_at number records) ++ members_from (number + 1) more

-- a disk of a site is usable where it has no record, or else where its journal is a usable one of the site of its number
abbrev pub IsUsableDisk : ℕ → List SiteRecord → Type 0
IsUsableDisk number [] = Unit {0}
IsUsableDisk number (first ∷ newer) = IsUsableSite number (reverse (first ∷ newer))

-- so are these from this number on
abbrev pub AreUsableFrom : ℕ → List (List SiteRecord) → Type 0
AreUsableFrom number [] = Unit {0}
AreUsableFrom number (records ∷ more) = IsUsableDisk number records × AreUsableFrom (number + 1) more

abbrev pub AreAllUnnamed : List CoordRecord → List (List SiteRecord) → Type 0
AreAllUnnamed coordinator sites = Each (λ (records : List SiteRecord). AreUnnamed (reverse coordinator) (reverse records)) sites

-- the coordinator's disk: its journal is usable among the sites that have a record, and no transaction that it names is local at a site
pub record IsUsableFirst (coordinator : List CoordRecord) (sites : List (List SiteRecord)) : Type 0 where
  pub journal : IsUsableCoordinator (members_from 1 sites) (reverse coordinator)
  pub unnamed : AreAllUnnamed coordinator sites

-- there is a disk of the site of this number, and it isn't usable
abbrev pub IsForeignAt : ℕ → Option (List SiteRecord) → Type 0
IsForeignAt number None = ⊥
IsForeignAt number (Some records) = IsUsableDisk number records → ⊥

-- of the sites' disks this is the first one that isn't usable
pub record IsLeastSite (number : ℕ) (sites : List (List SiteRecord)) : Type 0 where
  pub some : 1 ≤ number
  pub before : AreUsableFrom 1 (take (number - 1) sites)
  pub foreign : IsForeignAt number (slice_get sites (number - 1))

abbrev pub NamesSite : List (List SiteRecord) → Option ℕ → Type 0
NamesSite sites None = AreUsableFrom 1 sites
NamesSite sites (Some number) = IsLeastSite number sites

-- the disk that is named is the least one that isn't usable, and all are usable where none is named. The lists stand oldest first
abbrev pub NamesLeast : List CoordRecord → List (List SiteRecord) → Option ℕ → Type 0
NamesLeast coordinator sites None = IsUsableFirst coordinator sites × AreUsableFrom 1 sites
NamesLeast coordinator sites (Some zero) = IsUsableFirst coordinator sites → ⊥
NamesLeast coordinator sites (Some number) = IsUsableFirst coordinator sites × IsLeastSite number sites
