-- When a Checkpoint may stand for all records before it.
use Rattle.std.specs.Prelude.{◌≡◌, ◌<◌, ◌⊎◌, false, Option, Some, None, List, [], ◌∷◌, ◌++◌}
use Rattle.mdb_base.specs.declared.rows.Put.{Put}
use Rattle.mdb_base.specs.Words.{Each}
use Rattle.presumptions.specs.declared.Decision.TheVariants as Decided
use Rattle.fed_rules.specs.declared.records.SiteRecord.{SiteRecord}
use Rattle.fed_rules.specs.declared.records.SiteRecord.TheVariants.{Ended, Local, Checkpoint}
use Rattle.fed_rules.specs.EngineLines.{has_row}
use Rattle.fed_rules.specs.SitePast.{SitePast, records, journal}
use Rattle.fed_rules.specs.SiteRecords.{Home, Held, Install, doubt_of, installs, start_of, doubts}
use Rattle.fed_rules.specs.SiteSums.{site_sum, sum_with, journal_sum, start_from, carried}

-- no key is written by both
abbrev pub AreDisjoint : List Put → List Put → Type 0
AreDisjoint writes others = Each (λ put. has_row put.key others ≡ false) writes

-- the older one has a smaller number, or writes no key of the newer one
abbrev pub StaysBelow : Install → Install → Type 0
StaysBelow newer older = (older.number < newer.number) ⊎ AreDisjoint newer.writes older.writes

abbrev pub HeldComes : Option Held → List Install → Type 0
HeldComes None older = Unit {0}
HeldComes (Some held) older = Each (StaysBelow (record { tid = held.tid; number = held.number; writes = held.writes })) older

-- whichever is installed has, at that time, a greater number than each one installed before that wrote one of its keys
abbrev pub ComeInOrder : List SiteRecord → Type 0
ComeInOrder [] = Unit {0}
ComeInOrder (Local tid number writes ∷ records) =
    Each (StaysBelow (record { tid = tid; number = number; writes = writes })) (installs records) × ComeInOrder records
ComeInOrder (Ended tid Decided.Commit ∷ records) = HeldComes (doubt_of records tid) (installs records) × ComeInOrder records
ComeInOrder (newest ∷ records) = ComeInOrder records

-- each Checkpoint is the Sum of what stands before it
abbrev pub AreSums : Home → List SiteRecord → Type 0
AreSums home [] = Unit {0}
AreSums home (Checkpoint sum ∷ records) = (sum ≡ site_sum home records) × AreSums home records
AreSums home (newest ∷ records) = AreSums home records

-- a Checkpoint with what the older records say, and the newer ones, say what all of them say
abbrev pub SumsGoOn : Type 0
SumsGoOn =
    (home : Home) (newer older : List SiteRecord) → ComeInOrder (newer ++ older)
    → sum_with (site_sum home older) newer ≡ site_sum home (newer ++ older)

-- the journal on the disk says what all records say, those that were trimmed included
abbrev pub JournalSaysAll : Home → SitePast → Type 0
JournalSaysAll home past = journal_sum home (journal home past) ≡ site_sum home (records home past)

-- what an engine starts from is told by the journal alone
abbrev pub JournalTellsStart : Home → SitePast → Type 0
JournalTellsStart home past = start_of home (records home past) ≡ start_from (journal_sum home (journal home past))

-- none of those installed before writes, with a greater number, a key of one that is installed behind
abbrev pub NoneIsOvertaken : (newer older : List SiteRecord) → Type 0
NoneIsOvertaken newer older = Each (λ i. Each (StaysBelow i) (installs older)) (installs (newer ++ carried (doubts older)))

-- so a Sum goes on at one Checkpoint, in whatever order the older ones came, and the newer ones
abbrev pub SumGoesOnBehind : Type 0
SumGoesOnBehind =
    (home : Home) (newer older : List SiteRecord) → NoneIsOvertaken newer older
    → sum_with (site_sum home older) newer ≡ site_sum home (newer ++ older)

-- the records without Checkpoints
abbrev pub plain : List SiteRecord → List SiteRecord
plain [] = []
plain (Checkpoint sum ∷ records) = plain records
plain (newest ∷ records) = newest ∷ plain records
