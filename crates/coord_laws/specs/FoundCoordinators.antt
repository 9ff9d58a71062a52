-- A coordinator on whose disk a usable journal is found.
use Rattle.std.specs.Prelude.{◌<◌, List, [], ◌∷◌}
use Rattle.mdb_base.specs.Words.{Each}
use Rattle.presumptions.specs.declared.Participant.{Participant}
use Rattle.fed_rules.specs.declared.records.CoordRecord.{CoordRecord}
use Rattle.fed_rules.specs.declared.records.CoordRecord.TheVariants.{Initiation, Abort, Checkpoint}
use Rattle.fed_rules.specs.declared.sums.OpenAttempt.{OpenAttempt}
use Rattle.fed_rules.specs.Found.{Journal}
use Rattle.fed_rules.specs.Reopened.{opened_coordinator}
use Rattle.fed_rules.specs.Usable.{IsUsableCoordinator}
use Rattle.coord_laws.specs.Pasts.{IsOpened}

-- by rising site
abbrev pub RiseBySite : List Participant → Type 0
RiseBySite [] = Unit {0}
RiseBySite (member ∷ members) = Each (λ (other : Participant). member.site.0 < other.site.0) members × RiseBySite members

-- the participants stand by rising site, as the format has them
abbrev pub MembersRise : CoordRecord → Type 0
MembersRise (Initiation tid members) = RiseBySite members
MembersRise (Abort tid members) = RiseBySite members
MembersRise (Checkpoint sum) = Each (λ (attempt : OpenAttempt). RiseBySite attempt.participants) sum.open_attempts
MembersRise other = Unit {0}

-- the rules go on from every usable journal, at sites that are listed by rising number
abbrev pub UsableJournalsGoOn : Type 0
UsableJournalsGoOn =
    (protocols : List Participant) (journal : Journal CoordRecord) → RiseBySite protocols → IsUsableCoordinator protocols journal.records
    → Each MembersRise journal.records → IsOpened protocols (opened_coordinator protocols journal)
