-- The events that come to a site, and what is asked of them.
use Rattle.std.specs.Prelude.{ℕ, ◌≡◌, Bool, true, false, None, List, [], ◌∷◌}
use Rattle.mdb_base.specs.declared.names.Tid.{Tid}
use Rattle.mdb_base.specs.declared.names.Tx.{Tx}
use Rattle.mdb_base.specs.Names.{same_tid}
use Rattle.mdb_base.specs.Words.{Among, Each, some_of}
use Rattle.order_laws.specs.Chains.{In}
use Rattle.fed_rules.specs.declared.events.SiteEvent.{SiteEvent}
use Rattle.fed_rules.specs.declared.events.SiteEvent.TheVariants.{Begin, Commit, Give}
use Rattle.fed_rules.specs.declared.messages.ToSite.TheVariants.{Work, Take, Prepare}
use Rattle.fed_rules.specs.declared.records.SiteRecord.{SiteRecord}
use Rattle.fed_rules.specs.declared.records.SiteRecord.TheVariants.{Prepared}
use Rattle.fed_rules.specs.Disk.{Call, Append}
use Rattle.fed_rules.specs.Site.{site_past}
use Rattle.fed_rules.specs.SitePast.{SitePast, records}
use Rattle.fed_rules.specs.SiteRecords.{Home, doubt_of}
use Rattle.site_history.specs.Records.{Prepares}

-- what begins as a local attempt isn't in doubt
abbrev pub IsFresh : Home → SitePast → SiteEvent → Type 0
IsFresh home past (Begin tid) = doubt_of (records home past) tid ≡ None
IsFresh home past event = Unit {0}

-- each event is fresh after the ones before it
abbrev pub AreFresh : Home → List SiteEvent → Type 0
AreFresh home [] = Unit {0}
AreFresh home (event ∷ events) = IsFresh home (site_past home events) event × AreFresh home events

-- what begins and commits as a local attempt is of a local transaction by the test, and what an operation or a Prepare is for is not
abbrev pub IsSorted : (Tx → Bool) → SiteEvent → Type 0
IsSorted local (Begin tid) = local tid.tx ≡ true
IsSorted local (Commit tid) = local tid.tx ≡ true
IsSorted local (Give (Work tid epoch n act)) = local tid.tx ≡ false
IsSorted local (Give (Take tid epoch n)) = local tid.tx ≡ false
IsSorted local (Give (Prepare tid epoch n)) = local tid.tx ≡ false
IsSorted local event = Unit {0}

abbrev pub AreSorted : (Tx → Bool) → List SiteEvent → Type 0
AreSorted local events = Each (IsSorted local) events

-- whether the call appends a Prepared record of the attempt
abbrev pub prepares : Tid → Call SiteRecord → Bool
prepares tid (Append (Prepared prepared epoch number ticket writes)) = same_tid prepared tid
prepares tid call = false

-- a Prepared record of an attempt is appended only where none of it is kept
abbrev pub PreparesOnce : Home → SitePast → Type 0
PreparesOnce home [] = Unit {0}
PreparesOnce home (x ∷ past) =
    ((tid : Tid) → some_of (prepares tid) x.calls ≡ true → Among (Prepares tid) (records home past) → ⊥) × PreparesOnce home past

-- all Prepares of one attempt among the events name one epoch
abbrev pub AskInOneEpoch : List SiteEvent → Type 0
AskInOneEpoch events =
    (tid : Tid) (d e m n : ℕ) → In (Give (Prepare tid d m)) events → In (Give (Prepare tid e n)) events → d ≡ e

-- so that no attempt is prepared twice
abbrev pub PreparedOncePerEpoch : Type 0
PreparedOncePerEpoch =
    (home : Home) (local : Tx → Bool) (events : List SiteEvent) → AreSorted local events → AskInOneEpoch events
    → PreparesOnce home (site_past home events)
