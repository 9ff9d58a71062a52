-- What the order of a site means for the site alone, over all its stops and restarts.
use Rattle.std.specs.Prelude.{ℕ, ◌≡◌, ◌<◌, Bool, true, None, List, [], ◌∷◌, map, reverse}
use Rattle.mdb_base.specs.declared.names.Key.{Key}
use Rattle.mdb_base.specs.declared.names.Tid.{Tid}
use Rattle.mdb_base.specs.declared.names.Tx.{Tx}
use Rattle.mdb_base.specs.declared.rows.Put.{Put}
use Rattle.mdb_base.specs.Rows.{Table, look_up}
use Rattle.order_laws.specs.Chains.{Distinct}
use Rattle.order_laws.specs.Orders.{Before}
use Rattle.fed_rules.specs.declared.events.SiteEvent.{SiteEvent}
use Rattle.fed_rules.specs.declared.records.SiteRecord.{SiteRecord}
use Rattle.fed_rules.specs.EngineLines.{IsStart}
use Rattle.fed_rules.specs.Runs.{Access, after}
use Rattle.fed_rules.specs.SerialRuns.{ReadsAlone}
use Rattle.fed_rules.specs.Site.{site_past}
use Rattle.fed_rules.specs.SitePast.{SitePast, epoch_start, engine_lines, records}
use Rattle.fed_rules.specs.SiteRecords.{Home, doubt_of, due_installs, due_rows, installs, order_of, site_rows, start_of}
use Rattle.engine_laws.specs.Epochs.{Epoch, AreEpochs, first_rows}
use Rattle.fed_rules.specs.Durable.{IsFrontOf}
use Rattle.site_history.specs.Accesses.{acts_at}
use Rattle.site_history.specs.Events.{AreSorted, PreparesOnce}
use Rattle.site_history.specs.Records.{BindOnce, IsPrepared, TellOutcomes}

-- one after another, from this table on, each of these attempts reads alone what it was answered
abbrev pub SiteSerial : (Tid → List Access) → Table → List Tid → Type 0
SiteSerial acts table [] = Unit {0}
SiteSerial acts table (tid ∷ tids) = ReadsAlone (acts tid) table × SiteSerial acts (after (acts tid) table) tids

-- the table that they leave
abbrev pub table_after : (Tid → List Access) → Table → List Tid → Table
table_after acts table [] = table
table_after acts table (tid ∷ tids) = table_after acts (after (acts tid) table) tids

-- each of these is named once; the tickets of prepared ones rise; one after another, from the first rows on, they read alone what they were
-- answered; and they leave these rows
pub record IsSerialOrder (home : Home) (past : SitePast) (order : List Tid) (rows : List Put) : Type 0 where
  pub distinct : Distinct order
  pub rising : (a b : Tid) (j k : ℕ) → Before order a b → IsPrepared (records home past) a j → IsPrepared (records home past) b k → j < k
  pub alone : SiteSerial (acts_at home past) (look_up home.items) order
  pub left : (key : Key) → table_after (acts_at home past) (look_up home.items) order key ≡ look_up rows key

-- the committed attempts of a site by rising serial number
abbrev pub settled_order : List SiteRecord → List Tid
settled_order records = reverse (map (λ install. install.tid) (installs records))

-- whatever a stop may leave of the records makes a good start
abbrev pub RestartsWell : Home → SitePast → Type 0
RestartsWell home past = (kept : List SiteRecord) → IsFrontOf (records home past) kept → IsStart (start_of home kept)

-- the epochs of a site: each starts from what the stop before it left, and whatever a stop may leave of the records makes a good start
pub record HasEpochs (home : Home) (past : SitePast) : Type 0 where
  pub earlier : List Epoch
  pub epochs : AreEpochs (record { start = epoch_start home past; lines = engine_lines past }) earlier
  pub first : first_rows (record { start = epoch_start home past; lines = engine_lines past }) earlier ≡ home.items
  pub start : IsStart (epoch_start home past)
  pub restart : RestartsWell home past

-- the epoch starts well, and so would the next one
pub record HasGoodStarts (home : Home) (past : SitePast) : Type 0 where
  pub start : IsStart (epoch_start home past)
  pub restart : RestartsWell home past

-- no attempt is bound twice; the committed attempts are in a serial order, which gives the rows of the site; and so are they with all prepared
-- ones whose outcome is commit, which give what the site is due; where none of these is in doubt, they are the committed ones
pub record IsSerialPast (home : Home) (past : SitePast) : Type 0 where
  pub once : BindOnce (records home past)
  pub settled : IsSerialOrder home past (settled_order (records home past)) (site_rows home (records home past))
  pub due : (commits : Tid → Bool) → TellOutcomes commits (records home past)
      → IsSerialOrder home past (order_of commits (records home past)) (due_rows commits home (records home past))
  pub all_settled : (commits : Tid → Bool) → TellOutcomes commits (records home past)
      → ((tid : Tid) → commits tid ≡ true → doubt_of (records home past) tid ≡ None)
      → due_installs commits (records home past) ≡ installs (records home past)

-- the fact holds of every past that sorted events make, in which no attempt is prepared twice
abbrev pub OfSortedPasts : (Home → SitePast → Type 0) → Type 0
OfSortedPasts P =
    (home : Home) (local : Tx → Bool) (events : List SiteEvent) → AreSorted local events → PreparesOnce home (site_past home events)
    → P home (site_past home events)

-- the fact holds of every past that sorted events make, whether or not an attempt is prepared twice
abbrev pub OfSortedEvents : (Home → SitePast → Type 0) → Type 0
OfSortedEvents P = (home : Home) (local : Tx → Bool) (events : List SiteEvent) → AreSorted local events → P home (site_past home events)
