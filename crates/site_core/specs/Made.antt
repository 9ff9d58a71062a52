-- The pasts of a site that events make: each line is the rules' answer to an event that may come there.
use Rattle.std.specs.Prelude.{ℕ, ◌≡◌, ◌⊎◌, ◌&&◌, Bool, true, false, Some, [], ◌∷◌}
use Rattle.mdb_base.specs.declared.names.Tid.{Tid}
use Rattle.mdb_base.specs.declared.names.Tx.{Tx}
use Rattle.mdb_base.specs.Names.{same_tid, same_tx}
use Rattle.mdb_base.specs.Words.{Each, some_of}
use Rattle.fed_rules.specs.declared.events.SiteEvent.{SiteEvent}
use Rattle.fed_rules.specs.declared.events.SiteEvent.TheVariants as Ev
use Rattle.fed_rules.specs.declared.answers.Answer.{Answer}
use Rattle.fed_rules.specs.declared.answers.Answer.TheVariants as Say
use Rattle.fed_rules.specs.declared.records.SiteRecord.{SiteRecord}
use Rattle.fed_rules.specs.Found.{Journal}
use Rattle.fed_rules.specs.Reopened.{first_of, opened_site}
use Rattle.fed_rules.specs.Site.{site_line}
use Rattle.fed_rules.specs.SitePast.{SiteHappening, SitePast}
use Rattle.fed_rules.specs.SiteRecords.{Home}
use Rattle.fed_rules.specs.Usable.{IsUsableSite, home_of_first}
use Rattle.site_history.specs.FoundSites.{WritesRise}
use Rattle.actor_store.specs.Store.{writes}
pub use Rattle.fed_rules.specs.Site_of.{about}

-- whether the event is of a local attempt of this transaction
abbrev pub is_of_local : Tx → SiteEvent → Bool
is_of_local tx (Ev.Begin tid) = same_tx tid.tx tx
is_of_local tx (Ev.Act tid act) = same_tx tid.tx tx
is_of_local tx (Ev.Commit tid) = same_tx tid.tx tx
is_of_local tx (Ev.Abort tid) = same_tx tid.tx tx
is_of_local tx event = false

-- whether the event gives a message about this transaction
abbrev pub is_of_global : Tx → SiteEvent → Bool
is_of_global tx (Ev.Give message) = same_tx (about message).tx tx
is_of_global tx event = false

-- whether an event of a local attempt of this transaction came
abbrev pub was_local : Tx → SitePast → Bool
was_local tx past = some_of (λ x. is_of_local tx x.event) past

-- whether a message about this transaction was given
abbrev pub was_global : Tx → SitePast → Bool
was_global tx past = some_of (λ x. is_of_global tx x.event) past

-- whether the answer begins this attempt as a local one
abbrev pub begins_tid : Tid → Answer → Bool
begins_tid tid (Say.Begun begun) = same_tid begun tid
begins_tid tid answer = false

-- whether the attempt was begun as a local one
abbrev pub was_begun : Tid → SitePast → Bool
was_begun tid past = some_of (λ x. begins_tid tid x.answer) past

-- whether the event is a halt
abbrev pub is_halt : SiteEvent → Bool
is_halt (Ev.Halt cut) = true
is_halt event = false

-- whether the line begins a past with a journal that was found: it is a halt, and the records of the journal are what it writes
abbrev pub opens : SiteHappening → Bool
opens x = is_halt x.event && writes x.calls

-- whether the past goes on from a journal that was found
abbrev pub was_found : SitePast → Bool
was_found past = some_of opens past

-- local and global transactions are told apart: an event of a local attempt names no transaction that an earlier message was about, and a
-- message is about none that an earlier event of a local attempt named
abbrev pub IsApart : SitePast → SiteEvent → Type 0
IsApart past (Ev.Begin tid) = was_global tid.tx past ≡ false
IsApart past (Ev.Act tid act) = was_global tid.tx past ≡ false
IsApart past (Ev.Commit tid) = was_global tid.tx past ≡ false
IsApart past (Ev.Abort tid) = was_global tid.tx past ≡ false
IsApart past (Ev.Give message) = was_local (about message).tx past ≡ false
IsApart past event = Unit {0}

-- each line is the answer of the rules to an event that may come behind the lines before it
abbrev pub IsMade : Home → SitePast → Type 0
IsMade home [] = Unit {0}
IsMade home (x ∷ past) = (x ≡ site_line home past x.event) × IsApart past x.event × IsMade home past

-- the past is the one that a journal stands for, which is usable as that of this site and whose writes rise by key
pub record IsOpened (home : Home) (past : SitePast) : Type 0 where
  pub journal : Journal SiteRecord
  pub is : past ≡ opened_site journal
  pub number : ℕ
  pub usable : IsUsableSite number journal.records
  pub is_home : home_of_first (first_of journal.records) ≡ Some home
  pub rising : Each WritesRise journal.records

-- the line is the answer of the rules to an event that may come
pub record IsNextLine (home : Home) (past : SitePast) (x : SiteHappening) : Type 0 where
  pub is : x ≡ site_line home past x.event
  pub apart : IsApart past x.event

-- each line is so, behind nothing or behind the past that a journal stands for
abbrev pub IsGoingOn : Home → SitePast → Type 0
IsGoingOn home [] = Unit {0}
IsGoingOn home (x ∷ past) = IsOpened home (x ∷ past) ⊎ (IsNextLine home past x × IsGoingOn home past)
