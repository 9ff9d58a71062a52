-- Which tickets an attempt has at a site, and that tickets rise.
use Rattle.std.specs.Prelude.{ℕ, ◌≡◌, ◌<◌, ◌⊎◌, Some, List, [], ◌∷◌}
use Rattle.mdb_base.specs.declared.names.Tid.{Tid}
use Rattle.mdb_base.specs.Words.{Among}
use Rattle.fed_rules.specs.declared.records.SiteRecord.{SiteRecord}
use Rattle.fed_rules.specs.Runs.{Run}
use Rattle.fed_rules.specs.SitePast.{SiteHappening, SitePast, live, records, run_of}
use Rattle.fed_rules.specs.SiteRecords.{Home}
use Rattle.site_history.specs.Records.{IsPrepared, Prepares}

-- the unended run of the attempt has this ticket
pub record Took (home : Home) (past : SitePast) (tid : Tid) (ticket : ℕ) : Type 0 where
  pub run : Run
  pub is_run : run_of home past tid ≡ Some run
  pub has : run.ticket ≡ Some ticket

-- the attempt has this ticket at the site: its run has it, or it is prepared with it
abbrev pub HasTicket : Home → SitePast → Tid → ℕ → Type 0
HasTicket home past tid ticket = Took home past tid ticket ⊎ IsPrepared (records home past) tid ticket

-- the ticket is greater than those of all prepared attempts
abbrev pub IsAbovePrepared : List SiteRecord → ℕ → Type 0
IsAbovePrepared records ticket = (tid : Tid) (prepared : ℕ) → IsPrepared records tid prepared → prepared < ticket

-- the live run of an attempt that wasn't prepared has this ticket
pub record MayPrepare (home : Home) (past : SitePast) (tid : Tid) (ticket : ℕ) : Type 0 where
  pub run : Run
  pub is_live : live home past tid ≡ Some run
  pub has : run.ticket ≡ Some ticket
  pub new : Among (Prepares tid) (records home past) → ⊥

-- who has a ticket behind a line had it before, or it is greater than those of all that were prepared; and who is prepared behind it was so
-- before, or its live run had the ticket
pub record IsRising (home : Home) (past : SitePast) (x : SiteHappening) : Type 0 where
  pub taken : (tid : Tid) (ticket : ℕ) → HasTicket home (x ∷ past) tid ticket
      → HasTicket home past tid ticket ⊎ IsAbovePrepared (records home past) ticket
  pub prepared : (tid : Tid) (ticket : ℕ) → IsPrepared (records home (x ∷ past)) tid ticket
      → IsPrepared (records home past) tid ticket ⊎ MayPrepare home past tid ticket

-- so it is of each line of the site
abbrev pub TicketsRise : Home → SitePast → Type 0
TicketsRise home [] = Unit {0}
TicketsRise home (x ∷ past) = IsRising home past x × TicketsRise home past
