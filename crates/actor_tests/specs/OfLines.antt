-- The site of the tests, and how much happened there.
use Rattle.std.specs.Prelude.{ℕ, ◌≡◌, ◌≤◌, ◌<◌, true, None, length}
use Rattle.mdb_base.specs.declared.names.Tx.{Tx}
use Rattle.fed_rules.specs.declared.scenario.TxLine.{TxLine}
use Rattle.fed_rules.specs.SitePast.{SitePast}
use Rattle.fed_rules.specs.SiteRecords.{Home}
use Rattle.fed_rules.specs.Site_of.{about}
use Rattle.journal_disk.specs.declared.mem_disk.MemDisk.{MemDisk}
use Rattle.any_engine.specs.declared.engine.AnyEngine.{AnyEngine}
use Rattle.any_engine.specs.Stands as Engines
use Rattle.site_core.specs.Sessions.{mem_seen}
use Rattle.local_dbms.specs.declared.asks.SiteAsk.{SiteAsk}
use Rattle.local_dbms.specs.declared.asks.SiteAsk.TheVariants as At
use Rattle.local_dbms.specs.declared.dbms.LocalDbms.{LocalDbms}
use Rattle.local_dbms.specs.Stands.{OwnPrograms, Some_site, Stands}

-- a transaction that isn't the site's own
abbrev pub third : Tx
third = record { 0 = 3 }

-- the line of one of the site's own
abbrev pub IsOwn : TxLine → Type 0
IsOwn line = (1 ≤ line.tx.0) × (line.tx.0 ≤ 2)

-- a message that is given is about the third
abbrev pub IsOfThird : SiteAsk → Type 0
IsOfThird (At.Give message) = ((about message).tx ≡ third) × ((about message).attempt < 32)
IsOfThird ask = Unit {0}

-- there are at most so many lines, and the site's own are others
pub record IsWithin (n : ℕ) (home : Home) (programs : OwnPrograms) (past : SitePast) : Type 0 where
  pub few : length past ≤ n
  pub foreign : programs third ≡ None

-- a local database system on a disk in memory stands for at most so many lines
unfoldable pub IsOfLines : ℕ → LocalDbms AnyEngine → MemDisk → Type 0
IsOfLines n dbms disk = Some_site (Stands Engines.Stands true dbms (mem_seen disk)) (IsWithin n)
