-- A core with an attempt that is sealed in its engine, and of which nothing is on the disk yet.
use Rattle.std.specs.Prelude.{ℕ, ◌≡◌, Bool, Some, None, List, ◌∷◌}
use Rattle.mdb_base.specs.declared.names.Tid.{Tid}
use Rattle.fed_rules.specs.declared.runs.Sealed.{Sealed}
use Rattle.fed_rules.specs.Runs as Lines
use Rattle.fed_rules.specs.Runs.{EngineLine, Run, Seals, puts_of}
use Rattle.fed_rules.specs.Site.{done, number_of, stop_of}
use Rattle.fed_rules.specs.SitePast.{SitePast, engine_lines, epoch_start, live}
use Rattle.fed_rules.specs.SiteRecords.{Home}
use Rattle.journal_disk.specs.Disk.{Seen}
use Rattle.site_core.specs.declared.site.SiteCore.{SiteCore}
use Rattle.site_core.specs.Stands.{Stands}

-- the rule seals the live run of the attempt: nothing stops it, and it hands out its number, its ticket and its writes
pub record SealsLive (tid : Tid) (sealed : Sealed) (home : Home) (past : SitePast) : Type 0 where
  pub run : Run
  pub live : live home past tid ≡ Some run
  pub passes : stop_of home past run ≡ None
  pub number : sealed.number ≡ number_of home past run
  pub ticket : sealed.ticket ≡ run.ticket
  pub writes : sealed.writes ≡ puts_of run.acts

-- the core was one that stands for the past before its engine sealed the attempt
pub record StandsSealing {E : Type 0} (stands : E → Lines.Start → List EngineLine → Type 0) (tells : Bool) (tid : Tid) (sealed : Sealed) (core : SiteCore E) (disk : Seen) (home : Home) (past : SitePast) : Type 0 where
  pub engine : E
  pub stood : Stands stands tells (record core { engine = engine }) disk home past
  pub sealing : stands core.engine (epoch_start home past) (Seals tid sealed.number ∷ engine_lines past)
  pub seals : SealsLive tid sealed home past

-- the live run of the attempt has finished so many operations
abbrev pub HasFinished : Tid → ℕ → Home → SitePast → Type 0
HasFinished tid n home past = (run : Run) → live home past tid ≡ Some run → n ≡ done run
