-- A line about one attempt: what it leaves of the site, and of all other attempts.
use Rattle.std.proofs.Common.{◌≡◌, ℕ, ◌⊎◌, false, ◌||◌, None, List, [], ◌∷◌, ◌++◌, ap₂}
use Rattle.mdb_base.specs.declared.names.Tid.{Tid}
use Rattle.mdb_base.specs.declared.names.Tx.{Tx}
use Rattle.mdb_base.specs.declared.rows.Put.{Put}
use Rattle.mdb_base.specs.Names.{same_tid, same_tx}
use Rattle.mdb_base.specs.Words.{Each}
use Rattle.mdb_base.proofs.ForCallers.{cond-false}
use Rattle.fed_rules.specs.declared.records.SiteRecord.TheVariants as Rec
use Rattle.fed_rules.specs.Disk.{Append, Sync}
use Rattle.fed_rules.specs.Happenings.{stops, comes_up}
use Rattle.fed_rules.specs.Orders.{read_by}
use Rattle.fed_rules.specs.Runs.{tid_of, run_at}
use Rattle.fed_rules.specs.SitePast.{SiteHappening, SitePast, epoch_start, engine_lines, run_of, trip_of, begins_tx}
use Rattle.fed_rules.specs.SiteRecords.{Home}

-- the line is about this attempt alone, and stops nothing
pub record IsAbout (tid : Tid) (x : SiteHappening) : Type 0 where
  pub stays : stops x.answer ≡ false
  pub up : comes_up x.answer ≡ false
  pub untripped : trip_of x.event ≡ None
  pub sends : x.sends ≡ []
  pub lines : Each (λ line. tid_of line ≡ tid) x.lines
  pub calls : (x.calls ≡ []) ⊎ ((number : ℕ) × (writes : List Put) × (x.calls ≡ Append (Rec.Local tid number writes) ∷ Sync ∷ []))
  pub reads : (other : Tid) → same_tid tid other ≡ false → read_by other x.event x.answer ≡ None
  pub begins : (other : Tx) → same_tx tid.tx other ≡ false → begins_tx other x.answer ≡ false

-- the epoch goes on with the line's engine lines
pub engine_lines-next : (past : SitePast) (x : SiteHappening) → stops x.answer ≡ false → comes_up x.answer ≡ false → engine_lines (x ∷ past) ≡ x.lines ++ engine_lines past
engine_lines-next past x s u = cond-false _ _ _ (ap₂ (λ a b. a || b) s u)

pub epoch_start-next : (home : Home) (past : SitePast) (x : SiteHappening) → stops x.answer ≡ false → comes_up x.answer ≡ false → epoch_start home (x ∷ past) ≡ epoch_start home past
epoch_start-next home past x s u = cond-false _ _ _ (ap₂ (λ a b. a || b) s u)

pub run_of-next : (home : Home) (past : SitePast) (x : SiteHappening) (tid : Tid) → stops x.answer ≡ false → comes_up x.answer ≡ false → run_of home (x ∷ past) tid ≡ run_at (epoch_start home past) (x.lines ++ engine_lines past) tid
run_of-next home past x tid s u = ap₂ (λ start lines. run_at start lines tid) (epoch_start-next home past x s u) (engine_lines-next past x s u)
