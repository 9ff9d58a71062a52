-- A site over several epochs, each of which starts from what a stop left of the one before.
use Rattle.std.specs.Prelude.{◌≡◌, ◌≤◌, nat_lt, not, List, [], ◌∷◌, ◌++◌, map}
use Rattle.mdb_base.specs.declared.names.Key.{Key}
use Rattle.mdb_base.specs.declared.names.Tid.{Tid}
use Rattle.mdb_base.specs.declared.rows.Put.{Put}
use Rattle.mdb_base.specs.Rows.{look_up}
use Rattle.mdb_base.specs.Words.{Each, those}
use Rattle.fed_rules.specs.Runs.{Start, EngineLine, Run, number, committed, table_of, table}
use Rattle.fed_rules.specs.EngineLines.{IsRight}
use Rattle.fed_rules.specs.SerialRuns.{IsSerial, NumbersFall, TicketsFall}
use Rattle.engine_laws.specs.Laws.{with_commits, AreSealed, IsRestart}

-- what an epoch started from, and its lines
pub record Epoch : Type 0 where
  pub start : Start
  pub lines : List EngineLine

-- the next epoch starts after a stop, and its counter is at least every number that was kept
pub record StartsAfter (before : Epoch) (next : Start) : Type 0 where
  pub restart : IsRestart before.start before.lines next
  pub counter : before.start.counter ≤ next.counter
  pub numbers : Each (λ run. number run ≤ next.counter) (committed before.start before.lines)

-- the first epoch starts with nothing in doubt
pub record IsFirst (epoch : Epoch) : Type 0 where
  pub nothing : epoch.start.doubtful ≡ []
  pub right : IsRight epoch.start epoch.lines

-- an epoch with the ones before it, the newest first
abbrev pub AreEpochs : Epoch → List Epoch → Type 0
AreEpochs epoch [] = IsFirst epoch
AreEpochs epoch (before ∷ more) = StartsAfter before epoch.start × IsRight epoch.start epoch.lines × AreEpochs before more

-- the rows that the first epoch started from
abbrev pub first_rows : Epoch → List Epoch → List Put
first_rows epoch [] = epoch.start.rows
first_rows epoch (before ∷ more) = first_rows before more

-- those of the runs that were begun in this epoch
abbrev pub new_runs : Start → List Run → List Run
new_runs start runs = those (λ run. nat_lt start.counter (number run)) runs

-- the attempts of those that were restored
abbrev pub restored_tids : Start → List Run → List Tid
restored_tids start runs = map (λ run. run.tid) (those (λ run. not (nat_lt start.counter (number run))) runs)

-- the runs that committed in all these epochs, with these sealed ones taken as committed, the greatest number first; one that was restored
-- stands as it was sealed, with its reads
abbrev pub all_committed : List Tid → Epoch → List Epoch → List Run
all_committed tids epoch [] = committed epoch.start (with_commits tids epoch.lines)
all_committed tids epoch (before ∷ more) =
    let runs = committed epoch.start (with_commits tids epoch.lines) in
    new_runs epoch.start runs ++ all_committed (restored_tids epoch.start runs) before more

-- these runs alone, by their numbers, read what they were answered from the first rows on; their tickets stand in that order; and they
-- leave the table of the newest epoch with those commits
pub record IsSerialHistory (tids : List Tid) (epoch : Epoch) (earlier : List Epoch) : Type 0 where
  pub numbers : NumbersFall (all_committed tids epoch earlier)
  pub alone : IsSerial (look_up (first_rows epoch earlier)) (all_committed tids epoch earlier)
  pub tickets : TicketsFall (all_committed tids epoch earlier)
  pub left : (key : Key) → table_of (look_up (first_rows epoch earlier)) (all_committed tids epoch earlier) key
      ≡ table epoch.start (with_commits tids epoch.lines) key

-- so it is over any epochs, whichever of the sealed runs are taken as committed
abbrev pub EpochsAreSerial : Type 0
EpochsAreSerial =
    (epoch : Epoch) (earlier : List Epoch) → AreEpochs epoch earlier
    → (tids : List Tid) → AreSealed epoch.start epoch.lines tids → IsSerialHistory tids epoch earlier
