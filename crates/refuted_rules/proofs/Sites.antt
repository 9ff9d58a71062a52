-- For each wrong rule of a site a list of commands by which a law breaks.
use Rattle.std.proofs.Common.{◌≡◌, List, [], ◌∷◌, reverse, refl, ap}
use Rattle.mdb_base.specs.declared.names.Engine.TheVariants.{Locking}
use Rattle.presumptions.specs.declared.Protocol.TheVariants as By
use Rattle.fed_rules.specs.declared.commands.Command.{Command}
use Rattle.fed_rules.specs.declared.scenario.Scenario.{Scenario}
use Rattle.fed_rules.specs.declared.sums.SiteSum.{SiteSum}
use Rattle.fed_rules.specs.SiteRecords.{Home}
use Rattle.fed_rules.proofs.ForCallers.{at, begin, check, commit, entry, give, global, go, late, local, opened, scenario_of, set, site, step, step_at, take, tid}
use Rattle.refuted_rules.specs.Sites.{LeavesAClosedRunLive, LeavesItsFirstRows, MissesWhatWasTrimmed, closed_attempts_begin}

abbrev roaming : Scenario
roaming = scenario_of (site 1 Locking By.Nothing ∷ []) [] (global 1 (step_at 1 (set 1 11) ∷ []) ∷ [])

abbrev staying : Scenario
staying = scenario_of (site 1 Locking By.Nothing ∷ []) [] (local 1 1 (set 1 11 ∷ []) ∷ [])

abbrev home : Home
home = record { site = at 1; engine = Locking; protocol = By.Nothing; items = [] }

-- an attempt is given up, and its first act comes once more
abbrev given_again : List Command
given_again = reverse (go 1 ∷ give 1 0 ∷ take 1 0 ∷ give 1 1 ∷ take 1 1 ∷ late (tid 1 0) ∷ give 1 3 ∷ give 1 0 ∷ [])

pub closed_run_lives : LeavesAClosedRunLive closed_attempts_begin
unfolding opened
closed_run_lives =
    record {
      scenario = roaming;
      commands = given_again;
      site = at 1;
      home = home;
      declared = refl;
      tid = tid 1 0;
      program = step_at 1 (set 1 11) ∷ [];
      roams = refl;
      over = refl;
      run = _;
      still_live = refl;
    }

-- a local transaction commits, and a Checkpoint is written
abbrev checked : List Command
checked = reverse (begin 1 ∷ step 1 ∷ commit 1 ∷ check 1 ∷ [])

pub trimmed_missed : MissesWhatWasTrimmed
unfolding opened
trimmed_missed =
    record {
      scenario = staying;
      commands = checked;
      site = at 1;
      home = home;
      declared = refl;
      missed = λ e. (let no : [] ≡ tid 1 0 ∷ [] = ap (λ (sum : SiteSum). sum.locals) e in cc);
    }

abbrev committed : List Command
committed = reverse (begin 1 ∷ step 1 ∷ commit 1 ∷ [])

pub first_rows_left : LeavesItsFirstRows
unfolding opened
first_rows_left =
    record {
      scenario = staying;
      commands = committed;
      site = at 1;
      home = home;
      declared = refl;
      up = refl;
      moved = λ e. (let no : [] ≡ entry 1 11 ∷ [] = e in cc);
    }
