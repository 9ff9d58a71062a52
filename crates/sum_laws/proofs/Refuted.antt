-- A commit in a Checkpoint is missed by who reads the records that stand on the disk alone.
use Rattle.std.proofs.Common.{List, [], ◌∷◌, reverse, refl}
use Rattle.mdb_base.specs.declared.names.Engine.TheVariants.{Locking}
use Rattle.presumptions.specs.declared.Protocol.TheVariants as By
use Rattle.fed_rules.specs.declared.commands.Command.{Command}
use Rattle.fed_rules.specs.declared.scenario.Scenario.{Scenario}
use Rattle.fed_rules.proofs.ForCallers.{check, give, global, go, opened, scenario_of, set, site, step_at, take, tid}
use Rattle.sum_laws.specs.WrongReading.{ForgetsACommit}

abbrev one_site : Scenario
one_site = scenario_of (site 1 Locking By.Abort ∷ []) [] (global 1 (step_at 1 (set 1 1) ∷ []) ∷ [])

-- an attempt commits, and a Checkpoint is written
abbrev checked : List Command
checked = reverse (go 1 ∷ give 1 0 ∷ take 1 0 ∷ give 1 1 ∷ take 1 1 ∷ give 1 2 ∷ take 1 2 ∷ check 0 ∷ [])

pub commit_forgotten : ForgetsACommit
unfolding opened
commit_forgotten =
    record { scenario = one_site; commands = checked; tid = tid 1 0; kept = refl; committed = refl; missed = refl; taken = refl }
