-- The installs of committed runs, by their numbers.
use Rattle.std.proofs.Common.{◌≡◌, Bool, true, false, cond, nat_lt, Some, List, [], ◌∷◌, map, refl, ap}
use Rattle.fed_rules.specs.Runs.{Run, number, puts_of}
use Rattle.fed_rules.specs.Runs as Runs
use Rattle.fed_rules.specs.SiteRecords.{Install, by_number}

-- a committed run, as it is installed
abbrev pub install_of : Run → Install
install_of run = record { tid = run.tid; number = number run; writes = puts_of run.acts }

-- one more, put by its number before it is installed, or after
pub installed_inserted : (run : Run) (runs : List Run) → map install_of (Runs.by_number (Some run) runs) ≡ by_number (install_of run) (map install_of runs)
installed_inserted run [] = refl
installed_inserted run (other ∷ runs) = by_test (nat_lt (number run) (number other)) (installed_inserted run runs)
  where
    by_test : (b : Bool) → map install_of (Runs.by_number (Some run) runs) ≡ by_number (install_of run) (map install_of runs)
        → map install_of (cond b (other ∷ Runs.by_number (Some run) runs) (run ∷ other ∷ runs)) ≡ cond b (install_of other ∷ by_number (install_of run) (map install_of runs)) (install_of run ∷ install_of other ∷ map install_of runs)
    by_test true h = ap (λ is. install_of other ∷ is) h
    by_test false h = refl
