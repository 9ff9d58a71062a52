-- Attempts of which a test holds, by rising attempt.
use Rattle.std.specs.Prelude.{◌≡◌, ◌↔◌, Bool, true, cond, is_some, Some, List, [], ◌∷◌}
use Rattle.std.specs.FinMap.{get}
use Rattle.mdb_base.specs.declared.names.Tid.{Tid}
use Rattle.mdb_base.specs.Names.{tid_before}
use Rattle.mdb_base.specs.Words.{Among, Each}
use Rattle.site_book.specs.declared.progress.Progress.{Progress}
use Rattle.site_book.specs.Book.{Attempts, live_part}

-- each attempt stands before all behind it
abbrev pub AreRising : List Tid → Type 0
AreRising [] = Unit {0}
AreRising (tid ∷ tids) = Each (λ later. tid_before tid later ≡ true) tids × AreRising tids

-- these are the attempts of which the test holds, by rising attempt
pub record Lists (test : Tid → Bool) (tids : List Tid) : Type 0 where
  pub rising : AreRising tids
  pub members : (tid : Tid) → Among (λ listed. listed ≡ tid) tids ↔ (test tid ≡ true)

-- whether the map has the attempt as live
abbrev pub is_live_in : Attempts → Tid → Bool
is_live_in attempts tid = is_some (live_part (get attempts tid))

-- the attempts of those entries that are live
abbrev pub live_keys : List (Tid × Progress) → List Tid
live_keys [] = []
live_keys (entry ∷ more) = cond (is_some (live_part (Some entry.1))) (entry.0 ∷ live_keys more) (live_keys more)
