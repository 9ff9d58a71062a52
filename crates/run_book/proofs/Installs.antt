-- Accesses whose writes go to the table, the newest one first.
use Rattle.std.proofs.Common.{◌≡◌, ℕ, ◌+◌, ◌-◌, ◌≤◌, List, take, reverse}
use Rattle.fed_rules.specs.Runs.{Access}
use Rattle.site_tables.specs.Tables.{Table}
use Rattle.run_book.specs.Tables.{with_writes, writes_in}

-- the newest ones are done: the others make of the table now what all make of the first one, and have room there
pub record IsInstalledTo (accesses : List Access) (number count done : ℕ) (first now : Table) : Type 0 where
  pub written : with_writes number (reverse (take (count - done) accesses)) now.versions ≡ with_writes number (reverse accesses) first.versions
  pub left : writes_in (reverse (take (count - done) accesses)) ≤ now.spare
  pub used : first.spare + writes_in (reverse (take (count - done) accesses)) ≤ now.spare + writes_in (reverse accesses)
