-- What a run book holds, and what each of its calls makes of it.
use Rattle.std.specs.Prelude.{ℕ, ◌+◌, ◌-◌, max, nat_lt, cond, Option, Some, None, List, [], ◌∷◌}
use Rattle.std.specs.FinMap.{empty, get}
use Rattle.mdb_base.specs.declared.names.Key.{Key}
use Rattle.mdb_base.specs.declared.names.Tid.{Tid}
use Rattle.mdb_base.specs.declared.rows.Put.{Put}
use Rattle.mdb_base.specs.Rows.{Table}
use Rattle.mdb_base.specs.Words.{or_else, map_some}
use Rattle.fed_rules.specs.declared.runs.Kept.{Kept}
use Rattle.fed_rules.specs.Runs.{Access, restored, begun, number, has_ticket}
use Rattle.site_tables.specs.Numbers.{number_of}
use Rattle.site_tables.specs.Tables.{Versions, value_of}
use Rattle.run_book.specs.declared.counters.Counters.{Counters}
use Rattle.run_book.specs.Held.{Held, Runs, held_in, with_run, changed_in, without}
use Rattle.run_book.specs.Tables.{first_versions, with_writes}

-- what the table keeps of each key, the unended runs, and the counters
pub record Book : Type 0 where
  pub versions : Versions
  pub runs : Runs
  pub counters : Counters

-- a book, and for how many further holders of the ticket it has room
pub record RoomyBook : Type 0 where
  pub book : Book
  pub room : ℕ

-- the runs with those of transactions in doubt, at each of which these counters are noted
abbrev pub with_restored : Counters → List Kept → Runs → Runs
with_restored counters [] runs = runs
with_restored counters (kept ∷ more) runs = with_restored counters more (with_run kept.tid (record { run = restored kept; counters = counters }) runs)

-- the book of an epoch that starts
abbrev pub started : List Put → List Kept → Counters → Book
started rows doubtful counters = record { versions = first_versions rows; runs = with_restored counters doubtful empty; counters = counters }

-- a run begins with the next number
abbrev pub begins : Tid → Book → Book
begins tid book =
    let n = book.counters.counter + 1 in
    record book { runs = with_run tid (record { run = begun tid n; counters = book.counters }) book.runs; counters = record book.counters { counter = n } }

-- a run's begin is taken back, with its number
abbrev pub unbegins : Tid → Book → Book
unbegins tid book =
    record book { runs = without tid book.runs; counters = record book.counters { counter = or_else (map_some (λ held. held.run.age - 1) (held_in book.runs tid)) 0 } }

-- an access is granted to a run
abbrev pub granted_to : Access → Held → Held
granted_to access held = record held { run = record held.run { acts = access ∷ held.run.acts } }

abbrev pub grants : Tid → Access → Book → Book
grants tid access book = record book { runs = changed_in tid (granted_to access) book.runs }

-- a run gets its ticket
abbrev pub with_ticket : ℕ → Held → Held
with_ticket ticket held = record held { run = record held.run { ticket = Some ticket } }

abbrev pub tickets : Tid → ℕ → Book → Book
tickets tid ticket book = record book { runs = changed_in tid (with_ticket ticket) book.runs }

-- the counters after a sealing with this number and ticket: both rise, and who raised the published ticket owns it
abbrev pub sealed_counters : Tid → ℕ → ℕ → Counters → Counters
sealed_counters tid n ticket counters =
    record { counter = max n counters.counter; published = max ticket counters.published; owner = cond (nat_lt counters.published ticket) (Some tid) counters.owner }

-- the ticket of a run that is held, or 0
abbrev pub ticket_in : Runs → Tid → ℕ
ticket_in runs tid = or_else (map_some (λ held. or_else held.run.ticket 0) (held_in runs tid)) 0

-- how many tickets a sealing of the run publishes
abbrev pub taken_by : Option Held → ℕ
taken_by o = or_else (map_some (λ held. cond (has_ticket held.run) 1 0) o) 0

-- a run is sealed, and the counters before its sealing are noted at it
abbrev pub sealed_with : ℕ → Counters → Held → Held
sealed_with n counters held = record { run = record held.run { sealed = Some n }; counters = counters }

abbrev pub seals : Tid → ℕ → Book → Book
seals tid n book =
    record book { runs = changed_in tid (sealed_with n book.counters) book.runs; counters = sealed_counters tid n (ticket_in book.runs tid) book.counters }

-- a run's sealing is taken back, with what it did to the counters
abbrev pub not_sealed : Held → Held
not_sealed held = record held { run = record held.run { sealed = None } }

-- the counters before the sealing of a run, which published a ticket where the run has one
abbrev pub counters_without : Held → Counters → Counters
counters_without held counters = cond (has_ticket held.run) held.counters (record counters { counter = held.counters.counter })

abbrev pub unseals : Tid → Book → Book
unseals tid book =
    record book { runs = changed_in tid not_sealed book.runs; counters = or_else (map_some (λ held. counters_without held book.counters) (held_in book.runs tid)) book.counters }

-- a run leaves
abbrev pub drops : Tid → Book → Book
drops tid book = record book { runs = without tid book.runs }

-- a run is committed: its writes go to the table by its number
abbrev pub commits : Tid → Book → Book
commits tid book =
    record book {
      versions = or_else (map_some (λ held. with_writes (number held.run) held.run.acts book.versions) (held_in book.runs tid)) book.versions;
      runs = without tid book.runs;
    }

-- the value of each key in the table
abbrev pub table_in : Book → Table
table_in book key = value_of (get book.versions key.0)

-- the number of each key's last writer in the table
abbrev pub number_in : Book → Key → ℕ
number_in book key = number_of (get book.versions key.0)
