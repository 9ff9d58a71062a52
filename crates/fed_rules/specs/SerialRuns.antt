-- Runs one at a time: what was answered is what is read when nothing else runs.
use Rattle.std.specs.Prelude.{ℕ, ◌≡◌, ◌<◌, Some, List, [], ◌∷◌}
use Rattle.mdb_base.specs.Rows.{Table}
use Rattle.mdb_base.specs.Words.{Each}
use Rattle.fed_rules.specs.Runs.{Access, Got, Wrote, Run, number, after, table_of}

-- carried out alone on the table, each read of these accesses, the last one first, gives what it was answered
abbrev pub ReadsAlone : List Access → Table → Type 0
ReadsAlone [] table = Unit {0}
ReadsAlone (Got key value ∷ acts) table = (value ≡ after acts table key) × ReadsAlone acts table
ReadsAlone (Wrote key value ∷ acts) table = ReadsAlone acts table

-- carried out one at a time, the last one first, each run reads alone what it was answered
abbrev pub IsSerial : Table → List Run → Type 0
IsSerial items [] = Unit {0}
IsSerial items (run ∷ runs) = ReadsAlone run.acts (table_of items runs) × IsSerial items runs

-- each run has a greater serial number than every one behind it
abbrev pub NumbersFall : List Run → Type 0
NumbersFall [] = Unit {0}
NumbersFall (run ∷ runs) = Each (λ other. number other < number run) runs × NumbersFall runs

-- the tickets of the two, where both took one, stand so
abbrev pub HasLowerTicket : (later earlier : Run) → Type 0
HasLowerTicket later earlier = (t u : ℕ) → later.ticket ≡ Some t → earlier.ticket ≡ Some u → u < t

-- each run has a greater ticket than every one behind it, where both took one
abbrev pub TicketsFall : List Run → Type 0
TicketsFall [] = Unit {0}
TicketsFall (run ∷ runs) = Each (HasLowerTicket run) runs × TicketsFall runs
