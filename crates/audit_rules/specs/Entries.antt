-- Entries of a report told apart by their numbers.
use Rattle.std.specs.Prelude.{ℕ, Bool, List, [], ◌∷◌}
use Rattle.mdb_base.specs.declared.names.Tid.{Tid}
use Rattle.mdb_base.specs.declared.rows.Put.{Put}
use Rattle.audit_rules.specs.Agreement.{Entry, Reads, Ends, Forgets, Shows, Last}
use Rattle.audit_rules.specs.Same.{same_numbers, tid_numbers, decision_number}

abbrev pub tids_numbers : List Tid → List ℕ
tids_numbers [] = []
tids_numbers (tid ∷ tids) = tid.tx.0 ∷ tid.attempt ∷ tids_numbers tids

abbrev pub puts_numbers : List Put → List ℕ
puts_numbers [] = []
puts_numbers (put ∷ puts) = put.key.0 ∷ put.value ∷ puts_numbers puts

abbrev pub entry_numbers : Entry → List ℕ
entry_numbers (Reads reads) = 0 ∷ reads.tid.tx.0 ∷ reads.tid.attempt ∷ reads.values
entry_numbers (Ends outcome) = 1 ∷ decision_number outcome.decision ∷ tid_numbers outcome.tid
entry_numbers (Forgets tids) = 2 ∷ tids_numbers tids
entry_numbers (Shows rows) = 3 ∷ rows.site.0 ∷ puts_numbers rows.rows
entry_numbers Last = 4 ∷ []

abbrev pub same_entry : Entry → Entry → Bool
same_entry a b = same_numbers (entry_numbers a) (entry_numbers b)
