-- What a start of the coordinator takes of what its records say together.
use Rattle.std.specs.Prelude.{◌≡◌, Bool, not, List, [], map}
use Rattle.mdb_base.specs.declared.names.Tid.{Tid}
use Rattle.mdb_base.specs.declared.names.Tx.{Tx}
use Rattle.mdb_base.specs.Names.{same_tid}
use Rattle.mdb_base.specs.Words.{some_of, those}
use Rattle.order_laws.specs.Tickets.{Ticketed}
use Rattle.fed_rules.specs.declared.sums.CommittedAttempt.{CommittedAttempt}
use Rattle.fed_rules.specs.declared.sums.CoordSum.{CoordSum}
use Rattle.fed_rules.specs.declared.sums.OpenAttempt.{OpenAttempt}
use Rattle.fed_rules.specs.CoordRecords.{acking, is_nobody}
use Rattle.protocol_table.specs.declared.known.Restored.{Restored}
use Rattle.protocol_table.specs.Attempts.{decision_of, restored}
use Rattle.ticket_graph.specs.Graph.{StandsFor}
use Rattle.coord_tables.specs.declared.tables.Tables.{Tables}
use Rattle.coord_tables.specs.Attempts.{last_of}
use Rattle.coord_tables.specs.Trees.{committed_in}

-- whether the attempt is among the committed ones
abbrev pub is_committed : List CommittedAttempt → Tid → Bool
is_committed committed tid = some_of (λ attempt. same_tid attempt.tid tid) committed

-- whether an acknowledgement of its outcome is required
abbrev pub is_awaited : List CommittedAttempt → OpenAttempt → Bool
is_awaited committed attempt = not (is_nobody (acking (decision_of (is_committed committed attempt.tid)) attempt.participants))

-- an open attempt with its outcome
abbrev pub restored_by : List CommittedAttempt → OpenAttempt → Restored
restored_by committed attempt = record { tid = attempt.tid; participants = attempt.participants; committed = is_committed committed attempt.tid }

-- the attempts that a start knows
abbrev pub kept_by : CoordSum → List Restored
kept_by sum = map (restored_by sum.committed) (those (is_awaited sum.committed) sum.open_attempts)

-- a committed attempt with its tickets
abbrev pub ticketed_by : CommittedAttempt → Ticketed
ticketed_by attempt = record { tid = attempt.tid; tickets = attempt.tickets }

-- the tables begin with what this Sum says
pub record BeginWith (sum : CoordSum) (tables : Tables) : Type 0 where
  pub known : tables.known ≡ map restored (kept_by sum)
  pub exec : tables.exec ≡ []
  pub stages : tables.stages.listed ≡ []
  pub committed : (tx : Tx) → committed_in tables.committed.listed tx ≡ last_of tx (map (λ attempt. attempt.tid) sum.committed)
  pub graph : StandsFor (map ticketed_by sum.committed) tables.graph
  pub bare : tables.graph.kept ≡ []
