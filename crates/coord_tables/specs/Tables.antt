-- When the tables of a coordinator are those of its past.
use Rattle.std.specs.Prelude.{◌≡◌, None, []}
use Rattle.mdb_base.specs.declared.names.Tid.{Tid}
use Rattle.mdb_base.specs.declared.names.Tx.{Tx}
use Rattle.fed_rules.specs.CoordPast.{CoordPast, is_open, records, standing}
use Rattle.fed_rules.specs.CoordRecords.{committed_of, commits}
use Rattle.global_exec.specs.Live.{live_of}
use Rattle.protocol_table.specs.Agreement.{IsKnownAs}
use Rattle.protocol_table.specs.Attempts.{known_of}
use Rattle.ticket_graph.specs.Graph.{AreHeld, StandsFor}
use Rattle.coord_tables.specs.Trees.{committed_in}
use Rattle.coord_tables.specs.declared.tables.Tables.{Tables}
use Rattle.coord_tables.specs.Attempts.{IsLiveAs}
use Rattle.coord_tables.specs.Stages.{AreStagesOf}
use Rattle.coord_tables.specs.Terms.{Terms, IsSound}
use Rattle.coord_tables.specs.Waiting.{waiting}

-- each attempt is known and carried out as the past says, and so are what was sent of it and which attempts are committed; the graph stands
-- for the tickets of these, and keeps nothing that could be dropped beside the tickets that wait
pub record IsServing (tables : Tables) (terms : Terms) (past : CoordPast) : Type 0 where
  pub known : (tid : Tid) → IsKnownAs terms.protocols past tid (standing terms.protocols past tid) (known_of tid tables.known)
  pub live : (tid : Tid) → IsLiveAs terms.protocols past tid (is_open past tid) (live_of tid tables.exec)
  pub stages : AreStagesOf terms.protocols past tables.stages.listed
  pub committed : (tx : Tx) → committed_in tables.committed.listed tx ≡ committed_of (records past) tx
  pub graph : StandsFor (commits (records past)) tables.graph
  pub pruned : AreHeld (waiting past) tables.graph

-- tables of no attempt
pub record AreEmpty (tables : Tables) : Type 0 where
  pub known : tables.known ≡ []
  pub exec : tables.exec ≡ []
  pub stages : tables.stages.listed ≡ []
  pub committed : (tx : Tx) → committed_in tables.committed.listed tx ≡ None
  pub graph : tables.graph.kept ≡ []

-- for some past that the tables are those of the fact holds
pub record SomeServed (tables : Tables) (P : Terms → CoordPast → Type 0) : Type 0 where
  pub terms : Terms
  pub past : CoordPast
  pub sound : IsSound terms past
  pub serving : IsServing tables terms past
  pub holds : P terms past

-- for every such past the fact holds
abbrev pub EachServed : Tables → (Terms → CoordPast → Type 0) → Type 0
EachServed tables P = (terms : Terms) (past : CoordPast) → IsSound terms past → IsServing tables terms past → P terms past
