-- What tables of no attempt stand for.
use Rattle.std.proofs.Common.{◌≡◌, ℕ, false, List, [], refl, sym, ap, subst}
use Rattle.fed_rules.specs.CoordPast.{Gone}
use Rattle.order_laws.specs.Chains.{In}
use Rattle.order_laws.specs.Tickets.{Ticketed}
use Rattle.global_exec.specs.Live.{Live, live_of}
use Rattle.protocol_table.specs.declared.known.Known.{Known}
use Rattle.protocol_table.specs.Agreement.{IsKnownAs}
use Rattle.protocol_table.specs.Attempts.{known_of}
use Rattle.ticket_graph.specs.Graph.{Graph, StandsFor}
use Rattle.coord_tables.specs.declared.stages.Stage.{Stage}
use Rattle.coord_tables.specs.declared.tables.Tables.{Tables}
use Rattle.coord_tables.specs.Attempts.{IsLiveAs}
use Rattle.coord_tables.specs.Stages.{AreStagesOf}
use Rattle.coord_tables.specs.Terms.{Terms}
use Rattle.coord_tables.specs.Tables.{AreEmpty, IsServing}

no_graph : (graph : Graph) → graph.kept ≡ [] → StandsFor [] graph
no_graph graph e = record {
  kept = λ a i. absurd (subst (λ (xs : List Ticketed). In a xs) e i);
  closed = λ a b s i j apart p. absurd j;
  below = λ b i apart. absurd i;
}

pub nothing_served : (tables : Tables) (terms : Terms) → AreEmpty tables → IsServing tables terms []
nothing_served tables terms e = record {
  known = λ tid. subst (λ (ks : List Known). IsKnownAs terms.protocols [] tid Gone (known_of tid ks)) (sym e.known) tt;
  live = λ tid. subst (λ (ls : List Live). IsLiveAs terms.protocols [] tid false (live_of tid ls)) (sym e.exec) tt;
  stages = subst (λ (ss : List Stage). AreStagesOf terms.protocols [] ss) (sym e.stages) (record { order = refl; each = tt });
  committed = e.committed;
  graph = no_graph tables.graph e.graph;
  pruned = λ a i. absurd (subst (λ (xs : List Ticketed). In a xs) e.graph i);
}
