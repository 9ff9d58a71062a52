use Rattle.std.proofs.Common.{List, ◌∷◌, map, refl, sym, ap, subst, ◌∙◌}
use Rattle.mdb_base.proofs.ForCallers.{map_ok, map_on_err}
use Rattle.order_laws.specs.Tickets.{HasNoCycle, OneEach, Ticketed}
use Rattle.fed_rules.specs.CoordPast.{records}
use Rattle.fed_rules.specs.CoordRecords.{commits}
use Rattle.fed_rules.specs.declared.sums.CoordSum.{CoordSum}
use Rattle.ticket_graph.specs.Graph.{Graph, StandsFor}
use Rattle.coord_core.specs.declared.coord.CoordCore.{CoordCore}
use Rattle.coord_tables.specs.Starting.{ticketed_by}
use Rattle.coord_core.proofs.Checks.{sum_is}
use Rattle.coord_core.proofs.Starts.{commits_free, fresh_apart, graph_stands}
use Rattle.coord_tables.proofs.ForCallers.{not_kept}
use Rattle.coord_core.proofs.Still.{serves}
use Rattle.coord_core.proofs.coord.CoordCore.try_tickets.Goals as goal

pub try_add-requires-clause-new : goal.try_add-requires-clause-new
try_add-requires-clause-new g c =
    let m = c.requires.may in
    let s = serves g.P.TakePolicy.policy g.D.Disk.tells c.args.self.now m.terms m.past m.stood.holds c.requires.up in
    not_kept c.args.tid (commits (records m.past)) c.args.self.now.tables.graph m.holds.0 s.graph

pub try_add-requires-clause-above : goal.try_add-requires-clause-above
try_add-requires-clause-above g c = c.is_above.ensures c.if-is_above.true

pub returns-then-is_above : goal.returns-then-is_above
returns-then-is_above g c =
    let old : CoordCore g.row.P.Denot = c.args.self.now in
    record {
      verdict = map_ok _ _ c.try_add.result c.try_add.ensures.over_all (λ verdict over terms past k fresh.
          over (commits (records past)) (serves g.P.TakePolicy.policy g.D.Disk.tells old terms past k.holds c.requires.up).graph fresh);
      stands = map_ok _ _ c.try_add.result c.try_add.ensures.stands (λ verdict stands terms past k fresh.
          stands (commits (records past)) (serves g.P.TakePolicy.policy g.D.Disk.tells old terms past k.holds c.requires.up).graph);
      refused = c.try_add.ensures.refused;
      others = refl;
      memory = map_on_err _ _ c.try_add.result c.try_add.ensures.memory (λ same. ap (λ (h : Graph). record old { tables = record old.tables { graph = h } }) same);
    }

pub try_anew-requires-clause-apart : goal.try_anew-requires-clause-apart
try_anew-requires-clause-apart g c =
    let m = c.requires.may in
    let is = sum_is g.P.TakePolicy.policy c.args.self.now m.terms m.past c.records.result.now c.in_ok-sum.sum m.stood.holds c.records.ensures c.in_ok-sum.ensures in
    subst (λ (ts : List Ticketed). OneEach (record { tid = c.args.tid; tickets = c.args.tickets.now } ∷ ts)) (sym (c.in_ok-commits.ensures ∙ ap (λ (s : CoordSum). map ticketed_by s.committed) is))
    (fresh_apart m.terms m.past m.stood.holds.sound m.stood.stored.behind.written c.args.tid c.args.tickets.now m.holds)

pub try_anew-requires-clause-no_cycle : goal.try_anew-requires-clause-no_cycle
try_anew-requires-clause-no_cycle g c =
    let m = c.requires.may in
    let is = sum_is g.P.TakePolicy.policy c.args.self.now m.terms m.past c.records.result.now c.in_ok-sum.sum m.stood.holds c.records.ensures c.in_ok-sum.ensures in
    subst (λ (ts : List Ticketed). HasNoCycle ts) (sym (c.in_ok-commits.ensures ∙ ap (λ (s : CoordSum). map ticketed_by s.committed) is)) (commits_free m.terms m.past m.stood.holds.sound m.stood.stored.behind.written)

pub returns : goal.returns
returns g c =
    let old : CoordCore g.row.P.Denot = c.args.self.now in
    record {
      verdict = map_ok _ _ c.try_anew.result c.try_anew.ensures.over_all (λ verdict over terms past k fresh.
          let is = sum_is g.P.TakePolicy.policy old terms past c.records.result.now c.in_ok-sum.sum k.holds c.records.ensures c.in_ok-sum.ensures in
          let commits_are = c.in_ok-commits.ensures ∙ ap (λ (s : CoordSum). map ticketed_by s.committed) is in
          over (commits (records past)) (λ graph st. graph_stands terms past k.holds.sound k.stored.behind.written graph (subst (λ (ts : List Ticketed). StandsFor ts graph) commits_are st)) fresh);
      stands = map_ok _ _ c.try_anew.result c.try_anew.ensures.stands (λ verdict stands terms past k fresh.
          let is = sum_is g.P.TakePolicy.policy old terms past c.records.result.now c.in_ok-sum.sum k.holds c.records.ensures c.in_ok-sum.ensures in
          let commits_are = c.in_ok-commits.ensures ∙ ap (λ (s : CoordSum). map ticketed_by s.committed) is in
          stands (commits (records past)) (λ graph st. graph_stands terms past k.holds.sound k.stored.behind.written graph (subst (λ (ts : List Ticketed). StandsFor ts graph) commits_are st))
          (serves g.P.TakePolicy.policy g.D.Disk.tells old terms past k.holds c.requires.up).graph);
      refused = c.try_anew.ensures.refused;
      others = refl;
      memory = map_on_err _ _ c.try_anew.result c.try_anew.ensures.memory (λ same. ap (λ (h : Graph). record old { tables = record old.tables { graph = h } }) same);
    }
