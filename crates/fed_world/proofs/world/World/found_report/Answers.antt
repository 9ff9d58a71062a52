use Rattle.std.proofs.Common.{◌≡◌, map, sym, ◌∙◌, ap}
use Rattle.mdb_base.specs.Words.{those}
use Rattle.fed_rules.specs.declared.scenario.Scenario.{Scenario}
use Rattle.fed_rules.specs.Reports.{is_forgotten, tables as tables_in}
use Rattle.fed_rules.specs.Resumed.{begun as begun_in, plan_of}
use Rattle.fed_rules.specs.Sessions.{Session}
use Rattle.fed_rules.specs.Story.{story_in}
use Rattle.fed_world.specs.Reporting.{outcome_at}
use Rattle.fed_world.proofs.Reports.{all_forgotten}
use Rattle.fed_world.proofs.world.World.found_report.Goals as goal

pub returns : goal.returns
returns c = λ session commands k rests same goes.
    let story = story_in session commands in
    let sound = k.actors.coordinator.core.sound in
    let plan : session.plan ≡ plan_of session.found = ap (λ (s : Session). s.plan) goes.is in
    let order = c.of.ensures ∙ c.new.ensures.items in
    let reads = c.of-2.ensures ∙ c.new-2.ensures.items in
    let outcomes = c.of-3.ensures ∙ (c.in_ok-outcomes.ensures session commands k rests ∙ ap (map (outcome_at story)) same) in
    let forgotten = c.of-4.ensures ∙ (c.in_ok-forgotten.ensures.items ∙ (same ∙ (sym (all_forgotten session commands sound rests (begun_in session.found)) ∙ ap (λ (p : Scenario). those (is_forgotten p story) (begun_in session.found)) plan))) in
    let tables = c.of-5.ensures ∙ (c.in_ok-tables.ensures session commands k rests ∙ ap (λ (p : Scenario). tables_in p story) plan) in
    λ i. record { order = order i; reads = reads i; outcomes = outcomes i; forgotten = forgotten i; tables = tables i }
