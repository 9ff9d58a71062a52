use Rattle.std.proofs.Common.{map, subst}
use Rattle.fed_rules.specs.declared.scenario.Scenario.{Scenario}
use Rattle.session_outputs.specs.declared.threaded.Ended.{Ended}
use Rattle.session_outputs.specs.Ends.{ComesToEnd}
use Rattle.session_outputs.specs.Makes.{made_scenario}
use Rattle.outputs.proofs.ForCallers.{all_sized}
use Rattle.session_outputs.proofs.MakeLemmas.{made_broken, made_output, made_stopped}
use Rattle.session_outputs.proofs.UsedDisks.{are_empty}
use Rattle.session_outputs.proofs.made_output.made_output_of.Goals as goal

pub run_to_end-requires-clause-empty : goal.run_to_end-requires-clause-empty
run_to_end-requires-clause-empty g c κs lives = are_empty (map g.D.Disk.seen c.args.disks.now.items) c.requires.unused

pub returns-in-Ok-Done-clause-output : goal.returns-in-Ok-Done-clause-output
returns-in-Ok-Done-clause-output g c =
    let disk = g.D.Disk in
    let old = map disk.seen c.args.disks.now.items in
    let new = map disk.seen c.run_to_end.new.disks.items in
    let asked = c.args.making in
    let sized = all_sized disk.seen (λ one. (g.met.D.Disk g.world.𝓛 g.world.𝓜 g.world.𝓡 (λ s ok. ok, λ p. p, λ f. f, λ q. q)).told_size one c.requires.told) c.run_to_end.new.disks.items in
    let made = subst (λ (scenario : Scenario). ComesToEnd disk.seen disk.tells old new scenario c.in-Ok-Done.field-0) c.in_ok-scenario.ensures c.in-Ok-Done.ensures.ended in
    let e = subst (λ (ended : Ended). ComesToEnd disk.seen disk.tells old new (made_scenario asked) ended) c.in-Ok-Done.field-0-is made in
    made_output disk.seen disk.tells old new asked c.federation_is_serializable.ensures.headline c.commits_are_settled_at_rest.ensures c.made_lines_are_fixed.ensures
    c.unchecked_journals_are_whole.ensures.ends c.requires.makeable c.requires.told sized c.in-Ok-Done.world e c.summary.result c.summary.ensures

pub returns-in-Ok-Stopped-clause-output : goal.returns-in-Ok-Stopped-clause-output
returns-in-Ok-Stopped-clause-output g c =
    let disk = g.D.Disk in
    let old = map disk.seen c.args.disks.now.items in
    let new = map disk.seen c.run_to_end.new.disks.items in
    let asked = c.args.making in
    let sized = all_sized disk.seen (λ one. (g.met.D.Disk g.world.𝓛 g.world.𝓜 g.world.𝓡 (λ s ok. ok, λ p. p, λ f. f, λ q. q)).told_size one c.requires.told) c.run_to_end.new.disks.items in
    let made = subst (λ (scenario : Scenario). ComesToEnd disk.seen disk.tells old new scenario c.in-Ok-Stopped.field-0) c.in_ok-scenario.ensures c.in-Ok-Stopped.ensures.ended in
    let s = subst (λ (ended : Ended). ComesToEnd disk.seen disk.tells old new (made_scenario asked) ended) c.in-Ok-Stopped.field-0-is made in
    made_stopped disk.seen disk.tells old new asked sized c.in-Ok-Stopped.number _ s c.broken.result c.broken.ensures

pub returns-in-Ok-Broken-clause-output : goal.returns-in-Ok-Broken-clause-output
returns-in-Ok-Broken-clause-output g c =
    let disk = g.D.Disk in
    let old = map disk.seen c.args.disks.now.items in
    let new = map disk.seen c.run_to_end.new.disks.items in
    let asked = c.args.making in
    let sized = all_sized disk.seen (λ one. (g.met.D.Disk g.world.𝓛 g.world.𝓜 g.world.𝓡 (λ s ok. ok, λ p. p, λ f. f, λ q. q)).told_size one c.requires.told) c.run_to_end.new.disks.items in
    let made = subst (λ (scenario : Scenario). ComesToEnd disk.seen disk.tells old new scenario c.in-Ok-Broken.field-0) c.in_ok-scenario.ensures c.in-Ok-Broken.ensures.ended in
    let b = subst (λ (ended : Ended). ComesToEnd disk.seen disk.tells old new (made_scenario asked) ended) c.in-Ok-Broken.field-0-is made in
    made_broken disk.seen disk.tells old new asked sized c.in-Ok-Broken.number (λ one. (g.met.D.Disk g.world.𝓛 g.world.𝓜 g.world.𝓡 (λ s ok. ok, λ p. p, λ f. f, λ q. q)).told_size one c.requires.told) _ b c.broken-in-Ok-Broken.result c.broken-in-Ok-Broken.ensures
