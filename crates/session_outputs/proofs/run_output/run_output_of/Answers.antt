use Rattle.std.proofs.Common.{List, map, sym, subst}
use Rattle.fed_rules.specs.declared.commands.Line.{Line}
use Rattle.fed_rules.specs.Sessions.{fresh}
use Rattle.host_laws.specs.Merged.{commands_of}
use Rattle.fed_world.proofs.ForCallers.{recalls}
use Rattle.session_outputs.specs.declared.threaded.Ended.{Ended}
use Rattle.session_outputs.specs.Ends.{ComesToEnd}
use Rattle.session_outputs.specs.Runs.{host_commands, run_commands}
use Rattle.outputs.proofs.ForCallers.{all_sized, whole_weaker}
use Rattle.session_outputs.proofs.RunLemmas.{Stops, before, ended_output, ended_printable, failed_output, off_breaks, off_fit, stopped_breaks, stopped_fit, stopped_lines}
use Rattle.session_outputs.proofs.UsedDisks.{are_empty}
use Rattle.session_outputs.proofs.run_output.run_output_of.Goals as goal

pub run_to_end-requires-clause-empty : goal.run_to_end-requires-clause-empty
run_to_end-requires-clause-empty g c κs lives = are_empty (map g.D.Disk.seen c.args.disks.now.items) c.requires.unused

pub printed-requires : goal.printed-requires
printed-requires g c =
    let disk = g.D.Disk in
    let old = map disk.seen c.args.disks.now.items in
    let new = map disk.seen c.run_to_end.new.disks.items in
    let scenario = c.args.scenario in
    let world = c.in-Ok-Done.world in
    let e = subst (λ (ended : Ended). ComesToEnd disk.seen disk.tells old new scenario ended) c.in-Ok-Done.field-0-is c.in-Ok-Done.ensures.ended in
    let commands = run_commands scenario (host_commands e.merged) in
    record {
      session = scenario;
      commands = commands;
      stood = recalls disk.tells world new (fresh scenario) commands e.stands;
      holds = ended_printable disk.tells old new scenario c.closing_is_heard.ensures c.ends_add_their_own.ensures.finishing world e;
    }

pub returns-in-Ok-Done-clause-output : goal.returns-in-Ok-Done-clause-output
returns-in-Ok-Done-clause-output g c =
    let disk = g.D.Disk in
    let old = map disk.seen c.args.disks.now.items in
    let new = map disk.seen c.run_to_end.new.disks.items in
    let scenario = c.args.scenario in
    let world = c.in-Ok-Done.world in
    let e = subst (λ (ended : Ended). ComesToEnd disk.seen disk.tells old new scenario ended) c.in-Ok-Done.field-0-is c.in-Ok-Done.ensures.ended in
    let commands = run_commands scenario (host_commands e.merged) in
    let sized = all_sized disk.seen (λ one. (g.met.D.Disk g.world.𝓛 g.world.𝓜 g.world.𝓡 (λ s ok. ok, λ p. p, λ f. f, λ q. q)).told_size one c.requires.told) c.run_to_end.new.disks.items in
    ended_output disk.seen disk.tells old new scenario c.federation_is_serializable.ensures.headline c.commits_are_settled_at_rest.ensures c.conservative_lines_refuse_none.ensures.all
    c.closing_adds_nothing.ensures c.commands_give_again.ensures c.requires.told sized world e c.printed.result
    (whole_weaker c.printed.result _ _ (λ bytes each. each scenario commands (recalls disk.tells world new (fresh scenario) commands e.stands)) c.printed.ensures)

pub broken-requires : goal.broken-requires
broken-requires g c =
    let disk = g.D.Disk in
    let old = map disk.seen c.args.disks.now.items in
    let new = map disk.seen c.run_to_end.new.disks.items in
    let s = subst (λ (ended : Ended). ComesToEnd disk.seen disk.tells old new c.args.scenario ended) c.in-Ok-Stopped.field-0-is c.in-Ok-Stopped.ensures.ended in
    let stops = subst (λ (lines : List Line). Stops disk.tells old new c.args.scenario c.in-Ok-Stopped.number lines) (sym c.as_slice.ensures) s in
    stopped_fit disk.tells old new c.args.scenario c.right_lines_fit.ensures c.in-Ok-Stopped.number c.as_slice.result.now stops

pub returns-in-Ok-Stopped-clause-output : goal.returns-in-Ok-Stopped-clause-output
returns-in-Ok-Stopped-clause-output g c =
    let disk = g.D.Disk in
    let old = map disk.seen c.args.disks.now.items in
    let new = map disk.seen c.run_to_end.new.disks.items in
    let scenario = c.args.scenario in
    let number = c.in-Ok-Stopped.number in
    let lines = c.as_slice.result.now in
    let sized = all_sized disk.seen (λ one. (g.met.D.Disk g.world.𝓛 g.world.𝓜 g.world.𝓡 (λ s ok. ok, λ p. p, λ f. f, λ q. q)).told_size one c.requires.told) c.run_to_end.new.disks.items in
    let s = subst (λ (ended : Ended). ComesToEnd disk.seen disk.tells old new scenario ended) c.in-Ok-Stopped.field-0-is c.in-Ok-Stopped.ensures.ended in
    let stops = subst (λ (ls : List Line). Stops disk.tells old new scenario number ls) (sym c.as_slice.ensures) s in
    failed_output disk.seen disk.tells old new scenario c.conservative_lines_refuse_none.ensures.all c.scenario_is_whole.ensures number (commands_of lines) lines (stopped_lines disk.tells old new scenario number lines stops) (stopped_breaks disk.seen disk.tells old new scenario sized number lines stops)
    c.broken.result c.broken.ensures

pub broken-requires-in-Ok-Broken : goal.broken-requires-in-Ok-Broken
broken-requires-in-Ok-Broken g c =
    let disk = g.D.Disk in
    let old = map disk.seen c.args.disks.now.items in
    let new = map disk.seen c.run_to_end.new.disks.items in
    let scenario = c.args.scenario in
    let number = c.in-Ok-Broken.number in
    let world = c.in-Ok-Broken.world in
    let b = subst (λ (ended : Ended). ComesToEnd disk.seen disk.tells old new scenario ended) c.in-Ok-Broken.field-0-is c.in-Ok-Broken.ensures.ended in
    off_fit disk.seen disk.tells old new scenario number world b c.right_lines_fit.ensures c.closing_is_heard.ensures c.ends_add_their_own.ensures.finishing c.lines-in-Ok-Broken.result.now
    (c.lines-in-Ok-Broken.ensures.fresh scenario (before disk.seen disk.tells old new scenario number world b) b.breaks.broken.has)

pub returns-in-Ok-Broken-clause-output : goal.returns-in-Ok-Broken-clause-output
returns-in-Ok-Broken-clause-output g c =
    let disk = g.D.Disk in
    let old = map disk.seen c.args.disks.now.items in
    let new = map disk.seen c.run_to_end.new.disks.items in
    let scenario = c.args.scenario in
    let number = c.in-Ok-Broken.number in
    let world = c.in-Ok-Broken.world in
    let lines = c.lines-in-Ok-Broken.result.now in
    let sized = all_sized disk.seen (λ one. (g.met.D.Disk g.world.𝓛 g.world.𝓜 g.world.𝓡 (λ s ok. ok, λ p. p, λ f. f, λ q. q)).told_size one c.requires.told) c.run_to_end.new.disks.items in
    let b = subst (λ (ended : Ended). ComesToEnd disk.seen disk.tells old new scenario ended) c.in-Ok-Broken.field-0-is c.in-Ok-Broken.ensures.ended in
    let done = before disk.seen disk.tells old new scenario number world b in
    failed_output disk.seen disk.tells old new scenario c.conservative_lines_refuse_none.ensures.all c.scenario_is_whole.ensures number done lines (c.lines-in-Ok-Broken.ensures.fresh scenario done b.breaks.broken.has) (off_breaks disk.seen disk.tells old new scenario number world b (λ one. (g.met.D.Disk g.world.𝓛 g.world.𝓜 g.world.𝓡 (λ s ok. ok, λ p. p, λ f. f, λ q. q)).told_size one c.requires.told) sized lines)
    c.broken-in-Ok-Broken.result c.broken-in-Ok-Broken.ensures
