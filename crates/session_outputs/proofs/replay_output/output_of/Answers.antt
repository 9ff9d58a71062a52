use Rattle.std.proofs.Common.{◌++◌, List, [], map, reverse, inl, inr, refl, sym, ◌∙◌, subst}
use Rattle.std.proofs.lemmas.List.{length-map}
use Rattle.fed_rules.specs.declared.commands.Command.{Command}
use Rattle.fed_rules.specs.Plans.{IsScenario}
use Rattle.fed_rules.specs.Sessions.{fresh}
use Rattle.fed_world.specs.declared.errors.WorldErr.{WorldErr}
use Rattle.fed_world.specs.SettingUp.{FailsToStart}
use Rattle.fed_world.specs.Faults.{FailedAs}
use Rattle.fed_world.specs.FreshWorlds.{Stands}
use Rattle.fed_world.proofs.ForCallers.{failed_later, recalls}
use Rattle.closing.specs.FreshTowards.{FailsToward}
use Rattle.closing.proofs.ForCallers.{nine}
use Rattle.session_outputs.specs.Plays.{closed_with}
use Rattle.session_outputs.specs.Sessions.{commands_of}
use Rattle.outputs.proofs.ForCallers.{all_sized, whole_weaker}
use Rattle.session_outputs.proofs.Holding.{stands_hold_all, stands_hold_frames, starts_broken, starts_short}
use Rattle.session_outputs.proofs.OutputLemmas.{broken_output, front_before, no_lines, play_breaks, short_output, whole_output}
use Rattle.session_outputs.proofs.PlayLemmas.{can_play, front_heard, lines_fit, session_commands, session_heard}
use Rattle.session_outputs.proofs.Rights.{story_right}
use Rattle.session_outputs.proofs.Unrefused.{unrefused}
use Rattle.session_outputs.proofs.UsedDisks.{are_empty}
use Rattle.session_outputs.proofs.replay_output.output_of.Goals as goal

pub new-requires-clause-empty : goal.new-requires-clause-empty
new-requires-clause-empty g c = are_empty (map g.D.Disk.seen c.args.disks.now.items) c.requires.unused

pub returns-in-Err-Disk-clause-output : goal.returns-in-Err-Disk-clause-output
returns-in-Err-Disk-clause-output g c =
    let disk = g.D.Disk in
    let session = c.args.session in
    let old = map disk.seen c.args.disks.now.items in
    let new = map disk.seen c.new.new.disks.items in
    let sized = all_sized disk.seen (λ one. g.met.D.Disk.told_size one c.requires.told) c.new.new.disks.items in
    let breaks = starts_broken c.in-Err-Disk.number disk.tells old new session.scenario sized
    (subst (λ (why : WorldErr). FailedAs why old new) c.in-Err-Disk.field-0-is c.in-Err-Disk.ensures.cause)
    (subst (λ (why : WorldErr). FailsToStart disk.tells why new session.scenario) c.in-Err-Disk.field-0-is c.in-Err-Disk.ensures.failed) in
    broken_output disk.seen c.broken.result old new session c.in-Err-Disk.number [] [] (no_lines session.scenario) (λ conservative. tt) (inr (refl, breaks)) c.broken.ensures

pub returns-in-Err-Memory-clause-output : goal.returns-in-Err-Memory-clause-output
returns-in-Err-Memory-clause-output g c =
    let disk = g.D.Disk in
    let session = c.args.session in
    let old = map disk.seen c.args.disks.now.items in
    let new = map disk.seen c.new.new.disks.items in
    let sized = all_sized disk.seen (λ one. g.met.D.Disk.told_size one c.requires.told) c.new.new.disks.items in
    let calm = subst (λ (why : WorldErr). FailedAs why old new) c.in-Err-Memory.field-0-is c.in-Err-Memory.ensures.cause in
    inl (starts_short disk.tells old new session.scenario sized calm (subst (λ (why : WorldErr). FailsToStart disk.tells why new session.scenario) c.in-Err-Memory.field-0-is c.in-Err-Memory.ensures.failed))

pub play-requires-clause-stood : goal.play-requires-clause-stood
play-requires-clause-stood g c =
    let session = c.args.session in
    record {
      session = session.scenario;
      commands = [];
      stood = c.in-Ok.ensures.stands;
      holds = can_play session c.as_slice.result.now c.as_slice.ensures c.requires.commands;
    }

pub printed-output-requires : goal.printed-output-requires
printed-output-requires g c =
    let disk = g.D.Disk in
    let session = c.args.session in
    let whole : IsScenario session.scenario = c.scenario_is_whole.ensures in
    let same = session_commands session c.as_slice.result.now c.as_slice.ensures in
    let can = can_play session c.as_slice.result.now c.as_slice.ensures c.requires.commands in
    let stood = subst (λ (cs : List Command). Stands disk.tells c.play.new.world (map disk.seen c.play.new.disks.items) session.scenario cs) same (c.in-Ok-play.ensures.played session.scenario [] c.in-Ok.ensures.stands can) in
    record {
      session = session.scenario;
      commands = commands_of session;
      stood = recalls disk.tells c.play.new.world (map disk.seen c.play.new.disks.items) (fresh session.scenario) (commands_of session) stood;
      holds = record {
        whole = whole;
        heard = session_heard session whole c.requires.commands c.closing_is_heard.ensures;
        rests = c.closed_sessions_rest.ensures session.scenario (reverse session.commands) whole;
      };
    }

pub returns-in-Ok-play-clause-output : goal.returns-in-Ok-play-clause-output
returns-in-Ok-play-clause-output g c =
    let disk = g.D.Disk in
    let session = c.args.session in
    let old = map disk.seen c.args.disks.now.items in
    let new = map disk.seen c.play.new.disks.items in
    let whole : IsScenario session.scenario = c.scenario_is_whole.ensures in
    let sized = all_sized disk.seen (λ one. g.met.D.Disk.told_size one c.requires.told) c.play.new.disks.items in
    let same = session_commands session c.as_slice.result.now c.as_slice.ensures in
    let can = can_play session c.as_slice.result.now c.as_slice.ensures c.requires.commands in
    let stood = subst (λ (cs : List Command). Stands disk.tells c.play.new.world new session.scenario cs) same (c.in-Ok-play.ensures.played session.scenario [] c.in-Ok.ensures.stands can) in
    let right = story_right c.federation_is_serializable.ensures.headline c.commits_are_settled_at_rest.ensures session.scenario whole (commands_of session) (c.closed_sessions_rest.ensures session.scenario (reverse session.commands) whole) in
    whole_output disk.seen c.printed-output.result old new session (c.in-Ok-play.ensures.cause ∙ c.in-Ok.ensures.cause) right
    (stands_hold_frames disk.tells c.play.new.world new session.scenario (commands_of session) c.requires.told sized right.at_rest stood)
    (stands_hold_all disk.tells c.play.new.world new session.scenario (commands_of session) sized stood)
    (λ lines are. unrefused c.conservative_lines_refuse_none.ensures.all session.scenario whole (commands_of session) lines are)
    (whole_weaker c.printed-output.result _ _ (λ bytes each. each session.scenario (commands_of session) (recalls disk.tells c.play.new.world new (fresh session.scenario) (commands_of session) stood)) c.printed-output.ensures)

pub broken-output-requires : goal.broken-output-requires
broken-output-requires g c =
    let disk = g.D.Disk in
    let session = c.args.session in
    let new = map disk.seen c.play.new.disks.items in
    let whole : IsScenario session.scenario = c.scenario_is_whole.ensures in
    let same = session_commands session c.as_slice.result.now c.as_slice.ensures in
    let can = can_play session c.as_slice.result.now c.as_slice.ensures c.requires.commands in
    let b = subst (λ (why : WorldErr). FailsToward disk.seen disk.tells why (map disk.seen c.new.new.disks.items) c.play.new.world new (closed_with c.as_slice.result.now session.scenario []) session.scenario []) c.in-Err-Disk-play.field-0-is
    (c.in-Err-Disk-play.ensures.failed session.scenario [] c.in-Ok.ensures.stands can) in
    let front = front_before (commands_of session) b.command (b.done ++ []) (b.left, sym same ∙ b.of_whole) in
    lines_fit c.right_lines_fit.ensures session.scenario (b.done ++ []) c.lines.result.now whole
    (front_heard session.scenario.sites (commands_of session) (b.done ++ []) (session_heard session whole c.requires.commands c.closing_is_heard.ensures) front)
    (c.lines.ensures.fresh session.scenario (b.done ++ []) b.broken.has)

pub returns-in-Err-Disk-play-clause-output : goal.returns-in-Err-Disk-play-clause-output
returns-in-Err-Disk-play-clause-output g c =
    let disk = g.D.Disk in
    let session = c.args.session in
    let old = map disk.seen c.args.disks.now.items in
    let new = map disk.seen c.play.new.disks.items in
    let sized = all_sized disk.seen (λ one. g.met.D.Disk.told_size one c.requires.told) c.play.new.disks.items in
    let same = session_commands session c.as_slice.result.now c.as_slice.ensures in
    let can = can_play session c.as_slice.result.now c.as_slice.ensures c.requires.commands in
    let b = subst (λ (why : WorldErr). FailsToward disk.seen disk.tells why (map disk.seen c.new.new.disks.items) c.play.new.world new (closed_with c.as_slice.result.now session.scenario []) session.scenario []) c.in-Err-Disk-play.field-0-is
    (c.in-Err-Disk-play.ensures.failed session.scenario [] c.in-Ok.ensures.stands can) in
    broken_output disk.seen c.broken-output.result old new session c.in-Err-Disk-play.number (b.done ++ []) c.lines.result.now
    (c.lines.ensures.fresh session.scenario (b.done ++ []) b.broken.has)
    (unrefused c.conservative_lines_refuse_none.ensures.all session.scenario c.scenario_is_whole.ensures (b.done ++ []) c.lines.result.now (c.lines.ensures.fresh session.scenario (b.done ++ []) b.broken.has))
    (play_breaks disk.tells c.play.new.world old new session c.as_slice.result.now same sized disk.seen (λ one. g.met.D.Disk.told_size one c.requires.told) c.in-Err-Disk-play.number
    (map disk.seen c.new.new.disks.items) c.in-Ok.ensures.cause b)
    c.broken-output.ensures

pub returns-clause-output : goal.returns-clause-output
returns-clause-output g c =
    let disk = g.D.Disk in
    let session = c.args.session in
    let old = map disk.seen c.args.disks.now.items in
    let new = map disk.seen c.play.new.disks.items in
    let sized = all_sized disk.seen (λ one. g.met.D.Disk.told_size one c.requires.told) c.play.new.disks.items in
    let same = session_commands session c.as_slice.result.now c.as_slice.ensures in
    let can = can_play session c.as_slice.result.now c.as_slice.ensures c.requires.commands in
    let calm = subst (λ (why : WorldErr). FailedAs why old new) c.in-Err-Memory-play.field-0-is
    (failed_later c.in-Err-Memory-play.field-0 old (map disk.seen c.new.new.disks.items) new c.in-Ok.ensures.cause c.in-Err-Memory-play.ensures.cause) in
    short_output disk.tells c.play.new.world old new session c.as_slice.result.now same sized disk.seen calm
    (subst (λ (why : WorldErr). FailsToward disk.seen disk.tells why (map disk.seen c.new.new.disks.items) c.play.new.world new (closed_with c.as_slice.result.now session.scenario []) session.scenario []) c.in-Err-Memory-play.field-0-is
    (c.in-Err-Memory-play.ensures.failed session.scenario [] c.in-Ok.ensures.stands can))

pub returns-in-Err-Disk-clause-nine : goal.returns-in-Err-Disk-clause-nine
returns-in-Err-Disk-clause-nine g c = c.new.ensures.count

pub returns-in-Err-Memory-clause-nine : goal.returns-in-Err-Memory-clause-nine
returns-in-Err-Memory-clause-nine g c = c.new.ensures.count

pub returns-in-Ok-play-clause-nine : goal.returns-in-Ok-play-clause-nine
returns-in-Ok-play-clause-nine g c =
    let session = c.args.session in
    let can = can_play session c.as_slice.result.now c.as_slice.ensures c.requires.commands in
    sym (length-map c.play.new.disks.items g.D.Disk.seen) ∙ nine _ _ _ _ _ (c.in-Ok-play.ensures.played session.scenario [] c.in-Ok.ensures.stands can)

pub returns-in-Err-Disk-play-clause-nine : goal.returns-in-Err-Disk-play-clause-nine
returns-in-Err-Disk-play-clause-nine g c =
    let disk = g.D.Disk in
    let session = c.args.session in
    let new = map disk.seen c.play.new.disks.items in
    let can = can_play session c.as_slice.result.now c.as_slice.ensures c.requires.commands in
    let b = subst (λ (why : WorldErr). FailsToward disk.seen disk.tells why (map disk.seen c.new.new.disks.items) c.play.new.world new (closed_with c.as_slice.result.now session.scenario []) session.scenario []) c.in-Err-Disk-play.field-0-is
    (c.in-Err-Disk-play.ensures.failed session.scenario [] c.in-Ok.ensures.stands can) in
    sym (length-map c.play.new.disks.items disk.seen) ∙ b.broken.others.nine

pub returns-clause-nine : goal.returns-clause-nine
returns-clause-nine g c =
    let disk = g.D.Disk in
    let session = c.args.session in
    let new = map disk.seen c.play.new.disks.items in
    let can = can_play session c.as_slice.result.now c.as_slice.ensures c.requires.commands in
    let s = subst (λ (why : WorldErr). FailsToward disk.seen disk.tells why (map disk.seen c.new.new.disks.items) c.play.new.world new (closed_with c.as_slice.result.now session.scenario []) session.scenario []) c.in-Err-Memory-play.field-0-is
    (c.in-Err-Memory-play.ensures.failed session.scenario [] c.in-Ok.ensures.stands can) in
    sym (length-map c.play.new.disks.items disk.seen) ∙ nine _ _ _ _ _ s.stood
