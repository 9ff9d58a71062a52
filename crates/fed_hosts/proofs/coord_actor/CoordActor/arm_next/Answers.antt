use Rattle.std.proofs.Common.{sym, ◌∙◌, [], refl, subst, arith}
use Rattle.fed_rules.specs.declared.commands.Command.TheVariants as Cmd
use Rattle.fed_rules.specs.declared.events.CoordEvent.TheVariants as Ev
use Rattle.global_manager.specs.declared.manager.GlobalManager.{GlobalManager}
use Rattle.global_manager.specs.Stands.{Sends, Stands}
use Rattle.fed_hosts.specs.declared.coord_actor.CoordLineParts.{CoordLineParts}
use Rattle.host_laws.specs.CoordTurns.{coord_past_of}
use Rattle.fed_hosts.proofs.CoordArmed.{coord_arms, coord_as_many, coord_unarmed, coord_unarmed_full, coord_unarmed_left, coord_unarmed_set, noted_added}
use Rattle.fed_hosts.proofs.coord_actor.CoordActor.arm_next.Goals as goal
use Rattle.fed_hosts.proofs.coord_actor.CoordActor.arm_next.Goals.{then-len-ge-MOST_LINES-via-then-len-ge-MOST_LINES, then-len-ge-MOST_LINES-via-else-len-ge-MOST_LINES+then-self-len}

pub returns-then-len-ge-MOST_LINES-clause-armed : goal.returns-then-len-ge-MOST_LINES-clause-armed
returns-then-len-ge-MOST_LINES-clause-armed g c tells seen rings plan turns logged some planned stood =
    let test = g.P.TakePolicy.policy in
    let old = c.args.self.now in
    elim c.then-len-ge-MOST_LINES.branch [
      | then-len-ge-MOST_LINES-via-then-len-ge-MOST_LINES w ↦
          coord_unarmed test tells seen plan turns old logged stood
          (coord_unarmed_full test tells seen plan turns old logged (omega (arith, old.lines.ok.0, c.len.ensures, w.if-len-ge-MOST_LINES.true)))
      | then-len-ge-MOST_LINES-via-else-len-ge-MOST_LINES+then-self-len w ↦
          coord_unarmed test tells seen plan turns old logged stood
          (coord_unarmed_left test tells seen plan turns old logged (omega (arith, old.stops.ok.0, w.len-else-len-ge-MOST_LINES.ensures, w.if-self-len.true)))
    ]

pub returns-then-is_armed-clause-armed : goal.returns-then-is_armed-clause-armed
returns-then-is_armed-clause-armed g c tells seen rings plan turns logged some planned stood =
    let past = coord_past_of plan turns in
    coord_unarmed g.P.TakePolicy.policy tells seen plan turns c.args.self.now logged stood
    (coord_unarmed_set plan turns c.is_armed.result (c.is_armed.ensures plan.terms past (c.core.ensures.stood tells seen plan.terms plan.programs past stood).holds) c.if-is_armed.true)

pub returns-clause-armed : goal.returns-clause-armed
returns-clause-armed g c tells seen rings plan turns logged some planned stood =
    let test = g.P.TakePolicy.policy in
    let past = coord_past_of plan turns in
    let old = c.args.self.now in
    let new = c.note.new.self in
    let stop = c.stop_at-stop.result in
    let told : CoordLineParts = record { command = Cmd.Trip stop.actor stop.calls stop.cut; answer = c.arm-answer.result; sends = []; after = 0 } in
    let set = c.is_armed.ensures plan.terms past (c.core.ensures.stood tells seen plan.terms plan.programs past stood).holds in
    let same = coord_as_many plan turns old logged in
    coord_arms test tells seen plan turns rings old new stop told logged some planned
    (omega (arith, same, old.lines.ok.0, c.len.ensures, c.if-len-ge-MOST_LINES.false)) (omega (arith, old.stops.ok.0, c.len-else-len-ge-MOST_LINES.ensures, c.if-self-len.false)) c.stop_at-stop.ensures (sym set ∙ c.if-is_armed.false) refl
    (subst (λ (m : GlobalManager _). Sends (Stands test tells m seen) (record { answer = c.arm-answer.result; sends = [] }) plan.terms plan.programs past (Ev.Trip stop.calls stop.cut)) (sym c.note.ensures.beside.manager)
    (c.arm-answer.ensures tells seen plan.terms plan.programs past stood))
    (noted_added old new told refl refl c.note.ensures.lines c.note.ensures.ports c.note.ensures.last) c.note.ensures.beside.stops (omega (arith, c.note.ensures.beside.armed))
