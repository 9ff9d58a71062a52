use Rattle.std.proofs.Common.{None, sym, ◌∙◌, refl, subst, arith}
use Rattle.fed_rules.specs.declared.commands.Command.TheVariants as Cmd
use Rattle.fed_rules.specs.declared.events.SiteEvent.TheVariants as Ev
use Rattle.fed_rules.specs.Requests.{Submits}
use Rattle.local_dbms.specs.declared.dbms.LocalDbms.{LocalDbms}
use Rattle.local_dbms.specs.Stands.{Serves, Stands}
use Rattle.fed_hosts.specs.declared.site_actor.LineParts.{LineParts}
use Rattle.host_laws.specs.Turns.{past_of}
use Rattle.fed_hosts.proofs.Armed.{arms, as_many, unarmed, unarmed_full, unarmed_left, unarmed_set}
use Rattle.fed_hosts.proofs.site_actor.SiteActor.arm_next.Goals as goal
use Rattle.fed_hosts.proofs.site_actor.SiteActor.arm_next.Goals.{then-len-ge-MOST_LINES-via-then-len-ge-MOST_LINES, then-len-ge-MOST_LINES-via-else-len-ge-MOST_LINES+then-self-len}

pub returns-then-len-ge-MOST_LINES-clause-armed : goal.returns-then-len-ge-MOST_LINES-clause-armed
returns-then-len-ge-MOST_LINES-clause-armed g c tells seen plan turns logged some stops site stood =
    let stands = g.E.LocalEngine.stands in
    let old = c.args.self.now in
    elim c.then-len-ge-MOST_LINES.branch [
      | then-len-ge-MOST_LINES-via-then-len-ge-MOST_LINES w ↦
          unarmed stands tells seen plan turns old logged stood
          (unarmed_full stands tells seen plan turns old logged (omega (arith, old.lines.ok.0, c.len.ensures, w.if-len-ge-MOST_LINES.true)))
      | then-len-ge-MOST_LINES-via-else-len-ge-MOST_LINES+then-self-len w ↦
          unarmed stands tells seen plan turns old logged stood
          (unarmed_left stands tells seen plan turns old logged (omega (arith, old.stops.ok.0, w.len-else-len-ge-MOST_LINES.ensures, w.if-self-len.true)))
    ]

pub returns-then-is_armed-clause-armed : goal.returns-then-is_armed-clause-armed
returns-then-is_armed-clause-armed g c tells seen plan turns logged some stops site stood =
    let stands = g.E.LocalEngine.stands in
    let past = past_of plan turns in
    unarmed stands tells seen plan turns c.args.self.now logged stood
    (unarmed_set plan turns c.is_armed.result (c.is_armed.ensures plan.home past (c.core.ensures.stood tells seen plan.home plan.programs past stood).holds) c.if-is_armed.true)

pub returns-clause-armed : goal.returns-clause-armed
returns-clause-armed g c tells seen plan turns logged some stops site stood =
    let stands = g.E.LocalEngine.stands in
    let past = past_of plan turns in
    let old = c.args.self.now in
    let new = c.keep.new.self in
    let stop = c.stop_at-stop.result in
    let told : LineParts = record { command = Cmd.Trip stop.actor stop.calls stop.cut; answer = c.arm-answer.result; send = None; after = 0 } in
    let set = c.is_armed.ensures plan.home past (c.core.ensures.stood tells seen plan.home plan.programs past stood).holds in
    let same = as_many plan turns old logged in
    let a = c.keep.ensures.added in
    arms stands tells seen plan turns old new stop told logged some stops site
    (omega (arith, same, old.lines.ok.0, c.len.ensures, c.if-len-ge-MOST_LINES.false)) (omega (arith, old.stops.ok.0, c.len-else-len-ge-MOST_LINES.ensures, c.if-self-len.false)) c.stop_at-stop.ensures (sym set ∙ c.if-is_armed.false) refl
    (subst (λ (d : LocalDbms _). Serves (Stands stands tells d seen) c.arm-answer.result plan.home plan.programs past (Submits (Ev.Trip stop.calls stop.cut))) (sym c.keep.ensures.beside.dbms)
    (c.arm-answer.ensures tells seen plan.home plan.programs past stood))
    (record { lines = a.lines; sent = a.sent; offers = a.offers; last = a.last }) c.keep.ensures.beside.stops (omega (arith, c.keep.ensures.beside.armed))
