use Rattle.std.proofs.Common.{◌≡◌, Err, sym, ◌∙◌, subst, arith}
use Rattle.client_drivers.specs.Calls.{Notes}
use Rattle.client_drivers.specs.Driving.{IsDriven}
use Rattle.client_drivers.specs.Table.{local_turn}
use Rattle.client_drivers.specs.SiteCalls.{command_of}
use Rattle.client_drivers.proofs.Driving.{handed_on}
use Rattle.client_drivers.proofs.LocalSteps.{local_goes_on, local_ends, local_fails}
use Rattle.client_drivers.proofs.local.drive_local.Goals as goal

pub returns-in_err-answer-clause-driven : goal.returns-in_err-answer-clause-driven
returns-in_err-answer-clause-driven g c =
    let notes = subst (Notes g.S.SiteDoor.tells c.loop-made.door c.call_door.new.door (command_of c.args.tx c.loop-made.call)) c.in_err-answer.was c.call_door.ensures in
    let same : c.from_residual.result ≡ Err c.in_err-answer.field-0.0 = handed_on c.from_residual.result c.in_err-answer.field-0.0 c.from_residual.ensures in
    subst (IsDriven g.S.SiteDoor.tells (local_turn c.args.tries c.args.turns c.args.tx) c.args.door.now c.call_door.new.door) (sym same)
    (local_fails g.S.SiteDoor.tells c.args.tries c.args.turns c.args.tx c.args.door.now c.loop-made.door c.call_door.new.door c.loop-made.call c.in_err-answer.field-0.0 c.loop-made.waits
    c.loop-made.made c.loop-made.invariant (omega arith) notes)

pub returns-in-Some-clause-driven : goal.returns-in-Some-clause-driven
returns-in-Some-clause-driven g c =
    let notes = subst (Notes g.S.SiteDoor.tells c.loop-made.door c.call_door.new.door (command_of c.args.tx c.loop-made.call)) c.in_ok-answer.was c.call_door.ensures in
    local_ends g.S.SiteDoor.tells c.args.tries c.args.turns c.args.tx c.args.door.now c.loop-made.door c.call_door.new.door c.loop-made.call c.in_ok-answer.answer c.loop-made.waits c.loop-made.made
    c.in-Some.committed c.loop-made.invariant (omega arith) notes (sym c.end_of.ensures ∙ c.in-Some.is)

pub loop-made-preserved : goal.loop-made-preserved
loop-made-preserved g c =
    let notes = subst (Notes g.S.SiteDoor.tells c.loop-made.door c.call_door.new.door (command_of c.args.tx c.loop-made.call)) c.in_ok-answer.was c.call_door.ensures in
    local_goes_on g.S.SiteDoor.tells c.args.tries c.args.turns c.args.tx c.args.door.now c.loop-made.door c.call_door.new.door c.loop-made.call c.next_call-call.result c.in_ok-answer.answer c.loop-made.waits
    c.waits_with-waits.result c.loop-made.made c.loop-made.invariant (omega arith) notes (sym c.end_of.ensures ∙ c.in_default.is) c.waits_with-waits.ensures (c.next_call-call.ensures c.args.tx)
