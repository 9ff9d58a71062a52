use Rattle.std.proofs.Common.{ℕ, List, length, ◌≡◌, Err, sym, ◌∙◌, ap, subst, arith}
use Rattle.client_drivers.specs.Calls.{Notes}
use Rattle.client_drivers.specs.Driving.{IsDriven}
use Rattle.client_drivers.specs.Table.{global_turn}
use Rattle.client_drivers.specs.CoordCalls.{command_of}
use Rattle.client_drivers.proofs.Driving.{handed_on}
use Rattle.client_drivers.proofs.GlobalSteps.{few_agains, counted_length, global_starts, global_goes_on, global_ends, global_fails}
use Rattle.client_drivers.proofs.global.drive_global.Goals as goal

pub returns-in_err-answer-clause-driven : goal.returns-in_err-answer-clause-driven
returns-in_err-answer-clause-driven g c =
    let notes = subst (Notes g.C.CoordDoor.tells c.loop-made.door c.call_door.new.door (command_of c.args.tx c.loop-made.call)) c.in_err-answer.was c.call_door.ensures in
    let same : c.from_residual.result ≡ Err c.in_err-answer.field-0.0 = handed_on c.from_residual.result c.in_err-answer.field-0.0 c.from_residual.ensures in
    subst (IsDriven g.C.CoordDoor.tells (global_turn c.args.tries c.args.turns c.args.tx) c.args.door.now c.call_door.new.door) (sym same)
    (global_fails g.C.CoordDoor.tells c.args.tries c.args.turns c.args.tx c.args.door.now c.loop-made.door c.call_door.new.door c.loop-made.call c.in_err-answer.field-0.0 c.loop-made.agains
    c.loop-made.made c.loop-made.invariant (omega arith) notes)

pub returns-in-Some-clause-driven : goal.returns-in-Some-clause-driven
returns-in-Some-clause-driven g c =
    let notes = subst (Notes g.C.CoordDoor.tells c.loop-made.door c.call_door.new.door (command_of c.args.tx c.loop-made.call)) c.in_ok-answer.was c.call_door.ensures in
    global_ends g.C.CoordDoor.tells c.args.tries c.args.turns c.args.tx c.args.door.now c.loop-made.door c.call_door.new.door c.loop-made.call c.in_ok-answer.answer c.loop-made.agains c.loop-made.made
    c.in-Some.committed c.loop-made.invariant (omega arith) notes (sym c.end_of.ensures ∙ c.in-Some.is)

pub loop-made-preserved : goal.loop-made-preserved
loop-made-preserved g c =
    let notes = subst (Notes g.C.CoordDoor.tells c.loop-made.door c.call_door.new.door (command_of c.args.tx c.loop-made.call)) c.in_ok-answer.was c.call_door.ensures in
    let long : length c.loop-made.agains ≡ 256 = sym (counted_length c.loop-made.call c.loop-made.agains) ∙ (ap (λ (xs : List ℕ). length xs) (sym c.count_again.ensures.counts) ∙ c.count_again.array_long) in
    global_goes_on g.C.CoordDoor.tells c.args.tries c.args.turns c.args.tx c.args.door.now c.loop-made.door c.call_door.new.door c.loop-made.call c.next_call-call.result c.in_ok-answer.answer c.loop-made.agains
    c.count_again.new.agains c.loop-made.made c.loop-made.invariant long c.count_again.ensures.number (omega arith) notes (sym c.end_of.ensures ∙ c.in_default.is) c.count_again.ensures.counts c.next_call-call.ensures

pub loop-made-init : goal.loop-made-init
loop-made-init g c = global_starts g.C.CoordDoor.tells c.args.tries c.args.turns c.args.tx c.args.door.now 256

pub count_again-requires : goal.count_again-requires
count_again-requires g c =
    few_agains g.C.CoordDoor.tells c.args.tries c.args.turns c.args.tx c.args.door.now c.loop-made.door c.loop-made.call c.loop-made.agains c.loop-made.made c.loop-made.invariant (omega arith) (omega arith)
