use Rattle.std.proofs.Common.{ℕ, take, List, [], ◌∷◌, ◌++◌, ap, sym, ◌∙◌, arith}
use Rattle.std.proofs.lemmas.List.{take_more, length-append}
use Rattle.mdb_base.specs.declared.acts.Step.{Step}
use Rattle.serial_machine.proofs.Serial.{one_more}
use Rattle.serial_machine.proofs.running.run_serial.Goals as goal

pub loop-program-preserved : goal.loop-program-preserved
loop-program-preserved c =
    let programs = c.args.programs.now in
    let done = c.loop-program.program-index in
    let kept = c.loop-program.invariant in
    let ran = c.in_ok-run_alone.ensures in
    let values : List ℕ = c.in_ok-run_alone.field-0 in
    let program : List Step = c.program-item.result in
    let more = take_more programs done program c.loop-program-test.true ∙ ap (λ (p : List Step). take done programs ++ p ∷ []) (sym c.program-item.is) in
    let count = kept.count in
    let longer = length-append c.loop-program.reads.items (values ∷ []) in
    rw c.push_reserved.ensures.items (record {
      reached = one_more programs done program c.args.tables.now c.loop-program.tables c.run_alone.new.tables c.loop-program.reads.items values kept.reached more ran.reads ran.tables ran.rows;
      count = omega (arith, count, longer);
      room = c.push_reserved.ensures.capacity ∙ kept.room;
    })
