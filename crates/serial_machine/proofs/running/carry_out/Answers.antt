use Rattle.std.proofs.Common.{◌≡◌, ap, sym, ◌∙◌, length, arith}
use Rattle.mdb_base.specs.Programs.{next_of}
use Rattle.serial_machine.proofs.Steps.{reads_are_counted, next_comes}
use Rattle.serial_machine.proofs.running.carry_out.Goals as goal
use Rattle.serial_machine.proofs.running.carry_out.Goals.{in-Some, in_default}

pub next_act-requires-clause-read : goal.next_act-requires-clause-read
next_act-requires-clause-read c =
    ap length c.deref.ensures.value ∙ reads_are_counted c.args.program.now c.loop-done.done c.args.tables.now c.loop-done.tables c.loop-done.reads.items c.loop-done.invariant.reached

next_is_given : (c : goal.Joined-next_act) → c.next_act.result ≡ next_of c.args.program.now c.loop-done.done c.loop-done.reads.items
next_is_given c = c.next_act.ensures ∙ ap (next_of c.args.program.now c.loop-done.done) c.deref.ensures.value

pub loop-done-preserved : goal.loop-done-preserved
loop-done-preserved c = elim c.match-next_act.branch [
  | in-Some w ↦
      (let kept = c.loop-done.invariant in
      let step = w.take_step.ensures in
      let count = step.count in
      let reads = step.reads in
      let rows = step.rows in
      rw (w.tables-is, w.reads-is) (record {
        reached = step.further c.args.program.now c.loop-done.done c.args.tables.now kept.reached (sym (next_is_given c) ∙ w.in-Some.is);
        reads = omega (arith, count);
        room = kept.room ∙ sym reads;
        rows = omega (arith, rows);
      }))
  | in_default w ↦
      absurd (next_comes c.args.program.now c.loop-done.done c.loop-done.reads.items (omega arith) (sym (next_is_given c) ∙ w.in_default.is))
]
