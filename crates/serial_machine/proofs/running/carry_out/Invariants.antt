use Rattle.std.proofs.Common.{◌≡◌, ◌+◌, ◌≤◌, length}
use Rattle.std.specs.HashMap.{spare}
use Rattle.std.specs.Vec.{vec_capacity}
use Rattle.serial_machine.specs.Runs.{ReachesAlone}
use Rattle.serial_machine.proofs.running.carry_out.Given as goal

abbrev pub invariant-loop-done : goal.invariant-loop-done
invariant-loop-done l = record {
  reached : ReachesAlone l.program l.done l.initial.tables l.tables l.reads.items;
  reads : length l.reads.items ≤ l.done;
  room : vec_capacity l.initial.reads ≡ vec_capacity l.reads;
  rows : spare l.initial.tables.values ≤ spare l.tables.values + l.done;
}
