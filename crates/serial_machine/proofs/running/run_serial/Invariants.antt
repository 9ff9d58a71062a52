use Rattle.std.proofs.Common.{◌≡◌, length}
use Rattle.std.specs.Vec.{vec_capacity}
use Rattle.serial_machine.specs.Runs.{ReachesSerial}
use Rattle.serial_machine.proofs.running.run_serial.Given as goal

abbrev pub invariant-loop-program : goal.invariant-loop-program
invariant-loop-program l = record {
  reached : ReachesSerial l.programs l.program-index l.initial.tables l.tables l.reads.items;
  count : length l.reads.items ≡ l.program-index;
  room : vec_capacity l.reads ≡ vec_capacity l.initial.reads;
}
