use Rattle.std.proofs.Common.{◌≡◌, take, map}
use Rattle.std.specs.Map.{values_of}
use Rattle.protocol_table.specs.Attempts.{restored}
use Rattle.protocol_table.specs.Entries.{AreNamed}
use Rattle.protocol_table.proofs.table.ProtocolTable.restore.Given as goal

abbrev pub invariant-loop-attempt : goal.invariant-loop-attempt
invariant-loop-attempt l = record {
  named : AreNamed l.entries.entries;
  listed : values_of l.entries.entries ≡ map restored (take l.attempt-index l.attempts);
}
