use Rattle.std.proofs.Common.{◌≡◌, ◌≤◌, drop}
use Rattle.mdb_base.specs.Programs.{bad_register}
use Rattle.mdb_base.proofs.plain.first_bad_register.Given as goal

abbrev pub invariant-loop-place : goal.invariant-loop-place
invariant-loop-place l = record {
  few : l.reads ≤ l.place;
  same : bad_register l.reads l.place (drop l.place l.steps) ≡ bad_register 0 0 l.steps;
}
