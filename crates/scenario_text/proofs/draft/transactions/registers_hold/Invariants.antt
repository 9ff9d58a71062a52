use Rattle.std.proofs.Common.{◌≡◌, ◌≤◌, drop}
use Rattle.mdb_base.specs.Programs.{bad_register}
use Rattle.scenario_text.proofs.draft.transactions.registers_hold.Given as goal

abbrev pub invariant-loop-step : goal.invariant-loop-step
invariant-loop-step l = record {
  few : l.reads ≤ l.step-index;
  same : bad_register l.reads l.step-index (drop l.step-index l.steps) ≡ bad_register 0 0 l.steps;
}
