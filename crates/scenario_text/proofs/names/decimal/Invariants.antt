use Rattle.std.proofs.Common.{◌≡◌, ◌<◌, ◌^◌, IsTrue, drop}
use Rattle.std.specs.List.{list_all}
use Rattle.scenario_text.specs.Names as names
use Rattle.scenario_text.specs.Names.{is_digit}
use Rattle.scenario_text.proofs.names.decimal.Given as goal

abbrev pub invariant-loop-digit : goal.invariant-loop-digit
invariant-loop-digit l = record {
  so_far : names.decimal l.number (drop l.digit-index l.digits) ≡ names.decimal 0 l.digits;
  below : l.number < 2 ^ 64;
  digits : IsTrue (list_all is_digit (drop l.digit-index l.digits));
}
