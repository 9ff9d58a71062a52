use Rattle.std.proofs.Common.{◌≡◌, ◌-◌, ◌≤◌, IsTrue, length, take}
use Rattle.std.specs.List.{list_all}
use Rattle.scenario_text.specs.Names.{decimal, is_digit}
use Rattle.scenario_text.proofs.fronts.front_number.Given as goal

-- the digits so far spell the number so far
abbrev pub invariant-loop-digit : goal.invariant-loop-digit
invariant-loop-digit l = record {
  within : l.place ≤ length l.text;
  digits : IsTrue (list_all is_digit (take l.place l.text));
  so_far : decimal 0 (take l.place l.text) ≡ l.number;
  small : l.number ≤ 999999999;
}

abbrev pub decreases-loop-digit : goal.decreases-loop-digit
decreases-loop-digit l = length l.text - l.place
