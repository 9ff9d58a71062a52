use Rattle.std.proofs.Common.{◌≡◌, ◌-◌, ◌≤◌, length, take}
use Rattle.std.specs.Str.Parse.{digits_value}
use Rattle.trace_lines.proofs.Bytes.{AreDigits}
use Rattle.trace_lines.proofs.fronts.front_number.Given as goal

-- the digits so far spell the number so far
abbrev pub invariant-loop-digit : goal.invariant-loop-digit
invariant-loop-digit l = record {
  within : l.place ≤ length l.text;
  digits : AreDigits (take l.place l.text);
  so_far : digits_value 10 (take l.place l.text) ≡ l.number;
  small : l.number ≤ 999999999999999999;
}

abbrev pub decreases-loop-digit : goal.decreases-loop-digit
decreases-loop-digit l = length l.text - l.place
