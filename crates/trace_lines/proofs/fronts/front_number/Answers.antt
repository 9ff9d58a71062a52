use Rattle.std.proofs.Common.{◌∙◌, arith}
use Rattle.trace_lines.proofs.FrontNumbers.{digits_more, number_more, front_number}
use Rattle.trace_lines.proofs.fronts.front_number.Goals as goal

pub loop-digit-preserved : goal.loop-digit-preserved
loop-digit-preserved c =
    let text = c.args.text.now in
    let i = c.loop-digit.place in
    let digit = c.in-Some.ensures in
    let worth = c.from.ensures ∙ digit.2 in
    record {
      within = omega (arith, digit.0);
      digits = digits_more text i digit.0 digit.1 c.loop-digit.invariant.digits;
      so_far = number_more text i c.loop-digit.number c.from.result digit.0 digit.1 worth c.loop-digit.invariant.so_far;
      small = omega (arith, worth, digit.1.1, c.if-number-gt-MOST_BEFORE.false);
    }

pub returns-then-are_plain : goal.returns-then-are_plain
returns-then-are_plain c =
    let text = c.args.text.now in
    let i = c.loop-digit.place in
    let plain = rw c.split_at.ensures.front at (c.are_plain.ensures c.if-are_plain.true) in
    rw c.split_at.ensures.back (front_number text i c.loop-digit.number c.loop-digit.invariant.digits c.loop-digit.invariant.so_far (omega (arith, c.loop-digit.invariant.small)) plain.0 plain.1)
