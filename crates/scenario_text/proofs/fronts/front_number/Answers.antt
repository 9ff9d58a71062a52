use Rattle.std.proofs.Common.{◌+◌, ◌*◌, refl, ap, sym, ◌∙◌, arith}
use Rattle.scenario_text.proofs.FrontLemmas.{begins_with, decimal_more, decimal_none, digits_more}
use Rattle.scenario_text.specs.FirstLines.{are_plain}
use Rattle.scenario_text.proofs.fronts.front_number.Goals as goal

pub loop-digit-init : goal.loop-digit-init
loop-digit-init c = record { within = omega arith; digits = refl; so_far = decimal_none c.args.text.now; small = omega arith }

pub loop-digit-preserved : goal.loop-digit-preserved
loop-digit-preserved c =
    let text = c.args.text.now in
    let i = c.loop-digit.place in
    let n = c.loop-digit.number in
    let digit = c.in-Some.ensures in
    record {
      within = omega (arith, digit.0.0);
      digits = digits_more text i digit.0.0 digit.0.1 digit.0.2 c.loop-digit.invariant.digits;
      so_far = decimal_more text i n digit.0.0 c.loop-digit.invariant.so_far ∙ ap (λ d. n * 10 + d) (sym (c.from.ensures ∙ digit.1));
      small = omega (arith, digit.0.2, digit.1, c.from.ensures);
    }

pub returns-then-are_plain : goal.returns-then-are_plain
returns-then-are_plain c =
    let text = c.args.text.now in
    let i = c.loop-digit.place in
    let plain = ap are_plain (sym c.split_at.ensures.front) ∙ sym c.if-are_plain.ensures in
    rw c.split_at.ensures.back (begins_with text i c.loop-digit.number c.loop-digit.invariant.digits c.loop-digit.invariant.so_far (omega (arith, c.loop-digit.invariant.small)) plain)
