use Rattle.std.proofs.Common.{◌≡◌, ◌+◌, ◌*◌, ◌-◌, get_or, drop, ap, sym, ◌∙◌, arith}
use Rattle.scenario_text.specs.Names.{decimal}
use Rattle.scenario_text.proofs.DecimalLemmas.{decimal_grows, decimal_turn, digit_turn, decimal_end}
use Rattle.scenario_text.proofs.names.decimal.Goals as goal

pub with_digit-requires : goal.with_digit-requires
with_digit-requires c = (digit_turn c.loop-digit.digit-index c.args.digits.now c.loop-digit-test.true c.loop-digit.invariant.digits).0

pub returns-in_err-number : goal.returns-in_err-number
returns-in_err-number c =
    let ds = c.args.digits.now in
    let i = c.loop-digit.digit-index in
    let n = c.loop-digit.number in
    let turn = decimal_turn n i ds c.loop-digit-test.true in
    let grows = decimal_grows (n * 10 + (get_or ds i 0 - 48)) (drop (i + 1) ds) in
    rw c.from_residual.ensures (λ small. c.in_err-number.ensures (omega (arith, turn, grows, c.loop-digit.invariant.so_far)))

pub loop-digit-preserved : goal.loop-digit-preserved
loop-digit-preserved c =
    let ds = c.args.digits.now in
    let i = c.loop-digit.digit-index in
    let n = c.loop-digit.number in
    let turn = decimal_turn n i ds c.loop-digit-test.true in
    let digit = digit_turn i ds c.loop-digit-test.true c.loop-digit.invariant.digits in
    record {
      so_far = ap (λ m. decimal m (drop (i + 1) ds)) c.in_ok-number.ensures.1 ∙ sym turn ∙ c.loop-digit.invariant.so_far;
      below = omega (arith, c.in_ok-number.ensures.0, c.in_ok-number.ensures.1);
      digits = digit.1;
    }

pub returns : goal.returns
returns c =
    let n = c.loop-digit.number in
    let last = decimal_end n c.loop-digit.digit-index c.args.digits.now c.loop-digit-test.false in
    let whole : n ≡ decimal 0 c.args.digits.now = sym last ∙ c.loop-digit.invariant.so_far in
    (omega (arith, whole), whole)
