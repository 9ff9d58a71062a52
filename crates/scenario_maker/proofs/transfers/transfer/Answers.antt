use Rattle.std.proofs.Common.{Err, ap, ◌∙◌}
use Rattle.scenario_maker.proofs.transfers.transfer.Goals as goal

pub unreachable-requires-in-Err-Register : goal.unreachable-requires-in-Err-Register
unreachable-requires-in-Err-Register c =
    let r = (c.new.ensures.register c.in-Err-Register.field-0-0).0 (c.in-Err-Register.is ∙ ap Err c.in-Err-Register.field-0-is) in
    let clash = r.1 in cc
