use Rattle.std.proofs.Common.{◌≡◌, drop}
use Rattle.session_report.specs.Told.{message_at}
use Rattle.session_report.proofs.telling.message_at.Given as goal

abbrev pub invariant-loop-channel : goal.invariant-loop-channel
invariant-loop-channel l = message_at (drop l.channel-index l.channels) l.site l.place ≡ message_at l.channels l.site l.place
