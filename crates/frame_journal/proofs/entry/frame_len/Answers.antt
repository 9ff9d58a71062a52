use Rattle.std.proofs.Common.{arith}
use Rattle.frame_journal.proofs.Entries.{new_size}
use Rattle.frame_journal.proofs.entry.frame_len.Goals as goal

pub returns-in-Second : goal.returns-in-Second
returns-in-Second c = λ bytes e. rw c.in-Second.is (omega (arith, e, new_size bytes))
