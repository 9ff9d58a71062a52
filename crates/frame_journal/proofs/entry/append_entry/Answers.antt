use Rattle.std.proofs.Common.{arith}
use Rattle.frame_journal.proofs.Entries.{new_size}
use Rattle.frame_journal.proofs.entry.append_entry.Goals as goal

pub append_frame-requires-clause-room : goal.append_frame-requires-clause-room
append_frame-requires-clause-room g c = omega (arith, c.spell.ensures.frame, new_size (g.F.Format.spelling c.args.entry.now), c.deref_mut.ensures.len)
