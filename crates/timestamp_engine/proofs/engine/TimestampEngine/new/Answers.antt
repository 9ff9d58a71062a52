use Rattle.std.proofs.Common.{None, []}
use Rattle.timestamp_engine.proofs.Lines.{stands_started, none_accessed}
use Rattle.timestamp_engine.proofs.engine.TimestampEngine.new.Goals as goal

pub returns : goal.returns
returns c =
    stands_started _ c.args.rows.now [] 0 0 None c.in_ok-book.ensures.rising (record { numbered = tt; apart = tt }) c.in_ok-book.ensures.book (none_accessed _ c.new.ensures) c.new-2.ensures
