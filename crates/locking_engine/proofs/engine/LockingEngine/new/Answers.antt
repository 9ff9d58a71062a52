use Rattle.std.proofs.Common.{None, [], refl}
use Rattle.locking_engine.proofs.Numbers.{stands_started}
use Rattle.locking_engine.proofs.engine.LockingEngine.new.Goals as goal

pub returns : goal.returns
returns c = stands_started _ c.args.rows.now [] 0 0 None c.in_ok-book.ensures.rising (record { numbered = tt; apart = tt }) c.in_ok-book.ensures.book c.new.ensures c.new-2.ensures refl
