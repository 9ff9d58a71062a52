use Rattle.std.proofs.Common.{None, []}
use Rattle.validation_engine.proofs.Restored.{stands_started}
use Rattle.validation_engine.proofs.engine.ValidationEngine.new.Goals as goal

pub returns : goal.returns
returns c = stands_started _ c.args.rows.now [] 0 0 None c.in_ok-book.ensures.rising (record { numbered = tt; apart = tt }) c.in_ok-book.ensures.book c.new.ensures
