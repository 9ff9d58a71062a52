use Rattle.std.proofs.Common.{refl}
use Rattle.locking_engine.proofs.Numbers.{stands_unbegins}
use Rattle.locking_engine.proofs.engine.LockingEngineLocalEngine.unbegin.Goals as goal

pub returns : goal.returns
returns c = λ start older n s. stands_unbegins c.args.self.now _ start older c.args.tid n s c.unbegin.ensures.book c.unbegin.ensures.room refl refl refl
