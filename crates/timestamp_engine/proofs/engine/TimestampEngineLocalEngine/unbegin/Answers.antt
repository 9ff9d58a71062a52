use Rattle.std.proofs.Common.{refl}
use Rattle.timestamp_engine.proofs.Lines.{stands_unbegins}
use Rattle.timestamp_engine.proofs.engine.TimestampEngineLocalEngine.unbegin.Goals as goal

pub returns : goal.returns
returns c = λ start older n s. stands_unbegins c.args.self.now _ start older c.args.tid n s c.unbegin.ensures.book c.unbegin.ensures.room refl refl
