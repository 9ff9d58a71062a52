use Rattle.validation_engine.proofs.Indexed.{kept_same}
use Rattle.validation_engine.proofs.Lines.{stands_unbegins}
use Rattle.validation_engine.proofs.engine.ValidationEngineLocalEngine.unbegin.Goals as goal

pub returns : goal.returns
returns c = λ start older n s. stands_unbegins c.args.self.now _ start older c.args.tid n s c.unbegin.ensures.book c.unbegin.ensures.room (kept_same c.args.self.now.index)
