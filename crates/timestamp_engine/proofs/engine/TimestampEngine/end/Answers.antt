use Rattle.timestamp_engine.proofs.Lines.{ends_run}
use Rattle.timestamp_engine.proofs.engine.TimestampEngine.end.Goals as goal

pub returns : goal.returns
returns c = ends_run c.args.self.now _ c.args.tid c.take_out-run.result c.take_out-run.ensures.run c.take_out-run.ensures.book c.abort.ensures c.abort-2.ensures
