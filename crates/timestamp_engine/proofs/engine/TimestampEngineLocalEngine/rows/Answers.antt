use Rattle.std.proofs.lemmas.Result.{IfOk-weaker}
use Rattle.mdb_base.specs.declared.names.Engine.TheVariants.{Timestamp}
use Rattle.run_book.proofs.ForCallers.{rows-are}
use Rattle.timestamp_engine.proofs.engine.TimestampEngineLocalEngine.rows.Goals as goal

pub returns : goal.returns
returns c = IfOk-weaker c.rows.result _ _ (λ rows are start lines s. rows-are Timestamp c.args.self.now.book.book start lines rows s.keeps.keeps are) c.rows.ensures
