use Rattle.std.proofs.lemmas.Result.{IfOk-weaker}
use Rattle.mdb_base.specs.declared.names.Engine.TheVariants.{Locking}
use Rattle.run_book.proofs.ForCallers.{rows-are}
use Rattle.locking_engine.proofs.engine.LockingEngineLocalEngine.rows.Goals as goal

pub returns : goal.returns
returns c = IfOk-weaker c.rows.result _ _ (λ rows are start lines s. rows-are Locking c.args.self.now.book.book start lines rows s.keeps.keeps are) c.rows.ensures
