use Rattle.std.proofs.lemmas.Result.{IfOk-weaker}
use Rattle.mdb_base.specs.declared.names.Engine.TheVariants.{Validation}
use Rattle.run_book.proofs.ForCallers.{rows-are}
use Rattle.validation_engine.proofs.engine.ValidationEngineLocalEngine.rows.Goals as goal

pub returns : goal.returns
returns c = IfOk-weaker c.rows.result _ _ (λ rows are start lines s. rows-are Validation c.args.self.now.book.book start lines rows s.keeps.keeps are) c.rows.ensures
