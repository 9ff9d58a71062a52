use Rattle.std.proofs.Common.{[], sym, subst}
use Rattle.mdb_base.specs.declared.names.Engine.{Engine}
use Rattle.engine_contract.specs.Calls.{start_from}
use Rattle.validation_engine.specs.declared.engine.ValidationEngine.{ValidationEngine}
use Rattle.validation_engine.specs.Stands.{Stands}
use Rattle.validation_engine.proofs.Restored.{stands_started}
use Rattle.validation_engine.proofs.engine.ValidationEngineLocalEngine.restart.Goals as goal

pub returns-clause-started : goal.returns-clause-started
returns-clause-started c =
    let new : ValidationEngine = record { book = c.in_ok-self.field-0; index = c.in_ok-index.index } in
    λ start lines s.
    subst (λ (kind : Engine). Stands new (start_from kind c.args.rows.now c.args.doubtful.now c.args.counter c.args.published c.args.owner) []) (sym s.keeps.keeps.of_kind)
    (stands_started new c.args.rows.now c.args.doubtful.now c.args.counter c.args.published c.args.owner c.in_ok-self.ensures.rising c.requires c.in_ok-self.ensures.book c.in_ok-index.ensures)
