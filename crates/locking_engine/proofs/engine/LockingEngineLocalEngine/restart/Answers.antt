use Rattle.std.proofs.Common.{None, [], refl, sym, subst}
use Rattle.mdb_base.specs.declared.names.Engine.{Engine}
use Rattle.engine_contract.specs.Calls.{start_from}
use Rattle.locking_engine.specs.declared.engine.LockingEngine.{LockingEngine}
use Rattle.locking_engine.specs.Stands.{Stands}
use Rattle.locking_engine.proofs.Numbers.{stands_started}
use Rattle.locking_engine.proofs.engine.LockingEngineLocalEngine.restart.Goals as goal

pub returns-clause-started : goal.returns-clause-started
returns-clause-started c =
    let new : LockingEngine = record { book = c.in_ok-self.field-0; readers = c.new.result; writers = c.in_ok-writers.writers; taker = None } in
    λ start lines s.
    subst (λ (kind : Engine). Stands new (start_from kind c.args.rows.now c.args.doubtful.now c.args.counter c.args.published c.args.owner) []) (sym s.keeps.keeps.of_kind)
    (stands_started new c.args.rows.now c.args.doubtful.now c.args.counter c.args.published c.args.owner c.in_ok-self.ensures.rising c.requires c.in_ok-self.ensures.book c.new.ensures c.in_ok-writers.ensures refl)
