use Rattle.std.proofs.Common.{[], sym, subst}
use Rattle.mdb_base.specs.declared.names.Engine.{Engine}
use Rattle.engine_contract.specs.Calls.{start_from}
use Rattle.multiversion_engine.specs.declared.engine.MultiversionEngine.{MultiversionEngine}
use Rattle.multiversion_engine.specs.Stands.{Stands}
use Rattle.multiversion_engine.proofs.Starts.{stands_started}
use Rattle.multiversion_engine.proofs.engine.MultiversionEngineLocalEngine.restart.Goals as goal

pub returns-clause-started : goal.returns-clause-started
returns-clause-started c =
    let new : MultiversionEngine =
    record { book = c.in_ok-book.book; accesses = c.in_ok-accesses.accesses; takers = c.in_ok-takers.takers; unended = c.in_ok-unended.unended; olds = c.in_ok-self.field-0 } in
    λ start lines s.
    subst (λ (kind : Engine). Stands new (start_from kind c.args.rows.now c.args.doubtful.now c.args.counter c.args.published c.args.owner) []) (sym s.keeps.keeps.of_kind)
    (stands_started new c.args.rows.now c.args.doubtful.now c.args.counter c.args.published c.args.owner c.in_ok-book.ensures.rising c.requires c.in_ok-book.ensures.book
    c.in_ok-accesses.ensures c.in_ok-takers.ensures c.in_ok-unended.ensures c.in_ok-self.ensures)
