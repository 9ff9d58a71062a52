use Rattle.std.proofs.Common.{ℕ, Option, IsSome, sym, subst}
use Rattle.mdb_base.proofs.ForCallers.{lent}
use Rattle.coord_tables.proofs.Trees.{entry_set}
use Rattle.coord_tables.proofs.begun.set.Goals as goal

pub unwrap-requires : goal.unwrap-requires
unwrap-requires c = lent c.get_mut.result (subst (λ (o : Option ℕ). IsSome o) (sym c.get_mut.ensures.value) c.requires)

pub returns : goal.returns
returns c = entry_set c.args.counts.now.entries _ c.args.count.tx c.args.count.attempts (c.get_mut.follows.holds c.args.count.attempts).0 c.requires
