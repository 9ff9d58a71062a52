use Rattle.std.proofs.Common.{Option, Some, IsSome, sym, subst}
use Rattle.mdb_base.specs.declared.names.Tid.{Tid}
use Rattle.mdb_base.proofs.ForCallers.{lent}
use Rattle.coord_tables.proofs.Trees.{entry_set}
use Rattle.coord_tables.proofs.committed.set.Goals as goal

pub unwrap-requires : goal.unwrap-requires
unwrap-requires c = lent c.get_mut.result (subst (λ (o : Option (Option Tid)). IsSome o) (sym c.get_mut.ensures.value) c.requires)

pub returns : goal.returns
returns c = entry_set c.args.tids.now.entries _ c.args.tid.tx (Some c.args.tid) (c.get_mut.follows.holds (Some c.args.tid)).0 c.requires
