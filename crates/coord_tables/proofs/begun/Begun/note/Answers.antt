use Rattle.std.proofs.Common.{ℕ, cond, ap, ◌∙◌}
use Rattle.mdb_base.specs.Names.{same_tx}
use Rattle.coord_tables.specs.Trees.{Tree, noted}
use Rattle.coord_tables.proofs.Trees.{value_put}
use Rattle.coord_tables.proofs.begun.Begun.note.Goals as goal

pub returns : goal.returns
returns c = λ tx.
    value_put 0 c.args.count.attempts c.self.inside.counts.entries c.set.new.counts.entries c.args.count.tx c.set.ensures tx
    ∙ ap (λ (b : Tree ℕ). cond (same_tx c.args.count.tx tx) c.args.count.attempts (noted b.listed tx)) c.self.view_is
