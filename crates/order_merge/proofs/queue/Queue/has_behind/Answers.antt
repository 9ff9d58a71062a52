use Rattle.std.proofs.Common.{◌≡◌, false, not, ◌∙◌, sym}
use Rattle.mdb_base.specs.Names.{same_tid}
use Rattle.order_laws.proofs.ForCallers.{not_false}
use Rattle.order_merge.proofs.Queues.{first_not_behind}
use Rattle.order_merge.proofs.queue.Queue.has_behind.Goals as goal

pub returns-else-ne : goal.returns-else-ne
returns-else-ne c =
    let differs : not (same_tid c.in-Some.first c.args.tid) ≡ false = sym c.ne.ensures ∙ c.if-ne.false in
    c.if-ne.false
    ∙ sym (first_not_behind c.args.self.now c.in-Some.first c.args.tid c.requires (sym c.first.ensures ∙ c.in-Some.is) (not_false _ differs))
