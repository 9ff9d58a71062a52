use Rattle.std.proofs.Common.{true, false, sym, subst, ◌∙◌}
use Rattle.fed_rules.specs.declared.records.CoordRecord.TheVariants.{Commit}
use Rattle.usable_journals.specs.Recorded.{Takes}
use Rattle.usable_journals.proofs.Recording.{commits}
use Rattle.usable_journals.proofs.coord_order.Recorded.commit.Goals as goal

pub returns-then-is_new : goal.returns-then-is_new
returns-then-is_new c tickets =
    commits c.args.self.now c.insert.new.self c.insert-2.new.self c.insert-3.new.self c.args.tid tickets true c.in_ok-is_first.is_first
    (sym c.if-is_new.true ∙ c.in_ok-is_new.ensures.added) c.in_ok-is_first.ensures.added
    c.in_ok-insert.ensures.updates.0 c.in_ok-is_new.ensures.updates.0 c.in_ok-is_first.ensures.updates.0

pub returns-else-is_new : goal.returns-else-is_new
returns-else-is_new c tickets =
    subst (λ b. Takes c.args.self.now (record { named = c.insert.new.self; decided = c.insert-2.new.self; ended = c.args.self.now.ended; committed = c.insert-3.new.self }) (Commit c.args.tid tickets) b)
    (sym c.if-is_new.false)
    (commits c.args.self.now c.insert.new.self c.insert-2.new.self c.insert-3.new.self c.args.tid tickets false c.in_ok-is_first.is_first
    (sym c.if-is_new.false ∙ c.in_ok-is_new.ensures.added) c.in_ok-is_first.ensures.added
    c.in_ok-insert.ensures.updates.0 c.in_ok-is_new.ensures.updates.0 c.in_ok-is_first.ensures.updates.0)
