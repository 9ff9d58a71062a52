use Rattle.std.proofs.Common.{List, [], ◌∷◌, ◌++◌, ap, ◌∙◌}
use Rattle.run_book.specs.declared.rival.Rival.{Rival}
use Rattle.locking_engine.proofs.KeyLists.{begun_order, begun_held}
use Rattle.locking_engine.proofs.key_lists.begin.Goals as goal

pub returns-clause-order : goal.returns-clause-order
returns-clause-order c =
    begun_order c.args.lists.now.entries _ c.args.key c.requires.order c.in_ok-insert.ensures.unique c.args.run c.push.new.self
    (c.in_ok-push.ensures.items ∙ ap (λ (xs : List Rival). xs ++ c.args.run ∷ []) c.new-holders.ensures.items) c.in_ok-insert.ensures.updates.0

pub returns-clause-held : goal.returns-clause-held
returns-clause-held c =
    begun_held c.args.lists.now.entries _ c.args.key c.requires.order c.in_ok-insert.ensures.unique c.args.run c.push.new.self c.requires.none
    (c.in_ok-push.ensures.items ∙ ap (λ (xs : List Rival). xs ++ c.args.run ∷ []) c.new-holders.ensures.items) c.in_ok-insert.ensures.updates.0
