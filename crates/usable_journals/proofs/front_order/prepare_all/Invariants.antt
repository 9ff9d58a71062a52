use Rattle.usable_journals.proofs.FrontTaken.{Taken}
use Rattle.usable_journals.proofs.front_order.prepare_all.Given as goal

-- those that are left stand behind those that were taken
abbrev pub invariant-loop-held : goal.invariant-loop-held
invariant-loop-held l = Taken l.fn.front l.front l.held-iterator.rest.items l.initial.held-iterator.rest.items
