use Rattle.std.proofs.Common.{sym, ap, ◌∙◌}
use Rattle.std.specs.Option.{option_copied_mut}
use Rattle.run_book.proofs.ForCallers.{some-found}
use Rattle.locking_engine.proofs.KeyLists.{left_order, left_gone, nobody_left}
use Rattle.locking_engine.proofs.key_lists.let_go.Goals as goal

pub leave-requires : goal.leave-requires
leave-requires c = c.requires.by_age c.args.key.0 c.in-Some.holders.now (sym c.get_mut.ensures.value ∙ ap option_copied_mut c.in-Some.is)

pub returns-in-Some-clause-order : goal.returns-in-Some-clause-order
returns-in-Some-clause-order c =
    let found = sym c.get_mut.ensures.value ∙ ap option_copied_mut c.in-Some.is in
    let through = c.get_mut.follows.holds c.leave.new.holders in
    left_order c.args.lists.now.entries _ c.args.key c.requires through.4 c.args.age c.in-Some.holders.now c.leave.new.holders found c.leave.ensures (through.3 (some-found _ _ found)).0

pub returns-in-Some-clause-gone : goal.returns-in-Some-clause-gone
returns-in-Some-clause-gone c =
    let found = sym c.get_mut.ensures.value ∙ ap option_copied_mut c.in-Some.is in
    let through = c.get_mut.follows.holds c.leave.new.holders in
    left_gone c.args.lists.now.entries _ c.args.key c.requires through.4 c.args.age c.in-Some.holders.now c.leave.new.holders found c.leave.ensures (through.3 (some-found _ _ found)).0

pub returns-in_default-clause-order : goal.returns-in_default-clause-order
returns-in_default-clause-order c = rw c.get_mut.follows.holds-at-none c.requires

pub returns-in_default-clause-gone : goal.returns-in_default-clause-gone
returns-in_default-clause-gone c =
    let none = sym c.get_mut.ensures.value ∙ ap option_copied_mut c.in_default.is in
    rw c.get_mut.follows.holds-at-none (nobody_left c.args.lists.now.entries c.args.key c.requires c.args.age none)
