use Rattle.std.proofs.Common.{not, is_some, None, Some, Option, sym, ap, ◌∙◌}
use Rattle.std.specs.Option.{option_copied_mut}
use Rattle.std.proofs.lemmas.Result.{IfOk-weaker, on_ok_weaker, on_err_weaker}
use Rattle.mdb_base.specs.declared.names.Tid.{Tid}
use Rattle.run_book.proofs.ForCallers.{some-found}
use Rattle.locking_engine.specs.Holders.{place_of}
use Rattle.locking_engine.specs.Lists.{holders_in}
use Rattle.locking_engine.proofs.KeyLists.{order_changed, holders_same, entered_held, get-own}
use Rattle.locking_engine.proofs.Places.{held_new}
use Rattle.locking_engine.proofs.key_lists.hold.Goals as goal

pub enter-requires : goal.enter-requires
enter-requires c = c.requires.by_age c.args.key.0 c.in-Some.holders.now (sym c.get_mut.ensures.value ∙ ap option_copied_mut c.in-Some.is)

pub returns-in-Some-clause-order : goal.returns-in-Some-clause-order
returns-in-Some-clause-order c =
    let es = c.args.lists.now.entries in
    let found = sym c.get_mut.ensures.value ∙ ap option_copied_mut c.in-Some.is in
    let through = c.get_mut.follows.holds c.enter.new.holders in
    order_changed es _ c.args.key.0 c.enter.new.holders c.requires through.4 c.enter.ensures.order (through.3 (some-found _ _ found)).0

pub returns-in-Some-clause-held : goal.returns-in-Some-clause-held
returns-in-Some-clause-held c =
    let es = c.args.lists.now.entries in
    let found = sym c.get_mut.ensures.value ∙ ap option_copied_mut c.in-Some.is in
    let through = c.get_mut.follows.holds c.enter.new.holders in
    on_ok_weaker c.enter.result
    (λ made. entered_held es _ c.args.key c.requires through.4 c.args.run c.in-Some.holders.now c.enter.new.holders found made (through.3 (some-found _ _ found)).0)
    c.enter.ensures.items

pub returns-in-Some-clause-fresh : goal.returns-in-Some-clause-fresh
returns-in-Some-clause-fresh c =
    let es = c.args.lists.now.entries in
    let found = sym c.get_mut.ensures.value ∙ ap option_copied_mut c.in-Some.is in
    IfOk-weaker c.enter.result _ _
    (λ fresh is. is ∙ ap (λ (o : Option Tid). not (is_some o)) (sym (get-own es c.args.key c.requires c.args.run.rank (Some c.in-Some.holders.now) found)))
    c.enter.ensures.fresh

pub returns-in-Some-clause-memory : goal.returns-in-Some-clause-memory
returns-in-Some-clause-memory c =
    let es = c.args.lists.now.entries in
    let found = sym c.get_mut.ensures.value ∙ ap option_copied_mut c.in-Some.is in
    let through = c.get_mut.follows.holds c.enter.new.holders in
    on_err_weaker c.enter.result
    (λ same. holders_same es _ c.args.key.0 c.enter.new.holders c.requires through.4 c.enter.ensures.order (through.3 (some-found _ _ found)).0 c.in-Some.holders.now found same)
    c.enter.ensures.memory

pub begin-requires-clause-order : goal.begin-requires-clause-order
begin-requires-clause-order c = rw c.get_mut.follows.holds-at-none c.requires

pub begin-requires-clause-none : goal.begin-requires-clause-none
begin-requires-clause-none c = rw c.get_mut.follows.holds-at-none (sym c.get_mut.ensures.value ∙ ap option_copied_mut c.in_default.is)

pub returns-clause-held : goal.returns-clause-held
returns-clause-held c =
    let es = c.args.lists.now.entries in
    let none = sym c.get_mut.ensures.value ∙ ap option_copied_mut c.in_default.is in
    let place = place_of c.args.key c.args.run.rank in
    let made = rw c.get_mut.follows.holds-at-none at c.in_ok-begin.ensures.held in
    made ∙ held_new (holders_in es) place c.args.run.tid (ap (λ (o : Option Tid). is_some o) (get-own es c.args.key c.requires c.args.run.rank None none))

pub returns-clause-fresh : goal.returns-clause-fresh
returns-clause-fresh c =
    let none = sym c.get_mut.ensures.value ∙ ap option_copied_mut c.in_default.is in
    ap (λ (o : Option Tid). not (is_some o)) (sym (get-own c.args.lists.now.entries c.args.key c.requires c.args.run.rank None none))
