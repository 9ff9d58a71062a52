use Rattle.std.proofs.Common.{◌≡◌, ◌<◌, length, get_or, is_some, Some, ap, sym, ◌∙◌}
use Rattle.std.specs.List.{remove}
use Rattle.mdb_base.proofs.ForCallers.{item_at-within}
use Rattle.fed_rules.specs.declared.runs.Doubt.{Doubt}
use Rattle.prepared_state.specs.Book.{count_before, doubt_about, others}
use Rattle.prepared_state.proofs.ByTid.{others-place, others-absent, IsByTid-others}
use Rattle.prepared_state.proofs.places.take_out.Goals as goal

abbrev nothing : Doubt
nothing = record { tid = record { tx = record { 0 = 0 }; attempt = 0 }; epoch = 0; ticket = 0 }

is_there : (c : goal.After-remove) → doubt_about c.args.tid c.args.doubts.now.items ≡ Some (get_or c.args.doubts.now.items c.in-Some.place nothing)
is_there c =
    let value = c.deref.ensures.value in
    let within : c.in-Some.place < length c.args.doubts.now.items = rw value at c.in-Some.ensures.within in
    rw value at c.in-Some.ensures.found ∙ item_at-within c.args.doubts.now.items c.in-Some.place nothing within

items_are : (c : goal.After-remove) → c.remove.new.self.items ≡ others c.args.tid c.args.doubts.now.items
items_are c =
    let items = c.args.doubts.now.items in
    c.remove.ensures.items
    ∙ ap (remove items) (c.in-Some.ensures.place ∙ ap (count_before c.args.tid) c.deref.ensures.value)
    ∙ sym (others-place c.args.tid items (get_or items c.in-Some.place nothing) c.requires (is_there c))

pub returns-in-Some-clause-listed : goal.returns-in-Some-clause-listed
returns-in-Some-clause-listed c = sym (ap is_some (is_there c))

pub returns-in-Some-clause-items : goal.returns-in-Some-clause-items
returns-in-Some-clause-items c = items_are c

pub returns-in-Some-clause-order : goal.returns-in-Some-clause-order
returns-in-Some-clause-order c = rw (items_are c) (IsByTid-others c.args.tid c.args.doubts.now.items c.requires)

pub returns-in-None-clause-items : goal.returns-in-None-clause-items
returns-in-None-clause-items c =
    sym (others-absent c.args.tid c.args.doubts.now.items (ap (doubt_about c.args.tid) (sym c.deref.ensures.value) ∙ c.in-None.ensures.absent))
