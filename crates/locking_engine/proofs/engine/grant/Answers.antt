use Rattle.std.proofs.Common.{Result, Ok, Err, OnErr, sym, ap, ◌∙◌}
use Rattle.std.specs.FinMap.{remove}
use Rattle.locking_engine.specs.Holders.{Holders, place_of}
use Rattle.locking_engine.proofs.Places.{undone}
use Rattle.locking_engine.proofs.engine.grant.Goals as goal

on_err_all : {X Y P : Type 0} (r : Result X Y) → P → OnErr r P
on_err_all (Ok x) p = tt
on_err_all (Err e) p = p

pub returns-then-fresh-clause-let_go : goal.returns-then-fresh-clause-let_go
returns-then-fresh-clause-let_go c =
    let place = place_of c.key-key.result c.args.age in
    on_err_all c.grant-granted.result
    (c.let_go.ensures ∙ (ap (λ (m : Holders). remove m place) c.in_ok-fresh.ensures.held ∙ undone c.args.holders.now place c.args.tid (sym c.in_ok-fresh.ensures.fresh ∙ c.if-fresh.true)))
