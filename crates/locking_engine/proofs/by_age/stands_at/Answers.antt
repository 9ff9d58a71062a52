use Rattle.std.proofs.Common.{length, refl, sym, ◌∙◌}
use Rattle.std.proofs.lemmas.Bool.{ltb-false, ltb-true}
use Rattle.std.proofs.lemmas.Option.{slice_get_read}
use Rattle.mdb_base.proofs.ForCallers.{item_at-slice_get}
use Rattle.locking_engine.proofs.ByAge.{is_there, none_past}
use Rattle.locking_engine.proofs.by_age.stands_at.Goals as goal

pub returns-in-Some : goal.returns-in-Some
returns-in-Some c =
    let holders = c.args.holders.now in
    let n = c.args.place in
    let at = slice_get_read holders (length holders) n c.in-Some.holder.now refl (ltb-true n (length holders) (sym c.in-Some.ensures.lookup.0)) c.in-Some.ensures.lookup.1 in
    is_there c.args.age holders c.requires.order n c.requires.count c.in-Some.holder.now (item_at-slice_get holders n ∙ at)

pub returns-in-None : goal.returns-in-None
returns-in-None c =
    none_past c.args.age c.args.holders.now c.requires.order c.args.place c.requires.count
    (ltb-false c.args.place (length c.args.holders.now) (sym c.in-None.ensures.lookup.0))
