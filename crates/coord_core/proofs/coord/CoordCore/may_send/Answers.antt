use Rattle.std.proofs.Common.{Bool, true, refl, sym, subst, ◌∙◌}
use Rattle.mdb_base.proofs.ForCallers.{map_ok}
use Rattle.fed_rules.specs.Coord.{may_take}
use Rattle.coord_tables.specs.Sending.{HoldsTheSame}
use Rattle.coord_tables.proofs.ForCallers.{without_takes}
use Rattle.coord_core.proofs.coord.CoordCore.may_send.Goals as goal

pub returns-then-some_take : goal.returns-then-some_take
returns-then-some_take g c = map_ok _ _ c.may_take.result c.may_take.ensures (λ may each terms past k u.
    let policy = may_take terms.protocols terms.policy past c.args.tid in
    subst (λ (b : Bool). HoldsTheSame b policy c.args.dues.now) (sym (each terms past k u)) (record { passes = refl; held = refl }))

pub returns-else-some_take : goal.returns-else-some_take
returns-else-some_take g c = λ terms past k u.
    without_takes true (may_take terms.protocols terms.policy past c.args.tid) c.args.dues.now (sym c.some_take.ensures ∙ c.if-some_take.false)
