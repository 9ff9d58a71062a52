use Rattle.std.proofs.Common.{None, Some, subst}
use Rattle.multiversion_engine.specs.OldVersions.{Olds, IsLastBelow}
use Rattle.multiversion_engine.proofs.Ranges.{last_below, none_below}
use Rattle.multiversion_engine.proofs.old_versions.OldVersions.last_below.Goals as goal

pub returns-in-Some : goal.returns-in-Some
returns-in-Some c =
    subst (λ (m : Olds). IsLastBelow m c.args.key c.args.number (Some (record { number = c.in-Some.place.now.number; value = c.in-Some.value.now }))) c.self.view_is
    (last_below c.args.key c.args.number c.self.inside.values c.range.result _ c.in-Some.place.now c.in-Some.value.now (c.range.ensures.in_range tt) c.in-Some.ensures.steps)

pub returns-in-None : goal.returns-in-None
returns-in-None c =
    subst (λ (m : Olds). IsLastBelow m c.args.key c.args.number None) c.self.view_is
    (none_below c.args.key c.args.number c.self.inside.values c.range.result (c.range.ensures.in_range tt) c.in-None.ensures.steps.0)
