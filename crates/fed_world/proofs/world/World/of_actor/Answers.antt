use Rattle.std.proofs.Common.{ℕ, sym, ap, ◌∙◌}
use Rattle.fed_world.specs.Hearers.{to_actor}
use Rattle.fed_world.proofs.Asking.{to_other_actor}
use Rattle.fed_world.proofs.world.World.of_actor.Goals as goal

pub returns-then-actor-eq0 : goal.returns-then-actor-eq0
returns-then-actor-eq0 c session commands r = ap (λ (n : ℕ). to_actor session.plan n c.args.coordinator c.args.site) (sym c.if-actor-eq0.true)

pub returns-else-actor-eq0 : goal.returns-else-actor-eq0
returns-else-actor-eq0 c session commands r = c.of_site.ensures session commands r ∙ sym (to_other_actor session.plan c.args.actor c.args.coordinator c.args.site c.if-actor-eq0.false)
