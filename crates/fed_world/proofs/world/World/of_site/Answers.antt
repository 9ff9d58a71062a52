use Rattle.std.proofs.Common.{ℕ, Option, ap}
use Rattle.fed_world.specs.Hearers.{at_place}
use Rattle.fed_world.proofs.world.World.of_site.Goals as goal

pub returns-in-Some : goal.returns-in-Some
returns-in-Some c session commands r = ap (λ (o : Option ℕ). at_place o c.args.ask) (c.in-Some.ensures session.plan r.routed)

pub returns-in-None : goal.returns-in-None
returns-in-None c session commands r = ap (λ (o : Option ℕ). at_place o c.args.ask) (c.in-None.ensures session.plan r.routed)
