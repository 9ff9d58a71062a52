use Rattle.std.proofs.Common.{slice_get, sym, ap, ◌∙◌}
use Rattle.fed_rules.specs.Scenarios.{sites}
use Rattle.fed_rules.specs.Story.{story_in}
use Rattle.fed_world.specs.Worlds.{DbmsRecalls}
use Rattle.fed_world.proofs.DeclaredPlaces.{at_its_place, no_home_placeless}
use Rattle.fed_world.proofs.Lookups.{found_in_slice}
use Rattle.fed_world.proofs.SeatsByPlace.{messages_found}
use Rattle.fed_world.proofs.world.World.traffic_at.Goals as goal

pub returns-in-Some : goal.returns-in-Some
returns-in-Some c session commands r =
    let self = c.args.self.now in
    messages_found DbmsRecalls self.cores.sites.items.items self.cores.marks.items self.traffic.items session (story_in session commands) r.actors.sites c.in-Some.place c.args.site
    (at_its_place (sites session.plan) c.args.site c.in-Some.place (sym (c.in-Some.ensures session.plan r.routed))) _
    (found_in_slice (λ x. x.now) c.deref.result.now c.in-Some.place c.get.result c.get.ensures.lookup.0 c.get.ensures.lookup.1 ∙ ap (λ xs. slice_get xs c.in-Some.place) c.deref.ensures.value)

pub returns-in-None : goal.returns-in-None
returns-in-None c session commands r = no_home_placeless session.plan c.args.site (sym (c.in-None.ensures session.plan r.routed))
