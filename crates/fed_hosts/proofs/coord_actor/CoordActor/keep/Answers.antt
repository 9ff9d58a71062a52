use Rattle.std.proofs.Common.{◌+◌, refl, ◌∙◌, arith}
use Rattle.fed_hosts.proofs.CoordAdding.{coord_added}
use Rattle.fed_hosts.proofs.coord_actor.CoordActor.keep.Goals as goal

pub returns-clause-added : goal.returns-clause-added
returns-clause-added g c =
    let stamp = c.later-stamp.ensures.is in
    coord_added c.args.self.now _ c.args.told (c.later-stamp.result + 1) c.as_slice.result.now c.taken-places.result (omega (arith, stamp)) c.push_reserved.ensures.items (c.taken-places.ensures.taken ∙ c.post_all.ensures.places) c.as_slice.ensures.items
    c.post_all.ensures.posted refl
