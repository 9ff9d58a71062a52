use Rattle.std.proofs.Common.{◌≡◌, ◌∙◌, arith}
use Rattle.session_routes.proofs.Places.{are_places}
use Rattle.session_routes.proofs.routes.places_of.Goals as goal

pub returns : goal.returns
returns c =
    let all : c.loop-number.number ≡ 9 = omega arith in
    are_places c.args.sites.now c.loop-number.places.items c.requires (c.loop-number.invariant.count ∙ all) (λ n h. c.loop-number.invariant.at n (omega (arith, h, all)))
