use Rattle.std.proofs.Common.{true, false, ◌∙◌}
use Rattle.std.proofs.lemmas.Result.{IfOk-weaker}
use Rattle.coord_tables.proofs.ForCallers.{rising_listed}
use Rattle.coord_core.proofs.Still.{serves_up}
use Rattle.coord_core.proofs.coord.CoordCore.known_tids.Goals as goal

pub returns : goal.returns
returns g c =
    let core = c.args.self.now in
    IfOk-weaker c.rising_tids.result _ _
    (λ tids are terms past h up. are ∙ rising_listed false terms past core.tables h.sound (serves_up g.P.TakePolicy.policy true core terms past h up) c.len.ensures.apart)
    c.rising_tids.ensures
