use Rattle.std.proofs.Common.{length, refl}
use Rattle.std.proofs.lemmas.Option.{slice_get_read}
use Rattle.fed_world.proofs.SessionParts.{rows_are}
use Rattle.fed_world.proofs.world.World.rows_at.Goals as goal

pub returns : goal.returns
returns c = λ session commands r rest site e.
    let channels = c.args.self.now.traffic.items in
    let here = slice_get_read channels (length channels) c.args.place c.index.result.now refl c.requires.channels c.index.ensures in
    rows_are session commands c.args.self.now r c.args.place site e c.at.result.now c.index.result.now c.at.ensures here c.in_ok-rows.rows
    (λ home held. c.in_ok-rows.ensures.table home _ (c.core.ensures.held home _ _ held) (rest.sites_up site))
