use Rattle.std.proofs.Common.{false, None, refl, sym}
use Rattle.fed_rules.specs.declared.events.CoordStep.{CoordStep}
use Rattle.coord_core.specs.declared.coord.CoordCore.{CoordCore}
use Rattle.coord_tables.specs.Sending.{after_taken}
use Rattle.coord_tables.proofs.ForCallers.{initiates_is, sent_line, sent_tables}
use Rattle.coord_core.proofs.Endings.{pending_quiet}
use Rattle.coord_core.proofs.Sent.{sent_pending}
use Rattle.coord_core.proofs.Still.{serves, up_is}
use Rattle.coord_core.proofs.coord.CoordCore.send_at_once.Goals as goal

pub returns-in-Ok-clause-answered : goal.returns-in-Ok-clause-answered
returns-in-Ok-clause-answered g c = λ tells seen terms past event k i none.
    let old = c.args.self.now in
    let core : CoordCore g.row.P.Denot = record old { tables = c.sent.new.self } in
    let step : CoordStep = record { answer = c.said-answer.result; sends = c.in-Ok.sends } in
    let x = sent_line terms.protocols past event c.args.tid c.args.defers c.args.dues.now false in
    let s = serves g.P.TakePolicy.policy tells old terms past k.holds c.requires.up in
    let forces = initiates_is terms past c.args.tid c.args.dues.now None (sym none) in
    let served = sent_tables terms past event c.args.tid c.args.taken c.args.defers c.args.dues.now old.tables.exec (after_taken c.args.tid c.args.taken old.tables.exec) i false old.tables c.take_reply.new.self c.sent.new.self
    refl c.take_reply.ensures.known c.take_reply.ensures.exec c.take_reply.ensures.stages c.take_reply.ensures.committed c.take_reply.ensures.graph c.sent.ensures.known c.sent.ensures.stages c.sent.ensures.exec c.sent.ensures.committed c.sent.ensures.graph s in
    pending_quiet g.P.TakePolicy.policy tells step core seen terms past event x
    (sent_pending terms past event c.args.tid c.args.taken c.args.defers c.args.dues.now old.tables.exec (after_taken c.args.tid c.args.taken old.tables.exec) i false g.P.TakePolicy.policy tells step old core
    seen seen None k forces (sym none) c.said-answer.ensures c.in-Ok.ensures k.stored
    (up_is g.P.TakePolicy.policy tells old terms past k.holds c.requires.up) refl refl refl served)
    c.requires.up
