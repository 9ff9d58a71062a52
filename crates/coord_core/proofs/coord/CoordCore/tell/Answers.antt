use Rattle.std.proofs.Common.{List, sym, ap, ◌∙◌}
use Rattle.std.specs.Prelude.{option_copied}
use Rattle.presumptions.specs.declared.Participant.{Participant}
use Rattle.fed_rules.specs.Coord.{decide_to}
use Rattle.coord_tables.proofs.ForCallers.{decided_some, missing_is, missing_rise}
use Rattle.coord_core.proofs.Still.{serves}
use Rattle.std.proofs.Common.{true}
use Rattle.coord_core.proofs.coord.CoordCore.tell.Goals as goal

pub missing_of-requires : goal.missing_of-requires
missing_of-requires g c =
    let m = c.requires.may in
    let s = serves g.P.TakePolicy.policy true c.args.self.now m.terms m.past m.stood c.requires.up in
    missing_rise m.terms m.past c.args.tid c.args.decision c.in-Some.known.now m.stood.sound
    (decided_some c.args.self.now.tables m.terms m.past c.args.tid c.args.decision c.in-Some.known.now s m.holds (sym c.known.ensures ∙ ap option_copied c.in-Some.is))

pub returns-clause-sends : goal.returns-clause-sends
returns-clause-sends g c = λ terms past h st.
    let s = serves g.P.TakePolicy.policy true c.args.self.now terms past h c.requires.up in
    let k = decided_some c.args.self.now.tables terms past c.args.tid c.args.decision c.in-Some.known.now s st (sym c.known.ensures ∙ ap option_copied c.in-Some.is) in
    c.in-Ok-decide_to.ensures
    ∙ ap (λ (ps : List Participant). decide_to c.args.tid c.args.decision ps) (c.in-Ok.ensures ∙ missing_is terms past c.args.tid c.args.decision c.in-Some.known.now k)
