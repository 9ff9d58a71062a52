use Rattle.std.proofs.Common.{true, sym, ap, ◌∙◌}
use Rattle.presumptions.specs.declared.Protocol.{Protocol}
use Rattle.fed_rules.specs.Coord.{protocol_of}
use Rattle.fed_rules.specs.CoordPast.{standing}
use Rattle.protocol_table.specs.Agreement.{told}
use Rattle.coord_tables.proofs.ForCallers.{asked_known, asked_presumed, asked_undecided, inquiry_is, said_told}
use Rattle.coord_core.proofs.Made.{made_err, made_ok}
use Rattle.coord_core.proofs.Still.{serves}
use Rattle.coord_core.proofs.Says.{says_as, says_ok}
use Rattle.coord_core.proofs.coord.CoordCore.inquire.Goals as goal

pub returns-in-Undecided-clause-says : goal.returns-in-Undecided-clause-says
returns-in-Undecided-clause-says g c = made_ok _ _ c.says.result c.says.ensures (λ step said_it terms past h.
    let s = serves g.P.TakePolicy.policy true c.args.self.now terms past h c.requires.up in
    let said = said_told c.args.self.now.tables terms past c.args.tid c.protocol_of.result s ∙ (sym c.answer.ensures ∙ c.in-Undecided.is) in
    says_as step _ _ (inquiry_is terms.protocols past c.args.site c.args.tid ∙ asked_undecided terms.protocols c.args.site c.args.tid c.protocol_of.result (standing terms.protocols past c.args.tid) said) said_it.0 said_it.1)

pub returns-in-Undecided-clause-why : goal.returns-in-Undecided-clause-why
returns-in-Undecided-clause-why g c = made_err _ _ c.says.result c.says.ensures

pub returns-in-Known-clause-says : goal.returns-in-Known-clause-says
returns-in-Known-clause-says g c =
    says_ok _ _ _ c.told.result c.told.ensures.answer c.told.ensures.sends (λ step answer sends terms past h.
    let s = serves g.P.TakePolicy.policy true c.args.self.now terms past h c.requires.up in
    let said = said_told c.args.self.now.tables terms past c.args.tid c.protocol_of.result s ∙ (sym c.answer.ensures ∙ c.in-Known.is) in
    says_as step _ _ (inquiry_is terms.protocols past c.args.site c.args.tid ∙ asked_known terms.protocols c.args.site c.args.tid c.protocol_of.result c.in-Known.decision (standing terms.protocols past c.args.tid) said) answer sends)

pub returns-in-Presumed-clause-says : goal.returns-in-Presumed-clause-says
returns-in-Presumed-clause-says g c =
    says_ok _ _ _ c.told-in-Presumed.result c.told-in-Presumed.ensures.answer c.told-in-Presumed.ensures.sends (λ step answer sends terms past h.
    let s = serves g.P.TakePolicy.policy true c.args.self.now terms past h c.requires.up in
    let protocol = c.protocol_of.ensures ∙ ap (λ ms. protocol_of ms c.args.site) h.protocols in
    let said = ap (λ (p : Protocol). told p (standing terms.protocols past c.args.tid)) (sym protocol) ∙ said_told c.args.self.now.tables terms past c.args.tid c.protocol_of.result s ∙ (sym c.answer.ensures ∙ c.in-Presumed.is) in
    says_as step _ _ (inquiry_is terms.protocols past c.args.site c.args.tid ∙ asked_presumed terms.protocols c.args.site c.args.tid c.in-Presumed.decision (standing terms.protocols past c.args.tid) said) answer sends)
