use Rattle.std.proofs.Common.{sym, ap, ◌∙◌}
use Rattle.std.specs.Prelude.{option_copied}
use Rattle.coord_tables.proofs.Initiations.{forced_is, known_rise, known_some, none_forced}
use Rattle.coord_tables.proofs.tables.Tables.initiation.Goals as goal

pub returns-then-not-lacks_initiation : goal.returns-then-not-lacks_initiation
returns-then-not-lacks_initiation c = λ terms past sound s u.
    let k = known_some c.args.self.now terms past c.args.tid c.in-Some.known.now s u (sym c.known.ensures ∙ ap option_copied c.in-Some.is) in
    sym (none_forced terms past c.args.tid c.in-Some.known.now c.args.dues.now c.some_prepare.result c.lacks_initiation.result k c.some_prepare.ensures c.lacks_initiation.ensures c.if-not-lacks_initiation.true)

pub participants_of-requires : goal.participants_of-requires
participants_of-requires c =
    let r = c.requires in
    let k = known_some c.args.self.now r.terms r.past c.args.tid c.in-Some.known.now r.serving r.holds (sym c.known.ensures ∙ ap option_copied c.in-Some.is) in
    known_rise r.terms r.past c.args.tid c.in-Some.known.now r.sound k

pub returns : goal.returns
returns c = λ terms past sound s u.
    let k = known_some c.args.self.now terms past c.args.tid c.in-Some.known.now s u (sym c.known.ensures ∙ ap option_copied c.in-Some.is) in
    sym (forced_is terms past c.args.tid c.in-Some.known.now c.args.dues.now c.some_prepare.result c.lacks_initiation.result c.in_ok-participants-in-Some.participants k c.some_prepare.ensures c.if-not-some_prepare.false
    c.lacks_initiation.ensures c.if-not-lacks_initiation.false c.in_ok-participants-in-Some.ensures)
