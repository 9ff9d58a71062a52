use Rattle.std.proofs.Common.{sym, ap, ◌∙◌}
use Rattle.std.specs.Prelude.{option_copied}
use Rattle.mdb_base.proofs.ForCallers.{map_ok}
use Rattle.coord_tables.proofs.Initiations.{known_rise, known_some, members_are}
use Rattle.coord_tables.proofs.tables.Tables.members.Goals as goal

pub participants_of-requires : goal.participants_of-requires
participants_of-requires c =
    let r = c.requires in
    known_rise r.terms r.past c.args.tid c.in-Some.known.now r.sound (known_some c.args.self.now r.terms r.past c.args.tid c.in-Some.known.now r.serving r.holds (sym c.known.ensures ∙ ap option_copied c.in-Some.is))

pub returns : goal.returns
returns c = map_ok _ _ c.participants_of.result c.participants_of.ensures (λ members is terms past sound s u.
    is ∙ members_are terms past c.args.tid c.in-Some.known.now (known_some c.args.self.now terms past c.args.tid c.in-Some.known.now s u (sym c.known.ensures ∙ ap option_copied c.in-Some.is)))
