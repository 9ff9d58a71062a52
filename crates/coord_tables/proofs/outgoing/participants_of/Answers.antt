use Rattle.std.proofs.Common.{List, map, sym, ap, subst, ◌∙◌}
use Rattle.std.proofs.lemmas.List.{take_all}
use Rattle.mdb_base.specs.Rising.{IsRising}
use Rattle.presumptions.specs.declared.Participant.{Participant}
use Rattle.protocol_table.specs.declared.members.Member.{Member}
use Rattle.protocol_table.specs.Attempts.{participant_of}
use Rattle.coord_tables.proofs.Outflow.{members_rise}
use Rattle.coord_tables.proofs.outgoing.participants_of.Goals as goal

pub of-requires : goal.of-requires
of-requires c =
    let items = c.loop-member.invariant ∙ ap (λ (ms : List Member). map participant_of ms) (take_all c.loop-member.member-index c.as_slice-member-items.result.now c.loop-member-test.false ∙ c.as_slice-member-items.ensures) in
    subst (λ (ps : List Participant). IsRising (λ p. p.site.0) ps) (sym items) (members_rise c.args.members.now c.requires)
