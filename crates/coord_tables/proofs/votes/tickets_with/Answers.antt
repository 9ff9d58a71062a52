use Rattle.std.proofs.Common.{List, map, sym, ap, subst, ◌∙◌}
use Rattle.std.proofs.lemmas.List.{take_all}
use Rattle.mdb_base.specs.declared.names.SiteTicket.{SiteTicket}
use Rattle.mdb_base.specs.Rising.{IsRising}
use Rattle.protocol_table.specs.declared.members.Member.{Member}
use Rattle.coord_tables.specs.Voting.{ticket_with}
use Rattle.coord_tables.proofs.Voting.{tickets_rise}
use Rattle.coord_tables.proofs.votes.tickets_with.Goals as goal

pub of-requires : goal.of-requires
of-requires c =
    let items = c.loop-member.invariant ∙ ap (λ (ms : List Member). map (ticket_with c.args.site c.args.ticket) ms) (take_all c.loop-member.member-index c.as_slice-member-items.result.now c.loop-member-test.false ∙ c.as_slice-member-items.ensures) in
    subst (λ (ks : List SiteTicket). IsRising (λ k. k.site.0) ks) (sym items) (tickets_rise c.args.site c.args.ticket c.args.members.now c.requires)
