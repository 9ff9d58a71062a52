use Rattle.std.proofs.Common.{List, Some, sym, ap, ◌∙◌}
use Rattle.std.specs.Prelude.{option_copied}
use Rattle.std.proofs.lemmas.Bool.{cond-true, cond-false}
use Rattle.mdb_base.specs.declared.names.SiteTicket.{SiteTicket}
use Rattle.mdb_base.specs.Words.{each_of}
use Rattle.protocol_table.specs.declared.members.Member.{Member}
use Rattle.coord_tables.specs.Voting.{votes_with}
use Rattle.coord_tables.proofs.Initiations.{known_rise, known_some}
use Rattle.coord_tables.proofs.Voting.{last_by, vote_open}
use Rattle.coord_tables.proofs.tables.Tables.last_tickets.Goals as goal

pub tickets_with-requires : goal.tickets_with-requires
tickets_with-requires c =
    let r = c.requires in
    known_rise r.terms r.past c.args.tid c.in-Some.known.now r.sound (known_some c.args.self.now r.terms r.past c.args.tid c.in-Some.known.now r.serving r.holds (sym c.known.ensures ∙ ap option_copied c.in-Some.is))

pub returns-then-not-all_vote_with : goal.returns-then-not-all_vote_with
returns-then-not-all_vote_with c = λ terms past sound s counted.
    let k = known_some c.args.self.now terms past c.args.tid c.in-Some.known.now s (vote_open past c.args.site c.args.tid counted.counts) (sym c.known.ensures ∙ ap option_copied c.in-Some.is) in
    sym (cond-false _ _ _ c.if-not-all_vote_with.true) ∙ last_by terms past c.args.site c.args.tid c.args.ticket counted c.in-Some.known.now k c.all_vote_with.result
    (c.all_vote_with.ensures ∙ ap (λ (ms : List Member). each_of (votes_with c.args.site c.args.ticket) ms) c.as_slice.ensures)

pub returns : goal.returns
returns c = λ terms past sound s counted.
    let k = known_some c.args.self.now terms past c.args.tid c.in-Some.known.now s (vote_open past c.args.site c.args.tid counted.counts) (sym c.known.ensures ∙ ap option_copied c.in-Some.is) in
    ap (λ (ks : List SiteTicket). Some ks) c.in_ok-tickets-in-Some.ensures ∙ sym (cond-true _ _ _ c.if-not-all_vote_with.false)
    ∙ last_by terms past c.args.site c.args.tid c.args.ticket counted c.in-Some.known.now k c.all_vote_with.result
    (c.all_vote_with.ensures ∙ ap (λ (ms : List Member). each_of (votes_with c.args.site c.args.ticket) ms) c.as_slice.ensures)
