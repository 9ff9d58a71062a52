use Rattle.std.proofs.Common.{[], ◌∷◌, ◌++◌, List, sym, ap, ◌∙◌}
use Rattle.mdb_base.specs.declared.names.SiteTicket.{SiteTicket}
use Rattle.audit_lines.proofs.Candidates.{ticket_more, none_more}
use Rattle.audit_lines.proofs.votes.tickets_with.Goals as goal
use Rattle.audit_lines.proofs.votes.tickets_with.Goals.{in-Some+in_ok-push-in-Some, in-None}

pub loop-member-preserved : goal.loop-member-preserved
loop-member-preserved c =
    let members = c.args.members.now in
    let i = c.loop-member.member-index in
    elim c.match-ticket_with.branch [
      | in-Some+in_ok-push-in-Some w ↦
          ap (λ (v : _). v.items) w.tickets-is
          ∙ (w.in_ok-push-in-Some.ensures.items
          ∙ (ap (λ (ts : List SiteTicket). ts ++ w.in-Some.ticket ∷ []) c.loop-member.invariant
          ∙ ticket_more c.args.site c.args.vote members i _ c.loop-member-test.true w.in-Some.ticket (sym c.ticket_with.ensures ∙ w.in-Some.is)))
      | in-None w ↦
          ap (λ (v : _). v.items) w.tickets-is
          ∙ (c.loop-member.invariant ∙ none_more c.args.site c.args.vote members i _ c.loop-member-test.true (sym c.ticket_with.ensures ∙ w.in-None.is))
    ]
