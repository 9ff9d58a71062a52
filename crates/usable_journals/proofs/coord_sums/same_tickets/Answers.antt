use Rattle.std.proofs.Common.{List, ap₂, ◌∙◌}
use Rattle.std.proofs.lemmas.Slice.Eq.{slice_eq-Decides}
use Rattle.std.specs.Cmp.Lexicographic.{pointwise}
use Rattle.mdb_base.specs.declared.names.SiteTicket.{SiteTicket}
use Rattle.usable_journals.specs.CoordTests.{same_ticket}
use Rattle.usable_journals.proofs.SameLists.{ticket_decides}
use Rattle.usable_journals.proofs.coord_sums.same_tickets.Goals as goal

pub returns : goal.returns
returns c =
    slice_eq-Decides ticket_decides c.args.one.now c.args.other.now c.tickets_match.result
    (c.tickets_match.ensures ∙ ap₂ (λ (xs ys : List SiteTicket). pointwise same_ticket xs ys) c.as_slice.ensures.items c.as_slice-2.ensures.items)
