use Rattle.std.proofs.Common.{◌∙◌, Option, ℕ, reverse, take, get_or, ap, ap₂, sym}
use Rattle.fed_rules.specs.declared.records.SiteRecord.{SiteRecord}
use Rattle.fed_rules.specs.Usable.{TicketsRise}
use Rattle.usable_journals.specs.SiteTests as tests
use Rattle.usable_journals.proofs.Recording.{reverse_more}
use Rattle.usable_journals.proofs.SiteReflected.{TicketFits, ticket_back, ticket_there, tickets_more, tickets_parts, walked, walks_on}
use Rattle.usable_journals.proofs.site_tickets.tickets_rise.Goals as goal

pub returns-then-not-fits : goal.returns-then-not-fits
returns-then-not-fits c =
    let i = c.loop-entry.entry-index in
    let records = c.args.records.now in
    let x = c.entry-item.result in (
      λ e. absurd cc,
      λ all.
          sym c.if-not-fits.true ∙ c.fits.ensures ∙ ap₂ (λ (o : Option ℕ) (r : SiteRecord). tests.ticket_fits o r) c.loop-entry.invariant.floor c.entry-item.is
          ∙ ticket_back (get_or records i x) (reverse (take i records)) (walked TicketsRise TicketFits tickets_parts records i x c.loop-entry-test.true all),
    )

pub loop-entry-preserved : goal.loop-entry-preserved
loop-entry-preserved c =
    let i = c.loop-entry.entry-index in
    let records = c.args.records.now in
    let x = c.entry-item.result in
    record {
      floor =
          c.floor_after-floor.ensures ∙ ap₂ (λ (o : Option ℕ) (r : SiteRecord). tests.floor_after o r) c.loop-entry.invariant.floor c.entry-item.is
          ∙ ap tests.floor_of (sym (reverse_more records i x c.loop-entry-test.true));
      rise =
          walks_on TicketsRise TicketFits tickets_more records i x c.loop-entry-test.true c.loop-entry.invariant.rise
          (ticket_there (get_or records i x) (reverse (take i records))
          (ap₂ (λ (o : Option ℕ) (r : SiteRecord). tests.ticket_fits o r) (sym c.loop-entry.invariant.floor) (sym c.entry-item.is) ∙ sym c.fits.ensures ∙ c.if-not-fits.false));
    }
