use Rattle.std.proofs.Common.{◌≡◌, ℕ, ◌+◌, Some, None, refl, sym, ap, ◌∙◌}
use Rattle.std.specs.FinMap.{get, remove}
use Rattle.std.proofs.lemmas.Option.{same_Some}
use Rattle.mdb_base.specs.declared.names.Engine.TheVariants.{Timestamp}
use Rattle.mdb_base.specs.declared.replies.Reply.TheVariants.{Ticket}
use Rattle.fed_rules.specs.Runs.{Takes}
use Rattle.fed_rules.specs.Replies.{age_of}
use Rattle.run_book.specs.declared.counters.Counters.{Counters}
use Rattle.run_book.specs.declared.rival.Rival.{Rival}
use Rattle.run_book.specs.Book.{tickets}
use Rattle.run_book.specs.Held.{Held}
use Rattle.run_book.specs.Rivals.{rival_by}
use Rattle.run_book.proofs.ForCallers.{of_found, put-gone, ticketless_held}
use Rattle.run_book.specs.Takers.{ByAge, Takers, with_taker}
use Rattle.run_book.specs.Stops.{IsTicketStop}
use Rattle.timestamp_engine.proofs.Lines.{at, no_taker, right_take, stands_called, stands_same, stands_ticket_stopped}
use Rattle.timestamp_engine.proofs.engine.TimestampEngineLocalEngine.take.Goals as goal

pub returns-in-Some-clause-answered : goal.returns-in-Some-clause-answered
returns-in-Some-clause-answered c =
    let old = c.args.self.now in
    let here = ticketless_held Timestamp old.book.book c.requires.start c.requires.lines c.args.tid c.requires.stood.keeps.keeps c.requires.holds in
    let is = of_found (λ h. IsTicketStop old.takers h.run.age (Some c.in-Some.stop)) _ here.held here.found c.in-Some.ensures in
    λ start lines s. rw c.stop.ensures.answer
    (stands_ticket_stopped old c.stop.new.self start lines c.args.tid here.held c.in-Some.stop s here.found here.live here.ticketless is c.stop.ensures.stopped)

pub returns-in_default-take-clause-memory : goal.returns-in_default-take-clause-memory
returns-in_default-take-clause-memory c =
    let old = c.args.self.now in
    let here = ticketless_held Timestamp old.book.book c.requires.start c.requires.lines c.args.tid c.requires.stood.keeps.keeps c.requires.holds in
    let same = same_Some c.run.result.now here.held (sym c.run.ensures ∙ here.found) in
    let run = c.by_age-run.result in
    let rival : run ≡ rival_by age_of here.held.run = c.by_age-run.ensures ∙ ap (λ (h : Held). rival_by age_of h.run) same in
    λ start lines s.
    let none : get old.takers.unended run.rank ≡ None = ap (λ (r : Rival). get old.takers.unended r.rank) rival ∙ no_taker old start lines s c.args.tid here.held here.found here.ticketless in
    stands_same old _ start lines c.in_default-take.ensures.memory c.in_default-take.ensures.room (λ q. refl)
    (c.leave.ensures ∙ (ap (λ (t : Takers). let u : Takers = record t { unended = remove t.unended run.rank } in u) c.in_ok-enter.ensures.entered
    ∙ ap (λ (m : ByAge). let u : Takers = record old.takers { unended = m } in u) (put-gone old.takers.unended run.rank run.tid none))) s

pub returns-clause-answered : goal.returns-clause-answered
returns-clause-answered c =
    let old = c.args.self.now in
    let book = old.book.book in
    let here = ticketless_held Timestamp book c.requires.start c.requires.lines c.args.tid c.requires.stood.keeps.keeps c.requires.holds in
    let free = of_found (λ h. IsTicketStop old.takers h.run.age None) _ here.held here.found c.in_default.ensures in
    let same = same_Some c.run.result.now here.held (sym c.run.ensures ∙ here.found) in
    let run = c.by_age-run.result in
    let rival : run ≡ rival_by age_of here.held.run = c.by_age-run.ensures ∙ ap (λ (h : Held). rival_by age_of h.run) same in
    λ start lines s.
    stands_called old _ start lines (Takes c.args.tid (Ticket c.in-Ok.ticket)) here.held.run s
    (right_take old start lines s c.args.tid here.held here.found (Ticket c.in-Ok.ticket) None here.live here.ticketless free
    (ap (λ (n : ℕ). Ticket n) (c.in-Ok.ensures.ticket ∙ ap (λ (m : Counters). m.published + 1) s.keeps.keeps.counters)))
    (at old start lines s c.args.tid here.held here.found) (c.in-Ok.ensures.taken ∙ ap (λ (n : ℕ). tickets c.args.tid n book) (sym c.in-Ok.ensures.ticket)) (
      λ q. refl,
      c.hold.ensures ∙ (ap (λ (t : Takers). let u : Takers = record t { live = Some run } in u) c.in_ok-enter.ensures.entered
          ∙ ap (λ (r : Rival). let u : Takers = record old.takers { unended = with_taker r old.takers.unended; live = Some r } in u) rival),
    )
