use Rattle.std.proofs.Common.{◌≡◌, ℕ, ◌+◌, Some, None, Option, refl, sym, ap, ◌∙◌}
use Rattle.std.proofs.lemmas.Option.{same_Some}
use Rattle.mdb_base.specs.declared.names.Engine.TheVariants.{Locking}
use Rattle.mdb_base.specs.declared.names.Tid.{Tid}
use Rattle.mdb_base.specs.Words.{map_some}
use Rattle.fed_rules.specs.Replies.{age_of}
use Rattle.run_book.specs.declared.rival.Rival.{Rival}
use Rattle.run_book.specs.Held.{Held, held_in}
use Rattle.run_book.specs.Book.{Book, tickets, with_ticket}
use Rattle.run_book.specs.Rivals.{rival_by}
use Rattle.run_book.proofs.ForCallers.{held_in-changed_own, of_found, run_at-held, some-found, ticketless_held}
use Rattle.engine_laws.proofs.ForCallers.{tid_is}
use Rattle.locking_engine.specs.Rule.{stop_by}
use Rattle.locking_engine.proofs.Numbers.{stands_ticket_stopped, stands_took}
use Rattle.locking_engine.proofs.engine.LockingEngineLocalEngine.take.Goals as goal

pub returns-in-Some-clause-answered : goal.returns-in-Some-clause-answered
returns-in-Some-clause-answered c =
    let old = c.args.self.now in
    let here = ticketless_held Locking old.book.book c.requires.start c.requires.lines c.args.tid c.requires.stood.keeps.keeps c.requires.holds in
    let is = of_found (λ h. Some c.in-Some.stop ≡ stop_by h.run.age old.taker) _ here.held here.found c.in-Some.ensures in
    λ start lines s. rw c.stop.ensures.answer
    (stands_ticket_stopped old c.stop.new.self start lines c.args.tid here.held c.in-Some.stop s here.found here.live here.ticketless (sym is) c.stop.ensures.stopped)

pub run-requires : goal.run-requires
run-requires c =
    let book = c.args.self.now.book.book in
    let here = ticketless_held Locking book c.requires.start c.requires.lines c.args.tid c.requires.stood.keeps.keeps c.requires.holds in
    let change = with_ticket (book.counters.published + 1) in
    some-found _ (change here.held)
    (ap (λ (b : Book). held_in b.runs c.args.tid) c.in_ok-ticket.ensures.taken
    ∙ (held_in-changed_own book.runs c.args.tid change ∙ ap (λ (o : Option Held). map_some change o) here.found))

pub returns-clause-answered : goal.returns-clause-answered
returns-clause-answered c =
    let old = c.args.self.now in
    let book = old.book.book in
    let here = ticketless_held Locking book c.requires.start c.requires.lines c.args.tid c.requires.stood.keeps.keeps c.requires.holds in
    let free = of_found (λ h. None ≡ stop_by h.run.age old.taker) _ here.held here.found c.in_default.ensures in
    let change = with_ticket (book.counters.published + 1) in
    let then : held_in c.take.new.self.book.runs c.args.tid ≡ Some (change here.held) =
    ap (λ (b : Book). held_in b.runs c.args.tid) c.in_ok-ticket.ensures.taken
    ∙ (held_in-changed_own book.runs c.args.tid change ∙ ap (λ (o : Option Held). map_some change o) here.found) in
    let same = same_Some c.run.result.now (change here.held) (sym c.run.ensures ∙ then) in
    λ start lines s.
    let named = tid_is start lines s.keeps.keeps.right c.args.tid here.held.run (run_at-held Locking book start lines c.args.tid here.held s.keeps.keeps here.found) in
    stands_took old _ start lines c.args.tid here.held c.in_ok-ticket.ticket s here.found here.live here.ticketless (sym free) c.in_ok-ticket.ensures.ticket
    (c.in_ok-ticket.ensures.taken ∙ ap (λ (n : ℕ). tickets c.args.tid n book) (sym c.in_ok-ticket.ensures.ticket)) refl refl
    (ap (λ (r : Rival). Some r) (c.by_age.ensures ∙ (ap (λ (h : Held). rival_by age_of h.run) same ∙ ap (λ (t : Tid). let r : Rival = record { tid = t; rank = here.held.run.age } in r) named)))
