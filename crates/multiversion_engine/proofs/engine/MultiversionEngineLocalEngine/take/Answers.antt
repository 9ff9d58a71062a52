use Rattle.std.proofs.Common.{◌≡◌, ℕ, Some, None, refl, sym, ap, ◌∙◌, subst}
use Rattle.std.specs.FinMap.{get, remove}
use Rattle.std.proofs.lemmas.Option.{same_Some}
use Rattle.mdb_base.specs.declared.names.Engine.TheVariants.{Multiversion}
use Rattle.fed_rules.specs.Replies.{age_of}
use Rattle.run_book.specs.Takers.{ByAge, Takers, with_taker}
use Rattle.run_book.specs.Stops.{IsTicketStop}
use Rattle.run_book.proofs.ForCallers.{put-gone, run_at-held, ticketless_held, unlisted}
use Rattle.run_book.specs.declared.rival.Rival.{Rival}
use Rattle.run_book.specs.Rivals.{rival_by}
use Rattle.run_book.specs.Held.{Held}
use Rattle.run_book.specs.Book.{tickets}
use Rattle.multiversion_engine.proofs.Lines.{stands_kept}
use Rattle.multiversion_engine.proofs.Replies.{stands_ticket_stopped, stands_took}
use Rattle.multiversion_engine.proofs.engine.MultiversionEngineLocalEngine.take.Goals as goal

pub returns-in-Some-clause-answered : goal.returns-in-Some-clause-answered
returns-in-Some-clause-answered c =
    let old = c.args.self.now in
    let here = ticketless_held Multiversion old.book.book c.requires.start c.requires.lines c.args.tid c.requires.stood.keeps.keeps c.requires.holds in
    let same = same_Some c.run.result.now here.held (sym c.run.ensures ∙ here.found) in
    let rank : c.by_age-run.result.rank ≡ here.held.run.age = ap (λ (r : Rival). r.rank) c.by_age-run.ensures ∙ ap (λ (h : Held). h.run.age) same in
    let is = subst (λ (n : ℕ). IsTicketStop old.takers n (Some c.in-Some.stop)) rank c.in-Some.ensures in
    λ start lines s. rw c.stop-in-Some.ensures.answer
    (stands_ticket_stopped old start lines s c.args.tid here.held here.found c.stop-in-Some.new.self c.in-Some.stop here.live here.ticketless is c.stop-in-Some.ensures.stopped)

pub returns-in_default-take-clause-memory : goal.returns-in_default-take-clause-memory
returns-in_default-take-clause-memory c =
    let old = c.args.self.now in
    let here = ticketless_held Multiversion old.book.book c.requires.start c.requires.lines c.args.tid c.requires.stood.keeps.keeps c.requires.holds in
    let same = same_Some c.run.result.now here.held (sym c.run.ensures ∙ here.found) in
    let run = c.by_age-run.result in
    let rank : run.rank ≡ here.held.run.age = ap (λ (r : Rival). r.rank) c.by_age-run.ensures ∙ ap (λ (h : Held). h.run.age) same in
    λ start lines s.
    let k = s.keeps.keeps in
    let at = run_at-held Multiversion old.book.book start lines c.args.tid here.held k here.found in
    let none : get old.takers.unended run.rank ≡ None =
    ap (λ (n : ℕ). get old.takers.unended n) rank
    ∙ (ap (λ (m : ByAge). get m here.held.run.age) s.ages.unended ∙ unlisted start lines c.args.tid here.held.run k.starts k.right at here.ticketless) in
    stands_kept old _ start lines s c.in_default-take.ensures.memory c.in_default-take.ensures.room (λ key. refl)
    (c.leave.ensures
    ∙ (ap (λ (t : Takers). let left : Takers = record t { unended = remove t.unended run.rank } in left) c.in_ok-enter.ensures.entered
    ∙ ap (λ (m : ByAge). let left : Takers = record old.takers { unended = m } in left) (put-gone old.takers.unended run.rank run.tid none))) refl s.versions

pub returns-clause-answered : goal.returns-clause-answered
returns-clause-answered c =
    let old = c.args.self.now in
    let book = old.book.book in
    let here = ticketless_held Multiversion book c.requires.start c.requires.lines c.args.tid c.requires.stood.keeps.keeps c.requires.holds in
    let same = same_Some c.run.result.now here.held (sym c.run.ensures ∙ here.found) in
    let run = c.by_age-run.result in
    let rival : run ≡ rival_by age_of here.held.run = c.by_age-run.ensures ∙ ap (λ (h : Held). rival_by age_of h.run) same in
    let free = subst (λ (n : ℕ). IsTicketStop old.takers n None) (ap (λ (r : Rival). r.rank) rival) c.in_default.ensures in
    λ start lines s.
    stands_took old start lines s c.args.tid here.held here.found _ c.in-Ok.ticket here.live here.ticketless free c.in-Ok.ensures.ticket
    (c.in-Ok.ensures.taken ∙ ap (λ (n : ℕ). tickets c.args.tid n book) (sym c.in-Ok.ensures.ticket)) refl
    (c.hold.ensures
    ∙ (ap (λ (t : Takers). let held : Takers = record t { live = Some run } in held) c.in_ok-enter.ensures.entered
    ∙ ap (λ (r : Rival). let held : Takers = record old.takers { unended = with_taker r old.takers.unended; live = Some r } in held) rival)) refl refl
