use Rattle.std.proofs.Common.{◌≡◌, Some, None, refl, sym, ap, ◌∙◌}
use Rattle.std.proofs.lemmas.Option.{same_Some}
use Rattle.mdb_base.specs.declared.names.Engine.TheVariants.{Multiversion}
use Rattle.mdb_base.specs.declared.acts.PlainAct.TheVariants.{Write}
use Rattle.mdb_base.proofs.ForCallers.{on_err_anyway}
use Rattle.fed_rules.specs.Runs.{Access}
use Rattle.fed_rules.specs.Replies.{age_of}
use Rattle.run_book.specs.Rivals.{rival_by}
use Rattle.run_book.specs.Held.{Held}
use Rattle.run_book.specs.Book.{grants}
use Rattle.run_book.proofs.ForCallers.{live_held, of_found}
use Rattle.multiversion_engine.specs.Stands.{write_stop}
use Rattle.multiversion_engine.proofs.Lines.{stands_kept}
use Rattle.multiversion_engine.proofs.Noting.{write_noted}
use Rattle.multiversion_engine.proofs.Replies.{olds_noted, write_is, write_shape, stands_wrote, stands_stopped}
use Rattle.multiversion_engine.proofs.engine.MultiversionEngineLocalEngine.write.Goals as goal

pub returns-in-Some-clause-answered : goal.returns-in-Some-clause-answered
returns-in-Some-clause-answered c =
    let old = c.args.self.now in
    let here = live_held Multiversion old.book.book c.requires.start c.requires.lines c.args.tid c.requires.stood.keeps.keeps c.requires.holds in
    let is = of_found (λ h. Some c.in-Some.stop ≡ write_stop old.accesses h.run c.args.key c.args.value) _ here.held here.found c.in-Some.ensures in
    λ start lines s. rw c.stop.ensures.answer
    (stands_stopped old start lines s c.args.tid here.held here.found c.stop.new.self (Write c.args.key c.args.value) c.in-Some.stop here.live
    (is ∙ write_is old start lines s c.args.tid here.held here.found c.args.key c.args.value) (write_shape old.accesses here.held.run c.args.key c.args.value c.in-Some.stop (sym is)) c.stop.ensures.stopped)

pub returns-in_err-grant-clause-memory : goal.returns-in_err-grant-clause-memory
returns-in_err-grant-clause-memory c =
    let old = c.args.self.now in
    on_err_anyway c.from_residual-in_err-grant.result
    (λ start lines s.
    stands_kept old _ start lines s c.in_err-grant.ensures.memory c.in_err-grant.ensures.room c.in_ok-make_room.ensures.same refl refl
    (olds_noted old start lines s c.args.key c.note.new.olds c.in_ok-note.ensures.noted).0)

pub returns-clause-answered : goal.returns-clause-answered
returns-clause-answered c =
    let old = c.args.self.now in
    let book = old.book.book in
    let here = live_held Multiversion book c.requires.start c.requires.lines c.args.tid c.requires.stood.keeps.keeps c.requires.holds in
    let free = of_found (λ h. None ≡ write_stop old.accesses h.run c.args.key c.args.value) _ here.held here.found c.in_default.ensures in
    let same = same_Some c.run.result.now here.held (sym c.run.ensures ∙ here.found) in
    let rival : c.by_age-run.result ≡ rival_by age_of here.held.run = c.by_age-run.ensures ∙ ap (λ (h : Held). rival_by age_of h.run) same in
    λ start lines s.
    stands_wrote old start lines s c.args.tid here.held here.found _ c.args.key c.args.value here.live (sym free)
    (c.in_ok-grant.ensures.granted ∙ ap (λ (a : Access). grants c.args.tid a book) c.write.ensures)
    (write_noted old.accesses c.make_room.new.self c.write-2.new.self c.args.key c.by_age-run.result (rival_by age_of here.held.run) rival c.in_ok-make_room.ensures.same c.write-2.ensures) refl refl
    c.in_ok-note.ensures.noted
