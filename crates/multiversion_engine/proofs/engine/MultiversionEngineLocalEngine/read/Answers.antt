use Rattle.std.proofs.Common.{◌≡◌, Some, None, refl, sym, ap, ◌∙◌}
use Rattle.std.proofs.lemmas.Option.{same_Some}
use Rattle.mdb_base.specs.declared.names.Engine.TheVariants.{Multiversion}
use Rattle.mdb_base.specs.declared.acts.PlainAct.TheVariants.{Read}
use Rattle.fed_rules.specs.Runs.{Access}
use Rattle.fed_rules.specs.Replies.{age_of}
use Rattle.run_book.specs.Rivals.{rival_by}
use Rattle.run_book.specs.Held.{Held}
use Rattle.run_book.specs.Book.{grants}
use Rattle.run_book.proofs.ForCallers.{live_held, of_found}
use Rattle.multiversion_engine.specs.Stands.{read_stop, IsValueFor}
use Rattle.multiversion_engine.proofs.Noting.{read_noted}
use Rattle.multiversion_engine.proofs.Replies.{read_is, read_shape, stands_read, stands_stopped}
use Rattle.multiversion_engine.proofs.engine.MultiversionEngineLocalEngine.read.Goals as goal

pub returns-in-Some-clause-answered : goal.returns-in-Some-clause-answered
returns-in-Some-clause-answered c =
    let old = c.args.self.now in
    let here = live_held Multiversion old.book.book c.requires.start c.requires.lines c.args.tid c.requires.stood.keeps.keeps c.requires.holds in
    let is = of_found (λ h. Some c.in-Some.stop ≡ read_stop old.accesses h.run c.args.key) _ here.held here.found c.in-Some.ensures in
    λ start lines s. rw c.stop.ensures.answer
    (stands_stopped old start lines s c.args.tid here.held here.found c.stop.new.self (Read c.args.key) c.in-Some.stop here.live
    (is ∙ read_is old start lines s c.args.tid here.held here.found c.args.key) (read_shape old.accesses here.held.run c.args.key c.in-Some.stop (sym is)) c.stop.ensures.stopped)

pub returns-clause-answered : goal.returns-clause-answered
returns-clause-answered c =
    let old = c.args.self.now in
    let book = old.book.book in
    let here = live_held Multiversion book c.requires.start c.requires.lines c.args.tid c.requires.stood.keeps.keeps c.requires.holds in
    let free = of_found (λ h. None ≡ read_stop old.accesses h.run c.args.key) _ here.held here.found c.in_default.ensures in
    let value = of_found (λ h. IsValueFor book old.olds h.run c.args.key c.value_for-value.result) _ here.held here.found c.value_for-value.ensures in
    let same = same_Some c.run.result.now here.held (sym c.run.ensures ∙ here.found) in
    let rival : c.by_age-run.result ≡ rival_by age_of here.held.run = c.by_age-run.ensures ∙ ap (λ (h : Held). rival_by age_of h.run) same in
    λ start lines s.
    stands_read old start lines s c.args.tid here.held here.found _ c.args.key c.value_for-value.result here.live (sym free) value
    (c.in_ok-grant.ensures.granted ∙ ap (λ (a : Access). grants c.args.tid a book) c.read.ensures)
    (read_noted old.accesses c.make_room.new.self c.read-2.new.self c.args.key c.by_age-run.result (rival_by age_of here.held.run) rival c.in_ok-make_room.ensures.same c.read-2.ensures) refl refl refl
