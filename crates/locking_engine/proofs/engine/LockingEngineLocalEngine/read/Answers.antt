use Rattle.std.proofs.Common.{◌≡◌, ℕ, Some, None, refl, sym, ap, ◌∙◌, subst}
use Rattle.std.proofs.lemmas.Option.{same_Some}
use Rattle.mdb_base.specs.declared.names.Engine.TheVariants.{Locking}
use Rattle.mdb_base.specs.declared.acts.PlainAct.TheVariants.{Read}
use Rattle.fed_rules.specs.Runs.{Access, after}
use Rattle.fed_rules.specs.Replies.{access_key}
use Rattle.run_book.specs.Held.{Held}
use Rattle.run_book.specs.Book.{grants, table_in}
use Rattle.run_book.proofs.ForCallers.{live_held, of_found}
use Rattle.locking_engine.specs.Holders.{IsStop, held_by, place_of}
use Rattle.locking_engine.proofs.Lines.{stands_read}
use Rattle.locking_engine.proofs.Numbers.{right_value, stands_stopped}
use Rattle.locking_engine.proofs.engine.LockingEngineLocalEngine.read.Goals as goal

pub returns-in-Some-clause-answered : goal.returns-in-Some-clause-answered
returns-in-Some-clause-answered c =
    let old = c.args.self.now in
    let here = live_held Locking old.book.book c.requires.start c.requires.lines c.args.tid c.requires.stood.keeps.keeps c.requires.holds in
    let age = c.age-age.ensures ∙ ap (λ (h : Held). h.run.age) (same_Some c.run.result.now here.held (sym c.run.ensures ∙ here.found)) in
    let is = subst (λ (n : ℕ). IsStop old.readers old.writers n (Read c.args.key) (Some c.in-Some.stop)) age c.in-Some.ensures in
    λ start lines s. rw c.stop.ensures.answer
    (stands_stopped old c.stop.new.self start lines c.args.tid here.held (Read c.args.key) c.in-Some.stop s here.found here.live is c.stop.ensures.stopped)

pub returns-clause-answered : goal.returns-clause-answered
returns-clause-answered c =
    let old = c.args.self.now in
    let book = old.book.book in
    let here = live_held Locking book c.requires.start c.requires.lines c.args.tid c.requires.stood.keeps.keeps c.requires.holds in
    let age = c.age-age.ensures ∙ ap (λ (h : Held). h.run.age) (same_Some c.run.result.now here.held (sym c.run.ensures ∙ here.found)) in
    let free = subst (λ (n : ℕ). IsStop old.readers old.writers n (Read c.args.key) None) age c.in_default.ensures in
    let value = of_found (λ h. c.value_for-value.result ≡ after h.run.acts (table_in book) c.args.key) _ here.held here.found c.value_for-value.ensures in
    let held = c.in_ok-grant.ensures.held ∙ ap (λ (n : ℕ). held_by (place_of (access_key c.read-access.result) n) c.args.tid old.readers) age in
    λ start lines s.
    stands_read old _ start lines c.args.tid here.held c.args.key c.value_for-value.result s here.found
    (right_value old start lines s c.args.tid here.held here.found c.args.key c.value_for-value.result here.live free value)
    (c.in_ok-grant.ensures.granted ∙ ap (λ (a : Access). grants c.args.tid a book) c.read-access.ensures)
    (held ∙ ap (λ (a : Access). held_by (place_of (access_key a) here.held.run.age) c.args.tid old.readers) c.read-access.ensures) refl refl
