use Rattle.std.proofs.Common.{ℕ, Some, None, refl, sym, ap, ◌∙◌, subst}
use Rattle.std.proofs.lemmas.Option.{same_Some}
use Rattle.mdb_base.specs.declared.names.Engine.TheVariants.{Locking}
use Rattle.mdb_base.specs.declared.acts.PlainAct.TheVariants.{Write}
use Rattle.mdb_base.specs.declared.replies.Reply.TheVariants.{Done}
use Rattle.fed_rules.specs.Runs.{Access}
use Rattle.fed_rules.specs.Replies.{access_key}
use Rattle.run_book.specs.Held.{Held}
use Rattle.run_book.specs.Book.{grants}
use Rattle.run_book.proofs.ForCallers.{live_held}
use Rattle.locking_engine.specs.Holders.{IsStop, held_by, place_of}
use Rattle.locking_engine.proofs.Lines.{stands_wrote}
use Rattle.locking_engine.proofs.Numbers.{right_access, stands_stopped}
use Rattle.locking_engine.proofs.engine.LockingEngineLocalEngine.write.Goals as goal

pub returns-in-Some-clause-answered : goal.returns-in-Some-clause-answered
returns-in-Some-clause-answered c =
    let old = c.args.self.now in
    let act = Write c.args.key c.args.value in
    let here = live_held Locking old.book.book c.requires.start c.requires.lines c.args.tid c.requires.stood.keeps.keeps c.requires.holds in
    let age = c.age-age.ensures ∙ ap (λ (h : Held). h.run.age) (same_Some c.run.result.now here.held (sym c.run.ensures ∙ here.found)) in
    let is = subst (λ (n : ℕ). IsStop old.readers old.writers n act (Some c.in-Some.stop)) age c.in-Some.ensures in
    λ start lines s. rw c.stop.ensures.answer
    (stands_stopped old c.stop.new.self start lines c.args.tid here.held act c.in-Some.stop s here.found here.live is c.stop.ensures.stopped)

pub returns-clause-answered : goal.returns-clause-answered
returns-clause-answered c =
    let old = c.args.self.now in
    let book = old.book.book in
    let act = Write c.args.key c.args.value in
    let here = live_held Locking book c.requires.start c.requires.lines c.args.tid c.requires.stood.keeps.keeps c.requires.holds in
    let age = c.age-age.ensures ∙ ap (λ (h : Held). h.run.age) (same_Some c.run.result.now here.held (sym c.run.ensures ∙ here.found)) in
    let free = subst (λ (n : ℕ). IsStop old.readers old.writers n act None) age c.in_default.ensures in
    let held = c.in_ok-grant.ensures.held ∙ ap (λ (n : ℕ). held_by (place_of (access_key c.write-access.result) n) c.args.tid old.writers) age in
    λ start lines s.
    stands_wrote old _ start lines c.args.tid here.held c.args.key c.args.value s here.found
    (right_access old start lines s c.args.tid here.held here.found act Done None here.live free refl)
    (c.in_ok-grant.ensures.granted ∙ ap (λ (a : Access). grants c.args.tid a book) c.write-access.ensures) refl
    (held ∙ ap (λ (a : Access). held_by (place_of (access_key a) here.held.run.age) c.args.tid old.writers) c.write-access.ensures) refl
