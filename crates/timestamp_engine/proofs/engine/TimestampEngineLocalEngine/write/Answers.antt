use Rattle.std.proofs.Common.{◌≡◌, cond, Some, None, refl, sym, ap, ◌∙◌}
use Rattle.std.proofs.lemmas.Option.{same_Some}
use Rattle.mdb_base.specs.declared.names.Engine.TheVariants.{Timestamp}
use Rattle.mdb_base.specs.declared.acts.PlainAct.TheVariants.{Write}
use Rattle.mdb_base.specs.declared.replies.Reply.TheVariants.{Done}
use Rattle.mdb_base.specs.Names.{same_key}
use Rattle.fed_rules.specs.Runs.{Acts, Access}
use Rattle.fed_rules.specs.Replies.{age_of}
use Rattle.run_book.specs.declared.rival.Rival.{Rival}
use Rattle.run_book.specs.Book.{grants}
use Rattle.run_book.specs.Held.{Held}
use Rattle.run_book.specs.Rivals.{rival_by}
use Rattle.run_book.proofs.ForCallers.{live_held, of_found}
use Rattle.run_book.specs.declared.key_ages.KeyAges.{KeyAges}
use Rattle.run_book.specs.Ages.{ages_of, with_writer}
use Rattle.run_book.specs.Stops.{key_stop}
use Rattle.timestamp_engine.proofs.Lines.{at, right_access, stands_called, stands_stopped}
use Rattle.timestamp_engine.proofs.engine.TimestampEngineLocalEngine.write.Goals as goal

pub returns-in-Some-clause-answered : goal.returns-in-Some-clause-answered
returns-in-Some-clause-answered c =
    let old = c.args.self.now in
    let act = Write c.args.key c.args.value in
    let here = live_held Timestamp old.book.book c.requires.start c.requires.lines c.args.tid c.requires.stood.keeps.keeps c.requires.holds in
    let is = of_found (λ h. Some c.in-Some.stop ≡ key_stop (ages_of old.accesses c.args.key) h.run.age act) _ here.held here.found c.in-Some.ensures in
    λ start lines s. rw c.stop.ensures.answer
    (stands_stopped old c.stop.new.self start lines c.args.tid here.held act c.in-Some.stop s here.found here.live is c.stop.ensures.stopped)

pub returns-clause-answered : goal.returns-clause-answered
returns-clause-answered c =
    let old = c.args.self.now in
    let book = old.book.book in
    let key = c.args.key in
    let act = Write key c.args.value in
    let here = live_held Timestamp book c.requires.start c.requires.lines c.args.tid c.requires.stood.keeps.keeps c.requires.holds in
    let free = of_found (λ h. None ≡ key_stop (ages_of old.accesses key) h.run.age act) _ here.held here.found c.in_default.ensures in
    let same = same_Some c.run.result.now here.held (sym c.run.ensures ∙ here.found) in
    let rival : c.by_age-run.result ≡ rival_by age_of here.held.run = c.by_age-run.ensures ∙ ap (λ (h : Held). rival_by age_of h.run) same in
    λ start lines s.
    stands_called old _ start lines (Acts c.args.tid act Done) here.held.run s (right_access old start lines s c.args.tid here.held here.found act Done None here.live free refl)
    (at old start lines s c.args.tid here.held here.found) (c.in_ok-grant.ensures.granted ∙ ap (λ (a : Access). grants c.args.tid a book) c.write.ensures) (
      λ q. c.write-2.ensures q
          ∙ (ap (λ (a : KeyAges). cond (same_key key q) (with_writer c.by_age-run.result a) a) (c.make_room.ensures.same q)
          ∙ ap (λ (r : Rival). cond (same_key key q) (with_writer r (ages_of old.accesses q)) (ages_of old.accesses q)) rival),
      refl,
    )
