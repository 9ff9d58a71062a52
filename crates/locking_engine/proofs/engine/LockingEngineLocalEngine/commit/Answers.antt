use Rattle.std.proofs.Common.{refl, sym, ap, ◌∙◌}
use Rattle.std.proofs.lemmas.Option.{same_Some}
use Rattle.mdb_base.specs.declared.names.Engine.TheVariants.{Locking}
use Rattle.fed_rules.specs.Runs.{Commits}
use Rattle.fed_rules.specs.EngineLines.{IsRightLine}
use Rattle.run_book.specs.Held.{Held}
use Rattle.run_book.specs.Book.{RoomyBook}
use Rattle.run_book.proofs.ForCallers.{calls_well, run_at-held, sealed_held}
use Rattle.locking_engine.proofs.Lines.{stands_released}
use Rattle.locking_engine.proofs.engine.LockingEngineLocalEngine.commit.Goals as goal

pub returns : goal.returns
returns c =
    let old = c.args.self.now in
    let book = old.book.book in
    let here = sealed_held Locking book c.requires.start c.requires.lines c.args.tid c.requires.stood.keeps.keeps c.requires.holds in
    let held = c.commit-run.result in
    let same = same_Some held here.held (sym c.commit-run.ensures.run ∙ here.found) in
    let released = c.release.ensures.released in
    λ start lines s.
    let at = run_at-held Locking book start lines c.args.tid held s.keeps.keeps c.commit-run.ensures.run in
    let right : IsRightLine start lines (Commits c.args.tid) = (held.run, here.number, (at, ap (λ (h : Held). h.run.sealed) same ∙ here.sealed)) in
    stands_released old c.release.new.self start lines (Commits c.args.tid) held.run s at refl
    (calls_well Locking old.book c.release.new.self.book start lines (Commits c.args.tid) s.keeps right (ap (λ (b : RoomyBook). b.book) c.release.ensures.book ∙ c.commit-run.ensures.book))
    (record { readers = released.readers; writers = released.writers; taker = released.taker })
