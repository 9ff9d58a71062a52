use Rattle.std.proofs.Common.{sym, ap, ◌∙◌}
use Rattle.std.proofs.lemmas.Option.{same_Some}
use Rattle.mdb_base.specs.declared.names.Engine.TheVariants.{Timestamp}
use Rattle.fed_rules.specs.Runs.{Commits}
use Rattle.fed_rules.specs.EngineLines.{IsRightLine}
use Rattle.run_book.specs.Held.{Held}
use Rattle.run_book.proofs.ForCallers.{run_at-held, sealed_held}
use Rattle.timestamp_engine.proofs.Lines.{stands_called}
use Rattle.timestamp_engine.proofs.engine.TimestampEngineLocalEngine.commit.Goals as goal

pub returns : goal.returns
returns c =
    let old = c.args.self.now in
    let book = old.book.book in
    let here = sealed_held Timestamp book c.requires.start c.requires.lines c.args.tid c.requires.stood.keeps.keeps c.requires.holds in
    let held = c.commit-run.result in
    let same = same_Some held here.held (sym c.commit-run.ensures.run ∙ here.found) in
    λ start lines s.
    let at = run_at-held Timestamp book start lines c.args.tid held s.keeps.keeps c.commit-run.ensures.run in
    let right : IsRightLine start lines (Commits c.args.tid) = (held.run, here.number, (at, ap (λ (h : Held). h.run.sealed) same ∙ here.sealed)) in
    stands_called old _ start lines (Commits c.args.tid) held.run s right at c.commit-run.ensures.book (c.commit.ensures, c.commit-2.ensures)
