use Rattle.std.proofs.Common.{ℕ, sym, ap, subst, ◌∙◌}
use Rattle.std.specs.FinMap.{remove}
use Rattle.std.proofs.lemmas.Option.{same_Some}
use Rattle.mdb_base.specs.declared.names.Engine.TheVariants.{Multiversion}
use Rattle.fed_rules.specs.Runs.{Commits, number}
use Rattle.fed_rules.specs.EngineLines.{IsRightLine}
use Rattle.run_book.specs.Held.{Held}
use Rattle.run_book.proofs.ForCallers.{run_at-held, sealed_held}
use Rattle.multiversion_engine.specs.OldVersions.{AllRead, writes_key}
use Rattle.multiversion_engine.proofs.Lines.{stands_commits}
use Rattle.multiversion_engine.proofs.engine.MultiversionEngineLocalEngine.commit.Goals as goal

pub returns-clause-line : goal.returns-clause-line
returns-clause-line c =
    let old = c.args.self.now in
    let book = old.book.book in
    let here = sealed_held Multiversion book c.requires.start c.requires.lines c.args.tid c.requires.stood.keeps.keeps c.requires.holds in
    let held = c.commit-run.result in
    let same = same_Some held here.held (sym c.commit-run.ensures.run ∙ here.found) in
    λ start lines s.
    let at = run_at-held Multiversion book start lines c.args.tid held s.keeps.keeps c.commit-run.ensures.run in
    let right : IsRightLine start lines (Commits c.args.tid) = (held.run, here.number, (at, ap (λ (h : Held). h.run.sealed) same ∙ here.sealed)) in
    stands_commits old _ start lines c.args.tid held s right c.commit-run.ensures.run c.commit-run.ensures.book (c.commit.ensures, c.commit-2.ensures)
    (c.remove.ensures ∙ ap (λ (n : ℕ). remove old.unended n) c.age.ensures) c.drop_unread.ensures.pruned

pub returns-clause-dropped : goal.returns-clause-dropped
returns-clause-dropped c held there =
    subst (λ (h : Held). AllRead c.remove.new.self (writes_key h.run.acts) (number h.run) c.drop_unread.new.self) (same_Some c.commit-run.result held (sym c.commit-run.ensures.run ∙ there)) c.drop_unread.ensures.read
