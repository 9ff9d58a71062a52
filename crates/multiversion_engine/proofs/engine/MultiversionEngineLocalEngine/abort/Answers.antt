use Rattle.std.proofs.Common.{refl}
use Rattle.mdb_base.specs.declared.names.Engine.TheVariants.{Multiversion}
use Rattle.fed_rules.specs.Runs.{Aborts}
use Rattle.run_book.proofs.ForCallers.{run_at-held, some_held, unended_held}
use Rattle.multiversion_engine.proofs.engine.MultiversionEngineLocalEngine.abort.Goals as goal

pub returns : goal.returns
returns c =
    let book = c.args.self.now.book.book in
    let there = some_held _ (unended_held Multiversion book c.requires.start c.requires.lines c.args.tid c.requires.stood.keeps.keeps c.requires.holds) in
    λ start lines s.
    c.end.ensures start lines (Aborts c.args.tid) s (there.0.run, run_at-held Multiversion book start lines c.args.tid there.0 s.keeps.keeps there.1) (refl, refl)
