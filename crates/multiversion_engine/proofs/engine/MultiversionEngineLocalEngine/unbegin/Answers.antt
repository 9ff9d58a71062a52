use Rattle.std.proofs.Common.{ℕ, refl, sym, ap, ◌∙◌}
use Rattle.std.specs.FinMap.{remove}
use Rattle.std.proofs.lemmas.Option.{same_Some}
use Rattle.mdb_base.specs.declared.names.Engine.TheVariants.{Multiversion}
use Rattle.fed_rules.specs.Runs.{Run, Begins, begun}
use Rattle.fed_rules.proofs.ForCallers.{run_at_own}
use Rattle.run_book.proofs.ForCallers.{run_at-held}
use Rattle.multiversion_engine.proofs.Back.{stands_unbegun}
use Rattle.multiversion_engine.proofs.engine.MultiversionEngineLocalEngine.unbegin.Goals as goal

pub returns : goal.returns
returns c =
    let old = c.args.self.now in
    λ start older n s.
    let at = run_at-held Multiversion old.book.book start _ c.args.tid c.run.result.now s.keeps.keeps c.run.ensures in
    let same = same_Some c.run.result.now.run (begun c.args.tid n) (sym at ∙ run_at_own start older (Begins c.args.tid n) _ s.keeps.keeps.right.0.0) in
    stands_unbegun old _ start older c.args.tid n s c.unbegin.ensures.book c.unbegin.ensures.room refl refl
    (c.remove.ensures ∙ ap (λ (m : ℕ). remove old.unended m) (c.age-age.ensures ∙ ap (λ (r : Run). r.age) same)) refl
