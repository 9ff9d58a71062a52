use Rattle.std.proofs.Common.{ℕ, cond, None, ap, ◌∙◌, List}
use Rattle.std.specs.FinMap.{get}
use Rattle.fed_rules.specs.Runs.{Access}
use Rattle.locking_engine.specs.Holders.{touches}
use Rattle.locking_engine.proofs.holders.Holders.release.Goals as goal

pub returns : goal.returns
returns c =
    λ q. c.let_go_of.ensures q
    ∙ (ap (λ (acts : List Access). cond (touches acts c.age.result q) None (get c.args.self.now q)) c.accesses.ensures
    ∙ ap (λ (n : ℕ). cond (touches c.args.run.now.run.acts n q) None (get c.args.self.now q)) c.age.ensures)
