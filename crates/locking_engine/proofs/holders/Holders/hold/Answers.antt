use Rattle.std.proofs.Common.{not, is_some, ap, ◌∙◌}
use Rattle.std.specs.FinMap.{get}
use Rattle.std.proofs.lemmas.Result.{IfOk-weaker, on_ok_weaker, on_err_weaker}
use Rattle.locking_engine.specs.Holders.{Holders, place_of, held_by}
use Rattle.locking_engine.proofs.holders.Holders.hold.Goals as goal

pub returns-clause-held : goal.returns-clause-held
returns-clause-held c =
    on_ok_weaker c.hold.result (λ made. made ∙ ap (λ (m : Holders). held_by (place_of c.args.key c.args.age) c.args.tid m) c.self.view_is) c.hold.ensures.held

pub returns-clause-fresh : goal.returns-clause-fresh
returns-clause-fresh c =
    IfOk-weaker c.hold.result _ _ (λ fresh is. is ∙ ap (λ (m : Holders). not (is_some (get m (place_of c.args.key c.args.age)))) c.self.view_is) c.hold.ensures.fresh

pub returns-clause-memory : goal.returns-clause-memory
returns-clause-memory c = on_err_weaker c.hold.result (λ same. same ∙ c.self.view_is) c.hold.ensures.memory
