use Rattle.std.proofs.Common.{ap, ◌∙◌}
use Rattle.std.specs.FinMap.{remove}
use Rattle.locking_engine.specs.Holders.{Holders, place_of}
use Rattle.locking_engine.proofs.holders.Holders.let_go.Goals as goal

pub returns : goal.returns
returns c = c.let_go.ensures.gone ∙ ap (λ (m : Holders). remove m (place_of c.args.key c.args.age)) c.self.view_is
