use Rattle.std.proofs.Common.{subst}
use Rattle.locking_engine.specs.Holders.{Holders, IsOldestOther}
use Rattle.locking_engine.proofs.holders.Holders.oldest_other.Goals as goal

pub returns : goal.returns
returns c = subst (λ (m : Holders). IsOldestOther m c.args.key c.args.age c.oldest_other.result) c.self.view_is c.oldest_other.ensures
