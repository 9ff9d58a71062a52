use Rattle.std.proofs.Common.{◌≡◌, cond, None, take, reverse}
use Rattle.std.specs.FinMap.{get}
use Rattle.locking_engine.specs.Places.{Place}
use Rattle.locking_engine.specs.Holders.{touches}
use Rattle.locking_engine.proofs.holders.Holders.let_go_of.Given as goal

abbrev pub invariant-loop-access : goal.invariant-loop-access
invariant-loop-access l = (q : Place) → get l.self q ≡ cond (touches (reverse (take l.access-index l.accesses)) l.age q) None (get l.fn.self q)
