use Rattle.std.proofs.Common.{take}
use Rattle.mdb_base.specs.Words.{some_of}
use Rattle.usable_journals.specs.PartedTold.{Adds, is_of, none}
use Rattle.usable_journals.proofs.parted.Parted.all_local.Given as goal

-- the first ones were added
abbrev pub invariant-loop-tid : goal.invariant-loop-tid
invariant-loop-tid l = Adds (λ tx. some_of (is_of tx) (take l.tid-index l.locals)) none l.fn.self l.self
