use Rattle.std.proofs.Common.{take}
use Rattle.mdb_base.specs.Words.{some_of}
use Rattle.usable_journals.specs.PartedTold.{Adds, is_held_of, none}
use Rattle.usable_journals.proofs.parted.Parted.all_global.Given as goal

-- the first ones were added
abbrev pub invariant-loop-held : goal.invariant-loop-held
invariant-loop-held l = Adds none (λ tx. some_of (is_held_of tx) (take l.held-index l.doubtful)) l.fn.self l.self
