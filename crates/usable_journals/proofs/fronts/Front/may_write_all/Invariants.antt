use Rattle.std.proofs.Common.{◌≡◌, drop}
use Rattle.mdb_base.specs.Words.{each_of}
use Rattle.usable_journals.specs.Fronts.{may_write}
use Rattle.usable_journals.proofs.fronts.Front.may_write_all.Given as goal

-- what is left decides
abbrev pub invariant-loop-put : goal.invariant-loop-put
invariant-loop-put l = each_of (may_write l.self l.number) (drop l.put-index l.writes) ≡ each_of (may_write l.self l.number) l.writes
