-- What a run reads, writes and keeps.
use Rattle.std.proofs.Common.{◌≤◌, [], ◌∷◌, arith}
use Rattle.mdb_base.specs.declared.names.Tid.{Tid}
use Rattle.presumptions.specs.declared.Decision.{Decision}
use Rattle.fed_rules.specs.Site.{settling_line}
use Rattle.engine_laws.proofs.Numbers.{draws}
use Rattle.presumptions.specs.declared.Decision.TheVariants as Decided

pub settling : (tid : Tid) (decision : Decision) → draws (settling_line tid decision ∷ []) ≤ 1
settling tid Decided.Commit = omega arith
settling tid Decided.Abort = omega arith
