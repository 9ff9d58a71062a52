use Rattle.std.proofs.Common.{◌≡◌, ◌||◌, drop}
use Rattle.std.specs.BTreeSet.{contains}
use Rattle.mdb_base.specs.declared.names.Tid.{Tid}
use Rattle.session_report.specs.Outcomes.{is_refused}
use Rattle.mdb_base.specs.Names.{tid_cmp}
use Rattle.session_report.proofs.commits.refused.Given as goal

abbrev pub invariant-loop-outcome : goal.invariant-loop-outcome
invariant-loop-outcome l = (tid : Tid) → (is_refused (drop l.outcome-index l.outcomes) tid || contains tid_cmp l.refused tid) ≡ is_refused l.outcomes tid
