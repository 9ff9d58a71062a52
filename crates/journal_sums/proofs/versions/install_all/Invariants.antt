use Rattle.std.proofs.Common.{◌≡◌, drop}
use Rattle.std.specs.BTreeMap.{get}
use Rattle.mdb_base.specs.declared.names.Key.{Key}
use Rattle.mdb_base.specs.Rows.{value_in}
use Rattle.journal_sums.specs.Versions.{key_cmp, version_after}
use Rattle.journal_sums.proofs.versions.install_all.Given as goal

abbrev pub invariant-loop-put : goal.invariant-loop-put
invariant-loop-put l =
    (key : Key) → version_after l.number (value_in (drop l.put-index l.writes) key) (get key_cmp l.later key)
    ≡ version_after l.number (value_in l.writes key) (get key_cmp l.initial.later key)
