use Rattle.std.proofs.Common.{◌≡◌, Some, cond, drop}
use Rattle.std.specs.BTreeMap.{get}
use Rattle.mdb_base.specs.declared.names.Key.{Key}
use Rattle.fed_rules.specs.EngineLines.{has_row}
use Rattle.journal_sums.specs.Versions.{key_cmp}
use Rattle.usable_journals.specs.SiteTests.{greater_of}
use Rattle.usable_journals.proofs.keys.raise.Given as goal

-- what the other writes still make of it
abbrev pub invariant-loop-put : goal.invariant-loop-put
invariant-loop-put l =
    (key : Key) → cond (has_row key (drop l.put-index l.writes)) (Some (greater_of (get key_cmp l.keys key) l.number)) (get key_cmp l.keys key)
    ≡ cond (has_row key l.writes) (Some (greater_of (get key_cmp l.initial.keys key) l.number)) (get key_cmp l.initial.keys key)
