use Rattle.std.proofs.Common.{◌≡◌, ◌≤◌, ◌⊎◌, nat_eq, IsSome}
use Rattle.std.specs.FinMap.{get}
use Rattle.multiversion_engine.specs.OldVersions.{Prunes, place_of}
use Rattle.multiversion_engine.proofs.Pruned.{ReadFrom}
use Rattle.multiversion_engine.proofs.old_versions.OldVersions.drop_unread_of.Given as goal

abbrev pub decreases-loop-version : goal.decreases-loop-version
decreases-loop-version l = l.next

abbrev pub invariant-loop-version : goal.invariant-loop-version
invariant-loop-version l = record {
  up : l.next ≤ l.number;
  pruned : Prunes l.unended (λ k. nat_eq k l.key.0) l.number l.fn.self l.self;
  is_next : (l.next ≡ l.number) ⊎ IsSome (get l.fn.self (place_of l.key l.next));
  read : ReadFrom l.unended l.key l.next l.number l.self;
}
