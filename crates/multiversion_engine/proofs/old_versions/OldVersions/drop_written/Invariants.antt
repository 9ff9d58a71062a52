use Rattle.std.proofs.Common.{take, reverse}
use Rattle.multiversion_engine.specs.OldVersions.{Prunes, AllRead, writes_key}
use Rattle.multiversion_engine.proofs.old_versions.OldVersions.drop_written.Given as goal

abbrev pub invariant-loop-access : goal.invariant-loop-access
invariant-loop-access l = record {
  pruned : Prunes l.unended (writes_key (reverse (take l.access-index l.accesses))) l.number l.fn.self l.self;
  read : AllRead l.unended (writes_key (reverse (take l.access-index l.accesses))) l.number l.self;
}
