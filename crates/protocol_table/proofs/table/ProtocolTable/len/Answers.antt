use Rattle.std.proofs.Common.{List, map, subst}
use Rattle.protocol_table.specs.declared.known.Known.{Known}
use Rattle.protocol_table.specs.Attempts.{AreApart}
use Rattle.protocol_table.proofs.Named.{distinct_tids}
use Rattle.protocol_table.proofs.table.ProtocolTable.len.Goals as goal

pub returns-clause-apart : goal.returns-clause-apart
returns-clause-apart c =
    subst (λ (vs : List Known). AreApart (map (λ (k : Known). k.tid) vs)) c.self.view_is
    (distinct_tids c.self.inside.entries.entries c.self.invariant c.len.ensures.unique)
