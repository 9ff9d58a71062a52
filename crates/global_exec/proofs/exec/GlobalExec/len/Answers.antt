use Rattle.std.proofs.Common.{List, map, subst}
use Rattle.global_exec.specs.Live.{AreApart, Live}
use Rattle.global_exec.proofs.Named.{apart_tids}
use Rattle.global_exec.proofs.exec.GlobalExec.len.Goals as goal

pub returns-clause-apart : goal.returns-clause-apart
returns-clause-apart c =
    subst (λ (vs : List Live). AreApart (map (λ (v : Live). v.tid) vs)) c.self.view_is
    (apart_tids c.self.inside.attempts.entries c.self.invariant c.len.ensures.unique)
