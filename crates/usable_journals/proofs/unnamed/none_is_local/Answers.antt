use Rattle.std.proofs.Common.{reverse}
use Rattle.usable_journals.proofs.NamedLaws.{unnamed_by}
use Rattle.usable_journals.proofs.unnamed.none_is_local.Goals as goal

pub returns : goal.returns
returns c coordinator told =
    let by = unnamed_by coordinator (reverse c.args.records.now) c.in_ok-locals.locals c.args.names.now c.in_ok-locals.ensures told in
    (λ e. by.0 (c.is_disjoint.ensures.0 e), λ u. c.is_disjoint.ensures.1 (by.1 u))
