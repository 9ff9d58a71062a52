use Rattle.std.proofs.Common.{ap, ◌∙◌}
use Rattle.mdb_base.specs.declared.replies.Reply.TheVariants as Reply_is
use Rattle.mdb_base.proofs.ForCallers.{map_err, map_ok}
use Rattle.coord_tables.specs.Replies.{reply_event}
use Rattle.coord_core.proofs.Taking.{dies_aborting, late_aborting, unknown_aborting}
use Rattle.coord_core.proofs.coord.CoordCore.refuse.Goals as goal

pub returns-in-Unknown-clause-answered : goal.returns-in-Unknown-clause-answered
returns-in-Unknown-clause-answered g c = map_ok _ _ c.abort.result c.abort.ensures.answered (λ step each terms past k n.
    each terms past (reply_event c.args.tid c.args.taken) k (unknown_aborting terms past c.args.tid c.args.taken c.in-Unknown.is
    n.counts))

pub returns-in-Unknown-clause-failed : goal.returns-in-Unknown-clause-failed
returns-in-Unknown-clause-failed g c = map_err _ _ c.abort.result c.abort.ensures.failed (λ why each terms past k n.
    each terms past (reply_event c.args.tid c.args.taken) k (unknown_aborting terms past c.args.tid c.args.taken c.in-Unknown.is
    n.counts))

pub returns-in-Refused-Die-clause-answered : goal.returns-in-Refused-Die-clause-answered
returns-in-Refused-Die-clause-answered g c = map_ok _ _ c.abort-in-Refused-Die.result c.abort-in-Refused-Die.ensures.answered (λ step each terms past k n.
    each terms past (reply_event c.args.tid c.args.taken) k (dies_aborting terms past c.args.tid c.args.taken c.in-Refused-Die.by (c.in-Refused-Die.is ∙ ap (λ w. Reply_is.Refused w) (rw c.in-Refused-Die.is at c.in-Refused-Die.field-0-is))
    n.counts))

pub returns-in-Refused-Die-clause-failed : goal.returns-in-Refused-Die-clause-failed
returns-in-Refused-Die-clause-failed g c = map_err _ _ c.abort-in-Refused-Die.result c.abort-in-Refused-Die.ensures.failed (λ why each terms past k n.
    each terms past (reply_event c.args.tid c.args.taken) k (dies_aborting terms past c.args.tid c.args.taken c.in-Refused-Die.by (c.in-Refused-Die.is ∙ ap (λ w. Reply_is.Refused w) (rw c.in-Refused-Die.is at c.in-Refused-Die.field-0-is))
    n.counts))

pub returns-in-Refused-Late-clause-answered : goal.returns-in-Refused-Late-clause-answered
returns-in-Refused-Late-clause-answered g c = map_ok _ _ c.abort-in-Refused-Late.result c.abort-in-Refused-Late.ensures.answered (λ step each terms past k n.
    each terms past (reply_event c.args.tid c.args.taken) k (late_aborting terms past c.args.tid c.args.taken c.in-Refused-Late.by (c.in-Refused-Late.is ∙ ap (λ w. Reply_is.Refused w) (rw c.in-Refused-Late.is at c.in-Refused-Late.field-0-is))
    n.counts))

pub returns-in-Refused-Late-clause-failed : goal.returns-in-Refused-Late-clause-failed
returns-in-Refused-Late-clause-failed g c = map_err _ _ c.abort-in-Refused-Late.result c.abort-in-Refused-Late.ensures.failed (λ why each terms past k n.
    each terms past (reply_event c.args.tid c.args.taken) k (late_aborting terms past c.args.tid c.args.taken c.in-Refused-Late.by (c.in-Refused-Late.is ∙ ap (λ w. Reply_is.Refused w) (rw c.in-Refused-Late.is at c.in-Refused-Late.field-0-is))
    n.counts))
