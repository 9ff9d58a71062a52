use Rattle.std.proofs.Common.{refl, ◌∙◌}
use Rattle.mdb_base.proofs.ForCallers.{map_err, map_ok}
use Rattle.fed_rules.specs.Coord.{may_take}
use Rattle.fed_rules.proofs.ForCallers.{counts_open}
use Rattle.coord_tables.specs.Replies.{reply_event}
use Rattle.coord_tables.proofs.ForCallers.{counts_are, did_sending, news_are}
use Rattle.coord_core.proofs.Still.{serves}
use Rattle.coord_core.proofs.coord.CoordCore.go_on.Goals as goal

pub news-requires-clause-counts : goal.news-requires-clause-counts
news-requires-clause-counts g c =
    let m = c.requires.may in
    let taken = c.args.taken in
    let s = serves g.P.TakePolicy.policy g.D.Disk.tells c.args.self.now m.terms m.past m.stood.holds c.requires.up in
    counts_are c.args.self.now.tables m.terms m.past s taken.site c.args.tid taken.epoch taken.n taken.reply m.holds.among ∙ m.holds.counts

pub returns-in-Ok-let_through-clause-answered : goal.returns-in-Ok-let_through-clause-answered
returns-in-Ok-let_through-clause-answered g c = map_ok _ _ c.send.result c.send.ensures.answered (λ step each terms past k n.
    let taken = c.args.taken in
    let s = serves g.P.TakePolicy.policy g.D.Disk.tells c.args.self.now terms past k.holds c.requires.up in
    let u = counts_open past taken.site c.args.tid taken.epoch taken.n taken.reply n.counts in
    let fresh = news_are c.args.self.now.tables terms past k.holds.sound s taken.site c.args.tid taken.epoch taken.n taken.reply n.among n.counts c.requires.answers c.in-Ok.dues c.in-Ok.ensures in
    let same = c.in-Ok-may_send.ensures terms past k u in
    each terms past (reply_event c.args.tid taken) k
    (did_sending c.args.self.now.tables terms past k.holds.sound s taken.site c.args.tid taken.epoch taken.n taken.reply n.among n.counts c.requires.answers
    (may_take terms.protocols terms.policy past c.args.tid) c.some_held-defers.result c.in-Ok.dues c.in-Ok-let_through.through refl fresh (c.in-Ok-let_through.ensures ∙ same.passes) (c.some_held-defers.ensures ∙ same.held)))

pub returns-in-Ok-let_through-clause-failed : goal.returns-in-Ok-let_through-clause-failed
returns-in-Ok-let_through-clause-failed g c = map_err _ _ c.send.result c.send.ensures.failed (λ why each terms past k n.
    let taken = c.args.taken in
    let s = serves g.P.TakePolicy.policy g.D.Disk.tells c.args.self.now terms past k.holds c.requires.up in
    let u = counts_open past taken.site c.args.tid taken.epoch taken.n taken.reply n.counts in
    let fresh = news_are c.args.self.now.tables terms past k.holds.sound s taken.site c.args.tid taken.epoch taken.n taken.reply n.among n.counts c.requires.answers c.in-Ok.dues c.in-Ok.ensures in
    let same = c.in-Ok-may_send.ensures terms past k u in
    each terms past (reply_event c.args.tid taken) k
    (did_sending c.args.self.now.tables terms past k.holds.sound s taken.site c.args.tid taken.epoch taken.n taken.reply n.among n.counts c.requires.answers
    (may_take terms.protocols terms.policy past c.args.tid) c.some_held-defers.result c.in-Ok.dues c.in-Ok-let_through.through refl fresh (c.in-Ok-let_through.ensures ∙ same.passes) (c.some_held-defers.ensures ∙ same.held)))
