use Rattle.std.proofs.Common.{ℕ, ◌+◌, None, refl, sym, ap, ◌∙◌, subst}
use Rattle.fed_rules.specs.declared.answers.Answer.TheVariants as Say
use Rattle.fed_rules.specs.declared.events.SiteEvent.TheVariants as Ev
use Rattle.fed_rules.specs.declared.events.SiteStep.{SiteStep}
use Rattle.fed_rules.specs.declared.sums.SiteSum.{SiteSum}
use Rattle.fed_rules.specs.SitePast.{disk, records, trip}
use Rattle.site_journal.specs.Spelling.{IsSumInRange}
use Rattle.journal_disk.proofs.ForCallers.{at_most_behind, calls_behind, none_at_most}
use Rattle.actor_store.proofs.ForCallers.{from_done, from_failed, from_kept, from_stopped, stop_behind}
use Rattle.site_core.specs.Stands.{calls_for}
use Rattle.site_core.proofs.CheckLaws.{check_done, check_failed, check_large, check_stopped, checkpoint_fits, roomier}
use Rattle.site_history.proofs.ForCallers.{founded}
use Rattle.site_core.proofs.JournalLaws.{is_journal, sum_is}
use Rattle.site_core.proofs.SumLaws.{sum_in_range}
use Rattle.site_core.proofs.site.SiteCore.check.Goals as goal

pub read_sum-requires : goal.read_sum-requires
read_sum-requires g c =
    let m = c.requires.may in
    is_journal g.E.LocalEngine.stands c.args.self.now m.home m.past c.records.result.now m.stood.holds.made m.stood.holds.memory c.records.ensures

pub returns-then-is_large-clause-answered : goal.returns-then-is_large-clause-answered
returns-then-is_large-clause-answered g c = λ home past k.
    let is = sum_is g.E.LocalEngine.stands c.args.self.now home past c.records.result.now c.in-Ok.sum k.holds.made k.holds.memory c.records.ensures c.in-Ok.ensures in
    check_large g.E.LocalEngine.stands g.D.Disk.tells c.args.self.now c.says.result (g.D.Disk.seen c.args.disk.now) home past c.in-Ok.sum k c.requires.up is (sym c.is_large.ensures ∙ c.if-is_large.true) c.says.ensures

pub frame_len-bytes-requires : goal.frame_len-bytes-requires
frame_len-bytes-requires g c = checkpoint_fits c.in-Ok.sum (sym c.is_large.ensures ∙ c.if-is_large.false)

pub returns-in_default-make_room-clause-failed : goal.returns-in_default-make_room-clause-failed
returns-in_default-make_room-clause-failed g c = λ home past k. (
  roomier g.E.LocalEngine.stands g.D.Disk.tells c.args.self.now _ (g.D.Disk.seen c.args.disk.now) (g.D.Disk.seen c.make_room.new.disk) home past k (from_kept k.stored (c.make_room.ensures.keeps _ _ _ k.stored.behind)) c.make_room.ensures.standing refl,
  none_at_most (0 + calls_for home past Ev.Check) (g.D.Disk.seen c.args.disk.now) (g.D.Disk.seen c.make_room.new.disk) c.make_room.ensures.called,
)

pub check-requires-clause-kept : goal.check-requires-clause-kept
check-requires-clause-kept g c =
    let m = c.requires.may in
    (m.stood.stored.old, (disk m.home m.past, trip m.past, c.make_room.ensures.keeps _ _ _ m.stood.stored.behind))

pub check-requires-clause-in_range : goal.check-requires-clause-in_range
check-requires-clause-in_range g c =
    let m = c.requires.may in
    let is = sum_is g.E.LocalEngine.stands c.args.self.now m.home m.past c.records.result.now c.in-Ok.sum m.stood.holds.made m.stood.holds.memory c.records.ensures c.in-Ok.ensures in
    subst (λ (s : SiteSum). IsSumInRange s) (sym is) (sum_in_range m.home (records m.home m.past) (founded m.home m.past) m.stood.stored.behind.written m.stood.holds.memory.once)

pub check-requires-clause-payload : goal.check-requires-clause-payload
check-requires-clause-payload g c = checkpoint_fits c.in-Ok.sum (sym c.is_large.ensures ∙ c.if-is_large.false)

pub returns-in-Ok-check-clause-answered : goal.returns-in-Ok-check-clause-answered
returns-in-Ok-check-clause-answered g c = λ home past k.
    let is = sum_is g.E.LocalEngine.stands c.args.self.now home past c.records.result.now c.in-Ok.sum k.holds.made k.holds.memory c.records.ensures c.in-Ok.ensures in
    check_done g.E.LocalEngine.stands g.D.Disk.tells c.args.self.now _ c.says-in-Ok-check.result (g.D.Disk.seen c.args.disk.now) (g.D.Disk.seen c.check.new.disk) home past c.in-Ok.sum k c.requires.up is (sym c.is_large.ensures ∙ c.if-is_large.false)
    (from_done k.stored (c.in-Ok-check.ensures.ends _ _ _ (c.make_room.ensures.keeps _ _ _ k.stored.behind))) c.in-Ok-check.ensures.standing refl c.says-in-Ok-check.ensures
    (calls_behind 3 (g.D.Disk.seen c.args.disk.now) (g.D.Disk.seen c.make_room.new.disk) (g.D.Disk.seen c.check.new.disk) c.make_room.ensures.called (c.in-Ok-check.ensures.called _ _ _ (c.make_room.ensures.keeps _ _ _ k.stored.behind)))

pub returns-in-Err-Stopped-clause-answered : goal.returns-in-Err-Stopped-clause-answered
returns-in-Err-Stopped-clause-answered g c = λ home past k.
    let is = sum_is g.E.LocalEngine.stands c.args.self.now home past c.records.result.now c.in-Ok.sum k.holds.made k.holds.memory c.records.ensures c.in-Ok.ensures in
    let told = rw c.in-Err-Stopped.field-0-is at (c.in-Err-Stopped.ensures.ends _ _ _ (c.make_room.ensures.keeps _ _ _ k.stored.behind)) in
    let ends = from_stopped k.stored told in
    let stop = rw c.in-Err-Stopped.field-0-is at (c.in-Err-Stopped.ensures.called _ _ _ (c.make_room.ensures.keeps _ _ _ k.stored.behind)) in
    check_stopped g.E.LocalEngine.stands g.D.Disk.tells c.args.self.now _ c.says-in-Err-Stopped.result (g.D.Disk.seen c.args.disk.now) (g.D.Disk.seen c.check.new.disk) home past c.in-Ok.sum _ k c.requires.up is (sym c.is_large.ensures ∙ c.if-is_large.false)
    ends c.in-Err-Stopped.ensures.down refl (c.says-in-Err-Stopped.ensures ∙ ap (λ (n : ℕ). let s : SiteStep = record { answer = Say.Stopped n; sends = None } in s) c.in-Err-Stopped.kept-is)
    (stop_behind 0 (trip past) (g.D.Disk.seen c.args.disk.now) (g.D.Disk.seen c.make_room.new.disk) (g.D.Disk.seen c.check.new.disk) c.make_room.ensures.called stop)

pub returns-in-Err-Failed-clause-failed : goal.returns-in-Err-Failed-clause-failed
returns-in-Err-Failed-clause-failed g c = λ home past k.
    let is = sum_is g.E.LocalEngine.stands c.args.self.now home past c.records.result.now c.in-Ok.sum k.holds.made k.holds.memory c.records.ensures c.in-Ok.ensures in
    let told = rw c.in-Err-Failed.field-0-is at (c.in-Err-Failed.ensures.ends _ _ _ (c.make_room.ensures.keeps _ _ _ k.stored.behind)) in
    let ends = from_failed k.stored told in
    let failed = rw c.in-Err-Failed.field-0-is at (c.in-Err-Failed.ensures.called _ _ _ (c.make_room.ensures.keeps _ _ _ k.stored.behind)) in
    check_failed g.E.LocalEngine.stands g.D.Disk.tells c.args.self.now _ (g.D.Disk.seen c.args.disk.now) (g.D.Disk.seen c.check.new.disk) home past c.in-Ok.sum k c.requires.up is (sym c.is_large.ensures ∙ c.if-is_large.false) ends c.in-Err-Failed.ensures.down refl
    (at_most_behind 3 (g.D.Disk.seen c.args.disk.now) (g.D.Disk.seen c.make_room.new.disk) (g.D.Disk.seen c.check.new.disk) c.make_room.ensures.called failed)
