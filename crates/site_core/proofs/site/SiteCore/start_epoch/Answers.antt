use Rattle.std.proofs.Common.{◌≡◌, ℕ, [], ◌+◌, ◌<◌, ◌^◌, None, Some, length, map, refl, sym, ap, ◌∙◌, subst, arith}
use Rattle.mdb_base.specs.declared.names.Engine.{Engine}
use Rattle.fed_rules.specs.declared.answers.Answer.TheVariants as Say
use Rattle.fed_rules.specs.declared.events.SiteEvent.TheVariants as Ev
use Rattle.fed_rules.specs.declared.events.SiteStep.{SiteStep}
use Rattle.fed_rules.specs.declared.sums.SiteSum.{SiteSum}
use Rattle.fed_rules.specs.EngineLines.{IsStart}
use Rattle.fed_rules.specs.Happenings.{Trip}
use Rattle.fed_rules.specs.SitePast.{disk, epoch, records, trip}
use Rattle.fed_rules.specs.SiteRecords.{doubts, kept_held}
use Rattle.prepared_state.specs.Book.{AreApart}
use Rattle.engine_contract.specs.Calls.{start_from}
use Rattle.journal_sums.specs.Starts.{doubt_held}
use Rattle.journal_disk.specs.Disk.{HasCalled, HasCalledAtMost}
use Rattle.journal_disk.proofs.ForCallers.{at_most_behind, calls_behind, none_at_most}
use Rattle.actor_store.specs.Store.{stored, uncounted}
use Rattle.actor_store.proofs.ForCallers.{from_done, from_failed, from_kept, from_stopped, same_calls, stop_behind}
use Rattle.site_core.specs.declared.site.SiteCore.{SiteCore}
use Rattle.site_core.specs.Made.{was_found}
use Rattle.site_core.specs.Stands.{calls_for}
use Rattle.site_core.specs.Store.{Keeps, KeepsBehind, Store}
use Rattle.site_core.proofs.BackLaws.{back_calls, back_done, back_failed, back_stopped, doubts_apart_here, epoch_read, kind_kept, start_good, started_kind, stays_down}
use Rattle.site_core.proofs.CheckLaws.{roomier}
use Rattle.site_core.proofs.JournalLaws.{is_journal, sum_is}
use Rattle.site_core.proofs.RememberLaws.{kind_at}
use Rattle.site_core.proofs.SumLaws.{few_doubts}
use Rattle.site_core.proofs.site.SiteCore.start_epoch.Goals as goal

pub read_sum-requires : goal.read_sum-requires
read_sum-requires g c =
    let m = c.requires.may in
    is_journal g.E.LocalEngine.stands c.args.self.now m.home m.past c.records.result.now m.stood.holds.made m.stood.holds.memory c.records.ensures

pub overflow_add-epoch : goal.overflow_add-epoch
overflow_add-epoch g c =
    let m = c.requires.may in
    let is = sum_is g.E.LocalEngine.stands c.args.self.now m.home m.past c.records.result.now c.in-Ok.sum m.stood.holds.made m.stood.holds.memory c.records.ensures c.in-Ok.ensures in
    let same : c.in-Ok.sum.epoch ≡ epoch m.home m.past = epoch_read m.home m.past c.in-Ok.sum is in
    let fits : epoch m.home m.past + 1 < 2 ^ 32 = m.holds in
    omega (arith, same, fits)

pub overflow_cast-doubtful : goal.overflow_cast-doubtful
overflow_cast-doubtful g c =
    let m = c.requires.may in
    let is = sum_is g.E.LocalEngine.stands c.args.self.now m.home m.past c.records.result.now c.in-Ok.sum m.stood.holds.made m.stood.holds.memory c.records.ensures c.in-Ok.ensures in
    let few = few_doubts (records m.home m.past) m.stood.stored.behind.written in
    let same : length c.in-Ok.sum.doubtful ≡ length (doubts (records m.home m.past)) = ap (λ (s : SiteSum). length s.doubtful) is in
    omega (arith, c.len-doubtful.ensures, same, few)

pub returns-in_default-make_room-clause-failed : goal.returns-in_default-make_room-clause-failed
returns-in_default-make_room-clause-failed g c = λ home past k. (
  roomier g.E.LocalEngine.stands g.D.Disk.tells c.args.self.now _ (g.D.Disk.seen c.args.disk.now) (g.D.Disk.seen c.make_room.new.disk) home past k (from_kept k.stored (c.make_room.ensures.keeps _ _ _ k.stored.behind)) c.make_room.ensures.standing refl,
  none_at_most (uncounted (stored c.args.self.now.store) + calls_for home past Ev.Back) (g.D.Disk.seen c.args.disk.now) (g.D.Disk.seen c.make_room.new.disk) c.make_room.ensures.called,
)

pub recover-requires-clause-start : goal.recover-requires-clause-start
recover-requires-clause-start g c =
    let m = c.requires.may in
    let core = c.args.self.now in
    let is = sum_is g.E.LocalEngine.stands core m.home m.past c.records.result.now c.in-Ok.sum m.stood.holds.made m.stood.holds.memory c.records.ensures c.in-Ok.ensures in
    let kind = kind_at g.E.LocalEngine.stands core m.home m.past m.stood.holds.memory in
    let same : g.E.LocalEngine.kind core.engine ≡ m.home.engine = sym (g.met.E.LocalEngine.of_kind core.engine kind.start kind.lines kind.stood) ∙ kind.of_kind in
    let S : Engine → SiteSum → Type 0 = λ k s. IsStart (start_from k s.rows (map kept_held s.doubtful) s.counter s.published s.owner) in
    subst (λ (k : Engine). S k c.in-Ok.sum) (sym same) (subst (λ (s : SiteSum). S m.home.engine s) (sym is) (start_good m.home m.past m.stood.holds.made))

pub recover-requires-clause-apart : goal.recover-requires-clause-apart
recover-requires-clause-apart g c =
    let m = c.requires.may in
    let is = sum_is g.E.LocalEngine.stands c.args.self.now m.home m.past c.records.result.now c.in-Ok.sum m.stood.holds.made m.stood.holds.memory c.records.ensures c.in-Ok.ensures in
    subst (λ (s : SiteSum). AreApart (map doubt_held s.doubtful)) (sym is) (doubts_apart_here m.home m.past)

pub returns-in_default-recover-clause-failed : goal.returns-in_default-recover-clause-failed
returns-in_default-recover-clause-failed g c = λ home past k.
    let core = c.args.self.now in
    let store : c.recover.new.self.store ≡ c.make_room.new.self = ap (λ (x : SiteCore _). x.store) c.recover.ensures.rest in
    let P : Store → Type 0 = λ s. Keeps (was_found past) g.D.Disk.tells (g.D.Disk.seen c.make_room.new.disk) s (disk home past) (trip past) in (
      stays_down g.E.LocalEngine.stands g.D.Disk.tells core c.recover.new.self (g.D.Disk.seen c.args.disk.now) (g.D.Disk.seen c.make_room.new.disk) home past k c.requires.down
          (subst P (sym store) (from_kept k.stored (c.make_room.ensures.keeps _ _ _ k.stored.behind))) (ap (λ (s : Store). s.standing) store ∙ c.make_room.ensures.standing)
          (kind_kept g.E.LocalEngine.stands core.engine c.recover.new.self.engine home.engine (kind_at g.E.LocalEngine.stands core home past k.holds.memory) c.in_default-recover.ensures.memory)
          c.recover.ensures.begun (ap (λ (x : SiteCore _). x.protocol) c.recover.ensures.rest),
      none_at_most (uncounted (stored core.store) + calls_for home past Ev.Back) (g.D.Disk.seen c.args.disk.now) (g.D.Disk.seen c.make_room.new.disk) c.make_room.ensures.called,
    )

pub start-requires-clause-kept : goal.start-requires-clause-kept
start-requires-clause-kept g c =
    let m = c.requires.may in
    let store : c.recover.new.self.store ≡ c.make_room.new.self = ap (λ (x : SiteCore _). x.store) c.recover.ensures.rest in
    let P : Store → Type 0 = λ s. KeepsBehind g.D.Disk.tells (g.D.Disk.seen c.make_room.new.disk) s m.stood.stored.old (disk m.home m.past) (trip m.past) in
    (m.stood.stored.old, (disk m.home m.past, trip m.past, subst P (sym store) (c.make_room.ensures.keeps _ _ _ m.stood.stored.behind)))

pub returns-in-Ok-start-clause-answered : goal.returns-in-Ok-start-clause-answered
returns-in-Ok-start-clause-answered g c = λ home past k.
    let core = c.args.self.now in
    let store : c.recover.new.self.store ≡ c.make_room.new.self = ap (λ (x : SiteCore _). x.store) c.recover.ensures.rest in
    let P : Store → Type 0 = λ s. KeepsBehind g.D.Disk.tells (g.D.Disk.seen c.make_room.new.disk) s k.stored.old (disk home past) (trip past) in
    let kept = subst P (sym store) (c.make_room.ensures.keeps _ _ _ k.stored.behind) in
    let is = sum_is g.E.LocalEngine.stands core home past c.records.result.now c.in-Ok.sum k.holds.made k.holds.memory c.records.ensures c.in-Ok.ensures in
    let kind = kind_at g.E.LocalEngine.stands core home past k.holds.memory in
    let beside = same_calls (stored c.recover.new.self.store) (stored core.store) (ap (λ (s : Store). s.journal.is_torn) store ∙ ap (λ j. j.is_torn) c.in-Ok-make_room.ensures.room) (ap (λ (s : Store). s.standing) store ∙ c.make_room.ensures.standing) in
    let middle = g.D.Disk.seen c.make_room.new.disk in
    let after = g.D.Disk.seen c.start.new.disk in
    let calls = back_calls (c.in-Ok.sum.epoch + 1) (disk home past) in
    let H : ℕ → Type 0 = λ n. HasCalled (n + length calls) middle after in
    let S : Engine → Type 0 = λ e. g.E.LocalEngine.stands c.recover.new.self.engine (start_from e c.in-Ok.sum.rows (map kept_held c.in-Ok.sum.doubtful) c.in-Ok.sum.counter c.in-Ok.sum.published c.in-Ok.sum.owner) [] in
    back_done g.E.LocalEngine.stands g.D.Disk.tells core _ c.says.result (g.D.Disk.seen c.args.disk.now) (g.D.Disk.seen c.start.new.disk) home past c.in-Ok.sum c.len-doubtful.result k c.requires.down is c.len-doubtful.ensures refl
    (from_done k.stored (c.in-Ok-start.ensures.ends _ _ _ kept)) c.in-Ok-start.ensures.standing
    (subst S kind.of_kind (c.in-Ok-recover.ensures.engine kind.start kind.lines kind.stood)) c.in-Ok-recover.ensures.book c.in-Ok-recover.ensures.doubts (ap (λ (x : SiteCore _). x.protocol) c.recover.ensures.rest) c.says.ensures
    (uncounted (stored core.store))
    (calls_behind (uncounted (stored core.store) + length calls) (g.D.Disk.seen c.args.disk.now) middle after c.make_room.ensures.called (subst H beside (c.in-Ok-start.ensures.called _ _ _ kept)))

pub returns-in-Err-Stopped-clause-answered : goal.returns-in-Err-Stopped-clause-answered
returns-in-Err-Stopped-clause-answered g c = λ home past k.
    let core = c.args.self.now in
    let store : c.recover.new.self.store ≡ c.make_room.new.self = ap (λ (x : SiteCore _). x.store) c.recover.ensures.rest in
    let P : Store → Type 0 = λ s. KeepsBehind g.D.Disk.tells (g.D.Disk.seen c.make_room.new.disk) s k.stored.old (disk home past) (trip past) in
    let kept = subst P (sym store) (c.make_room.ensures.keeps _ _ _ k.stored.behind) in
    let is = sum_is g.E.LocalEngine.stands core home past c.records.result.now c.in-Ok.sum k.holds.made k.holds.memory c.records.ensures c.in-Ok.ensures in
    let told = rw c.in-Err-Stopped.field-0-is at (c.in-Err-Stopped.ensures.ends _ _ _ kept) in
    let ends = from_stopped k.stored told in
    let beside = same_calls (stored c.recover.new.self.store) (stored core.store) (ap (λ (s : Store). s.journal.is_torn) store ∙ ap (λ j. j.is_torn) c.in-Ok-make_room.ensures.room) (ap (λ (s : Store). s.standing) store ∙ c.make_room.ensures.standing) in
    let middle = g.D.Disk.seen c.make_room.new.disk in
    let after = g.D.Disk.seen c.start.new.disk in
    let T : ℕ → Type 0 = λ n. (set : Trip) × (trip past ≡ Some set) × HasCalled (n + set.calls) middle after in
    let stop = rw c.in-Err-Stopped.field-0-is at (c.in-Err-Stopped.ensures.called _ _ _ kept) in
    back_stopped g.E.LocalEngine.stands g.D.Disk.tells core _ c.says-in-Err-Stopped.result (g.D.Disk.seen c.args.disk.now) (g.D.Disk.seen c.start.new.disk) home past c.in-Ok.sum _ k c.requires.down is refl
    ends c.in-Err-Stopped.ensures.down (started_kind g.E.LocalEngine.stands core.engine c.recover.new.self.engine home.engine (kind_at g.E.LocalEngine.stands core home past k.holds.memory) c.in-Ok-recover.ensures.engine)
    c.recover.ensures.begun (ap (λ (x : SiteCore _). x.protocol) c.recover.ensures.rest)
    (c.says-in-Err-Stopped.ensures ∙ ap (λ (n : ℕ). let s : SiteStep = record { answer = Say.Stopped n; sends = None } in s) c.in-Err-Stopped.kept-is)
    (uncounted (stored core.store)) (stop_behind (uncounted (stored core.store)) (trip past) (g.D.Disk.seen c.args.disk.now) middle after c.make_room.ensures.called (subst T beside stop))

pub returns-in-Err-Failed-clause-failed : goal.returns-in-Err-Failed-clause-failed
returns-in-Err-Failed-clause-failed g c = λ home past k.
    let core = c.args.self.now in
    let store : c.recover.new.self.store ≡ c.make_room.new.self = ap (λ (x : SiteCore _). x.store) c.recover.ensures.rest in
    let P : Store → Type 0 = λ s. KeepsBehind g.D.Disk.tells (g.D.Disk.seen c.make_room.new.disk) s k.stored.old (disk home past) (trip past) in
    let kept = subst P (sym store) (c.make_room.ensures.keeps _ _ _ k.stored.behind) in
    let is = sum_is g.E.LocalEngine.stands core home past c.records.result.now c.in-Ok.sum k.holds.made k.holds.memory c.records.ensures c.in-Ok.ensures in
    let told = rw c.in-Err-Failed.field-0-is at (c.in-Err-Failed.ensures.ends _ _ _ kept) in
    let ends = from_failed k.stored told in
    let beside = same_calls (stored c.recover.new.self.store) (stored core.store) (ap (λ (s : Store). s.journal.is_torn) store ∙ ap (λ j. j.is_torn) c.in-Ok-make_room.ensures.room) (ap (λ (s : Store). s.standing) store ∙ c.make_room.ensures.standing) in
    let middle = g.D.Disk.seen c.make_room.new.disk in
    let after = g.D.Disk.seen c.start.new.disk in
    let calls = back_calls (c.in-Ok.sum.epoch + 1) (disk home past) in
    let M : ℕ → Type 0 = λ n. HasCalledAtMost (n + length calls) middle after in
    let failed = rw c.in-Err-Failed.field-0-is at (c.in-Err-Failed.ensures.called _ _ _ kept) in
    back_failed g.E.LocalEngine.stands g.D.Disk.tells core _ (g.D.Disk.seen c.args.disk.now) (g.D.Disk.seen c.start.new.disk) home past c.in-Ok.sum k c.requires.down is refl
    ends c.in-Err-Failed.ensures.down (started_kind g.E.LocalEngine.stands core.engine c.recover.new.self.engine home.engine (kind_at g.E.LocalEngine.stands core home past k.holds.memory) c.in-Ok-recover.ensures.engine)
    c.recover.ensures.begun (ap (λ (x : SiteCore _). x.protocol) c.recover.ensures.rest)
    (uncounted (stored core.store)) (at_most_behind (uncounted (stored core.store) + length calls) (g.D.Disk.seen c.args.disk.now) middle after c.make_room.ensures.called (subst M beside failed))
