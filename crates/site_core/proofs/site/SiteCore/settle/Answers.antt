use Rattle.std.proofs.Common.{ℕ, ◌+◌, None, is_some, length, refl, ap, ◌∙◌}
use Rattle.fed_rules.specs.declared.answers.Answer.TheVariants as Say
use Rattle.fed_rules.specs.declared.events.SiteEvent.TheVariants as Ev
use Rattle.fed_rules.specs.declared.events.SiteStep.{SiteStep}
use Rattle.fed_rules.specs.declared.messages.ToSite.TheVariants as To
use Rattle.fed_rules.specs.SitePast.{disk, engine_lines, epoch_start, trip}
use Rattle.journal_disk.proofs.ForCallers.{at_most_behind, calls_behind, none_at_most}
use Rattle.actor_store.proofs.ForCallers.{from_done, from_failed, from_kept, from_stopped, stop_behind}
use Rattle.site_book.specs.Book.{progress_of}
use Rattle.site_core.specs.declared.site.SiteCore.{SiteCore}
use Rattle.site_core.specs.Stands.{calls_for}
use Rattle.site_core.proofs.CheckLaws.{roomier}
use Rattle.site_core.proofs.DecideLaws.{held_entered, held_here, settle_done, settle_failed, settle_stopped, written_calls, written_engine}
use Rattle.site_core.proofs.RememberLaws.{is_up_at}
use Rattle.site_core.proofs.site.SiteCore.settle.Goals as goal

pub returns-in_default-clause-failed : goal.returns-in_default-clause-failed
returns-in_default-clause-failed g c = λ home past k may. (
  roomier g.E.LocalEngine.stands g.D.Disk.tells c.args.self.now _ (g.D.Disk.seen c.args.disk.now) (g.D.Disk.seen c.make_room.new.disk) home past k (from_kept k.stored (c.make_room.ensures.keeps _ _ _ k.stored.behind)) c.make_room.ensures.standing refl,
  none_at_most (0 + calls_for home past (Ev.Give (To.Decide c.args.tid c.args.decision))) (g.D.Disk.seen c.args.disk.now) (g.D.Disk.seen c.make_room.new.disk) c.make_room.ensures.called,
)

pub write-requires-clause-kept : goal.write-requires-clause-kept
write-requires-clause-kept g c =
    let m = c.requires.may in
    (m.stood.stored.old, (disk m.home m.past, trip m.past, c.make_room.ensures.keeps _ _ _ m.stood.stored.behind))

pub end_run-requires : goal.end_run-requires
end_run-requires g c =
    let m = c.requires.may in
    let core = c.args.self.now in
    let u = is_up_at g.E.LocalEngine.stands core m.home m.past m.stood.holds.memory c.requires.up in
    let h = held_here g.E.LocalEngine.stands core m.home m.past c.args.tid m.stood.holds c.requires.up c.requires.doubtful in
    record {
      start = epoch_start m.home m.past;
      lines = engine_lines m.past;
      stood = written_engine g.E.LocalEngine.stands core c.write.new.self (epoch_start m.home m.past) (engine_lines m.past) c.write.ensures.rest u.engine;
      holds = record { run = h.run; number = h.held.number; sealed = h.sealed };
    }

pub close-requires : goal.close-requires
close-requires g c =
    let m = c.requires.may in
    let core = c.args.self.now in
    ap (λ (x : SiteCore _). is_some (progress_of x.book c.args.tid)) c.write.ensures.rest
    ∙ held_entered g.E.LocalEngine.stands core m.home m.past c.args.tid m.stood.holds c.requires.up (held_here g.E.LocalEngine.stands core m.home m.past c.args.tid m.stood.holds c.requires.up c.requires.doubtful)

pub returns-in-Ok-write-clause-answered : goal.returns-in-Ok-write-clause-answered
returns-in-Ok-write-clause-answered g c = λ home past k may.
    let core = c.args.self.now in
    let tid = c.args.tid in
    let rest = c.write.ensures.rest in
    let u = is_up_at g.E.LocalEngine.stands core home past k.holds.memory c.requires.up in
    let h = held_here g.E.LocalEngine.stands core home past tid k.holds c.requires.up c.requires.doubtful in
    settle_done g.E.LocalEngine.stands g.D.Disk.tells core c.write.new.self _ _ (g.D.Disk.seen c.args.disk.now) (g.D.Disk.seen c.write.new.disk) home past tid c.args.decision h.held k c.requires.up h.doubt
    (from_done k.stored (c.in-Ok-write.ensures.ends _ _ _ (c.make_room.ensures.keeps _ _ _ k.stored.behind))) c.in-Ok-write.ensures.standing rest
    (ap (λ b. let new : SiteCore _ = record c.write.new.self { engine = c.end_run.new.engine; book = b; doubts = c.settle.new.self } in new) c.close.ensures) c.settle.ensures.doubts
    (c.end_run.ensures (epoch_start home past) (engine_lines past) (written_engine g.E.LocalEngine.stands core c.write.new.self (epoch_start home past) (engine_lines past) rest u.engine))
    refl (c.ack.ensures home (ap (λ (x : SiteCore _). x.protocol) rest ∙ k.holds.memory.protocol))
    (calls_behind (0 + length (written_calls core.protocol tid c.args.decision)) (g.D.Disk.seen c.args.disk.now) (g.D.Disk.seen c.make_room.new.disk) (g.D.Disk.seen c.write.new.disk) c.make_room.ensures.called
    (c.in-Ok-write.ensures.called _ _ _ (c.make_room.ensures.keeps _ _ _ k.stored.behind)))

pub returns-in-Err-Stopped-clause-answered : goal.returns-in-Err-Stopped-clause-answered
returns-in-Err-Stopped-clause-answered g c = λ home past k may.
    let core = c.args.self.now in
    let h = held_here g.E.LocalEngine.stands core home past c.args.tid k.holds c.requires.up c.requires.doubtful in
    let told = rw c.in-Err-Stopped.field-0-is at (c.in-Err-Stopped.ensures.ends _ _ _ (c.make_room.ensures.keeps _ _ _ k.stored.behind)) in
    let ends = from_stopped k.stored told in
    let stop = rw c.in-Err-Stopped.field-0-is at (c.in-Err-Stopped.ensures.called _ _ _ (c.make_room.ensures.keeps _ _ _ k.stored.behind)) in
    settle_stopped g.E.LocalEngine.stands g.D.Disk.tells core _ c.says.result (g.D.Disk.seen c.args.disk.now) (g.D.Disk.seen c.write.new.disk) home past c.args.tid c.args.decision h.held _ k c.requires.up h.doubt
    ends c.in-Err-Stopped.ensures.down c.write.ensures.rest (c.says.ensures ∙ ap (λ (n : ℕ). let s : SiteStep = record { answer = Say.Stopped n; sends = None } in s) c.in-Err-Stopped.kept-is)
    (stop_behind 0 (trip past) (g.D.Disk.seen c.args.disk.now) (g.D.Disk.seen c.make_room.new.disk) (g.D.Disk.seen c.write.new.disk) c.make_room.ensures.called stop)

pub returns-in-Err-Failed-clause-failed : goal.returns-in-Err-Failed-clause-failed
returns-in-Err-Failed-clause-failed g c = λ home past k may.
    let core = c.args.self.now in
    let h = held_here g.E.LocalEngine.stands core home past c.args.tid k.holds c.requires.up c.requires.doubtful in
    let told = rw c.in-Err-Failed.field-0-is at (c.in-Err-Failed.ensures.ends _ _ _ (c.make_room.ensures.keeps _ _ _ k.stored.behind)) in
    let ends = from_failed k.stored told in
    let failed = rw c.in-Err-Failed.field-0-is at (c.in-Err-Failed.ensures.called _ _ _ (c.make_room.ensures.keeps _ _ _ k.stored.behind)) in
    settle_failed g.E.LocalEngine.stands g.D.Disk.tells core _ (g.D.Disk.seen c.args.disk.now) (g.D.Disk.seen c.write.new.disk) home past c.args.tid c.args.decision h.held k c.requires.up h.doubt ends c.in-Err-Failed.ensures.down c.write.ensures.rest
    (at_most_behind (0 + length (written_calls core.protocol c.args.tid c.args.decision)) (g.D.Disk.seen c.args.disk.now) (g.D.Disk.seen c.make_room.new.disk) (g.D.Disk.seen c.write.new.disk) c.make_room.ensures.called failed)
