use Rattle.std.proofs.Common.{ℕ, ◌+◌, None, ◌∷◌, refl, ap, ◌∙◌}
use Rattle.fed_rules.specs.declared.answers.Answer.TheVariants as Say
use Rattle.fed_rules.specs.declared.events.SiteEvent.TheVariants as Ev
use Rattle.fed_rules.specs.declared.events.SiteStep.{SiteStep}
use Rattle.fed_rules.specs.Runs.{Seals}
use Rattle.fed_rules.specs.SitePast.{disk, engine_lines, epoch_start, trip}
use Rattle.fed_rules.proofs.ForCallers.{sealed_then}
use Rattle.journal_disk.proofs.ForCallers.{at_most_behind, calls_behind, none_at_most}
use Rattle.actor_store.proofs.ForCallers.{from_done, from_failed, from_kept, from_stopped, stop_behind}
use Rattle.site_core.specs.declared.site.SiteCore.{SiteCore}
use Rattle.site_core.specs.Stands.{calls_for}
use Rattle.site_core.proofs.CommitLaws.{commit_done, commit_failed, commit_stopped, record_fits, runs_here}
use Rattle.site_core.proofs.SealingLaws.{sealed_run, unsealed_stands}
use Rattle.site_core.proofs.site.SiteCore.record_commit.Goals as goal

pub frame_len-bytes-requires : goal.frame_len-bytes-requires
frame_len-bytes-requires g c =
    let m = c.requires.may in
    record_fits g.E.LocalEngine.stands g.D.Disk.tells c.args.tid c.args.sealed c.args.self.now (g.D.Disk.seen c.args.disk.now) m.home m.past m.stood c.requires.up

pub force-requires-clause-payload : goal.force-requires-clause-payload
force-requires-clause-payload g c =
    let m = c.requires.may in
    record_fits g.E.LocalEngine.stands g.D.Disk.tells c.args.tid c.args.sealed c.args.self.now (g.D.Disk.seen c.args.disk.now) m.home m.past m.stood c.requires.up

pub force-requires-clause-kept : goal.force-requires-clause-kept
force-requires-clause-kept g c =
    let m = c.requires.may in
    (m.stood.stood.stored.old, (disk m.home m.past, trip m.past, c.make_room.ensures.keeps _ _ _ m.stood.stood.stored.behind))

pub commit-requires : goal.commit-requires
commit-requires g c =
    let m = c.requires.may in
    record {
      start = epoch_start m.home m.past;
      lines = Seals c.args.tid c.args.sealed.number ∷ engine_lines m.past;
      stood = m.stood.sealing;
      holds = record {
        run = _;
        number = c.args.sealed.number;
        sealed = sealed_then (epoch_start m.home m.past) (engine_lines m.past) c.args.tid m.stood.seals.run c.args.sealed.number (sealed_run g.E.LocalEngine.stands g.D.Disk.tells c.args.tid c.args.sealed c.args.self.now (g.D.Disk.seen c.args.disk.now) m.home m.past m.stood);
      };
    }

pub commit_local-requires-clause-running : goal.commit_local-requires-clause-running
commit_local-requires-clause-running g c =
    let m = c.requires.may in
    runs_here g.E.LocalEngine.stands g.D.Disk.tells c.args.tid c.args.sealed c.args.self.now (g.D.Disk.seen c.args.disk.now) m.home m.past m.stood c.requires.up m.holds.apart

pub returns-in_default-clause-failed : goal.returns-in_default-clause-failed
returns-in_default-clause-failed g c = λ home past k may. (
  unsealed_stands g.E.LocalEngine.stands g.D.Disk.tells c.args.tid c.args.sealed c.args.self.now _ (g.D.Disk.seen c.args.disk.now) (g.D.Disk.seen c.make_room.new.disk) home past k c.requires.up
      (from_kept k.stood.stored (c.make_room.ensures.keeps _ _ _ k.stood.stored.behind)) (c.make_room.ensures.standing ∙ c.requires.up) refl (c.unseal.ensures (epoch_start home past) (engine_lines past) c.args.sealed.number k.sealing),
  none_at_most (0 + calls_for home past (Ev.Commit c.args.tid)) (g.D.Disk.seen c.args.disk.now) (g.D.Disk.seen c.make_room.new.disk) c.make_room.ensures.called,
)

pub returns-in-Ok-force-clause-answered : goal.returns-in-Ok-force-clause-answered
returns-in-Ok-force-clause-answered g c = λ home past k may.
    let core = c.args.self.now in
    commit_done g.E.LocalEngine.stands g.D.Disk.tells c.args.tid c.args.sealed core _ c.says.result (g.D.Disk.seen c.args.disk.now) (g.D.Disk.seen c.force.new.disk) home past k c.requires.up may.apart
    (from_done k.stood.stored (c.in-Ok-force.ensures.ends _ _ _ (c.make_room.ensures.keeps _ _ _ k.stood.stored.behind))) c.in-Ok-force.ensures.standing
    (ap (λ b. let new : SiteCore _ = record core { engine = c.commit.new.self; book = b; store = c.force.new.self } in new) c.commit_local.ensures)
    (c.commit.ensures (epoch_start home past) (Seals c.args.tid c.args.sealed.number ∷ engine_lines past) k.sealing) c.says.ensures
    (calls_behind 2 (g.D.Disk.seen c.args.disk.now) (g.D.Disk.seen c.make_room.new.disk) (g.D.Disk.seen c.force.new.disk) c.make_room.ensures.called (c.in-Ok-force.ensures.called _ _ _ (c.make_room.ensures.keeps _ _ _ k.stood.stored.behind)))

pub returns-in-Err-Stopped-clause-answered : goal.returns-in-Err-Stopped-clause-answered
returns-in-Err-Stopped-clause-answered g c = λ home past k may.
    let told = rw c.in-Err-Stopped.field-0-is at (c.in-Err-Stopped.ensures.ends _ _ _ (c.make_room.ensures.keeps _ _ _ k.stood.stored.behind)) in
    let ends = from_stopped k.stood.stored told in
    let stop = rw c.in-Err-Stopped.field-0-is at (c.in-Err-Stopped.ensures.called _ _ _ (c.make_room.ensures.keeps _ _ _ k.stood.stored.behind)) in
    commit_stopped g.E.LocalEngine.stands g.D.Disk.tells c.args.tid c.args.sealed c.args.self.now _ c.says-in-Err-Stopped.result (g.D.Disk.seen c.args.disk.now) (g.D.Disk.seen c.force.new.disk) home past _ k c.requires.up may.apart
    ends c.in-Err-Stopped.ensures.down refl (c.says-in-Err-Stopped.ensures ∙ ap (λ (n : ℕ). let s : SiteStep = record { answer = Say.Stopped n; sends = None } in s) c.in-Err-Stopped.kept-is)
    (stop_behind 0 (trip past) (g.D.Disk.seen c.args.disk.now) (g.D.Disk.seen c.make_room.new.disk) (g.D.Disk.seen c.force.new.disk) c.make_room.ensures.called stop)

pub returns-in-Err-Failed-clause-failed : goal.returns-in-Err-Failed-clause-failed
returns-in-Err-Failed-clause-failed g c = λ home past k may.
    let told = rw c.in-Err-Failed.field-0-is at (c.in-Err-Failed.ensures.ends _ _ _ (c.make_room.ensures.keeps _ _ _ k.stood.stored.behind)) in
    let ends = from_failed k.stood.stored told in
    let failed = rw c.in-Err-Failed.field-0-is at (c.in-Err-Failed.ensures.called _ _ _ (c.make_room.ensures.keeps _ _ _ k.stood.stored.behind)) in
    commit_failed g.E.LocalEngine.stands g.D.Disk.tells c.args.tid c.args.sealed c.args.self.now _ (g.D.Disk.seen c.args.disk.now) (g.D.Disk.seen c.force.new.disk) home past k c.requires.up may.apart ends c.in-Err-Failed.ensures.down refl
    (at_most_behind 2 (g.D.Disk.seen c.args.disk.now) (g.D.Disk.seen c.make_room.new.disk) (g.D.Disk.seen c.force.new.disk) c.make_room.ensures.called failed)
