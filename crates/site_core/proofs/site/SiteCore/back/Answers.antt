use Rattle.std.proofs.Common.{◌≡◌, ℕ, ◌+◌, refl, ap, subst, ◌∙◌}
use Rattle.mdb_base.proofs.ForCallers.{map_err, map_ok}
use Rattle.fed_rules.specs.declared.events.SiteEvent.TheVariants as Ev
use Rattle.fed_rules.specs.declared.events.SiteStep.{SiteStep}
use Rattle.fed_rules.specs.Site.{site_line}
use Rattle.fed_rules.specs.SitePast.{SitePast, disk, trip}
use Rattle.fed_rules.specs.SiteRecords.{Home}
use Rattle.actor_store.specs.declared.errors.StepErr.{StepErr}
use Rattle.journal_disk.specs.Disk.{Seen}
use Rattle.actor_store.specs.Store.{reloads, stored, uncounted}
use Rattle.actor_store.proofs.ForCallers.{from_kept, same_calls}
use Rattle.site_core.specs.declared.site.SiteCore.{SiteCore}
use Rattle.site_core.specs.Stands.{Answers, Breaks, Stands, beside_rules, calls_for}
use Rattle.site_core.specs.Steps.{EachPast}
use Rattle.site_core.proofs.BackLaws.{read_failed}
use Rattle.site_core.proofs.CalledLaws.{answers_beside, answers_later, breaks_later, read_at_most, starting_beside}
use Rattle.site_core.proofs.CheckLaws.{roomier}
use Rattle.site_core.proofs.RememberLaws.{stands_from}
use Rattle.site_core.proofs.site.SiteCore.back.Goals as goal

pub reload-requires-clause-kept : goal.reload-requires-clause-kept
reload-requires-clause-kept g c =
    let m = c.requires.may in
    (m.stood.stored.old, (disk m.home m.past, trip m.past, m.stood.stored.behind))

pub start_epoch-requires-clause-may : goal.start_epoch-requires-clause-may
start_epoch-requires-clause-may g c =
    let m = c.requires.may in
    let core = c.args.self.now in
    record {
      home = m.home;
      past = m.past;
      stood = stands_from g.E.LocalEngine.stands g.D.Disk.tells core _ (g.D.Disk.seen c.args.disk.now) (g.D.Disk.seen c.reload.new.disk) m.home m.past m.stood
          (roomier g.E.LocalEngine.stands g.D.Disk.tells core _ (g.D.Disk.seen c.args.disk.now) (g.D.Disk.seen c.reload.new.disk) m.home m.past m.stood (from_kept m.stood.stored (c.reload.ensures.keeps _ _ _ m.stood.stored.behind)) c.reload.ensures.standing refl);
      holds = m.holds;
    }

pub returns-in-Ok-clause-answered : goal.returns-in-Ok-clause-answered
returns-in-Ok-clause-answered g c =
    let core = c.args.self.now in
    let loaded : SiteCore _ = record core { store = c.reload.new.self } in
    let K : Home → SitePast → Type 0 = Stands g.E.LocalEngine.stands g.D.Disk.tells loaded (g.D.Disk.seen c.reload.new.disk) in
    let L : Home → SitePast → Type 0 = Stands g.E.LocalEngine.stands g.D.Disk.tells core (g.D.Disk.seen c.args.disk.now) in
    let before = g.D.Disk.seen c.args.disk.now in
    let read = g.D.Disk.seen c.reload.new.disk in
    let after = g.D.Disk.seen c.start_epoch.new.disk in
    let reloaded = reloads core.store.is_fresh before.size in
    let opened = uncounted (stored loaded.store) in
    let says : ℕ → Seen → SiteStep → Home → SitePast → Type 0 = λ beside disk step home past. Answers g.E.LocalEngine.stands g.D.Disk.tells beside disk step c.start_epoch.new.self after home past (site_line home past Ev.Back) in
    let same : reloaded + opened ≡ beside_rules Ev.Back core before =
    ap (λ (n : ℕ). reloaded + n) (same_calls (stored loaded.store) (stored core.store) (ap (λ j. j.is_torn) c.in-Ok.ensures.journal) c.reload.ensures.standing) ∙ starting_beside core before c.requires.down in
    map_ok (λ step. EachPast K (says opened read step)) (λ step. EachPast L (says (beside_rules Ev.Back core before) before step)) c.start_epoch.result c.start_epoch.ensures.answered
    (λ step p home past k. answers_beside g.E.LocalEngine.stands g.D.Disk.tells before (reloaded + opened) (beside_rules Ev.Back core before) step c.start_epoch.new.self after home past _ same
    (answers_later g.E.LocalEngine.stands g.D.Disk.tells reloaded opened before read step c.start_epoch.new.self after home past _ c.in-Ok.ensures.called.done
    (p home past (stands_from g.E.LocalEngine.stands g.D.Disk.tells core loaded before read home past k
    (roomier g.E.LocalEngine.stands g.D.Disk.tells core loaded before read home past k (from_kept k.stored (c.reload.ensures.keeps _ _ _ k.stored.behind)) c.reload.ensures.standing refl)))))

pub returns-in-Ok-clause-failed : goal.returns-in-Ok-clause-failed
returns-in-Ok-clause-failed g c =
    let core = c.args.self.now in
    let loaded : SiteCore _ = record core { store = c.reload.new.self } in
    let K : Home → SitePast → Type 0 = Stands g.E.LocalEngine.stands g.D.Disk.tells loaded (g.D.Disk.seen c.reload.new.disk) in
    let L : Home → SitePast → Type 0 = Stands g.E.LocalEngine.stands g.D.Disk.tells core (g.D.Disk.seen c.args.disk.now) in
    let before = g.D.Disk.seen c.args.disk.now in
    let read = g.D.Disk.seen c.reload.new.disk in
    let after = g.D.Disk.seen c.start_epoch.new.disk in
    let reloaded = reloads core.store.is_fresh before.size in
    let opened = uncounted (stored loaded.store) in
    let fails : ℕ → Seen → StepErr → Home → SitePast → Type 0 = λ beside disk why home past.
    Breaks g.E.LocalEngine.stands g.D.Disk.tells (beside + calls_for home past Ev.Back) disk why c.start_epoch.new.self after home past Ev.Back in
    let same : reloaded + opened ≡ beside_rules Ev.Back core before =
    ap (λ (n : ℕ). reloaded + n) (same_calls (stored loaded.store) (stored core.store) (ap (λ j. j.is_torn) c.in-Ok.ensures.journal) c.reload.ensures.standing) ∙ starting_beside core before c.requires.down in
    map_err (λ why. EachPast K (fails opened read why)) (λ why. EachPast L (fails (beside_rules Ev.Back core before) before why)) c.start_epoch.result c.start_epoch.ensures.failed
    (λ why p home past k. let F : ℕ → Type 0 = λ n. fails n before why home past in
    subst F same (breaks_later g.E.LocalEngine.stands g.D.Disk.tells reloaded opened (calls_for home past Ev.Back) before read why c.start_epoch.new.self after home past Ev.Back c.in-Ok.ensures.called.done
    (p home past (stands_from g.E.LocalEngine.stands g.D.Disk.tells core loaded before read home past k
    (roomier g.E.LocalEngine.stands g.D.Disk.tells core loaded before read home past k (from_kept k.stored (c.reload.ensures.keeps _ _ _ k.stored.behind)) c.reload.ensures.standing refl)))))

pub returns-in-Err-Memory-clause-failed : goal.returns-in-Err-Memory-clause-failed
returns-in-Err-Memory-clause-failed g c = λ home past k.
    let core = c.args.self.now in
    let before = g.D.Disk.seen c.args.disk.now in (
      roomier g.E.LocalEngine.stands g.D.Disk.tells core _ before (g.D.Disk.seen c.reload.new.disk) home past k (from_kept k.stored (c.reload.ensures.keeps _ _ _ k.stored.behind)) c.reload.ensures.standing refl,
      read_at_most core before (g.D.Disk.seen c.reload.new.disk) (calls_for home past Ev.Back) c.requires.down c.in-Err-Memory.ensures.called.failed,
    )

pub returns-in-Err-Disk-clause-failed : goal.returns-in-Err-Disk-clause-failed
returns-in-Err-Disk-clause-failed g c = λ home past k.
    let core = c.args.self.now in
    let before = g.D.Disk.seen c.args.disk.now in
    read_failed g.E.LocalEngine.stands g.D.Disk.tells c.args.self.now _ c.reload.new.self (g.D.Disk.seen c.args.disk.now) (g.D.Disk.seen c.reload.new.disk) home past k c.requires.down
    (from_kept k.stored (c.reload.ensures.keeps _ _ _ k.stored.behind)) c.reload.ensures.standing refl
    (beside_rules Ev.Back core before + calls_for home past Ev.Back) (read_at_most core before (g.D.Disk.seen c.reload.new.disk) (calls_for home past Ev.Back) c.requires.down c.in-Err-Disk.ensures.called.failed)
