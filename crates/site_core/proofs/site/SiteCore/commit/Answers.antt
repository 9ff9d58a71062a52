use Rattle.std.proofs.Common.{◌+◌, not, ◌∷◌, [], None, refl, ap, ◌∙◌}
use Rattle.mdb_base.proofs.ForCallers.{map_err, map_ok, nothing_is}
use Rattle.fed_rules.specs.declared.answers.Answer.{Answer}
use Rattle.fed_rules.specs.declared.answers.Answer.TheVariants as Say
use Rattle.fed_rules.specs.declared.events.SiteEvent.TheVariants as Ev
use Rattle.fed_rules.specs.declared.events.SiteStep.{SiteStep}
use Rattle.fed_rules.specs.Runs.{Refuses, changed}
use Rattle.fed_rules.specs.Site.{of_commit, refusal_answer, unless_tripped, with_lines}
use Rattle.fed_rules.specs.SitePast.{SitePast, engine_lines, epoch_start, is_closed}
use Rattle.fed_rules.specs.SiteRecords.{Home}
use Rattle.actor_store.specs.declared.errors.StepErr.{StepErr}
use Rattle.site_book.specs.Book.{closes}
use Rattle.site_book.proofs.ForCallers.{calls_well}
use Rattle.site_core.specs.declared.site.SiteCore.{SiteCore}
use Rattle.site_core.specs.Sealing.{StandsSealing}
use Rattle.site_core.specs.Stands.{Answers, Breaks, Stands, calls_for}
use Rattle.site_core.specs.Steps.{CanCommit, EachPast}
use Rattle.site_core.proofs.CommitLaws.{refused_by, sealing_stands}
use Rattle.site_core.proofs.LineLaws.{commit_idle, commit_refused, is_there, live_none, live_some}
use Rattle.site_core.proofs.LocalLaws.{end_adds}
use Rattle.site_core.proofs.RememberLaws.{answers_quiet, is_up_at}
use Rattle.site_core.proofs.UpLaws.{adds_quiet, closed_one, refusal_plain}
use Rattle.site_core.proofs.site.SiteCore.commit.Goals as goal

pub returns-then-is_none-clause-answered : goal.returns-then-is_none-clause-answered
returns-then-is_none-clause-answered g c = λ home past k may.
    let core = c.args.self.now in
    let u = is_up_at g.E.LocalEngine.stands core home past k.holds.memory c.requires.up in
    let absent = is_there c.live.result _ c.is_none.result c.live.ensures c.is_none.ensures ∙ ap not c.if-is_none.true in
    let none = live_none core.book home past c.args.tid u.notes (nothing_is _ absent) in
    answers_quiet g.E.LocalEngine.stands g.D.Disk.tells c.says.result core core (g.D.Disk.seen c.args.disk.now) home past _ _ k refl refl (ap (unless_tripped home past) (commit_idle home past c.args.tid none))
    (adds_quiet g.E.LocalEngine.stands core home past c.says.result (Ev.Commit c.args.tid) Say.Idle k.holds c.requires.up refl refl refl (λ t. refl) (λ tx. refl) c.says.ensures)

pub record_commit-requires-clause-may : goal.record_commit-requires-clause-may
record_commit-requires-clause-may g c =
    let m = c.requires.may in
    let core = c.args.self.now in
    let u = is_up_at g.E.LocalEngine.stands core m.home m.past m.stood.holds.memory c.requires.up in
    let there = is_there c.live.result _ c.is_none.result c.live.ensures c.is_none.ensures ∙ ap not c.if-is_none.false in
    let l = live_some core.book m.home m.past c.args.tid u.notes there in
    let stood = c.in-Ok.ensures.sealed (epoch_start m.home m.past) (engine_lines m.past) u.engine in
    record {
      home = m.home;
      past = m.past;
      stood = sealing_stands g.E.LocalEngine.stands g.D.Disk.tells c.args.tid c.in-Ok.sealed core c.seal.new.self (g.D.Disk.seen c.args.disk.now) m.home m.past m.stood l stood (g.met.E.LocalEngine.right _ _ _ stood) (c.in-Ok.ensures.given (epoch_start m.home m.past) (engine_lines m.past) u.engine);
      holds = m.holds;
    }

pub returns-in-Ok-clause-answered : goal.returns-in-Ok-clause-answered
returns-in-Ok-clause-answered g c =
    let core = c.args.self.now in
    let tid = c.args.tid in
    let there = is_there c.live.result _ c.is_none.result c.live.ensures c.is_none.ensures ∙ ap not c.if-is_none.false in
    let sealed_core : SiteCore _ = record core { engine = c.seal.new.self } in
    let K : Home → SitePast → Type 0 = StandsSealing g.E.LocalEngine.stands g.D.Disk.tells tid c.in-Ok.sealed sealed_core (g.D.Disk.seen c.args.disk.now) in
    let L : Home → SitePast → Type 0 = Stands g.E.LocalEngine.stands g.D.Disk.tells core (g.D.Disk.seen c.args.disk.now) in
    let says : SiteStep → Home → SitePast → Type 0 = λ step home past. CanCommit tid home past → Answers g.E.LocalEngine.stands g.D.Disk.tells 0 (g.D.Disk.seen c.args.disk.now) step c.record_commit.new.self (g.D.Disk.seen c.record_commit.new.disk) home past (unless_tripped home past (of_commit home past tid)) in
    map_ok (λ step. EachPast K (says step)) (λ step. EachPast L (says step)) c.record_commit.result c.record_commit.ensures.answered
    (λ step p home past k.
    let u = is_up_at g.E.LocalEngine.stands core home past k.holds.memory c.requires.up in
    let l = live_some core.book home past tid u.notes there in
    let stood = c.in-Ok.ensures.sealed (epoch_start home past) (engine_lines past) u.engine in
    p home past (sealing_stands g.E.LocalEngine.stands g.D.Disk.tells tid c.in-Ok.sealed core c.seal.new.self (g.D.Disk.seen c.args.disk.now) home past k l stood (g.met.E.LocalEngine.right _ _ _ stood) (c.in-Ok.ensures.given (epoch_start home past) (engine_lines past) u.engine)))

pub returns-in-Ok-clause-failed : goal.returns-in-Ok-clause-failed
returns-in-Ok-clause-failed g c =
    let core = c.args.self.now in
    let tid = c.args.tid in
    let there = is_there c.live.result _ c.is_none.result c.live.ensures c.is_none.ensures ∙ ap not c.if-is_none.false in
    let sealed_core : SiteCore _ = record core { engine = c.seal.new.self } in
    let K : Home → SitePast → Type 0 = StandsSealing g.E.LocalEngine.stands g.D.Disk.tells tid c.in-Ok.sealed sealed_core (g.D.Disk.seen c.args.disk.now) in
    let L : Home → SitePast → Type 0 = Stands g.E.LocalEngine.stands g.D.Disk.tells core (g.D.Disk.seen c.args.disk.now) in
    let fails : StepErr → Home → SitePast → Type 0 = λ why home past. CanCommit tid home past → Breaks g.E.LocalEngine.stands g.D.Disk.tells (0 + calls_for home past (Ev.Commit tid)) (g.D.Disk.seen c.args.disk.now) why c.record_commit.new.self (g.D.Disk.seen c.record_commit.new.disk) home past (Ev.Commit tid) in
    map_err (λ why. EachPast K (fails why)) (λ why. EachPast L (fails why)) c.record_commit.result c.record_commit.ensures.failed
    (λ why p home past k.
    let u = is_up_at g.E.LocalEngine.stands core home past k.holds.memory c.requires.up in
    let l = live_some core.book home past tid u.notes there in
    let stood = c.in-Ok.ensures.sealed (epoch_start home past) (engine_lines past) u.engine in
    p home past (sealing_stands g.E.LocalEngine.stands g.D.Disk.tells tid c.in-Ok.sealed core c.seal.new.self (g.D.Disk.seen c.args.disk.now) home past k l stood (g.met.E.LocalEngine.right _ _ _ stood) (c.in-Ok.ensures.given (epoch_start home past) (engine_lines past) u.engine)))

pub returns-in-Err-Refused-clause-answered : goal.returns-in-Err-Refused-clause-answered
returns-in-Err-Refused-clause-answered g c = λ home past k may.
    let core = c.args.self.now in
    let tid = c.args.tid in
    let why = c.in-Err-Refused.why in
    let u = is_up_at g.E.LocalEngine.stands core home past k.holds.memory c.requires.up in
    let there = is_there c.live.result _ c.is_none.result c.live.ensures c.is_none.ensures ∙ ap not c.if-is_none.false in
    let l = live_some core.book home past tid u.notes there in
    let failed = rw c.in-Err-Refused.field-0-is at c.in-Err-Refused.ensures.failed in
    let stood = failed (epoch_start home past) (engine_lines past) u.engine in
    let stops = refused_by core.book home past tid why l (g.met.E.LocalEngine.right _ _ _ stood) in
    let answer : Answer = refusal_answer why in
    let x = with_lines (Ev.Commit tid) answer (Refuses tid why ∷ []) in
    let plain = refusal_plain why in
    let follows = calls_well core.book (closes tid core.book) (epoch_start home past) (engine_lines past) (Refuses tid why) (is_closed past) (is_closed (x ∷ past)) u.notes.follows (λ v. closed_one past x (Refuses tid why) v plain.1 refl refl) refl in
    answers_quiet g.E.LocalEngine.stands g.D.Disk.tells c.says-in-Err-Refused.result core _ (g.D.Disk.seen c.args.disk.now) home past _ x k refl refl (ap (unless_tripped home past) (commit_refused home past tid l.run why l.live stops))
    (end_adds g.E.LocalEngine.stands core _ home past tid (Refuses tid why) (Ev.Commit tid) answer c.says-in-Err-Refused.result l k.holds c.requires.up refl (ap (changed (Refuses tid why)) l.is.0) plain refl (λ t. refl)
    (ap (λ b. let new : SiteCore _ = record core { engine = c.seal.new.self; book = b } in new) c.close.ensures) stood follows
    (c.says-in-Err-Refused.ensures ∙ ap (λ (a : Answer). let s : SiteStep = record { answer = a; sends = None } in s) (c.refusal_answer.ensures ∙ ap refusal_answer c.in-Err-Refused.why-is)))
