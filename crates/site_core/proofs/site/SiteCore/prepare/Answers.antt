use Rattle.std.proofs.Common.{◌≡◌, ℕ, ◌+◌, Some, None, [], ◌∷◌, refl, sym, ap, ◌∙◌, subst}
use Rattle.std.proofs.lemmas.Bool.{ne_eqb}
use Rattle.mdb_base.specs.declared.replies.Why.{Why}
use Rattle.mdb_base.proofs.ForCallers.{map_err, map_ok, none_left}
use Rattle.fed_rules.specs.declared.answers.Answer.TheVariants as Say
use Rattle.fed_rules.specs.declared.events.SiteEvent.TheVariants as Ev
use Rattle.fed_rules.specs.declared.events.SiteStep.{SiteStep}
use Rattle.fed_rules.specs.declared.messages.FromSite.TheVariants as From
use Rattle.fed_rules.specs.declared.messages.ToSite.TheVariants as To
use Rattle.fed_rules.specs.Runs.{Refuses}
use Rattle.fed_rules.specs.Site.{of_prepare, unless_tripped}
use Rattle.fed_rules.specs.SitePast.{SitePast, engine_lines, epoch_start, records}
use Rattle.fed_rules.specs.SiteRecords.{Home, doubt_of}
use Rattle.actor_store.specs.declared.errors.StepErr.{StepErr}
use Rattle.site_core.specs.declared.site.SiteCore.{SiteCore}
use Rattle.site_core.specs.Sealing.{HasFinished, StandsSealing}
use Rattle.site_core.specs.Stands.{Answers, Breaks, Stands, calls_for}
use Rattle.site_core.specs.Steps.{CanPrepare, EachPast}
use Rattle.site_core.proofs.CommitLaws.{refused_by, sealing_stands}
use Rattle.site_core.proofs.InquiryLaws.{none_doubted}
use Rattle.site_core.proofs.RememberLaws.{answers_as, answers_quiet, is_up_at}
use Rattle.site_core.proofs.VoteLaws.{again_adds, again_here, again_late, again_line, finished_count, finished_epoch, finished_live, finishes, no_adds, no_is, no_line, noted_ticket, prepare_unfinished, refused_adds, refused_here, sealed_ticket}
use Rattle.site_core.proofs.site.SiteCore.prepare.Goals as goal

pub returns-then-doubt-epoch-clause-answered : goal.returns-then-doubt-epoch-clause-answered
returns-then-doubt-epoch-clause-answered g c = λ home past k may.
    let core = c.args.self.now in
    let tid = c.args.tid in
    let d = c.in-Some.doubt in
    let u = is_up_at g.E.LocalEngine.stands core home past k.holds.memory c.requires.up in
    let doubted = sym (u.doubts tid) ∙ sym c.doubtful.ensures ∙ c.in-Some.is in
    answers_quiet g.E.LocalEngine.stands g.D.Disk.tells c.votes_yes.result core core (g.D.Disk.seen c.args.disk.now) home past _ (again_line tid c.args.epoch c.args.n d.ticket) k refl refl
    (ap (unless_tripped home past) (again_here home past tid c.args.epoch c.args.n d doubted c.if-doubt-epoch.true))
    (again_adds g.E.LocalEngine.stands core home past tid c.args.epoch c.args.n d.ticket c.votes_yes.result k.holds c.requires.up c.votes_yes.ensures)

pub returns-in-Some-clause-answered : goal.returns-in-Some-clause-answered
returns-in-Some-clause-answered g c = λ home past k may.
    let core = c.args.self.now in
    let tid = c.args.tid in
    let d = c.in-Some.doubt in
    let u = is_up_at g.E.LocalEngine.stands core home past k.holds.memory c.requires.up in
    let doubted = sym (u.doubts tid) ∙ sym c.doubtful.ensures ∙ c.in-Some.is in
    answers_quiet g.E.LocalEngine.stands g.D.Disk.tells c.votes_no.result core core (g.D.Disk.seen c.args.disk.now) home past _ _ k refl refl
    (ap (unless_tripped home past) (again_late home past tid c.args.epoch c.args.n d doubted (ne_eqb d.epoch c.args.epoch c.if-doubt-epoch.false)))
    (no_adds g.E.LocalEngine.stands core home past tid c.args.epoch c.args.n c.votes_no.result k.holds c.requires.up c.votes_no.ensures)

pub returns-in_default-finished_ticket-clause-answered : goal.returns-in_default-finished_ticket-clause-answered
returns-in_default-finished_ticket-clause-answered g c = λ home past k may.
    let core = c.args.self.now in
    let tid = c.args.tid in
    let u = is_up_at g.E.LocalEngine.stands core home past k.holds.memory c.requires.up in
    let none = none_doubted (doubt_of (records home past) tid) (sym (u.doubts tid) ∙ sym c.doubtful.ensures ∙ none_left c.doubtful.result c.in_default.not-Some) in
    let noted = noted_ticket core.book home past tid core.epoch c.args.epoch c.args.n u.notes u.epoch in
    let unfinished = sym noted ∙ sym c.finished_ticket.ensures ∙ none_left c.finished_ticket.result c.in_default-finished_ticket.not-Some in
    answers_quiet g.E.LocalEngine.stands g.D.Disk.tells c.votes_no-in_default-finished_ticket.result core core (g.D.Disk.seen c.args.disk.now) home past _ _ k refl refl
    (ap (unless_tripped home past) (prepare_unfinished home past tid c.args.epoch c.args.n none unfinished ∙ no_is tid c.args.epoch c.args.n _ []))
    (no_adds g.E.LocalEngine.stands core home past tid c.args.epoch c.args.n c.votes_no-in_default-finished_ticket.result k.holds c.requires.up c.votes_no-in_default-finished_ticket.ensures)

pub record_vote-requires-clause-ticket : goal.record_vote-requires-clause-ticket
record_vote-requires-clause-ticket g c =
    let m = c.requires.may in
    let core = c.args.self.now in
    let tid = c.args.tid in
    let ticket = c.in-Some-finished_ticket.ticket in
    let u = is_up_at g.E.LocalEngine.stands core m.home m.past m.stood.holds.memory c.requires.up in
    let noted = noted_ticket core.book m.home m.past tid core.epoch c.args.epoch c.args.n u.notes u.epoch in
    let f = finishes m.home m.past tid c.args.epoch c.args.n ticket (sym noted ∙ sym c.finished_ticket.ensures ∙ c.in-Some-finished_ticket.is) in
    sealed_ticket m.home m.past tid c.args.epoch c.args.n ticket c.in-Ok.sealed f (c.in-Ok.ensures.given (epoch_start m.home m.past) (engine_lines m.past) u.engine)

pub record_vote-requires-clause-may : goal.record_vote-requires-clause-may
record_vote-requires-clause-may g c =
    let m = c.requires.may in
    let core = c.args.self.now in
    let tid = c.args.tid in
    let ticket = c.in-Some-finished_ticket.ticket in
    let u = is_up_at g.E.LocalEngine.stands core m.home m.past m.stood.holds.memory c.requires.up in
    let noted = noted_ticket core.book m.home m.past tid core.epoch c.args.epoch c.args.n u.notes u.epoch in
    let f = finishes m.home m.past tid c.args.epoch c.args.n ticket (sym noted ∙ sym c.finished_ticket.ensures ∙ c.in-Some-finished_ticket.is) in
    let l = finished_live core.book m.home m.past tid c.args.epoch c.args.n ticket u.notes f in
    let stood = c.in-Ok.ensures.sealed (epoch_start m.home m.past) (engine_lines m.past) u.engine in
    record {
      home = m.home;
      past = m.past;
      stood = sealing_stands g.E.LocalEngine.stands g.D.Disk.tells tid c.in-Ok.sealed core c.seal.new.self (g.D.Disk.seen c.args.disk.now) m.home m.past m.stood l stood (g.met.E.LocalEngine.right _ _ _ stood)
          (c.in-Ok.ensures.given (epoch_start m.home m.past) (engine_lines m.past) u.engine);
      holds = m.holds;
    }

pub returns-in-Ok-clause-answered : goal.returns-in-Ok-clause-answered
returns-in-Ok-clause-answered g c =
    let core = c.args.self.now in
    let tid = c.args.tid in
    let ticket = c.in-Some-finished_ticket.ticket in
    let sealed_core : SiteCore _ = record core { engine = c.seal.new.self } in
    let new = c.record_vote.new.self in
    let after = g.D.Disk.seen c.record_vote.new.disk in
    let K : Home → SitePast → Type 0 = StandsSealing g.E.LocalEngine.stands g.D.Disk.tells tid c.in-Ok.sealed sealed_core (g.D.Disk.seen c.args.disk.now) in
    let L : Home → SitePast → Type 0 = Stands g.E.LocalEngine.stands g.D.Disk.tells core (g.D.Disk.seen c.args.disk.now) in
    let says : SiteStep → Home → SitePast → Type 0 = λ step home past. CanPrepare tid home past → (n : ℕ) → HasFinished tid n home past → Answers g.E.LocalEngine.stands g.D.Disk.tells 0 (g.D.Disk.seen c.args.disk.now) step new after home past (unless_tripped home past (of_prepare home past tid core.epoch n)) in
    let said : SiteStep → Home → SitePast → Type 0 = λ step home past. CanPrepare tid home past → Answers g.E.LocalEngine.stands g.D.Disk.tells 0 (g.D.Disk.seen c.args.disk.now) step new after home past (unless_tripped home past (of_prepare home past tid c.args.epoch c.args.n)) in
    map_ok (λ step. EachPast K (says step)) (λ step. EachPast L (said step)) c.record_vote.result c.record_vote.ensures.answered
    (λ step p home past k may.
    let u = is_up_at g.E.LocalEngine.stands core home past k.holds.memory c.requires.up in
    let noted = noted_ticket core.book home past tid core.epoch c.args.epoch c.args.n u.notes u.epoch in
    let f = finishes home past tid c.args.epoch c.args.n ticket (sym noted ∙ sym c.finished_ticket.ensures ∙ c.in-Some-finished_ticket.is) in
    let l = finished_live core.book home past tid c.args.epoch c.args.n ticket u.notes f in
    let stood = c.in-Ok.ensures.sealed (epoch_start home past) (engine_lines past) u.engine in
    let here : c.args.epoch ≡ core.epoch = finished_epoch home past tid c.args.epoch c.args.n ticket f ∙ sym u.epoch in
    answers_as g.E.LocalEngine.stands g.D.Disk.tells 0 (g.D.Disk.seen c.args.disk.now) step new after home past _ _ (ap (λ (e : ℕ). unless_tripped home past (of_prepare home past tid e c.args.n)) here)
    (p home past (sealing_stands g.E.LocalEngine.stands g.D.Disk.tells tid c.in-Ok.sealed core c.seal.new.self (g.D.Disk.seen c.args.disk.now) home past k l stood (g.met.E.LocalEngine.right _ _ _ stood)
    (c.in-Ok.ensures.given (epoch_start home past) (engine_lines past) u.engine)) may c.args.n (finished_count home past tid c.args.epoch c.args.n ticket f)))

pub returns-in-Ok-clause-failed : goal.returns-in-Ok-clause-failed
returns-in-Ok-clause-failed g c =
    let core = c.args.self.now in
    let tid = c.args.tid in
    let ticket = c.in-Some-finished_ticket.ticket in
    let sealed_core : SiteCore _ = record core { engine = c.seal.new.self } in
    let new = c.record_vote.new.self in
    let after = g.D.Disk.seen c.record_vote.new.disk in
    let K : Home → SitePast → Type 0 = StandsSealing g.E.LocalEngine.stands g.D.Disk.tells tid c.in-Ok.sealed sealed_core (g.D.Disk.seen c.args.disk.now) in
    let L : Home → SitePast → Type 0 = Stands g.E.LocalEngine.stands g.D.Disk.tells core (g.D.Disk.seen c.args.disk.now) in
    let breaks : StepErr → ℕ → ℕ → Home → SitePast → Type 0 = λ why e n home past. Breaks g.E.LocalEngine.stands g.D.Disk.tells (0 + calls_for home past (Ev.Give (To.Prepare tid e n))) (g.D.Disk.seen c.args.disk.now) why new after home past (Ev.Give (To.Prepare tid e n)) in
    let fails : StepErr → Home → SitePast → Type 0 = λ why home past. CanPrepare tid home past → (n : ℕ) → HasFinished tid n home past → breaks why core.epoch n home past in
    let failed : StepErr → Home → SitePast → Type 0 = λ why home past. CanPrepare tid home past → breaks why c.args.epoch c.args.n home past in
    map_err (λ why. EachPast K (fails why)) (λ why. EachPast L (failed why)) c.record_vote.result c.record_vote.ensures.failed
    (λ why p home past k may.
    let u = is_up_at g.E.LocalEngine.stands core home past k.holds.memory c.requires.up in
    let noted = noted_ticket core.book home past tid core.epoch c.args.epoch c.args.n u.notes u.epoch in
    let f = finishes home past tid c.args.epoch c.args.n ticket (sym noted ∙ sym c.finished_ticket.ensures ∙ c.in-Some-finished_ticket.is) in
    let l = finished_live core.book home past tid c.args.epoch c.args.n ticket u.notes f in
    let stood = c.in-Ok.ensures.sealed (epoch_start home past) (engine_lines past) u.engine in
    let here : c.args.epoch ≡ core.epoch = finished_epoch home past tid c.args.epoch c.args.n ticket f ∙ sym u.epoch in
    let B : ℕ → Type 0 = λ e. breaks why e c.args.n home past in
    subst B (sym here)
    (p home past (sealing_stands g.E.LocalEngine.stands g.D.Disk.tells tid c.in-Ok.sealed core c.seal.new.self (g.D.Disk.seen c.args.disk.now) home past k l stood (g.met.E.LocalEngine.right _ _ _ stood)
    (c.in-Ok.ensures.given (epoch_start home past) (engine_lines past) u.engine)) may c.args.n (finished_count home past tid c.args.epoch c.args.n ticket f)))

pub returns-in-Err-Refused-clause-answered : goal.returns-in-Err-Refused-clause-answered
returns-in-Err-Refused-clause-answered g c = λ home past k may.
    let core = c.args.self.now in
    let tid = c.args.tid in
    let why = c.in-Err-Refused.why in
    let ticket = c.in-Some-finished_ticket.ticket in
    let u = is_up_at g.E.LocalEngine.stands core home past k.holds.memory c.requires.up in
    let none = none_doubted (doubt_of (records home past) tid) (sym (u.doubts tid) ∙ sym c.doubtful.ensures ∙ none_left c.doubtful.result c.in_default.not-Some) in
    let noted = noted_ticket core.book home past tid core.epoch c.args.epoch c.args.n u.notes u.epoch in
    let f = finishes home past tid c.args.epoch c.args.n ticket (sym noted ∙ sym c.finished_ticket.ensures ∙ c.in-Some-finished_ticket.is) in
    let l = finished_live core.book home past tid c.args.epoch c.args.n ticket u.notes f in
    let failed = rw c.in-Err-Refused.field-0-is at c.in-Err-Refused.ensures.failed in
    let stood = failed (epoch_start home past) (engine_lines past) u.engine in
    let stops = refused_by core.book home past tid why l (g.met.E.LocalEngine.right _ _ _ stood) in
    let x = no_line tid c.args.epoch c.args.n (Some why) (Refuses tid why ∷ []) in
    answers_quiet g.E.LocalEngine.stands g.D.Disk.tells c.votes_no-in-Err-Refused.result core _ (g.D.Disk.seen c.args.disk.now) home past _ x k refl refl
    (ap (unless_tripped home past) (refused_here core.book home past tid c.args.epoch c.args.n ticket why l none f stops))
    (refused_adds g.E.LocalEngine.stands core _ home past tid c.args.epoch c.args.n why c.votes_no-in-Err-Refused.result l k.holds c.requires.up
    (ap (λ b. let new : SiteCore _ = record core { engine = c.seal.new.self; book = b } in new) c.close.ensures) stood
    (c.votes_no-in-Err-Refused.ensures ∙ ap (λ (w : Why). let s : SiteStep = record { answer = Say.VotesNo tid (Some w); sends = Some (From.Vote tid None) } in s) c.in-Err-Refused.why-is))
