-- The line of a Prepare, and what a core stands for behind it.
use Rattle.std.proofs.Common.{◌≡◌, ℕ, ◌+◌, ◌≤◌, ◌==◌, ◌&&◌, ◌||◌, Bool, true, false, cond, is_some, IsSome, Option, Some, None, Err, List, [], ◌∷◌, ◌++◌, inr, length, refl, sym, ap, ap₂, ◌∙◌, subst, arith}
use Rattle.std.specs.Prelude.{option_to_list}
use Rattle.std.proofs.lemmas.Bool.{cond-true, cond-false, and_parts, and_from, eq-eqb, eqb-true}
use Rattle.mdb_base.specs.declared.names.Tid.{Tid}
use Rattle.mdb_base.specs.declared.names.Tx.{Tx}
use Rattle.mdb_base.specs.declared.rows.Put.{Put}
use Rattle.mdb_base.specs.declared.replies.Why.{Why}
use Rattle.mdb_base.specs.Names.{same_tid}
use Rattle.mdb_base.specs.Words.{given, inserted, map_some, when}
use Rattle.mdb_base.proofs.ForCallers.{same_tid-refl}
use Rattle.fed_rules.specs.declared.answers.Answer.TheVariants as Say
use Rattle.fed_rules.specs.declared.events.SiteEvent.TheVariants as Ev
use Rattle.fed_rules.specs.declared.events.SiteStep.{SiteStep}
use Rattle.fed_rules.specs.declared.messages.FromSite.TheVariants as From
use Rattle.fed_rules.specs.declared.messages.ToSite.TheVariants as To
use Rattle.fed_rules.specs.declared.records.SiteRecord.{SiteRecord}
use Rattle.fed_rules.specs.declared.records.SiteRecord.TheVariants as Rec
use Rattle.fed_rules.specs.declared.runs.Doubt.{Doubt}
use Rattle.fed_rules.specs.declared.runs.Sealed.{Sealed}
use Rattle.fed_rules.specs.Disk.{Append, Sync, after_calls}
use Rattle.fed_rules.specs.Happenings.{is_down, used}
use Rattle.fed_rules.specs.Runs as Lines
use Rattle.fed_rules.specs.Runs.{Access, EngineLine, Refuses, Run, Seals, changed, puts_of, run_at}
use Rattle.fed_rules.specs.Site as Site
use Rattle.fed_rules.specs.Site.{answered, number_of, of_give, of_prepare, prepare_live, seals_global, site_line, stop_of, unless_tripped, votes_again, votes_no, votes_yes}
use Rattle.fed_rules.specs.SitePast.{SiteHappening, SitePast, attempts_of, begins_tx, decides_on, engine_lines, epoch, epoch_start, is_closed, live, live_one}
use Rattle.fed_rules.specs.SitePast as Past
use Rattle.fed_rules.specs.SiteRecords.{Held, Home, doubt_of, local_of, site_frame}
use Rattle.journal_disk.specs.Disk.{HasCalled, HasCalledAtMost, Seen}
use Rattle.journal_disk.specs.Frames.{IsPayload}
use Rattle.journal_sums.specs.Starts.{doubt_held}
use Rattle.prepared_state.specs.Book.{doubt_about, stands_before}
use Rattle.prepared_state.specs.Book as Doubts
use Rattle.prepared_state.proofs.ForCallers.{doubt_about-inserted}
use Rattle.site_journal.specs.Spelling.{spelling}
use Rattle.engine_contract.specs.Calls.{SealsRun}
use Rattle.actor_store.specs.declared.errors.StepErr.TheVariants as Err_is
use Rattle.actor_store.specs.declared.store.Break.TheVariants.{Stopped, Failed}
use Rattle.actor_store.specs.declared.store.Standing.{Standing}
use Rattle.actor_store.specs.declared.store.Standing.TheVariants.{Up}
use Rattle.actor_store.specs.Store.{Called, Passes, is_up}
use Rattle.site_book.specs.declared.progress.Progress.{Progress}
use Rattle.site_book.specs.Noted.{Noted, noted_of}
use Rattle.site_book.specs.Book.{Book, begun_in, closes, live_in, live_part, progress_of, seals}
use Rattle.site_book.proofs.ForCallers.{calls_well}
use Rattle.site_history.proofs.ForCallers.{live_is}
use Rattle.site_core.specs.declared.site.SiteCore.{SiteCore}
use Rattle.site_core.specs.Made.{was_local, was_found}
use Rattle.site_core.specs.Notes.{Notes, NotesPast}
use Rattle.site_core.specs.Operations.{finished_ticket}
use Rattle.site_core.specs.Sealing.{HasFinished, SealsLive, StandsSealing}
use Rattle.site_core.specs.Stands.{Adds, Answers, Breaks, Holds, IsIn, IsUp, Stands, calls_for}
use Rattle.site_core.specs.Store.{Ends, Keeps}
use Rattle.site_core.proofs.CommitLaws.{puts_of-length}
use Rattle.site_core.proofs.GlobalLaws.{none_counted, order_seals}
use Rattle.site_core.proofs.CalledLaws.{give_calls}
use Rattle.site_core.proofs.InquiryLaws.{none_doubted, some_doubted}
use Rattle.site_core.proofs.LineLaws.{HasLive, live_some, noted_live}
use Rattle.site_core.proofs.LocalLaws.{end_notes}
use Rattle.site_core.proofs.NotesLaws.{known_before, notes_change}
use Rattle.site_core.proofs.OperationLaws.{give_prepare}
use Rattle.site_core.proofs.RememberLaws.{IsPlain, answers_as, carries_line, is_up_at, more_lines, passes_is, remembers_line, same_start, up_is}
use Rattle.site_core.proofs.SealingLaws.{before_up, sealed_failed, sealed_run, sealed_stopped}
use Rattle.site_core.proofs.SetUpLaws.{payload_of}
use Rattle.site_core.proofs.StopLaws.{GoesOn, trip_line}
use Rattle.site_core.proofs.UpLaws.{closed_one, up_quiet_disk, up_same}

-- the record of a sealed run fits a frame
pub prepared_fits : (tid : Tid) (e number ticket : ℕ) (writes : List Put) (acts : List Access) → writes ≡ puts_of acts → length acts ≤ 32 → IsPayload (spelling (Rec.Prepared tid e number ticket writes))
prepared_fits tid e number ticket writes acts is few =
    let short = puts_of-length acts in
    let same : length writes ≡ length (puts_of acts) = ap length is in
    payload_of (Rec.Prepared tid e number ticket writes) (omega arith)

-- an attempt with this ticket is live and has finished so many operations in this epoch
pub record Finishes (home : Home) (past : SitePast) (tid : Tid) (e n ticket : ℕ) : Type 0 where
  pub run : Run
  pub live : live home past tid ≡ Some run
  pub named : ((e == epoch home past) && (n == Site.done run)) ≡ true
  pub taken : run.ticket ≡ Some ticket

module _ (home : Home) (past : SitePast) (tid : Tid) (e n : ℕ) where
  prepare_again : (held : Held) → doubt_of (Past.records home past) tid ≡ Some held → (held.epoch == e) ≡ true → of_prepare home past tid e n ≡ votes_again tid e n held
  unfolding of_prepare given when
  prepare_again held d b = rw (d, b) refl

  prepare_late : (held : Held) → doubt_of (Past.records home past) tid ≡ Some held → (held.epoch == e) ≡ false → of_prepare home past tid e n ≡ votes_no tid e n None []
  unfolding of_prepare given when
  prepare_late held d b = rw (d, b) refl

  prepare_none : doubt_of (Past.records home past) tid ≡ None → live home past tid ≡ None → of_prepare home past tid e n ≡ votes_no tid e n None []
  unfolding of_prepare given
  prepare_none d l = rw (d, l) refl

  prepare_of_live : (run : Run) → doubt_of (Past.records home past) tid ≡ None → live home past tid ≡ Some run → of_prepare home past tid e n ≡ prepare_live home past tid e n run
  unfolding of_prepare given
  prepare_of_live run d l = rw (d, l) refl

  live_other : (run : Run) → ((e == epoch home past) && (n == Site.done run)) ≡ false → prepare_live home past tid e n run ≡ votes_no tid e n None []
  unfolding prepare_live when
  live_other run b = rw b refl

  live_ticketless : (run : Run) → ((e == epoch home past) && (n == Site.done run)) ≡ true → run.ticket ≡ None → prepare_live home past tid e n run ≡ votes_no tid e n None []
  unfolding prepare_live when given
  live_ticketless run b t = rw (b, t) refl

  live_finished : (run : Run) (ticket : ℕ) → ((e == epoch home past) && (n == Site.done run)) ≡ true → run.ticket ≡ Some ticket → prepare_live home past tid e n run ≡ seals_global home past tid e n run ticket
  unfolding prepare_live when given
  live_finished run ticket b t = rw (b, t) refl

  seals_refused : (run : Run) (ticket : ℕ) (why : Why) → stop_of home past run ≡ Some why → seals_global home past tid e n run ticket ≡ votes_no tid e n (Some why) (Refuses tid why ∷ [])
  unfolding seals_global given
  seals_refused run ticket why s = rw s refl

  seals_passes : (run : Run) (ticket : ℕ) → stop_of home past run ≡ None → seals_global home past tid e n run ticket ≡ votes_yes home past tid e n run ticket
  unfolding seals_global given
  seals_passes run ticket s = rw s refl

  -- of an attempt that hasn't finished so the vote is no
  pub prepare_unfinished : doubt_of (Past.records home past) tid ≡ None → finished_ticket (map_some noted_of (live home past tid)) (epoch home past) e n ≡ None → of_prepare home past tid e n ≡ votes_no tid e n None []
  prepare_unfinished d says = from (live home past tid) refl says where
    by_named : (run : Run) → live home past tid ≡ Some run → (b : Bool) → ((e == epoch home past) && (n == Site.done run)) ≡ b
        → cond ((e == epoch home past) && (n == Site.done run)) run.ticket None ≡ None → of_prepare home past tid e n ≡ votes_no tid e n None []
    by_named run is true b s = prepare_of_live run d is ∙ live_ticketless run b (sym (cond-true _ _ _ b) ∙ s)
    by_named run is false b s = prepare_of_live run d is ∙ live_other run b

    from : (o : Option Run) → live home past tid ≡ o → finished_ticket (map_some noted_of o) (epoch home past) e n ≡ None → of_prepare home past tid e n ≡ votes_no tid e n None []
    from None is s = prepare_none d is
    from (Some run) is s = by_named run is ((e == epoch home past) && (n == Site.done run)) refl s

  pub finishes : (ticket : ℕ) → finished_ticket (map_some noted_of (live home past tid)) (epoch home past) e n ≡ Some ticket → Finishes home past tid e n ticket
  finishes ticket says = from (live home past tid) refl says where
    by_named : (run : Run) → live home past tid ≡ Some run → (b : Bool) → ((e == epoch home past) && (n == Site.done run)) ≡ b
        → cond ((e == epoch home past) && (n == Site.done run)) run.ticket None ≡ Some ticket → Finishes home past tid e n ticket
    by_named run is true b s = record { run = run; live = is; named = b; taken = sym (cond-true _ _ _ b) ∙ s }
    by_named run is false b s = absurd (no_ticket (sym (cond-false _ _ _ b) ∙ s)) where
      no_ticket : ◌≡◌ {A = Option ℕ} None (Some ticket) → ⊥
      no_ticket f = cc

    from : (o : Option Run) → live home past tid ≡ o → finished_ticket (map_some noted_of o) (epoch home past) e n ≡ Some ticket → Finishes home past tid e n ticket
    from None is s = cc
    from (Some run) is s = by_named run is ((e == epoch home past) && (n == Site.done run)) refl s

  -- a refusal of the sealing
  pub prepare_refused : (ticket : ℕ) (why : Why) → doubt_of (Past.records home past) tid ≡ None → (f : Finishes home past tid e n ticket) → stop_of home past f.run ≡ Some why
      → of_prepare home past tid e n ≡ votes_no tid e n (Some why) (Refuses tid why ∷ [])
  prepare_refused ticket why d f s = prepare_of_live f.run d f.live ∙ live_finished f.run ticket f.named f.taken ∙ seals_refused f.run ticket why s

  -- and a sealing
  prepare_passes : (run : Run) (ticket : ℕ) → doubt_of (Past.records home past) tid ≡ None → live home past tid ≡ Some run → ((e == epoch home past) && (n == Site.done run)) ≡ true → run.ticket ≡ Some ticket
      → stop_of home past run ≡ None → of_prepare home past tid e n ≡ votes_yes home past tid e n run ticket
  prepare_passes run ticket d l b t s = prepare_of_live run d l ∙ live_finished run ticket b t ∙ seals_passes run ticket s

-- what the book says of it
pub noted_ticket : (book : Book) (home : Home) (past : SitePast) (tid : Tid) (here e n : ℕ) → NotesPast book home past → here ≡ epoch home past
    → finished_ticket (live_in book tid) here e n ≡ finished_ticket (map_some noted_of (live home past tid)) (epoch home past) e n
noted_ticket book home past tid here e n notes is = ap₂ (λ (o : Option Noted) (k : ℕ). finished_ticket o k e n) (noted_live book _ _ _ notes.follows tid) is

pub finished_live : (book : Book) (home : Home) (past : SitePast) (tid : Tid) (e n ticket : ℕ) → NotesPast book home past → Finishes home past tid e n ticket → HasLive book home past tid
finished_live book home past tid e n ticket notes f = live_some book home past tid notes (ap is_some (noted_live book _ _ _ notes.follows tid ∙ ap (map_some noted_of) f.live))

-- a sealing hands its ticket out
pub sealed_ticket : (home : Home) (past : SitePast) (tid : Tid) (e n ticket : ℕ) (sealed : Sealed) → Finishes home past tid e n ticket → SealsRun tid sealed (epoch_start home past) (engine_lines past) → sealed.ticket ≡ Some ticket
sealed_ticket home past tid e n ticket sealed f given = (given f.run (live_is (run_at (epoch_start home past) (engine_lines past) tid) f.run f.live).0).ticket ∙ f.taken

-- the epoch and the count that it names
one_run : (a b : Run) → ◌≡◌ {A = Option Run} (Some a) (Some b) → a ≡ b
one_run a b s = cc

pub finished_epoch : (home : Home) (past : SitePast) (tid : Tid) (e n ticket : ℕ) → Finishes home past tid e n ticket → e ≡ epoch home past
finished_epoch home past tid e n ticket f = eqb-true e (epoch home past) (and_parts _ _ f.named).0

pub finished_count : (home : Home) (past : SitePast) (tid : Tid) (e n ticket : ℕ) → Finishes home past tid e n ticket → HasFinished tid n home past
finished_count home past tid e n ticket f = λ run is.
    let same : f.run ≡ run = one_run f.run run (sym f.live ∙ is) in
    eqb-true n (Site.done f.run) (and_parts _ _ f.named).1 ∙ ap Site.done same

-- the line of a vote that changes no run
abbrev pub again_line : Tid → ℕ → ℕ → ℕ → SiteHappening
again_line tid e n ticket = record { event = Ev.Give (To.Prepare tid e n); answer = Say.VotesYes tid ticket; sends = From.Vote tid (Some ticket) ∷ []; calls = []; lines = [] }

-- the line of a no vote
abbrev pub no_line : Tid → ℕ → ℕ → Option Why → List EngineLine → SiteHappening
no_line tid e n why lines = record { event = Ev.Give (To.Prepare tid e n); answer = Say.VotesNo tid why; sends = From.Vote tid None ∷ []; calls = []; lines = lines }

pub no_is : (tid : Tid) (e n : ℕ) (why : Option Why) (lines : List EngineLine) → votes_no tid e n why lines ≡ no_line tid e n why lines
unfolding votes_no
no_is tid e n why lines = refl

again_is : (tid : Tid) (e n : ℕ) (held : Held) → votes_again tid e n held ≡ again_line tid e n held.ticket
unfolding votes_again
again_is tid e n held = refl

-- a vote on an attempt that the site is in doubt of
doubted_held : (o : Option Held) (d : Doubt) → map_some doubt_held o ≡ Some d → (held : Held) × (o ≡ Some held) × (doubt_held held ≡ d)
doubted_held o d s =
    let (held, is) = some_doubted o d s in
    (held, is, same (doubt_held held) d (sym (ap (map_some doubt_held) is) ∙ s))
  where
    same : (a b : Doubt) → ◌≡◌ {A = Option Doubt} (Some a) (Some b) → a ≡ b
    same a b f = cc

pub again_here : (home : Home) (past : SitePast) (tid : Tid) (e n : ℕ) (d : Doubt) → map_some doubt_held (doubt_of (Past.records home past) tid) ≡ Some d → d.epoch ≡ e → of_prepare home past tid e n ≡ again_line tid e n d.ticket
again_here home past tid e n d doubted same =
    let (held, is, held_is) = doubted_held (doubt_of (Past.records home past) tid) d doubted in
    prepare_again home past tid e n held is (eq-eqb held.epoch e (ap (λ (x : Doubt). x.epoch) held_is ∙ same)) ∙ again_is tid e n held
    ∙ ap (λ (x : Doubt). again_line tid e n x.ticket) held_is

pub again_late : (home : Home) (past : SitePast) (tid : Tid) (e n : ℕ) (d : Doubt) → map_some doubt_held (doubt_of (Past.records home past) tid) ≡ Some d → (d.epoch == e) ≡ false → of_prepare home past tid e n ≡ no_line tid e n None []
again_late home past tid e n d doubted other =
    let (held, is, held_is) = doubted_held (doubt_of (Past.records home past) tid) d doubted in
    prepare_late home past tid e n held is (ap (λ (x : Doubt). x.epoch == e) held_is ∙ other) ∙ no_is tid e n None []

-- a refusal of the sealing of a live attempt
pub refused_here : (book : Book) (home : Home) (past : SitePast) (tid : Tid) (e n ticket : ℕ) (why : Why) (l : HasLive book home past tid) → doubt_of (Past.records home past) tid ≡ None → Finishes home past tid e n ticket
    → stop_of home past l.run ≡ Some why → of_prepare home past tid e n ≡ no_line tid e n (Some why) (Refuses tid why ∷ [])
refused_here book home past tid e n ticket why l d f stops =
    let same : f.run ≡ l.run = one_run f.run l.run (sym f.live ∙ l.live) in
    prepare_refused home past tid e n ticket why d f (ap (stop_of home past) same ∙ stops) ∙ no_is tid e n (Some why) (Refuses tid why ∷ [])

-- the line of a Prepare of a site that is up
pub prepare_up : (home : Home) (past : SitePast) (tid : Tid) (e n : ℕ) → is_down past ≡ false → site_line home past (Ev.Give (To.Prepare tid e n)) ≡ unless_tripped home past (of_prepare home past tid e n)
unfolding site_line answered of_give when
prepare_up home past tid e n u = rw u refl

-- a trip that is set before it changes nothing of it
prepare_goes : (tid : Tid) (home : Home) (past : SitePast) (e n calls cut : ℕ) → of_prepare home (trip_line calls cut ∷ past) tid e n ≡ of_prepare home past tid e n
unfolding of_prepare prepare_live seals_global votes_yes
prepare_goes tid home past e n calls cut = refl

-- the line of a yes vote, of these parts
abbrev vote_of : Tid → ℕ → ℕ → ℕ → ℕ → ℕ → List Put → SiteHappening
vote_of tid e n k number ticket writes = record {
  event = Ev.Give (To.Prepare tid e n);
  answer = Say.VotesYes tid ticket;
  sends = From.Vote tid (Some ticket) ∷ [];
  calls = Append (Rec.Prepared tid k number ticket writes) ∷ Sync ∷ [];
  lines = Seals tid number ∷ [];
}

-- and with the sealed record in it
abbrev pub vote_line : Tid → ℕ → ℕ → Sealed → ℕ → SiteHappening
vote_line tid e n sealed ticket = vote_of tid e n e sealed.number ticket sealed.writes

votes_yes_is : (home : Home) (past : SitePast) (tid : Tid) (e n : ℕ) (run : Run) (ticket : ℕ) → votes_yes home past tid e n run ticket ≡ vote_of tid e n (epoch home past) (number_of home past run) ticket (puts_of run.acts)
unfolding votes_yes
votes_yes_is home past tid e n run ticket = refl

vote_is : (tid : Tid) (sealed : Sealed) (e n ticket : ℕ) (home : Home) (past : SitePast) → doubt_of (Past.records home past) tid ≡ None → (s : SealsLive tid sealed home past) → e ≡ epoch home past → n ≡ Site.done s.run
    → sealed.ticket ≡ Some ticket → of_prepare home past tid e n ≡ vote_line tid e n sealed ticket
vote_is tid sealed e n ticket home past d s here count given =
    let named = and_from (e == epoch home past) (n == Site.done s.run) (eq-eqb e (epoch home past) here) (eq-eqb n (Site.done s.run) count) in
    prepare_passes home past tid e n s.run ticket d s.live named (sym s.ticket ∙ given) s.passes ∙ votes_yes_is home past tid e n s.run ticket
    ∙ ap (λ k. vote_of tid e n k (number_of home past s.run) ticket (puts_of s.run.acts)) (sym here)
    ∙ sym (ap₂ (λ m w. vote_of tid e n e m ticket w) s.number s.writes)

-- one more Prepared record, and one more doubt
pub doubts_more : (tid : Tid) (e number ticket : ℕ) (writes : List Put) (doubts : List Doubt) (rs : List SiteRecord) → ((t : Tid) → doubt_about t doubts ≡ map_some doubt_held (doubt_of rs t)) → doubt_about tid doubts ≡ None
    → (t : Tid) → doubt_about t (inserted stands_before (record { tid = tid; epoch = e; ticket = ticket }) doubts) ≡ map_some doubt_held (doubt_of (Rec.Prepared tid e number ticket writes ∷ rs) t)
doubts_more tid e number ticket writes doubts rs before absent t =
    doubt_about-inserted t (record { tid = tid; epoch = e; ticket = ticket }) doubts absent
    ∙ by_test (same_tid tid t) (before t)
  where
    by_test : (b : Bool) → doubt_about t doubts ≡ map_some doubt_held (doubt_of rs t)
        → cond b (Some (record { tid = tid; epoch = e; ticket = ticket })) (doubt_about t doubts)
        ≡ map_some doubt_held (cond b (Some (record { tid = tid; epoch = e; number = number; ticket = ticket; writes = writes })) (doubt_of rs t))
    by_test true rest = refl
    by_test false rest = rest

-- a live attempt has an entry
live_entered : (p : Option Progress) → is_some (live_part p) ≡ true → is_some p ≡ true
live_entered None e = cc
live_entered (Some p) e = refl

module _ {E : Type 0} (stands : E → Lines.Start → List EngineLine → Type 0) where
  -- a vote that changes no run
  pub said_adds : (core : SiteCore E) (home : Home) (past : SitePast) (x : SiteHappening) (step : SiteStep) → Holds stands core home past → core.store.standing ≡ Up → IsPlain x → x.calls ≡ [] → x.lines ≡ []
      → ((u : Tid) → decides_on u x.event ≡ false) → ((tx : Tx) → begins_tx tx x.answer ≡ false) → step.answer ≡ x.answer → option_to_list step.sends ≡ x.sends → Adds stands step core home past x
  said_adds core home past x step h up p calls lines undecided none answer sends =
      let m = h.memory in
      record {
        answer = answer;
        sends = sends;
        memory = remembers_line stands core core home past x m up refl p calls (up_same stands core core home past x p calls lines undecided (is_up_at stands core home past m up) refl refl refl refl)
            (λ tx. m.begun tx ∙ sym (cond-false _ _ _ (none tx))) refl;
      }

  -- a no vote without a refusal
  pub no_adds : (core : SiteCore E) (home : Home) (past : SitePast) (tid : Tid) (e n : ℕ) (step : SiteStep) → Holds stands core home past → core.store.standing ≡ Up
      → step ≡ record { answer = Say.VotesNo tid None; sends = Some (From.Vote tid None) } → Adds stands step core home past (no_line tid e n None [])
  no_adds core home past tid e n step h up says =
      said_adds core home past (no_line tid e n None []) step h up (record { goes = refl; stays = refl; sets = refl }) refl refl (λ u. refl) (λ tx. refl)
      (ap (λ (s : SiteStep). s.answer) says) (ap (λ (s : SiteStep). option_to_list s.sends) says)

  -- a yes vote again
  pub again_adds : (core : SiteCore E) (home : Home) (past : SitePast) (tid : Tid) (e n ticket : ℕ) (step : SiteStep) → Holds stands core home past → core.store.standing ≡ Up
      → step ≡ record { answer = Say.VotesYes tid ticket; sends = Some (From.Vote tid (Some ticket)) } → Adds stands step core home past (again_line tid e n ticket)
  again_adds core home past tid e n ticket step h up says =
      said_adds core home past (again_line tid e n ticket) step h up (record { goes = refl; stays = refl; sets = refl }) refl refl (λ u. refl) (λ tx. refl)
      (ap (λ (s : SiteStep). s.answer) says) (ap (λ (s : SiteStep). option_to_list s.sends) says)

  -- a no vote by a refusal, which closes the attempt
  pub refused_adds : (old new : SiteCore E) (home : Home) (past : SitePast) (tid : Tid) (e n : ℕ) (why : Why) (step : SiteStep) (l : HasLive old.book home past tid)
      → Holds stands old home past → old.store.standing ≡ Up
      → new ≡ record old { engine = new.engine; book = closes tid old.book } → stands new.engine (epoch_start home past) (Refuses tid why ∷ engine_lines past)
      → step ≡ record { answer = Say.VotesNo tid (Some why); sends = Some (From.Vote tid None) } → Adds stands step new home past (no_line tid e n (Some why) (Refuses tid why ∷ []))
  refused_adds old new home past tid e n why step l h up is engine says =
      let m = h.memory in
      let u = is_up_at stands old home past m up in
      let x : SiteHappening = no_line tid e n (Some why) (Refuses tid why ∷ []) in
      let p : IsPlain x = record { goes = refl; stays = refl; sets = refl } in
      let book : new.book ≡ closes tid old.book = ap (λ (c : SiteCore E). c.book) is in
      let follows = calls_well old.book (closes tid old.book) (epoch_start home past) (engine_lines past) (Refuses tid why) (is_closed past) (is_closed (x ∷ past)) u.notes.follows (λ v. closed_one past x (Refuses tid why) v refl refl refl) refl in
      let N : Book → Type 0 = λ b. Notes b (epoch_start home past) (Refuses tid why ∷ engine_lines past) (is_closed (x ∷ past)) (local_of (Past.records home past)) (x ∷ past) in
      let notes = end_notes stands old home past tid (Refuses tid why) x l u refl (ap (changed (Refuses tid why)) l.is.0) p (λ v. refl) refl follows in
      record {
        answer = ap (λ (s : SiteStep). s.answer) says;
        sends = ap (λ (s : SiteStep). option_to_list s.sends) says;
        memory = remembers_line stands old new home past x m up (ap (λ (c : SiteCore E). c.store) is) p refl
            (up_quiet_disk stands old new home past x p refl u engine (subst N (sym book) notes) (ap (λ (c : SiteCore E). c.doubts) is) (ap (λ (c : SiteCore E). c.epoch) is))
            (λ tx. ap (λ (b : Book). begun_in b tx) book ∙ m.begun tx) (ap (λ (c : SiteCore E). c.protocol) is);
      }

  -- behind a line that changes what is doubted
  pub up_doubting : (new : SiteCore E) (home : Home) (past : SitePast) (x : SiteHappening) → IsPlain x
      → stands new.engine (epoch_start home past) (x.lines ++ engine_lines past)
      → Notes new.book (epoch_start home past) (x.lines ++ engine_lines past) (is_closed (x ∷ past)) (local_of (Past.records home (x ∷ past))) (x ∷ past)
      → ((tid : Tid) → doubt_about tid new.doubts.doubts ≡ map_some doubt_held (doubt_of (Past.records home (x ∷ past)) tid))
      → new.epoch ≡ epoch home (x ∷ past) → IsUp stands new home (x ∷ past)
  up_doubting new home past x p engine notes doubts number =
      let S : Lines.Start → List EngineLine → Type 0 = λ s l. stands new.engine s l in
      let N : Lines.Start → List EngineLine → Type 0 = λ s l. Notes new.book s l (is_closed (x ∷ past)) (local_of (Past.records home (x ∷ past))) (x ∷ past) in
      let start = same_start home past x p in
      let lines = more_lines past x p in
      record {
        engine = subst (λ (s : Lines.Start). S s (engine_lines (x ∷ past))) (sym start) (subst (λ (l : List EngineLine). S (epoch_start home past) l) (sym lines) engine);
        notes = subst (λ (s : Lines.Start). N s (engine_lines (x ∷ past))) (sym start) (subst (λ (l : List EngineLine). N (epoch_start home past) l) (sym lines) notes);
        doubts = doubts;
        epoch = number;
      }

  module _ (tells : Bool) where
    -- a core that made room for a doubt stands for the same
    pub reserved_stands : (core : SiteCore E) (doubts : Doubts.Book) (disk : Seen) (home : Home) (past : SitePast) → core.store.standing ≡ Up → doubts.doubts ≡ core.doubts.doubts → Stands stands tells core disk home past
        → Stands stands tells (record core { doubts = doubts }) disk home past
    reserved_stands core doubts disk home past up same k =
        let m = k.holds.memory in
        let u = is_up_at stands core home past m up in
        let now : IsUp stands (record core { doubts = doubts }) home past = record { engine = u.engine; notes = u.notes; doubts = (λ t. ap (doubt_about t) same ∙ u.doubts t); epoch = u.epoch } in
        let P : Standing → Type 0 = λ s. IsIn stands (record core { doubts = doubts }) s home past in
        record {
          holds = record {
            made = k.holds.made;
            memory = record { records = m.records; trip = m.trip; armed = m.armed; standing = m.standing; standing_in = subst P (sym up) now; begun = m.begun; protocol = m.protocol; once = m.once };
          };
          stored = k.stored;
        }

    module _ (tid : Tid) (sealed : Sealed) where
      -- one whose engine sealed the attempt too
      pub reserved_sealing : (core : SiteCore E) (doubts : Doubts.Book) (disk : Seen) (home : Home) (past : SitePast) → core.store.standing ≡ Up → doubts.doubts ≡ core.doubts.doubts
          → StandsSealing stands tells tid sealed core disk home past → StandsSealing stands tells tid sealed (record core { doubts = doubts }) disk home past
      reserved_sealing core doubts disk home past up same k = record {
        engine = k.engine;
        stood = reserved_stands (record core { engine = k.engine }) doubts disk home past up same k.stood;
        sealing = k.sealing;
        seals = k.seals;
      }

      -- the record fits a frame
      pub vote_fits : (core : SiteCore E) (disk : Seen) (home : Home) (past : SitePast) (ticket : ℕ) (k : StandsSealing stands tells tid sealed core disk home past) → core.store.standing ≡ Up
          → IsPayload (spelling (Rec.Prepared tid core.epoch sealed.number ticket sealed.writes))
      vote_fits core disk home past ticket k up =
          prepared_fits tid core.epoch sealed.number ticket sealed.writes k.seals.run.acts k.seals.writes ((before_up stands tells tid sealed core disk home past k up).notes.few tid k.seals.run k.seals.live)

      lives_in : (core : SiteCore E) (disk : Seen) (home : Home) (past : SitePast) (k : StandsSealing stands tells tid sealed core disk home past) → core.store.standing ≡ Up → is_some (live_in core.book tid) ≡ true
      lives_in core disk home past k up =
          let u = before_up stands tells tid sealed core disk home past k up in
          ap is_some (noted_live core.book _ _ _ u.notes.follows tid ∙ ap (map_some noted_of) k.seals.live)

      -- the book has the attempt
      pub vote_entered : (core : SiteCore E) (disk : Seen) (home : Home) (past : SitePast) (k : StandsSealing stands tells tid sealed core disk home past) → core.store.standing ≡ Up → IsSome (progress_of core.book tid)
      vote_entered core disk home past k up = live_entered (progress_of core.book tid) (lives_in core disk home past k up)

      -- the line of the vote is the rule's
      vote_line_is : (core : SiteCore E) (disk : Seen) (home : Home) (past : SitePast) (n ticket : ℕ) (k : StandsSealing stands tells tid sealed core disk home past) → core.store.standing ≡ Up
          → doubt_about tid core.doubts.doubts ≡ None → sealed.ticket ≡ Some ticket → HasFinished tid n home past → of_prepare home past tid core.epoch n ≡ vote_line tid core.epoch n sealed ticket
      vote_line_is core disk home past n ticket k up absent given finished =
          let u = before_up stands tells tid sealed core disk home past k up in
          vote_is tid sealed core.epoch n ticket home past (none_doubted (doubt_of (Past.records home past) tid) (sym (u.doubts tid) ∙ absent)) k.seals u.epoch (finished k.seals.run k.seals.live) given

      -- the forced record ends as the line says
      pub vote_done : (old new : SiteCore E) (step : SiteStep) (disk disk' : Seen) (home : Home) (past : SitePast) (n ticket : ℕ) (k : StandsSealing stands tells tid sealed old disk home past)
          → old.store.standing ≡ Up → was_local tid.tx past ≡ false → doubt_about tid old.doubts.doubts ≡ None → sealed.ticket ≡ Some ticket → HasFinished tid n home past
          → Passes (Past.trip past) 2 × Keeps (was_found past) tells disk' new.store (after_calls site_frame (Past.disk home past) (vote_line tid old.epoch n sealed ticket).calls) (used 2 (Past.trip past))
          → new.store.standing ≡ Up → new ≡ record old { book = seals tid old.book; doubts = new.doubts; store = new.store }
          → new.doubts.doubts ≡ inserted stands_before (record { tid = tid; epoch = old.epoch; ticket = ticket }) old.doubts.doubts
          → step ≡ record { answer = Say.VotesYes tid ticket; sends = Some (From.Vote tid (Some ticket)) } → HasCalled 2 disk disk'
          → Answers stands tells 0 disk step new disk' home past (unless_tripped home past (of_prepare home past tid old.epoch n))
      vote_done old new step disk disk' home past n ticket k up global absent given finished ends now is doubts says called =
          let y = vote_line tid old.epoch n sealed ticket in
          let before : SiteCore E = record old { engine = k.engine } in
          let u = before_up stands tells tid sealed old disk home past k up in
          let m = k.stood.holds.memory in
          let p : IsPlain y = record { goes = refl; stays = refl; sets = refl } in
          let lives = lives_in old disk home past k up in
          let closing : (v : Tid) → is_closed (y ∷ past) v ≡ (Past.ends v (Seals tid sealed.number) || is_closed past v) = λ v. closed_one past y (Seals tid sealed.number) v refl refl refl in
          let follows = calls_well old.book (seals tid old.book) (epoch_start home past) (engine_lines past) (Seals tid sealed.number) (is_closed past) (is_closed (y ∷ past)) u.notes.follows closing (lives, refl) in
          let order = order_seals old.book tid u.notes.order (none_counted old.book home past tid.tx k.stood.holds.made m.begun global) in
          let notes : Notes (seals tid old.book) (epoch_start home past) (y.lines ++ engine_lines past) (is_closed (y ∷ past)) (local_of (Past.records home (y ∷ past))) (y ∷ past) =
          notes_change old.book (seals tid old.book) (epoch_start home past) (engine_lines past) (y.lines ++ engine_lines past) (is_closed past) (is_closed (y ∷ past)) (local_of (Past.records home past)) (local_of (Past.records home (y ∷ past))) past y tid
          u.notes follows order u.notes.committed_is
          (λ v e. cond-false _ _ _ e)
          (λ v e. closing v)
          (known_before y past tid (u.notes.known tid (inr (ap is_some k.seals.live))))
          (λ run e. absurd (none_is run (sym (ap live_one (cond-true _ _ _ (same_tid-refl tid) ∙ ap (changed (Seals tid sealed.number)) (sealed_run stands tells tid sealed old disk home past k))) ∙ e))) in
          let book : new.book ≡ seals tid old.book = ap (λ (c : SiteCore E). c.book) is in
          let N : Book → Type 0 = λ b. Notes b (epoch_start home past) (y.lines ++ engine_lines past) (is_closed (y ∷ past)) (local_of (Past.records home (y ∷ past))) (y ∷ past) in
          let S : E → Type 0 = λ e. stands e (epoch_start home past) (Seals tid sealed.number ∷ engine_lines past) in
          let engine : S new.engine = subst S (sym (ap (λ (c : SiteCore E). c.engine) is)) k.sealing in
          let more = doubts_more tid old.epoch sealed.number ticket sealed.writes old.doubts.doubts (Past.records home past) u.doubts absent in
          answers_as stands tells 0 disk step new disk' home past (unless_tripped home past (of_prepare home past tid old.epoch n)) y
          (ap (unless_tripped home past) (vote_line_is old disk home past n ticket k up absent given finished) ∙ passes_is home past y ends.0)
          (record {
            answer = ap (λ (s : SiteStep). s.answer) says;
            sends = ap (λ (s : SiteStep). option_to_list s.sends) says;
            carries = carries_line stands tells before new disk' home past y m up ends.1 now p
                (up_doubting new home past y p engine (subst N (sym book) notes) (λ t. ap (doubt_about t) doubts ∙ more t) (ap (λ (c : SiteCore E). c.epoch) is ∙ u.epoch))
                (λ tx. ap (λ (b : Book). begun_in b tx) book ∙ m.begun tx) (ap (λ (c : SiteCore E). c.protocol) is) tt;
            called = called;
          }) where
            none_is : (run : Run) → ◌≡◌ {A = Option Run} None (Some run) → ⊥
            none_is run e = cc

      pub vote_stopped : (old new : SiteCore E) (step : SiteStep) (disk disk' : Seen) (home : Home) (past : SitePast) (n ticket kept : ℕ) (k : StandsSealing stands tells tid sealed old disk home past)
          → old.store.standing ≡ Up → doubt_about tid old.doubts.doubts ≡ None → sealed.ticket ≡ Some ticket → HasFinished tid n home past
          → Ends {A = ℕ} (Keeps (was_found past) tells disk' new.store) (Past.disk home past) (Past.trip past) (vote_line tid old.epoch n sealed ticket).calls (Err (Stopped kept))
          → is_up new.store.standing ≡ false → new ≡ record old { store = new.store }
          → step ≡ record { answer = Say.Stopped kept; sends = None } → Called {A = ℕ} 0 (Past.trip past) (vote_line tid old.epoch n sealed ticket).calls disk disk' (Err (Stopped kept))
          → Answers stands tells 0 disk step new disk' home past (unless_tripped home past (of_prepare home past tid old.epoch n))
      vote_stopped old new step disk disk' home past n ticket kept k up absent given finished ends down is says called =
          sealed_stopped stands tells tid sealed old new step disk disk' home past (of_prepare home past tid old.epoch n) (vote_line tid old.epoch n sealed ticket) kept k
          (vote_line_is old disk home past n ticket k up absent given finished) tt ends down is says refl called

      pub vote_failed : (old new : SiteCore E) (disk disk' : Seen) (home : Home) (past : SitePast) (n ticket : ℕ) (k : StandsSealing stands tells tid sealed old disk home past)
          → old.store.standing ≡ Up → doubt_about tid old.doubts.doubts ≡ None → sealed.ticket ≡ Some ticket → HasFinished tid n home past
          → Ends {A = ℕ} (Keeps (was_found past) tells disk' new.store) (Past.disk home past) (Past.trip past) (vote_line tid old.epoch n sealed ticket).calls (Err Failed)
          → is_up new.store.standing ≡ false → new ≡ record old { store = new.store } → HasCalledAtMost 2 disk disk'
          → Breaks stands tells (0 + calls_for home past (Ev.Give (To.Prepare tid old.epoch n))) disk Err_is.Disk new disk' home past (Ev.Give (To.Prepare tid old.epoch n))
      vote_failed old new disk disk' home past n ticket k up absent given finished ends down is called =
          let here = up_is stands (record old { engine = k.engine }) home past k.stood.holds.memory up in
          let y = vote_line tid old.epoch n sealed ticket in
          let goes : GoesOn home past (Ev.Give (To.Prepare tid old.epoch n)) y = λ calls cut.
          prepare_up home (trip_line calls cut ∷ past) tid old.epoch n here
          ∙ ap (unless_tripped home (trip_line calls cut ∷ past)) (prepare_goes tid home past old.epoch n calls cut ∙ vote_line_is old disk home past n ticket k up absent given finished) in
          sealed_failed stands tells tid sealed old new disk disk' home past (Ev.Give (To.Prepare tid old.epoch n)) y k up goes tt ends down is
          (give_calls home past (To.Prepare tid old.epoch n) y (give_prepare home past tid old.epoch n ∙ vote_line_is old disk home past n ticket k up absent given finished)) called
