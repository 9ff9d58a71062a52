-- What a core whose site is up has in memory behind a line.
use Rattle.std.proofs.Common.{◌≡◌, ℕ, zero, suc, ◌+◌, ◌≤◌, ◌<◌, ◌⊎◌, ◌||◌, Bool, true, false, cond, is_some, IsSome, Option, Some, None, List, [], ◌∷◌, ◌++◌, length, inl, inr, refl, sym, ap, ap₂, ◌∙◌, subst, arith}
use Rattle.std.specs.Prelude.{option_to_list}
use Rattle.std.specs.FinMap.{get}
use Rattle.std.proofs.lemmas.Bool.{cond-true, cond-false}
use Rattle.mdb_base.specs.declared.acts.PlainAct.{PlainAct}
use Rattle.mdb_base.specs.declared.acts.PlainAct.TheVariants.{Read, Write}
use Rattle.mdb_base.specs.declared.names.Tid.{Tid}
use Rattle.mdb_base.specs.declared.names.Tx.{Tx}
use Rattle.mdb_base.specs.declared.replies.Reply.{Reply}
use Rattle.mdb_base.specs.declared.replies.Reply.TheVariants as Reply_is
use Rattle.mdb_base.specs.declared.replies.Why.{Why}
use Rattle.mdb_base.specs.declared.replies.Why.TheVariants as Because
use Rattle.mdb_base.specs.Names.{same_tid, same_tx}
use Rattle.mdb_base.specs.Words.{map_some, some_of}
use Rattle.mdb_base.proofs.ForCallers.{or_false, same_tid-equal, same_tid-refl}
use Rattle.fed_rules.specs.declared.answers.Answer.{Answer}
use Rattle.fed_rules.specs.declared.answers.Answer.TheVariants as Say
use Rattle.fed_rules.specs.declared.events.SiteEvent.{SiteEvent}
use Rattle.fed_rules.specs.declared.events.SiteEvent.TheVariants as Ev
use Rattle.fed_rules.specs.declared.events.SiteStep.{SiteStep}
use Rattle.fed_rules.specs.declared.messages.FromSite.{FromSite}
use Rattle.fed_rules.specs.Disk.{after_calls}
use Rattle.fed_rules.specs.Happenings.{comes_up, quiet, stops}
use Rattle.fed_rules.specs.Runs as Lines
use Rattle.fed_rules.specs.Runs.{EngineLine, Acts, Aborts, Begins, Refuses, Run, acted, begun, changed, is_sealed, run_at, tid_of}
use Rattle.fed_rules.specs.Site.{act_answer, next_number, refusal_answer, with_lines}
use Rattle.fed_rules.specs.SitePast.{SiteHappening, SitePast, attempts_of, begins_tx, decides_on, disk, ends, engine_lines, epoch, epoch_start, is_closed, live, live_one, records, trip_of}
use Rattle.fed_rules.specs.SiteRecords.{Home, doubt_of, epoch_of, local_of, site_frame}
use Rattle.prepared_state.specs.Book.{doubt_about}
use Rattle.journal_sums.specs.Starts.{doubt_held}
use Rattle.actor_store.specs.declared.store.Standing.TheVariants.{Up}
use Rattle.site_book.specs.Noted.{noted_of}
use Rattle.site_book.specs.Book.{Book, begins_local, begun_in, closes, committed_in, count_of, counted, live_in, notes_reply, progress_of, standing_of}
use Rattle.site_book.specs.Follows.{Follows}
use Rattle.site_core.specs.Order.{IsInOrder}
use Rattle.site_book.proofs.ForCallers.{calls_well}
use Rattle.site_core.specs.declared.site.SiteCore.{SiteCore}
use Rattle.site_core.specs.Made.{is_of_global, was_begun, was_global}
use Rattle.site_core.specs.Notes.{Notes, NotesPast}
use Rattle.site_core.specs.Stands.{Adds, Holds, IsUp, Remembers}
use Rattle.site_core.specs.Store.{Store}
use Rattle.site_core.proofs.LineLaws.{HasLive}
use Rattle.site_core.proofs.NotesLaws.{IsKnown, committed_begins, committed_closes, ends_its_own, known_before, notes_change, notes_same, order_begins, order_closes}
use Rattle.site_core.proofs.RememberLaws.{IsPlain, is_up_at, more_lines, remembers_line, same_start}

-- which attempts are closed behind a line that takes no decision
pub closed_by : (past : SitePast) (x : SiteHappening) (u : Tid) → comes_up x.answer ≡ false → decides_on u x.event ≡ false → is_closed (x ∷ past) u ≡ (some_of (ends u) x.lines || is_closed past u)
closed_by past x u stays none = cond-false _ _ _ stays ∙ ap (λ (b : Bool). b || some_of (ends u) x.lines || is_closed past u) none

pub closed_one : (past : SitePast) (x : SiteHappening) (line : EngineLine) (u : Tid) → comes_up x.answer ≡ false → decides_on u x.event ≡ false → x.lines ≡ line ∷ [] → is_closed (x ∷ past) u ≡ (ends u line || is_closed past u)
closed_one past x line u stays none is =
    closed_by past x u stays none ∙ ap (λ (ls : List EngineLine). some_of (ends u) ls || is_closed past u) is ∙ ap (λ (b : Bool). b || is_closed past u) (or_false (ends u line))

pub closed_same : (past : SitePast) (x : SiteHappening) (u : Tid) → comes_up x.answer ≡ false → decides_on u x.event ≡ false → x.lines ≡ [] → is_closed (x ∷ past) u ≡ is_closed past u
closed_same past x u stays none is = closed_by past x u stays none ∙ ap (λ (ls : List EngineLine). some_of (ends u) ls || is_closed past u) is

module _ {E : Type 0} (stands : E → Lines.Start → List EngineLine → Type 0) where
  -- behind a line that leaves what is doubted as it was
  pub up_line : (old new : SiteCore E) (home : Home) (past : SitePast) (x : SiteHappening) → IsPlain x → IsUp stands old home past
      → stands new.engine (epoch_start home past) (x.lines ++ engine_lines past)
      → Notes new.book (epoch_start home past) (x.lines ++ engine_lines past) (is_closed (x ∷ past)) (local_of (records home (x ∷ past))) (x ∷ past)
      → new.doubts ≡ old.doubts → ((tid : Tid) → doubt_of (records home (x ∷ past)) tid ≡ doubt_of (records home past) tid)
      → new.epoch ≡ old.epoch → epoch home (x ∷ past) ≡ epoch home past
      → IsUp stands new home (x ∷ past)
  up_line old new home past x p u engine notes doubts same_doubts number same_epoch =
      let S : Lines.Start → List EngineLine → Type 0 = λ s l. stands new.engine s l in
      let N : Lines.Start → List EngineLine → Type 0 = λ s l. Notes new.book s l (is_closed (x ∷ past)) (local_of (records home (x ∷ past))) (x ∷ past) in
      let start = same_start home past x p in
      let lines = more_lines past x p in
      record {
        engine = subst (λ (s : Lines.Start). S s (engine_lines (x ∷ past))) (sym start) (subst (λ (l : List EngineLine). S (epoch_start home past) l) (sym lines) engine);
        notes = subst (λ (s : Lines.Start). N s (engine_lines (x ∷ past))) (sym start) (subst (λ (l : List EngineLine). N (epoch_start home past) l) (sym lines) notes);
        doubts = (λ tid. ap (λ b. doubt_about tid b.doubts) doubts ∙ u.doubts tid ∙ sym (ap (map_some doubt_held) (same_doubts tid)));
        epoch = number ∙ u.epoch ∙ sym same_epoch;
      }

  -- behind one without disk calls
  pub up_quiet_disk : (old new : SiteCore E) (home : Home) (past : SitePast) (x : SiteHappening) → IsPlain x → x.calls ≡ [] → IsUp stands old home past
      → stands new.engine (epoch_start home past) (x.lines ++ engine_lines past)
      → Notes new.book (epoch_start home past) (x.lines ++ engine_lines past) (is_closed (x ∷ past)) (local_of (records home past)) (x ∷ past)
      → new.doubts ≡ old.doubts → new.epoch ≡ old.epoch → IsUp stands new home (x ∷ past)
  up_quiet_disk old new home past x p none u engine notes doubts number =
      let same : records home (x ∷ past) ≡ records home past = ap (λ (cs : List _). (after_calls site_frame (disk home past) cs).records) none in
      let N : List _ → Type 0 = λ rs. Notes new.book (epoch_start home past) (x.lines ++ engine_lines past) (is_closed (x ∷ past)) (local_of rs) (x ∷ past) in
      up_line old new home past x p u engine (subst N (sym same) notes) doubts (λ tid. ap (λ rs. doubt_of rs tid) same) number (ap epoch_of same)

  -- behind one that changes no run either
  pub up_same : (old new : SiteCore E) (home : Home) (past : SitePast) (x : SiteHappening) → IsPlain x → x.calls ≡ [] → x.lines ≡ [] → ((u : Tid) → decides_on u x.event ≡ false)
      → IsUp stands old home past → new.engine ≡ old.engine → new.book ≡ old.book → new.doubts ≡ old.doubts → new.epoch ≡ old.epoch → IsUp stands new home (x ∷ past)
  up_same old new home past x p none no_lines undecided u engine book doubts number =
      let lines : x.lines ++ engine_lines past ≡ engine_lines past = ap (λ (ls : List EngineLine). ls ++ engine_lines past) no_lines in
      let S : E → List EngineLine → Type 0 = λ e l. stands e (epoch_start home past) l in
      let here : stands new.engine (epoch_start home past) (x.lines ++ engine_lines past) =
      subst (λ (l : List EngineLine). S new.engine l) (sym lines) (subst (λ (e : E). S e (engine_lines past)) (sym engine) u.engine) in
      let N : Book → Type 0 = λ b. Notes b (epoch_start home past) (x.lines ++ engine_lines past) (is_closed (x ∷ past)) (local_of (records home past)) (x ∷ past) in
      let noted = notes_same old.book (epoch_start home past) (epoch_start home past) (engine_lines past) (x.lines ++ engine_lines past) (is_closed past) (is_closed (x ∷ past)) (local_of (records home past)) (local_of (records home past)) past x
      u.notes refl lines (λ t. closed_same past x t p.stays (undecided t) no_lines) (λ tx. refl) in
      up_quiet_disk old new home past x p none u here (subst N (sym book) noted) doubts number

  -- an answer that changes nothing
  pub adds_quiet : (core : SiteCore E) (home : Home) (past : SitePast) (step : SiteStep) (event : SiteEvent) (answer : Answer) → Holds stands core home past → core.store.standing ≡ Up
      → stops answer ≡ false → comes_up answer ≡ false → trip_of event ≡ None → ((u : Tid) → decides_on u event ≡ false) → ((tx : Tx) → begins_tx tx answer ≡ false)
      → step ≡ record { answer = answer; sends = None } → Adds stands step core home past (quiet event answer)
  adds_quiet core home past step event answer h up goes stays sets undecided none says =
      let p : IsPlain (quiet event answer) = record { goes = goes; stays = stays; sets = sets } in
      let m = h.memory in
      record {
        answer = ap (λ (s : SiteStep). s.answer) says;
        sends = ap (λ (s : SiteStep). option_to_list s.sends) says;
        memory = remembers_line stands core core home past (quiet event answer) m up refl p refl (up_same core core home past (quiet event answer) p refl refl undecided (is_up_at stands core home past m up) refl refl refl refl)
            (λ tx. m.begun tx ∙ sym (cond-false _ _ _ (none tx))) refl;
      }

-- an answer neither stops the site, nor brings it up, nor begins a local attempt
abbrev pub IsPlainAnswer : Answer → Type 0
IsPlainAnswer answer = (stops answer ≡ false) × (comes_up answer ≡ false) × ((tx : Tx) → begins_tx tx answer ≡ false)

pub act_answers : (tid : Tid) (act : PlainAct) (reply : Reply) → IsPlainAnswer (act_answer tid reply act)
act_answers tid act (Reply_is.Wait by) = (refl, refl, λ tx. refl)
act_answers tid act (Reply_is.Refused (Because.Die by)) = (refl, refl, λ tx. refl)
act_answers tid act (Reply_is.Refused (Because.Late by)) = (refl, refl, λ tx. refl)
act_answers tid (Read key) (Reply_is.Refused (Because.Invalid by k)) = (refl, refl, λ tx. refl)
act_answers tid (Write key v) (Reply_is.Refused (Because.Invalid by k)) = (refl, refl, λ tx. refl)
act_answers tid (Read key) (Reply_is.Refused (Because.TicketMoved by)) = (refl, refl, λ tx. refl)
act_answers tid (Write key v) (Reply_is.Refused (Because.TicketMoved by)) = (refl, refl, λ tx. refl)
act_answers tid (Read key) (Reply_is.Value value) = (refl, refl, λ tx. refl)
act_answers tid (Write key v) (Reply_is.Value value) = (refl, refl, λ tx. refl)
act_answers tid (Read key) Reply_is.Done = (refl, refl, λ tx. refl)
act_answers tid (Write key v) Reply_is.Done = (refl, refl, λ tx. refl)
act_answers tid (Read key) (Reply_is.Ticket n) = (refl, refl, λ tx. refl)
act_answers tid (Write key v) (Reply_is.Ticket n) = (refl, refl, λ tx. refl)
act_answers tid (Read key) Reply_is.Unknown = (refl, refl, λ tx. refl)
act_answers tid (Write key v) Reply_is.Unknown = (refl, refl, λ tx. refl)

pub refusal_plain : (why : Why) → IsPlainAnswer (refusal_answer why)
refusal_plain (Because.Invalid by key) = (refl, refl, λ tx. refl)
refusal_plain (Because.Die by) = (refl, refl, λ tx. refl)
refusal_plain (Because.Late by) = (refl, refl, λ tx. refl)
refusal_plain (Because.TicketMoved by) = (refl, refl, λ tx. refl)

some_run : (a b : Run) → ◌≡◌ {A = Option Run} (Some a) (Some b) → a ≡ b
some_run a b e = cc

-- a run that is kept has so few accesses as it had
kept_few : (run now : Run) → live_one (Some run) ≡ Some now → length run.acts ≤ 32 → length now.acts ≤ 32
kept_few run now e few = by_test (is_sealed run) refl where
  by_test : (b : Bool) → is_sealed run ≡ b → length now.acts ≤ 32
  by_test true f = let bad : None ≡ Some now = sym (cond-true _ _ _ f) ∙ e in cc
  by_test false f = let is = some_run run now (sym (cond-false _ _ _ f) ∙ e) in subst (λ (r : Run). length r.acts ≤ 32) is few

-- an answered access of a run adds at most one to its accesses
pub acted_few : (reply : Reply) (act : PlainAct) (run now : Run) → live_one (acted reply act run) ≡ Some now → length run.acts < 32 → length now.acts ≤ 32
acted_few (Reply_is.Refused why) act run now e few = cc
acted_few (Reply_is.Wait by) act run now e few = kept_few run now e (omega (arith, few))
acted_few (Reply_is.Ticket n) act run now e few = kept_few run now e (omega (arith, few))
acted_few Reply_is.Unknown act run now e few = kept_few run now e (omega (arith, few))
acted_few (Reply_is.Value value) (Write key v) run now e few = kept_few run now e (omega (arith, few))
acted_few Reply_is.Done (Read key) run now e few = kept_few run now e (omega (arith, few))
acted_few (Reply_is.Value value) (Read key) run now e few = kept_few _ now e (omega (arith, few))
acted_few Reply_is.Done (Write key value) run now e few = kept_few _ now e (omega (arith, few))
