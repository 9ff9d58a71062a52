-- What the core has in memory behind a begin, an access and an end of a local attempt.
use Rattle.std.proofs.Common.{◌≡◌, ℕ, suc, ◌+◌, ◌≤◌, ◌<◌, ◌||◌, Bool, true, false, cond, is_some, IsSome, Option, Some, None, List, [], ◌∷◌, ◌++◌, length, inl, inr, refl, sym, ap, ap₂, ◌∙◌, subst, arith}
use Rattle.std.specs.Prelude.{option_to_list}
use Rattle.std.specs.FinMap.{get}
use Rattle.std.proofs.lemmas.Bool.{cond-true, cond-false}
use Rattle.mdb_base.specs.declared.acts.PlainAct.{PlainAct}
use Rattle.mdb_base.specs.declared.names.Tid.{Tid}
use Rattle.mdb_base.specs.declared.names.Tx.{Tx}
use Rattle.mdb_base.specs.declared.replies.Reply.{Reply}
use Rattle.mdb_base.specs.declared.replies.Reply.TheVariants as Reply_is
use Rattle.mdb_base.specs.Names.{same_tid, same_tx}
use Rattle.mdb_base.specs.Words.{map_some}
use Rattle.mdb_base.proofs.ForCallers.{none_left, same_tid-equal, same_tid-refl, same_tx-equal}
use Rattle.fed_rules.specs.declared.answers.Answer.{Answer}
use Rattle.fed_rules.specs.declared.answers.Answer.TheVariants as Say
use Rattle.fed_rules.specs.declared.events.SiteEvent.{SiteEvent}
use Rattle.fed_rules.specs.declared.events.SiteEvent.TheVariants as Ev
use Rattle.fed_rules.specs.declared.events.SiteStep.{SiteStep}
use Rattle.fed_rules.specs.Runs as Lines
use Rattle.fed_rules.specs.Runs.{EngineLine, Acts, Aborts, Begins, Refuses, Run, acted, begun, changed, run_at, tid_of}
use Rattle.fed_rules.specs.EngineLines.{IsFree, IsRight}
use Rattle.fed_rules.specs.Site.{act_answer, next_number, reply_to, with_lines}
use Rattle.fed_rules.specs.SitePast.{SiteHappening, SitePast, attempts_of, begins_tx, decides_on, ends, engine_lines, epoch_start, is_closed, live, live_one, records, trip_of}
use Rattle.fed_rules.specs.SiteRecords.{Home, doubt_of, local_of}
use Rattle.actor_store.specs.declared.store.Standing.TheVariants.{Up}
use Rattle.site_book.specs.declared.progress.Progress.{Progress}
use Rattle.site_book.specs.declared.progress.Progress.TheVariants as Is
use Rattle.site_book.specs.Noted.{Noted, noted_of}
use Rattle.site_book.specs.Book.{Book, begins_local, begun_in, changed_in, closes, committed_in, count_of, live_in, live_part, notes_reply, on_live, progress_of, replied, running_in, standing_of}
use Rattle.site_book.specs.Follows.{Follows, progress_by}
use Rattle.site_core.specs.Order.{IsInOrder}
use Rattle.site_book.proofs.ForCallers.{calls_well, get-changed_tid, get-put_tx}
use Rattle.site_history.specs.Lines.{Agrees}
use Rattle.site_core.specs.declared.site.SiteCore.{SiteCore}
use Rattle.site_core.specs.Made.{IsGoingOn, was_begun, was_global}
use Rattle.site_core.specs.Notes.{Notes, NotesPast}
use Rattle.site_core.specs.Stands.{Adds, Holds, IsUp, Remembers}
use Rattle.site_core.proofs.LineLaws.{HasLive, local_runs, noted_live}
use Rattle.site_core.proofs.MadeLaws.{made_fresh, made_right}
use Rattle.site_core.proofs.NotesLaws.{IsKnown, committed_begins, committed_closes, ends_its_own, known_before, notes_change, order_begins, order_changed, order_closes}
use Rattle.site_core.proofs.RememberLaws.{IsPlain, is_up_at, remembers_line}
use Rattle.site_core.proofs.UpLaws.{IsPlainAnswer, act_answers, acted_few, closed_one, up_quiet_disk}

-- an attempt that may begin has no entry in the book
pub no_entry : (book : Book) (home : Home) (past : SitePast) (tid : Tid) → NotesPast book home past → IsGoingOn home past
    → was_begun tid past ≡ false → was_global tid.tx past ≡ false → progress_of book tid ≡ None
no_entry book home past tid n made new apart =
    n.follows.attempts tid ∙ from (run_at (epoch_start home past) (engine_lines past) tid) refl (is_closed past tid) refl (made_right home past made).sealed where
      unknown : IsKnown tid past → ⊥
      unknown (inl b) = cc
      unknown (inr g) = cc

      from : (o : Option Run) → run_at (epoch_start home past) (engine_lines past) tid ≡ o → (c : Bool) → is_closed past tid ≡ c
          → ((t : Tid) → Agrees (doubt_of (records home past) t) (run_at (epoch_start home past) (engine_lines past) t)) → progress_by o c ≡ None
      from None is false closed agrees = refl
      from None is true closed agrees = absurd (unknown (n.known tid (inl closed)))
      from (Some run) is c closed agrees = absurd (unknown (n.known tid (inr (ap (λ (o : Option Run). is_some (live_one o)) is ∙ ap is_some (lives run is)))))
        where
          lives : (run : Run) → run_at (epoch_start home past) (engine_lines past) tid ≡ Some run → live_one (Some run) ≡ Some run
          lives run is =
              let none = made_fresh home past tid made apart in
              let a = agrees tid in
              let unsealed : run.sealed ≡ None = rw (none, is) at a in
              cond-false _ _ _ (ap is_some unsealed)

-- what isn't followed by an entry is free
pub free_there : (book : Book) (home : Home) (past : SitePast) (tid : Tid) → NotesPast book home past → progress_of book tid ≡ None → IsFree (epoch_start home past) (engine_lines past) tid
free_there book home past tid n none = from (run_at (epoch_start home past) (engine_lines past) tid) (is_closed past tid) (sym (n.follows.attempts tid) ∙ none) where
  from : (o : Option Run) (c : Bool) → progress_by o c ≡ None → o ≡ None
  from None c e = refl
  from (Some run) c e = cc

module _ {E : Type 0} (stands : E → Lines.Start → List EngineLine → Type 0) where
  -- a local attempt that begins
  pub begin_adds : (old new : SiteCore E) (home : Home) (past : SitePast) (tid : Tid) (n : ℕ) (step : SiteStep) → Holds stands old home past → old.store.standing ≡ Up
      → was_begun tid past ≡ false → was_global tid.tx past ≡ false → running_in old.book tid.tx ≡ None → standing_of old.book tid.tx ≡ None
      → new ≡ record old { engine = new.engine; book = begins_local tid old.book } → stands new.engine (epoch_start home past) (Begins tid n ∷ engine_lines past)
      → step ≡ record { answer = Say.Begun tid; sends = None } → Adds stands step new home past (with_lines (Ev.Begin tid) (Say.Begun tid) (Begins tid n ∷ []))
  begin_adds old new home past tid n step h up fresh apart none_runs idle is engine says =
      let m = h.memory in
      let u = is_up_at stands old home past m up in
      let x : SiteHappening = with_lines (Ev.Begin tid) (Say.Begun tid) (Begins tid n ∷ []) in
      let p : IsPlain x = record { goes = refl; stays = refl; sets = refl } in
      let book : new.book ≡ begins_local tid old.book = ap (λ (c : SiteCore E). c.book) is in
      let alone : (v : Tid) → IsSome (live_in old.book v) → same_tx tid.tx v.tx ≡ false = λ v l. other v l (same_tx tid.tx v.tx) refl in
      let follows = calls_well old.book (begins_local tid old.book) (epoch_start home past) (engine_lines past) (Begins tid n) (is_closed past) (is_closed (x ∷ past)) u.notes.follows
      (λ v. closed_one past x (Begins tid n) v refl refl refl) refl in
      let notes : Notes (begins_local tid old.book) (epoch_start home past) (Begins tid n ∷ engine_lines past) (is_closed (x ∷ past)) (local_of (records home past)) (x ∷ past) =
      notes_change old.book (begins_local tid old.book) (epoch_start home past) (engine_lines past) (Begins tid n ∷ engine_lines past) (is_closed past) (is_closed (x ∷ past)) (local_of (records home past)) (local_of (records home past)) past x tid
      u.notes follows (order_begins old.book tid u.notes.order alone) (λ tx. committed_begins old.book tid tx idle ∙ u.notes.committed_is tx)
      (λ v e. cond-false _ _ _ e) (λ v e. closed_one past x (Begins tid n) v refl refl refl ∙ ap (λ b. b || is_closed past v) (ends_its_own (Begins tid n) v e))
      (inl (ap (λ b. b || was_begun tid past) (same_tid-refl tid)))
      (λ run e. let r : begun tid n ≡ run = some_run _ _ (sym (ap live_one (cond-true _ _ _ (same_tid-refl tid))) ∙ e) in subst (λ (v : Run). length v.acts ≤ 32) r (omega arith)) in
      let N : Book → Type 0 = λ b. Notes b (epoch_start home past) (Begins tid n ∷ engine_lines past) (is_closed (x ∷ past)) (local_of (records home past)) (x ∷ past) in
      record {
        answer = ap (λ (s : SiteStep). s.answer) says;
        sends = ap (λ (s : SiteStep). option_to_list s.sends) says;
        memory = remembers_line stands old new home past x m up (ap (λ (c : SiteCore E). c.store) is) p refl
            (up_quiet_disk stands old new home past x p refl u engine (subst N (sym book) notes) (ap (λ (c : SiteCore E). c.doubts) is) (ap (λ (c : SiteCore E). c.epoch) is))
            (λ tx. ap (λ (b : Book). begun_in b tx) book ∙ counts tx (same_tx tid.tx tx) refl) (ap (λ (c : SiteCore E). c.protocol) is);
      } where
        some_run : (a b : Run) → ◌≡◌ {A = Option Run} (Some a) (Some b) → a ≡ b
        some_run a b e = cc

        other : (v : Tid) → IsSome (live_in old.book v) → (b : Bool) → same_tx tid.tx v.tx ≡ b → same_tx tid.tx v.tx ≡ false
        other v l false e = e
        other v l true e =
            let u = is_up_at stands old home past h.memory up in
            let tx_is : tid.tx ≡ v.tx = same_tx-equal tid.tx v.tx e in
            let lives : is_some (live home past v) ≡ true = some_noted (live home past v) (sym (ap is_some (noted_live old.book _ _ _ u.notes.follows v)) ∙ l) in
            let runs : running_in old.book v.tx ≡ Some v = local_runs old.book home past v u.notes h.memory.begun (ap (λ (t : Tx). was_global t past) (sym tx_is) ∙ apart) lives in
            let none : running_in old.book v.tx ≡ None = ap (running_in old.book) (sym tx_is) ∙ none_runs in
            cc
          where
            some_noted : (o : Option Run) → is_some (map_some noted_of o) ≡ true → is_some o ≡ true
            some_noted None e = e
            some_noted (Some run) e = refl

        counts : (tx : Tx) (b : Bool) → same_tx tid.tx tx ≡ b → begun_in (begins_local tid old.book) tx ≡ attempts_of (with_lines (Ev.Begin tid) (Say.Begun tid) (Begins tid n ∷ []) ∷ past) tx
        counts tx true e =
            ap count_of (get-put_tx old.book.again tid.tx tx (begun_in old.book tid.tx) ∙ cond-true _ _ _ e)
            ∙ ap suc (ap (λ (t : Tx). begun_in old.book t) (same_tx-equal tid.tx tx e) ∙ h.memory.begun tx) ∙ sym (cond-true _ _ _ e)
        counts tx false e = ap count_of (get-put_tx old.book.again tid.tx tx (begun_in old.book tid.tx) ∙ cond-false _ _ _ e) ∙ h.memory.begun tx ∙ sym (cond-false _ _ _ e)

  -- a line of a live attempt that ends it: the book closes it
  pub end_notes : (old : SiteCore E) (home : Home) (past : SitePast) (tid : Tid) (line : EngineLine) (x : SiteHappening) (l : HasLive old.book home past tid) → IsUp stands old home past
      → tid_of line ≡ tid → changed line (run_at (epoch_start home past) (engine_lines past) (tid_of line)) ≡ None → IsPlain x → ((u : Tid) → decides_on u x.event ≡ false) → x.lines ≡ line ∷ []
      → Follows (closes tid old.book) (epoch_start home past) (line ∷ engine_lines past) (is_closed (x ∷ past))
      → Notes (closes tid old.book) (epoch_start home past) (line ∷ engine_lines past) (is_closed (x ∷ past)) (local_of (records home past)) (x ∷ past)
  end_notes old home past tid line x l u own gone p undecided one follows =
      let apart : (v : Tid) → same_tid tid v ≡ false → same_tid (tid_of line) v ≡ false = λ v e. ap (λ (t : Tid). same_tid t v) own ∙ e in
      notes_change old.book (closes tid old.book) (epoch_start home past) (engine_lines past) (line ∷ engine_lines past) (is_closed past) (is_closed (x ∷ past)) (local_of (records home past)) (local_of (records home past)) past x tid
      u.notes follows (order_closes old.book tid u.notes.order) (λ tx. committed_closes old.book tid u.notes.order tx ∙ u.notes.committed_is tx)
      (λ v e. cond-false _ _ _ (apart v e)) (λ v e. closed_one past x line v p.stays (undecided v) one ∙ ap (λ b. b || is_closed past v) (ends_its_own line v (apart v e)))
      (known_before x past tid (u.notes.known tid (inr (ap is_some l.live))))
      (λ run e. absurd (none_left run (ap live_one (at_own (same_tid (tid_of line) tid) refl)) e)) where
        at_own : (b : Bool) → same_tid (tid_of line) tid ≡ b → run_at (epoch_start home past) (line ∷ engine_lines past) tid ≡ None
        at_own true e = cond-true _ _ _ e ∙ ap (λ (t : Tid). changed line (run_at (epoch_start home past) (engine_lines past) t)) (sym own) ∙ gone
        at_own false e = let same : same_tid (tid_of line) tid ≡ true = ap (λ (t : Tid). same_tid t tid) own ∙ same_tid-refl tid in cc

        none_left : (run : Run) → live_one (run_at (epoch_start home past) (line ∷ engine_lines past) tid) ≡ None → live_one (run_at (epoch_start home past) (line ∷ engine_lines past) tid) ≡ Some run → ⊥
        none_left run e f = cc

  -- so the core adds it
  pub end_adds : (old new : SiteCore E) (home : Home) (past : SitePast) (tid : Tid) (line : EngineLine) (event : SiteEvent) (answer : Answer) (step : SiteStep) (l : HasLive old.book home past tid)
      → Holds stands old home past → old.store.standing ≡ Up → tid_of line ≡ tid → changed line (run_at (epoch_start home past) (engine_lines past) (tid_of line)) ≡ None
      → IsPlainAnswer answer → trip_of event ≡ None → ((u : Tid) → decides_on u event ≡ false)
      → new ≡ record old { engine = new.engine; book = closes tid old.book } → stands new.engine (epoch_start home past) (line ∷ engine_lines past)
      → Follows (closes tid old.book) (epoch_start home past) (line ∷ engine_lines past) (is_closed (with_lines event answer (line ∷ []) ∷ past))
      → step ≡ record { answer = answer; sends = None } → Adds stands step new home past (with_lines event answer (line ∷ []))
  end_adds old new home past tid line event answer step l h up own gone plain sets undecided is engine follows says =
      let m = h.memory in
      let u = is_up_at stands old home past m up in
      let x : SiteHappening = with_lines event answer (line ∷ []) in
      let p : IsPlain x = record { goes = plain.0; stays = plain.1; sets = sets } in
      let book : new.book ≡ closes tid old.book = ap (λ (c : SiteCore E). c.book) is in
      let N : Book → Type 0 = λ b. Notes b (epoch_start home past) (line ∷ engine_lines past) (is_closed (x ∷ past)) (local_of (records home past)) (x ∷ past) in
      let notes = end_notes old home past tid line x l u own gone p undecided refl follows in
      record {
        answer = ap (λ (s : SiteStep). s.answer) says;
        sends = ap (λ (s : SiteStep). option_to_list s.sends) says;
        memory = remembers_line stands old new home past x m up (ap (λ (c : SiteCore E). c.store) is) p refl
            (up_quiet_disk stands old new home past x p refl u engine (subst N (sym book) notes) (ap (λ (c : SiteCore E). c.doubts) is) (ap (λ (c : SiteCore E). c.epoch) is))
            (λ tx. ap (λ (b : Book). begun_in b tx) book ∙ m.begun tx ∙ sym (cond-false _ _ _ (plain.2 tx))) (ap (λ (c : SiteCore E). c.protocol) is);
      }

-- what an access that isn't refused leaves of which attempts are live
live_changed : (book : Book) (tid : Tid) (reply : Reply) (act : PlainAct) (u : Tid) → is_some (live_part (progress_of book tid)) ≡ true
    → is_some (live_part (get (changed_in tid (on_live (replied reply act)) book.attempts) u)) ≡ is_some (live_in book u)
live_changed book tid reply act u lives = ap (λ (p : Option Progress). is_some (live_part p)) (get-changed_tid book.attempts tid u (on_live (replied reply act))) ∙ by_tid (same_tid tid u) refl where
  on_it : (p : Option Progress) → is_some (live_part (map_some (on_live (replied reply act)) p)) ≡ is_some (live_part p)
  on_it None = refl
  on_it (Some (Is.Live noted)) = refl
  on_it (Some Is.Sealed) = refl
  on_it (Some Is.Closed) = refl

  by_tid : (b : Bool) → same_tid tid u ≡ b → is_some (live_part (cond (same_tid tid u) (map_some (on_live (replied reply act)) (progress_of book tid)) (progress_of book u))) ≡ is_some (live_in book u)
  by_tid true e =
      ap (λ (p : Option Progress). is_some (live_part p)) (cond-true _ _ _ e) ∙ on_it (progress_of book tid)
      ∙ ap (λ (t : Tid). is_some (live_in book t)) (same_tid-equal tid u e)
  by_tid false e = ap (λ (p : Option Progress). is_some (live_part p)) (cond-false _ _ _ e)

-- a reply leaves a book in order, and who is committed
pub order_replies : (book : Book) (tid : Tid) (act : PlainAct) (reply : Reply) → IsInOrder book → is_some (live_in book tid) ≡ true
    → IsInOrder (notes_reply tid act reply book) × ((tx : Tx) → committed_in (notes_reply tid act reply book) tx ≡ committed_in book tx) × ((tx : Tx) → begun_in (notes_reply tid act reply book) tx ≡ begun_in book tx)
order_replies book tid act (Reply_is.Refused why) o lives = (order_closes book tid o, λ tx. committed_closes book tid o tx, λ tx. refl)
order_replies book tid act (Reply_is.Wait by) o lives = (order_changed book _ refl refl (λ u. live_changed book tid (Reply_is.Wait by) act u lives) o, λ tx. refl, λ tx. refl)
order_replies book tid act (Reply_is.Ticket n) o lives = (order_changed book _ refl refl (λ u. live_changed book tid (Reply_is.Ticket n) act u lives) o, λ tx. refl, λ tx. refl)
order_replies book tid act Reply_is.Unknown o lives = (order_changed book _ refl refl (λ u. live_changed book tid Reply_is.Unknown act u lives) o, λ tx. refl, λ tx. refl)
order_replies book tid act (Reply_is.Value value) o lives = (order_changed book _ refl refl (λ u. live_changed book tid (Reply_is.Value value) act u lives) o, λ tx. refl, λ tx. refl)
order_replies book tid act Reply_is.Done o lives = (order_changed book _ refl refl (λ u. live_changed book tid Reply_is.Done act u lives) o, λ tx. refl, λ tx. refl)

module _ {E : Type 0} (stands : E → Lines.Start → List EngineLine → Type 0) where
  -- an answered access
  pub act_adds : (old new : SiteCore E) (home : Home) (past : SitePast) (tid : Tid) (act : PlainAct) (reply : Reply) (step : SiteStep) (l : HasLive old.book home past tid)
      → Holds stands old home past → old.store.standing ≡ Up → length l.run.acts < 32
      → new ≡ record old { engine = new.engine; book = notes_reply tid act reply old.book } → stands new.engine (epoch_start home past) (Acts tid act reply ∷ engine_lines past)
      → step ≡ record { answer = act_answer tid reply act; sends = None } → Adds stands step new home past (with_lines (Ev.Act tid act) (act_answer tid reply act) (Acts tid act reply ∷ []))
  act_adds old new home past tid act reply step l h up few is engine says =
      let m = h.memory in
      let u = is_up_at stands old home past m up in
      let x : SiteHappening = with_lines (Ev.Act tid act) (act_answer tid reply act) (Acts tid act reply ∷ []) in
      let plain = act_answers tid act reply in
      let p : IsPlain x = record { goes = plain.0; stays = plain.1; sets = refl } in
      let book : new.book ≡ notes_reply tid act reply old.book = ap (λ (c : SiteCore E). c.book) is in
      let lives : is_some (live_in old.book tid) ≡ true = ap is_some l.noted in
      let (order, committed, same_begun) = order_replies old.book tid act reply u.notes.order lives in
      let closes_by : (v : Tid) → is_closed (x ∷ past) v ≡ (ends v (Acts tid act reply) || is_closed past v) = λ v. closed_one past x (Acts tid act reply) v plain.1 refl refl in
      let follows = calls_well old.book (notes_reply tid act reply old.book) (epoch_start home past) (engine_lines past) (Acts tid act reply) (is_closed past) (is_closed (x ∷ past)) u.notes.follows closes_by (lives, refl) in
      let notes : Notes (notes_reply tid act reply old.book) (epoch_start home past) (Acts tid act reply ∷ engine_lines past) (is_closed (x ∷ past)) (local_of (records home past)) (x ∷ past) =
      notes_change old.book (notes_reply tid act reply old.book) (epoch_start home past) (engine_lines past) (Acts tid act reply ∷ engine_lines past) (is_closed past) (is_closed (x ∷ past)) (local_of (records home past)) (local_of (records home past)) past x tid
      u.notes follows order (λ tx. committed tx ∙ u.notes.committed_is tx)
      (λ v e. cond-false _ _ _ e) (λ v e. closes_by v ∙ ap (λ b. b || is_closed past v) (ends_its_own (Acts tid act reply) v e))
      (known_before x past tid (u.notes.known tid (inr (ap is_some l.live))))
      (λ run e. acted_few reply act l.run run (sym (ap live_one (cond-true _ _ _ (same_tid-refl tid) ∙ ap (changed (Acts tid act reply)) l.is.0)) ∙ e) few) in
      let N : Book → Type 0 = λ b. Notes b (epoch_start home past) (Acts tid act reply ∷ engine_lines past) (is_closed (x ∷ past)) (local_of (records home past)) (x ∷ past) in
      record {
        answer = ap (λ (s : SiteStep). s.answer) says;
        sends = ap (λ (s : SiteStep). option_to_list s.sends) says;
        memory = remembers_line stands old new home past x m up (ap (λ (c : SiteCore E). c.store) is) p refl
            (up_quiet_disk stands old new home past x p refl u engine (subst N (sym book) notes) (ap (λ (c : SiteCore E). c.doubts) is) (ap (λ (c : SiteCore E). c.epoch) is))
            (λ tx. ap (λ (b : Book). begun_in b tx) book ∙ same_begun tx ∙ m.begun tx ∙ sym (cond-false _ _ _ (plain.2 tx))) (ap (λ (c : SiteCore E). c.protocol) is);
      }

some_same : (a b : Run) → ◌≡◌ {A = Option Run} (Some a) (Some b) → a ≡ b
some_same a b e = cc

-- the engine's reply is the rule's for the live run
pub replied_by : (book : Book) (home : Home) (past : SitePast) (tid : Tid) (act : PlainAct) (reply : Reply) (l : HasLive book home past tid) → IsRight (epoch_start home past) (Acts tid act reply ∷ engine_lines past)
    → reply ≡ reply_to home past l.run act
replied_by book home past tid act reply l right =
    let (other, (lives, ruled)) = right.0 in
    let same : other ≡ l.run = some_same other l.run (sym lives.0 ∙ l.is.0) in
    ruled ∙ ap (λ (r : Run). reply_to home past r act) same

-- what is noted says of each past how many accesses the run has
pub few_noted : (book : Book) (home : Home) (past : SitePast) (home' : Home) (past' : SitePast) (tid : Tid) (l : HasLive book home past tid) (k : HasLive book home' past' tid)
    → ((run : Run) → live home' past' tid ≡ Some run → length run.acts < 32) → length l.run.acts < 32
few_noted book home past home' past' tid l k few =
    let same : noted_of l.run ≡ noted_of k.run = noted_same (noted_of l.run) (noted_of k.run) (sym l.noted ∙ k.noted) in
    let count : length l.run.acts ≡ length k.run.acts = ap (λ (n : Noted). n.accesses) same in
    let small = few k.run k.live in
    omega (arith, count, small)
  where
    noted_same : (a b : Noted) → ◌≡◌ {A = Option Noted} (Some a) (Some b) → a ≡ b
    noted_same a b e = cc
