-- Which attempts a site names: where each attempt of its events has a fact, so has each one that it sends a message about or names in a reply.
use Rattle.std.proofs.Common.{◌≡◌, ℕ, ◌+◌, Bool, true, false, cond, ◌||◌, Option, Some, None, List, [], ◌∷◌, ◌++◌, take, refl, subst}
use Rattle.std.specs.Prelude.{nat_le, nat_lt, min}
use Rattle.mdb_base.specs.declared.acts.PlainAct.{PlainAct}
use Rattle.mdb_base.specs.declared.acts.PlainAct.TheVariants.{Read, Write}
use Rattle.mdb_base.specs.declared.names.Tid.{Tid}
use Rattle.mdb_base.specs.declared.names.Tx.{Tx}
use Rattle.mdb_base.specs.declared.replies.Reply.{Reply}
use Rattle.mdb_base.specs.declared.replies.Reply.TheVariants as Reply_is
use Rattle.mdb_base.specs.declared.replies.Why.{Why}
use Rattle.mdb_base.specs.declared.replies.Why.TheVariants as Because
use Rattle.mdb_base.specs.Names.{same_tid}
use Rattle.mdb_base.specs.Words.{Each, found, when, with_some}
use Rattle.mdb_base.proofs.ForCallers.{append_each, by_given, each_all, each_inserted, each_of_mapped, each_take, same_tid-equal}
use Rattle.presumptions.specs.declared.Decision.{Decision}
use Rattle.presumptions.specs.declared.Decision.TheVariants as Decided
use Rattle.presumptions.specs.Table.{acks, forces}
use Rattle.fed_rules.specs.declared.answers.Answer.{Answer}
use Rattle.fed_rules.specs.declared.answers.Answer.TheVariants as Say
use Rattle.fed_rules.specs.declared.events.SiteEvent.{SiteEvent}
use Rattle.fed_rules.specs.declared.events.SiteEvent.TheVariants as Ev
use Rattle.fed_rules.specs.declared.messages.FromSite.{FromSite}
use Rattle.fed_rules.specs.declared.messages.FromSite.TheVariants as From
use Rattle.fed_rules.specs.declared.messages.ToSite.{ToSite}
use Rattle.fed_rules.specs.declared.messages.ToSite.TheVariants as To
use Rattle.fed_rules.specs.declared.records.SiteRecord.{SiteRecord}
use Rattle.fed_rules.specs.declared.records.SiteRecord.TheVariants as Rec
use Rattle.fed_rules.specs.declared.runs.Kept.{Kept}
use Rattle.fed_rules.specs.Attempts.{each_attempt}
use Rattle.fed_rules.specs.Disk.{Append, Call, CutBack, Disk, Stops, Sync, TrimFront, after_call, after_calls, bytes_of, is_torn, whole}
use Rattle.fed_rules.specs.Happenings.{Trip, comes_up, is_down, quiet, stopped, stops, tripped}
use Rattle.fed_rules.specs.Replies.{access_reply, granted_by, or_reply, rule, ticket_reply, Rule}
use Rattle.fed_rules.specs.Runs.{Aborts, Access, Acts, Begins, Commits, EngineLine, Got, Refuses, Run, Seals, Start, Takes, Wrote, aborted, acted, attempts, begun, by_number, changed, committed, gives_up, number, restored, restored_at, run_at, tid_of, took, unended}
use Rattle.fed_rules.specs.Site.{ack_of, answered, did, ended_calls, first_work, kept_reply_of, next_number, next_take, next_work, of_abort, of_act, of_ask, of_back, of_begin, of_check, of_commit, of_decide, of_drop, of_fate, of_give, of_prepare, of_take, of_work, prepare_live, repeated, reply_of_access, seals_global, seals_local, settles, settling_line, site_line, take_live, unheld, unknown, unless_tripped, votes_again, votes_no, votes_yes, with_lines, work_live}
use Rattle.fed_rules.specs.SitePast.{SiteHappening, SitePast, disk, engine_lines, epoch, epoch_start, records, trip}
use Rattle.fed_rules.specs.SiteRecords.{Held, Home, by_tid, doubt_of, doubts, held_before, kept_held, prepared_tids, site_frame, start_of}
use Rattle.fed_rules.specs.Site_of.{about}
use Rattle.engine_laws.proofs.ForCallers.{IfSome, OfRuns, SaysOf, access_says, ticket_says}
use Rattle.host_laws.proofs.CarriedLists.{found_each}

-- what holds of both branches holds of the one that is chosen
pub by_when : {A : Type 0} (P : A → Type 0) (b : Bool) (x y : A) → (b ≡ true → P x) → (b ≡ false → P y) → P (when b x y)
unfolding when
by_when P true x y p q = p refl
by_when P false x y p q = q refl

by_cond : {A : Type 0} (P : A → Type 0) (b : Bool) (x y : A) → (b ≡ true → P x) → (b ≡ false → P y) → P (cond b x y)
by_cond P true x y p q = p refl
by_cond P false x y p q = q refl

module _ (N : Tid → Type 0) where
  -- What names attempts of which the fact holds alone.

  abbrev pub WhyNames : Why → Type 0
  WhyNames (Because.Die by) = N by
  WhyNames (Because.Late by) = N by
  WhyNames (Because.Invalid by key) = N by
  WhyNames (Because.TicketMoved by) = N by

  abbrev pub ReplyNames : Reply → Type 0
  ReplyNames (Reply_is.Wait by) = N by
  ReplyNames (Reply_is.Refused why) = WhyNames why
  ReplyNames reply = Unit {0}

  abbrev pub SendNames : FromSite → Type 0
  SendNames (From.Did tid epoch n reply) = N tid × ReplyNames reply
  SendNames (From.Vote tid vote) = N tid
  SendNames (From.Ack tid) = N tid
  SendNames (From.Inquiry tid) = N tid

  abbrev pub RecordNames : SiteRecord → Type 0
  RecordNames (Rec.Prepared tid epoch number ticket writes) = N tid
  RecordNames kept = Unit {0}

  abbrev pub CallNames : Call SiteRecord → Type 0
  CallNames (Append kept) = RecordNames kept
  CallNames call = Unit {0}

  abbrev pub LineNames : EngineLine → Type 0
  LineNames line = N (tid_of line)

  abbrev pub EventNames : SiteEvent → Type 0
  EventNames (Ev.Begin tid) = N tid
  EventNames (Ev.Act tid act) = N tid
  EventNames (Ev.Commit tid) = N tid
  EventNames (Ev.Abort tid) = N tid
  EventNames (Ev.Give message) = N (about message)
  EventNames (Ev.Drop tid) = N tid
  EventNames event = Unit {0}

  pub record Names (x : SiteHappening) : Type 0 where
    pub sends : Each SendNames x.sends
    pub calls : Each CallNames x.calls
    pub lines : Each LineNames x.lines

  -- each line of the past does
  abbrev pub NamesAll : SitePast → Type 0
  NamesAll past = Each Names past

  -- Runs.

  abbrev RunNames : Run → Type 0
  RunNames run = N run.tid

  abbrev MayName : Option Run → Type 0
  MayName None = Unit {0}
  MayName (Some run) = N run.tid

  abbrev StartNames : Start → Type 0
  StartNames start = Each (λ (kept : Kept). N kept.tid) start.doubtful

  found_names : {A : Type 0} (look : A → Option Run) (xs : List A) → ((x : A) → MayName (look x)) → Each RunNames (found look xs)
  found_names look [] h = tt
  found_names look (x ∷ xs) h = by_value (look x) (h x) (found_names look xs h)
    where
      by_value : (o : Option Run) → MayName o → Each RunNames (found look xs) → Each RunNames (with_some o (found look xs))
      by_value None n rest = rest
      by_value (Some run) n rest = (n, rest)

  restored_names : (ks : List Kept) (tid : Tid) → Each (λ (kept : Kept). N kept.tid) ks → MayName (restored_at ks tid)
  restored_names [] tid h = tt
  restored_names (kept ∷ ks) tid h = by_cond MayName (same_tid kept.tid tid) (Some (restored kept)) (restored_at ks tid) (λ e. h.0) (λ e. restored_names ks tid h.1)

  acted_names : (reply : Reply) (act : PlainAct) (run : Run) → N run.tid → MayName (acted reply act run)
  acted_names (Reply_is.Refused why) act run h = tt
  acted_names (Reply_is.Wait by) act run h = h
  acted_names (Reply_is.Ticket n) act run h = h
  acted_names Reply_is.Unknown act run h = h
  acted_names (Reply_is.Value value) (Read key) run h = h
  acted_names (Reply_is.Value value) (Write key v) run h = h
  acted_names Reply_is.Done (Read key) run h = h
  acted_names Reply_is.Done (Write key v) run h = h

  took_names : (reply : Reply) (run : Run) → N run.tid → MayName (took reply run)
  took_names (Reply_is.Refused why) run h = tt
  took_names (Reply_is.Wait by) run h = h
  took_names (Reply_is.Ticket n) run h = h
  took_names Reply_is.Unknown run h = h
  took_names (Reply_is.Value value) run h = h
  took_names Reply_is.Done run h = h

  changed_names : (line : EngineLine) (old : Option Run) → LineNames line → MayName old → MayName (changed line old)
  changed_names (Begins tid n) old l h = l
  changed_names (Acts tid act reply) None l h = tt
  changed_names (Acts tid act reply) (Some run) l h = acted_names reply act run h
  changed_names (Takes tid reply) None l h = tt
  changed_names (Takes tid reply) (Some run) l h = took_names reply run h
  changed_names (Seals tid n) None l h = tt
  changed_names (Seals tid n) (Some run) l h = h
  changed_names (Refuses tid why) old l h = tt
  changed_names (Commits tid) old l h = tt
  changed_names (Aborts tid) old l h = tt

  module _ (start : Start) (doubted : StartNames start) where
    run_names : (lines : List EngineLine) (tid : Tid) → Each LineNames lines → MayName (run_at start lines tid)
    run_names [] tid h = restored_names start.doubtful tid doubted
    run_names (line ∷ older) tid h = by_test (run_names older tid h.1)
      where
        by_test : MayName (run_at start older tid) → MayName (cond (same_tid (tid_of line) tid) (changed line (run_at start older tid)) (run_at start older tid))
        by_test rest = by_cond MayName (same_tid (tid_of line) tid) (changed line (run_at start older tid)) (run_at start older tid) (λ e. changed_names line (run_at start older tid) h.0 rest) (λ e. rest)

    pub unended_names : (lines : List EngineLine) → Each LineNames lines → Each RunNames (unended start lines)
    unended_names lines h = found_names (run_at start lines) (attempts start lines) (λ tid. run_names lines tid h)

    numbered_names : (o : Option Run) (runs : List Run) → MayName o → Each RunNames runs → Each RunNames (by_number o runs)
    numbered_names None runs n h = h
    numbered_names (Some run) runs n h = each_inserted RunNames (λ a b. nat_lt (number b) (number a)) run runs n h

    committed_names : (lines : List EngineLine) → Each LineNames lines → Each RunNames (committed start lines)
    committed_names [] h = tt
    committed_names (Commits tid ∷ older) h = numbered_names (run_at start older tid) (committed start older) (run_names older tid h.1) (committed_names older h.1)
    committed_names (Begins tid n ∷ older) h = committed_names older h.1
    committed_names (Acts tid act reply ∷ older) h = committed_names older h.1
    committed_names (Takes tid reply ∷ older) h = committed_names older h.1
    committed_names (Seals tid n ∷ older) h = committed_names older h.1
    committed_names (Refuses tid why ∷ older) h = committed_names older h.1
    committed_names (Aborts tid ∷ older) h = committed_names older h.1

    aborted_names : (lines : List EngineLine) → Each LineNames lines → Each RunNames (aborted start lines)
    aborted_names [] h = tt
    aborted_names (line ∷ older) h = by_test (aborted_names older h.1)
      where
        more : (o : Option Run) → MayName o → Each RunNames (aborted start older) → Each RunNames (with_some o (aborted start older))
        more None n rest = rest
        more (Some run) n rest = (n, rest)

        by_test : Each RunNames (aborted start older) → Each RunNames (cond (gives_up line) (with_some (run_at start older (tid_of line)) (aborted start older)) (aborted start older))
        by_test rest =
            by_cond (Each RunNames) (gives_up line) (with_some (run_at start older (tid_of line)) (aborted start older)) (aborted start older) (λ e. more (run_at start older (tid_of line)) (run_names older (tid_of line) h.1) rest) (λ e. rest)

    -- Replies.

    names_of : SaysOf RunNames ReplyNames
    names_of = record { waits = λ run h. h; dies = λ run h. h; late = λ run h. h }

    module _ (lines : List EngineLine) (named : Each LineNames lines) (me : Run) where
      of_runs : OfRuns RunNames start lines
      of_runs = record { live = unended_names lines named; done = committed_names lines named; gone = aborted_names lines named }

      granted_names : (by : Rule) (act : PlainAct) → ReplyNames (granted_by by start lines me act)
      granted_names by (Read key) = tt
      granted_names by (Write key value) = tt

      either_names : (o : Option Reply) (reply : Reply) → IfSome ReplyNames o → ReplyNames reply → ReplyNames (or_reply o reply)
      either_names None reply o h = h
      either_names (Some stop) reply o h = o

      pub access_reply_names : (act : PlainAct) → ReplyNames (access_reply start lines me act)
      access_reply_names act = either_names ((rule start.kind).access start lines me act) (granted_by (rule start.kind) start lines me act) (access_says RunNames ReplyNames names_of start lines of_runs me start.kind act) (granted_names (rule start.kind) act)

      pub ticket_reply_names : ReplyNames (ticket_reply start lines me)
      ticket_reply_names = either_names ((rule start.kind).ticket start lines me) _ (ticket_says RunNames ReplyNames names_of start lines of_runs me start.kind) tt

  reply_of_names : (acts : List Access) → ReplyNames (reply_of_access acts)
  reply_of_names [] = tt
  reply_of_names (Got key value ∷ acts) = tt
  reply_of_names (Wrote key value ∷ acts) = tt

  kept_names : (ticket : Option ℕ) (acts : List Access) → ReplyNames (kept_reply_of ticket acts)
  kept_names (Some ticket) acts = tt
  kept_names None acts = reply_of_names acts

  -- Records.

  whole_names : (size : SiteRecord → ℕ) (bytes : ℕ) (rs : List SiteRecord) → Each RecordNames rs → Each RecordNames (whole size bytes rs)
  whole_names size bytes [] h = tt
  whole_names size bytes (r ∷ rs) h = by_test (whole_names size bytes rs h.1)
    where
      by_test : Each RecordNames (whole size bytes rs) → Each RecordNames (cond (nat_le (bytes_of size (r ∷ rs)) bytes) (r ∷ rs) (whole size bytes rs))
      by_test rest = by_cond (Each RecordNames) (nat_le (bytes_of size (r ∷ rs)) bytes) (r ∷ rs) (whole size bytes rs) (λ e. h) (λ e. rest)

  call_names : (d : Disk SiteRecord) (call : Call SiteRecord) → Each RecordNames d.records → CallNames call → Each RecordNames (after_call site_frame d call).records
  call_names d (Append kept) h c = (c, h)
  call_names d Sync h c = h
  call_names d CutBack h c = h
  call_names d TrimFront h c = h
  call_names d (Stops cut) h c = whole_names site_frame (min d.length (d.synced + cut)) d.records h

  calls_names : (d : Disk SiteRecord) (calls : List (Call SiteRecord)) → Each RecordNames d.records → Each CallNames calls → Each RecordNames (after_calls site_frame d calls).records
  calls_names d [] h c = h
  calls_names d (call ∷ calls) h c = calls_names (after_call site_frame d call) calls (call_names d call h c.0) c.1

  records_names : (home : Home) (past : SitePast) → NamesAll past → Each RecordNames (records home past)
  records_names home [] h = (tt, (tt, tt))
  records_names home (x ∷ past) h = calls_names (disk home past) x.calls (records_names home past h.1) h.0.calls

  -- who is in doubt is named, and is who was looked up
  abbrev pub MayHold : Tid → Option Held → Type 0
  MayHold tid None = Unit {0}
  MayHold tid (Some held) = N held.tid × N tid

  pub doubt_names : (rs : List SiteRecord) (tid : Tid) → Each RecordNames rs → MayHold tid (doubt_of rs tid)
  doubt_names [] tid h = tt
  doubt_names (Rec.Prepared prepared epoch number ticket writes ∷ rs) tid h = by_test (doubt_names rs tid h.1)
    where
      here : Held
      here = record { tid = prepared; epoch = epoch; number = number; ticket = ticket; writes = writes }

      by_test : MayHold tid (doubt_of rs tid) → MayHold tid (cond (same_tid prepared tid) (Some here) (doubt_of rs tid))
      by_test rest = by_cond (MayHold tid) (same_tid prepared tid) (Some here) (doubt_of rs tid) (λ e. (h.0, subst N (same_tid-equal prepared tid e) h.0)) (λ e. rest)
  doubt_names (Rec.Ended ended decision ∷ rs) tid h = by_test (doubt_names rs tid h.1)
    where
      by_test : MayHold tid (doubt_of rs tid) → MayHold tid (cond (same_tid ended tid) None (doubt_of rs tid))
      by_test rest = by_cond (MayHold tid) (same_tid ended tid) None (doubt_of rs tid) (λ e. tt) (λ e. rest)
  doubt_names (Rec.Setup site engine protocol items ∷ rs) tid h = doubt_names rs tid h.1
  doubt_names (Rec.Start epoch ∷ rs) tid h = doubt_names rs tid h.1
  doubt_names (Rec.Local local number writes ∷ rs) tid h = doubt_names rs tid h.1
  doubt_names (Rec.Checkpoint sum ∷ rs) tid h = doubt_names rs tid h.1

  sorted_names : (helds : List Held) → Each (λ (held : Held). N held.tid) helds → Each (λ (held : Held). N held.tid) (by_tid helds)
  sorted_names [] h = tt
  sorted_names (held ∷ helds) h = each_inserted (λ (other : Held). N other.tid) held_before held (by_tid helds) h.0 (sorted_names helds h.1)

  doubts_names : (rs : List SiteRecord) → Each RecordNames rs → Each (λ (held : Held). N held.tid) (doubts rs)
  doubts_names rs h =
      sorted_names (found (doubt_of rs) (each_attempt (prepared_tids rs)))
      (found_each (λ (held : Held). N held.tid) (doubt_of rs) (each_attempt (prepared_tids rs))
      (each_all _ (λ tid held e. (subst (MayHold tid) e (doubt_names rs tid h)).0) (each_attempt (prepared_tids rs))))

  started_names : (home : Home) (rs : List SiteRecord) → Each RecordNames rs → StartNames (start_of home rs)
  started_names home rs h = each_of_mapped (λ (kept : Kept). N kept.tid) kept_held (doubts rs) (doubts_names rs h)

  pub start_names : (home : Home) (past : SitePast) → NamesAll past → StartNames (epoch_start home past)
  start_names home [] h = started_names home (records home []) (records_names home [] h)
  start_names home (x ∷ past) h = by_test (start_names home past h.1)
    where
      by_test : StartNames (epoch_start home past) → StartNames (cond (stops x.answer || comes_up x.answer) (start_of home (records home (x ∷ past))) (epoch_start home past))
      by_test rest =
          by_cond StartNames (stops x.answer || comes_up x.answer) (start_of home (records home (x ∷ past))) (epoch_start home past)
          (λ e. started_names home (records home (x ∷ past)) (records_names home (x ∷ past) h)) (λ e. rest)

  pub lines_names : (past : SitePast) → NamesAll past → Each LineNames (engine_lines past)
  lines_names [] h = tt
  lines_names (x ∷ past) h = by_test (lines_names past h.1)
    where
      by_test : Each LineNames (engine_lines past) → Each LineNames (cond (stops x.answer || comes_up x.answer) [] (x.lines ++ engine_lines past))
      by_test rest =
          by_cond (Each LineNames) (stops x.answer || comes_up x.answer) [] (x.lines ++ engine_lines past) (λ e. tt) (λ e. append_each LineNames x.lines (engine_lines past) h.0.lines rest)

  -- The rules of a site.

  still : (event : SiteEvent) (answer : Answer) → Names (quiet event answer)
  still event answer = record { sends = tt; calls = tt; lines = tt }

  module _ (home : Home) (past : SitePast) (named : NamesAll past) where
    one_line : (event : SiteEvent) (answer : Answer) (line : EngineLine) → LineNames line → Names (with_lines event answer (line ∷ []))
    one_line event answer line h = record { sends = tt; calls = tt; lines = (h, tt) }

    begin_names : (tid : Tid) → N tid → Names (of_begin home past tid)
    unfolding of_begin
    begin_names tid h = by_given Names _ _ _ (by_given Names _ _ _ (one_line _ _ _ h) (λ r e. still _ _)) (λ c e. still _ _)

    act_names : (tid : Tid) (act : PlainAct) → N tid → Names (of_act home past tid act)
    unfolding of_act
    act_names tid act h = by_given Names _ _ _ (still _ _) (λ run e. one_line _ _ _ h)

    commit_names : (tid : Tid) → N tid → Names (of_commit home past tid)
    unfolding of_commit seals_local
    commit_names tid h = by_given Names _ _ _ (still _ _) (λ run e. by_given Names _ _ _ (record { sends = tt; calls = (tt, (tt, tt)); lines = (h, (h, tt)) }) (λ why f. one_line _ _ _ h))

    abort_names : (tid : Tid) → N tid → Names (of_abort home past tid)
    unfolding of_abort
    abort_names tid h = by_given Names _ _ _ (still _ _) (λ run e. one_line _ _ _ h)

    fate_names : (tx : Tx) → Names (of_fate home past tx)
    unfolding of_fate
    fate_names tx = by_given Names _ _ _ (by_given Names _ _ _ (still _ _) (λ r e. still _ _)) (λ c e. still _ _)

    drop_names : (tid : Tid) → N tid → Names (of_drop home past tid)
    unfolding of_drop
    drop_names tid h = by_when Names _ _ _ (λ e. still _ _) (λ e. by_given Names _ _ _ (still _ _) (λ run f. one_line _ _ _ h))

    check_names : Names (of_check home past)
    unfolding of_check
    check_names = by_when Names _ _ _ (λ e. still _ _) (λ e. record { sends = tt; calls = (tt, (tt, (tt, tt))); lines = tt })

    torn_names : (b : Bool) → Each CallNames (cond b (CutBack ∷ []) [])
    torn_names true = (tt, tt)
    torn_names false = tt

    back_names : Names (of_back home past)
    unfolding of_back
    back_names = record { sends = tt; calls = append_each CallNames _ _ (torn_names (is_torn site_frame (disk home past))) (tt, (tt, tt)); lines = tt }

    ask_names : (tid : Tid) → Names (of_ask home past tid)
    unfolding of_ask
    ask_names tid =
        by_given Names (doubt_of (records home past) tid) _ _ (still _ _)
        (λ held e. record { sends = ((subst (MayHold tid) e (doubt_names (records home past) tid (records_names home past named))).1, tt); calls = tt; lines = tt })

    module _ (message : ToSite) (tid : Tid) (h : N tid) where
      did_names : (n : ℕ) (reply : Reply) (lines : List EngineLine) → ReplyNames reply → Each LineNames lines → Names (did home past message tid n reply lines)
      unfolding did
      did_names n reply lines r l = record { sends = ((h, r), tt); calls = tt; lines = l }

      unknown_names : (n : ℕ) → Names (unknown home past message tid n)
      unfolding unknown
      unknown_names n = did_names n _ _ tt tt

      repeated_names : (n : ℕ) (run : Run) → Names (repeated home past message tid n run)
      unfolding repeated
      repeated_names n run = by_when Names _ _ _ (λ e. did_names n _ _ (kept_names run.ticket run.acts) tt) (λ e. unknown_names n)

      work_names : (e n : ℕ) (act : PlainAct) (run : Run) → Names (work_live home past message tid e n act run)
      unfolding work_live next_work
      work_names e n act run =
          by_when Names _ _ _ (λ f. unknown_names n)
          (λ f. by_when Names _ _ _
          (λ g. did_names n _ _ (access_reply_names (epoch_start home past) (start_names home past named) (engine_lines past) (lines_names past named) run act) (h, tt)) (λ g. repeated_names n run))

      first_names : (n : ℕ) (act : PlainAct) → Names (first_work home past message tid n act)
      unfolding first_work
      first_names n act =
          did_names n _ _
          (access_reply_names (epoch_start home past) (start_names home past named) (Begins tid (next_number home past) ∷ engine_lines past) (h, lines_names past named) (begun tid (next_number home past)) act) (h, (h, tt))

      take_names : (e n : ℕ) (run : Run) → Names (take_live home past message tid e n run)
      unfolding take_live next_take
      take_names e n run =
          by_when Names _ _ _ (λ f. unknown_names n)
          (λ f. by_when Names _ _ _ (λ g. did_names n _ _ (ticket_reply_names (epoch_start home past) (start_names home past named) (engine_lines past) (lines_names past named) run) (h, tt)) (λ g. repeated_names n run))

    of_work_names : (tid : Tid) (e n : ℕ) (act : PlainAct) → N tid → Names (of_work home past tid e n act)
    unfolding of_work
    of_work_names tid e n act h =
        let m = To.Work tid e n act in
        by_when Names _ _ _ (λ f. unknown_names m tid h n)
        (λ f. by_given Names _ _ _ (by_when Names _ _ _ (λ g. first_names m tid h n act) (λ g. unknown_names m tid h n)) (λ run g. work_names m tid h e n act run))

    of_take_names : (tid : Tid) (e n : ℕ) → N tid → Names (of_take home past tid e n)
    unfolding of_take
    of_take_names tid e n h =
        let m = To.Take tid e n in
        by_when Names _ _ _ (λ f. unknown_names m tid h n) (λ f. by_given Names _ _ _ (unknown_names m tid h n) (λ run g. take_names m tid h e n run))

    no_names : (tid : Tid) (e n : ℕ) (why : Option Why) (lines : List EngineLine) → N tid → Each LineNames lines → Names (votes_no tid e n why lines)
    unfolding votes_no
    no_names tid e n why lines h l = record { sends = (h, tt); calls = tt; lines = l }

    again_names : (tid : Tid) (e n : ℕ) (held : Held) → N tid → Names (votes_again tid e n held)
    unfolding votes_again
    again_names tid e n held h = record { sends = (h, tt); calls = tt; lines = tt }

    yes_names : (tid : Tid) (e n : ℕ) (run : Run) (ticket : ℕ) → N tid → Names (votes_yes home past tid e n run ticket)
    unfolding votes_yes
    yes_names tid e n run ticket h = record { sends = (h, tt); calls = (h, (tt, tt)); lines = (h, tt) }

    of_prepare_names : (tid : Tid) (e n : ℕ) → N tid → Names (of_prepare home past tid e n)
    unfolding of_prepare prepare_live seals_global
    of_prepare_names tid e n h =
        by_given Names _ _ _
        (by_given Names _ _ _ (no_names tid e n _ _ h tt)
        (λ run f. by_when Names _ _ _
        (λ g. by_given Names _ _ _ (no_names tid e n _ _ h tt) (λ ticket i. by_given Names _ _ _ (yes_names tid e n run ticket h) (λ why j. no_names tid e n _ _ h (h, tt))))
        (λ g. no_names tid e n _ _ h tt)))
        (λ held f. by_when Names _ _ _ (λ g. again_names tid e n held h) (λ g. no_names tid e n _ _ h tt))

    ack_names : (tid : Tid) (decision : Decision) → N tid → Each SendNames (ack_of home tid decision)
    ack_names tid decision h = by_test (acks home.protocol decision)
      where
        by_test : (b : Bool) → Each SendNames (cond b (From.Ack tid ∷ []) [])
        by_test true = (h, tt)
        by_test false = tt

    ended_names : (tid : Tid) (decision : Decision) → Each CallNames (ended_calls home tid decision)
    ended_names tid decision = (tt, by_test (forces home.protocol decision))
      where
        by_test : (b : Bool) → Each CallNames (cond b (Sync ∷ []) [])
        by_test true = (tt, tt)
        by_test false = tt

    settling_names : (tid : Tid) (decision : Decision) → N tid → LineNames (settling_line tid decision)
    settling_names tid Decided.Commit h = h
    settling_names tid Decided.Abort h = h

    of_decide_names : (tid : Tid) (decision : Decision) → N tid → Names (of_decide home past tid decision)
    unfolding of_decide settles unheld
    of_decide_names tid decision h =
        by_given Names _ _ _
        (by_given Names _ _ _ (record { sends = ack_names tid decision h; calls = tt; lines = tt }) (λ run e. record { sends = ack_names tid decision h; calls = tt; lines = (h, tt) }))
        (λ held e. record { sends = ack_names tid decision h; calls = ended_names tid decision; lines = (settling_names tid decision h, tt) })

    give_names : (message : ToSite) → N (about message) → Names (of_give home past message)
    unfolding of_give
    give_names (To.Work tid e n act) h = of_work_names tid e n act h
    give_names (To.Take tid e n) h = of_take_names tid e n h
    give_names (To.Prepare tid e n) h = of_prepare_names tid e n h
    give_names (To.Decide tid decision) h = of_decide_names tid decision h

    tripped_names : (d : Disk SiteRecord) (armed : Option Trip) (x : SiteHappening) → Names x → Names (tripped site_frame d armed x)
    unfolding tripped stopped
    tripped_names d None x h = h
    tripped_names d (Some t) x h =
        by_when Names _ _ x (λ e. record { sends = tt; calls = append_each CallNames (take t.calls x.calls) (Stops t.cut ∷ []) (each_take CallNames t.calls x.calls h.calls) (tt, tt); lines = tt }) (λ e. h)

    up_names : (event : SiteEvent) (x : SiteHappening) → Names x → Names (when (is_down past) (quiet event Say.Down) (unless_tripped home past x))
    up_names event x h = by_when Names _ _ _ (λ e. still event Say.Down) (λ e. tripped_names (disk home past) (trip past) x h)

    -- the next line names what its event and the lines before it name
    pub line_names : (event : SiteEvent) → EventNames event → Names (site_line home past event)
    unfolding site_line answered stopped
    line_names (Ev.Begin tid) h = up_names _ _ (begin_names tid h)
    line_names (Ev.Act tid act) h = up_names _ _ (act_names tid act h)
    line_names (Ev.Commit tid) h = up_names _ _ (commit_names tid h)
    line_names (Ev.Abort tid) h = up_names _ _ (abort_names tid h)
    line_names (Ev.Fate tx) h = up_names _ _ (fate_names tx)
    line_names (Ev.Give message) h = up_names _ _ (give_names message h)
    line_names (Ev.Ask tid) h = up_names _ _ (ask_names tid)
    line_names (Ev.Drop tid) h = up_names _ _ (drop_names tid h)
    line_names (Ev.Halt cut) h = by_when Names _ _ _ (λ e. still _ _) (λ e. record { sends = tt; calls = (tt, tt); lines = tt })
    line_names (Ev.Trip calls cut) h = still _ _
    line_names Ev.Back h = by_when Names _ _ _ (λ e. tripped_names (disk home past) (trip past) _ back_names) (λ e. still _ _)
    line_names Ev.Check h = up_names _ _ check_names
