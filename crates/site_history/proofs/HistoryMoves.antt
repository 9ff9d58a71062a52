-- What a line of a site does to the epochs that back its records, and to its local attempts.
use Rattle.std.proofs.Common.{◌≡◌, ◌⊎◌, Bool, true, false, cond, Option, Some, None, List, [], ◌∷◌, ◌++◌, refl, sym, ap, ◌∙◌, subst, inl, inr}
use Rattle.mdb_base.specs.declared.names.Tid.{Tid}
use Rattle.mdb_base.specs.declared.names.Tx.{Tx}
use Rattle.mdb_base.specs.declared.acts.PlainAct.{PlainAct}
use Rattle.mdb_base.specs.declared.acts.PlainAct.TheVariants.{Read, Write}
use Rattle.mdb_base.specs.declared.replies.Reply.{Reply}
use Rattle.mdb_base.specs.declared.replies.Reply.TheVariants as Reply_is
use Rattle.mdb_base.specs.Names.{same_tid}
use Rattle.mdb_base.specs.Words.{Among}
use Rattle.mdb_base.proofs.ForCallers.{same_tid-equal, same_tid-refl}
use Rattle.presumptions.specs.declared.Decision.{Decision}
use Rattle.presumptions.specs.declared.Decision.TheVariants as Decided
use Rattle.fed_rules.specs.declared.events.SiteEvent.{SiteEvent}
use Rattle.fed_rules.specs.declared.records.SiteRecord.{SiteRecord}
use Rattle.fed_rules.specs.declared.records.SiteRecord.TheVariants.{Prepared, Ended, Local, Checkpoint}
use Rattle.fed_rules.specs.Disk.{Append, Call, CutBack, TrimFront, Stops, Sync}
use Rattle.fed_rules.specs.EngineLines.{IsRight}
use Rattle.fed_rules.specs.Runs as Runs
use Rattle.fed_rules.specs.Runs.{EngineLine, Begins, Acts, Takes, Seals, Refuses, Commits, Aborts, Run, acted, begun, changed, committed, published, puts_of, run_at, tid_of, took}
use Rattle.fed_rules.specs.Site.{next_number, number_of, settling_line}
use Rattle.fed_rules.specs.SitePast.{SitePast, epoch, epoch_start, engine_lines, records, run_of}
use Rattle.fed_rules.specs.SiteRecords.{Home, Held, doubt_of}
use Rattle.engine_laws.specs.Epochs.{Epoch}
use Rattle.engine_laws.proofs.ForCallers.{at_line}
use Rattle.site_history.specs.Accesses.{acts_at}
use Rattle.site_history.specs.Events.{prepares}
use Rattle.site_history.specs.Lines.{Agrees}
use Rattle.site_history.specs.Records.{BindOnce, IsBound, Prepares}
use Rattle.site_history.proofs.Backed.{acts_after, appended}
use Rattle.site_history.proofs.BackedSteps.{backed_abort, backed_commit, backed_local, backed_prepared}
use Rattle.site_history.proofs.Backing.{IsBacked, backed_acts, backed_calm, beside_doubt, run_beside_line, backed_sum}
use Rattle.site_history.proofs.Histories.{IsHistory, IsSortedRecord, IsUnbound, LocalsUnbound, acts_of_line, acts_of_others, local_unbound, prepares_unbound}
use Rattle.site_history.proofs.Moves.{IsCalm, Moves, OnlySyncs, rests, begins_local, begins_work, goes_on, commits_local, prepares_run, settles_held, checks_sum}
use Rattle.fed_rules.specs.declared.sums.SiteSum.{SiteSum}

-- no Prepared record of the attempt is kept
abbrev pub IsNewRecord : Home → SitePast → SiteRecord → Type 0
IsNewRecord home past newest = (tid : Tid) → prepares tid (Append newest) ≡ true → Among (Prepares tid) (records home past) → ⊥

-- the records with a new one
pub record IsAppended (home : Home) (past : SitePast) (local : Tx → Bool) (newest : SiteRecord) (lines : List EngineLine)
    (earlier : List Epoch) : Type 0 where
  pub once : BindOnce (newest ∷ records home past)
  pub sorted : IsSortedRecord local newest
  pub backed : IsBacked home (acts_after home past (Append newest ∷ [])) (newest ∷ records home past) (epoch_start home past) lines earlier

-- the records with what the calls append are backed with these engine lines
pub data Step (home : Home) (past : SitePast) (local : Tx → Bool) (lines : List EngineLine) (earlier : List Epoch) : List (Call SiteRecord) → Type 0 where
  keeps : IsBacked home (acts_at home past) (records home past) (epoch_start home past) lines earlier → Step home past local lines earlier []
  appends : {newest : SiteRecord} {rest : List (Call SiteRecord)} → OnlySyncs rest
      → (IsNewRecord home past newest → IsAppended home past local newest lines earlier)
      → Step home past local lines earlier (Append newest ∷ rest)

-- a run that is in doubt isn't the one of an attempt with no run or with a live one
no_run_no_doubt : (o : Option Held) (run : Option Run) → run ≡ None → Agrees o run → o ≡ None
no_run_no_doubt None run e a = refl
no_run_no_doubt (Some held) None e a = elim a [ ]
no_run_no_doubt (Some held) (Some run) e a = cc

free_doubt : (home : Home) (past : SitePast) (local : Tx → Bool) (tid : Tid) → IsHistory home local past → run_of home past tid ≡ None
    → doubt_of (records home past) tid ≡ None
free_doubt home past local tid h free =
    no_run_no_doubt (doubt_of (records home past) tid) (run_of home past tid) free (h.kept.agrees tid)

pub calm_committed : (local : Tx → Bool) (start : Runs.Start) (lines : List EngineLine) (line : EngineLine) → IsCalm local line
    → committed start (line ∷ lines) ≡ committed start lines
calm_committed local start lines (Acts tid act reply) c = refl
calm_committed local start lines (Takes tid reply) c = refl
calm_committed local start lines (Refuses tid why) c = refl
calm_committed local start lines (Aborts tid) c = refl
calm_committed local start lines (Begins tid n) c = elim c [ ]
calm_committed local start lines (Seals tid n) c = elim c [ ]
calm_committed local start lines (Commits tid) c = elim c [ ]

pub calm_published : (local : Tx → Bool) (start : Runs.Start) (lines : List EngineLine) (line : EngineLine) → IsCalm local line
    → published start (line ∷ lines) ≡ published start lines
calm_published local start lines (Acts tid act reply) c = refl
calm_published local start lines (Takes tid reply) c = refl
calm_published local start lines (Refuses tid why) c = refl
calm_published local start lines (Aborts tid) c = refl
calm_published local start lines (Begins tid n) c = elim c [ ]
calm_published local start lines (Seals tid n) c = elim c [ ]
calm_published local start lines (Commits tid) c = elim c [ ]

not_sealed : (rs : List SiteRecord) (mine tid : Tid) → (IsBound mine rs → ⊥) → IsBound tid rs → same_tid mine tid ≡ false
not_sealed rs mine tid free bound = by_test (same_tid mine tid) refl
  where
    by_test : (b : Bool) → same_tid mine tid ≡ b → b ≡ false
    by_test true is = absurd (free (subst (λ t. IsBound t rs) (sym (same_tid-equal mine tid is)) bound))
    by_test false is = refl

-- a line's engine lines are right, and with its records its sealed runs are those in doubt
pub record IsFine (home : Home) (past : SitePast) (calls : List (Call SiteRecord)) (lines : List EngineLine) : Type 0 where
  pub right : IsRight (epoch_start home past) lines
  pub agrees : (tid : Tid) → Agrees (doubt_of (appended calls (records home past)) tid) (run_at (epoch_start home past) lines tid)

pub synced_append : (rest : List (Call SiteRecord)) (rs : List SiteRecord) → OnlySyncs rest → appended rest rs ≡ rs
synced_append [] rs s = refl
synced_append (Sync ∷ rest) rs s = synced_append rest rs s
synced_append (Append newest ∷ rest) rs s = elim s [ ]
synced_append (CutBack ∷ rest) rs s = elim s [ ]
synced_append (TrimFront ∷ rest) rs s = synced_append rest rs s
synced_append (Stops cut ∷ rest) rs s = elim s [ ]

unbound_sum : (local : Tx → Bool) (records : List SiteRecord) (start : Runs.Start) (lines : List EngineLine) (sum : SiteSum)
    → LocalsUnbound local records start lines → LocalsUnbound local (Checkpoint sum ∷ records) start lines
unbound_sum local records start lines sum l tid run at mine =
    let u = l tid run at mine in record { ticketless = u.ticketless; unbound = λ b. by_place tid u.unbound b }
  where
    by_place : (tid : Tid) → (IsBound tid records → ⊥) → IsBound tid (Checkpoint sum ∷ records) → ⊥
    by_place tid free (inl b) = b
    by_place tid free (inr b) = free b

pub move_step : (home : Home) (past : SitePast) (local : Tx → Bool) (event : SiteEvent) (calls : List (Call SiteRecord)) (lines : List EngineLine)
    (h : IsHistory home local past) → IsFine home past calls (lines ++ engine_lines past) → Moves home past local event calls lines
    → Step home past local (lines ++ engine_lines past) h.earlier calls
move_step home past local event calls lines h fine rests = keeps h.now
move_step home past local event calls lines h fine (begins_local {tid = tid} mine free none) =
    keeps (backed_calm home (acts_at home past) (records home past) (epoch_start home past) (engine_lines past)
    (Begins tid (next_number home past) ∷ engine_lines past) h.earlier h.now fine.right fine.agrees refl refl
    (λ t held e. run_beside_line (epoch_start home past) (engine_lines past) (Begins tid (next_number home past)) t
    (beside_doubt (records home past) tid t held (free_doubt home past local tid h none) e)))
move_step home past local event calls lines h fine (begins_work {tid = tid} {act = act} {reply = reply} others none fresh) =
    let begins = Begins tid (next_number home past) ∷ engine_lines past in
    keeps (backed_calm home (acts_at home past) (records home past) (epoch_start home past) (engine_lines past)
    (Acts tid act reply ∷ begins) h.earlier h.now fine.right fine.agrees refl refl
    (λ t held e.
    let apart = beside_doubt (records home past) tid t held (free_doubt home past local tid h none) e in
    run_beside_line (epoch_start home past) begins (Acts tid act reply) t apart
    ∙ run_beside_line (epoch_start home past) (engine_lines past) (Begins tid (next_number home past)) t apart))
move_step home past local event calls lines h fine (goes_on {line = line} run here calm) =
    keeps (backed_calm home (acts_at home past) (records home past) (epoch_start home past) (engine_lines past)
    (line ∷ engine_lines past) h.earlier h.now fine.right fine.agrees
    (calm_committed local (epoch_start home past) (engine_lines past) line calm)
    (calm_published local (epoch_start home past) (engine_lines past) line calm)
    (λ t held e. run_beside_line (epoch_start home past) (engine_lines past) line t
    (beside_doubt (records home past) (tid_of line) t held here.doubt e)))
move_step home past local event calls lines h fine (commits_local {tid = tid} run mine here) =
    appends tt (λ new.
    let n = number_of home past run in
    let newest = Local tid n (puts_of run.acts) in
    let unbound = h.locals tid run here.live.0 mine in
    let acts = acts_after home past (Append newest ∷ []) in
    record {
      once = (unbound.unbound, h.once);
      sorted = mine;
      backed = backed_local home acts (records home past) (epoch_start home past) (engine_lines past) h.earlier tid n run
          (backed_acts home (acts_at home past) acts (records home past) (epoch_start home past) (engine_lines past) h.earlier
          (λ t bound. acts_of_others home past newest t (not_sealed (records home past) tid t unbound.unbound bound)) h.now)
          fine.right fine.agrees here.live here.doubt unbound.ticketless
          (acts_of_line home past newest [] tid run here.live (same_tid-refl tid));
    })
move_step home past local event calls lines h fine (prepares_run {tid = tid} {ticket = ticket} asks run asked others here took) =
    appends tt (λ new.
    let n = number_of home past run in
    let newest = Prepared tid (epoch home past) n ticket (puts_of run.acts) in
    let unbound : IsBound tid (records home past) → ⊥ =
    λ b. new tid (same_tid-refl tid) (prepares_unbound local (records home past) tid h.sorted others b) in
    let acts = acts_after home past (Append newest ∷ []) in
    record {
      once = (unbound, h.once);
      sorted = others;
      backed = backed_prepared home acts (records home past) (epoch_start home past) (engine_lines past) h.earlier tid (epoch home past) n ticket run
          (backed_acts home (acts_at home past) acts (records home past) (epoch_start home past) (engine_lines past) h.earlier
          (λ t bound. acts_of_others home past newest t (not_sealed (records home past) tid t unbound bound)) h.now)
          fine.right fine.agrees here.live took
          (acts_of_line home past newest [] tid run here.live (same_tid-refl tid));
    })
move_step home past local event calls lines h fine (checks_sum {sum = sum} is) =
    appends tt (λ new. record {
      once = h.once;
      sorted = tt;
      backed = backed_sum home (acts_at home past) (records home past) (epoch_start home past) (engine_lines past) h.earlier sum h.now;
    })
move_step home past local event calls lines h fine (settles_held {tid = tid} {decision = Decided.Commit} {rest = rest} held doubt synced just) =
    appends synced (λ new. record {
      once = h.once;
      sorted = tt;
      backed = backed_commit home (acts_at home past) (records home past) (epoch_start home past) (engine_lines past) h.earlier tid held h.now
          fine.right
          (λ t. subst (λ rs. Agrees (doubt_of rs t) (run_at (epoch_start home past) (Commits tid ∷ engine_lines past) t))
          (synced_append rest (Ended tid Decided.Commit ∷ records home past) synced) (fine.agrees t))
          doubt;
    })
move_step home past local event calls lines h fine (settles_held {tid = tid} {decision = Decided.Abort} {rest = rest} held doubt synced just) =
    appends synced (λ new. record {
      once = h.once;
      sorted = tt;
      backed = backed_abort home (acts_at home past) (records home past) (epoch_start home past) (engine_lines past) h.earlier tid h.now
          fine.right
          (λ t. subst (λ rs. Agrees (doubt_of rs t) (run_at (epoch_start home past) (Aborts tid ∷ engine_lines past) t))
          (synced_append rest (Ended tid Decided.Abort ∷ records home past) synced) (fine.agrees t));
    })

-- what an access or the taking of a ticket leaves of the ticket
acted_ticket : (reply : Reply) (act : PlainAct) (run now : Run) → acted reply act run ≡ Some now → now.ticket ≡ run.ticket
acted_ticket (Reply_is.Refused why) act run now e = cc
acted_ticket (Reply_is.Wait by) act run now e = let same : run ≡ now = cc in ap (λ r. r.ticket) (sym same)
acted_ticket (Reply_is.Ticket n) act run now e = let same : run ≡ now = cc in ap (λ r. r.ticket) (sym same)
acted_ticket Reply_is.Unknown act run now e = let same : run ≡ now = cc in ap (λ r. r.ticket) (sym same)
acted_ticket (Reply_is.Value value) (Read key) run now e =
    let same : record run { acts = Runs.Got key value ∷ run.acts } ≡ now = cc in ap (λ r. r.ticket) (sym same)
acted_ticket (Reply_is.Value value) (Write key v) run now e = let same : run ≡ now = cc in ap (λ r. r.ticket) (sym same)
acted_ticket Reply_is.Done (Read key) run now e = let same : run ≡ now = cc in ap (λ r. r.ticket) (sym same)
acted_ticket Reply_is.Done (Write key value) run now e =
    let same : record run { acts = Runs.Wrote key value ∷ run.acts } ≡ now = cc in ap (λ r. r.ticket) (sym same)

pub calm_ticket : (local : Tx → Bool) (line : EngineLine) (run now : Run) → IsCalm local line → local (tid_of line).tx ≡ true
    → changed line (Some run) ≡ Some now → now.ticket ≡ run.ticket
calm_ticket local (Acts tid act reply) run now c mine e = acted_ticket reply act run now e
calm_ticket local (Takes tid reply) run now c mine e = let clash = sym mine ∙ c in cc
calm_ticket local (Refuses tid why) run now c mine e = cc
calm_ticket local (Aborts tid) run now c mine e = cc
calm_ticket local (Begins tid n) run now c mine e = elim c [ ]
calm_ticket local (Seals tid n) run now c mine e = elim c [ ]
calm_ticket local (Commits tid) run now c mine e = elim c [ ]

-- of one more line: what holds of the others, and of the line's own run
locals_line : (local : Tx → Bool) (rs now : List SiteRecord) (start : Runs.Start) (lines : List EngineLine) (line : EngineLine)
    → LocalsUnbound local rs start lines
    → ((tid : Tid) → same_tid (tid_of line) tid ≡ false → IsBound tid now → IsBound tid rs)
    → ((run : Run) → changed line (run_at start lines (tid_of line)) ≡ Some run → local (tid_of line).tx ≡ true → IsUnbound now (tid_of line) run)
    → LocalsUnbound local now start (line ∷ lines)
locals_line local rs now start lines line others older mine tid run e is = elim (at_line start lines line tid run e) [
  | inl (apart, was) ↦
      let u = others tid run was is in
      record { ticketless = u.ticketless; unbound = λ b. u.unbound (older tid apart b) }
  | inr (same, own) ↦ subst (λ t. IsUnbound now t run) same (mine run own (ap (λ t. local t.tx) same ∙ is))
]

pub move_locals : (home : Home) (past : SitePast) (local : Tx → Bool) (event : SiteEvent) (calls : List (Call SiteRecord)) (lines : List EngineLine)
    → IsHistory home local past → Moves home past local event calls lines
    → LocalsUnbound local (appended calls (records home past)) (epoch_start home past) (lines ++ engine_lines past)
move_locals home past local event calls lines h rests = h.locals
move_locals home past local event calls lines h (begins_local {tid = tid} mine free none) =
    locals_line local (records home past) (records home past) (epoch_start home past) (engine_lines past) (Begins tid (next_number home past))
    h.locals (λ t apart b. b)
    (λ run e is.
    let same : begun tid (next_number home past) ≡ run = cc in
    record { ticketless = ap (λ r. r.ticket) (sym same); unbound = local_unbound local (records home past) tid h.sorted is free })
move_locals home past local event calls lines h (begins_work {tid = tid} {act = act} {reply = reply} others none fresh) =
    let begins = Begins tid (next_number home past) ∷ engine_lines past in
    locals_line local (records home past) (records home past) (epoch_start home past) begins (Acts tid act reply)
    (locals_line local (records home past) (records home past) (epoch_start home past) (engine_lines past) (Begins tid (next_number home past))
    h.locals (λ t apart b. b) (λ run e is. let clash = sym is ∙ others in cc))
    (λ t apart b. b) (λ run e is. let clash = sym is ∙ others in cc)
move_locals home past local event calls lines h (goes_on {line = line} run here calm) =
    locals_line local (records home past) (records home past) (epoch_start home past) (engine_lines past) line h.locals (λ t apart b. b)
    (λ now e is.
    let u = h.locals (tid_of line) run here.live.0 is in
    record {
      ticketless = calm_ticket local line run now calm is (sym (ap (changed line) here.live.0) ∙ e) ∙ u.ticketless;
      unbound = u.unbound;
    })
move_locals home past local event calls lines h (commits_local {tid = tid} run mine here) = locals
  where
    newest : SiteRecord
    newest = Local tid (number_of home past run) (puts_of run.acts)

    sealing : EngineLine
    sealing = Seals tid (number_of home past run)

    apart_bound : (t : Tid) → same_tid tid t ≡ false → (tid ≡ t) ⊎ IsBound t (records home past) → IsBound t (records home past)
    apart_bound t apart (inl e) = let same : same_tid tid t ≡ true = subst (λ u. same_tid tid u ≡ true) e (same_tid-refl tid) in cc
    apart_bound t apart (inr b) = b

    locals : LocalsUnbound local (Local tid (number_of home past run) (puts_of run.acts) ∷ records home past) (epoch_start home past)
        (Commits tid ∷ Seals tid (number_of home past run) ∷ engine_lines past)
    locals t r e is = by_test (same_tid tid t) refl e
      where
        by_test : (b : Bool) → same_tid tid t ≡ b
            → cond b None (cond b (changed (Seals tid (number_of home past run)) (run_at (epoch_start home past) (engine_lines past) t))
            (run_at (epoch_start home past) (engine_lines past) t)) ≡ Some r
            → IsUnbound (Local tid (number_of home past run) (puts_of run.acts) ∷ records home past) t r
        by_test true same e = cc
        by_test false apart e =
            let u = h.locals t r e is in
            record { ticketless = u.ticketless; unbound = λ b. u.unbound (apart_bound t apart b) }
move_locals home past local event calls lines h (prepares_run {tid = tid} {ticket = ticket} asks run asked others here took) =
    locals_line local (records home past)
    (Prepared tid (epoch home past) (number_of home past run) ticket (puts_of run.acts) ∷ records home past)
    (epoch_start home past) (engine_lines past) (Seals tid (number_of home past run)) h.locals apart_bound
    (λ now e is.
    let clash = sym is ∙ others in cc)
  where
    apart_bound : (t : Tid) → same_tid tid t ≡ false → (tid ≡ t) ⊎ IsBound t (records home past) → IsBound t (records home past)
    apart_bound t apart (inl e) = let same : same_tid tid t ≡ true = subst (λ u. same_tid tid u ≡ true) e (same_tid-refl tid) in cc
    apart_bound t apart (inr b) = b
move_locals home past local event calls lines h (checks_sum {sum = sum} is) =
    unbound_sum local (records home past) (epoch_start home past) (engine_lines past) sum h.locals
move_locals home past local event calls lines h (settles_held {tid = tid} {decision = decision} {rest = rest} held doubt synced just) =
    subst (λ rs. LocalsUnbound local rs (epoch_start home past) (settling_line tid decision ∷ engine_lines past))
    (sym (synced_append rest (Ended tid decision ∷ records home past) synced)) (by_decision decision)
  where
    ended_bound : (d : Decision) (t : Tid) → IsBound t (Ended tid d ∷ records home past) → IsBound t (records home past)
    ended_bound d t (inl b) = elim b [ ]
    ended_bound d t (inr b) = b

    by_decision : (d : Decision) → LocalsUnbound local (Ended tid d ∷ records home past) (epoch_start home past) (settling_line tid d ∷ engine_lines past)
    by_decision Decided.Commit =
        locals_line local (records home past) (Ended tid Decided.Commit ∷ records home past) (epoch_start home past) (engine_lines past)
        (Commits tid) h.locals (λ t apart b. ended_bound Decided.Commit t b) (λ now e is. cc)
    by_decision Decided.Abort =
        locals_line local (records home past) (Ended tid Decided.Abort ∷ records home past) (epoch_start home past) (engine_lines past)
        (Aborts tid) h.locals (λ t apart b. ended_bound Decided.Abort t b) (λ now e is. cc)
