-- Where all Prepares of an attempt name one epoch, no attempt is prepared twice: an attempt that was prepared in this epoch is shut.
use Rattle.std.proofs.Common.{◌≡◌, ℕ, ◌+◌, ◌<◌, ◌≤◌, ◌⊎◌, Bool, true, false, cond, ◌||◌, Some, List, [], ◌∷◌, ◌++◌, take, zero, suc, refl, sym, ap, ◌∙◌, inl, inr, arith}
use Rattle.std.specs.Prelude.{min, nat_le}
use Rattle.mdb_base.specs.declared.names.Tid.{Tid}
use Rattle.mdb_base.specs.declared.names.Tx.{Tx}
use Rattle.mdb_base.specs.declared.rows.Put.{Put}
use Rattle.mdb_base.specs.Names.{same_tid}
use Rattle.mdb_base.specs.Words.{some_of}
use Rattle.mdb_base.proofs.ForCallers.{same_tid-equal}
use Rattle.order_laws.specs.Chains.{In}
use Rattle.fed_rules.specs.declared.events.SiteEvent.{SiteEvent}
use Rattle.fed_rules.specs.declared.events.SiteEvent.TheVariants as Ev
use Rattle.fed_rules.specs.declared.messages.ToSite.TheVariants as To
use Rattle.fed_rules.specs.declared.records.SiteRecord.{SiteRecord}
use Rattle.fed_rules.specs.declared.records.SiteRecord.TheVariants.{Setup, Start, Prepared, Ended, Local, Checkpoint}
use Rattle.fed_rules.specs.Disk.{Append, Call, CutBack, TrimFront, Disk, Stops, Sync, after_call, after_calls, bytes_of, whole}
use Rattle.fed_rules.specs.Runs.{EngineLine, Run}
use Rattle.fed_rules.specs.SitePast.{SitePast, epoch, live, records}
use Rattle.fed_rules.specs.SiteRecords.{Home, epoch_of}
use Rattle.site_history.specs.Events.{prepares}
use Rattle.site_history.proofs.Histories.{live_of_here}
use Rattle.site_history.proofs.Moves.{Moves, OnlySyncs, rests, begins_local, begins_work, goes_on, commits_local, prepares_run, settles_held, checks_sum}

-- the epoch of a Prepared record is at most that of the last start behind it, and each start begins a later epoch
abbrev pub EpochsRise : List SiteRecord → Type 0
EpochsRise [] = Unit {0}
EpochsRise (Prepared tid e number ticket writes ∷ rs) = (e ≤ epoch_of rs) × EpochsRise rs
EpochsRise (Start n ∷ rs) = (epoch_of rs < n) × EpochsRise rs
EpochsRise (newest ∷ rs) = EpochsRise rs

pub rises_behind : (newest : SiteRecord) (rs : List SiteRecord) → EpochsRise (newest ∷ rs) → EpochsRise rs
rises_behind (Prepared tid e number ticket writes) rs h = h.1
rises_behind (Start n) rs h = h.1
rises_behind (Setup site engine protocol items) rs h = h
rises_behind (Checkpoint sum) rs h = h
rises_behind (Ended tid decision) rs h = h
rises_behind (Local tid number writes) rs h = h

pub rises_front : (newer kept : List SiteRecord) → EpochsRise (newer ++ kept) → EpochsRise kept
rises_front [] kept h = h
rises_front (x ∷ newer) kept h = rises_front newer kept (rises_behind x (newer ++ kept) h)

-- the epoch of each Prepared record is at most the last one
pub prepared_epoch : (rs : List SiteRecord) (tid : Tid) (e number ticket : ℕ) (writes : List Put) → EpochsRise rs
    → In (Prepared tid e number ticket writes) rs → e ≤ epoch_of rs
prepared_epoch [] tid e number ticket writes h i = elim i [ ]
prepared_epoch (Prepared p f n t ws ∷ rs) tid e number ticket writes h (inl same) =
    let one : f ≡ e = cc in let most = h.0 in omega arith
prepared_epoch (Prepared p f n t ws ∷ rs) tid e number ticket writes h (inr i) = prepared_epoch rs tid e number ticket writes h.1 i
prepared_epoch (Start n ∷ rs) tid e number ticket writes h (inl same) = cc
prepared_epoch (Start n ∷ rs) tid e number ticket writes h (inr i) =
    let most = prepared_epoch rs tid e number ticket writes h.1 i in let less = h.0 in omega arith
prepared_epoch (Setup site engine protocol items ∷ rs) tid e number ticket writes h (inl same) = cc
prepared_epoch (Checkpoint sum ∷ rs) tid e number ticket writes h (inl same) = cc
prepared_epoch (Setup site engine protocol items ∷ rs) tid e number ticket writes h (inr i) = prepared_epoch rs tid e number ticket writes h i
prepared_epoch (Checkpoint sum ∷ rs) tid e number ticket writes h (inr i) = prepared_epoch rs tid e number ticket writes h i
prepared_epoch (Ended p decision ∷ rs) tid e number ticket writes h (inl same) = cc
prepared_epoch (Ended p decision ∷ rs) tid e number ticket writes h (inr i) = prepared_epoch rs tid e number ticket writes h i
prepared_epoch (Local p n ws ∷ rs) tid e number ticket writes h (inl same) = cc
prepared_epoch (Local p n ws ∷ rs) tid e number ticket writes h (inr i) = prepared_epoch rs tid e number ticket writes h i

-- the record is appended by one of the calls
abbrev pub IsNew : SiteRecord → List (Call SiteRecord) → Type 0
IsNew kept [] = ⊥
IsNew kept (Append newest ∷ calls) = (newest ≡ kept) ⊎ IsNew kept calls
IsNew kept (call ∷ calls) = IsNew kept calls

whole_in : (size : SiteRecord → ℕ) (b : ℕ) (rs : List SiteRecord) (kept : SiteRecord) → In kept (whole size b rs) → In kept rs
whole_in size b [] kept i = i
whole_in size b (r ∷ rs) kept i = by_test (nat_le (bytes_of size (r ∷ rs)) b) i (whole_in size b rs kept)
  where
    by_test : (t : Bool) → In kept (cond t (r ∷ rs) (whole size b rs)) → (In kept (whole size b rs) → In kept rs) → In kept (r ∷ rs)
    by_test true i rest = i
    by_test false i rest = inr (rest i)

-- what is on the disk after the calls was there, or is new
pub in_after : (size : SiteRecord → ℕ) (d : Disk SiteRecord) (calls : List (Call SiteRecord)) (kept : SiteRecord)
    → In kept (after_calls size d calls).records → In kept d.records ⊎ IsNew kept calls
in_after size d [] kept i = inl i
in_after size d (Append newest ∷ calls) kept i = by_place (in_after size (after_call size d (Append newest)) calls kept i)
  where
    by_place : ((newest ≡ kept) ⊎ In kept d.records) ⊎ IsNew kept calls → In kept d.records ⊎ ((newest ≡ kept) ⊎ IsNew kept calls)
    by_place (inl (inl e)) = inr (inl e)
    by_place (inl (inr j)) = inl j
    by_place (inr n) = inr (inr n)
in_after size d (Sync ∷ calls) kept i = in_after size (after_call size d Sync) calls kept i
in_after size d (CutBack ∷ calls) kept i = in_after size (after_call size d CutBack) calls kept i
in_after size d (TrimFront ∷ calls) kept i = in_after size (after_call size d TrimFront) calls kept i
in_after size d (Stops cut ∷ calls) kept i = elim (in_after size (after_call size d (Stops cut)) calls kept i) [
  | inl j ↦ inl (whole_in size (min d.length (d.synced + cut)) d.records kept j)
  | inr n ↦ inr n
]

pub new_torn : (kept : SiteRecord) (n cut : ℕ) (calls : List (Call SiteRecord)) → IsNew kept (take n calls ++ Stops cut ∷ []) → IsNew kept calls
new_torn kept zero cut calls i = elim i [ ]
new_torn kept (suc n) cut [] i = elim i [ ]
new_torn kept (suc n) cut (Append newest ∷ calls) (inl e) = inl e
new_torn kept (suc n) cut (Append newest ∷ calls) (inr i) = inr (new_torn kept n cut calls i)
new_torn kept (suc n) cut (Sync ∷ calls) i = new_torn kept n cut calls i
new_torn kept (suc n) cut (CutBack ∷ calls) i = new_torn kept n cut calls i
new_torn kept (suc n) cut (TrimFront ∷ calls) i = new_torn kept n cut calls i
new_torn kept (suc n) cut (Stops c ∷ calls) i = new_torn kept n cut calls i

-- a record that prepares among the calls is new
pub record IsNewPrepared (tid : Tid) (calls : List (Call SiteRecord)) : Type 0 where
  pub of : Tid
  pub e : ℕ
  pub number : ℕ
  pub ticket : ℕ
  pub writes : List Put
  pub new : IsNew (Prepared of e number ticket writes) calls
  pub same : of ≡ tid

pub prepares_new : (tid : Tid) (calls : List (Call SiteRecord)) → some_of (prepares tid) calls ≡ true → IsNewPrepared tid calls
prepares_new tid [] h = cc
prepares_new tid (Append newest ∷ calls) h = by_record newest h (prepares_new tid calls)
  where
    by_test : (p : Tid) (e n t : ℕ) (ws : List Put) (b : Bool) → same_tid p tid ≡ b → (b || some_of (prepares tid) calls) ≡ true
        → (some_of (prepares tid) calls ≡ true → IsNewPrepared tid calls) → IsNewPrepared tid (Append (Prepared p e n t ws) ∷ calls)
    by_test p e n t ws true is h rest = record {
      of = p;
      e = e;
      number = n;
      ticket = t;
      writes = ws;
      new = inl refl;
      same = same_tid-equal p tid is;
    }
    by_test p e n t ws false is h rest =
        let r = rest h in
        record { of = r.of; e = r.e; number = r.number; ticket = r.ticket; writes = r.writes; new = inr r.new; same = r.same }

    behind : (newest : SiteRecord) → IsNewPrepared tid calls → IsNewPrepared tid (Append newest ∷ calls)
    behind newest r =
        record { of = r.of; e = r.e; number = r.number; ticket = r.ticket; writes = r.writes; new = inr r.new; same = r.same }

    by_record : (r : SiteRecord) → (prepares tid (Append r) || some_of (prepares tid) calls) ≡ true
        → (some_of (prepares tid) calls ≡ true → IsNewPrepared tid calls) → IsNewPrepared tid (Append r ∷ calls)
    by_record (Prepared p e n t ws) h rest = by_test p e n t ws (same_tid p tid) refl h rest
    by_record (Setup site engine protocol items) h rest = behind (Setup site engine protocol items) (rest h)
    by_record (Checkpoint sum) h rest = behind (Checkpoint sum) (rest h)
    by_record (Start n) h rest = behind (Start n) (rest h)
    by_record (Ended p decision) h rest = behind (Ended p decision) (rest h)
    by_record (Local p n ws) h rest = behind (Local p n ws) (rest h)
prepares_new tid (Sync ∷ calls) h =
    let r = prepares_new tid calls h in
    record { of = r.of; e = r.e; number = r.number; ticket = r.ticket; writes = r.writes; new = r.new; same = r.same }
prepares_new tid (CutBack ∷ calls) h =
    let r = prepares_new tid calls h in
    record { of = r.of; e = r.e; number = r.number; ticket = r.ticket; writes = r.writes; new = r.new; same = r.same }
prepares_new tid (TrimFront ∷ calls) h =
    let r = prepares_new tid calls h in
    record { of = r.of; e = r.e; number = r.number; ticket = r.ticket; writes = r.writes; new = r.new; same = r.same }
prepares_new tid (Stops cut ∷ calls) h =
    let r = prepares_new tid calls h in
    record { of = r.of; e = r.e; number = r.number; ticket = r.ticket; writes = r.writes; new = r.new; same = r.same }

-- a Prepare of the attempt that names the epoch came
pub record WasAsked (events : List SiteEvent) (tid : Tid) (e : ℕ) : Type 0 where
  pub n : ℕ
  pub came : In (Ev.Give (To.Prepare tid e n)) events

-- each Prepared record was asked for
abbrev pub AreAsked : Home → SitePast → List SiteEvent → Type 0
AreAsked home past events =
    (tid : Tid) (e number ticket : ℕ) (writes : List Put) → In (Prepared tid e number ticket writes) (records home past) → WasAsked events tid e

-- and each new one is of a run that is live, and is asked for by the event
pub record IsAskedNow (home : Home) (past : SitePast) (event : SiteEvent) (tid : Tid) (e : ℕ) : Type 0 where
  pub n : ℕ
  pub now : event ≡ Ev.Give (To.Prepare tid e n)
  pub epoch_is : e ≡ epoch home past
  pub run : Run
  pub live_is : live home past tid ≡ Some run

pub asked_move : (home : Home) (past : SitePast) (local : Tx → Bool) (event : SiteEvent) (calls : List (Call SiteRecord)) (lines : List EngineLine)
    (tid : Tid) (e number ticket : ℕ) (writes : List Put) → Moves home past local event calls lines
    → IsNew (Prepared tid e number ticket writes) calls → IsAskedNow home past event tid e
asked_move home past local event calls lines tid e number ticket writes rests i = elim i [ ]
asked_move home past local event calls lines tid e number ticket writes (begins_local mine free none) i = elim i [ ]
asked_move home past local event calls lines tid e number ticket writes (begins_work others none fresh) i = elim i [ ]
asked_move home past local event calls lines tid e number ticket writes (goes_on run here calm) i = elim i [ ]
asked_move home past local event calls lines tid e number ticket writes (commits_local run mine here) (inl same) = cc
asked_move home past local event calls lines tid e number ticket writes (commits_local run mine here) (inr i) = elim i [ ]
asked_move home past local event calls lines tid e number ticket writes (prepares_run {tid = p} n run asked others here took) (inl same) =
    let of_tid : p ≡ tid = cc in
    let of_epoch : epoch home past ≡ e = cc in
    record {
      n = n;
      now = asked ∙ ap (λ t. Ev.Give (To.Prepare t (epoch home past) n)) of_tid ∙ ap (λ f. Ev.Give (To.Prepare tid f n)) of_epoch;
      epoch_is = sym of_epoch;
      run = run;
      live_is = ap (live home past) (sym of_tid) ∙ live_of_here home past p run here.live;
    }
asked_move home past local event calls lines tid e number ticket writes (prepares_run n run asked others here took) (inr i) = elim i [ ]
asked_move home past local event calls lines tid e number ticket writes (checks_sum is) (inl same) = cc
asked_move home past local event calls lines tid e number ticket writes (checks_sum is) (inr i) = elim i [ ]
asked_move home past local event calls lines tid e number ticket writes (settles_held {rest = rest} held doubt synced just) (inl same) = cc
asked_move home past local event calls lines tid e number ticket writes (settles_held {rest = rest} held doubt synced just) (inr i) =
    elim (none_new rest synced i) [ ]
  where
    none_new : (calls : List (Call SiteRecord)) → OnlySyncs calls → IsNew (Prepared tid e number ticket writes) calls → ⊥
    none_new [] s i = i
    none_new (Sync ∷ cs) s i = none_new cs s i
    none_new (Append newest ∷ cs) s i = s
    none_new (CutBack ∷ cs) s i = s
    none_new (TrimFront ∷ cs) s i = none_new cs s i
    none_new (Stops cut ∷ cs) s i = s
