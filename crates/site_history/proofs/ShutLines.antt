-- Each line of a site keeps it so that what was prepared in this epoch is shut, and prepares no attempt twice.
use Rattle.std.proofs.Common.{◌≡◌, ℕ, ◌⊎◌, Bool, true, false, cond, ◌||◌, List, [], ◌∷◌, ◌++◌, take, zero, suc, refl, sym, ap, ◌∙◌, subst, inl, inr, arith}
use Rattle.std.specs.Prelude.{is_some}
use Rattle.std.proofs.lemmas.Bool.{or_parts}
use Rattle.mdb_base.specs.declared.names.Tid.{Tid}
use Rattle.mdb_base.specs.declared.names.Tx.{Tx}
use Rattle.mdb_base.specs.declared.rows.Put.{Put}
use Rattle.mdb_base.specs.Words.{Among, Each, some_of, when}
use Rattle.mdb_base.proofs.ForCallers.{each_among}
use Rattle.order_laws.specs.Chains.{In}
use Rattle.fed_rules.specs.declared.events.SiteEvent.{SiteEvent}
use Rattle.fed_rules.specs.declared.records.SiteRecord.{SiteRecord}
use Rattle.fed_rules.specs.declared.records.SiteRecord.TheVariants.{Setup, Start, Prepared, Ended, Local, Checkpoint}
use Rattle.fed_rules.specs.Disk.{Append, Call, CutBack, TrimFront, Stops, Sync, after_calls}
use Rattle.fed_rules.specs.Happenings.{comes_up, is_down, stopped, stops}
use Rattle.fed_rules.specs.Runs.{EngineLine, Seals, puts_of, run_at}
use Rattle.fed_rules.specs.Site.{number_of}
use Rattle.fed_rules.specs.SitePast.{SiteHappening, SitePast, decides_on, disk, ends, epoch, epoch_start, engine_lines, is_closed, live_one, records}
use Rattle.fed_rules.specs.SiteRecords.{Home, doubt_of, epoch_of, site_frame, start_of}
use Rattle.site_history.specs.Events.{AskInOneEpoch, prepares}
use Rattle.site_history.specs.Records.{Prepares}
use Rattle.site_history.proofs.Agreement.{IsGoodLine, IsKept}
use Rattle.site_history.proofs.Backed.{StopsLast, appended, appended_none, front_after}
use Rattle.site_history.proofs.Histories.{IsSortedRecord}
use Rattle.site_history.proofs.HistoryLines.{torn_last, torn_none}
use Rattle.site_history.proofs.HistoryMoves.{synced_append}
use Rattle.site_history.proofs.HistoryPasts.{move_records}
use Rattle.site_history.proofs.Moves.{IsMove, Moves, OnlySyncs, rests, begins_local, begins_work, goes_on, commits_local, prepares_run, settles_held, checks_sum}
use Rattle.site_history.proofs.Shut.{AreShut, IsShut, IsShutAfter, shut_prepared, shut_stays}
use Rattle.site_history.proofs.ShutPasts.{AreAsked, EpochsRise, IsAskedNow, IsNew, WasAsked, asked_move, in_after, prepares_new, rises_front}

-- what is known of a past: Prepared records were asked for, epochs rise, and what was prepared in this epoch is shut
pub record IsShutPast (home : Home) (local : Tx → Bool) (events : List SiteEvent) (past : SitePast) : Type 0 where
  pub kept : IsKept home past
  pub sorted : Each (IsSortedRecord local) (records home past)
  pub asked : AreAsked home past events
  pub rises : EpochsRise (records home past)
  pub shut : is_down past ≡ false → AreShut home past

-- no attempt that is prepared by the calls was prepared before
abbrev pub IsFirstTime : Home → SitePast → List (Call SiteRecord) → Type 0
IsFirstTime home past calls = (tid : Tid) → some_of (prepares tid) calls ≡ true → Among (Prepares tid) (records home past) → ⊥

pub record IsShutLine (home : Home) (events : List SiteEvent) (past : SitePast) (event : SiteEvent) (x : SiteHappening) : Type 0 where
  pub asked : AreAsked home (x ∷ past) (event ∷ events)
  pub rises : EpochsRise (records home (x ∷ past))
  pub shut : is_down (x ∷ past) ≡ false → AreShut home (x ∷ past)
  pub once : IsFirstTime home past x.calls

pub shut_when : (home : Home) (events : List SiteEvent) (past : SitePast) (event : SiteEvent) (b : Bool) (x y : SiteHappening)
    → (b ≡ true → IsShutLine home events past event x) → (b ≡ false → IsShutLine home events past event y)
    → IsShutLine home events past event (when b x y)
unfolding when
shut_when home events past event true x y p q = p refl
shut_when home events past event false x y p q = q refl

-- the records of a line that is not stopped: the epoch stays, and epochs rise on
move_rises : (home : Home) (past : SitePast) (local : Tx → Bool) (event : SiteEvent) (calls : List (Call SiteRecord)) (lines : List EngineLine)
    → Moves home past local event calls lines → EpochsRise (records home past)
    → EpochsRise (appended calls (records home past)) × (epoch_of (appended calls (records home past)) ≡ epoch_of (records home past))
move_rises home past local event calls lines rests h = (h, refl)
move_rises home past local event calls lines (begins_local mine free none) h = (h, refl)
move_rises home past local event calls lines (begins_work others none fresh) h = (h, refl)
move_rises home past local event calls lines (goes_on run here calm) h = (h, refl)
move_rises home past local event calls lines (commits_local run mine here) h = (h, refl)
move_rises home past local event calls lines (prepares_run n run asked others here took) h = ((omega arith, h), refl)
move_rises home past local event calls lines (checks_sum is) h = (h, refl)
move_rises home past local event calls lines (settles_held {tid = tid} {decision = decision} {rest = rest} held doubt synced just) h =
    subst (λ rs. EpochsRise rs × (epoch_of rs ≡ epoch_of (records home past)))
    (sym (synced_append rest (Ended tid decision ∷ records home past) synced)) (h, refl)

-- of a torn one
pub record IsTornRise (home : Home) (past : SitePast) (calls : List (Call SiteRecord)) : Type 0 where
  pub rises : EpochsRise (appended calls (records home past))
  pub last : StopsLast calls

pub move_torn : (home : Home) (past : SitePast) (local : Tx → Bool) (event : SiteEvent) (calls : List (Call SiteRecord)) (lines : List EngineLine)
    (n cut : ℕ) → Moves home past local event calls lines → EpochsRise (records home past)
    → IsTornRise home past (take n calls ++ Stops cut ∷ [])
move_torn home past local event calls lines zero cut m h = record { rises = h; last = tt }
move_torn home past local event calls lines (suc n) cut rests h = record { rises = h; last = tt }
move_torn home past local event calls lines (suc n) cut (begins_local mine free none) h = record { rises = h; last = tt }
move_torn home past local event calls lines (suc n) cut (begins_work others none fresh) h = record { rises = h; last = tt }
move_torn home past local event calls lines (suc n) cut (goes_on run here calm) h = record { rises = h; last = tt }
move_torn home past local event calls lines (suc n) cut (commits_local {tid = tid} run mine here) h = record {
  rises = subst EpochsRise (sym (appended_none (take n (Sync ∷ []) ++ Stops cut ∷ [])
      (Local tid (number_of home past run) (puts_of run.acts) ∷ records home past)
      (torn_none n (Sync ∷ []) cut tt))) h;
  last = torn_last n (Sync ∷ []) cut tt;
}
move_torn home past local event calls lines (suc n) cut (prepares_run {tid = tid} {ticket = ticket} k run asked others here took) h = record {
  rises = subst EpochsRise (sym (appended_none (take n (Sync ∷ []) ++ Stops cut ∷ [])
      (Prepared tid (epoch home past) (number_of home past run) ticket (puts_of run.acts) ∷ records home past)
      (torn_none n (Sync ∷ []) cut tt))) (omega arith, h);
  last = torn_last n (Sync ∷ []) cut tt;
}
move_torn home past local event calls lines (suc n) cut (checks_sum {sum = sum} is) h = record {
  rises = subst EpochsRise (sym (appended_none (take n (Sync ∷ TrimFront ∷ []) ++ Stops cut ∷ []) (Checkpoint sum ∷ records home past)
      (torn_none n (Sync ∷ TrimFront ∷ []) cut tt))) h;
  last = torn_last n (Sync ∷ TrimFront ∷ []) cut tt;
}
move_torn home past local event calls lines (suc n) cut (settles_held {tid = tid} {decision = decision} {rest = rest} held doubt synced just) h = record {
  rises = subst EpochsRise (sym (appended_none (take n rest ++ Stops cut ∷ []) (Ended tid decision ∷ records home past) (torn_none n rest cut synced))) h;
  last = torn_last n rest cut synced;
}

-- the attempt of a new Prepared record is shut behind the line
new_shut : (home : Home) (past : SitePast) (local : Tx → Bool) (event : SiteEvent) (calls : List (Call SiteRecord)) (lines : List EngineLine)
    (tid : Tid) (e number ticket : ℕ) (writes : List Put) → Moves home past local event calls lines
    → IsNew (Prepared tid e number ticket writes) calls → IsShutAfter home past calls lines tid
new_shut home past local event calls lines tid e number ticket writes rests i = elim i [ ]
new_shut home past local event calls lines tid e number ticket writes (begins_local mine free none) i = elim i [ ]
new_shut home past local event calls lines tid e number ticket writes (begins_work others none fresh) i = elim i [ ]
new_shut home past local event calls lines tid e number ticket writes (goes_on run here calm) i = elim i [ ]
new_shut home past local event calls lines tid e number ticket writes (commits_local run mine here) (inl same) = cc
new_shut home past local event calls lines tid e number ticket writes (commits_local run mine here) (inr i) = elim i [ ]
new_shut home past local event calls lines tid e number ticket writes (prepares_run {tid = p} {ticket = t} n run asked others here took) (inl same) =
    let of_tid : p ≡ tid = cc in
    subst (λ u. IsShutAfter home past
    (Append (Prepared p (epoch home past) (number_of home past run) t (puts_of run.acts)) ∷ Sync ∷ [])
    (Seals p (number_of home past run) ∷ []) u) of_tid
    (shut_prepared home past p (number_of home past run) t run here)
new_shut home past local event calls lines tid e number ticket writes (prepares_run n run asked others here took) (inr i) = elim i [ ]
new_shut home past local event calls lines tid e number ticket writes (checks_sum is) (inl same) = cc
new_shut home past local event calls lines tid e number ticket writes (checks_sum is) (inr i) = elim i [ ]
new_shut home past local event calls lines tid e number ticket writes (settles_held {rest = rest} held doubt synced just) (inl same) = cc
new_shut home past local event calls lines tid e number ticket writes (settles_held {rest = rest} held doubt synced just) (inr i) =
    elim (none_new rest synced i) [ ]
  where
    none_new : (calls : List (Call SiteRecord)) → OnlySyncs calls → IsNew (Prepared tid e number ticket writes) calls → ⊥
    none_new [] s i = i
    none_new (Sync ∷ cs) s i = none_new cs s i
    none_new (Append newest ∷ cs) s i = s
    none_new (CutBack ∷ cs) s i = s
    none_new (TrimFront ∷ cs) s i = none_new cs s i
    none_new (Stops cut ∷ cs) s i = s

-- what is shut after the engine lines is shut after the line
shut_line : (home : Home) (past : SitePast) (x : SiteHappening) (tid : Tid) → (stops x.answer || comes_up x.answer) ≡ false
    → (after_calls site_frame (disk home past) x.calls).records ≡ appended x.calls (records home past)
    → IsShutAfter home past x.calls x.lines tid → IsShut home (x ∷ past) tid
shut_line home past x tid plain whole after = record {
  over = ap (λ b. cond b false ((decides_on tid x.event || some_of (ends tid) x.lines) || is_closed past tid)
      || is_some (doubt_of (records home (x ∷ past)) tid)) (or_parts (stops x.answer) (comes_up x.answer) plain).1
      ∙ ap (λ rs. ((decides_on tid x.event || some_of (ends tid) x.lines) || is_closed past tid) || is_some (doubt_of rs tid)) whole
      ∙ by_over (decides_on tid x.event) (some_of (ends tid) x.lines) (is_closed past tid)
      (is_some (doubt_of (appended x.calls (records home past)) tid)) after.over;
  dead = ap (λ b. live_one (run_at (cond b (start_of home (records home (x ∷ past))) (epoch_start home past))
      (cond b [] (x.lines ++ engine_lines past)) tid)) plain ∙ after.dead;
}
  where
    by_over : (a b c d : Bool) → (c ≡ true) ⊎ ((b ≡ true) ⊎ (d ≡ true)) → (((a || b) || c) || d) ≡ true
    by_over true b c d h = refl
    by_over false true c d h = refl
    by_over false false true d h = refl
    by_over false false false d (inl e) = cc
    by_over false false false d (inr (inl e)) = cc
    by_over false false false d (inr (inr e)) = e

down_plain : (past : SitePast) (x : SiteHappening) → (stops x.answer || comes_up x.answer) ≡ false → is_down (x ∷ past) ≡ false → is_down past ≡ false
down_plain past x plain e =
    let parts = or_parts (stops x.answer) (comes_up x.answer) plain in
    sym (ap (λ b. cond b true (cond (comes_up x.answer) false (is_down past))) parts.0 ∙ ap (λ b. cond b false (is_down past)) parts.1) ∙ e

-- an attempt that was prepared has a Prepared record
pub record HasPrepared (rs : List SiteRecord) (tid : Tid) : Type 0 where
  pub e : ℕ
  pub number : ℕ
  pub ticket : ℕ
  pub writes : List Put
  pub among : In (Prepared tid e number ticket writes) rs

has_prepared : (rs : List SiteRecord) (tid : Tid) → Among (Prepares tid) rs → HasPrepared rs tid
has_prepared [] tid a = elim a [ ]
has_prepared (Prepared p e number ticket writes ∷ rs) tid (inl same) = record {
  e = e;
  number = number;
  ticket = ticket;
  writes = writes;
  among = inl (ap (λ t. Prepared t e number ticket writes) same);
}
has_prepared (newest ∷ rs) tid (inr a) =
    let r = has_prepared rs tid a in
    record { e = r.e; number = r.number; ticket = r.ticket; writes = r.writes; among = inr r.among }
has_prepared (Setup site engine protocol items ∷ rs) tid (inl b) = elim b [ ]
has_prepared (Checkpoint sum ∷ rs) tid (inl b) = elim b [ ]
has_prepared (Start n ∷ rs) tid (inl b) = elim b [ ]
has_prepared (Ended p decision ∷ rs) tid (inl b) = elim b [ ]
has_prepared (Local p n writes ∷ rs) tid (inl b) = elim b [ ]

-- a run that is sealed now was not prepared before
pub first_time : (home : Home) (local : Tx → Bool) (events : List SiteEvent) (past : SitePast) (event : SiteEvent) (tid : Tid) (e : ℕ)
    → IsShutPast home local events past → AskInOneEpoch (event ∷ events) → is_down past ≡ false → IsAskedNow home past event tid e
    → Among (Prepares tid) (records home past) → ⊥
first_time home local events past event tid e s one up a among =
    let old = has_prepared (records home past) tid among in
    let was = s.asked tid old.e old.number old.ticket old.writes old.among in
    let same : old.e ≡ epoch home past = one tid old.e e was.n a.n (inr was.came) (inl a.now) ∙ a.epoch_is in
    let shut = s.shut up tid old.e old.number old.ticket old.writes old.among same in
    let clash = sym a.live_is ∙ shut.dead in cc

-- a line that is not stopped
pub whole_line : (home : Home) (local : Tx → Bool) (events : List SiteEvent) (past : SitePast) (event : SiteEvent) (x : SiteHappening)
    → IsShutPast home local events past → AskInOneEpoch (event ∷ events) → IsGoodLine home past x → IsMove home past local event x
    → ((tid : Tid) → some_of (prepares tid) x.calls ≡ true → is_down past ≡ false) → IsShutLine home events past event x
whole_line home local events past event x s one g m up = record {
  asked = λ tid e number ticket writes i. by_asked tid e number ticket writes
      (in_after site_frame (disk home past) x.calls (Prepared tid e number ticket writes) i);
  rises = subst EpochsRise (sym whole) rise.0;
  shut = λ is tid e number ticket writes i same. shut_line home past x tid g.plain whole
      (by_shut tid e number ticket writes (down_plain past x g.plain is) (same ∙ ap epoch_of whole ∙ rise.1)
      (in_after site_frame (disk home past) x.calls (Prepared tid e number ticket writes) i));
  once = λ tid h among.
      let new = prepares_new tid x.calls h in
      first_time home local events past event tid new.e s one (up tid h)
      (asked_move home past local event x.calls x.lines tid new.e new.number new.ticket new.writes m.moves
      (subst (λ t. IsNew (Prepared t new.e new.number new.ticket new.writes) x.calls) new.same new.new)) among;
}
  where
    whole : (after_calls site_frame (disk home past) x.calls).records ≡ appended x.calls (records home past)
    whole = move_records home past local event x.calls x.lines m.moves

    rise : EpochsRise (appended x.calls (records home past)) × (epoch_of (appended x.calls (records home past)) ≡ epoch_of (records home past))
    rise = move_rises home past local event x.calls x.lines m.moves s.rises

    by_asked : (tid : Tid) (e number ticket : ℕ) (writes : List Put)
        → In (Prepared tid e number ticket writes) (records home past) ⊎ IsNew (Prepared tid e number ticket writes) x.calls
        → WasAsked (event ∷ events) tid e
    by_asked tid e number ticket writes (inl i) =
        let w = s.asked tid e number ticket writes i in record { n = w.n; came = inr w.came }
    by_asked tid e number ticket writes (inr new) =
        let a = asked_move home past local event x.calls x.lines tid e number ticket writes m.moves new in
        record { n = a.n; came = inl a.now }

    by_shut : (tid : Tid) (e number ticket : ℕ) (writes : List Put) → is_down past ≡ false → e ≡ epoch home past
        → In (Prepared tid e number ticket writes) (records home past) ⊎ IsNew (Prepared tid e number ticket writes) x.calls
        → IsShutAfter home past x.calls x.lines tid
    by_shut tid e number ticket writes is same (inl i) =
        shut_stays home past local event x.calls x.lines tid m.moves
        (each_among (IsSortedRecord local) (Prepared tid e number ticket writes) (records home past) s.sorted i)
        (s.shut is tid e number ticket writes i same)
    by_shut tid e number ticket writes is same (inr new) =
        new_shut home past local event x.calls x.lines tid e number ticket writes m.moves new

-- a line that a stop ends
pub stopped_line : (home : Home) (local : Tx → Bool) (events : List SiteEvent) (past : SitePast) (event named : SiteEvent) (calls : List (Call SiteRecord))
    → IsShutPast home local events past → IsTornRise home past calls
    → ((tid : Tid) (e number ticket : ℕ) (writes : List Put) → IsNew (Prepared tid e number ticket writes) calls → IsAskedNow home past event tid e)
    → IsFirstTime home past calls → IsShutLine home events past event (stopped site_frame (disk home past) named calls)
unfolding stopped
stopped_line home local events past event named calls s rise asks first = record {
  asked = λ tid e number ticket writes i. by_asked tid e number ticket writes
      (in_after site_frame (disk home past) calls (Prepared tid e number ticket writes) i);
  rises = by_front (front_after site_frame (disk home past) calls rise.last);
  shut = λ is. cc;
  once = first;
}
  where
    by_front : (newer : List SiteRecord) × (appended calls (records home past) ≡ newer ++ (after_calls site_frame (disk home past) calls).records)
        → EpochsRise (after_calls site_frame (disk home past) calls).records
    by_front (newer, e) = rises_front newer (after_calls site_frame (disk home past) calls).records (subst EpochsRise e rise.rises)

    by_asked : (tid : Tid) (e number ticket : ℕ) (writes : List Put)
        → In (Prepared tid e number ticket writes) (records home past) ⊎ IsNew (Prepared tid e number ticket writes) calls
        → WasAsked (event ∷ events) tid e
    by_asked tid e number ticket writes (inl i) =
        let w = s.asked tid e number ticket writes i in record { n = w.n; came = inr w.came }
    by_asked tid e number ticket writes (inr new) =
        let a = asks tid e number ticket writes new in record { n = a.n; came = inl a.now }
