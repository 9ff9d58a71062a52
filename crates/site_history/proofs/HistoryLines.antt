-- Each line of a site keeps what is known of its past, and so it is of every past whose events are sorted.
use Rattle.std.proofs.Common.{◌≡◌, ℕ, Bool, true, false, cond, ◌||◌, List, [], ◌∷◌, ◌++◌, take, zero, suc, refl, sym, ap, ◌∙◌, subst}
use Rattle.mdb_base.specs.declared.names.Tid.{Tid}
use Rattle.mdb_base.specs.declared.names.Tx.{Tx}
use Rattle.mdb_base.specs.Words.{Among, Each, some_of}
use Rattle.mdb_base.proofs.ForCallers.{same_tid-equal}
use Rattle.fed_rules.specs.declared.records.SiteRecord.{SiteRecord}
use Rattle.fed_rules.specs.declared.records.SiteRecord.TheVariants.{Setup, Start, Prepared, Ended, Local, Checkpoint}
use Rattle.fed_rules.specs.Disk.{Append, Call, CutBack, TrimFront, Disk, Stops, Sync, after_call, after_calls}
use Rattle.fed_rules.specs.Happenings.{comes_up, stops}
use Rattle.fed_rules.specs.Runs as Runs
use Rattle.fed_rules.specs.Runs.{EngineLine, Run, run_at}
use Rattle.fed_rules.specs.SitePast.{SiteHappening, SitePast, disk, epoch, epoch_start, engine_lines, live, records}
use Rattle.fed_rules.specs.SiteRecords.{Home, site_frame, start_of}
use Rattle.engine_laws.specs.Epochs.{Epoch}
use Rattle.site_history.specs.Accesses.{acts_at, acts_of, seals}
use Rattle.site_history.specs.Events.{prepares}
use Rattle.site_history.specs.Records.{BindOnce, Binds, IsBound, Prepares}
use Rattle.site_history.proofs.Agreement.{IsGoodLine, kept_good, kept_start}
use Rattle.site_history.proofs.Backed.{AllBacked, AppendsNone, StopsLast, acts_after, acts_first, all_acts, appended, appended_none, backed_front, each_front, first_backing, front_after, once_front}
use Rattle.site_history.proofs.Backing.{IsBacked, backed_acts}
use Rattle.site_history.proofs.Histories.{IsHistory, IsSortedRecord, LocalsUnbound, no_local_doubt}
use Rattle.site_history.proofs.HistoryMoves.{IsAppended, IsNewRecord, Step, appends, keeps}
use Rattle.site_history.proofs.Moves.{OnlySyncs}
use Rattle.site_history.proofs.Records.{bound_alone}
use Rattle.site_history.proofs.Restarts.{backed_restart}
use Rattle.site_history.proofs.Starts.{HasRisingWrites, restored_doubt, restored_held}

-- the Prepared records among the calls are of attempts with none so far
abbrev pub AreNew : Home → SitePast → List (Call SiteRecord) → Type 0
AreNew home past calls = (tid : Tid) → some_of (prepares tid) calls ≡ true → Among (Prepares tid) (records home past) → ⊥

-- all records that the calls may leave are backed
pub record AreBacked (home : Home) (past : SitePast) (local : Tx → Bool) (calls : List (Call SiteRecord)) : Type 0 where
  pub once : BindOnce (appended calls (records home past))
  pub sorted : Each (IsSortedRecord local) (appended calls (records home past))
  pub all : AllBacked home (acts_after home past calls) (appended calls (records home past))
  pub last : StopsLast calls

-- and the newest ones by these engine lines
pub record AreStepped (home : Home) (past : SitePast) (local : Tx → Bool) (lines : List EngineLine) (earlier : List Epoch)
    (calls : List (Call SiteRecord)) : Type 0 where
  pub backed : AreBacked home past local calls
  pub now : IsBacked home (acts_after home past calls) (appended calls (records home past)) (epoch_start home past) lines earlier
  pub whole : (after_calls site_frame (disk home past) calls).records ≡ appended calls (records home past)

seals_binds : (tid : Tid) (kept : SiteRecord) → seals tid (Append kept) ≡ true → Binds tid kept
seals_binds tid (Prepared p epoch number ticket writes) e = same_tid-equal p tid e
seals_binds tid (Local p number writes) e = same_tid-equal p tid e
seals_binds tid (Setup site engine protocol items) e = cc
seals_binds tid (Checkpoint sum) e = cc
seals_binds tid (Start epoch) e = cc
seals_binds tid (Ended p decision) e = cc

pub none_of_syncs : (calls : List (Call SiteRecord)) → OnlySyncs calls → AppendsNone calls
none_of_syncs [] s = tt
none_of_syncs (Sync ∷ calls) s = none_of_syncs calls s
none_of_syncs (Append newest ∷ calls) s = elim s [ ]
none_of_syncs (CutBack ∷ calls) s = elim s [ ]
none_of_syncs (TrimFront ∷ calls) s = none_of_syncs calls s
none_of_syncs (Stops cut ∷ calls) s = elim s [ ]

pub last_of_syncs : (calls : List (Call SiteRecord)) → OnlySyncs calls → StopsLast calls
last_of_syncs [] s = tt
last_of_syncs (Sync ∷ calls) s = last_of_syncs calls s
last_of_syncs (Append newest ∷ calls) s = elim s [ ]
last_of_syncs (CutBack ∷ calls) s = elim s [ ]
last_of_syncs (TrimFront ∷ calls) s = last_of_syncs calls s
last_of_syncs (Stops cut ∷ calls) s = elim s [ ]

pub torn_none : (n : ℕ) (calls : List (Call SiteRecord)) (cut : ℕ) → OnlySyncs calls → AppendsNone (take n calls ++ Stops cut ∷ [])
torn_none zero calls cut s = tt
torn_none (suc n) [] cut s = tt
torn_none (suc n) (Sync ∷ calls) cut s = torn_none n calls cut s
torn_none (suc n) (Append newest ∷ calls) cut s = elim s [ ]
torn_none (suc n) (CutBack ∷ calls) cut s = elim s [ ]
torn_none (suc n) (TrimFront ∷ calls) cut s = torn_none n calls cut s
torn_none (suc n) (Stops c ∷ calls) cut s = elim s [ ]

pub torn_last : (n : ℕ) (calls : List (Call SiteRecord)) (cut : ℕ) → OnlySyncs calls → StopsLast (take n calls ++ Stops cut ∷ [])
torn_last zero calls cut s = tt
torn_last (suc n) [] cut s = tt
torn_last (suc n) (Sync ∷ calls) cut s = torn_last n calls cut s
torn_last (suc n) (Append newest ∷ calls) cut s = elim s [ ]
torn_last (suc n) (CutBack ∷ calls) cut s = elim s [ ]
torn_last (suc n) (TrimFront ∷ calls) cut s = torn_last n calls cut s
torn_last (suc n) (Stops c ∷ calls) cut s = elim s [ ]

pub synced_records : (d : Disk SiteRecord) (calls : List (Call SiteRecord)) → OnlySyncs calls → (after_calls site_frame d calls).records ≡ d.records
synced_records d [] s = refl
synced_records d (Sync ∷ calls) s = synced_records (after_call site_frame d Sync) calls s
synced_records d (Append newest ∷ calls) s = elim s [ ]
synced_records d (CutBack ∷ calls) s = elim s [ ]
synced_records d (TrimFront ∷ calls) s = synced_records (after_call site_frame d TrimFront) calls s
synced_records d (Stops cut ∷ calls) s = elim s [ ]

-- a record is appended, and nothing behind it
one_backed : (home : Home) (past : SitePast) (local : Tx → Bool) (lines : List EngineLine) (newest : SiteRecord) (more : List (Call SiteRecord))
    (h : IsHistory home local past) → IsAppended home past local newest lines h.earlier → AppendsNone more → StopsLast more
    → AreBacked home past local (Append newest ∷ more)
one_backed home past local lines newest more h a none last = record {
  once = subst BindOnce (sym whole) a.once;
  sorted = subst (Each (IsSortedRecord local)) (sym whole) (a.sorted, h.sorted);
  all = subst (AllBacked home acts) (sym whole) (
    record {
      start = epoch_start home past;
      lines = lines;
      earlier = h.earlier;
      backed = backed_acts home (acts_after home past (Append newest ∷ [])) acts (newest ∷ records home past) (epoch_start home past) lines
          h.earlier (λ t bound. acts_first home past newest more [] t none tt) a.backed;
    },
    all_acts home (acts_at home past) acts (records home past) others h.backed,
  );
  last = last;
}
  where
    acts : Tid → List Runs.Access
    acts = acts_after home past (Append newest ∷ more)

    whole : appended more (newest ∷ records home past) ≡ newest ∷ records home past
    whole = appended_none more (newest ∷ records home past) none

    others : (t : Tid) → IsBound t (records home past) → acts_after home past (Append newest ∷ more) t ≡ acts_at home past t
    others t bound =
        acts_first home past newest more [] t none tt
        ∙ by_test (seals t (Append newest)) refl
      where
        by_test : (b : Bool) → seals t (Append newest) ≡ b
            → cond (b || false) (acts_of (live home past t)) (acts_at home past t) ≡ acts_at home past t
        by_test true is = absurd (bound_alone newest (records home past) t a.once (seals_binds t newest is) bound)
        by_test false is = refl

-- nothing is appended
pub none_backed : (home : Home) (past : SitePast) (local : Tx → Bool) (cut : ℕ) → IsHistory home local past
    → AreBacked home past local (Stops cut ∷ [])
none_backed home past local cut h = record { once = h.once; sorted = h.sorted; all = h.backed; last = tt }

new_first : (home : Home) (past : SitePast) (newest : SiteRecord) (more : List (Call SiteRecord)) → AreNew home past (Append newest ∷ more)
    → IsNewRecord home past newest
new_first home past newest more new tid e = new tid (ap (λ b. b || some_of (prepares tid) more) e)

pub whole_step : (home : Home) (past : SitePast) (local : Tx → Bool) (lines : List EngineLine) (calls : List (Call SiteRecord))
    (h : IsHistory home local past) → AreNew home past calls → Step home past local lines h.earlier calls
    → AreStepped home past local lines h.earlier calls
whole_step home past local lines calls h new (keeps b) = record {
  backed = record { once = h.once; sorted = h.sorted; all = h.backed; last = tt };
  now = b;
  whole = refl;
}
whole_step home past local lines calls h new (appends {newest = newest} {rest = rest} synced f) =
    let a = f (new_first home past newest rest new) in
    let none = none_of_syncs rest synced in
    let same = appended_none rest (newest ∷ records home past) none in
    record {
      backed = one_backed home past local lines newest rest h a none (last_of_syncs rest synced);
      now = subst (λ rs. IsBacked home (acts_after home past (Append newest ∷ rest)) rs (epoch_start home past) lines h.earlier) (sym same)
          (backed_acts home (acts_after home past (Append newest ∷ [])) (acts_after home past (Append newest ∷ rest)) (newest ∷ records home past)
          (epoch_start home past) lines h.earlier (λ t bound. acts_first home past newest rest [] t none tt) a.backed);
      whole = synced_records (after_call site_frame (disk home past) (Append newest)) rest synced ∙ sym same;
    }

-- a trip within the calls
pub torn_step : (home : Home) (past : SitePast) (local : Tx → Bool) (lines : List EngineLine) (calls : List (Call SiteRecord)) (n cut : ℕ)
    (h : IsHistory home local past) → AreNew home past (take n calls ++ Stops cut ∷ []) → Step home past local lines h.earlier calls
    → AreBacked home past local (take n calls ++ Stops cut ∷ [])
torn_step home past local lines calls zero cut h new step = none_backed home past local cut h
torn_step home past local lines calls (suc n) cut h new (keeps b) = none_backed home past local cut h
torn_step home past local lines calls (suc n) cut h new (appends {newest = newest} {rest = rest} synced f) =
    one_backed home past local lines newest (take n rest ++ Stops cut ∷ []) h
    (f (new_first home past newest (take n rest ++ Stops cut ∷ []) new)) (torn_none n rest cut synced) (torn_last n rest cut synced)

-- what a start restores of local attempts: nothing
pub start_locals : (home : Home) (local : Tx → Bool) (rs : List SiteRecord) → Each (IsSortedRecord local) rs
    → LocalsUnbound local rs (start_of home rs) []
start_locals home local rs sorted tid run at mine =
    let none = no_local_doubt local rs tid sorted mine in
    let clash = sym (restored_doubt rs tid ∙ ap restored_held none) ∙ at in cc

-- a stop, or a start of the site
pub history_start : (home : Home) (local : Tx → Bool) (past : SitePast) (x : SiteHappening) → IsHistory home local past
    → (stops x.answer || comes_up x.answer) ≡ true → AreBacked home past local x.calls → Each HasRisingWrites (records home (x ∷ past))
    → IsHistory home local (x ∷ past)
history_start home local past x h begins b rising = by_front (front_after site_frame (disk home past) x.calls b.last)
  where
    new : Runs.Start
    new = start_of home (records home (x ∷ past))

    by_front : (newer : List SiteRecord) × (appended x.calls (records home past) ≡ newer ++ records home (x ∷ past)) → IsHistory home local (x ∷ past)
    by_front (newer, e) =
        let all = backed_front home (acts_at home (x ∷ past)) newer (records home (x ∷ past))
        (subst (AllBacked home (acts_at home (x ∷ past))) e b.all) in
        let once = once_front newer (records home (x ∷ past)) (subst BindOnce e b.once) in
        let sorted = each_front (IsSortedRecord local) newer (records home (x ∷ past)) (subst (Each (IsSortedRecord local)) e b.sorted) in
        let first = first_backing home (acts_at home (x ∷ past)) (records home (x ∷ past)) all in
        record {
          kept = kept_start home past x begins rising;
          once = once;
          sorted = sorted;
          locals = subst (λ t. LocalsUnbound local (records home (x ∷ past)) (cond t new (epoch_start home past)) (cond t [] (x.lines ++ engine_lines past)))
              (sym begins) (start_locals home local (records home (x ∷ past)) sorted);
          backed = all;
          earlier = record { start = first.start; lines = first.lines } ∷ first.earlier;
          now = subst (λ t. IsBacked home (acts_at home (x ∷ past)) (records home (x ∷ past)) (cond t new (epoch_start home past))
              (cond t [] (x.lines ++ engine_lines past)) (record { start = first.start; lines = first.lines } ∷ first.earlier)) (sym begins)
              (backed_restart home (acts_at home (x ∷ past)) (records home (x ∷ past)) first.start first.lines first.earlier first.backed once rising);
        }

-- a line that neither stops the site nor brings it up
pub history_plain : (home : Home) (local : Tx → Bool) (past : SitePast) (x : SiteHappening) (h : IsHistory home local past) → IsGoodLine home past x
    → AreStepped home past local (x.lines ++ engine_lines past) h.earlier x.calls
    → LocalsUnbound local (appended x.calls (records home past)) (epoch_start home past) (x.lines ++ engine_lines past)
    → IsHistory home local (x ∷ past)
history_plain home local past x h g s locals =
    let new = start_of home (records home (x ∷ past)) in
    let lines = x.lines ++ engine_lines past in
    let same = sym s.whole in
    record {
      kept = kept_good home past x h.kept g;
      once = subst BindOnce same s.backed.once;
      sorted = subst (Each (IsSortedRecord local)) same s.backed.sorted;
      locals = subst (λ t. LocalsUnbound local (records home (x ∷ past)) (cond t new (epoch_start home past)) (cond t [] lines)) (sym g.plain)
          (subst (λ rs. LocalsUnbound local rs (epoch_start home past) lines) same locals);
      backed = subst (AllBacked home (acts_at home (x ∷ past))) same s.backed.all;
      earlier = h.earlier;
      now = subst (λ t. IsBacked home (acts_at home (x ∷ past)) (records home (x ∷ past)) (cond t new (epoch_start home past)) (cond t [] lines)
          h.earlier) (sym g.plain)
          (subst (λ rs. IsBacked home (acts_at home (x ∷ past)) rs (epoch_start home past) lines h.earlier) same s.now);
    }
