-- Where the events are sorted, and all Prepares of an attempt name one epoch, no attempt is prepared twice.
use Rattle.std.proofs.Common.{◌≡◌, ℕ, ◌+◌, ◌⊎◌, Bool, true, false, cond, Option, Some, None, List, [], ◌∷◌, ◌++◌, take, zero, suc, refl, sym, ap, ◌∙◌, subst, inl, inr, arith}
use Rattle.std.specs.Prelude.{nat_le, length}
use Rattle.mdb_base.specs.declared.names.Tid.{Tid}
use Rattle.mdb_base.specs.declared.names.Tx.{Tx}
use Rattle.mdb_base.specs.declared.rows.Put.{Put}
use Rattle.mdb_base.specs.Words.{when}
use Rattle.order_laws.specs.Chains.{In}
use Rattle.fed_rules.specs.declared.answers.Answer.TheVariants as Say
use Rattle.fed_rules.specs.declared.events.SiteEvent.{SiteEvent}
use Rattle.fed_rules.specs.declared.events.SiteEvent.TheVariants as Ev
use Rattle.fed_rules.specs.declared.records.SiteRecord.{SiteRecord}
use Rattle.fed_rules.specs.declared.records.SiteRecord.TheVariants.{Prepared, Start}
use Rattle.fed_rules.specs.Disk.{Append, CutBack, Disk, Stops, Sync, after_calls, is_torn}
use Rattle.fed_rules.specs.Happenings.{Trip, is_down, stopped, tripped}
use Rattle.fed_rules.specs.Site.{answered, of_back, site_line, site_past, unless_tripped}
use Rattle.fed_rules.specs.SitePast.{SiteHappening, SitePast, disk, epoch, records, trip}
use Rattle.fed_rules.specs.SiteRecords.{Home, epoch_of, site_frame}
use Rattle.site_history.specs.Events.{AreSorted, AskInOneEpoch, IsSorted, PreparedOncePerEpoch, PreparesOnce}
use Rattle.site_history.proofs.Agreement.{still}
use Rattle.site_history.proofs.Moves.{move_answered, rests}
use Rattle.site_history.proofs.RightLines.{good_answered, is_back, kept_first}
use Rattle.site_history.proofs.ShutLines.{IsShutLine, IsShutPast, IsTornRise, first_time, move_torn, shut_when, stopped_line, whole_line}
use Rattle.site_history.proofs.ShutPasts.{EpochsRise, WasAsked, IsNew, asked_move, in_after, new_torn, prepared_epoch, prepares_new}
use Rattle.site_history.proofs.SortedPasts.{fresh_sorted, sorted_past}

shut_tripped : (home : Home) (events : List SiteEvent) (past : SitePast) (event : SiteEvent) (o : Option Trip) (x : SiteHappening)
    → IsShutLine home events past event x
    → ((n cut : ℕ) → IsShutLine home events past event (stopped site_frame (disk home past) x.event (take n x.calls ++ Stops cut ∷ [])))
    → IsShutLine home events past event (tripped site_frame (disk home past) o x)
unfolding tripped
shut_tripped home events past event None x whole torn = whole
shut_tripped home events past event (Some t) x whole torn =
    shut_when home events past event (nat_le t.calls (length x.calls))
    (stopped site_frame (disk home past) x.event (take t.calls x.calls ++ Stops t.cut ∷ [])) x (λ e. torn t.calls t.cut) (λ e. whole)

-- an answer alone
shut_quiet : (home : Home) (local : Tx → Bool) (events : List SiteEvent) (past : SitePast) (event : SiteEvent) → IsShutPast home local events past
    → AskInOneEpoch (event ∷ events)
    → IsShutLine home events past event (record { event = event; answer = Say.Down; sends = []; calls = []; lines = [] })
shut_quiet home local events past event s one =
    whole_line home local events past event (record { event = event; answer = Say.Down; sends = []; calls = []; lines = [] }) s one
    (still home past event Say.Down [] s.kept refl) (record { moves = rests }) (λ tid h. cc)

shut_up : (home : Home) (local : Tx → Bool) (events : List SiteEvent) (past : SitePast) (event : SiteEvent) → IsShutPast home local events past
    → AskInOneEpoch (event ∷ events) → IsSorted local event → is_back event ≡ false
    → IsShutLine home events past event (when (is_down past) (record { event = event; answer = Say.Down; sends = []; calls = []; lines = [] })
    (unless_tripped home past (answered home past event)))
shut_up home local events past event s one sorted b =
    let fresh = fresh_sorted home past local event s.sorted sorted in
    let x = answered home past event in
    let g = good_answered home past event s.kept fresh b in
    let m = move_answered home past local event s.kept sorted fresh b in
    shut_when home events past event (is_down past) (record { event = event; answer = Say.Down; sends = []; calls = []; lines = [] })
    (unless_tripped home past (answered home past event)) (λ down. shut_quiet home local events past event s one)
    (λ up. shut_tripped home events past event (trip past) x (whole_line home local events past event x s one g m (λ tid h. up))
    (λ n cut. stopped_line home local events past event x.event (take n x.calls ++ Stops cut ∷ []) s
    (move_torn home past local event x.calls x.lines n cut m.moves s.rises)
    (λ tid e number ticket writes new. asked_move home past local event x.calls x.lines tid e number ticket writes m.moves
    (new_torn (Prepared tid e number ticket writes) n cut x.calls new))
    (λ tid h among.
    let new = prepares_new tid (take n x.calls ++ Stops cut ∷ []) h in
    first_time home local events past event tid new.e s one up
    (asked_move home past local event x.calls x.lines tid new.e new.number new.ticket new.writes m.moves
    (subst (λ t. IsNew (Prepared t new.e new.number new.ticket new.writes) x.calls) new.same
    (new_torn (Prepared new.of new.e new.number new.ticket new.writes) n cut x.calls new.new))) among)))

-- a start of the site prepares nothing
start_new : (torn : Bool) (n : ℕ) (tid : Tid) (e number ticket : ℕ) (writes : List Put)
    → IsNew (Prepared tid e number ticket writes) (cond torn (CutBack ∷ []) [] ++ Append (Start n) ∷ Sync ∷ []) → ⊥
start_new true n tid e number ticket writes (inl same) = cc
start_new true n tid e number ticket writes (inr i) = i
start_new false n tid e number ticket writes (inl same) = cc
start_new false n tid e number ticket writes (inr i) = i

start_records : (d : Disk SiteRecord) (torn : Bool) (n : ℕ)
    → (after_calls site_frame d (cond torn (CutBack ∷ []) [] ++ Append (Start n) ∷ Sync ∷ [])).records ≡ Start n ∷ d.records
start_records d true n = refl
start_records d false n = refl

start_torn : (home : Home) (local : Tx → Bool) (events : List SiteEvent) (past : SitePast) (torn : Bool) (k cut : ℕ)
    → IsShutPast home local events past
    → IsTornRise home past (take k (cond torn (CutBack ∷ []) [] ++ Append (Start (epoch home past + 1)) ∷ Sync ∷ []) ++ Stops cut ∷ [])
start_torn home local events past true zero cut s = record { rises = s.rises; last = tt }
start_torn home local events past true (suc zero) cut s = record { rises = s.rises; last = tt }
start_torn home local events past true (suc (suc zero)) cut s = record { rises = (omega arith, s.rises); last = tt }
start_torn home local events past true (suc (suc (suc zero))) cut s = record { rises = (omega arith, s.rises); last = tt }
start_torn home local events past true (suc (suc (suc (suc k)))) cut s = record { rises = (omega arith, s.rises); last = tt }
start_torn home local events past false zero cut s = record { rises = s.rises; last = tt }
start_torn home local events past false (suc zero) cut s = record { rises = (omega arith, s.rises); last = tt }
start_torn home local events past false (suc (suc zero)) cut s = record { rises = (omega arith, s.rises); last = tt }
start_torn home local events past false (suc (suc (suc k))) cut s = record { rises = (omega arith, s.rises); last = tt }

-- an attempt with a Prepared record was prepared in an epoch before the one that a start begins
start_later : (home : Home) (local : Tx → Bool) (events : List SiteEvent) (past : SitePast) (torn : Bool) (tid : Tid) (e number ticket : ℕ)
    (writes : List Put) → IsShutPast home local events past
    → In (Prepared tid e number ticket writes) (records home past)
    ⊎ IsNew (Prepared tid e number ticket writes) (cond torn (CutBack ∷ []) [] ++ Append (Start (epoch home past + 1)) ∷ Sync ∷ [])
    → e ≡ epoch home past + 1 → ⊥
start_later home local events past torn tid e number ticket writes s (inl i) same =
    let most = prepared_epoch (records home past) tid e number ticket writes s.rises i in omega (arith, most, same)
start_later home local events past torn tid e number ticket writes s (inr new) same =
    start_new torn (epoch home past + 1) tid e number ticket writes new

start_asked : (home : Home) (local : Tx → Bool) (events : List SiteEvent) (past : SitePast) (torn : Bool) (tid : Tid) (e number ticket : ℕ)
    (writes : List Put) → IsShutPast home local events past
    → In (Prepared tid e number ticket writes) (records home past)
    ⊎ IsNew (Prepared tid e number ticket writes) (cond torn (CutBack ∷ []) [] ++ Append (Start (epoch home past + 1)) ∷ Sync ∷ [])
    → WasAsked (Ev.Back ∷ events) tid e
start_asked home local events past torn tid e number ticket writes s (inl i) =
    let w = s.asked tid e number ticket writes i in record { n = w.n; came = inr w.came }
start_asked home local events past torn tid e number ticket writes s (inr new) =
    absurd (start_new torn (epoch home past + 1) tid e number ticket writes new)

shut_back : (home : Home) (local : Tx → Bool) (events : List SiteEvent) (past : SitePast) → IsShutPast home local events past
    → IsShutLine home events past Ev.Back (unless_tripped home past (of_back home past))
unfolding of_back
shut_back home local events past s =
    let torn = is_torn site_frame (disk home past) in
    let n = epoch home past + 1 in
    shut_tripped home events past Ev.Back (trip past) (of_back home past)
    (record {
      asked = λ tid e number ticket writes i. start_asked home local events past torn tid e number ticket writes s
          (in_after site_frame (disk home past) (of_back home past).calls (Prepared tid e number ticket writes) i);
      rises = subst EpochsRise (sym (start_records (disk home past) torn n)) (omega arith, s.rises);
      shut = λ is tid e number ticket writes i same. absurd (start_later home local events past torn tid e number ticket writes s
          (in_after site_frame (disk home past) (of_back home past).calls (Prepared tid e number ticket writes) i)
          (same ∙ ap epoch_of (start_records (disk home past) torn n)));
      once = λ tid h among.
          let new = prepares_new tid (of_back home past).calls h in
          start_new torn n new.of new.e new.number new.ticket new.writes new.new;
    })
    (λ k cut. stopped_line home local events past Ev.Back Ev.Back (take k (of_back home past).calls ++ Stops cut ∷ []) s
    (start_torn home local events past torn k cut s)
    (λ tid e number ticket writes new. absurd (start_new torn n tid e number ticket writes
    (new_torn (Prepared tid e number ticket writes) k cut (of_back home past).calls new)))
    (λ tid h among.
    let new = prepares_new tid (take k (of_back home past).calls ++ Stops cut ∷ []) h in
    start_new torn n new.of new.e new.number new.ticket new.writes
    (new_torn (Prepared new.of new.e new.number new.ticket new.writes) k cut (of_back home past).calls new.new)))

shut_next : (home : Home) (local : Tx → Bool) (events : List SiteEvent) (past : SitePast) (event : SiteEvent) → IsShutPast home local events past
    → AskInOneEpoch (event ∷ events) → IsSorted local event → IsShutLine home events past event (site_line home past event)
unfolding site_line
shut_next home local events past (Ev.Trip calls cut) s one sorted =
    whole_line home local events past (Ev.Trip calls cut) (record { event = Ev.Trip calls cut; answer = Say.Set; sends = []; calls = []; lines = [] })
    s one (still home past (Ev.Trip calls cut) Say.Set [] s.kept refl) (record { moves = rests }) (λ tid h. cc)
shut_next home local events past (Ev.Halt cut) s one sorted =
    shut_when home events past (Ev.Halt cut) (is_down past) _ _ (λ down. shut_quiet home local events past (Ev.Halt cut) s one)
    (λ up. stopped_line home local events past (Ev.Halt cut) (Ev.Halt cut) (Stops cut ∷ []) s (record { rises = s.rises; last = tt })
    (λ tid e number ticket writes new. elim new [ ]) (λ tid h. cc))
shut_next home local events past Ev.Back s one sorted =
    shut_when home events past Ev.Back (is_down past) _ _ (λ down. shut_back home local events past s)
    (λ up. whole_line home local events past Ev.Back (record { event = Ev.Back; answer = Say.Awake; sends = []; calls = []; lines = [] }) s one
    (still home past Ev.Back Say.Awake [] s.kept refl) (record { moves = rests }) (λ tid h. cc))
shut_next home local events past (Ev.Begin tid) s one sorted = shut_up home local events past (Ev.Begin tid) s one sorted refl
shut_next home local events past (Ev.Act tid act) s one sorted = shut_up home local events past (Ev.Act tid act) s one sorted refl
shut_next home local events past (Ev.Commit tid) s one sorted = shut_up home local events past (Ev.Commit tid) s one sorted refl
shut_next home local events past (Ev.Abort tid) s one sorted = shut_up home local events past (Ev.Abort tid) s one sorted refl
shut_next home local events past (Ev.Fate tx) s one sorted = shut_up home local events past (Ev.Fate tx) s one sorted refl
shut_next home local events past (Ev.Give message) s one sorted = shut_up home local events past (Ev.Give message) s one sorted refl
shut_next home local events past (Ev.Ask tid) s one sorted = shut_up home local events past (Ev.Ask tid) s one sorted refl
shut_next home local events past (Ev.Drop tid) s one sorted = shut_up home local events past (Ev.Drop tid) s one sorted refl
shut_next home local events past Ev.Check s one sorted = shut_up home local events past Ev.Check s one sorted refl

-- what is known after all events
record IsPreparedOnce (home : Home) (local : Tx → Bool) (events : List SiteEvent) : Type 0 where
  shut : IsShutPast home local events (site_past home events)
  once : PreparesOnce home (site_past home events)

prepared_once : (home : Home) (local : Tx → Bool) (events : List SiteEvent) → AreSorted local events → AskInOneEpoch events
    → IsPreparedOnce home local events
prepared_once home local [] sorted one = record {
  shut = record {
    kept = kept_first home;
    sorted = (tt, (tt, tt));
    asked = λ tid e number ticket writes i. absurd (none tid e number ticket writes i);
    rises = (omega arith, tt);
    shut = λ up tid e number ticket writes i same. absurd (none tid e number ticket writes i);
  };
  once = tt;
}
  where
    none : (tid : Tid) (e number ticket : ℕ) (writes : List Put) → In (Prepared tid e number ticket writes) (records home []) → ⊥
    none tid e number ticket writes (inl same) = cc
    none tid e number ticket writes (inr (inl same)) = cc
    none tid e number ticket writes (inr (inr i)) = i
prepared_once home local (event ∷ events) (now, before) one =
    let p = prepared_once home local events before (λ tid d e m n i j. one tid d e m n (inr i) (inr j)) in
    let s = sorted_past home local (event ∷ events) (now, before) in
    let l = shut_next home local events (site_past home events) event p.shut one now in
    record {
      shut = record { kept = s.kept; sorted = s.records; asked = l.asked; rises = l.rises; shut = l.shut };
      once = (l.once, p.once);
    }

-- no attempt is prepared twice
pub prepares_once : PreparedOncePerEpoch
prepares_once home local events sorted one = (prepared_once home local events sorted one).once
