-- Rules by age: each unended run has its place from its begin on, and reads alone on the runs with smaller timestamps.
use Rattle.std.proofs.Common.{◌≡◌, ℕ, ◌+◌, ◌<◌, Bool, true, false, ◌&&◌, Some, List, [], ◌∷◌, ◌++◌, sym, ap, ◌∙◌, inl, inr, arith, lt-ltb}
use Rattle.mdb_base.specs.declared.names.Tid.{Tid}
use Rattle.mdb_base.specs.declared.names.Key.{Key}
use Rattle.mdb_base.specs.declared.names.Engine.{Engine}
use Rattle.mdb_base.specs.declared.acts.PlainAct.{PlainAct}
use Rattle.mdb_base.specs.declared.acts.PlainAct.TheVariants.{Read, Write}
use Rattle.mdb_base.specs.declared.replies.Reply.{Reply}
use Rattle.mdb_base.specs.declared.replies.Reply.TheVariants as Reply_is
use Rattle.mdb_base.specs.Rows.{look_up}
use Rattle.mdb_base.specs.Names.{same_tid}
use Rattle.mdb_base.specs.Words.{Each, those, some_of}
use Rattle.mdb_base.proofs.ForCallers.{append_none, each_all, each_append, each_map, those_none}
use Rattle.fed_rules.specs.Runs.{Start, EngineLine, Begins, Seals, Got, Wrote, Run, tid_of, restored, run_at, unended, counter, number, committed, aborted, table_of, after}
use Rattle.fed_rules.specs.Replies.{Drawn, AtBegin, rule, number_drawn, access_reply, age_stop, age_ticket_stop, younger_in_the_way, older_writers, is_younger, is_older, is_in_the_way, has_written, key_of, conflicts_with_read, or_reply}
use Rattle.fed_rules.specs.EngineLines.{IsRight, IsStart}
use Rattle.engine_laws.specs.Unended.{EachRun, has_write}
use Rattle.engine_laws.proofs.ByNumber.{below, StaysClear}
use Rattle.engine_laws.proofs.Runs.{Own, begins, stays, got, wrote, takes, seals, own, each_run, each_restored, each_unended, each_committed, number_is}
use Rattle.engine_laws.proofs.Counted.{IsCounted, counted}
use Rattle.engine_laws.proofs.Granted.{is_grant, late_or_wait_grants, and_rest, untouched, clear_of_write}
use Rattle.engine_laws.proofs.Sound.{IsPlaced, IsApart, Fits, IsSound, sound_start, sound_next, still_fits, fits_last}

-- the serial number of a run is its timestamp
pub record IsAged (start : Start) (lines : List EngineLine) : Type 0 where
  pub unended : EachRun start lines (λ r. (n : ℕ) → r.sealed ≡ Some n → n ≡ r.age)
  pub committed : Each (λ d. number d ≡ d.age) (committed start lines)

-- the value of a key that a run of this age reads: its own last write, else what the runs with smaller numbers left
abbrev pub version_for : Start → List EngineLine → Run → Key → ℕ
version_for start lines run key = after run.acts (table_of (look_up start.rows) (below run.age (committed start lines))) key

-- what a granted read tells: no older run has written the key, and it is answered the version of its age
pub record IsVersion (start : Start) (lines : List EngineLine) (tid : Tid) (run : Run) (key : Key) (value : ℕ) : Type 0 where
  pub older : (u : Tid) (b : Run) → same_tid tid u ≡ false → run_at start lines u ≡ Some b → b.age < run.age
      → has_write key b.acts ≡ false
  pub value_is : value ≡ version_for start lines run key

-- what a granted access under timestamp order tells: no younger run is in its way, and no older one has written the key
pub record IsGranted (start : Start) (lines : List EngineLine) (me : Run) (act : PlainAct) : Type 0 where
  pub younger : EachRun start lines (λ b. me.age < b.age → is_in_the_way act b ≡ false)
  pub committed : Each (λ d. me.age < d.age → is_in_the_way act d ≡ false) (committed start lines)
  pub older : EachRun start lines (λ b. b.age < me.age → has_write (key_of act) b.acts ≡ false)

-- a rule by age: the number of a run is that of its begin, tickets are taken by age, and what is granted fits in
pub record IsByAge (kind : Engine) : Type 0 where
  pub drawn : (rule kind).drawn ≡ AtBegin
  pub ticket : (start : Start) (lines : List EngineLine) (me : Run)
      → (rule kind).ticket start lines me ≡ age_ticket_stop start lines me
  pub reads : (start : Start) (lines : List EngineLine) → start.kind ≡ kind → IsRight start lines → IsSound AtBegin start lines
      → IsAged start lines → (tid : Tid) (run : Run) (key : Key) (value : ℕ) → run_at start lines tid ≡ Some run
      → Reply_is.Value value ≡ access_reply start lines run (Read key) → IsVersion start lines tid run key value
  pub writes : (start : Start) (lines : List EngineLine) → start.kind ≡ kind → IsRight start lines
      → (run : Run) (key : Key) (value : ℕ) → Reply_is.Done ≡ access_reply start lines run (Write key value)
      → IsGranted start lines run (Write key value)

pub number_is_age : (drawn : Drawn) (start : Start) (lines : List EngineLine) (run : Run) → drawn ≡ AtBegin
    → number_drawn drawn start lines run ≡ run.age
number_is_age drawn start lines run e = ap (λ d. number_drawn d start lines run) e

own_aged : (kind : Engine) (start : Start) (older : List EngineLine) (line : EngineLine) (r : Run) → (rule kind).drawn ≡ AtBegin
    → start.kind ≡ kind → IsAged start older → Own start older line r → (n : ℕ) → r.sealed ≡ Some n → n ≡ r.age
own_aged kind start older line r drawn is_kind h (begins free next) n e = cc
own_aged kind start older line r drawn is_kind h (stays waits at) n e = h.unended _ r at n e
own_aged kind start older line r drawn is_kind h (got run live is) n e = h.unended _ run live.0 n e
own_aged kind start older line r drawn is_kind h (wrote run live is) n e = h.unended _ run live.0 n e
own_aged kind start older line r drawn is_kind h (takes run live is) n e = h.unended _ run live.0 n e
own_aged kind start older (Seals tid m) r drawn is_kind h (seals run live stop next) n e =
    let same : m ≡ n = cc in
    sym same ∙ next ∙ ap (λ k. number_drawn (rule k).drawn start older run) is_kind
    ∙ number_is_age (rule kind).drawn start older run drawn

pub aged : (kind : Engine) (start : Start) (lines : List EngineLine) → (rule kind).drawn ≡ AtBegin → start.kind ≡ kind
    → IsRight start lines → IsAged start lines
aged kind start [] drawn is_kind right = record {
  unended = each_restored (λ r. (n : ℕ) → r.sealed ≡ Some n → n ≡ r.age) start.doubtful
      (each_all (λ kept. (n : ℕ) → (restored kept).sealed ≡ Some n → n ≡ kept.number) (λ kept n e. cc) start.doubtful);
  committed = tt;
}
aged kind start (line ∷ older) drawn is_kind right =
    let h = aged kind start older drawn is_kind right.1 in
    record {
      unended = each_run start older line (λ r. (n : ℕ) → r.sealed ≡ Some n → n ≡ r.age)
          (λ t r other was. h.unended t r was)
          (λ r now. own_aged kind start older line r drawn is_kind h (own start older line r right.0 now));
      committed = each_committed start older line (λ d. number d ≡ d.age) right.0
          (λ run n is sealed. number_is run n sealed.1 ∙ h.unended _ run sealed.0 n sealed.1) h.committed;
    }

pub age_placed : (kind : Engine) (start : Start) (lines : List EngineLine) → (rule kind).drawn ≡ AtBegin → start.kind ≡ kind
    → IsRight start lines → IsPlaced AtBegin start lines
age_placed kind start lines drawn is_kind right tid run at n sealed =
    ap Some (sym ((aged kind start lines drawn is_kind right).unended tid run at n sealed))

-- no older unended run has written the key
pub no_older_writer : (start : Start) (lines : List EngineLine) → IsRight start lines → (me : Run) (act : PlainAct)
    → older_writers start lines me act ≡ [] → EachRun start lines (λ b. b.age < me.age → has_write (key_of act) b.acts ≡ false)
no_older_writer start lines right me act none =
    each_unended start lines right (λ run. run.age < me.age → has_write (key_of act) run.acts ≡ false)
    (each_map _ (λ run. run.age < me.age → has_write (key_of act) run.acts ≡ false)
    (λ run failed less. and_rest (is_older me run) (has_written (key_of act) run) failed (lt-ltb run.age me.age less))
    (unended start lines) (those_none (λ run. is_older me run && has_written (key_of act) run) (unended start lines) none))

-- an access that timestamp order doesn't stop
pub age_grants : (start : Start) (lines : List EngineLine) → IsRight start lines → (me : Run) (act : PlainAct) (grant reply : Reply)
    → is_grant reply ≡ true → reply ≡ or_reply (age_stop start lines me act) grant
    → IsGranted start lines me act × (reply ≡ grant)
age_grants start lines right me act answer reply grant is =
    let free = late_or_wait_grants (younger_in_the_way start lines me act) (older_writers start lines me act) answer reply grant
    is in
    let in_the_way : Run → Bool = λ run. is_younger me run && is_in_the_way act run in
    let parts = append_none (those in_the_way (unended start lines ++ committed start lines))
    (those (λ run. is_younger me run && some_of (conflicts_with_read act) run.acts) (aborted start lines)) free.0 in
    let none = each_append (λ run. in_the_way run ≡ false) (unended start lines) (committed start lines)
    (those_none in_the_way (unended start lines ++ committed start lines) parts.0) in
    let passed : (run : Run) → in_the_way run ≡ false → me.age < run.age → is_in_the_way act run ≡ false =
    λ run failed less. and_rest (is_younger me run) (is_in_the_way act run) failed (lt-ltb me.age run.age less) in (
      record {
        younger = each_unended start lines right (λ run. me.age < run.age → is_in_the_way act run ≡ false)
            (each_map _ _ passed (unended start lines) none.0);
        committed = each_map _ (λ run. me.age < run.age → is_in_the_way act run ≡ false) passed (committed start lines) none.1;
        older = no_older_writer start lines right me act free.1;
      },
      free.2,
    )

-- a granted read fits in
read_fits : (start : Start) (older : List EngineLine) (tid : Tid) (run : Run) (key : Key) (value n : ℕ)
    → IsSound AtBegin start older → run_at start older tid ≡ Some run → run.age ≡ n → IsVersion start older tid run key value
    → Fits AtBegin start older tid (Got key value ∷ run.acts) n
read_fits start older tid run key value n sound at is version =
    record {
      reads = (
        version.value_is ∙ ap (λ m. after run.acts (table_of (look_up start.rows) (below m (committed start older))) key) is,
        fits.reads,
      );
      clear = fits.clear;
      apart = λ u b other was m e. by_place b m (version.older u b other was) e (fits.apart u b other was m e);
    }
  where
    fits : Fits AtBegin start older tid run.acts n
    fits = still_fits AtBegin start older tid run n sound at (ap Some is)

    by_place : (b : Run) (m : ℕ) → (b.age < run.age → has_write key b.acts ≡ false) → Some b.age ≡ Some m
        → IsApart run.acts n b.acts m → IsApart (Got key value ∷ run.acts) n b.acts m
    by_place b m free e (inl clear) = inl clear
    by_place b m free e (inr (less, clear)) =
        let same : b.age ≡ m = cc in inr (less, (free (omega arith), clear))

-- a granted write fits in
write_fits : (start : Start) (older : List EngineLine) (tid : Tid) (run : Run) (key : Key) (value n : ℕ)
    → IsSound AtBegin start older → IsAged start older
    → run_at start older tid ≡ Some run → run.age ≡ n → IsGranted start older run (Write key value)
    → Fits AtBegin start older tid (Wrote key value ∷ run.acts) n
write_fits start older tid run key value n sound ages at is grant =
    record {
      reads = fits.reads;
      clear = stays_clear (committed start older) fits.clear ages.committed grant.committed;
      apart = λ u b other was m e. by_place b m (grant.older u b was) (grant.younger u b was) e (fits.apart u b other was m e);
    }
  where
    fits : Fits AtBegin start older tid run.acts n
    fits = still_fits AtBegin start older tid run n sound at (ap Some is)

    stays_clear : (ds : List Run) → Each (StaysClear run.acts n) ds → Each (λ d. number d ≡ d.age) ds
        → Each (λ d. run.age < d.age → is_in_the_way (Write key value) d ≡ false) ds
        → Each (StaysClear (Wrote key value ∷ run.acts) n) ds
    stays_clear [] clear is_age free = tt
    stays_clear (d ∷ ds) clear is_age free = (here clear.0, stays_clear ds clear.1 is_age.1 free.1)
      where
        here : StaysClear run.acts n d → StaysClear (Wrote key value ∷ run.acts) n d
        here (inl less) = inl less
        here (inr (more, also)) = inr (
          more,
          clear_of_write key value run.acts d.acts
              (untouched key value d.acts (free.0 (let same = is_age.0 in omega arith))) also,
        )

    by_place : (b : Run) (m : ℕ) → (b.age < run.age → has_write key b.acts ≡ false)
        → (run.age < b.age → is_in_the_way (Write key value) b ≡ false)
        → Some b.age ≡ Some m → IsApart run.acts n b.acts m → IsApart (Wrote key value ∷ run.acts) n b.acts m
    by_place b m below above e (inl (more, clear)) =
        let same : b.age ≡ m = cc in inl (
          more,
          clear_of_write key value run.acts b.acts
              (untouched key value b.acts (above (omega arith))) clear,
        )
    by_place b m below above e (inr (less, clear)) =
        let same : b.age ≡ m = cc in inr (less, (below (omega arith), clear))

own_fits : (kind : Engine) (start : Start) (older : List EngineLine) (line : EngineLine) (r : Run) (n : ℕ) → IsByAge kind
    → IsRight start older → start.kind ≡ kind
    → IsCounted start older → IsAged start older → IsSound AtBegin start older → Own start older line r → Some r.age ≡ Some n
    → Fits AtBegin start older (tid_of line) r.acts n
own_fits kind start older (Begins tid m) r n by right is_kind drawn ages sound (begins free next) e =
    let last : n ≡ counter start older + 1 = let same : m ≡ n = cc in sym same ∙ next in
    fits_last AtBegin start older tid [] n
    (each_map _ (λ d. number d < n) (λ d was. let kept = was.kept in omega arith) (committed start older) drawn.committed)
    tt
    (λ u b other was k placed. (let same : b.age ≡ k = cc in let kept = (drawn.unended u b was).age_kept in omega arith, tt))
own_fits kind start older line r n by right is_kind drawn ages sound (stays waits at) e =
    still_fits AtBegin start older _ r n sound at e
own_fits kind start older line r n by right is_kind drawn ages sound (got {key = key} {value = value} run live is) e =
    read_fits start older _ run key value n sound live.0 (cc)
    (by.reads start older is_kind right sound ages _ run key value live.0 is)
own_fits kind start older line r n by right is_kind drawn ages sound (wrote {key = key} {value = value} run live is) e =
    write_fits start older _ run key value n sound ages live.0 (cc)
    (by.writes start older is_kind right run key value is)
own_fits kind start older line r n by right is_kind drawn ages sound (takes run live is) e =
    still_fits AtBegin start older _ run n sound live.0 e
own_fits kind start older line r n by right is_kind drawn ages sound (seals run live stop next) e =
    still_fits AtBegin start older _ run n sound live.0 e

pub age_sound : (kind : Engine) (start : Start) (lines : List EngineLine) → IsByAge kind → start.kind ≡ kind → IsStart start
    → IsRight start lines → IsSound AtBegin start lines
age_sound kind start [] by is_kind begun right = sound_start AtBegin start begun
age_sound kind start (line ∷ older) by is_kind begun right =
    let ages = aged kind start older by.drawn is_kind right.1 in
    let sound = age_sound kind start older by is_kind begun right.1 in
    sound_next AtBegin start older line right.0 sound
    (λ run n at sealed. ap Some (sym (ages.unended _ run at n sealed)))
    (λ r n mine placed. own_fits kind start older line r n by right.1 is_kind (counted start older begun right.1) ages sound mine
    placed)
