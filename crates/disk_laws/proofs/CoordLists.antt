-- The Checkpoints of the coordinator are Sums: each one behind other records is the Sum of them as they are read, its lists rise, and none that committed
-- is open where a commit of its participants is forgotten at once.
use Rattle.std.proofs.Common.{◌≡◌, Bool, true, false, cond, not, ◌&&◌, List, [], ◌∷◌, ◌++◌, refl, sym, ap, ap₂, subst, ◌∙◌, inl, inr}
use Rattle.mdb_base.specs.declared.names.Tid.{Tid}
use Rattle.mdb_base.specs.Names.{same_tid, tid_before}
use Rattle.mdb_base.specs.Words.{Among, Each, inserted, some_of, those}
use Rattle.mdb_base.proofs.ForCallers.{each_filtered, each_inserted, each_map, same_tid-equal, same_tid-refl}
use Rattle.order_laws.proofs.ForCallers.{among_weaker, bool_is}
use Rattle.presumptions.specs.declared.Participant.{Participant}
use Rattle.fed_rules.specs.declared.commands.Command.{Command}
use Rattle.fed_rules.specs.declared.records.CoordRecord.{CoordRecord}
use Rattle.fed_rules.specs.declared.records.CoordRecord.TheVariants.{Initiation, Commit, Abort, End, Checkpoint}
use Rattle.fed_rules.specs.declared.scenario.Scenario.{Scenario}
use Rattle.fed_rules.specs.declared.sums.CommittedAttempt.{CommittedAttempt}
use Rattle.fed_rules.specs.declared.sums.CoordSum.{CoordSum}
use Rattle.fed_rules.specs.declared.sums.OpenAttempt.{OpenAttempt}
use Rattle.fed_rules.specs.CoordPast.{journal, records}
use Rattle.fed_rules.specs.CoordRecords.{class_of, ends_at_once, has_commit, ticketed}
use Rattle.fed_rules.specs.CoordSums.{also_open, committed_with, coord_sum, open_with}
use Rattle.fed_rules.specs.Reopened.{coord_sum_read}
use Rattle.fed_rules.specs.Scenarios.{policy, protocols}
use Rattle.fed_rules.specs.Story as Story
use Rattle.fed_rules.specs.Story.{story_of}
use Rattle.fed_rules.specs.Usable.{AreSumsOfOpen, CommitOnce, CoordSumsFit, IsCommitOf, IsDecidedOf, IsSumOfOpen, RiseBy, StandInOrder, coord_read}
use Rattle.commit_laws.proofs.ForCallers.{story_made}
use Rattle.coord_laws.specs.Sums.{AreCoordSums}
use Rattle.coord_laws.proofs.ForCallers.{committed_is, decided_any, none_commit, open_rise, order_behind, rises, sum_read}
use Rattle.disk_laws.specs.Left.{OfCoordinators, SumsAreOfOpen, CoordinatorsSumsFit}
use Rattle.disk_laws.proofs.CoordLeft.{From, All, Standing, commit_once, each_standing, stands, sums_hold}
use Rattle.disk_laws.proofs.CoordOrder.{past_settled}
use Rattle.disk_laws.proofs.ReadRecords.{Commits, committed_from, read_all, read_trimmed}
use Rattle.disk_laws.proofs.CoordRead.{commit_of, once_front, stand_all, sum_stands}
use Rattle.disk_laws.proofs.Rises.{rise_inserted}

-- ---- the committed ones rise

others : (t : Tid) (cs : List CommittedAttempt) → (Among (λ (d : CommittedAttempt). d.tid.tx ≡ t.tx) cs → ⊥) → Each (λ (c : CommittedAttempt). same_tid c.tid t ≡ false) cs
others t [] never = tt
others t (c ∷ cs) never = (
  elim (bool_is (same_tid c.tid t)) [ inl e ↦ absurd (never (inl (ap (λ (u : Tid). u.tx) (same_tid-equal c.tid t e)))) | inr e ↦ e ],
  others t cs (λ i. never (inr i)),
)

committed_rise : (rs : List CoordRecord) → CommitOnce rs → RiseBy (λ (attempt : CommittedAttempt). attempt.tid) (committed_with [] rs)
committed_rise [] once = tt
committed_rise (Commit t ks ∷ rs) once =
    rise_inserted (λ (attempt : CommittedAttempt). attempt.tid) (record { tid = t; tickets = ks }) (committed_with [] rs) (committed_rise rs once.1)
    (others t (committed_with [] rs)
    (λ m. once.0 (among_weaker (Commits (λ c. c.tid.tx ≡ t.tx)) (IsCommitOf t.tx) (commit_of t.tx) rs (committed_from (λ c. c.tid.tx ≡ t.tx) rs m))))
committed_rise (Initiation t ms ∷ rs) once = committed_rise rs once
committed_rise (Abort t ms ∷ rs) once = committed_rise rs once
committed_rise (End t ∷ rs) once = committed_rise rs once
committed_rise (Checkpoint sum ∷ rs) once = committed_rise rs once

-- ---- a committed one that is open is awaited

abbrev IsAwaited : List CoordRecord → OpenAttempt → Type 0
IsAwaited rs attempt = has_commit rs attempt.tid ≡ true → ends_at_once (class_of attempt.participants) ≡ false

each_opened : (P : OpenAttempt → Type 0) (t : Tid) (ms : List Participant) (xs : List OpenAttempt) → P (record { tid = t; participants = ms }) → Each P xs → Each P (also_open t ms xs)
each_opened P t ms xs p all = by_test (some_of (λ attempt. same_tid attempt.tid t) xs)
  where
    by_test : (b : Bool) → Each P (cond b xs (inserted rises (record { tid = t; participants = ms }) xs))
    by_test true = all
    by_test false = each_inserted P rises (record { tid = t; participants = ms }) xs p all

each_those : (P : OpenAttempt → Type 0) (test : OpenAttempt → Bool) (xs : List OpenAttempt) → Each (λ x. test x ≡ true → P x) xs → Each P (those test xs)
each_those P test [] all = tt
each_those P test (x ∷ xs) all = by_test (test x) refl (each_those P test xs all.1)
  where
    by_test : (b : Bool) → test x ≡ b → Each P (those test xs) → Each P (cond b (x ∷ those test xs) (those test xs))
    by_test true e rest = (all.0 e, rest)
    by_test false e rest = rest

fresh : (rs : List CoordRecord) (t : Tid) (ms : List Participant) → (Among (IsDecidedOf t) rs → ⊥) → IsAwaited rs (record { tid = t; participants = ms })
fresh rs t ms never e = let clash : true ≡ false = sym e ∙ none_commit t rs never in cc

-- an attempt that a commit leaves open
left_awaited : (t : Tid) (rs : List CoordRecord) (attempt : OpenAttempt) → IsAwaited rs attempt
    → not (same_tid attempt.tid t && ends_at_once (class_of attempt.participants)) ≡ true
    → cond (same_tid t attempt.tid) true (has_commit rs attempt.tid) ≡ true → ends_at_once (class_of attempt.participants) ≡ false
left_awaited t rs attempt old kept = by_own (same_tid t attempt.tid) refl
  where
    by_class : (b : Bool) → ends_at_once (class_of attempt.participants) ≡ b → not b ≡ true → ends_at_once (class_of attempt.participants) ≡ false
    by_class true e k = cc
    by_class false e k = e

    by_own : (b : Bool) → same_tid t attempt.tid ≡ b → cond b true (has_commit rs attempt.tid) ≡ true → ends_at_once (class_of attempt.participants) ≡ false
    by_own false e = old
    by_own true e = λ c.
        let own : same_tid attempt.tid t ≡ true = subst (λ u. same_tid u t ≡ true) (same_tid-equal t attempt.tid e) (same_tid-refl t) in
        by_class (ends_at_once (class_of attempt.participants)) refl (sym (ap (λ b. not (b && ends_at_once (class_of attempt.participants))) own) ∙ kept)

all_awaited : (protocols : List Participant) (rs : List CoordRecord) → StandInOrder rs → Each (IsAwaited rs) (open_with protocols [] rs)
all_awaited protocols [] s = tt
all_awaited protocols (Initiation t ms ∷ rs) s =
    each_opened (IsAwaited rs) t ms (open_with protocols [] rs) (fresh rs t ms (λ m. s.0 (decided_any t rs m))) (all_awaited protocols rs s.1)
all_awaited protocols (Commit t ks ∷ rs) s =
    each_those (IsAwaited (Commit t ks ∷ rs)) (λ attempt. not (same_tid attempt.tid t && ends_at_once (class_of attempt.participants))) (also_open t (ticketed protocols ks) (open_with protocols [] rs))
    (each_map (IsAwaited rs) (λ attempt. not (same_tid attempt.tid t && ends_at_once (class_of attempt.participants)) ≡ true → IsAwaited (Commit t ks ∷ rs) attempt)
    (left_awaited t rs) (also_open t (ticketed protocols ks) (open_with protocols [] rs))
    (each_opened (IsAwaited rs) t (ticketed protocols ks) (open_with protocols [] rs) (fresh rs t (ticketed protocols ks) s.0) (all_awaited protocols rs s.1)))
all_awaited protocols (Abort t ms ∷ rs) s = each_opened (IsAwaited rs) t ms (open_with protocols [] rs) (fresh rs t ms s.0) (all_awaited protocols rs s.1)
all_awaited protocols (End t ∷ rs) s = each_filtered (IsAwaited rs) (λ attempt. not (same_tid attempt.tid t)) (open_with protocols [] rs) (all_awaited protocols rs s.1)
all_awaited protocols (Checkpoint sum ∷ rs) s = all_awaited protocols rs s

pub is_of_open : (protocols : List Participant) (rs : List CoordRecord) → CommitOnce rs → StandInOrder rs → IsSumOfOpen (coord_sum protocols rs)
is_of_open protocols rs once s = record {
  open_rise = open_rise protocols rs;
  committed_rise = committed_rise rs once;
  awaited = each_map (IsAwaited rs) (λ attempt. some_of (λ (done : CommittedAttempt). same_tid done.tid attempt.tid) (committed_with [] rs) ≡ true → ends_at_once (class_of attempt.participants) ≡ false)
      (λ attempt old e. old (sym (committed_is rs attempt.tid) ∙ e)) (open_with protocols [] rs) (all_awaited protocols rs s);
}

all_of_open : (protocols : List Participant) (rs : List CoordRecord) → AreCoordSums protocols rs → CommitOnce rs → StandInOrder rs → Each AreSumsOfOpen rs
all_of_open protocols [] sums once s = tt
all_of_open protocols (Checkpoint sum ∷ rs) sums once s = (subst IsSumOfOpen (sym sums.0) (is_of_open protocols rs once s), all_of_open protocols rs sums.1 once s)
all_of_open protocols (Initiation t ms ∷ rs) sums once s = (tt, all_of_open protocols rs sums once s.1)
all_of_open protocols (Commit t ks ∷ rs) sums once s = (tt, all_of_open protocols rs sums once.1 s.1)
all_of_open protocols (Abort t ms ∷ rs) sums once s = (tt, all_of_open protocols rs sums once s.1)
all_of_open protocols (End t ∷ rs) sums once s = (tt, all_of_open protocols rs sums once s.1)

in_order : (scenario : Scenario) (commands : List Command) → StandInOrder (records (Story.coord_past (story_of scenario commands)))
in_order scenario commands =
    let past = Story.coord_past (story_of scenario commands) in
    stand_all (protocols scenario) (records past) (λ g. (past_settled (protocols scenario) (policy scenario) g past (story_made scenario commands)).order)

pub leave_open : OfCoordinators SumsAreOfOpen
leave_open scenario commands =
    let past = Story.coord_past (story_of scenario commands) in
    let made = story_made scenario commands in
    each_standing (protocols scenario) AreSumsOfOpen (records past) (journal past) (stands (protocols scenario) (policy scenario) past made)
    (all_of_open (protocols scenario) (records past) (sums_hold (protocols scenario) (policy scenario) past made) (commit_once scenario commands) (in_order scenario commands))

-- ---- a Checkpoint behind other records

module _ (protocols : List Participant) where
  same_open : (xs a b : List CoordRecord) → open_with protocols [] a ≡ open_with protocols [] b → open_with protocols [] (xs ++ a) ≡ open_with protocols [] (xs ++ b)
  same_open [] a b e = e
  same_open (Initiation t ms ∷ xs) a b e = ap (also_open t ms) (same_open xs a b e)
  same_open (Commit t ks ∷ xs) a b e =
      ap (λ os. those (λ attempt. not (same_tid attempt.tid t && ends_at_once (class_of attempt.participants))) (also_open t (ticketed protocols ks) os)) (same_open xs a b e)
  same_open (Abort t ms ∷ xs) a b e = ap (also_open t ms) (same_open xs a b e)
  same_open (End t ∷ xs) a b e = ap (those (λ attempt. not (same_tid attempt.tid t))) (same_open xs a b e)
  same_open (Checkpoint sum ∷ xs) a b e = same_open xs a b e

  same_committed : (xs a b : List CoordRecord) → committed_with [] a ≡ committed_with [] b → committed_with [] (xs ++ a) ≡ committed_with [] (xs ++ b)
  same_committed [] a b e = e
  same_committed (Initiation t ms ∷ xs) a b e = same_committed xs a b e
  same_committed (Commit t ks ∷ xs) a b e =
      ap (inserted (λ (c d : CommittedAttempt). tid_before c.tid d.tid) (record { tid = t; tickets = ks })) (same_committed xs a b e)
  same_committed (Abort t ms ∷ xs) a b e = same_committed xs a b e
  same_committed (End t ∷ xs) a b e = same_committed xs a b e
  same_committed (Checkpoint sum ∷ xs) a b e = same_committed xs a b e

  sum_is : (os ps : List OpenAttempt) (cs ds : List CommittedAttempt) → os ≡ ps → cs ≡ ds
      → record { open_attempts = os; committed = cs } ≡ (let s : CoordSum = record { open_attempts = ps; committed = ds } in s)
  sum_is os ps cs ds e f = ap₂ (λ (o : List OpenAttempt) (c : List CommittedAttempt). let s : CoordSum = record { open_attempts = o; committed = c } in s) e f

  same_sum : (xs a b : List CoordRecord) → coord_sum protocols a ≡ coord_sum protocols b → coord_sum protocols (xs ++ a) ≡ coord_sum protocols (xs ++ b)
  same_sum xs a b e =
      sum_is (open_with protocols [] (xs ++ a)) (open_with protocols [] (xs ++ b)) (committed_with [] (xs ++ a)) (committed_with [] (xs ++ b))
      (same_open xs a b (ap (λ (s : CoordSum). s.open_attempts) e)) (same_committed xs a b (ap (λ (s : CoordSum). s.committed) e))

  fit_more : (x : CoordRecord) (rest : List CoordRecord) → ((sum : CoordSum) → x ≡ Checkpoint sum → sum ≡ coord_sum protocols (coord_read rest)) → CoordSumsFit protocols rest
      → CoordSumsFit protocols (x ∷ rest)
  fit_more x [] is fit = tt
  fit_more (Checkpoint sum) (y ∷ ys) is fit = (is sum refl, fit)
  fit_more (Initiation t ms) (y ∷ ys) is fit = fit
  fit_more (Commit t ks) (y ∷ ys) is fit = fit
  fit_more (Abort t ms) (y ∷ ys) is fit = fit
  fit_more (End t) (y ∷ ys) is fit = fit

  checkpoint_is : (r : CoordRecord) (rs : List CoordRecord) → AreCoordSums protocols (r ∷ rs) → (sum : CoordSum) → r ≡ Checkpoint sum → sum ≡ coord_sum protocols rs
  checkpoint_is (Checkpoint found) rs s sum e = let same : found ≡ sum = cc in sym same ∙ s.0
  checkpoint_is (Initiation t ms) rs s sum e = cc
  checkpoint_is (Commit t ks) rs s sum e = cc
  checkpoint_is (Abort t ms) rs s sum e = cc
  checkpoint_is (End t) rs s sum e = cc

  sums_behind : (r : CoordRecord) (rs : List CoordRecord) → AreCoordSums protocols (r ∷ rs) → AreCoordSums protocols rs
  sums_behind (Checkpoint sum) rs s = s.1
  sums_behind (Initiation t ms) rs s = s
  sums_behind (Commit t ks) rs s = s
  sums_behind (Abort t ms) rs s = s
  sums_behind (End t) rs s = s

  fit_all : (rs : List CoordRecord) → AreCoordSums protocols rs → CoordSumsFit protocols rs
  fit_all [] s = tt
  fit_all (r ∷ rs) s =
      let behind = sums_behind r rs s in
      fit_more r rs (λ sum e. checkpoint_is r rs s sum e ∙ ap (coord_sum protocols) (sym (read_all protocols rs behind))) (fit_all rs behind)

  fit_behind : (newer before : List CoordRecord) → coord_sum protocols (coord_sum_read (coord_sum protocols before)) ≡ coord_sum protocols before
      → AreCoordSums protocols (newer ++ Checkpoint (coord_sum protocols before) ∷ before) → CoordSumsFit protocols (newer ++ Checkpoint (coord_sum protocols before) ∷ [])
  fit_behind [] before again s = tt
  fit_behind (r ∷ newer) before again s =
      let sum = coord_sum protocols before in
      let behind = sums_behind r (newer ++ Checkpoint sum ∷ before) s in
      fit_more r (newer ++ Checkpoint sum ∷ [])
      (λ found e. checkpoint_is r (newer ++ Checkpoint sum ∷ before) s found e
      ∙ same_sum newer (Checkpoint sum ∷ before) (Checkpoint sum ∷ coord_sum_read sum) (sym again)
      ∙ ap (coord_sum protocols) (sym (read_trimmed newer sum)))
      (fit_behind newer before again behind)

  order_front : (newer rs : List CoordRecord) → StandInOrder (newer ++ rs) → StandInOrder rs
  order_front [] rs s = s
  order_front (r ∷ newer) rs s = order_front newer rs (order_behind r (newer ++ rs) s)

  fit : (rs js : List CoordRecord) → Standing protocols rs js → AreCoordSums protocols rs → CommitOnce rs → StandInOrder rs → CoordSumsFit protocols js
  fit rs js (All e) s once o = subst (CoordSumsFit protocols) (sym e) (fit_all rs s)
  fit rs js (From newer before e f) s once o =
      let sum = coord_sum protocols before in
      let mine = once_front newer (Checkpoint sum ∷ before) (subst CommitOnce e once) in
      let stand : StandInOrder before = order_front newer (Checkpoint sum ∷ before) (subst StandInOrder e o) in
      subst (CoordSumsFit protocols) (sym f)
      (fit_behind newer before (sum_read protocols sum (is_of_open protocols before mine stand) (sum_stands protocols before mine)) (subst (AreCoordSums protocols) e s))

pub leave_coord_sums : OfCoordinators CoordinatorsSumsFit
leave_coord_sums scenario commands =
    let past = Story.coord_past (story_of scenario commands) in
    let made = story_made scenario commands in
    fit (protocols scenario) (records past) (journal past) (stands (protocols scenario) (policy scenario) past made)
    (sums_hold (protocols scenario) (policy scenario) past made) (commit_once scenario commands) (in_order scenario commands)
