-- What a journal of the coordinator is read as, and that the records had what a Sum of them has.
use Rattle.std.proofs.Common.{◌≡◌, ◌⊎◌, Bool, true, false, cond, not, ◌&&◌, List, [], ◌∷◌, ◌++◌, map, refl, ap, inl, inr}
use Rattle.mdb_base.specs.declared.names.Tid.{Tid}
use Rattle.mdb_base.specs.Names.{same_tid}
use Rattle.mdb_base.specs.Words.{Among, inserted, some_of, those}
use Rattle.order_laws.proofs.ForCallers.{among_map}
use Rattle.mdb_base.proofs.ForCallers.{among_split}
use Rattle.presumptions.specs.declared.Participant.{Participant}
use Rattle.fed_rules.specs.declared.records.CoordRecord.{CoordRecord}
use Rattle.fed_rules.specs.declared.records.CoordRecord.TheVariants.{Initiation, Commit, Abort, End, Checkpoint}
use Rattle.fed_rules.specs.declared.sums.CommittedAttempt.{CommittedAttempt}
use Rattle.fed_rules.specs.declared.sums.CoordSum.{CoordSum}
use Rattle.fed_rules.specs.declared.sums.OpenAttempt.{OpenAttempt}
use Rattle.fed_rules.specs.CoordRecords.{class_of, ends_at_once, ticketed}
use Rattle.fed_rules.specs.CoordSums.{also_open, committed_with, coord_sum, open_with}
use Rattle.fed_rules.specs.Reopened.{commit_read, coord_sum_read, end_read, initiation_read, is_open_in}
use Rattle.fed_rules.specs.Usable.{coord_read}
use Rattle.coord_laws.specs.Sums.{AreCoordSums}
use Rattle.coord_laws.proofs.ForCallers.{among_inserted, rises}

pub read_all : (protocols : List Participant) (rs : List CoordRecord) → AreCoordSums protocols rs → coord_read rs ≡ rs
read_all protocols [] s = refl
read_all protocols (Checkpoint sum ∷ []) s = ap (λ z. Checkpoint sum ∷ coord_sum_read z) s.0
read_all protocols (Checkpoint sum ∷ r ∷ rs) s = ap (λ xs. Checkpoint sum ∷ xs) (read_all protocols (r ∷ rs) s.1)
read_all protocols (Initiation t ms ∷ rs) s = ap (λ xs. Initiation t ms ∷ xs) (read_all protocols rs s)
read_all protocols (Commit t ks ∷ rs) s = ap (λ xs. Commit t ks ∷ xs) (read_all protocols rs s)
read_all protocols (Abort t ms ∷ rs) s = ap (λ xs. Abort t ms ∷ xs) (read_all protocols rs s)
read_all protocols (End t ∷ rs) s = ap (λ xs. End t ∷ xs) (read_all protocols rs s)

pub read_trimmed : (newer : List CoordRecord) (sum : CoordSum) → coord_read (newer ++ Checkpoint sum ∷ []) ≡ newer ++ Checkpoint sum ∷ coord_sum_read sum
read_trimmed [] sum = refl
read_trimmed (Checkpoint s ∷ []) sum = refl
read_trimmed (Checkpoint s ∷ r ∷ newer) sum = ap (λ xs. Checkpoint s ∷ xs) (read_trimmed (r ∷ newer) sum)
read_trimmed (Initiation t ms ∷ newer) sum = ap (λ xs. Initiation t ms ∷ xs) (read_trimmed newer sum)
read_trimmed (Commit t ks ∷ newer) sum = ap (λ xs. Commit t ks ∷ xs) (read_trimmed newer sum)
read_trimmed (Abort t ms ∷ newer) sum = ap (λ xs. Abort t ms ∷ xs) (read_trimmed newer sum)
read_trimmed (End t ∷ newer) sum = ap (λ xs. End t ∷ xs) (read_trimmed newer sum)

-- these are the records, or those behind a Checkpoint with what it is read as
pub data IsRead (protocols : List Participant) (rs ks : List CoordRecord) : Type 0 where
  Whole : ks ≡ rs → IsRead protocols rs ks
  BehindSum : (newer before : List CoordRecord) → rs ≡ newer ++ Checkpoint (coord_sum protocols before) ∷ before
      → ks ≡ newer ++ Checkpoint (coord_sum protocols before) ∷ coord_sum_read (coord_sum protocols before) → IsRead protocols rs ks

-- ---- lists

pub among_those : {A : Type 0} (P : A → Type 0) (test : A → Bool) (xs : List A) → Among P (those test xs) → Among P xs
among_those P test [] m = m
among_those P test (x ∷ xs) m = by_test (test x) m (among_those P test xs)
  where
    by_test : (b : Bool) → Among P (cond b (x ∷ those test xs) (those test xs)) → (Among P (those test xs) → Among P xs) → Among P (x ∷ xs)
    by_test true (inl p) k = inl p
    by_test true (inr i) k = inr (k i)
    by_test false i k = inr (k i)

-- a member that passes the test, in that list
pub tested : {A : Type 0} (P : A → Type 0) (test : A → Bool) (xs : List A) → Among P (those test xs) → Among (λ x. P x × (test x ≡ true)) xs
tested P test [] m = absurd m
tested P test (x ∷ xs) m = by_test (test x) refl m (tested P test xs)
  where
    by_test : (b : Bool) → test x ≡ b → Among P (cond b (x ∷ those test xs) (those test xs)) → (Among P (those test xs) → Among (λ y. P y × (test y ≡ true)) xs)
        → Among (λ y. P y × (test y ≡ true)) (x ∷ xs)
    by_test true e (inl p) k = inl (p, e)
    by_test true e (inr i) k = inr (k i)
    by_test false e i k = inr (k i)

-- the parts of what a Sum is read as
pub among_read : (P : CoordRecord → Type 0) (sum : CoordSum) → Among P (coord_sum_read sum)
    → Among (λ c. P (end_read c)) (those (λ attempt. not (is_open_in sum attempt.tid)) sum.committed) ⊎ (Among (λ c. P (commit_read c)) sum.committed ⊎ Among (λ o. P (initiation_read o)) sum.open_attempts)
among_read P sum m =
    elim (among_split P (map end_read (those (λ attempt. not (is_open_in sum attempt.tid)) sum.committed) ++ map commit_read sum.committed) (map initiation_read sum.open_attempts) m) [
      | inl front ↦ elim (among_split P (map end_read (those (λ attempt. not (is_open_in sum attempt.tid)) sum.committed)) (map commit_read sum.committed) front) [
        | inl ends ↦ inl (among_map P end_read (those (λ attempt. not (is_open_in sum attempt.tid)) sum.committed) ends)
        | inr committed ↦ inr (inl (among_map P commit_read sum.committed committed))
      ]
      | inr opened ↦ inr (inr (among_map P initiation_read sum.open_attempts opened))
    ]

-- ---- what a Sum has, the records had

-- who is open comes from such a record
abbrev pub Opens : List Participant → (OpenAttempt → Type 0) → CoordRecord → Type 0
Opens protocols P (Initiation t ms) = P (record { tid = t; participants = ms })
Opens protocols P (Commit t ks) = P (record { tid = t; participants = ticketed protocols ks })
Opens protocols P (Abort t ms) = P (record { tid = t; participants = ms })
Opens protocols P (End t) = ⊥
Opens protocols P (Checkpoint sum) = ⊥

pub among_insert : {A : Type 0} (before : A → A → Bool) (P : A → Type 0) (x : A) (ys : List A) → Among P (inserted before x ys) → P x ⊎ Among P ys
among_insert before P x [] m = m
among_insert before P x (y ∷ ys) m = by_test (before y x) m (among_insert before P x ys)
  where
    by_test : (b : Bool) → Among P (cond b (y ∷ inserted before x ys) (x ∷ y ∷ ys)) → (Among P (inserted before x ys) → P x ⊎ Among P ys) → P x ⊎ Among P (y ∷ ys)
    by_test false m k = m
    by_test true (inl p) k = inr (inl p)
    by_test true (inr i) k = elim (k i) [ inl p ↦ inl p | inr j ↦ inr (inr j) ]

also_from : (P : OpenAttempt → Type 0) (t : Tid) (ms : List Participant) (xs : List OpenAttempt) → Among P (also_open t ms xs)
    → P (record { tid = t; participants = ms }) ⊎ Among P xs
also_from P t ms xs m = by_test (some_of (λ attempt. same_tid attempt.tid t) xs) m
  where
    by_test : (b : Bool) → Among P (cond b xs (inserted rises (record { tid = t; participants = ms }) xs)) → P (record { tid = t; participants = ms }) ⊎ Among P xs
    by_test true i = inr i
    by_test false i = among_insert rises P (record { tid = t; participants = ms }) xs i

pub open_from : (protocols : List Participant) (P : OpenAttempt → Type 0) (rs : List CoordRecord) → Among P (open_with protocols [] rs) → Among (Opens protocols P) rs
open_from protocols P [] m = absurd m
open_from protocols P (Initiation t ms ∷ rs) m = elim (also_from P t ms (open_with protocols [] rs) m) [ inl p ↦ inl p | inr i ↦ inr (open_from protocols P rs i) ]
open_from protocols P (Commit t ks ∷ rs) m =
    elim (also_from P t (ticketed protocols ks) (open_with protocols [] rs)
    (among_those P (λ attempt. not (same_tid attempt.tid t && ends_at_once (class_of attempt.participants))) (also_open t (ticketed protocols ks) (open_with protocols [] rs)) m))
    [ inl p ↦ inl p | inr i ↦ inr (open_from protocols P rs i) ]
open_from protocols P (Abort t ms ∷ rs) m = elim (also_from P t ms (open_with protocols [] rs) m) [ inl p ↦ inl p | inr i ↦ inr (open_from protocols P rs i) ]
open_from protocols P (End t ∷ rs) m = inr (open_from protocols P rs (among_those P (λ attempt. not (same_tid attempt.tid t)) (open_with protocols [] rs) m))
open_from protocols P (Checkpoint sum ∷ rs) m = inr (open_from protocols P rs m)

-- who is committed comes from such a record
abbrev pub Commits : (CommittedAttempt → Type 0) → CoordRecord → Type 0
Commits P (Commit t ks) = P (record { tid = t; tickets = ks })
Commits P (Initiation t ms) = ⊥
Commits P (Abort t ms) = ⊥
Commits P (End t) = ⊥
Commits P (Checkpoint sum) = ⊥

pub committed_from : (P : CommittedAttempt → Type 0) (rs : List CoordRecord) → Among P (committed_with [] rs) → Among (Commits P) rs
committed_from P [] m = absurd m
committed_from P (Commit t ks ∷ rs) m = elim ((among_inserted P (record { tid = t; tickets = ks }) (committed_with [] rs)).0 m) [
  | inl p ↦ inl p
  | inr i ↦ inr (committed_from P rs i)
]
committed_from P (Initiation t ms ∷ rs) m = inr (committed_from P rs m)
committed_from P (Abort t ms ∷ rs) m = inr (committed_from P rs m)
committed_from P (End t ∷ rs) m = inr (committed_from P rs m)
committed_from P (Checkpoint sum ∷ rs) m = inr (committed_from P rs m)
