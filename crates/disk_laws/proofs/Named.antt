-- What a coordinator's journal is read as names the transactions that its records name.
use Rattle.std.proofs.Common.{◌≡◌, List, [], ◌∷◌, ◌++◌, not, map, subst, inl, inr}
use Rattle.mdb_base.specs.declared.names.Tx.{Tx}
use Rattle.mdb_base.specs.Words.{Among, those}
use Rattle.mdb_base.proofs.ForCallers.{among_append, among_behind}
use Rattle.order_laws.proofs.ForCallers.{among_weaker, map_among}
use Rattle.presumptions.specs.declared.Participant.{Participant}
use Rattle.fed_rules.specs.declared.records.CoordRecord.{CoordRecord}
use Rattle.fed_rules.specs.declared.records.CoordRecord.TheVariants.{Initiation, Commit, Abort, End, Checkpoint}
use Rattle.fed_rules.specs.declared.sums.CommittedAttempt.{CommittedAttempt}
use Rattle.fed_rules.specs.declared.sums.CoordSum.{CoordSum}
use Rattle.fed_rules.specs.declared.sums.OpenAttempt.{OpenAttempt}
use Rattle.fed_rules.specs.CoordSums.{coord_sum}
use Rattle.fed_rules.specs.Reopened.{commit_read, coord_sum_read, end_read, initiation_read, is_open_in}
use Rattle.fed_rules.specs.Usable.{CoordSumsFit, IsAttemptOf, coord_read}
use Rattle.disk_laws.specs.Named.{NamesAreRead, NamesOne}
use Rattle.disk_laws.proofs.ReadRecords.{Commits, Opens, among_read, among_those, committed_from, open_from}

abbrev OpenOf : Tx → OpenAttempt → Type 0
OpenOf tx attempt = attempt.tid.tx ≡ tx

abbrev CommittedOf : Tx → CommittedAttempt → Type 0
CommittedOf tx attempt = attempt.tid.tx ≡ tx

-- a first Checkpoint is read as its attempts
first_read : (tx : Tx) (sum : CoordSum) → NamesOne tx (Checkpoint sum) → Among (IsAttemptOf tx) (coord_sum_read sum)
first_read tx sum (inl opened) =
    among_behind (IsAttemptOf tx) (map end_read (those (λ attempt. not (is_open_in sum attempt.tid)) sum.committed) ++ map commit_read sum.committed) (map initiation_read sum.open_attempts)
    (map_among (IsAttemptOf tx) initiation_read sum.open_attempts opened)
first_read tx sum (inr committed) =
    let ends = map end_read (those (λ attempt. not (is_open_in sum attempt.tid)) sum.committed) in
    among_append (IsAttemptOf tx) (ends ++ map commit_read sum.committed) (map initiation_read sum.open_attempts)
    (among_behind (IsAttemptOf tx) ends (map commit_read sum.committed) (map_among (IsAttemptOf tx) commit_read sum.committed committed))

pub read_first : (tx : Tx) (sum : CoordSum) → Among (IsAttemptOf tx) (coord_sum_read sum) → NamesOne tx (Checkpoint sum)
read_first tx sum m = elim (among_read (IsAttemptOf tx) sum m) [
  | inl ends ↦ inr (among_those (CommittedOf tx) (λ attempt. not (is_open_in sum attempt.tid)) sum.committed ends)
  | inr others ↦ elim others [ inl committed ↦ inr committed | inr opened ↦ inl opened ]
]

-- a Sum names those that the records name
opens_of : (protocols : List Participant) (tx : Tx) (r : CoordRecord) → Opens protocols (OpenOf tx) r → IsAttemptOf tx r
opens_of protocols tx (Initiation t ms) o = o
opens_of protocols tx (Commit t ks) o = o
opens_of protocols tx (Abort t ms) o = o
opens_of protocols tx (End t) o = absurd o
opens_of protocols tx (Checkpoint sum) o = absurd o

commits_of : (tx : Tx) (r : CoordRecord) → Commits (CommittedOf tx) r → IsAttemptOf tx r
commits_of tx (Initiation t ms) c = absurd c
commits_of tx (Commit t ks) c = c
commits_of tx (Abort t ms) c = absurd c
commits_of tx (End t) c = absurd c
commits_of tx (Checkpoint sum) c = absurd c

pub sum_names : (protocols : List Participant) (tx : Tx) (rs : List CoordRecord) → NamesOne tx (Checkpoint (coord_sum protocols rs)) → Among (IsAttemptOf tx) rs
sum_names protocols tx rs (inl opened) =
    among_weaker (Opens protocols (OpenOf tx)) (IsAttemptOf tx) (opens_of protocols tx) rs (open_from protocols (OpenOf tx) rs opened)
sum_names protocols tx rs (inr committed) = among_weaker (Commits (CommittedOf tx)) (IsAttemptOf tx) (commits_of tx) rs (committed_from (CommittedOf tx) rs committed)

pub older_fit : (protocols : List Participant) (r : CoordRecord) (rs : List CoordRecord) → CoordSumsFit protocols (r ∷ rs) → CoordSumsFit protocols rs
older_fit protocols r [] f = tt
older_fit protocols (Initiation t ms) (s ∷ rs) f = f
older_fit protocols (Commit t ks) (s ∷ rs) f = f
older_fit protocols (Abort t ms) (s ∷ rs) f = f
older_fit protocols (End t) (s ∷ rs) f = f
older_fit protocols (Checkpoint sum) (s ∷ rs) f = f.1

there : (protocols : List Participant) (rs : List CoordRecord) → CoordSumsFit protocols rs → (tx : Tx) → Among (NamesOne tx) rs → Among (IsAttemptOf tx) (coord_read rs)
there protocols [] f tx m = absurd m
there protocols (Checkpoint sum ∷ []) f tx (inl m) = inr (first_read tx sum m)
there protocols (Checkpoint sum ∷ []) f tx (inr m) = absurd m
there protocols (Checkpoint sum ∷ r ∷ rs) f tx (inl m) =
    inr (sum_names protocols tx (coord_read (r ∷ rs)) (subst (λ (s : CoordSum). NamesOne tx (Checkpoint s)) f.0 m))
there protocols (Checkpoint sum ∷ r ∷ rs) f tx (inr m) = inr (there protocols (r ∷ rs) f.1 tx m)
there protocols (Initiation t ms ∷ rs) f tx (inl e) = inl e
there protocols (Initiation t ms ∷ rs) f tx (inr m) = inr (there protocols rs (older_fit protocols (Initiation t ms) rs f) tx m)
there protocols (Commit t ks ∷ rs) f tx (inl e) = inl e
there protocols (Commit t ks ∷ rs) f tx (inr m) = inr (there protocols rs (older_fit protocols (Commit t ks) rs f) tx m)
there protocols (Abort t ms ∷ rs) f tx (inl e) = inl e
there protocols (Abort t ms ∷ rs) f tx (inr m) = inr (there protocols rs (older_fit protocols (Abort t ms) rs f) tx m)
there protocols (End t ∷ rs) f tx (inl e) = inl e
there protocols (End t ∷ rs) f tx (inr m) = inr (there protocols rs (older_fit protocols (End t) rs f) tx m)

back : (rs : List CoordRecord) (tx : Tx) → Among (IsAttemptOf tx) (coord_read rs) → Among (NamesOne tx) rs
back [] tx m = absurd m
back (Checkpoint sum ∷ []) tx (inl never) = absurd never
back (Checkpoint sum ∷ []) tx (inr m) = inl (read_first tx sum m)
back (Checkpoint sum ∷ r ∷ rs) tx (inl never) = absurd never
back (Checkpoint sum ∷ r ∷ rs) tx (inr m) = inr (back (r ∷ rs) tx m)
back (Initiation t ms ∷ rs) tx (inl e) = inl e
back (Initiation t ms ∷ rs) tx (inr m) = inr (back rs tx m)
back (Commit t ks ∷ rs) tx (inl e) = inl e
back (Commit t ks ∷ rs) tx (inr m) = inr (back rs tx m)
back (Abort t ms ∷ rs) tx (inl e) = inl e
back (Abort t ms ∷ rs) tx (inr m) = inr (back rs tx m)
back (End t ∷ rs) tx (inl e) = inl e
back (End t ∷ rs) tx (inr m) = inr (back rs tx m)

pub names_read : NamesAreRead
names_read protocols journal fit tx = (there protocols journal fit tx, back journal tx)
