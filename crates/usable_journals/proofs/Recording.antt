-- The sets of recorded attempts with more records.
use Rattle.std.proofs.Common.{ℕ, suc, ◌+◌, ◌-◌, ◌<◌, ◌≤◌, ◌≡◌, Bool, true, false, not, cond, ◌&&◌, List, [], ◌∷◌, ◌++◌, length, take, drop, map, reverse, get_or, refl, sym, ap, ap₂, subst, ◌∙◌, arith}
use Rattle.std.proofs.lemmas.List.{append_assoc, append-nil, map-append, reverse-append, take_more}
use Rattle.std.proofs.lemmas.List.{take-append-drop}
use Rattle.std.proofs.Math.Seq.{drop-cons}
use Rattle.std.specs.Ordering.{is_eq}
use Rattle.std.specs.BTreeSet.{BTreeSet, contains}
use Rattle.mdb_base.specs.declared.names.SiteTicket.{SiteTicket}
use Rattle.mdb_base.specs.declared.names.Tid.{Tid}
use Rattle.mdb_base.specs.declared.names.Tx.{Tx}
use Rattle.mdb_base.specs.Words.{some_of, those}
use Rattle.mdb_base.specs.Names.{same_tid, tid_cmp, tx_cmp}
use Rattle.order_laws.proofs.ForCallers.{those_same}
use Rattle.presumptions.specs.declared.Participant.{Participant}
use Rattle.fed_rules.specs.declared.records.CoordRecord.{CoordRecord}
use Rattle.fed_rules.specs.declared.records.CoordRecord.TheVariants.{Initiation, Commit, Abort, End, Checkpoint}
use Rattle.fed_rules.specs.declared.sums.CommittedAttempt.{CommittedAttempt}
use Rattle.fed_rules.specs.declared.sums.CoordSum.{CoordSum}
use Rattle.fed_rules.specs.declared.sums.OpenAttempt.{OpenAttempt}
use Rattle.fed_rules.specs.Reopened.{commit_read, coord_sum_read, end_read, initiation_read, is_open_in}
use Rattle.fed_rules.specs.Usable.{coord_read}
use Rattle.usable_journals.specs.declared.coord_order.Recorded.{Recorded}
use Rattle.usable_journals.specs.CoordTests.{in_order, may_stand}
use Rattle.usable_journals.specs.Recorded.{IsGood, Takes, TakesAll, Tells, end_unless, not_in}
use Rattle.usable_journals.proofs.Sets.{with_tid, with_tx}
use Rattle.mdb_base.proofs.ForCallers.{and_fails}

-- the set has the attempt, and else what it had
abbrev pub Gets : BTreeSet Tid → BTreeSet Tid → Tid → Type 0
Gets old new tid = (q : Tid) → contains tid_cmp new q ≡ cond (is_eq (tid_cmp tid q)) true (contains tid_cmp old q)

abbrev pub GetsTx : BTreeSet Tx → BTreeSet Tx → Tx → Type 0
GetsTx old new tx = (q : Tx) → contains tx_cmp new q ≡ cond (is_eq (tx_cmp tx q)) true (contains tx_cmp old q)

pub begun : (old : Recorded) (named : BTreeSet Tid) (tid : Tid) (participants : List Participant) (added : Bool) → added ≡ not (contains tid_cmp old.named tid) →
    Gets old.named named tid →
    Takes old (record { named = named; decided = old.decided; ended = old.ended; committed = old.committed }) (Initiation tid participants) added
begun old named tid participants added is n records t =
    (is ∙ ap not (t.named tid), record { named = λ q. with_tid tid q _ _ _ (n q) (t.named q); decided = t.decided; ended = t.ended; committed = t.committed })

pub aborted : (old : Recorded) (named decided : BTreeSet Tid) (tid : Tid) (participants : List Participant) (added : Bool) → added ≡ not (contains tid_cmp old.decided tid) →
    Gets old.named named tid → Gets old.decided decided tid →
    Takes old (record { named = named; decided = decided; ended = old.ended; committed = old.committed }) (Abort tid participants) added
aborted old named decided tid participants added is n d records t = (
  is ∙ ap not (t.decided tid),
  record {
    named = λ q. with_tid tid q _ _ _ (n q) (t.named q);
    decided = λ q. with_tid tid q _ _ _ (d q) (t.decided q);
    ended = t.ended;
    committed = t.committed;
  },
)

pub commits : (old : Recorded) (named decided : BTreeSet Tid) (committed : BTreeSet Tx) (tid : Tid) (tickets : List SiteTicket) (new first : Bool) →
    new ≡ not (contains tid_cmp old.decided tid) → first ≡ not (contains tx_cmp old.committed tid.tx) →
    Gets old.named named tid → Gets old.decided decided tid → GetsTx old.committed committed tid.tx →
    Takes old (record { named = named; decided = decided; ended = old.ended; committed = committed }) (Commit tid tickets) (new && first)
commits old named decided committed tid tickets new first is one n d c records t = (
  ap₂ (λ a b. a && b) (is ∙ ap not (t.decided tid)) (one ∙ ap not (t.committed tid.tx)),
  record {
    named = λ q. with_tid tid q _ _ _ (n q) (t.named q);
    decided = λ q. with_tid tid q _ _ _ (d q) (t.decided q);
    ended = t.ended;
    committed = λ q. with_tx tid.tx q _ _ _ (c q) (t.committed q);
  },
)

pub ends : (old : Recorded) (named decided ended : BTreeSet Tid) (tid : Tid) (added : Bool) → added ≡ not (contains tid_cmp old.ended tid) →
    Gets old.named named tid → Gets old.decided decided tid → Gets old.ended ended tid →
    Takes old (record { named = named; decided = decided; ended = ended; committed = old.committed }) (End tid) added
ends old named decided ended tid added is n d e records t = (
  is ∙ ap not (t.ended tid),
  record {
    named = λ q. with_tid tid q _ _ _ (n q) (t.named q);
    decided = λ q. with_tid tid q _ _ _ (d q) (t.decided q);
    ended = λ q. with_tid tid q _ _ _ (e q) (t.ended q);
    committed = t.committed;
  },
)

-- a Checkpoint names none
pub passes : (old : Recorded) (sum : CoordSum) → Takes old old (Checkpoint sum) true
passes old sum records t = (refl, record { named = t.named; decided = t.decided; ended = t.ended; committed = t.committed })

-- ---- several records

-- what stands behind others that don't stand in order doesn't either
pub stays_false : (newer older : List CoordRecord) → in_order older ≡ false → in_order (newer ++ older) ≡ false
stays_false [] older e = e
stays_false (newest ∷ newer) older e = and_fails (may_stand newest (newer ++ older)) (in_order (newer ++ older)) (stays_false newer older e)

pub takes_none : (r : Recorded) → TakesAll r r [] true
takes_none r records good = (sym good.stands, λ e. good.tells)

pub takes_one : (before after : Recorded) (entry : CoordRecord) (fits : Bool) → Takes before after entry fits → TakesAll before after (entry ∷ []) fits
takes_one before after entry fits takes records good =
    let one = takes records good.tells in
    (one.0 ∙ sym (and_true (may_stand entry records) (in_order records) good.stands), λ e. one.1)
  where
    and_true : (a b : Bool) → b ≡ true → (a && b) ≡ a
    and_true true b e = e
    and_true false b e = refl

pub takes_then : (a b c : Recorded) (xs ys : List CoordRecord) (fits : Bool) → TakesAll a b xs true → TakesAll b c ys fits → TakesAll a c (ys ++ xs) fits
takes_then a b c xs ys fits first second records good =
    let one = first records good in
    let two = second (xs ++ records) (record { tells = one.1 refl; stands = sym one.0 }) in
    subst (λ (rs : List CoordRecord). (fits ≡ in_order rs) × (fits ≡ true → Tells c rs)) (sym (append_assoc ys xs records)) two

pub takes_stop : (a b c : Recorded) (xs ys : List CoordRecord) → TakesAll a b xs false → TakesAll a c (ys ++ xs) false
takes_stop a b c xs ys first records good =
    let one = first records good in
    (sym (ap in_order (append_assoc ys xs records) ∙ stays_false ys (xs ++ records) (sym one.0)), λ e. absurd cc)

-- the items from a place on, with the one before it
pub drop_one : {A : Type 0} (xs : List A) (n : ℕ) (d : A) → 1 ≤ n → n ≤ length xs → drop (n - 1) xs ≡ get_or xs (n - 1) d ∷ drop n xs
drop_one xs n d some within =
    let back : suc (n - 1) ≡ n = omega arith in
    drop-cons xs (n - 1) d (omega arith) ∙ ap (λ m. get_or xs (n - 1) d ∷ drop m xs) back

-- one more record of a list, the last ones first
pub takes_next : {A : Type 0} (read : A → CoordRecord) (a b c : Recorded) (xs : List A) (n : ℕ) (d : A) → 1 ≤ n → n ≤ length xs →
    TakesAll a b (map read (drop n xs)) true → Takes b c (read (get_or xs (n - 1) d)) true → TakesAll a c (map read (drop (n - 1) xs)) true
takes_next read a b c xs n d some within first next =
    subst (λ ys. TakesAll a c (map read ys) true) (sym (drop_one xs n d some within))
    (takes_then a b c (map read (drop n xs)) (read (get_or xs (n - 1) d) ∷ []) true first (takes_one b c (read (get_or xs (n - 1) d)) true next))

pub fronts : {A : Type 0} (xs : List A) (n : ℕ) → xs ≡ take n xs ++ drop n xs
fronts xs n = sym (take-append-drop n xs)

-- a record that doesn't stand in order ends it
pub takes_last : {A : Type 0} (read : A → CoordRecord) (a b c e : Recorded) (xs : List A) (n : ℕ) (d : A) → 1 ≤ n → n ≤ length xs →
    TakesAll a b (map read (drop n xs)) true → Takes b c (read (get_or xs (n - 1) d)) false → TakesAll a e (map read xs) false
takes_last read a b c e xs n d some within first next =
    subst (λ ys. TakesAll a e (map read ys) false) (sym (fronts xs (n - 1)))
    (subst (λ ys. TakesAll a e ys false) (sym (map-append read (take (n - 1) xs) (drop (n - 1) xs)))
    (takes_stop a c e (map read (drop (n - 1) xs)) (map read (take (n - 1) xs))
    (subst (λ ys. TakesAll a c (map read ys) false) (sym (drop_one xs n d some within))
    (takes_then a b c (map read (drop n xs)) (read (get_or xs (n - 1) d) ∷ []) false first (takes_one b c (read (get_or xs (n - 1) d)) false next)))))

-- the whole list
pub takes_whole : {A : Type 0} (read : A → CoordRecord) (a b : Recorded) (xs : List A) (n : ℕ) → n ≤ 0 →
    TakesAll a b (map read (drop n xs)) true → TakesAll a b (map read xs) true
takes_whole read a b xs n none all = let zero_left : n ≡ 0 = omega arith in subst (λ m. TakesAll a b (map read (drop m xs)) true) zero_left all

-- ---- the Ends of those that aren't open

-- those of a list that aren't open, as Ends
abbrev pub ends_of : BTreeSet Tid → List CommittedAttempt → List CoordRecord
ends_of tids xs = map end_read (those (not_in tids) xs)

abbrev pub end_at : BTreeSet Tid → CommittedAttempt → List CoordRecord
end_at tids x = end_unless (contains tid_cmp tids x.tid) x.tid

pub ends_one : (tids : BTreeSet Tid) (x : CommittedAttempt) (xs : List CommittedAttempt) → ends_of tids (x ∷ xs) ≡ end_unless (contains tid_cmp tids x.tid) x.tid ++ ends_of tids xs
ends_one tids x xs = by_test (contains tid_cmp tids x.tid)
  where
    by_test : (b : Bool) → map end_read (cond (not b) (x ∷ those (not_in tids) xs) (those (not_in tids) xs)) ≡ end_unless b x.tid ++ ends_of tids xs
    by_test true = refl
    by_test false = refl

pub ends_append : (tids : BTreeSet Tid) (xs ys : List CommittedAttempt) → ends_of tids (xs ++ ys) ≡ ends_of tids xs ++ ends_of tids ys
ends_append tids [] ys = refl
ends_append tids (x ∷ xs) ys =
    ends_one tids x (xs ++ ys) ∙ ap (λ rs. end_unless (contains tid_cmp tids x.tid) x.tid ++ rs) (ends_append tids xs ys)
    ∙ sym (append_assoc (end_unless (contains tid_cmp tids x.tid) x.tid) (ends_of tids xs) (ends_of tids ys))
    ∙ ap (λ rs. rs ++ ends_of tids ys) (sym (ends_one tids x xs))

pub ends_next : (tids : BTreeSet Tid) (a b c : Recorded) (xs : List CommittedAttempt) (n : ℕ) (d : CommittedAttempt) → 1 ≤ n → n ≤ length xs →
    TakesAll a b (ends_of tids (drop n xs)) true → TakesAll b c (end_at tids (get_or xs (n - 1) d)) true → TakesAll a c (ends_of tids (drop (n - 1) xs)) true
ends_next tids a b c xs n d some within first next =
    subst (λ ys. TakesAll a c ys true) (sym (ap (ends_of tids) (drop_one xs n d some within) ∙ ends_one tids (get_or xs (n - 1) d) (drop n xs)))
    (takes_then a b c (ends_of tids (drop n xs)) (end_at tids (get_or xs (n - 1) d)) true first next)

pub ends_last : (tids : BTreeSet Tid) (a b c e : Recorded) (xs : List CommittedAttempt) (n : ℕ) (d : CommittedAttempt) → 1 ≤ n → n ≤ length xs →
    TakesAll a b (ends_of tids (drop n xs)) true → TakesAll b c (end_at tids (get_or xs (n - 1) d)) false → TakesAll a e (ends_of tids xs) false
ends_last tids a b c e xs n d some within first next =
    subst (λ ys. TakesAll a e (ends_of tids ys) false) (sym (fronts xs (n - 1)))
    (subst (λ ys. TakesAll a e ys false) (sym (ends_append tids (take (n - 1) xs) (drop (n - 1) xs)))
    (takes_stop a c e (ends_of tids (drop (n - 1) xs)) (ends_of tids (take (n - 1) xs))
    (subst (λ ys. TakesAll a c ys false) (sym (ap (ends_of tids) (drop_one xs n d some within) ∙ ends_one tids (get_or xs (n - 1) d) (drop n xs)))
    (takes_then a b c (ends_of tids (drop n xs)) (end_at tids (get_or xs (n - 1) d)) false first next))))

pub ends_whole : (tids : BTreeSet Tid) (a b : Recorded) (xs : List CommittedAttempt) (n : ℕ) → n ≤ 0 → TakesAll a b (ends_of tids (drop n xs)) true → TakesAll a b (ends_of tids xs) true
ends_whole tids a b xs n none all = let zero_left : n ≡ 0 = omega arith in subst (λ m. TakesAll a b (ends_of tids (drop m xs)) true) zero_left all

-- what a first Checkpoint is read as
pub sum_reads : (tids : BTreeSet Tid) (sum : CoordSum) → ((tid : Tid) → contains tid_cmp tids tid ≡ some_of (λ (attempt : OpenAttempt). same_tid attempt.tid tid) sum.open_attempts) →
    ends_of tids sum.committed ++ (map commit_read sum.committed ++ map initiation_read sum.open_attempts) ≡ coord_sum_read sum
sum_reads tids sum are =
    ap (λ (xs : List CommittedAttempt). map end_read xs ++ (map commit_read sum.committed ++ map initiation_read sum.open_attempts))
    (those_same (not_in tids) (λ (attempt : CommittedAttempt). not (is_open_in sum attempt.tid)) sum.committed (λ attempt i. ap not (are attempt.tid)))
    ∙ sym (append_assoc (map end_read (those (λ (attempt : CommittedAttempt). not (is_open_in sum attempt.tid)) sum.committed)) (map commit_read sum.committed) (map initiation_read sum.open_attempts))

pub stops_open : (a b e : Recorded) (sum : CoordSum) → TakesAll a b (map initiation_read sum.open_attempts) false → TakesAll a e (coord_sum_read sum) false
stops_open a b e sum first =
    takes_stop a b e (map initiation_read sum.open_attempts)
    (map end_read (those (λ (attempt : CommittedAttempt). not (is_open_in sum attempt.tid)) sum.committed) ++ map commit_read sum.committed) first

pub stops_committed : (a b c e : Recorded) (sum : CoordSum) → TakesAll a b (map initiation_read sum.open_attempts) true → TakesAll b c (map commit_read sum.committed) false →
    TakesAll a e (coord_sum_read sum) false
stops_committed a b c e sum first second =
    let ends_read = map end_read (those (λ (attempt : CommittedAttempt). not (is_open_in sum attempt.tid)) sum.committed) in
    subst (λ rs. TakesAll a e rs false) (sym (append_assoc ends_read (map commit_read sum.committed) (map initiation_read sum.open_attempts)))
    (takes_stop a c e (map commit_read sum.committed ++ map initiation_read sum.open_attempts) ends_read
    (takes_then a b c (map initiation_read sum.open_attempts) (map commit_read sum.committed) false first second))

pub takes_sum : (tids : BTreeSet Tid) (a b c e : Recorded) (sum : CoordSum) (fits : Bool)
    → ((tid : Tid) → contains tid_cmp tids tid ≡ some_of (λ (attempt : OpenAttempt). same_tid attempt.tid tid) sum.open_attempts)
    → TakesAll a b (map initiation_read sum.open_attempts) true → TakesAll b c (map commit_read sum.committed) true → TakesAll c e (ends_of tids sum.committed) fits
    → TakesAll a e (coord_sum_read sum) fits
takes_sum tids a b c e sum fits are first second third =
    subst (λ rs. TakesAll a e rs fits) (sum_reads tids sum are)
    (takes_then a c e (map commit_read sum.committed ++ map initiation_read sum.open_attempts) (ends_of tids sum.committed) fits
    (takes_then a b c (map initiation_read sum.open_attempts) (map commit_read sum.committed) true first second) third)

-- with the Checkpoint itself, which names none
pub takes_checkpoint : (a b : Recorded) (sum : CoordSum) (fits : Bool) → TakesAll a b (coord_sum_read sum) fits → TakesAll a b (Checkpoint sum ∷ coord_sum_read sum) fits
takes_checkpoint a b sum fits takes records good =
    let one = takes records good in
    (one.0, λ e. let t = one.1 e in record { named = t.named; decided = t.decided; ended = t.ended; committed = t.committed })

-- ---- a whole journal

-- the first record is read as what it sums, and the others as they are
pub read_behind : (newer : List CoordRecord) (first : CoordRecord) → coord_read (newer ++ first ∷ []) ≡ newer ++ coord_read (first ∷ [])
read_behind [] first = refl
read_behind (x ∷ []) first = next x
  where
    next : (r : CoordRecord) → coord_read (r ∷ first ∷ []) ≡ r ∷ coord_read (first ∷ [])
    next (Initiation tid participants) = refl
    next (Commit tid tickets) = refl
    next (Abort tid participants) = refl
    next (End tid) = refl
    next (Checkpoint sum) = refl
read_behind (x ∷ y ∷ newer) first = next x ∙ ap (λ rs. x ∷ rs) (read_behind (y ∷ newer) first)
  where
    next : (r : CoordRecord) → coord_read (r ∷ y ∷ (newer ++ first ∷ [])) ≡ r ∷ coord_read (y ∷ (newer ++ first ∷ []))
    next (Initiation tid participants) = refl
    next (Commit tid tickets) = refl
    next (Abort tid participants) = refl
    next (End tid) = refl
    next (Checkpoint sum) = refl

pub read_first : (first : CoordRecord) (newer : List CoordRecord) → coord_read (reverse (first ∷ newer)) ≡ reverse newer ++ coord_read (first ∷ [])
read_first first newer = ap coord_read (reverse-append (first ∷ []) newer) ∙ read_behind (reverse newer) first

-- the first ones of a list, with one more
pub reverse_more : {A : Type 0} (xs : List A) (n : ℕ) (d : A) → n < length xs → reverse (take (n + 1) xs) ≡ get_or xs n d ∷ reverse (take n xs)
reverse_more xs n d within = ap reverse (take_more xs n d within) ∙ reverse-append (take n xs) (get_or xs n d ∷ [])

-- and those behind them
pub reverse_rest : {A : Type 0} (xs : List A) (n : ℕ) → reverse xs ≡ reverse (drop n xs) ++ reverse (take n xs)
reverse_rest xs n = ap reverse (fronts xs n) ∙ reverse-append (take n xs) (drop n xs)

pub all_next : (a b c : Recorded) (xs : List CoordRecord) (n : ℕ) (d : CoordRecord) → n < length xs → TakesAll a b (reverse (take n xs)) true → Takes b c (get_or xs n d) true →
    TakesAll a c (reverse (take (n + 1) xs)) true
all_next a b c xs n d within first next =
    subst (λ ys. TakesAll a c ys true) (sym (reverse_more xs n d within))
    (takes_then a b c (reverse (take n xs)) (get_or xs n d ∷ []) true first (takes_one b c (get_or xs n d) true next))

pub all_last : (a b c e : Recorded) (xs : List CoordRecord) (n : ℕ) (d : CoordRecord) → n < length xs → TakesAll a b (reverse (take n xs)) true → Takes b c (get_or xs n d) false →
    TakesAll a e (reverse xs) false
all_last a b c e xs n d within first next =
    subst (λ ys. TakesAll a e ys false) (sym (reverse_rest xs (n + 1)))
    (takes_stop a c e (reverse (take (n + 1) xs)) (reverse (drop (n + 1) xs))
    (subst (λ ys. TakesAll a c ys false) (sym (reverse_more xs n d within))
    (takes_then a b c (reverse (take n xs)) (get_or xs n d ∷ []) false first (takes_one b c (get_or xs n d) false next))))

-- all records of a journal
pub whole : (a b c : Recorded) (first : CoordRecord) (newer : List CoordRecord) (fits : Bool) → IsGood a [] → TakesAll a b (coord_read (first ∷ [])) true → TakesAll b c (reverse newer) fits →
    fits ≡ in_order (coord_read (reverse (first ∷ newer)))
whole a b c first newer fits good one all =
    (takes_then a b c (coord_read (first ∷ [])) (reverse newer) fits one all [] good).0
    ∙ ap in_order (append-nil (reverse newer ++ coord_read (first ∷ [])) ∙ sym (read_first first newer))

pub broken_first : (a b : Recorded) (first : CoordRecord) (newer : List CoordRecord) → IsGood a [] → TakesAll a b (coord_read (first ∷ [])) false →
    false ≡ in_order (coord_read (reverse (first ∷ newer)))
broken_first a b first newer good one =
    (takes_stop a b b (coord_read (first ∷ [])) (reverse newer) one [] good).0
    ∙ ap in_order (append-nil (reverse newer ++ coord_read (first ∷ [])) ∙ sym (read_first first newer))
