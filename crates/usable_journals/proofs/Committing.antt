-- The committed attempts of records.
use Rattle.std.proofs.Common.{ℕ, ◌+◌, ◌-◌, ◌<◌, ◌≤◌, ◌≡◌, Bool, true, false, not, ◌||◌, List, [], ◌∷◌, ◌++◌, length, take, drop, map, reverse, get_or, refl, sym, ap, ◌∙◌, inl, inr, arith}
use Rattle.std.proofs.lemmas.Bool.{and_parts}
use Rattle.std.proofs.lemmas.List.{append_assoc, append-nil, drop_all, reverse-append, take_more}
use Rattle.mdb_base.specs.declared.names.SiteTicket.{SiteTicket}
use Rattle.mdb_base.specs.declared.names.Tid.{Tid}
use Rattle.mdb_base.specs.Names.{same_tid}
use Rattle.mdb_base.specs.Words.{some_of, those}
use Rattle.order_laws.specs.Chains.{In}
use Rattle.order_laws.specs.Tickets.{OneEach, Ticketed}
use Rattle.order_laws.proofs.ForCallers.{same_of}
use Rattle.fed_rules.specs.declared.records.CoordRecord.{CoordRecord}
use Rattle.fed_rules.specs.declared.records.CoordRecord.TheVariants.{Initiation, Commit, Abort, End, Checkpoint}
use Rattle.fed_rules.specs.declared.sums.CommittedAttempt.{CommittedAttempt}
use Rattle.fed_rules.specs.declared.sums.CoordSum.{CoordSum}
use Rattle.fed_rules.specs.declared.sums.OpenAttempt.{OpenAttempt}
use Rattle.fed_rules.specs.CoordRecords.{commits}
use Rattle.fed_rules.specs.Reopened.{commit_read, coord_sum_read, end_read, initiation_read, is_open_in}
use Rattle.fed_rules.specs.Usable.{coord_read}
use Rattle.ticket_graph.specs.Graph.{tids_of}
use Rattle.usable_journals.specs.CoordTests.{in_order, is_decided_of, may_stand}
use Rattle.usable_journals.proofs.Words.{or_second}
use Rattle.usable_journals.proofs.Recording.{drop_one, read_first}

commits_append : (xs ys : List CoordRecord) → commits (xs ++ ys) ≡ commits xs ++ commits ys
commits_append [] ys = refl
commits_append (Commit tid tickets ∷ xs) ys = ap (λ (cs : List Ticketed). record { tid = tid; tickets = tickets } ∷ cs) (commits_append xs ys)
commits_append (Initiation tid participants ∷ xs) ys = commits_append xs ys
commits_append (Abort tid participants ∷ xs) ys = commits_append xs ys
commits_append (End tid ∷ xs) ys = commits_append xs ys
commits_append (Checkpoint sum ∷ xs) ys = commits_append xs ys

or_first : (a b : Bool) → a ≡ true → (a || b) ≡ true
or_first true b e = refl
or_first false b e = absurd cc

-- ---- in order, the committed attempts differ

-- a committed attempt is decided in the records
commit_decided : (records : List CoordRecord) (tid : Tid) → In tid (tids_of (commits records)) → some_of (is_decided_of tid) records ≡ true
commit_decided [] tid i = absurd i
commit_decided (Commit decided tickets ∷ records) tid (inl e) = or_first (same_tid decided tid) (some_of (is_decided_of tid) records) (same_of decided tid e)
commit_decided (Commit decided tickets ∷ records) tid (inr i) = or_second (same_tid decided tid) (some_of (is_decided_of tid) records) (commit_decided records tid i)
commit_decided (Initiation begun participants ∷ records) tid i = commit_decided records tid i
commit_decided (Abort decided participants ∷ records) tid i = or_second (same_tid decided tid) (some_of (is_decided_of tid) records) (commit_decided records tid i)
commit_decided (End ended ∷ records) tid i = or_second (same_tid ended tid) (some_of (is_decided_of tid) records) (commit_decided records tid i)
commit_decided (Checkpoint sum ∷ records) tid i = commit_decided records tid i

not_both : (b : Bool) → not b ≡ true → b ≡ true → ⊥
not_both true e f = absurd cc
not_both false e f = absurd cc

-- behind records in order a Commit is of an attempt that isn't committed
commit_new : (records : List CoordRecord) (tid : Tid) (tickets : List SiteTicket) → in_order (Commit tid tickets ∷ records) ≡ true → In tid (tids_of (commits records)) → ⊥
commit_new records tid tickets stands i =
    let first = (and_parts (may_stand (Commit tid tickets) records) (in_order records) stands).0 in
    not_both (some_of (is_decided_of tid) records) (and_parts (not (some_of (is_decided_of tid) records)) _ first).0 (commit_decided records tid i)

pub stays_true : (newer older : List CoordRecord) → in_order (newer ++ older) ≡ true → in_order older ≡ true
stays_true [] older e = e
stays_true (newest ∷ newer) older e = stays_true newer older (and_parts (may_stand newest (newer ++ older)) (in_order (newer ++ older)) e).1

pub one_each : (records : List CoordRecord) → in_order records ≡ true → OneEach (commits records)
one_each [] e = tt
one_each (Commit tid tickets ∷ records) e = (commit_new records tid tickets e, one_each records (and_parts (may_stand (Commit tid tickets) records) (in_order records) e).1)
one_each (Initiation tid participants ∷ records) e = one_each records (and_parts (may_stand (Initiation tid participants) records) (in_order records) e).1
one_each (Abort tid participants ∷ records) e = one_each records (and_parts (may_stand (Abort tid participants) records) (in_order records) e).1
one_each (End tid ∷ records) e = one_each records (and_parts (may_stand (End tid) records) (in_order records) e).1
one_each (Checkpoint sum ∷ records) e = one_each records (and_parts (may_stand (Checkpoint sum) records) (in_order records) e).1

-- ---- attempts that are put behind others

-- a record that is no Commit has none
pub adds_none : (xs : List Ticketed) (entry : CoordRecord) → ((tid : Tid) (tickets : List SiteTicket) → entry ≡ Commit tid tickets → ⊥) → xs ≡ xs ++ commits (entry ∷ [])
adds_none xs (Initiation tid participants) other = sym (append-nil xs)
adds_none xs (Commit tid tickets) other = absurd (other tid tickets refl)
adds_none xs (Abort tid participants) other = sym (append-nil xs)
adds_none xs (End tid) other = sym (append-nil xs)
adds_none xs (Checkpoint sum) other = sym (append-nil xs)

-- the next attempt of a Checkpoint
pub adds_committed : (old now next : List Ticketed) (xs : List CommittedAttempt) (n : ℕ) (d : CommittedAttempt) → n < length xs → now ≡ old ++ commits (map commit_read (take n xs)) →
    next ≡ now ++ record { tid = (get_or xs n d).tid; tickets = (get_or xs n d).tickets } ∷ [] → next ≡ old ++ commits (map commit_read (take (n + 1) xs))
adds_committed old now next xs n d within is more =
    let x = get_or xs n d in
    more
    ∙ ap (λ (cs : List Ticketed). cs ++ record { tid = x.tid; tickets = x.tickets } ∷ []) is
    ∙ append_assoc old (commits (map commit_read (take n xs))) (record { tid = x.tid; tickets = x.tickets } ∷ [])
    ∙ ap (λ (cs : List Ticketed). old ++ cs) (sym (last_one (take n xs) x) ∙ ap (λ ys. commits (map commit_read ys)) (sym (take_more xs n d within)))
  where
    last_one : (ys : List CommittedAttempt) (x : CommittedAttempt) → commits (map commit_read (ys ++ x ∷ [])) ≡ commits (map commit_read ys) ++ record { tid = x.tid; tickets = x.tickets } ∷ []
    last_one [] x = refl
    last_one (y ∷ ys) x = ap (λ (cs : List Ticketed). record { tid = y.tid; tickets = y.tickets } ∷ cs) (last_one ys x)

-- the record before those whose attempts were put there
pub adds_before : (old now next : List Ticketed) (xs : List CoordRecord) (n : ℕ) (d : CoordRecord) → 1 ≤ n → n ≤ length xs → now ≡ old ++ commits (reverse (drop n xs)) →
    next ≡ now ++ commits (get_or xs (n - 1) d ∷ []) → next ≡ old ++ commits (reverse (drop (n - 1) xs))
adds_before old now next xs n d some within is more =
    let x = get_or xs (n - 1) d in
    more
    ∙ ap (λ (cs : List Ticketed). cs ++ commits (x ∷ [])) is
    ∙ append_assoc old (commits (reverse (drop n xs))) (commits (x ∷ []))
    ∙ ap (λ (cs : List Ticketed). old ++ cs)
    (sym (commits_append (reverse (drop n xs)) (x ∷ [])) ∙ ap commits (sym (reverse-append (x ∷ []) (drop n xs)) ∙ ap reverse (sym (drop_one xs n d some within))))

pub adds_nothing : (old : List Ticketed) (xs : List CoordRecord) (n : ℕ) → n ≡ length xs → old ≡ old ++ commits (reverse (drop n xs))
adds_nothing old xs n e = sym (ap (λ (ys : List CoordRecord). old ++ commits (reverse ys)) (drop_all n xs (omega (arith, e))) ∙ append-nil old)

-- ---- a first Checkpoint

no_ends : (xs : List CommittedAttempt) (records : List CoordRecord) → commits (map end_read xs ++ records) ≡ commits records
no_ends [] records = refl
no_ends (x ∷ xs) records = no_ends xs records

no_begins : (xs : List OpenAttempt) → commits (map initiation_read xs) ≡ []
no_begins [] = refl
no_begins (x ∷ xs) = no_begins xs

pub sum_commits : (sum : CoordSum) → commits (Checkpoint sum ∷ coord_sum_read sum) ≡ commits (map commit_read sum.committed)
sum_commits sum =
    let ended = those (λ (attempt : CommittedAttempt). not (is_open_in sum attempt.tid)) sum.committed in
    ap commits (append_assoc (map end_read ended) (map commit_read sum.committed) (map initiation_read sum.open_attempts))
    ∙ no_ends ended (map commit_read sum.committed ++ map initiation_read sum.open_attempts)
    ∙ commits_append (map commit_read sum.committed) (map initiation_read sum.open_attempts)
    ∙ ap (λ (cs : List Ticketed). commits (map commit_read sum.committed) ++ cs) (no_begins sum.open_attempts)
    ∙ append-nil (commits (map commit_read sum.committed))

-- a first record that is no Checkpoint is read as it is
pub not_sum : (first : CoordRecord) → ((sum : CoordSum) → first ≡ Checkpoint sum → ⊥) → coord_read (first ∷ []) ≡ first ∷ []
not_sum (Initiation tid participants) other = refl
not_sum (Commit tid tickets) other = refl
not_sum (Abort tid participants) other = refl
not_sum (End tid) other = refl
not_sum (Checkpoint sum) other = absurd (other sum refl)

-- ---- a whole journal

pub journal_commits : (first : CoordRecord) (newer : List CoordRecord) → commits (coord_read (reverse (first ∷ newer))) ≡ commits (reverse newer) ++ commits (coord_read (first ∷ []))
journal_commits first newer = ap commits (read_first first newer) ∙ commits_append (reverse newer) (coord_read (first ∷ []))

pub no_commits : (records : List CoordRecord) → length records ≡ 0 → [] ≡ commits (coord_read (reverse records))
no_commits [] none = refl
no_commits (x ∷ records) none = absurd (omega (arith, none))
