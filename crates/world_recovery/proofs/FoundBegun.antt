-- The attempts that are listed from journals, each once by rising attempt, are those that the session which goes on from them began with.
use Rattle.std.proofs.Common.{◌≡◌, inl, inr, ℕ, ◌+◌, Bool, true, false, cond, not, List, [], ◌∷◌, ◌++◌, map, reverse, refl, sym, ap, ap₂, subst, ◌∙◌}
use Rattle.std.specs.List.{AllByRecursion, dedup, dedup_from, flat_map}
use Rattle.std.specs.List.Sorted.{IsPermutation, IsSorted, IsStrictlySortedBy}
use Rattle.std.specs.declared.cmp.Ordering.TheVariants.{Less}
use Rattle.std.proofs.lemmas.List.Concat.{flat_map-append}
use Rattle.std.proofs.lemmas.List.Kept.{IsStrictlySortedBy-dedup}
use Rattle.mdb_base.specs.declared.names.Tid.{Tid}
use Rattle.mdb_base.specs.Names.{same_tid, tid_before, tid_cmp}
use Rattle.mdb_base.specs.Words.{Each, those}
use Rattle.mdb_base.proofs.ForCallers.{less_before, reverse_more, same_tid-equal, tid_ties, tids_total}
use Rattle.order_laws.specs.Chains.{In}
use Rattle.order_laws.proofs.ForCallers.{append_in, in_append}
use Rattle.fed_rules.specs.declared.records.CoordRecord.{CoordRecord}
use Rattle.fed_rules.specs.declared.records.CoordRecord.TheVariants as Rec
use Rattle.fed_rules.specs.declared.records.SiteRecord.{SiteRecord}
use Rattle.fed_rules.specs.declared.sums.CommittedAttempt.{CommittedAttempt}
use Rattle.fed_rules.specs.declared.sums.CoordSum.{CoordSum}
use Rattle.fed_rules.specs.declared.sums.OpenAttempt.{OpenAttempt}
use Rattle.fed_rules.specs.Attempts.{each_attempt, with_attempt}
use Rattle.fed_rules.specs.Closing.{rising}
use Rattle.fed_rules.specs.CoordRecords.{recorded}
use Rattle.fed_rules.specs.Found.{Journal}
use Rattle.fed_rules.specs.Reopened.{commit_read, end_read, initiation_read, is_open_in}
use Rattle.fed_rules.specs.Reopened as Reopened
use Rattle.fed_rules.specs.Resumed.{all_names, begun, names, sites_name}
use Rattle.fed_rules.specs.Usable as Usable
use Rattle.fed_rules.proofs.ForCallers.{Rises, each_distinct, each_in, in_each, in_rising, in_with, rises_one, rising_in, rising_rises, with_in}
use Rattle.coord_laws.proofs.ForCallers.{read_is}
use Rattle.journal_disk.specs.Disk.{Image}
use Rattle.frame_journal.specs.Journal.{Kept, records}
use Rattle.coord_journal.specs.Spelling as Coordinators
use Rattle.site_journal.specs.Spelling as Sites
use Rattle.coord_tables.proofs.ForCallers.{sorted_rising}
use Rattle.usable_journals.proofs.ForCallers.{read_first}
use Rattle.found_disks.specs.declared.reading.Journals.{Journals}
use Rattle.found_disks.specs.Finding.{found_in, journal_on, sites_from, unless_empty}
use Rattle.world_recovery.specs.FoundBegun.{committed_names, coord_names, coordinator_tids, first_names, open_names, site_tids, sites_tids}

-- ---- lists with the same attempts

-- each attempt of the one stands in the other
record AreAlike (xs ys : List Tid) : Type 0 where
  to : (tid : Tid) → In tid xs → In tid ys
  back : (tid : Tid) → In tid ys → In tid xs

itself : (xs : List Tid) → AreAlike xs xs
itself xs = record { to = λ tid i. i; back = λ tid i. i }

alike_then : (xs ys zs : List Tid) → AreAlike xs ys → AreAlike ys zs → AreAlike xs zs
alike_then xs ys zs a b = record { to = λ tid i. b.to tid (a.to tid i); back = λ tid i. a.back tid (b.back tid i) }

turned : (xs ys : List Tid) → AreAlike xs ys → AreAlike ys xs
turned xs ys a = record { to = a.back; back = a.to }

joined : (xs ys us vs : List Tid) → AreAlike xs us → AreAlike ys vs → AreAlike (xs ++ ys) (us ++ vs)
joined xs ys us vs a b = record {
  to = λ tid i. append_in tid us vs (elim (in_append tid xs ys i) [ inl j ↦ inl (a.to tid j) | inr j ↦ inr (b.to tid j) ]);
  back = λ tid i. append_in tid xs ys (elim (in_append tid us vs i) [ inl j ↦ inl (a.back tid j) | inr j ↦ inr (b.back tid j) ]);
}

swapped : (xs ys : List Tid) → AreAlike (xs ++ ys) (ys ++ xs)
swapped xs ys = record {
  to = λ tid i. append_in tid ys xs (elim (in_append tid xs ys i) [ inl j ↦ inr j | inr j ↦ inl j ]);
  back = λ tid i. append_in tid xs ys (elim (in_append tid ys xs i) [ inl j ↦ inr j | inr j ↦ inl j ]);
}

-- whichever way the items stand
reversed : {R : Type 0} (named : R → List Tid) (rs : List R) → AreAlike (flat_map named (reverse rs)) (flat_map named rs)
reversed named [] = itself []
reversed {R} named (r ∷ rs) =
    let is : flat_map named (reverse (r ∷ rs)) ≡ flat_map named (reverse rs) ++ (named r ++ []) =
    ap (flat_map named) (reverse_more r rs) ∙ flat_map-append named (reverse rs) (r ∷ []) in
    subst (λ (ts : List Tid). AreAlike ts (named r ++ flat_map named rs)) (sym is)
    (alike_then (flat_map named (reverse rs) ++ (named r ++ [])) ((named r ++ []) ++ flat_map named rs) (named r ++ flat_map named rs)
    (alike_then (flat_map named (reverse rs) ++ (named r ++ [])) (flat_map named rs ++ (named r ++ [])) ((named r ++ []) ++ flat_map named rs)
    (joined (flat_map named (reverse rs)) (named r ++ []) (flat_map named rs) (named r ++ []) (reversed named rs) (itself (named r ++ [])))
    (swapped (flat_map named rs) (named r ++ [])))
    (joined (named r ++ []) (flat_map named rs) (named r) (flat_map named rs) (nothing_more (named r)) (itself (flat_map named rs))))
  where
    nothing_more : (xs : List Tid) → AreAlike (xs ++ []) xs
    nothing_more xs = record {
      to = λ tid i. elim (in_append tid xs [] i) [ inl j ↦ j | inr j ↦ absurd j ];
      back = λ tid i. append_in tid xs [] (inl i);
    }

-- ---- the coordinator

-- one more attempt, which may stand there
with_one : (tid : Tid) (rs : List CoordRecord) → AreAlike (recorded rs) (flat_map coord_names rs) → AreAlike (with_attempt tid (recorded rs)) (tid ∷ flat_map coord_names rs)
with_one tid rs a = record {
  to = λ t i. elim (with_in tid t (recorded rs) i) [ inl same ↦ inl same | inr j ↦ inr (a.to t j) ];
  back = λ t i. in_with tid t (recorded rs) (elim i [ inl same ↦ inl same | inr j ↦ inr (a.back t j) ]);
}

-- the attempts that have a record are those that one names
recorded_alike : (rs : List CoordRecord) → AreAlike (recorded rs) (flat_map coord_names rs)
recorded_alike [] = itself []
recorded_alike (Rec.Initiation tid participants ∷ rs) = with_one tid rs (recorded_alike rs)
recorded_alike (Rec.Commit tid tickets ∷ rs) = with_one tid rs (recorded_alike rs)
recorded_alike (Rec.Abort tid participants ∷ rs) = with_one tid rs (recorded_alike rs)
recorded_alike (Rec.End tid ∷ rs) = with_one tid rs (recorded_alike rs)
recorded_alike (Rec.Checkpoint sum ∷ rs) = recorded_alike rs

commits_named : (committed : List CommittedAttempt) → flat_map coord_names (map commit_read committed) ≡ committed_names committed
commits_named [] = refl
commits_named (c ∷ cs) = ap (λ (ts : List Tid). c.tid ∷ ts) (commits_named cs)

opens_named : (open_attempts : List OpenAttempt) → flat_map coord_names (map initiation_read open_attempts) ≡ open_names open_attempts
opens_named [] = refl
opens_named (o ∷ os) = ap (λ (ts : List Tid). o.tid ∷ ts) (opens_named os)

-- what ended is among the committed ones
ends_named : (test : CommittedAttempt → Bool) (cs : List CommittedAttempt) (tid : Tid) → In tid (flat_map coord_names (map end_read (those test cs))) → In tid (committed_names cs)
ends_named test [] tid i = absurd i
ends_named test (c ∷ cs) tid i = by_test (test c) i (ends_named test cs tid)
  where
    by_test : (b : Bool) → In tid (flat_map coord_names (map end_read (cond b (c ∷ those test cs) (those test cs)))) → (In tid (flat_map coord_names (map end_read (those test cs))) → In tid (committed_names cs))
        → In tid (committed_names (c ∷ cs))
    by_test true (inl same) rest = inl same
    by_test true (inr j) rest = inr (rest j)
    by_test false j rest = inr (rest j)

-- a first Checkpoint names the attempts of the records that it is read as
sum_alike : (sum : CoordSum) → AreAlike (flat_map coord_names (Reopened.coord_sum_read sum)) (committed_names sum.committed ++ open_names sum.open_attempts)
sum_alike sum =
    subst (λ (ts : List Tid). AreAlike ts (committed ++ open_names sum.open_attempts)) (sym parts)
    (joined (ended ++ committed) (open_names sum.open_attempts) committed (open_names sum.open_attempts)
    (record {
      to = λ tid i. elim (in_append tid ended committed i) [ inl j ↦ ends_named test sum.committed tid j | inr j ↦ j ];
      back = λ tid i. append_in tid ended committed (inr i);
    })
    (itself (open_names sum.open_attempts)))
  where
    test : CommittedAttempt → Bool
    test attempt = not (is_open_in sum attempt.tid)

    ended : List Tid
    ended = flat_map coord_names (map end_read (those test sum.committed))

    committed : List Tid
    committed = committed_names sum.committed

    parts : flat_map coord_names (Reopened.coord_sum_read sum) ≡ (ended ++ committed) ++ open_names sum.open_attempts
    parts =
        flat_map-append coord_names (map end_read (those test sum.committed) ++ map commit_read sum.committed) (map initiation_read sum.open_attempts)
        ∙ ap₂ (λ (us vs : List Tid). us ++ vs)
        (flat_map-append coord_names (map end_read (those test sum.committed)) (map commit_read sum.committed) ∙ ap (λ (ts : List Tid). ended ++ ts) (commits_named sum.committed))
        (opens_named sum.open_attempts)

first_alike : (first : CoordRecord) → AreAlike (flat_map coord_names (Usable.coord_read (first ∷ []))) (first_names first)
first_alike (Rec.Initiation tid participants) = itself (tid ∷ [])
first_alike (Rec.Commit tid tickets) = itself (tid ∷ [])
first_alike (Rec.Abort tid participants) = itself (tid ∷ [])
first_alike (Rec.End tid) = itself (tid ∷ [])
first_alike (Rec.Checkpoint sum) = sum_alike sum

-- the records of a journal, the oldest first, name the attempts that have one
coordinator_alike : (rs : List CoordRecord) (torn : ℕ) → AreAlike (coordinator_tids rs) (recorded (Reopened.coord_read (record { records = reverse rs; torn = torn })))
coordinator_alike rs torn =
    subst (λ (read : List CoordRecord). AreAlike (coordinator_tids rs) (recorded read)) (sym (read_is (reverse rs) torn)) (by_records rs)
  where
    by_records : (rs : List CoordRecord) → AreAlike (coordinator_tids rs) (recorded (Usable.coord_read (reverse rs)))
    by_records [] = itself []
    by_records (first ∷ newer) =
        let there : List CoordRecord = Usable.coord_read (first ∷ []) in
        let front : List Tid = flat_map coord_names (reverse newer) in
        let behind : List Tid = flat_map coord_names newer in
        let read : Usable.coord_read (reverse (first ∷ newer)) ≡ reverse newer ++ there = read_first first newer in
        let parts : flat_map coord_names (reverse newer ++ there) ≡ front ++ flat_map coord_names there = flat_map-append coord_names (reverse newer) there in
        subst (λ (rs : List CoordRecord). AreAlike (first_names first ++ behind) (recorded rs)) (sym read)
        (turned (recorded (reverse newer ++ there)) (first_names first ++ behind)
        (alike_then (recorded (reverse newer ++ there)) (flat_map coord_names (reverse newer ++ there)) (first_names first ++ behind)
        (recorded_alike (reverse newer ++ there))
        (subst (λ (ts : List Tid). AreAlike ts (first_names first ++ behind)) (sym parts)
        (alike_then (front ++ flat_map coord_names there) (behind ++ first_names first) (first_names first ++ behind)
        (joined front (flat_map coord_names there) behind (first_names first) (reversed coord_names newer) (first_alike first))
        (swapped behind (first_names first))))))

-- ---- the sites

all_named : (rs : List SiteRecord) → all_names rs ≡ flat_map names rs
all_named [] = refl
all_named (r ∷ rs) = ap (λ (ts : List Tid). names r ++ ts) (all_named rs)

sites_alike : (number : ℕ) (images : List Image) (journals : List (Kept SiteRecord)) → AreAlike (sites_tids journals) (sites_name (sites_from number images journals))
sites_alike number images [] = itself []
sites_alike number images (kept ∷ more) = by_records (records kept) (journal_on Sites.spelling images number kept) refl (sites_alike (number + 1) images more)
  where
    by_records : (rs : List SiteRecord) (journal : Journal SiteRecord) → journal.records ≡ reverse rs → AreAlike (sites_tids more) (sites_name (sites_from (number + 1) images more))
        → AreAlike (site_tids rs ++ sites_tids more) (sites_name (unless_empty rs journal ++ sites_from (number + 1) images more))
    by_records [] journal is rest = rest
    by_records (first ∷ newer) journal is rest =
        joined (site_tids (first ∷ newer)) (sites_tids more) (all_names journal.records) (sites_name (sites_from (number + 1) images more))
        (turned (all_names journal.records) (site_tids (first ∷ newer))
        (subst (λ (rs : List SiteRecord). AreAlike (all_names rs) (site_tids (first ∷ newer))) (sym is)
        (subst (λ (ts : List Tid). AreAlike ts (site_tids (first ∷ newer))) (sym (all_named (reverse (first ∷ newer)))) (reversed names (first ∷ newer))))) rest

-- ---- each once

-- without what stands twice in a row the same attempts are left
from_alike : (x : Tid) (xs : List Tid) → AreAlike (dedup_from same_tid x xs) (x ∷ xs)
from_alike x [] = itself (x ∷ [])
from_alike x (y ∷ ys) = by_test (same_tid y x) refl (from_alike x ys) (from_alike y ys)
  where
    by_test : (b : Bool) → same_tid y x ≡ b → AreAlike (dedup_from same_tid x ys) (x ∷ ys) → AreAlike (dedup_from same_tid y ys) (y ∷ ys)
        → AreAlike (cond b (dedup_from same_tid x ys) (x ∷ dedup_from same_tid y ys)) (x ∷ y ∷ ys)
    by_test true e first second = record {
      to = λ tid i. elim (first.to tid i) [ inl same ↦ inl same | inr j ↦ inr (inr j) ];
      back = λ tid i. elim i [ inl same ↦ first.back tid (inl same) | inr j ↦ elim j [ inl same ↦ first.back tid (inl (sym (same_tid-equal y x e) ∙ same)) | inr k ↦ first.back tid (inr k) ] ];
    }
    by_test false e first second = record {
      to = λ tid i. elim i [ inl same ↦ inl same | inr j ↦ inr (second.to tid j) ];
      back = λ tid i. elim i [ inl same ↦ inl same | inr j ↦ inr (second.back tid j) ];
    }

once_alike : (xs : List Tid) → AreAlike (dedup same_tid xs) xs
once_alike [] = itself []
once_alike (x ∷ xs) = from_alike x xs

each_before : (x : Tid) (ys : List Tid) → AllByRecursion (λ y. tid_cmp x y ≡ Less) ys → Each (λ y. tid_before x y ≡ true) ys
each_before x [] h = tt
each_before x (y ∷ ys) h = (less_before x y h.0, each_before x ys h.1)

strictly_rises : (xs : List Tid) → IsStrictlySortedBy tid_cmp xs → Rises xs
unfolding IsStrictlySortedBy
strictly_rises [] h = tt
strictly_rises (x ∷ xs) h = (each_before x xs h.0, strictly_rises xs h.1)

-- so sorted, each once, they are the attempts of each list with the same ones, by rising attempt
once_sorted : (tids sorted all : List Tid) → IsPermutation tids sorted → IsSorted tid_cmp sorted → AreAlike tids all → dedup same_tid sorted ≡ rising (each_attempt all)
once_sorted tids sorted all moved order a =
    let is : sorted ≡ rising tids = sorted_rising tids sorted moved order in
    let once = once_alike sorted in
    rises_one (dedup same_tid sorted) (rising (each_attempt all)) (strictly_rises (dedup same_tid sorted) (IsStrictlySortedBy-dedup tids_total (λ x y. sym (tid_ties x y)) sorted order))
    (rising_rises (each_attempt all) (each_distinct all))
    (λ tid i. rising_in (each_attempt all) tid (in_each all tid (a.to tid (in_rising tids tid (subst (In tid) is (once.to tid i))))))
    (λ tid i. once.back tid (subst (In tid) (sym is) (rising_in tids tid (a.back tid (each_in all tid (in_rising (each_attempt all) tid i))))))

pub begun_is : (images : List Image) (journals : Journals) (tids sorted : List Tid) → tids ≡ coordinator_tids (records journals.coordinator) ++ sites_tids journals.sites.items
    → IsPermutation tids sorted → IsSorted tid_cmp sorted → dedup same_tid sorted ≡ begun (found_in images journals)
begun_is images journals tids sorted is moved order =
    let coordinator = journal_on Coordinators.spelling images 0 journals.coordinator in
    let found = sites_from 1 images journals.sites.items in
    once_sorted tids sorted (recorded (Reopened.coord_read coordinator) ++ sites_name found) moved order
    (subst (λ (ts : List Tid). AreAlike ts (recorded (Reopened.coord_read coordinator) ++ sites_name found)) (sym is)
    (joined (coordinator_tids (records journals.coordinator)) (sites_tids journals.sites.items) (recorded (Reopened.coord_read coordinator)) (sites_name found)
    (coordinator_alike (records journals.coordinator) coordinator.torn) (sites_alike 1 images journals.sites.items)))
