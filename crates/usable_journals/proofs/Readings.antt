-- What was read of the coordinator's records, with more records.
use Rattle.std.proofs.Common.{ℕ, ◌-◌, ◌≤◌, ◌≡◌, Bool, true, false, not, cond, is_some, ◌&&◌, ◌||◌, Option, Some, None, List, [], ◌∷◌, ◌++◌, length, drop, map, get_or, refl, sym, ap, ap₂, subst, ◌∙◌, arith}
use Rattle.std.proofs.lemmas.Bool.{and_parts}
use Rattle.std.proofs.lemmas.List.{append_assoc}
use Rattle.std.specs.BTreeMap.{BTreeMap, get}
use Rattle.std.specs.BTreeSet.{BTreeSet, contains}
use Rattle.std.specs.Ordering.{is_eq}
use Rattle.mdb_base.specs.declared.names.SiteTicket.{SiteTicket}
use Rattle.mdb_base.specs.declared.names.Tid.{Tid}
use Rattle.mdb_base.specs.Names.{same_tid, tid_before, tid_cmp}
use Rattle.mdb_base.specs.Words.{Each, inserted, some_of, those}
use Rattle.mdb_base.proofs.ForCallers.{each_filtered, each_inserted, each_map, or_fails, same_tid-equal, tid_ties}
use Rattle.order_laws.proofs.ForCallers.{ranks_tids}
use Rattle.presumptions.specs.declared.Participant.{Participant}
use Rattle.fed_rules.specs.declared.records.CoordRecord.{CoordRecord}
use Rattle.fed_rules.specs.declared.records.CoordRecord.TheVariants.{Initiation, Commit, Abort, End, Checkpoint}
use Rattle.fed_rules.specs.declared.sums.CommittedAttempt.{CommittedAttempt}
use Rattle.fed_rules.specs.declared.sums.CoordSum.{CoordSum}
use Rattle.fed_rules.specs.declared.sums.OpenAttempt.{OpenAttempt}
use Rattle.fed_rules.specs.CoordRecords.{class_of, ends_at_once, ticketed}
use Rattle.fed_rules.specs.CoordSums.{after_commit, also_open, committed_with, open_with}
use Rattle.fed_rules.specs.Usable.{RiseBy}
use Rattle.usable_journals.specs.declared.coord_sums.Reading.{Reading}
use Rattle.usable_journals.specs.CoordTests.{in_order, is_decided_of, may_stand}
use Rattle.usable_journals.specs.Reads.{Reads, Says, begun, ended, ends_of, forgotten, open_in, tickets_in}
use Rattle.fed_rules.specs.Reopened.{commit_read, coord_sum_read, initiation_read}
use Rattle.usable_journals.proofs.Committing.{stays_true}
use Rattle.usable_journals.proofs.Recording.{drop_one, end_at, ends_of as ends_in, ends_one, sum_reads}
use Rattle.usable_journals.proofs.Words.{or_second}

-- ---- lists by rising attempt

rise_those : {A : Type 0} (f : A → Tid) (test : A → Bool) (xs : List A) → RiseBy f xs → RiseBy f (those test xs)
rise_those f test [] up = tt
rise_those f test (x ∷ xs) up = by_test (test x) (rise_those f test xs up.1)
  where
    by_test : (b : Bool) → RiseBy f (those test xs) → RiseBy f (cond b (x ∷ those test xs) (those test xs))
    by_test true rest = (each_filtered (λ y. tid_before (f x) (f y) ≡ true) test xs up.0, rest)
    by_test false rest = rest

before_from : (x y : Tid) → same_tid y x ≡ false → tid_before y x ≡ false → tid_before x y ≡ true
before_from x y e f = grind arith

rise_inserted : {A : Type 0} (f : A → Tid) (x : A) (ys : List A) → some_of (λ y. same_tid (f y) (f x)) ys ≡ false → RiseBy f ys → RiseBy f (inserted (λ a b. tid_before (f a) (f b)) x ys)
rise_inserted f x [] none up = (tt, tt)
rise_inserted f x (y ∷ ys) none up = by_test (tid_before (f y) (f x)) refl (rise_inserted f x ys (or_right none) up.1)
  where
    or_left : (same_tid (f y) (f x) || some_of (λ z. same_tid (f z) (f x)) ys) ≡ false → same_tid (f y) (f x) ≡ false
    or_left e = left (same_tid (f y) (f x)) e
      where
        left : (b : Bool) → (b || some_of (λ z. same_tid (f z) (f x)) ys) ≡ false → b ≡ false
        left true g = g
        left false g = refl

    or_right : (same_tid (f y) (f x) || some_of (λ z. same_tid (f z) (f x)) ys) ≡ false → some_of (λ z. same_tid (f z) (f x)) ys ≡ false
    or_right e = right (same_tid (f y) (f x)) e
      where
        right : (b : Bool) → (b || some_of (λ z. same_tid (f z) (f x)) ys) ≡ false → some_of (λ z. same_tid (f z) (f x)) ys ≡ false
        right true g = absurd cc
        right false g = g

    by_test : (b : Bool) → tid_before (f y) (f x) ≡ b → RiseBy f (inserted (λ a c. tid_before (f a) (f c)) x ys) → RiseBy f (cond b (y ∷ inserted (λ a c. tid_before (f a) (f c)) x ys) (x ∷ y ∷ ys))
    by_test true is rest = (each_inserted (λ z. tid_before (f y) (f z) ≡ true) (λ a c. tid_before (f a) (f c)) x ys is up.0, rest)
    by_test false is rest =
        let first : tid_before (f x) (f y) ≡ true = before_from (f x) (f y) (or_left none) is in
        ((first, each_map (λ z. tid_before (f y) (f z) ≡ true) (λ z. tid_before (f x) (f z) ≡ true) (λ z g. ranks_tids.onward (f x) (f y) (f z) first g) ys up.0), up)

open_tid : OpenAttempt → Tid
open_tid attempt = attempt.tid

-- the open attempts rise
also_rise : (tid : Tid) (participants : List Participant) (xs : List OpenAttempt) → RiseBy (λ (a : OpenAttempt). a.tid) xs → RiseBy (λ (a : OpenAttempt). a.tid) (also_open tid participants xs)
also_rise tid participants xs up = by_test (some_of (λ (a : OpenAttempt). same_tid a.tid tid) xs) refl
  where
    by_test : (b : Bool) → some_of (λ (a : OpenAttempt). same_tid a.tid tid) xs ≡ b →
        RiseBy (λ (a : OpenAttempt). a.tid) (cond b xs (inserted (λ (a b : OpenAttempt). tid_before a.tid b.tid) (record { tid = tid; participants = participants }) xs))
    by_test true is = up
    by_test false is = rise_inserted (λ (a : OpenAttempt). a.tid) (record { tid = tid; participants = participants }) xs is up

pub open_rise : (protocols : List Participant) (rs : List CoordRecord) → RiseBy (λ (a : OpenAttempt). a.tid) (open_with protocols [] rs)
open_rise protocols [] = tt
open_rise protocols (Initiation tid participants ∷ rs) = also_rise tid participants (open_with protocols [] rs) (open_rise protocols rs)
open_rise protocols (Commit tid tickets ∷ rs) =
    rise_those (λ (a : OpenAttempt). a.tid) _ (also_open tid (ticketed protocols tickets) (open_with protocols [] rs)) (also_rise tid (ticketed protocols tickets) (open_with protocols [] rs) (open_rise protocols rs))
open_rise protocols (Abort tid participants ∷ rs) = also_rise tid participants (open_with protocols [] rs) (open_rise protocols rs)
open_rise protocols (End tid ∷ rs) = rise_those (λ (a : OpenAttempt). a.tid) _ (open_with protocols [] rs) (open_rise protocols rs)
open_rise protocols (Checkpoint sum ∷ rs) = open_rise protocols rs

-- ---- look-ups

is_open_some : (xs : List OpenAttempt) (tid : Tid) → is_some (open_in xs tid) ≡ some_of (λ (a : OpenAttempt). same_tid a.tid tid) xs
is_open_some [] tid = refl
is_open_some (x ∷ xs) tid = by_test (same_tid x.tid tid) (is_open_some xs tid)
  where
    by_test : (b : Bool) → is_some (open_in xs tid) ≡ some_of (λ (a : OpenAttempt). same_tid a.tid tid) xs →
        is_some (cond b (Some x.participants) (open_in xs tid)) ≡ (b || some_of (λ (a : OpenAttempt). same_tid a.tid tid) xs)
    by_test true rest = refl
    by_test false rest = rest

both_tids : (a b q : Tid) → same_tid a q ≡ true → same_tid b q ≡ true → same_tid a b ≡ true
both_tids a b q e f = grind arith

open_inserted : (x : OpenAttempt) (ys : List OpenAttempt) (q : Tid) → some_of (λ (a : OpenAttempt). same_tid a.tid x.tid) ys ≡ false →
    open_in (inserted (λ (a b : OpenAttempt). tid_before a.tid b.tid) x ys) q ≡ cond (same_tid x.tid q) (Some x.participants) (open_in ys q)
open_inserted x [] q none = refl
open_inserted x (y ∷ ys) q none = by_tests (tid_before y.tid x.tid) (same_tid y.tid q) refl (same_tid x.tid q) refl (open_inserted x ys q (or_fails (same_tid y.tid x.tid) _ none).1)
  where
    by_tests : (b c : Bool) → same_tid y.tid q ≡ c → (d : Bool) → same_tid x.tid q ≡ d →
        open_in (inserted (λ (a b : OpenAttempt). tid_before a.tid b.tid) x ys) q ≡ cond (same_tid x.tid q) (Some x.participants) (open_in ys q) →
        open_in (cond b (y ∷ inserted (λ (a b : OpenAttempt). tid_before a.tid b.tid) x ys) (x ∷ y ∷ ys)) q ≡ cond d (Some x.participants) (cond c (Some y.participants) (open_in ys q))
    by_tests true true is true there rest =
        let clash = both_tids y.tid x.tid q is there in let apart = (or_fails (same_tid y.tid x.tid) _ none).0 in absurd cc
    by_tests true true is false there rest = ap (λ t. cond t (Some y.participants) (open_in (inserted (λ (a b : OpenAttempt). tid_before a.tid b.tid) x ys) q)) is
    by_tests true false is d there rest =
        ap (λ t. cond t (Some y.participants) (open_in (inserted (λ (a b : OpenAttempt). tid_before a.tid b.tid) x ys) q)) is ∙ rest ∙ ap (λ t. cond t (Some x.participants) (open_in ys q)) there
    by_tests false c is d there rest = ap₂ (λ t u. cond t (Some x.participants) (cond u (Some y.participants) (open_in ys q))) there is

pub open_also : (tid : Tid) (participants : List Participant) (xs : List OpenAttempt) (q : Tid) → open_in (also_open tid participants xs) q ≡ begun tid participants (open_in xs) q
open_also tid participants xs q = by_test (some_of (λ (a : OpenAttempt). same_tid a.tid tid) xs) refl
  where
    by_test : (b : Bool) → some_of (λ (a : OpenAttempt). same_tid a.tid tid) xs ≡ b →
        open_in (cond b xs (inserted (λ (a c : OpenAttempt). tid_before a.tid c.tid) (record { tid = tid; participants = participants }) xs)) q
        ≡ cond (is_some (open_in xs tid)) (open_in xs q) (cond (same_tid tid q) (Some participants) (open_in xs q))
    by_test true is = ap (λ t. cond t (open_in xs q) (cond (same_tid tid q) (Some participants) (open_in xs q))) (sym (is_open_some xs tid ∙ is))
    by_test false is =
        open_inserted (record { tid = tid; participants = participants }) xs q is
        ∙ ap (λ t. cond t (open_in xs q) (cond (same_tid tid q) (Some participants) (open_in xs q))) (sym (is_open_some xs tid ∙ is))

-- an attempt that is behind all isn't there
not_there : (xs : List OpenAttempt) (tid : Tid) → Each (λ (y : OpenAttempt). tid_before tid y.tid ≡ true) xs → open_in xs tid ≡ None
not_there [] tid above = refl
not_there (x ∷ xs) tid above = ap (λ t. cond t (Some x.participants) (open_in xs tid)) (apart tid x.tid above.0) ∙ not_there xs tid above.1
  where
    apart : (a b : Tid) → tid_before a b ≡ true → same_tid b a ≡ false
    apart a b e = grind arith

pub open_ended : (tid : Tid) (xs : List OpenAttempt) (q : Tid) → open_in (those (λ (a : OpenAttempt). not (same_tid a.tid tid)) xs) q ≡ ended tid (open_in xs) q
open_ended tid [] q = none (same_tid tid q)
  where
    none : (b : Bool) → ◌≡◌ {A = Option (List Participant)} None (cond b None None)
    none true = refl
    none false = refl
open_ended tid (x ∷ xs) q = by_tests (same_tid x.tid tid) refl (same_tid x.tid q) refl (same_tid tid q) refl (open_ended tid xs q)
  where
    by_tests : (b : Bool) → same_tid x.tid tid ≡ b → (c : Bool) → same_tid x.tid q ≡ c → (d : Bool) → same_tid tid q ≡ d →
        open_in (those (λ (a : OpenAttempt). not (same_tid a.tid tid)) xs) q ≡ cond (same_tid tid q) None (open_in xs q) →
        open_in (cond (not b) (x ∷ those (λ (a : OpenAttempt). not (same_tid a.tid tid)) xs) (those (λ (a : OpenAttempt). not (same_tid a.tid tid)) xs)) q
        ≡ cond d None (cond c (Some x.participants) (open_in xs q))
    by_tests true one c two true three rest = rest ∙ ap (λ t. cond t None (open_in xs q)) three
    by_tests true one true two false three rest = let same = same_tid-equal x.tid tid one in let clash : same_tid tid q ≡ true = subst (λ t. same_tid t q ≡ true) same two in absurd cc
    by_tests true one false two false three rest = rest ∙ ap (λ t. cond t None (open_in xs q)) three
    by_tests false one true two true three rest =
        let same = same_tid-equal tid q three in let clash : same_tid x.tid tid ≡ true = subst (λ t. same_tid x.tid t ≡ true) (sym same) two in absurd cc
    by_tests false one true two false three rest = ap (λ t. cond t (Some x.participants) (open_in (those (λ (a : OpenAttempt). not (same_tid a.tid tid)) xs) q)) two
    by_tests false one false two d three rest =
        ap (λ t. cond t (Some x.participants) (open_in (those (λ (a : OpenAttempt). not (same_tid a.tid tid)) xs) q)) two ∙ rest ∙ ap (λ t. cond t None (open_in xs q)) three

-- where the attempt isn't there, its commit drops nothing
none_after : (tid : Tid) (xs : List OpenAttempt) → Each (λ (y : OpenAttempt). tid_before tid y.tid ≡ true) xs → after_commit tid xs ≡ xs
none_after tid [] above = refl
none_after tid (x ∷ xs) above = keeps (same_tid x.tid tid) (apart tid x.tid above.0) (none_after tid xs above.1)
  where
    apart : (a b : Tid) → tid_before a b ≡ true → same_tid b a ≡ false
    apart a b e = grind arith

    keeps : (b : Bool) → b ≡ false → after_commit tid xs ≡ xs → cond (not (b && ends_at_once (class_of x.participants))) (x ∷ after_commit tid xs) (after_commit tid xs) ≡ x ∷ xs
    keeps true e rest = absurd cc
    keeps false e rest = ap (λ ys. x ∷ ys) rest

pub open_after : (tid : Tid) (xs : List OpenAttempt) (q : Tid) → RiseBy (λ (a : OpenAttempt). a.tid) xs → open_in (after_commit tid xs) q ≡ forgotten tid (open_in xs) q
open_after tid [] q up = none (same_tid tid q)
  where
    none : (b : Bool) → ◌≡◌ {A = Option (List Participant)} None (cond (b && false) None None)
    none true = refl
    none false = refl
open_after tid (x ∷ xs) q up = by_tests (same_tid x.tid tid) refl (same_tid x.tid q) refl (same_tid tid q) refl (open_after tid xs q up.1)
  where
    after : List OpenAttempt
    after = after_commit tid xs

    at_once : Bool
    at_once = ends_at_once (class_of x.participants)

    gone : same_tid x.tid tid ≡ true → after_commit tid xs ≡ xs
    gone one = none_after tid xs (subst (λ t. Each (λ (y : OpenAttempt). tid_before t y.tid ≡ true) xs) (same_tid-equal x.tid tid one) up.0)

    not_behind : same_tid x.tid q ≡ true → open_in xs q ≡ None
    not_behind two = not_there xs q (subst (λ t. Each (λ (y : OpenAttempt). tid_before t y.tid ≡ true) xs) (same_tid-equal x.tid q two) up.0)

    dropped : (b c d : Bool) → c ≡ d → same_tid x.tid q ≡ c → same_tid x.tid tid ≡ true →
        open_in (cond (not b) (x ∷ after_commit tid xs) (after_commit tid xs)) q ≡ cond (d && b) None (cond c (Some x.participants) (open_in xs q))
    dropped true true true e two one = ap (λ ys. open_in ys q) (gone one) ∙ not_behind two
    dropped true false false e two one = ap (λ ys. open_in ys q) (gone one)
    dropped false true true e two one = ap (λ t. cond t (Some x.participants) (open_in (after_commit tid xs) q)) two
    dropped false false false e two one = ap (λ t. cond t (Some x.participants) (open_in (after_commit tid xs) q)) two ∙ ap (λ ys. open_in ys q) (gone one)
    dropped b true false e two one = absurd cc
    dropped b false true e two one = absurd cc

    kept : (c d : Bool) → same_tid x.tid q ≡ c → same_tid tid q ≡ d → same_tid x.tid tid ≡ false → open_in (after_commit tid xs) q ≡ cond (same_tid tid q && ends_of (open_in xs tid)) None (open_in xs q) →
        open_in (x ∷ after_commit tid xs) q ≡ cond (d && ends_of (open_in xs tid)) None (cond c (Some x.participants) (open_in xs q))
    kept true true two three one rest =
        let same = same_tid-equal tid q three in let clash : same_tid x.tid tid ≡ true = subst (λ t. same_tid x.tid t ≡ true) (sym same) two in absurd cc
    kept true false two three one rest = ap (λ t. cond t (Some x.participants) (open_in (after_commit tid xs) q)) two
    kept false d two three one rest =
        ap (λ t. cond t (Some x.participants) (open_in (after_commit tid xs) q)) two ∙ rest ∙ ap (λ t. cond (t && ends_of (open_in xs tid)) None (open_in xs q)) three

    by_tests : (b : Bool) → same_tid x.tid tid ≡ b → (c : Bool) → same_tid x.tid q ≡ c → (d : Bool) → same_tid tid q ≡ d →
        open_in (after_commit tid xs) q ≡ forgotten tid (open_in xs) q →
        open_in (cond (not (b && ends_at_once (class_of x.participants))) (x ∷ after_commit tid xs) (after_commit tid xs)) q
        ≡ cond (d && ends_of (cond b (Some x.participants) (open_in xs tid))) None (cond c (Some x.participants) (open_in xs q))
    by_tests true one c two d three rest = dropped at_once c d (alike c d two three) two one
      where
        alike : (c d : Bool) → same_tid x.tid q ≡ c → same_tid tid q ≡ d → c ≡ d
        alike c d e f = sym e ∙ ap (λ t. same_tid t q) (same_tid-equal x.tid tid one) ∙ f
    by_tests false one c two d three rest = kept c d two three one rest

-- ---- committed ones

committed_decided : (tid : Tid) (rs : List CoordRecord) → some_of (λ (a : CommittedAttempt). same_tid a.tid tid) (committed_with [] rs) ≡ true → some_of (is_decided_of tid) rs ≡ true
committed_decided tid [] e = absurd cc
committed_decided tid (Commit decided tickets ∷ rs) e = by_test (same_tid decided tid) refl (committed_decided tid rs)
  where
    among : (x : CommittedAttempt) (ys : List CommittedAttempt) → same_tid x.tid tid ≡ false → some_of (λ (a : CommittedAttempt). same_tid a.tid tid) (inserted (λ (a b : CommittedAttempt). tid_before a.tid b.tid) x ys) ≡ true →
        some_of (λ (a : CommittedAttempt). same_tid a.tid tid) ys ≡ true
    among x [] off f = absurd (clash (same_tid x.tid tid) off f)
      where
        clash : (b : Bool) → b ≡ false → (b || false) ≡ true → ⊥
        clash true g h = cc
        clash false g h = cc
    among x (y ∷ ys) off f = by_before (tid_before y.tid x.tid) f (among x ys off)
      where
        skip : (b : Bool) → b ≡ false → (c : Bool) → (b || c) ≡ true → c ≡ true
        skip true g c h = absurd cc
        skip false g c h = h

        or_rest : (b c d : Bool) → (c ≡ true → d ≡ true) → (b || c) ≡ true → (b || d) ≡ true
        or_rest true c d k h = refl
        or_rest false c d k h = k h

        by_before : (b : Bool) → some_of (λ (a : CommittedAttempt). same_tid a.tid tid) (cond b (y ∷ inserted (λ (a b : CommittedAttempt). tid_before a.tid b.tid) x ys) (x ∷ y ∷ ys)) ≡ true →
            (some_of (λ (a : CommittedAttempt). same_tid a.tid tid) (inserted (λ (a b : CommittedAttempt). tid_before a.tid b.tid) x ys) ≡ true → some_of (λ (a : CommittedAttempt). same_tid a.tid tid) ys ≡ true) →
            some_of (λ (a : CommittedAttempt). same_tid a.tid tid) (y ∷ ys) ≡ true
        by_before true h k = or_rest (same_tid y.tid tid) _ _ k h
        by_before false h k = skip (same_tid x.tid tid) off _ h

    by_test : (b : Bool) → same_tid decided tid ≡ b → (some_of (λ (a : CommittedAttempt). same_tid a.tid tid) (committed_with [] rs) ≡ true → some_of (is_decided_of tid) rs ≡ true) → (b || some_of (is_decided_of tid) rs) ≡ true
    by_test true is rest = refl
    by_test false is rest = rest (among (record { tid = decided; tickets = tickets }) (committed_with [] rs) is e)
committed_decided tid (Initiation begun_tid participants ∷ rs) e = committed_decided tid rs e
committed_decided tid (Abort decided participants ∷ rs) e = or_second (same_tid decided tid) (some_of (is_decided_of tid) rs) (committed_decided tid rs e)
committed_decided tid (End ended_tid ∷ rs) e = or_second (same_tid ended_tid tid) (some_of (is_decided_of tid) rs) (committed_decided tid rs e)
committed_decided tid (Checkpoint sum ∷ rs) e = committed_decided tid rs e

-- a Commit in order is of an attempt that isn't committed
pub commit_apart : (tid : Tid) (tickets : List SiteTicket) (rs : List CoordRecord) → in_order (Commit tid tickets ∷ rs) ≡ true →
    some_of (λ (a : CommittedAttempt). same_tid a.tid tid) (committed_with [] rs) ≡ false
commit_apart tid tickets rs stands = by_test (some_of (λ (a : CommittedAttempt). same_tid a.tid tid) (committed_with [] rs)) refl
  where
    new : not (some_of (is_decided_of tid) rs) ≡ true
    new = (and_parts (not (some_of (is_decided_of tid) rs)) _ (and_parts (may_stand (Commit tid tickets) rs) (in_order rs) stands).0).0

    clash : (b : Bool) → b ≡ true → not b ≡ true → ⊥
    clash true e f = cc
    clash false e f = cc

    by_test : (b : Bool) → some_of (λ (a : CommittedAttempt). same_tid a.tid tid) (committed_with [] rs) ≡ b → b ≡ false
    by_test true is = absurd (clash (some_of (is_decided_of tid) rs) (committed_decided tid rs is) new)
    by_test false is = refl

pub committed_rise : (rs : List CoordRecord) → in_order rs ≡ true → RiseBy (λ (a : CommittedAttempt). a.tid) (committed_with [] rs)
committed_rise [] stands = tt
committed_rise (Commit tid tickets ∷ rs) stands =
    rise_inserted (λ (a : CommittedAttempt). a.tid) (record { tid = tid; tickets = tickets }) (committed_with [] rs) (commit_apart tid tickets rs stands)
    (committed_rise rs (and_parts (may_stand (Commit tid tickets) rs) (in_order rs) stands).1)
committed_rise (Initiation tid participants ∷ rs) stands = committed_rise rs (and_parts (may_stand (Initiation tid participants) rs) (in_order rs) stands).1
committed_rise (Abort tid participants ∷ rs) stands = committed_rise rs (and_parts (may_stand (Abort tid participants) rs) (in_order rs) stands).1
committed_rise (End tid ∷ rs) stands = committed_rise rs (and_parts (may_stand (End tid) rs) (in_order rs) stands).1
committed_rise (Checkpoint sum ∷ rs) stands = committed_rise rs stands

tickets_inserted : (x : CommittedAttempt) (ys : List CommittedAttempt) (q : Tid) → some_of (λ (a : CommittedAttempt). same_tid a.tid x.tid) ys ≡ false →
    tickets_in (inserted (λ (a b : CommittedAttempt). tid_before a.tid b.tid) x ys) q ≡ cond (same_tid x.tid q) (Some x.tickets) (tickets_in ys q)
tickets_inserted x [] q none = refl
tickets_inserted x (y ∷ ys) q none = by_tests (tid_before y.tid x.tid) (same_tid y.tid q) refl (same_tid x.tid q) refl (tickets_inserted x ys q (or_fails (same_tid y.tid x.tid) _ none).1)
  where
    by_tests : (b c : Bool) → same_tid y.tid q ≡ c → (d : Bool) → same_tid x.tid q ≡ d →
        tickets_in (inserted (λ (a b : CommittedAttempt). tid_before a.tid b.tid) x ys) q ≡ cond (same_tid x.tid q) (Some x.tickets) (tickets_in ys q) →
        tickets_in (cond b (y ∷ inserted (λ (a b : CommittedAttempt). tid_before a.tid b.tid) x ys) (x ∷ y ∷ ys)) q ≡ cond d (Some x.tickets) (cond c (Some y.tickets) (tickets_in ys q))
    by_tests true true is true there rest =
        let clash = both_tids y.tid x.tid q is there in let apart = (or_fails (same_tid y.tid x.tid) _ none).0 in absurd cc
    by_tests true true is false there rest = ap (λ t. cond t (Some y.tickets) (tickets_in (inserted (λ (a b : CommittedAttempt). tid_before a.tid b.tid) x ys) q)) is
    by_tests true false is d there rest =
        ap (λ t. cond t (Some y.tickets) (tickets_in (inserted (λ (a b : CommittedAttempt). tid_before a.tid b.tid) x ys) q)) is ∙ rest ∙ ap (λ t. cond t (Some x.tickets) (tickets_in ys q)) there
    by_tests false c is d there rest = ap₂ (λ t u. cond t (Some x.tickets) (cond u (Some y.tickets) (tickets_in ys q))) there is

-- ---- one record

pub reads_begin : (protocols : List Participant) (old : Reading) (attempts : BTreeMap Tid (List Participant)) (tid : Tid) (participants : List Participant) →
    ((q : Tid) → get tid_cmp attempts q ≡ begun tid participants (get tid_cmp old.attempts) q) →
    (records : List CoordRecord) → Says protocols old records → (q : Tid) → get tid_cmp attempts q ≡ open_in (also_open tid participants (open_with protocols [] records)) q
reads_begin protocols old attempts tid participants now records says q =
    now q
    ∙ ap₂ (λ a b. cond (is_some a) b (cond (same_tid tid q) (Some participants) b)) (says.attempts tid) (says.attempts q)
    ∙ sym (open_also tid participants (open_with protocols [] records) q)

at_name : {V : Type 0} (tid q : Tid) (x y : Option V) → cond (is_eq (tid_cmp tid q)) x y ≡ cond (same_tid tid q) x y
at_name tid q x y = ap (λ b. cond b x y) (tid_ties tid q)

pub reads_commit : (protocols : List Participant) (old : Reading) (mid attempts : BTreeMap Tid (List Participant)) (before committed : BTreeMap Tid (List SiteTicket)) (tid : Tid) (tickets : List SiteTicket) →
    ((q : Tid) → get tid_cmp mid q ≡ begun tid (ticketed protocols tickets) (get tid_cmp old.attempts) q) →
    ((q : Tid) → get tid_cmp attempts q ≡ forgotten tid (get tid_cmp mid) q) →
    before ≡ old.committed → ((q : Tid) → get tid_cmp committed q ≡ cond (is_eq (tid_cmp tid q)) (Some tickets) (get tid_cmp before q)) →
    Reads protocols old (record { attempts = attempts; committed = committed }) (Commit tid tickets ∷ [])
reads_commit protocols old mid attempts before committed tid tickets begins forgets same puts records says stands = record {
  attempts = λ q.
      forgets q
      ∙ ap₂ (λ a b. cond (same_tid tid q && ends_of a) None b) (reads_begin protocols old mid tid (ticketed protocols tickets) begins records says tid)
      (reads_begin protocols old mid tid (ticketed protocols tickets) begins records says q)
      ∙ sym (open_after tid (also_open tid (ticketed protocols tickets) (open_with protocols [] records)) q
      (also_rise tid (ticketed protocols tickets) (open_with protocols [] records) (open_rise protocols records)));
  committed = λ q.
      puts q ∙ at_name tid q (Some tickets) (get tid_cmp before q)
      ∙ ap (λ o. cond (same_tid tid q) (Some tickets) o) (ap (λ m. get tid_cmp m q) same ∙ says.committed q)
      ∙ sym (tickets_inserted (record { tid = tid; tickets = tickets }) (committed_with [] records) q (commit_apart tid tickets records stands));
}

pub reads_initiation : (protocols : List Participant) (old new : Reading) (tid : Tid) (participants : List Participant) →
    ((q : Tid) → get tid_cmp new.attempts q ≡ begun tid participants (get tid_cmp old.attempts) q) → new.committed ≡ old.committed → Reads protocols old new (Initiation tid participants ∷ [])
reads_initiation protocols old new tid participants begins same records says stands = record {
  attempts = reads_begin protocols old new.attempts tid participants begins records says;
  committed = λ q. ap (λ (m : BTreeMap Tid (List SiteTicket)). get tid_cmp m q) same ∙ says.committed q;
}

pub reads_abort : (protocols : List Participant) (old new : Reading) (tid : Tid) (participants : List Participant) →
    ((q : Tid) → get tid_cmp new.attempts q ≡ begun tid participants (get tid_cmp old.attempts) q) → new.committed ≡ old.committed → Reads protocols old new (Abort tid participants ∷ [])
reads_abort protocols old new tid participants begins same records says stands = record {
  attempts = reads_begin protocols old new.attempts tid participants begins records says;
  committed = λ q. ap (λ (m : BTreeMap Tid (List SiteTicket)). get tid_cmp m q) same ∙ says.committed q;
}

pub reads_end : (protocols : List Participant) (old : Reading) (attempts : BTreeMap Tid (List Participant)) (tid : Tid) →
    ((q : Tid) → get tid_cmp attempts q ≡ cond (is_eq (tid_cmp tid q)) None (get tid_cmp old.attempts q)) →
    Reads protocols old (record { attempts = attempts; committed = old.committed }) (End tid ∷ [])
reads_end protocols old attempts tid gone records says stands = record {
  attempts = λ q.
      gone q ∙ at_name tid q None (get tid_cmp old.attempts q) ∙ ap (λ o. cond (same_tid tid q) None o) (says.attempts q) ∙ sym (open_ended tid (open_with protocols [] records) q);
  committed = says.committed;
}

pub reads_sum : (protocols : List Participant) (old : Reading) (sum : CoordSum) → Reads protocols old old (Checkpoint sum ∷ [])
reads_sum protocols old sum records says stands = record { attempts = says.attempts; committed = says.committed }

-- ---- several records

pub reads_none : (protocols : List Participant) (a : Reading) → Reads protocols a a []
reads_none protocols a records says stands = says

pub reads_then : (protocols : List Participant) (a b c : Reading) (xs ys : List CoordRecord) → Reads protocols a b xs → Reads protocols b c ys → Reads protocols a c (ys ++ xs)
reads_then protocols a b c xs ys first second records says stands =
    let again = append_assoc ys xs records in
    let all = ap in_order (sym again) ∙ stands in
    subst (Says protocols c) (sym again) (second (xs ++ records) (first records says (stays_true ys (xs ++ records) all)) all)

pub reads_next : {A : Type 0} (protocols : List Participant) (read : A → CoordRecord) (a b c : Reading) (xs : List A) (n : ℕ) (d : A) → 1 ≤ n → n ≤ length xs →
    Reads protocols a b (map read (drop n xs)) → Reads protocols b c (read (get_or xs (n - 1) d) ∷ []) → Reads protocols a c (map read (drop (n - 1) xs))
reads_next protocols read a b c xs n d some within first next =
    subst (λ ys. Reads protocols a c (map read ys)) (sym (drop_one xs n d some within))
    (reads_then protocols a b c (map read (drop n xs)) (read (get_or xs (n - 1) d) ∷ []) first next)

pub reads_ends_next : (protocols : List Participant) (tids : BTreeSet Tid) (a b c : Reading) (xs : List CommittedAttempt) (n : ℕ) (d : CommittedAttempt) → 1 ≤ n → n ≤ length xs →
    Reads protocols a b (ends_in tids (drop n xs)) → Reads protocols b c (end_at tids (get_or xs (n - 1) d)) → Reads protocols a c (ends_in tids (drop (n - 1) xs))
reads_ends_next protocols tids a b c xs n d some within first next =
    subst (Reads protocols a c) (sym (ap (ends_in tids) (drop_one xs n d some within) ∙ ends_one tids (get_or xs (n - 1) d) (drop n xs)))
    (reads_then protocols a b c (ends_in tids (drop n xs)) (end_at tids (get_or xs (n - 1) d)) first next)

pub reads_whole_sum : (protocols : List Participant) (tids : BTreeSet Tid) (a b c e : Reading) (sum : CoordSum)
    → ((tid : Tid) → contains tid_cmp tids tid ≡ some_of (λ (attempt : OpenAttempt). same_tid attempt.tid tid) sum.open_attempts)
    → Reads protocols a b (map initiation_read sum.open_attempts) → Reads protocols b c (map commit_read sum.committed) → Reads protocols c e (ends_in tids sum.committed)
    → Reads protocols a e (coord_sum_read sum)
reads_whole_sum protocols tids a b c e sum are first second third =
    subst (Reads protocols a e) (sum_reads tids sum are)
    (reads_then protocols a c e (map commit_read sum.committed ++ map initiation_read sum.open_attempts) (ends_in tids sum.committed)
    (reads_then protocols a b c (map initiation_read sum.open_attempts) (map commit_read sum.committed) first second) third)
