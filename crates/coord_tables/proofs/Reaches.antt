-- What a list of attempts that were begun comes to, one after the other.
use Rattle.std.proofs.Common.{◌≡◌, ℕ, ◌+◌, ◌<◌, ◌≤◌, max, Bool, true, false, cond, List, [], ◌∷◌, ◌++◌, map, length, drop, get_or, refl, sym, ap, ap₂, subst, ◌∙◌, arith}
use Rattle.std.specs.Prelude.{All}
use Rattle.std.specs.List.{AllByRecursion}
use Rattle.std.proofs.lemmas.List.{at_drop_more}
use Rattle.std.proofs.lemmas.List.Elements.{All-from_recursion}
use Rattle.mdb_base.specs.declared.names.Tid.{Tid}
use Rattle.mdb_base.specs.declared.names.Tx.{Tx}
use Rattle.mdb_base.specs.Names.{same_tx}
use Rattle.mdb_base.specs.Words.{Each}
use Rattle.mdb_base.proofs.ForCallers.{each_append, same_tx-equal, same_tx-from}
use Rattle.fed_rules.specs.declared.records.CoordRecord.{CoordRecord}
use Rattle.fed_rules.specs.declared.records.CoordRecord.TheVariants.{Checkpoint}
use Rattle.fed_rules.specs.declared.sums.CommittedAttempt.{CommittedAttempt}
use Rattle.fed_rules.specs.declared.sums.CoordSum.{CoordSum}
use Rattle.fed_rules.specs.declared.sums.OpenAttempt.{OpenAttempt}
use Rattle.coord_tables.specs.Found.{attempts_in, found_from, reached, with_reached}
use Rattle.coord_tables.specs.Trees.{noted}

-- the greater count in place of the old one
pub noted_reached : (old new : List (Tx × ℕ)) (tid : Tid) (tx : Tx) → noted new tx ≡ cond (same_tx tid.tx tx) (max (noted old tid.tx) (tid.attempt + 1)) (noted old tx) → noted new tx ≡ with_reached tx (noted old tx) tid
noted_reached old new tid tx is = is ∙ by_test (same_tx tid.tx tx) refl
  where
    by_test : (b : Bool) → same_tx tid.tx tx ≡ b → cond b (max (noted old tid.tx) (tid.attempt + 1)) (noted old tx) ≡ cond b (max (noted old tx) (tid.attempt + 1)) (noted old tx)
    by_test true own = ap (λ (u : Tx). max (noted old u) (tid.attempt + 1)) (same_tx-equal tid.tx tx own)
    by_test false other = refl

-- one more of the list
pub reached_next : {A : Type 0} (at : A → Tid) (tx : Tx) (old new : ℕ) (items : List A) (i : ℕ) (x : A) → i < length items → x ≡ get_or items i x → new ≡ with_reached tx old (at x)
    → reached tx new (map at (drop (i + 1) items)) ≡ reached tx old (map at (drop i items))
reached_next {A} at tx old new items i x less is step =
    let split : reached tx old (map at (drop i items)) ≡ reached tx (with_reached tx old (at (get_or items i x))) (map at (drop (i + 1) items)) =
    at_drop_more (λ (xs : List A). reached tx old (map at xs)) items i x less in
    ap (λ n. reached tx n (map at (drop (i + 1) items))) (step ∙ ap (λ (y : A). with_reached tx old (at y)) is) ∙ sym split

pub found_next : (tx : Tx) (old new : ℕ) (records : List CoordRecord) (i : ℕ) (x : CoordRecord) → i < length records → x ≡ get_or records i x → new ≡ reached tx old (attempts_in x)
    → found_from tx new (drop (i + 1) records) ≡ found_from tx old (drop i records)
found_next tx old new records i x less is step =
    let split : found_from tx old (drop i records) ≡ found_from tx (reached tx old (attempts_in (get_or records i x))) (drop (i + 1) records) =
    at_drop_more (λ (rs : List CoordRecord). found_from tx old rs) records i x less in
    ap (λ n. found_from tx n (drop (i + 1) records)) (step ∙ ap (λ (r : CoordRecord). reached tx old (attempts_in r)) is) ∙ sym split

-- one list behind another
pub reached_both : (tx : Tx) (count : ℕ) (tids more : List Tid) → reached tx count (tids ++ more) ≡ reached tx (reached tx count tids) more
reached_both tx count [] more = refl
reached_both tx count (tid ∷ tids) more = reached_both tx (with_reached tx count tid) tids more

-- ---- what it comes to is the greatest of all

one_most : (tx : Tx) (most count : ℕ) (tid : Tid) → count ≤ most → (tid.tx ≡ tx → tid.attempt < most) → with_reached tx count tid ≤ most
one_most tx most count tid le own = by_test (same_tx tid.tx tx) refl
  where
    by_test : (b : Bool) → same_tx tid.tx tx ≡ b → cond b (max count (tid.attempt + 1)) count ≤ most
    by_test true is = let less = own (same_tx-equal tid.tx tx is) in omega (arith, le, less)
    by_test false is = le

one_least : (tx : Tx) (count : ℕ) (tid : Tid) → count ≤ with_reached tx count tid
one_least tx count tid = by_test (same_tx tid.tx tx)
  where
    by_test : (b : Bool) → count ≤ cond b (max count (tid.attempt + 1)) count
    by_test true = omega arith
    by_test false = omega arith

one_own : (tx : Tx) (count : ℕ) (tid : Tid) → tid.tx ≡ tx → tid.attempt < with_reached tx count tid
one_own tx count tid is = by_test (same_tx tid.tx tx) (same_tx-from tid.tx tx is)
  where
    by_test : (b : Bool) → b ≡ true → tid.attempt < cond b (max count (tid.attempt + 1)) count
    by_test true e = omega arith
    by_test false e = cc

reached_most : (tx : Tx) (most count : ℕ) (tids : List Tid) → count ≤ most → Each (λ tid. tid.tx ≡ tx → tid.attempt < most) tids → reached tx count tids ≤ most
reached_most tx most count [] le each = le
reached_most tx most count (tid ∷ tids) le each = reached_most tx most (with_reached tx count tid) tids (one_most tx most count tid le each.0) each.1

reached_least : (tx : Tx) (count : ℕ) (tids : List Tid) → count ≤ reached tx count tids
reached_least tx count [] = omega arith
reached_least tx count (tid ∷ tids) =
    let one = one_least tx count tid in
    let rest = reached_least tx (with_reached tx count tid) tids in
    omega (arith, one, rest)

reached_all : (tx : Tx) (most count : ℕ) (tids : List Tid) → reached tx count tids ≤ most → Each (λ tid. tid.tx ≡ tx → tid.attempt < most) tids
reached_all tx most count [] le = tt
reached_all tx most count (tid ∷ tids) le = (
  (λ is. let own = one_own tx count tid is in let rest = reached_least tx (with_reached tx count tid) tids in omega (arith, own, rest, le)),
  reached_all tx most (with_reached tx count tid) tids le,
)

-- no more than is more than each attempt's number
pub found_most : (tx : Tx) (most count : ℕ) (records : List CoordRecord) → count ≤ most → Each (λ r. Each (λ tid. tid.tx ≡ tx → tid.attempt < most) (attempts_in r)) records → found_from tx count records ≤ most
found_most tx most count [] le each = le
found_most tx most count (r ∷ records) le each = found_most tx most (reached tx count (attempts_in r)) records (reached_most tx most count (attempts_in r) le each.0) each.1

found_least : (tx : Tx) (count : ℕ) (records : List CoordRecord) → count ≤ found_from tx count records
found_least tx count [] = omega arith
found_least tx count (r ∷ records) =
    let one = reached_least tx count (attempts_in r) in
    let rest = found_least tx (reached tx count (attempts_in r)) records in
    omega (arith, one, rest)

found_below : (tx : Tx) (most count : ℕ) (records : List CoordRecord) → found_from tx count records ≤ most → Each (λ r. Each (λ tid. tid.tx ≡ tx → tid.attempt < most) (attempts_in r)) records
found_below tx most count [] le = tt
found_below tx most count (r ∷ records) le =
    let rest = found_least tx (reached tx count (attempts_in r)) records in
    (reached_all tx most count (attempts_in r) (omega (arith, rest, le)), found_below tx most (reached tx count (attempts_in r)) records le)

-- and more than each
pub found_all : (tx : Tx) (count : ℕ) (records : List CoordRecord) → Each (λ r. Each (λ tid. tid.tx ≡ tx → tid.attempt < found_from tx count records) (attempts_in r)) records
found_all tx count records = found_below tx (found_from tx count records) count records (omega arith)

-- ---- the lists of a Checkpoint

small_list : {A : Type 0} (at : A → Tid) (xs : List A) → Each (λ (tid : Tid). tid.attempt < 32) (map at xs) → AllByRecursion (λ x. (at x).attempt < 32) xs
small_list at [] h = tt
small_list at (x ∷ xs) h = (h.0, small_list at xs h.1)

-- their attempts are small where those of the record are
pub open_small : (r : CoordRecord) (sum : CoordSum) (xs : List OpenAttempt) → Each (λ (tid : Tid). tid.attempt < 32) (attempts_in r) → r ≡ Checkpoint sum → xs ≡ sum.open_attempts
    → All (λ (a : OpenAttempt). a.tid.attempt < 32) xs
open_small r sum xs h is same =
    let here : Each (λ (tid : Tid). tid.attempt < 32) (attempts_in (Checkpoint sum)) = subst (λ (k : CoordRecord). Each (λ (tid : Tid). tid.attempt < 32) (attempts_in k)) is h in
    let opens = (each_append (λ (tid : Tid). tid.attempt < 32) (map (λ (a : OpenAttempt). a.tid) sum.open_attempts) (map (λ (a : CommittedAttempt). a.tid) sum.committed) here).0 in
    subst (λ (ys : List OpenAttempt). All (λ (a : OpenAttempt). a.tid.attempt < 32) ys) (sym same)
    (All-from_recursion (λ (a : OpenAttempt). a.tid.attempt < 32) sum.open_attempts (small_list (λ (a : OpenAttempt). a.tid) sum.open_attempts opens))

pub committed_small : (r : CoordRecord) (sum : CoordSum) (xs : List CommittedAttempt) → Each (λ (tid : Tid). tid.attempt < 32) (attempts_in r) → r ≡ Checkpoint sum → xs ≡ sum.committed
    → All (λ (a : CommittedAttempt). a.tid.attempt < 32) xs
committed_small r sum xs h is same =
    let here : Each (λ (tid : Tid). tid.attempt < 32) (attempts_in (Checkpoint sum)) = subst (λ (k : CoordRecord). Each (λ (tid : Tid). tid.attempt < 32) (attempts_in k)) is h in
    let committed = (each_append (λ (tid : Tid). tid.attempt < 32) (map (λ (a : OpenAttempt). a.tid) sum.open_attempts) (map (λ (a : CommittedAttempt). a.tid) sum.committed) here).1 in
    subst (λ (ys : List CommittedAttempt). All (λ (a : CommittedAttempt). a.tid.attempt < 32) ys) (sym same)
    (All-from_recursion (λ (a : CommittedAttempt). a.tid.attempt < 32) sum.committed (small_list (λ (a : CommittedAttempt). a.tid) sum.committed committed))

-- both lists of it are its attempts
pub sum_reached : (tx : Tx) (r : CoordRecord) (sum : CoordSum) (os : List OpenAttempt) (cs : List CommittedAttempt) (old mid new : ℕ) → r ≡ Checkpoint sum → os ≡ sum.open_attempts → cs ≡ sum.committed
    → mid ≡ reached tx old (map (λ (a : OpenAttempt). a.tid) os) → new ≡ reached tx mid (map (λ (a : CommittedAttempt). a.tid) cs) → new ≡ reached tx old (attempts_in r)
sum_reached tx r sum os cs old mid new is opens committed first second =
    second
    ∙ ap₂ (λ (m : ℕ) (ks : List CommittedAttempt). reached tx m (map (λ (a : CommittedAttempt). a.tid) ks)) (first ∙ ap (λ (ks : List OpenAttempt). reached tx old (map (λ (a : OpenAttempt). a.tid) ks)) opens) committed
    ∙ sym (reached_both tx old (map (λ (a : OpenAttempt). a.tid) sum.open_attempts) (map (λ (a : CommittedAttempt). a.tid) sum.committed))
    ∙ ap (λ (k : CoordRecord). reached tx old (attempts_in k)) (sym is)
