-- A site on whose disk a usable journal is found: its Checkpoints are Sums, its installs come in order, and so its journal says what all its
-- records say.
use Rattle.std.proofs.Common.{◌≡◌, ℕ, Bool, true, false, nat_le, Option, Some, None, List, [], ◌∷◌, ◌++◌, map, refl, sym, ◌∙◌, subst, inl, inr, arith}
use Rattle.std.specs.Prelude.{nat_lt}
use Rattle.std.proofs.lemmas.Bool.{leb-true, leb-false}
use Rattle.std.proofs.lemmas.List.{append-nil, append_assoc}
use Rattle.mdb_base.specs.declared.names.Tid.{Tid}
use Rattle.mdb_base.specs.declared.rows.Put.{Put}
use Rattle.mdb_base.specs.Words.{Each}
use Rattle.mdb_base.proofs.ForCallers.{each_all, each_among, each_inserted, each_map}
use Rattle.presumptions.specs.declared.Decision.TheVariants as Decided
use Rattle.fed_rules.specs.declared.records.SiteRecord.{SiteRecord}
use Rattle.fed_rules.specs.declared.records.SiteRecord.TheVariants.{Setup, Start, Prepared, Ended, Local, Checkpoint}
use Rattle.fed_rules.specs.declared.sums.SiteSum.{SiteSum}
use Rattle.fed_rules.specs.EngineLines.{has_row}
use Rattle.fed_rules.specs.Reopened.{home_by, local_read, oldest, owner_read, site_reads_as, site_sum_read}
use Rattle.fed_rules.specs.SiteRecords.{Held, Home, Install, doubt_of, doubts, installs}
use Rattle.fed_rules.specs.SiteSums.{carried}
use Rattle.fed_rules.specs.Usable.{AreBehind, AreSumsOfSome, AreWithin, IsBehind, LocalsOnTop, OfFronts, SumsFit, counted, read}
use Rattle.fed_rules.proofs.ForCallers.{expanded}
use Rattle.site_history.proofs.Fronts.{whole_of_fronts}
use Rattle.site_history.proofs.Records.{due_install}
use Rattle.site_history.specs.Sums.{AreDisjoint, AreSums, ComeInOrder, HeldComes, StaysBelow}
use Rattle.site_history.proofs.Doubtful.{are_doubts}
use Rattle.site_history.proofs.InOrder.{AllFit, DoubtsFit, IsInOrder}
use Rattle.site_history.proofs.Founded.{foundation}
use Rattle.site_history.proofs.ReadSums.{IsHomeOf, WritesNothing, below, beside, in_parts, owner_doubt, says_sum}
use Rattle.site_history.proofs.SameSays.{SameDue, SameSays, all_due, all_say, due_more, same_sum, says_more}

-- ---- what the records are read as, with those of a first Checkpoint and the set-up below

abbrev pub all_read : Home → SiteRecord → List SiteRecord → List SiteRecord
all_read home newest older = expanded site_reads_as newest older ++ foundation home

pub read_more : (newest next : SiteRecord) (older : List SiteRecord) → read (newest ∷ next ∷ older) ≡ newest ∷ read (next ∷ older)
read_more (Setup site engine protocol items) next older = refl
read_more (Start n) next older = refl
read_more (Prepared t e n ticket writes) next older = refl
read_more (Ended t d) next older = refl
read_more (Local t n writes) next older = refl
read_more (Checkpoint sum) next older = refl

pub counted_more : (newest next : SiteRecord) (older : List SiteRecord) → counted (newest ∷ next ∷ older) ≡ newest ∷ counted (next ∷ older)
counted_more (Setup site engine protocol items) next older = refl
counted_more (Start n) next older = refl
counted_more (Prepared t e n ticket writes) next older = refl
counted_more (Ended t d) next older = refl
counted_more (Local t n writes) next older = refl
counted_more (Checkpoint sum) next older = refl

-- nothing is said below a set-up
pub nothing_below : (home : Home) → SameSays (Start 0 ∷ foundation home) []
nothing_below home = record { same = record { due = refl; doubt = λ tid. refl }; number = refl; ticket = refl; owner = refl; epoch = refl; locals = refl }

below_start : (home : Home) (n : ℕ) → SameSays (Start n ∷ foundation home) (Start n ∷ [])
below_start home n = record { same = record { due = refl; doubt = λ tid. refl }; number = refl; ticket = refl; owner = refl; epoch = refl; locals = refl }

pub first_says : (home : Home) (first : SiteRecord) → SameSays (first ∷ (site_reads_as first ++ foundation home)) (read (first ∷ []))
first_says home (Checkpoint sum) =
    let parts = (carried sum.doubtful ++ map (local_read sum.counter) sum.locals) ++ owner_read sum.owner sum in
    says_more (Checkpoint sum) (site_sum_read sum ++ foundation home) (site_sum_read sum)
    (subst (λ rs. SameSays rs (site_sum_read sum)) (sym (append_assoc parts (Start sum.epoch ∷ []) (foundation home)))
    (all_say parts (Start sum.epoch ∷ foundation home) (Start sum.epoch ∷ []) (below_start home sum.epoch)))
first_says home (Setup site engine protocol items) = says_more (Setup site engine protocol items) _ _ (nothing_below home)
first_says home (Start n) = says_more (Start n) _ _ (nothing_below home)
first_says home (Prepared t e n ticket writes) = says_more (Prepared t e n ticket writes) _ _ (nothing_below home)
first_says home (Ended t d) = says_more (Ended t d) _ _ (nothing_below home)
first_says home (Local t n writes) = says_more (Local t n writes) _ _ (nothing_below home)

-- the records say what those read say
pub all_says : (home : Home) (newest : SiteRecord) (older : List SiteRecord) → SameSays (all_read home newest older) (read (newest ∷ older))
all_says home first [] = first_says home first
all_says home newest (next ∷ older) =
    subst (SameSays (all_read home newest (next ∷ older))) (sym (read_more newest next older))
    (says_more newest (all_read home next older) (read (next ∷ older)) (all_says home next older))

owner_same : (home : Home) (sum : SiteSum) → SameDue (owner_read sum.owner sum ++ below home sum) []
owner_same home sum = record { due = by_owner sum.owner; doubt = λ tid. owner_doubt sum.owner sum (below home sum) tid refl }
  where
    by_owner : (o : Option Tid) → installs (owner_read o sum ++ below home sum) ≡ []
    by_owner None = refl
    by_owner (Some owner) = refl

pub first_due : (home : Home) (first : SiteRecord) → SameDue (first ∷ (site_reads_as first ++ foundation home)) (counted (first ∷ []))
first_due home (Checkpoint sum) =
    let held = carried sum.doubtful in
    let locals = map (local_read sum.counter) sum.locals in
    let behind = owner_read sum.owner sum ++ below home sum in
    let all : SameDue (held ++ (locals ++ behind)) (held ++ locals) =
    all_due held (locals ++ behind) locals (subst (SameDue (locals ++ behind)) (append-nil locals) (all_due locals behind [] (owner_same home sum))) in
    let s = subst (λ rs. SameDue rs (held ++ locals)) (sym (in_parts home sum)) all in
    record { due = s.due; doubt = s.doubt }
first_due home (Setup site engine protocol items) = due_more (Setup site engine protocol items) _ _ (nothing_below home).same
first_due home (Start n) = due_more (Start n) _ _ (nothing_below home).same
first_due home (Prepared t e n ticket writes) = due_more (Prepared t e n ticket writes) _ _ (nothing_below home).same
first_due home (Ended t d) = due_more (Ended t d) _ _ (nothing_below home).same
first_due home (Local t n writes) = due_more (Local t n writes) _ _ (nothing_below home).same

-- what is installed and in doubt by those counted is so by all
pub all_due_same : (home : Home) (newest : SiteRecord) (older : List SiteRecord) → SameDue (all_read home newest older) (counted (newest ∷ older))
all_due_same home first [] = first_due home first
all_due_same home newest (next ∷ older) =
    subst (SameDue (all_read home newest (next ∷ older))) (sym (counted_more newest next older))
    (due_more newest (all_read home next older) (counted (next ∷ older)) (all_due_same home next older))

-- ---- each Checkpoint is a Sum

no_sums_carried : (home : Home) (held : List Held) (rs : List SiteRecord) → AreSums home rs → AreSums home (carried held ++ rs)
no_sums_carried home [] rs s = s
no_sums_carried home (x ∷ held) rs s = no_sums_carried home held rs s

no_sums_locals : (home : Home) (n : ℕ) (tids : List Tid) (rs : List SiteRecord) → AreSums home rs → AreSums home (map (local_read n) tids ++ rs)
no_sums_locals home n [] rs s = s
no_sums_locals home n (t ∷ tids) rs s = no_sums_locals home n tids rs s

no_sums_owner : (home : Home) (owner : Option Tid) (sum : SiteSum) → AreSums home (owner_read owner sum ++ below home sum)
no_sums_owner home None sum = tt
no_sums_owner home (Some owner) sum = tt

no_sums_read : (home : Home) (sum : SiteSum) → AreSums home (site_sum_read sum ++ foundation home)
no_sums_read home sum =
    subst (AreSums home) (sym (in_parts home sum))
    (no_sums_carried home sum.doubtful (beside home sum) (no_sums_locals home sum.counter sum.locals _ (no_sums_owner home sum.owner sum)))

home_is : (home : Home) (sum : SiteSum) → home_by (Checkpoint sum) ≡ Some home → IsHomeOf home sum
home_is home sum e = let is : Some (record { site = sum.site; engine = sum.engine; protocol = sum.protocol; items = sum.rows }) ≡ Some home = e in cc

first_sums : (home : Home) (first : SiteRecord) → home_by first ≡ Some home → AreWithin first → AreSumsOfSome first
    → AreSums home (first ∷ (site_reads_as first ++ foundation home))
first_sums home (Checkpoint sum) is within some = (sym (says_sum home sum (home_is home sum is) within some), no_sums_read home sum)
first_sums home (Setup site engine protocol items) is within some = tt
first_sums home (Start n) is within some = tt
first_sums home (Prepared t e n ticket writes) is within some = tt
first_sums home (Ended t d) is within some = tt
first_sums home (Local t n writes) is within some = tt

pub all_sums : (home : Home) (newest : SiteRecord) (older : List SiteRecord) → home_by (oldest newest older) ≡ Some home
    → Each AreWithin (newest ∷ older) → Each AreSumsOfSome (newest ∷ older) → SumsFit home (newest ∷ older) → AreSums home (all_read home newest older)
all_sums home first [] is within some fit = first_sums home first is within.0 some.0
all_sums home newest (next ∷ older) is within some fit = by_record newest fit (λ f. all_sums home next older is within.1 some.1 f)
  where
    by_record : (r : SiteRecord) → SumsFit home (r ∷ next ∷ older) → (SumsFit home (next ∷ older) → AreSums home (all_read home next older))
        → AreSums home (r ∷ all_read home next older)
    by_record (Checkpoint sum) f rest = (f.0 ∙ sym (same_sum home (all_read home next older) (read (next ∷ older)) (all_says home next older)), rest f.1)
    by_record (Setup site engine protocol items) f rest = rest f
    by_record (Start n) f rest = rest f
    by_record (Prepared t e n ticket writes) f rest = rest f
    by_record (Ended t d) f rest = rest f
    by_record (Local t n writes) f rest = rest f

-- ---- installs come in order

-- what writes nothing stays below, and has all others below
none_disjoint : (writes : List Put) → AreDisjoint writes []
none_disjoint writes = each_all (λ put. has_row put.key [] ≡ false) (λ put. refl) writes

stays_below_none : (newer older : Install) → WritesNothing older → StaysBelow newer older
stays_below_none newer older none = inr (subst (AreDisjoint newer.writes) (sym none) (none_disjoint newer.writes))

IsQuiet : List SiteRecord → Type 0
IsQuiet rs = Each WritesNothing (installs rs)

quiet_fit : (rs : List SiteRecord) → OfFronts IsQuiet rs → AllFit rs
unfolding IsQuiet
quiet_fit [] q = tt
quiet_fit (newest ∷ rs) q = (
  (λ tid held e. each_map WritesNothing (StaysBelow (due_install held)) (λ i none. stays_below_none (due_install held) i none) (installs (newest ∷ rs)) q.0),
  quiet_fit rs q.1,
)

quiet_carried : (held : List Held) (rs : List SiteRecord) → OfFronts IsQuiet rs → OfFronts IsQuiet (carried held ++ rs)
unfolding IsQuiet
quiet_carried [] rs q = q
quiet_carried (x ∷ held) rs q = let h = quiet_carried held rs q in (whole_of_fronts IsQuiet (carried held ++ rs) h, h)

quiet_locals : (n : ℕ) (tids : List Tid) (rs : List SiteRecord) → OfFronts IsQuiet rs → OfFronts IsQuiet (map (local_read n) tids ++ rs)
unfolding IsQuiet
quiet_locals n [] rs q = q
quiet_locals n (t ∷ tids) rs q =
    let h = quiet_locals n tids rs q in (
      each_inserted WritesNothing (λ (a b : Install). nat_lt b.number a.number) (record { tid = t; number = n; writes = [] }) (installs (map (local_read n) tids ++ rs)) refl
          (whole_of_fronts IsQuiet (map (local_read n) tids ++ rs) h),
      h,
    )

quiet_owner : (home : Home) (owner : Option Tid) (sum : SiteSum) → OfFronts IsQuiet (owner_read owner sum ++ below home sum)
unfolding IsQuiet
quiet_owner home None sum = (tt, (tt, (tt, tt)))
quiet_owner home (Some owner) sum = (tt, (tt, (tt, (tt, (tt, tt)))))

-- so it is of what a Checkpoint is read as
read_quiet : (home : Home) (sum : SiteSum) → OfFronts IsQuiet (carried sum.doubtful ++ beside home sum)
read_quiet home sum = quiet_carried sum.doubtful (beside home sum) (quiet_locals sum.counter sum.locals _ (quiet_owner home sum.owner sum))

order_carried : (held : List Held) (rs : List SiteRecord) → ComeInOrder rs → ComeInOrder (carried held ++ rs)
order_carried [] rs c = c
order_carried (x ∷ held) rs c = order_carried held rs c

order_locals : (n : ℕ) (tids : List Tid) (rs : List SiteRecord) → ComeInOrder rs → ComeInOrder (map (local_read n) tids ++ rs)
order_locals n [] rs c = c
order_locals n (t ∷ tids) rs c = (
  each_all (StaysBelow (record { tid = t; number = n; writes = [] })) (λ i. inr tt) (installs (map (local_read n) tids ++ rs)),
  order_locals n tids rs c,
)

order_owner : (home : Home) (owner : Option Tid) (sum : SiteSum) → ComeInOrder (owner_read owner sum ++ below home sum)
order_owner home None sum = tt
order_owner home (Some owner) sum = tt

pub first_order : (home : Home) (first : SiteRecord) → home_by first ≡ Some home → IsInOrder (first ∷ (site_reads_as first ++ foundation home))
unfolding IsQuiet
first_order home (Checkpoint sum) is = record {
  order = subst ComeInOrder (sym (in_parts home sum))
      (order_carried sum.doubtful (beside home sum) (order_locals sum.counter sum.locals _ (order_owner home sum.owner sum)));
  fit = quiet_fit (Checkpoint sum ∷ (site_sum_read sum ++ foundation home))
      (subst (λ rs. OfFronts IsQuiet (Checkpoint sum ∷ rs)) (sym (in_parts home sum))
      (whole_of_fronts IsQuiet (carried sum.doubtful ++ beside home sum) (read_quiet home sum), read_quiet home sum));
}
first_order home (Setup site engine protocol items) is = record { order = tt; fit = quiet_fit (Setup site engine protocol items ∷ Start 0 ∷ foundation home) (tt, (tt, (tt, (tt, tt)))) }
first_order home (Start n) is = cc
first_order home (Prepared t e n ticket writes) is = cc
first_order home (Ended t d) is = cc
first_order home (Local t n writes) is = cc

-- one in doubt with what is installed
stays : (held : Held) (i : Install) → IsBehind held i → StaysBelow (due_install held) i
stays held i b = by_test (nat_le held.number i.number) refl
  where
    by_test : (c : Bool) → nat_le held.number i.number ≡ c → StaysBelow (due_install held) i
    by_test true e = inr (b (leb-true held.number i.number e))
    by_test false e = let more = leb-false held.number i.number e in inl (omega (arith, more))

doubt_fits : (all some : List SiteRecord) → SameDue all some → Each (λ held. Each (IsBehind held) (installs some)) (doubts some) → DoubtsFit all
doubt_fits all some same clear tid held e =
    let here : doubt_of some tid ≡ Some held = sym (same.doubt tid) ∙ e in
    subst (Each (StaysBelow (due_install held))) (sym same.due)
    (each_map (IsBehind held) (StaysBelow (due_install held)) (stays held) (installs some)
    (each_among (λ (h : Held). Each (IsBehind h) (installs some)) held (doubts some) clear (are_doubts some tid held here)))

pub all_in_order : (home : Home) (newest : SiteRecord) (older : List SiteRecord) → home_by (oldest newest older) ≡ Some home
    → OfFronts AreBehind (newest ∷ older) → LocalsOnTop (newest ∷ older) → IsInOrder (all_read home newest older)
all_in_order home first [] is clear top = first_order home first is
all_in_order home newest (next ∷ older) is clear top =
    let before : IsInOrder (all_read home next older) = all_in_order home next older is clear.1 (top_behind newest top) in
    record {
      order = by_record newest top before.order;
      fit = (doubt_fits (all_read home newest (next ∷ older)) (counted (newest ∷ next ∷ older)) (all_due_same home newest (next ∷ older)) clear.0, before.fit);
    }
  where
    top_behind : (r : SiteRecord) → LocalsOnTop (r ∷ next ∷ older) → LocalsOnTop (next ∷ older)
    top_behind (Setup site engine protocol items) t = t
    top_behind (Start n) t = t
    top_behind (Prepared u e n ticket writes) t = t
    top_behind (Ended u d) t = t
    top_behind (Local u n writes) t = t.1
    top_behind (Checkpoint sum) t = t

    same : SameDue (all_read home next older) (counted (next ∷ older))
    same = all_due_same home next older

    comes : (o : Option Held) (u : Tid) → doubt_of (all_read home next older) u ≡ o → HeldComes o (installs (all_read home next older))
    comes None u e = tt
    comes (Some held) u e = doubt_fits (all_read home next older) (counted (next ∷ older)) same clear.1.0 u held e

    by_record : (r : SiteRecord) → LocalsOnTop (r ∷ next ∷ older) → ComeInOrder (all_read home next older) → ComeInOrder (r ∷ all_read home next older)
    by_record (Setup site engine protocol items) t before = before
    by_record (Start n) t before = before
    by_record (Prepared u e n ticket writes) t before = before
    by_record (Checkpoint sum) t before = before
    by_record (Ended u Decided.Abort) t before = before
    by_record (Ended u Decided.Commit) t before = (comes (doubt_of (all_read home next older) u) u refl, before)
    by_record (Local u n writes) t before =
        (subst (Each (StaysBelow (record { tid = u; number = n; writes = writes }))) (sym same.due) t.0, before)
