-- In a usable journal of a site a test tells the local attempts from the prepared ones: whether a Local of the transaction is among its records. So a
-- site goes on from every usable journal of the format.
use Rattle.std.proofs.Common.{◌≡◌, ◌⊎◌, ℕ, Bool, true, false, cond, ◌||◌, Option, Some, None, List, [], ◌∷◌, ◌++◌, map, refl, ap, subst, inl, inr}
use Rattle.mdb_base.specs.declared.names.Tid.{Tid}
use Rattle.mdb_base.specs.declared.names.Tx.{Tx}
use Rattle.mdb_base.specs.Names.{same_tx, tid_before}
use Rattle.mdb_base.specs.Words.{Among, Each, inserted, some_of}
use Rattle.mdb_base.proofs.ForCallers.{among_behind, among_split, same_tx-equal, same_tx-refl}
use Rattle.order_laws.specs.Chains.{In}
use Rattle.order_laws.proofs.ForCallers.{each_from, same_tids}
use Rattle.fed_rules.specs.declared.records.SiteRecord.{SiteRecord}
use Rattle.fed_rules.specs.declared.records.SiteRecord.TheVariants.{Setup, Start, Prepared, Ended, Local, Checkpoint}
use Rattle.fed_rules.specs.declared.sums.SiteSum.{SiteSum}
use Rattle.fed_rules.specs.Reopened.{local_read, owner_read, site_sum_read}
use Rattle.fed_rules.specs.SiteRecords.{Held, Home}
use Rattle.fed_rules.specs.SiteSums.{carried, locals_with}
use Rattle.fed_rules.specs.Usable.{HaveSums, IsGlobalOf, IsLocalOf, SumsFit, counted, read}
use Rattle.site_history.specs.FoundSites.{AreToldApart, IsOf, UsableSitesGoOn}

-- whether it is a Local of the transaction
abbrev is_local_of : Tx → SiteRecord → Bool
is_local_of tx (Local tid number writes) = same_tx tid.tx tx
is_local_of tx other = false

yes_among : (tx : Tx) (rs : List SiteRecord) → Among (IsLocalOf tx) rs → some_of (is_local_of tx) rs ≡ true
yes_among tx [] m = absurd m
yes_among tx (Local t n w ∷ rs) (inl e) = ap (λ b. b || some_of (is_local_of tx) rs) (subst (λ u. same_tx t.tx u ≡ true) e (same_tx-refl t.tx))
yes_among tx (Setup site engine protocol items ∷ rs) (inl never) = absurd never
yes_among tx (Start e ∷ rs) (inl never) = absurd never
yes_among tx (Prepared t e n k w ∷ rs) (inl never) = absurd never
yes_among tx (Ended t d ∷ rs) (inl never) = absurd never
yes_among tx (Checkpoint sum ∷ rs) (inl never) = absurd never
yes_among tx (r ∷ rs) (inr m) = over (is_local_of tx r) (yes_among tx rs m)
  where
    over : (b : Bool) → some_of (is_local_of tx) rs ≡ true → (b || some_of (is_local_of tx) rs) ≡ true
    over true h = refl
    over false h = h

among_yes : (tx : Tx) (rs : List SiteRecord) → some_of (is_local_of tx) rs ≡ true → Among (IsLocalOf tx) rs
among_yes tx [] e = cc
among_yes tx (Local t n w ∷ rs) e = by_test (same_tx t.tx tx) refl e (among_yes tx rs)
  where
    by_test : (b : Bool) → same_tx t.tx tx ≡ b → (b || some_of (is_local_of tx) rs) ≡ true → (some_of (is_local_of tx) rs ≡ true → Among (IsLocalOf tx) rs)
        → Among (IsLocalOf tx) (Local t n w ∷ rs)
    by_test true q f k = inl (same_tx-equal t.tx tx q)
    by_test false q f k = inr (k f)
among_yes tx (Setup site engine protocol items ∷ rs) e = inr (among_yes tx rs e)
among_yes tx (Start n ∷ rs) e = inr (among_yes tx rs e)
among_yes tx (Prepared t d n k w ∷ rs) e = inr (among_yes tx rs e)
among_yes tx (Ended t d ∷ rs) e = inr (among_yes tx rs e)
among_yes tx (Checkpoint sum ∷ rs) e = inr (among_yes tx rs e)

none_among : (tx : Tx) (rs : List SiteRecord) → (Among (IsLocalOf tx) rs → ⊥) → some_of (is_local_of tx) rs ≡ false
none_among tx rs never = by_test (some_of (is_local_of tx) rs) refl
  where
    by_test : (b : Bool) → some_of (is_local_of tx) rs ≡ b → b ≡ false
    by_test false e = refl
    by_test true e = absurd (never (among_yes tx rs e))

-- ---- the locals of a Checkpoint

among_put : (P : Tid → Type 0) (x : Tid) (ys : List Tid) → Among P (inserted tid_before x ys) → P x ⊎ Among P ys
among_put P x [] m = m
among_put P x (y ∷ ys) m = by_test (tid_before y x) m (among_put P x ys)
  where
    by_test : (b : Bool) → Among P (cond b (y ∷ inserted tid_before x ys) (x ∷ y ∷ ys)) → (Among P (inserted tid_before x ys) → P x ⊎ Among P ys) → P x ⊎ Among P (y ∷ ys)
    by_test false m k = m
    by_test true (inl p) k = inr (inl p)
    by_test true (inr i) k = elim (k i) [ inl p ↦ inl p | inr j ↦ inr (inr j) ]

pub locals_from : (tx : Tx) (rs : List SiteRecord) → Among (λ (t : Tid). t.tx ≡ tx) (locals_with [] rs) → Among (IsLocalOf tx) rs
locals_from tx [] m = absurd m
locals_from tx (Local t n w ∷ rs) m = elim (among_put (λ (u : Tid). u.tx ≡ tx) t (locals_with [] rs) m) [ inl e ↦ inl e | inr i ↦ inr (locals_from tx rs i) ]
locals_from tx (Setup site engine protocol items ∷ rs) m = inr (locals_from tx rs m)
locals_from tx (Start e ∷ rs) m = inr (locals_from tx rs m)
locals_from tx (Prepared t e n k w ∷ rs) m = inr (locals_from tx rs m)
locals_from tx (Ended t d ∷ rs) m = inr (locals_from tx rs m)
locals_from tx (Checkpoint sum ∷ rs) m = inr (locals_from tx rs m)

-- what is read of local ones counts
owner_local : (tx : Tx) (o : Option Tid) (sum : SiteSum) → Among (IsLocalOf tx) (owner_read o sum) → ⊥
owner_local tx None sum m = m
owner_local tx (Some owner) sum (inl never) = never
owner_local tx (Some owner) sum (inr (inl never)) = never
owner_local tx (Some owner) sum (inr (inr never)) = never

first_counts : (tx : Tx) (sum : SiteSum) → Among (IsLocalOf tx) (site_sum_read sum) → Among (IsLocalOf tx) (counted (Checkpoint sum ∷ []))
first_counts tx sum m =
    let parts = carried sum.doubtful ++ map (local_read sum.counter) sum.locals in
    elim (among_split (IsLocalOf tx) (parts ++ owner_read sum.owner sum) (Start sum.epoch ∷ []) m) [
      | inl i ↦ elim (among_split (IsLocalOf tx) parts (owner_read sum.owner sum) i) [
        | inl j ↦ j
        | inr j ↦ absurd (owner_local tx sum.owner sum j)
      ]
      | inr i ↦ elim i [ inl never ↦ absurd never | inr never ↦ absurd never ]
    ]

read_counts : (tx : Tx) (rs : List SiteRecord) → Among (IsLocalOf tx) (read rs) → Among (IsLocalOf tx) (counted rs)
read_counts tx [] m = m
read_counts tx (Checkpoint sum ∷ []) (inl never) = absurd never
read_counts tx (Checkpoint sum ∷ []) (inr m) = first_counts tx sum m
read_counts tx (Checkpoint sum ∷ r ∷ rs) (inl never) = absurd never
read_counts tx (Checkpoint sum ∷ r ∷ rs) (inr m) = inr (read_counts tx (r ∷ rs) m)
read_counts tx (Setup site engine protocol items ∷ rs) (inl never) = absurd never
read_counts tx (Setup site engine protocol items ∷ rs) (inr m) = inr (read_counts tx rs m)
read_counts tx (Start e ∷ rs) (inl never) = absurd never
read_counts tx (Start e ∷ rs) (inr m) = inr (read_counts tx rs m)
read_counts tx (Prepared t e n k w ∷ rs) (inl never) = absurd never
read_counts tx (Prepared t e n k w ∷ rs) (inr m) = inr (read_counts tx rs m)
read_counts tx (Ended t d ∷ rs) (inl never) = absurd never
read_counts tx (Ended t d ∷ rs) (inr m) = inr (read_counts tx rs m)
read_counts tx (Local t n w ∷ rs) (inl e) = inl e
read_counts tx (Local t n w ∷ rs) (inr m) = inr (read_counts tx rs m)

local_counts : (n : ℕ) (tx : Tx) (ts : List Tid) → Among (λ (t : Tid). t.tx ≡ tx) ts → Among (IsLocalOf tx) (map (local_read n) ts)
local_counts n tx [] m = m
local_counts n tx (t ∷ ts) (inl e) = inl e
local_counts n tx (t ∷ ts) (inr m) = inr (local_counts n tx ts m)

same_helds : (h : Held) (hs : List Held) → In h hs → Among (λ (x : Held). x.tid.tx ≡ h.tid.tx) hs
same_helds h [] i = i
same_helds h (x ∷ hs) (inl e) = inl (ap (λ (y : Held). y.tid.tx) e)
same_helds h (x ∷ hs) (inr i) = inr (same_helds h hs i)

-- ---- the test tells them apart

module _ (home : Home) (local : Tx → Bool) where
  -- who has a Local is local, and who has a record of a global one isn't
  record Tells (rs : List SiteRecord) : Type 0 where
    yes : (tx : Tx) → Among (IsLocalOf tx) (counted rs) → local tx ≡ true
    no : (tx : Tx) → Among (IsGlobalOf tx) rs → local tx ≡ false

  checkpoint_told : (sum : SiteSum) → ((tx : Tx) → IsGlobalOf tx (Checkpoint sum) → local tx ≡ false)
      → ((tx : Tx) → Among (λ (t : Tid). t.tx ≡ tx) sum.locals → local tx ≡ true) → AreToldApart local (Checkpoint sum)
  checkpoint_told sum global mine = (
    each_from (λ (held : Held). local held.tid.tx ≡ false) sum.doubtful (λ held i. global held.tid.tx (inl (same_helds held sum.doubtful i))),
    by_owner sum.owner refl,
    each_from (λ (tid : Tid). local tid.tx ≡ true) sum.locals (λ tid i. mine tid.tx (same_tids tid sum.locals i)),
  )
    where
      by_owner : (o : Option Tid) → sum.owner ≡ o → IsOf local false o
      by_owner None e = tt
      by_owner (Some owner) e = global owner.tx (inr (owner, e, refl))

  all_told : (rs : List SiteRecord) → SumsFit home rs → Tells rs → Each (AreToldApart local) rs
  all_told [] fit t = tt
  all_told (Checkpoint sum ∷ []) fit t = (
    checkpoint_told sum (λ tx g. t.no tx (inl g))
        (λ tx m. t.yes tx (among_behind (IsLocalOf tx) (carried sum.doubtful) (map (local_read sum.counter) sum.locals) (local_counts sum.counter tx sum.locals m))),
    tt,
  )
  all_told (Checkpoint sum ∷ r ∷ rs) fit t = (
    checkpoint_told sum (λ tx g. t.no tx (inl g))
        (λ tx m. t.yes tx (inr (read_counts tx (r ∷ rs) (locals_from tx (read (r ∷ rs)) (subst (λ (s : SiteSum). Among (λ (u : Tid). u.tx ≡ tx) s.locals) fit.0 m))))),
    all_told (r ∷ rs) fit.1 (record { yes = λ tx m. t.yes tx (inr m); no = λ tx g. t.no tx (inr g) }),
  )
  all_told (Local u n w ∷ rs) fit t = (t.yes u.tx (inl refl), all_told rs (rest rs fit) (record { yes = λ tx m. t.yes tx (inr m); no = λ tx g. t.no tx (inr g) }))
    where
      rest : (xs : List SiteRecord) → SumsFit home (Local u n w ∷ xs) → SumsFit home xs
      rest [] f = tt
      rest (x ∷ xs) f = f
  all_told (Prepared u e n k w ∷ rs) fit t = (t.no u.tx (inl refl), all_told rs (rest rs fit) (record { yes = λ tx m. t.yes tx (inr m); no = λ tx g. t.no tx (inr g) }))
    where
      rest : (xs : List SiteRecord) → SumsFit home (Prepared u e n k w ∷ xs) → SumsFit home xs
      rest [] f = tt
      rest (x ∷ xs) f = f
  all_told (Setup site engine protocol items ∷ rs) fit t = (tt, all_told rs (rest rs fit) (record { yes = λ tx m. t.yes tx (inr m); no = λ tx g. t.no tx (inr g) }))
    where
      rest : (xs : List SiteRecord) → SumsFit home (Setup site engine protocol items ∷ xs) → SumsFit home xs
      rest [] f = tt
      rest (x ∷ xs) f = f
  all_told (Start e ∷ rs) fit t = (tt, all_told rs (rest rs fit) (record { yes = λ tx m. t.yes tx (inr m); no = λ tx g. t.no tx (inr g) }))
    where
      rest : (xs : List SiteRecord) → SumsFit home (Start e ∷ xs) → SumsFit home xs
      rest [] f = tt
      rest (x ∷ xs) f = f
  all_told (Ended u d ∷ rs) fit t = (tt, all_told rs (rest rs fit) (record { yes = λ tx m. t.yes tx (inr m); no = λ tx g. t.no tx (inr g) }))
    where
      rest : (xs : List SiteRecord) → SumsFit home (Ended u d ∷ xs) → SumsFit home xs
      rest [] f = tt
      rest (x ∷ xs) f = f

pub sites_go_on : UsableSitesGoOn
sites_go_on home number journal usable is rising =
    let local : Tx → Bool = λ tx. some_of (is_local_of tx) (counted journal.records) in (
      local,
      record {
        number = number;
        usable = usable;
        is_home = is;
        rising = rising;
        told = all_told home local journal.records (subst (λ o. HaveSums o journal.records) is usable.sums) (record {
          yes = λ tx m. yes_among tx (counted journal.records) m;
          no = λ tx g. none_among tx (counted journal.records) (λ l. usable.parted tx l g);
        });
      },
    )
