-- The sets of a site's transactions with more records.
use Rattle.std.proofs.Common.{ℕ, ◌+◌, ◌<◌, ◌≡◌, Bool, true, false, ◌||◌, Option, Some, None, List, [], ◌∷◌, ◌++◌, length, take, map, reverse, get_or, refl, sym, ap, ap₂, subst, ◌∙◌, ◌↔◌, ◌⊎◌, inl, inr, arith}
use Rattle.std.proofs.lemmas.List.{reverse-append, take_more}
use Rattle.std.specs.BTreeMap.{is_at}
use Rattle.std.specs.BTreeSet.{BTreeSet, IsDisjoint, contains}
use Rattle.std.specs.List.{list_any}
use Rattle.mdb_base.specs.declared.names.Tid.{Tid}
use Rattle.mdb_base.specs.declared.names.Tx.{Tx}
use Rattle.mdb_base.specs.Names.{same_tx, tx_cmp}
use Rattle.mdb_base.specs.Words.{Among, some_of}
use Rattle.mdb_base.proofs.ForCallers.{or_assoc, or_false, or_swapped, same_tx-equal, same_tx-refl, some_of-push, some_reverse}
use Rattle.fed_rules.specs.declared.records.SiteRecord.{SiteRecord}
use Rattle.fed_rules.specs.declared.records.SiteRecord.TheVariants.{Setup, Start, Prepared, Ended, Local, Checkpoint}
use Rattle.fed_rules.specs.declared.sums.SiteSum.{SiteSum}
use Rattle.fed_rules.specs.Reopened.{local_read}
use Rattle.fed_rules.specs.SiteRecords.{Held}
use Rattle.fed_rules.specs.SiteSums.{carried}
use Rattle.fed_rules.specs.Usable.{AreParted, IsGlobalOf, IsLocalOf, counted}
use Rattle.usable_journals.specs.declared.parted.Parted.{Parted}
use Rattle.usable_journals.specs.PartedTold.{Adds, is_global_of, is_held_of, is_of, is_owner_of, is_sum_of, none}
use Rattle.usable_journals.specs.SiteTests.{is_local_of}
use Rattle.usable_journals.proofs.OnceLaws.{counted_split, local_tells}
use Rattle.usable_journals.proofs.Recording.{GetsTx}
use Rattle.usable_journals.proofs.Reflected.{Tells, tells_some}
use Rattle.usable_journals.proofs.Sets.{with_tx}
use Rattle.usable_journals.proofs.Words.{or_second}

or_cases : (a b : Bool) → (a || b) ≡ true → (a ≡ true) ⊎ (b ≡ true)
or_cases true b e = inl refl
or_cases false b e = inr e

-- ---- one after another

pub adds_none : (a : Parted) → Adds none none a a
adds_none a = record { locals = λ tx. refl; globals = λ tx. refl }

pub adds_local : (old : Parted) (locals : BTreeSet Tx) (tid : Tid) → GetsTx old.locals locals tid.tx → Adds (λ tx. is_of tx tid) none old (record { locals = locals; globals = old.globals })
adds_local old locals tid gets = record { locals = λ tx. with_tx tid.tx tx _ _ _ (gets tx) refl; globals = λ tx. refl }

pub adds_global : (old : Parted) (globals : BTreeSet Tx) (tid : Tid) → GetsTx old.globals globals tid.tx → Adds none (λ tx. is_of tx tid) old (record { locals = old.locals; globals = globals })
adds_global old globals tid gets = record { locals = λ tx. refl; globals = λ tx. with_tx tid.tx tx _ _ _ (gets tx) refl }

joined : (old mid new first then both : Bool) → new ≡ (then || mid) → mid ≡ (first || old) → (then || first) ≡ both → new ≡ (both || old)
joined old mid new first then both e f g = e ∙ ap (λ x. then || x) f ∙ or_assoc then first old ∙ ap (λ x. x || old) g

pub adds_then : (l1 g1 l2 g2 l g : Tx → Bool) (a b c : Parted) → Adds l1 g1 a b → Adds l2 g2 b c → ((tx : Tx) → (l2 tx || l1 tx) ≡ l tx) → ((tx : Tx) → (g2 tx || g1 tx) ≡ g tx) → Adds l g a c
adds_then l1 g1 l2 g2 l g a b c first second ls gs = record {
  locals = λ tx. joined (contains tx_cmp a.locals tx) (contains tx_cmp b.locals tx) (contains tx_cmp c.locals tx) (l1 tx) (l2 tx) (l tx) (second.locals tx) (first.locals tx) (ls tx);
  globals = λ tx. joined (contains tx_cmp a.globals tx) (contains tx_cmp b.globals tx) (contains tx_cmp c.globals tx) (g1 tx) (g2 tx) (g tx) (second.globals tx) (first.globals tx) (gs tx);
}

pub more_at : {A : Type 0} (test : A → Bool) (xs : List A) (n : ℕ) (d : A) → n < length xs → (test (get_or xs n d) || some_of test (take n xs)) ≡ some_of test (take (n + 1) xs)
more_at test xs n d within =
    or_swapped (test (get_or xs n d)) (some_of test (take n xs)) ∙ sym (some_of-push test (take n xs) (get_or xs n d)) ∙ ap (some_of test) (sym (take_more xs n d within))

pub more : {A : Type 0} (test : A → Bool) (xs : List A) (n : ℕ) (x : A) → n < length xs → x ≡ get_or xs n x → (test x || some_of test (take n xs)) ≡ some_of test (take (n + 1) xs)
more test xs n x within here = ap (λ a. test a || some_of test (take n xs)) here ∙ more_at test xs n x within

-- ---- a first record

carried_none : (tx : Tx) (xs : List Held) (ys : List SiteRecord) → some_of (is_local_of tx) (carried xs ++ ys) ≡ some_of (is_local_of tx) ys
carried_none tx [] ys = refl
carried_none tx (x ∷ xs) ys = carried_none tx xs ys

locals_read : (tx : Tx) (counter : ℕ) (tids : List Tid) → some_of (is_local_of tx) (map (local_read counter) tids) ≡ some_of (is_of tx) tids
locals_read tx counter [] = refl
locals_read tx counter (tid ∷ tids) = ap (λ b. same_tx tid.tx tx || b) (locals_read tx counter tids)

pub first_sum : (tx : Tx) (sum : SiteSum) → some_of (is_of tx) sum.locals ≡ some_of (is_local_of tx) (counted (Checkpoint sum ∷ []))
first_sum tx sum = sym (carried_none tx sum.doubtful (map (local_read sum.counter) sum.locals) ∙ locals_read tx sum.counter sum.locals)

pub first_other : (tx : Tx) (first : SiteRecord) → ((sum : SiteSum) → first ≡ Checkpoint sum → ⊥) → is_local_of tx first ≡ some_of (is_local_of tx) (counted (first ∷ []))
first_other tx (Setup site engine protocol items) other = refl
first_other tx (Start epoch) other = refl
first_other tx (Prepared tid epoch number ticket writes) other = refl
first_other tx (Ended tid decision) other = refl
first_other tx (Local tid number writes) other = sym (or_false (same_tx tid.tx tx))
first_other tx (Checkpoint sum) other = absurd (other sum refl)

pub adds_first_sum : (sum : SiteSum) (a b : Parted) → Adds (λ tx. some_of (is_of tx) sum.locals) (λ tx. is_sum_of tx sum) a b →
    Adds (λ tx. some_of (is_local_of tx) (counted (Checkpoint sum ∷ []))) (λ tx. is_global_of tx (Checkpoint sum)) a b
adds_first_sum sum a b h = record { locals = λ tx. h.locals tx ∙ ap (λ x. x || contains tx_cmp a.locals tx) (first_sum tx sum); globals = h.globals }

pub adds_first : (first : SiteRecord) (a b : Parted) → ((sum : SiteSum) → first ≡ Checkpoint sum → ⊥) → Adds (λ tx. is_local_of tx first) (λ tx. is_global_of tx first) a b →
    Adds (λ tx. some_of (is_local_of tx) (counted (first ∷ []))) (λ tx. is_global_of tx first) a b
adds_first first a b other h = record { locals = λ tx. h.locals tx ∙ ap (λ x. x || contains tx_cmp a.locals tx) (first_other tx first other); globals = h.globals }

-- ---- a whole journal

pub some_append : {A : Type 0} (test : A → Bool) (xs ys : List A) → some_of test (xs ++ ys) ≡ (some_of test xs || some_of test ys)
some_append test [] ys = refl
some_append test (x ∷ xs) ys = ap (λ b. test x || b) (some_append test xs ys) ∙ or_assoc (test x) (some_of test xs) (some_of test ys)

global_tells : (tx : Tx) → Tells (is_global_of tx) (IsGlobalOf tx)
global_tells tx = record { there = there; back = back }
  where
    held_tells : Tells (is_held_of tx) (λ (held : Held). held.tid.tx ≡ tx)
    held_tells = record { there = λ held e. same_tx-equal held.tid.tx tx e; back = λ held e. subst (λ t. same_tx held.tid.tx t ≡ true) e (same_tx-refl held.tid.tx) }

    owner_there : (o : Option Tid) → is_owner_of tx o ≡ true → (tid : Tid) × (o ≡ Some tid) × (tid.tx ≡ tx)
    owner_there None e = absurd cc
    owner_there (Some owner) e = (owner, refl, same_tx-equal owner.tx tx e)

    owner_back : (o : Option Tid) (tid : Tid) → o ≡ Some tid → tid.tx ≡ tx → is_owner_of tx o ≡ true
    owner_back o tid is e = subst (λ p. is_owner_of tx p ≡ true) (sym is) (subst (λ t. same_tx tid.tx t ≡ true) e (same_tx-refl tid.tx))

    there : (r : SiteRecord) → is_global_of tx r ≡ true → IsGlobalOf tx r
    there (Prepared tid epoch number ticket writes) e = same_tx-equal tid.tx tx e
    there (Ended tid decision) e = same_tx-equal tid.tx tx e
    there (Checkpoint sum) e = by_case (or_cases (is_owner_of tx sum.owner) (some_of (is_held_of tx) sum.doubtful) e)
      where
        by_case : (is_owner_of tx sum.owner ≡ true) ⊎ (some_of (is_held_of tx) sum.doubtful ≡ true) →
            Among (λ (held : Held). held.tid.tx ≡ tx) sum.doubtful ⊎ ((tid : Tid) × (sum.owner ≡ Some tid) × (tid.tx ≡ tx))
        by_case (inl o) = inr (owner_there sum.owner o)
        by_case (inr d) = inl ((tells_some _ _ held_tells).there sum.doubtful d)
    there (Setup site engine protocol items) e = absurd cc
    there (Start epoch) e = absurd cc
    there (Local tid number writes) e = absurd cc

    back : (r : SiteRecord) → IsGlobalOf tx r → is_global_of tx r ≡ true
    back (Prepared tid epoch number ticket writes) e = subst (λ t. same_tx tid.tx t ≡ true) e (same_tx-refl tid.tx)
    back (Ended tid decision) e = subst (λ t. same_tx tid.tx t ≡ true) e (same_tx-refl tid.tx)
    back (Checkpoint sum) (inl d) = or_second (is_owner_of tx sum.owner) (some_of (is_held_of tx) sum.doubtful) ((tells_some _ _ held_tells).back sum.doubtful d)
    back (Checkpoint sum) (inr o) = ap (λ b. b || some_of (is_held_of tx) sum.doubtful) (owner_back sum.owner o.0 o.1 o.2)
    back (Setup site engine protocol items) e = absurd e
    back (Start epoch) e = absurd e
    back (Local tid number writes) e = absurd e

pub empty_has : (set : BTreeSet Tx) → set.keys ≡ [] → (tx : Tx) → contains tx_cmp set tx ≡ false
empty_has set none tx = ap (λ ks. list_any (is_at (tx_cmp tx)) ks) none

pub locals_are : (first : SiteRecord) (newer : List SiteRecord) (a b c : Parted) → a.locals.keys ≡ [] →
    Adds (λ tx. some_of (is_local_of tx) (counted (first ∷ []))) (λ tx. is_global_of tx first) a b →
    Adds (λ tx. some_of (is_local_of tx) newer) (λ tx. some_of (is_global_of tx) newer) b c →
    (tx : Tx) → contains tx_cmp c.locals tx ≡ some_of (is_local_of tx) (counted (reverse (first ∷ newer)))
locals_are first newer a b c empty one two tx =
    two.locals tx ∙ ap₂ (λ x y. x || y) (sym (some_reverse (is_local_of tx) newer))
    (one.locals tx ∙ ap (λ x. some_of (is_local_of tx) (counted (first ∷ [])) || x) (empty_has a.locals empty tx) ∙ or_false (some_of (is_local_of tx) (counted (first ∷ []))))
    ∙ sym (some_append (is_local_of tx) (reverse newer) (counted (first ∷ []))) ∙ ap (some_of (is_local_of tx)) (sym (counted_split first newer))

pub globals_are : (first : SiteRecord) (newer : List SiteRecord) (a b c : Parted) → a.globals.keys ≡ [] →
    Adds (λ tx. some_of (is_local_of tx) (counted (first ∷ []))) (λ tx. is_global_of tx first) a b →
    Adds (λ tx. some_of (is_local_of tx) newer) (λ tx. some_of (is_global_of tx) newer) b c →
    (tx : Tx) → contains tx_cmp c.globals tx ≡ some_of (is_global_of tx) (reverse (first ∷ newer))
globals_are first newer a b c empty one two tx =
    two.globals tx ∙ ap₂ (λ x y. x || y) (sym (some_reverse (is_global_of tx) newer))
    (one.globals tx ∙ ap (λ x. is_global_of tx first || x) (empty_has a.globals empty tx) ∙ or_false (is_global_of tx first))
    ∙ sym (some_of-push (is_global_of tx) (reverse newer) first) ∙ ap (some_of (is_global_of tx)) (sym (reverse-append (first ∷ []) newer))

-- two sets have no common transaction exactly where no transaction has a record of both kinds
pub apart_by : {A B : Type 0} (f : Tx → A → Bool) (P : Tx → A → Type 0) (g : Tx → B → Bool) (Q : Tx → B → Type 0) → ((tx : Tx) → Tells (f tx) (P tx)) → ((tx : Tx) → Tells (g tx) (Q tx)) →
    (xs : List A) (ys : List B) (s t : BTreeSet Tx) → ((tx : Tx) → contains tx_cmp s tx ≡ some_of (f tx) xs) → ((tx : Tx) → contains tx_cmp t tx ≡ some_of (g tx) ys) →
    IsDisjoint tx_cmp s t ↔ ((tx : Tx) → Among (P tx) xs → Among (Q tx) ys → ⊥)
apart_by f P g Q f_tells g_tells xs ys s t fs gs = (there, back)
  where
    both : (b : Bool) → b ≡ true → b ≡ false → ⊥
    both true e h = absurd cc
    both false e h = absurd cc

    there : IsDisjoint tx_cmp s t → (tx : Tx) → Among (P tx) xs → Among (Q tx) ys → ⊥
    there apart tx l m = both (contains tx_cmp t tx) (gs tx ∙ (tells_some _ _ (g_tells tx)).back ys m) (apart tx (fs tx ∙ (tells_some _ _ (f_tells tx)).back xs l))

    back : ((tx : Tx) → Among (P tx) xs → Among (Q tx) ys → ⊥) → IsDisjoint tx_cmp s t
    back parted tx l = by_test (contains tx_cmp t tx) refl
      where
        by_test : (b : Bool) → contains tx_cmp t tx ≡ b → contains tx_cmp t tx ≡ false
        by_test false is = is
        by_test true is = absurd (parted tx ((tells_some _ _ (f_tells tx)).there xs (sym (fs tx) ∙ l)) ((tells_some _ _ (g_tells tx)).there ys (sym (gs tx) ∙ is)))

pub parted_by : (locals globals : List SiteRecord) (c : Parted) → ((tx : Tx) → contains tx_cmp c.locals tx ≡ some_of (is_local_of tx) locals) →
    ((tx : Tx) → contains tx_cmp c.globals tx ≡ some_of (is_global_of tx) globals) → IsDisjoint tx_cmp c.locals c.globals ↔ AreParted locals globals
parted_by locals globals c ls gs = apart_by is_local_of IsLocalOf is_global_of IsGlobalOf local_tells global_tells locals globals c.locals c.globals ls gs

-- of no records none is added
pub none_local : (records : List SiteRecord) (set : BTreeSet Tx) → set.keys ≡ [] → length records ≡ 0 → (tx : Tx) → contains tx_cmp set tx ≡ some_of (is_local_of tx) (counted (reverse records))
none_local [] set empty none tx = empty_has set empty tx
none_local (x ∷ records) set empty none tx = absurd (omega (arith, none))

pub none_global : (records : List SiteRecord) (set : BTreeSet Tx) → set.keys ≡ [] → length records ≡ 0 → (tx : Tx) → contains tx_cmp set tx ≡ some_of (is_global_of tx) (reverse records)
none_global [] set empty none tx = empty_has set empty tx
none_global (x ∷ records) set empty none tx = absurd (omega (arith, none))
