-- Numbers that are put into a set, one after another.
use Rattle.std.proofs.Common.{ℕ, ◌+◌, ◌-◌, length, take, drop, get_or, ◌<◌, ◌≤◌, ◌≡◌, ◌==◌, Bool, true, false, not, cond, ◌&&◌, ◌↔◌, List, [], ◌∷◌, ◌++◌, map, reverse, refl, sym, ap, subst, ◌∙◌, arith, eqb-true, eq-eqb}
use Rattle.std.proofs.lemmas.Bool.Decides.{nat_tests}
use Rattle.std.proofs.lemmas.List.{append_assoc, append-nil, map-append, reverse-append}
use Rattle.std.specs.BTreeMap.{is_at}
use Rattle.std.specs.BTreeSet.{BTreeSet, contains}
use Rattle.std.specs.List.{list_any}
use Rattle.std.specs.Ordering.{is_eq, nat_cmp}
use Rattle.order_laws.specs.Chains.{Distinct, In}
use Rattle.mdb_base.proofs.ForCallers.{and_fails, is_true_both, is_true_parts}
use Rattle.fed_rules.specs.declared.records.SiteRecord.{SiteRecord}
use Rattle.fed_rules.specs.declared.records.SiteRecord.TheVariants.{Setup, Start, Prepared, Ended, Local, Checkpoint}
use Rattle.fed_rules.specs.declared.sums.SiteSum.{SiteSum}
use Rattle.fed_rules.specs.SiteRecords.{Held}
use Rattle.fed_rules.specs.Usable as usable
use Rattle.usable_journals.specs.Numbers.{HasAll, Puts, all_numbers, differ, has, numbers_of}
use Rattle.usable_journals.proofs.Recording.{drop_one, fronts, reverse_more, reverse_rest}
use Rattle.usable_journals.proofs.Reflected.{Tells, tells_not, tells_some}
use Rattle.usable_journals.proofs.Words.{choice}

-- ---- one number

same_number : (m n : ℕ) → is_eq (nat_cmp m n) ≡ (m == n)
same_number m n = grind (arith, nat_tests)

pub puts_one : (before after : BTreeSet ℕ) (number : ℕ) (added : Bool) → added ≡ not (contains nat_cmp before number) →
    ((q : ℕ) → contains nat_cmp after q ≡ cond (is_eq (nat_cmp number q)) true (contains nat_cmp before q)) → Puts before after (number ∷ []) added
puts_one before after number added new grows ns all are = (
  new ∙ ap not (all number) ∙ sym (and_true (not (has ns number)) (differ ns) are),
  λ e q. grows q ∙ ap (cond (is_eq (nat_cmp number q)) true) (all q) ∙ choice (is_eq (nat_cmp number q)) (number == q) (has ns q) (same_number number q),
)
  where
    and_true : (a b : Bool) → b ≡ true → (a && b) ≡ a
    and_true true b e = e
    and_true false b e = refl

-- ---- several numbers

pub puts_none : (a : BTreeSet ℕ) → Puts a a [] true
puts_none a ns all are = (sym are, λ e. all)

stays_same : (more ns : List ℕ) → differ ns ≡ false → differ (more ++ ns) ≡ false
stays_same [] ns e = e
stays_same (n ∷ more) ns e = and_fails (not (has (more ++ ns) n)) (differ (more ++ ns)) (stays_same more ns e)

pub puts_then : (a b c : BTreeSet ℕ) (xs ys : List ℕ) (fits : Bool) → Puts a b xs true → Puts b c ys fits → Puts a c (ys ++ xs) fits
puts_then a b c xs ys fits first second ns all are =
    let one = first ns all are in
    subst (λ ms. (fits ≡ differ ms) × (fits ≡ true → HasAll c ms)) (sym (append_assoc ys xs ns)) (second (xs ++ ns) (one.1 refl) (sym one.0))

pub puts_stop : (a b c : BTreeSet ℕ) (xs ys : List ℕ) → Puts a b xs false → Puts a c (ys ++ xs) false
puts_stop a b c xs ys first ns all are =
    let one = first ns all are in
    (sym (ap differ (append_assoc ys xs ns) ∙ stays_same ys (xs ++ ns) (sym one.0)), λ e. absurd cc)

-- those in doubt, the last ones first
pub held_next : (f : Held → ℕ) (a b c : BTreeSet ℕ) (xs : List Held) (n : ℕ) (d : Held) (fits : Bool) → 1 ≤ n → n ≤ length xs → Puts a b (map f (drop n xs)) true →
    Puts b c (f (get_or xs (n - 1) d) ∷ []) fits → Puts a c (map f (drop (n - 1) xs)) fits
held_next f a b c xs n d fits some within first next =
    subst (λ ys. Puts a c (map f ys) fits) (sym (drop_one xs n d some within))
    (puts_then a b c (map f (drop n xs)) (f (get_or xs (n - 1) d) ∷ []) fits first next)

pub held_last : (f : Held → ℕ) (a b c : BTreeSet ℕ) (xs : List Held) (n : ℕ) → Puts a b (map f (drop n xs)) false → Puts a c (map f xs) false
held_last f a b c xs n first =
    subst (λ ys. Puts a c (map f ys) false) (sym (fronts xs n))
    (subst (λ ys. Puts a c ys false) (sym (map-append f (take n xs) (drop n xs)))
    (puts_stop a b c (map f (drop n xs)) (map f (take n xs)) first))

pub held_whole : (f : Held → ℕ) (a b : BTreeSet ℕ) (xs : List Held) (n : ℕ) → n ≤ 0 → Puts a b (map f (drop n xs)) true → Puts a b (map f xs) true
held_whole f a b xs n none all = let zero_left : n ≡ 0 = omega arith in subst (λ m. Puts a b (map f (drop m xs)) true) zero_left all

-- records, the oldest first
numbers_append : (xs ys : List SiteRecord) → all_numbers (xs ++ ys) ≡ all_numbers xs ++ all_numbers ys
numbers_append [] ys = refl
numbers_append (x ∷ xs) ys = ap (λ ns. numbers_of x ++ ns) (numbers_append xs ys) ∙ sym (append_assoc (numbers_of x) (all_numbers xs) (all_numbers ys))

pub all_next : (a b c : BTreeSet ℕ) (xs : List SiteRecord) (n : ℕ) (d : SiteRecord) (fits : Bool) → n < length xs → Puts a b (all_numbers (reverse (take n xs))) true →
    Puts b c (numbers_of (get_or xs n d)) fits → Puts a c (all_numbers (reverse (take (n + 1) xs))) fits
all_next a b c xs n d fits within first next =
    subst (λ ys. Puts a c (all_numbers ys) fits) (sym (reverse_more xs n d within))
    (puts_then a b c (all_numbers (reverse (take n xs))) (numbers_of (get_or xs n d)) fits first next)

pub all_last : (a b c : BTreeSet ℕ) (xs : List SiteRecord) (n : ℕ) → Puts a b (all_numbers (reverse (take n xs))) false → Puts a c (all_numbers (reverse xs)) false
all_last a b c xs n first =
    subst (λ ys. Puts a c (all_numbers ys) false) (sym (reverse_rest xs n))
    (subst (λ ys. Puts a c ys false) (sym (numbers_append (reverse (drop n xs)) (reverse (take n xs))))
    (puts_stop a b c (all_numbers (reverse (take n xs))) (all_numbers (reverse (drop n xs))) first))

-- ---- by the record

pub no_number : (a : BTreeSet ℕ) (entry : SiteRecord) → ((tid : _) (epoch number ticket : ℕ) (writes : _) → entry ≡ Prepared tid epoch number ticket writes → ⊥) →
    ((tid : _) (number : ℕ) (writes : _) → entry ≡ Local tid number writes → ⊥) → Puts a a (numbers_of entry) true
no_number a (Prepared tid epoch number ticket writes) not_prepared not_local = absurd (not_prepared tid epoch number ticket writes refl)
no_number a (Local tid number writes) not_prepared not_local = absurd (not_local tid number writes refl)
no_number a (Setup site engine protocol items) not_prepared not_local = puts_none a
no_number a (Start epoch) not_prepared not_local = puts_none a
no_number a (Ended tid decision) not_prepared not_local = puts_none a
no_number a (Checkpoint sum) not_prepared not_local = puts_none a

-- a first record that is no Checkpoint
pub first_numbers : (first : SiteRecord) → ((sum : SiteSum) → first ≡ Checkpoint sum → ⊥) → usable.numbers (first ∷ []) ≡ numbers_of first
first_numbers (Setup site engine protocol items) other = refl
first_numbers (Start epoch) other = refl
first_numbers (Prepared tid epoch number ticket writes) other = refl
first_numbers (Ended tid decision) other = refl
first_numbers (Local tid number writes) other = refl
first_numbers (Checkpoint sum) other = absurd (other sum refl)

-- ---- a whole journal

pub numbers_behind : (newer : List SiteRecord) (first : SiteRecord) → usable.numbers (newer ++ first ∷ []) ≡ all_numbers newer ++ usable.numbers (first ∷ [])
numbers_behind [] first = refl
numbers_behind (x ∷ newer) first = next x newer (numbers_behind newer first)
  where
    next : (r : SiteRecord) (rs : List SiteRecord) → usable.numbers (rs ++ first ∷ []) ≡ all_numbers rs ++ usable.numbers (first ∷ []) →
        usable.numbers (r ∷ (rs ++ first ∷ [])) ≡ (numbers_of r ++ all_numbers rs) ++ usable.numbers (first ∷ [])
    next (Setup site engine protocol items) rs e = e
    next (Start epoch) rs e = e
    next (Prepared tid epoch number ticket writes) rs e = ap (λ ns. number ∷ ns) e
    next (Ended tid decision) rs e = e
    next (Local tid number writes) rs e = ap (λ ns. number ∷ ns) e
    next (Checkpoint sum) [] e = e
    next (Checkpoint sum) (y ∷ rs) e = e

pub numbers_split : (first : SiteRecord) (newer : List SiteRecord) → usable.numbers (reverse (first ∷ newer)) ≡ all_numbers (reverse newer) ++ usable.numbers (first ∷ [])
numbers_split first newer = ap usable.numbers (reverse-append (first ∷ []) newer) ∙ numbers_behind (reverse newer) first

member_tells : (n : ℕ) → Tells (λ m. m == n) (λ m. m ≡ n)
member_tells n = record { there = λ m e. eqb-true m n e; back = λ m e. eq-eqb m n e }

none_tells : (n : ℕ) → Tells (λ ns. not (has ns n)) (λ ns. In n ns → ⊥)
none_tells n = tells_not (λ ns. has ns n) (In n) (tells_some (λ m. m == n) (λ m. m ≡ n) (member_tells n))

pub differ_there : (ns : List ℕ) → differ ns ≡ true → Distinct ns
differ_there [] e = tt
differ_there (n ∷ ns) e = let both = is_true_parts (not (has ns n)) (differ ns) e in ((none_tells n).there ns both.0, differ_there ns both.1)

pub differ_back : (ns : List ℕ) → Distinct ns → differ ns ≡ true
differ_back [] d = refl
differ_back (n ∷ ns) d = is_true_both (not (has ns n)) (differ ns) ((none_tells n).back ns d.0) (differ_back ns d.1)

pub says_differ : (first : SiteRecord) (newer : List SiteRecord) (a b : BTreeSet ℕ) (fits : Bool) → HasAll a [] → Puts a b (all_numbers (reverse newer) ++ usable.numbers (first ∷ [])) fits →
    (fits ≡ true) ↔ Distinct (usable.numbers (reverse (first ∷ newer)))
says_differ first newer a b fits none puts =
    let is : fits ≡ differ (usable.numbers (reverse (first ∷ newer))) =
    (puts [] none refl).0 ∙ ap differ (append-nil (all_numbers (reverse newer) ++ usable.numbers (first ∷ [])) ∙ sym (numbers_split first newer)) in
    (λ e. differ_there (usable.numbers (reverse (first ∷ newer))) (sym is ∙ e), λ d. is ∙ differ_back (usable.numbers (reverse (first ∷ newer))) d)

pub empty_differ : (records : List SiteRecord) → length records ≡ 0 → (true ≡ true) ↔ Distinct (usable.numbers (reverse records))
empty_differ [] none = (λ e. tt, λ d. refl)
empty_differ (x ∷ records) none = absurd (omega (arith, none))

pub empty_has : (a : BTreeSet ℕ) → a.keys ≡ [] → HasAll a []
empty_has a none n = ap (λ ks. list_any (is_at (nat_cmp n)) ks) none
