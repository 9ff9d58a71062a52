-- The tests of a site's Checkpoints say what its rules say.
use Rattle.std.proofs.Common.{ℕ, ◌≤◌, ◌≡◌, ◌==◌, Bool, true, false, not, nat_le, ◌&&◌, ◌||◌, ◌↔◌, Option, Some, None, List, [], ◌∷◌, length, map, reverse, refl, sym, ap, ◌∙◌, ◌⊎◌, inl, inr, arith, eqb-true, eq-eqb}
use Rattle.std.proofs.lemmas.Bool.Decides.{nat_tests}
use Rattle.std.proofs.lemmas.List.{append-nil}
use Rattle.std.specs.BTreeSet.{BTreeSet}
use Rattle.mdb_base.specs.declared.names.Tid.{Tid}
use Rattle.mdb_base.specs.Words.{Each, each_of, is_empty}
use Rattle.mdb_base.proofs.ForCallers.{each_map, empty_means, is_true_both, is_true_parts}
use Rattle.fed_rules.specs.declared.records.SiteRecord.{SiteRecord}
use Rattle.fed_rules.specs.declared.records.SiteRecord.TheVariants.{Setup, Start, Prepared, Ended, Local, Checkpoint}
use Rattle.fed_rules.specs.SiteRecords.{Held}
use Rattle.fed_rules.specs.Usable.{AreSumsOfSome, AreWithin}
use Rattle.usable_journals.specs.Numbers.{Puts, differ}
use Rattle.usable_journals.specs.Rising.{rises}
use Rattle.usable_journals.specs.SiteTests as tests
use Rattle.usable_journals.proofs.NumberLaws.{differ_back, differ_there, empty_has}
use Rattle.usable_journals.proofs.Reflected.{Says, Tells, rise_tells, says_each, tells_each}
use Rattle.std.proofs.lemmas.Bool.{leb-true}

-- ---- those in doubt are at most the counter and the published ticket

up_back : (m n : ℕ) → m ≤ n → nat_le m n ≡ true
up_back m n h = grind (arith, nat_tests)

abbrev UpTo : ℕ → ℕ → Held → Type 0
UpTo counter published held = (held.number ≤ counter) × (held.ticket ≤ published)

up_tells : (counter published : ℕ) → Tells (tests.is_up_to counter published) (UpTo counter published)
up_tells counter published = record {
  there = λ held e. let both = is_true_parts (nat_le held.number counter) (nat_le held.ticket published) e in (leb-true held.number counter both.0, leb-true held.ticket published both.1);
  back = λ held h. is_true_both (nat_le held.number counter) (nat_le held.ticket published) (up_back held.number counter h.0) (up_back held.ticket published h.1);
}

pairs : (counter published : ℕ) (xs : List Held) → Each (λ held. held.number ≤ counter) xs → Each (λ held. held.ticket ≤ published) xs → Each (UpTo counter published) xs
pairs counter published [] a b = tt
pairs counter published (x ∷ xs) a b = ((a.0, b.0), pairs counter published xs a.1 b.1)

within_there : (r : SiteRecord) → tests.is_within r ≡ true → AreWithin r
within_there (Checkpoint sum) e =
    let both = is_true_parts (each_of (tests.is_up_to sum.counter sum.published) sum.doubtful) (differ (map (λ (held : Held). held.ticket) sum.doubtful)) e in
    let up = (tells_each _ _ (up_tells sum.counter sum.published)).there sum.doubtful both.0 in
    record {
      numbers = each_map (UpTo sum.counter sum.published) (λ held. held.number ≤ sum.counter) (λ held h. h.0) sum.doubtful up;
      tickets = each_map (UpTo sum.counter sum.published) (λ held. held.ticket ≤ sum.published) (λ held h. h.1) sum.doubtful up;
      differ = differ_there (map (λ (held : Held). held.ticket) sum.doubtful) both.1;
    }
within_there (Setup site engine protocol items) e = tt
within_there (Start epoch) e = tt
within_there (Prepared tid epoch number ticket writes) e = tt
within_there (Ended tid decision) e = tt
within_there (Local tid number writes) e = tt

within_back : (r : SiteRecord) → AreWithin r → tests.is_within r ≡ true
within_back (Checkpoint sum) h =
    is_true_both (each_of (tests.is_up_to sum.counter sum.published) sum.doubtful) (differ (map (λ (held : Held). held.ticket) sum.doubtful))
    ((tells_each _ _ (up_tells sum.counter sum.published)).back sum.doubtful (pairs sum.counter sum.published sum.doubtful h.numbers h.tickets))
    (differ_back (map (λ (held : Held). held.ticket) sum.doubtful) h.differ)
within_back (Setup site engine protocol items) h = refl
within_back (Start epoch) h = refl
within_back (Prepared tid epoch number ticket writes) h = refl
within_back (Ended tid decision) h = refl
within_back (Local tid number writes) h = refl

within_says : (records : List SiteRecord) → Says tests.is_within AreWithin records
within_says records = says_each tests.is_within AreWithin (record { there = within_there; back = within_back }) records

pub within_is : (records : List SiteRecord) (within : Bool) → within ≡ each_of tests.is_within records → (within ≡ true) ↔ Each AreWithin (reverse records)
within_is records within is = (λ e. (within_says records).there (sym is ∙ e), λ h. is ∙ (within_says records).back h)

-- numbers that were put into an empty set
pub puts_differ : (a b : BTreeSet ℕ) (ns : List ℕ) (fits : Bool) → a.keys ≡ [] → Puts a b ns fits → fits ≡ differ ns
puts_differ a b ns fits none puts = (puts [] (empty_has a none) refl).0 ∙ ap differ (append-nil ns)

-- ---- the owner and the counter

owned_there : (o : Option Tid) (published counter : ℕ) (no_locals : Bool) → tests.is_owned o published counter no_locals ≡ true →
    (((o ≡ None) × (published ≡ 0)) ⊎ ((owner : Tid) × (o ≡ Some owner) × (1 ≤ published) × (1 ≤ counter))) × (o ≡ None → no_locals ≡ true → counter ≡ 0)
owned_there (Some owner) published counter no_locals e =
    let both = is_true_parts (nat_le 1 published) (nat_le 1 counter) e in
    (inr (owner, refl, leb-true 1 published both.0, leb-true 1 counter both.1), λ f g. absurd cc)
owned_there None published counter no_locals e =
    let both = is_true_parts (published == 0) (not no_locals || (counter == 0)) e in
    (inl (refl, eqb-true published 0 both.0), λ f g. counts no_locals (counter == 0) refl g both.1)
  where
    counts : (n z : Bool) → z ≡ (counter == 0) → n ≡ true → (not n || z) ≡ true → counter ≡ 0
    counts true z is f g = eqb-true counter 0 (sym is ∙ g)
    counts false z is f g = absurd cc

owned_back : (o : Option Tid) (published counter : ℕ) (no_locals : Bool) →
    (((o ≡ None) × (published ≡ 0)) ⊎ ((owner : Tid) × (o ≡ Some owner) × (1 ≤ published) × (1 ≤ counter))) → (o ≡ None → no_locals ≡ true → counter ≡ 0) →
    tests.is_owned o published counter no_locals ≡ true
owned_back (Some owner) published counter no_locals (inl h) c = let no = h.0 in absurd cc
owned_back (Some owner) published counter no_locals (inr h) c = is_true_both (nat_le 1 published) (nat_le 1 counter) (up_back 1 published h.2) (up_back 1 counter h.3)
owned_back None published counter no_locals (inr h) c = let no = h.1 in absurd cc
owned_back None published counter no_locals (inl h) c =
    is_true_both (published == 0) (not no_locals || (counter == 0)) (eq-eqb published 0 h.1) (counts no_locals (λ g. eq-eqb counter 0 (c refl g)))
  where
    counts : (n : Bool) → (n ≡ true → (counter == 0) ≡ true) → (not n || (counter == 0)) ≡ true
    counts true f = f refl
    counts false f = refl

none_back : {A : Type 0} (xs : List A) → xs ≡ [] → is_empty xs ≡ true
none_back [] e = refl
none_back (x ∷ xs) e = absurd cc

some_there : (r : SiteRecord) → tests.is_of_some r ≡ true → AreSumsOfSome r
some_there (Checkpoint sum) e =
    let rest = rises (λ (held : Held). held.tid) None sum.doubtful && rises (λ (tid : Tid). tid) None sum.locals in
    let one = is_true_parts (tests.is_owned sum.owner sum.published sum.counter (is_empty sum.locals)) rest e in
    let two = is_true_parts (rises (λ (held : Held). held.tid) None sum.doubtful) (rises (λ (tid : Tid). tid) None sum.locals) one.1 in
    let owned = owned_there sum.owner sum.published sum.counter (is_empty sum.locals) one.0 in
    record {
      owned = owned.0;
      counts = λ f g. owned.1 f (none_back sum.locals g);
      doubtful_rise = (rise_tells (λ (held : Held). held.tid)).there sum.doubtful two.0;
      locals_rise = (rise_tells (λ (tid : Tid). tid)).there sum.locals two.1;
    }
some_there (Setup site engine protocol items) e = tt
some_there (Start epoch) e = tt
some_there (Prepared tid epoch number ticket writes) e = tt
some_there (Ended tid decision) e = tt
some_there (Local tid number writes) e = tt

some_back : (r : SiteRecord) → AreSumsOfSome r → tests.is_of_some r ≡ true
some_back (Checkpoint sum) h =
    is_true_both (tests.is_owned sum.owner sum.published sum.counter (is_empty sum.locals)) (rises (λ (held : Held). held.tid) None sum.doubtful && rises (λ (tid : Tid). tid) None sum.locals)
    (owned_back sum.owner sum.published sum.counter (is_empty sum.locals) h.owned (λ f g. h.counts f (empty_means sum.locals g)))
    (is_true_both (rises (λ (held : Held). held.tid) None sum.doubtful) (rises (λ (tid : Tid). tid) None sum.locals)
    ((rise_tells (λ (held : Held). held.tid)).back sum.doubtful h.doubtful_rise) ((rise_tells (λ (tid : Tid). tid)).back sum.locals h.locals_rise))
some_back (Setup site engine protocol items) h = refl
some_back (Start epoch) h = refl
some_back (Prepared tid epoch number ticket writes) h = refl
some_back (Ended tid decision) h = refl
some_back (Local tid number writes) h = refl

some_says : (records : List SiteRecord) → Says tests.is_of_some AreSumsOfSome records
some_says records = says_each tests.is_of_some AreSumsOfSome (record { there = some_there; back = some_back }) records

pub some_is : (records : List SiteRecord) (fits : Bool) → fits ≡ each_of tests.is_of_some records → (fits ≡ true) ↔ Each AreSumsOfSome (reverse records)
some_is records fits is = (λ e. (some_says records).there (sym is ∙ e), λ h. is ∙ (some_says records).back h)

pub none_counts : {A : Type 0} (xs : List A) → (length xs == 0) ≡ is_empty xs
none_counts [] = refl
none_counts (x ∷ xs) = grind (arith, nat_tests)
