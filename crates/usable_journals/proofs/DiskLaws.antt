-- The sites of more disks, and which of them are usable.
use Rattle.std.proofs.Common.{ℕ, zero, suc, ◌+◌, ◌-◌, ◌<◌, ◌≤◌, ◌≡◌, ◌==◌, ◌↔◌, false, Option, Some, None, List, [], ◌∷◌, ◌++◌, drop, length, take, map, reverse, get_or, slice_get, refl, sym, ap, ap₂, subst, ◌∙◌, arith}
use Rattle.std.proofs.lemmas.List.{append_assoc, append-nil, at_drop_all, at_drop_more, length-map, length-take-le, map-append, take_more}
use Rattle.mdb_base.specs.Words.{Each}
use Rattle.std.proofs.Math.Seq.{take-length}
use Rattle.presumptions.specs.declared.Participant.{Participant}
use Rattle.fed_rules.specs.declared.records.SiteRecord.{SiteRecord}
use Rattle.fed_rules.specs.declared.records.CoordRecord.{CoordRecord}
use Rattle.fed_rules.specs.Usable.{IsUsableSite}
use Rattle.usable_journals.specs.Disks.{AreUsableFrom, IsForeignAt, IsLeastSite, IsUsableDisk, IsUsableFirst, NamesLeast, NamesSite, listed, member_at, members_from}

members_push : (k : ℕ) (ys : List (List SiteRecord)) (x : List SiteRecord) → members_from k (ys ++ x ∷ []) ≡ members_from k ys ++ listed (member_at (length ys + k) x)
members_push k [] x = append-nil (listed (member_at k x)) ∙ ap (λ n. listed (member_at n x)) none_before
  where
    none_before : k ≡ length {A = List SiteRecord} [] + k
    none_before = omega arith
members_push k (y ∷ ys) x =
    ap (λ ms. listed (member_at k y) ++ ms) (members_push (k + 1) ys x ∙ ap (λ n. members_from (k + 1) ys ++ listed (member_at n x)) onward)
    ∙ sym (append_assoc (listed (member_at k y)) (members_from (k + 1) ys) (listed (member_at (length (y ∷ ys) + k) x)))
  where
    onward : length ys + (k + 1) ≡ length (y ∷ ys) + k
    onward = omega arith

length_front : {A : Type 0} (f : A → List SiteRecord) (xs : List A) (n : ℕ) → n ≤ length xs → length (map f (take n xs)) ≡ n
length_front f xs n h = length-map (take n xs) f ∙ length-take-le n xs h

pub members_next : {A : Type 0} (f : A → List SiteRecord) (xs : List A) (n : ℕ) (d : A) → n < length xs →
    members_from 1 (map f (take (n + 1) xs)) ≡ members_from 1 (map f (take n xs)) ++ listed (member_at (n + 1) (f (get_or xs n d)))
members_next f xs n d within =
    ap (λ ys. members_from 1 (map f ys)) (take_more xs n d within) ∙ ap (members_from 1) (map-append f (take n xs) (get_or xs n d ∷ []))
    ∙ members_push 1 (map f (take n xs)) (f (get_or xs n d))
    ∙ ap (λ k. members_from 1 (map f (take n xs)) ++ listed (member_at (k + 1) (f (get_or xs n d)))) (length_front f xs n (omega (arith, within)))

-- an item of the walk
pub members_more : {A : Type 0} (f : A → List SiteRecord) (xs : List A) (n : ℕ) (x : A) (old now : List Participant) (found : Option Participant) → n < length xs → x ≡ get_or xs n x →
    old ≡ members_from 1 (map f (take n xs)) → found ≡ member_at (n + 1) (f x) → now ≡ old ++ listed found → now ≡ members_from 1 (map f (take (n + 1) xs))
members_more f xs n x old now found within here before is grown =
    grown ∙ ap₂ (λ a o. a ++ listed o) before (is ∙ ap (λ y. member_at (n + 1) (f y)) here) ∙ sym (members_next f xs n x within)

pub members_whole : {A : Type 0} (f : A → List SiteRecord) (xs : List A) (n : ℕ) (now : List Participant) → length xs ≤ n → n ≤ length xs → now ≡ members_from 1 (map f (take n xs)) → now ≡ members_from 1 (map f xs)
members_whole f xs n now some within is = let same : n ≡ length xs = omega (arith, some, within) in is ∙ ap (λ m. members_from 1 (map f (take m xs))) same ∙ ap (λ ys. members_from 1 (map f ys)) (take-length xs)

-- ---- which disks are usable

usable_push : (k : ℕ) (ys : List (List SiteRecord)) (x : List SiteRecord) → AreUsableFrom k ys → IsUsableDisk (length ys + k) x → AreUsableFrom k (ys ++ x ∷ [])
usable_push k [] x all here = (subst (λ n. IsUsableDisk n x) none_before here, tt)
  where
    none_before : length {A = List SiteRecord} [] + k ≡ k
    none_before = omega arith
usable_push k (y ∷ ys) x all here = (all.0, usable_push (k + 1) ys x all.1 (subst (λ n. IsUsableDisk n x) onward here))
  where
    onward : length (y ∷ ys) + k ≡ length ys + (k + 1)
    onward = omega arith

-- one more is usable
pub usable_more : {A : Type 0} (f : A → List SiteRecord) (xs : List A) (n number : ℕ) (x : A) → n < length xs → x ≡ get_or xs n x → number ≡ n + 1
    → AreUsableFrom 1 (map f (take n xs)) → IsUsableDisk number (f x) → AreUsableFrom 1 (map f (take (n + 1) xs))
usable_more f xs n number x within here is before usable =
    subst (AreUsableFrom 1) (sym (ap (λ ys. map f ys) (take_more xs n x within) ∙ map-append f (take n xs) (get_or xs n x ∷ [])))
    (usable_push 1 (map f (take n xs)) (f (get_or xs n x)) before
    (subst (λ m. IsUsableDisk m (f (get_or xs n x))) (is ∙ ap (λ m. m + 1) (sym (length_front f xs n (omega (arith, within))))) (subst (λ y. IsUsableDisk number (f y)) here usable)))

-- one that isn't is the least one
pub least_here : {A : Type 0} (f : A → List SiteRecord) (xs : List A) (n number : ℕ) (x : A) → n < length xs → x ≡ get_or xs n x → number ≡ n + 1
    → AreUsableFrom 1 (map f (take n xs)) → (IsUsableDisk number (f x) → ⊥) → IsLeastSite number (map f xs)
least_here f xs n number x within here is before foreign = record {
  some = omega (arith, is);
  before = subst (AreUsableFrom 1) (sym (ap (λ m. take m (map f xs)) back ∙ take_map f xs n)) before;
  foreign = subst (IsForeignAt number) (sym (ap (slice_get (map f xs)) back ∙ get_map f xs n x within)) (λ usable. foreign (subst (λ y. IsUsableDisk number (f y)) (sym here) usable));
}
  where
    back : number - 1 ≡ n
    back = omega (arith, is)

    take_map : {A : Type 0} (f : A → List SiteRecord) (ys : List A) (m : ℕ) → take m (map f ys) ≡ map f (take m ys)
    take_map f [] zero = refl
    take_map f [] (suc m) = refl
    take_map f (y ∷ ys) zero = refl
    take_map f (y ∷ ys) (suc m) = ap (λ zs. f y ∷ zs) (take_map f ys m)

    get_map : {A : Type 0} (f : A → List SiteRecord) (ys : List A) (m : ℕ) (d : A) → m < length ys → slice_get (map f ys) m ≡ Some (f (get_or ys m d))
    get_map f [] m d within = absurd (omega (arith, within))
    get_map f (y ∷ ys) zero d within = refl
    get_map f (y ∷ ys) (suc m) d within = get_map f ys m d (omega (arith, within))

-- all are usable
pub usable_whole : {A : Type 0} (f : A → List SiteRecord) (xs : List A) (n : ℕ) → length xs ≤ n → n ≤ length xs → AreUsableFrom 1 (map f (take n xs)) → AreUsableFrom 1 (map f xs)
usable_whole f xs n some within all =
    let same : n ≡ length xs = omega (arith, some, within) in subst (λ ys. AreUsableFrom 1 (map f ys)) (ap (λ m. take m xs) same ∙ take-length xs) all

-- the one that is named, behind a usable coordinator's disk
pub names_least : (coordinator : List CoordRecord) (sites : List (List SiteRecord)) (disk : Option ℕ) → IsUsableFirst coordinator sites → NamesSite sites disk → NamesLeast coordinator sites disk
names_least coordinator sites None first all = (first, all)
names_least coordinator sites (Some zero) first least = absurd (let some = least.some in omega (arith, some))
names_least coordinator sites (Some (suc n)) first least = (first, least)

-- a disk with a record
pub some_disk : (number : ℕ) (records : List SiteRecord) → (length records == 0) ≡ false → IsUsableSite number (reverse records) ↔ IsUsableDisk number records
some_disk number [] some = absurd cc
some_disk number (x ∷ records) some = (λ u. u, λ u. u)

-- ---- a fact of each site's records

next_of : {A : Type 0} (xs : List A) (n : ℕ) (x : A) → n < length xs → x ≡ get_or xs n x → drop n xs ≡ x ∷ drop (n + 1) xs
next_of xs n x within here = at_drop_more (λ ys. ys) xs n x within ∙ ap (λ y. y ∷ drop (n + 1) xs) (sym here)

-- the next one has it, and so the others decide
pub each_next : {A : Type 0} (P : List SiteRecord → Type 0) (f : A → List SiteRecord) (xs : List A) (n : ℕ) (x : A) → n < length xs → x ≡ get_or xs n x → P (f x)
    → (Each P (map f (drop n xs)) ↔ Each P (map f xs)) → Each P (map f (drop (n + 1) xs)) ↔ Each P (map f xs)
each_next P f xs n x within here p left =
    let split = next_of xs n x within here in
    (λ rest. left.0 (subst (λ ys. Each P (map f ys)) (sym split) (p, rest)), λ all. (subst (λ ys. Each P (map f ys)) split (left.1 all)).1)

-- it hasn't, and so not all have
pub each_stops : {A : Type 0} (P : List SiteRecord → Type 0) (f : A → List SiteRecord) (xs : List A) (n : ℕ) (x : A) → n < length xs → x ≡ get_or xs n x → (P (f x) → ⊥)
    → (Each P (map f (drop n xs)) ↔ Each P (map f xs)) → Each P (map f xs) → ⊥
each_stops P f xs n x within here never left all = never (subst (λ ys. Each P (map f ys)) (next_of xs n x within here) (left.1 all)).0

pub each_whole : {A : Type 0} (P : List SiteRecord → Type 0) (f : A → List SiteRecord) (xs : List A) (n : ℕ) → length xs ≤ n → (Each P (map f (drop n xs)) ↔ Each P (map f xs)) → Each P (map f xs)
each_whole P f xs n done left = left.0 (subst (λ ys. Each P (map f ys)) (sym (at_drop_all (λ ys. ys) xs n done)) tt)
