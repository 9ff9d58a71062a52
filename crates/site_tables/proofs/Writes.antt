-- Writes of one row and of several.
use Rattle.std.proofs.Common.{◌≡◌, ℕ, zero, suc, ◌+◌, ◌<◌, Bool, true, false, cond, Option, Some, None, List, [], ◌∷◌, ◌++◌, length, get_or, take, nat_eq, nat_lt, refl, sym, ap, ◌∙◌, arith}
use Rattle.std.proofs.lemmas.Bool.{eqb-true, ne_eqb, le-ltb, cond-true, cond-false}
use Rattle.std.proofs.lemmas.List.{take_more}
use Rattle.mdb_base.specs.declared.names.Key.{Key}
use Rattle.mdb_base.specs.declared.rows.Put.{Put}
use Rattle.mdb_base.specs.Names.{same_key}
use Rattle.mdb_base.specs.Rising.{IsRising}
use Rattle.mdb_base.specs.Rows.{value_in}
use Rattle.mdb_base.proofs.ForCallers.{first_of, rising_tail}
use Rattle.site_tables.specs.declared.versions.Version.{Version}
use Rattle.site_tables.specs.Tables.{is_newer, written}

pub either-cond : (b : Bool) (value : ℕ) (o p : Option ℕ) → cond b (Some value) (first_of o p) ≡ first_of (cond b (Some value) o) p
either-cond true value o p = refl
either-cond false value o p = refl

value_in-append : (xs ys : List Put) (key : Key) → value_in (xs ++ ys) key ≡ first_of (value_in xs key) (value_in ys key)
value_in-append [] ys key = refl
value_in-append (x ∷ xs) ys key =
    ap (cond (same_key x.key key) (Some x.value)) (value_in-append xs ys key)
    ∙ either-cond (same_key x.key key) x.value (value_in xs key) (value_in ys key)

-- a version
abbrev by_number : (number value : ℕ) → Version
by_number number value = record { value = value; number = number }

-- a write by the number that is kept changes nothing
same_number : (number : ℕ) → nat_lt number number ≡ false
same_number number = le-ltb number number (omega arith)

written_twice : (number v w : ℕ) (b : Bool) (kept : Option Version) → is_newer number kept ≡ b → written number (Some w) (cond b (Some (by_number number v)) kept) ≡ cond b (Some (by_number number v)) kept
written_twice number v w true kept e = cond-false _ _ _ (same_number number)
written_twice number v w false kept e = cond-false _ _ _ e

-- of two writes of a key by one number the first counts
pub written-either : (number : ℕ) (o p : Option ℕ) (kept : Option Version) → written number (first_of o p) kept ≡ written number p (written number o kept)
written-either number None p kept = refl
written-either number (Some v) None kept = refl
written-either number (Some v) (Some w) kept = sym (written_twice number v w (is_newer number kept) kept refl)

-- a write behind the first ones
pub written_more : (writes : List Put) (i : ℕ) (d : Put) (number : ℕ) (key : Key) (first now old : Option Version) → i < length writes → now ≡ written number (value_in (take i writes) key) first → old ≡ written number (value_in (get_or writes i d ∷ []) key) now → old ≡ written number (value_in (take (i + 1) writes) key) first
written_more writes i d number key first now old h e f =
    let put = get_or writes i d in
    f ∙ ap (written number (value_in (put ∷ []) key)) e
    ∙ sym (written-either number (value_in (take i writes) key) (value_in (put ∷ []) key) first)
    ∙ ap (λ o. written number o first) (sym (value_in-append (take i writes) (put ∷ []) key))
    ∙ ap (λ ws. written number (value_in ws key) first) (sym (take_more writes i d h))

-- a row whose key is less than those of rows behind it
first_less : (x : Put) (xs : List Put) (i : ℕ) (d : Put) → IsRising (λ put. put.key.0) (x ∷ xs) → i < length xs → x.key.0 < (get_or xs i d).key.0
first_less x [] i d rising h = absurd (omega arith)
first_less x (y ∷ ys) zero d rising h = rising.0
first_less x (y ∷ ys) (suc i) d rising h = let next = first_less y ys i d rising.1 (omega arith) in let first = rising.0 in omega (arith, next, first)

-- the key of a row has no row before it, where keys rise
none_before : (rows : List Put) (i : ℕ) (d : Put) (key : Key) → i < length rows → IsRising (λ put. put.key.0) rows → (get_or rows i d).key.0 ≡ key.0 → value_in (take i rows) key ≡ None
none_before [] i d key h rising e = absurd (omega arith)
none_before (x ∷ xs) zero d key h rising e = refl
none_before (x ∷ xs) (suc i) d key h rising e =
    let less = first_less x xs i d rising (omega arith) in
    let apart : same_key x.key key ≡ false = ne_eqb x.key.0 key.0 (omega (arith, less, e)) in
    ap (λ b. cond b (Some x.value) (value_in (take i xs) key)) apart ∙ none_before xs i d key (omega arith) (rising_tail x xs rising) e

first_none : (o : Option ℕ) → first_of o None ≡ o
first_none None = refl
first_none (Some v) = refl

-- a first row behind others
pub first_more : (rows : List Put) (i : ℕ) (d : Put) (key : Key) (old new : Option Version) → i < length rows → IsRising (λ put. put.key.0) rows → old ≡ written 0 (value_in (take i rows) key) None
    → new ≡ cond (nat_eq (get_or rows i d).key.0 key.0) (Some (by_number 0 (get_or rows i d).value)) old → new ≡ written 0 (value_in (take (i + 1) rows) key) None
first_more rows i d key old new h rising e f = f ∙ by_test (nat_eq put.key.0 key.0) refl ∙ ap (λ o. written 0 o None) (sym more)
  where
    put : Put
    put = get_or rows i d

    more : value_in (take (i + 1) rows) key ≡ first_of (value_in (take i rows) key) (value_in (put ∷ []) key)
    more = ap (λ ws. value_in ws key) (take_more rows i d h) ∙ value_in-append (take i rows) (put ∷ []) key

    by_test : (b : Bool) → nat_eq put.key.0 key.0 ≡ b → cond b (Some (by_number 0 put.value)) old ≡ written 0 (first_of (value_in (take i rows) key) (cond b (Some put.value) None)) None
    by_test true is = sym (ap (λ o. written 0 (first_of o (Some put.value)) None) (none_before rows i d key h rising (eqb-true put.key.0 key.0 is)))
    by_test false is = e ∙ ap (λ o. written 0 o None) (sym (first_none (value_in (take i rows) key)))

-- a write that counts
pub writes_one : (number value k q : ℕ) (was kept new : Option Version) → is_newer number was ≡ true → (k ≡ q → kept ≡ was) → new ≡ cond (nat_eq k q) (Some (by_number number value)) kept → new ≡ written number (cond (nat_eq k q) (Some value) None) kept
writes_one number value k q was kept new counts here e = e ∙ by_test (nat_eq k q) (λ is. here (eqb-true k q is))
  where
    by_test : (b : Bool) → (b ≡ true → kept ≡ was) → cond b (Some (by_number number value)) kept ≡ written number (cond b (Some value) None) kept
    by_test true same = sym (cond-true _ _ _ (ap (is_newer number) (same refl) ∙ counts))
    by_test false same = refl

-- a write that doesn't
pub keeps_one : (number value k q : ℕ) (was kept : Option Version) → is_newer number was ≡ false → (k ≡ q → kept ≡ was) → kept ≡ written number (cond (nat_eq k q) (Some value) None) kept
keeps_one number value k q was kept late here = by_test (nat_eq k q) (λ is. here (eqb-true k q is))
  where
    by_test : (b : Bool) → (b ≡ true → kept ≡ was) → kept ≡ written number (cond b (Some value) None) kept
    by_test true same = sym (cond-false _ _ _ (ap (is_newer number) (same refl) ∙ late))
    by_test false same = refl
