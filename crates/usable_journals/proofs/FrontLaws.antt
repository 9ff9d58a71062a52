-- What a front leaves, and what the next record makes of it.
use Rattle.std.proofs.Common.{◌≡◌, ℕ, ◌<◌, ◌≤◌, ◌⊎◌, nat_lt, Bool, true, false, cond, ◌||◌, IsTrue, Option, Some, None, List, [], ◌∷◌, refl, sym, ap, ◌∙◌, subst, inl, inr, arith, ltb-true, ltb-false}
use Rattle.std.specs.BTreeMap.{get}
use Rattle.mdb_base.specs.declared.names.Key.{Key}
use Rattle.mdb_base.specs.declared.names.Tid.{Tid}
use Rattle.mdb_base.specs.declared.rows.Put.{Put}
use Rattle.mdb_base.specs.Names.{same_key, same_tid}
use Rattle.mdb_base.specs.Words.{each_of}
use Rattle.mdb_base.proofs.ForCallers.{is_true_both, is_true_parts, same_key-equal, same_key-refl, same_tid-equal, same_tid-refl, same_tid-sym, some_parts}
use Rattle.order_laws.specs.Chains.{In}
use Rattle.order_laws.proofs.ForCallers.{each_from, each_of_at, each_of_true}
use Rattle.presumptions.specs.declared.Decision.{Decision}
use Rattle.fed_rules.specs.declared.records.SiteRecord.{SiteRecord}
use Rattle.fed_rules.specs.declared.records.SiteRecord.TheVariants.{Setup, Start, Prepared, Ended, Local, Checkpoint}
use Rattle.fed_rules.specs.EngineLines.{AreApart, has_row}
use Rattle.fed_rules.specs.SiteRecords.{Held, Install, doubt_of, installs, kept_held}
use Rattle.fed_rules.specs.Usable.{KeepClear}
use Rattle.engine_laws.proofs.ForCallers.{rows_apart}
use Rattle.journal_sums.specs.Versions.{key_cmp}
use Rattle.usable_journals.specs.declared.fronts.Front.{Front}
use Rattle.usable_journals.specs.Fronts as tests
use Rattle.usable_journals.specs.Fronts.{CanHold, IsDoubt, IsHeldBy, IsLast, IsNew, IsWrittenUpTo, MayStand, Tells, held_read, is_free, is_under}
use Rattle.usable_journals.specs.SiteTests.{is_over}

-- ---- writes

pub row_in : (put : Put) (writes : List Put) → In put writes → has_row put.key writes ≡ true
row_in put [] i = absurd i
row_in put (x ∷ xs) (inl e) = ap (λ b. b || has_row put.key xs) (subst (λ (p : Put). same_key x.key p.key ≡ true) e (same_key-refl x.key))
row_in put (x ∷ xs) (inr i) = ap (λ b. same_key x.key put.key || b) (row_in put xs i) ∙ or_true (same_key x.key put.key)
  where
    or_true : (b : Bool) → (b || true) ≡ true
    or_true true = refl
    or_true false = refl

-- a key that both write
pub both_write : (key : Key) (writes others : List Put) → KeepClear writes others → has_row key writes ≡ true → has_row key others ≡ true → ⊥
both_write key [] others clear here there = cc
both_write key (x ∷ xs) others clear here there = by_test (same_key x.key key) refl here (both_write key xs others clear.1)
  where
    by_test : (b : Bool) → same_key x.key key ≡ b → (b || has_row key xs) ≡ true → (has_row key xs ≡ true → has_row key others ≡ true → ⊥) → ⊥
    by_test true e f rest = let none = subst (λ (k : Key). has_row k others ≡ false) (same_key-equal x.key key e) clear.0 in cc
    by_test false e f rest = rest f there

-- they keep clear where no key of the ones is written by the others
clear_from : (writes others : List Put) → ((put : Put) → In put writes → has_row put.key others ≡ true → ⊥) → KeepClear writes others
clear_from writes others never = each_from (λ (put : Put). has_row put.key others ≡ false) writes (λ put i. by_test put (has_row put.key others) refl (never put i))
  where
    by_test : (put : Put) (b : Bool) → has_row put.key others ≡ b → (has_row put.key others ≡ true → ⊥) → has_row put.key others ≡ false
    by_test put true e nay = absurd (nay e)
    by_test put false e nay = e

-- ---- who is in doubt

-- two in doubt of one attempt are one
pub one_doubt : (rs : List SiteRecord) (a b : Held) → IsDoubt rs a → IsDoubt rs b → same_tid a.tid b.tid ≡ true → a ≡ b
one_doubt rs a b x y e = some_parts (sym x ∙ ap (doubt_of rs) (same_tid-equal a.tid b.tid e) ∙ y)

-- the new one is in doubt
pub newly : (held : Held) (rs : List SiteRecord) → IsDoubt (held_read held ∷ rs) held
newly held rs = ap (λ b. cond b (Some held) (doubt_of rs held.tid)) (same_tid-refl held.tid)

-- and the others still are
pub still : (held x : Held) (rs : List SiteRecord) → doubt_of rs held.tid ≡ None → IsDoubt rs x → IsDoubt (held_read held ∷ rs) x
still held x rs none is = by_test (same_tid held.tid x.tid) refl
  where
    by_test : (b : Bool) → same_tid held.tid x.tid ≡ b → cond b (Some held) (doubt_of rs x.tid) ≡ Some x
    by_test true e = let never : None ≡ Some x = sym none ∙ ap (doubt_of rs) (same_tid-equal held.tid x.tid e) ∙ is in cc
    by_test false e = is

-- who is in doubt then is the new one or was so before
pub new_or_old : (held x : Held) (rs : List SiteRecord) → IsDoubt (held_read held ∷ rs) x → (held ≡ x) ⊎ IsDoubt rs x
new_or_old held x rs is = by_test (same_tid held.tid x.tid) is
  where
    by_test : (b : Bool) → cond b (Some held) (doubt_of rs x.tid) ≡ Some x → (held ≡ x) ⊎ IsDoubt rs x
    by_test true e = inl (some_parts e)
    by_test false e = inr e

-- who is in doubt behind an Ended was so before, and is of another attempt
pub was_doubt : (tid : Tid) (decision : Decision) (x : Held) (rs : List SiteRecord) → IsDoubt (Ended tid decision ∷ rs) x → (same_tid tid x.tid ≡ false) × IsDoubt rs x
was_doubt tid decision x rs is = by_test (same_tid tid x.tid) refl is
  where
    by_test : (b : Bool) → same_tid tid x.tid ≡ b → cond b None (doubt_of rs x.tid) ≡ Some x → (same_tid tid x.tid ≡ false) × IsDoubt rs x
    by_test true e f = cc
    by_test false e f = (e, f)

pub stays_doubt : (tid : Tid) (decision : Decision) (x : Held) (rs : List SiteRecord) → same_tid tid x.tid ≡ false → IsDoubt rs x → IsDoubt (Ended tid decision ∷ rs) x
stays_doubt tid decision x rs apart is = ap (λ b. cond b None (doubt_of rs x.tid)) apart ∙ is

-- ---- those in doubt are apart

abbrev pub AreAllApart : List SiteRecord → Type 0
AreAllApart rs = (a b : Held) → IsDoubt rs a → IsDoubt rs b → same_tid a.tid b.tid ≡ false → AreApart (kept_held a) (kept_held b)

-- what the new one keeps to each before
pub apart_from : (held x : Held) → (x.ticket < held.ticket) → (x.number < held.number) × KeepClear held.writes x.writes → same_tid held.tid x.tid ≡ false
    → AreApart (kept_held held) (kept_held x) × AreApart (kept_held x) (kept_held held)
apart_from held x later more apart = (
  record { tids = apart; keys = more.1; order = inr (more.0, later) },
  record { tids = same_tid-sym x.tid held.tid ∙ apart; keys = rows_apart held.writes x.writes more.1; order = inl (more.0, later) },
)

pub other_tid : (held x : Held) (rs : List SiteRecord) → doubt_of rs held.tid ≡ None → IsDoubt rs x → same_tid held.tid x.tid ≡ false
other_tid held x rs none is = by_test (same_tid held.tid x.tid) refl
  where
    by_test : (b : Bool) → same_tid held.tid x.tid ≡ b → same_tid held.tid x.tid ≡ false
    by_test true e = let never : None ≡ Some x = sym none ∙ ap (doubt_of rs) (same_tid-equal held.tid x.tid e) ∙ is in cc
    by_test false e = e

pub apart_more : (r : SiteRecord) (rs : List SiteRecord) → AreAllApart rs → IsNew r rs → MayStand r rs → AreAllApart (r ∷ rs)
apart_more (Prepared t e n k w) rs apart new may a b x y other =
    elim (new_or_old held a rs x) [
      | inl here ↦ elim (new_or_old held b rs y) [
        | inl there ↦ (let never : same_tid a.tid b.tid ≡ true = subst (λ (h : Held). same_tid a.tid h.tid ≡ true) (sym here ∙ there) (same_tid-refl a.tid) in cc)
        | inr j ↦ subst (λ h. AreApart (kept_held h) (kept_held b)) here (apart_from held b (new.1 b j) (may.0 b j) (other_tid held b rs new.0 j)).0
      ]
      | inr i ↦ elim (new_or_old held b rs y) [
        | inl there ↦ subst (λ h. AreApart (kept_held a) (kept_held h)) there (apart_from held a (new.1 a i) (may.0 a i) (other_tid held a rs new.0 i)).1
        | inr j ↦ apart a b i j other
      ]
    ]
  where
    held : Held
    held = record { tid = t; epoch = e; number = n; ticket = k; writes = w }
apart_more (Ended t d) rs apart new may a b x y other = apart a b (was_doubt t d a rs x).1 (was_doubt t d b rs y).1 other
apart_more (Setup site engine protocol items) rs apart new may a b x y other = apart a b x y other
apart_more (Start n) rs apart new may a b x y other = apart a b x y other
apart_more (Local t n w) rs apart new may a b x y other = apart a b x y other
apart_more (Checkpoint sum) rs apart new may a b x y other = apart a b x y other

-- one that is apart from each before is behind all of them
pub may_hold_from : (held : Held) (rs : List SiteRecord) → AreAllApart (held_read held ∷ rs) → doubt_of rs held.tid ≡ None → ((x : Held) → IsDoubt rs x → x.ticket < held.ticket)
    → (x : Held) → IsDoubt rs x → (x.number < held.number) × KeepClear held.writes x.writes
may_hold_from held rs apart none later x is =
    let two = apart held x (newly held rs) (still held x rs none is) (other_tid held x rs none is) in
    let t = later x is in (
      elim two.order [
        | inl (less, below) ↦ absurd (omega (arith, t, below))
        | inr (more, above) ↦ more
      ],
      two.keys,
    )

pub apart_numbers : (a b : Held) → AreApart (kept_held a) (kept_held b) → a.number ≡ b.number → ⊥
apart_numbers a b apart same = elim apart.order [
  | inl (less, below) ↦ omega (arith, same, less)
  | inr (more, above) ↦ omega (arith, same, more)
]

-- ---- the tests say whether the next record may stand

nat_over : (o : Option ℕ) (last number : ℕ) → o ≡ Some last → is_over o number ≡ true → last < number
nat_over (Some l) last number e f = let same : l ≡ last = some_parts e in let less = ltb-true l number f in omega (arith, same, less)
nat_over None last number e f = cc

-- no committed one of this number or a greater one writes a key that is written
committed_there : (is : List Install) (look : Key → Option ℕ) → ((key : Key) → IsWrittenUpTo is key (look key)) → (number : ℕ) (writes : List Put)
    → ((put : Put) → In put writes → is_over (look put.key) number ≡ true) → (i : Install) → In i is → number ≤ i.number → KeepClear writes i.writes
committed_there is look up number writes over i at more = clear_from writes i.writes (λ put j row. by_look put (look put.key) (up put.key) (over put j) row)
  where
    by_look : (put : Put) (o : Option ℕ) → IsWrittenUpTo is put.key o → is_over o number ≡ true → has_row put.key i.writes ≡ true → ⊥
    by_look put None none f row = let nay = none i at in cc
    by_look put (Some last) some f row = let least = some.1 i at row in let less = ltb-true last number f in omega (arith, least, less, more)

committed_back : (is : List Install) (look : Key → Option ℕ) → ((key : Key) → IsWrittenUpTo is key (look key)) → (number : ℕ) (writes : List Put)
    → ((i : Install) → In i is → number ≤ i.number → KeepClear writes i.writes) → (put : Put) → In put writes → is_over (look put.key) number ≡ true
committed_back is look up number writes clear put j = by_look (look put.key) (up put.key)
  where
    by_look : (o : Option ℕ) → IsWrittenUpTo is put.key o → is_over o number ≡ true
    by_look None none = refl
    by_look (Some last) ((i, at, row, is_last), all) = by_test (nat_lt last number) refl
      where
        by_test : (b : Bool) → nat_lt last number ≡ b → nat_lt last number ≡ true
        by_test true e = e
        by_test false e =
            let few = ltb-false last number e in
            let clash = both_write put.key writes i.writes (clear i at (omega (arith, few, is_last))) (row_in put writes j) row in absurd clash

pub hold_there : (front : Front) (rs : List SiteRecord) (held : Held) → Tells front rs → CanHold front held.number held.writes → MayStand (held_read held) rs
hold_there front rs held t can = (
  λ x is. (can.last x.number (t.all_numbers x is), clear_from held.writes x.writes (λ put i row. by_look put (get key_cmp front.held put.key) (t.held put.key) (parts put i).0 x is row)),
  committed_there (installs rs) (λ key. get key_cmp front.committed key) t.committed held.number held.writes (λ put i. (parts put i).1),
)
  where
    parts : (put : Put) → In put held.writes → IsTrue (is_free (get key_cmp front.held put.key)) × IsTrue (is_over (get key_cmp front.committed put.key) held.number)
    parts put i = is_true_parts (is_free (get key_cmp front.held put.key)) (is_over (get key_cmp front.committed put.key) held.number)
        (each_of_at (tests.may_hold front held.number) held.writes put can.keys i)

    by_look : (put : Put) (o : Option ℕ) → IsHeldBy rs put.key o → is_free o ≡ true → (x : Held) → IsDoubt rs x → has_row put.key x.writes ≡ true → ⊥
    by_look put None none f x is row = let nay = none x is in cc
    by_look put (Some n) some f x is row = cc

pub hold_back : (front : Front) (rs : List SiteRecord) (held : Held) → Tells front rs → MayStand (held_read held) rs → CanHold front held.number held.writes
hold_back front rs held t may = record {
  last = λ n has. (let (x, is, same) = t.numbers n has in let less = (may.0 x is).0 in omega (arith, less, same));
  keys = each_of_true (tests.may_hold front held.number) held.writes (λ put i.
      is_true_both (is_free (get key_cmp front.held put.key)) (is_over (get key_cmp front.committed put.key) held.number)
      (by_look put i (get key_cmp front.held put.key) (t.held put.key))
      (committed_back (installs rs) (λ key. get key_cmp front.committed key) t.committed held.number held.writes may.1 put i));
}
  where
    by_look : (put : Put) → In put held.writes → (o : Option ℕ) → IsHeldBy rs put.key o → is_free o ≡ true
    by_look put i None none = refl
    by_look put i (Some n) (x, is, row, same) = absurd (both_write put.key held.writes x.writes (may.0 x is).1 (row_in put held.writes i) row)

pub write_there : (front : Front) (rs : List SiteRecord) (tid : Tid) (number : ℕ) (writes : List Put) → AreAllApart rs → Tells front rs
    → each_of (tests.may_write front number) writes ≡ true → MayStand (Local tid number writes) rs
write_there front rs tid number writes apart t can = (
  λ x is less. rows_apart writes x.writes (clear_from writes x.writes (λ put i row. by_look put (get key_cmp front.held put.key) (t.held put.key) (parts put i).0 x is less row)),
  λ i at. by_test i at (nat_lt i.number number) refl,
)
  where
    parts : (put : Put) → In put writes → IsTrue (is_under (get key_cmp front.held put.key) number) × IsTrue (is_over (get key_cmp front.committed put.key) number)
    parts put i = is_true_parts (is_under (get key_cmp front.held put.key) number) (is_over (get key_cmp front.committed put.key) number)
        (each_of_at (tests.may_write front number) writes put can i)

    same_one : (put : Put) (x y : Held) → IsDoubt rs x → IsDoubt rs y → has_row put.key x.writes ≡ true → has_row put.key y.writes ≡ true → x ≡ y
    same_one put x y a b row other = by_tid (same_tid x.tid y.tid) refl
      where
        by_tid : (c : Bool) → same_tid x.tid y.tid ≡ c → x ≡ y
        by_tid true e = one_doubt rs x y a b e
        by_tid false e = absurd (both_write put.key x.writes y.writes (apart x y a b e).keys row other)

    by_look : (put : Put) (o : Option ℕ) → IsHeldBy rs put.key o → is_under o number ≡ true → (x : Held) → IsDoubt rs x → x.number ≤ number → has_row put.key x.writes ≡ true → ⊥
    by_look put None none f x is less row = let nay = none x is in cc
    by_look put (Some n) (y, at, other, same) f x is less row =
        let one = ap (λ (h : Held). h.number) (same_one put x y is at row other) in
        let more = ltb-true number n f in omega (arith, one, more, less, same)

    by_test : (i : Install) → In i (installs rs) → (b : Bool) → nat_lt i.number number ≡ b → (i.number < number) ⊎ KeepClear writes i.writes
    by_test i at true e = inl (ltb-true i.number number e)
    by_test i at false e =
        inr (committed_there (installs rs) (λ key. get key_cmp front.committed key) t.committed number writes (λ put j. (parts put j).1) i at (ltb-false i.number number e))

pub write_back : (front : Front) (rs : List SiteRecord) (tid : Tid) (number : ℕ) (writes : List Put) → Tells front rs → MayStand (Local tid number writes) rs
    → each_of (tests.may_write front number) writes ≡ true
write_back front rs tid number writes t may = each_of_true (tests.may_write front number) writes (λ put i.
    is_true_both (is_under (get key_cmp front.held put.key) number) (is_over (get key_cmp front.committed put.key) number)
    (by_look put i (get key_cmp front.held put.key) (t.held put.key))
    (committed_back (installs rs) (λ key. get key_cmp front.committed key) t.committed number writes clear put i))
  where
    clear : (i : Install) → In i (installs rs) → number ≤ i.number → KeepClear writes i.writes
    clear i at more = elim (may.1 i at) [ inl less ↦ absurd (omega (arith, more, less)) | inr c ↦ c ]

    by_look : (put : Put) → In put writes → (o : Option ℕ) → IsHeldBy rs put.key o → is_under o number ≡ true
    by_look put i None none = refl
    by_look put i (Some n) (x, is, row, same) = by_test (nat_lt number n) refl
      where
        by_test : (b : Bool) → nat_lt number n ≡ b → nat_lt number n ≡ true
        by_test true e = e
        by_test false e =
            let few = ltb-false number n e in
            absurd (both_write put.key x.writes writes (may.0 x is (omega (arith, few, same))) row (row_in put writes i))
