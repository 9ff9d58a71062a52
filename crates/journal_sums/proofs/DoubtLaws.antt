-- Those in doubt, and what a Checkpoint carries of them.
use Rattle.std.proofs.Common.{◌≡◌, ℕ, zero, suc, Bool, true, false, cond, Option, Some, List, [], ◌∷◌, drop, map, refl, sym, ap, ap₂, subst, ◌∙◌, inl, inr, arith}
use Rattle.std.specs.Prelude.{slice_get}
use Rattle.std.specs.declared.cmp.Ordering.TheVariants.{Less}
use Rattle.std.specs.List.{AllByRecursion}
use Rattle.std.specs.List.Sorted.{IsStrictlySortedBy}
use Rattle.std.specs.Map.{lookup, keys_of, values_of}
use Rattle.std.specs.BTreeMap.{is_at}
use Rattle.std.specs.Ordering.{is_eq}
use Rattle.std.proofs.lemmas.Bool.Decides.{nat_tests}
use Rattle.mdb_base.specs.declared.names.Tid.{Tid}
use Rattle.mdb_base.specs.Names.{same_tid, tid_before, tid_cmp}
use Rattle.mdb_base.specs.Words.{Each, found}
use Rattle.mdb_base.proofs.ForCallers.{each_map, less_before, same_tid-refl}
use Rattle.order_laws.specs.Chains.{In}
use Rattle.order_laws.proofs.ForCallers.{before_irreflexive, each_found_from, in_each, is_eq-tid_cmp, ranks_tids}
use Rattle.engine_laws.specs.Laws.{EachOnce}
use Rattle.fed_rules.specs.declared.records.SiteRecord.{SiteRecord}
use Rattle.fed_rules.specs.Attempts.{each_attempt}
use Rattle.fed_rules.specs.SiteRecords.{Held, doubt_of, doubts, held_before, kept_held, prepared_tids}
use Rattle.fed_rules.specs.SiteSums.{carried}
use Rattle.fed_rules.proofs.ForCallers.{AreSorted, sorted_by_tid}
use Rattle.engine_laws.proofs.ForCallers.{are_doubt, doubt_tid, each_by_tid, once_doubts}

-- the next one that a Checkpoint carries, of the last ones first
pub next_carried : (helds : List Held) (n : ℕ) (held : Held) (tid : Tid) (kept now : Option Held) → slice_get helds n ≡ Some held →
    kept ≡ doubt_of (carried (drop (suc n) helds)) tid → now ≡ cond (same_tid held.tid tid) (Some held) kept → now ≡ doubt_of (carried (drop n helds)) tid
next_carried [] n held tid kept now here before done = absurd cc
next_carried (h ∷ helds) zero held tid kept now here before done =
    let same : h ≡ held = cc in
    done ∙ ap (cond (same_tid held.tid tid) (Some held)) before ∙ ap (λ (g : Held). cond (same_tid g.tid tid) (Some g) (doubt_of (carried helds) tid)) (sym same)
next_carried (h ∷ helds) (suc n) held tid kept now here before done = next_carried helds n held tid kept now here before done

-- each stands before all behind it
abbrev Rises : List Held → Type 0
Rises [] = Unit {0}
Rises (held ∷ helds) = Each (λ later. held_before held later ≡ true) helds × Rises helds

-- two rising lists with the same members are one
same_members : (xs ys : List Held) → Rises xs → Rises ys → ((held : Held) → In held xs → In held ys) → ((held : Held) → In held ys → In held xs) → xs ≡ ys
same_members [] [] up above there back = refl
same_members [] (y ∷ ys) up above there back = absurd (back y (inl refl))
same_members (x ∷ xs) [] up above there back = absurd (there x (inl refl))
same_members (x ∷ xs) (y ∷ ys) up above there back =
    let same : x ≡ y = heads (there x (inl refl)) (back y (inl refl)) in
    ap₂ (λ z zs. z ∷ zs) same
    (same_members xs ys up.1 above.1 (λ z i. tail x y z xs ys same up.0 (there z (inr i)) i) (λ z i. tail y x z ys xs (sym same) above.0 (back z (inr i)) i))
  where
    heads : In x (y ∷ ys) → In y (x ∷ xs) → x ≡ y
    heads (inl e) j = sym e
    heads (inr i) (inl e) = e
    heads (inr i) (inr j) =
        (let a = in_each (λ (z : Held). held_before y z ≡ true) ys x above.0 i in
        let b = in_each (λ (z : Held). held_before x z ≡ true) xs y up.0 j in
        let c = ranks_tids.one_way x.tid y.tid b in cc)

    tail : (u v z : Held) (us vs : List Held) → u ≡ v → Each (λ w. held_before u w ≡ true) us → In z (v ∷ vs) → In z us → In z vs
    tail u v z us vs same e (inl s) j =
        absurd (before_irreflexive u.tid (in_each (λ (w : Held). held_before u w ≡ true) us u e (subst (λ w. In w us) (sym s ∙ sym same) j)))
    tail u v z us vs same e (inr i) j = i

before_from : (x y : Tid) → same_tid x y ≡ false → tid_before y x ≡ false → tid_before x y ≡ true
before_from x y e f = grind arith

-- sorted ones of different attempts rise
rises_once : (helds : List Held) → AreSorted helds → EachOnce (map kept_held helds) → Rises helds
rises_once [] s once = tt
rises_once (held ∷ helds) s once = (each_before helds s.0 once.0, rises_once helds s.1 once.1)
  where
    each_before : (more : List Held) → Each (λ later. held_before later held ≡ false) more → Each (λ other. same_tid held.tid other.tid ≡ false) (map kept_held more) →
        Each (λ later. held_before held later ≡ true) more
    each_before [] behind apart = tt
    each_before (next ∷ more) behind apart = (before_from held.tid next.tid apart.0 behind.0, each_before more behind.1 apart.1)

-- each one in doubt is what the records say of its attempt
pub are_doubts : (records : List SiteRecord) → Each (λ held. doubt_of records held.tid ≡ Some held) (doubts records)
are_doubts records =
    each_by_tid (λ held. doubt_of records held.tid ≡ Some held) (found (doubt_of records) (each_attempt (prepared_tids records)))
    (each_found_from (λ held. doubt_of records held.tid ≡ Some held) (doubt_of records) (each_attempt (prepared_tids records))
    (λ tid held i e. ap (doubt_of records) (doubt_tid records tid held e) ∙ e))

-- a look-up in the tree
abbrev look : List (Tid × Held) → Tid → Option Held
look entries tid = lookup (is_at (tid_cmp tid)) entries

differs_less : (a b : Tid) → tid_cmp a b ≡ Less → is_eq (tid_cmp b a) ≡ false
differs_less a b e = grind (arith, nat_tests)

-- each entry is found by its own attempt
own_entries : (entries : List (Tid × Held)) → IsStrictlySortedBy tid_cmp (keys_of entries) → Each (λ entry. look entries entry.0 ≡ Some entry.1) entries
unfolding IsStrictlySortedBy
own_entries [] sorted = tt
own_entries (e ∷ es) sorted =
    (ap (λ b. cond b (Some e.1) (look es e.0)) (is_eq-tid_cmp e.0 e.0 ∙ same_tid-refl e.0), behind es sorted.0 (own_entries es sorted.1))
  where
    behind : (more : List (Tid × Held)) → AllByRecursion (λ tid. tid_cmp e.0 tid ≡ Less) (keys_of more) → Each (λ entry. look es entry.0 ≡ Some entry.1) more →
        Each (λ entry. look (e ∷ es) entry.0 ≡ Some entry.1) more
    behind [] less own = tt
    behind (f ∷ more) less own =
        (ap (λ b. cond b (Some e.1) (look es f.0)) (differs_less e.0 f.0 less.0) ∙ own.0, behind more less.1 own.1)

value_in_entries : (entries : List (Tid × Held)) (tid : Tid) (held : Held) → look entries tid ≡ Some held → In held (values_of entries)
value_in_entries [] tid held e = cc
value_in_entries (f ∷ es) tid held e = by_test (is_eq (tid_cmp tid f.0)) e (value_in_entries es tid held)
  where
    by_test : (b : Bool) → cond b (Some f.1) (look es tid) ≡ Some held → (look es tid ≡ Some held → In held (values_of es)) → In held (f.1 ∷ values_of es)
    by_test true e rest = inl cc
    by_test false e rest = inr (rest e)

each_value : (P : Held → Type 0) (entries : List (Tid × Held)) → Each (λ entry. P entry.1) entries → Each P (values_of entries)
each_value P [] h = tt
each_value P (e ∷ es) h = (h.0, each_value P es h.1)

-- the values rise, if each is of the attempt that it is kept under
rises-values : (entries : List (Tid × Held)) → IsStrictlySortedBy tid_cmp (keys_of entries) → Each (λ entry. entry.1.tid ≡ entry.0) entries → Rises (values_of entries)
unfolding IsStrictlySortedBy
rises-values [] sorted own = tt
rises-values (e ∷ es) sorted own = (behind es sorted.0 own.1, rises-values es sorted.1 own.1)
  where
    behind : (more : List (Tid × Held)) → AllByRecursion (λ tid. tid_cmp e.0 tid ≡ Less) (keys_of more) → Each (λ entry. entry.1.tid ≡ entry.0) more →
        Each (λ later. held_before e.1 later ≡ true) (values_of more)
    behind [] less own_more = tt
    behind (f ∷ more) less own_more = (ap₂ tid_before own.0 own_more.0 ∙ less_before e.0 f.0 less.0, behind more less.1 own_more.1)

-- a tree that gives each attempt what the records say of it has those in doubt
pub values_doubts : (entries : List (Tid × Held)) (records : List SiteRecord) → IsStrictlySortedBy tid_cmp (keys_of entries) →
    ((tid : Tid) → look entries tid ≡ doubt_of records tid) → values_of entries ≡ doubts records
values_doubts entries records sorted tells =
    same_members (values_of entries) (doubts records) (rises-values entries sorted own)
    (rises_once (doubts records) (sorted_by_tid (found (doubt_of records) (each_attempt (prepared_tids records)))) (once_doubts records))
    (λ held i. are_doubt records held (in_each (λ (h : Held). doubt_of records h.tid ≡ Some h) (values_of entries) held are i))
    (λ held i. value_in_entries entries held.tid held (tells held.tid ∙ in_each (λ (h : Held). doubt_of records h.tid ≡ Some h) (doubts records) held (are_doubts records) i))
  where
    own : Each (λ entry. entry.1.tid ≡ entry.0) entries
    own =
        each_map (λ (entry : Tid × Held). look entries entry.0 ≡ Some entry.1) (λ (entry : Tid × Held). entry.1.tid ≡ entry.0)
        (λ entry e. doubt_tid records entry.0 entry.1 (sym (tells entry.0) ∙ e)) entries (own_entries entries sorted)

    are : Each (λ held. doubt_of records held.tid ≡ Some held) (values_of entries)
    are =
        each_value (λ held. doubt_of records held.tid ≡ Some held) entries
        (each_map (λ (entry : Tid × Held). look entries entry.0 ≡ Some entry.1) (λ (entry : Tid × Held). doubt_of records entry.1.tid ≡ Some entry.1)
        (λ entry e. let told = sym (tells entry.0) ∙ e in ap (doubt_of records) (doubt_tid records entry.0 entry.1 told) ∙ told) entries (own_entries entries sorted))
