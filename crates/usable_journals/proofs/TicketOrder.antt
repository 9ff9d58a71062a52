-- Those in doubt by their tickets.
use Rattle.std.proofs.Common.{◌≡◌, ℕ, ◌<◌, ◌⊎◌, Bool, true, false, cond, Option, Some, None, List, [], ◌∷◌, ◌++◌, map, reverse, refl, sym, ap, ◌∙◌, subst, inl, inr, arith}
use Rattle.std.proofs.lemmas.Bool.Decides.{nat_tests}
use Rattle.std.proofs.lemmas.List.{reverse-append, reverse-reverse}
use Rattle.std.specs.declared.cmp.Ordering.TheVariants.{Less}
use Rattle.std.specs.List.{AllByRecursion}
use Rattle.std.specs.List.Sorted.{IsStrictlySortedBy}
use Rattle.std.specs.Map.{keys_of, lookup, values_of}
use Rattle.std.specs.BTreeMap.{is_at}
use Rattle.std.specs.Ordering.{is_eq, nat_cmp}
use Rattle.mdb_base.specs.Words.{Each}
use Rattle.mdb_base.proofs.ForCallers.{append_each, each_map, nat_cmp-less, some_parts}
use Rattle.order_laws.specs.Chains.{Distinct, In}
use Rattle.order_laws.proofs.ForCallers.{each_at, each_from, in_reverse, one_image}
use Rattle.fed_rules.specs.SiteRecords.{Held}
use Rattle.usable_journals.specs.Fronts.{FallByTicket, IsByTicket, held_at}
use Rattle.usable_journals.proofs.Words.{is_eq-nat}

differs : (a b : ℕ) → nat_cmp a b ≡ Less → is_eq (nat_cmp b a) ≡ false
differs a b e = grind (arith, nat_tests)

itself : (a : ℕ) → is_eq (nat_cmp a a) ≡ true
itself a = grind (arith, nat_tests)

-- ---- what the tree of those of a list gives

record IsFound (xs : List Held) (ticket : ℕ) (o : Option Held) : Type 0 where
  held : Held
  is : o ≡ Some held
  at : In held xs
  own : held.ticket ≡ ticket

found_or_kept : (xs : List Held) (ticket : ℕ) (o : Option Held) → (held_at xs ticket o ≡ o) ⊎ IsFound xs ticket (held_at xs ticket o)
found_or_kept [] ticket o = inl refl
found_or_kept (x ∷ xs) ticket o = by_test (is_eq (nat_cmp x.ticket ticket)) refl (λ p. found_or_kept xs ticket p)
  where
    by_rest : (p : Option Held) → (held_at xs ticket p ≡ p) ⊎ IsFound xs ticket (held_at xs ticket p) → (p ≡ o) ⊎ ((p ≡ Some x) × (x.ticket ≡ ticket))
        → (held_at xs ticket p ≡ o) ⊎ IsFound (x ∷ xs) ticket (held_at xs ticket p)
    by_rest p (inl e) (inl f) = inl (e ∙ f)
    by_rest p (inl e) (inr (f, own)) = inr (record { held = x; is = e ∙ f; at = inl refl; own = own })
    by_rest p (inr f) h = inr (record { held = f.held; is = f.is; at = inr f.at; own = f.own })

    by_test : (b : Bool) → is_eq (nat_cmp x.ticket ticket) ≡ b → ((p : Option Held) → (held_at xs ticket p ≡ p) ⊎ IsFound xs ticket (held_at xs ticket p))
        → (held_at xs ticket (cond b (Some x) o) ≡ o) ⊎ IsFound (x ∷ xs) ticket (held_at xs ticket (cond b (Some x) o))
    by_test true e rest = by_rest (Some x) (rest (Some x)) (inr (refl, is_eq-nat x.ticket ticket e))
    by_test false e rest = by_rest o (rest o) (inl refl)

-- one of the list is found by its ticket
found : (xs : List Held) (h : Held) (o : Option Held) → In h xs → IsFound xs h.ticket (held_at xs h.ticket o)
found [] h o i = absurd i
found (x ∷ xs) h o (inr i) = let f = found xs h (cond (is_eq (nat_cmp x.ticket h.ticket)) (Some x) o) i in record { held = f.held; is = f.is; at = inr f.at; own = f.own }
found (x ∷ xs) h o (inl e) =
    let yes : is_eq (nat_cmp x.ticket h.ticket) ≡ true = ap (λ (y : Held). is_eq (nat_cmp x.ticket y.ticket)) (sym e) ∙ itself x.ticket in
    subst (λ b. IsFound (x ∷ xs) h.ticket (held_at xs h.ticket (cond b (Some x) o))) (sym yes) (by_rest (found_or_kept xs h.ticket (Some x)))
  where
    by_rest : (held_at xs h.ticket (Some x) ≡ Some x) ⊎ IsFound xs h.ticket (held_at xs h.ticket (Some x)) → IsFound (x ∷ xs) h.ticket (held_at xs h.ticket (Some x))
    by_rest (inl f) = record { held = x; is = f; at = inl refl; own = ap (λ (y : Held). y.ticket) e }
    by_rest (inr f) = record { held = f.held; is = f.is; at = inr f.at; own = f.own }

-- ---- its entries

abbrev look : List (ℕ × Held) → ℕ → Option Held
look entries ticket = lookup (is_at (nat_cmp ticket)) entries

own_entries : (entries : List (ℕ × Held)) → IsStrictlySortedBy nat_cmp (keys_of entries) → Each (λ entry. look entries entry.0 ≡ Some entry.1) entries
unfolding IsStrictlySortedBy
own_entries [] sorted = tt
own_entries (e ∷ es) sorted = (ap (λ b. cond b (Some e.1) (look es e.0)) (itself e.0), behind es sorted.0 (own_entries es sorted.1))
  where
    behind : (more : List (ℕ × Held)) → AllByRecursion (λ n. nat_cmp e.0 n ≡ Less) (keys_of more) → Each (λ entry. look es entry.0 ≡ Some entry.1) more
        → Each (λ entry. look (e ∷ es) entry.0 ≡ Some entry.1) more
    behind [] low own = tt
    behind (f ∷ more) low own = (ap (λ b. cond b (Some e.1) (look es f.0)) (differs e.0 f.0 low.0) ∙ own.0, behind more low.1 own.1)

value_in_entries : (entries : List (ℕ × Held)) (ticket : ℕ) (held : Held) → look entries ticket ≡ Some held → In held (values_of entries)
value_in_entries [] ticket held e = cc
value_in_entries (f ∷ es) ticket held e = by_test (is_eq (nat_cmp ticket f.0)) e (value_in_entries es ticket held)
  where
    by_test : (b : Bool) → cond b (Some f.1) (look es ticket) ≡ Some held → (look es ticket ≡ Some held → In held (values_of es)) → In held (f.1 ∷ values_of es)
    by_test true e rest = inl cc
    by_test false e rest = inr (rest e)

each_value : (P : Held → Type 0) (entries : List (ℕ × Held)) → Each (λ entry. P entry.1) entries → Each P (values_of entries)
each_value P [] h = tt
each_value P (e ∷ es) h = (h.0, each_value P es h.1)

-- each stands before all behind it by its ticket
abbrev Rises : List Held → Type 0
Rises [] = Unit {0}
Rises (x ∷ xs) = Each (λ (y : Held). x.ticket < y.ticket) xs × Rises xs

rises-values : (entries : List (ℕ × Held)) → IsStrictlySortedBy nat_cmp (keys_of entries) → Each (λ entry. entry.1.ticket ≡ entry.0) entries → Rises (values_of entries)
unfolding IsStrictlySortedBy
rises-values [] sorted own = tt
rises-values (e ∷ es) sorted own = (behind es sorted.0 own.1, rises-values es sorted.1 own.1)
  where
    behind : (more : List (ℕ × Held)) → AllByRecursion (λ n. nat_cmp e.0 n ≡ Less) (keys_of more) → Each (λ entry. entry.1.ticket ≡ entry.0) more
        → Each (λ (y : Held). e.1.ticket < y.ticket) (values_of more)
    behind [] low own_more = tt
    behind (f ∷ more) low own_more =
        ((let a = nat_cmp-less e.0 f.0 low.0 in let b = own.0 in let d = own_more.0 in omega (arith, a, b, d)), behind more low.1 own_more.1)

falls_last : (ys : List Held) (x : Held) → FallByTicket ys → Each (λ (y : Held). x.ticket < y.ticket) ys → FallByTicket (ys ++ x ∷ [])
falls_last [] x fall above = (tt, tt)
falls_last (y ∷ ys) x fall above = (append_each (λ (z : Held). z.ticket < y.ticket) ys (x ∷ []) fall.0 (above.0, tt), falls_last ys x fall.1 above.1)

falls_reverse : (xs : List Held) → Rises xs → FallByTicket (reverse xs)
falls_reverse [] r = tt
falls_reverse (x ∷ xs) r =
    subst FallByTicket (sym (reverse-append (x ∷ []) xs))
    (falls_last (reverse xs) x (falls_reverse xs r.1)
    (each_from (λ (y : Held). x.ticket < y.ticket) (reverse xs) (λ y i. each_at (λ (z : Held). x.ticket < z.ticket) y xs r.0 (in_reverse xs y i))))

-- the values of the tree, the last ones first, are those of the list by their tickets
pub values_by_ticket : (entries : List (ℕ × Held)) (xs : List Held) → Distinct (map (λ (held : Held). held.ticket) xs) → IsStrictlySortedBy nat_cmp (keys_of entries)
    → ((ticket : ℕ) → look entries ticket ≡ held_at xs ticket None) → IsByTicket xs (reverse (values_of entries))
values_by_ticket entries xs differ sorted tells = record {
  falls = falls_reverse (values_of entries) (rises-values entries sorted (each_map (λ (e : ℕ × Held). look entries e.0 ≡ Some e.1) (λ (e : ℕ × Held). e.1.ticket ≡ e.0) (λ e f. (mine e f).1) entries own));
  there = λ h i. each_at (λ (v : Held). In v xs) h (values_of entries)
      (each_value (λ (v : Held). In v xs) entries (each_map (λ (e : ℕ × Held). look entries e.0 ≡ Some e.1) (λ (e : ℕ × Held). In e.1 xs) (λ e f. (mine e f).0) entries own))
      (back_again h i);
  back = λ h i. in_reversed h (values_of entries)
      (let f = found xs h None i in
      let one : f.held ≡ h = one_image (λ (held : Held). held.ticket) xs differ f.held h f.at i f.own in
      value_in_entries entries h.ticket h (tells h.ticket ∙ f.is ∙ ap Some one));
}
  where
    own : Each (λ entry. look entries entry.0 ≡ Some entry.1) entries
    own = own_entries entries sorted

    mine : (e : ℕ × Held) → look entries e.0 ≡ Some e.1 → In e.1 xs × (e.1.ticket ≡ e.0)
    mine e f = by_found (found_or_kept xs e.0 None) (sym (tells e.0) ∙ f)
      where
        by_found : (held_at xs e.0 None ≡ None) ⊎ IsFound xs e.0 (held_at xs e.0 None) → held_at xs e.0 None ≡ Some e.1 → In e.1 xs × (e.1.ticket ≡ e.0)
        by_found (inl none) g = cc
        by_found (inr k) g = let one : k.held ≡ e.1 = some_parts (sym k.is ∙ g) in (subst (λ v. In v xs) one k.at, subst (λ (v : Held). v.ticket ≡ e.0) one k.own)

    back_again : (h : Held) → In h (reverse (values_of entries)) → In h (values_of entries)
    back_again h i = in_reverse (values_of entries) h i

    in_reversed : (h : Held) (ys : List Held) → In h ys → In h (reverse ys)
    in_reversed h ys i = in_reverse (reverse ys) h (subst (In h) (sym (reverse-reverse ys)) i)
