-- A tree's entries as a finite map, at keys of any total order that ties only equal ones.
use Rattle.std.proofs.Common.{◌≡◌, Bool, true, false, cond, Option, Some, None, List, [], ◌∷◌, refl, sym, ap, ◌∙◌}
use Rattle.std.specs.declared.cmp.Ordering.{Ordering}
use Rattle.std.specs.Cmp.{IsTotalOrder, Equal-is, eq_by_cmp_equiv}
use Rattle.std.specs.Ordering.{eq_by_cmp}
use Rattle.std.specs.FinMap.{FinMap, from_entries, find, get, get-insert, get-remove, get-from_entries, insert, remove, same_map}
use Rattle.std.specs.Map.{lookup}
use Rattle.std.specs.BTreeMap.{is_at}
use Rattle.std.proofs.lemmas.Bool.{cond-false}
use Rattle.std.proofs.lemmas.Map.Lookups.{CmpEqualImpliesEq}

turned : {K : Type 0} {R : K → K → Ordering} → IsTotalOrder R → (t q : K) → eq_by_cmp R q t ≡ eq_by_cmp R t q
turned total t q = (eq_by_cmp_equiv total).symm q t

module _ {K X : Type 0} {R : K → K → Ordering} (total : IsTotalOrder R) (exact : CmpEqualImpliesEq R) where
  -- what a look-up in the tree finds
  abbrev pub look : List (K × X) → K → Option X
  look es q = lookup (is_at (R q)) es

  find_look : (es : List (K × X)) (q : K) → find R q es ≡ look es q
  find_look [] q = refl
  find_look (e ∷ es) q = ap (cond (is_at (R q) e.0) (Some e.1)) (find_look es q)

  pub get_look : (es : List (K × X)) (q : K) → get {R = R} (from_entries es) q ≡ look es q
  get_look es q = get-from_entries total es q ∙ find_look es q

  pub get-put : (m : FinMap R X) (t q : K) (v : X) → get (insert m t v) q ≡ cond (eq_by_cmp R t q) (Some v) (get m q)
  get-put m t q v = get-insert total m t v q ∙ ap (λ (b : Bool). cond b (Some v) (get m q)) (turned total t q)

  pub get-gone : (m : FinMap R X) (t q : K) → get (remove m t) q ≡ cond (eq_by_cmp R t q) None (get m q)
  get-gone m t q = get-remove total m t q ∙ ap (λ (b : Bool). cond b None (get m q)) (turned total t q)

  pub same : (a b : FinMap R X) → ((q : K) → get a q ≡ get b q) → a ≡ b
  same a b h = same_map total exact a b h

  -- entries that differ at one key
  pub entries_put : (es fs : List (K × X)) (t : K) (v : X) → ((q : K) → look fs q ≡ cond (is_at (R t) q) (Some v) (look es q)) → from_entries {R = R} fs ≡ insert (from_entries es) t v
  entries_put es fs t v h =
      same _ _ (λ q. get_look fs q ∙ h q ∙ sym (get-put (from_entries es) t q v ∙ ap (cond (eq_by_cmp R t q) (Some v)) (get_look es q)))

  pub entries_gone : (es fs : List (K × X)) (t : K) → ((q : K) → look fs q ≡ cond (is_at (R t) q) None (look es q)) → from_entries {R = R} fs ≡ remove (from_entries es) t
  entries_gone es fs t h =
      same _ _ (λ q. get_look fs q ∙ h q ∙ sym (get-gone (from_entries es) t q ∙ ap (cond (eq_by_cmp R t q) None) (get_look es q)))

  -- what is put where nothing is, and taken out, leaves the map as it was
  pub gone-put : (m : FinMap R X) (t : K) (v : X) → get m t ≡ None → remove (insert m t v) t ≡ m
  gone-put m t v none = same _ _ (λ q. get-gone (insert m t v) t q ∙ by_test q (eq_by_cmp R t q) refl)
    where
      by_test : (q : K) (b : Bool) → eq_by_cmp R t q ≡ b → cond b None (get (insert m t v) q) ≡ get m q
      by_test q true e = sym none ∙ ap (get m) (exact t q ((Equal-is (R t q)).0 e))
      by_test q false e = get-put m t q v ∙ cond-false _ _ _ e

  pub put-put : (m : FinMap R X) (t : K) (v w : X) → insert (insert m t v) t w ≡ insert m t w
  put-put m t v w = same _ _ (λ q. get-put (insert m t v) t q w ∙ by_test q (eq_by_cmp R t q) refl ∙ sym (get-put m t q w))
    where
      by_test : (q : K) (b : Bool) → eq_by_cmp R t q ≡ b → cond b (Some w) (get (insert m t v) q) ≡ cond b (Some w) (get m q)
      by_test q true e = refl
      by_test q false e = get-put m t q v ∙ cond-false _ _ _ e

  -- what stands there already may be put there again
  pub put-same : (m : FinMap R X) (t : K) (v : X) → get m t ≡ Some v → insert m t v ≡ m
  put-same m t v is = same _ _ (λ q. get-put m t q v ∙ by_test q (eq_by_cmp R t q) refl)
    where
      by_test : (q : K) (b : Bool) → eq_by_cmp R t q ≡ b → cond b (Some v) (get m q) ≡ get m q
      by_test q true e = sym is ∙ ap (get m) (exact t q ((Equal-is (R t q)).0 e))
      by_test q false e = refl
