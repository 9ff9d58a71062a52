-- The writers of each key, as a map and as the entries of the hash map that keeps them.
use Rattle.std.proofs.Common.{◌≡◌, ℕ, Bool, true, false, cond, nat_eq, Option, Some, None, List, refl, sym, ap, ◌∙◌}
use Rattle.std.specs.Cmp.{nat_cmp_total}
use Rattle.std.specs.Ordering.{nat_cmp}
use Rattle.std.specs.FinMap.{from_entries, get, get-insert, insert, same_map, nat_cmp-IsAntisymmetric}
use Rattle.std.specs.Map.{lookup}
use Rattle.std.proofs.lemmas.Bool.{cond-true, cond-false, eqb-true}
use Rattle.mdb_base.specs.declared.names.Key.{Key}
use Rattle.mdb_base.specs.Names.{same_key}
use Rattle.mdb_base.specs.Words.{map_some}
use Rattle.mdb_base.proofs.ForCallers.{is_eq-nat_cmp, nat_eq-sym}
use Rattle.site_tables.proofs.ForCallers.{get-lookup}
use Rattle.validation_engine.specs.declared.index.Writers.{Writers}
use Rattle.validation_engine.specs.Index.{Index, nobody, has_entry, with_key}

-- what a look-up in the hash map finds
abbrev pub look : List (ℕ × Writers) → ℕ → Option Writers
look es q = lookup (nat_eq q) es

pub same_index : (m n : Index) → ((q : ℕ) → get m q ≡ get n q) → m ≡ n
same_index m n h = same_map nat_cmp_total nat_cmp-IsAntisymmetric m n h

-- the writers of a key after others are put there
pub entry-put : (m : Index) (p q : ℕ) (w : Writers) → get (insert m p w) q ≡ cond (nat_eq p q) (Some w) (get m q)
entry-put m p q w = get-insert nat_cmp_total m p w q ∙ ap (λ (b : Bool). cond b (Some w) (get m q)) (is_eq-nat_cmp q p ∙ nat_eq-sym q p)

pub entries_put : (es fs : List (ℕ × Writers)) (p : ℕ) (w : Writers) → ((q : ℕ) → look fs q ≡ cond (nat_eq p q) (Some w) (look es q)) →
    from_entries {R = nat_cmp} fs ≡ insert (from_entries es) p w
entries_put es fs p w h =
    same_index _ _ (λ q. get-lookup fs q ∙ (h q ∙ sym (entry-put (from_entries es) p q w ∙ ap (cond (nat_eq p q) (Some w)) (get-lookup es q))))

-- an entry that was there, and one that wasn't
pub added_there : (key : Key) (m : Index) → has_entry m key ≡ true → m ≡ with_key key m
added_there key m e = sym (cond-true _ _ _ e)

pub added_new : (key : Key) (m : Index) → has_entry m key ≡ false → insert m key.0 nobody ≡ with_key key m
added_new key m e = sym (cond-false _ _ _ e)

-- a change at one key, where it has an entry or not
pub change_there : (es fs : List (ℕ × Writers)) (key k : Key) (was now : Writers) (f : Writers → Writers) → look es key.0 ≡ Some was → now ≡ f was →
    ((q : ℕ) → look fs q ≡ cond (nat_eq key.0 q) (Some now) (look es q)) →
    get (from_entries {R = nat_cmp} fs) k.0 ≡ cond (same_key key k) (map_some f (get (from_entries {R = nat_cmp} es) k.0)) (get (from_entries {R = nat_cmp} es) k.0)
change_there es fs key k was now f there made h =
    get-lookup fs k.0 ∙ (h k.0 ∙ (by_key (same_key key k) refl
    ∙ ap (λ (o : Option Writers). cond (same_key key k) (map_some f o) o) (sym (get-lookup es k.0))))
  where
    by_key : (b : Bool) → same_key key k ≡ b → cond b (Some now) (look es k.0) ≡ cond b (map_some f (look es k.0)) (look es k.0)
    by_key true e =
        let here : look es k.0 ≡ Some was = ap (λ (q : ℕ). look es q) (sym (eqb-true key.0 k.0 e)) ∙ there in
        ap (λ (w : Writers). Some w) made ∙ sym (ap (λ (o : Option Writers). map_some f o) here)
    by_key false e = refl

pub change_none : (m : Index) (key k : Key) (f : Writers → Writers) → get m key.0 ≡ None → get m k.0 ≡ cond (same_key key k) (map_some f (get m k.0)) (get m k.0)
change_none m key k f none = by_key (same_key key k) refl
  where
    by_key : (b : Bool) → same_key key k ≡ b → get m k.0 ≡ cond b (map_some f (get m k.0)) (get m k.0)
    by_key true e =
        let here : get m k.0 ≡ None = ap (λ (q : ℕ). get m q) (sym (eqb-true key.0 k.0 e)) ∙ none in
        here ∙ sym (ap (λ (o : Option Writers). map_some f o) here)
    by_key false e = refl
