-- The attempts at their names: what the map finds, writes and takes out is the attempt of that name.
use Rattle.std.proofs.Common.{◌≡◌, Bool, true, false, cond, Some, None, List, [], ◌∷◌, ◌++◌, map, refl, sym, ap, ◌∙◌, subst}
use Rattle.std.specs.List.{AllByRecursion, IsDistinct}
use Rattle.std.specs.Map.{keys_of, values_of, lookup, remove_entry, set_value}
use Rattle.mdb_base.specs.declared.names.Tid.{Tid}
use Rattle.mdb_base.specs.Names.{same_tid}
use Rattle.mdb_base.specs.Words.{Each}
use Rattle.mdb_base.proofs.ForCallers.{append_each, same_tid-sym}
use Rattle.indexmap.specs.IndexMap.{insert_entry}
use Rattle.global_exec.specs.declared.entries.Name.{Name}
use Rattle.global_exec.specs.Entries.{AreNamed, name_of, same_name}
use Rattle.global_exec.specs.Firsts.{replaced, taken_out}
use Rattle.global_exec.specs.Live.{AreApart, Live, is_of, live_of}

abbrev Entries : Type 0
Entries = List (Name × Live)

-- one more attempt at its name
pub named_more : (es : Entries) (live : Live) → AreNamed es → AreNamed (es ++ (name_of live.tid, live) ∷ [])
named_more es live h = append_each (λ (e : Name × Live). e.0 ≡ name_of e.1.tid) es ((name_of live.tid, live) ∷ []) h (refl, tt)

pub values-append : (es fs : Entries) → values_of (es ++ fs) ≡ values_of es ++ values_of fs
values-append [] fs = refl
values-append (e ∷ es) fs = ap (λ vs. e.1 ∷ vs) (values-append es fs)

-- an attempt that isn't there isn't changed
pub replaced-absent : (tid : Tid) (change : Live → Live) (vs : List Live) → live_of tid vs ≡ None → replaced (is_of tid) change vs ≡ vs
replaced-absent tid change [] e = refl
replaced-absent tid change (v ∷ vs) e = by_test (is_of tid v) e (replaced-absent tid change vs)
  where
    by_test : (b : Bool) → cond b (Some v) (live_of tid vs) ≡ None → (live_of tid vs ≡ None → replaced (is_of tid) change vs ≡ vs) → cond b (change v ∷ vs) (v ∷ replaced (is_of tid) change vs) ≡ v ∷ vs
    by_test true e rest = cc
    by_test false e rest = ap (λ ws. v ∷ ws) (rest e)

module _ (tid : Tid) where
  test_is : (e : Name × Live) → e.0 ≡ name_of e.1.tid → same_name (name_of tid) e.0 ≡ is_of tid e.1
  test_is e h = ap (same_name (name_of tid)) h ∙ same_tid-sym tid e.1.tid

  pub lookup-live : (es : Entries) → AreNamed es → lookup (same_name (name_of tid)) es ≡ live_of tid (values_of es)
  lookup-live [] h = refl
  lookup-live (e ∷ es) h =
      ap (λ b. cond b (Some e.1) (lookup (same_name (name_of tid)) es)) (test_is e h.0)
      ∙ ap (cond (is_of tid e.1) (Some e.1)) (lookup-live es h.1)

  -- a new attempt goes last
  pub entries-added : (live : Live) → (es : Entries) → AreNamed es → live_of tid (values_of es) ≡ None → insert_entry same_name es (name_of tid) live ≡ es ++ (name_of tid, live) ∷ []
  entries-added live [] h absent = refl
  entries-added live (e ∷ es) h absent =
      ap (λ b. cond b ((e.0, live) ∷ es) (e ∷ insert_entry same_name es (name_of tid) live)) (test_is e h.0)
      ∙ by_test (is_of tid e.1) absent (entries-added live es h.1)
    where
      by_test : (b : Bool) → cond b (Some e.1) (live_of tid (values_of es)) ≡ None → (live_of tid (values_of es) ≡ None → insert_entry same_name es (name_of tid) live ≡ es ++ (name_of tid, live) ∷ []) → cond b ((e.0, live) ∷ es) (e ∷ insert_entry same_name es (name_of tid) live) ≡ e ∷ es ++ (name_of tid, live) ∷ []
      by_test true absent rest = cc
      by_test false absent rest = ap (λ fs. e ∷ fs) (rest absent)

  pub named_removed : (es : Entries) → AreNamed es → AreNamed (remove_entry (same_name (name_of tid)) es)
  named_removed [] h = tt
  named_removed (e ∷ es) h = by_test (same_name (name_of tid) e.0) (named_removed es h.1)
    where
      by_test : (b : Bool) → AreNamed (remove_entry (same_name (name_of tid)) es) → AreNamed (cond b es (e ∷ remove_entry (same_name (name_of tid)) es))
      by_test true rest = h.1
      by_test false rest = (h.0, rest)

  pub values-removed : (es : Entries) → AreNamed es → values_of (remove_entry (same_name (name_of tid)) es) ≡ taken_out (is_of tid) (values_of es)
  values-removed [] h = refl
  values-removed (e ∷ es) h =
      ap (λ b. values_of (cond b es (e ∷ remove_entry (same_name (name_of tid)) es))) (test_is e h.0)
      ∙ by_test (is_of tid e.1) (values-removed es h.1)
    where
      by_test : (b : Bool) → values_of (remove_entry (same_name (name_of tid)) es) ≡ taken_out (is_of tid) (values_of es) → values_of (cond b es (e ∷ remove_entry (same_name (name_of tid)) es)) ≡ cond b (values_of es) (e.1 ∷ taken_out (is_of tid) (values_of es))
      by_test true rest = refl
      by_test false rest = ap (λ vs. e.1 ∷ vs) rest

  -- another state of the attempt of this name
  pub named_set : (es : Entries) (k w : Live) → AreNamed es → live_of tid (values_of es) ≡ Some k → w.tid ≡ k.tid → AreNamed (set_value (same_name (name_of tid)) es w)
  named_set [] k w h found same = tt
  named_set (e ∷ es) k w h found same =
      subst (λ (b : Bool). AreNamed (cond b ((e.0, w) ∷ es) (e ∷ set_value (same_name (name_of tid)) es w))) (sym (test_is e h.0))
      (by_test (is_of tid e.1) found (named_set es k w h.1))
    where
      by_test : (b : Bool) → cond b (Some e.1) (live_of tid (values_of es)) ≡ Some k → (live_of tid (values_of es) ≡ Some k → w.tid ≡ k.tid → AreNamed (set_value (same_name (name_of tid)) es w)) → AreNamed (cond b ((e.0, w) ∷ es) (e ∷ set_value (same_name (name_of tid)) es w))
      by_test true found rest =
          let there : e.1 ≡ k = cc in
          (h.0 ∙ ap (λ (v : Live). name_of v.tid) there ∙ ap name_of (sym same), h.1)
      by_test false found rest = (h.0, rest found same)

  pub values-set : (change : Live → Live) (es : Entries) (k w : Live) → AreNamed es → live_of tid (values_of es) ≡ Some k → w ≡ change k → values_of (set_value (same_name (name_of tid)) es w) ≡ replaced (is_of tid) change (values_of es)
  values-set change [] k w h found is = refl
  values-set change (e ∷ es) k w h found is =
      ap (λ b. values_of (cond b ((e.0, w) ∷ es) (e ∷ set_value (same_name (name_of tid)) es w))) (test_is e h.0)
      ∙ by_test (is_of tid e.1) found (values-set change es k w h.1)
    where
      by_test : (b : Bool) → cond b (Some e.1) (live_of tid (values_of es)) ≡ Some k → (live_of tid (values_of es) ≡ Some k → w ≡ change k → values_of (set_value (same_name (name_of tid)) es w) ≡ replaced (is_of tid) change (values_of es)) → values_of (cond b ((e.0, w) ∷ es) (e ∷ set_value (same_name (name_of tid)) es w)) ≡ cond b (change e.1 ∷ values_of es) (e.1 ∷ replaced (is_of tid) change (values_of es))
      by_test true found rest =
          let there : e.1 ≡ k = cc in
          ap (λ (v : Live). v ∷ values_of es) (is ∙ ap change (sym there))
      by_test false found rest = ap (λ vs. e.1 ∷ vs) (rest found is)

-- different keys are different attempts
pub apart_tids : (es : Entries) → AreNamed es → IsDistinct same_name (keys_of es) → AreApart (map (λ (v : Live). v.tid) (values_of es))
unfolding IsDistinct
apart_tids [] h apart = tt
apart_tids (e ∷ es) h apart = (
  others es h.1 (subst (λ (n : Name). AllByRecursion (λ key. same_name n key ≡ false) (keys_of es)) h.0 apart.0),
  apart_tids es h.1 apart.1,
)
  where
    others : (fs : Entries) → AreNamed fs → AllByRecursion (λ key. same_name (name_of e.1.tid) key ≡ false) (keys_of fs) → Each (λ t. same_tid e.1.tid t ≡ false) (map (λ (v : Live). v.tid) (values_of fs))
    others [] h apart = tt
    others (f ∷ fs) h apart = (ap (same_name (name_of e.1.tid)) (sym h.0) ∙ apart.0, others fs h.1 apart.1)
