-- The attempts at their names: what the map finds, writes and takes out is the attempt of that name.
use Rattle.std.proofs.Common.{◌≡◌, ℕ, zero, suc, ◌<◌, Bool, true, false, not, cond, Some, None, List, [], ◌∷◌, ◌++◌, length, get_or, take, map, refl, sym, ap, ◌∙◌, subst, arith}
use Rattle.std.specs.List.{AllByRecursion, IsDistinct}
use Rattle.std.specs.Map.{keys_of, values_of, lookup, remove_entry, set_value}
use Rattle.mdb_base.specs.declared.names.Tid.{Tid}
use Rattle.mdb_base.specs.Names.{same_tid}
use Rattle.mdb_base.specs.Words.{Each}
use Rattle.mdb_base.proofs.ForCallers.{append_each, same_tid-equal, same_tid-sym}
use Rattle.indexmap.specs.IndexMap.{insert_entry}
use Rattle.protocol_table.specs.declared.entries.Name.{Name}
use Rattle.protocol_table.specs.declared.known.Known.{Known}
use Rattle.protocol_table.specs.declared.known.Restored.{Restored}
use Rattle.protocol_table.specs.Attempts.{is_of, known_of, changed, without, restored}
use Rattle.protocol_table.specs.Entries.{AreNamed, name_of, same_name}

abbrev Entries : Type 0
Entries = List (Name × Known)

-- one more attempt at its name
pub named_more : (es : Entries) (known : Known) → AreNamed es → AreNamed (es ++ (name_of known.tid, known) ∷ [])
named_more es known h = append_each (λ (e : Name × Known). e.0 ≡ name_of e.1.tid) es ((name_of known.tid, known) ∷ []) h (refl, tt)

pub values-append : (es fs : Entries) → values_of (es ++ fs) ≡ values_of es ++ values_of fs
values-append [] fs = refl
values-append (e ∷ es) fs = ap (λ vs. e.1 ∷ vs) (values-append es fs)

-- no attempt of this name: nothing is found, changed or taken out
pub none_changed : (tid : Tid) (change : Known → Known) (vs : List Known) → Each (λ v. is_of tid v ≡ false) vs → changed tid change vs ≡ vs
none_changed tid change [] h = refl
none_changed tid change (v ∷ vs) h =
    ap (λ b. cond b (change v) v ∷ changed tid change vs) h.0 ∙ ap (λ ws. v ∷ ws) (none_changed tid change vs h.1)

none_out : (tid : Tid) (vs : List Known) → Each (λ v. is_of tid v ≡ false) vs → without tid vs ≡ vs
none_out tid [] h = refl
none_out tid (v ∷ vs) h = ap (λ b. cond (not b) (v ∷ without tid vs) (without tid vs)) h.0 ∙ ap (λ ws. v ∷ ws) (none_out tid vs h.1)

pub absent_apart : (tid : Tid) (vs : List Known) → known_of tid vs ≡ None → Each (λ v. is_of tid v ≡ false) vs
absent_apart tid [] e = tt
absent_apart tid (v ∷ vs) e = by_test (is_of tid v) refl e (absent_apart tid vs)
  where
    by_test : (b : Bool) → is_of tid v ≡ b → cond b (Some v) (known_of tid vs) ≡ None → (known_of tid vs ≡ None → Each (λ w. is_of tid w ≡ false) vs) → Each (λ w. is_of tid w ≡ false) (v ∷ vs)
    by_test true is e rest = cc
    by_test false is e rest = (is, rest e)

-- with an attempt that isn't there, nothing is changed
pub changed-absent : (tid : Tid) (change : Known → Known) (vs : List Known) → known_of tid vs ≡ None → changed tid change vs ≡ vs
changed-absent tid change vs e = none_changed tid change vs (absent_apart tid vs e)

-- what differs from a key is another attempt
apart_values : (tid : Tid) (es : Entries) → AreNamed es → AllByRecursion (λ key. same_name (name_of tid) key ≡ false) (keys_of es) → Each (λ v. is_of tid v ≡ false) (values_of es)
apart_values tid [] h apart = tt
apart_values tid (e ∷ es) h apart = (ap (same_name (name_of tid)) (sym h.0) ∙ apart.0, apart_values tid es h.1 apart.1)

module _ (tid : Tid) where
  test_is : (e : Name × Known) → e.0 ≡ name_of e.1.tid → same_name (name_of tid) e.0 ≡ is_of tid e.1
  test_is e h = ap (same_name (name_of tid)) h

  -- what is behind the attempt of this name is about others
  behind : (e : Name × Known) (es : Entries) → e.0 ≡ name_of e.1.tid → AreNamed es → AllByRecursion (λ key. same_name e.0 key ≡ false) (keys_of es) → is_of tid e.1 ≡ true → Each (λ v. is_of tid v ≡ false) (values_of es)
  behind e es h named apart is =
      let same : tid ≡ e.1.tid = same_tid-equal tid e.1.tid is in
      subst (λ (t : Tid). Each (λ v. is_of t v ≡ false) (values_of es)) (sym same)
      (apart_values e.1.tid es named (subst (λ (n : Name). AllByRecursion (λ key. same_name n key ≡ false) (keys_of es)) h apart))

  pub lookup-known : (es : Entries) → AreNamed es → lookup (same_name (name_of tid)) es ≡ known_of tid (values_of es)
  lookup-known [] h = refl
  lookup-known (e ∷ es) h =
      ap (λ b. cond b (Some e.1) (lookup (same_name (name_of tid)) es)) (test_is e h.0)
      ∙ ap (cond (is_of tid e.1) (Some e.1)) (lookup-known es h.1)

  -- a new attempt goes last
  pub entries-added : (known : Known) → known.tid ≡ tid → (es : Entries) → AreNamed es → known_of tid (values_of es) ≡ None → insert_entry same_name es (name_of tid) known ≡ es ++ (name_of tid, known) ∷ []
  entries-added known same [] h absent = refl
  entries-added known same (e ∷ es) h absent =
      ap (λ b. cond b ((e.0, known) ∷ es) (e ∷ insert_entry same_name es (name_of tid) known)) (test_is e h.0)
      ∙ by_test (is_of tid e.1) absent (entries-added known same es h.1)
    where
      by_test : (b : Bool) → cond b (Some e.1) (known_of tid (values_of es)) ≡ None → (known_of tid (values_of es) ≡ None → insert_entry same_name es (name_of tid) known ≡ es ++ (name_of tid, known) ∷ []) → cond b ((e.0, known) ∷ es) (e ∷ insert_entry same_name es (name_of tid) known) ≡ e ∷ es ++ (name_of tid, known) ∷ []
      by_test true absent rest = cc
      by_test false absent rest = ap (λ fs. e ∷ fs) (rest absent)

  pub named_removed : (es : Entries) → AreNamed es → AreNamed (remove_entry (same_name (name_of tid)) es)
  named_removed [] h = tt
  named_removed (e ∷ es) h = by_test (same_name (name_of tid) e.0) (named_removed es h.1)
    where
      by_test : (b : Bool) → AreNamed (remove_entry (same_name (name_of tid)) es) → AreNamed (cond b es (e ∷ remove_entry (same_name (name_of tid)) es))
      by_test true rest = h.1
      by_test false rest = (h.0, rest)

  pub values-removed : (es : Entries) → AreNamed es → IsDistinct same_name (keys_of es) → values_of (remove_entry (same_name (name_of tid)) es) ≡ without tid (values_of es)
  unfolding IsDistinct
  values-removed [] h apart = refl
  values-removed (e ∷ es) h apart =
      ap (λ b. values_of (cond b es (e ∷ remove_entry (same_name (name_of tid)) es))) (test_is e h.0)
      ∙ by_test (is_of tid e.1) refl (values-removed es h.1 apart.1)
    where
      by_test : (b : Bool) → is_of tid e.1 ≡ b → values_of (remove_entry (same_name (name_of tid)) es) ≡ without tid (values_of es) → values_of (cond b es (e ∷ remove_entry (same_name (name_of tid)) es)) ≡ cond (not b) (e.1 ∷ without tid (values_of es)) (without tid (values_of es))
      by_test true is rest = sym (none_out tid (values_of es) (behind e es h.0 h.1 apart.0 is))
      by_test false is rest = ap (λ vs. e.1 ∷ vs) rest

  -- another state of the attempt of this name
  pub named_set : (es : Entries) (k w : Known) → AreNamed es → known_of tid (values_of es) ≡ Some k → w.tid ≡ k.tid → AreNamed (set_value (same_name (name_of tid)) es w)
  named_set [] k w h found same = tt
  named_set (e ∷ es) k w h found same =
      subst (λ (b : Bool). AreNamed (cond b ((e.0, w) ∷ es) (e ∷ set_value (same_name (name_of tid)) es w))) (sym (test_is e h.0))
      (by_test (is_of tid e.1) found (named_set es k w h.1))
    where
      by_test : (b : Bool) → cond b (Some e.1) (known_of tid (values_of es)) ≡ Some k → (known_of tid (values_of es) ≡ Some k → w.tid ≡ k.tid → AreNamed (set_value (same_name (name_of tid)) es w)) → AreNamed (cond b ((e.0, w) ∷ es) (e ∷ set_value (same_name (name_of tid)) es w))
      by_test true found rest =
          let there : e.1 ≡ k = cc in
          (h.0 ∙ ap (λ (v : Known). name_of v.tid) there ∙ ap name_of (sym same), h.1)
      by_test false found rest = (h.0, rest found same)

  pub values-set : (change : Known → Known) (es : Entries) (k w : Known) → AreNamed es → IsDistinct same_name (keys_of es) → known_of tid (values_of es) ≡ Some k → w ≡ change k → values_of (set_value (same_name (name_of tid)) es w) ≡ changed tid change (values_of es)
  unfolding IsDistinct
  values-set change [] k w h apart found is = refl
  values-set change (e ∷ es) k w h apart found now =
      ap (λ b. values_of (cond b ((e.0, w) ∷ es) (e ∷ set_value (same_name (name_of tid)) es w))) (test_is e h.0)
      ∙ by_test (is_of tid e.1) refl found (values-set change es k w h.1 apart.1)
    where
      by_test : (b : Bool) → is_of tid e.1 ≡ b → cond b (Some e.1) (known_of tid (values_of es)) ≡ Some k → (known_of tid (values_of es) ≡ Some k → w ≡ change k → values_of (set_value (same_name (name_of tid)) es w) ≡ changed tid change (values_of es)) → values_of (cond b ((e.0, w) ∷ es) (e ∷ set_value (same_name (name_of tid)) es w)) ≡ cond b (change e.1) e.1 ∷ changed tid change (values_of es)
      by_test true is found rest =
          let there : e.1 ≡ k = cc in
          ap (λ (v : Known). v ∷ values_of es) (now ∙ ap change (sym there))
          ∙ ap (λ vs. change e.1 ∷ vs) (sym (none_changed tid change (values_of es) (behind e es h.0 h.1 apart.0 is)))
      by_test false is found rest = ap (λ vs. e.1 ∷ vs) (rest found now)

-- a written and then taken out attempt is taken out
pub without-changed : (tid : Tid) (change : Known → Known) → ((k : Known) → (change k).tid ≡ k.tid) → (vs : List Known) → without tid (changed tid change vs) ≡ without tid vs
without-changed tid change keeps [] = refl
without-changed tid change keeps (v ∷ vs) = by_test (is_of tid v) refl (without-changed tid change keeps vs)
  where
    by_test : (b : Bool) → is_of tid v ≡ b → without tid (changed tid change vs) ≡ without tid vs → without tid (cond b (change v) v ∷ changed tid change vs) ≡ without tid (v ∷ vs)
    by_test true is rest =
        ap (λ b. cond (not b) (change v ∷ without tid (changed tid change vs)) (without tid (changed tid change vs))) (ap (same_tid tid) (keeps v))
        ∙ ap (λ b. cond (not b) (change v ∷ without tid (changed tid change vs)) (without tid (changed tid change vs))) is ∙ rest
        ∙ sym (ap (λ b. cond (not b) (v ∷ without tid vs) (without tid vs)) is)
    by_test false is rest = ap (cond (not (is_of tid v)) (v ∷ without tid (changed tid change vs))) rest
        ∙ ap (λ ws. cond (not (is_of tid v)) (v ∷ ws) (without tid vs)) rest

-- different keys are different attempts
pub distinct_tids : (es : Entries) → AreNamed es → IsDistinct same_name (keys_of es) → IsDistinct same_tid (map (λ (k : Known). k.tid) (values_of es))
unfolding IsDistinct
distinct_tids [] h apart = tt
distinct_tids (e ∷ es) h apart = (
  others es h.1 (subst (λ (n : Name). AllByRecursion (λ key. same_name n key ≡ false) (keys_of es)) h.0 apart.0),
  distinct_tids es h.1 apart.1,
)
  where
    others : (fs : Entries) → AreNamed fs → AllByRecursion (λ key. same_name (name_of e.1.tid) key ≡ false) (keys_of fs) → AllByRecursion (λ t. same_tid e.1.tid t ≡ false) (map (λ (k : Known). k.tid) (values_of fs))
    others [] h apart = tt
    others (f ∷ fs) h apart = (ap (same_name (name_of e.1.tid)) (sym h.0) ∙ apart.0, others fs h.1 apart.1)

-- an attempt isn't one of the earlier ones
pub apart_from_front : (kept : List Restored) (i : ℕ) (d : Restored) → IsDistinct same_tid (map (λ (k : Restored). k.tid) kept) → i < length kept → known_of (get_or kept i d).tid (map restored (take i kept)) ≡ None
unfolding IsDistinct
apart_from_front [] i d apart lt = absurd (omega arith)
apart_from_front (x ∷ xs) zero d apart lt = refl
apart_from_front (x ∷ xs) (suc i) d apart lt =
    ap (λ b. cond b (Some (restored x)) (known_of (get_or xs i d).tid (map restored (take i xs)))) (differs xs i (omega arith) apart.0)
    ∙ apart_from_front xs i d apart.1 (omega arith)
  where
    differs : (ys : List Restored) (k : ℕ) → k < length ys → AllByRecursion (λ t. same_tid x.tid t ≡ false) (map (λ (y : Restored). y.tid) ys) → same_tid (get_or ys k d).tid x.tid ≡ false
    differs [] k lt h = absurd (omega arith)
    differs (y ∷ ys) zero lt h = same_tid-sym y.tid x.tid ∙ h.0
    differs (y ∷ ys) (suc k) lt h = differs ys k (omega arith) h.1
