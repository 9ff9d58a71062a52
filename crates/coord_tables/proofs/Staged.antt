-- The stages at the numbers of their transactions: what the map finds, writes and takes out is the stage of that attempt.
use Rattle.std.proofs.Common.{◌≡◌, ℕ, Bool, true, false, cond, Option, Some, None, List, [], ◌∷◌, ◌++◌, map, reverse, nat_eq, ◌+◌, ◌&&◌, not, take, slice_get, is_some, refl, sym, ap, ◌∙◌, subst, eqb-true, eq-eqb}
use Rattle.std.specs.List.{AllByRecursion, IsDistinct}
use Rattle.std.specs.Map.{keys_of, values_of, lookup, remove_entry, set_value}
use Rattle.std.proofs.lemmas.List.{map-append, reverse-append, take_more}
use Rattle.std.proofs.lemmas.Map.{keys-set_value}
use Rattle.mdb_base.specs.declared.names.Tid.{Tid}
use Rattle.mdb_base.specs.declared.names.Tx.{Tx}
use Rattle.mdb_base.specs.Names.{same_tx}
use Rattle.mdb_base.specs.Words.{Each, first_where, map_some, those}
use Rattle.mdb_base.proofs.ForCallers.{append_each, same_tid-equal, tests_agree}
use Rattle.global_exec.specs.declared.policy.SiteSet.{SiteSet}
use Rattle.global_exec.specs.Firsts.{taken_out}
use Rattle.global_exec.proofs.ForCallers.{read_there}
use Rattle.coord_tables.specs.declared.stages.Stage.{Stage}
use Rattle.coord_tables.specs.Attempts.{last_of}
use Rattle.coord_tables.specs.Staged.{AreStaged}
use Rattle.coord_tables.specs.Stages.{is_of, others_taking, stage_of}
use Rattle.coord_tables.proofs.Beginnings.{first_before, first_last}

abbrev pub Entries : Type 0
Entries = List (ℕ × Stage)

abbrev pub tids_in : List Stage → List Tid
tids_in stages = map (λ (s : Stage). s.tid) stages

-- each stage at its number
abbrev AreKeyed : Entries → Type 0
AreKeyed es = Each (λ (e : ℕ × Stage). e.0 ≡ e.1.tid.tx.0) es

-- no stage is of the transaction of this number
abbrev AreOthers : ℕ → List Stage → Type 0
AreOthers n stages = Each (λ (s : Stage). nat_eq n s.tid.tx.0 ≡ false) stages

pub rest_staged : (e : ℕ × Stage) (es : Entries) → AreStaged (e ∷ es) → AreStaged es
unfolding IsDistinct
rest_staged e es h = record { keyed = h.keyed.1; apart = h.apart.1 }

values-append : (es fs : Entries) → values_of (es ++ fs) ≡ values_of es ++ values_of fs
values-append [] fs = refl
values-append (e ∷ es) fs = ap (λ vs. e.1 ∷ vs) (values-append es fs)

test_is : (n : ℕ) (e : ℕ × Stage) → e.0 ≡ e.1.tid.tx.0 → nat_eq n e.0 ≡ nat_eq n e.1.tid.tx.0
test_is n e h = ap (nat_eq n) h

-- what stands at other numbers is of other transactions
others_from : (n : ℕ) (es : Entries) → AreKeyed es → AllByRecursion (λ key. nat_eq n key ≡ false) (keys_of es) → AreOthers n (values_of es)
others_from n [] h apart = tt
others_from n (e ∷ es) h apart = (ap (nat_eq n) (sym h.0) ∙ apart.0, others_from n es h.1 apart.1)

-- behind the stage of a transaction are those of others
behind : (n : ℕ) (e : ℕ × Stage) (es : Entries) → AreStaged (e ∷ es) → nat_eq n e.0 ≡ true → AreOthers n (values_of es)
unfolding IsDistinct
behind n e es h is =
    others_from n es h.keyed.1 (subst (λ (m : ℕ). AllByRecursion (λ key. nat_eq m key ≡ false) (keys_of es)) (sym (eqb-true n e.0 is)) h.apart.0)

-- where nothing is found, no stage is of the transaction
absent_others : (n : ℕ) (es : Entries) → AreKeyed es → lookup (nat_eq n) es ≡ None → AreOthers n (values_of es)
absent_others n [] h e = tt
absent_others n (x ∷ es) h e = by_test (nat_eq n x.0) refl e (absent_others n es h.1)
  where
    by_test : (b : Bool) → nat_eq n x.0 ≡ b → cond b (Some x.1) (lookup (nat_eq n) es) ≡ None → (lookup (nat_eq n) es ≡ None → AreOthers n (values_of es)) → AreOthers n (x.1 ∷ values_of es)
    by_test true is e rest = cc
    by_test false is e rest = (ap (nat_eq n) (sym h.0) ∙ is, rest e)

-- ---- the stage of an attempt

-- a stage of another transaction is of another attempt
other_of : (tid : Tid) (s : Stage) → nat_eq tid.tx.0 s.tid.tx.0 ≡ false → is_of tid s ≡ false
other_of tid s out = by_test (is_of tid s) refl
  where
    by_test : (b : Bool) → is_of tid s ≡ b → b ≡ false
    by_test true is =
        let same : tid.tx.0 ≡ s.tid.tx.0 = ap (λ (t : Tid). t.tx.0) (sym (same_tid-equal s.tid tid is)) in
        let clash = sym (eq-eqb tid.tx.0 s.tid.tx.0 same) ∙ out in
        cc
    by_test false is = refl

none_of : (tid : Tid) (stages : List Stage) → AreOthers tid.tx.0 stages → stage_of tid stages ≡ None
none_of tid [] h = refl
none_of tid (s ∷ stages) h =
    ap (λ b. cond b (Some s) (stage_of tid stages)) (other_of tid s h.0) ∙ none_of tid stages h.1

-- the stage at the attempt's transaction, where it is the attempt's
abbrev pub own_of : Tid → Option Stage → Option Stage
own_of tid None = None
own_of tid (Some s) = cond (is_of tid s) (Some s) None

pub stage_found : (tid : Tid) (es : Entries) → AreStaged es → own_of tid (lookup (nat_eq tid.tx.0) es) ≡ stage_of tid (values_of es)
stage_found tid [] h = refl
stage_found tid (e ∷ es) h = by_test (nat_eq tid.tx.0 e.0) refl (stage_found tid es (rest_staged e es h))
  where
    by_test : (b : Bool) → nat_eq tid.tx.0 e.0 ≡ b → own_of tid (lookup (nat_eq tid.tx.0) es) ≡ stage_of tid (values_of es)
        → own_of tid (cond b (Some e.1) (lookup (nat_eq tid.tx.0) es)) ≡ cond (is_of tid e.1) (Some e.1) (stage_of tid (values_of es))
    by_test true is rest = ap (λ (o : Option Stage). cond (is_of tid e.1) (Some e.1) o) (sym (none_of tid (values_of es) (behind tid.tx.0 e es h is)))
    by_test false is rest =
        rest ∙ sym (ap (λ b. cond b (Some e.1) (stage_of tid (values_of es))) (other_of tid e.1 (ap (nat_eq tid.tx.0) (sym h.keyed.0) ∙ is)))

-- ---- the last attempt of a transaction

test_of : (tx : Tx) (t : Tid) → same_tx t.tx tx ≡ nat_eq tx.0 t.tx.0
test_of tx t =
    tests_agree (nat_eq t.tx.0 tx.0) (nat_eq tx.0 t.tx.0)
    (λ e. eq-eqb tx.0 t.tx.0 (sym (eqb-true t.tx.0 tx.0 e)))
    (λ e. eq-eqb t.tx.0 tx.0 (sym (eqb-true tx.0 t.tx.0 e)))

last_before : (tx : Tx) (t : Tid) (tids : List Tid) → nat_eq tx.0 t.tx.0 ≡ false → last_of tx (t ∷ tids) ≡ last_of tx tids
last_before tx t tids out =
    ap (first_where (λ (u : Tid). same_tx u.tx tx)) (reverse-append (t ∷ []) tids)
    ∙ first_before (λ (u : Tid). same_tx u.tx tx) (reverse tids) t (test_of tx t ∙ out)

last_own : (tx : Tx) (t : Tid) (tids : List Tid) → nat_eq tx.0 t.tx.0 ≡ true → last_of tx tids ≡ None → last_of tx (t ∷ tids) ≡ Some t
last_own tx t tids is none =
    ap (first_where (λ (u : Tid). same_tx u.tx tx)) (reverse-append (t ∷ []) tids)
    ∙ first_last (λ (u : Tid). same_tx u.tx tx) (reverse tids) t none (test_of tx t ∙ is)

last_none : (tx : Tx) (stages : List Stage) → AreOthers tx.0 stages → last_of tx (tids_in stages) ≡ None
last_none tx [] h = refl
last_none tx (s ∷ stages) h = last_before tx s.tid (tids_in stages) h.0 ∙ last_none tx stages h.1

pub last_found : (tx : Tx) (es : Entries) → AreStaged es → map_some (λ (s : Stage). s.tid) (lookup (nat_eq tx.0) es) ≡ last_of tx (tids_in (values_of es))
last_found tx [] h = refl
last_found tx (e ∷ es) h = by_test (nat_eq tx.0 e.0) refl (last_found tx es (rest_staged e es h))
  where
    by_test : (b : Bool) → nat_eq tx.0 e.0 ≡ b → map_some (λ (s : Stage). s.tid) (lookup (nat_eq tx.0) es) ≡ last_of tx (tids_in (values_of es))
        → map_some (λ (s : Stage). s.tid) (cond b (Some e.1) (lookup (nat_eq tx.0) es)) ≡ last_of tx (e.1.tid ∷ tids_in (values_of es))
    by_test true is rest =
        sym (last_own tx e.1.tid (tids_in (values_of es)) (ap (nat_eq tx.0) (sym h.keyed.0) ∙ is) (last_none tx (values_of es) (behind tx.0 e es h is)))
    by_test false is rest = rest ∙ sym (last_before tx e.1.tid (tids_in (values_of es)) (ap (nat_eq tx.0) (sym h.keyed.0) ∙ is))

-- ---- one more stage

pub absent_key : (tx : Tx) (es : Entries) → AreStaged es → last_of tx (tids_in (values_of es)) ≡ None → lookup (nat_eq tx.0) es ≡ None
absent_key tx es h e = none (lookup (nat_eq tx.0) es) (last_found tx es h ∙ e)
  where
    none : (o : Option Stage) → map_some (λ (s : Stage). s.tid) o ≡ None → o ≡ None
    none None e = refl
    none (Some s) e = cc

pub staged_more : (es : Entries) (s : Stage) → AreStaged es → IsDistinct nat_eq (keys_of (es ++ (s.tid.tx.0, s) ∷ [])) → AreStaged (es ++ (s.tid.tx.0, s) ∷ [])
staged_more es s h apart = record { keyed = keyed_more es s h; apart = apart } where
  keyed_more : (es : Entries) (s : Stage) → AreStaged es → AreKeyed (es ++ (s.tid.tx.0, s) ∷ [])
  keyed_more es s h = append_each (λ (e : ℕ × Stage). e.0 ≡ e.1.tid.tx.0) es ((s.tid.tx.0, s) ∷ []) h.keyed (refl, tt)

pub values_more : (es : Entries) (n : ℕ) (s : Stage) → values_of (es ++ (n, s) ∷ []) ≡ values_of es ++ s ∷ []
values_more es n s = values-append es ((n, s) ∷ [])

-- ---- another state of the stage of an attempt

module _ (n : ℕ) (change : Stage → Stage) (own : (s : Stage) → nat_eq n s.tid.tx.0 ≡ false → change s ≡ s) where
  none_changed : (stages : List Stage) → AreOthers n stages → map change stages ≡ stages
  none_changed [] h = refl
  none_changed (s ∷ stages) h = ap (λ x. x ∷ map change stages) (own s h.0) ∙ ap (λ xs. s ∷ xs) (none_changed stages h.1)

  pub unchanged_absent : (es : Entries) → AreStaged es → lookup (nat_eq n) es ≡ None → map change (values_of es) ≡ values_of es
  unchanged_absent es h e = none_changed (values_of es) (absent_others n es h.keyed e)

  pub values_set : (es : Entries) (k w : Stage) → AreStaged es → lookup (nat_eq n) es ≡ Some k → w ≡ change k → values_of (set_value (nat_eq n) es w) ≡ map change (values_of es)
  values_set [] k w h found is = refl
  values_set (e ∷ es) k w h found is = by_test (nat_eq n e.0) refl found (values_set es k w (rest_staged e es h))
    where
      by_test : (b : Bool) → nat_eq n e.0 ≡ b → cond b (Some e.1) (lookup (nat_eq n) es) ≡ Some k
          → (lookup (nat_eq n) es ≡ Some k → w ≡ change k → values_of (set_value (nat_eq n) es w) ≡ map change (values_of es))
          → values_of (cond b ((e.0, w) ∷ es) (e ∷ set_value (nat_eq n) es w)) ≡ change e.1 ∷ map change (values_of es)
      by_test true here found rest =
          let there : e.1 ≡ k = cc in
          ap (λ (x : Stage). x ∷ values_of es) (is ∙ ap change (sym there))
          ∙ ap (λ xs. change e.1 ∷ xs) (sym (none_changed (values_of es) (behind n e es h here)))
      by_test false here found rest =
          ap (λ xs. e.1 ∷ xs) (rest found is)
          ∙ ap (λ (x : Stage). x ∷ map change (values_of es)) (sym (own e.1 (ap (nat_eq n) (sym h.keyed.0) ∙ here)))

keyed_set : (n : ℕ) (es : Entries) (k w : Stage) → AreKeyed es → lookup (nat_eq n) es ≡ Some k → w.tid ≡ k.tid → AreKeyed (set_value (nat_eq n) es w)
keyed_set n [] k w h found same = tt
keyed_set n (e ∷ es) k w h found same = by_test (nat_eq n e.0) found (keyed_set n es k w h.1)
  where
    by_test : (b : Bool) → cond b (Some e.1) (lookup (nat_eq n) es) ≡ Some k → (lookup (nat_eq n) es ≡ Some k → w.tid ≡ k.tid → AreKeyed (set_value (nat_eq n) es w))
        → AreKeyed (cond b ((e.0, w) ∷ es) (e ∷ set_value (nat_eq n) es w))
    by_test true found rest =
        let there : e.1 ≡ k = cc in
        (h.0 ∙ ap (λ (s : Stage). s.tid.tx.0) there ∙ ap (λ (t : Tid). t.tx.0) (sym same), h.1)
    by_test false found rest = (h.0, rest found same)

pub staged_set : (n : ℕ) (es : Entries) (k w : Stage) → AreStaged es → lookup (nat_eq n) es ≡ Some k → w.tid ≡ k.tid → AreStaged (set_value (nat_eq n) es w)
staged_set n es k w h found same = record {
  keyed = keyed_set n es k w h.keyed found same;
  apart = subst (IsDistinct nat_eq) (sym (keys-set_value (nat_eq n) es w)) h.apart;
}

-- ---- without a stage

keyed_out : (n : ℕ) (es : Entries) → AreKeyed es → AreKeyed (remove_entry (nat_eq n) es)
keyed_out n [] h = tt
keyed_out n (e ∷ es) h = by_test (nat_eq n e.0) (keyed_out n es h.1)
  where
    by_test : (b : Bool) → AreKeyed (remove_entry (nat_eq n) es) → AreKeyed (cond b es (e ∷ remove_entry (nat_eq n) es))
    by_test true rest = h.1
    by_test false rest = (h.0, rest)

pub values_out : (tid : Tid) (es : Entries) (k : Stage) → AreStaged es → stage_of tid (values_of es) ≡ Some k → values_of (remove_entry (nat_eq tid.tx.0) es) ≡ taken_out (is_of tid) (values_of es)
values_out tid [] k h found = refl
values_out tid (e ∷ es) k h found = by_key (nat_eq tid.tx.0 e.0) refl (values_out tid es k (rest_staged e es h))
  where
    own : (b : Bool) → is_of tid e.1 ≡ b → stage_of tid (values_of es) ≡ None → cond b (Some e.1) (stage_of tid (values_of es)) ≡ Some k → b ≡ true
    own true is none found = refl
    own false is none found =
        let clash = sym none ∙ found in
        cc

    later : (b : Bool) → b ≡ false → cond b (Some e.1) (stage_of tid (values_of es)) ≡ Some k → stage_of tid (values_of es) ≡ Some k
    later true out found = cc
    later false out found = found

    by_key : (b : Bool) → nat_eq tid.tx.0 e.0 ≡ b → (stage_of tid (values_of es) ≡ Some k → values_of (remove_entry (nat_eq tid.tx.0) es) ≡ taken_out (is_of tid) (values_of es))
        → values_of (cond b es (e ∷ remove_entry (nat_eq tid.tx.0) es)) ≡ taken_out (is_of tid) (e.1 ∷ values_of es)
    by_key true is rest =
        let yes : is_of tid e.1 ≡ true = own (is_of tid e.1) refl (none_of tid (values_of es) (behind tid.tx.0 e es h is)) found in
        sym (ap (λ b. cond b (values_of es) (e.1 ∷ taken_out (is_of tid) (values_of es))) yes)
    by_key false is rest =
        let out : is_of tid e.1 ≡ false = other_of tid e.1 (ap (nat_eq tid.tx.0) (sym h.keyed.0) ∙ is) in
        ap (λ xs. e.1 ∷ xs) (rest (later (is_of tid e.1) out found))
        ∙ sym (ap (λ b. cond b (values_of es) (e.1 ∷ taken_out (is_of tid) (values_of es))) out)

pub found_out : (tid : Tid) (es : Entries) → AreStaged es → is_some (stage_of tid (values_of es)) ≡ true → values_of (remove_entry (nat_eq tid.tx.0) es) ≡ taken_out (is_of tid) (values_of es)
found_out tid es h there = by_found (stage_of tid (values_of es)) refl there
  where
    by_found : (o : Option Stage) → stage_of tid (values_of es) ≡ o → is_some o ≡ true → values_of (remove_entry (nat_eq tid.tx.0) es) ≡ taken_out (is_of tid) (values_of es)
    by_found None e there = cc
    by_found (Some k) e there = values_out tid es k h e

pub isnt_there : (o : Option Stage) → is_some o ≡ false → o ≡ None
isnt_there None e = refl
isnt_there (Some k) e = cc

pub staged_out : (n : ℕ) (es : Entries) → AreStaged es → IsDistinct nat_eq (keys_of (remove_entry (nat_eq n) es)) → AreStaged (remove_entry (nat_eq n) es)
staged_out n es h apart = record { keyed = keyed_out n es h.keyed; apart = apart }

pub none_out : (tid : Tid) (stages : List Stage) → stage_of tid stages ≡ None → taken_out (is_of tid) stages ≡ stages
none_out tid [] e = refl
none_out tid (s ∷ stages) e = by_test (is_of tid s) e (none_out tid stages)
  where
    by_test : (b : Bool) → cond b (Some s) (stage_of tid stages) ≡ None → (stage_of tid stages ≡ None → taken_out (is_of tid) stages ≡ stages)
        → cond b stages (s ∷ taken_out (is_of tid) stages) ≡ s ∷ stages
    by_test true e rest = cc
    by_test false e rest = ap (λ xs. s ∷ xs) (rest e)

-- what is made of the stage of an attempt is made of those of its transaction alone
pub own_change : (tid : Tid) (one : Stage → Stage) (s : Stage) → nat_eq tid.tx.0 s.tid.tx.0 ≡ false → cond (is_of tid s) (one s) s ≡ s
own_change tid one s out = ap (λ b. cond b (one s) s) (other_of tid s out)

pub same_name_after : (tid : Tid) (one : Stage → Stage) (s : Stage) → (one s).tid ≡ s.tid → (cond (is_of tid s) (one s) s).tid ≡ s.tid
same_name_after tid one s same = by_test (is_of tid s)
  where
    by_test : (b : Bool) → (cond b (one s) s).tid ≡ s.tid
    by_test true = same
    by_test false = refl

-- ---- the others that take their tickets

abbrev sites_in : List Stage → List SiteSet
sites_in stages = map (λ (s : Stage). s.sites) stages

those_end : (test : Stage → Bool) (xs : List Stage) (y : Stage) → those test (xs ++ y ∷ []) ≡ those test xs ++ cond (test y) (y ∷ []) []
those_end test [] y = refl
those_end test (x ∷ xs) y = by_test (test x) (those_end test xs y)
  where
    by_test : (b : Bool) → those test (xs ++ y ∷ []) ≡ those test xs ++ cond (test y) (y ∷ []) []
        → cond b (x ∷ those test (xs ++ y ∷ [])) (those test (xs ++ y ∷ [])) ≡ cond b (x ∷ those test xs) (those test xs) ++ cond (test y) (y ∷ []) []
    by_test true rest = ap (λ ys. x ∷ ys) rest
    by_test false rest = rest

-- the sites of those of the first stages and of the next one
pub others_next : (tid : Tid) (stages : List Stage) (i : ℕ) (s : Stage) → slice_get stages i ≡ Some s
    → sites_in (others_taking tid (take (i + 1) stages)) ≡ sites_in (others_taking tid (take i stages)) ++ sites_in (cond (not (is_of tid s) && s.takes) (s ∷ []) [])
others_next tid stages i s e =
    let test : Stage → Bool = λ x. not (is_of tid x) && x.takes in
    let there = read_there stages i s e in
    ap (λ (xs : List Stage). sites_in (those test xs)) (take_more stages i s there.0 ∙ ap (λ (x : Stage). take i stages ++ x ∷ []) there.1)
    ∙ ap sites_in (those_end test (take i stages) s)
    ∙ map-append (λ (x : Stage). x.sites) (those test (take i stages)) (cond (test s) (s ∷ []) [])
