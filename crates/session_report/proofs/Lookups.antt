-- Look-ups in lists of entries that are kept by a total order, and the keys of these entries.
use Rattle.std.proofs.Common.{◌≡◌, ℕ, Bool, true, false, cond, Option, Some, None, List, [], ◌∷◌, ◌++◌, map, refl, sym, ◌∙◌, ap, subst, arith}
use Rattle.std.specs.declared.cmp.Ordering.{Ordering}
use Rattle.std.specs.declared.cmp.Ordering.TheVariants.{Less, Equal, Greater}
use Rattle.std.specs.BTreeMap.{insert_entry, is_at}
use Rattle.std.specs.Global.{Vec}
use Rattle.std.specs.Map.{keys_of, lookup}
use Rattle.std.specs.Ordering.{is_eq, match_ordering}
use Rattle.std.proofs.lemmas.Bool.Decides.{nat_tests}
use Rattle.mdb_base.specs.declared.names.Tid.{Tid}
use Rattle.mdb_base.specs.declared.names.Tx.{Tx}
use Rattle.mdb_base.specs.Names.{same_tid, same_tx, tid_before, tid_cmp, tx_cmp}
use Rattle.mdb_base.specs.Words.{inserted, map_some}
use Rattle.mdb_base.proofs.ForCallers.{same_tid-equal, same_tid-refl, same_tx-equal, same_tx-refl, tid_ties, tx_ties}
use Rattle.session_report.specs.Told.{Reads, with_begun, with_value}
use Rattle.session_report.proofs.ReadEntries.{viewed}

module _ {K : Type 0} (cmp : K → K → Ordering) (same : K → K → Bool) (ties : (a b : K) → is_at (cmp a) b ≡ same a b) (alike : (a b : K) → same a b ≡ true → a ≡ b) (self : (a : K) → same a a ≡ true) where
  turned : (a b : K) → same a b ≡ same b a
  turned a b = by_tests (same a b) (same b a) refl refl
    where
      by_tests : (p q : Bool) → same a b ≡ p → same b a ≡ q → p ≡ q
      by_tests true true e f = refl
      by_tests false false e f = refl
      by_tests true false e f = (let t : same b a ≡ true = subst (λ k. same k a ≡ true) (alike a b e) (self a) in let clash = sym f ∙ t in cc)
      by_tests false true e f = (let t : same a b ≡ true = subst (λ k. same k b ≡ true) (alike b a f) (self b) in let clash = sym e ∙ t in cc)

  at_is : (q t : K) → is_at (cmp q) t ≡ same t q
  at_is q t = ties q t ∙ turned q t

  -- what is found where an entry is put
  insert_look : {V : Type 0} (es : List (K × V)) (t q : K) (v : V) → lookup (is_at (cmp q)) (insert_entry cmp es t v) ≡ cond (same t q) (Some v) (lookup (is_at (cmp q)) es)
  insert_look [] t q v = ap (λ b. cond b (Some v) None) (at_is q t)
  insert_look {V} (e ∷ es) t q v = by_order (cmp t e.0) refl (insert_look es t q v)
    where
      equal : (b : Bool) → same t q ≡ b → is_eq (cmp t e.0) ≡ true
          → cond (is_at (cmp q) e.0) (Some v) (lookup (is_at (cmp q)) es) ≡ cond b (Some v) (cond (is_at (cmp q) e.0) (Some e.1) (lookup (is_at (cmp q)) es))
      equal b s o =
          let own : t ≡ e.0 = alike t e.0 (sym (ties t e.0) ∙ o) in
          let here : is_at (cmp q) e.0 ≡ b = ap (is_at (cmp q)) (sym own) ∙ (at_is q t ∙ s) in
          by_both b here
        where
          by_both : (b : Bool) → is_at (cmp q) e.0 ≡ b → cond (is_at (cmp q) e.0) (Some v) (lookup (is_at (cmp q)) es) ≡ cond b (Some v) (cond (is_at (cmp q) e.0) (Some e.1) (lookup (is_at (cmp q)) es))
          by_both true h = ap (λ c. cond c (Some v) (lookup (is_at (cmp q)) es)) h
          by_both false h = ap (λ c. cond c (Some v) (lookup (is_at (cmp q)) es)) h ∙ sym (ap (λ c. cond c (Some e.1) (lookup (is_at (cmp q)) es)) h)

      greater : (b c : Bool) → same t q ≡ b → is_at (cmp q) e.0 ≡ c → is_eq (cmp t e.0) ≡ false
          → cond c (Some e.1) (cond b (Some v) (lookup (is_at (cmp q)) es)) ≡ cond b (Some v) (cond c (Some e.1) (lookup (is_at (cmp q)) es))
      greater true true s h o =
          let first : t ≡ q = alike t q s in
          let second : q ≡ e.0 = alike q e.0 (sym (ties q e.0) ∙ h) in
          let tie : is_eq (cmp t e.0) ≡ true = ties t e.0 ∙ subst (λ k. same t k ≡ true) (first ∙ second) (self t) in
          let clash = sym o ∙ tie in
          cc
      greater true false s h o = refl
      greater false true s h o = refl
      greater false false s h o = refl

      by_order : (o : Ordering) → cmp t e.0 ≡ o → lookup (is_at (cmp q)) (insert_entry cmp es t v) ≡ cond (same t q) (Some v) (lookup (is_at (cmp q)) es)
          → lookup (is_at (cmp q)) (match_ordering o ((t, v) ∷ e ∷ es) ((e.0, v) ∷ es) (e ∷ insert_entry cmp es t v)) ≡ cond (same t q) (Some v) (lookup (is_at (cmp q)) (e ∷ es))
      by_order Less p h = ap (λ b. cond b (Some v) (lookup (is_at (cmp q)) (e ∷ es))) (at_is q t)
      by_order Equal p h = equal (same t q) refl (ap is_eq p)
      by_order Greater p h = ap (cond (is_at (cmp q) e.0) (Some e.1)) h ∙ greater (same t q) (is_at (cmp q) e.0) refl refl (ap is_eq p)

-- what is found of an attempt
abbrev pub look : Reads → Tid → Option (List ℕ)
look reads tid = lookup (is_at (tid_cmp tid)) reads

pub look_begun : (reads : Reads) (t q : Tid) → look (with_begun t reads) q ≡ cond (same_tid t q) (Some []) (look reads q)
look_begun reads t q = insert_look tid_cmp same_tid tid_ties same_tid-equal same_tid-refl reads t q []

pub look_running : (running : List (Tx × Tid)) (t q : Tx) (tid : Tid) → lookup (is_at (tx_cmp q)) (insert_entry tx_cmp running t tid) ≡ cond (same_tx t q) (Some tid) (lookup (is_at (tx_cmp q)) running)
look_running running t q tid = insert_look tx_cmp same_tx tx_ties same_tx-equal same_tx-refl running t q tid

pub look_value : (reads : Reads) (t q : Tid) (value : ℕ) → look (with_value t value reads) q ≡ cond (same_tid t q) (map_some (λ values. values ++ value ∷ []) (look reads q)) (look reads q)
look_value [] t q value = by_test (same_tid t q)
  where
    by_test : (b : Bool) → look [] q ≡ cond b (map_some (λ values. values ++ value ∷ []) (look [] q)) (look [] q)
    by_test true = refl
    by_test false = refl
look_value (e ∷ es) t q value = by_tests (is_at (tid_cmp t) e.0) (same_tid t q) (is_at (tid_cmp q) e.0) refl refl refl (look_value es t q value)
  where
    more : List ℕ → List ℕ
    more values = values ++ value ∷ []

    by_tests : (a b c : Bool) → is_at (tid_cmp t) e.0 ≡ a → same_tid t q ≡ b → is_at (tid_cmp q) e.0 ≡ c
        → look (with_value t value es) q ≡ cond (same_tid t q) (map_some (λ values. values ++ value ∷ []) (look es q)) (look es q)
        → look (cond a ((e.0, e.1 ++ value ∷ []) ∷ es) (e ∷ with_value t value es)) q ≡ cond b (map_some (λ values. values ++ value ∷ []) (cond c (Some e.1) (look es q))) (cond c (Some e.1) (look es q))
    by_tests true true true p r s h = ap (λ x. cond x (Some (e.1 ++ value ∷ [])) (look es q)) s
    by_tests true true false p r s h =
        let own : t ≡ e.0 = same_tid-equal t e.0 (sym (tid_ties t e.0) ∙ p) in
        let same : t ≡ q = same_tid-equal t q r in
        let tie : is_at (tid_cmp q) e.0 ≡ true = tid_ties q e.0 ∙ subst (λ k. same_tid q k ≡ true) (sym same ∙ own) (same_tid-refl q) in
        let clash = sym s ∙ tie in
        cc
    by_tests true false true p r s h =
        let own : t ≡ e.0 = same_tid-equal t e.0 (sym (tid_ties t e.0) ∙ p) in
        let there : q ≡ e.0 = same_tid-equal q e.0 (sym (tid_ties q e.0) ∙ s) in
        let tie : same_tid t q ≡ true = subst (λ k. same_tid t k ≡ true) (own ∙ sym there) (same_tid-refl t) in
        let clash = sym r ∙ tie in
        cc
    by_tests true false false p r s h = ap (λ x. cond x (Some (e.1 ++ value ∷ [])) (look es q)) s
    by_tests false true true p r s h =
        let there : q ≡ e.0 = same_tid-equal q e.0 (sym (tid_ties q e.0) ∙ s) in
        let same : t ≡ q = same_tid-equal t q r in
        let tie : is_at (tid_cmp t) e.0 ≡ true = tid_ties t e.0 ∙ subst (λ k. same_tid t k ≡ true) (same ∙ there) (same_tid-refl t) in
        let clash = sym p ∙ tie in
        cc
    by_tests false true false p r s h = ap (λ x. cond x (Some e.1) (look (with_value t value es) q)) s ∙ (h ∙ ap (λ x. cond x (map_some (λ values. values ++ value ∷ []) (look es q)) (look es q)) r)
    by_tests false false true p r s h = ap (λ x. cond x (Some e.1) (look (with_value t value es) q)) s
    by_tests false false false p r s h = ap (λ x. cond x (Some e.1) (look (with_value t value es) q)) s ∙ (h ∙ ap (λ x. cond x (map_some (λ values. values ++ value ∷ []) (look es q)) (look es q)) r)

-- the attempts that stand there
abbrev pub tids_of : Reads → List Tid
tids_of reads = map (λ entry. entry.0) reads

pub tids_value : (reads : Reads) (t : Tid) (value : ℕ) → tids_of (with_value t value reads) ≡ tids_of reads
tids_value [] t value = refl
tids_value (e ∷ es) t value = by_test (is_at (tid_cmp t) e.0) (tids_value es t value)
  where
    by_test : (b : Bool) → tids_of (with_value t value es) ≡ tids_of es → tids_of (cond b ((e.0, e.1 ++ value ∷ []) ∷ es) (e ∷ with_value t value es)) ≡ tids_of (e ∷ es)
    by_test true h = refl
    by_test false h = ap (λ ts. e.0 ∷ ts) h

before_less : (t u : Tid) → tid_cmp t u ≡ Less → tid_before u t ≡ false
before_less t u e = grind (arith, nat_tests)

before_greater : (t u : Tid) → tid_cmp t u ≡ Greater → tid_before u t ≡ true
before_greater t u e = grind (arith, nat_tests)

-- one that doesn't stand there is put in its place
pub tids_begun : (reads : Reads) (t : Tid) → look reads t ≡ None → tids_of (with_begun t reads) ≡ inserted tid_before t (tids_of reads)
tids_begun [] t none = refl
tids_begun (e ∷ es) t none = by_order (tid_cmp t e.0) refl (tids_begun es t)
  where
    behind : (b : Bool) → cond b (Some e.1) (look es t) ≡ None → (b ≡ false) × (look es t ≡ None)
    behind true h = cc
    behind false h = (refl, h)

    by_order : (o : Ordering) → tid_cmp t e.0 ≡ o → (look es t ≡ None → tids_of (with_begun t es) ≡ inserted tid_before t (tids_of es))
        → tids_of (match_ordering o ((t, []) ∷ e ∷ es) ((e.0, []) ∷ es) (e ∷ with_begun t es)) ≡ inserted tid_before t (tids_of (e ∷ es))
    by_order Less p h = sym (ap (λ b. cond b (e.0 ∷ inserted tid_before t (tids_of es)) (t ∷ e.0 ∷ tids_of es)) (before_less t e.0 p))
    by_order Equal p h = (let tie : is_at (tid_cmp t) e.0 ≡ true = ap is_eq p in let no = (behind (is_at (tid_cmp t) e.0) none).0 in let clash = sym tie ∙ no in cc)
    by_order Greater p h =
        ap (λ ts. e.0 ∷ ts) (h (behind (is_at (tid_cmp t) e.0) none).1)
        ∙ sym (ap (λ b. cond b (e.0 ∷ inserted tid_before t (tids_of es)) (t ∷ e.0 ∷ tids_of es)) (before_greater t e.0 p))

-- the keys of a tree
pub keys_tids : (entries : List (Tid × Vec ℕ)) → keys_of entries ≡ tids_of (viewed entries)
keys_tids [] = refl
keys_tids (e ∷ es) = ap (λ ts. e.0 ∷ ts) (keys_tids es)
