-- What a tree by transaction has after an entry was put or written.
use Rattle.std.proofs.Common.{◌≡◌, ℕ, ◌+◌, ◌<◌, [], ◌∷◌, ◌++◌, length, map, take, get_or, Bool, true, false, cond, Option, Some, None, IsSome, List, refl, sym, ap, ◌∙◌}
use Rattle.std.specs.Cmp.{eq_by_cmp_equiv}
use Rattle.std.specs.Ordering.{eq_by_cmp}
use Rattle.std.specs.BTreeMap.{is_at}
use Rattle.std.specs.Map.{set_value}
use Rattle.std.proofs.lemmas.List.{reverse-append, take_more, map_push}
use Rattle.std.proofs.lemmas.Map.{lookup-set_value}
use Rattle.mdb_base.specs.declared.names.Tid.{Tid}
use Rattle.mdb_base.specs.declared.names.Tx.{Tx}
use Rattle.mdb_base.specs.Names.{same_tx, tx_cmp}
use Rattle.mdb_base.specs.Words.{first_where, or_else}
use Rattle.fed_rules.specs.declared.sums.CommittedAttempt.{CommittedAttempt}
use Rattle.coord_tables.specs.Attempts.{last_of}
use Rattle.coord_tables.specs.Trees.{committed_in, entry_of}
use Rattle.mdb_base.proofs.ForCallers.{tx_ties, txs_total}

own_test : (t x y : Tx) → eq_by_cmp tx_cmp t x ≡ true → eq_by_cmp tx_cmp t y ≡ eq_by_cmp tx_cmp x y
own_test t x y e = (eq_by_cmp_equiv txs_total).congr t x y e

-- one entry differs
pub entry_put : {X : Type 0} (old new : List (Tx × X)) (t : Tx) (v : X) → ((q : Tx) → entry_of new q ≡ cond (is_at (tx_cmp t) q) (Some v) (entry_of old q))
    → (q : Tx) → entry_of new q ≡ cond (same_tx t q) (Some v) (entry_of old q)
entry_put old new t v h q = h q ∙ ap (λ (b : Bool). cond b (Some v) (entry_of old q)) (tx_ties t q)

-- a value was written in place of one
pub entry_set : {X : Type 0} (old new : List (Tx × X)) (t : Tx) (v : X) → new ≡ set_value (is_at (tx_cmp t)) old v → IsSome (entry_of old t)
    → (q : Tx) → entry_of new q ≡ cond (same_tx t q) (Some v) (entry_of old q)
entry_set {X} old new t v is there =
    entry_put old new t v (λ q. ap (λ (es : List (Tx × X)). entry_of es q) is ∙ lookup-set_value (eq_by_cmp_equiv txs_total) (is_at (tx_cmp t)) (own_test t) q v old there)

-- so it is with the value or one that stands for none
pub value_put : {X : Type 0} (d v : X) (old new : List (Tx × X)) (t : Tx) → ((q : Tx) → entry_of new q ≡ cond (same_tx t q) (Some v) (entry_of old q))
    → (q : Tx) → or_else (entry_of new q) d ≡ cond (same_tx t q) v (or_else (entry_of old q) d)
value_put {X} d v old new t h q = ap (λ (o : Option X). or_else o d) (h q) ∙ by_test (same_tx t q) where
  by_test : (b : Bool) → or_else (cond b (Some v) (entry_of old q)) d ≡ cond b v (or_else (entry_of old q) d)
  by_test true = refl
  by_test false = refl

-- one more committed attempt
last_more : (tx : Tx) (tid : Tid) (tids : List Tid) → last_of tx (tids ++ tid ∷ []) ≡ cond (same_tx tid.tx tx) (Some tid) (last_of tx tids)
last_more tx tid tids = ap (first_where (λ (t : Tid). same_tx t.tx tx)) (reverse-append tids (tid ∷ []))

pub restored_more : (attempts : List CommittedAttempt) (i : ℕ) (attempt d : CommittedAttempt) (old new : List (Tx × Option Tid)) → i < length attempts → attempt ≡ get_or attempts i d
    → ((q : Tx) → entry_of new q ≡ cond (same_tx attempt.tid.tx q) (Some (Some attempt.tid)) (entry_of old q)) → ((q : Tx) → committed_in old q ≡ last_of q (map (λ (a : CommittedAttempt). a.tid) (take i attempts)))
    → (q : Tx) → committed_in new q ≡ last_of q (map (λ (a : CommittedAttempt). a.tid) (take (i + 1) attempts))
restored_more attempts i attempt d old new less is put before q =
    let tids = map (λ (a : CommittedAttempt). a.tid) (take i attempts) in
    let all : map (λ (a : CommittedAttempt). a.tid) (take (i + 1) attempts) ≡ tids ++ attempt.tid ∷ [] =
    ap (map (λ (a : CommittedAttempt). a.tid)) (take_more attempts i d less ∙ ap (λ (a : CommittedAttempt). take i attempts ++ a ∷ []) (sym is)) ∙ map_push (λ (a : CommittedAttempt). a.tid) (take i attempts) attempt in
    value_put None (Some attempt.tid) old new attempt.tid.tx put q
    ∙ ap (λ (o : Option Tid). cond (same_tx attempt.tid.tx q) (Some attempt.tid) o) (before q)
    ∙ sym (ap (last_of q) all ∙ last_more q attempt.tid tids)
