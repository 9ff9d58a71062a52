-- The orders of attempts and of transactions: they are total, and tie only the same ones.
use Rattle.std.proofs.Common.{◌≡◌, ℕ, Bool, true, ◌&&◌, nat_eq, ap, ◌∙◌, arith}
use Rattle.std.specs.declared.cmp.Ordering.TheVariants.{Less}
use Rattle.std.proofs.lemmas.Bool.Decides.{nat_tests}
use Rattle.std.specs.Cmp.{IsTotalOrder, nat_cmp_total}
use Rattle.std.specs.Ordering.{nat_cmp, is_eq}
use Rattle.std.proofs.lemmas.Cmp.{on_total, then_total}
use Rattle.std.proofs.lemmas.Map.Lookups.{CmpEqualImpliesEq, exact_pairs, exact_unsigned}
use Rattle.mdb_base.specs.declared.names.Tid.{Tid}
use Rattle.mdb_base.specs.declared.names.Tx.{Tx}
use Rattle.mdb_base.specs.Names.{same_tid, same_tx, tid_before, tid_cmp, tx_cmp}
use Rattle.mdb_base.proofs.NumberLaws.{is_eq-nat_cmp, is_eq-then}

pub tids_exact : CmpEqualImpliesEq tid_cmp
tids_exact a b h =
    ap (λ (p : ℕ × ℕ). let t : Tid = record { tx = record { 0 = p.0 }; attempt = p.1 } in t)
    (exact_pairs nat_cmp nat_cmp exact_unsigned exact_unsigned (a.tx.0, a.attempt) (b.tx.0, b.attempt) h)

pub tids_total : IsTotalOrder tid_cmp
tids_total = then_total (on_total (λ t. t.tx.0) nat_cmp_total) (on_total (λ t. t.attempt) nat_cmp_total)

pub txs_exact : CmpEqualImpliesEq tx_cmp
txs_exact a b h = ap (λ (n : ℕ). let t : Tx = record { 0 = n } in t) (exact_unsigned a.0 b.0 h)

pub txs_total : IsTotalOrder tx_cmp
txs_total = on_total (λ t. t.0) nat_cmp_total

-- attempts and transactions tie where they are the same
pub tid_ties : (a b : Tid) → is_eq (tid_cmp a b) ≡ same_tid a b
tid_ties a b =
    is_eq-then (nat_cmp a.tx.0 b.tx.0) (nat_cmp a.attempt b.attempt)
    ∙ ap (λ (x : Bool). x && is_eq (nat_cmp a.attempt b.attempt)) (is_eq-nat_cmp a.tx.0 b.tx.0)
    ∙ ap (λ (y : Bool). nat_eq a.tx.0 b.tx.0 && y) (is_eq-nat_cmp a.attempt b.attempt)

pub tx_ties : (a b : Tx) → is_eq (tx_cmp a b) ≡ same_tx a b
tx_ties a b = is_eq-nat_cmp a.0 b.0

-- the order and the test of what comes before say the same
pub less_before : (a b : Tid) → tid_cmp a b ≡ Less → tid_before a b ≡ true
less_before a b e = grind (arith, nat_tests)

pub before_less : (a b : Tid) → tid_before a b ≡ true → tid_cmp a b ≡ Less
before_less a b e = grind (arith, nat_tests)
