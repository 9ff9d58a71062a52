-- The tests on names: what they tell, and that the order of their arguments doesn't matter.
use Rattle.std.proofs.Common.{◌≡◌, ℕ, Bool, true, false, ◌==◌, refl, sym, ap, ap₂, subst, eqb-true, eq-eqb, arith, ◌<◌, ◌∙◌}
use Rattle.std.proofs.lemmas.Bool.{and_parts, and_from, false_from_ne_true, false≢true}
use Rattle.mdb_base.specs.declared.names.Key.{Key}
use Rattle.mdb_base.specs.declared.names.Tid.{Tid}
use Rattle.mdb_base.specs.Names.{same_key, same_tid, same_tx, same_site, tid_before}
use Rattle.mdb_base.specs.declared.names.Tx.{Tx}
use Rattle.mdb_base.specs.declared.names.SiteId.{SiteId}

-- two tests of which each one holds where the other does are one
pub tests_agree : (a b : Bool) → (a ≡ true → b ≡ true) → (b ≡ true → a ≡ true) → a ≡ b
tests_agree true b f g = sym (f refl)
tests_agree false true f g = g refl
tests_agree false false f g = refl

pub same_key-refl : (a : Key) → same_key a a ≡ true
same_key-refl a = eq-eqb a.0 a.0 refl

pub same_key-equal : (a b : Key) → same_key a b ≡ true → a ≡ b
same_key-equal a b e = ap {A = ℕ} (λ n. record { 0 = n }) (eqb-true a.0 b.0 e)

pub same_key-sym : (a b : Key) → same_key a b ≡ same_key b a
same_key-sym a b =
    tests_agree (same_key a b) (same_key b a)
    (λ e. eq-eqb b.0 a.0 (sym (eqb-true a.0 b.0 e)))
    (λ e. eq-eqb a.0 b.0 (sym (eqb-true b.0 a.0 e)))

pub same_tid-refl : (a : Tid) → same_tid a a ≡ true
same_tid-refl a = and_from _ _ (eq-eqb a.tx.0 a.tx.0 refl) (eq-eqb a.attempt a.attempt refl)

pub same_tid-equal : (a b : Tid) → same_tid a b ≡ true → a ≡ b
same_tid-equal a b e =
    let parts = and_parts (a.tx.0 == b.tx.0) (a.attempt == b.attempt) e in
    let tx : a.tx.0 ≡ b.tx.0 = eqb-true a.tx.0 b.tx.0 parts.0 in
    let attempt : a.attempt ≡ b.attempt = eqb-true a.attempt b.attempt parts.1 in
    ap₂ (λ t n. record { tx = record { 0 = t }; attempt = n }) tx attempt

pub same_tid-sym : (a b : Tid) → same_tid a b ≡ same_tid b a
same_tid-sym a b =
    tests_agree (same_tid a b) (same_tid b a)
    (λ e. subst (λ x. same_tid x a ≡ true) (same_tid-equal a b e) (same_tid-refl a))
    (λ e. subst (λ x. same_tid x b ≡ true) (same_tid-equal b a e) (same_tid-refl b))

pub same_tx-equal : (a b : Tx) → same_tx a b ≡ true → a ≡ b
same_tx-equal a b e = ap {A = ℕ} (λ n. record { 0 = n }) (eqb-true a.0 b.0 e)

pub same_tx-refl : (tx : Tx) → same_tx tx tx ≡ true
same_tx-refl tx = eq-eqb tx.0 tx.0 refl

pub same_site-equal : (a b : SiteId) → same_site a b ≡ true → a ≡ b
same_site-equal a b e = grind arith

pub same_site-below : (a b : SiteId) → a.0 < b.0 → same_site a b ≡ false
same_site-below a b less = grind arith

pub before_onward : (a b c : Tid) → tid_before a b ≡ true → tid_before b c ≡ true → tid_before a c ≡ true
before_onward a b c e f = grind arith

pub same_site-refl : (a : SiteId) → same_site a a ≡ true
same_site-refl a = grind arith

pub before_itself : (y : Tid) → tid_before y y ≡ false
before_itself y = grind arith

pub same_site-sym : (a b : SiteId) → same_site a b ≡ same_site b a
same_site-sym a b = grind arith

pub same_site-above : (a b : SiteId) → a.0 < b.0 → same_site b a ≡ false
same_site-above a b less = grind arith

pub before_apart : (a b : Tid) → tid_before a b ≡ true → same_tid a b ≡ false
before_apart a b e = grind arith

pub apart_behind : (a b : Tid) → tid_before a b ≡ true → same_tid b a ≡ false
apart_behind a b e = grind arith

pub before_other : (a b : Tid) → tid_before b a ≡ false → same_tid b a ≡ false → tid_before a b ≡ true
before_other a b e f = grind arith

pub same_tx-from : (a b : Tx) → a ≡ b → same_tx a b ≡ true
same_tx-from a b e = eq-eqb a.0 b.0 (ap (λ (t : Tx). t.0) e)

pub before_not_back : (a b c : Tid) → tid_before a c ≡ false → tid_before a b ≡ true → tid_before b c ≡ false
before_not_back a b c e f = false_from_ne_true (tid_before b c) (λ g. false≢true (sym e ∙ before_onward a b c f g))

pub not_before_onward : (x y z : Tid) → tid_before y x ≡ false → tid_before z y ≡ false → tid_before z x ≡ false
not_before_onward x y z e f = grind arith
