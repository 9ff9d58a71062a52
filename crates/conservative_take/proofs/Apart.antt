-- Sets without a site in common.
use Rattle.std.proofs.Common.{ℕ, zero, suc, ◌≡◌, ◌+◌, ◌-◌, ◌<◌, ◌==◌, ◌&&◌, min, true, false, not, List, [], ◌∷◌, map, refl, sym, ap, ◌∙◌, subst, inl, inr, arith}
use Rattle.std.specs.Int.{bit_at}
use Rattle.std.specs.Int.RustNames.{bit_and}
use Rattle.std.proofs.lemmas.Nat.Bits.{bit_at_and, bit_at-zero, bit_at-lt, same_from_bits_below}
use Rattle.std.proofs.lemmas.Nat.{and_le_l}
use Rattle.mdb_base.specs.declared.names.SiteId.{SiteId}
use Rattle.mdb_base.specs.Names.{same_site}
use Rattle.mdb_base.specs.Words.{some_of, each_of}
use Rattle.mdb_base.proofs.ForCallers.{among_some, same_site-equal, same_site-refl}
use Rattle.fed_rules.specs.Policies.{conservatively, share_site}
use Rattle.order_laws.specs.Chains.{In}
use Rattle.order_laws.proofs.ForCallers.{bool_is, in_those, is_among, some_of_is, those_in}
use Rattle.global_exec.specs.declared.policy.SiteSet.{SiteSet}
use Rattle.global_exec.specs.Live.{all_sites}
use Rattle.global_exec.specs.Sets.{has_site, sites_in}

-- ---- sites and bits

bit_is : (set : SiteSet) (site : SiteId) → has_site set site ≡ true → bit_at set.0 (site.0 - 1) ≡ 1
bit_is set site e = grind arith

site_in : (k : ℕ) → k < 8 → In (record { 0 = k + 1 }) all_sites
site_in zero h = inl refl
site_in (suc zero) h = inr (inl refl)
site_in (suc (suc zero)) h = inr (inr (inl refl))
site_in (suc (suc (suc zero))) h = inr (inr (inr (inl refl)))
site_in (suc (suc (suc (suc zero)))) h = inr (inr (inr (inr (inl refl))))
site_in (suc (suc (suc (suc (suc zero))))) h = inr (inr (inr (inr (inr (inl refl)))))
site_in (suc (suc (suc (suc (suc (suc zero)))))) h = inr (inr (inr (inr (inr (inr (inl refl))))))
site_in (suc (suc (suc (suc (suc (suc (suc zero))))))) h = inr (inr (inr (inr (inr (inr (inr (inl refl)))))))
site_in (suc (suc (suc (suc (suc (suc (suc (suc k)))))))) h = absurd (omega arith)

-- a site of both sets has its bit in both
shared_bit : (a b : SiteSet) (site : SiteId) → In site (sites_in a) → In site (sites_in b) → bit_at (bit_and a.0 b.0) (site.0 - 1) ≡ 1
shared_bit a b site i j =
    let x = bit_is a site (those_in (has_site a) site all_sites i).1 in
    let y = bit_is b site (those_in (has_site b) site all_sites j).1 in
    bit_at_and a.0 b.0 (site.0 - 1) ∙ (ap (λ n. min n (bit_at b.0 (site.0 - 1))) x ∙ ap (λ n. min 1 n) y)

-- so where the numbers have no bit in common there is no such site
none_shared : (a b : SiteSet) → bit_and a.0 b.0 ≡ 0 → share_site (sites_in a) (sites_in b) ≡ true → ⊥
none_shared a b none e =
    let s = some_of_is (λ site. some_of (same_site site) (sites_in b)) (sites_in a) e in
    let t = some_of_is (same_site s.0) (sites_in b) s.2 in
    let same : s.0 ≡ t.0 = same_site-equal s.0 t.0 t.2 in
    let bit = shared_bit a b s.0 s.1 (subst (λ x. In x (sites_in b)) (sym same) t.1) in
    let off : bit_at (bit_and a.0 b.0) ((s.0).0 - 1) ≡ 0 = ap (λ n. bit_at n ((s.0).0 - 1)) none ∙ bit_at-zero ((s.0).0 - 1) in
    let no : 1 ≡ 0 = sym bit ∙ off in
    omega arith

-- a common bit is a common site
bit_shared : (a b : SiteSet) (k : ℕ) → k < 8 → bit_at a.0 k ≡ 1 → bit_at b.0 k ≡ 1 → share_site (sites_in a) (sites_in b) ≡ true
bit_shared a b k h x y =
    let site : SiteId = record { 0 = k + 1 } in
    let place : k + 1 - 1 ≡ k = omega arith in
    let first : has_site a site ≡ true = has (bit_at a.0 (k + 1 - 1)) (ap (bit_at a.0) place ∙ x) in
    let second : has_site b site ≡ true = has (bit_at b.0 (k + 1 - 1)) (ap (bit_at b.0) place ∙ y) in
    let here : some_of (same_site site) (sites_in b) ≡ true =
    among_some (same_site site) (sites_in b)
    (is_among (λ t. same_site site t ≡ true) site (sites_in b) (in_those (has_site b) site all_sites (site_in k h) second) (same_site-refl site)) in
    among_some (λ s. some_of (same_site s) (sites_in b)) (sites_in a)
    (is_among (λ s. some_of (same_site s) (sites_in b) ≡ true) site (sites_in a) (in_those (has_site a) site all_sites (site_in k h) first) here)
  where
    has : (n : ℕ) → n ≡ 1 → (n == 1) ≡ true
    has n e = grind arith

no_bit : (a b : SiteSet) → share_site (sites_in a) (sites_in b) ≡ false → (k : ℕ) → k < 8 → bit_at (bit_and a.0 b.0) k ≡ bit_at 0 k
no_bit a b e k h =
    bit_at_and a.0 b.0 k ∙ (by_bits (bit_at a.0 k) (bit_at b.0 k) (bit_at-lt a.0 k) (bit_at-lt b.0 k) (λ x y. let on = bit_shared a b k h x y in cc) ∙ sym (bit_at-zero k))
  where
    by_bits : (x y : ℕ) → x < 2 → y < 2 → (x ≡ 1 → y ≡ 1 → ⊥) → min x y ≡ 0
    by_bits zero y p q free = omega arith
    by_bits (suc zero) zero p q free = omega arith
    by_bits (suc zero) (suc zero) p q free = absurd (free refl refl)
    by_bits (suc zero) (suc (suc y)) p q free = absurd (omega arith)
    by_bits (suc (suc x)) y p q free = absurd (omega arith)

-- two sets share a site exactly where their numbers have a bit in common
pub apart : (a b : SiteSet) → a.0 < 256 → (bit_and a.0 b.0 == 0) ≡ not (share_site (sites_in a) (sites_in b))
apart a b small =
    elim (bool_is (share_site (sites_in a) (sites_in b))) [
      | inl e ↦ rw e (by_zero (bit_and a.0 b.0) (λ none. none_shared a b none e))
      | inr e ↦
          let low = and_le_l a.0 b.0 in
          let none : bit_and a.0 b.0 ≡ 0 = same_from_bits_below 8 (bit_and a.0 b.0) 0 (omega arith) (omega arith) (no_bit a b e) in
          rw e (is_zero (bit_and a.0 b.0) none)
    ]
  where
    by_zero : (n : ℕ) → (n ≡ 0 → ⊥) → (n == 0) ≡ false
    by_zero n h = elim (bool_is (n == 0)) [ inl e ↦ absurd (h (grind arith)) | inr e ↦ e ]

    is_zero : (n : ℕ) → n ≡ 0 → (n == 0) ≡ true
    is_zero n e = grind arith

-- the same for several sets
pub apart_from_each : (own : SiteSet) → own.0 < 256 → (others : List SiteSet) →
    each_of (λ other. bit_and own.0 other.0 == 0) others ≡ conservatively (sites_in own) (map sites_in others)
apart_from_each own small [] = refl
apart_from_each own small (other ∷ others) =
    ap (λ b. b && each_of (λ o. bit_and own.0 o.0 == 0) others) (apart own other small)
    ∙ ap (λ b. not (share_site (sites_in own) (sites_in other)) && b) (apart_from_each own small others)
