-- A set of sites as a rising list.
use Rattle.std.proofs.Common.{ℕ, zero, suc, ◌≡◌, ◌+◌, ◌<◌, ◌≤◌, Bool, true, false, cond, nat_lt, ◌||◌, List, [], ◌∷◌, refl, sym, ap, ◌∙◌, arith}
use Rattle.mdb_base.specs.declared.names.SiteId.{SiteId}
use Rattle.mdb_base.specs.Names.{same_site}
use Rattle.mdb_base.specs.Rising.{IsRising}
use Rattle.mdb_base.specs.Words.{Each, those, some_of}
use Rattle.mdb_base.proofs.ForCallers.{rising_rest, same_site-below}
use Rattle.global_exec.specs.declared.policy.SiteSet.{SiteSet}
use Rattle.global_exec.specs.Live.{all_sites}
use Rattle.global_exec.specs.Sets.{IsSite, has_site, sites_in}
use Rattle.global_exec.proofs.Rises.{each_above}

-- so many sites from this number on
abbrev sites_from : ℕ → ℕ → List SiteId
sites_from zero n = []
sites_from (suc k) n = record { 0 = n } ∷ sites_from k (n + 1)

abbrev number : SiteId → ℕ
number site = site.0

abbrev member : List SiteId → SiteId → Bool
member sites site = some_of (λ other. same_site other site) sites

-- ---- tests on lists

none_of : (k n : ℕ) → those (λ site. false) (sites_from k n) ≡ []
none_of zero n = refl
none_of (suc k) n = none_of k (n + 1)

same_on : (P : SiteId → Type 0) (f g : SiteId → Bool) (xs : List SiteId) → Each P xs → ((s : SiteId) → P s → f s ≡ g s) → those f xs ≡ those g xs
same_on P f g [] h e = refl
same_on P f g (x ∷ xs) h e = step (f x) (g x) (e x h.0) (same_on P f g xs h.1 e)
  where
    step : (b d : Bool) → b ≡ d → those f xs ≡ those g xs → cond b (x ∷ those f xs) (those f xs) ≡ cond d (x ∷ those g xs) (those g xs)
    step b d p q = ap (λ c. cond c (x ∷ those f xs) (those f xs)) p ∙ ap (λ ys. cond d (x ∷ ys) ys) q

each_weaker : (P Q : SiteId → Type 0) → ((s : SiteId) → P s → Q s) → (xs : List SiteId) → Each P xs → Each Q xs
each_weaker P Q h [] e = tt
each_weaker P Q h (x ∷ xs) e = (h x e.0, each_weaker P Q h xs e.1)

from_low : (k n : ℕ) → Each (λ s. n ≤ s.0) (sites_from k n)
from_low zero n = tt
from_low (suc k) n = (omega arith, each_weaker (λ s. n + 1 ≤ s.0) (λ s. n ≤ s.0) (λ s h. omega arith) (sites_from k (n + 1)) (from_low k (n + 1)))

same_by_number : (a b : SiteId) → a.0 ≡ b.0 → same_site a b ≡ true
same_by_number a b e = grind arith

other_number : (a b : SiteId) → b.0 < a.0 → same_site a b ≡ false
other_number a b h = grind arith

-- none of these has a smaller number
no_member : (n : ℕ) (xs : List SiteId) → Each (λ s. n < s.0) xs → member xs (record { 0 = n }) ≡ false
no_member n [] h = refl
no_member n (x ∷ xs) h = ap (λ b. b || member xs (record { 0 = n })) (other_number x (record { 0 = n }) h.0) ∙ no_member n xs h.1

-- ---- the members of an interval

-- a rising list of numbers from n on, below n and k
record AreFrom (k n : ℕ) (xs : List SiteId) : Type 0 where
  rising : IsRising number xs
  low : Each (λ s. n ≤ s.0) xs
  high : Each (λ s. s.0 < n + k) xs

data Order (a b : ℕ) : Type 0 where
  Same : a ≡ b → Order a b
  Less : a < b → Order a b

order : (a b : ℕ) → a ≤ b → Order a b
order a b h = by_test (nat_lt a b) refl
  where
    by_test : (t : Bool) → nat_lt a b ≡ t → Order a b
    by_test true e = Less (grind arith)
    by_test false e = Same (grind arith)

members_of : (k n : ℕ) (xs : List SiteId) → AreFrom k n xs → those (member xs) (sites_from k n) ≡ xs
members_of zero n [] h = refl
members_of zero n (x ∷ xs) h = let low = h.low.0 in let high = h.high.0 in absurd (omega arith)
members_of (suc k) n [] h = none_of k (n + 1)
members_of (suc k) n (x ∷ xs) h = by_order (order n x.0 h.low.0) (members_of k (n + 1) xs) (members_of k (n + 1) (x ∷ xs))
  where
    above : Each (λ s. x.0 < s.0) xs
    above = each_above number x xs h.rising

    by_order : Order n x.0 → (AreFrom k (n + 1) xs → those (member xs) (sites_from k (n + 1)) ≡ xs) →
        (AreFrom k (n + 1) (x ∷ xs) → those (member (x ∷ xs)) (sites_from k (n + 1)) ≡ x ∷ xs) →
        those (member (x ∷ xs)) (sites_from (suc k) n) ≡ x ∷ xs
    by_order (Same e) rest all =
        let here : member (x ∷ xs) (record { 0 = n }) ≡ true = ap (λ b. b || member xs (record { 0 = n })) (same_by_number x (record { 0 = n }) (sym e)) in
        let site : record { 0 = n } ≡ x = ap (λ m. record { 0 = m }) e in
        let others : those (member (x ∷ xs)) (sites_from k (n + 1)) ≡ those (member xs) (sites_from k (n + 1)) =
        same_on (λ s. n + 1 ≤ s.0) (member (x ∷ xs)) (member xs) (sites_from k (n + 1)) (from_low k (n + 1))
        (λ s p. ap (λ b. b || member xs s) (same_site-below x s (omega arith))) in
        let left : AreFrom k (n + 1) xs = record {
          rising = rising_rest number x xs h.rising;
          low = each_weaker (λ s. x.0 < s.0) (λ s. n + 1 ≤ s.0) (λ s p. omega arith) xs above;
          high = each_weaker (λ s. s.0 < n + suc k) (λ s. s.0 < n + 1 + k) (λ s p. omega arith) xs h.high.1;
        } in
        ap (λ b. cond b (record { 0 = n } ∷ those (member (x ∷ xs)) (sites_from k (n + 1))) (those (member (x ∷ xs)) (sites_from k (n + 1)))) here
        ∙ (ap (λ s. s ∷ those (member (x ∷ xs)) (sites_from k (n + 1))) site ∙ ap (λ ys. x ∷ ys) (others ∙ rest left))
    by_order (Less l) rest all =
        let none : member (x ∷ xs) (record { 0 = n }) ≡ false =
        no_member n (x ∷ xs) (l, each_weaker (λ s. x.0 < s.0) (λ s. n < s.0) (λ s p. omega arith) xs above) in
        let left : AreFrom k (n + 1) (x ∷ xs) = record {
          rising = h.rising;
          low = (omega arith, each_weaker (λ s. x.0 < s.0) (λ s. n + 1 ≤ s.0) (λ s p. omega arith) xs above);
          high = each_weaker (λ s. s.0 < n + suc k) (λ s. s.0 < n + 1 + k) (λ s p. omega arith) (x ∷ xs) h.high;
        } in
        ap (λ b. cond b (record { 0 = n } ∷ those (member (x ∷ xs)) (sites_from k (n + 1))) (those (member (x ∷ xs)) (sites_from k (n + 1)))) none ∙ all left

-- ---- a set

one : (n : ℕ) → 1 ≤ n → n ≤ 8 → IsSite (record { 0 = n })
one n a b = record { first = a; last = b }

eight : Each IsSite all_sites
eight = (
  one 1 (omega arith) (omega arith),
  (
    one 2 (omega arith) (omega arith),
    (
      one 3 (omega arith) (omega arith),
      (
        one 4 (omega arith) (omega arith),
        (one 5 (omega arith) (omega arith), (one 6 (omega arith) (omega arith), (one 7 (omega arith) (omega arith), (one 8 (omega arith) (omega arith), tt)))),
      ),
    ),
  ),
)

pub sets_are_lists : (set : SiteSet) (sites : List SiteId) → IsRising (λ site. site.0) sites → Each IsSite sites →
    ((site : SiteId) → 1 ≤ site.0 → site.0 ≤ 8 → has_site set site ≡ some_of (λ other. same_site other site) sites) → sites_in set ≡ sites
sets_are_lists set sites rising within has =
    same_on IsSite (has_site set) (member sites) all_sites eight (λ s h. has s h.first h.last)
    ∙ members_of 8 1 sites (record {
      rising = rising;
      low = each_weaker IsSite (λ s. 1 ≤ s.0) (λ s h. h.first) sites within;
      high = each_weaker IsSite (λ s. s.0 < 1 + 8) (λ s h. let last = h.last in omega arith) sites within;
    })
