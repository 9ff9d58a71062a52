-- The ports that a round of the coordinator passes.
use Rattle.std.proofs.Common.{◌≡◌, ℕ, ◌<◌, ◌≤◌, ◌⊎◌, inl, inr, Bool, true, false, Option, Some, None, List, length, slice_get, refl, sym, ◌∙◌, subst, arith}
use Rattle.std.specs.Prelude.{IfSome}
use Rattle.std.proofs.lemmas.Bool.{cases_lt}
use Rattle.std.proofs.lemmas.Bool.Decides.{nat_tests}
use Rattle.std.proofs.lemmas.Option.{slice_get_within}
use Rattle.scripted_link.specs.Inlets.{empty_count}
use Rattle.fed_hosts.specs.declared.ports.Port.{Port}
use Rattle.fed_hosts.specs.declared.rounds.Arrived.{Arrived}
use Rattle.fed_hosts.specs.CoordTurns.{HavePassed, IsPassed, begins_at, comes_before}
use Rattle.fed_hosts.specs.Ports.{empties_of}
use Rattle.fed_hosts.specs.Rounds.{ArePolled, HasComeFrom, HaveGivenNone, IsPolled, arrived_at}
use Rattle.fed_hosts.specs.Turns.{IsCounted}
use Rattle.fed_hosts.proofs.Changes.{became, becomes_mapped}
use Rattle.fed_hosts.proofs.Views.{counted_once}

pub begins_there : (ports first : ℕ) → first < ports → begins_at ports first ≡ first
begins_there ports first less = grind (arith, nat_tests)

pub begins_anew : (ports first : ℕ) → ports ≤ first → begins_at ports first ≡ 0
begins_anew ports first most = grind (arith, nat_tests)

-- a round that comes to a place at or behind its beginning passed those from there to it
comes_high : (ports first passed place : ℕ) → begins_at ports first ≤ place → place < ports → begins_at ports first ≤ passed → passed < place → comes_before ports first passed place ≡ true
comes_high ports first passed place low high above less = grind (arith, nat_tests)

stays_low : (ports first passed place : ℕ) → begins_at ports first ≤ place → place < ports → (passed < begins_at ports first) ⊎ (place ≤ passed) → comes_before ports first passed place ≡ false
stays_low ports first passed place low high (inl less) = grind (arith, nat_tests)
stays_low ports first passed place low high (inr most) = grind (arith, nat_tests)

-- one that comes to a place before its beginning passed those from there to the last, and then those before the place
comes_round : (ports first passed place : ℕ) → place < begins_at ports first → passed < ports → (begins_at ports first ≤ passed) ⊎ (passed < place) → comes_before ports first passed place ≡ true
comes_round ports first passed place low within (inl above) = grind (arith, nat_tests)
comes_round ports first passed place low within (inr less) = grind (arith, nat_tests)

stays_between : (ports first passed place : ℕ) → place < begins_at ports first → passed < begins_at ports first → place ≤ passed → comes_before ports first passed place ≡ false
stays_between ports first passed place low within most = grind (arith, nat_tests)

module _ (first place : ℕ) (old : List Port) where
  -- the count of a port that was passed, and of another
  is_passed : (p : ℕ) (a b : Port) → comes_before (length old) first p place ≡ true → IsCounted (empty_count a.ends.inlet) (empty_count b.ends.inlet)
      → IsPassed (comes_before (length old) first p place) (empty_count a.ends.inlet) (empty_count b.ends.inlet)
  is_passed p a b comes counted = subst (λ (t : Bool). IsPassed t (empty_count a.ends.inlet) (empty_count b.ends.inlet)) (sym comes) counted

  is_left : (p : ℕ) (a b : Port) → comes_before (length old) first p place ≡ false → empty_count b.ends.inlet ≡ empty_count a.ends.inlet
      → IsPassed (comes_before (length old) first p place) (empty_count a.ends.inlet) (empty_count b.ends.inlet)
  is_left p a b stays same = subst (λ (t : Bool). IsPassed t (empty_count a.ends.inlet) (empty_count b.ends.inlet)) (sym stays) same

  abbrev counts_passed : (new : List Port) → length new ≡ length old
      → ((p : ℕ) (a b : Port) → slice_get old p ≡ Some a → slice_get new p ≡ Some b → IsPassed (comes_before (length old) first p place) (empty_count a.ends.inlet) (empty_count b.ends.inlet))
      → HavePassed (length old) first place (empties_of old) (empties_of new)
  counts_passed new count each =
      becomes_mapped (λ (port : Port). empty_count port.ends.inlet) (λ passed before after. IsPassed (comes_before (length old) first passed place) before after) old new (record { count = count; each = each })

  -- where the packet came in at or behind the beginning of the round
  pub passed_high : (new : List Port) → length new ≡ length old → HasComeFrom (begins_at (length old) first) (length old) place old new → HavePassed (length old) first place (empties_of old) (empties_of new)
  passed_high new count come = counts_passed new count (λ p a b was is. by_place p a b was is (cases_lt p (begins_at (length old) first)) (cases_lt p place)) where
    by_place : (p : ℕ) (a b : Port) → slice_get old p ≡ Some a → slice_get new p ≡ Some b → (p < begins_at (length old) first) ⊎ (begins_at (length old) first ≤ p) → (p < place) ⊎ (place ≤ p)
        → IsPassed (comes_before (length old) first p place) (empty_count a.ends.inlet) (empty_count b.ends.inlet)
    by_place p a b was is (inl below) before = is_left p a b (stays_low (length old) first p place come.low come.high (inl below)) (come.none.left p a b (inl below) was is)
    by_place p a b was is (inr above) (inl less) =
        is_passed p a b (comes_high (length old) first p place come.low come.high above less)
        (counted_once (empty_count a.ends.inlet) (empty_count a.ends.inlet) (empty_count b.ends.inlet) refl (come.none.asked p a b above less was is))
    by_place p a b was is (inr above) (inr most) = is_left p a b (stays_low (length old) first p place come.low come.high (inr most)) (come.none.left p a b (inr most) was is)

  -- where it came in before it, and each inlet from there to the last gave none
  passed_round : (gave : Option Arrived) (mid new : List Port) → length mid ≡ length old → ArePolled gave mid new → HaveGivenNone (begins_at (length old) first) (length old) old mid
      → HasComeFrom 0 (begins_at (length old) first) place mid new → HavePassed (length old) first place (empties_of old) (empties_of new)
  passed_round gave mid new count polled given come =
      counts_passed new (polled.count ∙ count)
      (λ p a c was is. by_mid p a c was (became (λ place a b. IsPolled (arrived_at gave place) a b) mid new polled p c is) is)
    where
      by_place : (p : ℕ) (a b c : Port) → (p < begins_at (length old) first) ⊎ (begins_at (length old) first ≤ p) → (p < place) ⊎ (place ≤ p) → slice_get old p ≡ Some a → slice_get mid p ≡ Some b → slice_get new p ≡ Some c
          → IsPassed (comes_before (length old) first p place) (empty_count a.ends.inlet) (empty_count c.ends.inlet)
      by_place p a b c (inl below) (inl less) was between is =
          is_passed p a c (comes_round (length old) first p place come.high (slice_get_within old p a was) (inr less))
          (counted_once (empty_count a.ends.inlet) (empty_count b.ends.inlet) (empty_count c.ends.inlet) (given.left p a b (inl below) was between) (come.none.asked p b c (omega arith) less between is))
      by_place p a b c (inl below) (inr most) was between is =
          is_left p a c (stays_between (length old) first p place come.high below most) (come.none.left p b c (inr most) between is ∙ given.left p a b (inl below) was between)
      by_place p a b c (inr above) before was between is =
          let behind : place ≤ p = (let high = come.high in omega (arith, high, above)) in
          is_passed p a c (comes_round (length old) first p place come.high (slice_get_within old p a was) (inl above))
          (subst (λ (n : ℕ). IsCounted (empty_count a.ends.inlet) n) (sym (come.none.left p b c (inr behind) between is))
          (counted_once (empty_count a.ends.inlet) (empty_count a.ends.inlet) (empty_count b.ends.inlet) refl (given.asked p a b above (slice_get_within old p a was) was between)))

      by_mid : (p : ℕ) (a c : Port) → slice_get old p ≡ Some a → (b : Port) × (slice_get mid p ≡ Some b) × IsPolled (arrived_at gave p) b c → slice_get new p ≡ Some c
          → IsPassed (comes_before (length old) first p place) (empty_count a.ends.inlet) (empty_count c.ends.inlet)
      by_mid p a c was (b, between, polled_is) is = by_place p a b c (cases_lt p (begins_at (length old) first)) (cases_lt p place) was between is

pub round_some : (gave : Option Arrived) (first middle : ℕ) (old mid new : List Port) → middle ≡ begins_at (length old) first → length mid ≡ length old → ArePolled gave mid new → HaveGivenNone middle (length old) old mid
    → IfSome gave (λ arrived. HasComeFrom 0 middle arrived.place mid new) → IfSome gave (λ arrived. HavePassed (length old) first arrived.place (empties_of old) (empties_of new))
round_some None first middle old mid new begin count polled given come = tt
round_some (Some arrived) first middle old mid new begin count polled given come =
    passed_round first arrived.place old (Some arrived) mid new count polled (subst (λ (n : ℕ). HaveGivenNone n (length old) old mid) begin given)
    (subst (λ (n : ℕ). HasComeFrom 0 n arrived.place mid new) begin come)
