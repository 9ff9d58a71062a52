-- What a round of the coordinator's inlets leaves of the ports.
use Rattle.std.proofs.Common.{◌≡◌, ℕ, ◌+◌, ◌-◌, ◌^◌, ◌<◌, ◌≤◌, ◌⊎◌, inl, inr, min, Bool, cond, Option, Some, None, List, [], ◌∷◌, ◌++◌, length, slice_get, slice_set, append-nil, eq-eqb, refl, sym, ap, ◌∙◌, subst, arith}
use Rattle.std.specs.Prelude.{option_to_list, IfNone}
use Rattle.std.proofs.lemmas.Bool.{cases_lt, ne_eqb}
use Rattle.std.proofs.lemmas.Option.{same_Some}
use Rattle.fed_messages.specs.declared.Packet.{Packet}
use Rattle.session_routes.proofs.ForCallers.{get_other, get_put}
use Rattle.scripted_link.specs.declared.inlet.Inlet.{Inlet}
use Rattle.scripted_link.specs.Inlets.{empty_count, inlet_ring, returned, taken}
use Rattle.fed_hosts.specs.declared.ports.Port.{Port}
use Rattle.fed_hosts.specs.declared.rounds.Arrived.{Arrived}
use Rattle.fed_hosts.specs.Rounds.{ArePolled, HaveGivenNone, IsBesideInlet, IsPolled, arrived_at}
use Rattle.fed_hosts.proofs.Changes.{became, becomes_self, becomes_through, changed_one}

-- the port with this inlet
abbrev pub with_inlet : Port → Inlet → Port
with_inlet port inlet = record port { ends = record port.ends { inlet = inlet } }

pub beside_inlet : (port : Port) (inlet : Inlet) → inlet_ring inlet ≡ inlet_ring port.ends.inlet → IsBesideInlet port (with_inlet port inlet)
beside_inlet port inlet ring = record { site = refl; outlet = refl; sent = refl; ring = ring }

-- the packet came in at its place and at no other
pub arrived_here : (arrived : Arrived) → arrived_at (Some arrived) arrived.place ≡ Some arrived.packet
arrived_here arrived = ap (λ (b : Bool). cond b (Some arrived.packet) None) (eq-eqb arrived.place arrived.place refl)

pub arrived_elsewhere : (arrived : Arrived) (place : ℕ) → (place ≡ arrived.place → ⊥) → arrived_at (Some arrived) place ≡ None
arrived_elsewhere arrived place apart = ap (λ (b : Bool). cond b (Some arrived.packet) None) (ne_eqb place arrived.place apart)

unasked : (gave : Option Packet) (port : Port) → gave ≡ None → IsPolled gave port port
unasked gave port none = record { beside = record { site = refl; outlet = refl; sent = refl; ring = refl }; took = sym (ap (λ (o : Option Packet). taken port.ends.inlet ++ option_to_list o) none ∙ append-nil _) }

pub polled_self : (ports : List Port) → ArePolled None ports ports
polled_self ports = becomes_self (λ place a b. IsPolled (arrived_at None place) a b) ports (λ place port at. unasked None port refl)

polled_join : (gave : Option Packet) (a b c : Port) → IsPolled None a b → IsPolled gave b c → IsPolled gave a c
polled_join gave a b c first second = record {
  beside = record {
    site = second.beside.site ∙ first.beside.site;
    outlet = second.beside.outlet ∙ first.beside.outlet;
    sent = second.beside.sent ∙ first.beside.sent;
    ring = second.beside.ring ∙ first.beside.ring;
  };
  took = second.took ∙ ap (λ (ps : List Packet). ps ++ option_to_list gave) (first.took ∙ append-nil _);
}

pub polled_through : (arrived : Option Arrived) (old mid new : List Port) → ArePolled None old mid → ArePolled arrived mid new → ArePolled arrived old new
polled_through arrived old mid new first second =
    becomes_through (λ place a b. IsPolled (arrived_at None place) a b) (λ place a b. IsPolled (arrived_at arrived place) a b) (λ place a b. IsPolled (arrived_at arrived place) a b) old mid new
    (λ place a b c is next. polled_join (arrived_at arrived place) a b c is next) first second

-- one inlet gave a packet
pub polled_some : (old now : List Port) (before : Port) (inlet : Inlet) (arrived : Arrived) → ArePolled None old now → arrived.place < length now → slice_get now arrived.place ≡ Some before
    → inlet_ring inlet ≡ inlet_ring before.ends.inlet → taken inlet ≡ taken before.ends.inlet ++ arrived.packet ∷ [] → ArePolled (Some arrived) old (slice_set now arrived.place (with_inlet before inlet))
polled_some old now before inlet arrived polled within at ring took =
    polled_through (Some arrived) old now (slice_set now arrived.place (with_inlet before inlet)) polled
    (changed_one (λ place a b. IsPolled (arrived_at (Some arrived) place) a b) now arrived.place before (with_inlet before inlet) within at
    (record { beside = beside_inlet before inlet ring; took = took ∙ sym (ap (λ (o : Option Packet). taken before.ends.inlet ++ option_to_list o) (arrived_here arrived)) })
    (λ place port apart was. unasked (arrived_at (Some arrived) place) port (arrived_elsewhere arrived place apart)))

pub arrived_kept : (now : List Port) (before : Port) (inlet : Inlet) (arrived : Arrived) → arrived.place < length now → returned inlet ≡ None → (port : Port)
    → slice_get (slice_set now arrived.place (with_inlet before inlet)) arrived.place ≡ Some port → returned port.ends.inlet ≡ None
arrived_kept now before inlet arrived within none port at =
    let same = same_Some (with_inlet before inlet) port (sym (get_put now arrived.place (with_inlet before inlet) within) ∙ at) in
    subst (λ (p : Port). returned p.ends.inlet ≡ None) same none

-- the packet that came in is the last one that was taken at its place
pub arrived_last : (arrived : Arrived) (old now : List Port) (port : Port) → ArePolled (Some arrived) old now → slice_get now arrived.place ≡ Some port → (before : List Packet) × (taken port.ends.inlet ≡ before ++ arrived.packet ∷ [])
arrived_last arrived old now port polled at = from (became _ old now polled arrived.place port at) where
  from : (before : Port) × (slice_get old arrived.place ≡ Some before) × IsPolled (arrived_at (Some arrived) arrived.place) before port → (before : List Packet) × (taken port.ends.inlet ≡ before ++ arrived.packet ∷ [])
  from (before, was, is) = (taken before.ends.inlet, is.took ∙ ap (λ (o : Option Packet). taken before.ends.inlet ++ option_to_list o) (arrived_here arrived))

-- one gave none
pub polled_none : (old now : List Port) (place : ℕ) (before : Port) (inlet : Inlet) → ArePolled None old now → place < length now → slice_get now place ≡ Some before
    → inlet_ring inlet ≡ inlet_ring before.ends.inlet → taken inlet ≡ taken before.ends.inlet → ArePolled None old (slice_set now place (with_inlet before inlet))
polled_none old now place before inlet polled within at ring took =
    polled_through None old now (slice_set now place (with_inlet before inlet)) polled
    (changed_one (λ place a b. IsPolled (arrived_at None place) a b) now place before (with_inlet before inlet) within at (record { beside = beside_inlet before inlet ring; took = took ∙ sym (append-nil _) })
    (λ place port apart was. unasked None port refl))

pub given_start : (from : ℕ) (ports : List Port) → HaveGivenNone from from ports ports
given_start from ports = record {
  asked = λ place a b low high was at. absurd (omega (arith, low, high));
  left = λ place a b out was at. ap (λ (port : Port). empty_count port.ends.inlet) (same_Some b a (sym at ∙ was));
}

pub given_next : (from place : ℕ) (old now : List Port) (before : Port) (inlet : Inlet) → HaveGivenNone from place old now → from ≤ place → place < length now → slice_get now place ≡ Some before
    → empty_count inlet ≡ min (empty_count before.ends.inlet + 1) (2 ^ 64 - 1) → HaveGivenNone from (place + 1) old (slice_set now place (with_inlet before inlet))
given_next from place old now before inlet h low within at counted = record {
  asked = λ p a b less more was is. by_place p a b less (more_or p more) was is;
  left = λ p a b out was is. h.left p a b (still p out) was (sym (get_other now place p (with_inlet before inlet) (out_of p out)) ∙ is);
} where
  more_or : (p : ℕ) → p < place + 1 → (p < place) ⊎ (p ≡ place)
  more_or p more = elim (cases_lt p place) [ inl less ↦ inl less | inr least ↦ inr (omega (arith, least, more)) ]

  by_place : (p : ℕ) (a b : Port) → from ≤ p → (p < place) ⊎ (p ≡ place) → slice_get old p ≡ Some a → slice_get (slice_set now place (with_inlet before inlet)) p ≡ Some b
      → empty_count b.ends.inlet ≡ min (empty_count a.ends.inlet + 1) (2 ^ 64 - 1)
  by_place p a b low' (inl less) was is = h.asked p a b low' less was (sym (get_other now place p (with_inlet before inlet) (λ e. omega (arith, less, e))) ∙ is)
  by_place p a b low' (inr same) was is =
      let new : with_inlet before inlet ≡ b = same_Some (with_inlet before inlet) b (sym (get_put now place (with_inlet before inlet) within) ∙ ap (slice_get (slice_set now place (with_inlet before inlet))) (sym same) ∙ is) in
      let old_is : empty_count before.ends.inlet ≡ empty_count a.ends.inlet = h.left place a before (inr (omega arith)) (ap (slice_get old) (sym same) ∙ was) at in
      sym (ap (λ (port : Port). empty_count port.ends.inlet) new) ∙ counted ∙ ap (λ (n : ℕ). min (n + 1) (2 ^ 64 - 1)) old_is

  still : (p : ℕ) → (p < from) ⊎ (place + 1 ≤ p) → (p < from) ⊎ (place ≤ p)
  still p (inl less) = inl less
  still p (inr most) = inr (omega (arith, most))

  out_of : (p : ℕ) → (p < from) ⊎ (place + 1 ≤ p) → p ≡ place → ⊥
  out_of p (inl less) e = omega (arith, less, e, low)
  out_of p (inr most) e = omega (arith, most, e)

-- the inlet at the place behind them gave a packet, and counts nothing
pub given_before : (from place : ℕ) (old now : List Port) (before : Port) (inlet : Inlet) → HaveGivenNone from place old now → from ≤ place → place < length now → slice_get now place ≡ Some before
    → empty_count inlet ≡ empty_count before.ends.inlet → HaveGivenNone from place old (slice_set now place (with_inlet before inlet))
given_before from place old now before inlet h low within at counted = record {
  asked = λ p a b low' less was is. h.asked p a b low' less was (sym (get_other now place p (with_inlet before inlet) (λ e. omega (arith, less, e))) ∙ is);
  left = λ p a b out was is. by_place p a b out (cases_lt p place) (cases_lt place p) was is;
} where
  by_place : (p : ℕ) (a b : Port) → (p < from) ⊎ (place ≤ p) → (p < place) ⊎ (place ≤ p) → (place < p) ⊎ (p ≤ place) → slice_get old p ≡ Some a → slice_get (slice_set now place (with_inlet before inlet)) p ≡ Some b
      → empty_count b.ends.inlet ≡ empty_count a.ends.inlet
  by_place p a b out (inl less) more was is = h.left p a b out was (sym (get_other now place p (with_inlet before inlet) (λ e. omega (arith, less, e))) ∙ is)
  by_place p a b out (inr most) (inl more) was is = h.left p a b out was (sym (get_other now place p (with_inlet before inlet) (λ e. omega (arith, more, e))) ∙ is)
  by_place p a b out (inr most) (inr least) was is =
      let same : p ≡ place = omega (arith, most, least) in
      let new : with_inlet before inlet ≡ b = same_Some (with_inlet before inlet) b (sym (get_put now place (with_inlet before inlet) within) ∙ ap (slice_get (slice_set now place (with_inlet before inlet))) (sym same) ∙ is) in
      let old_is : empty_count before.ends.inlet ≡ empty_count a.ends.inlet = h.left place a before (inr (omega arith)) (ap (slice_get old) (sym same) ∙ was) at in
      sym (ap (λ (port : Port). empty_count port.ends.inlet) new) ∙ counted ∙ old_is

-- behind the last place
pub given_end : (from place to : ℕ) (old now : List Port) → HaveGivenNone from place old now → to ≤ place → (place ≤ from) ⊎ (place ≤ to) → HaveGivenNone from to old now
given_end from place to old now h past (inr high) = subst (λ (n : ℕ). HaveGivenNone from n old now) (omega (arith, past, high)) h
given_end from place to old now h past (inl none) = record {
  asked = λ q a b low high was is. absurd (omega (arith, past, none, low, high));
  left = λ q a b out was is. h.left q a b (around q (cases_lt q from)) was is;
} where
  around : (q : ℕ) → (q < from) ⊎ (from ≤ q) → (q < from) ⊎ (place ≤ q)
  around q (inl less) = inl less
  around q (inr more) = inr (omega (arith, more, none))

-- once round
pub given_round : (middle all : ℕ) (old mid new : List Port) → middle ≤ all → ArePolled None mid new → HaveGivenNone middle all old mid → HaveGivenNone 0 middle mid new
    → HaveGivenNone 0 all old new
given_round middle all old mid new within polled first second = record {
  asked = λ place a c low high was is. by_mid place a c high was (became (λ place a b. IsPolled (arrived_at None place) a b) mid new polled place c is) is;
  left = λ place a c out was is. beyond place a c out was (became (λ place a b. IsPolled (arrived_at None place) a b) mid new polled place c is) is;
} where
  by_half : (place : ℕ) (a b c : Port) → (place < middle) ⊎ (middle ≤ place) → place < all → slice_get old place ≡ Some a → slice_get mid place ≡ Some b → slice_get new place ≡ Some c
      → empty_count c.ends.inlet ≡ min (empty_count a.ends.inlet + 1) (2 ^ 64 - 1)
  by_half place a b c (inl less) high was between is =
      second.asked place b c (omega arith) less between is ∙ ap (λ (n : ℕ). min (n + 1) (2 ^ 64 - 1)) (first.left place a b (inl less) was between)
  by_half place a b c (inr most) high was between is = second.left place b c (inr most) between is ∙ first.asked place a b most high was between

  by_mid : (place : ℕ) (a c : Port) → place < all → slice_get old place ≡ Some a → (b : Port) × (slice_get mid place ≡ Some b) × IsPolled None b c → slice_get new place ≡ Some c
      → empty_count c.ends.inlet ≡ min (empty_count a.ends.inlet + 1) (2 ^ 64 - 1)
  by_mid place a c high was (b, between, polled_is) is = by_half place a b c (cases_lt place middle) high was between is

  beyond : (place : ℕ) (a c : Port) → (place < 0) ⊎ (all ≤ place) → slice_get old place ≡ Some a → (b : Port) × (slice_get mid place ≡ Some b) × IsPolled None b c → slice_get new place ≡ Some c
      → empty_count c.ends.inlet ≡ empty_count a.ends.inlet
  beyond place a c (inl none) was b is = absurd (omega (arith, none))
  beyond place a c (inr most) was (b, between, polled_is) is = second.left place b c (inr (omega (arith, most, within))) between is ∙ first.left place a b (inr most) was between

pub round_none : (r : Option Arrived) (middle all : ℕ) (old mid new : List Port) → middle ≤ all → ArePolled r mid new → HaveGivenNone middle all old mid → IfNone r (HaveGivenNone 0 middle mid new) → IfNone r (HaveGivenNone 0 all old new)
round_none None middle all old mid new within polled first second = given_round middle all old mid new within polled first second
round_none (Some arrived) middle all old mid new within polled first second = tt
