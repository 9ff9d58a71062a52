-- What is heard of a packet that came in from one of the coordinator's sites.
use Rattle.std.proofs.Common.{◌≡◌, ℕ, zero, suc, ◌≤◌, ◌<◌, ◌^◌, ◌==◌, ◌⊎◌, inl, inr, Bool, true, false, cond, Option, Some, None, List, [], ◌∷◌, ◌++◌, map, slice_get, append-nil, eqb-true, eq-eqb, refl, sym, ap, ◌∙◌, subst, arith}
use Rattle.std.specs.Prelude.{option_to_list}
use Rattle.std.proofs.lemmas.Bool.{cases_lt, ne_eqb}
use Rattle.std.proofs.lemmas.Option.{same_Some}
use Rattle.mdb_base.specs.declared.names.SiteId.{SiteId}
use Rattle.mdb_base.specs.Names.{same_site}
use Rattle.mdb_base.specs.Rising.{IsRising}
use Rattle.mdb_base.specs.Words.{Each, with_some}
use Rattle.mdb_base.proofs.ForCallers.{each_at_place, reverse_more, rising_rest}
use Rattle.presumptions.specs.declared.Participant.{Participant}
use Rattle.fed_rules.specs.declared.commands.Command.TheVariants as Cmd
use Rattle.fed_rules.specs.declared.messages.FromSite.{FromSite}
use Rattle.fed_messages.specs.declared.Envelope.{Envelope}
use Rattle.fed_messages.specs.declared.Packet.{Packet}
use Rattle.fed_messages.specs.Packets.{IsEnvelope, Spells, envelope_bytes}
use Rattle.fed_messages.specs.Spelling.{IsFromSite, from_site_bytes}
use Rattle.scripted_link.specs.Inlets.{taken}
use Rattle.scripted_link.specs.Rings.{Wire}
use Rattle.fed_hosts.specs.declared.ports.Port.{Port}
use Rattle.fed_hosts.specs.declared.rounds.Arrived.{Arrived}
use Rattle.host_laws.specs.CoordHearing.{BearsFrom, HasHeardFrom, IsReadFrom, TakingFrom}
use Rattle.fed_hosts.specs.CoordKeeps.{HaveHeard, IsCoordPlanned, IsPortPlanned}
use Rattle.host_laws.specs.CoordPlans.{CoordPlan}
use Rattle.host_laws.specs.CoordTurns.{CoordTurn, from_site, took_from}
use Rattle.fed_hosts.specs.Ports.{EachBecomes}
use Rattle.fed_hosts.specs.Rounds.{ArePolled, ArePutBack, IsPolled, IsPutBack, arrived_at}
use Rattle.fed_hosts.proofs.Changes.{became, becomes_through}
use Rattle.fed_hosts.proofs.Polled.{arrived_elsewhere, arrived_here}
use Rattle.fed_hosts.proofs.Turning.{snoc_same}

-- a packet more that is taken
heard_next : (packets : List Packet) (envelopes : List (Envelope FromSite)) (packet : Packet) (read : Option (Envelope FromSite)) → HasHeardFrom packets envelopes → IsReadFrom packet read
    → HasHeardFrom (packets ++ packet ∷ []) (with_some read envelopes)
heard_next packets envelopes packet read h is =
    let taking : TakingFrom = record { packet = packet; bears = read } in
    record {
      takings = taking ∷ h.takings;
      packets_are = ap (λ (ps : List Packet). ps ++ packet ∷ []) h.packets_are ∙ sym (reverse_more packet (map (λ (t : TakingFrom). t.packet) h.takings));
      read = (is, h.read);
      envelopes_are = ap (λ (es : List (Envelope FromSite)). with_some read es) h.envelopes_are;
    }

heard_as : (packets others : List Packet) (es fs : List (Envelope FromSite)) → others ≡ packets → fs ≡ es → HasHeardFrom packets es → HasHeardFrom others fs
heard_as packets others es fs same took h = subst (λ (ps : List Packet). HasHeardFrom ps fs) (sym same) (subst (λ (e : List (Envelope FromSite)). HasHeardFrom packets e) (sym took) h)

-- where no inlet gave a packet
pub heard_none : (turns : List CoordTurn) (old now : List Port) → ArePolled None old now → HaveHeard turns old → HaveHeard turns now
heard_none turns old now polled heard place port at = from (became (λ place a b. IsPolled (arrived_at None place) a b) old now polled place port at) where
  from : (before : Port) × (slice_get old place ≡ Some before) × IsPolled None before port → HasHeardFrom (taken port.ends.inlet) (took_from port.ends.site turns)
  from (before, was, is) =
      heard_as (taken before.ends.inlet) (taken port.ends.inlet) (took_from before.ends.site turns) (took_from port.ends.site turns) (is.took ∙ append-nil _) (ap (λ (s : SiteId). took_from s turns) is.beside.site) (heard place before was)

-- the port's inlet has taken what it had
pub record HasReturned (old new : Port) : Type 0 where
  pub site : new.ends.site ≡ old.ends.site
  pub took : taken new.ends.inlet ≡ taken old.ends.inlet

undone : (o : Option Packet) (xs ys : List Packet) → ys ++ option_to_list o ≡ xs ++ option_to_list o → ys ≡ xs
undone None xs ys e = sym (append-nil ys) ∙ e ∙ append-nil xs
undone (Some packet) xs ys e = snoc_same ys xs packet e

-- where the packet that came in was put back
pub all_returned : (arrived : Arrived) (before mid new : List Port) → ArePolled (Some arrived) before mid → ArePutBack arrived mid new → EachBecomes (λ place a c. HasReturned a c) before new
all_returned arrived before mid new polled back =
    becomes_through (λ place a b. IsPolled (arrived_at (Some arrived) place) a b) (λ place a b. IsPutBack (arrived_at (Some arrived) place) a b) (λ place a c. HasReturned a c) before mid new (λ p a b c is put. record {
      site = put.beside.site ∙ is.beside.site;
      took = undone (arrived_at (Some arrived) p) (taken a.ends.inlet) (taken c.ends.inlet) (sym put.took ∙ is.took);
    }) polled back

pub heard_back : (turns : List CoordTurn) (arrived : Arrived) (before mid new : List Port) → ArePolled (Some arrived) before mid → ArePutBack arrived mid new → HaveHeard turns before → HaveHeard turns new
heard_back turns arrived before mid new polled back heard place port at = from (became (λ place a c. HasReturned a c) before new (all_returned arrived before mid new polled back) place port at) where
  from : (a : Port) × (slice_get before place ≡ Some a) × HasReturned a port → HasHeardFrom (taken port.ends.inlet) (took_from port.ends.site turns)
  from (a, was, is) = heard_as (taken a.ends.inlet) (taken port.ends.inlet) (took_from a.ends.site turns) (took_from port.ends.site turns) is.took (ap (λ (s : SiteId). took_from s turns) is.site) (heard place a was)

-- where a packet came in and is read
pub heard_arrived : (turns more : List CoordTurn) (old now : List Port) (arrived : Arrived) (read : Option (Envelope FromSite)) → ArePolled (Some arrived) old now → HaveHeard turns old → IsReadFrom arrived.packet read
    → ((port : Port) → slice_get now arrived.place ≡ Some port → took_from port.ends.site more ≡ with_some read (took_from port.ends.site turns))
    → ((place : ℕ) (port : Port) → (place ≡ arrived.place → ⊥) → slice_get now place ≡ Some port → took_from port.ends.site more ≡ took_from port.ends.site turns) → HaveHeard more now
heard_arrived turns more old now arrived read polled heard is here elsewhere place port at = by_test (place == arrived.place) refl (became (λ place a b. IsPolled (arrived_at (Some arrived) place) a b) old now polled place port at) where
  by_test : (t : Bool) → (place == arrived.place) ≡ t → (before : Port) × (slice_get old place ≡ Some before) × IsPolled (arrived_at (Some arrived) place) before port → HasHeardFrom (taken port.ends.inlet) (took_from port.ends.site more)
  by_test true e (before, was, p) =
      let same : place ≡ arrived.place = eqb-true place arrived.place e in
      let gave : arrived_at (Some arrived) place ≡ Some arrived.packet = ap (arrived_at (Some arrived)) same ∙ arrived_here arrived in
      let took = p.took ∙ ap (λ (o : Option Packet). taken before.ends.inlet ++ option_to_list o) gave in
      let from = ap (λ (s : SiteId). with_some read (took_from s turns)) p.beside.site in
      heard_as (taken before.ends.inlet ++ arrived.packet ∷ []) (taken port.ends.inlet) (with_some read (took_from before.ends.site turns)) (took_from port.ends.site more) took
      (here port (ap (slice_get now) (sym same) ∙ at) ∙ from) (heard_next (taken before.ends.inlet) (took_from before.ends.site turns) arrived.packet read (heard place before was) is)
  by_test false e (before, was, p) =
      let apart : place ≡ arrived.place → ⊥ = λ s. (let yes : (place == arrived.place) ≡ true = eq-eqb place arrived.place s in let no : true ≡ false = sym yes ∙ e in cc) in
      let took = p.took ∙ ap (λ (o : Option Packet). taken before.ends.inlet ++ option_to_list o) (arrived_elsewhere arrived place apart) ∙ append-nil _ in
      heard_as (taken before.ends.inlet) (taken port.ends.inlet) (took_from before.ends.site turns) (took_from port.ends.site more) took
      (elsewhere place port apart at ∙ ap (λ (s : SiteId). took_from s turns) p.beside.site) (heard place before was)

-- one that is left aside
pub heard_aside : (turns : List CoordTurn) (old now : List Port) (arrived : Arrived) → ArePolled (Some arrived) old now → HaveHeard turns old → IsReadFrom arrived.packet None → HaveHeard turns now
heard_aside turns old now arrived polled heard none = heard_arrived turns turns old now arrived None polled heard none (λ port at. refl) (λ place port apart at. refl)

each_map : {A : Type 0} (P Q : A → Type 0) (xs : List A) → ((x : A) → P x → Q x) → Each P xs → Each Q xs
each_map P Q [] into each = tt
each_map P Q (x ∷ xs) into each = (into x each.0, each_map P Q xs into each.1)

rising_above : {A : Type 0} (number : A → ℕ) (x : A) (xs : List A) → IsRising number (x ∷ xs) → Each (λ (y : A). number x < number y) xs
rising_above number x [] rising = tt
rising_above number x (y ∷ ys) rising =
    (rising.0, each_map (λ z. number y < number z) (λ z. number x < number z) ys (λ z more. let less = rising.0 in omega (arith, less, more)) (rising_above number y ys rising.1))

rising_at : {A : Type 0} (number : A → ℕ) (xs : List A) (p q : ℕ) (a b : A) → IsRising number xs → p < q → slice_get xs p ≡ Some a → slice_get xs q ≡ Some b → number a < number b
rising_at number [] p q a b rising less ea eb = cc
rising_at number (x ∷ xs) p zero a b rising less ea eb = absurd (omega (arith, less))
rising_at {A} number (x ∷ xs) zero (suc q) a b rising less ea eb =
    subst (λ (y : A). number y < number b) (same_Some x a ea) (each_at_place (λ (y : A). number x < number y) xs q b (rising_above number x xs rising) eb)
rising_at number (x ∷ xs) (suc p) (suc q) a b rising less ea eb = rising_at number xs p q a b (rising_rest number x xs rising) (omega (arith, less)) ea eb

-- the sites at different places differ
sites_apart : (rings : List Wire) (plan : CoordPlan) (ports : List Port) → IsCoordPlanned rings plan ports → IsRising (λ (member : Participant). member.site.0) plan.terms.protocols
    → (p q : ℕ) (a b : Port) → (q ≡ p → ⊥) → slice_get ports p ≡ Some a → slice_get ports q ≡ Some b → a.ends.site.0 ≡ b.ends.site.0 → ⊥
sites_apart rings plan ports planned rising p q a b apart ea eb same = by_order (cases_lt p q) where
  first : IsPortPlanned rings plan p a
  first = planned.each p a ea

  second : IsPortPlanned rings plan q b
  second = planned.each q b eb

  numbers : first.member.site.0 ≡ second.member.site.0
  numbers = ap (λ (s : SiteId). s.0) (sym first.site) ∙ same ∙ ap (λ (s : SiteId). s.0) second.site

  by_order : (p < q) ⊎ (q ≤ p) → ⊥
  by_order (inl less) = let below = rising_at (λ (member : Participant). member.site.0) plan.terms.protocols p q first.member second.member rising less first.at second.at in omega (arith, below, numbers)
  by_order (inr most) =
      let below = rising_at (λ (member : Participant). member.site.0) plan.terms.protocols q p second.member first.member rising (by_less q p most apart) second.at first.at in omega (arith, below, numbers)
    where
      by_less : (q p : ℕ) → q ≤ p → (q ≡ p → ⊥) → q < p
      by_less q p most apart = grind (arith, most, apart)

-- one that is taken
pub heard_taken : (rings : List Wire) (plan : CoordPlan) (turn : CoordTurn) (turns : List CoordTurn) (old now : List Port) (arrived : Arrived) (envelope : Envelope FromSite) (from : Port) → IsCoordPlanned rings plan now
    → IsRising (λ (member : Participant). member.site.0) plan.terms.protocols → ArePolled (Some arrived) old now → HaveHeard turns old → BearsFrom arrived.packet envelope → slice_get now arrived.place ≡ Some from
    → turn.line.line.command ≡ Cmd.Take from.ends.site envelope.index → turn.took ≡ Some envelope → HaveHeard (turn ∷ turns) now
heard_taken rings plan turn turns old now arrived envelope from planned rising polled heard bears there command took =
    heard_arrived turns (turn ∷ turns) old now arrived (Some envelope) polled heard bears
    (λ port at. ap (λ (o : Option (Envelope FromSite)). with_some o (took_from port.ends.site turns)) (line_from port ∙ by_test (same_site from.ends.site port.ends.site) (same_here port at)))
    (λ place port apart at. ap (λ (o : Option (Envelope FromSite)). with_some o (took_from port.ends.site turns)) (line_from port ∙ by_other (same_site from.ends.site port.ends.site) (other_there place port apart at)))
  where
    line_from : (port : Port) → from_site port.ends.site turn.line.line.command turn.took ≡ cond (same_site from.ends.site port.ends.site) (Some envelope) None
    line_from port = ap (λ c. from_site port.ends.site c turn.took) command ∙ ap (λ (o : Option (Envelope FromSite)). cond (same_site from.ends.site port.ends.site) o None) took

    by_test : (b : Bool) → b ≡ true → cond b (Some envelope) None ≡ Some envelope
    by_test b e = ap (λ (t : Bool). cond t (Some envelope) None) e

    by_other : (b : Bool) → b ≡ false → cond b (Some envelope) None ≡ None
    by_other b e = ap (λ (t : Bool). cond t (Some envelope) None) e

    same_here : (port : Port) → slice_get now arrived.place ≡ Some port → same_site from.ends.site port.ends.site ≡ true
    same_here port at = let same = same_Some from port (sym there ∙ at) in eq-eqb from.ends.site.0 port.ends.site.0 (ap (λ (p : Port). p.ends.site.0) same)

    other_there : (place : ℕ) (port : Port) → (place ≡ arrived.place → ⊥) → slice_get now place ≡ Some port → same_site from.ends.site port.ends.site ≡ false
    other_there place port apart at = ne_eqb from.ends.site.0 port.ends.site.0 (sites_apart rings plan now planned rising arrived.place place from port apart there at)

-- an envelope is the only one that its packet spells
abbrev pub IsOnlyFrom : Packet → Option (Envelope FromSite) → Type 0
IsOnlyFrom packet decoded = (e : Envelope FromSite) → IsEnvelope IsFromSite e → Spells packet (envelope_bytes from_site_bytes e) → decoded ≡ Some e

-- a packet that spells none is left aside
pub unread_from : (packet : Packet) (decoded : Option (Envelope FromSite)) → IsOnlyFrom packet decoded → decoded ≡ None → IsReadFrom packet None
unread_from packet decoded only none = λ e bears. (let some = only e bears.in_range bears.spelled in cc)

-- so is one whose stamp is too great
pub late_from : (packet : Packet) (decoded : Option (Envelope FromSite)) (envelope : Envelope FromSite) → IsOnlyFrom packet decoded → decoded ≡ Some envelope → 2 ^ 62 ≤ envelope.stamp → IsReadFrom packet None
late_from packet decoded envelope only is late = λ e bears. (
    let some = only e bears.in_range bears.spelled in
    let same : envelope ≡ e = cc in
    let stamp = ap (λ (v : Envelope FromSite). v.stamp) same in
    let small = bears.small in
    omega (arith, late, stamp, small))
