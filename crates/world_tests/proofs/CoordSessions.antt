-- The coordinator of the tests, with its two sites, begins.
use Rattle.std.proofs.Common.{◌≡◌, ℕ, zero, suc, true, Some, List, [], ◌∷◌, ◌++◌, slice_get, refl, sym, ap, subst}
use Rattle.std.specs.Global.{Vec}
use Rattle.std.proofs.lemmas.Option.{same_Some}
use Rattle.mdb_base.specs.Words.{Each}
use Rattle.mdb_base.specs.declared.names.SiteId.{SiteId}
use Rattle.presumptions.specs.declared.Protocol.TheVariants as By
use Rattle.fed_rules.specs.declared.messages.ToSite.{ToSite}
use Rattle.fed_rules.specs.declared.scenario.StopLine.{StopLine}
use Rattle.fed_rules.specs.declared.scenario.TxLine.{TxLine}
use Rattle.fed_rules.specs.Policies.{Policy, always}
use Rattle.journal_disk.specs.Disk.{Seen}
use Rattle.global_manager.specs.declared.manager.GlobalManager.{GlobalManager}
use Rattle.global_manager.specs.Stands.{Stands, own_programs}
use Rattle.scripted_link.specs.declared.ring.Ends.{Ends}
use Rattle.scripted_link.specs.Rings.{Ring, Wire}
use Rattle.host_laws.specs.CoordPlans.{CoordPlan}
use Rattle.fed_hosts.specs.declared.ports.Port.{Port}
use Rattle.fed_hosts.specs.CoordHosts.{CanOpenCoord, IsNewPort}
use Rattle.fed_hosts.specs.CoordKeeps.{IsCoordPlanned, IsPortPlanned}
use Rattle.fed_hosts.specs.Keeps.{IsStop}
use Rattle.world_tests.specs.HostSessions.{AreNew, coord_plan_of, first_site, second_site, two_sites, wires_of}

-- what holds of the two items at their places holds of each
at_two : {A : Type 0} (P : ℕ → A → Type 0) (x z : A) → P 0 x → P 1 z → (place : ℕ) (y : A) → slice_get (x ∷ z ∷ []) place ≡ Some y → P place y
at_two P x z first second zero y at = subst (P 0) (same_Some x y at) first
at_two P x z first second (suc zero) y at = subst (P 1) (same_Some z y at) second
at_two P x z first second (suc (suc n)) y at = cc

-- the port of a site with these new rings, to which this was sent
abbrev pub port_between : SiteId → Ends × Ends → Vec ToSite → Port
port_between site rings sent = record { ends = record { site = site; inlet = rings.1.inlet; outlet = rings.0.outlet }; to = sent }

new_port : (site : SiteId) (rings : Ends × Ends) (sent : Vec ToSite) → AreNew rings → sent.items ≡ [] → IsNewPort (port_between site rings sent)
new_port site rings sent new none = record { sent_none = none; taken_none = new.1.taken_none; offered_none = new.0.offered_none }

module _ {P : Type 0} (test : P → Policy) (manager : GlobalManager P) (disk : Seen) (transactions : List TxLine) (stops : List StopLine) (coordinator : CoordPlan) (rings : List Wire) (first second : Ends × Ends) where
  pub coord_session_opens : coordinator ≡ coord_plan_of transactions stops disk.faults → rings ≡ wires_of first ++ wires_of second → AreNew first → AreNew second → Each (IsStop 0) stops
      → Stands test true manager disk (record { protocols = two_sites; policy = always }) (own_programs transactions) []
      → (ports : List Port) (sent more : Vec ToSite) → ports ≡ port_between first_site first sent ∷ port_between second_site second more ∷ [] → sent.items ≡ [] → more.items ≡ []
      → CanOpenCoord test true coordinator rings manager disk stops ports
  coord_session_opens named wires_are first_new second_new stops_of stood ports sent more ports_are none none_more =
      let plan : CoordPlan = coord_plan_of transactions stops disk.faults in
      let wires : List Wire = wires_of first ++ wires_of second in
      let one : Port = port_between first_site first sent in
      let two : Port = port_between second_site second more in
      let at_first : IsPortPlanned wires plan 0 one = record { member = record { site = first_site; protocol = By.Commit }; at = refl; site = refl; to = refl; from = ap (λ (r : Ring). Some r) (sym first_new.1.pair) } in
      let at_second : IsPortPlanned wires plan 1 two = record { member = record { site = second_site; protocol = By.Abort }; at = refl; site = refl; to = refl; from = ap (λ (r : Ring). Some r) (sym second_new.1.pair) } in
      let planned : IsCoordPlanned wires plan (one ∷ two ∷ []) = record { count = refl; each = at_two (λ place p. IsPortPlanned wires plan place p) one two at_first at_second; stops = stops_of } in
      let new : (place : ℕ) (port : Port) → slice_get (one ∷ two ∷ []) place ≡ Some port → IsNewPort port =
      at_two (λ place p. IsNewPort p) one two (new_port first_site first sent first_new none) (new_port second_site second more second_new none_more) in
      let opened : CanOpenCoord test true plan wires manager disk stops (one ∷ two ∷ []) = record { planned = planned; stops_are = refl; stood = stood; faults = refl; new = new } in
      subst (λ (p : CoordPlan). CanOpenCoord test true p rings manager disk stops ports) (sym named)
      (subst (λ (ws : List Wire). CanOpenCoord test true plan ws manager disk stops ports) (sym wires_are)
      (subst (λ (qs : List Port). CanOpenCoord test true plan wires manager disk stops qs) (sym ports_are) opened))
