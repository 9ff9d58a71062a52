-- What a run leaves, from what its seats held.
use Rattle.std.proofs.Common.{◌≡◌, ℕ, ◌-◌, ◌<◌, ◌≤◌, inr, Bool, true, false, IfErr, IfOk, Option, Result, Some, None, List, [], ◌∷◌, ◌++◌, length, map, slice_get, refl, sym, ap, ◌∙◌, subst, arith}
use Rattle.std.specs.Global.{Vec}
use Rattle.std.specs.Prelude.{nat_le}
use Rattle.std.proofs.lemmas.Bool.{leb-false, leb-true}
use Rattle.std.proofs.lemmas.List.{length-map, map-append}
use Rattle.std.proofs.lemmas.Option.{slice_get_past}
use Rattle.std.proofs.lemmas.Result.{IfErr-weaker, IfOk-weaker}
use Rattle.mdb_base.specs.declared.names.SiteId.{SiteId}
use Rattle.mdb_base.proofs.ForCallers.{slice_get-there}
use Rattle.fed_rules.specs.declared.scenario.Scenario.{Scenario}
use Rattle.fed_rules.specs.Scenarios.{home_of, sites}
use Rattle.fed_rules.specs.SiteRecords.{Home}
use Rattle.journal_disk.specs.Disk.{Seen}
use Rattle.any_engine.specs.declared.engine.AnyEngine.{AnyEngine}
use Rattle.any_engine.specs.Stands as Engines
use Rattle.conservative_take.specs.declared.any_policy.AnyPolicy.{AnyPolicy}
use Rattle.conservative_take.specs.AnyPolicies.{policy_is}
use Rattle.scripted_link.specs.Rings.{Wire}
use Rattle.fed_world.specs.declared.world.World.{World}
use Rattle.fed_world.specs.Faults.{faults_of}
use Rattle.fed_world.proofs.ForCallers.{has_item, home_at_place, mapped_at}
use Rattle.host_laws.specs.CoordPlans.{CoordPlan}
use Rattle.host_laws.specs.Plans.{SitePlan}
use Rattle.fed_hosts.specs.declared.coord_parts.CoordParts.{CoordParts}
use Rattle.fed_hosts.specs.declared.parts.SiteParts.{SiteParts}
use Rattle.fed_hosts.specs.CoordHosts.{IsHeldCoord}
use Rattle.fed_hosts.specs.Hosts.{IsHeld}
use Rattle.federation_run.specs.declared.wired.WiredActors.{WiredActors}
use Rattle.federation_run.specs.declared.wired.WiredSite.{WiredSite}
use Rattle.federation_run.specs.declared.errors.RunErr.{RunErr}
use Rattle.federation_run.specs.declared.errors.RunErr.TheVariants as Err_is
use Rattle.federation_run.specs.declared.lefts.CoordLeft.{CoordLeft}
use Rattle.federation_run.specs.declared.lefts.Left.{Left}
use Rattle.federation_run.specs.declared.lefts.SiteLeft.{SiteLeft}
use Rattle.federation_run.specs.declared.seats.Seat.{Seat}
use Rattle.federation_run.specs.declared.seats.Seat.TheVariants.{Hosted, Idle}
use Rattle.federation_run.specs.Wired.{AreWiredActors}
use Rattle.federation_run.specs.Lefts.{AreBack, AreHeldAt, HasLeft, HasRisenFrom, IsIdle, IsLeft, coord_parts_of, itself, parts_of}
use Rattle.federation_run.specs.Plans.{coord_plan, site_plans, wires_of}
use Rattle.federation_run.specs.Running.{EndsBadly, HasRun, StopsBadly}
use Rattle.federation_run.specs.Seats.{AreSeats, IsSeat}
use Rattle.federation_run.proofs.Opened.{counted, scripted}
use Rattle.federation_run.proofs.Places.{at_end}

-- what a host leaves, seen with its disk as contracts see it
pub held_seen : {D : Type 0} (tells : Bool) (seen : D → Seen) (plans : List SitePlan) (rings : List Wire) (parts : SiteParts AnyEngine D) (left : SiteLeft)
    → parts.dbms ≡ left.dbms → parts.lines ≡ left.lines → parts.sent ≡ left.sent → parts.ends ≡ left.ends → parts.failed ≡ left.failed
    → IsHeld Engines.Stands tells seen plans rings parts → IsHeld Engines.Stands tells itself plans rings (parts_of left (seen parts.disk))
held_seen tells seen plans rings parts left dbms lines sent ends failed h =
    let same : parts_of left (seen parts.disk) ≡ record { dbms = parts.dbms; disk = seen parts.disk; lines = parts.lines; sent = parts.sent; ends = parts.ends; failed = parts.failed } = cc in
    subst (λ (p : SiteParts AnyEngine Seen). IsHeld Engines.Stands tells itself plans rings p) (sym same) (record {
      plan = h.plan;
      turns = h.turns;
      planned = h.planned;
      right = h.right;
      lines = h.lines;
      rise = h.rise;
      sent = h.sent;
      offers = h.offers;
      moved_on = h.moved_on;
      heard = h.heard;
      short = h.short;
      few = h.few;
      settled = h.settled;
      standing = h.standing;
      faults = h.faults;
    })

-- so of the coordinator's
pub held_coord_seen : {D : Type 0} (tells : Bool) (seen : D → Seen) (plan : CoordPlan) (rings : List Wire) (parts : CoordParts AnyPolicy D) (left : CoordLeft)
    → parts.manager ≡ left.manager → parts.lines ≡ left.lines → parts.ports ≡ left.ports → parts.failed ≡ left.failed
    → IsHeldCoord policy_is tells seen plan rings parts → IsHeldCoord policy_is tells itself plan rings (coord_parts_of left (seen parts.disk))
held_coord_seen tells seen plan rings parts left manager lines ports failed h =
    let same : coord_parts_of left (seen parts.disk) ≡ record { manager = parts.manager; disk = seen parts.disk; lines = parts.lines; ports = parts.ports; failed = parts.failed } = cc in
    subst (λ (p : CoordParts AnyPolicy Seen). IsHeldCoord policy_is tells itself plan rings p) (sym same) (record {
      turns = h.turns;
      planned = h.planned;
      right = h.right;
      lines = h.lines;
      rise = h.rise;
      ports = h.ports;
      moved_on = h.moved_on;
      heard = h.heard;
      short = h.short;
      few = h.few;
      settled = h.settled;
      standing = h.standing;
      faults = h.faults;
    })

-- the disk of a site that isn't declared is back
pub idle_back : {D N : Type 0} (tells : Bool) (seen : D → Seen) (scenario : Scenario) (actors : WiredActors) (old : List D) (new : List Seen) (seats : List (Seat D N)) → AreWiredActors tells (map seen old) scenario actors → length old ≡ 9 → length new ≡ 9
    → AreSeats actors.wired_sites.items old seats → AreBack seen seats new → (site : SiteId) → 1 ≤ site.0 → home_of scenario site ≡ None → slice_get new site.0 ≡ slice_get (map seen old) site.0
idle_back {D} {N} tells seen scenario actors old new seats c nine nine_new s back site least none = by_range (nat_le site.0 8) refl
  where
    index : ℕ
    index = 8 - site.0

    of_seat : site.0 ≤ 8 → (seat : Seat D N) → slice_get seats index ≡ Some seat → (disk : D) → slice_get old site.0 ≡ Some disk → IsSeat site.0 actors.wired_sites.items disk seat → slice_get new site.0 ≡ slice_get (map seen old) site.0
    of_seat most (Hosted host) at disk there has =
        let z = has_item (sites scenario) actors.wired_sites.items has.place has.wired (sym c.wired_count) has.at in
        let port = has_item actors.ports.items (sites scenario) has.place z.0 c.ports_count z.1 in
        let home = home_at_place scenario z.0 has.place z.1 in
        let named : z.0 ≡ site = sym (c.ringed has.place z.0 has.wired port.0 z.1 has.at port.1).at_site ∙ ap (λ (n : ℕ). let q : SiteId = record { 0 = n } in q) has.site in
        let both : None ≡ Some home.0 = sym none ∙ (ap (λ (q : SiteId). home_of scenario q) (sym named) ∙ home.1) in
        cc
    of_seat most (Idle other) at disk there same =
        subst (λ (n : ℕ). slice_get new n ≡ Some (seen other)) (omega (arith, most)) (back index other at) ∙ (ap (λ (d : D). Some (seen d)) same ∙ sym (mapped_at seen old site.0 disk there))

    by_range : (b : Bool) → nat_le site.0 8 ≡ b → slice_get new site.0 ≡ slice_get (map seen old) site.0
    by_range false is =
        let more = leb-false site.0 8 is in
        slice_get_past new site.0 (omega (arith, more, nine_new)) ∙ sym (slice_get_past (map seen old) site.0 (let e = length-map old seen in omega (arith, more, nine, e)))
    by_range true is =
        let most = leb-true site.0 8 is in
        let seat = slice_get-there seats index (let e = s.count in omega (arith, e, least)) in
        let disk = slice_get-there old site.0 (omega (arith, nine, most)) in
        let number : 8 - index ≡ site.0 = omega (arith, most) in
        of_seat most seat.0 seat.1 disk.0 disk.1 (subst (λ (n : ℕ). IsSeat n actors.wired_sites.items disk.0 seat.0) number (s.each index seat.0 disk.0 seat.1 (subst (λ (n : ℕ). slice_get old n ≡ Some disk.0) (sym number) disk.1)))

-- what is left of a site's host that was taken apart
abbrev left_of : {D : Type 0} → ℕ → SiteParts AnyEngine D → SiteLeft
left_of actor parts = record { actor = actor; dbms = parts.dbms; lines = parts.lines; sent = parts.sent; ends = parts.ends; failed = parts.failed }

-- and of the coordinator's
abbrev coord_left_of : {D : Type 0} → CoordParts AnyPolicy D → CoordLeft
coord_left_of parts = record { manager = parts.manager; lines = parts.lines; ports = parts.ports; failed = parts.failed }

-- the disk of a seat goes behind the others
pub seen_behind : {D : Type 0} (seen : D → Seen) (disks behind : List D) (disk : D) → behind ≡ disks ++ disk ∷ [] → map seen behind ≡ map seen disks ++ seen disk ∷ []
seen_behind seen disks behind disk is = ap (λ (ds : List _). map seen ds) is ∙ map-append seen disks (disk ∷ [])

-- a host that is taken out of its seat
pub host_out : {D : Type 0} (tells : Bool) (seen : D → Seen) (plans : List SitePlan) (rings : List Wire) (parts : SiteParts AnyEngine D) (actor : ℕ) (disks behind : List D) (lefts more : List SiteLeft)
    → actor ≡ length disks → behind ≡ disks ++ parts.disk ∷ [] → more ≡ lefts ++ left_of actor parts ∷ [] → IsHeld Engines.Stands tells seen plans rings parts
    → HasRisenFrom tells plans rings (map seen disks) (map seen behind) lefts more
host_out tells seen plans rings parts actor disks behind lefts more actor_is disks_are lefts_are h = record {
  disk = seen parts.disk;
  left = left_of actor parts;
  disks_are = seen_behind seen disks behind parts.disk disks_are;
  lefts_are = lefts_are;
  actor = actor_is ∙ sym (length-map disks seen);
  held = held_seen tells seen plans rings parts (left_of actor parts) refl refl refl refl refl h;
}

-- the one disk behind none stands first
pub alone_first : {D : Type 0} (none all : List D) (disk : D) → length none ≡ 0 → all ≡ none ++ disk ∷ [] → slice_get all 0 ≡ Some disk
alone_first {D} none all disk empty is =
    subst (λ (n : ℕ). slice_get all n ≡ Some disk) empty (subst (λ (ds : List D). slice_get ds (length none) ≡ Some disk) (sym is) (at_end none disk))

-- what the hosts of the wired actors leave, from the parts of the coordinator's and what the seats gave
pub has_left : {D N : Type 0} (tells : Bool) (seen : D → Seen) (scenario : Scenario) (plans : List SitePlan) (plan : CoordPlan) (rings : List Wire) (actors : WiredActors) (old none one new : List D) (seats : List (Seat D N)) (parts : CoordParts AnyPolicy D) (lefts : Vec SiteLeft)
    → AreWiredActors tells (map seen old) scenario actors → length old ≡ 9 → length none ≡ 0 → one ≡ none ++ parts.disk ∷ [] → length new ≡ 9 → slice_get (map seen new) 0 ≡ slice_get (map seen one) 0
    → IsHeldCoord policy_is tells seen plan rings parts → AreHeldAt tells plans rings (map seen new) lefts.items → AreSeats actors.wired_sites.items old seats → AreBack seen seats (map seen new)
    → HasLeft tells scenario plans plan rings (map seen old) (map seen new) (record { coordinator = coord_left_of parts; sites = lefts })
has_left tells seen scenario plans plan rings actors old none one new seats parts lefts c nine empty one_is nine_new first held held_sites seated back = record {
  nine = length-map new seen ∙ nine_new;
  coordinator = record {
    disk = seen parts.disk;
    own = first ∙ mapped_at seen one 0 parts.disk (alone_first none one parts.disk empty one_is);
    held = held_coord_seen tells seen plan rings parts (coord_left_of parts) refl refl refl refl held;
  };
  sites_are = held_sites;
  others = idle_back tells seen scenario actors old (map seen new) seats c nine (length-map new seen ∙ nine_new) seated back;
}

-- what the hosts of the wired actors left is what is settled
pub is_left : (tells : Bool) (scenario : Scenario) (old new : List Seen) (actors : WiredActors) (left : Left) → AreWiredActors tells old scenario actors
    → HasLeft tells scenario (site_plans scenario (faults_of old)) (coord_plan scenario (faults_of old)) (wires_of actors.ports.items actors.wired_sites.items) old new left → IsLeft tells (faults_of old) new scenario left
is_left tells scenario old new actors left c h = record {
  rings = wires_of actors.ports.items actors.wired_sites.items;
  scripted = scripted tells old scenario actors c (site_plans scenario (faults_of old)) (coord_plan scenario (faults_of old)) (wires_of actors.ports.items actors.wired_sites.items) (record { sites_are = refl; coordinator_is = refl; rings_are = refl });
  counted = length-map old (λ (d : Seen). d.faults) ∙ c.others.nine;
  nine = h.nine;
  coordinator = h.coordinator;
  sites_are = h.sites_are;
  others = λ site disk least none at. idle site disk least none (sym (h.others site least none) ∙ at);
}
  where
    idle : (site : SiteId) (disk : Seen) → 1 ≤ site.0 → home_of scenario site ≡ None → slice_get old site.0 ≡ Some disk → IsIdle (faults_of old) site.0 disk
    idle site disk least none at = record { empty = c.others.others site disk least none at; calm = counted old site.0 disk at }

-- a run that comes to its end without its world ends badly
pub ends_badly : (tells : Bool) (old new : List Seen) (scenario : Scenario) (why : RunErr) → StopsBadly (faults_of old) new scenario why → EndsBadly tells old new scenario why
ends_badly tells old new scenario Err_is.Memory stopped = tt
ends_badly tells old new scenario (Err_is.Disk number lines) stopped = inr stopped

module _ (tells : Bool) (old disks new : List Seen) (scenario own : Scenario) (counts_are : faults_of disks ≡ faults_of old) (own_is : own ≡ scenario) (left : Left) (l : IsLeft tells (faults_of disks) new own left) (result : Result World RunErr) where
  -- what has run over the actors of a new world is a run of its scenario
  pub has_run_since : IfOk result (λ world. (tells : Bool) (counts : List ℕ) (disks : List Seen) → IsLeft tells counts disks own left → HasRun tells counts disks own world)
      → IfOk result (HasRun tells (faults_of old) new scenario)
  has_run_since ran =
      subst (λ (n : List ℕ). IfOk result (HasRun tells n new scenario)) counts_are (subst (λ (z : Scenario). IfOk result (HasRun tells (faults_of disks) new z)) own_is
      (IfOk-weaker result (λ world. (tells : Bool) (counts : List ℕ) (disks : List Seen) → IsLeft tells counts disks own left → HasRun tells counts disks own world) (HasRun tells (faults_of disks) new own)
      (λ world f. f tells (faults_of disks) new l) ran))

  -- and what stops it ends badly
  pub ends_badly_since : IfErr result (λ why. (tells : Bool) (counts : List ℕ) (disks : List Seen) → IsLeft tells counts disks own left → StopsBadly counts disks own why)
      → IfErr result (EndsBadly tells old new scenario)
  ends_badly_since stopped =
      IfErr-weaker result (StopsBadly (faults_of old) new scenario) (EndsBadly tells old new scenario) (ends_badly tells old new scenario)
      (subst (λ (n : List ℕ). IfErr result (StopsBadly n new scenario)) counts_are (subst (λ (z : Scenario). IfErr result (StopsBadly (faults_of disks) new z)) own_is
      (IfErr-weaker result (λ why. (tells : Bool) (counts : List ℕ) (disks : List Seen) → IsLeft tells counts disks own left → StopsBadly counts disks own why) (StopsBadly (faults_of disks) new own)
      (λ why f. f tells (faults_of disks) new l) stopped)))
