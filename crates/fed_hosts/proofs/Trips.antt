-- When a stop has to be armed, and the line that arms it.
use Rattle.std.proofs.Common.{◌≡◌, ℕ, ◌≤◌, ◌<◌, ◌&&◌, Bool, true, false, cond, is_some, Some, None, List, [], ◌∷◌, length, refl, ap, ap₂, ◌∙◌, arith}
use Rattle.std.specs.Prelude.{is_none, nat_lt}
use Rattle.std.proofs.lemmas.Bool.{le-ltb, lt-ltb, ne_eqb}
use Rattle.fed_rules.specs.declared.events.SiteEvent.TheVariants as Ev
use Rattle.fed_rules.specs.Happenings.{Trip}
use Rattle.fed_rules.specs.Site.{site_line}
use Rattle.fed_rules.specs.SitePast.{SiteHappening, SitePast, trip}
use Rattle.site_core.proofs.ForCallers.{trip_is, trip_line}
use Rattle.host_laws.specs.Plans.{SitePlan}
use Rattle.host_laws.specs.Turns.{SiteTurn, is_due, past_of, trips_of}
use Rattle.fed_hosts.proofs.Words.{none_not, some_not}

-- where all stops were armed none has to be
pub none_left : (plan : SitePlan) (turns : List SiteTurn) → length plan.stops ≤ trips_of turns → is_due plan turns ≡ false
none_left plan [] all = refl
none_left plan (turn ∷ turns) all = from (is_none (trip (past_of plan (turn ∷ turns)))) where
  from : (b : Bool) → (b && nat_lt (trips_of (turn ∷ turns)) (length plan.stops)) ≡ false
  from true = le-ltb _ _ all
  from false = refl

-- nor where one is in force
pub one_set : (plan : SitePlan) (turns : List SiteTurn) → is_some (trip (past_of plan turns)) ≡ true → is_due plan turns ≡ false
one_set plan [] some = refl
one_set plan (turn ∷ turns) some = ap (λ (b : Bool). b && nat_lt (trips_of (turn ∷ turns)) (length plan.stops)) (none_not (trip (past_of plan (turn ∷ turns))) some)

set_some : (past : SitePast) (calls cut : ℕ) → 1 ≤ calls → is_some (trip (trip_line calls cut ∷ past)) ≡ true
set_some past calls cut one =
    let set : Trip = record { calls = calls; cut = cut } in
    ap (λ (b : Bool). is_some (cond b None (Some set))) (ne_eqb calls 0 (λ z. omega (arith, z, one)))

-- so none has to be behind the line that arms one
pub settles : (plan : SitePlan) (turns : List SiteTurn) (calls cut : ℕ) → 1 ≤ calls → (more : List SiteTurn)
    → past_of plan more ≡ site_line plan.home (past_of plan turns) (Ev.Trip calls cut) ∷ past_of plan turns → is_due plan more ≡ false
settles plan turns calls cut one more is =
    let past = past_of plan turns in
    one_set plan more (ap (λ (p : SitePast). is_some (trip p)) (is ∙ ap (λ (x : SiteHappening). x ∷ past) (trip_is plan.home past calls cut)) ∙ set_some past calls cut one)

-- one has to be armed behind a line after which none is in force, where one is left
pub one_due : (plan : SitePlan) (turns : List SiteTurn) → 1 ≤ length turns → is_some (trip (past_of plan turns)) ≡ false → trips_of turns < length plan.stops → is_due plan turns ≡ true
one_due plan [] some none less = absurd (omega arith)
one_due plan (turn ∷ turns) some none less =
    let quiet : is_none (trip (past_of plan (turn ∷ turns))) ≡ true = some_not (trip (past_of plan (turn ∷ turns))) none in
    let left : nat_lt (trips_of (turn ∷ turns)) (length plan.stops) ≡ true = lt-ltb _ _ less in
    ap₂ (λ (a b : Bool). a && b) quiet left
