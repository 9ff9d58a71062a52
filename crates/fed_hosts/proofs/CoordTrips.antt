-- When a stop of the coordinator has to be armed, and the line that arms it.
use Rattle.std.proofs.Common.{◌≡◌, ℕ, ◌≤◌, ◌<◌, ◌&&◌, Bool, true, false, cond, is_some, Some, None, List, [], ◌∷◌, length, refl, ap, ap₂, ◌∙◌, arith}
use Rattle.std.specs.Prelude.{is_none, nat_lt}
use Rattle.std.proofs.lemmas.Bool.{le-ltb, lt-ltb, ne_eqb}
use Rattle.fed_rules.specs.declared.answers.Answer.TheVariants as Say
use Rattle.fed_rules.specs.declared.events.CoordEvent.TheVariants as Ev
use Rattle.fed_rules.specs.CoordPast.{CoordHappening, CoordPast, trip}
use Rattle.fed_rules.specs.Happenings.{Trip, quiet}
use Rattle.coord_tables.specs.Terms.{line_of}
use Rattle.coord_core.proofs.ForCallers.{trip_line}
use Rattle.host_laws.specs.CoordPlans.{CoordPlan}
use Rattle.host_laws.specs.CoordTurns.{CoordTurn, coord_is_due, coord_past_of, coord_trips_of}
use Rattle.fed_hosts.proofs.Words.{none_not, some_not}

-- where all stops were armed none has to be
pub coord_none_left : (plan : CoordPlan) (turns : List CoordTurn) → length plan.stops ≤ coord_trips_of turns → coord_is_due plan turns ≡ false
coord_none_left plan [] all = refl
coord_none_left plan (turn ∷ turns) all = from (is_none (trip (coord_past_of plan (turn ∷ turns)))) where
  from : (b : Bool) → (b && nat_lt (coord_trips_of (turn ∷ turns)) (length plan.stops)) ≡ false
  from true = le-ltb _ _ all
  from false = refl

-- nor where one is in force
pub coord_one_set : (plan : CoordPlan) (turns : List CoordTurn) → is_some (trip (coord_past_of plan turns)) ≡ true → coord_is_due plan turns ≡ false
coord_one_set plan [] some = refl
coord_one_set plan (turn ∷ turns) some =
    ap (λ (b : Bool). b && nat_lt (coord_trips_of (turn ∷ turns)) (length plan.stops)) (none_not (trip (coord_past_of plan (turn ∷ turns))) some)

set_some : (past : CoordPast) (calls cut : ℕ) → 1 ≤ calls → is_some (trip (quiet (Ev.Trip calls cut) Say.Set ∷ past)) ≡ true
set_some past calls cut one =
    let set : Trip = record { calls = calls; cut = cut } in
    ap (λ (b : Bool). is_some (cond b None (Some set))) (ne_eqb calls 0 (λ z. omega (arith, z, one)))

-- so none has to be behind the line that arms one
pub coord_settles : (plan : CoordPlan) (turns : List CoordTurn) (calls cut : ℕ) → 1 ≤ calls → (more : List CoordTurn)
    → coord_past_of plan more ≡ line_of plan.terms (coord_past_of plan turns) (Ev.Trip calls cut) ∷ coord_past_of plan turns → coord_is_due plan more ≡ false
coord_settles plan turns calls cut one more is =
    let past = coord_past_of plan turns in
    coord_one_set plan more (ap (λ (p : CoordPast). is_some (trip p)) (is ∙ ap (λ (x : CoordHappening). x ∷ past) (trip_line plan.terms past calls cut)) ∙ set_some past calls cut one)

-- one has to be armed behind a line after which none is in force, where one is left
pub coord_one_due : (plan : CoordPlan) (turns : List CoordTurn) → 1 ≤ length turns → is_some (trip (coord_past_of plan turns)) ≡ false → coord_trips_of turns < length plan.stops → coord_is_due plan turns ≡ true
coord_one_due plan [] some none less = absurd (omega arith)
coord_one_due plan (turn ∷ turns) some none less =
    let quiet : is_none (trip (coord_past_of plan (turn ∷ turns))) ≡ true = some_not (trip (coord_past_of plan (turn ∷ turns))) none in
    let left : nat_lt (coord_trips_of (turn ∷ turns)) (length plan.stops) ≡ true = lt-ltb _ _ less in
    ap₂ (λ (a b : Bool). a && b) quiet left
