-- The end of a session whose coordinator is down: a site in doubt presumes the outcome, or the coordinator's records keep the attempt and require the
-- site's acknowledgement of it.
use Rattle.std.proofs.Common.{◌≡◌, ◌⊎◌, ◌||◌, inl, inr, Bool, true, false, cond, Option, Some, None, List, [], ◌∷◌, refl, sym, ap, subst, ◌∙◌}
use Rattle.mdb_base.specs.declared.names.Tid.{Tid}
use Rattle.mdb_base.specs.Words.{Among, when}
use Rattle.presumptions.specs.declared.Participant.{Participant}
use Rattle.presumptions.specs.Table.{presumed}
use Rattle.fed_rules.specs.declared.commands.Command.{Command}
use Rattle.fed_rules.specs.declared.events.CoordEvent.{CoordEvent}
use Rattle.fed_rules.specs.declared.events.CoordEvent.TheVariants as Ev
use Rattle.fed_rules.specs.declared.scenario.Scenario.{Scenario}
use Rattle.fed_rules.specs.Coord.{coord_line, of_back}
use Rattle.fed_rules.specs.CoordPast as Coordinator
use Rattle.fed_rules.specs.CoordPast.{CoordHappening, CoordPast, Gone, disk, is_open, kept_decision, known_decision, standing, standing_of, trip, visits, program, is_about, opened, decided}
use Rattle.fed_rules.specs.CoordRecords.{coord_frame, is_kept, outcome, required}
use Rattle.fed_rules.specs.Disk.{after_calls}
use Rattle.fed_rules.specs.Happenings.{Trip, comes_up, is_down, stopped, stops, tripped}
use Rattle.fed_rules.specs.Policies.{Policy}
use Rattle.fed_rules.specs.Scenarios.{home_of, policy, protocols}
use Rattle.fed_rules.specs.SitePast.{records}
use Rattle.fed_rules.specs.SiteRecords.{Held, Home, doubt_of}
use Rattle.fed_rules.specs.Story.{coord_past, past_of, story_of}
use Rattle.coord_laws.specs.Pasts.{IsMadeByEvents}
use Rattle.coord_laws.proofs.ForCallers.{IsCalm, calm_standing, kept_standing, required_here}
use Rattle.commit_laws.specs.Forgetting.{PresumptionsAreRight}
use Rattle.commit_laws.proofs.ForCallers.{Agrees, Prepares, agreed, held-prepared, is-declared, member_of, presumed-or-kept, story_made}

-- a line that comes while the coordinator is down leaves it as it was, or brings it up or down
data WhileDown (x : CoordHappening) : Type 0 where
  Turned : (stops x.answer || comes_up x.answer) ≡ true → WhileDown x
  Stayed : x.calls ≡ [] → IsCalm x.answer → WhileDown x

down_when : (b : Bool) (x y : CoordHappening) → (b ≡ true → WhileDown x) → (b ≡ false → WhileDown y) → WhileDown (when b x y)
unfolding when
down_when true x y p q = p refl
down_when false x y p q = q refl

backs : (members : List Participant) (past : CoordPast) (t : Option Trip) → WhileDown (tripped coord_frame (disk past) t (of_back members past))
unfolding tripped stopped of_back
backs members past None = Turned refl
backs members past (Some t) = down_when _ _ _ (λ e. Turned refl) (λ e. Turned refl)

down_line : (members : List Participant) (policy : Policy) (past : CoordPast) (event : CoordEvent) → is_down past ≡ true → WhileDown (coord_line members policy past event)
unfolding coord_line
down_line members policy past (Ev.Trip calls cut) down = Stayed refl tt
down_line members policy past (Ev.Halt cut) down = down_when (is_down past) _ _ (λ e. Stayed refl tt) (λ e. (let clash : true ≡ false = sym down ∙ e in cc))
down_line members policy past Ev.Back down = down_when (is_down past) _ _ (λ e. backs members past (trip past)) (λ e. (let clash : true ≡ false = sym down ∙ e in cc))
down_line members policy past (Ev.Go tid steps) down = down_when (is_down past) _ _ (λ e. Stayed refl tt) (λ e. (let clash : true ≡ false = sym down ∙ e in cc))
down_line members policy past (Ev.Take site message) down = down_when (is_down past) _ _ (λ e. Stayed refl tt) (λ e. (let clash : true ≡ false = sym down ∙ e in cc))
down_line members policy past (Ev.Again tid) down = down_when (is_down past) _ _ (λ e. Stayed refl tt) (λ e. (let clash : true ≡ false = sym down ∙ e in cc))
down_line members policy past (Ev.Late tid) down = down_when (is_down past) _ _ (λ e. Stayed refl tt) (λ e. (let clash : true ≡ false = sym down ∙ e in cc))
down_line members policy past (Ev.Fate tx) down = down_when (is_down past) _ _ (λ e. Stayed refl tt) (λ e. (let clash : true ≡ false = sym down ∙ e in cc))
down_line members policy past Ev.Check down = down_when (is_down past) _ _ (λ e. Stayed refl tt) (λ e. (let clash : true ≡ false = sym down ∙ e in cc))

-- the standing behind a line that stops or starts the coordinator
anew : (members : List Participant) (past : CoordPast) (x : CoordHappening) (g : Tid) → (stops x.answer || comes_up x.answer) ≡ true
    → standing members (x ∷ past) g ≡ kept_standing members (Coordinator.records (x ∷ past)) g
anew members past x g e = by_test (stops x.answer || comes_up x.answer) e
  where
    by_test : (b : Bool) → b ≡ true
        → standing_of (cond b false (cond (is_about g x.event) (opened x.answer (is_open past g)) (is_open past g)))
        (cond b (kept_decision members (Coordinator.records (x ∷ past)) g) (cond (is_about g x.event) (decided x.answer (known_decision members past g)) (known_decision members past g)))
        ≡ kept_standing members (Coordinator.records (x ∷ past)) g
    by_test true e = refl
    by_test false e = cc

-- a coordinator that is down stands to an attempt as its records say
pub down_standing : (members : List Participant) (policy : Policy) (past : CoordPast) → IsMadeByEvents members policy past → is_down past ≡ true → (g : Tid)
    → standing members past g ≡ kept_standing members (Coordinator.records past) g
down_standing members policy [] made down g = cc
down_standing members policy (x ∷ past) (event, is, numbered, made) down g = by_down (is_down past) refl (λ was. down_standing members policy past made was g)
  where
    turned : (b c d : Bool) → d ≡ false → cond b true (cond c false d) ≡ true → (b || c) ≡ true
    turned true c d q e = refl
    turned false true d q e = cc
    turned false false d q e = (let clash : true ≡ false = sym e ∙ q in cc)

    by_down : (b : Bool) → is_down past ≡ b → (b ≡ true → standing members past g ≡ kept_standing members (Coordinator.records past) g)
        → standing members (x ∷ past) g ≡ kept_standing members (Coordinator.records (x ∷ past)) g
    by_down false q rest = anew members past x g (turned (stops x.answer) (comes_up x.answer) (is_down past) q down)
    by_down true q rest = by_line (subst WhileDown (sym is) (down_line members policy past event q))
      where
        by_line : WhileDown x → standing members (x ∷ past) g ≡ kept_standing members (Coordinator.records (x ∷ past)) g
        by_line (Turned e) = anew members past x g e
        by_line (Stayed silent calm) =
            calm_standing members g past x calm ∙ rest refl
            ∙ ap (λ cs. kept_standing members (after_calls coord_frame (disk past) cs).records g) (sym silent)

-- of a site in doubt where the coordinator is down
pub left_right : PresumptionsAreRight → (scenario : Scenario) (commands : List Command) → is_down (coord_past (story_of scenario commands)) ≡ true → (home : Home)
    → home_of scenario home.site ≡ Some home → (g : Tid) (held : Held) → doubt_of (records home (past_of home.site (story_of scenario commands))) g ≡ Some held
    → (presumed home.protocol ≡ outcome (Coordinator.records (coord_past (story_of scenario commands))) g)
    ⊎ ((is_kept (protocols scenario) (Coordinator.records (coord_past (story_of scenario commands))) g ≡ true)
    × Among (λ m. (m.site ≡ home.site) × (m.protocol ≡ home.protocol)) (required (protocols scenario) (Coordinator.records (coord_past (story_of scenario commands))) g
    (outcome (Coordinator.records (coord_past (story_of scenario commands))) g)))
left_right presumptions scenario commands down home declared g held doubt = by_kept (is_kept (protocols scenario) (Coordinator.records past) g) refl
  where
    past : CoordPast
    past = coord_past (story_of scenario commands)

    a : Agrees scenario home g (story_of scenario commands)
    a = agreed scenario home g commands declared

    stands : standing (protocols scenario) past g ≡ kept_standing (protocols scenario) (Coordinator.records past) g
    stands = down_standing (protocols scenario) (policy scenario) past (story_made scenario commands) down g

    prepares : Prepares scenario home g past held.epoch
    prepares = let p = a.prepared held.epoch (held-prepared (records home (past_of home.site (story_of scenario commands))) g held doubt) in a.preparing held.epoch p.0 p.1

    by_kept : (b : Bool) → is_kept (protocols scenario) (Coordinator.records past) g ≡ b
        → (presumed home.protocol ≡ outcome (Coordinator.records past) g)
        ⊎ ((is_kept (protocols scenario) (Coordinator.records past) g ≡ true)
        × Among (λ m. (m.site ≡ home.site) × (m.protocol ≡ home.protocol)) (required (protocols scenario) (Coordinator.records past) g (outcome (Coordinator.records past) g)))
    by_kept false q =
        inl (presumptions scenario commands home.site home declared g
        (stands ∙ ap (λ b. standing_of false (cond b (Some (outcome (Coordinator.records past) g)) None)) q) held doubt)
    by_kept true q = elim (presumed-or-kept scenario home g past held.epoch prepares) [
      | inl right ↦ inl right
      | inr (acking, recorded) ↦ inr (
        q,
        required_here (protocols scenario) (member_of home) g past (outcome (Coordinator.records past) g) (λ ms e. (a.sound.names ms e).1)
            (is-declared scenario home.site home declared).0 recorded acking prepares.visits,
      )
    ]
