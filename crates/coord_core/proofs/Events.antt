-- What a coordinator answers to the events that change nothing, or stop it.
use Rattle.std.proofs.Common.{◌≡◌, ℕ, Bool, true, false, None, List, [], ◌∷◌, length, refl, sym, ap, subst, ◌∙◌}
use Rattle.mdb_base.specs.Words.{when}
use Rattle.presumptions.specs.declared.Participant.{Participant}
use Rattle.fed_rules.specs.declared.answers.Answer.{Answer}
use Rattle.fed_rules.specs.declared.answers.Answer.TheVariants as Say
use Rattle.fed_rules.specs.declared.events.CoordEvent.{CoordEvent}
use Rattle.fed_rules.specs.declared.events.CoordEvent.TheVariants as Ev
use Rattle.fed_rules.specs.declared.events.CoordStep.{CoordStep}
use Rattle.mdb_base.specs.declared.names.Tx.{Tx}
use Rattle.fed_rules.specs.declared.records.CoordRecord.{CoordRecord}
use Rattle.fed_rules.specs.Disk.{Call, Stops}
use Rattle.fed_rules.specs.Happenings.{is_down, quiet, set}
use Rattle.fed_rules.specs.Coord.{answered, coord_line, of_fate, unless_tripped}
use Rattle.fed_rules.specs.CoordPast.{CoordHappening, CoordPast, message_tid, trip_of}
use Rattle.fed_rules.specs.CoordPast as Past
use Rattle.fed_rules.specs.CoordRecords.{coord_frame}
use Rattle.fed_rules.specs.Policies.{Policy}
use Rattle.fed_rules.specs.Right.{MayPrint}
use Rattle.coord_laws.specs.Pasts.{IsNumbered}
use Rattle.journal_disk.specs.Disk.{Seen}
use Rattle.journal_disk.proofs.ForCallers.{no_call}
use Rattle.actor_store.specs.declared.store.Standing.TheVariants.{Up}
use Rattle.actor_store.specs.Store.{Passes, StopsWith, is_up, trip_to}
use Rattle.actor_store.proofs.ForCallers.{passes_none, trip_to-armed, trip_to-rules}
use Rattle.coord_core.specs.declared.coord.CoordCore.{CoordCore}
use Rattle.coord_tables.specs.Terms.{IsUsual, Terms, answer_of, line_of}
use Rattle.coord_core.specs.Found.{was_found}
use Rattle.coord_core.specs.Stands.{Stands, Steps, beside_rules}
use Rattle.coord_core.specs.Steps.{CanStep, Says}
use Rattle.coord_core.specs.Store.{Keeps}
use Rattle.coord_tables.specs.Trees.{noted}
use Rattle.coord_tables.proofs.ForCallers.{IsCalm, fate_calm, quiet_calm, uncounted_calm}
use Rattle.coord_core.proofs.CalledLaws.{called_quiet, none_awake, none_beside, steps_beside}
use Rattle.coord_core.proofs.Endings.{halt_line, passes_is, stop_prints, trip_line, usual_line, usual_sets}
use Rattle.coord_core.proofs.Still.{stands_calm, stands_stop, down_is, up_is}

-- the answer of a line that says nothing new is printed as it is
calm_prints : (protocols : List Participant) (past : CoordPast) (x : CoordHappening) (event : CoordEvent) → IsCalm x → MayPrint protocols past x event x.answer
calm_prints protocols past x (Ev.Take site message) c = c.prints protocols past x (message_tid message)
calm_prints protocols past x (Ev.Go tid steps) c = refl
calm_prints protocols past x (Ev.Again tid) c = refl
calm_prints protocols past x (Ev.Late tid) c = refl
calm_prints protocols past x (Ev.Fate tx) c = refl
calm_prints protocols past x (Ev.Halt cut) c = refl
calm_prints protocols past x (Ev.Trip calls cut) c = refl
calm_prints protocols past x Ev.Back c = refl
calm_prints protocols past x Ev.Check c = refl

pub prints_same : (protocols : List Participant) (past : CoordPast) (x : CoordHappening) (event : CoordEvent) (answer : Answer) → IsCalm x → answer ≡ x.answer → MayPrint protocols past x event answer
prints_same protocols past x event answer c e = subst (λ (a : Answer). MayPrint protocols past x event a) (sym e) (calm_prints protocols past x event c)

-- while it is down it answers so to all events but a trip and a start
pub down_line : (terms : Terms) (past : CoordPast) (event : CoordEvent) → ((calls cut : ℕ) → event ≡ Ev.Trip calls cut → ⊥) → (event ≡ Ev.Back → ⊥) → is_down past ≡ true
    → (line_of terms past event ≡ quiet event Say.Down) × (trip_of event ≡ None)
unfolding coord_line when
down_line terms past (Ev.Go tid steps) not_trip not_back d = (rw d refl, refl)
down_line terms past (Ev.Take site message) not_trip not_back d = (rw d refl, refl)
down_line terms past (Ev.Again tid) not_trip not_back d = (rw d refl, refl)
down_line terms past (Ev.Late tid) not_trip not_back d = (rw d refl, refl)
down_line terms past (Ev.Fate tx) not_trip not_back d = (rw d refl, refl)
down_line terms past (Ev.Halt cut) not_trip not_back d = (rw d refl, refl)
down_line terms past (Ev.Trip calls cut) not_trip not_back d = absurd (not_trip calls cut refl)
down_line terms past Ev.Back not_trip not_back d = absurd (not_back refl)
down_line terms past Ev.Check not_trip not_back d = (rw d refl, refl)

awake_line : (terms : Terms) (past : CoordPast) → is_down past ≡ false → line_of terms past Ev.Back ≡ quiet Ev.Back Say.Awake
unfolding coord_line when
awake_line terms past up = rw up refl

-- an event that may come is numbered
pub can_numbered : (event : CoordEvent) (terms : Terms) (past : CoordPast) → CanStep event terms past → IsNumbered past event
can_numbered (Ev.Go tid steps) terms past can = can.next
can_numbered (Ev.Take site message) terms past can = tt
can_numbered (Ev.Again tid) terms past can = tt
can_numbered (Ev.Late tid) terms past can = tt
can_numbered (Ev.Fate tx) terms past can = tt
can_numbered (Ev.Halt cut) terms past can = tt
can_numbered (Ev.Trip calls cut) terms past can = tt
can_numbered Ev.Back terms past can = tt
can_numbered Ev.Check terms past can = tt

module _ {P : Type 0} (test : P → Policy) (tells : Bool) where
  -- a line that says nothing new, on the same disk
  still_steps : (step : CoordStep) (old new : CoordCore P) (seen : Seen) (terms : Terms) (past : CoordPast) (event : CoordEvent) (x : CoordHappening)
      → Stands test tells old seen terms past → line_of terms past event ≡ x → x.event ≡ event → IsNumbered past event → trip_of event ≡ None → IsCalm x → Says step x
      → new ≡ old → Steps test tells 0 seen step new seen terms past (line_of terms past event)
  still_steps step old new seen terms past event x k is heard numbered no_trip c says same =
      let stood = stands_calm test tells old old seen terms past event x old.store.trip k is heard numbered c refl refl refl refl refl
      (k.holds.trip ∙ sym (ap (λ o. set o (Past.trip past)) no_trip)) k.holds.armed in
      let S : CoordCore P → CoordHappening → Type 0 = λ core y. Steps test tells 0 seen step core seen terms past y in
      subst (λ y. S new y) (sym is) (subst (λ core. S core x) (sym same)
      (record { answer = prints_same terms.protocols past x x.event step.answer c says.answer; sends = says.sends; stood = stood; called = called_quiet x.calls seen seen c.calls refl }))

  -- such a line of a coordinator that is up
  pub calm_steps : (step : CoordStep) (old new : CoordCore P) (seen : Seen) (terms : Terms) (past : CoordPast) (event : CoordEvent) (x : CoordHappening)
      → Stands test tells old seen terms past → old.store.standing ≡ Up → CanStep event terms past → IsUsual event → answer_of terms past event ≡ x → x.event ≡ event → IsCalm x → Says step x
      → new ≡ old → Steps test tells 0 seen step new seen terms past (line_of terms past event)
  calm_steps step old new seen terms past event x k up can usual is heard c says same =
      let down = up_is test tells old terms past k.holds up in
      let passes : Passes (Past.trip past) 0 = subst (λ t. Passes t 0) k.holds.trip (passes_none old.store.trip k.holds.armed) in
      let Q : List _ → Type 0 = λ (cs : List (Call CoordRecord)). Passes (Past.trip past) (length cs) in
      let line = usual_line terms past event usual down ∙ ap (unless_tripped past) is ∙ passes_is past x (subst Q (sym c.calls) passes) in
      still_steps step old new seen terms past event x k line heard (can_numbered event terms past can) (usual_sets event usual) c says same

  pub fate_steps : (step : CoordStep) (old new : CoordCore P) (seen : Seen) (terms : Terms) (past : CoordPast) (event : CoordEvent) (tx : Tx)
      → event ≡ Ev.Fate tx → Stands test tells old seen terms past → old.store.standing ≡ Up → Says step (of_fate past tx) → new ≡ old
      → Steps test tells (beside_rules event old seen) seen step new seen terms past (line_of terms past event)
  unfolding answered
  fate_steps step old new seen terms past event tx is k up says same =
      let c = fate_calm past tx in
      let F : CoordEvent → Type 0 = λ e. Steps test tells (beside_rules e old seen) seen step new seen terms past (line_of terms past e) in
      subst F (sym is) (calm_steps step old new seen terms past (Ev.Fate tx) (of_fate past tx) k up tt tt refl c.1 c.0 says same)

  -- a start of a coordinator that is up
  pub awake_steps : (step : CoordStep) (old new : CoordCore P) (seen : Seen) (terms : Terms) (past : CoordPast) (event : CoordEvent)
      → event ≡ Ev.Back → Stands test tells old seen terms past → old.store.standing ≡ Up → step.answer ≡ Say.Awake → step.sends ≡ [] → new ≡ old
      → Steps test tells (beside_rules event old seen) seen step new seen terms past (line_of terms past event)
  awake_steps step old new seen terms past event is k up said silent same =
      let F : CoordEvent → Type 0 = λ e. Steps test tells (beside_rules e old seen) seen step new seen terms past (line_of terms past e) in
      subst F (sym is) (steps_beside test tells seen 0 (beside_rules Ev.Back old seen) step new seen terms past _ (sym (none_awake old seen up))
      (still_steps step old new seen terms past Ev.Back (quiet Ev.Back Say.Awake) k (awake_line terms past (up_is test tells old terms past k.holds up)) refl tt refl
      (quiet_calm Ev.Back Say.Awake tt tt) (record { answer = said; sends = silent }) same))

  -- an event while it is down
  pub down_steps : (step : CoordStep) (old new : CoordCore P) (seen : Seen) (terms : Terms) (past : CoordPast) (event : CoordEvent)
      → ((calls cut : ℕ) → event ≡ Ev.Trip calls cut → ⊥) → (event ≡ Ev.Back → ⊥) → Stands test tells old seen terms past → CanStep event terms past → is_up old.store.standing ≡ false
      → step.answer ≡ Say.Down → step.sends ≡ [] → new ≡ old → Steps test tells (beside_rules event old seen) seen step new seen terms past (line_of terms past event)
  down_steps step old new seen terms past event not_trip not_back k can down said silent same =
      let line = down_line terms past event not_trip not_back (down_is test tells old terms past k.holds down) in
      steps_beside test tells seen 0 (beside_rules event old seen) step new seen terms past _ (sym (none_beside event old seen not_back))
      (still_steps step old new seen terms past event (quiet event Say.Down) k line.0 refl (can_numbered event terms past can) line.1 (uncounted_calm event Say.Down tt refl) (record { answer = said; sends = silent }) same)

  -- a trip that is set
  pub trip_steps : (step : CoordStep) (old new : CoordCore P) (seen : Seen) (terms : Terms) (past : CoordPast) (calls cut : ℕ)
      → Stands test tells old seen terms past → step.answer ≡ Say.Set → step.sends ≡ []
      → new.protocols ≡ old.protocols → new.policy ≡ old.policy → new.tables ≡ old.tables → new.begun ≡ old.begun → new.store ≡ record old.store { trip = trip_to calls cut }
      → Steps test tells 0 seen step new seen terms past (line_of terms past (Ev.Trip calls cut))
  trip_steps step old new seen terms past calls cut k said silent sites policy tables begun store =
      let x = quiet (Ev.Trip calls cut) Say.Set in
      let stood = stands_calm test tells old new seen terms past (Ev.Trip calls cut) x (trip_to calls cut) k (trip_line terms past calls cut) refl tt (quiet_calm (Ev.Trip calls cut) Say.Set tt tt) sites policy tables begun store
      (trip_to-rules calls cut (Past.trip past)) (trip_to-armed calls cut) in
      subst (λ (y : CoordHappening). Steps test tells 0 seen step new seen terms past y) (sym (trip_line terms past calls cut)) (record { answer = said; sends = silent; stood = stood; called = no_call seen seen refl })

  -- a halt
  pub halt_steps : (step : CoordStep) (old new : CoordCore P) (before after : Seen) (terms : Terms) (past : CoordPast) (cut kept : ℕ)
      → Stands test tells old before terms past → old.store.standing ≡ Up → StopsWith coord_frame (Keeps (was_found past) tells after new.store) (Past.disk past) cut kept → is_up new.store.standing ≡ false
      → new.protocols ≡ old.protocols → new.policy ≡ old.policy → new.begun ≡ old.begun → step.answer ≡ Say.Stopped kept → step.sends ≡ []
      → after.calls ≡ before.calls → Steps test tells 0 before step new after terms past (line_of terms past (Ev.Halt cut))
  halt_steps step old new before after terms past cut kept k up (stored, count) down sites policy begun said silent same =
      let line = halt_line terms past cut (up_is test tells old terms past k.holds up) in
      subst (λ (y : CoordHappening). Steps test tells 0 before step new after terms past y) (sym line)
      (record {
        answer = stop_prints terms.protocols past (Ev.Halt cut) (Stops cut ∷ []) kept step.answer said count;
        sends = silent;
        stood = stands_stop test tells new after terms past (Ev.Halt cut) (Stops cut ∷ []) line tt k.holds.sound (sites ∙ k.holds.protocols) (ap test policy ∙ k.holds.policy)
            (λ tx. ap (λ b. noted b.listed tx) begun ∙ k.holds.begun tx) stored down;
        called = no_call before after same;
      })
