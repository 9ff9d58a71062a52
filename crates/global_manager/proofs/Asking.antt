-- What answers the event that is submitted, or declines it, answers what is asked.
use Rattle.std.proofs.Common.{◌≡◌, ℕ, ◌+◌, ◌<◌, Bool, Result, IfOk, IfErr, IsOkAnd, List, [], Some, sym, ap, ◌∙◌, subst}
use Rattle.mdb_base.specs.declared.acts.Step.{Step}
use Rattle.mdb_base.specs.declared.names.Tx.{Tx}
use Rattle.mdb_base.proofs.ForCallers.{map_err, map_ok}
use Rattle.fed_rules.specs.declared.answers.Answer.{Answer}
use Rattle.fed_rules.specs.declared.events.CoordEvent.{CoordEvent}
use Rattle.fed_rules.specs.declared.events.CoordEvent.TheVariants as Ev
use Rattle.fed_rules.specs.declared.events.CoordStep.{CoordStep}
use Rattle.fed_rules.specs.CoordPast.{attempts_of}
use Rattle.fed_rules.specs.Policies.{Policy}
use Rattle.fed_rules.specs.Requests.{Request, Submits, Declines, attempt}
use Rattle.journal_disk.specs.Disk.{Seen}
use Rattle.actor_store.specs.declared.errors.StepErr.{StepErr}
use Rattle.coord_core.specs.declared.coord.CoordCore.{CoordCore}
use Rattle.coord_core.specs.Stands.{Stands as CoreStands, beside_rules, calls_for}
use Rattle.coord_core.specs.Steps.{CanStep, FailsOn as CoreFailsOn, SomePast, StepsOn}
use Rattle.coord_core.proofs.ForCallers.{made_ok}
use Rattle.global_manager.specs.declared.asks.CoordAsk.{CoordAsk}
use Rattle.global_manager.specs.declared.asks.CoordAsk.TheVariants as Coord
use Rattle.global_manager.specs.declared.manager.GlobalManager.{GlobalManager}
use Rattle.global_manager.specs.Asks.{CanAsk, FailsOn, ServesOn, coord_request}
use Rattle.global_manager.specs.Stands.{CanSubmit, EachManaged, Fails, Keeps, Recalls, Serves, SomeManaged, Stands}
use Rattle.global_manager.proofs.Asked.{go_submits}
use Rattle.global_manager.proofs.Fit.{can_go, fails, recalled, sends}

module _ {P : Type 0} (test : P → Policy) (tells : Bool) (old : GlobalManager P) (before : Seen) (ask : CoordAsk) where
  -- an answer without an event
  pub declines : (answer : Answer) → EachManaged (Recalls test old) (λ terms programs past. coord_request ask terms programs past ≡ Declines answer)
      → (r : Result CoordStep StepErr) → IsOkAnd r (λ step. (step.answer ≡ answer) × (step.sends ≡ [])) → IfOk r (ServesOn (Stands test tells old before) (Stands test tells old before) ask)
  declines answer comes r declined = made_ok _ _ r declined (λ step said terms programs past k can.
      let kept : Keeps (Stands test tells old before) step terms programs past answer = record { said = said.0; sent = said.1; next = k } in
      subst (λ (r : Request CoordEvent). Serves (Stands test tells old before) step terms programs past r) (sym (comes terms programs past (recalled test tells old before terms programs past k))) kept)

  -- what is asked comes to this event, which may come
  abbrev pub ComesTo : CoordEvent → Type 0
  ComesTo event = EachManaged (Recalls test old) (λ terms programs past. CanAsk ask terms programs past → (coord_request ask terms programs past ≡ Submits event) × CanSubmit event terms programs past)

  module _ (event : CoordEvent) (comes : ComesTo event) where
    pub may_come : SomeManaged (Stands test tells old before) (CanAsk ask) → SomePast (CoreStands test tells old.core before) (CanStep event)
    may_come s =
        let fits = comes s.terms s.programs s.past (recalled test tells old before s.terms s.programs s.past s.stood) s.holds in
        record { terms = s.terms; past = s.past; stood = s.stood.core; holds = fits.1.0 }

    module _ (core : CoordCore P) (after : Seen) (r : Result CoordStep StepErr) where
      -- the core answers the event
      pub serves : IfOk r (StepsOn test tells old.core before core after event) → IfOk r (ServesOn (Stands test tells old before) (Stands test tells (record old { core = core }) after) ask)
      serves answered = map_ok _ _ r answered (λ step steps terms programs past k can.
          let fits = comes terms programs past (recalled test tells old before terms programs past k) can in
          subst (λ (r : Request CoordEvent). Serves (Stands test tells (record old { core = core }) after) step terms programs past r) (sym fits.0)
          (sends test tells old core after terms programs past event k.owns fits.1.1 (beside_rules event old.core before) before step (steps terms past k.core fits.1.0)))

      -- or it doesn't
      pub refuses : IfErr r (CoreFailsOn test tells old.core before core after event) → IfErr r (FailsOn (Stands test tells old before) (Stands test tells (record old { core = core }) after) ask)
      refuses failed = map_err _ _ r failed (λ why refused terms programs past k can.
          let fits = comes terms programs past (recalled test tells old before terms programs past k) can in
          subst (λ (r : Request CoordEvent). Fails (Stands test tells (record old { core = core }) after) why terms programs past r) (sym fits.0)
          (fails test tells old core after terms programs past event k.owns fits.1.1 (beside_rules event old.core before + calls_for terms past event) before why (refused terms past k.core fits.1.0)))

-- the next attempt of a global transaction, with its program
pub go_comes : {P : Type 0} (test : P → Policy) (tells : Bool) (old : GlobalManager P) (before : Seen) (tx : Tx) (steps program : List Step) (begun : ℕ)
    → EachManaged (Recalls test old) (λ terms programs past. programs tx ≡ Some steps) → program ≡ steps
    → EachManaged (Recalls test old) (λ terms programs past. begun ≡ attempts_of past tx) → begun < 32
    → ComesTo test tells old before (Coord.Go tx) (Ev.Go (attempt tx begun) program)
go_comes test tells old before tx steps program begun own same is few terms programs past r can =
    let n = is terms programs past r in
    let owned = own terms programs past r in
    let less = subst (λ (m : ℕ). m < 32) n few in
    let event : Ev.Go (attempt tx begun) program ≡ Ev.Go (attempt tx (attempts_of past tx)) steps =
    ap (λ (m : ℕ). Ev.Go (attempt tx m) program) n ∙ ap (λ ss. Ev.Go (attempt tx (attempts_of past tx)) ss) same in
    let H : CoordEvent → Type 0 = λ e. (coord_request (Coord.Go tx) terms programs past ≡ Submits e) × CanSubmit e terms programs past in
    subst H (sym event) (go_submits terms.protocols terms.policy (programs tx) past tx steps owned less, can_go test old terms programs past r tx steps owned less)
