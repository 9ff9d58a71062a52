-- What a site says to what is asked of it, from what its core says to the event that this comes to, or without an event.
use Rattle.std.proofs.Common.{◌≡◌, ◌+◌, Bool, false, None, List, Result, Ok, Err, IfOk, IfErr, IsTrue, refl, sym, ap, subst, ◌∙◌}
use Rattle.mdb_base.proofs.ForCallers.{map_err, map_ok}
use Rattle.fed_rules.specs.declared.answers.Answer.{Answer}
use Rattle.fed_rules.specs.declared.events.SiteEvent.{SiteEvent}
use Rattle.fed_rules.specs.declared.events.SiteEvent.TheVariants as Ev
use Rattle.fed_rules.specs.declared.events.SiteStep.{SiteStep}
use Rattle.fed_rules.specs.Requests.{Request, Submits, Declines}
use Rattle.fed_rules.specs.Runs.{Start, EngineLine}
use Rattle.fed_rules.specs.SitePast.{SitePast}
use Rattle.fed_rules.specs.SiteRecords.{Home}
use Rattle.journal_disk.specs.Disk.{Seen}
use Rattle.actor_store.specs.declared.errors.StepErr.{StepErr}
use Rattle.site_core.specs.declared.site.SiteCore.{SiteCore}
use Rattle.site_core.specs.Stands.{Stands as CoreStands, beside_rules, calls_for}
use Rattle.site_core.specs.Steps.{CanStep, FailsOn as CoreFailsOn, SomePast, StepsOn}
use Rattle.local_dbms.specs.declared.asks.SiteAsk.{SiteAsk}
use Rattle.local_dbms.specs.declared.asks.SiteAsk.TheVariants as At
use Rattle.local_dbms.specs.declared.dbms.LocalDbms.{LocalDbms}
use Rattle.local_dbms.specs.Asks.{CanAsk, FailsOn, ServesOn, can_send, is_operation, site_request}
use Rattle.local_dbms.specs.Stands.{CanSubmit, Each_site, Fails, OwnPrograms, Recalls, Some_site, Stands, Tells}
use Rattle.local_dbms.proofs.Fit.{can_back, fails, recalled, tells_of}
use Rattle.local_dbms.proofs.Quiet.{ask_quiet, unsent}

-- what is served sends nothing where it can't
pub served_quiet : (K L : Home → OwnPrograms → SitePast → Type 0) (ask made : SiteAsk) → ask ≡ made → (r : Result SiteStep StepErr) → IfOk r (ServesOn K L made) → Some_site K (CanAsk ask)
    → IfOk r (λ step. can_send ask ≡ false → step.sends ≡ None)
served_quiet K L ask made is (Ok step) served s = λ cannot.
    let can : CanAsk made s.home s.programs s.past = subst (λ (a : SiteAsk). CanAsk a s.home s.programs s.past) is s.holds in
    unsent step.sends ((served s.home s.programs s.past s.stood can).sent ∙ ask_quiet made s.home s.programs s.past (sym (ap can_send is) ∙ cannot))
served_quiet K L ask made is (Err why) served s = tt

module _ {E : Type 0} (stands : E → Start → List EngineLine → Type 0) (tells : Bool) (old : LocalDbms E) (before : Seen) (ask : SiteAsk) where
  -- an answer without an event
  pub declines : (answer : Answer) → Each_site (Recalls stands old) (λ home programs past. Declines answer ≡ site_request ask home programs past)
      → (r : Result SiteStep StepErr) → r ≡ Ok (record { answer = answer; sends = None }) → IfOk r (ServesOn (Stands stands tells old before) (Stands stands tells old before) ask)
  declines answer asked r is =
      let K : Home → OwnPrograms → SitePast → Type 0 = Stands stands tells old before in
      let step : SiteStep = record { answer = answer; sends = None } in
      let served : ServesOn K K ask step = (λ home programs past stood can.
      subst (λ (q : Request SiteEvent). Tells K step home programs past q) (asked home programs past (recalled stands tells old before home programs past stood)) (record { said = refl; sent = refl; next = stood })) in
      subst (λ (o : Result SiteStep StepErr). IfOk o (ServesOn K K ask)) (sym is) served

  -- what is asked comes to this event, which may come
  abbrev pub ComesTo : SiteEvent → Type 0
  ComesTo event = Each_site (Recalls stands old) (λ home programs past. CanAsk ask home programs past → (Submits event ≡ site_request ask home programs past) × CanSubmit event home programs past)

  module _ (event : SiteEvent) (comes : ComesTo event) where
    pub may_come : Some_site (Stands stands tells old before) (CanAsk ask) → SomePast (CoreStands stands tells old.core before) (CanStep event)
    may_come s =
        let fits = comes s.home s.programs s.past (recalled stands tells old before s.home s.programs s.past s.stood) s.holds in
        record { home = s.home; past = s.past; stood = s.stood.core; holds = fits.1.0 }

    module _ (core : SiteCore E) (after : Seen) (r : Result SiteStep StepErr) where
      -- the core answers the event
      pub serves : IfOk r (StepsOn stands tells old.core before core after event) → IfOk r (ServesOn (Stands stands tells old before) (Stands stands tells (record old { core = core }) after) ask)
      serves answered = map_ok _ _ r answered (λ step steps home programs past k can.
          let fits = comes home programs past (recalled stands tells old before home programs past k) can in
          subst (λ (q : Request SiteEvent). Tells (Stands stands tells (record old { core = core }) after) step home programs past q) fits.0
          (tells_of stands tells old core after home programs past event k.owns fits.1.1 (beside_rules event old.core before) before step (steps home past k.core fits.1.0)))

      -- or it doesn't
      pub refuses : IfErr r (CoreFailsOn stands tells old.core before core after event) → IfErr r (FailsOn (Stands stands tells old before) (Stands stands tells (record old { core = core }) after) ask)
      refuses failed = map_err _ _ r failed (λ why refused home programs past k can.
          let fits = comes home programs past (recalled stands tells old before home programs past k) can in
          subst (λ (q : Request SiteEvent). Fails (Stands stands tells (record old { core = core }) after) why home programs past q) fits.0
          (fails stands tells old core after home programs past event k.owns fits.1.1 (beside_rules event old.core before + calls_for home past event) before why (refused home past k.core fits.1.0)))

  -- an inquiry, or what an operator asks, comes to its event
  pub operation_comes : IsTrue (is_operation ask) → (event : SiteEvent) → ((home : Home) (programs : OwnPrograms) (past : SitePast) → site_request ask home programs past ≡ Submits event) → ComesTo event
  operation_comes op event is home programs past r can = (sym (is home programs past), fits ask op (is home programs past) can) where
    fits : (a : SiteAsk) → IsTrue (is_operation a) → site_request a home programs past ≡ Submits event → CanAsk a home programs past → CanSubmit event home programs past
    fits (At.Ask tid) op e can = let same : Ev.Ask tid ≡ event = cc in subst (λ (x : SiteEvent). CanSubmit x home programs past) same (tt, tt)
    fits (At.Drop tid) op e can = let same : Ev.Drop tid ≡ event = cc in subst (λ (x : SiteEvent). CanSubmit x home programs past) same (tt, tt)
    fits (At.Halt cut) op e can = let same : Ev.Halt cut ≡ event = cc in subst (λ (x : SiteEvent). CanSubmit x home programs past) same (tt, tt)
    fits (At.Trip calls cut) op e can = let same : Ev.Trip calls cut ≡ event = cc in subst (λ (x : SiteEvent). CanSubmit x home programs past) same (tt, tt)
    fits At.Back op e can = let same : Ev.Back ≡ event = cc in subst (λ (x : SiteEvent). CanSubmit x home programs past) same (can_back stands old home programs past r can)
    fits At.Check op e can = let same : Ev.Check ≡ event = cc in subst (λ (x : SiteEvent). CanSubmit x home programs past) same (tt, tt)
    fits (At.Begin tx) op e can = cc
    fits (At.Step tx) op e can = cc
    fits (At.Commit tx) op e can = cc
    fits (At.Abort tx) op e can = cc
    fits (At.Fate tx) op e can = cc
    fits (At.Give message) op e can = cc
