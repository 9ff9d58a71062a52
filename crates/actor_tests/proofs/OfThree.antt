-- How a session goes on: a manager of three sites that stands for something does behind a command, also where the command fails.
use Rattle.std.proofs.Common.{◌≡◌, ℕ, zero, suc, ◌≤◌, ◌||◌, ◌==◌, true, false, Result, Ok, Err, IfOk, IfErr, List, [], ◌∷◌, inl, inr, refl, sym, subst, arith}
use Rattle.std.proofs.lemmas.Bool.{and_parts, leb-true}
use Rattle.mdb_base.specs.declared.acts.Step.{Step}
use Rattle.mdb_base.specs.declared.names.SiteId.{SiteId}
use Rattle.mdb_base.specs.Words.{Each, each_of}
use Rattle.presumptions.specs.declared.Participant.{Participant}
use Rattle.record_fields.specs.Named.{IsSite}
use Rattle.fed_rules.specs.declared.events.CoordEvent.{CoordEvent}
use Rattle.fed_rules.specs.declared.events.CoordStep.{CoordStep}
use Rattle.fed_rules.specs.CoordPast.{CoordPast}
use Rattle.fed_rules.specs.Requests.{Request, Submits, Declines}
use Rattle.global_exec.specs.Pasts.{IsAmong}
use Rattle.actor_store.specs.declared.errors.StepErr.{StepErr}
use Rattle.actor_store.specs.declared.errors.StepErr.TheVariants as Err_is
use Rattle.coord_core.specs.Stands.{stopped_before, stopped_within}
use Rattle.coord_tables.specs.Terms.{Terms, line_of}
use Rattle.global_manager.specs.declared.asks.CoordAsk.{CoordAsk}
use Rattle.global_manager.specs.declared.asks.CoordAsk.TheVariants as Coord
use Rattle.global_manager.specs.Asks.{CanAsk, coord_request}
use Rattle.global_manager.specs.Stands.{EachManaged, Fails, IsSited, OwnPrograms, Serves, SomeManaged}
use Rattle.actor_tests.specs.OfThree.{ComesFromThree, HasThree, is_of_three, three}

-- the sites 1 to 3
pub among_three : (site : SiteId) → 1 ≤ site.0 → site.0 ≤ 3 → IsAmong site three
among_three site least most = from site.0 least most where
  from : (n : ℕ) → 1 ≤ n → n ≤ 3 → ((1 == n) || ((2 == n) || ((3 == n) || false))) ≡ true
  from zero a b = absurd (omega arith)
  from (suc zero) a b = refl
  from (suc (suc zero)) a b = refl
  from (suc (suc (suc zero))) a b = refl
  from (suc (suc (suc (suc n)))) a b = absurd (omega arith)

are_sites : Each (λ (member : Participant). IsSite member.site) three
are_sites = (record { least = omega arith; greatest = omega arith }, (record { least = omega arith; greatest = omega arith }, (record { least = omega arith; greatest = omega arith }, tt)))

-- a coordinator of these sites
pub sites_of_three : (sites : List Participant) → sites ≡ three → Each (λ (member : Participant). IsSite member.site) sites
sites_of_three sites is = subst (λ (ps : List Participant). Each (λ (member : Participant). IsSite member.site) ps) (sym is) are_sites

pub among_sites : (sites : List Participant) → sites ≡ three → (site : SiteId) → 1 ≤ site.0 → site.0 ≤ 3 → IsAmong site sites
among_sites sites is site least most = subst (λ (ps : List Participant). IsAmong site ps) (sym is) (among_three site least most)

pub sited_three : (steps : List Step) → each_of (λ (step : Step). is_of_three step.site) steps ≡ true → IsSited three steps
sited_three [] e = tt
sited_three (step ∷ steps) e =
    let (here, rest) = and_parts _ _ e in
    let (least, most) = and_parts _ _ here in
    (among_three step.site (leb-true _ _ least) (leb-true _ _ most), sited_three steps rest)

-- what is asked of them may be asked
can_ask : (ask : CoordAsk) → ComesFromThree ask → (terms : Terms) (programs : OwnPrograms) (past : CoordPast) → HasThree terms programs past → CanAsk ask terms programs past
can_ask (Coord.Go tx) from terms programs past has = tt
can_ask (Coord.Fate tx) from terms programs past has = tt
can_ask (Coord.Again tid) from terms programs past has = tt
can_ask (Coord.Late tid) from terms programs past has = tt
can_ask (Coord.Take site message) from terms programs past has = has site from.0 from.1
can_ask (Coord.Halt cut) from terms programs past has = tt
can_ask (Coord.Trip calls cut) from terms programs past has = tt
can_ask Coord.Back from terms programs past has = tt
can_ask Coord.Check from terms programs past has = tt

module _ (K L : Terms → OwnPrograms → CoordPast → Type 0) (s : SomeManaged K HasThree) where
  at : (past : CoordPast) → L s.terms s.programs past → SomeManaged L HasThree
  at past stood = record { terms = s.terms; programs = s.programs; past = past; stood = stood; holds = s.holds }

  served_on : (step : CoordStep) (r : Request CoordEvent) → Serves L step s.terms s.programs s.past r → SomeManaged L HasThree
  served_on step (Submits event) served = at (line_of s.terms s.past event ∷ s.past) served.next
  served_on step (Declines answer) served = at s.past served.next

  failed_on : (why : StepErr) (r : Request CoordEvent) → Fails L why s.terms s.programs s.past r → SomeManaged L HasThree
  failed_on Err_is.Memory r stood = at s.past stood
  failed_on Err_is.Disk (Submits event) (inl stop) = at (stopped_before s.terms s.past stop.cut) stop.stood
  failed_on Err_is.Disk (Submits event) (inr stop) = at (stopped_within s.terms s.past event stop.calls stop.cut) stop.stood
  failed_on Err_is.Disk (Declines answer) none = absurd none

  module _ (ask : CoordAsk) (from : ComesFromThree ask) where
    can : CanAsk ask s.terms s.programs s.past
    can = can_ask ask from s.terms s.programs s.past s.holds

    -- the manager may be asked this
    pub may_ask : SomeManaged K (CanAsk ask)
    may_ask = record { terms = s.terms; programs = s.programs; past = s.past; stood = s.stood; holds = can }

    -- and goes on behind it
    pub goes_on : (result : Result CoordStep StepErr)
        → IfOk result (λ step. EachManaged K (λ terms programs past. CanAsk ask terms programs past → Serves L step terms programs past (coord_request ask terms programs past)))
        → IfErr result (λ why. EachManaged K (λ terms programs past. CanAsk ask terms programs past → Fails L why terms programs past (coord_request ask terms programs past)))
        → SomeManaged L HasThree
    goes_on (Ok step) served failed = served_on step (coord_request ask s.terms s.programs s.past) (served s.terms s.programs s.past s.stood can)
    goes_on (Err why) served failed = failed_on why (coord_request ask s.terms s.programs s.past) (failed s.terms s.programs s.past s.stood can)
