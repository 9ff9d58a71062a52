-- What a client asks of the coordinator is told as the rules say.
use Rattle.std.proofs.Common.{◌≡◌, ℕ, suc, ◌<◌, inl, inr, Bool, true, false, cond, IsSome, Option, Some, None, List, ◌∷◌, length, eq-eqb, refl, sym, ap, ◌∙◌, subst, arith}
use Rattle.mdb_base.specs.declared.acts.Step.{Step}
use Rattle.mdb_base.specs.declared.names.Tid.{Tid}
use Rattle.mdb_base.specs.declared.names.Tx.{Tx}
use Rattle.fed_rules.specs.declared.answers.Answer.{Answer}
use Rattle.fed_rules.specs.declared.answers.Answer.TheVariants as Say
use Rattle.fed_rules.specs.declared.answers.Cause.TheVariants as For
use Rattle.fed_rules.specs.declared.commands.Command.{Command}
use Rattle.fed_rules.specs.declared.commands.Stamped.{Stamped}
use Rattle.fed_rules.specs.declared.events.CoordEvent.{CoordEvent}
use Rattle.fed_rules.specs.declared.events.CoordEvent.TheVariants as Ev
use Rattle.fed_rules.specs.declared.events.CoordStep.{CoordStep}
use Rattle.fed_rules.specs.CoordPast.{CoordHappening, CoordPast, attempts_of, message_tid}
use Rattle.fed_rules.specs.Policies.{Policy}
use Rattle.fed_rules.specs.CoordCommands.{go_request}
use Rattle.fed_rules.specs.Requests.{Request, Submits, Declines, attempt, unless_begun}
use Rattle.fed_rules.specs.Right.{IsRefusal, MayPrint, SameButCycle}
use Rattle.fed_rules.specs.SitePast.{begins_tx}
use Rattle.fed_messages.specs.declared.Packet.{Packet}
use Rattle.journal_disk.specs.Disk.{Seen}
use Rattle.mdb_base.specs.declared.replies.Edge.{Edge}
use Rattle.coord_tables.specs.Terms.{Terms, line_of}
use Rattle.coord_laws.proofs.ForCallers.{Begins, coord_made}
use Rattle.actor_store.specs.declared.errors.StepErr.{StepErr}
use Rattle.global_manager.specs.declared.asks.CoordAsk.{CoordAsk}
use Rattle.global_manager.specs.declared.manager.GlobalManager.{GlobalManager}
use Rattle.global_manager.specs.Asks.{CanAsk, coord_request as ask_request}
use Rattle.global_manager.specs.Stands.{EachManaged, Fails, OwnPrograms, Serves, Stands}
use Rattle.scripted_link.specs.Rings.{Wire}
use Rattle.fed_hosts.specs.declared.coord_actor.CoordActor.{CoordActor}
use Rattle.fed_hosts.specs.declared.coord_actor.CoordLineParts.{CoordLineParts}
use Rattle.fed_hosts.specs.declared.coord_asks.CoordCall.{CoordCall}
use Rattle.fed_hosts.specs.declared.coord_asks.CoordCall.TheVariants as Call
use Rattle.fed_rules.specs.Short.{IsShortAnswer}
use Rattle.fed_hosts.specs.CoordCarrying.{IsBesideCoordLines, IsCoordTold, coord_turn_of}
use Rattle.host_laws.specs.CoordHistory.{IsCoordCommand}
use Rattle.fed_hosts.specs.CoordKeeps.{CoordKeeps, IsBorneFrom, IsCoordLogged}
use Rattle.host_laws.specs.CoordPlans.{CoordPlan}
use Rattle.fed_hosts.specs.CoordServing.{IsLastAttempt, IsLastGo, MayCall, MayGo, ask_of_call, request_of_call}
use Rattle.host_laws.specs.CoordTurns.{CoordTurn, MayAnswer, coord_behind, coord_past_of, coord_request, coord_sends}
use Rattle.fed_hosts.specs.CoordViews.{IsCoordSpent, IsKnown, IsUnknown, MayAnswerNext, command_of_call}
use Rattle.fed_hosts.specs.Keeps.{most_begun}
use Rattle.fed_hosts.specs.Ports.{HaveMovedOn}
use Rattle.host_laws.specs.Plans.{most_lines}
use Rattle.host_laws.specs.Turns.{is_trip}
use Rattle.fed_hosts.proofs.CoordOwn.{GoesNext, IsSoftCall, attempts_more, go_begins, known_go, line_goes, line_heard, soft_call, unknown_go}
use Rattle.fed_hosts.proofs.CoordServed.{CoordCarries, HasCoordLine, coord_line_carried, heard_alone}

pub call_untripped : (call : CoordCall) → is_trip (command_of_call call) ≡ false
call_untripped (Call.Go tx) = refl
call_untripped (Call.Fate tx) = refl
call_untripped (Call.Again tid) = refl
call_untripped (Call.Late tid) = refl

pub call_known : (plan : CoordPlan) (turns : List CoordTurn) (call : CoordCall) → IsKnown plan.programs call → IsCoordCommand plan turns (command_of_call call) None
call_known plan turns (Call.Go tx) own = (own, refl)
call_known plan turns (Call.Fate tx) own = (own, refl)
call_known plan turns (Call.Again tid) own = refl
call_known plan turns (Call.Late tid) own = refl

pub request_is : (plan : CoordPlan) (past : CoordPast) (call : CoordCall) → coord_request plan past (command_of_call call) None ≡ request_of_call plan.terms plan.programs past call
request_is plan past (Call.Go tx) = refl
request_is plan past (Call.Fate tx) = refl
request_is plan past (Call.Again tid) = refl
request_is plan past (Call.Late tid) = refl

-- what a call asks may be asked
can_call : (call : CoordCall) (terms : Terms) (programs : OwnPrograms) (past : CoordPast) → CanAsk (ask_of_call call) terms programs past
can_call (Call.Go tx) terms programs past = tt
can_call (Call.Fate tx) terms programs past = tt
can_call (Call.Again tid) terms programs past = tt
can_call (Call.Late tid) terms programs past = tt

module _ (ask : CoordAsk) (call : CoordCall) (is : ask ≡ ask_of_call call) where
  pub call_asks : (terms : Terms) (programs : OwnPrograms) (past : CoordPast) → CanAsk ask terms programs past
  call_asks terms programs past = subst (λ (a : CoordAsk). CanAsk a terms programs past) (sym is) (can_call call terms programs past)

  -- what answers what it asks answers the call
  module _ (K L : Terms → OwnPrograms → CoordPast → Type 0) where
    pub call_served : (step : CoordStep) → EachManaged K (λ terms programs past. CanAsk ask terms programs past → Serves L step terms programs past (ask_request ask terms programs past))
        → EachManaged K (λ terms programs past. Serves L step terms programs past (request_of_call terms programs past call))
    call_served step served terms programs past k =
        subst (λ (a : CoordAsk). Serves L step terms programs past (ask_request a terms programs past)) is (served terms programs past k (call_asks terms programs past))

    pub call_failed : (why : StepErr) → EachManaged K (λ terms programs past. CanAsk ask terms programs past → Fails L why terms programs past (ask_request ask terms programs past))
        → EachManaged K (λ terms programs past. Fails L why terms programs past (request_of_call terms programs past call))
    call_failed why failed terms programs past k =
        subst (λ (a : CoordAsk). Fails L why terms programs past (ask_request a terms programs past)) is (failed terms programs past k (call_asks terms programs past))

-- it takes no message
pub none_borne : (plan : CoordPlan) (backs : List (Option Packet)) (call : CoordCall) → IsBorneFrom plan backs (command_of_call call) None
none_borne plan backs (Call.Go tx) = tt
none_borne plan backs (Call.Fate tx) = tt
none_borne plan backs (Call.Again tid) = tt
none_borne plan backs (Call.Late tid) = tt

-- what is printed begins an attempt where the line does
begins_cycle : (tx : Tx) (IsOne : List Edge → Type 0) (printed told : Answer) → SameButCycle IsOne printed told → begins_tx tx printed ≡ begins_tx tx told
begins_cycle tx IsOne (Say.Decides decision (Some (For.Cycle edges)) forgets) (Say.Decides other (Some (For.Cycle others)) told) same = refl
begins_cycle tx IsOne printed told same = ap (begins_tx tx) same

pub begins_printed : (tx : Tx) (terms : Terms) (past : CoordPast) (x : CoordHappening) (event : CoordEvent) (printed : Answer) → MayPrint terms.protocols past x event printed → begins_tx tx printed ≡ begins_tx tx x.answer
begins_printed tx terms past x (Ev.Take site message) printed may = begins_cycle tx (IsRefusal terms.protocols past x (message_tid message)) printed x.answer may
begins_printed tx terms past x event printed may = ap (begins_tx tx) may

module _ (terms : Terms) (programs : OwnPrograms) (past : CoordPast) (K : Terms → OwnPrograms → CoordPast → Type 0) where
  pub may_answer : (r : Request CoordEvent) (step : CoordStep) → Serves K step terms programs past r → MayAnswer terms past r step.answer
  may_answer (Submits event) step serves = serves.said
  may_answer (Declines answer) step serves = serves.said

  pub sends_so : (r : Request CoordEvent) (step : CoordStep) → Serves K step terms programs past r → step.sends ≡ coord_sends terms past r
  sends_so (Submits event) step serves = serves.sent
  sends_so (Declines answer) step serves = serves.sent

  pub goes_on : (r : Request CoordEvent) (step : CoordStep) → Serves K step terms programs past r → K terms programs (coord_behind terms past r)
  goes_on (Submits event) step serves = serves.next
  goes_on (Declines answer) step serves = serves.next

  -- a line begins an attempt where its answer says so
  pub submit_counts : (event : CoordEvent) (answer : Answer) (tx : Tx) → MayPrint terms.protocols past (line_of terms past event) (line_of terms past event).event answer
      → attempts_of (line_of terms past event ∷ past) tx ≡ cond (begins_tx tx answer) (suc (attempts_of past tx)) (attempts_of past tx)
  submit_counts event answer tx may =
      attempts_more tx (line_of terms past event) past
      ∙ ap (λ (b : Bool). cond b (suc (attempts_of past tx)) (attempts_of past tx)) (sym (begins_printed tx terms past (line_of terms past event) (line_of terms past event).event answer may))

module _ (terms : Terms) (past : CoordPast) (call : CoordCall) where
  call_counts : (r : Request CoordEvent) (answer : Answer) → IsSoftCall terms past call r → MayAnswer terms past r answer → (other : Tx)
      → attempts_of (coord_behind terms past r) other ≡ cond (begins_tx other answer) (suc (attempts_of past other)) (attempts_of past other)
  call_counts (Submits event) answer soft may other = submit_counts terms (λ tx. None) past (λ t p q. Unit {0}) event answer other may
  call_counts (Declines declined) answer soft may other =
      ap (λ (b : Bool). cond b (suc (attempts_of past other)) (attempts_of past other)) (sym (ap (λ (a : Answer). begins_tx other a) may ∙ soft.1 other))

  -- what is printed of such a line is its answer
  plain_print : (x : CoordHappening) (event : CoordEvent) (answer : Answer) → GoesNext past call event → MayPrint terms.protocols past x event answer → answer ≡ x.answer
  plain_print x (Ev.Take site message) answer next may = absurd next
  plain_print x event answer next may = may

  printed_so : (event : CoordEvent) (answer : Answer) → GoesNext past call event → MayPrint terms.protocols past (line_of terms past event) (line_of terms past event).event answer → answer ≡ (line_of terms past event).answer
  printed_so event answer next may =
      plain_print (line_of terms past event) event answer next (subst (λ (v : CoordEvent). MayPrint terms.protocols past (line_of terms past event) v answer) (line_heard terms past event) may)

  pub call_short : (r : Request CoordEvent) (answer : Answer) → IsSoftCall terms past call r → MayAnswer terms past r answer → IsShortAnswer answer
  call_short (Submits event) answer soft may = subst IsShortAnswer (sym (printed_so event answer soft.1 may)) soft.0
  call_short (Declines declined) answer soft may = subst IsShortAnswer (sym may) soft.0

  few_by : (tx : Tx) (steps : List Step) (other : Tx) → tx ≡ other → begins_tx other (line_of terms past (Ev.Go (attempt tx (attempts_of past tx)) steps)).answer ≡ true → MayGo terms past tx → attempts_of past other < most_begun
  few_by tx steps other same begins (inl less) = subst (λ (t : Tx). attempts_of past t < most_begun) same less
  few_by tx steps other same begins (inr none) = let not = none other steps in cc

  call_few : (r : Request CoordEvent) (answer : Answer) → IsSoftCall terms past call r → MayAnswer terms past r answer → MayCall terms past call → (other : Tx) → begins_tx other answer ≡ true → attempts_of past other < most_begun
  call_few (Declines declined) answer soft is may other e = let none : begins_tx other answer ≡ false = ap (λ (a : Answer). begins_tx other a) is ∙ soft.1 other in cc
  call_few (Submits event) answer soft is may other e =
      let begins : begins_tx other (line_of terms past event).answer ≡ true = ap (λ (a : Answer). begins_tx other a) (sym (printed_so event answer soft.1 is)) ∙ e in
      let (tid, steps, event_is, of) = line_goes terms past event other begins in
      let next : GoesNext past call (Ev.Go tid steps) = subst (GoesNext past call) event_is soft.1 in
      let may' : MayGo terms past tid.tx = subst (λ (c : CoordCall). MayCall terms past c) next.0 may in
      few_by tid.tx steps other of (subst (λ (v : CoordEvent). begins_tx other (line_of terms past v).answer ≡ true) (event_is ∙ ap (λ (t : Tid). Ev.Go t steps) next.1) begins) may'

module _ (plan : CoordPlan) (turns : List CoordTurn) (call : CoordCall) (told : CoordLineParts) (K : Terms → OwnPrograms → CoordPast → Type 0)
    (serves : Serves K (record { answer = told.answer; sends = told.sends }) plan.terms plan.programs (coord_past_of plan turns) (request_of_call plan.terms plan.programs (coord_past_of plan turns) call)) where
  pub call_told : IsKnown plan.programs call → MayCall plan.terms (coord_past_of plan turns) call → IsCoordTold plan turns (record told { command = command_of_call call; after = 0 }) None
  call_told known may =
      let past = coord_past_of plan turns in
      let r = request_of_call plan.terms plan.programs past call in
      let step : CoordStep = record { answer = told.answer; sends = told.sends } in
      let soft = soft_call plan.terms plan.programs past call in
      let is = sym (request_is plan past call) in
      let said = may_answer plan.terms plan.programs past K r step serves in
      record {
        command = call_known plan turns call known;
        after = refl;
        small = omega arith;
        answer = subst (λ (q : Request CoordEvent). MayAnswer plan.terms past q told.answer) is said;
        sends = subst (λ (q : Request CoordEvent). told.sends ≡ coord_sends plan.terms past q) is (sends_so plan.terms plan.programs past K r step serves);
        counted = λ other. subst (λ (q : Request CoordEvent). attempts_of (coord_behind plan.terms past q) other ≡ cond (begins_tx other told.answer) (suc (attempts_of past other)) (attempts_of past other)) is
            (call_counts plan.terms past call r told.answer soft said other);
        few = λ other e. call_few plan.terms past call r told.answer soft said may other e;
      }

  -- and the past goes on with it
  pub call_next : K plan.terms plan.programs (coord_behind plan.terms (coord_past_of plan turns) (coord_request plan (coord_past_of plan turns) (command_of_call call) None))
  call_next =
      subst (λ (q : Request CoordEvent). K plan.terms plan.programs (coord_behind plan.terms (coord_past_of plan turns) q)) (sym (request_is plan (coord_past_of plan turns) call))
      (goes_on plan.terms plan.programs (coord_past_of plan turns) K (request_of_call plan.terms plan.programs (coord_past_of plan turns) call) (record { answer = told.answer; sends = told.sends }) serves)

-- the line of the `go` of an attempt may be printed with the answer that it has
prints_go : (terms : Terms) (past : CoordPast) (tid : Tid) (steps : List Step) (answer : Answer) → answer ≡ (line_of terms past (Ev.Go tid steps)).answer → MayAnswer terms past (Submits (Ev.Go tid steps)) answer
prints_go terms past tid steps answer is =
    subst (λ (v : CoordEvent). MayPrint terms.protocols past (line_of terms past (Ev.Go tid steps)) v answer) (sym (line_heard terms past (Ev.Go tid steps))) is

-- an answer that begins an attempt is one to the `go` of this attempt
begun_go : (terms : Terms) (past : CoordPast) (event : CoordEvent) (tid : Tid) → (line_of terms past event).answer ≡ Say.Begun tid → (steps : List Step) × (event ≡ Ev.Go tid steps)
begun_go terms past event tid is = subst (λ (a : Answer). Begins event a) is (coord_made terms.protocols terms.policy past event).begun

module _ (plan : CoordPlan) (turns : List CoordTurn) where
  -- a `go` behind so many attempts as a host begins would begin the next one
  go_last : (tx : Tx) → IsSome (plan.programs tx) → attempts_of (coord_past_of plan turns) tx ≡ most_begun → IsLastAttempt plan.terms (coord_past_of plan turns) tx → MayAnswerNext plan turns (Call.Go tx) (Say.Begun (attempt tx most_begun))
  go_last tx known count last =
      let past = coord_past_of plan turns in
      let (steps, is) = known_go plan.terms (plan.programs tx) past tx known count in
      let further = subst (λ (n : ℕ). unless_begun (line_of plan.terms past (Ev.Go (attempt tx n) steps)).answer ≡ Say.Spent) count (last.further steps) in
      let begins = go_begins plan.terms past (attempt tx most_begun) steps further in
      subst (λ (q : Request CoordEvent). MayAnswer plan.terms past q (Say.Begun (attempt tx most_begun))) (sym is) (prints_go plan.terms past (attempt tx most_begun) steps (Say.Begun (attempt tx most_begun)) (sym begins))

  pub last_spent : {P D : Type 0} (actor : CoordActor P D) (call : CoordCall) → IsCoordLogged plan turns actor → IsKnown plan.programs call → IsLastGo plan.terms (coord_past_of plan turns) call
      → IsCoordSpent plan turns actor.lines.items call
  last_spent actor (Call.Go tx) logged known last =
      let few = logged.few tx in
      let counted = logged.counted tx in
      let most = last.most in
      inr (go_last tx known (omega (arith, few, counted, most)) last)
  last_spent actor (Call.Fate tx) logged known last = absurd last
  last_spent actor (Call.Again tid) logged known last = absurd last
  last_spent actor (Call.Late tid) logged known last = absurd last

  pub full_spent : (call : CoordCall) (lines : List Stamped) → length lines ≡ most_lines → IsCoordSpent plan turns lines call
  full_spent (Call.Go tx) lines full = inl full
  full_spent (Call.Fate tx) lines full = full
  full_spent (Call.Again tid) lines full = full
  full_spent (Call.Late tid) lines full = full

  -- a line of a call that may begin an attempt isn't the one behind the last
  go_unspent : (tx : Tx) → MayGo plan.terms (coord_past_of plan turns) tx → MayAnswerNext plan turns (Call.Go tx) (Say.Begun (attempt tx most_begun)) → ⊥
  go_unspent tx may answers =
      let past = coord_past_of plan turns in
      let call = Call.Go tx in
      by_request (request_of_call plan.terms plan.programs past call) (soft_call plan.terms plan.programs past call) answers
    where
      by_request : (r : Request CoordEvent) → IsSoftCall plan.terms (coord_past_of plan turns) (Call.Go tx) r → MayAnswer plan.terms (coord_past_of plan turns) r (Say.Begun (attempt tx most_begun)) → ⊥
      by_request (Declines answer) soft is =
          let begins : begins_tx tx (Say.Begun (attempt tx most_begun)) ≡ true = eq-eqb tx.0 tx.0 refl in
          let none = ap (λ (a : Answer). begins_tx tx a) is ∙ soft.1 tx in
          cc
      by_request (Submits event) soft is =
          let past = coord_past_of plan turns in
          let begun = Say.Begun (attempt tx most_begun) in
          let few = call_few plan.terms past (Call.Go tx) (Submits event) begun soft is may tx (eq-eqb tx.0 tx.0 refl) in
          let (steps, event_is) = begun_go plan.terms past event (attempt tx most_begun) (sym (printed_so plan.terms past (Call.Go tx) event begun soft.1 is)) in
          let next : GoesNext past (Call.Go tx) (Ev.Go (attempt tx most_begun) steps) = subst (GoesNext past (Call.Go tx)) event_is soft.1 in
          let count : most_begun ≡ attempts_of past tx = ap (λ (t : Tid). t.attempt) next.1 in
          omega (arith, few, count)

  pub call_unspent : (call : CoordCall) (lines : List Stamped) → length lines < most_lines → MayCall plan.terms (coord_past_of plan turns) call → IsCoordSpent plan turns lines call → ⊥
  call_unspent (Call.Go tx) lines less may (inl full) = omega (arith, less, full)
  call_unspent (Call.Go tx) lines less may (inr answers) = go_unspent tx may answers
  call_unspent (Call.Fate tx) lines less may full = omega (arith, less, full)
  call_unspent (Call.Again tid) lines less may full = omega (arith, less, full)
  call_unspent (Call.Late tid) lines less may full = omega (arith, less, full)

  -- nor is that of a transaction that is no global one
  pub unknown_unspent : (call : CoordCall) (lines : List Stamped) → length lines < most_lines → IsUnknown plan.programs call → IsCoordSpent plan turns lines call → ⊥
  unknown_unspent (Call.Go tx) lines less unknown (inl full) = omega (arith, less, full)
  unknown_unspent (Call.Go tx) lines less unknown (inr answers) =
      let past = coord_past_of plan turns in
      let declined = ap (λ (program : Option (List Step)). go_request plan.terms.protocols plan.terms.policy program past tx) unknown ∙ unknown_go plan.terms past tx in
      let no : Say.Begun (attempt tx most_begun) ≡ Say.None = subst (λ (q : Request CoordEvent). MayAnswer plan.terms past q (Say.Begun (attempt tx most_begun))) declined answers in
      cc
  unknown_unspent (Call.Fate tx) lines less unknown full = omega (arith, less, full)
  unknown_unspent (Call.Again tid) lines less unknown full = omega (arith, less, full)
  unknown_unspent (Call.Late tid) lines less unknown full = omega (arith, less, full)

  -- what is answered to a call is what the rules let answer
  pub call_right : (call : CoordCall) (answer : Answer) → MayAnswer plan.terms (coord_past_of plan turns) (request_of_call plan.terms plan.programs (coord_past_of plan turns) call) answer → MayAnswerNext plan turns call answer
  call_right call answer may = subst (λ (q : Request CoordEvent). MayAnswer plan.terms (coord_past_of plan turns) q answer) (sym (request_is plan (coord_past_of plan turns) call)) may

module _ {P D : Type 0} (test : P → Policy) (tells : Bool) (seen : D → Seen) (plan : CoordPlan) (rings : List Wire) where
  -- the line that a call makes
  pub coord_call_line : (old : CoordActor P D) (manager : GlobalManager P) (disk : D) (new : CoordActor P D) (call : CoordCall) (told : CoordLineParts) (k : CoordKeeps test tells seen plan rings false old)
      → told ≡ record told { after = 0 } → told.command ≡ command_of_call call
      → Serves (Stands test tells manager (seen disk)) (record { answer = told.answer; sends = told.sends }) plan.terms plan.programs (coord_past_of plan k.turns)
      (request_of_call plan.terms plan.programs (coord_past_of plan k.turns) call)
      → IsKnown plan.programs call → MayCall plan.terms (coord_past_of plan k.turns) call → length old.lines.items < most_lines → (seen disk).faults ≡ (seen old.disk).faults
      → CoordCarries test tells (seen disk) (record old { manager = manager; disk = disk }) new told
      → IsBesideCoordLines (record old { manager = manager; disk = disk }) new → HaveMovedOn new.ports.items → HasCoordLine test tells seen plan rings old new told
  coord_call_line old manager disk new call told k shape command serves known may few faults carries beside moved_on =
      let turns = k.turns in
      let past = coord_past_of plan turns in
      let same : told ≡ record told { command = command_of_call call; after = 0 } =
      shape ∙ ap (λ (c : Command). let t : CoordLineParts = record { command = c; answer = told.answer; sends = told.sends; after = 0 } in t) command in
      let is : IsCoordTold plan turns told None = subst (λ (t : CoordLineParts). IsCoordTold plan turns t None) (sym same) (call_told plan turns call told (Stands test tells manager (seen disk)) serves known may) in
      let stood : Stands test tells manager (seen disk) plan.terms plan.programs (coord_behind plan.terms past (coord_request plan past told.command None)) =
      subst (λ (c : Command). Stands test tells manager (seen disk) plan.terms plan.programs (coord_behind plan.terms past (coord_request plan past c None))) (sym command)
      (call_next plan turns call told (Stands test tells manager (seen disk)) serves) in
      coord_line_carried test tells seen plan rings old manager disk new turns told None k.planned k.kept few is (ap is_trip command ∙ call_untripped call) stood
      (heard_alone (coord_turn_of (record old { manager = manager; disk = disk }) told None) turns old.ports.items refl k.heard) (faults ∙ k.faults) carries beside moved_on
