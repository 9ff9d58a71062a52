-- What a client asks of one of the site's own transactions is told as the rules say.
use Rattle.std.proofs.Common.{◌≡◌, ℕ, suc, ◌<◌, Bool, true, false, cond, IsSome, Option, None, List, [], length, inl, inr, eq-eqb, refl, sym, ap, ◌∙◌, subst, arith}
use Rattle.mdb_base.specs.declared.acts.Step.{Step}
use Rattle.mdb_base.specs.declared.names.Tid.{Tid}
use Rattle.mdb_base.specs.declared.names.Tx.{Tx}
use Rattle.fed_rules.specs.declared.answers.Answer.{Answer}
use Rattle.fed_rules.specs.declared.answers.Answer.TheVariants as Say
use Rattle.fed_rules.specs.declared.commands.Stamped.{Stamped}
use Rattle.fed_rules.specs.declared.events.SiteEvent.{SiteEvent}
use Rattle.fed_rules.specs.declared.events.SiteEvent.TheVariants as Ev
use Rattle.fed_rules.specs.declared.events.SiteStep.{SiteStep}
use Rattle.fed_rules.specs.Requests.{Request, Submits, Declines, attempt, unless_begun}
use Rattle.fed_rules.specs.Site.{site_line}
use Rattle.fed_rules.specs.SiteCommands as Rule
use Rattle.fed_rules.specs.SiteCommands.{answer_to, own_request, past_behind}
use Rattle.fed_rules.specs.SitePast.{SitePast, attempts_of, begins_tx}
use Rattle.fed_rules.specs.SiteRecords.{Home}
use Rattle.site_core.specs.Made.{IsGoingOn}
use Rattle.site_core.proofs.ForCallers.{line_event}
use Rattle.local_dbms.specs.declared.asks.SiteAsk.{SiteAsk}
use Rattle.local_dbms.specs.Asks.{CanAsk, site_request}
use Rattle.local_dbms.specs.Stands.{IsShort, OwnPrograms, Serves, Tells}
use Rattle.local_dbms.proofs.ForCallers.{IsBegunBy, begun_tx, made_small}
use Rattle.fed_hosts.specs.declared.site_actor.LineParts.{LineParts}
use Rattle.fed_hosts.specs.declared.verbs.Verb.{Verb}
use Rattle.fed_hosts.specs.declared.verbs.Verb.TheVariants as Asks
use Rattle.fed_rules.specs.Short.{IsShortAnswer}
use Rattle.fed_hosts.specs.Carrying.{IsTold}
use Rattle.host_laws.specs.History.{IsCommand}
use Rattle.fed_hosts.specs.Keeps.{most_begun}
use Rattle.host_laws.specs.Plans.{SitePlan, most_lines}
use Rattle.fed_hosts.specs.Serving.{IsLastBegin, MayBegin}
use Rattle.host_laws.specs.Turns.{SiteTurn, is_trip, past_of, request_of, sends_of}
use Rattle.fed_hosts.specs.Verbs.{ask_of, command_of, rule_of}
use Rattle.fed_hosts.specs.Views.{IsSpent, answer_next}
use Rattle.fed_hosts.proofs.Own.{BeginsNext, IsSoft, begin_begins, own_begin, own_none, own_soft}

-- the line of an event that begins an attempt is that of its begin
pub line_begins : (home : Home) (past : SitePast) (event : SiteEvent) (tx : Tx) → IsGoingOn home past → begins_tx tx (site_line home past event).answer ≡ true → (tid : Tid) × (event ≡ Ev.Begin tid) × (tid.tx ≡ tx)
line_begins home past event tx made e =
    let by = (made_small home past made event).begun in
    begun_tx event (site_line home past event).answer tx (subst (λ (v : SiteEvent). IsBegunBy v (site_line home past event).answer) (line_event home past event) by) e

pub command_untripped : (verb : Verb) (tx : Tx) → is_trip (command_of verb tx) ≡ false
command_untripped Asks.Begin tx = refl
command_untripped Asks.Step tx = refl
command_untripped Asks.Commit tx = refl
command_untripped Asks.Abort tx = refl
command_untripped Asks.Fate tx = refl

pub command_own : (plan : SitePlan) (turns : List SiteTurn) (verb : Verb) (tx : Tx) → IsSome (plan.programs tx) → IsCommand plan turns (command_of verb tx) None
command_own plan turns Asks.Begin tx own = (own, refl)
command_own plan turns Asks.Step tx own = (own, refl)
command_own plan turns Asks.Commit tx own = (own, refl)
command_own plan turns Asks.Abort tx own = (own, refl)
command_own plan turns Asks.Fate tx own = (own, refl)

pub request_is : (plan : SitePlan) (past : SitePast) (verb : Verb) (tx : Tx) → request_of plan past (command_of verb tx) None ≡ own_request (rule_of verb) plan.home (plan.programs tx) past tx
request_is plan past Asks.Begin tx = refl
request_is plan past Asks.Step tx = refl
request_is plan past Asks.Commit tx = refl
request_is plan past Asks.Abort tx = refl
request_is plan past Asks.Fate tx = refl

-- it is asked of the local database system, which answers what the rules make of it
module _ (ask : SiteAsk) (verb : Verb) (tx : Tx) (is : ask ≡ ask_of verb tx) where
  pub verb_may : (home : Home) (programs : OwnPrograms) (past : SitePast) → IsShort home programs past → CanAsk ask home programs past
  verb_may home programs past short = subst (λ (a : SiteAsk). CanAsk a home programs past) (sym is) (by_verb verb)
    where
      by_verb : (v : Verb) → CanAsk (ask_of v tx) home programs past
      by_verb Asks.Begin = short
      by_verb Asks.Step = short
      by_verb Asks.Commit = short
      by_verb Asks.Abort = short
      by_verb Asks.Fate = short

  pub verb_request : (home : Home) (programs : OwnPrograms) (past : SitePast) → site_request ask home programs past ≡ own_request (rule_of verb) home (programs tx) past tx
  verb_request home programs past = ap (λ (a : SiteAsk). site_request a home programs past) is ∙ by_verb verb
    where
      by_verb : (v : Verb) → site_request (ask_of v tx) home programs past ≡ own_request (rule_of v) home (programs tx) past tx
      by_verb Asks.Begin = refl
      by_verb Asks.Step = refl
      by_verb Asks.Commit = refl
      by_verb Asks.Abort = refl
      by_verb Asks.Fate = refl

  pub verb_serves : (K : Home → OwnPrograms → SitePast → Type 0) (step : SiteStep) (home : Home) (programs : OwnPrograms) (past : SitePast) → Tells K step home programs past (site_request ask home programs past)
      → Serves K step.answer home programs past (own_request (rule_of verb) home (programs tx) past tx)
  verb_serves K step home programs past told =
      let same = verb_request home programs past in
      record { said = told.said ∙ ap (λ (q : Request SiteEvent). answer_to home past q) same; next = subst (λ (q : Request SiteEvent). K home programs (past_behind home past q)) same told.next }

begin_is : (verb : Verb) → rule_of verb ≡ Rule.Begin → verb ≡ Asks.Begin
begin_is Asks.Begin e = refl
begin_is Asks.Step e = cc
begin_is Asks.Commit e = cc
begin_is Asks.Abort e = cc
begin_is Asks.Fate e = cc

module _ (home : Home) (past : SitePast) (verb : Rule.Verb) (tx : Tx) where
  soft_sends : (r : Request SiteEvent) → IsSoft home past verb tx r → [] ≡ sends_of home past r
  soft_sends (Submits event) soft = sym soft.0.0
  soft_sends (Declines answer) soft = refl

  pub soft_short : (r : Request SiteEvent) (answer : Answer) → IsSoft home past verb tx r → answer ≡ answer_to home past r → IsShortAnswer answer
  soft_short (Submits event) answer soft is = subst IsShortAnswer (sym is) soft.0.1
  soft_short (Declines other) answer soft is = subst IsShortAnswer (sym is) soft.0

  soft_counts : (r : Request SiteEvent) (answer : Answer) → IsSoft home past verb tx r → answer ≡ answer_to home past r → (other : Tx)
      → attempts_of (past_behind home past r) other ≡ cond (begins_tx other answer) (suc (attempts_of past other)) (attempts_of past other)
  soft_counts (Submits event) answer soft is other = ap (λ (a : Answer). cond (begins_tx other a) (suc (attempts_of past other)) (attempts_of past other)) (sym is)
  soft_counts (Declines declined) answer soft is other =
      ap (λ (b : Bool). cond b (suc (attempts_of past other)) (attempts_of past other)) (sym (ap (λ (a : Answer). begins_tx other a) is ∙ soft.1 other))

  soft_few : (r : Request SiteEvent) (answer : Answer) → IsGoingOn home past → IsSoft home past verb tx r → answer ≡ answer_to home past r → (verb ≡ Rule.Begin → MayBegin home past tx) → (other : Tx)
      → begins_tx other answer ≡ true → attempts_of past other < most_begun
  soft_few (Declines declined) answer made soft is may other e = let none : begins_tx other answer ≡ false = ap (λ (a : Answer). begins_tx other a) is ∙ soft.1 other in cc
  soft_few (Submits event) answer made soft is may other e =
      let begins : begins_tx other (site_line home past event).answer ≡ true = ap (λ (a : Answer). begins_tx other a) (sym is) ∙ e in
      let (tid, event_is, of) = line_begins home past event other made begins in
      let next : BeginsNext past verb tx (Ev.Begin tid) = subst (BeginsNext past verb tx) event_is soft.1 in
      let named : Ev.Begin tid ≡ Ev.Begin (attempt tx (attempts_of past tx)) = ap (λ (t : Tid). Ev.Begin t) next.1 in
      let same : tx ≡ other = sym (ap (λ (t : Tid). t.tx) next.1) ∙ of in
      from same (subst (λ (v : SiteEvent). begins_tx other (site_line home past v).answer ≡ true) (event_is ∙ named) begins) (may next.0)
    where
      from : tx ≡ other → begins_tx other (site_line home past (Ev.Begin (attempt tx (attempts_of past tx)))).answer ≡ true → MayBegin home past tx → attempts_of past other < most_begun
      from same begins (inl less) = subst (λ (t : Tx). attempts_of past t < most_begun) same less
      from same begins (inr none) = let not = none other in cc

  -- no line begins the attempt behind the last that a host begins
  pub soft_unspent : (r : Request SiteEvent) → IsGoingOn home past → IsSoft home past verb tx r → (verb ≡ Rule.Begin → MayBegin home past tx) → answer_to home past r ≡ Say.Begun (attempt tx most_begun) → ⊥
  soft_unspent (Declines declined) made soft may is = let begins : begins_tx tx (Say.Begun (attempt tx most_begun)) ≡ true = eq-eqb tx.0 tx.0 refl in let none = ap (λ (a : Answer). begins_tx tx a) (sym is) ∙ soft.1 tx in cc
  soft_unspent (Submits event) made soft may is =
      let begins : begins_tx tx (Say.Begun (attempt tx most_begun)) ≡ true = eq-eqb tx.0 tx.0 refl in
      let few = soft_few (Submits event) (site_line home past event).answer made soft refl may tx (ap (λ (a : Answer). begins_tx tx a) is ∙ begins) in
      let by : IsBegunBy event (site_line home past event).answer = subst (λ (v : SiteEvent). IsBegunBy v (site_line home past event).answer) (line_event home past event) (made_small home past made event).begun in
      let event_is : event ≡ Ev.Begin (attempt tx most_begun) = subst (λ (a : Answer). IsBegunBy event a) is by in
      let next : BeginsNext past verb tx (Ev.Begin (attempt tx most_begun)) = subst (BeginsNext past verb tx) event_is soft.1 in
      let count : most_begun ≡ attempts_of past tx = ap (λ (t : Tid). t.attempt) next.1 in
      omega (arith, few, count)

module _ (plan : SitePlan) (turns : List SiteTurn) (verb : Verb) (tx : Tx) where
  -- the answer of the rules is that to what is asked
  pub next_is : answer_next plan turns (command_of verb tx) ≡ answer_to plan.home (past_of plan turns) (own_request (rule_of verb) plan.home (plan.programs tx) (past_of plan turns) tx)
  next_is = ap (λ (q : Request SiteEvent). answer_to plan.home (past_of plan turns) q) (request_is plan (past_of plan turns) verb tx)

  pub line_unspent : (lines : List Stamped) → IsGoingOn plan.home (past_of plan turns) → length lines < most_lines → (verb ≡ Asks.Begin → MayBegin plan.home (past_of plan turns) tx)
      → IsSpent lines tx (answer_next plan turns (command_of verb tx)) → ⊥
  line_unspent lines made less may (inl full) = omega (arith, less, full)
  line_unspent lines made less may (inr begun) =
      let past = past_of plan turns in
      soft_unspent plan.home past (rule_of verb) tx (own_request (rule_of verb) plan.home (plan.programs tx) past tx) made (own_soft plan.home past (rule_of verb) (plan.programs tx) tx) (λ begins. may (begin_is verb begins))
      (sym next_is ∙ begun)

  pub foreign_unspent : (lines : List Stamped) → plan.programs tx ≡ None → length lines < most_lines → IsSpent lines tx (answer_next plan turns (command_of verb tx)) → ⊥
  foreign_unspent lines none less (inl full) = omega (arith, less, full)
  foreign_unspent lines none less (inr begun) =
      let past = past_of plan turns in
      let declined = ap (λ (program : Option (List Step)). answer_to plan.home past (own_request (rule_of verb) plan.home program past tx)) none ∙ own_none plan.home past (rule_of verb) tx in
      let no : Say.None ≡ Say.Begun (attempt tx most_begun) = sym declined ∙ sym next_is ∙ begun in
      cc

  -- a begin behind so many attempts as a host begins would begin the next one
  pub last_spent : (lines : List Stamped) → IsSome (plan.programs tx) → attempts_of (past_of plan turns) tx ≡ most_begun → IsLastBegin plan.home (past_of plan turns) verb tx
      → IsSpent lines tx (answer_next plan turns (command_of verb tx))
  last_spent lines own count last =
      let past = past_of plan turns in
      let asked = ap (λ (v : Verb). answer_to plan.home past (own_request (rule_of v) plan.home (plan.programs tx) past tx)) last.begin in
      let further = subst (λ (n : ℕ). unless_begun (site_line plan.home past (Ev.Begin (attempt tx n))).answer ≡ Say.Spent) count last.further in
      inr (next_is ∙ asked ∙ own_begin plan.home past (plan.programs tx) tx own count ∙ begin_begins plan.home past (attempt tx most_begun) further)

module _ (plan : SitePlan) (turns : List SiteTurn) (verb : Verb) (tx : Tx) (told : LineParts) (K : Home → OwnPrograms → SitePast → Type 0)
    (serves : Serves K told.answer plan.home plan.programs (past_of plan turns) (own_request (rule_of verb) plan.home (plan.programs tx) (past_of plan turns) tx)) where
  pub asked_told : IsGoingOn plan.home (past_of plan turns) → IsSome (plan.programs tx) → (verb ≡ Asks.Begin → MayBegin plan.home (past_of plan turns) tx)
      → IsTold plan turns (record told { command = command_of verb tx; send = None; after = 0 }) None
  asked_told made own may =
      let past = past_of plan turns in
      let r = own_request (rule_of verb) plan.home (plan.programs tx) past tx in
      let soft = own_soft plan.home past (rule_of verb) (plan.programs tx) tx in
      let is = sym (request_is plan past verb tx) in
      record {
        command = command_own plan turns verb tx own;
        after = refl;
        small = omega arith;
        answer = subst (λ (q : Request SiteEvent). told.answer ≡ answer_to plan.home past q) is serves.said;
        sends = subst (λ (q : Request SiteEvent). [] ≡ sends_of plan.home past q) is (soft_sends plan.home past (rule_of verb) tx r soft);
        counted = λ other. subst (λ (q : Request SiteEvent). attempts_of (past_behind plan.home past q) other ≡ cond (begins_tx other told.answer) (suc (attempts_of past other)) (attempts_of past other)) is
            (soft_counts plan.home past (rule_of verb) tx r told.answer soft serves.said other);
        few = λ other e. soft_few plan.home past (rule_of verb) tx r told.answer made soft serves.said (λ begins. may (begin_is verb begins)) other e;
      }

  -- and the past goes on with it
  pub asked_past : past_behind plan.home (past_of plan turns) (own_request (rule_of verb) plan.home (plan.programs tx) (past_of plan turns) tx)
      ≡ past_behind plan.home (past_of plan turns) (request_of plan (past_of plan turns) (command_of verb tx) None)
  asked_past = ap (λ (q : Request SiteEvent). past_behind plan.home (past_of plan turns) q) (sym (request_is plan (past_of plan turns) verb tx))
