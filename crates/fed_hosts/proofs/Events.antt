-- What a turn of a site's host hands to its site is told as the rules say.
use Rattle.std.proofs.Common.{◌≡◌, suc, ◌<◌, ◌^◌, true, cond, Option, List, sym, ap, ◌∙◌, subst}
use Rattle.std.specs.Prelude.{option_to_list}
use Rattle.mdb_base.specs.declared.names.Tid.{Tid}
use Rattle.mdb_base.specs.declared.names.Tx.{Tx}
use Rattle.fed_rules.specs.declared.answers.Answer.{Answer}
use Rattle.fed_rules.specs.declared.events.SiteEvent.{SiteEvent}
use Rattle.fed_rules.specs.declared.events.SiteEvent.TheVariants as Ev
use Rattle.fed_rules.specs.declared.messages.ToSite.{ToSite}
use Rattle.fed_rules.specs.Requests.{Request, Submits}
use Rattle.fed_rules.specs.Site.{site_line}
use Rattle.fed_rules.specs.SiteCommands.{answer_to, past_behind}
use Rattle.fed_rules.specs.SitePast.{attempts_of, begins_tx}
use Rattle.fed_messages.specs.declared.Envelope.{Envelope}
use Rattle.fed_rules.proofs.ForCallers.{BeginsNone}
use Rattle.site_core.specs.Made.{IsGoingOn}
use Rattle.fed_hosts.specs.declared.site_actor.LineParts.{LineParts}
use Rattle.fed_hosts.specs.Carrying.{IsTold}
use Rattle.host_laws.specs.History.{IsCommand}
use Rattle.fed_hosts.specs.Keeps.{most_begun}
use Rattle.host_laws.specs.Lines.{stamp_of}
use Rattle.host_laws.specs.Plans.{SitePlan}
use Rattle.host_laws.specs.Turns.{SiteTurn, past_of, request_of, sends_of}
use Rattle.fed_hosts.proofs.Asked.{line_begins}

none_begun : (event : SiteEvent) (tid : Tid) → BeginsNone event → event ≡ Ev.Begin tid → ⊥
none_begun event tid none is = subst BeginsNone is none

module _ (plan : SitePlan) (turns : List SiteTurn) (told : LineParts) (took : Option (Envelope ToSite)) (event : SiteEvent) where
  pub event_told : IsCommand plan turns told.command took → told.after ≡ stamp_of took → stamp_of took < 2 ^ 62 → request_of plan (past_of plan turns) told.command took ≡ Submits event
      → IsGoingOn plan.home (past_of plan turns) → BeginsNone event → told.answer ≡ (site_line plan.home (past_of plan turns) event).answer
      → option_to_list told.send ≡ (site_line plan.home (past_of plan turns) event).sends → IsTold plan turns told took
  event_told command after small is made none said sent =
      let past = past_of plan turns in
      record {
        command = command;
        after = after;
        small = small;
        answer = said ∙ sym (ap (λ (r : Request SiteEvent). answer_to plan.home past r) is);
        sends = sent ∙ sym (ap (λ (r : Request SiteEvent). sends_of plan.home past r) is);
        counted = λ tx. ap (λ (r : Request SiteEvent). attempts_of (past_behind plan.home past r) tx) is
            ∙ ap (λ (a : Answer). cond (begins_tx tx a) (suc (attempts_of past tx)) (attempts_of past tx)) (sym said);
        few = λ tx e. few tx (ap (λ (a : Answer). begins_tx tx a) (sym said) ∙ e);
      }
    where
      few : (tx : Tx) → begins_tx tx (site_line plan.home (past_of plan turns) event).answer ≡ true → attempts_of (past_of plan turns) tx < most_begun
      few tx begins = let (tid, begin, of) = line_begins plan.home (past_of plan turns) event tx made begins in absurd (none_begun event tid none begin)
