-- What a site answers to a command is one of the answers that the command can have, and it sends only where that answer can.
use Rattle.std.proofs.Common.{◌≡◌, ◌⊎◌, ℕ, ◌<◌, ◌==◌, Bool, true, false, cond, Option, Some, None, List, [], ◌∷◌, inl, inr, refl, sym, subst}
use Rattle.std.proofs.lemmas.Bool.{lt-ltb}
use Rattle.mdb_base.specs.declared.acts.PlainAct.{PlainAct}
use Rattle.mdb_base.specs.declared.acts.PlainAct.TheVariants.{Read, Write}
use Rattle.mdb_base.specs.declared.names.SiteId.{SiteId}
use Rattle.mdb_base.specs.declared.names.Tid.{Tid}
use Rattle.mdb_base.specs.declared.names.Tx.{Tx}
use Rattle.mdb_base.specs.declared.replies.Reply.{Reply}
use Rattle.mdb_base.specs.declared.replies.Reply.TheVariants as Reply_is
use Rattle.mdb_base.specs.declared.replies.Why.{Why}
use Rattle.mdb_base.specs.declared.replies.Why.TheVariants as Because
use Rattle.mdb_base.proofs.ForCallers.{by_given, when_either}
use Rattle.presumptions.specs.declared.Decision.{Decision}
use Rattle.fed_rules.specs.declared.answers.Answer.TheVariants as Say
use Rattle.fed_rules.specs.declared.commands.Command.{Command}
use Rattle.fed_rules.specs.declared.commands.Command.TheVariants as Cmd
use Rattle.fed_rules.specs.declared.events.SiteEvent.TheVariants as Ev
use Rattle.fed_rules.specs.declared.messages.ToSite.{ToSite}
use Rattle.fed_rules.specs.declared.messages.ToSite.TheVariants as To
use Rattle.fed_rules.specs.Happenings.{Trip, quiet, stopped, tripped}
use Rattle.fed_rules.specs.Runs.{Begins, EngineLine, Run, begun}
use Rattle.fed_rules.specs.Site.{act_answer, answered, did, first_work, next_number, next_take, next_work, of_abort, of_act, of_ask, of_back, of_begin, of_check, of_commit, of_decide, of_drop, of_fate, of_give, of_prepare, of_take, of_work, prepare_live, refusal_answer, repeated, reply_to, seals_global, seals_local, settles, site_line, take_live, unheld, unknown, unless_tripped, votes_again, votes_no, votes_yes, work_live}
use Rattle.fed_rules.specs.SitePast.{SiteHappening, SitePast, attempts_of, disk, engine_lines, epoch_start, trip}
use Rattle.fed_rules.specs.SiteRecords.{Held, Home, site_frame}
use Rattle.commit_laws.proofs.ForCallers.{HasCalls, uncalled}
use Rattle.line_text.specs.Fits.{answer_fits, is_commit_answer, is_only, is_step_answer, sending_site}
use Rattle.line_laws.proofs.SiteReplies.{IsOperation, SealsSo, access_operation, kept_operation, seal_refuses, ticket_operation}

-- a site's answer is one that the command can have, and it sends only where that answer can
pub record IsFit (command : Command) (site : SiteId) (x : SiteHappening) : Type 0 where
  pub answer : answer_fits command x.answer ≡ true
  pub other : is_only x.answer ≡ false
  pub sends : (x.sends ≡ []) ⊎ (sending_site command x.answer ≡ Some site)

-- and it makes no disk call
record IsStill (command : Command) (site : SiteId) (x : SiteHappening) : Type 0 where
  fit : IsFit command site x
  calls : x.calls ≡ []

-- ---- the branches of a rule

-- a line without disk calls fits as the rules say it
still_fits : (command : Command) (site : SiteId) (home : Home) (past : SitePast) (x : SiteHappening) → HasCalls (trip past) → IsStill command site x → IsFit command site (unless_tripped home past x)
still_fits command site home past x armed still = subst (IsFit command site) (sym (uncalled home past x armed still.calls)) still.fit

-- and so does one that may be stopped, where the command can have that answer
stopped_fits : (command : Command) (site : SiteId) (home : Home) (past : SitePast) (x : SiteHappening) → ((kept : ℕ) → answer_fits command (Say.Stopped kept) ≡ true) → IsFit command site x → IsFit command site (unless_tripped home past x)
unfolding tripped stopped
stopped_fits command site home past x stop q = by_trip (trip past)
  where
    by_trip : (t : Option Trip) → IsFit command site (tripped site_frame (disk home past) t x)
    by_trip None = q
    by_trip (Some t) = when_either (IsFit command site) _ _ _ (record { answer = stop _; other = refl; sends = inl refl }) q

-- ---- local transactions

begin_still : (home : Home) (past : SitePast) (tid : Tid) (tx : Tx) (site : SiteId) → IsStill (Cmd.Begin tx) site (of_begin home past tid)
unfolding of_begin
begin_still home past tid tx site =
    by_given (IsStill (Cmd.Begin tx) site) _ _ _
    (by_given (IsStill (Cmd.Begin tx) site) _ _ _ (record { fit = record { answer = refl; other = refl; sends = inl refl }; calls = refl })
    (λ running e. record { fit = record { answer = refl; other = refl; sends = inl refl }; calls = refl }))
    (λ committed e. record { fit = record { answer = refl; other = refl; sends = inl refl }; calls = refl })

pub begin_line : (home : Home) (past : SitePast) (tid : Tid) (tx : Tx) (site : SiteId) → HasCalls (trip past) → IsFit (Cmd.Begin tx) site (site_line home past (Ev.Begin tid))
unfolding site_line answered
begin_line home past tid tx site p =
    when_either (IsFit (Cmd.Begin tx) site) _ _ _ (record { answer = refl; other = refl; sends = inl refl }) (still_fits (Cmd.Begin tx) site home past (of_begin home past tid) p (begin_still home past tid tx site))

act_fits : (tid : Tid) (reply : Reply) (act : PlainAct) → (is_step_answer (act_answer tid reply act) ≡ true) × (is_only (act_answer tid reply act) ≡ false)
act_fits tid (Reply_is.Wait by) act = (refl, refl)
act_fits tid (Reply_is.Refused (Because.Die by)) act = (refl, refl)
act_fits tid (Reply_is.Refused (Because.Late by)) act = (refl, refl)
act_fits tid (Reply_is.Refused (Because.Invalid by key)) act = (refl, refl)
act_fits tid (Reply_is.Refused (Because.TicketMoved by)) act = (refl, refl)
act_fits tid (Reply_is.Value value) (Read key) = (refl, refl)
act_fits tid (Reply_is.Value value) (Write key n) = (refl, refl)
act_fits tid Reply_is.Done (Read key) = (refl, refl)
act_fits tid Reply_is.Done (Write key n) = (refl, refl)
act_fits tid (Reply_is.Ticket ticket) act = (refl, refl)
act_fits tid Reply_is.Unknown act = (refl, refl)

act_still : (home : Home) (past : SitePast) (tid : Tid) (act : PlainAct) (tx : Tx) (site : SiteId) → IsStill (Cmd.Step tx) site (of_act home past tid act)
unfolding of_act
act_still home past tid act tx site =
    by_given (IsStill (Cmd.Step tx) site) _ _ _ (record { fit = record { answer = refl; other = refl; sends = inl refl }; calls = refl })
    (λ run e. record {
      fit = record {
        answer = (act_fits tid (reply_to home past run act) act).0;
        other = (act_fits tid (reply_to home past run act) act).1;
        sends = inl refl;
      };
      calls = refl;
    })

pub act_line : (home : Home) (past : SitePast) (tid : Tid) (act : PlainAct) (tx : Tx) (site : SiteId) → HasCalls (trip past) → IsFit (Cmd.Step tx) site (site_line home past (Ev.Act tid act))
unfolding site_line answered
act_line home past tid act tx site p =
    when_either (IsFit (Cmd.Step tx) site) _ _ _ (record { answer = refl; other = refl; sends = inl refl }) (still_fits (Cmd.Step tx) site home past (of_act home past tid act) p (act_still home past tid act tx site))

refusal_fits : (why : Why) → (is_commit_answer (refusal_answer why) ≡ true) × (is_only (refusal_answer why) ≡ false)
refusal_fits (Because.Die by) = (refl, refl)
refusal_fits (Because.Late by) = (refl, refl)
refusal_fits (Because.Invalid by key) = (refl, refl)
refusal_fits (Because.TicketMoved by) = (refl, refl)

commit_fit : (home : Home) (past : SitePast) (tid : Tid) (tx : Tx) (site : SiteId) → IsFit (Cmd.Commit tx) site (of_commit home past tid)
unfolding of_commit seals_local
commit_fit home past tid tx site =
    by_given (IsFit (Cmd.Commit tx) site) _ _ _ (record { answer = refl; other = refl; sends = inl refl })
    (λ run e. by_given (IsFit (Cmd.Commit tx) site) _ _ _ (record { answer = refl; other = refl; sends = inl refl })
    (λ why f. record { answer = (refusal_fits why).0; other = (refusal_fits why).1; sends = inl refl }))

pub commit_line : (home : Home) (past : SitePast) (tid : Tid) (tx : Tx) (site : SiteId) → IsFit (Cmd.Commit tx) site (site_line home past (Ev.Commit tid))
unfolding site_line answered
commit_line home past tid tx site =
    when_either (IsFit (Cmd.Commit tx) site) _ _ _ (record { answer = refl; other = refl; sends = inl refl })
    (stopped_fits (Cmd.Commit tx) site home past (of_commit home past tid) (λ kept. refl) (commit_fit home past tid tx site))

abort_still : (home : Home) (past : SitePast) (tid : Tid) (tx : Tx) (site : SiteId) → IsStill (Cmd.Abort tx) site (of_abort home past tid)
unfolding of_abort
abort_still home past tid tx site =
    by_given (IsStill (Cmd.Abort tx) site) _ _ _ (record { fit = record { answer = refl; other = refl; sends = inl refl }; calls = refl })
    (λ run e. record { fit = record { answer = refl; other = refl; sends = inl refl }; calls = refl })

pub abort_line : (home : Home) (past : SitePast) (tid : Tid) (tx : Tx) (site : SiteId) → HasCalls (trip past) → IsFit (Cmd.Abort tx) site (site_line home past (Ev.Abort tid))
unfolding site_line answered
abort_line home past tid tx site p =
    when_either (IsFit (Cmd.Abort tx) site) _ _ _ (record { answer = refl; other = refl; sends = inl refl }) (still_fits (Cmd.Abort tx) site home past (of_abort home past tid) p (abort_still home past tid tx site))

fate_still : (home : Home) (past : SitePast) (tx other : Tx) (site : SiteId) → IsStill (Cmd.Fate other) site (of_fate home past tx)
unfolding of_fate
fate_still home past tx other site =
    by_given (IsStill (Cmd.Fate other) site) _ _ _
    (by_given (IsStill (Cmd.Fate other) site) _ _ _ (unbegun (attempts_of past tx == 0))
    (λ running e. record { fit = record { answer = refl; other = refl; sends = inl refl }; calls = refl }))
    (λ committed e. record { fit = record { answer = refl; other = refl; sends = inl refl }; calls = refl })
  where
    unbegun : (b : Bool) → IsStill (Cmd.Fate other) site (quiet (Ev.Fate tx) (cond b Say.Unbegun Say.Ended))
    unbegun true = record { fit = record { answer = refl; other = refl; sends = inl refl }; calls = refl }
    unbegun false = record { fit = record { answer = refl; other = refl; sends = inl refl }; calls = refl }

pub fate_line : (home : Home) (past : SitePast) (tx other : Tx) (site : SiteId) → HasCalls (trip past) → IsFit (Cmd.Fate other) site (site_line home past (Ev.Fate tx))
unfolding site_line answered
fate_line home past tx other site p =
    when_either (IsFit (Cmd.Fate other) site) _ _ _ (record { answer = refl; other = refl; sends = inl refl }) (still_fits (Cmd.Fate other) site home past (of_fate home past tx) p (fate_still home past tx other site))

-- ---- stops, trips, starts and Checkpoints

pub halt_line : (home : Home) (past : SitePast) (actor cut : ℕ) (site : SiteId) → IsFit (Cmd.Halt actor cut) site (site_line home past (Ev.Halt cut))
unfolding site_line stopped
halt_line home past actor cut site =
    when_either (IsFit (Cmd.Halt actor cut) site) _ _ _ (record { answer = refl; other = refl; sends = inl refl }) (record { answer = refl; other = refl; sends = inl refl })

pub trip_line : (home : Home) (past : SitePast) (actor calls cut : ℕ) (site : SiteId) → IsFit (Cmd.Trip actor calls cut) site (site_line home past (Ev.Trip calls cut))
unfolding site_line
trip_line home past actor calls cut site = record { answer = refl; other = refl; sends = inl refl }

pub back_line : (home : Home) (past : SitePast) (actor : ℕ) (site : SiteId) → 0 < actor → IsFit (Cmd.Back actor) site (site_line home past Ev.Back)
unfolding site_line of_back
back_line home past actor site some =
    when_either (IsFit (Cmd.Back actor) site) _ _ _
    (stopped_fits (Cmd.Back actor) site home past (of_back home past) (λ kept. refl) (record { answer = lt-ltb 0 actor some; other = refl; sends = inl refl }))
    (record { answer = refl; other = refl; sends = inl refl })

check_fit : (home : Home) (past : SitePast) (actor : ℕ) (site : SiteId) → IsFit (Cmd.Check actor) site (of_check home past)
unfolding of_check
check_fit home past actor site =
    when_either (IsFit (Cmd.Check actor) site) _ _ _ (record { answer = refl; other = refl; sends = inl refl }) (record { answer = refl; other = refl; sends = inl refl })

pub check_line : (home : Home) (past : SitePast) (actor : ℕ) (site : SiteId) → IsFit (Cmd.Check actor) site (site_line home past Ev.Check)
unfolding site_line answered
check_line home past actor site =
    when_either (IsFit (Cmd.Check actor) site) _ _ _ (record { answer = refl; other = refl; sends = inl refl })
    (stopped_fits (Cmd.Check actor) site home past (of_check home past) (λ kept. refl) (check_fit home past actor site))

-- ---- messages of the coordinator, inquiries and drops

module _ (site : SiteId) (place : ℕ) where
  abbrev give : Command
  give = Cmd.Give site place

  did_fit : (home : Home) (past : SitePast) (message : ToSite) (tid : Tid) (n : ℕ) (reply : Reply) (lines : List EngineLine) → IsOperation reply → IsFit give site (did home past message tid n reply lines)
  unfolding did
  did_fit home past message tid n reply lines o = record { answer = o; other = refl; sends = inr refl }

  unknown_fit : (home : Home) (past : SitePast) (message : ToSite) (tid : Tid) (n : ℕ) → IsFit give site (unknown home past message tid n)
  unfolding unknown
  unknown_fit home past message tid n = did_fit home past message tid n _ _ refl

  repeated_fit : (home : Home) (past : SitePast) (message : ToSite) (tid : Tid) (n : ℕ) (run : Run) → IsFit give site (repeated home past message tid n run)
  unfolding repeated
  repeated_fit home past message tid n run = when_either (IsFit give site) _ _ _ (did_fit home past message tid n _ _ (kept_operation run.ticket run.acts)) (unknown_fit home past message tid n)

  work_live_fit : (home : Home) (past : SitePast) (message : ToSite) (tid : Tid) (e n : ℕ) (act : PlainAct) (run : Run) → IsFit give site (work_live home past message tid e n act run)
  unfolding work_live next_work
  work_live_fit home past message tid e n act run =
      when_either (IsFit give site) _ _ _ (unknown_fit home past message tid n)
      (when_either (IsFit give site) _ _ _ (did_fit home past message tid n _ _ (access_operation (epoch_start home past) (engine_lines past) run act)) (repeated_fit home past message tid n run))

  take_live_fit : (home : Home) (past : SitePast) (message : ToSite) (tid : Tid) (e n : ℕ) (run : Run) → IsFit give site (take_live home past message tid e n run)
  unfolding take_live next_take
  take_live_fit home past message tid e n run =
      when_either (IsFit give site) _ _ _ (unknown_fit home past message tid n)
      (when_either (IsFit give site) _ _ _ (did_fit home past message tid n _ _ (ticket_operation (epoch_start home past) (engine_lines past) run)) (repeated_fit home past message tid n run))

  first_fit : (home : Home) (past : SitePast) (message : ToSite) (tid : Tid) (n : ℕ) (act : PlainAct) → IsFit give site (first_work home past message tid n act)
  unfolding first_work
  first_fit home past message tid n act = did_fit home past message tid n _ _ (access_operation (epoch_start home past) (Begins tid (next_number home past) ∷ engine_lines past) (begun tid (next_number home past)) act)

  work_fit : (home : Home) (past : SitePast) (tid : Tid) (e n : ℕ) (act : PlainAct) → IsFit give site (of_work home past tid e n act)
  unfolding of_work
  work_fit home past tid e n act =
      let m = To.Work tid e n act in
      when_either (IsFit give site) _ _ _ (unknown_fit home past m tid n)
      (by_given (IsFit give site) _ _ _ (when_either (IsFit give site) _ _ _ (first_fit home past m tid n act) (unknown_fit home past m tid n)) (λ run f. work_live_fit home past m tid e n act run))

  take_fit : (home : Home) (past : SitePast) (tid : Tid) (e n : ℕ) → IsFit give site (of_take home past tid e n)
  unfolding of_take
  take_fit home past tid e n =
      let m = To.Take tid e n in
      when_either (IsFit give site) _ _ _ (unknown_fit home past m tid n) (by_given (IsFit give site) _ _ _ (unknown_fit home past m tid n) (λ run f. take_live_fit home past m tid e n run))

  no_fit : (tid : Tid) (e n : ℕ) (why : Option Why) (lines : List EngineLine) → SealsSo why → IsFit give site (votes_no tid e n why lines)
  unfolding votes_no
  no_fit tid e n why lines s = record { answer = s; other = refl; sends = inr refl }

  again_fit : (tid : Tid) (e n : ℕ) (held : Held) → IsFit give site (votes_again tid e n held)
  unfolding votes_again
  again_fit tid e n held = record { answer = refl; other = refl; sends = inr refl }

  yes_fit : (home : Home) (past : SitePast) (tid : Tid) (e n : ℕ) (run : Run) (ticket : ℕ) → IsFit give site (votes_yes home past tid e n run ticket)
  unfolding votes_yes
  yes_fit home past tid e n run ticket = record { answer = refl; other = refl; sends = inr refl }

  prepare_fit : (home : Home) (past : SitePast) (tid : Tid) (e n : ℕ) → IsFit give site (of_prepare home past tid e n)
  unfolding of_prepare prepare_live seals_global
  prepare_fit home past tid e n =
      by_given (IsFit give site) _ _ _
      (by_given (IsFit give site) _ _ _ (no_fit tid e n _ _ refl)
      (λ run f. when_either (IsFit give site) _ _ _
      (by_given (IsFit give site) _ _ _ (no_fit tid e n _ _ refl)
      (λ ticket g. by_given (IsFit give site) _ _ _ (yes_fit home past tid e n run ticket)
      (λ why h. no_fit tid e n (Some why) _ (subst SealsSo h (seal_refuses home.engine _ _ run)))))
      (no_fit tid e n _ _ refl)))
      (λ held f. when_either (IsFit give site) _ _ _ (again_fit tid e n held) (no_fit tid e n _ _ refl))

  decide_fit : (home : Home) (past : SitePast) (tid : Tid) (decision : Decision) → IsFit give site (of_decide home past tid decision)
  unfolding of_decide settles unheld
  decide_fit home past tid decision =
      by_given (IsFit give site) _ _ _
      (by_given (IsFit give site) _ _ _ (record { answer = refl; other = refl; sends = inr refl }) (λ run f. record { answer = refl; other = refl; sends = inr refl }))
      (λ held f. record { answer = refl; other = refl; sends = inr refl })

  give_fit : (home : Home) (past : SitePast) (message : ToSite) → IsFit give site (of_give home past message)
  unfolding of_give
  give_fit home past (To.Work tid e n act) = work_fit home past tid e n act
  give_fit home past (To.Take tid e n) = take_fit home past tid e n
  give_fit home past (To.Prepare tid e n) = prepare_fit home past tid e n
  give_fit home past (To.Decide tid decision) = decide_fit home past tid decision

  pub give_line : (home : Home) (past : SitePast) (message : ToSite) → IsFit (Cmd.Give site place) site (site_line home past (Ev.Give message))
  unfolding site_line answered
  give_line home past message =
      when_either (IsFit give site) _ _ _ (record { answer = refl; other = refl; sends = inl refl })
      (stopped_fits give site home past (of_give home past message) (λ kept. refl) (give_fit home past message))

ask_still : (home : Home) (past : SitePast) (tid : Tid) (site : SiteId) (other : Tid) → IsStill (Cmd.Ask site other) site (of_ask home past tid)
unfolding of_ask
ask_still home past tid site other =
    by_given (IsStill (Cmd.Ask site other) site) _ _ _ (record { fit = record { answer = refl; other = refl; sends = inl refl }; calls = refl })
    (λ held e. record { fit = record { answer = refl; other = refl; sends = inr refl }; calls = refl })

pub ask_line : (home : Home) (past : SitePast) (tid : Tid) (site : SiteId) (other : Tid) → HasCalls (trip past) → IsFit (Cmd.Ask site other) site (site_line home past (Ev.Ask tid))
unfolding site_line answered
ask_line home past tid site other p =
    when_either (IsFit (Cmd.Ask site other) site) _ _ _ (record { answer = refl; other = refl; sends = inl refl }) (still_fits (Cmd.Ask site other) site home past (of_ask home past tid) p (ask_still home past tid site other))

drop_still : (home : Home) (past : SitePast) (tid : Tid) (site : SiteId) (other : Tid) → IsStill (Cmd.Drop site other) site (of_drop home past tid)
unfolding of_drop
drop_still home past tid site other =
    when_either (IsStill (Cmd.Drop site other) site) _ _ _ (record { fit = record { answer = refl; other = refl; sends = inl refl }; calls = refl })
    (by_given (IsStill (Cmd.Drop site other) site) _ _ _ (record { fit = record { answer = refl; other = refl; sends = inl refl }; calls = refl })
    (λ run e. record { fit = record { answer = refl; other = refl; sends = inl refl }; calls = refl }))

pub drop_line : (home : Home) (past : SitePast) (tid : Tid) (site : SiteId) (other : Tid) → HasCalls (trip past) → IsFit (Cmd.Drop site other) site (site_line home past (Ev.Drop tid))
unfolding site_line answered
drop_line home past tid site other p =
    when_either (IsFit (Cmd.Drop site other) site) _ _ _ (record { answer = refl; other = refl; sends = inl refl }) (still_fits (Cmd.Drop site other) site home past (of_drop home past tid) p (drop_still home past tid site other))
