-- What the site makes of what a client asks: its lines send nothing and answer no cycle, and what is declined begins nothing.
use Rattle.std.proofs.Common.{◌≡◌, ℕ, ◌==◌, Bool, true, false, cond, IsSome, Option, Some, None, List, [], length, refl, ap, ◌∙◌}
use Rattle.std.specs.Prelude.{nat_le}
use Rattle.mdb_base.specs.declared.acts.PlainAct.{PlainAct}
use Rattle.mdb_base.specs.declared.acts.PlainAct.TheVariants as Plain
use Rattle.mdb_base.specs.declared.acts.Step.{Step}
use Rattle.mdb_base.specs.declared.names.Tid.{Tid}
use Rattle.mdb_base.specs.declared.names.Tx.{Tx}
use Rattle.mdb_base.specs.declared.replies.Reply.{Reply}
use Rattle.mdb_base.specs.declared.replies.Reply.TheVariants as Reply_is
use Rattle.mdb_base.specs.declared.replies.Why.{Why}
use Rattle.mdb_base.specs.declared.replies.Why.TheVariants as Because
use Rattle.mdb_base.specs.Words.{given, when}
use Rattle.fed_rules.specs.declared.answers.Answer.{Answer}
use Rattle.fed_rules.specs.declared.answers.Answer.TheVariants as Say
use Rattle.fed_rules.specs.declared.events.SiteEvent.{SiteEvent}
use Rattle.fed_rules.specs.declared.events.SiteEvent.TheVariants as Ev
use Rattle.fed_rules.specs.Happenings.{Trip, is_down, quiet, stopped, tripped}
use Rattle.fed_rules.specs.Requests.{Request, Submits, Declines, attempt, unless_begun}
use Rattle.fed_rules.specs.Runs.{Run}
use Rattle.fed_rules.specs.Site as Site
use Rattle.fed_rules.specs.Site.{act_answer, answered, done, of_abort, of_act, of_back, of_begin, of_commit, of_fate, refusal_answer, reply_to, site_line, unless_tripped}
use Rattle.fed_rules.specs.SiteCommands as Rule
use Rattle.fed_rules.specs.SiteCommands.{answer_to, begin_next, next_step, own_request, request, when_done, with_live}
use Rattle.fed_rules.specs.SitePast.{SiteHappening, SitePast, attempts_of, begins_tx, disk, trip}
use Rattle.fed_rules.specs.SiteRecords.{Home, site_frame}
use Rattle.site_core.proofs.ForCallers.{by_given, by_when}
use Rattle.fed_rules.specs.Short.{IsShortAnswer}

-- a line that sends nothing and answers no cycle
abbrev pub IsAlone : SiteHappening → Type 0
IsAlone x = (x.sends ≡ []) × IsShortAnswer x.answer

-- an attempt is begun by a begin alone, and it is the next one of the transaction
abbrev pub BeginsNext : SitePast → Rule.Verb → Tx → SiteEvent → Type 0
BeginsNext past verb tx (Ev.Begin tid) = (verb ≡ Rule.Begin) × (tid ≡ attempt tx (attempts_of past tx))
BeginsNext past verb tx event = Unit {0}

-- a request for such a line, or an answer without a cycle that begins nothing
abbrev pub IsSoft : Home → SitePast → Rule.Verb → Tx → Request SiteEvent → Type 0
IsSoft home past verb tx (Submits event) = IsAlone (site_line home past event) × BeginsNext past verb tx event
IsSoft home past verb tx (Declines answer) = IsShortAnswer answer × ((other : Tx) → begins_tx other answer ≡ false)

-- where the line would be spent behind the last attempt, it begins this one
abbrev BeginsWhere : Tid → SiteHappening → Type 0
BeginsWhere tid x = unless_begun x.answer ≡ Say.Spent → x.answer ≡ Say.Begun tid

short_act : (tid : Tid) (reply : Reply) (act : PlainAct) → IsShortAnswer (act_answer tid reply act)
short_act tid (Reply_is.Wait by) act = tt
short_act tid (Reply_is.Refused (Because.Die by)) act = tt
short_act tid (Reply_is.Refused (Because.Late by)) act = tt
short_act tid (Reply_is.Refused (Because.Invalid by key)) act = tt
short_act tid (Reply_is.Refused (Because.TicketMoved by)) act = tt
short_act tid (Reply_is.Value value) (Plain.Read key) = tt
short_act tid (Reply_is.Value value) (Plain.Write key x) = tt
short_act tid Reply_is.Done (Plain.Read key) = tt
short_act tid Reply_is.Done (Plain.Write key x) = tt
short_act tid (Reply_is.Ticket ticket) act = tt
short_act tid Reply_is.Unknown act = tt

short_refusal : (why : Why) → IsShortAnswer (refusal_answer why)
short_refusal (Because.Invalid by key) = tt
short_refusal (Because.Die by) = tt
short_refusal (Because.Late by) = tt
short_refusal (Because.TicketMoved by) = tt

short_fate : (b : Bool) → IsShortAnswer (cond b Say.Unbegun Say.Ended)
short_fate true = tt
short_fate false = tt

short_unless : (answer : Answer) → IsShortAnswer answer → IsShortAnswer (unless_begun answer)
short_unless (Say.Begun tid) short = tt
short_unless answer short = short

pub unbegun_unless : (answer : Answer) (tx : Tx) → begins_tx tx (unless_begun answer) ≡ false
unbegun_unless (Say.Begun tid) tx = refl
unbegun_unless answer tx = refl

module _ (home : Home) (past : SitePast) where
  alone_begin : (t : Tid) → IsAlone (of_begin home past t)
  unfolding of_begin
  alone_begin t = by_given IsAlone _ _ _ (by_given IsAlone _ _ _ (refl, tt) (λ r. (refl, tt))) (λ c. (refl, tt))

  alone_act : (t : Tid) (act : PlainAct) → IsAlone (of_act home past t act)
  unfolding of_act
  alone_act t act = by_given IsAlone _ _ _ (refl, tt) (λ run. (refl, short_act t (reply_to home past run act) act))

  alone_commit : (t : Tid) → IsAlone (of_commit home past t)
  unfolding of_commit Site.seals_local
  alone_commit t = by_given IsAlone _ _ _ (refl, tt) (λ run. by_given IsAlone _ _ _ (refl, tt) (λ why. (refl, short_refusal why)))

  alone_abort : (t : Tid) → IsAlone (of_abort home past t)
  unfolding of_abort
  alone_abort t = by_given IsAlone _ _ _ (refl, tt) (λ run. (refl, tt))

  alone_fate : (tx : Tx) → IsAlone (of_fate home past tx)
  unfolding of_fate
  alone_fate tx = by_given IsAlone _ _ _ (by_given IsAlone _ _ _ (refl, short_fate (attempts_of past tx == 0)) (λ r. (refl, tt))) (λ c. (refl, tt))

  alone_tripped : (o : Option Trip) (x : SiteHappening) → IsAlone x → IsAlone (tripped site_frame (disk home past) o x)
  unfolding tripped stopped
  alone_tripped None x alone = alone
  alone_tripped (Some t) x alone = by_when IsAlone (nat_le t.calls (length x.calls)) _ x (refl, tt) alone

  alone_up : (event : SiteEvent) → IsAlone (answered home past event) → IsAlone (when (is_down past) (quiet event Say.Down) (unless_tripped home past (answered home past event)))
  alone_up event alone = by_when IsAlone (is_down past) _ _ (refl, tt) (alone_tripped (trip past) (answered home past event) alone)

  line_begin : (t : Tid) → IsAlone (site_line home past (Ev.Begin t))
  unfolding site_line answered
  line_begin t = alone_up (Ev.Begin t) (alone_begin t)

  line_act : (t : Tid) (act : PlainAct) → IsAlone (site_line home past (Ev.Act t act))
  unfolding site_line answered
  line_act t act = alone_up (Ev.Act t act) (alone_act t act)

  line_commit : (t : Tid) → IsAlone (site_line home past (Ev.Commit t))
  unfolding site_line answered
  line_commit t = alone_up (Ev.Commit t) (alone_commit t)

  line_abort : (t : Tid) → IsAlone (site_line home past (Ev.Abort t))
  unfolding site_line answered
  line_abort t = alone_up (Ev.Abort t) (alone_abort t)

  line_fate : (tx : Tx) → IsAlone (site_line home past (Ev.Fate tx))
  unfolding site_line answered
  line_fate tx = alone_up (Ev.Fate tx) (alone_fate tx)

  -- a start
  pub line_back : IsAlone (site_line home past Ev.Back)
  unfolding site_line of_back
  line_back = by_when IsAlone (is_down past) _ _ (alone_tripped (trip past) (of_back home past) (refl, tt)) (refl, tt)

  -- the setting of a trip
  pub line_trip : (calls cut : ℕ) → IsAlone (site_line home past (Ev.Trip calls cut))
  unfolding site_line
  line_trip calls cut = (refl, tt)

  begins_tripped : (tid : Tid) (o : Option Trip) (x : SiteHappening) → BeginsWhere tid x → BeginsWhere tid (tripped site_frame (disk home past) o x)
  unfolding tripped stopped
  begins_tripped tid None x is = is
  begins_tripped tid (Some t) x is = by_when (BeginsWhere tid) (nat_le t.calls (length x.calls)) _ x (λ e. (let no : Say.Stopped _ ≡ Say.Spent = e in cc)) is

  begins_rule : (tid : Tid) → BeginsWhere tid (of_begin home past tid)
  unfolding of_begin
  begins_rule tid =
      by_given (BeginsWhere tid) _ _ _ (by_given (BeginsWhere tid) _ _ _ (λ e. refl) (λ running. λ e. (let no : Say.Running running ≡ Say.Spent = e in cc))) (λ committed. λ e. (let no : Say.Committed committed ≡ Say.Spent = e in cc))

  -- a begin that would be spent behind the last attempt begins its attempt
  pub begin_begins : (tid : Tid) → BeginsWhere tid (site_line home past (Ev.Begin tid))
  unfolding site_line answered
  begin_begins tid =
      by_when (BeginsWhere tid) (is_down past) _ _ (λ e. (let no : Say.Down ≡ Say.Spent = e in cc)) (begins_tripped tid (trip past) (of_begin home past tid) (begins_rule tid))

  module _ (verb : Rule.Verb) (tx : Tx) where
    soft_given : {A : Type 0} (o : Option A) (none : Request SiteEvent) (some : A → Request SiteEvent) → IsSoft home past verb tx none → ((x : A) → IsSoft home past verb tx (some x))
        → IsSoft home past verb tx (given o some none)
    unfolding given
    soft_given None none some n s = n
    soft_given (Some x) none some n s = s x

    soft_when : (b : Bool) (x y : Request SiteEvent) → IsSoft home past verb tx x → IsSoft home past verb tx y → IsSoft home past verb tx (when b x y)
    unfolding when
    soft_when true x y p q = p
    soft_when false x y p q = q

    soft_live : (next : Tid → Run → Request SiteEvent) → ((tid : Tid) (run : Run) → IsSoft home past verb tx (next tid run)) → IsSoft home past verb tx (with_live home past tx next)
    unfolding with_live
    soft_live next soft = soft_when _ _ _ (tt, λ t. refl) (soft_given _ _ _ (tt, λ t. refl) (λ tid. soft_given _ _ _ (tt, λ t. refl) (λ run. soft tid run)))

    soft_step : (steps : List Step) (tid : Tid) (run : Run) → IsSoft home past verb tx (next_step steps tid run)
    unfolding next_step
    soft_step steps tid run = soft_given _ _ _ (tt, λ t. refl) (λ step. (line_act tid _, tt))

    soft_commit : (steps : List Step) (tid : Tid) (run : Run) → IsSoft home past verb tx (when_done steps tid run)
    unfolding when_done
    soft_commit steps tid run = soft_when _ _ _ (tt, λ t. refl) (line_commit tid, tt)

    soft_begin : verb ≡ Rule.Begin → IsSoft home past verb tx (begin_next home past tx (attempts_of past tx))
    unfolding begin_next
    soft_begin is = soft_when _ _ _ (short_unless _ (line_begin _).1, λ t. unbegun_unless _ t) (line_begin _, (is, refl))

  soft_request : (verb : Rule.Verb) (steps : List Step) (tx : Tx) → IsSoft home past verb tx (request verb home steps past tx)
  unfolding request
  soft_request Rule.Begin steps tx = soft_begin Rule.Begin tx refl
  soft_request Rule.Step_on steps tx = soft_live Rule.Step_on tx (next_step steps) (soft_step Rule.Step_on tx steps)
  soft_request Rule.Commit steps tx = soft_live Rule.Commit tx (when_done steps) (soft_commit Rule.Commit tx steps)
  soft_request Rule.Abort steps tx = soft_live Rule.Abort tx (λ tid run. Submits (Ev.Abort tid)) (λ tid run. (line_abort tid, tt))
  soft_request Rule.Fate steps tx = (line_fate tx, tt)

  pub own_soft : (verb : Rule.Verb) (program : Option (List Step)) (tx : Tx) → IsSoft home past verb tx (own_request verb home program past tx)
  unfolding own_request
  own_soft verb program tx = soft_given verb tx program _ _ (tt, λ t. refl) (λ steps. soft_request verb steps tx)

-- the begin behind so many attempts as a host begins
next_begin : (home : Home) (past : SitePast) (tx : Tx) → answer_to home past (begin_next home past tx 31) ≡ (site_line home past (Ev.Begin (attempt tx 31))).answer
unfolding begin_next when
next_begin home past tx = refl

pub own_begin : (home : Home) (past : SitePast) (program : Option (List Step)) (tx : Tx) → IsSome program → attempts_of past tx ≡ 31
    → answer_to home past (own_request Rule.Begin home program past tx) ≡ (site_line home past (Ev.Begin (attempt tx 31))).answer
unfolding own_request request given
own_begin home past None tx own count = cc
own_begin home past (Some steps) tx own count = ap (λ (n : ℕ). answer_to home past (begin_next home past tx n)) count ∙ next_begin home past tx

-- of a transaction that is none of the site's own
pub own_none : (home : Home) (past : SitePast) (verb : Rule.Verb) (tx : Tx) → answer_to home past (own_request verb home None past tx) ≡ Say.None
unfolding own_request given
own_none home past verb tx = refl
