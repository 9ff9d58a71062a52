-- What the coordinator makes of what a client asks: its lines answer no cycle, and what is declined begins nothing.
use Rattle.std.proofs.Common.{◌≡◌, ℕ, suc, ◌==◌, Bool, true, false, cond, IsSome, Option, Some, None, List, [], ◌∷◌, length, refl, ap, ◌∙◌}
use Rattle.std.specs.Prelude.{nat_le}
use Rattle.mdb_base.specs.declared.acts.Step.{Step}
use Rattle.mdb_base.specs.declared.names.Tid.{Tid}
use Rattle.mdb_base.specs.declared.names.Tx.{Tx}
use Rattle.mdb_base.specs.Names.{same_tx}
use Rattle.mdb_base.specs.Words.{given, how_many, when, with_some}
use Rattle.mdb_base.proofs.ForCallers.{same_tx-equal}
use Rattle.fed_rules.specs.declared.answers.Answer.{Answer}
use Rattle.fed_rules.specs.declared.answers.Answer.TheVariants as Say
use Rattle.fed_rules.specs.declared.events.CoordEvent.{CoordEvent}
use Rattle.fed_rules.specs.declared.events.CoordEvent.TheVariants as Ev
use Rattle.fed_rules.specs.declared.messages.Due.{Due}
use Rattle.fed_rules.specs.Coord.{again_while, all_outstanding, answered, aborts, coord_line, defers_all, defers_some, held_back, let_through, of_again, of_fate, of_go, of_late, sends_all, sends_dues, unless_tripped}
use Rattle.fed_rules.specs.CoordCommands.{attempt_request, fate_request, go_next, go_request}
use Rattle.fed_rules.specs.CoordPast.{CoordHappening, CoordPast, Standing, Undecided, Decided, Gone, attempts_of, begun_by, begun_tids, disk, standing, trip}
use Rattle.fed_rules.specs.CoordRecords.{coord_frame}
use Rattle.fed_rules.specs.Happenings.{Trip, is_down, quiet, stopped, tripped}
use Rattle.fed_rules.specs.Requests.{Request, Submits, Declines, attempt, unless_begun}
use Rattle.fed_rules.specs.SitePast.{begins_tx}
use Rattle.coord_tables.specs.Terms.{Terms, line_of}
use Rattle.coord_laws.proofs.ForCallers.{Begins, coord_made}
use Rattle.global_manager.specs.Stands.{OwnPrograms}
use Rattle.fed_hosts.specs.declared.coord_asks.CoordCall.{CoordCall}
use Rattle.fed_hosts.specs.declared.coord_asks.CoordCall.TheVariants as Call
use Rattle.fed_rules.specs.Short.{IsShortAnswer}
use Rattle.fed_hosts.specs.CoordServing.{request_of_call}
use Rattle.fed_hosts.proofs.Own.{unbegun_unless}

-- an answer without a cycle
abbrev pub IsShort : CoordHappening → Type 0
IsShort x = IsShortAnswer x.answer

-- where the line would be spent behind the last attempt, it begins this one
abbrev GoesWhere : Tid → CoordHappening → Type 0
GoesWhere tid x = unless_begun x.answer ≡ Say.Spent → x.answer ≡ Say.Begun tid

goes_given : {A : Type 0} (tid : Tid) (o : Option A) (none : CoordHappening) (some : A → CoordHappening) → GoesWhere tid none → ((x : A) → GoesWhere tid (some x)) → GoesWhere tid (given o some none)
unfolding given
goes_given tid None none some n s = n
goes_given tid (Some x) none some n s = s x

goes_when : (tid : Tid) (b : Bool) (x y : CoordHappening) → GoesWhere tid x → GoesWhere tid y → GoesWhere tid (when b x y)
unfolding when
goes_when tid true x y p q = p
goes_when tid false x y p q = q

by_given : {A : Type 0} (o : Option A) (none : CoordHappening) (some : A → CoordHappening) → IsShort none → ((x : A) → IsShort (some x)) → IsShort (given o some none)
unfolding given
by_given None none some n s = n
by_given (Some x) none some n s = s x

by_when : (b : Bool) (x y : CoordHappening) → IsShort x → IsShort y → IsShort (when b x y)
unfolding when
by_when true x y p q = p
by_when false x y p q = q

short_some : (dues : List Due) → IsShortAnswer (defers_some dues)
short_some [] = tt
short_some (due ∷ dues) = tt

short_all : (held sent : List Due) → IsShortAnswer (defers_all held sent)
short_all held [] = short_some held
short_all held (due ∷ sent) = tt

short_fate : (b : Bool) → IsShortAnswer (cond b Say.Unbegun Say.Ended)
short_fate true = tt
short_fate false = tt

pub short_unless : (answer : Answer) → IsShortAnswer answer → IsShortAnswer (unless_begun answer)
short_unless (Say.Begun tid) short = tt
short_unless answer short = short

module _ (terms : Terms) (past : CoordPast) where
  short_go : (tid : Tid) (steps : List Step) → IsShort (of_go terms.protocols past tid steps)
  unfolding of_go
  short_go tid steps = by_given _ _ _ (by_given _ _ _ tt (λ running. tt)) (λ committed. tt)

  short_again_while : (tid : Tid) (s : Standing) → IsShort (again_while terms.protocols terms.policy past tid s)
  unfolding again_while sends_all sends_dues
  short_again_while tid Undecided =
      by_when _ _ _ tt (short_all (held_back terms.protocols terms.policy past tid (all_outstanding terms.protocols past tid)) (let_through terms.protocols terms.policy past tid (all_outstanding terms.protocols past tid)))
  short_again_while tid (Decided decision) = tt
  short_again_while tid Gone = tt

  short_again : (tid : Tid) → IsShort (of_again terms.protocols terms.policy past tid)
  unfolding of_again
  short_again tid = short_again_while tid (standing terms.protocols past tid)

  short_late : (tid : Tid) → IsShort (of_late terms.protocols past tid)
  unfolding of_late aborts
  short_late tid = by_when _ _ _ tt tt

  short_of_fate : (tx : Tx) → IsShort (of_fate past tx)
  unfolding of_fate
  short_of_fate tx = by_given _ _ _ (by_given _ _ _ (short_fate (attempts_of past tx == 0)) (λ running. tt)) (λ committed. tt)

  short_tripped : (o : Option Trip) (x : CoordHappening) → IsShort x → IsShort (tripped coord_frame (disk past) o x)
  unfolding tripped stopped
  short_tripped None x short = short
  short_tripped (Some t) x short = by_when (nat_le t.calls (length x.calls)) _ x tt short

  short_up : (event : CoordEvent) → IsShort (answered terms.protocols terms.policy past event) → IsShort (when (is_down past) (quiet event Say.Down) (unless_tripped past (answered terms.protocols terms.policy past event)))
  short_up event short = by_when (is_down past) _ _ tt (short_tripped (trip past) (answered terms.protocols terms.policy past event) short)

  line_go : (tid : Tid) (steps : List Step) → IsShort (line_of terms past (Ev.Go tid steps))
  unfolding coord_line answered
  line_go tid steps = short_up (Ev.Go tid steps) (short_go tid steps)

  line_again : (tid : Tid) → IsShort (line_of terms past (Ev.Again tid))
  unfolding coord_line answered
  line_again tid = short_up (Ev.Again tid) (short_again tid)

  line_late : (tid : Tid) → IsShort (line_of terms past (Ev.Late tid))
  unfolding coord_line answered
  line_late tid = short_up (Ev.Late tid) (short_late tid)

  line_fate : (tx : Tx) → IsShort (line_of terms past (Ev.Fate tx))
  unfolding coord_line answered
  line_fate tx = short_up (Ev.Fate tx) (short_of_fate tx)

module _ (terms : Terms) (past : CoordPast) (tid : Tid) (steps : List Step) where
  goes_rule : GoesWhere tid (of_go terms.protocols past tid steps)
  unfolding of_go
  goes_rule =
      goes_given tid _ _ _ (goes_given tid _ _ _ (λ e. refl) (λ running. λ e. (let no : Say.Running running ≡ Say.Spent = e in cc))) (λ committed. λ e. (let no : Say.Committed committed ≡ Say.Spent = e in cc))

  goes_tripped : (o : Option Trip) (x : CoordHappening) → GoesWhere tid x → GoesWhere tid (tripped coord_frame (disk past) o x)
  unfolding tripped stopped
  goes_tripped None x is = is
  goes_tripped (Some t) x is = goes_when tid (nat_le t.calls (length x.calls)) _ x (λ e. (let no : Say.Stopped _ ≡ Say.Spent = e in cc)) is

  -- a `go` that would be spent behind the last attempt begins its attempt
  pub go_begins : GoesWhere tid (line_of terms past (Ev.Go tid steps))
  unfolding coord_line answered
  go_begins = goes_when tid (is_down past) _ _ (λ e. (let no : Say.Down ≡ Say.Spent = e in cc)) (goes_tripped (trip past) (of_go terms.protocols past tid steps) goes_rule)

-- an attempt is begun by a `go` alone, and it is the next one of the transaction
abbrev pub GoesNext : CoordPast → CoordCall → CoordEvent → Type 0
GoesNext past call (Ev.Go tid steps) = (call ≡ Call.Go tid.tx) × (tid ≡ attempt tid.tx (attempts_of past tid.tx))
GoesNext past call (Ev.Take site message) = ⊥
GoesNext past call event = Unit {0}

-- a request for a line that answers no cycle, or an answer without one that begins nothing
abbrev pub IsSoftCall : Terms → CoordPast → CoordCall → Request CoordEvent → Type 0
IsSoftCall terms past call (Submits event) = IsShort (line_of terms past event) × GoesNext past call event
IsSoftCall terms past call (Declines answer) = IsShortAnswer answer × ((other : Tx) → begins_tx other answer ≡ false)

module _ (terms : Terms) (past : CoordPast) (call : CoordCall) where
  soft_given : {A : Type 0} (o : Option A) (none : Request CoordEvent) (some : A → Request CoordEvent) → IsSoftCall terms past call none → ((x : A) → IsSoftCall terms past call (some x))
      → IsSoftCall terms past call (given o some none)
  unfolding given
  soft_given None none some n s = n
  soft_given (Some x) none some n s = s x

  soft_when : (b : Bool) (x y : Request CoordEvent) → IsSoftCall terms past call x → IsSoftCall terms past call y → IsSoftCall terms past call (when b x y)
  unfolding when
  soft_when true x y p q = p
  soft_when false x y p q = q

  soft_attempt : (tid : Tid) (event : CoordEvent) → IsShort (line_of terms past event) → GoesNext past call event → IsSoftCall terms past call (attempt_request past tid event)
  unfolding attempt_request
  soft_attempt tid event short next = soft_when _ _ _ (short, next) (tt, λ t. refl)

  soft_fate : (program : Option (List Step)) (tx : Tx) → IsSoftCall terms past call (fate_request program tx)
  unfolding fate_request
  soft_fate program tx = soft_given _ _ _ (tt, λ t. refl) (λ steps. (line_fate terms past tx, tt))

  soft_next : (tx : Tx) (steps : List Step) → call ≡ Call.Go tx → IsSoftCall terms past call (go_next terms.protocols terms.policy past tx steps (attempts_of past tx))
  unfolding go_next
  soft_next tx steps is = soft_when _ _ _ (short_unless _ (line_go terms past _ steps), λ t. unbegun_unless _ t) (line_go terms past _ steps, (is, refl))

  soft_go : (program : Option (List Step)) (tx : Tx) → call ≡ Call.Go tx → IsSoftCall terms past call (go_request terms.protocols terms.policy program past tx)
  unfolding go_request
  soft_go program tx is = soft_given _ _ _ (tt, λ t. refl) (λ steps. soft_next tx steps is)

pub soft_call : (terms : Terms) (programs : OwnPrograms) (past : CoordPast) (call : CoordCall) → IsSoftCall terms past call (request_of_call terms programs past call)
soft_call terms programs past (Call.Go tx) = soft_go terms past (Call.Go tx) (programs tx) tx refl
soft_call terms programs past (Call.Fate tx) = soft_fate terms past (Call.Fate tx) (programs tx) tx
soft_call terms programs past (Call.Again tid) = soft_attempt terms past (Call.Again tid) tid (Ev.Again tid) (line_again terms past tid) tt
soft_call terms programs past (Call.Late tid) = soft_attempt terms past (Call.Late tid) tid (Ev.Late tid) (line_late terms past tid) tt

-- the line of an event is of that event
pub line_heard : (terms : Terms) (past : CoordPast) (event : CoordEvent) → (line_of terms past event).event ≡ event
line_heard terms past event = (coord_made terms.protocols terms.policy past event).heard

-- an answer that begins an attempt of the transaction is one to the `go` of this attempt
begun_of : (event : CoordEvent) (answer : Answer) (tx : Tx) → Begins event answer → begins_tx tx answer ≡ true → (tid : Tid) × (steps : List Step) × (event ≡ Ev.Go tid steps) × (tid.tx ≡ tx)
begun_of event (Say.Begun tid) tx by e = (tid, by.0, by.1, same_tx-equal tid.tx tx e)
begun_of event answer tx by e = cc

pub line_goes : (terms : Terms) (past : CoordPast) (event : CoordEvent) (tx : Tx) → begins_tx tx (line_of terms past event).answer ≡ true → (tid : Tid) × (steps : List Step) × (event ≡ Ev.Go tid steps) × (tid.tx ≡ tx)
line_goes terms past event tx e = begun_of event (line_of terms past event).answer tx (coord_made terms.protocols terms.policy past event).begun e

-- a line with this answer begins so many attempts
begun_count : (tx : Tx) (answer : Answer) (tids : List Tid) → how_many (λ (tid : Tid). same_tx tid.tx tx) (with_some (begun_by answer) tids)
    ≡ cond (begins_tx tx answer) (suc (how_many (λ (tid : Tid). same_tx tid.tx tx) tids)) (how_many (λ (tid : Tid). same_tx tid.tx tx) tids)
begun_count tx (Say.Begun tid) tids = refl
begun_count tx answer tids = refl

pub attempts_more : (tx : Tx) (x : CoordHappening) (past : CoordPast) → attempts_of (x ∷ past) tx ≡ cond (begins_tx tx x.answer) (suc (attempts_of past tx)) (attempts_of past tx)
attempts_more tx x past = begun_count tx x.answer (begun_tids past)

-- the `go` behind so many attempts as a host begins
next_go : (terms : Terms) (past : CoordPast) (tx : Tx) (steps : List Step) → go_next terms.protocols terms.policy past tx steps 31 ≡ Submits (Ev.Go (attempt tx 31) steps)
unfolding go_next when
next_go terms past tx steps = refl

pub known_go : (terms : Terms) (program : Option (List Step)) (past : CoordPast) (tx : Tx) → IsSome program → attempts_of past tx ≡ 31
    → (steps : List Step) × (go_request terms.protocols terms.policy program past tx ≡ Submits (Ev.Go (attempt tx 31) steps))
unfolding go_request given
known_go terms None past tx known count = cc
known_go terms (Some steps) past tx known count = (steps, ap (λ (n : ℕ). go_next terms.protocols terms.policy past tx steps n) count ∙ next_go terms past tx steps)

-- of a transaction that is no global one
pub unknown_go : (terms : Terms) (past : CoordPast) (tx : Tx) → go_request terms.protocols terms.policy None past tx ≡ Declines Say.None
unfolding go_request given
unknown_go terms past tx = refl
