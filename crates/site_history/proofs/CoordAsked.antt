-- What the coordinator asked of a site by a Prepare stays done, so all Prepares of an attempt to a site name one epoch.
use Rattle.std.proofs.Common.{◌≡◌, ℕ, ◌<◌, ◌≤◌, zero, suc, Bool, true, false, cond, ◌&&◌, ◌||◌, Option, Some, None, List, [], ◌∷◌, drop, refl, sym, ap, ◌∙◌, subst, arith, eqb-true}
use Rattle.std.specs.Prelude.{◌==◌, is_none}
use Rattle.std.proofs.lemmas.Bool.{and_parts}
use Rattle.mdb_base.specs.declared.acts.Step.{Step}
use Rattle.mdb_base.specs.declared.names.SiteId.{SiteId}
use Rattle.mdb_base.specs.declared.names.Tid.{Tid}
use Rattle.mdb_base.specs.declared.names.Tx.{Tx}
use Rattle.mdb_base.specs.declared.replies.Reply.{Reply}
use Rattle.mdb_base.specs.Names.{same_site, same_tid, same_tx}
use Rattle.mdb_base.specs.Words.{how_many, some_of, those, with_some}
use Rattle.mdb_base.proofs.ForCallers.{same_tid-equal, same_tx-refl}
use Rattle.fed_rules.specs.declared.answers.Answer.{Answer}
use Rattle.fed_rules.specs.declared.answers.Answer.TheVariants as Say
use Rattle.fed_rules.specs.declared.events.CoordEvent.{CoordEvent}
use Rattle.fed_rules.specs.declared.events.CoordEvent.TheVariants as Ev
use Rattle.fed_rules.specs.declared.messages.Due.TheVariants as Due_is
use Rattle.fed_rules.specs.declared.messages.FromSite.TheVariants as From
use Rattle.fed_rules.specs.Coord.{did_counts, fits}
use Rattle.fed_rules.specs.CoordPast.{Counted, CoordHappening, CoordPast, attempts_of, begins, begun_by, begun_tids, count_at, counted, counts, did_in, epoch_at, has_step_left, has_ticket_at, is_open, is_ticket, last_epoch, next_step, or_steps, outstanding, prepare_at, program, program_in, take_at, visits, vote_at, work_at}
use Rattle.site_history.proofs.CoordSteps.{AllDone, IsCoordStep, IsGoOf, MayCount, is_from, is_step}

-- the attempt's number is below that of the next one
abbrev pub IsBegun : CoordPast → Tid → Type 0
IsBegun past tid = tid.attempt < attempts_of past tid.tx

-- a go is of the next attempt
abbrev pub IsNextGo : CoordPast → CoordEvent → Type 0
IsNextGo past (Ev.Go tid steps) = tid.attempt ≡ attempts_of past tid.tx
IsNextGo past event = Unit {0}

-- with one step more of the program fewer are left
visits_less : (site : SiteId) (n : ℕ) (steps : List Step) → visits site (drop n steps) ≡ false → visits site (drop (suc n) steps) ≡ false
visits_less site zero [] e = refl
visits_less site zero (step ∷ steps) e = by_or (same_site step.site site) (visits site steps) e
  where
    by_or : (a b : Bool) → (a || b) ≡ false → b ≡ false
    by_or true b e = cc
    by_or false b e = e
visits_less site (suc n) [] e = refl
visits_less site (suc n) (step ∷ steps) e = visits_less site n steps e

-- where all is done no operation is outstanding
fits_none : (past : CoordPast) (tid : Tid) (site : SiteId) (e n : ℕ) (reply : Reply) → AllDone (program past tid) (counted past tid) site e
    → fits (outstanding past tid site) n reply ≡ false
fits_none past tid site e n reply d =
    by_visits (visits site (program past tid)) (has_step_left past tid site) (has_ticket_at past tid site) d.left d.ticket
  where
    by_vote : (b : Bool) → fits (cond b (Some (Due_is.Prepare site (epoch_at past tid site) (count_at past tid site))) None) n reply ≡ false
    by_vote true = refl
    by_vote false = refl

    by_visits : (v l t : Bool) → l ≡ false → t ≡ true
        → fits (cond v (cond l (work_at past tid site (next_step past tid)) (cond t (prepare_at past tid site) (take_at past tid site))) None) n reply
        ≡ false
    by_visits false l t left ticket = refl
    by_visits true true t left ticket = cc
    by_visits true false false left ticket = cc
    by_visits true false true left ticket = by_vote (is_none (vote_at past tid site))

-- a reply of the site doesn't count then
no_count : (past : CoordPast) (tid : Tid) (site : SiteId) (e epoch n : ℕ) (reply : Reply) → AllDone (program past tid) (counted past tid) site e
    → did_counts past site tid epoch n reply ≡ true → ⊥
no_count past tid site e epoch n reply d counts =
    let first = and_parts (is_open past tid && fits (outstanding past tid site) n reply)
    ((epoch_at past tid site == 0) || (epoch == epoch_at past tid site)) counts in
    let second = and_parts (is_open past tid) (fits (outstanding past tid site) n reply) first.0 in
    let clash = sym (fits_none past tid site e n reply d) ∙ second.1 in cc

-- a reply of another site, or none, leaves all done
done_reply : (program : List Step) (replies : List Counted) (site : SiteId) (e : ℕ) (reply : Counted) → same_site reply.site site ≡ false
    → AllDone program replies site e → AllDone program (reply ∷ replies) site e
done_reply program replies site e reply apart d = record {
  visited = d.visited;
  left = by_step (is_step reply);
  ticket = ap (λ b. some_of (λ r. is_ticket r.reply) (cond b (reply ∷ those (is_from site) replies) (those (is_from site) replies))) apart ∙ d.ticket;
  known = ap (λ b. last_epoch (cond b (reply ∷ those (is_from site) replies) (those (is_from site) replies))) apart ∙ d.known;
}
  where
    by_step : (b : Bool) → visits site (drop (cond b (suc (how_many is_step replies)) (how_many is_step replies)) program) ≡ false
    by_step true = visits_less site (how_many is_step replies) program d.left
    by_step false = d.left

-- what is done stays done over a line
done_stays : (past : CoordPast) (event : CoordEvent) (x : CoordHappening) (tid : Tid) (site : SiteId) (e : ℕ) → IsCoordStep past event x
    → (IsGoOf tid event → ⊥) → AllDone (program past tid) (counted past tid) site e
    → AllDone (program (x ∷ past) tid) (counted (x ∷ past) tid) site e
done_stays past event x tid site e step fresh d = by_begins (begins tid x.answer) refl
  where
    by_site : (s : SiteId) (epoch n : ℕ) (reply : Reply) (b : Bool) → same_site s site ≡ b → did_counts past s tid epoch n reply ≡ true
        → AllDone (program past tid) (record { site = s; epoch = epoch; reply = reply } ∷ counted past tid) site e
    by_site s epoch n reply true is may =
        absurd (no_count past tid site e epoch n reply d
        (subst (λ t. did_counts past t tid epoch n reply ≡ true) (same-site s site is) may))
      where
        same-site : (a b : SiteId) → same_site a b ≡ true → a ≡ b
        same-site a b h = let P : ℕ → SiteId = λ n. record { 0 = n } in ap P (eqb-true a.0 b.0 h)
    by_site s epoch n reply false is may = done_reply (program past tid) (counted past tid) site e (record { site = s; epoch = epoch; reply = reply }) is d

    by_tid : (s : SiteId) (t : Tid) (epoch n : ℕ) (reply : Reply) (b : Bool) → same_tid t tid ≡ b → did_counts past s t epoch n reply ≡ true
        → AllDone (program past tid) (with_some (cond b (Some (record { site = s; epoch = epoch; reply = reply })) None) (counted past tid)) site e
    by_tid s t epoch n reply true is may =
        by_site s epoch n reply (same_site s site) refl (subst (λ u. did_counts past s u epoch n reply ≡ true) (same_tid-equal t tid is) may)
    by_tid s t epoch n reply false is may = d

    by_event : (v : CoordEvent) → MayCount past v → AllDone (program past tid) (with_some (did_in tid v) (counted past tid)) site e
    by_event (Ev.Take s (From.Did t epoch n reply)) may = by_tid s t epoch n reply (same_tid t tid) refl may
    by_event (Ev.Take s (From.Vote t vote)) may = d
    by_event (Ev.Take s (From.Ack t)) may = d
    by_event (Ev.Take s (From.Inquiry t)) may = d
    by_event (Ev.Go t steps) may = d
    by_event (Ev.Again t) may = d
    by_event (Ev.Late t) may = d
    by_event (Ev.Fate tx) may = d
    by_event (Ev.Halt cut) may = d
    by_event (Ev.Trip calls cut) may = d
    by_event Ev.Back may = d
    by_event Ev.Check may = d

    by_counts : (b : Bool) → counts x.answer ≡ b
        → AllDone (program past tid) (cond b (with_some (did_in tid x.event) (counted past tid)) (counted past tid)) site e
    by_counts true is =
        subst (λ v. AllDone (program past tid) (with_some (did_in tid v) (counted past tid)) site e) (sym step.named) (by_event event (step.counts is))
    by_counts false is = d

    by_begins : (b : Bool) → begins tid x.answer ≡ b
        → AllDone (cond b (or_steps (program_in tid x.event) []) (program past tid))
        (cond b [] (cond (counts x.answer) (with_some (did_in tid x.event) (counted past tid)) (counted past tid))) site e
    by_begins true is = absurd (fresh (step.begun tid is))
    by_begins false is = by_counts (counts x.answer) refl

-- an answer begins at most one attempt of a transaction
begun_more : (past : CoordPast) (x : CoordHappening) (tx : Tx) → attempts_of past tx ≤ attempts_of (x ∷ past) tx
begun_more past x tx = by_begun (begun_by x.answer)
  where
    by_tx : (b : Bool) → how_many (λ t. same_tx t.tx tx) (begun_tids past)
        ≤ cond b (suc (how_many (λ t. same_tx t.tx tx) (begun_tids past))) (how_many (λ t. same_tx t.tx tx) (begun_tids past))
    by_tx true = omega arith
    by_tx false = omega arith

    by_begun : (o : Option Tid) → attempts_of past tx ≤ how_many (λ t. same_tx t.tx tx) (with_some o (begun_tids past))
    by_begun None = omega arith
    by_begun (Some t) = by_tx (same_tx t.tx tx)

pub begun_stays : (past : CoordPast) (x : CoordHappening) (tid : Tid) → IsBegun past tid → IsBegun (x ∷ past) tid
begun_stays past x tid b = let more = begun_more past x tid.tx in omega (arith, b, more)

-- the answer begins the attempt
begun_is : (a : Answer) (tid : Tid) → begins tid a ≡ true → begun_by a ≡ Some tid
begun_is (Say.Begun t) tid is = ap Some (same_tid-equal t tid is)
begun_is a tid is = cc

-- an attempt that a line begins has a number
line_begun : (past : CoordPast) (event : CoordEvent) (x : CoordHappening) (tid : Tid) → IsCoordStep past event x → IsNextGo past event
    → begins tid x.answer ≡ true → IsBegun (x ∷ past) tid
line_begun past event x tid step next is =
    let number = by_event event (step.begun tid is) next in
    let more = ap (λ o. how_many (λ t. same_tx t.tx tid.tx) (with_some o (begun_tids past))) (begun_is x.answer tid is)
    ∙ ap (λ b. cond b (suc (attempts_of past tid.tx)) (attempts_of past tid.tx)) (same_tx-refl tid.tx) in
    omega (arith, number, more)
  where
    by_event : (v : CoordEvent) → IsGoOf tid v → IsNextGo past v → tid.attempt ≡ attempts_of past tid.tx
    by_event (Ev.Go t steps) go next = subst (λ u. u.attempt ≡ attempts_of past u.tx) go next
    by_event (Ev.Take site message) go next = elim go [ ]
    by_event (Ev.Again t) go next = elim go [ ]
    by_event (Ev.Late t) go next = elim go [ ]
    by_event (Ev.Fate tx) go next = elim go [ ]
    by_event (Ev.Halt cut) go next = elim go [ ]
    by_event (Ev.Trip calls cut) go next = elim go [ ]
    by_event Ev.Back go next = elim go [ ]
    by_event Ev.Check go next = elim go [ ]

-- what was begun has a number
abbrev pub AreBegun : CoordPast → Type 0
AreBegun past = (tid : Tid) (site : SiteId) → visits site (program past tid) ≡ true → IsBegun past tid

pub begun_next : (past : CoordPast) (event : CoordEvent) (x : CoordHappening) → IsCoordStep past event x → IsNextGo past event → AreBegun past
    → AreBegun (x ∷ past)
begun_next past event x step next h tid site e = by_begins (begins tid x.answer) refl e
  where
    by_begins : (b : Bool) → begins tid x.answer ≡ b → visits site (cond b (or_steps (program_in tid x.event) []) (program past tid)) ≡ true
        → IsBegun (x ∷ past) tid
    by_begins true is e = line_begun past event x tid step next is
    by_begins false is e = begun_stays past x tid (h tid site e)

-- who is begun isn't begun again
pub not_again : (past : CoordPast) (event : CoordEvent) (tid : Tid) → IsNextGo past event → IsBegun past tid → IsGoOf tid event → ⊥
not_again past (Ev.Go t steps) tid next b go =
    let number = subst (λ u. u.attempt ≡ attempts_of past u.tx) go next in omega (arith, b, number)
not_again past (Ev.Take site message) tid next b go = go
not_again past (Ev.Again t) tid next b go = go
not_again past (Ev.Late t) tid next b go = go
not_again past (Ev.Fate tx) tid next b go = go
not_again past (Ev.Halt cut) tid next b go = go
not_again past (Ev.Trip calls cut) tid next b go = go
not_again past Ev.Back tid next b go = go
not_again past Ev.Check tid next b go = go

-- where a vote is asked for the attempt has a program, with a step at some site
pub record IsAskedVote (past : CoordPast) (tid : Tid) (site : SiteId) (e : ℕ) : Type 0 where
  pub done : AllDone (program past tid) (counted past tid) site e
  pub begun : IsBegun past tid

pub vote_stays : (past : CoordPast) (event : CoordEvent) (x : CoordHappening) (tid : Tid) (site : SiteId) (e : ℕ) → IsCoordStep past event x
    → IsNextGo past event → IsAskedVote past tid site e → IsAskedVote (x ∷ past) tid site e
vote_stays past event x tid site e step next a = record {
  done = done_stays past event x tid site e step (not_again past event tid next a.begun) a.done;
  begun = begun_stays past x tid a.begun;
}
