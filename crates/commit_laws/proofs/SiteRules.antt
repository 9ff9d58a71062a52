-- Each rule of a site makes a line of which the facts on one attempt hold.
use Rattle.std.proofs.Common.{◌≡◌, ◌⊎◌, inl, inr, Bool, true, false, cond, ◌&&◌, ◌||◌, ◌==◌, is_some, Option, Some, None, List, [], ◌∷◌, ◌++◌, refl, ap, ◌∙◌}
use Rattle.mdb_base.specs.declared.acts.PlainAct.{PlainAct}
use Rattle.mdb_base.specs.declared.acts.PlainAct.TheVariants.{Read, Write}
use Rattle.mdb_base.specs.declared.names.Tid.{Tid}
use Rattle.mdb_base.specs.declared.names.Tx.{Tx}
use Rattle.mdb_base.specs.declared.replies.Reply.{Reply}
use Rattle.mdb_base.specs.declared.replies.Reply.TheVariants as Reply_is
use Rattle.mdb_base.specs.declared.replies.Why.{Why}
use Rattle.mdb_base.specs.declared.replies.Why.TheVariants as Because
use Rattle.mdb_base.specs.Names.{same_tid}
use Rattle.mdb_base.specs.Words.{Each, when, given, some_of}
use Rattle.fed_rules.specs.declared.answers.Answer.{Answer}
use Rattle.fed_rules.specs.declared.answers.Answer.TheVariants as Say
use Rattle.fed_rules.specs.declared.events.SiteEvent.{SiteEvent}
use Rattle.fed_rules.specs.declared.events.SiteEvent.TheVariants as Ev
use Rattle.fed_rules.specs.declared.messages.FromSite.{FromSite}
use Rattle.fed_rules.specs.declared.messages.FromSite.TheVariants as From
use Rattle.fed_rules.specs.declared.messages.ToSite.TheVariants as To
use Rattle.fed_rules.specs.Happenings.{quiet, stops, comes_up, is_down}
use Rattle.fed_rules.specs.Runs.{EngineLine, Begins, Acts, Takes, Seals, Refuses, Commits, Aborts, Run, run_at, gives_up, tid_of}
use Rattle.fed_rules.specs.Site.{next_number, of_begin, act_answer, reply_to, of_act, refusal_answer, seals_local, of_commit, number_of, of_abort, of_fate, is_over, of_ask, of_drop}
use Rattle.fed_rules.specs.SitePast.{SiteHappening, SitePast, records, epoch_start, engine_lines, live, live_one, ends, decides_on, is_closed, attempts_of}
use Rattle.fed_rules.specs.SiteRecords.{Home, Held, doubt_of}
use Rattle.commit_laws.proofs.SiteFacts.{Says, Settled, NotBegun, Shut, Step}
use Rattle.commit_laws.proofs.SiteShut.{Leaves, leaves-shut, other-line, other-lines, this-line, given-up, shut-on}
use Rattle.order_laws.proofs.ForCallers.{of_same}

pub step-when : (home : Home) (g : Tid) (past : SitePast) (event : SiteEvent) (b : Bool) (x y : SiteHappening)
    → (b ≡ true → Step home g past event x) → (b ≡ false → Step home g past event y) → Step home g past event (when b x y)
unfolding when
step-when home g past event true x y p q = p refl
step-when home g past event false x y p q = q refl

pub step-given : {A : Type 0} (home : Home) (g : Tid) (past : SitePast) (event : SiteEvent) (o : Option A) (x : SiteHappening)
    (y : A → SiteHappening) → (o ≡ None → Step home g past event x) → ((a : A) → o ≡ Some a → Step home g past event (y a))
    → Step home g past event (given o y x)
unfolding given
step-given home g past event None x y p q = p refl
step-given home g past event (Some a) x y p q = q a refl

-- an answer that says neither that the site stops or starts, nor that it settles
abbrev pub IsCalm : Answer → Type 0
IsCalm (Say.Stopped kept) = ⊥
IsCalm (Say.UpSite e n) = ⊥
IsCalm (Say.UpCoord n) = ⊥
IsCalm (Say.Settles tid decision) = ⊥
IsCalm answer = Unit {0}

calm-stops : (a : Answer) → IsCalm a → stops a ≡ false
calm-stops (Say.Stopped kept) c = absurd c
calm-stops a c = refl

calm-up : (a : Answer) → IsCalm a → comes_up a ≡ false
calm-up (Say.UpSite e n) c = absurd c
calm-up (Say.UpCoord n) c = absurd c
calm-up a c = refl

calm-settled : (home : Home) (g : Tid) (past : SitePast) (event : SiteEvent) (a : Answer) → IsCalm a → Settled home g past event a
calm-settled home g past event (Say.Settles tid decision) c = absurd c
calm-settled home g past event a c = tt

-- the event is no decision
abbrev pub IsNoDecision : SiteEvent → Type 0
IsNoDecision (Ev.Give (To.Decide tid decision)) = ⊥
IsNoDecision event = Unit {0}

undecided-event : (g : Tid) (event : SiteEvent) → IsNoDecision event → decides_on g event ≡ false
undecided-event g (Ev.Give (To.Decide tid decision)) n = absurd n
undecided-event g event n = refl

-- what the engine lines of a line do to this attempt: they leave its run alone, or are about it
abbrev pub Touches : Home → Tid → SitePast → SiteEvent → List EngineLine → Type 0
Touches home g past event lines =
    ((run_at (epoch_start home past) (lines ++ engine_lines past) g ≡ run_at (epoch_start home past) (engine_lines past) g) ×
    (some_of (ends g) lines ≡ false))
    ⊎ Leaves (epoch_start home past) (engine_lines past) g (is_over home past g) lines

pub drop-unless : (a c d : Bool) → a ≡ false → ((a || c) || d) ≡ true → (c || d) ≡ true
drop-unless true c d e h = cc
drop-unless false c d e h = h

drop-first : (a b c d : Bool) → a ≡ false → ((a || b || c) || d) ≡ true → ((b || c) || d) ≡ true
drop-first true b c d e h = cc
drop-first false b c d e h = h

touches-shut : (home : Home) (g : Tid) (past : SitePast) (event : SiteEvent) (lines : List EngineLine) → Shut home g past
    → Touches home g past event lines
    → ((some_of (ends g) lines || is_closed past g) || is_some (doubt_of (records home past) g)) ≡ true
    → live_one (run_at (epoch_start home past) (lines ++ engine_lines past) g) ≡ None
touches-shut home g past event lines s (inl (same, unended)) h =
    ap live_one same ∙ s.over
    (drop-unless (some_of (ends g) lines) (is_closed past g) (is_some (doubt_of (records home past) g)) unended h)
touches-shut home g past event lines s (inr l) h =
    leaves-shut (epoch_start home past) (engine_lines past) g (is_closed past g) (is_some (doubt_of (records home past) g)) lines l h

pub no-lines : (home : Home) (g : Tid) (past : SitePast) (event : SiteEvent) → Touches home g past event []
no-lines home g past event = inl (refl, refl)

-- a line of the live run of an attempt
pub one-line : (home : Home) (g : Tid) (past : SitePast) (event : SiteEvent) (run : Run) (l : EngineLine) → Shut home g past
    → live home past (tid_of l) ≡ Some run → ((gives_up l ≡ false) → ends g l ≡ false) → Touches home g past event (l ∷ [])
one-line home g past event run l s alive stays = by_test (same_tid (tid_of l) g) (gives_up l) refl refl where
  over_no : (o : Bool) → is_over home past g ≡ o → same_tid (tid_of l) g ≡ true → is_over home past g ≡ false
  over_no false e q = e
  over_no true e q = let dead = s.over e in let here = of_same (λ u. live home past u ≡ Some run) (tid_of l) g alive q in cc

  by_test : (q u : Bool) → same_tid (tid_of l) g ≡ q → gives_up l ≡ u → Touches home g past event (l ∷ [])
  by_test false u q e = inl (other-line (epoch_start home past) (engine_lines past) g l q)
  by_test true true q e = inr (inl (ap live_one (this-line (epoch_start home past) (engine_lines past) g l q) ∙ given-up l
      (run_at (epoch_start home past) (engine_lines past) g) e))
  by_test true false q e = inr (inr (ap (λ b. b || false) (stays e), over_no (is_over home past g) refl q))

-- a line that appends nothing and doesn't settle
pub calm : (home : Home) (g : Tid) (past : SitePast) (event : SiteEvent) (answer : Answer) (sends : List FromSite)
    (lines : List EngineLine) → is_down past ≡ false → IsCalm answer → IsNoDecision event
    → Each (Says home g past (record { event = event; answer = answer; sends = sends; calls = []; lines = lines })) sends
    → (NotBegun g event → Shut home g past → Touches home g past event lines)
    → Step home g past event (record { event = event; answer = answer; sends = sends; calls = []; lines = lines })
calm home g past event answer sends lines up c n says touches = record {
  is = refl;
  quiet = tt;
  wrote = tt;
  says = says;
  shut = (λ nb s.
      shut-on home g past _ (calm-stops answer c) (calm-up answer c) up
      (λ h. touches-shut home g past event lines s (touches nb s) (drop-first (decides_on g event) (some_of (ends g) lines)
      (is_closed past g) (is_some (doubt_of (records home past) g)) (undecided-event g event n) h)));
  settled = calm-settled home g past event answer c;
  seals = (λ e. cc);
  rises = (λ e. let f = calm-up answer c in cc);
}

pub quietly : (home : Home) (g : Tid) (past : SitePast) (event : SiteEvent) (answer : Answer) → is_down past ≡ false → IsCalm answer
    → IsNoDecision event → Step home g past event (quiet event answer)
quietly home g past event answer up c n = calm home g past event answer [] [] up c n tt (λ nb s. no-lines home g past event)

-- `begin`
pub by-begin : (home : Home) (g : Tid) (past : SitePast) (tid : Tid) → is_down past ≡ false
    → Step home g past (Ev.Begin tid) (of_begin home past tid)
unfolding of_begin
by-begin home g past tid up =
    step-given home g past (Ev.Begin tid) _ _ _
    (λ e. step-given home g past (Ev.Begin tid) _ _ _
    (λ f. calm home g past (Ev.Begin tid) (Say.Begun tid) [] (Begins tid (next_number home past) ∷ []) up tt tt tt
    (λ nb s. inl (other-line (epoch_start home past) (engine_lines past) g (Begins tid (next_number home past)) nb)))
    (λ a f. quietly home g past (Ev.Begin tid) (Say.Running a) up tt tt))
    (λ a e. quietly home g past (Ev.Begin tid) (Say.Committed a) up tt tt)

act-calm : (tid : Tid) (reply : Reply) (act : PlainAct) → IsCalm (act_answer tid reply act)
act-calm tid (Reply_is.Wait by) act = tt
act-calm tid (Reply_is.Refused (Because.Die by)) act = tt
act-calm tid (Reply_is.Refused (Because.Late by)) act = tt
act-calm tid (Reply_is.Refused (Because.Invalid by key)) act = tt
act-calm tid (Reply_is.Refused (Because.TicketMoved by)) act = tt
act-calm tid (Reply_is.Value value) (Read key) = tt
act-calm tid (Reply_is.Value value) (Write key v) = tt
act-calm tid Reply_is.Done (Read key) = tt
act-calm tid Reply_is.Done (Write key v) = tt
act-calm tid (Reply_is.Ticket n) act = tt
act-calm tid Reply_is.Unknown act = tt

-- an access, or the taking of a ticket, that isn't refused ends nothing
pub acts-stay : (g tid : Tid) (act : PlainAct) (reply : Reply) → gives_up (Acts tid act reply) ≡ false
    → ends g (Acts tid act reply) ≡ false
acts-stay g tid act reply e = ap (λ b. b && same_tid tid g) e

pub takes-stay : (g tid : Tid) (reply : Reply) → gives_up (Takes tid reply) ≡ false → ends g (Takes tid reply) ≡ false
takes-stay g tid reply e = ap (λ b. b && same_tid tid g) e

pub by-act : (home : Home) (g : Tid) (past : SitePast) (tid : Tid) (act : PlainAct) → is_down past ≡ false
    → Step home g past (Ev.Act tid act) (of_act home past tid act)
unfolding of_act
by-act home g past tid act up =
    step-given home g past (Ev.Act tid act) _ _ _ (λ e. quietly home g past (Ev.Act tid act) Say.Idle up tt tt)
    (λ run e.
    calm home g past (Ev.Act tid act) (act_answer tid (reply_to home past run act) act) []
    (Acts tid act (reply_to home past run act) ∷ []) up
    (act-calm tid (reply_to home past run act) act) tt tt
    (λ nb s. one-line home g past (Ev.Act tid act) run (Acts tid act (reply_to home past run act)) s e
    (acts-stay g tid act (reply_to home past run act))))

refusal-calm : (why : Why) → IsCalm (refusal_answer why)
refusal-calm (Because.Die by) = tt
refusal-calm (Because.Late by) = tt
refusal-calm (Because.Invalid by key) = tt
refusal-calm (Because.TicketMoved by) = tt

by-seals_local : (home : Home) (g : Tid) (past : SitePast) (tid : Tid) (run : Run) → is_down past ≡ false
    → Step home g past (Ev.Commit tid) (seals_local home past tid run)
unfolding seals_local
by-seals_local home g past tid run up = record {
  is = refl;
  quiet = inr tt;
  wrote = tt;
  says = tt;
  shut = (λ nb s. shut-on home g past _ refl refl up (by_test (same_tid tid g) refl s));
  settled = tt;
  seals = (λ e. cc);
  rises = (λ e. cc);
} where
  lines : List EngineLine
  lines = Commits tid ∷ Seals tid (number_of home past run) ∷ []

  by_test : (q : Bool) → same_tid tid g ≡ q → Shut home g past
      → ((false || some_of (ends g) (Commits tid ∷ Seals tid (number_of home past run) ∷ []) || is_closed past g) || is_some
      (doubt_of (records home past) g)) ≡ true
      → live_one (run_at (epoch_start home past) (Commits tid ∷ Seals tid (number_of home past run) ∷ engine_lines past) g) ≡ None
  by_test true q s h = ap live_one
      (this-line (epoch_start home past) (Seals tid (number_of home past run) ∷ engine_lines past) g (Commits tid) q)
  by_test false q s h =
      let both = other-lines (epoch_start home past) (engine_lines past) g (Commits tid) (Seals tid (number_of home past run)) q q in
      ap live_one both.0 ∙ s.over (drop-unless (some_of (ends g) (Commits tid ∷ Seals tid (number_of home past run) ∷ []))
      (is_closed past g) (is_some (doubt_of (records home past) g)) both.1 h)

pub by-commit : (home : Home) (g : Tid) (past : SitePast) (tid : Tid) → is_down past ≡ false
    → Step home g past (Ev.Commit tid) (of_commit home past tid)
unfolding of_commit
by-commit home g past tid up =
    step-given home g past (Ev.Commit tid) _ _ _ (λ e. quietly home g past (Ev.Commit tid) Say.Idle up tt tt)
    (λ run e. step-given home g past (Ev.Commit tid) _ _ _ (λ f. by-seals_local home g past tid run up)
    (λ why f. calm home g past (Ev.Commit tid) (refusal_answer why) [] (Refuses tid why ∷ []) up (refusal-calm why) tt tt
    (λ nb s. one-line home g past (Ev.Commit tid) run (Refuses tid why) s e (λ u. cc))))

pub by-abort : (home : Home) (g : Tid) (past : SitePast) (tid : Tid) → is_down past ≡ false
    → Step home g past (Ev.Abort tid) (of_abort home past tid)
unfolding of_abort
by-abort home g past tid up =
    step-given home g past (Ev.Abort tid) _ _ _ (λ e. quietly home g past (Ev.Abort tid) Say.Idle up tt tt)
    (λ run e. calm home g past (Ev.Abort tid) (Say.Aborted tid) [] (Aborts tid ∷ []) up tt tt tt
    (λ nb s. one-line home g past (Ev.Abort tid) run (Aborts tid) s e (λ u. cc)))

cond-calm : (b : Bool) → IsCalm (cond b Say.Unbegun Say.Ended)
cond-calm true = tt
cond-calm false = tt

pub by-fate : (home : Home) (g : Tid) (past : SitePast) (tx : Tx) → is_down past ≡ false
    → Step home g past (Ev.Fate tx) (of_fate home past tx)
unfolding of_fate
by-fate home g past tx up =
    step-given home g past (Ev.Fate tx) _ _ _
    (λ e. step-given home g past (Ev.Fate tx) _ _ _
    (λ f. quietly home g past (Ev.Fate tx) (cond (attempts_of past tx == 0) Say.Unbegun Say.Ended) up
    (cond-calm (attempts_of past tx == 0)) tt)
    (λ a f. quietly home g past (Ev.Fate tx) (Say.Running a) up tt tt))
    (λ a e. quietly home g past (Ev.Fate tx) (Say.Committed a) up tt tt)

pub by-drop : (home : Home) (g : Tid) (past : SitePast) (tid : Tid) → is_down past ≡ false
    → Step home g past (Ev.Drop tid) (of_drop home past tid)
unfolding of_drop
by-drop home g past tid up =
    step-when home g past (Ev.Drop tid) _ _ _ (λ b. quietly home g past (Ev.Drop tid) Say.Idle up tt tt)
    (λ b. step-given home g past (Ev.Drop tid) _ _ _ (λ e. quietly home g past (Ev.Drop tid) Say.Idle up tt tt)
    (λ run e. calm home g past (Ev.Drop tid) (Say.Dropped tid) [] (Aborts tid ∷ []) up tt tt tt
    (λ nb s. one-line home g past (Ev.Drop tid) run (Aborts tid) s e (λ u. cc))))

pub by-ask : (home : Home) (g : Tid) (past : SitePast) (tid : Tid) → is_down past ≡ false
    → Step home g past (Ev.Ask tid) (of_ask home past tid)
unfolding of_ask
by-ask home g past tid up =
    step-given home g past (Ev.Ask tid) _ _ _ (λ e. quietly home g past (Ev.Ask tid) Say.Idle up tt tt)
    (λ held e. calm home g past (Ev.Ask tid) (Say.Asks tid) (From.Inquiry tid ∷ []) [] up tt tt
    ((λ q. of_same (λ u. (h : Held) × (doubt_of (records home past) u ≡ Some h)) tid g (held, e) q), tt)
    (λ nb s. no-lines home g past (Ev.Ask tid)))
