-- While every actor is up and no trip is armed, the lines of closing leave it so, and bring nothing up: what isn't live, in doubt, known or
-- undecided stays so.
use Rattle.std.proofs.Common.{◌≡◌, Bool, true, false, cond, ◌||◌, Option, Some, None, List, [], ◌∷◌, ◌++◌, length, refl, sym, ap, subst, ◌∙◌}
use Rattle.mdb_base.specs.declared.acts.Step.{Step}
use Rattle.mdb_base.specs.declared.names.SiteId.{SiteId}
use Rattle.mdb_base.specs.declared.names.Tid.{Tid}
use Rattle.mdb_base.specs.declared.names.Tx.{Tx}
use Rattle.mdb_base.specs.Names.{same_tid}
use Rattle.mdb_base.specs.Words.{when, given}
use Rattle.mdb_base.proofs.ForCallers.{cond-false, cond-true, when-false}
use Rattle.presumptions.specs.declared.Decision.{Decision}
use Rattle.presumptions.specs.declared.Participant.{Participant}
use Rattle.fed_rules.specs.declared.answers.Answer.{Answer}
use Rattle.fed_rules.specs.declared.answers.Answer.TheVariants as Say
use Rattle.fed_rules.specs.declared.events.CoordEvent.{CoordEvent}
use Rattle.fed_rules.specs.declared.events.CoordEvent.TheVariants as To_coord
use Rattle.fed_rules.specs.declared.events.SiteEvent.{SiteEvent}
use Rattle.fed_rules.specs.declared.events.SiteEvent.TheVariants as Ev
use Rattle.fed_rules.specs.declared.messages.FromSite.{FromSite}
use Rattle.fed_rules.specs.declared.messages.FromSite.TheVariants as From
use Rattle.fed_rules.specs.declared.messages.ToSite.{ToSite}
use Rattle.fed_rules.specs.Coord as Coord
use Rattle.fed_rules.specs.Coord.{coord_line}
use Rattle.fed_rules.specs.CoordPast as Coordinator
use Rattle.fed_rules.specs.CoordPast.{CoordHappening, CoordPast, Undecided, Decided, Gone, standing}
use Rattle.fed_rules.specs.CoordRecords.{coord_frame}
use Rattle.fed_rules.specs.Happenings.{Happening, Trip, quiet, stops, comes_up, is_down, used, set, armed, tripped}
use Rattle.fed_rules.specs.Runs.{EngineLine, Aborts, Run, changed, run_at, tid_of}
use Rattle.fed_rules.specs.Site.{site_line, answered, of_give, of_abort, of_drop, of_ask, with_lines, settling_line, settles, unheld, of_decide}
use Rattle.fed_rules.specs.SitePast.{SiteHappening, SitePast, disk, records, epoch_start, engine_lines, live_one, live, trip_of, is_local, begins_tx}
use Rattle.fed_rules.specs.SiteRecords.{Home, Held, site_frame, doubt_of}
use Rattle.fed_rules.specs.Durable.{IsFirm}
use Rattle.coord_laws.specs.Records.{IsEnd}
use Rattle.coord_laws.proofs.ForCallers.{Decides, Forgets, Restarts, Same, Starts, Stood, Stopped, Through, coord_lines, is_undecided}
use Rattle.federation_laws.proofs.ForCallers.{live-next}
use Rattle.fed_rules.specs.Policies.{Policy}
use Rattle.engine_laws.proofs.ForCallers.{abort_ends}
use Rattle.fed_rules.proofs.ForCallers.{IsNoGo}
use Rattle.commit_laws.proofs.ForCallers.{settles-records, settling-ends}

-- an actor is up, and no trip is armed
pub record IsReady {Event Message Record : Type 0} (trip_in : Event → Option Trip) (past : List (Happening Event Message Record)) : Type 0 where
  pub up : is_down past ≡ false
  pub untripped : armed trip_in past ≡ None

still_up : (c d : Bool) → d ≡ false → cond c false d ≡ false
still_up true d e = refl
still_up false d e = e

-- a line that neither stops the actor nor arms a trip leaves it ready
pub ready_next : {Event Message Record : Type 0} (trip_in : Event → Option Trip) (past : List (Happening Event Message Record)) (x : Happening Event Message Record)
    → stops x.answer ≡ false → trip_in x.event ≡ None → IsReady trip_in past → IsReady trip_in (x ∷ past)
ready_next trip_in past x s t r = record {
  up = cond-false _ _ _ s ∙ still_up (comes_up x.answer) (is_down past) r.up;
  untripped = cond-false _ _ _ s ∙ (ap (λ o. set o (used (length x.calls) (armed trip_in past))) t ∙ ap (λ o. used (length x.calls) o) r.untripped);
}

-- what a ready site makes of an event
pub gives : (home : Home) (past : SitePast) (message : ToSite) → IsReady trip_of past → site_line home past (Ev.Give message) ≡ of_give home past message
unfolding site_line answered tripped
gives home past message r = when-false _ _ _ r.up ∙ ap (λ t. tripped site_frame (disk home past) t (of_give home past message)) r.untripped

pub aborts_here : (home : Home) (past : SitePast) (tid : Tid) → IsReady trip_of past → site_line home past (Ev.Abort tid) ≡ of_abort home past tid
unfolding site_line answered tripped
aborts_here home past tid r = when-false _ _ _ r.up ∙ ap (λ t. tripped site_frame (disk home past) t (of_abort home past tid)) r.untripped

pub drops : (home : Home) (past : SitePast) (tid : Tid) → IsReady trip_of past → site_line home past (Ev.Drop tid) ≡ of_drop home past tid
unfolding site_line answered tripped
drops home past tid r = when-false _ _ _ r.up ∙ ap (λ t. tripped site_frame (disk home past) t (of_drop home past tid)) r.untripped

pub asks : (home : Home) (past : SitePast) (tid : Tid) → IsReady trip_of past → site_line home past (Ev.Ask tid) ≡ of_ask home past tid
unfolding site_line answered tripped
asks home past tid r = when-false _ _ _ r.up ∙ ap (λ t. tripped site_frame (disk home past) t (of_ask home past tid)) r.untripped

-- and a ready coordinator
pub lates : (protocols : List Participant) (policy : Policy) (past : CoordPast) (tid : Tid) → IsReady Coordinator.trip_of past → coord_line protocols policy past (To_coord.Late tid) ≡ Coord.of_late protocols past tid
unfolding coord_line Coord.answered tripped
lates protocols policy past tid r = when-false _ _ _ r.up ∙ ap (λ t. tripped coord_frame (Coordinator.disk past) t (Coord.of_late protocols past tid)) r.untripped

pub agains : (protocols : List Participant) (policy : Policy) (past : CoordPast) (tid : Tid) → IsReady Coordinator.trip_of past → coord_line protocols policy past (To_coord.Again tid) ≡ Coord.of_again protocols policy past tid
unfolding coord_line Coord.answered tripped
agains protocols policy past tid r = when-false _ _ _ r.up ∙ ap (λ t. tripped coord_frame (Coordinator.disk past) t (Coord.of_again protocols policy past tid)) r.untripped

pub takes : (protocols : List Participant) (policy : Policy) (past : CoordPast) (site : SiteId) (message : FromSite) → IsReady Coordinator.trip_of past
    → coord_line protocols policy past (To_coord.Take site message) ≡ Coord.of_take protocols policy past site message
unfolding coord_line Coord.answered tripped
takes protocols policy past site message r = when-false _ _ _ r.up ∙ ap (λ t. tripped coord_frame (Coordinator.disk past) t (Coord.of_take protocols policy past site message)) r.untripped

-- a line of a site that stops nothing, arms nothing, and leaves not live what isn't live, and not in doubt what isn't
pub record IsMild (home : Home) (past : SitePast) (x : SiteHappening) : Type 0 where
  pub stays : stops x.answer ≡ false
  pub unarmed : trip_of x.event ≡ None
  pub quiets : (tid : Tid) → live home past tid ≡ None → live home (x ∷ past) tid ≡ None
  pub settles : (tid : Tid) → doubt_of (records home past) tid ≡ None → doubt_of (records home (x ∷ past)) tid ≡ None
  pub unbegun : (tx : Tx) → begins_tx tx x.answer ≡ false

-- the answer neither stops nor starts the actor
abbrev pub IsPlain : Answer → Type 0
IsPlain answer = (stops answer || comes_up answer) ≡ false

plain_stays : (a b : Bool) → (a || b) ≡ false → a ≡ false
plain_stays true b e = cc
plain_stays false b e = refl

pub quiet_mild : (home : Home) (past : SitePast) (event : SiteEvent) (answer : Answer) → IsPlain answer → trip_of event ≡ None → ((tx : Tx) → begins_tx tx answer ≡ false) → IsMild home past (quiet event answer)
quiet_mild home past event answer p t u = record {
  stays = plain_stays _ _ p;
  unarmed = t;
  quiets = λ tid e. live-next home past (quiet event answer) tid p ∙ e;
  settles = λ tid e. e;
  unbegun = u;
}

-- no run behind a line that ends it
pub ended_run : (home : Home) (past : SitePast) (x : SiteHappening) (line : EngineLine) (tid : Tid) → IsPlain x.answer → x.lines ≡ line ∷ [] → ((old : Option Run) → changed line old ≡ None)
    → same_tid (tid_of line) tid ≡ true → live home (x ∷ past) tid ≡ None
ended_run home past x line tid p e ends same =
    live-next home past x tid p
    ∙ ap (λ ls. live_one (run_at (epoch_start home past) (ls ++ engine_lines past) tid)) e
    ∙ ap live_one (cond-true _ _ _ same ∙ ends (run_at (epoch_start home past) (engine_lines past) tid))

-- and others stay as they were
pub other_run : (home : Home) (past : SitePast) (x : SiteHappening) (line : EngineLine) (tid : Tid) → IsPlain x.answer → x.lines ≡ line ∷ []
    → same_tid (tid_of line) tid ≡ false → live home (x ∷ past) tid ≡ live home past tid
other_run home past x line tid p e other =
    live-next home past x tid p
    ∙ ap (λ ls. live_one (run_at (epoch_start home past) (ls ++ engine_lines past) tid)) e
    ∙ ap live_one (cond-false _ _ _ other)

end_quiets : (home : Home) (past : SitePast) (x : SiteHappening) (line : EngineLine) (tid : Tid) → IsPlain x.answer → x.lines ≡ line ∷ [] → ((old : Option Run) → changed line old ≡ None)
    → live home past tid ≡ None → live home (x ∷ past) tid ≡ None
end_quiets home past x line tid p e ends none = by_test (same_tid (tid_of line) tid) refl
  where
    by_test : (b : Bool) → same_tid (tid_of line) tid ≡ b → live home (x ∷ past) tid ≡ None
    by_test true q = ended_run home past x line tid p e ends q
    by_test false q = other_run home past x line tid p e q ∙ none

pub aborting_mild : (home : Home) (past : SitePast) (event : SiteEvent) (answer : Answer) (tid : Tid) → IsPlain answer → trip_of event ≡ None → ((tx : Tx) → begins_tx tx answer ≡ false) → IsMild home past (with_lines event answer (Aborts tid ∷ []))
aborting_mild home past event answer tid p t u = record {
  stays = plain_stays _ _ p;
  unarmed = t;
  quiets = λ other e. end_quiets home past (with_lines event answer (Aborts tid ∷ [])) (Aborts tid) other p refl (abort_ends tid) e;
  settles = λ other e. e;
  unbegun = u;
}

pub settling_mild : (home : Home) (past : SitePast) (tid : Tid) (decision : Decision) → IsMild home past (settles home tid decision)
unfolding settles
settling_mild home past tid decision = record {
  stays = refl;
  unarmed = refl;
  quiets = λ other e. end_quiets home past (settles home tid decision) (settling_line tid decision) other refl refl (settling-ends tid decision) e;
  settles = λ other e. ap (λ rs. doubt_of rs other) (settles-records home past tid decision) ∙ both_none (same_tid tid other) (doubt_of (records home past) other) e;
  unbegun = λ tx. refl;
}
  where
    both_none : (b : Bool) (o : Option Held) → o ≡ None → cond b None o ≡ None
    both_none true o e = refl
    both_none false o e = e

pub unheld_mild : (home : Home) (past : SitePast) (tid : Tid) (decision : Decision) → IsMild home past (unheld home tid decision [])
unfolding unheld
unheld_mild home past tid decision = record {
  stays = refl;
  unarmed = refl;
  quiets = λ other e. live-next home past (unheld home tid decision []) other refl ∙ e;
  settles = λ other e. e;
  unbegun = λ tx. refl;
}

pub dropping_mild : (home : Home) (past : SitePast) (tid : Tid) (decision : Decision) → IsMild home past (unheld home tid decision (Aborts tid ∷ []))
unfolding unheld
dropping_mild home past tid decision = record {
  stays = refl;
  unarmed = refl;
  quiets = λ other e. end_quiets home past (unheld home tid decision (Aborts tid ∷ [])) (Aborts tid) other refl refl (abort_ends tid) e;
  settles = λ other e. e;
  unbegun = λ tx. refl;
}

-- branches of a rule
mild_when : (home : Home) (past : SitePast) (t : Bool) (a b : SiteHappening) → IsMild home past a → IsMild home past b → IsMild home past (when t a b)
unfolding when
mild_when home past true a b p q = p
mild_when home past false a b p q = q

mild_given : {A : Type 0} (home : Home) (past : SitePast) (o : Option A) (none : SiteHappening) (some : A → SiteHappening) → IsMild home past none → ((x : A) → IsMild home past (some x)) → IsMild home past (given o some none)
unfolding given
mild_given home past None none some p q = p
mild_given home past (Some x) none some p q = q x

-- the lines of closing at a site
pub decide_mild : (home : Home) (past : SitePast) (tid : Tid) (decision : Decision) → IsMild home past (of_decide home past tid decision)
unfolding of_decide
decide_mild home past tid decision =
    mild_given home past (doubt_of (records home past) tid) _ _
    (mild_given home past (live home past tid) _ _ (unheld_mild home past tid decision) (λ run. dropping_mild home past tid decision))
    (λ held. settling_mild home past tid decision)

pub abort_mild : (home : Home) (past : SitePast) (tid : Tid) → IsMild home past (of_abort home past tid)
unfolding of_abort
abort_mild home past tid =
    mild_given home past (live home past tid) _ _ (quiet_mild home past (Ev.Abort tid) Say.Idle refl refl (λ tx. refl)) (λ run. aborting_mild home past (Ev.Abort tid) (Say.Aborted tid) tid refl refl (λ tx. refl))

pub drop_mild : (home : Home) (past : SitePast) (tid : Tid) → IsMild home past (of_drop home past tid)
unfolding of_drop
drop_mild home past tid =
    mild_when home past (is_local past tid) _ _ (quiet_mild home past (Ev.Drop tid) Say.Idle refl refl (λ tx. refl))
    (mild_given home past (live home past tid) _ _ (quiet_mild home past (Ev.Drop tid) Say.Idle refl refl (λ tx. refl)) (λ run. aborting_mild home past (Ev.Drop tid) (Say.Dropped tid) tid refl refl (λ tx. refl)))

pub ask_mild : (home : Home) (past : SitePast) (tid : Tid) → IsMild home past (of_ask home past tid)
unfolding of_ask
ask_mild home past tid =
    mild_given home past (doubt_of (records home past) tid) _ _ (quiet_mild home past (Ev.Ask tid) Say.Idle refl refl (λ tx. refl))
    (λ held. asking)
  where
    inquiry : SiteHappening
    inquiry = record { event = Ev.Ask tid; answer = Say.Asks tid; sends = From.Inquiry tid ∷ []; calls = []; lines = [] }

    asking : IsMild home past inquiry
    asking = record { stays = refl; unarmed = refl; quiets = λ other e. live-next home past inquiry other refl ∙ e; settles = λ other e. e; unbegun = λ tx. refl }

-- an attempt that is known without a decision is open
pub undecided_open : (o : Bool) (d : Option Decision) → is_undecided (Coordinator.standing_of o d) ≡ true → o ≡ true
undecided_open true d e = refl
undecided_open false None e = cc
undecided_open false (Some decision) e = cc

-- a line of the coordinator that stops nothing, arms nothing, and leaves unknown what isn't known, and no new one undecided
pub record IsCoordMild (protocols : List Participant) (past : CoordPast) (x : CoordHappening) : Type 0 where
  pub stays : stops x.answer ≡ false
  pub unarmed : Coordinator.trip_of x.event ≡ None
  pub gone : (tid : Tid) → standing protocols past tid ≡ Gone → standing protocols (x ∷ past) tid ≡ Gone
  pub decided : (tid : Tid) → is_undecided (standing protocols past tid) ≡ false → is_undecided (standing protocols (x ∷ past) tid) ≡ false

pub plain_mild : (protocols : List Participant) (policy : Policy) (past : CoordPast) (event : CoordEvent) (x : CoordHappening) → IsFirm coord_frame IsEnd (Coordinator.disk past)
    → x ≡ coord_line protocols policy past event → x.event ≡ event → IsPlain x.answer → IsNoGo event → Coordinator.trip_of event ≡ None → IsCoordMild protocols past x
plain_mild protocols policy past event x firm is heard p calm t = record {
  stays = plain_stays _ _ p;
  unarmed = ap Coordinator.trip_of heard ∙ t;
  gone = λ tid e. by_gone tid (stood tid) e;
  decided = λ tid e. by_decided tid (stood tid) e;
}
  where
    stood : (tid : Tid) → Stood protocols tid past x
    stood tid = subst (Stood protocols tid past) (sym is) (coord_lines protocols policy tid past event firm).stood

    no_go : (tid : Tid) (steps : List Step) → x.event ≡ To_coord.Go tid steps → ⊥
    no_go tid steps e = subst IsNoGo (sym heard ∙ e) calm

    by_gone : (tid : Tid) → Stood protocols tid past x → standing protocols past tid ≡ Gone → standing protocols (x ∷ past) tid ≡ Gone
    by_gone tid (Stopped b e a s) g = (let clash = sym p ∙ s in cc)
    by_gone tid (Through (Same e b u a) r) g = e ∙ g
    by_gone tid (Through (Starts b e n steps v) r) g = absurd (no_go tid steps v)
    by_gone tid (Through (Decides d f o b e n by a) r) g = (let clash : is_undecided Gone ≡ true = ap is_undecided (sym g) ∙ o in cc)
    by_gone tid (Through (Forgets d o b e n ends a) r) g = e
    by_gone tid (Through (Restarts b e a s) r) g = (let clash = sym p ∙ s in cc)

    by_decided : (tid : Tid) → Stood protocols tid past x → is_undecided (standing protocols past tid) ≡ false → is_undecided (standing protocols (x ∷ past) tid) ≡ false
    by_decided tid (Stopped b e a s) g = (let clash = sym p ∙ s in cc)
    by_decided tid (Through (Same e b u a) r) g = ap is_undecided e ∙ g
    by_decided tid (Through (Starts b e n steps v) r) g = absurd (no_go tid steps v)
    by_decided tid (Through (Decides d f o b e n by a) r) g = (let clash = sym g ∙ o in cc)
    by_decided tid (Through (Forgets d o b e n ends a) r) g = ap is_undecided e
    by_decided tid (Through (Restarts b e a s) r) g = (let clash = sym p ∙ s in cc)
