-- A command that neither begins nor commits an attempt of a transaction leaves its commit and the number of its attempts as they were, while none
-- of its attempts is undecided.
use Rattle.std.proofs.Common.{◌≡◌, suc, Bool, true, false, cond, is_some, Option, Some, None, List, [], ◌∷◌, inl, inr, refl, sym, ap, subst, ◌∙◌}
use Rattle.mdb_base.specs.declared.acts.Step.{Step}
use Rattle.mdb_base.specs.declared.names.Tid.{Tid}
use Rattle.mdb_base.specs.declared.names.Tx.{Tx}
use Rattle.mdb_base.specs.Names.{same_site, same_tid, same_tx}
use Rattle.mdb_base.specs.Words.{Among, how_many, with_some}
use Rattle.mdb_base.proofs.ForCallers.{among_split, same_site-equal, same_tid-refl, same_tx-equal, some_parts, tests_agree}
use Rattle.presumptions.specs.declared.Decision.{Decision}
use Rattle.order_laws.specs.Chains.{In}
use Rattle.order_laws.proofs.ForCallers.{among_is, is_among}
use Rattle.fed_rules.specs.declared.answers.Answer.{Answer}
use Rattle.fed_rules.specs.declared.answers.Answer.TheVariants as Say
use Rattle.fed_rules.specs.declared.commands.Command.{Command}
use Rattle.fed_rules.specs.declared.commands.Command.TheVariants as Cmd
use Rattle.fed_rules.specs.declared.events.CoordEvent.{CoordEvent}
use Rattle.fed_rules.specs.declared.events.CoordEvent.TheVariants as Coord_event
use Rattle.fed_rules.specs.declared.events.SiteEvent.{SiteEvent}
use Rattle.fed_rules.specs.declared.events.SiteEvent.TheVariants as Site_event
use Rattle.fed_rules.specs.declared.records.CoordRecord.{CoordRecord}
use Rattle.fed_rules.specs.declared.records.CoordRecord.TheVariants as Coord_record
use Rattle.fed_rules.specs.declared.records.SiteRecord.{SiteRecord}
use Rattle.fed_rules.specs.declared.records.SiteRecord.TheVariants as Rec
use Rattle.fed_rules.specs.declared.scenario.Scenario.{Scenario}
use Rattle.fed_rules.specs.Closing.{is_done, is_done_at}
use Rattle.fed_rules.specs.CoordPast as Coordinator
use Rattle.fed_rules.specs.CoordPast.{CoordHappening, CoordPast, begins, begun_by, begun_tids, kept_decision, standing, standing_of}
use Rattle.fed_rules.specs.CoordRecords.{committed_of}
use Rattle.fed_rules.specs.Disk.{Append}
use Rattle.fed_rules.specs.Scenarios.{home_of, local_home, policy, protocols}
use Rattle.fed_rules.specs.Site.{site_line}
use Rattle.fed_rules.specs.SitePast.{SiteHappening, SitePast, attempts_of, begins_tx, disk, records}
use Rattle.fed_rules.specs.SiteRecords.{Home, local_of}
use Rattle.fed_rules.specs.Story.{Story, Happened, AtSite, AtCoordinator, Nowhere, coord_past, happens, past_of, story_of}
use Rattle.fed_rules.specs.Lines.{CoordCause, IsLine, IsCoordLine, SiteCause}
use Rattle.fed_rules.proofs.ForCallers.{cut_old, cut_stays, line_is}
use Rattle.coord_laws.specs.Records.{IsCommit, IsEnd}
use Rattle.coord_laws.proofs.ForCallers.{Decides, Forgets, Kept as Coord_kept, Line, Restarts, Same, Starts, Stood, Stopped, Through, WroteAll, begins_go, coord_lines, end_commit, is_undecided, kept_stays}
use Rattle.commit_laws.specs.Records.{IsLooseEnded}
use Rattle.commit_laws.proofs.ForCallers.{Kept, next-line, next-turn}
use Rattle.federation_laws.proofs.ForCallers.{live_of_tx-is, local-by-commit, local_home-declared, record-from}
use Rattle.closing_laws.specs.Finished.{begun, begun_at}
use Rattle.closing_laws.proofs.Decisions.{commit_of}
use Rattle.closing_laws.proofs.Locals.{Begins, IsBeginOf, by_line}

-- the command neither begins nor commits an attempt of the transaction
abbrev pub IsOfOthers : Tx → Command → Type 0
IsOfOthers tx (Cmd.Begin other) = same_tx other tx ≡ false
IsOfOthers tx (Cmd.Commit other) = same_tx other tx ≡ false
IsOfOthers tx (Cmd.Go other) = same_tx other tx ≡ false
IsOfOthers tx command = Unit {0}

-- a command that begins no attempt of the transaction
abbrev pub BeginsNoneOf : Tx → Command → Type 0
BeginsNoneOf tx (Cmd.Begin other) = same_tx other tx ≡ false
BeginsNoneOf tx (Cmd.Go other) = same_tx other tx ≡ false
BeginsNoneOf tx command = Unit {0}

begins_none : (tx : Tx) (command : Command) → IsOfOthers tx command → BeginsNoneOf tx command
begins_none tx (Cmd.Begin other) o = o
begins_none tx (Cmd.Go other) o = o
begins_none tx command o = tt

-- no attempt of it is undecided
abbrev pub AreDecided : Scenario → Tx → Story → Type 0
AreDecided scenario tx story = (t : Tid) → same_tx t.tx tx ≡ true → is_undecided (standing (protocols scenario) (coord_past story) t) ≡ false

-- whether it has a commit, and how many of its attempts were begun, is as before, and none is undecided
pub record Stays (scenario : Scenario) (tx : Tx) (before now : Story) : Type 0 where
  pub done : is_done scenario now tx ≡ is_done scenario before tx
  pub attempts : begun scenario now tx ≡ begun scenario before tx
  pub decided : AreDecided scenario tx now

pub stays_here : (scenario : Scenario) (tx : Tx) (story : Story) → AreDecided scenario tx story → Stays scenario tx story story
stays_here scenario tx story d = record { done = refl; attempts = refl; decided = d }

pub stays_on : (scenario : Scenario) (tx : Tx) (a b c : Story) → Stays scenario tx a b → Stays scenario tx b c → Stays scenario tx a c
stays_on scenario tx a b c p q = record { done = q.done ∙ p.done; attempts = q.attempts ∙ p.attempts; decided = q.decided }

-- the Local record of an attempt of the transaction
abbrev pub IsLocalOf : Tx → SiteRecord → Type 0
IsLocalOf tx (Rec.Local tid number writes) = same_tx tid.tx tx ≡ true
IsLocalOf tx kept = ⊥

pub local_among : (tx : Tx) (rs : List SiteRecord) → is_some (local_of rs tx) ≡ true → Among (IsLocalOf tx) rs
local_among tx [] e = cc
local_among tx (Rec.Local t n w ∷ rs) e = by_test (same_tx t.tx tx) refl e (local_among tx rs)
  where
    by_test : (b : Bool) → same_tx t.tx tx ≡ b → is_some (cond b (Some t) (local_of rs tx)) ≡ true → (is_some (local_of rs tx) ≡ true → Among (IsLocalOf tx) rs)
        → Among (IsLocalOf tx) (Rec.Local t n w ∷ rs)
    by_test true q e k = inl q
    by_test false q e k = inr (k e)
local_among tx (r ∷ rs) e = inr (local_among tx rs e)

pub among_local : (tx : Tx) (rs : List SiteRecord) → Among (IsLocalOf tx) rs → is_some (local_of rs tx) ≡ true
among_local tx [] i = absurd i
among_local tx (Rec.Local t n w ∷ rs) (inl q) = ap (λ b. is_some (cond b (Some t) (local_of rs tx))) q
among_local tx (Rec.Local t n w ∷ rs) (inr i) = by_test (same_tx t.tx tx) (among_local tx rs i)
  where
    by_test : (b : Bool) → is_some (local_of rs tx) ≡ true → is_some (cond b (Some t) (local_of rs tx)) ≡ true
    by_test true e = refl
    by_test false e = e
among_local tx (r ∷ rs) (inl q) = absurd q
among_local tx (r ∷ rs) (inr i) = among_local tx rs i

pub forced_local : (home : Home) (tx : Tx) (r : SiteRecord) → IsLooseEnded home.protocol r → IsLocalOf tx r → ⊥
forced_local home tx (Rec.Local t n w) l e = l
forced_local home tx (Rec.Prepared t k n ticket w) l e = e
forced_local home tx (Rec.Ended t d) l e = e
forced_local home tx (Rec.Start k) l e = e
forced_local home tx (Rec.Setup site engine protocol items) l e = e
forced_local home tx (Rec.Checkpoint sum) l e = e

pub committed_among : (tx : Tx) (rs : List CoordRecord) → is_some (committed_of rs tx) ≡ true → (t : Tid) × (same_tx t.tx tx ≡ true) × Among (IsCommit t) rs
committed_among tx [] e = cc
committed_among tx (Coord_record.Commit t tickets ∷ rs) e = by_test (same_tx t.tx tx) refl e (committed_among tx rs)
  where
    by_test : (b : Bool) → same_tx t.tx tx ≡ b → is_some (cond b (Some t) (committed_of rs tx)) ≡ true
        → (is_some (committed_of rs tx) ≡ true → (u : Tid) × (same_tx u.tx tx ≡ true) × Among (IsCommit u) rs)
        → (u : Tid) × (same_tx u.tx tx ≡ true) × Among (IsCommit u) (Coord_record.Commit t tickets ∷ rs)
    by_test true q e k = (t, q, inl refl)
    by_test false q e k = let r = k e in (r.0, r.1, inr r.2)
committed_among tx (r ∷ rs) e = let k = committed_among tx rs e in (k.0, k.1, inr k.2)

pub among_committed : (tx : Tx) (t : Tid) (rs : List CoordRecord) → same_tx t.tx tx ≡ true → Among (IsCommit t) rs → is_some (committed_of rs tx) ≡ true
among_committed tx t rs same i = subst (λ z. is_some (committed_of rs z) ≡ true) (same_tx-equal t.tx tx same) (commit_of t rs i)

-- a Commit record is appended of an undecided attempt
wrote_commit : (scenario : Scenario) (g : Tid) (past : CoordPast) (event : CoordEvent) (news : List CoordRecord) → WroteAll (protocols scenario) g past event news → Among (IsCommit g) news
    → is_undecided (standing (protocols scenario) past g) ≡ true
wrote_commit scenario g past event [] w i = absurd i
wrote_commit scenario g past event (Coord_record.Commit t tickets ∷ rs) w (inl e) = (w.0 (subst (λ u. same_tid u g ≡ true) (sym e) (same_tid-refl g))).0.undecided
wrote_commit scenario g past event (r ∷ rs) w (inl e) = absurd e
wrote_commit scenario g past event (r ∷ rs) w (inr i) = wrote_commit scenario g past event rs w.1 i

clash : (tx other : Tx) → same_tx other tx ≡ false → same_tx other tx ≡ true → ⊥
clash tx other e f = (let same = sym e ∙ f in cc)

module _ (scenario : Scenario) (story : Story) (command : Command) (tx : Tx) (others : IsOfOthers tx command) where
  -- it makes no site commit an attempt of the transaction
  no_commit : (home : Home) (t : Tid) → SiteCause scenario home story command (Site_event.Commit t) → same_tx t.tx tx ≡ true → ⊥
  no_commit home t c same = by_command command others c
    where
      by_command : (k : Command) → IsOfOthers tx k → SiteCause scenario home story k (Site_event.Commit t) → ⊥
      by_command (Cmd.Begin other) o c = let is = c.asks.is in cc
      by_command (Cmd.Step other) o c = let is = c.asks.is in cc
      by_command (Cmd.Commit other) o c =
          let is = c.asks.is in
          let own : t ≡ c.asks.tid = cc in
          let of_other = same_tx-equal c.asks.tid.tx other (live_of_tx-is home (past_of home.site story) other c.asks.tid c.asks.is_live.found) in
          clash tx other o (subst (λ z. same_tx z tx ≡ true) (ap (λ (u : Tid). u.tx) own ∙ of_other) same)
      by_command (Cmd.Abort other) o c = let is = c.asks.is in cc
      by_command (Cmd.Fate other) o c = let is = c.asks in cc
      by_command (Cmd.Give site place) o c = let is = c.1.is in cc
      by_command (Cmd.Ask site tid) o c = let is = c.1 in cc
      by_command (Cmd.Drop site tid) o c = let is = c.1 in cc
      by_command (Cmd.Halt actor cut) o c = let is = c.1 in cc
      by_command (Cmd.Trip actor calls cut) o c = let is = c.1 in cc
      by_command (Cmd.Back actor) o c = let is = c.1 in cc
      by_command (Cmd.Check actor) o c = let is = c.1 in cc
      by_command (Cmd.Go other) o c = c
      by_command (Cmd.Again tid) o c = c
      by_command (Cmd.Late tid) o c = c
      by_command (Cmd.Take site place) o c = c

module _ (scenario : Scenario) (story : Story) (command : Command) (tx : Tx) (none : BeginsNoneOf tx command) where
  -- it makes no site begin an attempt of the transaction
  pub no_begin : (home : Home) (event : SiteEvent) → SiteCause scenario home story command event → IsBeginOf tx event → ⊥
  no_begin home event c b = by_command command none c
    where
      by_command : (k : Command) → BeginsNoneOf tx k → SiteCause scenario home story k event → ⊥
      by_command (Cmd.Begin other) o c = clash tx other o (subst (IsBeginOf tx) c.asks.is b)
      by_command (Cmd.Step other) o c = subst (IsBeginOf tx) c.asks.is b
      by_command (Cmd.Commit other) o c = subst (IsBeginOf tx) c.asks.is b
      by_command (Cmd.Abort other) o c = subst (IsBeginOf tx) c.asks.is b
      by_command (Cmd.Fate other) o c = subst (IsBeginOf tx) c.asks b
      by_command (Cmd.Give site place) o c = subst (IsBeginOf tx) c.1.is b
      by_command (Cmd.Ask site tid) o c = subst (IsBeginOf tx) c.1 b
      by_command (Cmd.Drop site tid) o c = subst (IsBeginOf tx) c.1 b
      by_command (Cmd.Halt actor cut) o c = subst (IsBeginOf tx) c.1 b
      by_command (Cmd.Trip actor calls cut) o c = subst (IsBeginOf tx) c.1 b
      by_command (Cmd.Back actor) o c = subst (IsBeginOf tx) c.1 b
      by_command (Cmd.Check actor) o c = subst (IsBeginOf tx) c.1 b
      by_command (Cmd.Go other) o c = c
      by_command (Cmd.Again tid) o c = c
      by_command (Cmd.Late tid) o c = c
      by_command (Cmd.Take site place) o c = c

  -- and doesn't make the coordinator begin one
  pub no_go : (t : Tid) (steps : List Step) → CoordCause scenario story command (Coord_event.Go t steps) → same_tx t.tx tx ≡ true → ⊥
  no_go t steps c same = by_command command none c
    where
      by_command : (k : Command) → BeginsNoneOf tx k → CoordCause scenario story k (Coord_event.Go t steps) → ⊥
      by_command (Cmd.Go other) o c = let is = c.is in let own : t.tx ≡ other = cc in clash tx other o (subst (λ z. same_tx z tx ≡ true) own same)
      by_command (Cmd.Fate other) o c = let is = c.is in cc
      by_command (Cmd.Again tid) o c = cc
      by_command (Cmd.Late tid) o c = cc
      by_command (Cmd.Take site place) o c = let is = c.is in cc
      by_command (Cmd.Halt actor cut) o c = let is = c.1 in cc
      by_command (Cmd.Trip actor calls cut) o c = let is = c.1 in cc
      by_command (Cmd.Back actor) o c = let is = c.1 in cc
      by_command (Cmd.Check actor) o c = let is = c.1 in cc
      by_command (Cmd.Begin other) o c = c
      by_command (Cmd.Step other) o c = c
      by_command (Cmd.Commit other) o c = c
      by_command (Cmd.Abort other) o c = c
      by_command (Cmd.Give site place) o c = c
      by_command (Cmd.Ask site tid) o c = c
      by_command (Cmd.Drop site tid) o c = c

-- what isn't open isn't undecided
unopened : (o : Option Decision) → is_undecided (standing_of false o) ≡ false
unopened None = refl
unopened (Some decision) = refl

pub begun_is : (a : Answer) (t : Tid) → begun_by a ≡ Some t → begins t a ≡ true
begun_is (Say.Begun u) t e = let same : u ≡ t = cc in subst (λ v. same_tid v t ≡ true) (sym same) (same_tid-refl t)
begun_is a t e = cc

-- what one command leaves, whosever it is
module _ (scenario : Scenario) (commands : List Command) (command : Command) where
  -- at a site a record Local stays
  pub local_stays : (tx : Tx) (home : Home) → home_of scenario home.site ≡ Some home → (x : SiteHappening)
      → happens scenario (story_of scenario commands) command ≡ AtSite home.site x
      → Among (IsLocalOf tx) (records home (past_of home.site (story_of scenario commands)))
      → Among (IsLocalOf tx) (records home (x ∷ past_of home.site (story_of scenario commands)))
  local_stays tx home declared x told i = by_kept (next-line scenario commands home declared x (command, told) (record { tx = tx; attempt = 0 })).1.line.kept
    where
      past : SitePast
      past = past_of home.site (story_of scenario commands)

      by_kept : {g : Tid} {e : SiteEvent} → Kept home g past e (records home (x ∷ past)) → Among (IsLocalOf tx) (records home (x ∷ past))
      by_kept (inl (r, w, is)) = subst (Among (IsLocalOf tx)) (sym is) (inr i)
      by_kept (inr cut) = cut_stays (IsLooseEnded home.protocol) (IsLocalOf tx) (forced_local home tx) (records home past) (records home (x ∷ past)) cut i

  -- at the coordinator
  module _ (x : CoordHappening) (told : happens scenario (story_of scenario commands) command ≡ AtCoordinator x)
      (line : IsCoordLine scenario (story_of scenario commands) command x) where
    abbrev before : CoordPast
    before = coord_past (story_of scenario commands)

    pub turn_line : (t : Tid) → Line (protocols scenario) t before line.event x
    turn_line t =
        let turned = next-turn scenario commands x (command, told) t in
        subst (Line (protocols scenario) t before line.event) (sym line.is_next) (coord_lines (protocols scenario) (policy scenario) t before line.event turned.1.sound.firm)

    -- a Commit record stays
    pub commit_stays : (t : Tid) → Among (IsCommit t) (Coordinator.records before) → Among (IsCommit t) (Coordinator.records (x ∷ before))
    commit_stays t i = kept_stays (protocols scenario) t before line.event (Coordinator.records (x ∷ before)) (IsCommit t) (end_commit t) (turn_line t).kept i

-- one command
module _ (scenario : Scenario) (commands : List Command) (command : Command) (tx : Tx) (others : IsOfOthers tx command) where
  abbrev story : Story
  story = story_of scenario commands

  -- at the home of a local transaction
  module _ (home : Home) (declared : home_of scenario home.site ≡ Some home) (x : SiteHappening) (told : happens scenario story command ≡ AtSite home.site x)
      (event : SiteEvent) (is_next : x ≡ site_line home (past_of home.site story) event) (cause : SiteCause scenario home story command event) where
    abbrev past : SitePast
    past = past_of home.site story

    local_was : Among (IsLocalOf tx) (records home (x ∷ past)) → Among (IsLocalOf tx) (records home past)
    local_was i = let (r, j, own) = among_is (IsLocalOf tx) (records home (x ∷ past)) i in by_record r j own
      where
        by_record : (r : SiteRecord) → In r (records home (x ∷ past)) → IsLocalOf tx r → Among (IsLocalOf tx) (records home past)
        by_record (Rec.Local t n w) j own = elim (record-from x.calls (disk home past) (Rec.Local t n w) j) [
          | inl old ↦ is_among (IsLocalOf tx) (Rec.Local t n w) (records home past) old own
          | inr new ↦
              let commit = local-by-commit home past event t n w (subst (λ (y : SiteHappening). Among (λ call. call ≡ Append (Rec.Local t n w)) y.calls) is_next new) in
              absurd (no_commit scenario story command tx others home t (subst (SiteCause scenario home story command) commit cause) own)
        ]
        by_record (Rec.Prepared t k n ticket w) j own = absurd own
        by_record (Rec.Ended t d) j own = absurd own
        by_record (Rec.Start k) j own = absurd own
        by_record (Rec.Setup site engine protocol items) j own = absurd own
        by_record (Rec.Checkpoint sum) j own = absurd own

    same_local : is_some (local_of (records home (x ∷ past)) tx) ≡ is_some (local_of (records home past) tx)
    same_local =
        tests_agree _ _ (λ e. among_local tx (records home past) (local_was (local_among tx (records home (x ∷ past)) e)))
        (λ e. among_local tx (records home (x ∷ past)) (local_stays scenario commands command tx home declared x told (local_among tx (records home past) e)))

    same_begun : attempts_of (x ∷ past) tx ≡ attempts_of past tx
    same_begun = by_begun (begins_tx tx x.answer) refl
      where
        begins_it : begins_tx tx x.answer ≡ true → IsBeginOf tx event
        begins_it = (subst (Begins tx event) (sym is_next) (by_line tx home past event)).begins

        by_begun : (b : Bool) → begins_tx tx x.answer ≡ b → cond b (suc (attempts_of past tx)) (attempts_of past tx) ≡ attempts_of past tx
        by_begun true q = absurd (no_begin scenario story command tx (begins_none tx command others) home event cause (begins_it q))
        by_begun false q = refl

  -- at the coordinator
  module _ (closed : AreDecided scenario tx story) (x : CoordHappening) (told : happens scenario story command ≡ AtCoordinator x) (line : IsCoordLine scenario story command x) where
    abbrev own : CoordPast
    own = coord_past story

    still_decided : AreDecided scenario tx (record { command = command; happened = AtCoordinator x } ∷ story)
    still_decided t same = by_stood (turn_line scenario commands command x told line t).stood (closed t same)
      where
        by_stood : Stood (protocols scenario) t own x → is_undecided (standing (protocols scenario) own t) ≡ false → is_undecided (standing (protocols scenario) (x ∷ own) t) ≡ false
        by_stood (Stopped b e a s) d = ap is_undecided e ∙ unopened (kept_decision (protocols scenario) (Coordinator.records (x ∷ own)) t)
        by_stood (Through (Same e b u a) r) d = ap is_undecided e ∙ d
        by_stood (Through (Starts b e n steps v) r) d = absurd (no_go scenario story command tx (begins_none tx command others) t steps (subst (CoordCause scenario story command) (sym (turn_line scenario commands command x told line t).is ∙ v) line.cause) same)
        by_stood (Through (Decides d f o b e n by a) r) c = (let clash = sym c ∙ o in cc)
        by_stood (Through (Forgets d o b e n ends a) r) c = ap is_undecided e
        by_stood (Through (Restarts b e a s) r) d = ap is_undecided e ∙ unopened (kept_decision (protocols scenario) (Coordinator.records (x ∷ own)) t)

    commit_was : (t : Tid) → same_tx t.tx tx ≡ true → Among (IsCommit t) (Coordinator.records (x ∷ own)) → Among (IsCommit t) (Coordinator.records own)
    commit_was t same i = by_kept (turn_line scenario commands command x told line t).kept
      where
        by_kept : Coord_kept (protocols scenario) t own line.event (Coordinator.records (x ∷ own)) → Among (IsCommit t) (Coordinator.records own)
        by_kept (inl (news, w, is)) = elim (among_split (IsCommit t) news (Coordinator.records own) (subst (Among (IsCommit t)) is i)) [
          | inl new ↦ (let was = wrote_commit scenario t own line.event news w new in let shut = closed t same in let clash = sym shut ∙ was in cc)
          | inr old ↦ old
        ]
        by_kept (inr cut) = cut_old IsEnd (IsCommit t) (Coordinator.records own) (Coordinator.records (x ∷ own)) cut i

    same_committed : is_some (committed_of (Coordinator.records (x ∷ own)) tx) ≡ is_some (committed_of (Coordinator.records own) tx)
    same_committed = tests_agree _ _ back on
      where
        back : is_some (committed_of (Coordinator.records (x ∷ own)) tx) ≡ true → is_some (committed_of (Coordinator.records own) tx) ≡ true
        back e = let (t, same, i) = committed_among tx (Coordinator.records (x ∷ own)) e in among_committed tx t (Coordinator.records own) same (commit_was t same i)

        on : is_some (committed_of (Coordinator.records own) tx) ≡ true → is_some (committed_of (Coordinator.records (x ∷ own)) tx) ≡ true
        on e = let (t, same, i) = committed_among tx (Coordinator.records own) e in among_committed tx t (Coordinator.records (x ∷ own)) same (commit_stays scenario commands command x told line t i)

    same_attempts : Coordinator.attempts_of (x ∷ own) tx ≡ Coordinator.attempts_of own tx
    same_attempts = by_begun (begun_by x.answer) refl
      where
        by_begun : (o : Option Tid) → begun_by x.answer ≡ o → how_many (λ (tid : Tid). same_tx tid.tx tx) (with_some o (begun_tids own)) ≡ how_many (λ (tid : Tid). same_tx tid.tx tx) (begun_tids own)
        by_begun None q = refl
        by_begun (Some t) q =
            let (steps, is) = begins_go (protocols scenario) t own x (turn_line scenario commands command x told line t).stood (begun_is x.answer t q) in
            let named : line.event ≡ Coord_event.Go t steps = sym (turn_line scenario commands command x told line t).is ∙ is in
            by_test steps named (same_tx t.tx tx) refl
          where
            by_test : (steps : List Step) → line.event ≡ Coord_event.Go t steps → (b : Bool) → same_tx t.tx tx ≡ b
                → cond b (suc (how_many (λ (tid : Tid). same_tx tid.tx tx) (begun_tids own))) (how_many (λ (tid : Tid). same_tx tid.tx tx) (begun_tids own)) ≡ how_many (λ (tid : Tid). same_tx tid.tx tx) (begun_tids own)
            by_test steps named true same = absurd (no_go scenario story command tx (begins_none tx command others) t steps (subst (CoordCause scenario story command) named line.cause) same)
            by_test steps named false same = refl

  -- behind it all is as before
  pub stays_one : AreDecided scenario tx story → Stays scenario tx story (story_of scenario (command ∷ commands))
  stays_one closed = by_case (happens scenario story command) refl (line_is scenario story command)
    where
      by_case : (happened : Happened) → happens scenario story command ≡ happened → IsLine scenario story command happened → Stays scenario tx story (record { command = command; happened = happened } ∷ story)
      by_case (Nowhere answer) told line = record { done = by_home (local_home scenario tx); attempts = as_many (local_home scenario tx); decided = closed }
        where
          by_home : (o : Option Home) → is_done_at o (record { command = command; happened = Nowhere answer } ∷ story) tx ≡ is_done_at o story tx
          by_home None = refl
          by_home (Some home) = refl

          as_many : (o : Option Home) → begun_at o (record { command = command; happened = Nowhere answer } ∷ story) tx ≡ begun_at o story tx
          as_many None = refl
          as_many (Some home) = refl
      by_case (AtCoordinator x) told line = record { done = by_home (local_home scenario tx); attempts = as_many (local_home scenario tx); decided = still_decided closed x told line }
        where
          by_home : (o : Option Home) → is_done_at o (record { command = command; happened = AtCoordinator x } ∷ story) tx ≡ is_done_at o story tx
          by_home None = same_committed closed x told line
          by_home (Some home) = refl

          as_many : (o : Option Home) → begun_at o (record { command = command; happened = AtCoordinator x } ∷ story) tx ≡ begun_at o story tx
          as_many None = same_attempts closed x told line
          as_many (Some home) = refl
      by_case (AtSite at x) told line = record { done = by_home (local_home scenario tx) refl; attempts = as_many (local_home scenario tx) refl; decided = closed }
        where
          here : (home : Home) → same_site at home.site ≡ true → happens scenario story command ≡ AtSite home.site x
          here home q = told ∙ ap (λ s. AtSite s x) (same_site-equal at home.site q)

          same_home : (home : Home) → home_of scenario home.site ≡ Some home → same_site at home.site ≡ true → line.home ≡ home
          same_home home declared q = some_parts (sym line.declared ∙ (ap (home_of scenario) (sym line.here ∙ same_site-equal at home.site q) ∙ declared))

          next_here : (home : Home) → line.home ≡ home → x ≡ site_line home (past_of home.site story) line.event
          next_here home same = subst (λ (z : Home). x ≡ site_line z (past_of z.site story) line.event) same line.is_next

          cause_here : (home : Home) → line.home ≡ home → SiteCause scenario home story command line.event
          cause_here home same = subst (λ z. SiteCause scenario z story command line.event) same line.cause

          by_home : (o : Option Home) → local_home scenario tx ≡ o → is_done_at o (record { command = command; happened = AtSite at x } ∷ story) tx ≡ is_done_at o story tx
          by_home None e = refl
          by_home (Some home) e = by_test (same_site at home.site) refl
            where
              by_test : (b : Bool) → same_site at home.site ≡ b → is_some (local_of (records home (cond b (x ∷ past_of home.site story) (past_of home.site story))) tx) ≡ is_some (local_of (records home (past_of home.site story)) tx)
              by_test false q = refl
              by_test true q =
                  let declared = local_home-declared scenario tx home e in
                  let same = same_home home declared q in
                  same_local home declared x (here home q) line.event (next_here home same) (cause_here home same)

          as_many : (o : Option Home) → local_home scenario tx ≡ o → begun_at o (record { command = command; happened = AtSite at x } ∷ story) tx ≡ begun_at o story tx
          as_many None e = refl
          as_many (Some home) e = by_test (same_site at home.site) refl
            where
              by_test : (b : Bool) → same_site at home.site ≡ b → attempts_of (cond b (x ∷ past_of home.site story) (past_of home.site story)) tx ≡ attempts_of (past_of home.site story) tx
              by_test false q = refl
              by_test true q =
                  let declared = local_home-declared scenario tx home e in
                  let same = same_home home declared q in
                  same_begun home declared x (here home q) line.event (next_here home same) (cause_here home same)
