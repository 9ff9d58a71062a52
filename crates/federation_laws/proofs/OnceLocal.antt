-- Of each local transaction one attempt at most is live or committed.
use Rattle.std.proofs.Common.{◌≡◌, ◌⊎◌, ℕ, Bool, true, false, cond, not, ◌&&◌, is_some, Option, Some, None, List, [], ◌∷◌, inl, inr, refl, sym, ap, subst, ◌∙◌}
use Rattle.mdb_base.specs.declared.names.SiteId.{SiteId}
use Rattle.mdb_base.specs.declared.names.Tid.{Tid}
use Rattle.mdb_base.specs.declared.names.Tx.{Tx}
use Rattle.mdb_base.specs.declared.rows.Put.{Put}
use Rattle.mdb_base.specs.Names.{same_site, same_tx}
use Rattle.mdb_base.specs.Words.{first_where, map_some, some_of}
use Rattle.mdb_base.proofs.ForCallers.{same_site-equal, same_tid-refl, same_tx-from, some_parts}
use Rattle.order_laws.specs.Chains.{In}
use Rattle.order_laws.proofs.ForCallers.{each_from, first_where_none}
use Rattle.fed_rules.specs.declared.commands.Command.{Command}
use Rattle.fed_rules.specs.declared.events.SiteEvent.{SiteEvent}
use Rattle.fed_rules.specs.declared.events.SiteEvent.TheVariants as Ev
use Rattle.fed_rules.specs.declared.records.SiteRecord.{SiteRecord}
use Rattle.fed_rules.specs.declared.records.SiteRecord.TheVariants as Rec
use Rattle.fed_rules.specs.declared.scenario.Scenario.{Scenario}
use Rattle.fed_rules.specs.EngineLines.{IsRight}
use Rattle.fed_rules.specs.Plans.{IsScenario}
use Rattle.fed_rules.specs.Runs.{Run, unended, is_sealed}
use Rattle.fed_rules.specs.Scenarios.{home_of, local_home}
use Rattle.fed_rules.specs.Site.{site_line}
use Rattle.fed_rules.specs.SitePast.{SiteHappening, SitePast, disk, records, epoch_start, engine_lines, run_of, live, live_of_tx}
use Rattle.fed_rules.specs.SiteRecords.{Home, local_of}
use Rattle.fed_rules.specs.Story.{Happened, AtSite, AtCoordinator, Nowhere, past_of, with_site, story_of}
use Rattle.engine_laws.proofs.ForCallers.{each_unended, tid_is}
use Rattle.site_history.specs.Stories.{StoriesHaveRightLines}
use Rattle.site_history.specs.Accesses.{seals}
use Rattle.federation_laws.proofs.LocalLines.{local-made}
use Rattle.federation_laws.proofs.LocalMoves.{Opens, LocalMove, Rests, Gone, Opening, Granting, Closing, Made}
use Rattle.federation_laws.proofs.LocalStories.{not-asked}
use Rattle.federation_laws.proofs.Members.{IsLocal, record-from, sealing-call}
use Rattle.site_history.proofs.ForCallers.{live_is}
use Rattle.federation_laws.proofs.Told.{SiteCause, IsSiteLine, IsLine, line_is}

-- a run of the attempt is live, or a Local record of it is kept
abbrev pub IsActiveThere : Home → SitePast → Tid → Type 0
IsActiveThere home past t = ((run : Run) × (live home past t ≡ Some run)) ⊎ IsLocal (records home past) t

-- no two attempts of the site's own transactions are so
abbrev pub LocalOnce : Scenario → Home → SitePast → Type 0
LocalOnce scenario home past =
    (a b : Tid) → local_home scenario a.tx ≡ Some home → a.tx ≡ b.tx → IsActiveThere home past a → IsActiveThere home past b → a ≡ b

-- who is active after a line was so, or begins
active-from : (home : Home) (past : SitePast) (event : SiteEvent) (x : SiteHappening) (t : Tid) → LocalMove home past t event x → IsActiveThere home (x ∷ past) t → IsActiveThere home past t ⊎ Opens home past t event x
active-from home past event x t (Rests i s) (inl l) = inl (inl (l.0, sym s ∙ l.1))
active-from home past event x t (Gone i none) (inl l) = (let found = l.1 in let clash = sym none ∙ found in cc)
active-from home past event x t (Opening o) (inl l) = inr o
active-from home past event x t (Granting g) (inl l) = inl (inl (g.run, g.was))
active-from home past event x t (Closing k) (inl l) = (let none = k.now in let found = l.1 in let clash = sym none ∙ found in cc)
active-from home past event x t move (inr l) = elim (record-from x.calls (disk home past) (Rec.Local t l.number l.writes) l.kept) [
  | inl old ↦ inl (inr (record { number = l.number; writes = l.writes; kept = old }))
  | inr new ↦ inl (inl (by_move move (sealing-call t (Rec.Local t l.number l.writes) x.calls (same_tid-refl t) new)))
]
  where
    by_move : LocalMove home past t event x → some_of (seals t) x.calls ≡ true → (run : Run) × (live home past t ≡ Some run)
    by_move (Rests i s) e = (let no_one = i.unsealed in let clash = sym no_one ∙ e in cc)
    by_move (Gone i none) e = (let no_one = i.unsealed in let clash = sym no_one ∙ e in cc)
    by_move (Opening o) e = (let no_one = o.idle.unsealed in let clash = sym no_one ∙ e in cc)
    by_move (Granting g) e = (let no_one = g.unsealed in let clash = sym no_one ∙ e in cc)
    by_move (Closing k) e = (k.run, k.was)

-- where no attempt of a transaction committed, none of its attempts has a Local record
none-local : (rs : List SiteRecord) (tx : Tx) (t : Tid) (number : ℕ) (writes : List Put) → local_of rs tx ≡ None → t.tx ≡ tx → In (Rec.Local t number writes) rs → ⊥
none-local [] tx t number writes e s i = i
none-local (r ∷ rs) tx t number writes e s (inl own) =
    (let shown : local_of (Rec.Local t number writes ∷ rs) tx ≡ None = subst (λ q. local_of (q ∷ rs) tx ≡ None) own e in
    let yes : local_of (Rec.Local t number writes ∷ rs) tx ≡ Some t = ap (λ b. cond b (Some t) (local_of rs tx)) (same_tx-from t.tx tx s) in
    let clash = sym yes ∙ shown in cc)
none-local (r ∷ rs) tx t number writes e s (inr i) = none-local rs tx t number writes (behind r e) s i
  where
    behind : (r : SiteRecord) → local_of (r ∷ rs) tx ≡ None → local_of rs tx ≡ None
    behind (Rec.Local tid n w) e = by_test (same_tx tid.tx tx) e
      where
        by_test : (b : Bool) → cond b (Some tid) (local_of rs tx) ≡ None → local_of rs tx ≡ None
        by_test true e = cc
        by_test false e = e
    behind (Rec.Setup site engine protocol items) e = e
    behind (Rec.Checkpoint sum) e = e
    behind (Rec.Start epoch) e = e
    behind (Rec.Prepared tid epoch n ticket w) e = e
    behind (Rec.Ended tid decision) e = e

-- where no attempt of a transaction is live, none of its attempts has a live run
none-live : (home : Home) (past : SitePast) (tx : Tx) (t : Tid) (run : Run) → IsRight (epoch_start home past) (engine_lines past) → live_of_tx home past tx ≡ None → t.tx ≡ tx → live home past t ≡ Some run → ⊥
none-live home past tx t run right none s alive = (let clash = sym passes ∙ fails in cc)
  where
    first-none : (o : Option Run) → map_some (λ r. r.tid) o ≡ None → o ≡ None
    first-none None e = refl
    first-none (Some r) e = cc

    unfound : first_where (λ r. same_tx r.tid.tx tx && not (is_sealed r)) (unended (epoch_start home past) (engine_lines past)) ≡ None
    unfound = first-none (first_where (λ r. same_tx r.tid.tx tx && not (is_sealed r)) (unended (epoch_start home past) (engine_lines past))) none

    at : (run_of home past t ≡ Some run) × (run.sealed ≡ None)
    at = live_is (run_of home past t) run alive

    fails : (same_tx run.tid.tx tx && not (is_sealed run)) ≡ false
    fails =
        each_unended (epoch_start home past) (engine_lines past) right (λ r. (same_tx r.tid.tx tx && not (is_sealed r)) ≡ false)
        (each_from (λ r. (same_tx r.tid.tx tx && not (is_sealed r)) ≡ false) (unended (epoch_start home past) (engine_lines past))
        (λ r i. first_where_none (λ (q : Run). same_tx q.tid.tx tx && not (is_sealed q)) (unended (epoch_start home past) (engine_lines past)) r unfound i)) t run at.0

    own : run.tid ≡ t
    own = tid_is (epoch_start home past) (engine_lines past) right t run at.0

    passes : (same_tx run.tid.tx tx && not (is_sealed run)) ≡ true
    passes = ap (λ b. b && not (is_sealed run)) (same_tx-from run.tid.tx tx (ap (λ (u : Tid). u.tx) own ∙ s)) ∙ ap (λ (o : Option ℕ). not (is_some o)) at.1

-- where an attempt begins, no other one of its transaction is active
opens-alone : (home : Home) (past : SitePast) (event : SiteEvent) (x : SiteHappening) (a b : Tid) → IsRight (epoch_start home past) (engine_lines past) → Opens home past a event x → b.tx ≡ a.tx → IsActiveThere home past b → ⊥
opens-alone home past event x a b right o s (inl l) = none-live home past a.tx b l.0 right o.alone s l.1
opens-alone home past event x a b right o s (inr l) = none-local (records home past) a.tx b l.number l.writes o.uncommitted s l.kept

opens-same : (home : Home) (past : SitePast) (event : SiteEvent) (x : SiteHappening) (a b : Tid) → Opens home past a event x → Opens home past b event x → a ≡ b
opens-same home past event x a b p q = (let both : Ev.Begin a ≡ Ev.Begin b = sym p.taken ∙ q.taken in cc)

once-next : (scenario : Scenario) (home : Home) (past : SitePast) (event : SiteEvent) (x : SiteHappening) → IsRight (epoch_start home past) (engine_lines past) → ((t : Tid) → local_home scenario t.tx ≡ Some home → LocalMove home past t event x) → LocalOnce scenario home past → LocalOnce scenario home (x ∷ past)
once-next scenario home past event x right moves h a b here s p q =
    either (active-from home past event x a (moves a here) p) (active-from home past event x b (moves b (ap (local_home scenario) (sym s) ∙ here)) q)
  where
    either : IsActiveThere home past a ⊎ Opens home past a event x → IsActiveThere home past b ⊎ Opens home past b event x → a ≡ b
    either (inl p) (inl q) = h a b here s p q
    either (inl p) (inr q) = absurd (opens-alone home past event x b a right q s p)
    either (inr p) (inl q) = absurd (opens-alone home past event x a b right p (sym s) q)
    either (inr p) (inr q) = opens-same home past event x a b p q

once-here : (scenario : Scenario) → IsScenario scenario → (commands : List Command) (home : Home) (x : SiteHappening) (event : SiteEvent) → IsRight (epoch_start home (past_of home.site (story_of scenario commands))) (engine_lines (past_of home.site (story_of scenario commands)))
    → x ≡ site_line home (past_of home.site (story_of scenario commands)) event → SiteCause scenario (story_of scenario commands) home event → LocalOnce scenario home (past_of home.site (story_of scenario commands)) → LocalOnce scenario home (x ∷ past_of home.site (story_of scenario commands))
once-here scenario good commands home x event right is c h =
    let past = past_of home.site (story_of scenario commands) in
    once-next scenario home past event x right
    (λ t here. (subst (λ (y : SiteHappening). Made home past t event y) (sym is) (local-made home past t event (not-asked scenario good commands t home home event here c))).move) h

once-site-line : (scenario : Scenario) → IsScenario scenario → (commands : List Command) (home : Home) (s : SiteId) (x : SiteHappening) → home_of scenario home.site ≡ Some home → IsRight (epoch_start home (past_of home.site (story_of scenario commands))) (engine_lines (past_of home.site (story_of scenario commands)))
    → IsSiteLine scenario (story_of scenario commands) s x → LocalOnce scenario home (past_of home.site (story_of scenario commands)) → (b : Bool) → same_site s home.site ≡ b → LocalOnce scenario home (cond b (x ∷ past_of home.site (story_of scenario commands)) (past_of home.site (story_of scenario commands)))
once-site-line scenario good commands home s x declared right line h true q =
    let own : line.home.site ≡ home.site = sym line.here ∙ same_site-equal s home.site q in
    let same : line.home ≡ home = some_parts (sym line.declared ∙ (ap (home_of scenario) own ∙ declared)) in
    once-here scenario good commands home x line.event right
    (subst (λ (z : Home). x ≡ site_line z (past_of z.site (story_of scenario commands)) line.event) same line.is_next)
    (subst (λ z. SiteCause scenario (story_of scenario commands) z line.event) same line.cause) h
once-site-line scenario good commands home s x declared right line h false q = h

once-happened : (scenario : Scenario) → IsScenario scenario → (commands : List Command) (happened : Happened) (home : Home) → home_of scenario home.site ≡ Some home → IsRight (epoch_start home (past_of home.site (story_of scenario commands))) (engine_lines (past_of home.site (story_of scenario commands)))
    → IsLine scenario (story_of scenario commands) happened → LocalOnce scenario home (past_of home.site (story_of scenario commands)) → LocalOnce scenario home (with_site home.site happened (past_of home.site (story_of scenario commands)))
once-happened scenario good commands (AtSite s x) home declared right line h = once-site-line scenario good commands home s x declared right line h (same_site s home.site) refl
once-happened scenario good commands (AtCoordinator x) home declared right line h = h
once-happened scenario good commands (Nowhere answer) home declared right line h = h

local-first : (scenario : Scenario) (home : Home) → LocalOnce scenario home []
local-first scenario home a b here s (inl l) q = (let found = l.1 in cc)
local-first scenario home a b here s (inr l) q = absurd (nothing l.kept)
  where
    nothing : In (Rec.Local a l.number l.writes) (records home []) → ⊥
    nothing (inl e) = cc
    nothing (inr (inl e)) = cc
    nothing (inr (inr i)) = i

-- so it is at each declared site of every story
pub local-once : StoriesHaveRightLines → (scenario : Scenario) → IsScenario scenario → (commands : List Command) (home : Home) → home_of scenario home.site ≡ Some home → LocalOnce scenario home (past_of home.site (story_of scenario commands))
local-once right scenario good [] home declared = local-first scenario home
local-once right scenario good (command ∷ commands) home declared =
    once-happened scenario good commands _ home declared (right scenario commands home.site home declared).right (line_is scenario (story_of scenario commands) command) (local-once right scenario good commands home declared)
