-- The live attempt of a local transaction is the one that was begun last.
use Rattle.std.proofs.Common.{◌≡◌, Bool, true, false, cond, Option, Some, None, List, [], ◌∷◌, refl, sym, ap, subst, ◌∙◌}
use Rattle.mdb_base.specs.declared.names.SiteId.{SiteId}
use Rattle.mdb_base.specs.declared.names.Tid.{Tid}
use Rattle.mdb_base.specs.declared.names.Tx.{Tx}
use Rattle.mdb_base.specs.Names.{same_site, same_tx}
use Rattle.mdb_base.proofs.ForCallers.{same_site-equal, same_tx-equal, some_parts}
use Rattle.fed_rules.specs.declared.answers.Answer.{Answer}
use Rattle.fed_rules.specs.declared.answers.Answer.TheVariants as Say
use Rattle.fed_rules.specs.declared.commands.Command.{Command}
use Rattle.fed_rules.specs.declared.events.SiteEvent.{SiteEvent}
use Rattle.fed_rules.specs.declared.events.SiteEvent.TheVariants as Ev
use Rattle.fed_rules.specs.declared.scenario.Scenario.{Scenario}
use Rattle.fed_rules.specs.EngineLines.{IsRight}
use Rattle.fed_rules.specs.Plans.{IsScenario}
use Rattle.fed_rules.specs.Runs.{Run}
use Rattle.fed_rules.specs.Scenarios.{home_of, local_home}
use Rattle.fed_rules.specs.Site.{site_line}
use Rattle.fed_rules.specs.SitePast.{SiteHappening, SitePast, begins_tx, engine_lines, epoch_start, live, live_of_tx}
use Rattle.fed_rules.specs.SiteRecords.{Home}
use Rattle.fed_rules.specs.Story.{Happened, AtSite, AtCoordinator, Nowhere, happens, past_of, story_of, with_site}
use Rattle.site_history.specs.Stories.{StoriesHaveRightLines}
use Rattle.site_history.proofs.ForCallers.{none_live}
use Rattle.federation_laws.proofs.ForCallers.{Closing, Gone, Granting, IsLine, IsSiteLine, LocalMove, Made, Opening, Rests, SiteCause, line_is, local-made, not-asked}
use Rattle.session_report.proofs.Answered.{BeginsSo, site_says}

-- the attempt of the transaction that the answer begins
abbrev pub begun_in : Tx → Answer → Option Tid → Option Tid
begun_in tx (Say.Begun tid) older = cond (same_tx tid.tx tx) (Some tid) older
begun_in tx answer older = older

-- the attempt of a local transaction that was begun last
abbrev pub last_begun : SitePast → Tx → Option Tid
last_begun [] tx = None
last_begun (x ∷ past) tx = begun_in tx x.answer (last_begun past tx)

module _ (rights : StoriesHaveRightLines) (scenario : Scenario) (whole : IsScenario scenario) where
  -- the live attempt was begun last
  abbrev pub IsLast : Home → SitePast → Type 0
  IsLast home past = (t : Tid) (run : Run) → local_home scenario t.tx ≡ Some home → live home past t ≡ Some run → last_begun past t.tx ≡ Some t

  -- a line that finds an attempt live begins no other one of its transaction
  unbegun : (home : Home) (past : SitePast) (event : SiteEvent) (t : Tid) (run : Run) → IsRight (epoch_start home past) (engine_lines past) → live home past t ≡ Some run
      → (answer : Answer) → BeginsSo home past event answer → (older : Option Tid) → begun_in t.tx answer older ≡ older
  unbegun home past event t run right alive (Say.Begun u) b older = by_test (same_tx u.tx t.tx) refl
    where
      by_test : (c : Bool) → same_tx u.tx t.tx ≡ c → cond c (Some u) older ≡ older
      by_test false q = refl
      by_test true q = absurd (none_live home past t run right alive (ap (live_of_tx home past) (sym (same_tx-equal u.tx t.tx q)) ∙ b.1))
  unbegun home past event t run right alive answer b older = refl

  -- where it begins, it is the last one
  opened : (home : Home) (past : SitePast) (event : SiteEvent) (t : Tid) (answer : Answer) (older : Option Tid) → begins_tx t.tx answer ≡ true → BeginsSo home past event answer → event ≡ Ev.Begin t
      → begun_in t.tx answer older ≡ Some t
  opened home past event t (Say.Begun u) older e b taken =
      let both : Ev.Begin u ≡ Ev.Begin t = sym b.0 ∙ taken in
      let same : u ≡ t = cc in
      ap (λ c. cond c (Some u) older) e ∙ ap (λ (z : Tid). Some z) same
  opened home past event t answer older e b taken = cc

  last_next : (home : Home) (past : SitePast) (event : SiteEvent) (x : SiteHappening) → IsRight (epoch_start home past) (engine_lines past) → BeginsSo home past event x.answer
      → ((t : Tid) → local_home scenario t.tx ≡ Some home → LocalMove home past t event x) → IsLast home past → IsLast home (x ∷ past)
  last_next home past event x right says moves last t run here alive = by_move (moves t here)
    where
      stays : (before : Run) → live home past t ≡ Some before → last_begun (x ∷ past) t.tx ≡ Some t
      stays before was = unbegun home past event t before right was x.answer says (last_begun past t.tx) ∙ last t before here was

      by_move : LocalMove home past t event x → last_begun (x ∷ past) t.tx ≡ Some t
      by_move (Rests i s) = stays run (sym s ∙ alive)
      by_move (Gone i none) = (let clash = sym none ∙ alive in cc)
      by_move (Opening o) = opened home past event t x.answer (last_begun past t.tx) o.begins says o.taken
      by_move (Granting g) = stays g.run g.was
      by_move (Closing k) = (let none = k.now in let clash = sym none ∙ alive in cc)

  last_first : (home : Home) → IsLast home []
  last_first home t run here alive = cc

  last_line : (commands : List Command) (home : Home) (s : SiteId) (x : SiteHappening) → home_of scenario home.site ≡ Some home → IsSiteLine scenario (story_of scenario commands) s x
      → IsLast home (past_of home.site (story_of scenario commands)) → (b : Bool) → same_site s home.site ≡ b
      → IsLast home (cond b (x ∷ past_of home.site (story_of scenario commands)) (past_of home.site (story_of scenario commands)))
  last_line commands home s x declared line last false q = last
  last_line commands home s x declared line last true q =
      let past = past_of home.site (story_of scenario commands) in
      let own : line.home.site ≡ home.site = sym line.here ∙ same_site-equal s home.site q in
      let same : line.home ≡ home = some_parts (sym line.declared ∙ (ap (home_of scenario) own ∙ declared)) in
      let is = subst (λ (z : Home). x ≡ site_line z (past_of z.site (story_of scenario commands)) line.event) same line.is_next in
      let cause = subst (λ z. SiteCause scenario (story_of scenario commands) z line.event) same line.cause in
      last_next home past line.event x (rights scenario commands home.site home declared).right
      (subst (λ (y : SiteHappening). BeginsSo home past line.event y.answer) (sym is) (site_says home past line.event).begins)
      (λ t here. (subst (λ (y : SiteHappening). Made home past t line.event y) (sym is) (local-made home past t line.event (not-asked scenario whole commands t home home line.event here cause))).move) last

  last_happened : (commands : List Command) (happened : Happened) (home : Home) → home_of scenario home.site ≡ Some home → IsLine scenario (story_of scenario commands) happened
      → IsLast home (past_of home.site (story_of scenario commands)) → IsLast home (with_site home.site happened (past_of home.site (story_of scenario commands)))
  last_happened commands (AtSite s x) home declared line last = last_line commands home s x declared line last (same_site s home.site) refl
  last_happened commands (AtCoordinator x) home declared line last = last
  last_happened commands (Nowhere answer) home declared line last = last

  -- so it is at each declared site of every story
  pub lasts : (commands : List Command) (home : Home) → home_of scenario home.site ≡ Some home → IsLast home (past_of home.site (story_of scenario commands))
  lasts [] home declared = last_first home
  lasts (command ∷ commands) home declared =
      last_happened commands (happens scenario (story_of scenario commands) command) home declared (line_is scenario (story_of scenario commands) command) (lasts commands home declared)
