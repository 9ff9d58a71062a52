-- An attempt that is known, live or in doubt is one of 32 of a declared transaction, so different ones are at most 32,768.
use Rattle.std.proofs.Common.{◌≡◌, ℕ, suc, ◌<◌, ◌≤◌, Bool, true, false, cond, not, nat_le, is_some, Option, Some, None, List, [], ◌∷◌, map, length, inl, inr, refl, sym, ap, subst, ◌∙◌, arith, eq-eqb}
use Rattle.std.proofs.lemmas.Bool.{and_parts, cases_lt, leb-true, leb-false}
use Rattle.mdb_base.specs.declared.acts.Step.{Step}
use Rattle.mdb_base.specs.declared.names.SiteId.{SiteId}
use Rattle.mdb_base.specs.declared.names.Tid.{Tid}
use Rattle.mdb_base.specs.declared.names.Tx.{Tx}
use Rattle.mdb_base.specs.Names.{same_tx}
use Rattle.mdb_base.specs.Words.{Among, each_of, found, given, how_many, map_some, those, when, with_some}
use Rattle.mdb_base.proofs.ForCallers.{length-map, same_tx-equal}
use Rattle.order_laws.specs.Chains.{In}
use Rattle.order_laws.proofs.ForCallers.{among_is, among_map, among_weaker, each_of_at, first_where_some, is_among}
use Rattle.fed_rules.specs.declared.commands.Command.{Command}
use Rattle.fed_rules.specs.declared.commands.Command.TheVariants as Cmd
use Rattle.fed_rules.specs.declared.events.CoordEvent.TheVariants as Coord_event
use Rattle.fed_rules.specs.declared.events.SiteEvent.{SiteEvent}
use Rattle.fed_rules.specs.declared.events.SiteEvent.TheVariants as Ev
use Rattle.fed_rules.specs.declared.scenario.Scenario.{Scenario}
use Rattle.fed_rules.specs.declared.scenario.TxLine.{TxLine}
use Rattle.fed_rules.specs.Attempts.{each_attempt}
use Rattle.fed_rules.specs.Closing.{in_doubt_at, live, live_at}
use Rattle.fed_rules.specs.Coord.{coord_line}
use Rattle.fed_rules.specs.CoordCommands.{go_next, go_request}
use Rattle.fed_rules.specs.CoordPast as Coordinator
use Rattle.fed_rules.specs.CoordPast.{CoordHappening, CoordPast, begun_by, begun_tids}
use Rattle.fed_rules.specs.Plans.{IsScenario, is_between, is_in_place, is_transaction, one_transaction}
use Rattle.fed_rules.specs.Requests.{Submits, Declines, attempt, most_attempts, unless_begun}
use Rattle.fed_rules.specs.Runs.{Run, attempts, is_sealed, run_at, unended}
use Rattle.fed_rules.specs.Scenarios.{global_line, global_program, home_at, home_of, home_of_line, local_home, local_site, policy, protocols, transaction}
use Rattle.fed_rules.specs.SitePast as Site
use Rattle.fed_rules.specs.SitePast.{SiteHappening, SitePast, begins_tx, engine_lines, epoch_start, live_one, records}
use Rattle.fed_rules.specs.SiteRecords.{Home, Held, doubt_of, doubts, prepared_tids}
use Rattle.fed_rules.specs.Story.{Story, Happened, AtSite, AtCoordinator, Nowhere, coord_past, coord_requested, happens, on_go, past_of, story_of, with_coordinator}
use Rattle.fed_rules.specs.Lines.{CoordCause, IsLine}
use Rattle.fed_rules.proofs.ForCallers.{each_distinct, line_is}
use Rattle.coord_laws.proofs.ForCallers.{begin_in_order, begin_once, begins_go, begins_some, coord_lines}
use Rattle.commit_laws.proofs.ForCallers.{agreed, coord-sound, held-prepared, home-again, next-turn, nowhere, story_goes_on}
use Rattle.site_history.specs.Led.{IsAsked, IsLed}
use Rattle.found_laws.specs.Ranges.{IsInRange}
use Rattle.closing_laws.proofs.BegunOnce.{IsOthers, led_story, locals_numbered, sites_begin_once}
use Rattle.closing_laws.proofs.FewTids.{few_found, few_tids}
use Rattle.closing_laws.proofs.Lengths.{few_numbers, length_rising, length_sorted, numbers_differ}
use Rattle.closing_laws.proofs.Locals.{Begins, IsBeginOf, by_line}
use Rattle.closing_laws.proofs.Unbegun.{unbegun_none}

-- the scenario has a line of the transaction
abbrev IsListed : Scenario → Tx → Type 0
IsListed scenario tx = Among (λ (line : TxLine). line.tx ≡ tx) scenario.transactions

first_listed : (scenario : Scenario) (tx : Tx) (line : TxLine) → transaction scenario tx ≡ Some line → IsListed scenario tx
first_listed scenario tx line e =
    let (listed, own) = first_where_some (λ (l : TxLine). same_tx l.tx tx) scenario.transactions line e in
    is_among (λ (l : TxLine). l.tx ≡ tx) line scenario.transactions listed (same_tx-equal line.tx tx own)

global_listed : (scenario : Scenario) (tx : Tx) (steps : List Step) → global_program scenario tx ≡ Some steps → IsListed scenario tx
global_listed scenario tx steps program = by_line (transaction scenario tx) refl program
  where
    by_line : (o : Option TxLine) → transaction scenario tx ≡ o → map_some (λ line. line.program) (global_line o) ≡ Some steps → IsListed scenario tx
    by_line None e p = cc
    by_line (Some line) e p = first_listed scenario tx line e

local_listed : (scenario : Scenario) (tx : Tx) (home : Home) → local_home scenario tx ≡ Some home → IsListed scenario tx
local_listed scenario tx home homed = by_line (transaction scenario tx) refl homed
  where
    by_line : (o : Option TxLine) → transaction scenario tx ≡ o → home_at scenario (home_of_line o) ≡ Some home → IsListed scenario tx
    by_line None e h = cc
    by_line (Some line) e h = first_listed scenario tx line e

-- so many attempts of a transaction were begun: 32 at most, and none without a line of it
record AreFew (scenario : Scenario) (tx : Tx) (count : ℕ) : Type 0 where
  most : count ≤ 32
  listed : 0 < count → IsListed scenario tx

none_few : (scenario : Scenario) (tx : Tx) → AreFew scenario tx 0
none_few scenario tx = record { most = omega arith; listed = λ some. absurd (omega (arith, some)) }

-- `go` begins an attempt only where fewer were begun
go_few : (scenario : Scenario) (story : Story) (tx : Tx) (x : CoordHappening) → happens scenario story (Cmd.Go tx) ≡ AtCoordinator x
    → Coordinator.attempts_of (coord_past story) tx < 32
unfolding happens on_go go_request go_next given when
go_few scenario story tx x told = by_program (global_program scenario tx) told
  where
    count : ℕ
    count = Coordinator.attempts_of (coord_past story) tx

    by_test : (steps : List Step) (b : Bool) → nat_le most_attempts count ≡ b
        → coord_requested scenario story
        (when b (Declines (unless_begun (coord_line (protocols scenario) (policy scenario) (coord_past story) (Coord_event.Go (attempt tx count) steps)).answer)) (Submits (Coord_event.Go (attempt tx count) steps)))
        ≡ AtCoordinator x
        → count < 32
    by_test steps true q e = cc
    by_test steps false q e = leb-false 32 count q

    by_program : (o : Option (List Step)) → coord_requested scenario story (go_request (protocols scenario) (policy scenario) o (coord_past story) tx) ≡ AtCoordinator x → count < 32
    by_program None e = cc
    by_program (Some steps) e = by_test steps (nat_le most_attempts count) refl e

-- a line that begins an attempt is of `go`
record CanGo (scenario : Scenario) (story : Story) (tx : Tx) : Type 0 where
  few : Coordinator.attempts_of (coord_past story) tx < 32
  listed : IsListed scenario tx

can_go : (scenario : Scenario) (story : Story) (command : Command) (t : Tid) (steps : List Step) (x : CoordHappening)
    → CoordCause scenario story command (Coord_event.Go t steps) → happens scenario story command ≡ AtCoordinator x → CanGo scenario story t.tx
can_go scenario story (Cmd.Go tx) t steps x c told =
    let is = c.is in
    let own : t.tx ≡ tx = cc in
    subst (CanGo scenario story) (sym own) (record { few = go_few scenario story tx x told; listed = global_listed scenario tx c.steps c.program })
can_go scenario story (Cmd.Fate tx) t steps x c told = let is = c.is in cc
can_go scenario story (Cmd.Again tid) t steps x c told = cc
can_go scenario story (Cmd.Late tid) t steps x c told = cc
can_go scenario story (Cmd.Take site place) t steps x c told = let is = c.is in cc
can_go scenario story (Cmd.Halt actor cut) t steps x c told = let is = c.1 in cc
can_go scenario story (Cmd.Trip actor calls cut) t steps x c told = let is = c.1 in cc
can_go scenario story (Cmd.Back actor) t steps x c told = let is = c.1 in cc
can_go scenario story (Cmd.Check actor) t steps x c told = let is = c.1 in cc
can_go scenario story (Cmd.Begin tx) t steps x c told = absurd c
can_go scenario story (Cmd.Step tx) t steps x c told = absurd c
can_go scenario story (Cmd.Commit tx) t steps x c told = absurd c
can_go scenario story (Cmd.Abort tx) t steps x c told = absurd c
can_go scenario story (Cmd.Give site place) t steps x c told = absurd c
can_go scenario story (Cmd.Ask site tid) t steps x c told = absurd c
can_go scenario story (Cmd.Drop site tid) t steps x c told = absurd c

-- so the coordinator begins at most 32 attempts of each transaction
coord_few : (scenario : Scenario) (commands : List Command) (tx : Tx) → AreFew scenario tx (Coordinator.attempts_of (coord_past (story_of scenario commands)) tx)
coord_few scenario [] tx = none_few scenario tx
coord_few scenario (command ∷ commands) tx = more (happens scenario story command) refl (line_is scenario story command) (coord_few scenario commands tx)
  where
    story : Story
    story = story_of scenario commands

    past : CoordPast
    past = coord_past story

    more : (happened : Happened) → happens scenario story command ≡ happened → IsLine scenario story command happened → AreFew scenario tx (Coordinator.attempts_of past tx)
        → AreFew scenario tx (Coordinator.attempts_of (with_coordinator happened past) tx)
    more (Nowhere answer) told line old = old
    more (AtSite at x) told line old = old
    more (AtCoordinator x) told line old = by_begun (begun_by x.answer) refl
      where
        goes : (t : Tid) → begun_by x.answer ≡ Some t → CanGo scenario story t.tx
        goes t q =
            let (event, turn) = next-turn scenario commands x (command, told) t in
            let (steps, is) = begins_go (protocols scenario) t past x turn.line.stood (begins_some t x.answer q) in
            let own = coord_lines (protocols scenario) (policy scenario) t past line.event turn.sound.firm in
            let named : line.event ≡ Coord_event.Go t steps = sym own.is ∙ ap (λ y. y.event) (sym line.is_next) ∙ is in
            can_go scenario story command t steps x (subst (CoordCause scenario story command) named line.cause) told

        by_begun : (o : Option Tid) → begun_by x.answer ≡ o → AreFew scenario tx (how_many (λ (t : Tid). same_tx t.tx tx) (with_some o (begun_tids past)))
        by_begun None q = old
        by_begun (Some t) q = by_test (same_tx t.tx tx) refl
          where
            by_test : (b : Bool) → same_tx t.tx tx ≡ b → AreFew scenario tx (cond b (suc (Coordinator.attempts_of past tx)) (Coordinator.attempts_of past tx))
            by_test false e = old
            by_test true e =
                let can = subst (CanGo scenario story) (same_tx-equal t.tx tx e) (goes t q) in
                record { most = (let few = can.few in omega (arith, few)); listed = λ some. can.listed }

-- and a site at most 32 of each local one
led_few : (scenario : Scenario) (home : Home) (past : SitePast) → IsLed (IsOthers scenario) scenario home past → (tx : Tx) → AreFew scenario tx (Site.attempts_of past tx)
led_few scenario home [] led tx = none_few scenario tx
led_few scenario home (x ∷ past) (line, led) tx = by_begun (begins_tx tx x.answer) refl (led_few scenario home past led tx)
  where
    begins : (event : SiteEvent) → IsAsked scenario home past event → IsBeginOf tx event → AreFew scenario tx (suc (Site.attempts_of past tx))
    begins (Ev.Begin t) asked own =
        let same = same_tx-equal t.tx tx own in
        record {
          most = (let few = leb-false most_attempts t.attempt asked.few in let next = asked.next ∙ ap (Site.attempts_of past) same in omega (arith, few, next));
          listed = λ some. subst (IsListed scenario) same (local_listed scenario t.tx home asked.homed);
        }
    begins event asked own = absurd own

    by_begun : (b : Bool) → begins_tx tx x.answer ≡ b → AreFew scenario tx (Site.attempts_of past tx) → AreFew scenario tx (cond b (suc (Site.attempts_of past tx)) (Site.attempts_of past tx))
    by_begun false q old = old
    by_begun true q old = begins line.event line.asked ((subst (Begins tx line.event) (sym line.line) (by_line tx home past line.event)).begins q)

-- the attempt is one of 32 of a declared transaction
record IsAttempt (scenario : Scenario) (tid : Tid) : Type 0 where
  few : tid.attempt < 32
  listed : IsListed scenario tid.tx

is_attempt : (scenario : Scenario) (tid : Tid) (count : ℕ) → AreFew scenario tid.tx count → tid.attempt < count → IsAttempt scenario tid
is_attempt scenario tid count few less = record { few = (let most = few.most in omega (arith, most, less)); listed = few.listed (omega (arith, less)) }

-- a scenario has at most 1,024 transactions
module _ (scenario : Scenario) (whole : IsScenario scenario) where
  of_line : (k : ℕ) → Among (λ (l : TxLine). l.tx.0 ≡ k) scenario.transactions → (0 < k) × (k ≤ 1024)
  of_line k m =
      let (line, listed, is) = among_is (λ (l : TxLine). l.tx.0 ≡ k) scenario.transactions m in
      let ok = each_of_at (is_transaction scenario.sites) scenario.transactions line whole.transactions.in_place listed in
      let between = (and_parts (is_between 1 1024 line.tx.0) (each_of (is_in_place scenario.sites line.home) line.program) ok).0 in
      let parts = and_parts (nat_le 1 line.tx.0) (nat_le line.tx.0 1024) between in
      let low = leb-true 1 line.tx.0 parts.0 in
      let high = leb-true line.tx.0 1024 parts.1 in (omega (arith, low, is), omega (arith, high, is))

  in_range : (k : ℕ) → In k (map (λ (l : TxLine). l.tx.0) scenario.transactions) → (0 < k) × (k ≤ 1024)
  in_range k i = of_line k (among_map (λ n. n ≡ k) (λ (l : TxLine). l.tx.0) scenario.transactions i)

  pub few_transactions : length scenario.transactions ≤ 1024
  few_transactions =
      let numbers = numbers_differ one_transaction (λ (l : TxLine). l.tx.0) (λ a b e. eq-eqb a.tx.0 b.tx.0 e) scenario.transactions whole.transactions.differ in
      let few = few_numbers (map (λ (l : TxLine). l.tx.0) scenario.transactions) 1024 numbers in_range in
      let all = length-map (λ (l : TxLine). l.tx.0) scenario.transactions in omega (arith, few, all)

  attempt_range : (tid : Tid) → IsAttempt scenario tid → IsInRange tid
  attempt_range tid is =
      let tx = of_line tid.tx.0 (among_weaker (λ (l : TxLine). l.tx ≡ tid.tx) (λ (l : TxLine). l.tx.0 ≡ tid.tx.0) (λ l e. ap (λ (t : Tx). t.0) e) scenario.transactions is.listed) in
      let least = tx.0 in (omega (arith, least), tx.1, is.few)

  module _ (commands : List Command) where
    abbrev story : Story
    story = story_of scenario commands

    -- an attempt that was begun is numbered below what was begun of its transaction
    pub begun_few : length (begun_tids (coord_past story)) ≤ 32768
    begun_few =
        let made = story_goes_on scenario commands in
        few_tids (begun_tids (coord_past story)) (begin_once (protocols scenario) (policy scenario) (coord_past story) made)
        (λ tid i.
        let less = (begin_in_order (protocols scenario) (policy scenario) (coord_past story) made tid).0 i in
        attempt_range tid (is_attempt scenario tid _ (coord_few scenario commands tid.tx) less))

    module _ (home : Home) (declared : home_of scenario home.site ≡ Some home) where
      abbrev past : SitePast
      past = past_of home.site story

      -- an attempt that is live at a site was begun there as a local one, or by the coordinator
      live_attempt : (tid : Tid) (run : Run) → In tid (attempts (epoch_start home past) (engine_lines past)) → Site.live home past tid ≡ Some run → IsAttempt scenario tid
      live_attempt tid run i alive = by_site (local_site scenario tid.tx) refl
        where
          by_site : (o : Option SiteId) → local_site scenario tid.tx ≡ o → IsAttempt scenario tid
          by_site (Some site) e =
              is_attempt scenario tid _ (led_few scenario home past (led_story scenario commands home declared) tid.tx) (locals_numbered scenario commands home declared tid i (ap is_some e))
          by_site None e = elim (cases_lt tid.attempt (Coordinator.attempts_of (coord_past story) tid.tx)) [
            | inl less ↦ is_attempt scenario tid _ (coord_few scenario commands tid.tx) less
            | inr not_begun ↦ (let clash = sym (unbegun_none scenario commands home tid whole declared e not_begun) ∙ alive in cc)
          ]

      -- and one that the site is in doubt of was begun by the coordinator, which had it prepared
      doubt_attempt : (tid : Tid) (held : Held) → doubt_of (records home past) tid ≡ Some held → IsAttempt scenario tid
      doubt_attempt tid held e =
          let a = agreed scenario home tid commands declared in
          let p = a.prepared held.epoch (held-prepared (records home past) tid held e) in
          is_attempt scenario tid _ (coord_few scenario commands tid.tx) ((coord-sound scenario nowhere tid commands).numbered (a.preparing held.epoch p.0 p.1).begun)

    -- the live runs are those found that aren't sealed
    live_many : (look : Tid → Option Run) (tids : List Tid) → length (those (λ (run : Run). not (is_sealed run)) (found look tids)) ≡ length (found (λ tid. live_one (look tid)) tids)
    live_many look [] = refl
    live_many look (tid ∷ tids) = by_look (look tid) (live_many look tids)
      where
        by_look : (o : Option Run) → length (those (λ (run : Run). not (is_sealed run)) (found look tids)) ≡ length (found (λ t. live_one (look t)) tids)
            → length (those (λ (run : Run). not (is_sealed run)) (with_some o (found look tids))) ≡ length (with_some (live_one o) (found (λ t. live_one (look t)) tids))
        by_look None same = same
        by_look (Some run) same = by_seal (is_sealed run)
          where
            by_seal : (b : Bool) → length (cond (not b) (run ∷ those (λ (r : Run). not (is_sealed r)) (found look tids)) (those (λ (r : Run). not (is_sealed r)) (found look tids)))
                ≡ length (with_some (cond b None (Some run)) (found (λ t. live_one (look t)) tids))
            by_seal true = same
            by_seal false = ap suc same

    pub live_few : (site : SiteId) → length (live scenario story site) ≤ 32768
    live_few site = by_home (home_of scenario site) refl
      where
        by_home : (o : Option Home) → home_of scenario site ≡ o → length (live_at o story) ≤ 32768
        by_home None e = omega arith
        by_home (Some home) e =
            let declared = home-again scenario site home e in
            let start = epoch_start home (past_of home.site story) in
            let lines = engine_lines (past_of home.site story) in
            let runs = those (λ (run : Run). not (is_sealed run)) (unended start lines) in
            let sorted = length_rising (map (λ (run : Run). run.tid) runs) in
            let named = length-map (λ (run : Run). run.tid) runs in
            let open_ones = live_many (run_at start lines) (attempts start lines) in
            let few = few_found (Site.live home (past_of home.site story)) (attempts start lines) (sites_begin_once scenario commands site home e)
            (λ tid run i alive. attempt_range tid (live_attempt home declared tid run i alive)) in
            omega (arith, sorted, named, open_ones, few)

    pub doubt_few : (site : SiteId) → length (in_doubt_at (home_of scenario site) story) ≤ 32768
    doubt_few site = by_home (home_of scenario site) refl
      where
        by_home : (o : Option Home) → home_of scenario site ≡ o → length (in_doubt_at o story) ≤ 32768
        by_home None e = omega arith
        by_home (Some home) e =
            let rs = records home (past_of home.site story) in
            let looked = found (doubt_of rs) (each_attempt (prepared_tids rs)) in
            let sorted = length_rising (map (λ (held : Held). held.tid) (doubts rs)) in
            let named = length-map (λ (held : Held). held.tid) (doubts rs) in
            let listed = length_sorted looked in
            let few = few_found (doubt_of rs) (each_attempt (prepared_tids rs)) (each_distinct (prepared_tids rs))
            (λ tid held i d. attempt_range tid (doubt_attempt home (home-again scenario site home e) tid held d)) in
            omega (arith, sorted, named, listed, few)
