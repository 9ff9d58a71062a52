-- How many lines a run has, and how many attempts they begin.
use Rattle.std.proofs.Common.{◌≡◌, ℕ, zero, suc, ◌+◌, ◌*◌, ◌≤◌, ◌<◌, inl, inr, Bool, true, false, cond, nat_le, Option, Some, None, List, [], ◌∷◌, length, map, reverse, slice_get, refl, sym, ap, ◌∙◌, subst, arith}
use Rattle.std.proofs.lemmas.Bool.{leb-false, leb-true}
use Rattle.std.proofs.lemmas.Bool.Decides.{eqb_tells}
use Rattle.std.proofs.lemmas.List.{length-map, length-reverse}
use Rattle.mdb_base.specs.declared.names.SiteId.{SiteId}
use Rattle.mdb_base.specs.declared.names.Tx.{Tx}
use Rattle.mdb_base.specs.Words.{Each}
use Rattle.fed_rules.specs.declared.answers.Answer.{Answer}
use Rattle.fed_rules.specs.declared.commands.Line.{Line}
use Rattle.fed_rules.specs.declared.commands.Stamped.{Stamped}
use Rattle.fed_rules.specs.declared.events.CoordEvent.{CoordEvent}
use Rattle.fed_rules.specs.declared.events.SiteEvent.{SiteEvent}
use Rattle.fed_rules.specs.declared.scenario.Scenario.{Scenario}
use Rattle.fed_rules.specs.CoordPast as Coordinator
use Rattle.fed_rules.specs.CoordPast.{CoordPast}
use Rattle.fed_rules.specs.Requests.{Request, Submits, Declines}
use Rattle.fed_rules.specs.Scenarios.{home_at, home_of, local_home, local_site}
use Rattle.fed_rules.specs.SiteCommands.{answer_to, past_behind}
use Rattle.fed_rules.specs.SitePast.{SitePast, attempts_of, begins_tx}
use Rattle.fed_rules.specs.SiteRecords.{Home}
use Rattle.fed_rules.specs.Story as Told
use Rattle.closing_laws.specs.Finished.{begun, begun_at}
use Rattle.trace_merge.specs.Traces.{Entry, IsTrace, lines_of, list_of}
use Rattle.world_laws.proofs.ForCallers.{homed}
use Rattle.host_laws.specs.CoordHistory.{IsCoordHistory}
use Rattle.host_laws.specs.CoordPlans.{CoordPlan}
use Rattle.host_laws.specs.CoordTurns.{CoordTurn, MayAnswer, coord_begun_in, coord_behind, coord_past_of, coord_request_at}
use Rattle.host_laws.specs.History.{IsHistory}
use Rattle.host_laws.specs.Logs.{AreLists, AreLogs, CoordLog, Scripts, SiteLog}
use Rattle.host_laws.specs.Merged.{AreShort, TellsLogs, commands_of, lines_in, story_in}
use Rattle.host_laws.specs.Plans.{SitePlan, most_lines}
use Rattle.host_laws.specs.Turns.{SiteTurn, begun_in, past_of, request_at}
use Rattle.host_laws.proofs.ForCallers.{by_list, host_at, of_other, of_own, site_low}
use Rattle.fed_hosts.specs.Keeps.{most_begun}
use Rattle.fed_hosts.proofs.ForCallers.{submit_counts}
use Rattle.federation_run.specs.Running.{AreFewBegun, most_merged}
use Rattle.federation_run.proofs.Homes.{home_site}

at_most : (a b c : ℕ) → a ≤ b → b ≤ c → a ≤ c
at_most a b c p q = omega (arith, p, q)

not_more : (a b : ℕ) → a ≡ b → a ≤ b
not_more a b e = omega (arith, e)

-- ---- lines

-- how many of the entries are of the first so many actors
entries_of : ℕ → List Entry → ℕ
entries_of zero es = 0
entries_of (suc n) es = length (lines_of n es) + entries_of n es

none_there : (n : ℕ) → entries_of n [] ≡ 0
unfolding entries_of
none_there zero = refl
none_there (suc n) = (let rest = none_there n in omega (arith, rest))

-- an entry of a further actor isn't counted
beyond : (n : ℕ) (e : Entry) (es : List Entry) → n ≤ e.actor → entries_of n (e ∷ es) ≡ entries_of n es
unfolding entries_of
beyond zero e es more = refl
beyond (suc n) e es more =
    let rest = beyond n e es (omega (arith, more)) in
    let same = ap (λ (ls : List Stamped). length ls) (of_other n e es (λ same. omega (arith, more, same))) in
    omega (arith, rest, same)

-- and one of these actors is counted once
counted_once : (n : ℕ) (e : Entry) (es : List Entry) → e.actor < n → entries_of n (e ∷ es) ≡ suc (entries_of n es)
unfolding entries_of
counted_once zero e es less = absurd (omega (arith, less))
counted_once (suc n) e es less = elim (eqb_tells e.actor n) [
  | inl (is, same) ↦
      let own = ap (λ (ls : List Stamped). length ls) (of_own n e es same) in
      let rest = beyond n e es (omega (arith, same)) in
      omega (arith, own, rest)
  | inr (isnt, apart) ↦
      let other = ap (λ (ls : List Stamped). length ls) (of_other n e es apart) in
      let rest = counted_once n e es (omega (arith, less, apart)) in
      omega (arith, other, rest)
]

-- so all entries are counted
all_counted : (n : ℕ) (es : List Entry) → Each (λ (e : Entry). e.actor < n) es → length es ≡ entries_of n es
all_counted n [] each = sym (none_there n)
all_counted n (e ∷ es) each =
    let one = counted_once n e es each.0 in
    let rest = all_counted n es each.1 in
    omega (arith, one, rest)

-- where no further actor has a line, each entry is of one of the first ones
each_below : (n : ℕ) (es : List Entry) → ((actor : ℕ) → n ≤ actor → lines_of actor es ≡ []) → Each (λ (e : Entry). e.actor < n) es
each_below n [] none = tt
each_below n (e ∷ es) none = (own (nat_le n e.actor) refl, each_below n es (λ actor more. other actor (none actor more)))
  where
    own : (b : Bool) → nat_le n e.actor ≡ b → e.actor < n
    own true is = (let nothing = sym (of_own e.actor e es refl) ∙ none e.actor (leb-true n e.actor is) in cc)
    own false is = leb-false n e.actor is

    other : (actor : ℕ) → lines_of actor (e ∷ es) ≡ [] → lines_of actor es ≡ []
    other actor nothing = elim (eqb_tells e.actor actor) [
      | inl (is, same) ↦ let some = sym (of_own actor e es same) ∙ nothing in cc
      | inr (isnt, apart) ↦ sym (of_other actor e es apart) ∙ nothing
    ]

-- where each actor has at most so many lines
most_counted : (n : ℕ) (es : List Entry) → ((actor : ℕ) → length (lines_of actor es) ≤ most_lines) → entries_of n es ≤ n * most_lines
unfolding entries_of
most_counted zero es most = omega arith
most_counted (suc n) es most =
    let one = most n in
    let rest = most_counted n es most in
    omega (arith, one, rest)

-- ---- attempts

cond_most : (b : Bool) (m n : ℕ) → m ≤ n → cond b (suc m) m ≤ cond b (suc n) n
cond_most true m n less = omega (arith, less)
cond_most false m n less = less

cond_more : (b : Bool) (n : ℕ) → n ≤ cond b (suc n) n
cond_more true n = omega arith
cond_more false n = omega arith

-- what a request makes happen at a site begins an attempt only where its answer says so
begun_behind : (home : Home) (past : SitePast) (r : Request SiteEvent) (answer : Answer) (tx : Tx) → answer ≡ answer_to home past r
    → attempts_of (past_behind home past r) tx ≤ cond (begins_tx tx answer) (suc (attempts_of past tx)) (attempts_of past tx)
begun_behind home past (Submits event) answer tx is =
    not_more _ _ (ap (λ (a : Answer). cond (begins_tx tx a) (suc (attempts_of past tx)) (attempts_of past tx)) (sym is))
begun_behind home past (Declines declined) answer tx is = cond_more (begins_tx tx answer) (attempts_of past tx)

-- so the lines of a site's host begin as many as its past has
site_begun : (plan : SitePlan) (turns : List SiteTurn) → IsHistory plan turns → (tx : Tx) → attempts_of (past_of plan turns) tx ≤ begun_in tx turns
site_begun plan [] right tx = omega arith
site_begun plan (turn ∷ turns) right tx =
    at_most _ _ _ (begun_behind plan.home (past_of plan turns) (request_at plan turns turn) turn.line.line.answer tx right.0.answer)
    (cond_most (begins_tx tx turn.line.line.answer) (attempts_of (past_of plan turns) tx) (begun_in tx turns) (site_begun plan turns right.1 tx))

-- so of the coordinator
coord_begun_behind : (plan : CoordPlan) (past : CoordPast) (r : Request CoordEvent) (answer : Answer) (tx : Tx) → MayAnswer plan.terms past r answer
    → Coordinator.attempts_of (coord_behind plan.terms past r) tx ≤ cond (begins_tx tx answer) (suc (Coordinator.attempts_of past tx)) (Coordinator.attempts_of past tx)
coord_begun_behind plan past (Submits event) answer tx may = not_more _ _ (submit_counts plan.terms plan.programs past (λ t p q. Unit {0}) event answer tx may)
coord_begun_behind plan past (Declines declined) answer tx may = cond_more (begins_tx tx answer) (Coordinator.attempts_of past tx)

coord_begun : (plan : CoordPlan) (turns : List CoordTurn) → IsCoordHistory plan turns → (tx : Tx) → Coordinator.attempts_of (coord_past_of plan turns) tx ≤ coord_begun_in tx turns
coord_begun plan [] right tx = omega arith
coord_begun plan (turn ∷ turns) right tx =
    at_most _ _ _ (coord_begun_behind plan (coord_past_of plan turns) (coord_request_at plan turns turn) turn.line.line.answer tx right.0.answer)
    (cond_most (begins_tx tx turn.line.line.answer) (Coordinator.attempts_of (coord_past_of plan turns) tx) (coord_begun_in tx turns) (coord_begun plan turns right.1 tx))

-- ---- of a run

module _ {scripts : Scripts} {scenario : Scenario} {coordinator : CoordLog} {logs : List SiteLog} {lists : List (List Stamped)} {merged : List Stamped} (are : AreLogs scripts scenario coordinator logs)
    (has : AreLists scenario coordinator logs lists) (trace : IsTrace lists merged) (short : AreShort coordinator logs) where
  list_short : (actor : ℕ) → length (list_of lists actor) ≤ most_lines
  list_short =
      by_list are has (λ (actor : ℕ) (lines : List Stamped). length lines ≤ most_lines)
      (let turned = length-reverse (map (λ (turn : CoordTurn). turn.line) coordinator.turns) in
      let mapped = length-map coordinator.turns (λ (turn : CoordTurn). turn.line) in
      let few = short.0 in
      omega (arith, turned, mapped, few))
      (λ place site log there at.
      (let turned = length-reverse (map (λ (turn : SiteTurn). turn.line) log.turns) in
      let mapped = length-map log.turns (λ (turn : SiteTurn). turn.line) in
      let few = short.1 place log at in
      omega (arith, turned, mapped, few)))
      (λ actor. omega arith)

  none_beyond : (actor : ℕ) → 9 ≤ actor → lines_of actor trace.entries ≡ []
  none_beyond actor more = trace.each_list actor ∙ by_home (home_of scenario site) refl
    where
      site : SiteId
      site = record { 0 = actor }

      by_home : (o : Option Home) → home_of scenario site ≡ o → list_of lists actor ≡ []
      by_home None is = has.others actor (omega (arith, more)) is
      by_home (Some home) is = (let low = site_low scenario site home are.whole is in absurd (omega (arith, more, low)))

  -- there are at most as many lines as nine hosts may make
  pub few_lines : length (commands_of (lines_in merged)) ≤ most_merged
  few_lines =
      let counted = all_counted 9 trace.entries (each_below 9 trace.entries none_beyond) in
      let most = most_counted 9 trace.entries (λ actor. subst (λ (ls : List Stamped). length ls ≤ most_lines) (sym (trace.each_list actor)) (list_short actor)) in
      let all : length merged ≡ length trace.entries = ap (λ (ls : List Stamped). length ls) trace.lines ∙ length-map trace.entries (λ (e : Entry). e.line) in
      let told : length (commands_of (lines_in merged)) ≡ length merged =
      length-map (reverse (lines_in merged)) (λ (line : Line). line.command) ∙ (length-reverse (lines_in merged) ∙ length-map merged (λ (s : Stamped). s.line)) in
      omega (arith, counted, most, all, told)

  module _ (told : TellsLogs scenario coordinator logs (lines_in merged)) (coordinator_few : (tx : Tx) → coord_begun_in tx coordinator.turns ≤ most_begun)
      (sites_few : (place : ℕ) (log : SiteLog) → slice_get logs place ≡ Some log → (tx : Tx) → begun_in tx log.turns ≤ most_begun) where
    site_few : (site : SiteId) (home : Home) → home_of scenario site ≡ Some home → (tx : Tx) → attempts_of (Told.past_of site (story_in scenario (lines_in merged))) tx ≤ most_begun
    site_few site home declared tx =
        let host = host_at are site (homed scenario.sites scenario.items site home declared) in
        subst (λ (past : SitePast). attempts_of past tx ≤ most_begun) (sym (told.each host.place site host.log host.at host.there).past)
        (at_most _ _ _ (site_begun host.log.plan host.log.turns (are.site_is host.place site host.log host.at host.there).right tx) (sites_few host.place host.log host.there tx))

    coord_few : (tx : Tx) → Coordinator.attempts_of (Told.coord_past (story_in scenario (lines_in merged))) tx ≤ most_begun
    coord_few tx =
        subst (λ (past : CoordPast). Coordinator.attempts_of past tx ≤ most_begun) (sym told.coordinator_is)
        (at_most _ _ _ (coord_begun coordinator.plan coordinator.turns are.coordinator_is.right tx) (coordinator_few tx))

    home_few : (o : Option SiteId) (home : Home) → home_at scenario o ≡ Some home → (tx : Tx) → attempts_of (Told.past_of home.site (story_in scenario (lines_in merged))) tx ≤ most_begun
    home_few None home is tx = cc
    home_few (Some site) home is tx =
        subst (λ (z : SiteId). attempts_of (Told.past_of z (story_in scenario (lines_in merged))) tx ≤ most_begun) (sym (home_site scenario site home is)) (site_few site home is tx)

    -- of each transaction few attempts were begun
    pub few_begun : AreFewBegun scenario (story_in scenario (lines_in merged))
    few_begun tx = by_home (local_home scenario tx) refl
      where
        by_home : (o : Option Home) → local_home scenario tx ≡ o → begun_at o (story_in scenario (lines_in merged)) tx ≤ most_begun
        by_home None is = coord_few tx
        by_home (Some home) is = home_few (local_site scenario tx) home is tx
