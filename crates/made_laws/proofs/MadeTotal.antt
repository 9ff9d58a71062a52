-- At rest a made scenario has what it began with.
use Rattle.std.proofs.Common.{◌≡◌, ℕ, zero, suc, ◌+◌, ◌*◌, ◌%◌, ◌^◌, ◌<◌, ◌≤◌, Bool, true, false, cond, Option, Some, None, List, [], ◌∷◌, length, inl, inr, refl, sym, ap, ap₂, subst, ◌∙◌, arith}
use Rattle.std.proofs.Math.Nat.{add_comm, mod-eq_of_lt, mul-suc}
use Rattle.std.proofs.lemmas.List.Sums.{sum_by-cons}
use Rattle.std.specs.Prelude.{sum_by}
use Rattle.mdb_base.specs.declared.names.Key.{Key}
use Rattle.mdb_base.specs.declared.names.SiteId.{SiteId}
use Rattle.mdb_base.specs.declared.names.Tid.{Tid}
use Rattle.mdb_base.specs.declared.rows.Put.{Put}
use Rattle.mdb_base.specs.Names.{same_site}
use Rattle.mdb_base.specs.Rising.{IsRising}
use Rattle.mdb_base.specs.Rows.{Table, look_up}
use Rattle.mdb_base.specs.Words.{Each}
use Rattle.mdb_base.proofs.ForCallers.{each_map}
use Rattle.order_laws.specs.Chains.{In}
use Rattle.fed_rules.specs.declared.commands.Command.{Command}
use Rattle.fed_rules.specs.declared.scenario.ItemLine.{ItemLine}
use Rattle.fed_rules.specs.declared.scenario.Scenario.{Scenario}
use Rattle.fed_rules.specs.declared.scenario.SiteLine.{SiteLine}
use Rattle.fed_rules.specs.Headline.{Headline, OfStories}
use Rattle.fed_rules.specs.Orders.{first_tables, programs_of, table_at, table_of}
use Rattle.fed_rules.specs.Plans.{IsScenario}
use Rattle.fed_rules.specs.Reports.{printed_order}
use Rattle.fed_rules.specs.Scenarios.{home_in, home_of, items_of, sites}
use Rattle.fed_rules.specs.Serial.{Tables, serial_tables}
use Rattle.fed_rules.specs.SitePast.{records}
use Rattle.fed_rules.specs.SiteRecords.{Home, installs}
use Rattle.fed_rules.specs.Story.{Story, past_of, story_of}
use Rattle.engine_laws.proofs.ForCallers.{rising_items, rising_rows_after}
use Rattle.site_history.proofs.ForCallers.{home_rises}
use Rattle.closing_laws.specs.AtRest.{IsAtRest}
use Rattle.scenario_maker.specs.Made.{made, made_items, made_sites}
use Rattle.scenario_maker.proofs.ForCallers.{made_is_scenario}
use Rattle.report_text.specs.Summaries.{rows_total}
use Rattle.made_laws.specs.Moves.{MadeTotalsStay, MovesAtMost, MovesKeepWorth, column, total_of, worth}
use Rattle.made_laws.proofs.MadePrograms.{program_moves}
use Rattle.made_laws.proofs.MadeRows.{first_low, first_total, made_many, site_range}
use Rattle.made_laws.proofs.RowTotals.{below_top, rows_column, top}
use Rattle.made_laws.proofs.SiteLists.{home_there, sites_distinct, sites_many, there_line}

-- ---- the rows of a site rise

table_rising : (scenario : Scenario) (story : Story) (s : SiteId) → IsRising (λ r. r.key.0) (table_of scenario story s)
table_rising scenario story s = by_home (home_of scenario s) refl
  where
    by_home : (o : Option Home) → home_of scenario s ≡ o → IsRising (λ r. r.key.0) (table_at o story)
    by_home None e = tt
    by_home (Some home) e = rising_rows_after home.items (installs (records home (past_of home.site story))) (home_rises scenario.sites scenario.items s home e)

-- ---- worth

column_same : (a b : Table) → ((key : Key) → a key ≡ b key) → (n : ℕ) → column a n ≡ column b n
column_same a b same zero = refl
column_same a b same (suc n) = ap₂ (λ x y. x + y) (column_same a b same n) (same (record { 0 = n }))

-- where at each of these sites rows are worth as much as a table
sums_worth : (ss : List SiteId) (bound : SiteId → ℕ) (tables : Tables) (rows : SiteId → List Put) → ((s : SiteId) → In s ss → rows_total (rows s) ≡ column (tables s) (bound s))
    → sum_by (λ s. rows_total (rows s)) ss ≡ worth ss bound tables
sums_worth [] bound tables rows same = refl
sums_worth (s ∷ ss) bound tables rows same =
    sum_by-cons (λ s. rows_total (rows s)) s ss ∙ ap₂ (λ a b. a + b) (same s (inl refl)) (sums_worth ss bound tables rows (λ t i. same t (inr i)))

worth_each : (ss : List SiteId) (bound : SiteId → ℕ) (tables : Tables) (each : ℕ) → ((s : SiteId) → In s ss → column (tables s) (bound s) ≡ each) → worth ss bound tables ≡ each * length ss
worth_each [] bound tables each same = omega arith
worth_each (s ∷ ss) bound tables each same =
    let first = same s (inl refl) in
    let rest = worth_each ss bound tables each (λ t i. same t (inr i)) in
    ap₂ (λ a b. a + b) first rest ∙ one_more each (length ss)
  where
    one_more : (e n : ℕ) → e + e * n ≡ e * suc n
    one_more e n = sym (mul-suc e n ∙ add_comm (e * n) e)

module _ (number count transactions : ℕ) (some : 1 ≤ count) (few : count ≤ 8) (most : transactions ≤ 1024) (commands : List Command)
    (rest : IsAtRest (made number count transactions) (story_of (made number count transactions) commands))
    (headline : Headline (made number count transactions) (story_of (made number count transactions) commands)) where
  abbrev scenario : Scenario
  scenario = made number count transactions

  abbrev story : Story
  story = story_of (made number count transactions) commands

  whole : IsScenario (made number count transactions)
  whole = made_is_scenario number count transactions some few most

  abbrev bound : SiteId → ℕ
  bound s = 10 + top (table_of (made number count transactions) (story_of (made number count transactions) commands) s)

  abbrev order : List Tid
  order = printed_order (made number count transactions) (story_of (made number count transactions) commands)

  abbrev left : Tables
  left = serial_tables (programs_of (made number count transactions) (printed_order (made number count transactions) (story_of (made number count transactions) commands))) (first_tables (made number count transactions))

  home_at_site : (s : SiteId) → In s (sites (made number count transactions)) → (home : Home) × (home_of (made number count transactions) s ≡ Some home)
  home_at_site s i = home_there (made_sites count number) (made_items count) s (there_line (made_sites count number) s i)

  -- the rows of a site are worth what the order leaves there
  rows_left : (s : SiteId) → In s (sites (made number count transactions)) → rows_total (table_of (made number count transactions) (story_of (made number count transactions) commands) s) ≡ column (left s) (bound s)
  rows_left s i =
      let (home, e) = home_at_site s i in
      rows_column (table_of (made number count transactions) (story_of (made number count transactions) commands) s) (bound s) (table_rising (made number count transactions) (story_of (made number count transactions) commands) s)
      (below_top (table_of (made number count transactions) (story_of (made number count transactions) commands) s) (bound s) (omega arith))
      ∙ column_same (look_up (table_of (made number count transactions) (story_of (made number count transactions) commands) s)) (left s) (λ key. sym (headline.leaves_tables s home e (rest.none_in_doubt s) key)) (bound s)

  first_worth : (s : SiteId) → In s (sites (made number count transactions)) → column (first_tables (made number count transactions) s) (bound s) ≡ 1000
  first_worth s i =
      let range = site_range count number s i in
      sym (rows_column (items_of (made_items count) s) (bound s) (rising_items (made_items count) s)
      (each_map (λ (row : Put). row.key.0 < 10) (λ (row : Put). row.key.0 < bound s) (λ row low. omega (arith, low)) (items_of (made_items count) s) (first_low count s)))
      ∙ first_total count s range.0 range.1 whole.items.differ

  all_move : (tids : List Tid) → Each (MovesAtMost (sites (made number count transactions)) bound) (programs_of (made number count transactions) tids)
  all_move [] = tt
  all_move (tid ∷ tids) = (program_moves count number some bound (λ s. omega arith) transactions tid.tx, all_move tids)

  total : MovesKeepWorth → total_of (made number count transactions) (story_of (made number count transactions) commands) ≡ 1000 * count
  total keeps =
      ap (λ n. n % 2 ^ 64) (sums_worth (sites (made number count transactions)) bound left (λ s. table_of (made number count transactions) (story_of (made number count transactions) commands) s) rows_left)
      ∙ (keeps (sites (made number count transactions)) bound (programs_of (made number count transactions) order) (first_tables (made number count transactions)) (sites_distinct (made_sites count number) whole.sites.differ) (all_move order)
      ∙ (ap (λ n. n % 2 ^ 64) (worth_each (sites (made number count transactions)) bound (first_tables (made number count transactions)) 1000 first_worth ∙ ap (λ n. 1000 * n) (sites_many (made_sites count number) ∙ made_many count number))
      ∙ mod-eq_of_lt (small count few)))
    where
      small : (n : ℕ) → n ≤ 8 → 1000 * n < 2 ^ 64
      small n h = omega (arith, h)

pub made_total : OfStories Headline → MovesKeepWorth → MadeTotalsStay
made_total law keeps number count transactions some few most commands rest =
    total number count transactions some few most commands rest (law (made number count transactions) (made_is_scenario number count transactions some few most) commands) keeps
