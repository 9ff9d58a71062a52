-- The line that is made of a made scenario.
use Rattle.std.proofs.Common.{◌≡◌, ℕ, ◌+◌, ◌-◌, ◌%◌, ◌^◌, Option, Some, None, List, [], ◌∷◌, refl, sym, ap, ap₂, ◌∙◌}
use Rattle.std.proofs.lemmas.List.Sums.{sum_by-cons}
use Rattle.std.specs.Prelude.{count_by, is_none, is_some, sum_by}
use Rattle.mdb_base.specs.declared.names.SiteId.{SiteId}
use Rattle.fed_rules.specs.declared.commands.Command.{Command}
use Rattle.fed_rules.specs.declared.scenario.Scenario.{Scenario}
use Rattle.fed_rules.specs.Orders.{records_at, records_of, table_at, table_of}
use Rattle.fed_rules.specs.Scenarios.{home_of, sites}
use Rattle.fed_rules.specs.SiteRecords.{Home}
use Rattle.fed_rules.specs.Story.{story_of}
use Rattle.site_history.specs.Stories.{OfSites}
use Rattle.site_history.specs.Sums.{JournalSaysAll}
use Rattle.scenario_maker.specs.Made.{made}
use Rattle.report_text.specs.Summaries.{commits, commits_at, is_global_commit, is_local_commit, journal_at, rows_at, rows_total, summary_line, total_at, total_given}
use Rattle.made_laws.specs.Counted.{MadeSummariesAreFixed, kept_commits, made_globals}
use Rattle.made_laws.specs.Moves.{total_of}
use Rattle.made_laws.specs.Summaries.{MadeLinesAreFixed}
use Rattle.made_laws.specs.Unchecked.{AreWhole, UncheckedJournalsAreWhole}

same_sum : {A : Type 0} (f g : A → ℕ) (xs : List A) → ((x : A) → f x ≡ g x) → sum_by f xs ≡ sum_by g xs
same_sum f g [] same = refl
same_sum f g (x ∷ xs) same = sum_by-cons f x xs ∙ (ap₂ (λ a b. a + b) (same x) (same_sum f g xs same) ∙ sym (sum_by-cons g x xs))

module _ (scenario : Scenario) (commands : List Command) where
  journal_whole : AreWhole (story_of scenario commands) → (s : SiteId) → journal_at (home_of scenario s) (story_of scenario commands) ≡ records_of scenario (story_of scenario commands) s
  journal_whole whole s = by_home (home_of scenario s)
    where
      by_home : (o : Option Home) → journal_at o (story_of scenario commands) ≡ records_at o (story_of scenario commands)
      by_home None = refl
      by_home (Some home) = whole.sites home home.site

  commits_given : AreWhole (story_of scenario commands) → commits scenario (story_of scenario commands) ≡ kept_commits scenario (story_of scenario commands)
  commits_given whole =
      ap₂ (λ a b. a + b)
      (same_sum (commits_at scenario (story_of scenario commands)) (λ s. count_by is_local_commit (records_of scenario (story_of scenario commands) s)) (sites scenario)
      (λ s. ap (count_by is_local_commit) (journal_whole whole s)))
      (ap (count_by is_global_commit) whole.coordinator)

  rows_whole : OfSites JournalSaysAll → (s : SiteId) → rows_at (home_of scenario s) (story_of scenario commands) ≡ table_of scenario (story_of scenario commands) s
  rows_whole law s = by_home (home_of scenario s) refl
    where
      by_home : (o : Option Home) → home_of scenario s ≡ o → rows_at o (story_of scenario commands) ≡ table_at o (story_of scenario commands)
      by_home None e = refl
      by_home (Some home) e = ap (λ sum. sum.rows) (law scenario commands s home e)

  total_whole : OfSites JournalSaysAll → total_given scenario (story_of scenario commands) ≡ total_of scenario (story_of scenario commands)
  total_whole law =
      ap (λ n. n % 2 ^ 64) (same_sum (total_at scenario (story_of scenario commands)) (λ s. rows_total (table_of scenario (story_of scenario commands) s)) (sites scenario)
      (λ s. ap rows_total (rows_whole law s)))

pub lines_fixed : MadeSummariesAreFixed → UncheckedJournalsAreWhole → OfSites JournalSaysAll → MadeLinesAreFixed
lines_fixed fixed unchecked law number count transactions some few most commands none rest done =
    let says = fixed number count transactions some few most commands rest done in
    let whole = unchecked (made number count transactions) commands none in
    ap (λ n. summary_line n (count_by (λ line. is_none line.home) (made number count transactions).transactions) (count_by (λ line. is_some line.home) (made number count transactions).transactions) (commits (made number count transactions) (story_of (made number count transactions) commands)) (total_given (made number count transactions) (story_of (made number count transactions) commands))) says.sites
    ∙ (ap₂ (λ g l. summary_line count g l (commits (made number count transactions) (story_of (made number count transactions) commands)) (total_given (made number count transactions) (story_of (made number count transactions) commands))) says.globals says.locals
    ∙ ap₂ (λ c t. summary_line count (made_globals count transactions) (transactions - made_globals count transactions) c t) (commits_given (made number count transactions) commands whole ∙ says.committed) (total_whole (made number count transactions) commands law ∙ says.total))
