-- An event that calls no disk: its answer, and its failure for want of memory, in the words of a step.
use Rattle.std.proofs.Common.{◌≡◌, ◌+◌, Bool, List, [], Result, Ok, Err, IfOk, IfErr, OnErr, refl, sym, subst}
use Rattle.fed_rules.specs.declared.events.SiteEvent.{SiteEvent}
use Rattle.fed_rules.specs.declared.events.SiteStep.{SiteStep}
use Rattle.fed_rules.specs.Runs as Lines
use Rattle.fed_rules.specs.Runs.{EngineLine}
use Rattle.fed_rules.specs.Site.{unless_tripped}
use Rattle.fed_rules.specs.SitePast.{SiteHappening, SitePast}
use Rattle.fed_rules.specs.SitePast as Past
use Rattle.fed_rules.specs.SiteRecords.{Home}
use Rattle.journal_disk.specs.Disk.{Seen}
use Rattle.journal_disk.proofs.ForCallers.{none_at_most}
use Rattle.actor_store.specs.declared.errors.StepErr.{StepErr}
use Rattle.actor_store.specs.declared.errors.StepErr.TheVariants as Err_is
use Rattle.site_core.specs.declared.site.SiteCore.{SiteCore}
use Rattle.site_core.specs.Made.{was_found}
use Rattle.site_core.specs.Stands.{Breaks, Holds, Remembers, Stands, calls_for}
use Rattle.site_core.specs.Steps.{AddsWhere, AnswersWhere, BreaksWhere, EachPast}
use Rattle.site_core.specs.Store.{Keeps, Store}
use Rattle.site_core.proofs.RememberLaws.{answers_quiet}

module _ {E : Type 0} (stands : E → Lines.Start → List EngineLine → Type 0) (tells : Bool) (old new : SiteCore E) (disk : Seen) (store : new.store ≡ old.store) where
  -- a line that is added in memory, where it has no disk call, is an answer to what comes to it
  pub all_answered : (Can Can' : Home → SitePast → Type 0) (line line' : Home → SitePast → SiteHappening) (result : Result SiteStep StepErr)
      → ((home : Home) (past : SitePast) → (line home past).calls ≡ [])
      → ((home : Home) (past : SitePast) → Stands stands tells old disk home past → line' home past ≡ unless_tripped home past (line home past))
      → ((home : Home) (past : SitePast) → Can' home past → Can home past)
      → IfOk result (AddsWhere stands old new Can line) → IfOk result (AnswersWhere stands tells old disk new disk Can' line')
  all_answered Can Can' line line' (Ok step) quiet is may adds =
      λ home past k may'. answers_quiet stands tells step old new disk home past (line' home past) (line home past) k store (quiet home past) (is home past k) (adds home past k.holds (may home past may'))
  all_answered Can Can' line line' (Err why) quiet is may adds = tt

  want : (why : StepErr) (home : Home) (past : SitePast) (event : SiteEvent) → why ≡ Err_is.Memory → Stands stands tells old disk home past → Remembers stands new home past
      → Breaks stands tells (0 + calls_for home past event) disk why new disk home past event
  want Err_is.Memory home past event is k m =
      let P : Store → Type 0 = λ s. Keeps (was_found past) tells disk s (Past.disk home past) (Past.trip past) in
      (record { memory = m; stored = subst P (sym store) k.stored }, none_at_most (0 + calls_for home past event) disk disk refl)
  want Err_is.Disk home past event is k m = cc

  -- want of memory leaves what was there
  pub all_wanting : (Can : Home → SitePast → Type 0) (event : SiteEvent) (result : Result SiteStep StepErr) → IfErr result (λ why. why ≡ Err_is.Memory)
      → OnErr result (EachPast (Holds stands old) (Remembers stands new)) → IfErr result (BreaksWhere stands tells old disk new disk Can event)
  all_wanting Can event (Ok step) only kept = tt
  all_wanting Can event (Err why) only kept = λ home past k may. want why home past event only k (kept home past k.holds)
