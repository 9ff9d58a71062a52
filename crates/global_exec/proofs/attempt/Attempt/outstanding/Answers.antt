use Rattle.std.proofs.Common.{ℕ, ◌++◌, false, Option, List, get_or, option_to_list, sym, ap, subst, ◌∙◌}
use Rattle.std.proofs.lemmas.List.{take_all}
use Rattle.mdb_base.specs.Rising.{IsRising}
use Rattle.mdb_base.specs.Words.{found}
use Rattle.fed_rules.specs.Site_of.{due_site}
use Rattle.fed_rules.specs.declared.messages.Due.{Due}
use Rattle.global_exec.specs.declared.progress.Progress.{Progress}
use Rattle.global_exec.specs.Due.{due}
use Rattle.global_exec.specs.Live.{site_number}
use Rattle.global_exec.proofs.DueSites.{due_at_site}
use Rattle.global_exec.proofs.Finds.{found_more}
use Rattle.global_exec.proofs.Rises.{found_rises}
use Rattle.global_exec.proofs.attempt.Attempt.outstanding.Goals as goal

abbrev nothing : Progress
nothing = record { site = record { 0 = 0 }; epoch = 0; n = 0; ticket = false; voted = false }

pub loop-progress-preserved : goal.loop-progress-preserved
loop-progress-preserved c =
    let items = c.deref-progress-items.result.now in
    let i = c.loop-progress.progress-index in
    c.in_ok-put_some.ensures ∙ ap (λ (o : Option Due). c.loop-progress.dues ++ option_to_list o) (c.due-due.ensures ∙ ap (λ (vs : List ℕ). due c.self.inside.program c.self.inside.done vs (get_or items i nothing)) c.as_slice.ensures.value)
    ∙ ap (λ (ds : List Due). ds ++ option_to_list (due c.self.inside.program c.self.inside.done c.self.inside.reads.items (get_or items i nothing))) c.loop-progress.invariant
    ∙ found_more (due c.self.inside.program c.self.inside.done c.self.inside.reads.items) items i nothing c.loop-progress-test.true

pub of_few-requires : goal.of_few-requires
of_few-requires c =
    let items = c.deref-progress-items.result.now in
    subst (IsRising (λ (b : Due). (due_site b).0))
    (sym (c.loop-progress.invariant ∙ ap (found (due c.self.inside.program c.self.inside.done c.self.inside.reads.items)) (take_all c.loop-progress.progress-index items c.loop-progress-test.false ∙ c.deref-progress-items.ensures.value)))
    (found_rises site_number (λ (b : Due). (due_site b).0) (due c.self.inside.program c.self.inside.done c.self.inside.reads.items) (λ p b e. due_at_site p b c.self.inside.program c.self.inside.done c.self.inside.reads.items e) c.self.inside.sites.items c.self.invariant.0.rising)
