use Rattle.std.proofs.Common.{◌≡◌, ◌↔◌, true, reverse, sym, subst, ◌∙◌}
use Rattle.fed_rules.specs.declared.records.SiteRecord.{SiteRecord}
use Rattle.usable_journals.specs.SiteReads.{Fits}
use Rattle.usable_journals.proofs.site_sums.fits.Goals as goal

pub returns-in_ok-said-in-Checkpoint : goal.returns-in_ok-said-in-Checkpoint
returns-in_ok-said-in-Checkpoint c home is =
    let told = c.in_ok-said-in-Checkpoint.ensures home is in
    subst (λ (e : SiteRecord). (c.is_same_sum.result ≡ true) ↔ Fits home e (reverse c.args.front.now)) (sym c.in-Checkpoint.is)
    (λ e. sym told ∙ c.is_same_sum.ensures.0 e, λ f. c.is_same_sum.ensures.1 (told ∙ f))
