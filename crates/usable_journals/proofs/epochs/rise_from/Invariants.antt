use Rattle.std.proofs.Common.{◌≡◌, [], ◌∷◌, take, reverse}
use Rattle.fed_rules.specs.declared.records.SiteRecord.{SiteRecord}
use Rattle.fed_rules.specs.Usable.{EpochsRise}
use Rattle.usable_journals.specs.SiteTests as tests
use Rattle.usable_journals.proofs.EpochLaws.{IsAt}
use Rattle.usable_journals.proofs.epochs.rise_from.Given as goal

-- those of the first ones rise
abbrev pub invariant-loop-entry : goal.invariant-loop-entry
invariant-loop-entry l = (first : SiteRecord) → l.start ≡ tests.first_epoch first → EpochsRise (first ∷ []) → IsAt l.epoch (reverse (take l.entry-index l.newer)) first
