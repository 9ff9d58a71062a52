use Rattle.std.proofs.Common.{reverse}
use Rattle.fed_rules.specs.Usable.{counted}
use Rattle.usable_journals.proofs.PartedLaws.{parted_by}
use Rattle.usable_journals.proofs.parted.are_parted.Goals as goal

pub returns : goal.returns
returns c =
    let by = parted_by (counted (reverse c.args.records.now)) (reverse c.args.records.now) c.in_ok-parted.parted c.in_ok-parted.ensures.locals c.in_ok-parted.ensures.globals in
    (λ e. by.0 (c.is_disjoint.ensures.0 e), λ h. c.is_disjoint.ensures.1 (by.1 h))
