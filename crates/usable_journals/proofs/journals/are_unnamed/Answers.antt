use Rattle.std.proofs.Common.{refl, reverse}
use Rattle.fed_rules.specs.declared.records.SiteRecord.{SiteRecord}
use Rattle.fed_rules.specs.Usable.{AreUnnamed}
use Rattle.std.proofs.Common.{List}
use Rattle.usable_journals.proofs.DiskLaws.{each_next, each_stops, each_whole}
use Rattle.usable_journals.proofs.journals.are_unnamed.Goals as goal

pub returns-then-not-branch : goal.returns-then-not-branch
returns-then-not-branch c = (
  λ e. absurd cc,
  λ all.
      absurd (each_stops (λ (records : List SiteRecord). AreUnnamed (reverse c.args.coordinator.now) (reverse records)) (λ s. s.now) c.args.sites.now c.loop-records.records-index c.records-item.result
      c.loop-records-test.true c.records-item.is
      (λ unnamed. let yes = (c.in_ok-none_is_local.ensures (reverse c.args.coordinator.now) c.in_ok-names.ensures).1 unnamed in let false_is = c.if-not-branch.true in cc)
      c.loop-records.invariant all),
)

pub loop-records-preserved : goal.loop-records-preserved
loop-records-preserved c =
    each_next (λ (records : List SiteRecord). AreUnnamed (reverse c.args.coordinator.now) (reverse records)) (λ s. s.now) c.args.sites.now c.loop-records.records-index c.records-item.result
    c.loop-records-test.true c.records-item.is ((c.in_ok-none_is_local.ensures (reverse c.args.coordinator.now) c.in_ok-names.ensures).0 c.if-not-branch.false) c.loop-records.invariant

pub returns : goal.returns
returns c = (
  λ e. each_whole (λ (records : List SiteRecord). AreUnnamed (reverse c.args.coordinator.now) (reverse records)) (λ s. s.now) c.args.sites.now c.loop-records.records-index c.loop-records-test.false c.loop-records.invariant,
  λ all. refl,
)
