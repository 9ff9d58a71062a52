use Rattle.std.proofs.Common.{sym, ◌∙◌, reverse}
use Rattle.std.proofs.lemmas.Result.{IfOk-weaker}
use Rattle.usable_journals.proofs.SiteRules.{have_sums, home_of_well, order_of, usable_of, well_of}
use Rattle.usable_journals.proofs.sites.is_usable_site.Goals as goal

pub returns-then-not-branch : goal.returns-then-not-branch
returns-then-not-branch c = (
  λ e. absurd cc,
  λ u. sym c.if-not-branch.true ∙ c.in_ok-is_well_recorded.ensures.1 (well_of c.args.number (reverse c.args.records.now) u),
)

pub are_in_order-requires : goal.are_in_order-requires
are_in_order-requires c = (c.args.number, c.in_ok-is_well_recorded.ensures.0 c.if-not-branch.false)

pub returns-then-not-branch-2 : goal.returns-then-not-branch-2
returns-then-not-branch-2 c = (
  λ e. absurd cc,
  λ u. sym c.if-not-branch-2.true ∙ c.in_ok-are_in_order.ensures.1 (order_of c.args.number (reverse c.args.records.now) u),
)

pub sums_fit-requires : goal.sums_fit-requires
sums_fit-requires c = home_of_well c.args.number (reverse c.args.records.now) (c.in_ok-is_well_recorded.ensures.0 c.if-not-branch.false).first

pub returns : goal.returns
returns c =
    let journal = reverse c.args.records.now in
    let well = c.in_ok-is_well_recorded.ensures.0 c.if-not-branch.false in
    let order = c.in_ok-are_in_order.ensures.0 c.if-not-branch-2.false in
    IfOk-weaker c.sums_fit.result _ _
    (λ fit told.
    let sums = have_sums journal (c.args.number, well) order fit told in
    (λ e. usable_of c.args.number journal well order (sums.0 e), λ u. sums.1 u.sums)) c.sums_fit.ensures
