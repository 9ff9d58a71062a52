use Rattle.std.proofs.Common.{◌∙◌, sym}
use Rattle.std.proofs.lemmas.Result.{IfOk-weaker}
use Rattle.usable_journals.proofs.SiteReflected.{below_says}
use Rattle.usable_journals.proofs.sites.is_well_recorded.Goals as goal

pub returns-then-not-begins_with : goal.returns-then-not-begins_with
returns-then-not-begins_with c = (λ e. absurd cc, λ all. sym c.if-not-begins_with.true ∙ c.begins_with.ensures.1 (all.first, all.set_up))

pub returns-then-not-are_below : goal.returns-then-not-are_below
returns-then-not-are_below c = (λ e. absurd cc, λ all. sym c.if-not-are_below.true ∙ c.are_below.ensures ∙ (below_says c.args.records.now).back all.below)

pub returns-then-not-epochs_rise : goal.returns-then-not-epochs_rise
returns-then-not-epochs_rise c = (λ e. absurd cc, λ all. sym c.if-not-epochs_rise.true ∙ c.epochs_rise.ensures.1 all.epochs)

pub returns-then-not-tickets_rise : goal.returns-then-not-tickets_rise
returns-then-not-tickets_rise c = (λ e. absurd cc, λ all. sym c.if-not-tickets_rise.true ∙ c.tickets_rise.ensures.1 all.tickets_rise)

pub returns-then-not-are_of_some : goal.returns-then-not-are_of_some
returns-then-not-are_of_some c = (λ e. absurd cc, λ all. sym c.if-not-are_of_some.true ∙ c.are_of_some.ensures.1 all.sums_of_some)

pub returns-then-not-branch : goal.returns-then-not-branch
returns-then-not-branch c = (λ e. absurd cc, λ all. sym c.if-not-branch.true ∙ c.in_ok-are_within.ensures.1 all.within)

pub returns-then-not-branch-2 : goal.returns-then-not-branch-2
returns-then-not-branch-2 c = (λ e. absurd cc, λ all. sym c.if-not-branch-2.true ∙ c.in_ok-numbers_differ.ensures.1 all.numbers_differ)

pub returns-then-not-branch-3 : goal.returns-then-not-branch-3
returns-then-not-branch-3 c = (λ e. absurd cc, λ all. sym c.if-not-branch-3.true ∙ c.in_ok-are_recorded_once.ensures.1 all.once)

pub returns : goal.returns
returns c =
    let begins = c.begins_with.ensures.0 c.if-not-begins_with.false in
    IfOk-weaker c.are_parted.result _ _
    (λ parted says. (
      λ e. record {
        below = (below_says c.args.records.now).there (sym c.are_below.ensures ∙ c.if-not-are_below.false);
        within = c.in_ok-are_within.ensures.0 c.if-not-branch.false;
        first = begins.0;
        set_up = begins.1;
        epochs = c.epochs_rise.ensures.0 c.if-not-epochs_rise.false;
        once = c.in_ok-are_recorded_once.ensures.0 c.if-not-branch-3.false;
        numbers_differ = c.in_ok-numbers_differ.ensures.0 c.if-not-branch-2.false;
        tickets_rise = c.tickets_rise.ensures.0 c.if-not-tickets_rise.false;
        parted = says.0 e;
        sums_of_some = c.are_of_some.ensures.0 c.if-not-are_of_some.false;
      },
      λ all. says.1 all.parted,
    )) c.are_parted.ensures
