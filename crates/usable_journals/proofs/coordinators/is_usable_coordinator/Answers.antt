use Rattle.std.proofs.Common.{◌∙◌, reverse, List, ap, sym}
use Rattle.std.proofs.lemmas.Result.{IfOk-weaker}
use Rattle.presumptions.specs.declared.Participant.{Participant}
use Rattle.fed_rules.specs.Usable.{coord_read}
use Rattle.mdb_base.specs.Words.{each_of}
use Rattle.usable_journals.specs.CoordTests as tests
use Rattle.usable_journals.proofs.Reflected.{all_awaited, all_of_open, all_rising, awaited_says, below_says, names_says, order_back, order_there, rising_says}
use Rattle.usable_journals.proofs.coordinators.is_usable_coordinator.Goals as goal

pub returns-then-not-are_below : goal.returns-then-not-are_below
returns-then-not-are_below c =
    (λ e. absurd cc, λ all. sym c.if-not-are_below.true ∙ c.are_below.ensures ∙ (below_says c.args.records.now).back all.below)

pub returns-then-not-name_declared : goal.returns-then-not-name_declared
returns-then-not-name_declared c = (
  λ e. absurd cc,
  λ all.
      sym c.if-not-name_declared.true ∙ c.name_declared.ensures
      ∙ ap (λ (ps : List Participant). each_of (tests.names_declared ps) c.args.records.now) c.as_slice.ensures.items
      ∙ (names_says c.args.protocols.now c.args.records.now).back all.sites,
)

pub returns-then-not-sums_rise : goal.returns-then-not-sums_rise
returns-then-not-sums_rise c =
    (λ e. absurd cc, λ all. sym c.if-not-sums_rise.true ∙ c.sums_rise.ensures ∙ (rising_says c.args.records.now).back (all_rising (reverse c.args.records.now) all.sums_of_open))

pub returns-then-not-branch : goal.returns-then-not-branch
returns-then-not-branch c =
    (λ e. absurd cc, λ all. sym c.if-not-branch.true ∙ c.in_ok-are_awaited.ensures ∙ (awaited_says c.args.records.now).back (all_awaited (reverse c.args.records.now) all.sums_of_open))

pub returns-then-not-branch-2 : goal.returns-then-not-branch-2
returns-then-not-branch-2 c =
    (λ e. absurd cc, λ all. sym c.if-not-branch-2.true ∙ c.in_ok-stand_in_order.ensures ∙ order_back (coord_read (reverse c.args.records.now)) all.order all.once)

pub sums_fit-requires : goal.sums_fit-requires
sums_fit-requires c = sym c.in_ok-stand_in_order.ensures ∙ c.if-not-branch-2.false

pub returns-then-not-branch-3 : goal.returns-then-not-branch-3
returns-then-not-branch-3 c = (λ e. absurd cc, λ all. sym c.if-not-branch-3.true ∙ c.in_ok-sums_fit.ensures.1 all.sums)

pub close_no_cycle-requires : goal.close_no_cycle-requires
close_no_cycle-requires c = sym c.in_ok-stand_in_order.ensures ∙ c.if-not-branch-2.false

pub returns : goal.returns
returns c =
    let records = c.args.records.now in
    let protocols = c.args.protocols.now in
    let stands = order_there (coord_read (reverse records)) (sym c.in_ok-stand_in_order.ensures ∙ c.if-not-branch-2.false) in
    IfOk-weaker c.close_no_cycle.result _ _
    (λ free says. (
      λ e. record {
        below = (below_says records).there (sym c.are_below.ensures ∙ c.if-not-are_below.false);
        sums = c.in_ok-sums_fit.ensures.0 c.if-not-branch-3.false;
        order = stands.0;
        once = stands.1;
        sums_of_open = all_of_open (reverse records) ((rising_says records).there (sym c.sums_rise.ensures ∙ c.if-not-sums_rise.false))
            ((awaited_says records).there (sym c.in_ok-are_awaited.ensures ∙ c.if-not-branch.false));
        sites = (names_says protocols records).there (ap (λ (ps : List Participant). each_of (tests.names_declared ps) records) (sym c.as_slice.ensures.items) ∙ sym c.name_declared.ensures ∙ c.if-not-name_declared.false);
        cycle_free = says.0 e;
      },
      λ all. says.1 all.cycle_free,
    )) c.close_no_cycle.ensures
