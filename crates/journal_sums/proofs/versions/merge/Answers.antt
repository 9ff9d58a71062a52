use Rattle.std.proofs.Common.{◌≡◌, ◌<◌, ◌++◌, length, drop, refl, ap, ◌∙◌, ◌⊎◌, inl, inr}
use Rattle.order_laws.proofs.ForCallers.{zero_below_one}
use Rattle.mdb_base.specs.Rows.{with_rows}
use Rattle.journal_sums.proofs.Merging.{left_moved, merged_rises, merging_ends, one_left, right_moved, takes_both, takes_left, takes_right}
use Rattle.journal_sums.proofs.versions.merge.Goals as goal
use Rattle.journal_sums.proofs.versions.merge.Goals.{In_ok-extend_from_slice-2, then-loop-row-test+else-not-is_empty, else-loop-row-test}

merged : (c : In_ok-extend_from_slice-2) → c.extend_from_slice-2.new.self.items ≡ with_rows c.args.later.now c.args.first.now
merged c =
    let left = c.loop-row.left.now in
    let right = c.loop-row.right.now in
    let ended : (length left < 1) ⊎ (length right < 1) =
    elim c.loop-row-test.branch [
      | then-loop-row-test+else-not-is_empty w ↦ inr (zero_below_one (length right) w.if-not-is_empty.ensures)
      | else-loop-row-test w ↦ inl (zero_below_one (length left) w.loop-row-test.ensures)
    ] in
    c.in_ok-extend_from_slice-2.ensures.items ∙ (ap (λ rows. rows ++ right) c.in_ok-extend_from_slice.ensures.items
    ∙ merging_ends c.args.first.now c.args.later.now c.loop-row.rows.items left right c.loop-row.invariant ended)

pub of-requires : goal.of-requires
of-requires c = merged_rises c.args.first.now c.args.later.now _ (merged c) c.requires.first

pub returns : goal.returns
returns c = c.of.ensures ∙ merged (goal.at.returns c).In_ok-extend_from_slice-2

pub loop-row-preserved-then-row-newer : goal.loop-row-preserved-then-row-newer
loop-row-preserved-then-row-newer c =
    let left = c.loop-row.left.now in
    let right = c.loop-row.right.now in
    left_moved c.args.first.now c.args.later.now _ _ left right c.in_ok-push.ensures.items
    (takes_left c.args.first.now c.args.later.now c.loop-row.rows.items left right _ _ (one_left (length left) c.loop-row-test.ensures) (one_left (length right) c.if-not-is_empty.ensures) c.if-row-newer.true c.loop-row.invariant)

pub loop-row-preserved-then-newer-row : goal.loop-row-preserved-then-newer-row
loop-row-preserved-then-newer-row c =
    let left = c.loop-row.left.now in
    let right = c.loop-row.right.now in
    right_moved c.args.first.now c.args.later.now _ _ left right c.in_ok-push-2.ensures.items
    (takes_right c.args.first.now c.args.later.now c.loop-row.rows.items left right _ _ (one_left (length left) c.loop-row-test.ensures) (one_left (length right) c.if-not-is_empty.ensures) c.if-newer-row.true c.loop-row.invariant)

pub loop-row-preserved : goal.loop-row-preserved
loop-row-preserved c =
    let left = c.loop-row.left.now in
    let right = c.loop-row.right.now in
    left_moved c.args.first.now c.args.later.now _ _ left _ c.in_ok-push-3.ensures.items
    (right_moved c.args.first.now c.args.later.now _ _ (drop 1 left) right refl
    (takes_both c.args.first.now c.args.later.now c.loop-row.rows.items left right _ _ (one_left (length left) c.loop-row-test.ensures) (one_left (length right) c.if-not-is_empty.ensures) c.if-row-newer.false c.if-newer-row.false c.loop-row.invariant))
