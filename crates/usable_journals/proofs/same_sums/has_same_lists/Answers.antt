use Rattle.std.proofs.Common.{List, ap₂, sym, ◌∙◌}
use Rattle.std.proofs.lemmas.Slice.Eq.{slice_eq-Decides}
use Rattle.std.specs.Cmp.Lexicographic.{pointwise}
use Rattle.mdb_base.specs.declared.names.Tid.{Tid}
use Rattle.mdb_base.specs.declared.rows.Put.{Put}
use Rattle.mdb_base.specs.Names.{same_tid}
use Rattle.fed_rules.specs.SiteRecords.{Held}
use Rattle.usable_journals.specs.SiteReads.{same_held, same_put}
use Rattle.usable_journals.proofs.SameSums.{held_decides, put_decides, tid_decides}
use Rattle.usable_journals.proofs.same_sums.has_same_lists.Goals as goal

pub returns-then-not-rows_match : goal.returns-then-not-rows_match
returns-then-not-rows_match c = (
  λ e. absurd cc,
  λ same.
      sym c.if-not-rows_match.true
      ∙ (slice_eq-Decides put_decides c.args.one.now.rows c.args.other.now.rows c.rows_match.result
      (c.rows_match.ensures ∙ ap₂ (λ (xs ys : List Put). pointwise same_put xs ys) c.as_slice.ensures.items c.as_slice-2.ensures.items)).1 same.rows,
)

pub returns-then-not-tids_match : goal.returns-then-not-tids_match
returns-then-not-tids_match c = (
  λ e. absurd cc,
  λ same.
      sym c.if-not-tids_match.true
      ∙ (slice_eq-Decides tid_decides c.args.one.now.locals c.args.other.now.locals c.tids_match.result
      (c.tids_match.ensures ∙ ap₂ (λ (xs ys : List Tid). pointwise same_tid xs ys) c.as_slice-3.ensures c.as_slice-4.ensures)).1 same.locals,
)

pub returns : goal.returns
returns c =
    let rows = slice_eq-Decides put_decides c.args.one.now.rows c.args.other.now.rows c.rows_match.result
    (c.rows_match.ensures ∙ ap₂ (λ (xs ys : List Put). pointwise same_put xs ys) c.as_slice.ensures.items c.as_slice-2.ensures.items) in
    let locals = slice_eq-Decides tid_decides c.args.one.now.locals c.args.other.now.locals c.tids_match.result
    (c.tids_match.ensures ∙ ap₂ (λ (xs ys : List Tid). pointwise same_tid xs ys) c.as_slice-3.ensures c.as_slice-4.ensures) in
    let doubtful = slice_eq-Decides held_decides c.args.one.now.doubtful c.args.other.now.doubtful c.doubts_match.result
    (c.doubts_match.ensures ∙ ap₂ (λ (xs ys : List Held). pointwise same_held xs ys) c.as_slice-5.ensures c.as_slice-6.ensures) in (
      λ e. record { rows = rows.0 c.if-not-rows_match.false; locals = locals.0 c.if-not-tids_match.false; doubtful = doubtful.0 e },
      λ same. doubtful.1 same.doubtful,
    )
