use Rattle.std.proofs.Common.{◌≡◌, ◌∷◌, [], ◌++◌, List, Some, get_or, true, false, sym, ap, ◌∙◌, arith}
use Rattle.std.proofs.lemmas.List.{take_all}
use Rattle.std.proofs.lemmas.Option.{slice_get-get_or}
use Rattle.mdb_base.specs.declared.names.Tid.{Tid}
use Rattle.mdb_base.proofs.ForCallers.{some_parts}
use Rattle.protocol_table.specs.declared.known.Known.{Known}
use Rattle.coord_tables.specs.Listing.{is_listed, listed_tids}
use Rattle.coord_tables.proofs.Keepings.{next_kept}
use Rattle.coord_tables.proofs.listing.tids_of.Goals as goal
use Rattle.coord_tables.proofs.listing.tids_of.Goals.{then-is_listed+in_ok-push, else-is_listed}

pub loop-place-init : goal.loop-place-init
loop-place-init c = c.new-tids.ensures.items

pub loop-place-preserved : goal.loop-place-preserved
loop-place-preserved c =
    let table = c.args.table.now in
    let i = c.loop-place.place in
    let x = c.at-known.result.now in
    let count = c.len-place-end.ensures.count in
    let test = c.loop-place-test.true in
    let here : x ≡ get_or table i x = sym (some_parts (sym (slice_get-get_or table i x (omega (arith, count, test))) ∙ c.at-known.ensures)) in
    elim c.if-is_listed.branch [
      | then-is_listed+in_ok-push w ↦
          ap (λ (v : _). v.items) w.tids-is
          ∙ (w.in_ok-push.ensures.items
          ∙ (ap (λ ts. ts ++ x.tid ∷ []) c.loop-place.invariant
          ∙ sym (next_kept (λ (known : Known). known.tid) (is_listed c.args.undecided) table i x true (omega (arith, count, test)) here (sym c.is_listed.ensures ∙ w.if-is_listed.true))))
      | else-is_listed w ↦
          ap (λ (v : _). v.items) w.tids-is
          ∙ (c.loop-place.invariant
          ∙ sym (next_kept (λ (known : Known). known.tid) (is_listed c.args.undecided) table i x false (omega (arith, count, test)) here (sym c.is_listed.ensures ∙ w.if-is_listed.false)))
    ]

pub returns : goal.returns
returns c =
    let count = c.len-place-end.ensures.count in
    let end = c.loop-place-test.false in
    c.loop-place.invariant ∙ ap (listed_tids c.args.undecided) (take_all c.loop-place.place c.args.table.now (omega (arith, count, end)))
