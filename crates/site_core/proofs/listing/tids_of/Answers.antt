use Rattle.std.proofs.Common.{◌∷◌, ◌++◌, [], get_or, map, take, sym, ap, ◌∙◌, arith}
use Rattle.std.proofs.lemmas.Option.{slice_get-get_or}
use Rattle.fed_rules.specs.declared.runs.Doubt.{Doubt}
use Rattle.site_core.proofs.Listings.{same_doubt, tids_more}
use Rattle.site_core.proofs.listing.tids_of.Goals as goal

pub loop-place-preserved : goal.loop-place-preserved
loop-place-preserved c =
    let doubts = c.args.doubts.now.doubts in
    let i = c.loop-place.place in
    let found = c.at.result.now in
    let count = c.len-place-end.ensures.count in
    let test = c.loop-place-test.true in
    let same = same_doubt (get_or doubts i found) found (sym (slice_get-get_or doubts i found (omega (arith, count, test))) ∙ c.at.ensures) in
    c.in_ok-push.ensures.items
    ∙ (ap (λ ts. ts ++ found.tid ∷ []) c.loop-place.invariant
    ∙ sym (tids_more doubts i found (omega (arith, count, test)) ∙ ap (λ t. map (λ (doubt : Doubt). doubt.tid) (take i doubts) ++ t ∷ []) same))
