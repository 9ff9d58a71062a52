use Rattle.std.proofs.Common.{◌≡◌, true, false, cond, not, ◌&&◌, List, [], ◌∷◌, ◌++◌, map, take, append-nil, sym, ap, ◌∙◌}
use Rattle.indexmap.specs.IndexMap.{values}
use Rattle.global_exec.specs.declared.policy.SiteSet.{SiteSet}
use Rattle.coord_tables.specs.declared.stages.Stage.{Stage}
use Rattle.coord_tables.specs.Stages.{is_of, others_taking}
use Rattle.coord_tables.proofs.Staged.{others_next}
use Rattle.coord_tables.proofs.stages.others_of.Goals.{then-takes_beside+in_ok-push, else-takes_beside}
use Rattle.coord_tables.proofs.stages.others_of.Goals as goal

pub loop-place-preserved : goal.loop-place-preserved
loop-place-preserved c =
    let tid = c.args.tid in
    let stages = values c.args.stages.now in
    let i = c.loop-place.place in
    let item = c.at-stage.result.now in
    let before : List SiteSet = map (λ (s : Stage). s.sites) (others_taking tid (take i stages)) in
    let next = others_next tid stages i item c.at-stage.ensures in
    elim c.if-takes_beside.branch [
      | then-takes_beside+in_ok-push w ↦
          let yes : (not (is_of tid item) && item.takes) ≡ true = sym c.takes_beside.ensures ∙ w.if-takes_beside.true in
          ap (λ v. v.items) w.others-is ∙ w.in_ok-push.ensures.items ∙ ap (λ (xs : List SiteSet). xs ++ item.sites ∷ []) c.loop-place.invariant
          ∙ sym (next ∙ ap (λ b. before ++ map (λ (s : Stage). s.sites) (cond b (item ∷ []) [])) yes)
      | else-takes_beside w ↦
          let no : (not (is_of tid item) && item.takes) ≡ false = sym c.takes_beside.ensures ∙ w.if-takes_beside.false in
          ap (λ v. v.items) w.others-is ∙ c.loop-place.invariant ∙ sym (append-nil before)
          ∙ sym (next ∙ ap (λ b. before ++ map (λ (s : Stage). s.sites) (cond b (item ∷ []) [])) no)
    ]
