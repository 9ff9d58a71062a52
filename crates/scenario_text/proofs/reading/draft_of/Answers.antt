use Rattle.std.proofs.Common.{Err, refl, ap, sym, ◌∙◌, add-one, arith}
use Rattle.std.proofs.lemmas.Bool.{eqb-true}
use Rattle.scenario_text.specs.Texts.{Answers, at_line, with_lines, draft_of}
use Rattle.scenario_text.specs.declared.draft.Draft.{Draft}
use Rattle.scenario_text.proofs.DraftLemmas.{nothing_kept, line_added}
use Rattle.scenario_text.proofs.LineLemmas.{line_taken, line_failed, lines_end, error_names_first}
use Rattle.scenario_text.proofs.SizeLemmas.{size_few, line_sized}
use Rattle.scenario_text.proofs.reading.draft_of.Goals as goal

pub loop-rest-init : goal.loop-rest-init
unfolding draft_of
loop-rest-init c = record {
  so_far = ap (with_lines c.args.with_commands 1 _) c.new-draft.ensures;
  kept = rw c.new-draft.ensures nothing_kept;
  sized = rw c.new-draft.ensures refl;
}

pub overflow_add-number : goal.overflow_add-number
overflow_add-number c = omega (arith, c.loop-rest.invariant.sized, size_few c.loop-rest.draft c.loop-rest.invariant.kept)

pub returns-in-Err : goal.returns-in-Err
returns-in-Err c =
    let first = c.in-Err.ensures.taken in
    let cut = ap (λ left. with_lines c.args.with_commands c.loop-rest.number left c.loop-rest.draft) first.parts in
    let failed : Answers {A = Draft} (Err (at_line c.loop-rest.number c.in-Err.fault)) (draft_of c.args.with_commands c.args.text.now) =
    rw (← c.loop-rest.invariant.so_far, cut) (line_failed c.args.with_commands c.loop-rest.number _ _ c.loop-rest.draft _ first.refused) in
    record {
      exact = rw c.at_line.ensures failed;
      kept = tt;
      first = rw c.at_line.ensures (error_names_first c.args.with_commands c.args.text.now _ failed);
    }

pub loop-rest-preserved : goal.loop-rest-preserved
loop-rest-preserved c =
    let first = c.in-Ok.ensures.taken in
    record {
      so_far =
          let taken = line_taken c.args.with_commands c.loop-rest.number _ _ c.loop-rest.draft _ first.taken in
          let cut = ap (λ left. with_lines c.args.with_commands c.loop-rest.number left c.loop-rest.draft) first.parts in
          rw add-one (sym taken ∙ sym cut ∙ c.loop-rest.invariant.so_far);
      kept = (line_added c.args.with_commands _ c.loop-rest.draft c.loop-rest.invariant.kept).value _ first.taken;
      sized =
          let more = (line_sized c.args.with_commands _ c.loop-rest.draft).value _ first.taken in
          omega (arith, more, c.loop-rest.invariant.sized);
    }

pub returns-clause-exact : goal.returns-clause-exact
returns-clause-exact c = sym c.loop-rest.invariant.so_far ∙ lines_end c.args.with_commands c.loop-rest.number c.loop-rest.rest.now c.loop-rest.draft (eqb-true _ 0 (sym c.loop-rest-test.ensures))
