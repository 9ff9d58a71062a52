use Rattle.std.proofs.lemmas.Result.{err_from_is_err_and}
use Rattle.scenario_text.proofs.UsualLemmas.{command_refused, command_taken, less_behind}
use Rattle.scenario_text.proofs.reading.take_first.Goals as goal

pub returns-in_err-add : goal.returns-in_err-add
returns-in_err-add c =
    let p = err_from_is_err_and c.from_residual.result c.from_residual.ensures.1 in
    let next = c.in-Some.ensures in
    rw (p.1, p.2) (record {
      taken = command_refused c.args.with_commands c.args.draft.now c.in-Some.command c.args.text.now c.in-Some.rest.now next.0 next.1 _ c.in_err-add.ensures;
      shorter = tt;
    })

pub returns-in-Some : goal.returns-in-Some
returns-in-Some c =
    let next = c.in-Some.ensures in
    record {
      taken = command_taken c.args.with_commands c.args.draft.now c.in-Some.command c.args.text.now c.in-Some.rest.now next.0 next.1 _ c.in_ok-add.ensures;
      shorter = less_behind c.args.with_commands c.args.draft.now c.in-Some.command c.args.text.now c.in-Some.rest.now next.0 next.1;
    }
