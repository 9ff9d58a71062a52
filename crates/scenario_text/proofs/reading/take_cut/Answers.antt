use Rattle.std.proofs.lemmas.Result.{err_from_is_err_and}
use Rattle.scenario_text.proofs.reading.take_cut.Goals as goal

pub returns-in_err-take_line : goal.returns-in_err-take_line
returns-in_err-take_line c =
    let p = err_from_is_err_and c.from_residual.result c.from_residual.ensures.1 in
    rw (p.1, p.2) (record {
      taken = record { line = record { bytes = c.first_line-ended.result.0.now; ended = c.first_line-ended.result.1 }; behind = _; parts = c.first_line-ended.ensures.lines; refused = c.in_err-take_line.ensures };
      shorter = tt;
    })

pub returns : goal.returns
returns c = record {
  taken = record { line = record { bytes = c.first_line-ended.result.0.now; ended = c.first_line-ended.result.1 }; parts = c.first_line-ended.ensures.lines; taken = c.in_ok-take_line.ensures };
  shorter = c.first_line-ended.ensures.shorter;
}
