use Rattle.run_audit.proofs.Parts.{handed_is, handed_short, refused_so}
use Rattle.run_audit.proofs.submitted.submit.Goals as goal

pub returns-in-Ok-clause-exact : goal.returns-in-Ok-clause-exact
returns-in-Ok-clause-exact c =
    let cut = c.cut_printed-cut.result in
    let both = handed_is c.args.text.now cut.front.now cut.lines cut.printed c.in-Ok.scenario c.cut_printed-cut.ensures.cut c.in-Ok.ensures.exact in
    record { verdict = both.0; behind = both.1 }

pub returns-in-Ok-clause-short : goal.returns-in-Ok-clause-short
returns-in-Ok-clause-short c =
    let cut = c.cut_printed-cut.result in handed_short cut.lines cut.printed _ c.cut_printed-cut.ensures.few c.requires

pub returns-in-Err-clause-exact : goal.returns-in-Err-clause-exact
returns-in-Err-clause-exact c =
    let cut = c.cut_printed-cut.result in refused_so c.args.text.now cut.front.now cut.lines cut.printed c.in-Err.why c.cut_printed-cut.ensures.cut c.in-Err.ensures.exact
