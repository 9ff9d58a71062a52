use Rattle.std.proofs.Common.{◌+◌, ◌<◌, ◌^◌, ◌∷◌, arith}
use Rattle.fed_rules.specs.Runs.{Begins, counter}
use Rattle.fed_rules.proofs.ForCallers.{counter_begun}
use Rattle.engine_contract.proofs.Lets.{begun_acts, read_acts, act_seals}
use Rattle.engine_contract.proofs.alone.read_alone.Goals as goal

pub finish-requires : goal.finish-requires
finish-requires g c =
    let p = c.requires in
    let lines = Begins c.args.tid c.in_ok-_age._age ∷ p.lines in
    let began = c.in_ok-_age.ensures.begun p.start p.lines p.stood in
    let drawn = counter_begun p.start p.lines c.args.tid c.in_ok-_age._age (g.met.E.LocalEngine.right _ p.start lines began) in
    let few : counter p.start p.lines + 2 < 2 ^ 64 = p.holds.1 in
    let fits : counter p.start lines + 1 < 2 ^ 64 = omega arith in
    record {
      start = p.start;
      lines = _;
      stood = rw c.in-Value.is at c.in-Ok.ensures.answered p.start lines began;
      holds = act_seals (read_acts begun_acts) fits;
    }
