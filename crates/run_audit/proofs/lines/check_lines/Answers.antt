use Rattle.std.proofs.Common.{Option, ap, map, subst, ◌∙◌, arith}
use Rattle.fed_world.specs.FreshWorlds.{Stands}
use Rattle.scenario_text.specs.Pieces.{lines}
use Rattle.audit_text.proofs.ForCallers.{no_lines, nothing}
use Rattle.audit_rules.specs.declared.verdict.Verdict.{Verdict}
use Rattle.run_audit.specs.Turns.{Turns, line_of}
use Rattle.run_audit.proofs.Reached.{has_room, none_left, one_further}
use Rattle.run_audit.proofs.lines.check_lines.Goals as goal

pub check_printed-requires-clause-stood : goal.check_printed-requires-clause-stood
check_printed-requires-clause-stood g c =
    let r = c.requires.stood in
    let so = c.loop-rest.invariant.left r.session r.commands r.stood r.holds in
    record { session = r.session; commands = so.commands; stood = so.stands; holds = has_room _ _ _ _ _ so }

pub loop-rest-preserved : goal.loop-rest-preserved
loop-rest-preserved g c =
    let New = Stands g.D.Disk.tells c.check_printed.new.world (map g.D.Disk.seen c.check_printed.new.disks.items) in
    let line = c.first_line-line.result in
    let shorter = c.first_line-line.ensures.shorter in
    record {
      left = λ scenario commands s fits.
          let so = c.loop-rest.invariant.left scenario commands s fits in
          one_further _ _ _ _ _ so New (line_of line) line.behind.now c.first_line-line.ensures.lines shorter
          (subst (λ (o : Option Verdict). Turns New scenario so.commands c.loop-rest.number (line_of line) (lines line.behind.now) o) c.in_default.is
          (c.in_ok-verdict.ensures.turns scenario so.commands so.stands (has_room _ _ _ _ _ so)));
      short = omega arith;
      calm = c.in_ok-verdict.ensures.cause ∙ c.loop-rest.invariant.calm;
    }

pub returns-clause-verdict : goal.returns-clause-verdict
returns-clause-verdict g c = λ scenario commands s fits.
    none_left _ _ _ _ _ (c.loop-rest.invariant.left scenario commands s fits)
    (ap lines (nothing c.loop-rest.rest.now c.is_empty.result c.is_empty.ensures c.loop-rest-test.false) ∙ no_lines)
