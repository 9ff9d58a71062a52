use Rattle.std.proofs.Common.{◌<◌, length, sym, ap, arith}
use Rattle.mdb_base.proofs.ForCallers.{next_of-past, next_of-within, program_register}
use Rattle.global_exec.proofs.following.next_behind.Goals as goal

pub returns-then-done-steps : goal.returns-then-done-steps
returns-then-done-steps c = sym (next_of-past c.args.program.now c.args.done _ (omega (arith, ap length c.steps-steps.ensures.steps)))

pub plain-requires : goal.plain-requires
plain-requires c =
    let same = c.steps-steps.ensures.steps in
    let within : c.args.done < length c.args.program.now = omega (arith, ap length same) in
    rw same (program_register c.args.program.now c.args.done _ _ c.steps-steps.ensures.program within c.requires.read)

pub returns : goal.returns
returns c =
    let same = c.steps-steps.ensures.steps in
    let within : c.args.done < length c.args.program.now = omega (arith, ap length same) in
    rw (c.plain.ensures, same) (sym (next_of-within _ _ _ _ within))
