use Rattle.std.proofs.Common.{◌≡◌, true, sym, ◌∙◌, subst, arith}
use Rattle.actor_tests.specs.OfThree.{three}
use Rattle.global_manager.specs.Stands.{IsSited}
use Rattle.actor_tests.proofs.OfThree.{sited_three}
use Rattle.actor_tests.proofs.coordinator.line_of.Goals as goal

pub returns : goal.returns
returns c =
    let tested = c.if-not-are_at_three.false in
    let passes : c.are_at_three.result ≡ true = cc in
    let sited = sited_three c.args.steps.now (sym c.are_at_three.ensures ∙ passes) in
    record {
      least = omega arith;
      greatest = omega arith;
      sited = subst (IsSited three) (sym c.in_ok-program.ensures.program) sited;
    }
