use Rattle.std.proofs.Common.{refl, sym, ◌∙◌, arith}
use Rattle.std.proofs.lemmas.Bool.{le-ltb, lt-ltb}
use Rattle.mdb_base.proofs.Registers.{bad_register-passes, bad_register-stops}
use Rattle.mdb_base.proofs.plain.first_bad_register.Goals as goal
use Rattle.mdb_base.proofs.plain.first_bad_register.Goals.{in-Get, in-Set, in-Add+else-register-reads}

pub returns-then-register-reads : goal.returns-then-register-reads
returns-then-register-reads c =
    sym (bad_register-stops _ _ _ _ _ c.loop-place-test.true c.in-Add.is (le-ltb _ _ c.if-register-reads.true)) ∙ c.loop-place.invariant.same

pub loop-place-preserved : goal.loop-place-preserved
loop-place-preserved c =
    let steps = c.args.steps.now in
    let reads = c.loop-place.reads in
    let after = c.match-step.reads in
    let place = c.loop-place.place in
    let here = c.loop-place-test.true in
    elim c.match-step.branch [
      | in-Get w ↦ record {
        few = omega arith;
        same = sym (bad_register-passes steps reads after place _ _ here w.in-Get.is refl (omega arith)) ∙ c.loop-place.invariant.same;
      }
      | in-Set w ↦ record {
        few = omega arith;
        same = sym (bad_register-passes steps reads after place _ _ here w.in-Set.is refl w.reads-is) ∙ c.loop-place.invariant.same;
      }
      | in-Add+else-register-reads w ↦ record {
        few = omega arith;
        same = sym (bad_register-passes steps reads after place _ _ here w.in-Add.is (lt-ltb _ _ w.if-register-reads.false) w.reads-is) ∙ c.loop-place.invariant.same;
      }
    ]
