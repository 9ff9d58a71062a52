use Rattle.trace_lines.proofs.fronts.front_keyword.Given as goal

abbrev pub invariant-loop-keyword : goal.invariant-loop-keyword
invariant-loop-keyword l = Unit {0}
