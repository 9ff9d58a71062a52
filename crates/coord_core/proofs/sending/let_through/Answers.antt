use Rattle.std.proofs.Common.{Bool, sym, ap, ◌∙◌}
use Rattle.coord_tables.specs.Sending.{passed}
use Rattle.coord_tables.proofs.ForCallers.{all_passed}
use Rattle.coord_core.proofs.sending.let_through.Goals as goal

pub returns-then-may : goal.returns-then-may
returns-then-may c = sym (ap (λ (may : Bool). passed may c.args.dues) c.if-may.true ∙ all_passed c.args.dues)
