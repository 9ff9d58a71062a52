use Rattle.mdb_base.proofs.ForCallers.{not_both}
use Rattle.trace_lines.proofs.ParsedNumbers.{unbegun, parsed}
use Rattle.trace_lines.proofs.lexing.number_of.Goals as goal

pub returns-then-begins_as_number : goal.returns-then-begins_as_number
returns-then-begins_as_number c =
    parsed c.args.text.now c.parse.result c.ok.result (c.begins_as_number.ensures.0 c.if-begins_as_number.true) c.parse.ensures.value.0 c.ok.ensures.value

pub returns-else-begins_as_number : goal.returns-else-begins_as_number
returns-else-begins_as_number c =
    unbegun c.args.text.now (λ begins. not_both c.begins_as_number.result (c.begins_as_number.ensures.1 begins) c.if-begins_as_number.false)
