use Rattle.std.proofs.Common.{[], ◌∷◌}
use Rattle.byte_numbers.specs.Numbers.{number}
use Rattle.fed_messages.proofs.Pieces.{three_pieces}
use Rattle.fed_messages.proofs.encoding.put_act.Goals as goal

pub returns-in-Write-clause-bytes : goal.returns-in-Write-clause-bytes
returns-in-Write-clause-bytes c =
    rw c.in-Write.is
    (three_pieces c.args.text.now c.push-in-Write.new.self c.put_u16-in-Write.new.self c.put_u64.new.self (2 ∷ []) (number 2 c.in-Write.key.0) (number 8 c.in-Write.value)
    c.push-in-Write.ensures.bytes c.put_u16-in-Write.ensures.bytes c.put_u64.ensures.bytes)
