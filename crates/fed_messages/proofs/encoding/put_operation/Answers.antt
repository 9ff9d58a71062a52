use Rattle.std.proofs.Common.{◌∷◌}
use Rattle.byte_numbers.specs.Numbers.{number}
use Rattle.field_bytes.specs.Fields.{tid_bytes}
use Rattle.fed_messages.proofs.Pieces.{three_pieces}
use Rattle.fed_messages.proofs.encoding.put_operation.Goals as goal

pub returns-clause-bytes : goal.returns-clause-bytes
returns-clause-bytes c =
    three_pieces c.args.text.now c.put_by.new.text c.put_u32.new.self c.put_u8.new.self (c.args.kind ∷ tid_bytes c.args.tid) (number 4 c.args.epoch) (number 1 c.args.n)
    c.put_by.ensures.bytes c.put_u32.ensures.bytes c.put_u8.ensures.bytes
