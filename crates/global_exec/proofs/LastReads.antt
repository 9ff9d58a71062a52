-- The values that were read, and that of a reply behind them.
use Rattle.std.proofs.Common.{◌≡◌, ℕ, ◌+◌, ◌-◌, ◌<◌, ◌≤◌, List, ◌++◌, length, get_or, refl, ap, ◌∙◌, arith, length-append}
use Rattle.std.proofs.lemmas.List.{get_or-append_right}
use Rattle.mdb_base.specs.declared.replies.Reply.{Reply}
use Rattle.mdb_base.specs.declared.replies.Reply.TheVariants as Reply_is
use Rattle.global_exec.specs.Counted.{value_of}

-- a reply has at most one value
one_value : (reply : Reply) → length (value_of reply) ≤ 1
one_value Reply_is.Done = omega arith
one_value (Reply_is.Value value) = omega arith
one_value (Reply_is.Ticket ticket) = omega arith
one_value (Reply_is.Wait by) = omega arith
one_value (Reply_is.Refused why) = omega arith
one_value Reply_is.Unknown = omega arith

-- behind the values that were read stands that of the reply
pub read_last : (reads : List ℕ) (reply : Reply) (i : ℕ) → length reads ≤ i → i < length (reads ++ value_of reply)
    → get_or (reads ++ value_of reply) i 0 ≡ get_or (value_of reply) 0 0
read_last reads reply i past within =
    let all : length (reads ++ value_of reply) ≡ length reads + length (value_of reply) = length-append reads (value_of reply) in
    let one : length (value_of reply) ≤ 1 = one_value reply in
    let first : i - length reads ≡ 0 = omega arith in
    get_or-append_right reads (value_of reply) (length reads) i 0 refl past ∙ ap (λ (n : ℕ). get_or (value_of reply) n 0) first
