use Rattle.std.proofs.Common.{ℕ, ◌<◌, ◌^◌, decimal, IsTrue, inl, arith}
use Rattle.std.proofs.lemmas.Bool.{ltb-true}
use Rattle.line_text.specs.Range.{is_large}
use Rattle.trace_lines.proofs.Bytes.{Lacks, lacks-decimal}
use Rattle.trace_lines.proofs.Pairs.{no_mark, no_first, no_second}
use Rattle.trace_lines.proofs.lexing.numbers_of.Goals as goal

-- a number lacks a mark that is below the digits
lacks : (mark n : ℕ) → mark < 48 → IsTrue (is_large n) → Lacks mark (decimal n)
lacks mark n below large = lacks-decimal mark n (inl below) (ltb-true n (2 ^ 64) large)

pub returns-in_err-first : goal.returns-in_err-first
returns-in_err-first c =
    rw c.from_residual.ensures (no_mark is_large decimal is_large decimal c.args.mark (omega arith) (λ n large. lacks c.args.mark n c.requires large) c.args.text.now c.in_err-first.ensures.cases)

pub returns-in_err-number_of : goal.returns-in_err-number_of
returns-in_err-number_of c =
    rw c.from_residual-in_err-number_of.ensures
    (no_first is_large decimal is_large decimal c.args.mark (omega arith) (λ n large. lacks c.args.mark n c.requires large) c.args.text.now c.in_ok-first.first c.in_ok-first.second c.in_ok-first.ensures.cases c.in_err-number_of.ensures)

pub returns-in_err-number_of-2 : goal.returns-in_err-number_of-2
returns-in_err-number_of-2 c =
    rw c.from_residual-in_err-number_of-2.ensures
    (no_second is_large decimal is_large decimal c.args.mark (omega arith) (λ n large. lacks c.args.mark n c.requires large) c.args.text.now c.in_ok-first.first c.in_ok-first.second c.in_ok-first.ensures.cases c.in_err-number_of-2.ensures)
