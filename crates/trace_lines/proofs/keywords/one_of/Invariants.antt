use Rattle.std.proofs.Common.{◌≡◌, drop}
use Rattle.trace_lines.specs.Lexed.{spelled_in}
use Rattle.trace_lines.proofs.keywords.one_of.Given as goal

-- the keyword is found among those that are left
abbrev pub invariant-loop-keyword : goal.invariant-loop-keyword
invariant-loop-keyword l = spelled_in (drop l.keyword-index l.keywords) l.text ≡ spelled_in l.keywords l.text
