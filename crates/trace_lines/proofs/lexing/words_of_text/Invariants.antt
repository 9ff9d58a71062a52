use Rattle.std.proofs.Common.{◌≡◌, IsTrue, length, map, take}
use Rattle.mdb_base.specs.Words.{Each}
use Rattle.line_text.specs.Range.{is_word}
use Rattle.line_text.specs.Words.{word_text}
use Rattle.trace_lines.specs.Lexing.{pieces}
use Rattle.trace_lines.proofs.lexing.words_of_text.Given as goal

-- the words so far are those of the pieces so far
abbrev pub invariant-loop-word : goal.invariant-loop-word
invariant-loop-word l = record {
  each : Each (λ word. IsTrue (is_word word)) l.words.items;
  spelled : map word_text l.words.items ≡ take (length l.yielded) (pieces l.text);
}
