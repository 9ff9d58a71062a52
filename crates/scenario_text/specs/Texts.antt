-- What a text spells: a scenario, and where the line `commands` may stand, commands behind it. A text that spells none has a first bad
-- line with the first reason at which that line fails. A line's tests come in this order: its length, its line feed, its bytes, its first
-- word, the count of its words, each word from the left, and then what it means behind the lines before it.
use Rattle.std.specs.Prelude.{ℕ, suc, ◌≡◌, Bool, true, false, not, ◌&&◌, if◌then◌else◌, nat_lt, codes, List, [], ◌∷◌, length, Result, Ok, Err}
use Rattle.std.specs.List.{list_all}
use Rattle.std.specs.Str.{bytes_eq}
use Rattle.fed_rules.specs.Plans.{Plan, is_between}
use Rattle.scenario_text.specs.declared.bad.BadWhy.{BadWhy}
use Rattle.scenario_text.specs.declared.bad.BadWhy.TheVariants.{Long, Bytes, Ending}
use Rattle.scenario_text.specs.declared.bad.BadLine.{BadLine}
use Rattle.scenario_text.specs.declared.bad.TextErr.{TextErr}
use Rattle.scenario_text.specs.declared.bad.TextErr.TheVariants as errors
use Rattle.scenario_text.specs.declared.draft.Draft.{Draft}
use Rattle.scenario_text.specs.declared.entry.Entry.{Entry}
use Rattle.scenario_text.specs.declared.entry.Entry.TheVariants as says
use Rattle.scenario_text.specs.declared.fault.Fault.{Fault}
use Rattle.scenario_text.specs.declared.fault.Fault.TheVariants as faults
use Rattle.scenario_text.specs.declared.session.Session.{Session}
use Rattle.scenario_text.specs.CommandLines.{command_line}
use Rattle.scenario_text.specs.Drafts.{no_draft, with_entry, plan_of}
use Rattle.scenario_text.specs.Pieces.{TextLine, lines, words_of, first_word, only_one}
use Rattle.scenario_text.specs.Reads.{◌>>=◌, counted}
use Rattle.scenario_text.specs.ScenarioLines.{scenario_line}

-- the most bytes of a line, without its line feed
abbrev pub most_bytes : ℕ
most_bytes = 2048

-- whether a byte is one of the visible characters of ASCII or a space
abbrev pub is_visible : ℕ → Bool
is_visible b = is_between 32 126 b

-- the bytes of a line that is whole
unfoldable pub whole_line : TextLine → Result (List ℕ) BadWhy
whole_line line =
    if nat_lt most_bytes (length line.bytes) then Err Long
    else if not line.ended then Err Ending
    else if list_all is_visible line.bytes then Ok line.bytes
    else Err Bytes

-- what a line says by its words: behind `commands` a command, before it a line of a scenario, or `commands` where that may stand
unfoldable pub entry_of : (with_commands : Bool) → Draft → List (List ℕ) → Result Entry BadWhy
entry_of with_commands d words =
    if d.in_commands then (command_line d.sites words >>= λ command. Ok (says.Command command))
    else if with_commands && bytes_eq (first_word words) (codes "commands") then (counted (only_one words) >>= λ word. Ok says.Commands)
    else scenario_line d.sites words

-- the draft with one line more
unfoldable pub with_line : (with_commands : Bool) → TextLine → Draft → Result Draft BadWhy
with_line with_commands line d = do
  bytes ← whole_line line
  entry ← entry_of with_commands d (words_of bytes)
  with_entry entry d

-- a draft from a line with this number on, or the bad line
abbrev pub numbered : {A : Type 0} → ℕ → Result Draft BadWhy → (Draft → Result A BadLine) → Result A BadLine
numbered number (Ok d) next = next d
numbered number (Err why) next = Err (record { line = number; why = why })

-- the draft with these lines more, the first of which has this number; lines are counted from 1
unfoldable pub with_lines : (with_commands : Bool) → ℕ → List TextLine → Draft → Result Draft BadLine
with_lines with_commands number [] d = Ok d
with_lines with_commands number (line ∷ more) d = numbered number (with_line with_commands line d) (with_lines with_commands (suc number) more)

-- what all lines of a text say
unfoldable pub draft_of : (with_commands : Bool) → List ℕ → Result Draft BadLine
draft_of with_commands text = with_lines with_commands 1 (lines text) no_draft

-- what is made of a draft
abbrev pub made : {A : Type 0} → (Draft → A) → Result Draft BadLine → Result A BadLine
made f (Ok d) = Ok (f d)
made f (Err bad) = Err bad

-- the scenario that a text spells, or its first bad line
unfoldable pub scenario_of : List ℕ → Result Plan BadLine
scenario_of text = made plan_of (draft_of false text)

-- the scenario and the commands that a text spells, or its first bad line
unfoldable pub session_of : List ℕ → Result Session BadLine
session_of text = made (λ d. record { scenario = plan_of d; commands = d.commands }) (draft_of true text)

-- what a reader answers is what the text spells: the value, or the first bad line; want of memory alone is free
abbrev pub Answers : {A : Type 0} → Result A TextErr → Result A BadLine → Type 0
Answers (Ok x) read = read ≡ Ok x
Answers (Err (errors.Bad bad)) read = read ≡ Err bad
Answers (Err errors.Memory) read = Unit {0}

-- why a text isn't read, where this is why its line isn't
abbrev pub at_line : ℕ → Fault → TextErr
at_line line (faults.Bad reason) = errors.Bad (record { line = line; why = reason })
at_line line faults.Memory = errors.Memory
