-- What a text begins with, where it is told by its bytes: the words of a command, of an answer and of places, each behind a space.
use Rattle.std.specs.Prelude.{ℕ, ◌≡◌, List, ◌∷◌, ◌++◌, IsTrue}
use Rattle.mdb_base.specs.Words.{each_of}
use Rattle.fed_rules.specs.declared.answers.Answer.{Answer}
use Rattle.fed_rules.specs.declared.commands.Command.{Command}
use Rattle.fed_rules.specs.declared.commands.Line.{Line}
use Rattle.fed_rules.specs.declared.commands.Place.{Place}
use Rattle.line_text.specs.declared.word.Word.{Word}
use Rattle.line_text.specs.Range.{answer_in_range, command_in_range, is_line, is_place}
use Rattle.line_text.specs.Spelling.{answer_words, command_words, line_bytes, sends_words, spaced}

-- these words stand at the front, and the rest behind them
abbrev pub Begins : List Word → List ℕ → List ℕ → Type 0
Begins words text rest = text ≡ spaced words ++ rest

-- the words of a command stand at the front, the first one without a space
abbrev pub Asks : Command → List ℕ → List ℕ → Type 0
Asks command text rest = IsTrue (command_in_range command) × Begins (command_words command) (32 ∷ text) rest

-- the words of an answer stand at the front
abbrev pub Says : Answer → List ℕ → List ℕ → Type 0
Says answer text rest = IsTrue (answer_in_range answer) × Begins (answer_words answer) text rest

-- the text has the words of what a command sent, and no more
abbrev pub Sends : Command → List Place → List ℕ → Type 0
Sends command places text = IsTrue (each_of is_place places) × (text ≡ spaced (sends_words command places))

-- the text is the line's
abbrev pub IsText : Line → List ℕ → Type 0
IsText line text = IsTrue (is_line line) × (text ≡ line_bytes line)
