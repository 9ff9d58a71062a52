-- What an input is: too long, a text with a bad line, or what it spells. And what the words of the program ask for.
use Rattle.std.specs.Prelude.{ℕ, ◌==◌, nat_lt, Bool, false, not, cond, codes, Option, Some, None, List, [], ◌∷◌, length, Result, Ok, Err}
use Rattle.std.specs.Str.{bytes_eq}
use Rattle.mdb_base.specs.Words.{map_some}
use Rattle.scenario_text.specs.declared.bad.BadLine.{BadLine}
use Rattle.session_outputs.specs.Makes.{IsMakeable}
use Rattle.mdb_top.specs.declared.words.Job.{Job}
use Rattle.mdb_top.specs.declared.words.Job.TheVariants.{Audit, Make, Replay, Resume, Run}
use Rattle.mdb_top.specs.Made.{made_by}
use Rattle.mdb_top.specs.Streams.{longest}

-- what one word asks for
abbrev pub job_of : List ℕ → Option Job
job_of word =
    cond (bytes_eq word (codes "replay")) (Some Replay)
    (cond (bytes_eq word (codes "run")) (Some Run) (cond (bytes_eq word (codes "audit")) (Some Audit) None))

-- the name of a folder: it isn't empty and doesn't begin with `-`
abbrev pub is_folder : List ℕ → Bool
is_folder [] = false
is_folder (first ∷ rest) = not (first == 45)

-- what a word before a folder asks for: `store` is a replay
abbrev pub folder_job : List ℕ → Option Job
folder_job word = cond (bytes_eq word (codes "store")) (Some Replay) (cond (bytes_eq word (codes "resume")) (Some Resume) None)

-- what a word with a folder asks for
abbrev pub asked_of_folder : List (List ℕ) → Option Job
asked_of_folder (word ∷ folder ∷ []) = cond (is_folder folder) (folder_job word) None
asked_of_folder words = None

-- what words without a folder ask for
abbrev pub command_of : List (List ℕ) → Option Job
command_of [] = None
command_of (word ∷ []) = job_of word
command_of (word ∷ other ∷ words) = map_some Make (made_by (word ∷ other ∷ words))

-- what the words ask for: what a word with a folder does, or else what they do without one
abbrev pub or_command : Option Job → List (List ℕ) → Option Job
or_command None words = command_of words
or_command (Some job) words = Some job

abbrev pub asked_by : List (List ℕ) → Option Job
asked_by words = or_command (asked_of_folder words) words

-- what is asked for can be done: what is to be made can be made
abbrev pub CanBeDone : Job → Type 0
CanBeDone (Make making) = IsMakeable making
CanBeDone job = Unit {0}

-- what an input is, to a reader of texts
pub data Verdict (X : Type 0) : Type 0 where
  TooLong : Verdict X
  BadInput : BadLine → Verdict X
  Spells : X → Verdict X

abbrev pub verdict_on : {X : Type 0} → Result X BadLine → Verdict X
verdict_on (Err bad) = BadInput bad
verdict_on (Ok x) = Spells x

-- the limit on the bytes comes first, then the grammar
abbrev pub verdict : {X : Type 0} → (List ℕ → Result X BadLine) → List ℕ → Verdict X
verdict reads bytes = cond (nat_lt longest (length bytes)) TooLong (verdict_on (reads bytes))
