-- What is said where a session isn't replayed. Each text ends with a line feed.
use Rattle.std.specs.Prelude.{ℕ, List, ◌++◌, codes, decimal}
use Rattle.scenario_text.specs.declared.bad.BadLine.{BadLine}
use Rattle.scenario_text.specs.declared.bad.BadWhy.{BadWhy}
use Rattle.scenario_text.specs.declared.bad.BadWhy.TheVariants as Bad
use Rattle.outputs.specs.Texts.{line}

abbrev pub usage_text : List ℕ
usage_text = line (codes "usage: mdbfed replay | run | make NUMBER SITES TRANSACTIONS | audit | store FOLDER | resume FOLDER")

abbrev pub read_failed_text : List ℕ
read_failed_text = line (codes "read failed")

abbrev pub too_long_text : List ℕ
too_long_text = line (codes "too long")

abbrev pub no_memory_text : List ℕ
no_memory_text = line (codes "no memory")

-- a disk's number, and what is the matter with it
abbrev pub disk_text : ℕ → List ℕ → List ℕ
disk_text number matter = line (codes "disk " ++ decimal number ++ matter)

-- which disk isn't empty
abbrev pub disk_used_text : ℕ → List ℕ
disk_used_text number = disk_text number (codes " is used")

-- which disk has a journal that is too large to be opened
abbrev pub disk_large_text : ℕ → List ℕ
disk_large_text number = disk_text number (codes " is large")

-- which disk is damaged, and at which place
abbrev pub disk_damaged_text : ℕ → ℕ → List ℕ
disk_damaged_text number at = disk_text number (codes " is damaged at " ++ decimal at)

-- which disk has a journal that no session leaves
abbrev pub disk_foreign_text : ℕ → List ℕ
disk_foreign_text number = disk_text number (codes " is foreign")

-- the word of a reason
abbrev pub why_text : BadWhy → List ℕ
why_text Bad.Word = codes "word"
why_text Bad.Count = codes "count"
why_text Bad.Number = codes "number"
why_text Bad.Range = codes "range"
why_text Bad.Spelling = codes "spelling"
why_text Bad.Site = codes "site"
why_text Bad.Repeated = codes "repeated"
why_text Bad.Register = codes "register"
why_text Bad.Many = codes "many"
why_text Bad.Long = codes "long"
why_text Bad.Bytes = codes "bytes"
why_text Bad.Ending = codes "ending"

-- the first bad line of a text, counted from 1, with its reason
abbrev pub bad_line_text : BadLine → List ℕ
bad_line_text bad = line (codes "bad line " ++ decimal bad.line ++ codes " " ++ why_text bad.why)
