-- What is read of a printed line, by its bytes; and whether a line is this one of the report.
use Rattle.std.specs.Prelude.{ℕ, Bool, cond, ◌&&◌, ◌==◌, codes, Option, Some, None, List, [], ◌∷◌, ◌++◌, drop, length, take}
use Rattle.std.specs.Str.{bytes_eq}
use Rattle.mdb_base.specs.declared.names.Tid.{Tid}
use Rattle.mdb_base.specs.Words.{given}
use Rattle.scenario_text.specs.Pieces.{TextLine}
use Rattle.trace_lines.specs.Lexed.{line_in, tids_in}
use Rattle.report_text.specs.Spelling.{line_bytes, reads_words, outcome_words, forgotten_words, table_words}
use Rattle.audit_rules.specs.Agreement as agreement
use Rattle.audit_rules.specs.Agreement.{Entry, Reads, Ends, Forgets, Shows, Last, what_of}
use Rattle.audit_text.specs.declared.reading.Printed.{Printed}
use Rattle.audit_text.specs.declared.reading.Printed.TheVariants as Is
use Rattle.audit_text.specs.declared.due.DueLine.{DueLine}

-- the bytes behind these, where they begin so
unfoldable pub behind : List ℕ → List ℕ → Option (List ℕ)
behind word bytes = cond (bytes_eq (take (length word) bytes) word) (Some (drop (length word) bytes)) None

-- the attempts behind `order`, each with one space before it
abbrev pub order_behind : Option (List ℕ) → Option (List Tid)
order_behind None = None
order_behind (Some []) = Some []
order_behind (Some (b ∷ bs)) = cond (b == 32) (tids_in bs) None

unfoldable pub order_in : List ℕ → Option (List Tid)
order_in bytes = order_behind (behind (codes "order") bytes)

-- the order, or else the line of a command, or neither
abbrev pub printed_by : List ℕ → agreement.Printed
printed_by bytes = given (order_in bytes) agreement.Orders (given (line_in bytes) agreement.Says agreement.Neither)

-- what is read of a line before the report: a line without its line feed is neither
unfoldable pub printed_in : TextLine → agreement.Printed
printed_in line = cond line.ended (printed_by line.bytes) agreement.Neither

-- what was read of a line, as the agreement sees it
abbrev pub as_printed : Printed → agreement.Printed
as_printed (Is.Says line) = agreement.Says line
as_printed (Is.Orders order) = agreement.Orders order
as_printed Is.Neither = agreement.Neither

-- the words of a line of the report behind the order
abbrev pub entry_words : Entry → List (List ℕ)
entry_words (Reads reads) = reads_words reads
entry_words (Ends outcome) = outcome_words outcome
entry_words (Forgets tids) = forgotten_words tids
entry_words (Shows rows) = table_words rows
entry_words Last = codes "end" ∷ []

-- its bytes, with the line feed
abbrev pub entry_bytes : Entry → List ℕ
entry_bytes entry = line_bytes (entry_words entry)

-- whether a line has a line feed, and with it these bytes
abbrev pub has_bytes : TextLine → List ℕ → Bool
has_bytes line bytes = line.ended && bytes_eq (line.bytes ++ 10 ∷ []) bytes

-- whether the line is this one of the report
abbrev pub is_entry : TextLine → Entry → Bool
is_entry line entry = has_bytes line (entry_bytes entry)

-- a line of the report that is due, with its bytes and why another one in its place differs
abbrev pub due_line : Entry → DueLine
due_line entry = record { what = what_of entry; bytes = entry_bytes entry }
