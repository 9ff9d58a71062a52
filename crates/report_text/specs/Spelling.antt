-- How a report is spelled: the lines of its parts in their order, each a list of words with one space between each two.
use Rattle.std.specs.Prelude.{ℕ, List, [], ◌∷◌, ◌++◌, codes, decimal, map}
use Rattle.std.specs.List.{join_with_byte, flat_map}
use Rattle.mdb_base.specs.Texts.{tid_text}
use Rattle.mdb_base.specs.declared.names.Tid.{Tid}
use Rattle.mdb_base.specs.declared.rows.Put.{Put}
use Rattle.mdb_base.specs.declared.rows.SiteRows.{SiteRows}
use Rattle.presumptions.specs.declared.Decision.{Decision}
use Rattle.presumptions.specs.declared.Decision.TheVariants as Final
use Rattle.fed_rules.specs.declared.report.Outcome.{Outcome}
use Rattle.fed_rules.specs.declared.report.Report.{Report}
use Rattle.fed_rules.specs.declared.report.TxReads.{TxReads}

-- a row, as `K=V`
abbrev pub row_text : Put → List ℕ
row_text row = decimal row.key.0 ++ codes "=" ++ decimal row.value

-- the word of a decision
abbrev pub decision_text : Decision → List ℕ
decision_text Final.Commit = codes "commit"
decision_text Final.Abort = codes "abort"

-- the words of `order`: the members of the serial order
abbrev pub order_words : List Tid → List (List ℕ)
order_words order = codes "order" ∷ map tid_text order

-- the words of `reads`: what a member read, in program order
abbrev pub reads_words : TxReads → List (List ℕ)
reads_words reads = codes "reads" ∷ tid_text reads.tid ∷ map decimal reads.values

-- the words of `outcome`: how a global attempt ended
abbrev pub outcome_words : Outcome → List (List ℕ)
outcome_words outcome = codes "outcome" ∷ tid_text outcome.tid ∷ decision_text outcome.decision ∷ []

-- the words of `forgotten`: the global attempts that are forgotten
abbrev pub forgotten_words : List Tid → List (List ℕ)
forgotten_words forgotten = codes "forgotten" ∷ map tid_text forgotten

-- the words of `table`: the rows of a site
abbrev pub table_words : SiteRows → List (List ℕ)
table_words table = codes "table" ∷ decimal table.site.0 ∷ map row_text table.rows

-- the words of each line of a report that stands behind the reads: the outcomes, the forgotten ones, the tables, and `end`
abbrev pub rest_lines : Report → List (List (List ℕ))
rest_lines report =
    map outcome_words report.outcomes ++ forgotten_words report.forgotten ∷ map table_words report.tables ++ (codes "end" ∷ []) ∷ []

-- and of each line: the order and the reads of its members stand before these
abbrev pub report_lines : Report → List (List (List ℕ))
report_lines report = order_words report.order ∷ map reads_words report.reads ++ rest_lines report

-- the bytes of a line: its words with one space between each two, and a line feed
abbrev pub line_bytes : List (List ℕ) → List ℕ
line_bytes words = join_with_byte 32 words ++ 10 ∷ []

-- the bytes of the lines behind the reads
abbrev pub rest_bytes : Report → List ℕ
rest_bytes report = flat_map line_bytes (rest_lines report)

-- the bytes of a report
abbrev pub report_bytes : Report → List ℕ
report_bytes report = flat_map line_bytes (report_lines report)

-- the bytes of words, with one space before each
abbrev pub spaced : List (List ℕ) → List ℕ
spaced = flat_map (λ word. 32 ∷ word)
