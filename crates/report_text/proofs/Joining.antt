-- Words that are joined by spaces, and the lines of a report in a row.
use Rattle.std.proofs.Common.{◌≡◌, ℕ, List, [], ◌∷◌, ◌++◌, codes, map, Result, OnOk, append-nil, append_assoc, sym, ap, ◌∙◌}
use Rattle.std.specs.List.{join_with_byte, flat_map}
use Rattle.std.proofs.lemmas.Grind.{flat_map-append}
use Rattle.std.proofs.lemmas.List.Folds.{flat_map-map}
use Rattle.std.proofs.lemmas.Result.{on_ok_weaker}
use Rattle.fed_rules.specs.declared.report.Report.{Report}
use Rattle.report_text.specs.Spelling.{spaced, line_bytes, order_words, reads_words, outcome_words, forgotten_words, table_words, report_bytes, rest_bytes, rest_lines}

-- the first word, and each other one behind a space
pub joined_by_spaces : (word : List ℕ) (words : List (List ℕ)) → join_with_byte 32 (word ∷ words) ≡ word ++ spaced words
joined_by_spaces word [] = sym (append-nil word)
joined_by_spaces word (next ∷ more) = ap (λ rest. word ++ 32 ∷ rest) (joined_by_spaces next more)

-- a line is its first word, the others behind spaces, and a line feed
line_parts : (word : List ℕ) (words : List (List ℕ)) → line_bytes (word ∷ words) ≡ word ++ (spaced words ++ 10 ∷ [])
line_parts word words = ap (λ bytes. bytes ++ 10 ∷ []) (joined_by_spaces word words) ∙ append_assoc word (spaced words) (10 ∷ [])

-- a line that is written in three steps
pub in_three : {E : Type 0} (result : Result (Unit {0}) E) (old first others all word : List ℕ) (words : List (List ℕ)) → first ≡ old ++ word → others ≡ first ++ spaced words → OnOk result (all ≡ others ++ 10 ∷ []) → OnOk result (all ≡ old ++ line_bytes (word ∷ words))
in_three result old first others all word words e f =
    on_ok_weaker result (λ g.
    g ∙ ap (λ bytes. bytes ++ 10 ∷ []) (f ∙ ap (λ bytes. bytes ++ spaced words) e) ∙ append_assoc (old ++ word) (spaced words) (10 ∷ []) ∙ append_assoc old word (spaced words ++ 10 ∷ [])
    ∙ ap (λ bytes. old ++ bytes) (sym (line_parts word words)))

-- a line that is written in four steps
pub in_four : {E : Type 0} (result : Result (Unit {0}) E) (old first second others all word next : List ℕ) (words : List (List ℕ)) → first ≡ old ++ word → second ≡ first ++ 32 ∷ next → others ≡ second ++ spaced words → OnOk result (all ≡ others ++ 10 ∷ []) → OnOk result (all ≡ old ++ line_bytes (word ∷ next ∷ words))
in_four result old first second others all word next words e f g =
    in_three result old first others all word (next ∷ words) e (g ∙ ap (λ bytes. bytes ++ spaced words) f ∙ append_assoc first (32 ∷ next) (spaced words))

-- the bytes of lines in a row
abbrev pub lines_bytes : {A : Type 0} → (A → List (List ℕ)) → List A → List ℕ
lines_bytes words = flat_map (λ x. line_bytes (words x))

-- the bytes behind the reads, part by part
rest_parts : (report : Report) → rest_bytes report
    ≡ (lines_bytes outcome_words report.outcomes ++ (line_bytes (forgotten_words report.forgotten) ++ lines_bytes table_words report.tables)) ++ codes "end\n"
rest_parts report =
    flat_map-append line_bytes (map outcome_words report.outcomes ++ forgotten_words report.forgotten ∷ map table_words report.tables) ((codes "end" ∷ []) ∷ [])
    ∙ ap (λ bytes. bytes ++ codes "end\n")
    (flat_map-append line_bytes (map outcome_words report.outcomes) (forgotten_words report.forgotten ∷ map table_words report.tables)
    ∙ ap (λ bytes. bytes ++ flat_map line_bytes (forgotten_words report.forgotten ∷ map table_words report.tables)) (flat_map-map line_bytes outcome_words report.outcomes)
    ∙ ap (λ bytes. lines_bytes outcome_words report.outcomes ++ (line_bytes (forgotten_words report.forgotten) ++ bytes)) (flat_map-map line_bytes table_words report.tables))

-- they are written in four steps
pub in_four_parts : {E : Type 0} (result : Result (Unit {0}) E) (report : Report) (old a b c all : List ℕ) → a ≡ old ++ lines_bytes outcome_words report.outcomes
    → b ≡ a ++ line_bytes (forgotten_words report.forgotten) → c ≡ b ++ lines_bytes table_words report.tables → OnOk result (all ≡ c ++ codes "end\n") → OnOk result (all ≡ old ++ rest_bytes report)
in_four_parts result report old a b c all a1 b1 c1 =
    let outcomes = lines_bytes outcome_words report.outcomes in
    let forgotten = line_bytes (forgotten_words report.forgotten) in
    let tables = lines_bytes table_words report.tables in
    let c2 : c ≡ old ++ (outcomes ++ (forgotten ++ tables)) =
    c1 ∙ ap (λ bytes. bytes ++ tables) (b1 ∙ ap (λ bytes. bytes ++ forgotten) a1) ∙ append_assoc (old ++ outcomes) forgotten tables ∙ append_assoc old outcomes (forgotten ++ tables) in
    on_ok_weaker result (λ all1.
    all1 ∙ ap (λ bytes. bytes ++ codes "end\n") c2 ∙ append_assoc old (outcomes ++ (forgotten ++ tables)) (codes "end\n") ∙ ap (λ bytes. old ++ bytes) (sym (rest_parts report)))

-- a report's bytes, part by part
report_parts : (report : Report) → report_bytes report ≡ (line_bytes (order_words report.order) ++ lines_bytes reads_words report.reads) ++ rest_bytes report
report_parts report =
    flat_map-append line_bytes (order_words report.order ∷ map reads_words report.reads) (rest_lines report)
    ∙ ap (λ bytes. (line_bytes (order_words report.order) ++ bytes) ++ rest_bytes report) (flat_map-map line_bytes reads_words report.reads)

-- it is written in three steps
pub in_three_parts : (report : Report) (none a b all : List ℕ) → none ≡ [] → a ≡ none ++ line_bytes (order_words report.order) → b ≡ a ++ lines_bytes reads_words report.reads
    → all ≡ b ++ rest_bytes report → all ≡ report_bytes report
in_three_parts report none a b all n1 a1 b1 all1 =
    let order = line_bytes (order_words report.order) in
    all1 ∙ ap (λ bytes. bytes ++ rest_bytes report) (b1 ∙ ap (λ bytes. bytes ++ lines_bytes reads_words report.reads) (a1 ∙ ap (λ bytes. bytes ++ order) n1))
    ∙ sym (report_parts report)
