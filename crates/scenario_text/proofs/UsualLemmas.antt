-- What the first line of a text says where it is a usual command, by its bytes up to the line feed.
use Rattle.std.proofs.Common.{◌≡◌, ℕ, ◌+◌, ◌-◌, ◌^◌, ◌<◌, ◌≤◌, Bool, true, not, eqb, leb, IsTrue, List, [], ◌∷◌, ◌++◌, length, codes, Result, Ok, refl, sym, ap, ◌∙◌, append_assoc, arith}
use Rattle.std.specs.List.{list_all}
use Rattle.std.proofs.lemmas.Bool.{leb-true, le-leb, le-ltb}
use Rattle.std.proofs.lemmas.List.{length-append}
use Rattle.std.proofs.lemmas.List.Folds.{list_all-append}
use Rattle.mdb_base.specs.declared.names.SiteId.{SiteId}
use Rattle.mdb_base.specs.declared.names.Tx.{Tx}
use Rattle.mdb_base.proofs.ForCallers.{is_true_both}
use Rattle.fed_rules.specs.declared.commands.Command.{Command}
use Rattle.fed_rules.specs.declared.commands.Command.TheVariants as command
use Rattle.fed_rules.specs.declared.scenario.SiteLine.{SiteLine}
use Rattle.scenario_text.specs.declared.bad.BadWhy.{BadWhy}
use Rattle.scenario_text.specs.declared.draft.Draft.{Draft}
use Rattle.scenario_text.specs.declared.entry.Entry.{Entry}
use Rattle.scenario_text.specs.declared.entry.Entry.TheVariants as entries
use Rattle.scenario_text.specs.declared.fault.Fault.{Fault}
use Rattle.scenario_text.specs.declared.fault.Fault.TheVariants as faults
use Rattle.scenario_text.specs.CommandLines.{message_behind, tx_behind}
use Rattle.scenario_text.specs.Drafts.{with_command, with_entry}
use Rattle.scenario_text.specs.FirstLines.{BeginsWith, NamesSite, RefusesFirst, Says, TakesFirst, command_said, message_said, tx_said}
use Rattle.scenario_text.specs.Names.{is_digit, is_number, number_in, tx_of}
use Rattle.scenario_text.specs.Pieces.{line_feed, lines, only_one, only_two, space, words_of}
use Rattle.scenario_text.specs.Reads.{◌>>=◌, Fails}
use Rattle.scenario_text.specs.Texts.{entry_of, is_visible, most_bytes, whole_line, with_line}
use Rattle.scenario_text.proofs.CommandLemmas.{said_begin, said_commit, said_fate, said_give, said_go, said_step, said_take}
use Rattle.scenario_text.proofs.DecimalLemmas.{is_number_digits}
use Rattle.scenario_text.proofs.FrontLemmas.{all_weaker, in_range, no_mark, number_unmarked, number_within}
use Rattle.scenario_text.proofs.PieceLemmas.{ended_line, piece_to_end, piece_to_mark}

-- a text from its first line on, where this is the line
line_to_feed : (line rest : List ℕ) → IsTrue (list_all is_visible line) → lines (line ++ line_feed ∷ rest) ≡ record { bytes = line; ended = true } ∷ lines rest
line_to_feed line rest h =
    ended_line (line ++ line_feed ∷ rest) line rest (piece_to_mark line_feed line rest (all_weaker is_visible (λ b. not (eqb b line_feed)) (no_mark is_visible line_feed refl) line h))

digit_visible : (b : ℕ) → IsTrue (is_digit b) → IsTrue (is_visible b)
digit_visible b h = let range = in_range 48 57 b h in is_true_both _ _ (le-leb 32 b (omega arith)) (le-leb b 126 (omega arith))

number_visible : (word : List ℕ) → is_number word ≡ true → IsTrue (list_all is_visible word)
number_visible word h = all_weaker is_digit is_visible digit_visible word (is_number_digits word h)

-- ---- what stands behind a command's word

abbrev as_tx : Result ℕ BadWhy → Result Tx BadWhy
as_tx read = read >>= λ n. Ok (record { 0 = n })

pub says_tx : (n : ℕ) (text rest : List ℕ) → BeginsWith n text (line_feed ∷ rest) → 1 ≤ n → n ≤ 1024 → Says tx_said 9 (record { 0 = n }) text rest
unfolding tx_behind tx_of only_one
says_tx n text rest b low high = record {
  line = b.word;
  parts = b.parts;
  visible = number_visible b.word b.right;
  short = b.short;
  said = ap tx_behind (piece_to_end space b.word (number_unmarked space refl b.word b.right)) ∙ ap as_tx (number_within 1 1024 n b.word b.right b.value low high);
}

abbrev with_place : List ℕ → SiteId → Result (SiteId × ℕ) BadWhy
with_place word site = number_in 0 (2 ^ 32 - 1) word >>= λ place. Ok (site, place)

abbrev with_site : List ℕ → Result SiteId BadWhy → Result (SiteId × ℕ) BadWhy
with_site word read = read >>= with_place word

abbrev at_site : SiteId → Result ℕ BadWhy → Result (SiteId × ℕ) BadWhy
at_site site read = read >>= λ place. Ok (site, place)

two_words : (digit : ℕ) (word : List ℕ) → IsTrue (is_digit digit) → is_number word ≡ true → words_of (digit ∷ space ∷ word) ≡ (digit ∷ []) ∷ word ∷ []
two_words digit word right number =
    piece_to_mark space (digit ∷ []) word (is_true_both _ _ (no_mark is_digit space refl digit right) refl)
    ∙ ap (λ (more : List (List ℕ)). (digit ∷ []) ∷ more) (piece_to_end space word (number_unmarked space refl word number))

pub says_message : (sites : List SiteLine) (site : SiteId) (place : ℕ) (text behind rest : List ℕ) → NamesSite sites space site text behind → BeginsWith place behind (line_feed ∷ rest)
    → Says (message_said sites) 11 (site, place) text rest
unfolding message_behind only_one only_two
says_message sites site place text behind rest s b = record {
  line = s.digit ∷ space ∷ b.word;
  parts = s.parts ∙ ap (λ r. s.digit ∷ space ∷ r) b.parts;
  visible = is_true_both _ _ (digit_visible s.digit s.right) (number_visible b.word b.right);
  short = omega (arith, b.short);
  said =
      ap (message_behind sites) (two_words s.digit b.word s.right b.right)
      ∙ ap (with_site b.word) s.said
      ∙ ap (at_site site) (number_within 0 (2 ^ 32 - 1) place b.word b.right b.value (omega arith) (omega (arith, b.small)));
}

-- ---- commands

says_behind : {A : Type 0} (sites : List SiteLine) (word : List ℕ) (reads : List ℕ → Result A BadWhy) (of : A → Command) (most : ℕ) (x : A) (text behind rest : List ℕ)
    → ((line : List ℕ) → command_said sites (word ++ line) ≡ (reads line >>= λ y. Ok (of y))) → IsTrue (list_all is_visible word) → IsTrue (leb (length word + most) most_bytes)
    → text ≡ word ++ behind → Says reads most x behind rest → Says (command_said sites) most_bytes (of x) text rest
says_behind {A} sites word reads of most x text behind rest means visible short parts s = record {
  line = word ++ s.line;
  parts = parts ∙ ap (λ r. word ++ r) s.parts ∙ sym (append_assoc word s.line (line_feed ∷ rest));
  visible = list_all-append is_visible word s.line ∙ is_true_both _ _ visible s.visible;
  short = omega (arith, length-append word s.line, s.short, leb-true (length word + most) most_bytes short);
  said = means s.line ∙ ap (λ (r : Result A BadWhy). r >>= λ y. Ok (of y)) s.said;
}

module _ (sites : List SiteLine) (text behind rest : List ℕ) where
  pub says_take : (site : SiteId) (place : ℕ) → text ≡ codes "take " ++ behind → Says (message_said sites) 11 (site, place) behind rest → Says (command_said sites) most_bytes (command.Take site place) text rest
  says_take site place = says_behind sites (codes "take ") (message_said sites) (λ m. command.Take m.0 m.1) 11 (site, place) text behind rest (said_take sites) refl refl

  pub says_give : (site : SiteId) (place : ℕ) → text ≡ codes "give " ++ behind → Says (message_said sites) 11 (site, place) behind rest → Says (command_said sites) most_bytes (command.Give site place) text rest
  says_give site place = says_behind sites (codes "give ") (message_said sites) (λ m. command.Give m.0 m.1) 11 (site, place) text behind rest (said_give sites) refl refl

  pub says_step : (tx : Tx) → text ≡ codes "step " ++ behind → Says tx_said 9 tx behind rest → Says (command_said sites) most_bytes (command.Step tx) text rest
  says_step tx = says_behind sites (codes "step ") tx_said command.Step 9 tx text behind rest (said_step sites) refl refl

  pub says_fate : (tx : Tx) → text ≡ codes "fate " ++ behind → Says tx_said 9 tx behind rest → Says (command_said sites) most_bytes (command.Fate tx) text rest
  says_fate tx = says_behind sites (codes "fate ") tx_said command.Fate 9 tx text behind rest (said_fate sites) refl refl

  pub says_go : (tx : Tx) → text ≡ codes "go " ++ behind → Says tx_said 9 tx behind rest → Says (command_said sites) most_bytes (command.Go tx) text rest
  says_go tx = says_behind sites (codes "go ") tx_said command.Go 9 tx text behind rest (said_go sites) refl refl

  pub says_begin : (tx : Tx) → text ≡ codes "begin " ++ behind → Says tx_said 9 tx behind rest → Says (command_said sites) most_bytes (command.Begin tx) text rest
  says_begin tx = says_behind sites (codes "begin ") tx_said command.Begin 9 tx text behind rest (said_begin sites) refl refl

  pub says_commit : (tx : Tx) → text ≡ codes "commit " ++ behind → Says tx_said 9 tx behind rest → Says (command_said sites) most_bytes (command.Commit tx) text rest
  says_commit tx = says_behind sites (codes "commit ") tx_said command.Commit 9 tx text behind rest (said_commit sites) refl refl

-- ---- a usual command taken by a draft

abbrev with_commands_of : Draft → Result (List Command) BadWhy → Result Draft BadWhy
with_commands_of d read = read >>= λ commands. Ok (record d { commands = commands })

module _ (with_commands : Bool) (d : Draft) (c : Command) (text rest : List ℕ) (begun : d.in_commands ≡ true) (s : Says (command_said d.sites) most_bytes c text rest) where
  is_whole : whole_line (record { bytes = s.line; ended = true }) ≡ Ok s.line
  unfolding whole_line
  is_whole = rw (le-ltb most_bytes (length s.line) s.short, s.visible) refl

  is_command_line : entry_of with_commands d (words_of s.line) ≡ Ok (entries.Command c)
  unfolding entry_of
  is_command_line = rw (begun, s.said) refl

  by_command : with_line with_commands (record { bytes = s.line; ended = true }) d ≡ with_commands_of d (with_command c d.commands)
  unfolding with_line with_entry
  by_command =
      ap (λ (r : Result (List ℕ) BadWhy). r >>= λ bytes. entry_of with_commands d (words_of bytes) >>= λ e. with_entry e d) is_whole
      ∙ ap (λ (r : Result Entry BadWhy). r >>= λ e. with_entry e d) is_command_line

  in_front : lines text ≡ record { bytes = s.line; ended = true } ∷ lines rest
  in_front = ap lines s.parts ∙ line_to_feed s.line rest s.visible

  fails_too : (fault : Fault) → Fails fault (with_command c d.commands) → Fails fault (with_line with_commands (record { bytes = s.line; ended = true }) d)
  fails_too (faults.Bad reason) h = by_command ∙ ap (with_commands_of d) h
  fails_too faults.Memory h = tt

  pub less_behind : length rest < length text
  less_behind = omega (arith, ap length s.parts, length-append s.line (line_feed ∷ rest))

  pub command_taken : (commands : List Command) → with_command c d.commands ≡ Ok commands → TakesFirst with_commands text d (record d { commands = commands }) rest
  command_taken commands h = record { line = record { bytes = s.line; ended = true }; parts = in_front; taken = by_command ∙ ap (with_commands_of d) h }

  pub command_refused : (fault : Fault) → Fails fault (with_command c d.commands) → RefusesFirst with_commands text d fault
  command_refused fault h = record { line = record { bytes = s.line; ended = true }; behind = lines rest; parts = in_front; refused = fails_too fault h }
