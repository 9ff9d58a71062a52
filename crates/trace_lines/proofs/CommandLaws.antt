-- A command and its words.
use Rattle.std.proofs.Common.{◌≡◌, ℕ, ◌&&◌, IsTrue, List, [], ◌∷◌, ◌++◌, Some, option_and_then, nat_le, refl, subst}
use Rattle.std.proofs.lemmas.Option.{none-some, same_Some}
use Rattle.mdb_base.specs.Words.{map_some}
use Rattle.mdb_base.specs.declared.names.Tid.{Tid}
use Rattle.mdb_base.proofs.ForCallers.{is_true_both, is_true_parts}
use Rattle.fed_rules.specs.declared.commands.Command.{Command}
use Rattle.fed_rules.specs.declared.commands.Command.TheVariants as Ask
use Rattle.line_text.specs.declared.word.Keyword.{Keyword}
use Rattle.line_text.specs.declared.word.Keyword.TheVariants as Key
use Rattle.trace_lines.specs.declared.marks.Mark.TheVariants as Mark
use Rattle.line_text.specs.declared.word.Word.{Word}
use Rattle.line_text.specs.declared.word.Word.TheVariants.{Plain, Number, Attempt}
use Rattle.line_text.specs.Range.{is_small, is_site, is_tx, is_tid, is_actor, is_count, is_cut, command_in_range}
use Rattle.line_text.specs.Spelling.{command_words}
use Rattle.trace_lines.specs.Reading.{command_of, number_command, attempt_command, pair_command, site_command, triple_command, small_of, at_most, cut_at}
use Rattle.trace_lines.proofs.Pieces.{AreWords}
use Rattle.trace_lines.proofs.Guards.{from_guard, from_bind, tx_large, site_large, small_large, actor_large, count_large, cut_large}

-- the words of a command are read as it
pub command_again : (command : Command) → IsTrue (command_in_range command) → command_of (command_words command) ≡ Some command
command_again (Ask.Begin tx) h = rw h refl
command_again (Ask.Step tx) h = rw h refl
command_again (Ask.Commit tx) h = rw h refl
command_again (Ask.Abort tx) h = rw h refl
command_again (Ask.Fate tx) h = rw h refl
command_again (Ask.Go tx) h = rw h refl
command_again (Ask.Again tid) h = refl
command_again (Ask.Late tid) h = refl
command_again (Ask.Give site place) h = let t = is_true_parts (is_site site) (is_small place) h in rw (t.0, t.1) refl
command_again (Ask.Take site place) h = let t = is_true_parts (is_site site) (is_small place) h in rw (t.0, t.1) refl
command_again (Ask.Ask site tid) h = let t = is_true_parts (is_site site) (is_tid tid) h in rw t.0 refl
command_again (Ask.Drop site tid) h = let t = is_true_parts (is_site site) (is_tid tid) h in rw t.0 refl
command_again (Ask.Halt actor cut) h = let t = is_true_parts (is_actor actor) (is_cut cut) h in rw (t.0, t.1) refl
command_again (Ask.Trip actor calls cut) h =
    let t = is_true_parts (is_actor actor && is_count calls) (is_cut cut) h in
    let s = is_true_parts (is_actor actor) (is_count calls) t.0 in
    rw (s.0, s.1, t.1) refl
command_again (Ask.Back actor) h = rw h refl
command_again (Ask.Check actor) h = rw h refl

-- the arrow behind the words of a command is the first one
pub command_cut : (command : Command) (words : List Word) → cut_at Mark.Arrow (command_words command ++ Plain Key.Arrow ∷ words) ≡ Some (command_words command, words)
command_cut (Ask.Begin tx) words = refl
command_cut command words = refl

-- the numbers of a command are below 2 ^ 64
pub command_is_words : (command : Command) → IsTrue (command_in_range command) → AreWords (command_words command)
command_is_words (Ask.Begin tx) h = (refl, (tx_large tx h, tt))
command_is_words (Ask.Step tx) h = (refl, (tx_large tx h, tt))
command_is_words (Ask.Commit tx) h = (refl, (tx_large tx h, tt))
command_is_words (Ask.Abort tx) h = (refl, (tx_large tx h, tt))
command_is_words (Ask.Fate tx) h = (refl, (tx_large tx h, tt))
command_is_words (Ask.Go tx) h = (refl, (tx_large tx h, tt))
command_is_words (Ask.Again tid) h = (refl, (h, tt))
command_is_words (Ask.Late tid) h = (refl, (h, tt))
command_is_words (Ask.Give site place) h = let t = is_true_parts (is_site site) (is_small place) h in (refl, (site_large site t.0, (small_large place t.1, tt)))
command_is_words (Ask.Take site place) h = let t = is_true_parts (is_site site) (is_small place) h in (refl, (site_large site t.0, (small_large place t.1, tt)))
command_is_words (Ask.Ask site tid) h = let t = is_true_parts (is_site site) (is_tid tid) h in (refl, (site_large site t.0, (t.1, tt)))
command_is_words (Ask.Drop site tid) h = let t = is_true_parts (is_site site) (is_tid tid) h in (refl, (site_large site t.0, (t.1, tt)))
command_is_words (Ask.Halt actor cut) h = let t = is_true_parts (is_actor actor) (is_cut cut) h in (refl, (actor_large actor t.0, (cut_large cut t.1, tt)))
command_is_words (Ask.Trip actor calls cut) h =
    let t = is_true_parts (is_actor actor && is_count calls) (is_cut cut) h in
    let s = is_true_parts (is_actor actor) (is_count calls) t.0 in
    (refl, (actor_large actor s.0, (count_large calls s.1, (cut_large cut t.1, tt))))
command_is_words (Ask.Back actor) h = (refl, (actor_large actor h, tt))
command_is_words (Ask.Check actor) h = (refl, (actor_large actor h, tt))

-- the command is spelled by these words, and its numbers are in range
abbrev pub IsCommandOf : List Word → Command → Type 0
IsCommandOf words command = (words ≡ command_words command) × IsTrue (command_in_range command)

number_found : (keyword : Keyword) (n : ℕ) (command : Command) → number_command keyword n ≡ Some command → IsCommandOf (Plain keyword ∷ Number n ∷ []) command
number_found Key.Begin n command e = from_guard (is_tx (record { 0 = n })) (record { 0 = n }) Ask.Begin command (IsCommandOf _) e (λ h. (refl, h))
number_found Key.Step n command e = from_guard (is_tx (record { 0 = n })) (record { 0 = n }) Ask.Step command (IsCommandOf _) e (λ h. (refl, h))
number_found Key.Commit n command e = from_guard (is_tx (record { 0 = n })) (record { 0 = n }) Ask.Commit command (IsCommandOf _) e (λ h. (refl, h))
number_found Key.Abort n command e = from_guard (is_tx (record { 0 = n })) (record { 0 = n }) Ask.Abort command (IsCommandOf _) e (λ h. (refl, h))
number_found Key.Fate n command e = from_guard (is_tx (record { 0 = n })) (record { 0 = n }) Ask.Fate command (IsCommandOf _) e (λ h. (refl, h))
number_found Key.Go n command e = from_guard (is_tx (record { 0 = n })) (record { 0 = n }) Ask.Go command (IsCommandOf _) e (λ h. (refl, h))
number_found Key.Back n command e = from_guard (nat_le n 8) n Ask.Back command (IsCommandOf _) e (λ h. (refl, h))
number_found Key.Check n command e = from_guard (nat_le n 8) n Ask.Check command (IsCommandOf _) e (λ h. (refl, h))
number_found keyword n command e = absurd (none-some command e)

attempt_found : (keyword : Keyword) (tid : Tid) (command : Command) → IsTrue (is_tid tid) → attempt_command keyword tid ≡ Some command → IsCommandOf (Plain keyword ∷ Attempt tid ∷ []) command
attempt_found Key.Again tid command h e = subst (IsCommandOf _) (same_Some _ command e) (refl, h)
attempt_found Key.Late tid command h e = subst (IsCommandOf _) (same_Some _ command e) (refl, h)
attempt_found keyword tid command h e = absurd (none-some command e)

pair_found : (keyword : Keyword) (m n : ℕ) (command : Command) → pair_command keyword m n ≡ Some command → IsCommandOf (Plain keyword ∷ Number m ∷ Number n ∷ []) command
pair_found Key.Give m n command e =
    from_bind (is_site (record { 0 = m })) (record { 0 = m }) (λ site. map_some (Ask.Give site) (small_of n)) command (IsCommandOf _) e
    (λ h d. from_guard (is_small n) n (Ask.Give (record { 0 = m })) command (IsCommandOf _) d (λ k. (refl, is_true_both _ _ h k)))
pair_found Key.Take m n command e =
    from_bind (is_site (record { 0 = m })) (record { 0 = m }) (λ site. map_some (Ask.Take site) (small_of n)) command (IsCommandOf _) e
    (λ h d. from_guard (is_small n) n (Ask.Take (record { 0 = m })) command (IsCommandOf _) d (λ k. (refl, is_true_both _ _ h k)))
pair_found Key.Halt m n command e =
    from_bind (is_actor m) m (λ actor. map_some (Ask.Halt actor) (at_most 65535 n)) command (IsCommandOf _) e
    (λ h d. from_guard (is_cut n) n (Ask.Halt m) command (IsCommandOf _) d (λ k. (refl, is_true_both _ _ h k)))
pair_found keyword m n command e = absurd (none-some command e)

site_found : (keyword : Keyword) (s : ℕ) (tid : Tid) (command : Command) → IsTrue (is_tid tid) → site_command keyword s tid ≡ Some command → IsCommandOf (Plain keyword ∷ Number s ∷ Attempt tid ∷ []) command
site_found Key.Ask s tid command h e = from_guard (is_site (record { 0 = s })) (record { 0 = s }) (λ site. Ask.Ask site tid) command (IsCommandOf _) e (λ k. (refl, is_true_both _ _ k h))
site_found Key.Drop s tid command h e = from_guard (is_site (record { 0 = s })) (record { 0 = s }) (λ site. Ask.Drop site tid) command (IsCommandOf _) e (λ k. (refl, is_true_both _ _ k h))
site_found keyword s tid command h e = absurd (none-some command e)

triple_found : (keyword : Keyword) (a c n : ℕ) (command : Command) → triple_command keyword a c n ≡ Some command → IsCommandOf (Plain keyword ∷ Number a ∷ Number c ∷ Number n ∷ []) command
triple_found Key.Trip a c n command e =
    from_bind (is_actor a) a (λ actor. option_and_then (λ calls. map_some (Ask.Trip actor calls) (at_most 65535 n)) (at_most 1000 c)) command (IsCommandOf _) e
    (λ h d. from_bind (is_count c) c (λ calls. map_some (Ask.Trip a calls) (at_most 65535 n)) command (IsCommandOf _) d
    (λ i f. from_guard (is_cut n) n (Ask.Trip a c) command (IsCommandOf _) f (λ k. (refl, is_true_both _ _ (is_true_both _ _ h i) k))))
triple_found keyword a c n command e = absurd (none-some command e)

-- what is read as a command is spelled by these words
pub command_found : (words : List Word) (command : Command) → AreWords words → command_of words ≡ Some command → IsCommandOf words command
command_found (Plain keyword ∷ Number n ∷ []) command h e = number_found keyword n command e
command_found (Plain keyword ∷ Attempt tid ∷ []) command h e = attempt_found keyword tid command h.1.0 e
command_found (Plain keyword ∷ Number a ∷ Number n ∷ []) command h e = pair_found keyword a n command e
command_found (Plain keyword ∷ Number s ∷ Attempt tid ∷ []) command h e = site_found keyword s tid command h.1.1.0 e
command_found (Plain keyword ∷ Number a ∷ Number c ∷ Number n ∷ []) command h e = triple_found keyword a c n command e
command_found words command h e = absurd (none-some command e)
