-- What is computed of bytes is what is spelled so: the parts of a word, a word, and a line.
use Rattle.std.proofs.Common.{◌≡◌, ◌⊎◌, inl, inr, ℕ, ◌<◌, ◌^◌, Bool, true, false, cond, ◌&&◌, eqb, IsTrue, List, [], ◌∷◌, ◌++◌, map, length, get_or, Option, Some, None, option_and_then, Result, Ok, Err, IfOk, IsErrOf, decimal, refl, sym, ap, ◌∙◌, subst, arith}
use Rattle.std.specs.Char.{is_digit}
use Rattle.std.specs.List.{join_with_byte}
use Rattle.std.specs.Str.{bytes_eq}
use Rattle.std.specs.Str.Parse.{AllDigits, digits_value}
use Rattle.std.proofs.lemmas.Bool.{ltb-true, lt-ltb, eq-eqb, eqb-true, false≢true}
use Rattle.std.proofs.lemmas.Fmt.{decimal-digits_value, decimal_nonempty, digits_decimal, digits_value-decimal}
use Rattle.std.proofs.lemmas.Option.{none-some, same_Some, cond_some}
use Rattle.std.proofs.lemmas.List.Splits.{join_with_byte-slice_split}
use Rattle.std.proofs.lemmas.Slice.Eq.{bytes_eq-Decides}
use Rattle.std.proofs.lemmas.Str.Parse.{IsNumeralModel, numerals_by_value, tells_digits}
use Rattle.mdb_base.specs.Texts.{tid_text}
use Rattle.mdb_base.specs.Words.{Each, each_of, map_some}
use Rattle.mdb_base.specs.declared.names.Tid.{Tid}
use Rattle.mdb_base.specs.declared.replies.Edge.{Edge}
use Rattle.mdb_base.proofs.ForCallers.{first_passes, is_true_both, is_true_parts}
use Rattle.fed_rules.specs.declared.commands.Line.{Line}
use Rattle.fed_rules.specs.declared.commands.Place.{Place}
use Rattle.line_text.specs.declared.word.Keyword.{Keyword}
use Rattle.line_text.specs.declared.word.Word.{Word}
use Rattle.line_text.specs.declared.word.Word.TheVariants.{Plain, Number, Attempt, Sent, Joined}
use Rattle.line_text.specs.Range.{is_large, is_site, is_tid, is_place, is_edge, is_word, is_line}
use Rattle.line_text.specs.Words.{keyword_text, place_text, edge_text, word_text}
use Rattle.line_text.specs.Spelling.{line_words, line_bytes, words_bytes}
use Rattle.trace_lines.specs.Lexing.{Spells, are_large, numbers_text, pieces, site_text, is_target, target_text, are_both, pair_text}
use Rattle.trace_lines.specs.declared.error.LineErr.{LineErr}
use Rattle.trace_lines.specs.declared.error.LineErr.TheVariants as errors
use Rattle.trace_lines.specs.Reading.{Gives, Reads, line_of, tids_of}
use Rattle.trace_lines.specs.Lexed.{keywords, keyword_in, leads, is_numeral, number_in, parts_at, pair_in, tid_in, place_in, site_in, target_in, edge_in, first_of, word_in, all_in, line_in, tids_in}
use Rattle.trace_lines.proofs.Bytes.{Lacks, lacks-decimal, decimal_leads}
use Rattle.trace_lines.proofs.Pairs.{one_parting}
use Rattle.trace_lines.proofs.Guards.{from_map, from_next}
use Rattle.trace_lines.proofs.Named.{site_read, tid_read, place_read, edge_read, lacks-tid}
use Rattle.trace_lines.proofs.OneWord.{keyword_again, lacks_not, one_word}
use Rattle.trace_lines.proofs.Lines.{line_is_words, line_again}
use Rattle.trace_lines.proofs.Spelled.{line_pieces, read_spelled}

-- what is read is spelled so, and what is spelled is read again
module _ {A : Type 0} (is_a : A → Bool) (text_a : A → List ℕ) (read : List ℕ → Option A) where
  pub spelled_where : ((bs : List ℕ) (a : A) → read bs ≡ Some a → IsTrue (is_a a) × (bs ≡ text_a a)) → ((a : A) → IsTrue (is_a a) → read (text_a a) ≡ Some a) → (bs : List ℕ) → Spells is_a text_a bs (read bs)
  spelled_where found again bs = by_case (read bs) refl
    where
      by_case : (o : Option A) → read bs ≡ o → Spells is_a text_a bs o
      by_case None e = λ a is spelled. none-some a (sym e ∙ ap read spelled ∙ again a is)
      by_case (Some a) e = found bs a e

-- a keyword
keyword_spells : (bs : List ℕ) → Spells (λ _. true) keyword_text bs (keyword_in bs)
unfolding keyword_in
keyword_spells = spelled_where (λ _. true) keyword_text keyword_in
    (λ bs keyword e. (refl, sym ((bytes_eq-Decides (keyword_text keyword) bs).0 (first_passes (λ k. bytes_eq (keyword_text k) bs) keywords keyword e)))) (λ keyword h. keyword_again keyword)

-- a number
digits_are : (bs : List ℕ) → IsTrue (each_of (λ b. is_digit b 10) bs) → AllDigits 10 bs
digits_are [] h = tt
digits_are (b ∷ bs) h = let parts = is_true_parts (is_digit b 10) (each_of (λ b. is_digit b 10) bs) h in (ltb-true _ 10 parts.0, digits_are bs parts.1)

are_digits : (bs : List ℕ) → AllDigits 10 bs → IsTrue (each_of (λ b. is_digit b 10) bs)
are_digits [] h = refl
are_digits (b ∷ bs) h = is_true_both _ _ (lt-ltb _ 10 h.0) (are_digits bs h.1)

own : IsNumeralModel (AllDigits 10) (digits_value 10)
own = numerals_by_value (AllDigits 10) tells_digits

numeral_leads : (d : ℕ) (ds : List ℕ) → IsTrue (leads d ds) → d ≡ 48 → length (d ∷ ds) ≡ 1
numeral_leads d [] h e = refl
numeral_leads d (next ∷ more) h e = let above = ltb-true 48 d h in absurd (omega (arith, above, e))

numeral_again : (bs : List ℕ) → IsTrue (is_numeral bs) → digits_value 10 bs < 2 ^ 64 → decimal (digits_value 10 bs) ≡ bs
unfolding is_numeral
numeral_again [] h small = absurd (false≢true h)
numeral_again (d ∷ ds) h small =
    let parts = is_true_parts (each_of (λ b. is_digit b 10) (d ∷ ds)) (leads d ds) h in
    decimal-digits_value own (d ∷ ds) (digits_are (d ∷ ds) parts.0) (omega arith) (numeral_leads d ds parts.1) small

is_numeral_with : (bs : List ℕ) → AllDigits 10 bs → 0 < length bs → (48 < get_or bs 0 0) ⊎ (length bs ≡ 1) → IsTrue (is_numeral bs)
unfolding is_numeral
is_numeral_with [] h some lead = absurd (omega (arith, some))
is_numeral_with (d ∷ []) h some lead = is_true_both _ _ (are_digits (d ∷ []) h) refl
is_numeral_with (d ∷ next ∷ more) h some (inl above) = is_true_both _ _ (are_digits (d ∷ next ∷ more) h) (lt-ltb 48 d above)
is_numeral_with (d ∷ next ∷ more) h some (inr one) = absurd (omega (arith, one))

number_again : (n : ℕ) → IsTrue (is_large n) → number_in (decimal n) ≡ Some n
unfolding number_in
number_again n large =
    let small = ltb-true n (2 ^ 64) large in
    rw (is_numeral_with (decimal n) (digits_decimal own n small) (decimal_nonempty n small) (decimal_leads n small), digits_value-decimal own n small, large) refl

number_found : (bs : List ℕ) (n : ℕ) → number_in bs ≡ Some n → IsTrue (is_large n) × (bs ≡ decimal n)
unfolding number_in
number_found bs n e =
    let passed = cond_some (is_numeral bs && is_large (digits_value 10 bs)) (digits_value 10 bs) n e in
    let tests = is_true_parts (is_numeral bs) (is_large (digits_value 10 bs)) passed.0 in
    (subst (λ m. IsTrue (is_large m)) passed.1 tests.1, sym (numeral_again bs tests.0 (ltb-true _ (2 ^ 64) tests.1)) ∙ ap decimal passed.1)

pub number_spells : (bs : List ℕ) → Spells is_large decimal bs (number_in bs)
number_spells = spelled_where is_large decimal number_in number_found number_again

-- where the first mark stands
abbrev IsParted : ℕ → List ℕ → List ℕ × List ℕ → Type 0
IsParted c bs parts = (bs ≡ parts.0 ++ c ∷ parts.1) × Lacks c parts.0

parts_none : (c : ℕ) (bs : List ℕ) → parts_at c bs ≡ None → Lacks c bs
unfolding parts_at
parts_none c [] e = tt
parts_none c (b ∷ bs) e = by_byte (eqb b c) refl e (parts_none c bs)
  where
    no_more : (o : Option (List ℕ × List ℕ)) → map_some {B = List ℕ × List ℕ} (λ (parts : List ℕ × List ℕ). (b ∷ parts.0, parts.1)) o ≡ None → o ≡ None
    no_more None f = refl
    no_more (Some parts) f = absurd (none-some _ (sym f))

    by_byte : (same : Bool) → eqb b c ≡ same → cond {A = Option (List ℕ × List ℕ)} same (Some ([], bs)) (map_some (λ (parts : List ℕ × List ℕ). (b ∷ parts.0, parts.1)) (parts_at c bs)) ≡ None → (parts_at c bs ≡ None → Lacks c bs) → Lacks c (b ∷ bs)
    by_byte true h f others = absurd (none-some _ (sym f))
    by_byte false h f others = ((λ same. false≢true (sym h ∙ eq-eqb b c same)), others (no_more (parts_at c bs) f))

parts_found : (c : ℕ) (bs : List ℕ) (parts : List ℕ × List ℕ) → parts_at c bs ≡ Some parts → IsParted c bs parts
unfolding parts_at
parts_found c [] parts e = absurd (none-some parts e)
parts_found c (b ∷ bs) parts e = by_byte (eqb b c) refl e (parts_found c bs)
  where
    by_byte : (same : Bool) → eqb b c ≡ same → cond same (Some ([], bs)) (map_some (λ (p : List ℕ × List ℕ). (b ∷ p.0, p.1)) (parts_at c bs)) ≡ Some parts → ((p : List ℕ × List ℕ) → parts_at c bs ≡ Some p → IsParted c bs p) → IsParted c (b ∷ bs) parts
    by_byte true h f others = subst (IsParted c (b ∷ bs)) (same_Some ([], bs) parts f) (ap (λ n. n ∷ bs) (eqb-true b c h), tt)
    by_byte false h f others =
        from_map (parts_at c bs) (λ p. (b ∷ p.0, p.1)) parts (IsParted c (b ∷ bs)) f
        (λ p g. let rest = others p g in (ap (λ t. b ∷ t) rest.0, ((λ same. false≢true (sym h ∙ eq-eqb b c same)), rest.1)))

-- two things with a mark between them
module _ {A B : Type 0} (is_a : A → Bool) (text_a : A → List ℕ) (is_b : B → Bool) (text_b : B → List ℕ) (c : ℕ) (lacks : (a : A) → IsTrue (is_a a) → Lacks c (text_a a)) (first : List ℕ → Option A) (second : List ℕ → Option B) (reads_a : (bs : List ℕ) → Spells is_a text_a bs (first bs)) (reads_b : (bs : List ℕ) → Spells is_b text_b bs (second bs)) where
  pub pair_spells : (bs : List ℕ) → Spells (are_both is_a is_b) (pair_text text_a c text_b) bs (pair_in first c second bs)
  unfolding pair_in
  pair_spells bs = by_parts (parts_at c bs) refl
    where
      same_parts : (parts : List ℕ × List ℕ) → IsParted c bs parts → (pair : A × B) → IsTrue (is_a pair.0 && is_b pair.1) → bs ≡ pair_text text_a c text_b pair → (parts.0 ≡ text_a pair.0) × (parts.1 ≡ text_b pair.1)
      same_parts parts h pair is spelled =
          one_parting c parts.0 (text_a pair.0) parts.1 (text_b pair.1) h.1 (lacks pair.0 (is_true_parts (is_a pair.0) (is_b pair.1) is).0) (sym h.0 ∙ spelled)

      by_second : (parts : List ℕ × List ℕ) → IsParted c bs parts → (a : A) → Spells is_a text_a parts.0 (Some a) → (o : Option B) → Spells is_b text_b parts.1 o → Spells (are_both is_a is_b) (pair_text text_a c text_b) bs (map_some (λ b. (a, b)) o)
      by_second parts h a k None l = λ pair is spelled. l pair.1 (is_true_parts (is_a pair.0) (is_b pair.1) is).1 (same_parts parts h pair is spelled).1
      by_second parts h a k (Some b) l = (is_true_both (is_a a) (is_b b) k.0 l.0, h.0 ∙ ap (λ t. t ++ c ∷ parts.1) k.1 ∙ ap (λ t. text_a a ++ c ∷ t) l.1)

      by_first : (parts : List ℕ × List ℕ) → IsParted c bs parts → (o : Option A) → Spells is_a text_a parts.0 o → Spells (are_both is_a is_b) (pair_text text_a c text_b) bs (option_and_then (λ a. map_some (λ b. (a, b)) (second parts.1)) o)
      by_first parts h None k = λ pair is spelled. k pair.0 (is_true_parts (is_a pair.0) (is_b pair.1) is).0 (same_parts parts h pair is spelled).0
      by_first parts h (Some a) k = by_second parts h a k (second parts.1) (reads_b parts.1)

      by_parts : (o : Option (List ℕ × List ℕ)) → parts_at c bs ≡ o → Spells (are_both is_a is_b) (pair_text text_a c text_b) bs (option_and_then (λ parts. option_and_then (λ a. map_some (λ b. (a, b)) (second parts.1)) (first parts.0)) o)
      by_parts None e = λ pair is spelled. lacks_not c bs (text_a pair.0) (text_b pair.1) (parts_none c bs e) spelled
      by_parts (Some parts) e = by_first parts (parts_found c bs parts e) (first parts.0) (reads_a parts.0)

pub numbers_spell : (mark : ℕ) → mark < 48 → (bs : List ℕ) → Spells are_large (numbers_text mark) bs (pair_in number_in mark number_in bs)
numbers_spell mark below = pair_spells is_large decimal is_large decimal mark (λ n large. lacks-decimal mark n (inl below) (ltb-true n (2 ^ 64) large)) number_in number_in number_spells number_spells

-- an attempt, a place, a site and an edge
pub tid_spells : (bs : List ℕ) → Spells is_tid tid_text bs (tid_in bs)
unfolding tid_in
tid_spells bs = tid_read bs (pair_in number_in 46 number_in bs) (numbers_spell 46 (omega arith) bs)

place_spells : (bs : List ℕ) → Spells is_place place_text bs (place_in bs)
unfolding place_in
place_spells bs = place_read bs (pair_in number_in 47 number_in bs) (numbers_spell 47 (omega arith) bs)

site_spells : (bs : List ℕ) → Spells is_site site_text bs (site_in bs)
unfolding site_in
site_spells bs = site_read bs (number_in bs) (number_spells bs)

target_spells : (bs : List ℕ) → Spells is_target target_text bs (target_in bs)
unfolding target_in
target_spells = pair_spells is_tid tid_text is_site site_text 64 (lacks-tid 64 (omega arith)) tid_in site_in tid_spells site_spells

edge_spells : (bs : List ℕ) → Spells is_edge edge_text bs (edge_in bs)
unfolding edge_in
edge_spells bs = edge_read bs (pair_in tid_in 62 target_in bs) (pair_spells is_tid tid_text is_target target_text 62 (lacks-tid 62 (omega arith)) tid_in target_in tid_spells target_spells bs)

-- a word
first_spells : (bs : List ℕ) (k : Option Keyword) (n : Option ℕ) (t : Option Tid) (p : Option Place) (e : Option Edge) → Spells (λ _. true) keyword_text bs k → Spells is_large decimal bs n → Spells is_tid tid_text bs t → Spells is_place place_text bs p → Spells is_edge edge_text bs e
    → Spells is_word word_text bs (first_of k n t p e)
first_spells bs (Some keyword) n t p e hk hn ht hp he = hk
first_spells bs None (Some number) t p e hk hn ht hp he = hn
first_spells bs None None (Some tid) p e hk hn ht hp he = ht
first_spells bs None None None (Some sent) e hk hn ht hp he = hp
first_spells bs None None None None (Some edge) hk hn ht hp he = he
first_spells bs None None None None None hk hn ht hp he = none_is
  where
    none_is : (word : Word) → IsTrue (is_word word) → bs ≡ word_text word → ⊥
    none_is (Plain keyword) = hk keyword
    none_is (Number number) = hn number
    none_is (Attempt tid) = ht tid
    none_is (Sent sent) = hp sent
    none_is (Joined edge) = he edge

word_spells : (bs : List ℕ) → Spells is_word word_text bs (word_in bs)
unfolding word_in
word_spells bs = first_spells bs (keyword_in bs) (number_in bs) (tid_in bs) (place_in bs) (edge_in bs) (keyword_spells bs) (number_spells bs) (tid_spells bs) (place_spells bs) (edge_spells bs)

word_again : (word : Word) → IsTrue (is_word word) → word_in (word_text word) ≡ Some word
word_again word is = by_case (word_in (word_text word)) (word_spells (word_text word))
  where
    by_case : (o : Option Word) → Spells is_word word_text (word_text word) o → o ≡ Some word
    by_case None h = absurd (h word is refl)
    by_case (Some other) h = ap Some (one_word other word h.0 is (sym h.1))

-- pieces, each of which is read
module _ {A : Type 0} (is_a : A → Bool) (text_a : A → List ℕ) (read : List ℕ → Option A) (reads : (bs : List ℕ) → Spells is_a text_a bs (read bs)) where
  pub all_found : (pieces : List (List ℕ)) (xs : List A) → all_in read pieces ≡ Some xs → Each (λ x. IsTrue (is_a x)) xs × (map text_a xs ≡ pieces)
  unfolding all_in
  all_found [] xs e = subst (λ ys. Each (λ x. IsTrue (is_a x)) ys × (map text_a ys ≡ [])) (same_Some [] xs e) (tt, refl)
  all_found (piece ∷ more) xs e = by_piece (read piece) (reads piece) e (all_found more)
    where
      by_piece : (o : Option A) → Spells is_a text_a piece o → option_and_then (λ one. map_some (λ rest. one ∷ rest) (all_in read more)) o ≡ Some xs → ((ys : List A) → all_in read more ≡ Some ys → Each (λ x. IsTrue (is_a x)) ys × (map text_a ys ≡ more)) → Each (λ x. IsTrue (is_a x)) xs × (map text_a xs ≡ piece ∷ more)
      by_piece None h f others = absurd (none-some xs f)
      by_piece (Some one) h f others =
          from_map (all_in read more) (λ rest. one ∷ rest) xs (λ ys. Each (λ x. IsTrue (is_a x)) ys × (map text_a ys ≡ piece ∷ more)) f
          (λ ys g. let rest = others ys g in ((h.0, rest.0), ap (λ ts. text_a one ∷ ts) rest.1 ∙ ap (λ t. t ∷ more) (sym h.1)))

  pub all_again : ((x : A) → IsTrue (is_a x) → read (text_a x) ≡ Some x) → (xs : List A) → Each (λ x. IsTrue (is_a x)) xs → all_in read (map text_a xs) ≡ Some xs
  unfolding all_in
  all_again again [] h = refl
  all_again again (x ∷ xs) h = rw (again x h.0, all_again again xs h.1) refl

-- a line
pub line_in_found : (line : Line) (bytes : List ℕ) → line_in bytes ≡ Some line → IsTrue (is_line line) × (bytes ≡ line_bytes line)
unfolding line_in
line_in_found line bytes e =
    from_next (all_in word_in (pieces bytes)) line_of line _ e (λ words g h. let found = all_found is_word word_text word_in word_spells (pieces bytes) words g in read_spelled words bytes line found.0 found.1 h)

pub line_in_again : (line : Line) (bytes : List ℕ) → IsTrue (is_line line) → bytes ≡ line_bytes line → line_in bytes ≡ Some line
unfolding line_in
line_in_again line bytes is spelled =
    rw (spelled, line_pieces line is, all_again is_word word_text word_in word_spells word_again (line_words line) (line_is_words line is)) (line_again line is)

-- what is read where just a line's bytes are read as the line
pub gives_line_in : (result : Result Line LineErr) (bytes : List ℕ) → IfOk result (λ line. IsTrue (is_line line) × (bytes ≡ line_bytes line)) → (IsErrOf result errors.NoLine → (line : Line) → IsTrue (is_line line) → bytes ≡ line_bytes line → ⊥) → Gives result (line_in bytes)
gives_line_in (Ok line) bytes found none = line_in_again line bytes found.0 found.1
gives_line_in (Err errors.NoLine) bytes found none = by_case (line_in bytes) refl
  where
    by_case : (o : Option Line) → line_in bytes ≡ o → o ≡ None
    by_case None e = refl
    by_case (Some line) e = let spelled = line_in_found line bytes e in absurd (none refl line spelled.0 spelled.1)
gives_line_in (Err errors.Memory) bytes found none = tt

-- words whose texts are the pieces are the words that are read
pub words_again : (words : List Word) (bytes : List ℕ) → Each (λ word. IsTrue (is_word word)) words → map word_text words ≡ pieces bytes → all_in word_in (pieces bytes) ≡ Some words
words_again words bytes h e = subst (λ ps. all_in word_in ps ≡ Some words) e (all_again is_word word_text word_in word_spells word_again words h)

-- the attempts are those of such words
pub tids_in_words : (words : List Word) (bytes : List ℕ) → Each (λ word. IsTrue (is_word word)) words → map word_text words ≡ pieces bytes → tids_in bytes ≡ tids_of words
unfolding tids_in
tids_in_words words bytes h e = ap (option_and_then tids_of) (words_again words bytes h e)

-- where the pieces aren't the texts of words, there are none
pub no_tids_in : (bytes : List ℕ) → ((words : List Word) → Each (λ word. IsTrue (is_word word)) words → map word_text words ≡ pieces bytes → ⊥) → tids_in bytes ≡ None
unfolding tids_in
no_tids_in bytes none = by_case (all_in word_in (pieces bytes)) refl
  where
    by_case : (o : Option (List Word)) → all_in word_in (pieces bytes) ≡ o → option_and_then tids_of o ≡ None
    by_case None e = refl
    by_case (Some words) e = let found = all_found is_word word_text word_in word_spells (pieces bytes) words e in absurd (none words found.0 found.1)

-- words whose texts are the pieces of bytes make these bytes
pub words_are_bytes : (words : List Word) (bytes : List ℕ) → map word_text words ≡ pieces bytes → words_bytes words ≡ bytes
words_are_bytes words bytes e = ap (join_with_byte 32) e ∙ join_with_byte-slice_split 32 bytes

-- what is read where just the pieces of words are read
pub reads_tids_in : {X : Type 0} (view : X → List Tid) (result : Result X LineErr) (bytes : List ℕ) → IfOk result (λ x. tids_in bytes ≡ Some (view x)) → (IsErrOf result errors.NoLine → (words : List Word) → Each (λ word. IsTrue (is_word word)) words → map word_text words ≡ pieces bytes → ⊥) → Reads view result (tids_in bytes)
reads_tids_in view (Ok x) bytes found none = found
reads_tids_in view (Err errors.NoLine) bytes found none = no_tids_in bytes (none refl)
reads_tids_in view (Err errors.Memory) bytes found none = tt
