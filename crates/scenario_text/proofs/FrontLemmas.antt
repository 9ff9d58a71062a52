-- What a text begins with, by its bytes: numbers, and declared sites by their digit.
use Rattle.std.proofs.Common.{◌≡◌, ℕ, ◌+◌, ◌-◌, ◌*◌, ◌^◌, ◌<◌, ◌≤◌, Bool, true, false, cond, not, eqb, leb, IsTrue, List, [], ◌∷◌, ◌++◌, length, take, drop, get_or, Result, Ok, Err, refl, sym, ap, ◌∙◌, arith}
use Rattle.std.specs.List.{list_all}
use Rattle.std.proofs.lemmas.Bool.{leb-true, le-leb, ne_eqb, not_from_false, true≢false}
use Rattle.std.proofs.lemmas.List.{take-append-drop, take_more}
use Rattle.std.proofs.lemmas.List.Folds.{list_all_more}
use Rattle.mdb_base.specs.declared.names.SiteId.{SiteId}
use Rattle.mdb_base.proofs.ForCallers.{each_of-list_all, is_true_both, is_true_parts}
use Rattle.fed_rules.specs.declared.scenario.SiteLine.{SiteLine}
use Rattle.fed_rules.specs.Plans.{is_between, is_declared}
use Rattle.scenario_text.specs.declared.bad.BadWhy.{BadWhy}
use Rattle.scenario_text.specs.declared.bad.BadWhy.TheVariants as why
use Rattle.scenario_text.specs.FirstLines.{BeginsWith, NamesSite, are_plain, most_digits}
use Rattle.scenario_text.specs.Names.{decimal, is_digit, is_number, number_in, site_number, site_of}
use Rattle.scenario_text.specs.Reads.{◌>>=◌}
use Rattle.scenario_text.proofs.DecimalLemmas.{is_number_digits}
use Rattle.scenario_text.proofs.ListLemmas.{each_of-weaker}

-- ---- bytes in a range

pub all_weaker : (p q : ℕ → Bool) → ((b : ℕ) → IsTrue (p b) → IsTrue (q b)) → (bs : List ℕ) → IsTrue (list_all p bs) → IsTrue (list_all q bs)
all_weaker p q weaker bs h = sym (each_of-list_all q bs) ∙ each_of-weaker p q weaker bs (each_of-list_all p bs ∙ h)

pub in_range : (low high b : ℕ) → IsTrue (is_between low high b) → (low ≤ b) × (b ≤ high)
in_range low high b h = let parts = is_true_parts (leb low b) (leb b high) h in (leb-true low b parts.0, leb-true b high parts.1)

-- a mark that doesn't pass a test is none of the bytes that do
pub no_mark : (test : ℕ → Bool) (mark : ℕ) → test mark ≡ false → (b : ℕ) → IsTrue (test b) → IsTrue (not (eqb b mark))
no_mark test mark out b h = not_from_false (eqb b mark) (ne_eqb b mark (λ e. true≢false (sym h ∙ ap test e ∙ out)))

pub number_unmarked : (mark : ℕ) → is_digit mark ≡ false → (word : List ℕ) → is_number word ≡ true → IsTrue (list_all (λ b. not (eqb b mark)) word)
number_unmarked mark out word h = all_weaker is_digit (λ b. not (eqb b mark)) (no_mark is_digit mark out) word (is_number_digits word h)

is_true_digit : (b : ℕ) → 48 ≤ b → b ≤ 57 → IsTrue (is_digit b)
is_true_digit b low high = is_true_both _ _ (le-leb 48 b low) (le-leb b 57 high)

-- ---- a number at the front

pub digits_more : (text : List ℕ) (i : ℕ) → i < length text → 48 ≤ get_or text i 0 → get_or text i 0 ≤ 57 → IsTrue (list_all is_digit (take i text))
    → IsTrue (list_all is_digit (take (i + 1) text))
digits_more text i here low high digits = list_all_more is_digit text i 0 here ∙ is_true_both _ _ digits (is_true_digit (get_or text i 0) low high)

decimal_push : (n : ℕ) (ds : List ℕ) (d : ℕ) → decimal n (ds ++ d ∷ []) ≡ decimal n ds * 10 + (d - 48)
unfolding decimal
decimal_push n [] d = refl
decimal_push n (e ∷ ds) d = decimal_push (n * 10 + (e - 48)) ds d

pub decimal_more : (text : List ℕ) (i n : ℕ) → i < length text → decimal 0 (take i text) ≡ n → decimal 0 (take (i + 1) text) ≡ n * 10 + (get_or text i 0 - 48)
decimal_more text i n here value =
    ap (decimal 0) (take_more text i 0 here) ∙ decimal_push 0 (take i text) (get_or text i 0) ∙ ap (λ m. m * 10 + (get_or text i 0 - 48)) value

pub decimal_none : (text : List ℕ) → decimal 0 (take 0 text) ≡ 0
unfolding decimal
decimal_none text = refl

plain_number : (word : List ℕ) → IsTrue (list_all is_digit word) → are_plain word ≡ true → (is_number word ≡ true) × (length word ≤ most_digits)
unfolding are_plain is_number
plain_number [] digits plain = absurd cc
plain_number (b ∷ []) digits plain = ((is_true_parts (is_digit b) true digits).0, omega arith)
plain_number (b ∷ c ∷ more) digits plain =
    let parts = is_true_parts (not (eqb b 48)) (leb (length (b ∷ c ∷ more)) most_digits) plain in
    (is_true_both _ _ parts.0 digits, leb-true (length (b ∷ c ∷ more)) most_digits parts.1)

pub begins_with : (text : List ℕ) (i n : ℕ) → IsTrue (list_all is_digit (take i text)) → decimal 0 (take i text) ≡ n → n < 2 ^ 32 → are_plain (take i text) ≡ true → BeginsWith n text (drop i text)
begins_with text i n digits value small plain =
    let number = plain_number (take i text) digits plain in
    record { word = take i text; parts = sym (take-append-drop i text); right = number.0; value = value; short = number.1; small = small }

pub number_ended : (mark n : ℕ) (text rest behind : List ℕ) → BeginsWith n text rest → rest ≡ mark ∷ behind → BeginsWith n text (mark ∷ behind)
number_ended mark n text rest behind b e = record { word = b.word; parts = b.parts ∙ ap (λ r. b.word ++ r) e; right = b.right; value = b.value; short = b.short; small = b.small }

-- a number in its range, by its value
pub number_within : (low high n : ℕ) (word : List ℕ) → is_number word ≡ true → decimal 0 word ≡ n → low ≤ n → n ≤ high → number_in low high word ≡ Ok n
unfolding number_in
number_within low high n word right value above below = rw (right, value, le-leb low n above, le-leb n high below) refl

-- ---- a declared site at the front

abbrev numbered : ℕ → Result SiteId BadWhy
numbered n = Ok (record { 0 = n })

abbrev if_declared : SiteId → Bool → Result SiteId BadWhy
if_declared site there = cond there (Ok site) (Err why.Site)

abbrev as_site : List SiteLine → Result ℕ BadWhy → Result SiteId BadWhy
as_site sites read = read >>= numbered >>= λ site. if_declared site (is_declared sites site)

digit_site : (sites : List SiteLine) (digit : ℕ) → 49 ≤ digit → digit ≤ 56 → is_declared sites (record { 0 = digit - 48 }) ≡ true → site_of sites (digit ∷ []) ≡ Ok (record { 0 = digit - 48 })
unfolding site_of site_number is_number decimal
digit_site sites digit low high there =
    let value : decimal 0 (digit ∷ []) ≡ digit - 48 = omega arith in
    ap (as_site sites) (number_within 1 8 (digit - 48) (digit ∷ []) (is_true_digit digit (omega arith) (omega arith)) value (omega arith) (omega arith))
    ∙ ap (if_declared (record { 0 = digit - 48 })) there

pub names_site : (sites : List SiteLine) (mark digit : ℕ) (text rest : List ℕ) → text ≡ digit ∷ mark ∷ rest → 49 ≤ digit → digit ≤ 56 → is_declared sites (record { 0 = digit - 48 }) ≡ true
    → NamesSite sites mark (record { 0 = digit - 48 }) text rest
names_site sites mark digit text rest parts low high there = record {
  digit = digit;
  parts = parts;
  right = is_true_digit digit (omega arith) (omega arith);
  said = digit_site sites digit low high there;
}
