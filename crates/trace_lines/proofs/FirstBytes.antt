-- Keywords by their first byte.
use Rattle.std.proofs.Common.{◌≡◌, ℕ, ◌≤◌, Bool, true, false, ◌||◌, nat_lt, is_some, List, [], ◌∷◌, Option, Some, None, get_or, refl, sym, ap, ◌∙◌, arith}
use Rattle.std.specs.Str.{bytes_eq}
use Rattle.std.proofs.lemmas.Bool.{ltb-true, false≢true}
use Rattle.std.proofs.lemmas.Slice.Eq.{bytes_eq-Decides}
use Rattle.mdb_base.proofs.ForCallers.{first_passes}
use Rattle.line_text.specs.declared.word.Keyword.{Keyword}
use Rattle.line_text.specs.declared.word.Keyword.TheVariants as Key
use Rattle.line_text.specs.Words.{keyword_text}
use Rattle.trace_lines.specs.Lexed.{Covers, spelled_in}
use Rattle.trace_lines.specs.Lexing.{Spells}

-- a keyword begins with a byte below or above these, or it is one of the group
abbrev pub is_held : ℕ → ℕ → List Keyword → Keyword → Bool
is_held low high group keyword =
    nat_lt (get_or (keyword_text keyword) 0 0) low || (nat_lt high (get_or (keyword_text keyword) 0 0) || is_some (spelled_in group (keyword_text keyword)))

-- where that holds of each keyword, the group has all that begin with a byte between
pub held : (low high first : ℕ) (group : List Keyword) → ((keyword : Keyword) → is_held low high group keyword ≡ true) → low ≤ first → first ≤ high → Covers first group
held low high first group all above below = λ keyword e.
    by_test (get_or (keyword_text keyword) 0 0) e (nat_lt (get_or (keyword_text keyword) 0 0) low) (nat_lt high (get_or (keyword_text keyword) 0 0)) (is_some (spelled_in group (keyword_text keyword))) refl refl (all keyword)
  where
    by_test : (byte : ℕ) → byte ≡ first → (a b c : Bool) → nat_lt byte low ≡ a → nat_lt high byte ≡ b → (a || (b || c)) ≡ true → c ≡ true
    by_test byte e true b c p q r = let less = ltb-true byte low p in absurd (omega (arith, less, e, above))
    by_test byte e false true c p q r = let more = ltb-true high byte q in absurd (omega (arith, more, e, below))
    by_test byte e false false c p q r = r

-- each group of the code has all that begin between its bytes
abbrev up_to_c_words : List Keyword
up_to_c_words =
    Key.Arrow ∷ Key.Committed ∷ Key.Commit ∷ Key.Begun ∷ Key.Aborted ∷ Key.Abort ∷ Key.Begin ∷ Key.Acked ∷
    Key.Again ∷ Key.Asks ∷ Key.Ask ∷ Key.Back ∷ Key.Answers ∷ Key.Checked ∷ Key.Check ∷ Key.Cycle ∷ Key.Awake ∷ []

up_to_c_holds : (keyword : Keyword) → is_held 0 99 up_to_c_words keyword ≡ true
up_to_c_holds Key.Arrow = refl
up_to_c_holds keyword = refl

pub up_to_c : (first : ℕ) → 0 ≤ first → first ≤ 99 → Covers first up_to_c_words
up_to_c first = held 0 99 first up_to_c_words up_to_c_holds

abbrev d_to_g_words : List Keyword
d_to_g_words =
    Key.Give ∷ Key.Did ∷ Key.Fate ∷ Key.Done ∷ Key.Go ∷ Key.Forgets ∷ Key.Decides ∷ Key.End ∷ Key.Dropped ∷
    Key.Drop ∷ Key.Dies ∷ Key.Down ∷ Key.Epoch ∷ Key.Doubtful ∷ Key.Defers ∷ []

d_to_g_holds : (keyword : Keyword) → is_held 100 103 d_to_g_words keyword ≡ true
d_to_g_holds Key.Arrow = refl
d_to_g_holds keyword = refl

pub d_to_g : (first : ℕ) → 100 ≤ first → first ≤ 103 → Covers first d_to_g_words
d_to_g first = held 100 103 first d_to_g_words d_to_g_holds

abbrev h_to_r_words : List Keyword
h_to_r_words =
    Key.Ignored ∷ Key.Read ∷ Key.None ∷ Key.No ∷ Key.Initiates ∷ Key.Number ∷ Key.Invalid ∷ Key.Late ∷
    Key.Running ∷ Key.Idle ∷ Key.Moved ∷ Key.Presumes ∷ Key.Kept ∷ Key.Halt ∷ Key.Known ∷ Key.Large ∷ []

h_to_r_holds : (keyword : Keyword) → is_held 104 114 h_to_r_words keyword ≡ true
h_to_r_holds Key.Arrow = refl
h_to_r_holds keyword = refl

pub h_to_r : (first : ℕ) → 104 ≤ first → first ≤ 114 → Covers first h_to_r_words
h_to_r first = held 104 114 first h_to_r_words h_to_r_holds

abbrev s_and_t_words : List Keyword
s_and_t_words =
    Key.Sends ∷ Key.Take ∷ Key.Step ∷ Key.Ticket ∷ Key.Settles ∷ Key.Site ∷ Key.Stopped ∷ Key.Trip ∷ Key.Set ∷
    Key.Spent ∷ []

s_and_t_holds : (keyword : Keyword) → is_held 115 116 s_and_t_words keyword ≡ true
s_and_t_holds Key.Arrow = refl
s_and_t_holds keyword = refl

pub s_and_t : (first : ℕ) → 115 ≤ first → first ≤ 116 → Covers first s_and_t_words
s_and_t first = held 115 116 first s_and_t_words s_and_t_holds

abbrev u_to_y_words : List Keyword
u_to_y_words =
    Key.Value ∷ Key.Wrote ∷ Key.Unknown ∷ Key.Votes ∷ Key.Unheld ∷ Key.Yes ∷ Key.Voted ∷ Key.Waits ∷
    Key.Unbegun ∷ Key.Undecided ∷ Key.Up ∷ Key.Unfinished ∷ []

u_to_y_holds : (keyword : Keyword) → is_held 117 255 u_to_y_words keyword ≡ true
u_to_y_holds Key.Arrow = refl
u_to_y_holds keyword = refl

pub u_to_y : (first : ℕ) → 117 ≤ first → first ≤ 255 → Covers first u_to_y_words
u_to_y first = held 117 255 first u_to_y_words u_to_y_holds

-- what is found in such a group is the keyword that is spelled so
pub found_in : (bytes : List ℕ) (group : List Keyword) (o : Option Keyword) → Covers (get_or bytes 0 0) group → o ≡ spelled_in group bytes → Spells (λ _. true) keyword_text bytes o
found_in bytes group None covers e = λ keyword _ spelled.
    false≢true (ap is_some (e ∙ ap (spelled_in group) spelled) ∙ covers keyword (ap (λ bs. get_or bs 0 0) (sym spelled)))
found_in bytes group (Some keyword) covers e =
    (refl, sym ((bytes_eq-Decides (keyword_text keyword) bytes).0 (first_passes (λ k. bytes_eq (keyword_text k) bytes) group keyword (sym e))))
