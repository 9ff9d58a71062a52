-- A text and the parts into which it is cut.
use Rattle.std.proofs.Common.{◌≡◌, ◌⊎◌, inl, inr, ℕ, Bool, true, false, cond, eqb, if◌then◌else◌, ◌==◌, Option, Some, None, List, [], ◌∷◌, ◌++◌, ◌+◌, ◌-◌, ◌<◌, length, take, length-append, append-nil, append_assoc, Bor, refl, sym, ap, ◌∙◌, arith}
use Rattle.std.proofs.Math.Seq.{take-append_seam}
use Rattle.std.proofs.lemmas.Bool.{eqb-true}
use Rattle.std.proofs.lemmas.Option.{none-some, same_Some}
use Rattle.mdb_base.specs.Words.{map_some}
use Rattle.scenario_text.proofs.ForCallers.{ended_line, last_line, pieces_cut, pieces_uncut}
use Rattle.scenario_text.specs.Pieces.{TextLine, as_lines, cut_at, lines, pieces}
use Rattle.audit_text.specs.Cuts.{IsCut}
use Rattle.audit_text.specs.Texts.{cut_printed, is_mark, text_of}

-- the parts with the mark between them are the whole
pub cut_whole : (mark : ℕ) (bs a b : List ℕ) → cut_at mark bs ≡ Some (a, b) → bs ≡ a ++ mark ∷ b
unfolding cut_at
cut_whole mark [] a b e = absurd (none-some (a, b) e)
cut_whole mark (x ∷ xs) a b e = by_test (eqb x mark) refl e (cut_whole mark xs)
  where
    by_rest : (o : Option (List ℕ × List ℕ)) → map_some {B = List ℕ × List ℕ} (λ parts. (x ∷ parts.0, parts.1)) o ≡ Some (a, b) → ((c d : List ℕ) → o ≡ Some (c, d) → xs ≡ c ++ mark ∷ d) → x ∷ xs ≡ a ++ mark ∷ b
    by_rest None f whole = absurd (none-some (a, b) f)
    by_rest (Some parts) f whole =
        let same = same_Some (x ∷ parts.0, parts.1) (a, b) f in
        ap (λ ys. x ∷ ys) (whole parts.0 parts.1 refl) ∙ (ap (λ ys. ys ++ mark ∷ parts.1) (ap (λ p. p.0) same) ∙ ap (λ ys. a ++ mark ∷ ys) (ap (λ p. p.1) same))

    by_test : (t : Bool) → eqb x mark ≡ t → (if t then Some ([], xs) else map_some {B = List ℕ × List ℕ} (λ parts. (x ∷ parts.0, parts.1)) (cut_at mark xs)) ≡ Some (a, b) → ((c d : List ℕ) → cut_at mark xs ≡ Some (c, d) → xs ≡ c ++ mark ∷ d) → x ∷ xs ≡ a ++ mark ∷ b
    by_test true q f whole =
        let same = same_Some ([], xs) (a, b) f in
        ap (λ y. y ∷ xs) (eqb-true x mark q) ∙ (ap (λ ys. ys ++ mark ∷ xs) (ap (λ p. p.0) same) ∙ ap (λ ys. a ++ mark ∷ ys) (ap (λ p. p.1) same))
    by_test false q f whole = by_rest (cut_at mark xs) f whole

pub no_lines : lines [] ≡ []
unfolding lines pieces as_lines
no_lines = refl

-- whether bytes are empty
pub something : (bytes : List ℕ) (b : Bool) → b ≡ (length bytes == 0) → b ≡ false → bytes ≡ [] → ⊥
something [] b e f g = cc
something (x ∷ xs) b e f g = cc

pub nothing : (bytes : List ℕ) (b : Bool) → b ≡ (length bytes == 0) → b ≡ true → bytes ≡ []
nothing [] b e f = refl
nothing (x ∷ xs) b e f = let h = eqb-true (length (x ∷ xs)) 0 (sym e ∙ f) in absurd (omega (arith, h))

long : (text : List ℕ) → (text ≡ [] → ⊥) → 0 < length text
long [] some = absurd (some refl)
long (x ∷ xs) some = omega arith

-- a text that isn't empty has a line
pub lines_there : (text : List ℕ) → (text ≡ [] → ⊥) → (line : TextLine) × (behind : List TextLine) × (lines text ≡ line ∷ behind)
lines_there text some = by_cut (cut_at 10 text) refl
  where
    by_cut : (o : Option (List ℕ × List ℕ)) → cut_at 10 text ≡ o → (line : TextLine) × (behind : List TextLine) × (lines text ≡ line ∷ behind)
    by_cut None e = (record { bytes = text; ended = false }, lines [], last_line text (long text some) (pieces_uncut 10 text e))
    by_cut (Some parts) e = (record { bytes = parts.0; ended = true }, lines parts.1, ended_line text parts.0 parts.1 (pieces_cut 10 text parts.0 parts.1 e))

-- how far the text was searched: these lines were passed, and none of them is `printed`; the last of them may lack its line feed, and then
-- nothing is left
pub record IsSearched (text rest : List ℕ) (count : ℕ) : Type 0 where
  pub before : List TextLine
  pub bytes : (text ≡ text_of before ++ rest) ⊎ (rest ≡ [])
  pub counted : count ≡ length before
  pub left : lines text ≡ before ++ lines rest
  pub cut : cut_printed (lines text) ≡ map_some {B = List TextLine × List TextLine} (λ parts. (before ++ parts.0, parts.1)) (cut_printed (lines rest))

map_none : (o : Option (List TextLine × List TextLine)) → o ≡ map_some {B = List TextLine × List TextLine} (λ parts. ([] ++ parts.0, parts.1)) o
map_none None = refl
map_none (Some parts) = refl

-- none yet
pub searched_none : (text : List ℕ) → IsSearched text text 0
searched_none text = record { before = []; bytes = inl refl; counted = refl; left = refl; cut = map_none (cut_printed (lines text)) }

text_of_more : (before : List TextLine) (line : TextLine) (rest : List ℕ) → text_of before ++ (line.bytes ++ 10 ∷ rest) ≡ text_of (before ++ line ∷ []) ++ rest
text_of_more [] line rest = sym (append_assoc (line.bytes ++ 10 ∷ []) [] rest ∙ append_assoc line.bytes (10 ∷ []) rest)
text_of_more (first ∷ before) line rest =
    append_assoc (first.bytes ++ 10 ∷ []) (text_of before) (line.bytes ++ 10 ∷ rest)
    ∙ (ap (λ bs. (first.bytes ++ 10 ∷ []) ++ bs) (text_of_more before line rest) ∙ sym (append_assoc (first.bytes ++ 10 ∷ []) (text_of (before ++ line ∷ [])) rest))

map_more : (before : List TextLine) (line : TextLine) (o : Option (List TextLine × List TextLine))
    → map_some {B = List TextLine × List TextLine} (λ parts. (before ++ parts.0, parts.1)) (map_some {B = List TextLine × List TextLine} (λ parts. (line ∷ parts.0, parts.1)) o) ≡ map_some {B = List TextLine × List TextLine} (λ parts. ((before ++ line ∷ []) ++ parts.0, parts.1)) o
map_more before line None = refl
map_more before line (Some parts) = ap (λ ls. Some (ls, parts.1)) (sym (append_assoc before (line ∷ []) parts.0))

-- one line more
pub searched_more : (text rest : List ℕ) (count : ℕ) (line : TextLine) (behind : List ℕ) → IsSearched text rest count → (rest ≡ [] → ⊥) → lines rest ≡ line ∷ lines behind → is_mark line ≡ false
    → (line.ended ≡ true → rest ≡ line.bytes ++ 10 ∷ behind) → (line.ended ≡ false → behind ≡ []) → IsSearched text behind (count + 1)
unfolding cut_printed
searched_more text rest count line behind so some here other whole last = record {
  before = so.before ++ line ∷ [];
  bytes = by_end line.ended refl so.bytes;
  counted = ap (λ n. n + 1) so.counted ∙ sym (length-append so.before (line ∷ []));
  left = so.left ∙ ap (λ ls. so.before ++ ls) here ∙ sym (append_assoc so.before (line ∷ []) (lines behind));
  cut =
      so.cut ∙ ap (λ ls. map_some {B = List TextLine × List TextLine} (λ parts. (so.before ++ parts.0, parts.1)) (cut_printed ls)) here
      ∙ ap (λ t. map_some {B = List TextLine × List TextLine} (λ parts. (so.before ++ parts.0, parts.1)) (cond t (Some ([], lines behind)) (map_some {B = List TextLine × List TextLine} (λ parts. (line ∷ parts.0, parts.1)) (cut_printed (lines behind))))) other
      ∙ map_more so.before line (cut_printed (lines behind));
}
  where
    by_end : (t : Bool) → line.ended ≡ t → (text ≡ text_of so.before ++ rest) ⊎ (rest ≡ []) → (text ≡ text_of (so.before ++ line ∷ []) ++ behind) ⊎ (behind ≡ [])
    by_end false q either = inr (last q)
    by_end true q (inl e) = inl (e ∙ ap (λ bs. text_of so.before ++ bs) (whole q) ∙ text_of_more so.before line behind)
    by_end true q (inr none) = absurd (some none)

-- at the line `printed` the text is cut
pub searched_found : (text rest front : List ℕ) (count : ℕ) (line : TextLine) (printed : Bor (List ℕ)) → IsSearched text rest count → (rest ≡ [] → ⊥) → lines rest ≡ line ∷ lines printed.now → is_mark line ≡ true
    → front ≡ take (length text - length rest) text → IsCut text front count (Some printed)
unfolding cut_printed
searched_found text rest front count line printed so some here mark e = (
  (so.before ++ [], lines printed.now),
  so.cut ∙ ap (λ ls. map_some {B = List TextLine × List TextLine} (λ parts. (so.before ++ parts.0, parts.1)) (cut_printed ls)) here
      ∙ ap (λ t. map_some {B = List TextLine × List TextLine} (λ parts. (so.before ++ parts.0, parts.1)) (cond t (Some ([], lines printed.now)) (map_some {B = List TextLine × List TextLine} (λ parts. (line ∷ parts.0, parts.1)) (cut_printed (lines printed.now))))) mark,
  by_bytes so.bytes,
  so.counted ∙ ap length (sym (append-nil so.before)),
  refl,
)
  where
    by_bytes : (text ≡ text_of so.before ++ rest) ⊎ (rest ≡ []) → front ≡ text_of (so.before ++ [])
    by_bytes (inr none) = absurd (some none)
    by_bytes (inl whole) =
        let size : length text - length rest ≡ length (text_of so.before) = (let long = ap length whole ∙ length-append (text_of so.before) rest in omega (arith, long)) in
        e ∙ ap (λ n. take n text) size ∙ ap (take (length (text_of so.before))) whole ∙ take-append_seam (text_of so.before) rest ∙ ap text_of (sym (append-nil so.before))

-- at the end there is none
pub searched_end : (text rest : List ℕ) (count : ℕ) → IsSearched text rest count → rest ≡ [] → IsCut text text count None
unfolding cut_printed
searched_end text rest count so none =
    let nothing : lines rest ≡ [] = ap lines none ∙ no_lines in (
      so.cut ∙ ap (λ ls. map_some {B = List TextLine × List TextLine} (λ parts. (so.before ++ parts.0, parts.1)) (cut_printed ls)) nothing,
      refl,
      so.counted ∙ ap length (sym (append-nil so.before)) ∙ ap (λ ls. length (so.before ++ ls)) (sym nothing) ∙ ap length (sym so.left),
    )
