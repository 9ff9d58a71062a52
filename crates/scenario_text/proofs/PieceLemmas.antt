-- Cutting at the first mark, by its place, and what it says of the pieces.
use Rattle.std.proofs.Common.{◌≡◌, ℕ, suc, ◌+◌, ◌<◌, Bool, true, false, cond, not, IsTrue, List, [], ◌∷◌, ◌++◌, take, drop, length, Option, Some, None, refl, ap, ◌∙◌, add-one, arith, eqb, ltb, eq-eqb}
use Rattle.std.specs.Prelude.{position}
use Rattle.std.specs.List.{list_all, onto_first}
use Rattle.std.proofs.Math.Numerals.{one-add}
use Prim.Native.Nat.compare.{suc-suc}
use Rattle.mdb_base.specs.Words.{map_some}
use Rattle.mdb_base.proofs.ForCallers.{is_true_parts, not_true}
use Rattle.scenario_text.specs.Pieces.{cut_at, pieces, only_one, first_and_more, as_lines, lines, line_feed}

abbrev Parts : Type 0
Parts = List ℕ × List ℕ

abbrev at_place : List ℕ → ℕ → Parts
at_place bs i = (take i bs, drop (suc i) bs)

abbrev behind : ℕ → Parts → Parts
behind b parts = (b ∷ parts.0, parts.1)

by_place : (t : Bool) (b : ℕ) (bs : List ℕ) (n : ℕ) → cond t (Some ([], bs)) (map_some (behind b) (map_some (at_place bs) (cond (ltb n (length bs)) (Some n) None)))
    ≡ map_some (at_place (b ∷ bs)) (cond (ltb (cond (not t) (1 + n) 0) (length (b ∷ bs))) (Some (cond (not t) (1 + n) 0)) None)
by_place true b bs n = let first : ltb 0 (length (b ∷ bs)) ≡ true = grind arith in rw first refl
by_place false b bs n = rw (one-add, suc-suc) (elim (ltb n (length bs)) as (λ u. map_some (behind b) (map_some (at_place bs) (cond u (Some n) None)) ≡ map_some (at_place (b ∷ bs)) (cond u (Some (suc n)) None)) [ true ↦ refl | false ↦ refl ])

-- the cut is at the first place at which the mark stands
pub cut_at-position : (mark : ℕ) (bs : List ℕ) → cut_at mark bs ≡ map_some (at_place bs) (position (λ b. eqb b mark) bs)
unfolding cut_at
cut_at-position mark [] = refl
cut_at-position mark (b ∷ bs) = rw (cut_at-position mark bs) (by_place (eqb b mark) b bs _)

onto_first_some : (t : Bool) (a : List ℕ) (b : ℕ) (ps : List (List ℕ)) → only_one (a ∷ cond t ([] ∷ ps) (onto_first b ps)) ≡ None
unfolding only_one
onto_first_some true a b ps = refl
onto_first_some false a b [] = refl
onto_first_some false a b (p ∷ ps) = refl

-- there is always a piece
pub only_one_of_two : (mark : ℕ) (a bs : List ℕ) → only_one (a ∷ pieces mark bs) ≡ None
unfolding only_one pieces
only_one_of_two mark a [] = refl
only_one_of_two mark a (b ∷ bs) = onto_first_some (eqb b mark) a b (pieces mark bs)

-- the pieces, by the first cut
abbrev pub pieces_by_cut : ℕ → List ℕ → Option Parts → List (List ℕ)
pieces_by_cut mark bs None = bs ∷ []
pieces_by_cut mark bs (Some parts) = parts.0 ∷ pieces mark parts.1

pieces_step : (t : Bool) (mark b : ℕ) (bs : List ℕ) (found : Option Parts) → cond t ([] ∷ pieces mark bs) (onto_first b (pieces_by_cut mark bs found)) ≡ pieces_by_cut mark (b ∷ bs) (cond t (Some ([], bs)) (map_some (behind b) found))
pieces_step true mark b bs found = refl
pieces_step false mark b bs None = refl
pieces_step false mark b bs (Some parts) = refl

pub pieces-cut_at : (mark : ℕ) (bs : List ℕ) → pieces mark bs ≡ pieces_by_cut mark bs (cut_at mark bs)
unfolding pieces cut_at
pieces-cut_at mark [] = refl
pieces-cut_at mark (b ∷ bs) =
    ap (λ ps. cond (eqb b mark) ([] ∷ pieces mark bs) (onto_first b ps)) (pieces-cut_at mark bs) ∙ pieces_step (eqb b mark) mark b bs (cut_at mark bs)

pub pieces_uncut : (mark : ℕ) (bs : List ℕ) → cut_at mark bs ≡ None → pieces mark bs ≡ bs ∷ []
pieces_uncut mark bs h = pieces-cut_at mark bs ∙ ap (pieces_by_cut mark bs) h

pub pieces_cut : (mark : ℕ) (bs front rest : List ℕ) → cut_at mark bs ≡ Some (front, rest) → pieces mark bs ≡ front ∷ pieces mark rest
pieces_cut mark bs front rest h = pieces-cut_at mark bs ∙ ap (pieces_by_cut mark bs) h

pub cut_by_place : (mark i : ℕ) (bs : List ℕ) → position (λ b. eqb b mark) bs ≡ Some i → cut_at mark bs ≡ Some (take i bs, drop (i + 1) bs)
cut_by_place mark i bs h = rw add-one (cut_at-position mark bs ∙ ap (map_some (at_place bs)) h)

pub uncut_by_place : (mark : ℕ) (bs : List ℕ) → position (λ b. eqb b mark) bs ≡ None → cut_at mark bs ≡ None
uncut_by_place mark bs h = cut_at-position mark bs ∙ ap (map_some (at_place bs)) h

more_step : (t : Bool) (a : List ℕ) (b : ℕ) (ps : List (List ℕ)) → first_and_more (a ∷ cond t ([] ∷ ps) (onto_first b ps)) ≡ Some (a, cond t ([] ∷ ps) (onto_first b ps))
unfolding first_and_more
more_step true a b ps = refl
more_step false a b [] = refl
more_step false a b (p ∷ ps) = refl

-- behind a cut there is more
pub more_behind : (mark : ℕ) (a bs : List ℕ) → first_and_more (a ∷ pieces mark bs) ≡ Some (a, pieces mark bs)
unfolding first_and_more pieces
more_behind mark a [] = refl
more_behind mark a (b ∷ bs) = more_step (eqb b mark) a b (pieces mark bs)

pub more_by_cut : (mark : ℕ) (bs front rest : List ℕ) → cut_at mark bs ≡ Some (front, rest) → first_and_more (pieces mark bs) ≡ Some (front, pieces mark rest)
more_by_cut mark bs front rest h = ap first_and_more (pieces_cut mark bs front rest h) ∙ more_behind mark front rest

pub none_by_cut : (mark : ℕ) (bs : List ℕ) → cut_at mark bs ≡ None → first_and_more (pieces mark bs) ≡ None
unfolding first_and_more
none_by_cut mark bs h = ap first_and_more (pieces_uncut mark bs h)

-- bytes without a mark are one piece, up to a mark and up to the end
pub piece_to_mark : (mark : ℕ) (piece rest : List ℕ) → IsTrue (list_all (λ b. not (eqb b mark)) piece) → pieces mark (piece ++ mark ∷ rest) ≡ piece ∷ pieces mark rest
unfolding pieces
piece_to_mark mark [] rest h = ap (λ t. cond t ([] ∷ pieces mark rest) (onto_first mark (pieces mark rest))) (eq-eqb mark mark refl)
piece_to_mark mark (b ∷ piece) rest h =
    let parts = is_true_parts (not (eqb b mark)) (list_all (λ b. not (eqb b mark)) piece) h in
    let more = pieces mark (piece ++ mark ∷ rest) in
    ap (λ t. cond t ([] ∷ more) (onto_first b more)) (not_true (eqb b mark) parts.0) ∙ ap (onto_first b) (piece_to_mark mark piece rest parts.1)

pub piece_to_end : (mark : ℕ) (piece : List ℕ) → IsTrue (list_all (λ b. not (eqb b mark)) piece) → pieces mark piece ≡ piece ∷ []
unfolding pieces
piece_to_end mark [] h = refl
piece_to_end mark (b ∷ piece) h =
    let parts = is_true_parts (not (eqb b mark)) (list_all (λ b. not (eqb b mark)) piece) h in
    ap (λ t. cond t ([] ∷ pieces mark piece) (onto_first b (pieces mark piece))) (not_true (eqb b mark) parts.0) ∙ ap (onto_first b) (piece_to_end mark piece parts.1)

-- what the code uses to cut at a mark
pub ruleset cuts = (cut_by_place, uncut_by_place, pieces_cut, pieces_uncut, more_by_cut, none_by_cut)

-- ---- lines

as_line : (b : ℕ) (bs : List ℕ) → as_lines ((b ∷ bs) ∷ []) ≡ record { bytes = b ∷ bs; ended = false } ∷ []
unfolding as_lines
as_line b bs = refl

line_and_more : (t : Bool) (front : List ℕ) (b : ℕ) (ps : List (List ℕ))
    → as_lines (front ∷ cond t ([] ∷ ps) (onto_first b ps)) ≡ record { bytes = front; ended = true } ∷ as_lines (cond t ([] ∷ ps) (onto_first b ps))
unfolding as_lines
line_and_more true [] b ps = refl
line_and_more true (c ∷ front) b ps = refl
line_and_more false [] b [] = refl
line_and_more false (c ∷ front) b [] = refl
line_and_more false [] b (p ∷ ps) = refl
line_and_more false (c ∷ front) b (p ∷ ps) = refl

line_and_none : (front : List ℕ) → as_lines (front ∷ [] ∷ []) ≡ record { bytes = front; ended = true } ∷ as_lines ([] ∷ [])
unfolding as_lines
line_and_none [] = refl
line_and_none (b ∷ bs) = refl

-- a text from its first line on
pub ended_line : (text front rest : List ℕ) → pieces line_feed text ≡ front ∷ pieces line_feed rest → lines text ≡ record { bytes = front; ended = true } ∷ lines rest
unfolding lines pieces
ended_line text front [] h = ap as_lines h ∙ line_and_none front
ended_line text front (b ∷ bs) h = ap as_lines h ∙ line_and_more (eqb b line_feed) front b (pieces line_feed bs)

pub last_line : (text : List ℕ) → 0 < length text → pieces line_feed text ≡ text ∷ [] → lines text ≡ record { bytes = text; ended = false } ∷ lines []
unfolding lines pieces as_lines
last_line [] some h = absurd (omega arith)
last_line (b ∷ bs) some h = ap as_lines h ∙ as_line b bs
