-- What bytes are read as, computed: a word and its parts, the pieces between spaces, and a line.
use Rattle.std.specs.Prelude.{ℕ, ◌≡◌, IsSome, slice_index_or, List, [], ◌∷◌, Option, Some, None, option_and_then, option_map, Bool, true, false, cond, ◌&&◌, ◌==◌, nat_lt}
use Rattle.std.specs.Char.{is_digit}
use Rattle.std.specs.Str.{bytes_eq}
use Rattle.std.specs.Str.Parse.{digits_value}
use Rattle.mdb_base.specs.Words.{each_of, first_where, map_some}
use Rattle.mdb_base.specs.declared.names.SiteId.{SiteId}
use Rattle.mdb_base.specs.declared.names.Tid.{Tid}
use Rattle.mdb_base.specs.declared.replies.Edge.{Edge}
use Rattle.fed_rules.specs.declared.commands.Line.{Line}
use Rattle.fed_rules.specs.declared.commands.Place.{Place}
use Rattle.line_text.specs.declared.word.Keyword.{Keyword}
use Rattle.line_text.specs.declared.word.Keyword.TheVariants as Key
use Rattle.line_text.specs.declared.word.Word.{Word}
use Rattle.line_text.specs.declared.word.Word.TheVariants.{Plain, Number, Attempt, Sent, Joined}
use Rattle.line_text.specs.Range.{is_large}
use Rattle.line_text.specs.Words.{keyword_text}
use Rattle.trace_lines.specs.Lexing.{pieces, tid_at, place_at}
use Rattle.trace_lines.specs.Reading.{site_of, line_of, tids_of}

-- each keyword
abbrev pub keywords : List Keyword
keywords =
    Key.Arrow ∷ Key.Sends ∷ Key.Begin ∷ Key.Step ∷ Key.Commit ∷ Key.Abort ∷ Key.Fate ∷ Key.Go ∷ Key.Again ∷
    Key.Late ∷ Key.Give ∷ Key.Take ∷ Key.Ask ∷ Key.Drop ∷ Key.Halt ∷ Key.Trip ∷ Key.Back ∷ Key.Check ∷ Key.None ∷
    Key.Down ∷ Key.Idle ∷ Key.Spent ∷ Key.End ∷ Key.Unfinished ∷ Key.Unbegun ∷ Key.Aborted ∷ Key.Set ∷
    Key.Awake ∷ Key.Defers ∷ Key.Ignored ∷ Key.Waits ∷ Key.Voted ∷ Key.Acked ∷ Key.Forgets ∷ Key.Undecided ∷
    Key.Initiates ∷ Key.Large ∷ Key.Checked ∷ Key.Committed ∷ Key.Running ∷ Key.Begun ∷ Key.Unheld ∷ Key.Asks ∷ Key.Dropped ∷
    Key.Read ∷ Key.Wrote ∷ Key.Dies ∷ Key.Invalid ∷ Key.Number ∷ Key.Stopped ∷ Key.Kept ∷ Key.Did ∷
    Key.Done ∷ Key.Value ∷ Key.Ticket ∷ Key.Unknown ∷ Key.Votes ∷ Key.Yes ∷ Key.No ∷ Key.Moved ∷
    Key.Settles ∷ Key.Answers ∷ Key.Presumes ∷ Key.Decides ∷ Key.Site ∷ Key.Cycle ∷ Key.Up ∷ Key.Epoch ∷
    Key.Doubtful ∷ Key.Known ∷ []

-- the keyword of these that is spelled so
abbrev pub spelled_in : List Keyword → List ℕ → Option Keyword
spelled_in keywords bytes = first_where (λ keyword. bytes_eq (keyword_text keyword) bytes) keywords

-- the keyword that is spelled so
unfoldable pub keyword_in : List ℕ → Option Keyword
keyword_in = spelled_in keywords

-- among these is each keyword that begins with this byte
abbrev pub Covers : ℕ → List Keyword → Type 0
Covers first group = (keyword : Keyword) → slice_index_or (keyword_text keyword) 0 0 ≡ first → IsSome (spelled_in group (keyword_text keyword))

-- a digit stands alone, or it isn't `0`
abbrev pub leads : ℕ → List ℕ → Bool
leads digit [] = true
leads digit (next ∷ more) = nat_lt 48 digit

-- decimal digits without a leading zero, or `0`
unfoldable pub is_numeral : List ℕ → Bool
is_numeral [] = false
is_numeral (digit ∷ more) = each_of (λ b. is_digit b 10) (digit ∷ more) && leads digit more

-- the number of 64 bits that is spelled so
unfoldable pub number_in : List ℕ → Option ℕ
number_in bytes = cond (is_numeral bytes && is_large (digits_value 10 bytes)) (Some (digits_value 10 bytes)) None

-- the bytes before the first mark and those behind it, where there is a mark
unfoldable pub parts_at : ℕ → List ℕ → Option (List ℕ × List ℕ)
parts_at mark [] = None
parts_at mark (b ∷ bs) = cond (b == mark) (Some ([], bs)) (map_some (λ parts. (b ∷ parts.0, parts.1)) (parts_at mark bs))

-- two things with a mark between them
unfoldable pub pair_in : {A B : Type 0} → (List ℕ → Option A) → ℕ → (List ℕ → Option B) → List ℕ → Option (A × B)
pair_in first mark second bytes =
    option_and_then (λ parts. option_and_then (λ a. map_some (λ b. (a, b)) (second parts.1)) (first parts.0)) (parts_at mark bytes)

-- an attempt `T.A`
unfoldable pub tid_in : List ℕ → Option Tid
tid_in bytes = option_and_then tid_at (pair_in number_in 46 number_in bytes)

-- a place `S/I`
unfoldable pub place_in : List ℕ → Option Place
place_in bytes = option_and_then place_at (pair_in number_in 47 number_in bytes)

-- a site by its number
unfoldable pub site_in : List ℕ → Option SiteId
site_in bytes = option_and_then site_of (number_in bytes)

-- the end of an edge: the attempt that it goes to, and its site
unfoldable pub target_in : List ℕ → Option (Tid × SiteId)
target_in bytes = pair_in tid_in 64 site_in bytes

-- an edge `F>T@S`
unfoldable pub edge_in : List ℕ → Option Edge
edge_in bytes = option_map (λ ends. record { from = ends.0; to = ends.1.0; site = ends.1.1 }) (pair_in tid_in 62 target_in bytes)

-- the word of the first of these that there is
abbrev pub first_of : Option Keyword → Option ℕ → Option Tid → Option Place → Option Edge → Option Word
first_of (Some keyword) number tid place edge = Some (Plain keyword)
first_of None (Some number) tid place edge = Some (Number number)
first_of None None (Some tid) place edge = Some (Attempt tid)
first_of None None None (Some place) edge = Some (Sent place)
first_of None None None None (Some edge) = Some (Joined edge)
first_of None None None None None = None

-- the word that is spelled so
unfoldable pub word_in : List ℕ → Option Word
word_in bytes = first_of (keyword_in bytes) (number_in bytes) (tid_in bytes) (place_in bytes) (edge_in bytes)

-- what these pieces are read as, where each is read
unfoldable pub all_in : {A : Type 0} → (List ℕ → Option A) → List (List ℕ) → Option (List A)
all_in read [] = Some []
all_in read (piece ∷ more) = option_and_then (λ one. map_some (λ rest. one ∷ rest) (all_in read more)) (read piece)

-- the line that is spelled so
unfoldable pub line_in : List ℕ → Option Line
line_in bytes = option_and_then line_of (all_in word_in (pieces bytes))

-- the attempts that are spelled so, with one space between each two
unfoldable pub tids_in : List ℕ → Option (List Tid)
tids_in bytes = option_and_then tids_of (all_in word_in (pieces bytes))
