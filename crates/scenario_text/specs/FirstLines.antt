-- The first line of a text, read where it stands: a usual command by its bytes up to the line feed, any other line by its words.
use Rattle.std.specs.Prelude.{ℕ, ◌≡◌, ◌<◌, ◌≤◌, ◌^◌, Bool, true, false, not, ◌&&◌, ◌==◌, nat_le, List, [], ◌∷◌, ◌++◌, length, IsTrue, Result, Ok}
use Rattle.std.specs.List.{list_all}
use Rattle.mdb_base.specs.declared.names.SiteId.{SiteId}
use Rattle.mdb_base.specs.declared.names.Tx.{Tx}
use Rattle.fed_rules.specs.declared.scenario.SiteLine.{SiteLine}
use Rattle.fed_rules.specs.declared.commands.Command.{Command}
use Rattle.scenario_text.specs.declared.bad.BadWhy.{BadWhy}
use Rattle.scenario_text.specs.declared.draft.Draft.{Draft}
use Rattle.scenario_text.specs.declared.fault.Fault.{Fault}
use Rattle.scenario_text.specs.CommandLines.{command_line, message_behind, tx_behind}
use Rattle.scenario_text.specs.Names.{decimal, is_digit, is_number, site_of}
use Rattle.scenario_text.specs.Pieces.{TextLine, line_feed, lines, words_of}
use Rattle.scenario_text.specs.Reads.{Fails}
use Rattle.scenario_text.specs.Texts.{is_visible, with_line}

-- the most digits of a number that is read by its bytes
abbrev pub most_digits : ℕ
most_digits = 9

-- whether digits are a number that is read by its bytes
unfoldable pub are_plain : List ℕ → Bool
are_plain [] = false
are_plain (b ∷ []) = true
are_plain (b ∷ c ∷ more) = not (b == 48) && nat_le (length (b ∷ c ∷ more)) most_digits

-- a text begins with this number, and this stands behind it
pub record BeginsWith (number : ℕ) (text rest : List ℕ) : Type 0 where
  pub word : List ℕ
  pub parts : text ≡ word ++ rest
  pub right : is_number word ≡ true
  pub value : decimal 0 word ≡ number
  pub short : length word ≤ most_digits
  pub small : number < 2 ^ 32

-- a text begins with the digit of this declared site and a mark, and this stands behind them
pub record NamesSite (sites : List SiteLine) (mark : ℕ) (site : SiteId) (text rest : List ℕ) : Type 0 where
  pub digit : ℕ
  pub parts : text ≡ digit ∷ mark ∷ rest
  pub right : IsTrue (is_digit digit)
  pub said : site_of sites (digit ∷ []) ≡ Ok site

-- a text begins with at most so many visible bytes that say this, and a line feed, and this stands behind it
pub record Says {A : Type 0} (reads : List ℕ → Result A BadWhy) (most : ℕ) (what : A) (text rest : List ℕ) : Type 0 where
  pub line : List ℕ
  pub parts : text ≡ line ++ line_feed ∷ rest
  pub visible : IsTrue (list_all is_visible line)
  pub short : length line ≤ most
  pub said : reads line ≡ Ok what

-- a text begins with bytes that say this, none of them the mark, and the mark, and this stands behind it
pub record SaysTo {A : Type 0} (reads : List ℕ → Result A BadWhy) (mark : ℕ) (what : A) (text rest : List ℕ) : Type 0 where
  pub word : List ℕ
  pub parts : text ≡ word ++ mark ∷ rest
  pub unmarked : IsTrue (list_all (λ b. not (b == mark)) word)
  pub said : reads word ≡ Ok what

-- what the bytes of a line say behind a command's word, and what those of a whole line say
abbrev pub tx_said : List ℕ → Result Tx BadWhy
tx_said line = tx_behind (words_of line)

abbrev pub message_said : List SiteLine → List ℕ → Result (SiteId × ℕ) BadWhy
message_said sites line = message_behind sites (words_of line)

abbrev pub command_said : List SiteLine → List ℕ → Result Command BadWhy
command_said sites line = command_line sites (words_of line)

-- the first line of a text is taken behind a draft, which becomes this one, and this text stands behind the line
pub record TakesFirst (with_commands : Bool) (text : List ℕ) (old new : Draft) (rest : List ℕ) : Type 0 where
  pub line : TextLine
  pub parts : lines text ≡ line ∷ lines rest
  pub taken : with_line with_commands line old ≡ Ok new

-- the first line of a text isn't taken behind a draft
pub record RefusesFirst (with_commands : Bool) (text : List ℕ) (old : Draft) (fault : Fault) : Type 0 where
  pub line : TextLine
  pub behind : List TextLine
  pub parts : lines text ≡ line ∷ behind
  pub refused : Fails fault (with_line with_commands line old)
