-- What the usual commands say, by their bytes.
use Rattle.std.proofs.Common.{◌≡◌, ℕ, List, [], ◌∷◌, ◌++◌, Result, Ok, codes, refl, ap}
use Rattle.mdb_base.specs.declared.names.SiteId.{SiteId}
use Rattle.mdb_base.specs.declared.names.Tx.{Tx}
use Rattle.fed_rules.specs.declared.commands.Command.{Command}
use Rattle.fed_rules.specs.declared.commands.Command.TheVariants as command
use Rattle.fed_rules.specs.declared.scenario.SiteLine.{SiteLine}
use Rattle.scenario_text.specs.declared.bad.BadWhy.{BadWhy}
use Rattle.scenario_text.specs.CommandLines.{actor_command, command_line, message_argument, message_behind, tx_argument, tx_behind}
use Rattle.scenario_text.specs.Pieces.{only_one, only_two, only_three, pieces, words_of}
use Rattle.scenario_text.specs.Reads.{◌>>=◌}

-- the transaction of a line is that of the words behind the first one
argument_behind : (word : List ℕ) (words : List (List ℕ)) → tx_argument (word ∷ words) ≡ tx_behind words
unfolding tx_argument tx_behind only_one only_two
argument_behind word [] = refl
argument_behind word (tx ∷ []) = refl
argument_behind word (tx ∷ next ∷ more) = refl

-- what a command says of the transaction that is read
abbrev said : (Tx → Command) → Result Tx BadWhy → Result Command BadWhy
said of read = read >>= λ tx. Ok (of tx)

pub said_step : (sites : List SiteLine) (rest : List ℕ) → command_line sites (words_of (codes "step " ++ rest)) ≡ (tx_behind (words_of rest) >>= λ tx. Ok (command.Step tx))
unfolding command_line pieces
said_step sites rest = ap (said command.Step) (argument_behind (codes "step") (words_of rest))

pub said_begin : (sites : List SiteLine) (rest : List ℕ) → command_line sites (words_of (codes "begin " ++ rest)) ≡ (tx_behind (words_of rest) >>= λ tx. Ok (command.Begin tx))
unfolding command_line pieces
said_begin sites rest = ap (said command.Begin) (argument_behind (codes "begin") (words_of rest))

pub said_commit : (sites : List SiteLine) (rest : List ℕ) → command_line sites (words_of (codes "commit " ++ rest)) ≡ (tx_behind (words_of rest) >>= λ tx. Ok (command.Commit tx))
unfolding command_line pieces
said_commit sites rest = ap (said command.Commit) (argument_behind (codes "commit") (words_of rest))

pub said_fate : (sites : List SiteLine) (rest : List ℕ) → command_line sites (words_of (codes "fate " ++ rest)) ≡ (tx_behind (words_of rest) >>= λ tx. Ok (command.Fate tx))
unfolding command_line pieces
said_fate sites rest = ap (said command.Fate) (argument_behind (codes "fate") (words_of rest))

pub said_go : (sites : List SiteLine) (rest : List ℕ) → command_line sites (words_of (codes "go " ++ rest)) ≡ (tx_behind (words_of rest) >>= λ tx. Ok (command.Go tx))
unfolding command_line pieces
said_go sites rest = ap (said command.Go) (argument_behind (codes "go") (words_of rest))

-- the site and the message of a line are those of the words behind the first one
message_stands_behind : (sites : List SiteLine) (word : List ℕ) (words : List (List ℕ)) → message_argument sites (word ∷ words) ≡ message_behind sites words
unfolding message_argument message_behind only_one only_two only_three
message_stands_behind sites word [] = refl
message_stands_behind sites word (site ∷ []) = refl
message_stands_behind sites word (site ∷ place ∷ []) = refl
message_stands_behind sites word (site ∷ place ∷ next ∷ more) = refl

-- what a command says of the site and the message that are read
abbrev sent : (SiteId → ℕ → Command) → Result (SiteId × ℕ) BadWhy → Result Command BadWhy
sent of read = read >>= λ m. Ok (of m.0 m.1)

pub said_give : (sites : List SiteLine) (rest : List ℕ) → command_line sites (words_of (codes "give " ++ rest)) ≡ (message_behind sites (words_of rest) >>= λ m. Ok (command.Give m.0 m.1))
unfolding command_line actor_command pieces
said_give sites rest = ap (sent command.Give) (message_stands_behind sites (codes "give") (words_of rest))

pub said_take : (sites : List SiteLine) (rest : List ℕ) → command_line sites (words_of (codes "take " ++ rest)) ≡ (message_behind sites (words_of rest) >>= λ m. Ok (command.Take m.0 m.1))
unfolding command_line actor_command pieces
said_take sites rest = ap (sent command.Take) (message_stands_behind sites (codes "take") (words_of rest))
