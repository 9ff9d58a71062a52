-- Pieces written one behind another.
use Rattle.std.proofs.Common.{◌≡◌, ℕ, List, ◌++◌}
use Rattle.mdb_base.proofs.ForCallers.{two_pieces}

pub three_pieces : (old one two three a b c : List ℕ) → one ≡ old ++ a → two ≡ one ++ b → three ≡ two ++ c → three ≡ old ++ (a ++ (b ++ c))
three_pieces old one two three a b c e f g =
    two_pieces old one three a (b ++ c) e (two_pieces one two three b c f g)
