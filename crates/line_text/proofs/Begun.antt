-- Bytes that begin with what stood there before.
use Rattle.std.proofs.Common.{◌≡◌, ℕ, List, ◌++◌, ap, ◌∙◌}
use Rattle.std.proofs.lemmas.List.{append_assoc}
use Rattle.mdb_base.specs.Texts.{BeginsWith}

-- what begins with longer bytes begins with their front
pub begins_with_the_front : (old piece now all : List ℕ) → now ≡ old ++ piece → BeginsWith now all → BeginsWith old all
begins_with_the_front old piece now all e (rest, f) = (piece ++ rest, f ∙ ap (λ front. front ++ rest) e ∙ append_assoc old piece rest)
