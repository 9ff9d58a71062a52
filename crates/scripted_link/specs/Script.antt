-- What a script lets through of the packets that were offered, whatever a packet is.
use Rattle.std.specs.Prelude.{ℕ, ◌+◌, cond, nat_eq, List, [], ◌∷◌, ◌++◌, length, slice_get}
use Rattle.std.specs.Option.{option_to_list}
use Rattle.mdb_base.specs.declared.names.Fate.{Fate}
use Rattle.mdb_base.specs.declared.names.Fate.TheVariants as Fated
use Rattle.scripted_link.specs.declared.script.FateAt.{FateAt}

-- the fate of the packet at this place: one that the script doesn't name passes
abbrev pub fate_at : List FateAt → ℕ → Fate
fate_at [] place = Fated.Pass
fate_at (f ∷ fs) place = cond (nat_eq f.place place) f.fate (fate_at fs place)

-- the copies of a packet that go on at once
abbrev pub copies : {A : Type 0} → Fate → A → List A
copies Fated.Pass packet = packet ∷ []
copies Fated.Drop packet = []
copies Fated.Twice packet = packet ∷ packet ∷ []
copies (Fated.Hold further) packet = []

-- the packet at this place, if it is held for so many further offers and the last of them is the last offer
abbrev pub due_at : {A : Type 0} → ℕ → Fate → List A → List A
due_at place (Fated.Hold further) offered = cond (nat_eq (place + further + 1) (length offered)) (option_to_list (slice_get offered place)) []
due_at place fate offered = []

-- the held packets that fall due with the last offer, by rising place
abbrev pub due : {A : Type 0} → List FateAt → List A → List A
due [] offered = []
due (f ∷ fs) offered = due_at f.place f.fate offered ++ due fs offered

-- what goes on when a packet is offered behind these: its copies, and behind them the held packets that fall due
abbrev pub at_offer : {A : Type 0} → List FateAt → List A → A → List A
at_offer script before packet = copies (fate_at script (length before)) packet ++ due script (before ++ packet ∷ [])

-- what goes on of these packets, which are offered behind those before
abbrev pub through_behind : {A : Type 0} → List FateAt → List A → List A → List A
through_behind script before [] = []
through_behind script before (packet ∷ packets) = at_offer script before packet ++ through_behind script (before ++ packet ∷ []) packets

-- what the script lets through of the packets that were offered
abbrev pub let_through : {A : Type 0} → List FateAt → List A → List A
let_through script offered = through_behind script [] offered
