-- What a call asks of the lists that an engine stands for, and what it does to them.
-- Engines keep no list: each stands for starts and lists of engine lines, the newest first, by a relation of its own.
use Rattle.std.specs.Prelude.{ℕ, List, ◌∷◌}
use Rattle.fed_rules.specs.Runs.{Start, EngineLine}

-- the engine stands for some list of which the fact holds
pub record SomePast {A : Type 0} (stands : A → Start → List EngineLine → Type 0) (engine : A) (P : Start → List EngineLine → Type 0) : Type 0 where
  pub start : Start
  pub lines : List EngineLine
  pub stood : stands engine start lines
  pub holds : P start lines

-- for every list that it stood for, the engine stands for that list with this line added
abbrev pub AddsLine : {A : Type 0} → (A → Start → List EngineLine → Type 0) → A → EngineLine → A → Type 0
AddsLine stands old line new = (start : Start) (lines : List EngineLine) → stands old start lines → stands new start (line ∷ lines)

-- the engine stands for every list that it stood for
abbrev pub KeepsPast : {A : Type 0} → (A → Start → List EngineLine → Type 0) → A → A → Type 0
KeepsPast stands old new = (start : Start) (lines : List EngineLine) → stands old start lines → stands new start lines

-- for every list with such a newest line that it stood for, the engine stands for that list without the line
abbrev pub DropsLine : {A : Type 0} → (A → Start → List EngineLine → Type 0) → A → (ℕ → EngineLine) → A → Type 0
DropsLine stands old line new =
    (start : Start) (older : List EngineLine) (n : ℕ) → stands old start (line n ∷ older) → stands new start older

-- the fact holds of every list that the engine stands for
abbrev pub EachPast : {A : Type 0} → (A → Start → List EngineLine → Type 0) → A → (Start → List EngineLine → Type 0) → Type 0
EachPast stands engine P = (start : Start) (lines : List EngineLine) → stands engine start lines → P start lines
