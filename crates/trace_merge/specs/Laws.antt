-- Where lines stand in a trace.
use Rattle.std.specs.Prelude.{◌≡◌, ℕ, ◌<◌, List, ◌∷◌, ◌++◌}
use Rattle.mdb_base.specs.Words.{Each, Among}
use Rattle.fed_rules.specs.declared.commands.Stamped.{Stamped}
use Rattle.trace_merge.specs.Traces.{Entry, IsTrace, list_of, lines_of}

-- whatever line is looked at, a line of a lesser stamp stands before it
abbrev pub EarlierStandsBefore : Type 0
EarlierStandsBefore = (lists : List (List Stamped)) (merged : List Stamped) (trace : IsTrace lists merged) (before behind : List Entry) (x y : Entry) →
    trace.entries ≡ before ++ x ∷ behind → Among (λ e. e ≡ y) trace.entries → y.line.stamp < x.line.stamp → Among (λ e. e ≡ y) before

-- the packet is one of those that the line sent
abbrev pub HasSent : {P : Type 0} → (Stamped → List P) → P → Stamped → Type 0
HasSent sends packet line = Among (λ q. q ≡ packet) (sends line)

-- each packet that the lines sent bears the stamp of its line
abbrev pub BearStamps : {P : Type 0} → (Stamped → List P) → (P → ℕ) → List Stamped → Type 0
BearStamps sends stamp_of = Each (λ line. Each (λ q. stamp_of q ≡ line.stamp) (sends line))

-- Where each packet bears the stamp of the line that sent it, and a line takes one with a lesser stamp than its own, the line of the sender
-- that sent it stands before.
abbrev pub DeliveriesFollow : Type 0 → Type 0
DeliveriesFollow P = (lists : List (List Stamped)) (merged : List Stamped) (trace : IsTrace lists merged) (sends : Stamped → List P) (stamp_of : P → ℕ)
    (sender : ℕ) (before behind : List Entry) (x : Entry) (packet : P) → BearStamps sends stamp_of (list_of lists sender) →
    trace.entries ≡ before ++ x ∷ behind → Among (HasSent sends packet) (list_of lists sender) → stamp_of packet < x.line.stamp →
    Among (λ e. (e.actor ≡ sender) × HasSent sends packet e.line) before

-- no two lists of lines are a trace of the same lists
abbrev pub OneTrace : Type 0
OneTrace = (lists : List (List Stamped)) (one other : List Stamped) → IsTrace lists one → IsTrace lists other → one ≡ other

-- what stands before some place in the trace and what stands behind it hold, of each actor, what stands before and behind in its list
abbrev pub EachListSplits : Type 0
EachListSplits = (lists : List (List Stamped)) (merged : List Stamped) (trace : IsTrace lists merged) (before behind : List Entry) (actor : ℕ) →
    trace.entries ≡ before ++ behind → list_of lists actor ≡ lines_of actor before ++ lines_of actor behind
