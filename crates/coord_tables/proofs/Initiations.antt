-- The Initiation of an undecided attempt.
use Rattle.std.proofs.Common.{◌≡◌, Bool, true, false, cond, ◌&&◌, Option, Some, None, List, map, refl, sym, ap, ap₂, subst, ◌∙◌}
use Rattle.mdb_base.specs.declared.names.Tid.{Tid}
use Rattle.mdb_base.specs.Rising.{IsRising}
use Rattle.mdb_base.specs.Words.{some_of}
use Rattle.mdb_base.proofs.ForCallers.{those_rise}
use Rattle.presumptions.specs.declared.Participant.{Participant}
use Rattle.fed_rules.specs.declared.messages.Due.{Due}
use Rattle.fed_rules.specs.declared.records.CoordRecord.{CoordRecord}
use Rattle.fed_rules.specs.declared.records.CoordRecord.TheVariants as Rec
use Rattle.fed_rules.specs.Coord.{is_prepare, lacks_initiation}
use Rattle.fed_rules.specs.CoordPast.{CoordPast, Standing, Undecided, is_open, known_decision, participants, program, standing_of, visits}
use Rattle.protocol_table.specs.declared.members.Member.{Member}
use Rattle.protocol_table.specs.declared.known.Known.{Known}
use Rattle.protocol_table.specs.Agreement.{IsKnownAs, IsUndecidedAs}
use Rattle.protocol_table.specs.Attempts.{known_of, participant_of}
use Rattle.protocol_table.specs.Attempts as table
use Rattle.protocol_table.proofs.ForCallers.{classes_agree, voters_are}
use Rattle.coord_tables.specs.declared.tables.Tables.{Tables}
use Rattle.coord_tables.specs.Sending.{initiation_of}
use Rattle.coord_tables.specs.Tables.{IsServing}
use Rattle.coord_tables.specs.Terms.{Terms, IsSound}
use Rattle.coord_tables.proofs.Outflow.{voters_rise}

-- an undecided attempt is known as one
pub known_open : (tables : Tables) (terms : Terms) (past : CoordPast) (tid : Tid) → IsServing tables terms past → is_open past tid ≡ true → IsKnownAs terms.protocols past tid Undecided (known_of tid tables.known)
known_open tables terms past tid s u =
    subst (λ (st : Standing). IsKnownAs terms.protocols past tid st (known_of tid tables.known)) (ap (λ b. standing_of b (known_decision terms.protocols past tid)) u) (s.known tid)

pub known_some : (tables : Tables) (terms : Terms) (past : CoordPast) (tid : Tid) (known : Known) → IsServing tables terms past → is_open past tid ≡ true → known_of tid tables.known ≡ Some known → IsUndecidedAs terms.protocols past tid known
known_some tables terms past tid known s u e = subst (λ (o : Option Known). IsKnownAs terms.protocols past tid Undecided o) e (known_open tables terms past tid s u)

pub known_none : (tables : Tables) (terms : Terms) (past : CoordPast) (tid : Tid) → IsServing tables terms past → is_open past tid ≡ true → known_of tid tables.known ≡ None → ⊥
known_none tables terms past tid s u e = subst (λ (o : Option Known). IsKnownAs terms.protocols past tid Undecided o) e (known_open tables terms past tid s u)

-- participants rise
pub participants_rise : (terms : Terms) (past : CoordPast) (tid : Tid) → IsSound terms past → IsRising (λ p. p.site.0) (participants terms.protocols past tid)
participants_rise terms past tid sound = those_rise (λ (p : Participant). p.site.0) (λ (p : Participant). visits p.site (program past tid)) terms.protocols sound.rising

pub members_are : (terms : Terms) (past : CoordPast) (tid : Tid) (known : Known) → IsUndecidedAs terms.protocols past tid known → map participant_of known.members ≡ participants terms.protocols past tid
members_are terms past tid known k = ap (map participant_of) k.members ∙ voters_are past tid (participants terms.protocols past tid)

pub known_rise : (terms : Terms) (past : CoordPast) (tid : Tid) (known : Known) → IsSound terms past → IsUndecidedAs terms.protocols past tid known → IsRising (λ m. m.site.0) known.members
known_rise terms past tid known sound k =
    subst (λ (ms : List Member). IsRising (λ m. m.site.0) ms) (sym k.members) (voters_rise past tid (participants terms.protocols past tid) (participants_rise terms past tid sound))

-- whether the Initiation is to be forced, by the table
pub lacks_it : (terms : Terms) (past : CoordPast) (tid : Tid) (known : Known) → IsUndecidedAs terms.protocols past tid known → lacks_initiation terms.protocols past tid ≡ table.lacks_initiation known
lacks_it terms past tid known k = sym (classes_agree terms.protocols past tid known k).initiation

chosen : (a b c d : Bool) (r : CoordRecord) → a ≡ c → b ≡ d → cond (a && b) (Some r) None ≡ cond (c && d) (Some r) None
chosen a b c d r e f = ap₂ (λ x y. cond (x && y) (Some r) None) e f

none_chosen : (a : Bool) (r : CoordRecord) → cond (a && false) (Some r) None ≡ None
none_chosen true r = refl
none_chosen false r = refl

pub none_forced : (terms : Terms) (past : CoordPast) (tid : Tid) (known : Known) (dues : List Due) (some_due lacks : Bool) → IsUndecidedAs terms.protocols past tid known
    → some_due ≡ some_of is_prepare dues → lacks ≡ table.lacks_initiation known → lacks ≡ false → initiation_of terms.protocols past tid dues ≡ None
none_forced terms past tid known dues some_due lacks k due is not_lacking =
    chosen _ _ some_due false _ (sym due) (lacks_it terms past tid known k ∙ sym is ∙ not_lacking) ∙ none_chosen some_due _

pub forced_is : (terms : Terms) (past : CoordPast) (tid : Tid) (known : Known) (dues : List Due) (some_due lacks : Bool) (ps : List Participant) → IsUndecidedAs terms.protocols past tid known
    → some_due ≡ some_of is_prepare dues → some_due ≡ true → lacks ≡ table.lacks_initiation known → lacks ≡ true → ps ≡ map participant_of known.members
    → initiation_of terms.protocols past tid dues ≡ Some (Rec.Initiation tid ps)
forced_is terms past tid known dues some_due lacks ps k due there is lacking same =
    chosen _ _ true true _ (sym due ∙ there) (lacks_it terms past tid known k ∙ sym is ∙ lacking)
    ∙ ap (λ (qs : List Participant). Some (Rec.Initiation tid qs)) (sym (same ∙ members_are terms past tid known k))
