use Rattle.actor_store.specs.Store.{stored}
use Rattle.std.proofs.Common.{ℕ, List, sym, ◌∙◌, subst}
use Rattle.std.proofs.lemmas.Bool.{cond-true, cond-false}
use Rattle.fed_rules.specs.Disk.{Call, CutBack}
use Rattle.actor_store.specs.Store.{Called, KeepsBehind, Ends, cut_calls, uncounted}
use Rattle.actor_store.proofs.BehindLaws.{torn_agrees}
use Rattle.actor_store.proofs.CalledLaws.{armed_in_force, called_none, called_one, torn_calls}
use Rattle.actor_store.proofs.store.Store.open.Goals as goal

pub returns-then-is_torn-clause-ends : goal.returns-then-is_torn-clause-ends
returns-then-is_torn-clause-ends g c = λ old rules trip k.
    let agrees = torn_agrees g.F.Format.spelling g.F.Format.reading g.F.Format.is_record g.F.Format.frame_bytes g.met.F.Format.counts_frames g.met.F.Format.spelled_is_read g.D.Disk.tells c.requires.told (g.D.Disk.seen c.args.disk.now) (stored c.args.self.now) old rules trip (g.met.D.Disk.told_size c.args.disk.now c.requires.told) k in
    let torn = sym agrees ∙ sym c.is_torn.ensures ∙ c.if-is_torn.true in
    let P : List (Call g.row.R.Denot) → Type 0 = λ calls. Ends g.F.Format.frame_bytes (KeepsBehind g.F.Format.spelling g.F.Format.is_record g.F.Format.frame_bytes g.D.Disk.tells (g.D.Disk.seen c.cut_torn.new.disk) (stored c.cut_torn.new.self) old) rules trip calls c.cut_torn.result in
    subst P (sym (cond-true _ _ _ torn)) (c.cut_torn.ensures.ends old rules trip k)

pub returns-else-is_torn-clause-ends : goal.returns-else-is_torn-clause-ends
returns-else-is_torn-clause-ends g c = λ old rules trip k.
    let agrees = torn_agrees g.F.Format.spelling g.F.Format.reading g.F.Format.is_record g.F.Format.frame_bytes g.met.F.Format.counts_frames g.met.F.Format.spelled_is_read g.D.Disk.tells c.requires.told (g.D.Disk.seen c.args.disk.now) (stored c.args.self.now) old rules trip (g.met.D.Disk.told_size c.args.disk.now c.requires.told) k in
    let torn = sym agrees ∙ sym c.is_torn.ensures ∙ c.if-is_torn.false in
    let P : List (Call g.row.R.Denot) → Type 0 = λ calls. Ends g.F.Format.frame_bytes (KeepsBehind g.F.Format.spelling g.F.Format.is_record g.F.Format.frame_bytes g.D.Disk.tells (g.D.Disk.seen c.come_up.new.disk) (stored c.come_up.new.self) old) rules trip calls c.come_up.result in
    subst P (sym (cond-false _ _ _ torn)) (c.come_up.ensures.ends old rules trip k)

pub returns-then-is_torn-clause-called : goal.returns-then-is_torn-clause-called
returns-then-is_torn-clause-called g c = λ old rules trip k.
    let seen = g.D.Disk.seen in
    let here = sym c.is_torn.ensures ∙ c.if-is_torn.true in
    let torn = sym (torn_agrees g.F.Format.spelling g.F.Format.reading g.F.Format.is_record g.F.Format.frame_bytes g.met.F.Format.counts_frames g.met.F.Format.spelled_is_read g.D.Disk.tells c.requires.told (g.D.Disk.seen c.args.disk.now) (stored c.args.self.now) old rules trip (g.met.D.Disk.told_size c.args.disk.now c.requires.told) k) ∙ here in
    let K = (KeepsBehind g.F.Format.spelling g.F.Format.is_record g.F.Format.frame_bytes g.D.Disk.tells (g.D.Disk.seen c.cut_torn.new.disk) (stored c.cut_torn.new.self) old) in
    let one = called_one g.F.Format.frame_bytes K rules trip (armed_in_force c.args.self.now.trip trip k.trip k.armed) (seen c.args.disk.now) (seen c.cut_torn.new.disk) CutBack c.cut_torn.result (c.cut_torn.ensures.ends old rules trip k) c.cut_torn.ensures.called in
    let P : ℕ → Type 0 = λ n. Called n trip (cut_calls g.F.Format.frame_bytes rules) (seen c.args.disk.now) (seen c.cut_torn.new.disk) c.cut_torn.result in
    let Q : List (Call g.row.R.Denot) → Type 0 = λ calls. Called 0 trip calls (seen c.args.disk.now) (seen c.cut_torn.new.disk) c.cut_torn.result in
    subst P (sym (torn_calls (stored c.args.self.now) here)) (subst Q (sym (cond-true _ _ _ torn)) one)

pub returns-else-is_torn-clause-called : goal.returns-else-is_torn-clause-called
returns-else-is_torn-clause-called g c = λ old rules trip k.
    let seen = g.D.Disk.seen in
    let torn = sym (torn_agrees g.F.Format.spelling g.F.Format.reading g.F.Format.is_record g.F.Format.frame_bytes g.met.F.Format.counts_frames g.met.F.Format.spelled_is_read g.D.Disk.tells c.requires.told (g.D.Disk.seen c.args.disk.now) (stored c.args.self.now) old rules trip (g.met.D.Disk.told_size c.args.disk.now c.requires.told) k) ∙ sym c.is_torn.ensures ∙ c.if-is_torn.false in
    let K = (KeepsBehind g.F.Format.spelling g.F.Format.is_record g.F.Format.frame_bytes g.D.Disk.tells (g.D.Disk.seen c.come_up.new.disk) (stored c.come_up.new.self) old) in
    let none = called_none g.F.Format.frame_bytes K rules trip (armed_in_force c.args.self.now.trip trip k.trip k.armed) (seen c.args.disk.now) (seen c.come_up.new.disk) (uncounted (stored c.args.self.now)) c.come_up.result (c.come_up.ensures.ends old rules trip k) c.come_up.ensures.called in
    let Q : List (Call g.row.R.Denot) → Type 0 = λ calls. Called (uncounted (stored c.args.self.now)) trip calls (seen c.args.disk.now) (seen c.come_up.new.disk) c.come_up.result in
    subst Q (sym (cond-false _ _ _ torn)) none
