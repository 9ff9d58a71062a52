use Rattle.std.proofs.Common.{◌≡◌, ◌∷◌, ◌++◌, [], length, map, sym, ap, subst, ◌∙◌, arith}
use Rattle.std.proofs.lemmas.List.{length_push, map_push}
use Rattle.journal_disk.specs.Disk.{synced_bytes}
use Rattle.file_disks.specs.Stores.{journal_of}
use Rattle.mdb_top.specs.Opening.{IsOpened, Opens}
use Rattle.mdb_top.proofs.OpenLemmas.{opens-more}
use Rattle.mdb_top.proofs.store.open_all.Goals as goal

-- where there is no room for the disk, those before it stay
pub returns-in_err-push-clause-opens : goal.returns-in_err-push-clause-opens
returns-in_err-push-clause-opens g c =
    subst (λ items. Opens g.T.Store.tells (g.T.Store.journals c.args.store.now) (map g.D.Disk.seen items)) (sym c.in_err-push.ensures.items)
    c.loop-number.invariant.0.opens

pub loop-number-preserved : goal.loop-number-preserved
loop-number-preserved g c =
    let journals = g.T.Store.journals c.args.store.now in
    let was = c.loop-number.invariant.0 in
    let kept = c.loop-number.invariant.1 in
    let opened = map g.D.Disk.seen c.loop-number.disks.items in
    let seen = g.D.Disk.seen c.in_ok-disk.disk in
    let more : map g.D.Disk.seen c.push.new.self.items ≡ opened ++ seen ∷ [] =
    subst (λ items. map g.D.Disk.seen items ≡ opened ++ seen ∷ []) (sym c.in_ok-push.ensures.items) (map_push g.D.Disk.seen c.loop-number.disks.items c.in_ok-disk.disk) in
    let next : IsOpened g.T.Store.tells journals c.loop-number.number seen = record {
      journal = λ tells. c.in_ok-disk.ensures.journal tells c.requires.told ∙ ap (λ js. synced_bytes (journal_of c.loop-number.number js)) (kept tells);
      synced = c.in_ok-disk.ensures.synced c.requires.told;
      not_large = c.in_ok-disk.ensures.not_large;
    } in
    let all : Opens g.T.Store.tells journals (opened ++ seen ∷ []) =
    opens-more g.T.Store.tells journals opened seen was.opens (subst (λ n. IsOpened g.T.Store.tells journals n seen) (sym was.count) next) in
    let one = length_push opened seen in
    let same = ap length more in
    let before = was.count in (
      record {
        count = omega (arith, one, same, before);
        opens = subst (Opens g.T.Store.tells journals) (sym more) all;
        calm = c.in_ok-disk.ensures.cause.clean (λ e. cc) ∙ was.calm;
      },
      λ tells. c.in_ok-disk.ensures.journals tells ∙ kept tells,
    )
