-- What a sound cluster says of rows, read off its parts.
use Rattle.std.proofs.Common.{◌≡◌, inl, None, refl, sym, ap, subst, arith}
use Rattle.maps_model.specs.Cluster.{slot_up, epoch_in, epoch_of, NamesNode, Comes}
use Rattle.maps_model.specs.Words.{Known, RowFor}
use Rattle.maps_model.specs.Words.RowFor.{Stands, WillDrop, WillKeep, Ahead}
use Rattle.maps_model.specs.RowLaws.{InOneEpoch, ManagerBehind, ManagerAhead, ManagerDrops}
use Rattle.maps_model.proofs.Order.{same_before}
use Rattle.maps_model.proofs.Telling.{one_boot}
use Rattle.maps_model.proofs.Settled.{full_is}

pub in_one_epoch : InOneEpoch
in_one_epoch w s n node disk up g installed user manager managed other its other_up other_in =
    let a = s.told.each n node disk up.here g installed user manager managed other its other_up.here (other.rows n node.boot user) g.epoch (Stands other_in refl refl) in
    let known : Known w.slots w.flying g = inl (record { n = n; node = node; disk = disk; here = up.here; is = installed }) in
    record {
      unmarked = λ none. full_is w.flying n user g.epoch g.epoch (other.rows n node.boot user) (node.version user) (disk.holds user) (node.marked user) none a;
      row = a.fits;
      report = λ letter m from same boot row h.
          let all = (s.spoken.reported letter m user boot row h).1 in
          let b = one_boot g n boot node.boot (subst (λ k. NamesNode g k boot) from (all g known (sym same))) ((s.order.each n (slot_up node disk) up.here).installed g installed).1 in
          s.reported.fits n node disk up.here letter m from user boot row h b;
      ack = λ letter m to same version h.
          let has = a.acked letter m to (inl same) version h in
          (has, omega (arith, has.not_below, (a.fits has.found has.is).bounded));
    }

pub manager_behind : ManagerBehind
manager_behind may w s n node disk up g installed user manager managed other its other_up old other_in managed0 before own_comes its_comes none =
    let now : epoch_of other ≡ old.epoch = ap epoch_in other_in in
    let counts : RowFor manager other g n node.boot user (other.rows n node.boot user) (epoch_of other) = WillKeep (same_before (epoch_of other) old.epoch g.epoch now before)
    (subst (λ e. Comes g manager other.boot e) (sym now) own_comes) (record { old = old; installed = other_in; managed = managed0; manages = managed; comes = its_comes; allowed = may }) refl refl in
    full_is w.flying n user g.epoch (epoch_of other) (other.rows n node.boot user) (node.version user) (disk.holds user) (node.marked user) none
    (s.told.each n node disk up.here g installed user manager managed other its other_up.here (other.rows n node.boot user) (epoch_of other) counts)

pub manager_ahead : ManagerAhead
manager_ahead may w s n node disk up old installed user manager managed other its other_up g other_in managed1 before own_comes its_comes none =
    full_is w.flying n user old.epoch g.epoch (other.rows n node.boot user) (node.version user) (disk.holds user) (node.marked user) none
    (s.told.each n node disk up.here old installed user manager managed other its other_up.here (other.rows n node.boot user) g.epoch
    (Ahead may g other_in before own_comes its_comes managed1 refl refl))

pub manager_drops : ManagerDrops
manager_drops w s n node disk up g installed user manager managed other its other_up before own_comes drops none =
    sym (full_is w.flying n user g.epoch g.epoch None (node.version user) (disk.holds user) (node.marked user) none
    (s.told.each n node disk up.here g installed user manager managed other its other_up.here None g.epoch
    (WillDrop before own_comes (λ k. drops k.old k.installed k.managed k.comes k.allowed) refl refl)))
