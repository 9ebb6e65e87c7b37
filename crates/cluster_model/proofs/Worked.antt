-- The worked cases, by computing them.
use Rattle.std.proofs.Common.{ap, is_some, Some, ◌≡◌, ◌∙◌, false, [], ◌∷◌, refl}
use Rattle.std.specs.Cmp.{nat_cmp_total}
use Rattle.std.specs.FinMap.{empty, insert, get, remove, entries, gets, get-insert, get-remove}
use Rattle.object_model.specs.Sets.{count_below}
use Rattle.object_model.specs.Keys.{key_cmp}
use Rattle.object_model.specs.UpdateLog.{Logged}
use Rattle.object_model.proofs.MapLaws.{key_total}
use Rattle.cluster_model.specs.Rows.{hi, row_plan, ticket_of, copy_at, here_at, pushed, TwoOfThree, HeardTwiceCountsOnce, TargetsMoveOn, PushedThreeTimes, LateHereChangesNothing, GoneBeforeItCame, ticket_again, StartedHasNoEpoch}
use Rattle.cluster_model.proofs.Playing.{waits, ends, gives_up, hears_told, throws_late, hears_ack, hears_retired, pushes_due, pushes_nothing, drops, one_entry, emptied}

got_copy : (entry : Logged) → get (insert (empty {R = key_cmp}) (copy_at 1) entry) (copy_at 1) ≡ Some entry
got_copy entry = get-insert key_total (empty {R = key_cmp}) (copy_at 1) entry (copy_at 1)

emptied_copy : (entry : Logged) → entries (remove (insert (empty {R = key_cmp}) (copy_at 1) entry) (copy_at 1)) ≡ []
emptied_copy entry = emptied (copy_at 1) entry (ap is_some (got_copy entry))

-- what a log tells that has one entry, or had one
ruleset told = (one_entry, emptied_copy, got_copy)

pub two_of_three : TwoOfThree
unfolding count_below
two_of_three map = (
  _,
  (
    _,
    record { is = refl },
    refl,
    (
      _,
      waits (row_plan 3 3 2) hi _ _ _ (ticket_of 1) _ refl (get-insert nat_cmp_total _ _ _ _) 1 2 refl refl,
      refl,
      (
        _,
        record { is = refl },
        refl,
        (
          _,
          hears_told (row_plan 3 3 2) hi _ _ _ 3 false _ refl refl refl refl _ (get-insert nat_cmp_total _ _ _ _) refl refl refl,
          refl,
          (_, ends (row_plan 3 3 2) hi _ _ _ (ticket_of 1) _ refl (get-insert nat_cmp_total _ _ _ _) _ refl refl, refl, refl),
        ),
      ),
    ),
  ),
  refl,
)

pub twice_once : HeardTwiceCountsOnce
unfolding count_below
twice_once map = (
  _,
  (
    _,
    record { is = refl },
    refl,
    (
      _,
      record { is = refl },
      refl,
      (
        _,
        record { is = refl },
        refl,
        (
          _,
          hears_told (row_plan 3 3 3) hi _ _ _ 3 false _ refl refl refl refl _ (get-insert nat_cmp_total _ _ _ _) refl refl refl,
          refl,
          (
            _,
            hears_told (row_plan 3 3 3) hi _ _ _ 4 false _ refl refl refl refl _ (get-insert nat_cmp_total _ _ _ _) refl refl refl,
            refl,
            (
              _,
              waits (row_plan 3 3 3) hi _ _ _ (ticket_of 1) _ refl (get-insert nat_cmp_total _ _ _ _) 2 3 refl refl,
              refl,
              (
                _,
                record { is = refl },
                refl,
                (
                  _,
                  hears_told (row_plan 3 3 3) hi _ _ _ 5 false _ refl refl refl refl _ (get-insert nat_cmp_total _ _ _ _) refl refl refl,
                  refl,
                  (_, ends (row_plan 3 3 3) hi _ _ _ (ticket_of 1) _ refl (get-insert nat_cmp_total _ _ _ _) _ refl refl, refl, refl),
                ),
              ),
            ),
          ),
        ),
      ),
    ),
  ),
  refl,
  refl,
)

pub move_on : TargetsMoveOn
unfolding count_below
move_on map = (
  _,
  (
    _,
    record { is = refl },
    refl,
    (
      _,
      waits (row_plan 3 2 2) hi _ _ _ (ticket_of 1) _ refl (get-insert nat_cmp_total _ _ _ _) 1 2 refl refl,
      refl,
      (
        _,
        gives_up (row_plan 3 2 2) hi _ _ _ (ticket_of 1) _ refl (get-insert nat_cmp_total _ _ _ _) refl refl,
        refl,
        (
          _,
          record { is = refl },
          refl,
          (
            _,
            waits (row_plan 3 2 2) hi _ _ _ (ticket_of 2) _ refl (get-insert nat_cmp_total _ _ _ _) 0 2 refl refl,
            refl,
            (
              _,
              record { is = refl },
              refl,
              (
                _,
                record { is = refl },
                refl,
                (
                  _,
                  hears_told (row_plan 3 2 2) hi _ _ _ 4 false _ refl refl refl refl _ (get-insert nat_cmp_total _ _ _ _) refl refl refl,
                  refl,
                  (
                    _,
                    waits (row_plan 3 2 2) hi _ _ _ (ticket_of 2) _ refl (get-insert nat_cmp_total _ _ _ _) 1 2 refl refl,
                    refl,
                    (
                      _,
                      hears_told (row_plan 3 2 2) hi _ _ _ 5 false _ refl refl refl refl _ (get-insert nat_cmp_total _ _ _ _) refl refl refl,
                      refl,
                      (
                        _,
                        ends (row_plan 3 2 2) hi _ _ _ (ticket_of 2) _ refl (get-insert nat_cmp_total _ _ _ _) _ refl refl,
                        refl,
                        (
                          _,
                          record { is = refl },
                          refl,
                          (_, throws_late (row_plan 3 2 2) hi _ _ _ 6 false _ refl refl refl refl (get-remove nat_cmp_total _ _ _ ∙ get-insert nat_cmp_total _ _ _ _ ∙ get-insert nat_cmp_total _ _ _ _ ∙ get-insert nat_cmp_total _ _ _ _ ∙ get-remove nat_cmp_total _ _ _) refl, refl, refl),
                        ),
                      ),
                    ),
                  ),
                ),
              ),
            ),
          ),
        ),
      ),
    ),
  ),
  refl,
  refl,
  refl,
  refl,
  refl,
)

pub three_times : PushedThreeTimes
unfolding count_below
three_times map = (
  _,
  (
    _,
    record { is = refl },
    refl,
    (
      _,
      ends (row_plan 2 2 1) hi _ _ _ (ticket_of 1) _ refl (get-insert nat_cmp_total _ _ _ _) _ refl refl,
      refl,
      (
        _,
        drops (row_plan 2 2 1) hi _ 1 _ refl refl (simp gets),
        refl,
        (
          _,
          pushes_due (row_plan 2 2 1) hi _ _ _ 1 2 (copy_at 1 ∷ []) ((pushed 2 1 2).letter ∷ []) refl (simp told) (simp told) (simp told),
          refl,
          (
            _,
            record { is = refl },
            refl,
            (
              _,
              record { is = refl },
              refl,
              (
                _,
                record { is = refl },
                refl,
                (
                  _,
                  hears_ack (row_plan 2 2 1) hi _ _ _ 5 false _ refl refl refl refl (copy_at 1) (here_at 1 3) _ (get-insert key_total _ _ _ _) refl refl,
                  refl,
                  (
                    _,
                    hears_ack (row_plan 2 2 1) hi _ _ _ 4 false _ refl refl refl refl (copy_at 1) (here_at 1 3) _ (get-remove key_total _ _ _) refl refl,
                    refl,
                    (
                      _,
                      hears_ack (row_plan 2 2 1) hi _ _ _ 3 false _ refl refl refl refl (copy_at 1) (here_at 1 3) _ (get-remove key_total _ _ _) refl refl,
                      refl,
                      (
                        _,
                        hears_retired (row_plan 2 2 1) hi _ _ _ 6 false _ refl refl refl refl (copy_at 1) (here_at 1 3) _ (get-insert key_total _ _ _ _) refl refl,
                        refl,
                        (
                          _,
                          pushes_nothing (row_plan 2 2 1) hi _ _ _ 1 2 refl refl refl (rw (emptied_copy _) refl),
                          refl,
                          (_, pushes_nothing (row_plan 2 2 1) hi _ _ _ 2 1 refl refl refl (rw (emptied_copy _) refl), refl, refl),
                        ),
                      ),
                    ),
                  ),
                ),
              ),
            ),
          ),
        ),
      ),
    ),
  ),
  refl,
  refl,
)

pub late_here : LateHereChangesNothing
unfolding count_below
late_here map = (
  _,
  (
    _,
    record { is = refl },
    refl,
    (
      _,
      ends (row_plan 2 2 1) hi _ _ _ (ticket_of 1) _ refl (get-insert nat_cmp_total _ _ _ _) _ refl refl,
      refl,
      (
        _,
        record { is = refl },
        refl,
        (
          _,
          record { is = refl },
          refl,
          (
            _,
            ends (row_plan 2 2 1) hi _ _ _ (ticket_of 2) _ refl (get-insert nat_cmp_total _ _ _ _) _ refl refl,
            refl,
            (
              _,
              record { is = refl },
              refl,
              (
                _,
                record { is = refl },
                refl,
                (
                  _,
                  throws_late (row_plan 2 2 1) hi _ _ _ 2 false _ refl refl refl refl (get-remove nat_cmp_total _ _ _ ∙ get-insert nat_cmp_total _ _ _ _ ∙ get-remove nat_cmp_total _ _ _) refl,
                  refl,
                  (
                    _,
                    throws_late (row_plan 2 2 1) hi _ _ _ 4 false _ refl refl refl refl (get-remove nat_cmp_total _ _ _) refl,
                    refl,
                    (_, throws_late (row_plan 2 2 1) hi _ _ _ 5 false _ refl refl refl refl (get-remove nat_cmp_total _ _ _ ∙ get-insert nat_cmp_total _ _ _ _ ∙ get-remove nat_cmp_total _ _ _) refl, refl, refl),
                  ),
                ),
              ),
            ),
          ),
        ),
      ),
    ),
  ),
  refl,
  refl,
)

pub gone_first : GoneBeforeItCame
unfolding count_below
gone_first map = (
  _,
  (
    _,
    record { is = refl },
    refl,
    (
      _,
      record { is = refl },
      refl,
      (
        _,
        record { is = refl },
        refl,
        (_, record { is = refl }, refl, refl),
      ),
    ),
  ),
  refl,
)

pub started_again : StartedHasNoEpoch
unfolding count_below
started_again map = (
  _,
  (
    _,
    record { is = refl },
    refl,
    (
      _,
      record { is = refl },
      refl,
      (
        _,
        record { is = refl },
        refl,
        (
          _,
          record { is = refl },
          refl,
          (
            _,
            record { is = refl },
            refl,
            (_, ends (row_plan 2 2 1) hi _ _ _ ticket_again _ refl (get-insert nat_cmp_total _ _ _ _) _ refl refl, refl, refl),
          ),
        ),
      ),
    ),
  ),
  refl,
)
