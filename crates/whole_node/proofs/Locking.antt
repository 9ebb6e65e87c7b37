-- A lock that a login took is let go again.
use Rattle.std.proofs.Common.{◌≡◌, ℕ, nat_eq, ◌&&◌, not, Bool, true, false, cond, List, Option, Some, None, refl, sym, ap, ◌∙◌, subst, eq-eqb, true≢false, if◌then◌else◌}
use Rattle.std.specs.Prelude.{is_some}
use Rattle.std.specs.Ordering.{nat_cmp, eq_by_cmp}
use Rattle.std.specs.Cmp.{Equal-is, tied_itself}
use Rattle.std.specs.Cmp.Lexicographic.{slice_cmp, nat_list_cmp_total}
use Rattle.std.specs.FinMap.{slice_cmp-IsAntisymmetric, nat_cmp-IsAntisymmetric, get-insert, get-remove, get_tied, same_map}
use Rattle.std.specs.FinMap as fin
use Rattle.std.proofs.lemmas.Bool.{and_from}
use Rattle.mail_model.specs.Plan.{Plan, Proof, proves}
use Rattle.object_model.specs.Letters.{Number}
use Rattle.object_model.specs.Letters.LoginWord.{Wrong}
use Rattle.object_model.specs.Locks.{Held, is_same_number, is_held_by, holder_beside, other_than, taken, released}
use Rattle.login_model.specs.Cluster as login
use Rattle.login_model.specs.Rules.{first_stamp}
use Rattle.joint_world.specs.Rules.{Judged, judged, judged_beside}

same_self : (number : Number) → is_same_number number number ≡ true
same_self number = and_from (nat_eq number.node number.node) (nat_eq number.boot number.boot && nat_eq number.seq number.seq) (eq-eqb number.node number.node refl)
    (and_from (nat_eq number.boot number.boot) (nat_eq number.seq number.seq) (eq-eqb number.boot number.boot refl) (eq-eqb number.seq number.seq refl))

none_there : (o : Option Number) → true ≡ not (is_some o) → o ≡ None
none_there None e = refl
none_there (Some by) e = absurd (true≢false e)

module _ (locks : Held) (user : List ℕ) (number : Number) (free : fin.get locks user ≡ None) where
  at_user : fin.get (fin.insert locks user number) user ≡ Some number
  at_user = get-insert nat_list_cmp_total locks user number user
      ∙ ap (λ (b : Bool). cond b (Some number) (fin.get locks user)) ((Equal-is (slice_cmp nat_cmp user user)).1 (tied_itself nat_list_cmp_total user))

  out_again : fin.remove (fin.insert locks user number) user ≡ locks
  out_again = same_map nat_list_cmp_total (slice_cmp-IsAntisymmetric nat_cmp-IsAntisymmetric) _ _
      (λ q. get-remove nat_list_cmp_total (fin.insert locks user number) user q ∙ ap (cond (eq_by_cmp (slice_cmp nat_cmp) q user) None) (get-insert nat_list_cmp_total locks user number q)
      ∙ at (eq_by_cmp (slice_cmp nat_cmp) q user) q refl)
    where
      at : (b : Bool) (q : List ℕ) → eq_by_cmp (slice_cmp nat_cmp) q user ≡ b → cond b None (cond b (Some number) (fin.get locks q)) ≡ fin.get locks q
      at false q e = refl
      at true q e = sym free ∙ get_tied nat_list_cmp_total locks q user ((Equal-is (slice_cmp nat_cmp q user)).0 e)

  released_taken : released user number (taken user number locks) ≡ locks
  released_taken = ap (released user number) (ap (λ (o : Option Number). if is_held_by o number then locks else fin.insert locks user number) free)
      ∙ ap (λ (o : Option Number). if is_held_by o number then fin.remove (fin.insert locks user number) user else fin.insert locks user number) at_user
      ∙ ap (λ (b : Bool). if b then fin.remove (fin.insert locks user number) user else fin.insert locks user number) (same_self number)
      ∙ out_again

  released_free : released user number locks ≡ locks
  released_free = ap (λ (o : Option Number). if is_held_by o number then fin.remove locks user else locks) free

  released_judged : (plan : Plan) (node : login.Node) (proof : Proof) → released user number (judged plan node user proof number locks).locks ≡ locks
  released_judged plan node proof = by (proves plan user proof)
    where
      beside : released user number (judged_beside node user number locks (holder_beside user number locks)).locks ≡ locks
      beside = ap (λ (o : Option Number). released user number (judged_beside node user number locks (other_than number o)).locks) free ∙ released_taken

      by : (b : Bool) → released user number ((λ (j : Judged). j.locks) (if b then judged_beside node user number locks (holder_beside user number locks) else record { word = Wrong first_stamp; locks = locks })) ≡ locks
      by true = beside
      by false = released_free

-- the lock was free before the login was judged
pub given_back : (plan : Plan) (node : login.Node) (user : List ℕ) (proof : Proof) (number : Number) (before after : Held) → true ≡ not (is_some (fin.get before user))
    → (judged plan node user proof number before).locks ≡ after → released user number after ≡ before
given_back plan node user proof number before after free is = ap (released user number) (sym is) ∙ released_judged before user number (none_there (fin.get before user) free) plan node proof
