-- Stores that are taken, and given back, one after another.
use Rattle.std.proofs.Common.{◌≡◌, ◌⊎◌, inl, inr, ⊎_elim, ℕ, ◌+◌, ◌≤◌, List, [], ◌∷◌, ◌++◌, length, append_assoc, append-nil, Option, Some, None, refl, sym, ap, ◌∙◌, subst, arith}
use Rattle.io_edge.specs.Yards.{TellsOneMore, with_last}
use Rattle.std.specs.Prelude.{Err}
use Rattle.yard_stores.specs.Taken.{with_all, numbered_stores, TellsAll, Looked, AllLooked, HasTaken, TakesOne, TakesSo}
use Rattle.yard_stores.specs.declared.stores.TakeFault.{TakeFault}
use Rattle.yard_stores.specs.declared.stores.TakeFault.TheVariants.{Store, NoMemory}

-- the next is given back after those
pub tells_push : {D : Type 0} (old mid new : Option (List (ℕ × ℕ × D))) (n at : ℕ) (disks : List D) (disk : D) → at ≡ n + length disks → TellsAll old mid (numbered_stores n disks) → TellsOneMore mid new (0, at, disk)
    → TellsAll old new (numbered_stores n (disks ++ disk ∷ []))
tells_push old mid new n at [] disk is all one =
    (new, subst (λ o. TellsOneMore o new (0, n, disk)) all (subst (λ k. TellsOneMore mid new (0, k, disk)) (let e : at ≡ n = omega (arith, is) in e) one), refl)
tells_push old mid new n at (first ∷ disks) disk is (next, here, all) one = (next, here, tells_push next mid new (n + 1) at disks disk (omega (arith, is)) all one)

numbered_push : {D : Type 0} (n at : ℕ) (disks : List D) (disk : D) → at ≡ n + length disks → numbered_stores n (disks ++ disk ∷ []) ≡ numbered_stores n disks ++ (0, at, disk) ∷ []
numbered_push n at [] disk is = ap (λ k. (0, k, disk) ∷ []) (let e : n ≡ at = omega (arith, is) in e)
numbered_push n at (first ∷ disks) disk is = ap (λ l. (0, n, first) ∷ l) (numbered_push (n + 1) at disks disk (omega (arith, is)))

-- the next is handed out after those
pub out_push : {D : Type 0} (told mid new : Option (List (ℕ × ℕ × D))) (n at : ℕ) (disks : List D) (disk : D) → at ≡ n + length disks → mid ≡ with_all told (numbered_stores n disks) → new ≡ with_last mid (0, at, disk)
    → new ≡ with_all told (numbered_stores n (disks ++ disk ∷ []))
out_push None mid new n at disks disk is all one = one ∙ ap (λ m. with_last m (0, at, disk)) all
out_push (Some told) mid new n at disks disk is all one =
    one ∙ ap (λ m. with_last m (0, at, disk)) all ∙ ap Some (append_assoc told (numbered_stores n disks) ((0, at, disk) ∷ []) ∙ ap (λ l. told ++ l) (sym (numbered_push n at disks disk is)))

-- as many were taken as are kept
pub as_many : {D : Type 0} (seen : D → Option (List ℕ)) (faults : D → ℕ) (taken disks : List D) → AllLooked seen faults taken disks → length taken ≡ length disks
as_many seen faults [] [] all = refl
as_many seen faults [] (y ∷ disks) all = absurd all
as_many seen faults (x ∷ taken) [] all = absurd all
as_many seen faults (x ∷ taken) (y ∷ disks) all = let e = as_many seen faults taken disks all.1 in omega (arith, e)

pub looked_push : {D : Type 0} (seen : D → Option (List ℕ)) (faults : D → ℕ) (taken disks : List D) (x y : D) → AllLooked seen faults taken disks → Looked seen faults x y
    → AllLooked seen faults (taken ++ x ∷ []) (disks ++ y ∷ [])
looked_push seen faults [] [] x y all one = (one, tt)
looked_push seen faults [] (d ∷ disks) x y all one = absurd all
looked_push seen faults (t ∷ taken) [] x y all one = absurd all
looked_push seen faults (t ∷ taken) (d ∷ disks) x y all one = (all.0, looked_push seen faults taken disks x y all.1 one)

-- none were taken yet
pub none_taken : {D : Type 0} (seen : D → Option (List ℕ)) (faults : D → ℕ) (handed : Option (List (ℕ × ℕ × D))) (disks : List D) → disks ≡ [] → HasTaken seen faults handed handed disks
none_taken {D} seen faults handed disks none = record { taken = []; out = by handed; looked = subst (λ ds. AllLooked seen faults [] ds) (sym none) tt }
  where
    by : (h : Option (List (ℕ × ℕ × D))) → h ≡ with_all h []
    by None = refl
    by (Some h) = ap Some (sym (append-nil h))

-- one more was
pub taken_push : {D : Type 0} (seen : D → Option (List ℕ)) (faults : D → ℕ) (handed mid new : Option (List (ℕ × ℕ × D))) (disks after : List D) (node : ℕ) (x y : D) → HasTaken seen faults handed mid disks
    → length disks + 1 ≡ node → new ≡ with_last mid (0, node, x) → after ≡ disks ++ y ∷ [] → Looked seen faults x y → HasTaken seen faults handed new after
taken_push seen faults handed mid new disks after node x y was count out is one =
    let many = as_many seen faults was.taken disks was.looked in
    record {
      taken = was.taken ++ x ∷ [];
      out = out_push handed mid new 1 node was.taken x (omega (arith, count, many)) was.out out;
      looked = subst (λ ds. AllLooked seen faults (was.taken ++ x ∷ []) ds) (sym is) (looked_push seen faults was.taken disks x y was.looked one);
    }

-- the next was not, and those before it are there
pub stopped : {D : Type 0} (seen : D → Option (List ℕ)) (faults : D → ℕ) (nodes node from before now : ℕ) (handed mid new : Option (List (ℕ × ℕ × D))) (disks after : List D) (fault : TakeFault)
    → HasTaken seen faults handed mid disks → length disks + 1 ≡ node → from ≤ before → TakesOne {T = Unit {0}} seen faults node before now mid new disks after (Err fault)
    → (taken : List D) × (new ≡ with_all handed (numbered_stores 1 taken)) × TakesSo {T = Unit {0}} seen faults nodes from now taken after (Err fault)
stopped seen faults nodes node from before now handed mid new disks after (Store number) was count le one = ⊎_elim
    (λ (rose, out, is). (was.taken, out ∙ was.out, inl (omega (arith, rose, le), subst (λ ds. AllLooked seen faults was.taken ds) (sym is) was.looked, omega (arith, count, ap length is, one.0))))
    (λ (x, y, out, is, same, failed).
    let many = as_many seen faults was.taken disks was.looked in (
      was.taken ++ x ∷ [],
      out_push handed mid new 1 node was.taken x (omega (arith, count, many)) was.out out,
      inr (record {
        front = was.taken;
        looked = disks;
        last = x;
        after = y;
        taken_are = refl;
        disks_are = is;
        each = was.looked;
        number = omega (arith, count, many, one.0);
        same = same;
        failed = failed;
      }),
    ))
    one.1
stopped seen faults nodes node from before now handed mid new disks after NoMemory was count le one =
    (was.taken, one.0 ∙ was.out, subst (λ ds. AllLooked seen faults was.taken ds) (sym one.1) was.looked)
