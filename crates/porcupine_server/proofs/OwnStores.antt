-- The program's own stores do not fail.
use Rattle.std.proofs.Common.{◌≡◌, ℕ, zero, suc, ◌+◌, true, false, List, [], ◌∷◌, length, Option, Some, All, refl, sym, ap, ◌∙◌, arith, ⊎_elim, map}
use Rattle.std.specs.Prelude.{slice_get}
use Rattle.std.proofs.lemmas.List.Elements.{All-head, All-tail}
use Rattle.std.proofs.lemmas.Option.{none-some}
use Rattle.std.specs.declared.snapshot.Snapshot.{Snapshot}
use Rattle.io_edge.specs.Causes.{Rose}
use Rattle.io_edge.specs.Yards.{remembered}
use Rattle.io_edge.specs.declared.plain_disk.PlainDisk.{PlainDisk}
use Rattle.yard_stores.specs.Taken.{numbered_stores}
use Rattle.real_yard.specs.Fresh.{IsFresh, tells_some}
use Rattle.serve_word.specs.Stores.{NodeStoreFailed, StoreFailed}

-- the octets of a disk in memory, and its count of faults
abbrev octets_of : PlainDisk → Option (List ℕ)
octets_of disk = Some disk.octets.items

abbrev none_of : PlainDisk → ℕ
none_of disk = 0

no_rise : Rose 0 0 → ⊥
no_rise rose = absurd (omega (arith, rose))

-- nothing is held where it is not told that something is
holds_none : (held : List ℕ) → tells_some (Some held) ≡ false → held ≡ []
holds_none [] none = refl
holds_none (x ∷ held) none = absurd (let never : true ≡ false = none in cc)

-- each of those that were handed out was empty
fresh_at : (handed : List (ℕ × ℕ × Snapshot PlainDisk)) (n : ℕ) (taken : List PlainDisk) → map remembered handed ≡ numbered_stores n taken → All (IsFresh octets_of) handed → (k : ℕ) (disk : PlainDisk) → slice_get taken k ≡ Some disk
    → disk.octets.items ≡ []
fresh_at handed n [] is fresh k disk at = absurd (none-some disk at)
fresh_at [] n (x ∷ taken) is fresh k disk at = absurd (omega (arith, ap length is))
fresh_at (first ∷ handed) n (x ∷ taken) is fresh zero disk at =
    let entry : ℕ × ℕ × PlainDisk = (0, n, x) in
    let whole : remembered first ∷ map remembered handed ≡ entry ∷ numbered_stores (n + 1) taken = is in
    let one : remembered first ≡ entry = cc in
    let same : x ≡ disk = cc in
    ap (λ (d : PlainDisk). d.octets.items) (sym same) ∙ ap (λ (told : ℕ × ℕ × PlainDisk). told.2.octets.items) (sym one)
    ∙ holds_none first.2.value.octets.items (All-head (IsFresh octets_of) first handed fresh)
fresh_at (first ∷ handed) n (x ∷ taken) is fresh (suc k) disk at =
    let entry : ℕ × ℕ × PlainDisk = (0, n, x) in
    let whole : remembered first ∷ map remembered handed ≡ entry ∷ numbered_stores (n + 1) taken = is in
    let others : map remembered handed ≡ numbered_stores (n + 1) taken = cc in
    fresh_at handed (n + 1) taken others (All-tail (IsFresh octets_of) first handed fresh) k disk at

none_failed : (handed : List (ℕ × ℕ × Snapshot PlainDisk)) (taken given : List PlainDisk) (node : ℕ) → map remembered handed ≡ numbered_stores 1 taken → All (IsFresh octets_of) handed → NodeStoreFailed octets_of none_of node taken given → ⊥
none_failed handed taken given zero out fresh failed = none-some failed.old failed.was
none_failed handed taken given (suc k) out fresh failed = ⊎_elim no_rise (λ held. held (fresh_at handed 1 taken out fresh k failed.old failed.was)) failed.failed

pub no_store_fault : (before handed : List (ℕ × ℕ × Snapshot PlainDisk)) (returned0 returned1 : Option (List (ℕ × ℕ × PlainDisk))) (node : ℕ) → before ≡ [] → All (IsFresh octets_of) handed
    → StoreFailed octets_of none_of (Some (map remembered before)) (Some (map remembered handed)) returned0 returned1 0 0 node → ⊥
no_store_fault (first ∷ before) handed returned0 returned1 node none fresh failed = absurd (let never : first ∷ before ≡ [] = none in cc)
no_store_fault [] handed returned0 returned1 node none fresh failed =
    let whole : Some (map remembered handed) ≡ Some (numbered_stores 1 failed.taken) = failed.are.out in
    let list : map remembered handed ≡ numbered_stores 1 failed.taken = cc in
    ⊎_elim (λ yard. no_rise yard.0) (λ one. none_failed handed failed.taken failed.given node list fresh one) failed.cause
