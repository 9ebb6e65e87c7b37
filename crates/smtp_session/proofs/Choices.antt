-- A choice under a constructor, and which way a choice went.
use Rattle.std.proofs.Common.{◌≡◌, Bool, true, false, cond, refl, ap, inl, inr}
use Rattle.std.specs.Prelude.{◌⊎◌}

pub chosen : {X : Type 0} (b : Bool) (x y z : X) → cond b x y ≡ z → ((b ≡ true) × (x ≡ z)) ⊎ ((b ≡ false) × (y ≡ z))
chosen true x y z h = inl (refl, h)
chosen false x y z h = inr (refl, h)

pub cond_under : {X Y : Type 0} (f : X → Y) (b : Bool) (x y z : X) → x ≡ cond b y z → f x ≡ cond b (f y) (f z)
cond_under f true x y z h = ap f h
cond_under f false x y z h = ap f h
