-- The banner of a session, and the proof that names it.
use Rattle.std.specs.Prelude.{◌≡◌, ℕ, List, ⊤}
use Rattle.mail_model.specs.PopReplies.{banner_text}
use Rattle.mail_base.specs.declared.proof.Proof.{Proof}
use Rattle.mail_base.specs.declared.proof.Proof.TheVariants.{Pass, Apop}
use Rattle.pop_session.specs.declared.banner.Banner.{Banner}

abbrev pub banner_seen : Banner → List ℕ
banner_seen banner = banner_text banner.node banner.boot banner.number banner.seconds

-- a digest is that of this banner
abbrev pub HasBanner : List ℕ → Proof → Type 0
HasBanner banner (Pass octets) = ⊤
HasBanner banner (Apop other digest) = other ≡ banner
