-- 01, "Sizes of a day": "A table has 64 boxes, 16 tablets, .. and 4,096 updates at most". The proofs of this crate never open these; its examples do.
use Rattle.std.specs.Prelude.{ℕ}

unfoldable pub revision_limit : ℕ
revision_limit = 64

unfoldable pub client_limit : ℕ
client_limit = 16

unfoldable pub update_limit : ℕ
update_limit = 4096
